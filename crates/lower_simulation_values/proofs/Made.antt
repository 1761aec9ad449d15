-- Maps and events.
use Rattle.std.proofs.Common.{◌≡◌, ℕ, suc, ◌+◌, List, [], ◌∷◌, length, Bool, true, refl, ap, ◌∙◌, arith}
use Rattle.verse_base.specs.declared.places.Place.{Place}
use Rattle.verse_tree.specs.Tree.{Tree, tree, Written}
use Rattle.verse_tree.specs.Tree as t
use Rattle.verse_value.specs.Val.{Val}
use Rattle.verse_value.specs.Store.{Store}
use Rattle.verse_value.specs.Answer.{Answer, gives, fails, error, stuck}
use Rattle.verse_value.specs.Operations.{map_of}
use Rattle.verse_meaning_state.specs.State.{State}
use Rattle.verse_meaning_state.specs.Effects.{still, added, event_made}
use Rattle.verse_meaning.specs.Programs.{pairs_list}
use Rattle.verse_meaning.specs.Residuals as form
use Rattle.verse_meaning.specs.Outcomes.{told}
use Rattle.verse_meaning.specs.Forms as mf
use Rattle.verse_code_machine.specs.Acts.{paired}
use Rattle.verse_code_machine.specs.Frames.{fits}
use Rattle.lower_code.specs.Applied.{finish}
use Rattle.lower_code.specs.Pieces.{Spot, ◌then◌}
use Rattle.lower_code.specs.Scopes.{Scope as Names}
use Rattle.lower_code.specs.declared.arounds.Around.{Around as Where}
use Rattle.lower_code.specs.Arounds.{up}
use Rattle.lower_code.specs.Lowering as low
use Rattle.lower_code.specs.Lowering.{piece, pairs_in}
use Rattle.lower_simulation.proofs.Claims.{Way, Setting, on}
use Rattle.lower_simulation.proofs.Standing.{Stands, then_stand}
use Rattle.lower_simulation.proofs.Leading.{Calmly, is_leads, told_leads, still_calm}
use Rattle.lower_simulation.proofs.Forms.{op_leads, EvLeads}
use Rattle.lower_simulation_values.proofs.Operators.{many_leads}
use Rattle.lower_simulation_values.proofs.Tables.{Every}
use Rattle.lower_simulation_values.proofs.Operands.{Listed, listed_leads, pairs_in_turn}

-- keys and values in turn, as both sides have them
same_pairs : (vs : List Val) → mf.paired vs ≡ paired vs
same_pairs [] = refl
same_pairs (k ∷ []) = refl
same_pairs (k ∷ (v ∷ vs)) = λ i. (k, v) ∷ same_pairs vs i

pairs_many : (ps : t.Pairs) → length (pairs_list ps) ≡ pairs_in ps + pairs_in ps
pairs_many t.Pairs.no_pairs = refl
pairs_many (t.Pairs.more_pairs a b ps) = let h = pairs_many ps in let n : ℕ = length (pairs_list ps) in let m : ℕ = pairs_in ps in
    twice n m h
  where
    twice : (n m : ℕ) → n ≡ m + m → suc (suc n) ≡ suc m + suc m
    twice n m h = omega (arith, h)

module _ (z : Setting) where
  -- a new cell does not change the clock
  pub added_calm : (a : Answer Store) (v : Val) (s : State) → Calmly z (added a v s) s
  added_calm (gives x) v s = refl
  added_calm fails v s = tt
  added_calm (error k) v s = tt
  added_calm stuck v s = tt

module _ (z : Setting) (differ : ℕ → ℕ → Bool) (top : ℕ) where
  abbrev pub Pairs_lead : t.Pairs → Type 0
  Pairs_lead t.Pairs.no_pairs = Unit {0}
  Pairs_lead (t.Pairs.more_pairs a b ps) = EvLeads z differ top a × EvLeads z differ top b × Pairs_lead ps

  each_leads : (ps : t.Pairs) → Pairs_lead ps → Every (EvLeads z differ top) (pairs_list ps)
  each_leads t.Pairs.no_pairs h = tt
  each_leads (t.Pairs.more_pairs a b ps) h = (h.0, (h.1, each_leads ps h.2))

  pairs_stand : (ps : t.Pairs) (ss : Names) (a : Where) (ok : ℕ → Bool) (size : ℕ) (out : Way) (s e : Spot) →
      Stands z ok size out s (low.paired_args z.program differ ps ss a s) e → Listed z differ top (pairs_list ps) ss a ok size out s e
  pairs_stand t.Pairs.no_pairs ss a ok size out s e i = i.ends
  pairs_stand (t.Pairs.more_pairs x u ps) ss a ok size out s e i =
      let rest = low.paired_args z.program differ ps ss (up (up a)) in
      let r = then_stand z s e (piece z.program differ x ss a) (piece z.program differ u ss (up a) then rest) i in
      let r2 = then_stand z _ e (piece z.program differ u ss (up a)) rest r.1 in
      (r.0, (r2.0, pairs_stand ps ss (up (up a)) ok size out _ e r2.1))

  pub mapping_leads : (n : ℕ) (pl : Place) (ps : t.Pairs) → Pairs_lead ps → EvLeads z differ top (tree n pl (t.Shape.mapping ps))
  mapping_leads n pl ps hs ss a s e out w M j m c o y ls st i sc fw lt lM ab g =
      let r = then_stand z s e (low.paired_args z.program differ ps ss a) (finish (form.making_map pl) (pairs_in ps) true) i in
      is_leads z (pairs_in_turn z differ top ps (form.making_map pl) [] w M c.env y)
      (listed_leads z differ top (pairs_list ps) (each_leads ps hs) (form.making_map pl)
      (λ l vs e w. refl) ss a s _ out w M j m c o y ls st []
      (on e.at st) (pairs_stand ps ss a (fits c.handlers) c.size out s _ r.0) sc fw lt lM ab g
      (λ ws q w M i m fw le lM o y ls g. is_leads z (ap (λ u. told (still (map_of u) y.state) pl c.env y) (same_pairs ws))
      (op_leads z r.1 (λ k. many_leads z _ _ (q ∙ pairs_many ps)
      (told_leads z (still (map_of (paired ws)) y.state) pl c.env r.1.places.0 k.fit (still_calm z (map_of (paired ws)) y.state) g)))))

  event_code : (n : ℕ) (pl : Place) → EvLeads z differ top (tree n pl t.Shape.bare_event)
  event_code n pl ss a s e out w M j m c o y ls st i sc fw lt lM ab g =
      op_leads z i (λ k. told_leads z (event_made y.state) pl c.env i.places.0 k.fit (added_calm z _ _ y.state) g)

  pub bare_event_leads : (n : ℕ) (pl : Place) → EvLeads z differ top (tree n pl t.Shape.bare_event)
  bare_event_leads n pl = event_code n pl

  pub event_leads : (n : ℕ) (pl : Place) (ty : Written) → EvLeads z differ top (tree n pl (t.Shape.event ty))
  event_leads n pl ty = event_code n pl
