-- Operands in turn, whatever stands between them in the code.
use Rattle.std.proofs.Common.{◌≡◌, ℕ, suc, ◌≤◌, List, [], ◌∷◌, ◌++◌, length, Bool, true, refl, sym, ap, ◌∙◌, subst, append_assoc}
use Rattle.std.proofs.Common.{append-nil}
use Rattle.verse_tree.specs.Tree.{Tree, Trees, no_trees, more_trees, Holes, no_holes, more_holes, Givens, no_givens, more_givens}
use Rattle.verse_tree.specs.Tree as t
use Rattle.verse_value.specs.Val.{Val}
use Rattle.verse_meaning.specs.Programs.{holes_list, pairs_list, givens_list}
use Rattle.verse_meaning.specs.Residuals.{Env, Form, args}
use Rattle.verse_meaning.specs.Outcomes.{World, Outcome, valued}
use Rattle.verse_meaning.specs.Forms.{apply}
use Rattle.verse_meaning.specs.Evaluating.{ev, holed, paired_args, given_args}
use Rattle.verse_meaning.specs.Resuming.{operands, resume}
use Rattle.verse_meaning.specs.Runs.{deeper}
use Rattle.verse_code_machine.specs.Frames.{fits, free}
use Rattle.lower_code.specs.Pieces.{Spot, Piece, past}
use Rattle.lower_code.specs.Scopes.{Scope as Names}
use Rattle.lower_code.specs.declared.arounds.Around.{Around as Where}
use Rattle.lower_code.specs.Arounds.{up}
use Rattle.lower_code.specs.Lowering.{piece}
use Rattle.lower_simulation.proofs.Claims.{Way, Setting, Ctx, Around, at, Good, Target, on, Above}
use Rattle.lower_simulation.proofs.Going.{trans, le_self}
use Rattle.lower_simulation.proofs.Standing.{Stands}
use Rattle.lower_simulation.proofs.Leading.{LeadsTo, FormLeads, value_leads}
use Rattle.lower_simulation.proofs.Forms.{Static, on_one, stacked, EvLeads, Finish_leads, IsPlain}
use Rattle.lower_simulation_values.proofs.Tables.{Every}

module _ (z : Setting) where
  -- what stands, stands up to its own end
  pub to_end : {ok : ℕ → Bool} {size : ℕ} {out : Way} {s e : Spot} {p : Piece} → Stands z ok size out s p e →
      Stands z ok size out s p (past s p)
  to_end {ok} {size} {out} {s} {e} {p} i = subst (λ (x : Spot). Stands z ok size out s p x) (sym i.ends) i

module _ (z : Setting) (differ : ℕ → ℕ → Bool) (top : ℕ) where
  -- the operands left, and then the form
  abbrev pub in_turn : Form → List Val → List Tree → Bool → ℕ → Env → World → Outcome
  in_turn f vs [] w M e y = apply z.program (deeper z.program M) f vs w e y
  in_turn f vs (x ∷ left) w M e y = valued (ev z.program (deeper z.program M) x w e y) (λ r. args e f vs r left)
      (λ v y. in_turn f (vs ++ v ∷ []) left w M e y)

  resumed_in_turn : (left : List Tree) (f : Form) → IsPlain z differ top f → (M : ℕ) (vs : List Val) (e : Env) (y : World) →
      operands z.program (deeper z.program M) e f vs left y ≡ in_turn f vs left true M e y
  resumed_in_turn [] f pf M vs e y = pf M vs e y
  resumed_in_turn (x ∷ left) f pf M vs e y = λ i. valued (ev z.program (deeper z.program M) x true e y) (λ r. args e f vs r left)
      (λ v y. resumed_in_turn left f pf M (vs ++ v ∷ []) e y i)

  -- one operand, and what follows
  pub operand_leads : (f : Form) → IsPlain z differ top f → (x : Tree) → EvLeads z differ top x → (left : List Tree) (vs : List Val)
      (ss : Names) (a : Where) (s : Spot) (out : Way) (w : Bool) (M j n : ℕ) (c : Ctx) (o : Around) (y : World) (ls st : List Val)
      (into : Target) → Stands z (fits c.handlers) c.size out s (piece z.program differ x ss a s)
      (past s (piece z.program differ x ss a s)) → Static top c ss out a → free c.handlers c.life.noted c.below ≡ w → n ≤ top → n ≤ M →
      Above a.height st c.base → Good n c.who.path o c.held c.also c.size y.state ls →
      FormLeads z c (on (past s (piece z.program differ x ss a s)).at st) into
      (λ w M v y. in_turn f (vs ++ v ∷ []) left w M c.env y) n →
      LeadsTo z j n c o y.behind y.tasks (at c o y.state ls st s.at) into (in_turn f vs (x ∷ left) w M c.env y)
  operand_leads f pf x hx left vs ss a s out w M j n c o y ls st into i sc fw lt lM ab g k =
      value_leads z (on (past s (piece z.program differ x ss a s)).at st) into _ (λ r. args c.env f vs r left)
      (λ w M v y. in_turn f (vs ++ v ∷ []) left w M c.env y) fw lM (λ r. refl) (λ r M w. refl) (λ r M w. refl)
      (λ l r n v y i. valued (resume z.program (deeper z.program l) r n v y) (λ r. args c.env f vs r left)
      (λ v w. resumed_in_turn left f pf l (vs ++ v ∷ []) c.env w i))
      (hx ss a s _ out w M j n c o y ls st i sc fw lt lM ab g) k

  -- operands one behind the other in the code
  abbrev pub Listed : List Tree → Names → Where → (ok : ℕ → Bool) → (size : ℕ) → (out : Way) → (s e : Spot) → Type 0
  Listed [] ss a ok size out s e = s ≡ e
  Listed (x ∷ left) ss a ok size out s e =
      Stands z ok size out s (piece z.program differ x ss a s) (past s (piece z.program differ x ss a s)) ×
      Listed left ss (up a) ok size out (past s (piece z.program differ x ss a s)) e

  pub listed_leads : (left : List Tree) → Every (EvLeads z differ top) left → (f : Form) → IsPlain z differ top f →
      (ss : Names) (a : Where) (s e : Spot) (out : Way) (w : Bool) (M j n : ℕ) (c : Ctx) (o : Around) (y : World) (ls st : List Val)
      (vs : List Val) (into : Target) → Listed left ss a (fits c.handlers) c.size out s e → Static top c ss out a →
      free c.handlers c.life.noted c.below ≡ w → n ≤ top → n ≤ M → Above a.height st c.base →
      Good n c.who.path o c.held c.also c.size y.state ls →
      Finish_leads z differ top (length left) c e.at st into (λ w M ws y. apply z.program (deeper z.program M) f (vs ++ ws) w c.env y) n →
      LeadsTo z j n c o y.behind y.tasks (at c o y.state ls st s.at) into (in_turn f vs left w M c.env y)
  listed_leads [] hs f pf ss a s e out w M j n c o y ls st vs into i sc fw lt lM ab g fin =
      subst (λ (x : Spot). LeadsTo z j n c o y.behind y.tasks (at c o y.state ls st x.at) into (in_turn f vs [] w M c.env y)) (sym i)
      (subst (λ x. LeadsTo z j n c o y.behind y.tasks (at c o y.state ls st e.at) into (in_turn f x [] w M c.env y)) (append-nil vs)
      (fin [] refl w M j n fw le_self lM o y ls g))
  listed_leads (x ∷ left) hs f pf ss a s e out w M j n c o y ls st vs into i sc fw lt lM ab g fin =
      operand_leads f pf x hs.0 left vs ss a s out w M j n c o y ls st into i.0 sc fw lt lM ab g (λ w M j m fw le lM o v y ls g.
      listed_leads left hs.1 f pf ss (up a) _ e out w M j m c o y ls (v ∷ st) (vs ++ v ∷ []) into i.1 (on_one sc) fw (trans le lt) lM ab g
      (λ ws q w M i q' fw lq lM o y ls g. subst (λ u. LeadsTo z i q' c o y.behind y.tasks
      (at c o y.state ls (stacked ws (v ∷ st)) e.at) into (apply z.program (deeper z.program M) f u w c.env y))
      (sym (append_assoc vs (v ∷ []) ws)) (fin (v ∷ ws) (ap suc q) w M i q' fw (trans lq le) lM o y ls g)))

  -- ---- the lists of operands of the tree

  pub holes_in_turn : (hs : Holes) (f : Form) (vs : List Val) (w : Bool) (M : ℕ) (e : Env) (y : World) →
      holed z.program (deeper z.program M) hs f vs w e y ≡ in_turn f vs (holes_list hs) w M e y
  holes_in_turn no_holes f vs w M e y = refl
  holes_in_turn (more_holes x bs hs) f vs w M e y = λ i. valued (ev z.program (deeper z.program M) x w e y)
      (λ r. args e f vs r (holes_list hs)) (λ v y. holes_in_turn hs f (vs ++ v ∷ []) w M e y i)

  pub givens_in_turn : (gs : Givens) (f : Form) (vs : List Val) (w : Bool) (M : ℕ) (e : Env) (y : World) →
      given_args z.program (deeper z.program M) gs f vs w e y ≡ in_turn f vs (givens_list gs) w M e y
  givens_in_turn no_givens f vs w M e y = refl
  givens_in_turn (more_givens x a gs) f vs w M e y = λ i. valued (ev z.program (deeper z.program M) a w e y)
      (λ r. args e f vs r (givens_list gs)) (λ v y. givens_in_turn gs f (vs ++ v ∷ []) w M e y i)

  pub pairs_in_turn : (ps : t.Pairs) (f : Form) (vs : List Val) (w : Bool) (M : ℕ) (e : Env) (y : World) →
      paired_args z.program (deeper z.program M) ps f vs w e y ≡ in_turn f vs (pairs_list ps) w M e y
  pairs_in_turn t.Pairs.no_pairs f vs w M e y = refl
  pairs_in_turn (t.Pairs.more_pairs a b ps) f vs w M e y = λ i. valued (ev z.program (deeper z.program M) a w e y)
      (λ r. args e f vs r (b ∷ pairs_list ps)) (λ v y. valued (ev z.program (deeper z.program M) b w e y)
      (λ r. args e f (vs ++ v ∷ []) r (pairs_list ps)) (λ u y. (ap (λ x. paired_args z.program (deeper z.program M) ps f x w e y)
      (sym (append_assoc vs (v ∷ []) (u ∷ []))) ∙ pairs_in_turn ps f ((vs ++ v ∷ []) ++ u ∷ []) w M e y) i))
