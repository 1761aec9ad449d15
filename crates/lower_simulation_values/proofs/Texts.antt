-- Texts with holes.
use Rattle.std.proofs.Common.{◌≡◌, ℕ, suc, ◌≤◌, List, [], ◌∷◌, ◌++◌, length, Bool, true, false, refl, sym, ap, subst, arith, append_assoc}
use Rattle.std.proofs.Common.{append-nil}
use Rattle.verse_base.specs.declared.places.Place.{Place}
use Rattle.verse_tree.specs.Tree.{Bytes, Tree, tree, Holes, no_holes, more_holes}
use Rattle.verse_tree.specs.Tree as t
use Rattle.verse_value.specs.Val.{Val}
use Rattle.verse_value.specs.Operations.{join_of}
use Rattle.verse_meaning_state.specs.Effects.{still}
use Rattle.verse_meaning.specs.Programs.{holes_list, pieces}
use Rattle.verse_meaning.specs.Residuals as form
use Rattle.verse_meaning.specs.Residuals.{Form}
use Rattle.verse_meaning.specs.Outcomes.{World, Outcome, told}
use Rattle.verse_meaning.specs.Forms.{apply, woven, before_text}
use Rattle.verse_meaning.specs.Runs.{deeper}
use Rattle.verse_code_machine.specs.Frames.{fits, free}
use Rattle.lower_code.specs.Applied.{finish}
use Rattle.lower_code.specs.Pieces.{Spot, Maker, past, nothing, texted, ◌then◌}
use Rattle.lower_code.specs.Scopes.{Scope as Names}
use Rattle.lower_code.specs.declared.arounds.Around.{Around as Where}
use Rattle.lower_code.specs.Arounds.{raised}
use Rattle.lower_code.specs.Lowering as low
use Rattle.lower_code.specs.Lowering.{piece, text_if, is_text, one_if, joined_parts}
use Rattle.lower_simulation.proofs.Claims.{Way, Setting, Ctx, Around, at, Good, on, Target, Above}
use Rattle.lower_simulation.proofs.Going.{trans, le_self}
use Rattle.lower_simulation.proofs.Standing.{Stands, then_stand, texted_stand}
use Rattle.lower_simulation.proofs.Leading.{LeadsTo, does_leads, open_leads, there_leads, is_leads, told_leads, still_calm}
use Rattle.lower_simulation.proofs.Forms.{Static, on_one, stacked, start_leads, op_leads, EvLeads, IsPlain}
use Rattle.lower_simulation_values.proofs.Operators.{many_leads}
use Rattle.lower_simulation_values.proofs.Operands.{in_turn, operand_leads, holes_in_turn}

-- what lies behind the first piece: the values, each with the piece behind it
abbrev beyond : Holes → List Val → List Val
beyond no_holes ws = []
beyond (more_holes x bs hs) [] = []
beyond (more_holes x bs hs) (w ∷ ws) = w ∷ before_text bs (beyond hs ws)

woven_is : (bs : Bytes) (hs : Holes) (ws : List Val) → length ws ≡ length (holes_list hs) →
    woven (bs ∷ pieces hs) ws ≡ before_text bs (beyond hs ws)
woven_is bs no_holes [] q = refl
woven_is bs no_holes (w ∷ ws) q = absurd (omega (arith, q))
woven_is bs (more_holes x b hs) [] q = absurd (omega (arith, q))
woven_is bs (more_holes x b hs) (w ∷ ws) q = ap (λ u. before_text bs (w ∷ u)) (woven_is b hs ws (omega (arith, q)))

text_many : (bs : Bytes) (us : List Val) (n : ℕ) → length us ≡ n → length (before_text bs us) ≡ one_if (is_text bs) n
text_many [] us n q = q
text_many (b ∷ bs) us n q = ap suc q

beyond_many : (hs : Holes) (ws : List Val) → length ws ≡ length (holes_list hs) → length (beyond hs ws) ≡ joined_parts hs
beyond_many no_holes ws q = refl
beyond_many (more_holes x b hs) [] q = absurd (omega (arith, q))
beyond_many (more_holes x b hs) (w ∷ ws) q =
    ap suc (text_many b (beyond hs ws) (joined_parts hs) (beyond_many hs ws (omega (arith, q))))

text_beneath : (bs : Bytes) (us st : List Val) → stacked us (stacked (before_text bs []) st) ≡ stacked (before_text bs us) st
text_beneath [] us st = refl
text_beneath (b ∷ bs) us st = refl

-- a piece of the text lies on the operands, or not
text_static : {top : ℕ} {c : Ctx} {ss : Names} {out : Way} {a : Where} (b : Bool) → Static top c ss out a →
    Static top c ss out (raised (one_if b 0) a)
text_static true h = on_one h
text_static false h = h

text_static_on : {top : ℕ} {c : Ctx} {ss : Names} {out : Way} {a : Where} (b : Bool) → Static top c ss out a →
    Static top c ss out (raised (suc (one_if b 0)) a)
text_static_on true h = on_one (on_one h)
text_static_on false h = on_one h

text_above : (bs : Bytes) (a : Where) (st base : List Val) → Above a.height st base →
    Above (raised (one_if (is_text bs) 0) a).height (stacked (before_text bs []) st) base
text_above [] a st base h = h
text_above (b ∷ bs) a st base h = h

text_above_on : (bs : Bytes) (a : Where) (v : Val) (st base : List Val) → Above a.height st base →
    Above (raised (suc (one_if (is_text bs) 0)) a).height (stacked (before_text bs []) (v ∷ st)) base
text_above_on [] a v st base h = h
text_above_on (b ∷ bs) a v st base h = h

module _ (z : Setting) (differ : ℕ → ℕ → Bool) (top : ℕ) where
  abbrev pub Holes_lead : Holes → Type 0
  Holes_lead no_holes = Unit {0}
  Holes_lead (more_holes x bs hs) = EvLeads z differ top x × Holes_lead hs

  piece_leads : {j n : ℕ} {c : Ctx} {o : Around} {y : World} {ls st : List Val} {out : Way} {into : Target} {x : Outcome} (bs : Bytes)
      (s e : Spot) (f : Maker) → Stands z (fits c.handlers) c.size out s ((text_if bs then f) s) e →
      ((s1 : Spot) → Stands z (fits c.handlers) c.size out s1 (f s1) e →
      LeadsTo z j n c o y.behind y.tasks (at c o y.state ls (stacked (before_text bs []) st) s1.at) into x) →
      LeadsTo z j n c o y.behind y.tasks (at c o y.state ls st s.at) into x
  piece_leads [] s e f i h = h s (then_stand z s e nothing f i).1
  piece_leads {y = y} (b ∷ bs) s e f i h =
      let r = then_stand z s e (texted (b ∷ bs)) f i in
      let p = texted_stand z (b ∷ bs) r.0 in
      does_leads z p.0.is (there_leads z y.state _ p.1 (open_leads z y.state p.0.fit (h _ r.1)))

  holed_leads : (hs : Holes) → Holes_lead hs → (f : Form) → IsPlain z differ top f → (ss : Names) (a : Where) (s e : Spot) (out : Way)
      (w : Bool)
      (M j n : ℕ) (c : Ctx) (o : Around) (y : World) (ls st : List Val) (vs : List Val) (into : Target) →
      Stands z (fits c.handlers) c.size out s (low.holed z.program differ hs ss a s) e → Static top c ss out a →
      free c.handlers c.life.noted c.below ≡ w → n ≤ top → n ≤ M → Above a.height st c.base →
      Good n c.who.path o c.held c.also c.size y.state ls →
      ((ws : List Val) → length ws ≡ length (holes_list hs) → (w : Bool) (M i m : ℕ) →
      free c.handlers c.life.noted c.below ≡ w → m ≤ n → m ≤ M → (o : Around) (y : World) (ls : List Val) →
      Good m c.who.path o c.held c.also c.size y.state ls → LeadsTo z i m c o y.behind y.tasks
      (at c o y.state ls (stacked (beyond hs ws) st) e.at) into (apply z.program (deeper z.program M) f (vs ++ ws) w c.env y)) →
      LeadsTo z j n c o y.behind y.tasks (at c o y.state ls st s.at) into (in_turn z differ top f vs (holes_list hs) w M c.env y)
  holed_leads no_holes hx f pf ss a s e out w M j n c o y ls st vs into i sc fw lt lM ab g fin = start_leads z i.ends
      (subst (λ x. LeadsTo z j n c o y.behind y.tasks (at c o y.state ls st e.at) into
      (apply z.program (deeper z.program M) f x w c.env y)) (append-nil vs) (fin [] refl w M j n fw le_self lM o y ls g))
  holed_leads (more_holes x bs hs) hx f pf ss a s e out w M j n c o y ls st vs into i sc fw lt lM ab g fin =
      let rest = low.holed z.program differ hs ss (raised (suc (one_if (is_text bs) 0)) a) in
      let r = then_stand z s e (piece z.program differ x ss a) (text_if bs then rest) i in
      operand_leads z differ top f pf x hx.0 (holes_list hs) vs ss a s out w M j n c o y ls st into r.0 sc fw lt lM ab g
      (λ w M j m fw le lM o v y ls g. piece_leads bs _ e rest r.1 (λ s1 i1.
      holed_leads hs hx.1 f pf ss (raised (suc (one_if (is_text bs) 0)) a) s1 e out w M j m c o y ls
      (stacked (before_text bs []) (v ∷ st)) (vs ++ v ∷ []) into i1 (text_static_on (is_text bs) sc) fw (trans le lt) lM
      (text_above_on bs a v st c.base ab) g (λ ws q w M i q' fw lq lM o y ls g.
      subst (λ u. LeadsTo z i q' c o y.behind y.tasks (at c o y.state ls u e.at) into
      (apply z.program (deeper z.program M) f ((vs ++ v ∷ []) ++ ws) w c.env y)) (sym (text_beneath bs (beyond hs ws) (v ∷ st)))
      (subst (λ u. LeadsTo z i q' c o y.behind y.tasks (at c o y.state ls (stacked (before_text bs (beyond hs ws)) (v ∷ st)) e.at) into
      (apply z.program (deeper z.program M) f u w c.env y)) (sym (append_assoc vs (v ∷ []) ws))
      (fin (v ∷ ws) (ap suc q) w M i q' fw (trans lq le) lM o y ls g)))))

  pub holes_leads : (n : ℕ) (pl : Place) (bs : Bytes) (hs : Holes) → Holes_lead hs → EvLeads z differ top (tree n pl (t.Shape.holes bs hs))
  holes_leads n pl bs hs hx ss a s e out w M j m c o y ls st i sc fw lt lM ab g =
      let f = form.joining (bs ∷ pieces hs) pl in
      let code = low.holed z.program differ hs ss (raised (one_if (is_text bs) 0) a) in
      let joins = finish (form.joining [] pl) (one_if (is_text bs) (joined_parts hs)) true in
      is_leads z (holes_in_turn z differ top hs f [] w M c.env y) (piece_leads bs s e (code then joins) i (λ s1 i1.
      let r = then_stand z s1 e code joins i1 in
      holed_leads hs hx f (λ l vs e w. refl) ss (raised (one_if (is_text bs) 0) a) s1 _ out w M j m c o y ls
      (stacked (before_text bs []) st) [] (on e.at st) r.0 (text_static (is_text bs) sc) fw lt lM (text_above bs a st c.base ab) g
      (λ ws q w M i m fw le lM o y ls g. subst (λ u. LeadsTo z i m c o y.behind y.tasks (at c o y.state ls u (past s1 (code s1)).at)
      (on e.at st)
      (told (still (join_of (woven (bs ∷ pieces hs) ws)) y.state) pl c.env y)) (sym (text_beneath bs (beyond hs ws) st))
      (is_leads z (ap (λ u. told (still (join_of u) y.state) pl c.env y) (woven_is bs hs ws q))
      (op_leads z r.1 (λ k. many_leads z _ _ (text_many bs (beyond hs ws) (joined_parts hs) (beyond_many hs ws q))
      (told_leads z (still (join_of (before_text bs (beyond hs ws))) y.state) pl c.env r.1.places.0 k.fit
      (still_calm z (join_of (before_text bs (beyond hs ws))) y.state) g)))))))
