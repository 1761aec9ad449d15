-- Instances: the values that are given go into locals, then each field is read there or is its default.
use Rattle.std.proofs.Common.{◌≡◌, ℕ, suc, ◌≤◌, ◌<◌, List, [], ◌∷◌, ◌++◌, length, Option, Some, None, Bool, true, false, cond, refl, sym}
use Rattle.std.proofs.Common.{ap, ◌∙◌}
use Rattle.std.proofs.Common.{subst, arith, append_assoc, append-nil}
use Rattle.verse_base.specs.declared.places.Place.{Place}
use Rattle.verse_tree.specs.Tree.{Bytes, Tree, tree, Givens, no_givens, more_givens}
use Rattle.verse_tree.specs.Tree as t
use Rattle.verse_tree.specs.ItemTree.{FieldTree}
use Rattle.verse_tree.specs.declared.tables.Ref.{Ref}
use Rattle.verse_tree.specs.declared.tables.Ref.TheVariants as ref
use Rattle.verse_code.specs.declared.operations.Op.TheVariants as op
use Rattle.verse_value.specs.Val.{Val}
use Rattle.verse_meaning_state.specs.Waits.{nth}
use Rattle.verse_meaning_state.specs.Effects.{object_made}
use Rattle.verse_meaning.specs.Programs.{same_name, ref_at, fields_of, givens_list, given_names}
use Rattle.verse_meaning.specs.Residuals as form
use Rattle.verse_meaning.specs.Residuals.{Env, Form}
use Rattle.verse_meaning.specs.Outcomes.{World, Outcome, told, if_known}
use Rattle.verse_meaning.specs.Forms.{apply, given_at, field_filled, filled}
use Rattle.verse_meaning.specs.Evaluating.{given_args, class_ref}
use Rattle.verse_meaning.specs.Runs.{deeper}
use Rattle.verse_code_machine.specs.Frames.{fits, free}
use Rattle.lower_code.specs.Pieces.{Spot, Maker, past, placed, put_away, ◌then◌}
use Rattle.lower_code.specs.Scopes.{hidden, Scope as Names}
use Rattle.lower_code.specs.declared.arounds.Around.{Around as Where}
use Rattle.lower_code.specs.Lowering as low
use Rattle.lower_code.specs.Lowering.{piece, given_local, field_op, field_ops, instance_of}
use Rattle.lower_simulation.proofs.Claims.{Way, Setting, Ctx, Around, at, Good, on, Target, Above, Locals, Holds}
use Rattle.lower_simulation.proofs.Going.{trans, le_self}
use Rattle.lower_simulation.proofs.Locals.{puts, low_more}
use Rattle.lower_simulation.proofs.Standing.{Stands, then_stand, put_stand, op_stands}
use Rattle.lower_simulation.proofs.Leading.{LeadsTo, value_leads, does_leads, open_leads, there_leads, is_leads, told_leads}
use Rattle.lower_simulation.proofs.Widening.{holding_leads}
use Rattle.lower_simulation.proofs.Forms.{Static, stacked, start_leads, op_leads, EvLeads, IsPlain}
use Rattle.lower_simulation_values.proofs.Operators.{many_leads}
use Rattle.lower_simulation_values.proofs.Names.{stuck_leads}
use Rattle.lower_simulation_values.proofs.Tables.{Every, Is_class, Tables, Default_there, Default_leads, DefaultsLead}
use Rattle.lower_simulation_values.proofs.Operands.{in_turn, operand_leads, givens_in_turn}
use Rattle.lower_simulation_values.proofs.Applied.{Leads}
use Rattle.lower_simulation_values.proofs.Made.{added_calm}
use Rattle.lower_simulation_values.proofs.Writes.{good_put}

-- values in locals from l on, above others
abbrev pub stored_from : ℕ → List Val → Locals → Locals
stored_from l [] ks = ks
stored_from l (v ∷ vs) ks = stored_from (suc l) vs ((l, v) ∷ ks)

-- a context in which these stay
abbrev pub giving : Ctx → ℕ → List Val → Ctx
giving c l vs = record c { also = stored_from l vs c.also }

stored_less : (l : ℕ) (vs : List Val) (ks : Locals) (ls : List Val) → Holds (stored_from l vs ks) ls → Holds ks ls
stored_less l [] ks ls h = h
stored_less l (v ∷ vs) ks ls h = (stored_less (suc l) vs ((l, v) ∷ ks) ls h).1

-- a name is given on both sides, or on none
abbrev Given_as : Option ℕ → Option Val → List Val → Type 0
Given_as None None ls = Unit {0}
Given_as None (Some v) ls = ⊥
Given_as (Some k) None ls = ⊥
Given_as (Some k) (Some v) ls = nth ls k ≡ Some v

given_found : (x : Bytes) (gs : Givens) (l : ℕ) (vs : List Val) (ks : Locals) (ls : List Val) → length vs ≡ length (givens_list gs) →
    Holds (stored_from l vs ks) ls → Given_as (given_local x gs l) (given_at x (given_names gs) vs) ls
given_found x no_givens l vs ks ls q h = tt
given_found x (more_givens y b gs) l [] ks ls q h = absurd (omega (arith, q))
given_found x (more_givens y b gs) l (v ∷ vs) ks ls q h = by (same_name x y)
    (given_found x gs (suc l) vs ((l, v) ∷ ks) ls (omega (arith, q)) h)
  where
    by : (t : Bool) → Given_as (given_local x gs (suc l)) (given_at x (given_names gs) vs) ls →
        Given_as (cond t (Some l) (given_local x gs (suc l))) (cond t (Some v) (given_at x (given_names gs) vs)) ls
    by true rest = (stored_less (suc l) vs ((l, v) ∷ ks) ls h).0
    by false rest = rest

-- one more local stays, for which no name stands
hidden_static : {top : ℕ} {c : Ctx} {ss : Names} {out : Way} {a : Where} (v : Val) → Static top c ss out a →
    Static top (giving c (length ss) (v ∷ [])) (hidden ∷ ss) out a
hidden_static {c = c} {ss} v h = record {
  fits = h.fits;
  low = low_more (length ss) (suc (length ss)) c.held (omega arith) h.low;
  low_also = (le_self, low_more (length ss) (suc (length ss)) c.also (omega arith) h.low_also);
  loops = h.loops;
  leaves = h.leaves;
  breaks = h.breaks;
  returns = h.returns;
  defers = h.defers;
  noted = h.noted;
  born = h.born;
}

module _ (z : Setting) (differ : ℕ → ℕ → Bool) (top : ℕ) where
  abbrev pub Givens_lead : Givens → Type 0
  Givens_lead no_givens = Unit {0}
  Givens_lead (more_givens x b gs) = EvLeads z differ top b × Givens_lead gs

  given_leads : (gs : Givens) → Givens_lead gs → (f : Form) → IsPlain z differ top f → (ss : Names) (a : Where) (s e : Spot) (out : Way)
      (w : Bool) (M j n : ℕ) (c : Ctx) (o : Around) (y : World) (ls st : List Val) (vs : List Val) (into : Target) →
      Stands z (fits c.handlers) c.size out s (low.given_args z.program differ gs ss a s) e → Static top c ss out a →
      free c.handlers c.life.noted c.below ≡ w → n ≤ top → n ≤ M → Above a.height st c.base →
      Good n c.who.path o c.held c.also c.size y.state ls →
      ((ws : List Val) → length ws ≡ length (givens_list gs) → (w : Bool) (M i m : ℕ) →
      free c.handlers c.life.noted c.below ≡ w → m ≤ n → m ≤ M → (o : Around) (y : World) (ls : List Val) →
      Good m c.who.path o c.held (stored_from (length ss) ws c.also) c.size y.state ls →
      LeadsTo z i m (giving c (length ss) ws) o y.behind y.tasks (at c o y.state ls st e.at) into
      (apply z.program (deeper z.program M) f (vs ++ ws) w c.env y)) →
      LeadsTo z j n c o y.behind y.tasks (at c o y.state ls st s.at) into (in_turn z differ top f vs (givens_list gs) w M c.env y)
  given_leads no_givens hs f pf ss a s e out w M j n c o y ls st vs into i sc fw lt lM ab g fin = start_leads z i.ends
      (subst (λ x. LeadsTo z j n c o y.behind y.tasks (at c o y.state ls st e.at) into
      (apply z.program (deeper z.program M) f x w c.env y)) (append-nil vs) (fin [] refl w M j n fw le_self lM o y ls g))
  given_leads (more_givens x b gs) hs f pf ss a s e out w M j n c o y ls st vs into i sc fw lt lM ab g fin =
      let l : ℕ = length ss in
      let rest : Maker = low.given_args z.program differ gs (hidden ∷ ss) a in
      let r = then_stand z s e (piece z.program differ b ss a) (put_away l then rest) i in
      let m : Spot = past s (piece z.program differ b ss a s) in
      let r2 = then_stand z m e (put_away l) rest r.1 in
      let p = put_stand z l r2.0 in
      operand_leads z differ top f pf b hs.0 (givens_list gs) vs ss a s out w M j n c o y ls st into r.0 sc fw lt lM ab g
      (λ w M j k fw le lM o v y ls g.
      let q = puts ls l v (subst (λ n. l < n) (sym g.sized) p.1) in
      let gd = good_put sc q g in
      does_leads z p.0.is (there_leads z y.state _ q.is (open_leads z y.state p.0.fit
      (holding_leads z c c.env [] ((l, v) ∷ []) (in_turn z differ top f (vs ++ v ∷ []) (givens_list gs) w M c.env y)
      (given_leads gs hs.1 f pf (hidden ∷ ss) a (past m (put_away l m)) e out w M j k (giving c l (v ∷ [])) o y q.locals st
      (vs ++ v ∷ []) into
      r2.1 (hidden_static v sc) fw (trans le lt) lM ab
      (record { holds = gd.holds; besides = (q.here, gd.besides); sized = gd.sized; fine = gd.fine })
      (λ ws q1 w M i k2 fw lq lM o y ls g. subst (λ u. LeadsTo z i k2 (giving c l (v ∷ ws)) o y.behind y.tasks
      (at c o y.state ls st e.at) into
      (apply z.program (deeper z.program M) f u w c.env y)) (sym (append_assoc vs (v ∷ []) ws))
      (fin (v ∷ ws) (ap suc q1) w M i k2 fw (trans lq le) lM o y ls g)))))))

  -- ---- the fields

  -- the names and values that are given, in locals from l on, with those of the context below
  module _ (class : ℕ) (pl : Place) (gs : Givens) (vs : List Val) (l : ℕ) (ks : Locals) (given : length vs ≡ length (givens_list gs)) where
    abbrev Filled : List FieldTree → List Val → Bool → ℕ → Env → World → Outcome
    Filled fs slots w M e y = filled z.program (deeper z.program M) fs (given_names gs) vs class slots pl w e y

    -- one field, and what follows
    field_leads : (f : FieldTree) → Default_there z f → Default_leads z top f → (fs : List FieldTree) (slots : List Val) (c : Ctx)
        (ls0 : List Val)
        (p : Option ℕ) (u : Option Val) → Given_as p u ls0 → (out : Way) (s e : Spot) (w : Bool) (M j n : ℕ) (o : Around) (y : World)
        (st : List Val) (into : Target) → Stands z (fits c.handlers) c.size out s (field_op z.program differ p f.default f.number s) e →
        free c.handlers c.life.noted c.below ≡ w → n ≤ top → n ≤ M → Good n c.who.path o c.held c.also c.size y.state ls0 →
        ((v : Val) (w : Bool) (M i m : ℕ) → free c.handlers c.life.noted c.below ≡ w → m ≤ n → m ≤ M → (o : Around) (y : World)
        (ls : List Val) → Good m c.who.path o c.held c.also c.size y.state ls →
        LeadsTo z i m c o y.behind y.tasks (at c o y.state ls (v ∷ st) e.at) into (Filled fs (slots ++ v ∷ []) w M c.env y)) →
        LeadsTo z j n c o y.behind y.tasks (at c o y.state ls0 st s.at) into
        (field_filled z.program (deeper z.program M) u f.default w c.env y
        (form.filling c.env class pl fs (given_names gs) vs slots) (λ v y. Filled fs (slots ++ v ∷ []) w M c.env y))
    field_leads f th cl fs slots c ls0 (Some k) (Some v) h out s e w M j n o y st into i fw lt lM g fin =
        does_leads z (op_stands z i).is (there_leads z y.state _ h (open_leads z y.state (op_stands z i).fit
        (start_leads z i.ends (fin v w M j n fw le_self lM o y ls0 g))))
    field_leads f th cl fs slots c ls0 None None h out s e w M j n o y st into i fw lt lM g fin = by f.default refl i
      where
        by : (d : Option Tree) → f.default ≡ d → Stands z (fits c.handlers) c.size out s (field_op z.program differ None d f.number s) e →
            LeadsTo z j n c o y.behind y.tasks (at c o y.state ls0 st s.at) into
            (field_filled z.program (deeper z.program M) None d w c.env y
            (form.filling c.env class pl fs (given_names gs) vs slots) (λ v y. Filled fs (slots ++ v ∷ []) w M c.env y))
        by None h x = stuck_leads z x
        by (Some d) h x =
            let q = th d h in
            value_leads z (on (suc s.at) st) into _ (form.filling c.env class pl fs (given_names gs) vs slots)
            (λ w M v y. Filled fs (slots ++ v ∷ []) w M c.env y) fw lM (λ r. refl) (λ r M w. refl) (λ r M w. refl) (λ l r n v y. refl)
            (does_leads z (op_stands z x).is (there_leads z y.state _ q.is (many_leads z {ws = []} y.state _ (sym q.many)
            (open_leads z y.state (op_stands z x).fit
            (cl d q.func h q.is w M j n c o y ls0 st (suc s.at) fw lt lM (op_stands z x).fit g)))))
            (λ w M i m fw le lM o v y ls g. start_leads z x.ends (fin v w M i m fw le lM o y ls g))
    field_leads f th cl fs slots c ls0 None (Some v) h out s e w M j n o y st into i fw lt lM g fin = absurd h
    field_leads f th cl fs slots c ls0 (Some k) None h out s e w M j n o y st into i fw lt lM g fin = absurd h

    fields_lead : (fs : List FieldTree) → Every (Default_there z) fs → Every (Default_leads z top) fs → (slots : List Val) (c : Ctx) →
        c.also ≡ stored_from l vs ks → (out : Way) (s e : Spot) (w : Bool) (M j n : ℕ) (o : Around) (y : World) (ls st : List Val)
        (into : Target) → Stands z (fits c.handlers) c.size out s (field_ops z.program differ fs gs l s) e →
        free c.handlers c.life.noted c.below ≡ w → n ≤ top → n ≤ M → Good n c.who.path o c.held c.also c.size y.state ls →
        ((us : List Val) → length us ≡ length fs → (w : Bool) (M i m : ℕ) → free c.handlers c.life.noted c.below ≡ w → m ≤ n → m ≤ M →
        (o : Around) (y : World) (ls : List Val) → Good m c.who.path o c.held c.also c.size y.state ls →
        LeadsTo z i m c o y.behind y.tasks (at c o y.state ls (stacked us st) e.at) into
        (told (object_made class (slots ++ us) y.state) pl c.env y)) →
        LeadsTo z j n c o y.behind y.tasks (at c o y.state ls st s.at) into (Filled fs slots w M c.env y)
    fields_lead [] th cl slots c ec out s e w M j n o y ls st into i fw lt lM g fin = start_leads z i.ends
        (subst (λ x. LeadsTo z j n c o y.behind y.tasks (at c o y.state ls st e.at) into (told (object_made class x y.state) pl c.env y))
        (append-nil slots) (fin [] refl w M j n fw le_self lM o y ls g))
    fields_lead (f ∷ fs) th cl slots c ec out s e w M j n o y ls st into i fw lt lM g fin =
        let first : Maker = field_op z.program differ (given_local f.name gs l) f.default f.number in
        let r = then_stand z s e first (field_ops z.program differ fs gs l) i in
        field_leads f th.0 cl.0 fs slots c ls (given_local f.name gs l) (given_at f.name (given_names gs) vs)
        (given_found f.name gs l vs ks ls given (subst (λ x. Holds x ls) ec g.besides)) out s
        (past s (first s)) w M j n o y st into r.0 fw lt lM g
        (λ v w M i m fw le lM o y ls g. fields_lead fs th.1 cl.1 (slots ++ v ∷ []) c ec out _ e w M i m o y ls (v ∷ st) into r.1 fw
        (trans le lt) lM g (λ us q w M i k fw lq lM o y ls g. subst (λ x. LeadsTo z i k c o y.behind y.tasks
        (at c o y.state ls (stacked us (v ∷ st)) e.at) into (told (object_made class x y.state) pl c.env y))
        (sym (append_assoc slots (v ∷ []) us)) (fin (v ∷ us) (ap suc q) w M i k fw (trans lq le) lM o y ls g)))

  -- ---- the form

  class_leads : Tables z → DefaultsLead z top → (class : ℕ) → Is_class z class → (pl : Place) (gs : Givens) → Givens_lead gs →
      Leads z differ top
      (λ ss a. low.given_args z.program differ gs ss a then
      field_ops z.program differ (fields_of z.program class) gs (length ss) then placed pl (op.Object class))
      (λ w M e y. given_args z.program (deeper z.program M) gs (form.instancing class (given_names gs) pl) [] w e y)
  class_leads tables defaults class is pl gs hs ss a s e out w M j n c o y ls st i sc fw lt lM ab g =
      let l : ℕ = length ss in
      let fs : List FieldTree = fields_of z.program class in
      let f = form.instancing class (given_names gs) pl in
      let fields : Maker = field_ops z.program differ fs gs l in
      let makes : Maker = placed pl (op.Object class) in
      let r = then_stand z s e (low.given_args z.program differ gs ss a) (fields then makes) i in
      let m : Spot = past s (low.given_args z.program differ gs ss a s) in
      let r2 = then_stand z m e fields makes r.1 in
      let k = tables.instances class is in
      is_leads z (givens_in_turn z differ top gs f [] w M c.env y)
      (given_leads gs hs f (λ l vs e w. refl) ss a s m out w M j n c o y ls st [] (on e.at st) r.0 sc fw lt lM ab g
      (λ ws q w M i n1 fw le lM o y ls g. fields_lead class pl gs ws l c.also q fs (tables.defaults class is) (defaults class is) []
      (giving c l ws) refl out m (past m (fields m)) w M i n1 o y ls st (on e.at st) r2.0 fw (trans le lt) lM g
      (λ us q1 w M i n2 fw lq lM o y ls g. op_leads z r2.1 (λ x. there_leads z y.state _ k.is
      (many_leads z y.state _ (q1 ∙ sym k.many)
      (told_leads z (object_made class us y.state) pl c.env r2.1.places.0 x.fit (added_calm z _ _ y.state) g))))))

  pub instance_leads : Tables z → DefaultsLead z top → (n : ℕ) (pl : Place) (x : Bytes) (gs : Givens) → Givens_lead gs →
      EvLeads z differ top (tree n pl (t.Shape.instance x gs))
  unfolding if_known instance_of
  instance_leads tables defaults n pl x gs hs = by (ref_at z.program n) refl
    where
      by : (r : Option Ref) → ref_at z.program n ≡ r → Leads z differ top
          (λ ss a. instance_of z.program differ (class_ref z.program r) pl gs (length ss) (low.given_args z.program differ gs ss a))
          (λ w M e y. if_known (class_ref z.program r) y
          (λ c. given_args z.program (deeper z.program M) gs (form.instancing c (given_names gs) pl) [] w e y))
      by (Some (ref.Class c)) h = class_leads tables defaults c (n, h) pl gs hs
      by r h = λ ss a s e out w M j n c o y ls st i sc fw lt lM ab g. stuck_leads z i
