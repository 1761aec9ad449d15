-- `case`: the subject in a local, and the arms in turn.
use Rattle.std.proofs.Common.{◌≡◌, ℕ, suc, ◌≤◌, List, [], ◌∷◌, length, Option, Some, None, Bool, true, false, cond, refl, sym, ap, ◌∙◌}
use Rattle.std.proofs.Common.{subst, arith}
use Rattle.std.specs.Prelude.{neg_ℤ}
use Rattle.verse_base.specs.declared.places.Place.{Place}
use Rattle.verse_tree.specs.Tree.{Bytes, Tree, tree, Shape, Trees, no_trees, more_trees}
use Rattle.verse_tree.specs.Tree as t
use Rattle.verse_tree.specs.ItemTree.{EnumTree}
use Rattle.verse_code.specs.declared.operations.Op.{Op}
use Rattle.verse_code.specs.declared.operations.Op.TheVariants as op
use Rattle.verse_value.specs.Val.{Val, int, char, truth, falsity, enum}
use Rattle.verse_value.specs.Equality.{val_eq}
use Rattle.verse_value.specs.Operations.{text_val}
use Rattle.verse_meaning_state.specs.State.{State}
use Rattle.verse_meaning_state.specs.Waits.{nth}
use Rattle.verse_meaning.specs.Programs.{Program, pattern_value, named_value, value_in, enum_val}
use Rattle.verse_meaning.specs.Residuals as form
use Rattle.verse_meaning.specs.Residuals.{args, Scopes}
use Rattle.verse_meaning.specs.Outcomes.{World, Outcome}
use Rattle.verse_meaning.specs.Evaluating.{ev, chosen, arm_of, on_bool, none_left, fits_shape, is_val}
use Rattle.verse_meaning.specs.Runs.{deeper}
use Rattle.verse_code_machine.specs.Frames.{fits, free, only_where}
use Rattle.lower_simulation.proofs.Steps.{act_at}
use Rattle.lower_simulation.proofs.Forms.{machine_at, Static, start_leads, EvLeads}
use Rattle.lower_simulation.proofs.Leading.{is_leads, LeadsTo, value_leads, does_leads, open_leads, there_leads}
use Rattle.lower_code.specs.Pieces.{sure, Spot, Maker, next, past, one, texted, put_away, ahead, either, ◌then◌}
use Rattle.lower_code.specs.Scopes.{hidden, Scope as Names}
use Rattle.lower_code.specs.declared.arounds.Around.{Around as Where}
use Rattle.lower_code.specs.Lowering as low
use Rattle.lower_code.specs.Lowering.{piece, pattern_op, enum_pattern}
use Rattle.lower_simulation.proofs.Claims.{Way, Setting, Ctx, Around, at, Good, Target, on, Tasks, Above}
use Rattle.lower_simulation.proofs.Going.{trans, le_self}
use Rattle.lower_simulation.proofs.Locals.{puts, holds_put, low_more}
use Rattle.lower_simulation.proofs.Standing.{Stands, op_stands, then_stand, texted_stand, put_stand, ahead_stand, either_stand, widened}
use Rattle.lower_simulation.proofs.Standing.{past_le}
use Rattle.lower_simulation.proofs.Widening.{holding_all, holding_leads, jump_leads}
use Rattle.lower_simulation_blocks.proofs.Blocks.{stuck_leads}

-- ---- patterns

abbrev pub is_some : Option Val → Bool
is_some None = false
is_some (Some v) = true

-- whether a pattern stands for a value, or for all
abbrev pub has_value_shape : Program → Shape → Bool
has_value_shape p (t.Shape.integer_pattern n) = true
has_value_shape p (t.Shape.minus_pattern n) = true
has_value_shape p (t.Shape.character_pattern n) = true
has_value_shape p (t.Shape.text_pattern bs) = true
has_value_shape p t.Shape.truth_pattern = true
has_value_shape p t.Shape.falsehood_pattern = true
has_value_shape p t.Shape.any_pattern = true
has_value_shape p (t.Shape.enum_pattern x y) = is_some (pattern_value p x y)
has_value_shape p s = false

abbrev pub has_value : Program → Tree → Bool
has_value p (tree n pl s) = has_value_shape p s

never : {A : Type 0} → false ≡ true → A
never e = cc

-- the value of an enum's pattern
record Enum_value (o : Option Val) : Type 0 where
  number : ℕ
  variant : ℕ
  is : o ≡ Some (enum number variant)

module _ (z : Setting) where
  -- the operation of a pattern pushes the value that it fits
  record Worth (s : Shape) : Type 0 where
    value : Val
    same : (v : Val) → fits_shape z.program s v ≡ val_eq value v
    push : {j n size : ℕ} {c : Ctx} {o : Around} {b : Scopes} {f : Tasks} {y : State} {ls st : List Val} {out : Way} {into : Target}
        {x : Outcome} (differ : ℕ → ℕ → Bool) (p e : Spot) → Stands z (fits c.handlers) size out p (pattern_op z.program differ s p) e →
        LeadsTo z j n c o b f (at c o y ls (value ∷ st) e.at) into x → LeadsTo z j n c o b f (at c o y ls st p.at) into x

  variant_is : (e : ℕ) (i : Option ℕ) → is_some (enum_val e i) ≡ true → Enum_value (enum_val e i)
  variant_is e None h = cc
  variant_is e (Some i) h = record { number = e; variant = i; is = refl }

  value_is : (e : ℕ) (x : Bytes) (en : Option EnumTree) → is_some (value_in e x en) ≡ true → Enum_value (value_in e x en)
  value_is e x None h = cc
  value_is e x (Some en) h = variant_is e _ h

  named_is : (x : Bytes) (e : Option ℕ) → is_some (named_value z.program x e) ≡ true → Enum_value (named_value z.program x e)
  named_is x None h = cc
  named_is x (Some e) h = value_is e x _ h

  -- one operation that pushes a value
  pushed_leads : {j n size m : ℕ} {c : Ctx} {o : Around} {b : Scopes} {f : Tasks} {y : State} {ls st : List Val} {out : Way}
      {into : Target}
      {x : Outcome} {k : Op} {pls : List Place} {ts : List Bytes} (v : Val) (p e : Spot) →
      (i : Stands z (fits c.handlers) size out p (record { items = sure k ∷ []; places = pls; texts = ts; locals = m }) e) →
      act_at z k (machine_at c o y ls st p.at) ≡ only_where (fits c.handlers (suc p.at)) y (at c o y ls (v ∷ st) (suc p.at)) →
      LeadsTo z j n c o b f (at c o y ls (v ∷ st) e.at) into x → LeadsTo z j n c o b f (at c o y ls st p.at) into x
  pushed_leads {j} {n} {c = c} {o} {b} {f} {y} {into = into} {x} v p e i h l =
      let k = op_stands z i in
      does_leads z k.is (subst (λ q. LeadsTo z j n c o b f q into x) (sym h) (open_leads z y k.fit (start_leads z i.ends l)))

  enum_push : {j n size : ℕ} {c : Ctx} {o : Around} {b : Scopes} {f : Tasks} {y : State} {ls st : List Val} {out : Way} {into : Target}
      {x : Outcome} (q : Option Val) (h : Enum_value q) (p e : Spot) → Stands z (fits c.handlers) size out p (enum_pattern q p) e →
      LeadsTo z j n c o b f (at c o y ls (enum h.number h.variant ∷ st) e.at) into x → LeadsTo z j n c o b f (at c o y ls st p.at) into x
  enum_push {size = size} {c = c} {out = out} q h p e i l =
      pushed_leads (enum h.number h.variant) p e (subst (λ q. Stands z (fits c.handlers) size out p (enum_pattern q p) e) h.is i) refl l

  text_push : {j n size : ℕ} {c : Ctx} {o : Around} {b : Scopes} {f : Tasks} {y : State} {ls st : List Val} {out : Way} {into : Target}
      {x : Outcome} (bs : Bytes) (p e : Spot) → Stands z (fits c.handlers) size out p (texted bs p) e →
      LeadsTo z j n c o b f (at c o y ls (text_val bs ∷ st) e.at) into x → LeadsTo z j n c o b f (at c o y ls st p.at) into x
  text_push {y = y} bs p e i l =
      let k = texted_stand z bs i in
      does_leads z k.0.is (there_leads z y _ k.1 (open_leads z y k.0.fit (start_leads z i.ends l)))

  worth_enum : (x y : Bytes) → Enum_value (pattern_value z.program x y) → Worth (t.Shape.enum_pattern x y)
  worth_enum x y h = record {
    value = enum h.number h.variant;
    same = λ v. ap (λ q. is_val z.program q v) h.is;
    push = λ differ p e i l. enum_push (pattern_value z.program x y) h p e i l;
  }

module _ (z : Setting) (differ : ℕ → ℕ → Bool) (top : ℕ) where
  -- the subject v is in local l
  module _ (ss : Names) (a : Where) (out : Way) (w : Bool) (M j n l : ℕ) (c : Ctx) (o : Around) (y : World) (ls st : List Val) (v : Val)
      (hv : nth ls l ≡ Some v) where
    abbrev Code_leads : Maker → Outcome → Type 0
    Code_leads f x = (s e : Spot) → Stands z (fits c.handlers) c.size out s (f s) e →
        LeadsTo z j n c o y.behind y.tasks (at c o y.state ls st s.at) (on e.at st) x

    -- behind the Same: the body, or the rest
    same_leads : (t : Bool) (s : Spot) (k : ℕ) (x r : Outcome) (into : Target) → fits c.handlers (suc s.at) ≡ true →
        fits c.handlers k ≡ true → LeadsTo z j n c o y.behind y.tasks (at c o y.state ls st (suc s.at)) into x →
        LeadsTo z j n c o y.behind y.tasks (at c o y.state ls st k) into r →
        LeadsTo z j n c o y.behind y.tasks
        (only_where (fits c.handlers (cond t (suc s.at) k)) y.state (at c o y.state ls st (cond t (suc s.at) k))) into
        (on_bool t (λ u. x) (λ u. r))
    same_leads true s k x r into f1 f2 h1 h2 = open_leads z y.state f1 h1
    same_leads false s k x r into f1 f2 h1 h2 = open_leads z y.state f2 h2

    value_arm : (q : Shape) → Worth z q → (body rest : Maker) (x r : Outcome) → Code_leads body x → Code_leads rest r →
        Code_leads (pattern_op z.program differ q then one (op.Get l) then either op.Same body rest)
        (on_bool (fits_shape z.program q v) (λ u. x) (λ u. r))
    value_arm q k body rest x r hx hr s e i =
        let f = pattern_op z.program differ q in
        let m : Spot = past s (f s) in
        let i1 = then_stand z s e f (one (op.Get l) then either op.Same body rest) i in
        let i2 = then_stand z m e (one (op.Get l)) (either op.Same body rest) i1.1 in
        let i3 = either_stand z (next m) e op.Same body rest i2.1 in
        let get = op_stands z i2.0 in
        let m2 : Spot = past (next (next m)) (body (next (next m))) in
        let v0 = i3.order.0 in
        let v1 = i3.order.1 in
        is_leads z (ap (λ t. on_bool t (λ u. x) (λ u. r)) (k.same v))
        (k.push differ s m i1.0 (does_leads z get.is (there_leads z y.state _ hv (open_leads z y.state get.fit
        (does_leads z i3.begins (same_leads (val_eq k.value v) (next m) (suc m2.at) x r (on e.at st)
        (i3.wide (suc (next m).at) (omega arith) (omega (arith, v0, v1))) (i3.wide (suc m2.at) (omega (arith, v1)) v0)
        (jump_leads z c m2.at e.at st x i3.jump (i3.wide e.at (omega (arith, v0, v1)) le_self)
        (hx (next (next m)) m2 (widened z (next m).at (suc m2.at) i3.first)))
        (hr (next m2) e i3.rest)))))))

    any_arm : (body rest : Maker) (x : Outcome) → Code_leads body x → Code_leads (body then ahead op.Jump rest) x
    any_arm body rest x hx s e i =
        let m : Spot = past s (body s) in
        let i1 = then_stand z s e body (ahead op.Jump rest) i in
        let i2 = ahead_stand z m e op.Jump rest i1.1 in
        let x1 = past_le (next m) e (rest (next m)) i2.inside.ends in
        jump_leads z c m.at e.at st x i2.begins (i2.wide e.at (omega (arith, x1)) le_self) (hx s m i1.0)

    arm_by_leads : (q : Shape) (last : Bool) → (last ≡ false → has_value_shape z.program q ≡ true) → (body rest : Maker) (x r : Outcome) →
        Code_leads body x → Code_leads rest r →
        Code_leads (low.arm_by z.program differ q l last (low.is_any z.program differ q) body rest)
        (on_bool (cond last true (fits_shape z.program q v)) (λ u. x) (λ u. r))
    unfolding low.arm_by
    arm_by_leads q true h body rest x r hx hr = hx
    arm_by_leads t.Shape.any_pattern false h body rest x r hx hr = any_arm body rest x hx
    arm_by_leads (t.Shape.integer_pattern k) false h body rest x r hx hr = value_arm (t.Shape.integer_pattern k)
        (record { value = int k; same = λ v. refl; push = λ differ p e i l. pushed_leads z (int k) p e i refl l }) body rest x r hx hr
    arm_by_leads (t.Shape.minus_pattern k) false h body rest x r hx hr = value_arm (t.Shape.minus_pattern k)
        (record { value = int (neg_ℤ k); same = λ v. refl; push = λ differ p e i l. pushed_leads z (int (neg_ℤ k)) p e i refl l }) body
        rest x r hx hr
    arm_by_leads (t.Shape.character_pattern k) false h body rest x r hx hr = value_arm (t.Shape.character_pattern k)
        (record { value = char k; same = λ v. refl; push = λ differ p e i l. pushed_leads z (char k) p e i refl l }) body rest x r hx hr
    arm_by_leads (t.Shape.text_pattern bs) false h body rest x r hx hr = value_arm (t.Shape.text_pattern bs)
        (record { value = text_val bs; same = λ v. refl; push = λ differ p e i l. text_push z bs p e i l }) body rest x r hx hr
    arm_by_leads t.Shape.truth_pattern false h body rest x r hx hr = value_arm t.Shape.truth_pattern
        (record { value = truth; same = λ v. refl; push = λ differ p e i l. pushed_leads z truth p e i refl l }) body rest x r hx hr
    arm_by_leads t.Shape.falsehood_pattern false h body rest x r hx hr = value_arm t.Shape.falsehood_pattern
        (record { value = falsity; same = λ v. refl; push = λ differ p e i l. pushed_leads z falsity p e i refl l }) body rest x r hx hr
    arm_by_leads (t.Shape.enum_pattern x1 x2) false h body rest x r hx hr = value_arm (t.Shape.enum_pattern x1 x2)
        (worth_enum z x1 x2 (named_is z x2 _ (h refl))) body rest x r hx hr
    arm_by_leads q false h body rest x r hx hr = never (h refl)

  -- of an arm: each pattern but the last stands for a value, or for all
  abbrev pub Arm_lead_shape : (last : Bool) → Shape → Type 0
  Arm_lead_shape last (t.Shape.arm q b) = (last ≡ false → has_value z.program q ≡ true) × EvLeads z differ top b
  Arm_lead_shape last s = Unit {0}

  abbrev pub Arm_lead : (last : Bool) → Tree → Type 0
  Arm_lead last (tree n pl s) = Arm_lead_shape last s

  abbrev pub Arms_lead : Trees → Type 0
  Arms_lead no_trees = Unit {0}
  Arms_lead (more_trees x ts) = Arm_lead (none_left ts) x × Arms_lead ts

  module _ (ss : Names) (a : Where) (out : Way) (w : Bool) (M j n l : ℕ) (c : Ctx) (o : Around) (y : World) (ls st : List Val) (v : Val)
      (hv : nth ls l ≡ Some v) (sc : Static top c ss out a) (fw : free c.handlers c.life.noted c.below ≡ w) (lt : n ≤ top) (lM : n ≤ M)
      (ab : Above a.height st c.base) (g : Good n c.who.path o c.held c.also c.size y.state ls) where
    arm_leads : (x : Tree) (ts : Trees) → Arm_lead (none_left ts) x → (rest : Maker) (go : World → Outcome) →
        Code_leads ss a out w M j n l c o y ls st v hv rest (go y) →
        Code_leads ss a out w M j n l c o y ls st v hv (low.arm_tree z.program differ x ts l ss a rest)
        (arm_of z.program (deeper z.program M) x (none_left ts) v w c.env y go)
    arm_leads (tree k pl (t.Shape.arm (tree k2 pl2 q) b)) ts h rest go hr =
        arm_by_leads ss a out w M j n l c o y ls st v hv q (none_left ts) h.0 (piece z.program differ b ss a) rest
        (ev z.program (deeper z.program M) b w c.env y) (go y) (λ s e i. h.1 ss a s e out w M j n c o y ls st i sc fw lt lM ab g) hr
    arm_leads (tree k pl q) ts h rest go hr = λ s e i. stuck_leads z i

    arms_lead : (ts : Trees) → Arms_lead ts → Code_leads ss a out w M j n l c o y ls st v hv (low.arms z.program differ ts l ss a)
        (chosen z.program (deeper z.program M) ts v w c.env y)
    arms_lead no_trees h = λ s e i. stuck_leads z i
    arms_lead (more_trees x ts) h = arm_leads x ts h.0 (low.arms z.program differ ts l ss a)
        (λ y. chosen z.program (deeper z.program M) ts v w c.env y) (arms_lead ts h.1)

  subject_static : {c : Ctx} {ss : Names} {out : Way} {a : Where} (v : Val) → Static top c ss out a →
      Static top (holding_all c c.env [] ((length ss, v) ∷ [])) (hidden ∷ ss) out a
  subject_static {c} {ss} v sc = record {
    fits = sc.fits;
    low = low_more (length ss) (suc (length ss)) c.held (omega arith) sc.low;
    low_also = (omega arith, low_more (length ss) (suc (length ss)) c.also (omega arith) sc.low_also);
    loops = sc.loops;
    leaves = sc.leaves;
    breaks = sc.breaks;
    returns = sc.returns;
    defers = sc.defers;
    noted = sc.noted;
    born = sc.born;
  }

  pub cases_leads : (n : ℕ) (pl : Place) (b : Tree) (ts : Trees) → EvLeads z differ top b → Arms_lead ts →
      EvLeads z differ top (tree n pl (t.Shape.cases b ts))
  cases_leads n pl b ts hb ha ss a s e out w M j m c o y ls st i sc fw lt lM ab g =
      let l : ℕ = length ss in
      let f : Maker = piece z.program differ b ss a in
      let arms : Maker = low.arms z.program differ ts l (hidden ∷ ss) a in
      let p : Spot = past s (f s) in
      let i1 = then_stand z s e f (put_away l then arms) i in
      let i2 = then_stand z p e (put_away l) arms i1.1 in
      let put = put_stand z l i2.0 in
      let rm = put.1 in
      value_leads z (on p.at st) (on e.at st) _ (λ r. args c.env (form.choosing ts) [] r [])
      (λ w M v y. chosen z.program (deeper z.program M) ts v w c.env y) fw lM (λ r. refl) (λ r M w. refl) (λ r M w. refl)
      (λ l x n v y. refl) (hb ss a s p out w M j m c o y ls st i1.0 sc fw lt lM ab g)
      (λ w M j k fw le lM o v y ls g.
      let sz = g.sized in
      let u = puts ls l v (omega (arith, rm, sz)) in
      let c1 : Ctx = holding_all c c.env [] ((l, v) ∷ []) in
      does_leads z put.0.is (there_leads z y.state _ u.is (open_leads z y.state put.0.fit
      (holding_leads z c c.env [] ((l, v) ∷ []) _
      (arms_lead (hidden ∷ ss) a out w M j k l c1 o y u.locals st v u.here (subject_static v sc) fw (trans le lt) lM ab
      (record {
        holds = holds_put c.held ls l l v u sc.low le_self g.holds;
        besides = (u.here, holds_put c.also ls l l v u sc.low_also le_self g.besides);
        sized = u.sized ∙ g.sized;
        fine = g.fine;
      }) ts ha (next p) e i2.1)))))
