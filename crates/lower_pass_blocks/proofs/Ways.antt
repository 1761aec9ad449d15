-- A function or a loop is left: deferred blocks run first.
use Rattle.std.proofs.Common.{◌≡◌, ℕ, zero, suc, ◌+◌, ◌-◌, ◌≤◌, length, take, drop, List, [], ◌∷◌, ◌++◌, Option, Some, None, Bool, true}
use Rattle.std.proofs.Common.{false, nat_lt, refl, sym, ◌∙◌}
use Rattle.std.proofs.Common.{subst, ap, arith, le-leb}
use Rattle.std.specs.Prelude.{slice_get}
use Rattle.std.proofs.lemmas.Option.{none-some}
use Rattle.std.proofs.lemmas.Bool.{ltb-false}
use Rattle.verse_code.specs.declared.codes.Code.{Code}
use Rattle.verse_code.specs.declared.operations.Op.TheVariants as o
use Rattle.verse_names_tables.specs.Names.{Table}
use Rattle.verse_sorts.specs.Sorts.{Sort, IsKnown, Fits}
use Rattle.verse_sound_rules.specs.Found as rules
use Rattle.verse_sound_rules.specs.Found.{Allowed}
use Rattle.verse_verify_kept.specs.Notes.{Notes, Point, parent_of}
use Rattle.verse_verify_kept.specs.Rules as r
use Rattle.verse_verify_kept.specs.Rules.{Asked, asked}
use Rattle.verse_verify_faults.specs.Spots.{Mark, opens, above, even}
use Rattle.lower_code.specs.Pieces as c
use Rattle.lower_code.specs.Pieces.{Maker}
use Rattle.lower_code.specs.declared.arounds.Around.{Around}
use Rattle.lower_code.specs.Arounds as arounds
use Rattle.lower_code.specs.Scopes.{Scope}
use Rattle.lower_notes.specs.States.{State, Deferred, left_with, locals_behind, indices}
use Rattle.lower_notes.specs.Stretches as n
use Rattle.lower_notes.specs.Stretches.{Walk}
use Rattle.lower_notes.specs.Applied as walks
use Rattle.lower_notes.proofs.Counted as counted
use Rattle.lower_pass_states.proofs.Points.{pt, over, even_over}
use Rattle.lower_pass_states.proofs.Meeting.{leads_to, leads_itself, Below, Each, meets_below, entries}
use Rattle.lower_pass_stretches.proofs.Going.{Way, If, itself, Going, Steady, sound_of, then_goes}
use Rattle.lower_pass_stretches.proofs.Single.{just_goes, ends_goes}
use Rattle.lower_pass_stretches.proofs.Inside.{Inside, Since, steady_of, inside_up}
use Rattle.lower_pass_stretches.proofs.Combined.{jump_asked}
use Rattle.lower_pass_contexts.proofs.Leaving.{leave_asked, steady_left}
use Rattle.lower_pass_contexts.proofs.After.{left_defers, left_locals}
use Rattle.lower_pass_forms.proofs.Finishing.{IsOver, over_itself}

none_left : (ds : List Deferred) → drop (length ds) ds ≡ []
none_left [] = refl
none_left (d ∷ ds) = none_left ds

no_defers : (ds : List Deferred) → length ds ≡ 0 → ds ≡ []
no_defers [] e = refl
no_defers (d ∷ ds) e = absurd (cc)

module _ (found : rules.Found) (code : Code) (notes : Notes) (w : Way) (ts : List ℕ) (al : Allowed) (xs : Table) (sc : Scope) (a : Around)
    (x : Option State) where
  abbrev Here : Around → State → Type 0
  Here b y = Inside code notes found w ts al xs sc b y

  module _ (here : If x (Here a)) where
    above_here : {u : Option State} (q : Sort) → IsKnown q → If u (IsOver code notes (q ∷ []) x) → If u (Here (arounds.up a))
    above_here q known i z e = let k = i z e in subst (Here (arounds.up a)) (sym k.1.1) (inside_up code notes q known (here k.0 k.1.0))

    -- ---- `return`

    -- the value above a state in which no block is deferred
    pub record Free (q : Sort) (z : State) : Type 0 where
      pub state : State
      pub is : x ≡ Some state
      pub func : z.func ≡ state.func
      pub arm : z.arm ≡ state.arm
      pub block : z.block ≡ state.block
      pub tries : z.tries ≡ state.tries
      pub stack : z.stack ≡ q ∷ state.stack
      pub defers : z.defers ≡ []
      pub steady : Steady code notes ts z

    take_length : (st : List Sort) → take (length st) st ≡ st
    take_length [] = refl
    take_length (q ∷ st) = ap (λ zs. q ∷ zs) (take_length st)

    all_above : (st : List Sort) (ms : List Mark) → ms ≡ [] → above st ms ≡ st
    all_above st [] e = take_length st
    all_above st (m ∷ ms) e = absurd (cc)

    none_open : (st : List Sort) (ms : List Mark) → ms ≡ [] → opens st ms ≡ []
    none_open st [] e = refl
    none_open st (m ∷ ms) e = absurd (cc)

    module _ (q res : Sort) (result : al.result ≡ Some res) (fit : Fits (parent_of notes) q res) (known : IsKnown q) where
      return_asked : (z : State) → Free q z → {i : ℕ} → Asked code notes i (pt z) o.Return
      return_asked z f = let g = (here f.state f.is).returns res result in
          let none = f.tries ∙ g.tries in
          asked (r.of_return (all_above z.stack z.tries none ∙ f.stack) (none_open z.stack z.tries none) (f.arm ∙ g.arm) (f.block ∙ g.block)
          (ap entries f.defers) (ap (slice_get notes.functions) f.func ∙ g.is_func)
          (subst (λ k. Fits (parent_of notes) q k) (sym g.result) fit))

      -- what a state without blocks is
      free_of : (y z : State) → x ≡ Some y → Here a y → z.func ≡ y.func → z.arm ≡ y.arm → z.block ≡ y.block → z.outer ≡ y.outer →
          z.tries ≡ y.tries → z.stack ≡ q ∷ y.stack → z.defers ≡ [] → Free q z
      free_of y z e h f g b u t k d = record {
        state = y;
        is = e;
        func = f;
        arm = g;
        block = b;
        tries = t;
        stack = k;
        defers = d;
        steady = record {
          even = even_is z.stack z.tries (q ∷ y.stack) y.tries k t (even_over y h.even (q ∷ []));
          names = names_is z.tries y.tries z.outer y.outer t u ∙ h.names;
          ready = ready_none z.defers z.locals (pt z) d;
          stood = let m = h.returns res result in record {
            tries = h.stood.tries;
            lasts = λ r e. absurd (none-some r (sym (g ∙ m.arm) ∙ e));
            within = λ r e. absurd (none-some r (sym (b ∙ m.block) ∙ e));
          };
        };
      }
        where
          even_is : (st : List Sort) (ms : List Mark) (su : List Sort) (mu : List Mark) → st ≡ su → ms ≡ mu → even (length su) mu ≡ true →
              even (length st) ms ≡ true
          even_is st ms su mu e f h = subst (λ k. even (length k) ms ≡ true) (sym e) (subst (λ k. even (length su) k ≡ true) (sym f) h)

          names_is : (ms mu : List Mark) (os ou : List ℕ) → ms ≡ mu → os ≡ ou → indices ms ++ os ≡ indices mu ++ ou
          names_is ms mu os ou e f = ap (λ k. indices k ++ os) e ∙ ap (λ k. indices mu ++ k) f

          ready_none : (ds : List Deferred) (ls : List Sort) (p : Point) → ds ≡ [] → r.Ready code notes p ls (entries ds)
          ready_none [] ls p e = r.ready_no
          ready_none (d ∷ ds) ls p e = absurd (cc)

      returns_at : {u : Option State} {k : Option State → Option State} {Q : State → Type 0} → If u (Free q) → (b : Bool) →
          If x (λ y. b ≡ true) → Going code notes w ts u (c.when_else b (c.one o.Return)) n.ends k Q
      returns_at f true e = ends_goes code notes (c.one o.Return) (λ s. o.Return) (λ s. refl) (λ z i. (f z i).steady)
          (λ z i s. return_asked z (f z i))
      returns_at f false e = ends_goes code notes c.stuck (λ s. o.Arm (suc s.at)) (λ s. refl) (λ z i. (f z i).steady)
          (λ z i s. absurd (no (e (f z i).state (f z i).is)))
        where
          no : false ≡ true → ⊥
          no h = absurd (cc)

      may : If x (λ y. a.may_return ≡ true)
      may y e = ((here y e).returns res result).may

      leave_or_not : {u : Option State} → If u (IsOver code notes (q ∷ []) x) → (b : Bool) → nat_lt a.base a.defers ≡ b →
          Going code notes w ts u (c.when b (c.one (o.Leave a.base))) (n.when b (n.leave a.base)) itself (Free q)
      leave_or_not above true e = when_true (just_goes code notes (c.one (o.Leave a.base)) (λ s. o.Leave a.base) (λ s. refl)
          (λ z i. steady_of code notes (above_here q known above z i))
          (λ z i s room m. leave_asked code notes (above_here q known above z i) a.base (same a.base)
          (most (here (above z i).0 (above z i).1.0).order) m)
          (λ z i s room. let j = above z i in left j.0 z j.1.0 j.1.1))
        where
          when_true : {u : Option State} {Q : State → Type 0} →
              Going code notes w ts u (c.one (o.Leave a.base)) (n.one (left_with a.base)) itself Q →
              Going code notes w ts u (c.when true (c.one (o.Leave a.base))) (n.when true (n.leave a.base)) itself Q
          when_true h = record { leaves = h.leaves; exits = h.exits; goes = h.goes }

          same : (k : ℕ) → k ≤ k
          same k = omega arith

          most : {b f d : ℕ} → (b ≤ f) × (f ≤ d) → b ≤ d
          most h = omega (arith, h.0, h.1)

          count : (y : State) → (u b : ℕ) → u ≡ 0 → b ≡ 0 → u + length y.defers - b ≡ length y.defers
          count y u b e f = omega (arith, e, f)

          left : (y z : State) → x ≡ Some y → z ≡ over (q ∷ []) y → Free q (left_with a.base z)
          left y z i j = subst (λ v. Free q (left_with a.base v)) (sym j) (let g = (here y i).returns res result in
              free_of y (left_with a.base (over (q ∷ []) y)) i (here y i) refl refl refl refl refl refl
              (ap (λ k. drop k y.defers) (count y y.under a.base g.under g.base) ∙ none_left y.defers))
      leave_or_not above false e = record {
        leaves = λ s l v k. absurd (cc);
        exits = λ s l v z i. let j = above z i in let h = here j.0 j.1.0 in let g = h.returns res result in
            subst (Free q) (sym j.1.1) (free_of j.0 (over (q ∷ []) j.0) j.1.0 h refl refl refl refl refl refl
            (no_defers j.0.defers (none a.base a.defers j.0.under (length j.0.defers) (ltb-false a.base a.defers e) g.base g.under
            h.count)));
        goes = λ s l v m. (m, tt);
      }
        where
          none : (b d u n : ℕ) → d ≤ b → b ≡ 0 → u ≡ 0 → d ≡ u + n → n ≡ 0
          none b d u n l e f g = omega (arith, l, e, f, g)

      -- a value is returned
      pub returns_go : {u : Option State} {k : Option State → Option State} {Q : State → Type 0} → If u (IsOver code notes (q ∷ []) x) →
          Going code notes w ts u (arounds.returning a) (walks.returning a) k Q
      returns_go above = then_goes code notes (counted.if_so (nat_lt a.base a.defers) (counted.just_leaves (o.Leave a.base) a.base))
          (leave_or_not above (nat_lt a.base a.defers) refl) (λ z h. returns_at h a.may_return may)

    -- ---- `break`

    -- a state that is noted where the loop is left, with the operands above those of the loop
    pub record Outside (z : State) : Type 0 where
      pub steady : Steady code notes ts z
      pub below : Below code notes z (n.above a.height w.state)
      pub may : w.may_leave ≡ true
      pub in_loop : a.in_loop ≡ true

    jumps_at : {u : Option State} {k : Option State → Option State} {Q : State → Type 0} → If u Outside →
        Going code notes w ts u (c.leave_loop a.height) (n.leave_loop a.height) k Q
    jumps_at {u = None} f = record {
      leaves = λ s l v e. absurd (cc);
      exits = λ s l v z e. absurd (none-some z e);
      goes = λ s l v m. (tt, (tt, tt));
    }
    jumps_at {u = Some z} f = record {
      leaves = λ s l v e. (f z refl).may;
      exits = λ s l v y e. absurd (none-some y e);
      goes = λ s l v m. let g = f z refl in (
        leads_to (leads_itself code notes z s.at g.steady.even l.states.0),
        (
          sound_of code notes z g.steady v (omega arith) l.stands.items.0.is (jump_asked code notes z s.at (w.out - a.height)
              (meets_below code notes g.below (l.left a.height (same a.height) (le-leb a.height a.height (same a.height))))),
          tt,
        ),
      );
    }
      where
        same : (k : ℕ) → k ≤ k
        same k = omega arith

    module _ (breaks : al.breaks ≡ true) where
      outside_of : (y z : State) → x ≡ Some y → Here a y → z.func ≡ y.func → z.arm ≡ y.arm → z.block ≡ y.block → z.outer ≡ y.outer →
          z.under ≡ y.under → z.tries ≡ y.tries → z.stack ≡ y.stack → Each code notes z.locals w.state.locals →
          entries z.defers ≡ entries w.state.defers → Steady code notes ts z → Outside z
      outside_of y z e h f g b u d t k l m st = let i = h.breaks breaks in record {
        steady = st;
        below = record {
          func = f ∙ i.func;
          arm = g ∙ i.arm;
          block = b ∙ i.block;
          outer = u ∙ i.outer;
          under = d ∙ i.under;
          tries = t ∙ i.tries;
          locals = l;
          stack = subst (λ zs. Each code notes zs (n.anys a.height w.state.stack)) (sym k) i.stack;
          defers = m;
        };
        may = i.may;
        in_loop = i.in_loop;
      }

      leave_or_stay : {u : Option State} → If u (IsOver code notes [] x) → (b : Bool) → nat_lt a.floor a.defers ≡ b →
          Going code notes w ts u (c.when b (c.one (o.Leave a.floor))) (n.when b (n.leave a.floor)) itself Outside
      leave_or_stay {u} above true e = when_true (just_goes code notes (c.one (o.Leave a.floor)) (λ s. o.Leave a.floor) (λ s. refl)
          (λ z i. steady_of code notes (at z i))
          (λ z i s room m. leave_asked code notes (at z i) a.floor (here (above z i).0 (above z i).1.0).order.0
          (here (above z i).0 (above z i).1.0).order.1 m)
          (λ z i s room. left z (above z i).0 (above z i).1.0 (above z i).1.1))
        where
          at : (z : State) → u ≡ Some z → Here a z
          at z i = let k = above z i in subst (Here a) (sym k.1.1) (here k.0 k.1.0)

          when_true : {u : Option State} {Q : State → Type 0} →
              Going code notes w ts u (c.one (o.Leave a.floor)) (n.one (left_with a.floor)) itself Q →
              Going code notes w ts u (c.when true (c.one (o.Leave a.floor))) (n.when true (n.leave a.floor)) itself Q
          when_true h = record { leaves = h.leaves; exits = h.exits; goes = h.goes }

          count : (d f m : ℕ) → d ≡ m → d - f ≡ m - f
          count d f m e = ap (λ z. z - f) e

          left : (z y : State) → x ≡ Some y → z ≡ over [] y → Outside (left_with a.floor z)
          left z y i j = subst (λ v. Outside (left_with a.floor v)) (sym j) (let h = here y i in let g = h.breaks breaks in
              let k : a.defers - a.floor ≡ y.under + length y.defers - a.floor =
              count a.defers a.floor (y.under + length y.defers) h.count in
              outside_of y (left_with a.floor y) i h refl refl refl refl refl refl refl
              (subst (λ b. Each code notes (locals_behind b y.defers y.locals) w.state.locals) k
              (left_locals code notes w.state (a.defers - a.floor) y.defers y.locals g.since g.locals))
              (subst (λ b. entries (drop b y.defers) ≡ entries w.state.defers) k
              (ap entries (left_defers code notes w.state (a.defers - a.floor) y.defers g.since)))
              (steady_left code notes h a.floor h.order.0 h.order.1))
      leave_or_stay above false e = record {
        leaves = λ s l v k. absurd (cc);
        exits = λ s l v z i. let j = above z i in let h = here j.0 j.1.0 in let g = h.breaks breaks in
            subst Outside (sym j.1.1) (outside_of j.0 j.0 j.1.0 h refl refl refl refl refl refl refl g.locals
            (ap entries (none_since w.state (a.defers - a.floor) j.0.defers (none a.floor a.defers (ltb-false a.floor a.defers e)) g.since))
            (steady_of code notes h));
        goes = λ s l v m. (m, tt);
      }
        where
          none : (f d : ℕ) → d ≤ f → d - f ≡ 0
          none f d l = omega (arith, l)

          none_since : (z : State) (k : ℕ) (ds : List Deferred) → k ≡ 0 → Since code notes z k ds → ds ≡ z.defers
          none_since z zero ds e h = h
          none_since z (suc k) ds e h = absurd (cc)

      -- the innermost loop is left
      pub breaks_go : {k : Option State → Option State} {Q : State → Type 0} →
          Going code notes w ts x (arounds.breaking a) (walks.breaking a) k Q
      breaks_go = then_goes code notes (counted.if_so (nat_lt a.floor a.defers) (counted.just_leaves (o.Leave a.floor) a.floor))
          (leave_or_stay (over_itself code notes) (nat_lt a.floor a.defers) refl) (λ z h. jumps_in a.in_loop h (λ v i. (h v i).in_loop))
        where
          jumps_in : (b : Bool) {u : Option State} {k : Option State → Option State} {Q : State → Type 0} → If u Outside →
              If u (λ z. b ≡ true) → Going code notes w ts u (c.when_else b (c.leave_loop a.height)) (n.when_else b (n.leave_loop a.height))
              k Q
          jumps_in true f g = jumps_at f
          jumps_in false f g = ends_goes code notes c.stuck (λ s. o.Arm (suc s.at)) (λ s. refl) (λ z i. (f z i).steady)
              (λ z i s. absurd (no (g z i)))
            where
              no : false ≡ true → ⊥
              no h = absurd (cc)
