-- What the tests of V8 and V9 come to: where a failure is taken, where a task may wait, which locals may be written,
-- which blocks are ready.
use Rattle.std.proofs.Common.{◌≡◌, ℕ, zero, suc, ◌+◌, ◌<◌, length, map, List, [], ◌∷◌, ◌++◌, Option, Some, None}
use Rattle.std.proofs.Common.{Bool, true, false, cond, refl, sym}
use Rattle.std.proofs.Common.{subst, ap, ap₂, ◌∙◌}
use Rattle.std.specs.Prelude.{◌&&◌, ◌||◌, not, nat_lt, slice_get}
use Rattle.std.proofs.lemmas.Bool.{ltb-true, and_parts, cond_both}
use Rattle.std.proofs.lemmas.Option.{none-some}
use Rattle.verse_code.specs.declared.operations.Op.{Op}
use Rattle.verse_code.specs.declared.operations.Op.TheVariants as o
use Rattle.verse_code.specs.declared.codes.Code.{Code}
use Rattle.verse_meaning_state.proofs.Numbers.{eqn_is}
use Rattle.verse_code_machine_parents.proofs.Lists.{no_both}
use Rattle.verse_sorts.specs.Sorts as s
use Rattle.verse_sorts.specs.Sorts.{Sort}
use Rattle.verse_sorts.specs.Typing.{at}
use Rattle.verse_verify_kept.specs.Notes.{FuncNote, Point, point_at, live, indices, names}
use Rattle.verse_verify_kept.specs.Rules.{Each, MayFail, in_try, in_function, MayWait, Quiet, quiet_no, quiet_so}
use Rattle.verse_verify_kept.specs.Rules.{Around, around_no, around_so}
use Rattle.verse_verify_kept.specs.Rules.{Entry, Ready, ready_no, ready_so}
use Rattle.verse_verify_faults.specs.Spots.{Mark, Spot, Table, live_spot, spot_at, above, beneath, opens, even, cut}
use Rattle.verse_verify_faults.specs.Spots.{point_of}
use Rattle.verse_verify_faults.specs.Stepping.{try_label, spot_locals}
use Rattle.verse_verify_faults.specs.Faults.{is_none, is_nil, same_numbers, on_spot, all_around, asks_nothing}
use Rattle.verse_verify_faults.specs.Faults.{ends_with}
use Rattle.verse_verify_faults.specs.Faults.{entry_fits, func_fails, func_waits, is_around, is_quiet, label_behind}
use Rattle.verse_verify_faults.specs.Faults.{locals_at, may_fail, may_wait, ready}
use Rattle.verse_verify_faults.specs.Faults.{tries_of}
use Rattle.verse_verify_faults.proofs.Fitting.{same_is, each_fit_is}
use Rattle.verse_verify_faults.proofs.Leading.{notes, number_is, numbers_are, arm_is, point_there}

pub none_is : {A : Type 0} (m : Option A) → is_none m ≡ true → m ≡ None
none_is None e = refl
none_is (Some x) e = no_both (sym e)

pub nil_is : {A : Type 0} (xs : List A) → is_nil xs ≡ true → xs ≡ []
nil_is [] e = refl
nil_is (x ∷ xs) e = no_both (sym e)

pub less_than : (a b : ℕ) → nat_lt a b ≡ true → a < b
less_than a b e = ltb-true a b e

pub indices_are : (st : List Sort) (ms : List Mark) → indices (opens st ms) ≡ map (λ (m : Mark). m.index) ms
indices_are st [] = refl
indices_are st (m ∷ ms) = ap (λ is. m.index ∷ is) (indices_are (beneath st (m ∷ ms)) ms)

module _ (c : Code) (t : Table) where
  pub names_are : (p : Spot) → names (cut p) ≡ tries_of c t p
  names_are p = ap (λ is. is ++ p.outer) (indices_are p.stack p.tries)

  -- where a point is there, the bytes give it
  pub record Spotted (i : ℕ) (q : Point) : Type 0 where
    pub spot : Spot
    pub there : spot_at t i ≡ Some spot
    pub even : even (length spot.stack) spot.tries ≡ true
    pub is : cut spot ≡ q

  pub spotted : (i : ℕ) (q : Point) → point_at (notes c t) i ≡ Some q → Spotted i q
  spotted i q e = by_found (by_list t.spots i e)
    where
      Found : Option Spot → Type 0
      Found m = (x : Spot) × (m ≡ Some x) × (even (length x.stack) x.tries ≡ true) × (cut x ≡ q)

      with_even : (x : Spot) (b : Bool) → even (length x.stack) x.tries ≡ b → cond b (Some (cut x)) None ≡ Some q →
          Found (Some x)
      with_even x true h e = (x, refl, h, cc)
      with_even x false h e = elim (none-some _ e) [ ]

      by_spot : (m : Option Spot) → point_of m ≡ Some q → Found m
      by_spot None e = elim (none-some _ e) [ ]
      by_spot (Some x) e = with_even x (even (length x.stack) x.tries) refl e

      by_list : (xs : List (Option Spot)) (i : ℕ) → live (slice_get (map point_of xs) i) ≡ Some q → Found (live_spot
          (slice_get xs i))
      by_list [] i e = elim (none-some _ e) [ ]
      by_list (x ∷ xs) zero e = by_spot x e
      by_list (x ∷ xs) (suc i) e = by_list xs i e

      by_found : Found (spot_at t i) → Spotted i q
      by_found f = record { spot = f.0; there = f.1; even = f.2; is = f.3 }

  pub may_fail_is : (p : Spot) → may_fail c t p ≡ true → MayFail c (notes c t) (cut p)
  may_fail_is p e = by_tries p.tries refl e
    where
      by_note : is_none p.arm ≡ true → is_none p.block ≡ true → (m : Option FuncNote) → slice_get t.functions p.func ≡
          m →
          func_fails c t m ≡ true → MayFail c (notes c t) (cut p)
      by_note a b None is e = no_both (sym e)
      by_note a b (Some f) is e = in_function (none_is p.arm a) (none_is p.block b) is e

      by_tries : (ms : List Mark) → p.tries ≡ ms →
          (not (is_nil ms) || (is_none p.arm && is_none p.block && func_fails c t (slice_get t.functions p.func))) ≡
          true →
          MayFail c (notes c t) (cut p)
      by_tries [] is e =
          by_note (and_parts _ _ (and_parts _ _ e).0).0 (and_parts _ _ (and_parts _ _ e).0).1 (slice_get t.functions p.func) refl
          (and_parts _ _
          e).1
      by_tries (m ∷ ms) is e = in_try (ap (λ ms. opens p.stack ms) is)

  pub no_tries : (p : Spot) → is_nil p.tries ≡ true → opens p.stack p.tries ≡ []
  no_tries p e = ap (λ ms. opens p.stack ms) (nil_is p.tries e)

  pub may_wait_is : (p : Spot) → may_wait c t p ≡ true → MayWait c (notes c t) (cut p)
  may_wait_is p e = by_note (slice_get t.functions p.func) refl (and_parts _ _ e).1
    where
      by_note : (m : Option FuncNote) → slice_get t.functions p.func ≡ m → func_waits c t m ≡ true → MayWait c (notes c
          t) (cut p)
      by_note None is h = no_both (sym h)
      by_note (Some f) is h = record {
        tries = no_tries p (and_parts _ _ (and_parts _ _ e).0).0;
        block = none_is p.block (and_parts _ _ (and_parts _ _ e).0).1;
        func = f;
        is_func = is;
        holds = h;
      }

  -- the open Trys
  pub record AroundOne (i j : ℕ) : Type 0 where
    pub before : j < i
    pub label : ℕ
    pub behind : i < label
    pub is_try : slice_get c.ops j ≡ Some (o.Try label)

  pub around_one : (i j : ℕ) → is_around c t i j ≡ true → AroundOne i j
  around_one i j e = by_op (slice_get c.ops j) refl (and_parts _ _ (and_parts _ _ e).0).1
    where
      by_op : (m : Option Op) → slice_get c.ops j ≡ m → label_behind c t i (try_label m) ≡ true → AroundOne i j
      by_op None is h = no_both (sym h)
      by_op (Some (o.Try l)) is h = record {
        before = less_than j i (and_parts _ _ (and_parts _ _ e).0).0;
        label = l;
        behind = less_than i l h;
        is_try = is;
      }
      by_op (Some op) is h = no_both (sym h)

  pub all_are_around : (i : ℕ) (js : List ℕ) → all_around c t i js ≡ true → Around c (notes c t) i js
  all_are_around i [] e = around_no
  all_are_around i (j ∷ js) e =
      let a = around_one i j (and_parts _ _ e).0 in
      around_so a.before a.behind a.is_try (all_are_around i js (and_parts _ _ e).1)

  pub around_here : (i : ℕ) (p : Spot) → all_around c t i (tries_of c t p) ≡ true → Around c (notes c t) i (names (cut
      p))
  around_here i p e = subst (Around c (notes c t) i) (sym (names_are p)) (all_are_around i (tries_of c t p) e)

  -- no label asks for the local
  asked_nothing : (l label : ℕ) → asks_nothing c t (at (locals_at c t (Some label)) l) ≡ true → (q : Point) (a : Sort) →
      point_at (notes c t) label ≡ Some q → at q.locals l ≡ Some a → a ≡ s.none
  asked_nothing l label e q a live h = by_spot (spotted label q live)
    where
      by_sort : (m : Option Sort) → m ≡ Some a → asks_nothing c t m ≡ true → a ≡ s.none
      by_sort None h e = elim (none-some _ h) [ ]
      by_sort (Some b) h e = back b h (same_is b s.none e)
        where
          back : (b : Sort) → Some b ≡ Some a → b ≡ s.none → a ≡ s.none
          back b h e = cc

      by_spot : Spotted label q → a ≡ s.none
      by_spot x = by_sort (at (locals_at c t (Some label)) l) (found x.spot x.there x.is h) e
        where
          found : (x : Spot) → spot_at t label ≡ Some x → cut x ≡ q → at q.locals l ≡ Some a → at (locals_at c t (Some
              label)) l ≡ Some a
          found x there is h =
              subst (λ (m : Option Spot). at (spot_locals m []) l ≡ Some a) (sym there) (subst (λ (q : Point). at
              q.locals l ≡ Some a) (sym is) h)

  quiet_one : (i l : ℕ) (js : List ℕ) → all_around c t i js ≡ true → is_quiet c t js l ≡ true → Quiet c (notes c t) l js
  quiet_one i l [] a e = quiet_no
  quiet_one i l (j ∷ js) a e =
      let x = around_one i j (and_parts _ _ a).0 in
      quiet_so x.is_try (asked_nothing l x.label (subst (λ (m : Option Op). asks_nothing c t (at (locals_at c t
      (try_label m)) l) ≡ true)
      x.is_try (and_parts _ _ e).0)) (quiet_one i l js (and_parts _ _ a).1 (and_parts _ _ e).1)

  pub quiet_in : (i l : ℕ) (p : Spot) → all_around c t i (tries_of c t p) ≡ true → is_quiet c t (tries_of c t p) l ≡
      true →
      Quiet c (notes c t) l (names (cut p))
  quiet_in i l p a e =
      subst (Quiet c (notes c t) l) (sym (names_are p)) (quiet_one i l (tries_of c t p) a e)

  -- deferred blocks
  pub ends_in : (xs ys : List ℕ) → ends_with c t xs ys ≡ true → (more : List ℕ) × (more ++ xs ≡ ys)
  ends_in xs [] e = ([], nil_is xs e)
  ends_in xs (y ∷ ys) e = cond_both (same_numbers xs (y ∷ ys)) true (ends_with c t xs ys) (λ b. b ≡ true → (more : List
      ℕ) × (more ++ xs ≡
      y ∷ ys)) (λ h e. ([], numbers_are xs (y ∷ ys) h)) (λ h e. longer (ends_in xs ys e)) e
    where
      longer : (more : List ℕ) × (more ++ xs ≡ ys) → (more : List ℕ) × (more ++ xs ≡ y ∷ ys)
      longer m = (y ∷ m.0, ap (λ zs. y ∷ zs) m.1)

  pub no_marks : (q : Spot) → q.tries ≡ [] → even (length q.stack) q.tries ≡ true
  no_marks q e = subst (λ ms. even (length q.stack) ms ≡ true) (sym e) refl

  pub cut_bare : (q : Spot) → q.stack ≡ [] → q.tries ≡ [] → above q.stack q.tries ≡ []
  cut_bare q e f = ap₂ above e f

  pub opens_bare : (q : Spot) → q.tries ≡ [] → opens q.stack q.tries ≡ []
  opens_bare q e = ap (opens q.stack) e

  record EntryAt (p : Spot) (e count : ℕ) (ls : List Sort) : Type 0 where
    pub spot : Spot
    pub there : spot_at t e ≡ Some spot
    pub entry : Entry c (notes c t) (cut p) e count (cut spot)
    pub more : List ℕ
    pub outer : more ++ spot.outer ≡ names (cut p)
    pub locals : Each c (notes c t) ls spot.locals

  entry_at : (p : Spot) (e count : ℕ) (ls : List Sort) → on_spot (spot_at t e) (λ q. entry_fits c t p e count ls q) ≡
      true →
      EntryAt p e count ls
  entry_at p e count ls h = by_spot (spot_at t e) refl h
    where
      by_spot : (m : Option Spot) → spot_at t e ≡ m → on_spot m (λ q. entry_fits c t p e count ls q) ≡ true → EntryAt p
          e count ls
      by_spot None is h = no_both (sym h)
      by_spot (Some q) is h =
          let a = and_parts _ _ h in
          let b = and_parts _ _ a.0 in
          let d = and_parts _ _ b.0 in
          let g = and_parts _ _ d.0 in
          let l = and_parts _ _ g.0 in
          let m = and_parts _ _ l.0 in
          let n = and_parts _ _ m.0 in
          let r = and_parts _ _ n.0 in
          let more = ends_in q.outer (tries_of c t p) b.1 in
          let tries = nil_is q.tries l.1 in
          record {
            spot = q;
            there = is;
            entry = record {
              live = point_there c t e q is (no_marks q tries);
              func = eqn_is p.func q.func r.0;
              arm = arm_is p.arm q.arm r.1;
              block = sym (number_is (Some e) q.block n.1);
              stack = cut_bare q (nil_is q.stack m.1) tries;
              tries = opens_bare q tries;
              defers = nil_is q.defers g.1;
              under = sym (eqn_is (p.under + count) q.under d.1);
            };
            more = more.0;
            outer = more.1 ∙ sym (names_are p);
            locals = each_fit_is t.classes ls q.locals a.1;
          }

  pub all_ready : (p : Spot) (ls : List Sort) (ds : List ℕ) → ready c t p ls ds ≡ true → Ready c (notes c t) (cut p) ls
      ds
  all_ready p ls [] h = ready_no
  all_ready p ls (e ∷ ds) h =
      let x = entry_at p e (length ds) ls (and_parts _ _ h).0 in
      ready_so x.more x.entry x.outer x.locals (all_ready p x.spot.locals ds (subst (λ (m : Option Spot). ready c t p
      (spot_locals m ls) ds ≡
      true) x.there (and_parts _ _ h).1))
