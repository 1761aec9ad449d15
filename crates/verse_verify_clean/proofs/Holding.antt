-- What is asked of Trys, locals that are written, failures, waits and deferred blocks passes the tests.
use Rattle.std.proofs.Common.{◌≡◌, ℕ, ◌+◌, length, List, [], ◌∷◌, ◌++◌, Option, Some, None, true}
use Rattle.std.proofs.Common.{refl, sym, subst, ap, ◌∙◌}
use Rattle.std.specs.Prelude.{◌&&◌, not, nat_lt, slice_get}
use Rattle.std.proofs.lemmas.Bool.{and_from, or_left, or_right, lt-ltb}
use Rattle.verse_code.specs.declared.operations.Op.{Op}
use Rattle.verse_code.specs.declared.codes.Code.{Code}
use Rattle.verse_sorts.specs.Sorts as s
use Rattle.verse_sorts.specs.Sorts.{Sort}
use Rattle.verse_sorts.specs.Typing.{at}
use Rattle.verse_verify_kept.specs.Notes.{FuncNote, Point, names}
use Rattle.verse_verify_kept.specs.Rules.{MayFail, in_try, in_function, MayWait, Quiet, quiet_so}
use Rattle.verse_verify_kept.specs.Rules.{Around, around_so, Entry, Ready, ready_so}
use Rattle.verse_verify_faults.specs.Fitting.{same}
use Rattle.verse_verify_faults.specs.Spots.{Mark, Spot, Table, spot_at, above, opens, cut}
use Rattle.verse_verify_faults.specs.Stepping.{try_label, spot_locals}
use Rattle.verse_verify_faults.specs.Faults.{is_none, is_nil, same_numbers, on_spot, all_around, asks_nothing}
use Rattle.verse_verify_faults.specs.Faults.{ends_with, entry_fits, func_fails, func_waits, is_around, is_quiet, label_behind}
use Rattle.verse_verify_faults.specs.Faults.{locals_at, may_fail, may_wait, ready, tries_of}
use Rattle.verse_verify_faults.proofs.Leading.{notes, point_there, Fitting}
use Rattle.verse_verify_laws.proofs.Holding.{Spotted, spotted, names_are}
use Rattle.verse_verify_clean.specs.Laws.{Told, Reached, reached_so}
use Rattle.verse_verify_clean.proofs.Fitting as fitting
use Rattle.verse_verify_clean.proofs.Leading as leading

pub none_back : {A : Type 0} (m : Option A) → m ≡ None → is_none m ≡ true
none_back m e = subst (λ m. is_none m ≡ true) (sym e) refl

pub nil_back : {A : Type 0} (xs : List A) → xs ≡ [] → is_nil xs ≡ true
nil_back xs e = subst (λ xs. is_nil xs ≡ true) (sym e) refl

pub some_back : {A : Type 0} (m : Option A) (x : A) → m ≡ Some x → not (is_none m) ≡ true
some_back m x e = subst (λ m. not (is_none m) ≡ true) (sym e) refl

pub no_opens : (st : List Sort) (ms : List Mark) → opens st ms ≡ [] → ms ≡ []
no_opens st [] e = refl
no_opens st (m ∷ ms) e = cc

-- nothing on the stack, and no open Trys
pub bare_spot : (q : Spot) → above q.stack q.tries ≡ [] → opens q.stack q.tries ≡ [] → (q.stack ≡ []) × (q.tries ≡ [])
bare_spot q e f = by_tries (no_opens q.stack q.tries f)
  where
    by_tries : q.tries ≡ [] → (q.stack ≡ []) × (q.tries ≡ [])
    by_tries g =
        (sym (leading.take_whole q.stack) ∙ subst (λ ms. above q.stack ms ≡ []) g e, g)

module _ (c : Code) (t : Table) where
  pub fails_back : (p : Spot) → MayFail c (notes c t) (cut p) → may_fail c t p ≡ true
  fails_back p (in_try {t = x} {ts = xs} e) = or_left _ _ (by_tries p.tries e)
    where
      by_tries : (ms : List Mark) → opens p.stack ms ≡ x ∷ xs → not (is_nil ms) ≡ true
      by_tries [] e = cc
      by_tries (m ∷ ms) e = refl
  fails_back p (in_function {f = f} a b e h) =
      or_right (not (is_nil p.tries)) (is_none p.arm && is_none p.block && func_fails c t (slice_get t.functions p.func))
      (and_from (is_none p.arm && is_none p.block) (func_fails c t (slice_get t.functions p.func))
      (and_from (is_none p.arm) (is_none p.block) (none_back p.arm a) (none_back p.block b))
      (subst (λ m. func_fails c t m ≡ true) (sym e) h))

  waits_with : (p : Spot) (f : FuncNote) → p.tries ≡ [] → p.block ≡ None → slice_get t.functions p.func ≡ Some f →
      f.may_wait ≡ true → may_wait c t p ≡ true
  waits_with p f a b e h =
      and_from (is_nil p.tries && is_none p.block) (func_waits c t (slice_get t.functions p.func))
      (and_from (is_nil p.tries) (is_none p.block) (nil_back p.tries a) (none_back p.block b))
      (subst (λ m. func_waits c t m ≡ true) (sym e) h)

  pub waits_back : (p : Spot) → MayWait c (notes c t) (cut p) → may_wait c t p ≡ true
  waits_back p w = waits_with p w.func (no_opens p.stack p.tries w.tries) w.block w.is_func w.holds

  pub arm_waits : (p : Spot) (f : FuncNote) → opens p.stack p.tries ≡ [] → p.block ≡ None →
      slice_get t.functions p.func ≡ Some f → f.may_wait ≡ true → may_wait c t p ≡ true
  arm_waits p f a b e h = waits_with p f (no_opens p.stack p.tries a) b e h

  pub around_back : (i : ℕ) (js : List ℕ) → Around c (notes c t) i js → Reached t js → all_around c t i js ≡ true
  around_back i [] a r = refl
  around_back i (j ∷ js) (around_so {label = l} a b e more) (reached_so {q = q} h r) =
      and_from (is_around c t i j) (all_around c t i js)
      (and_from (nat_lt j i && label_behind c t i (try_label (slice_get c.ops j))) (not (is_none (spot_at t j)))
      (and_from (nat_lt j i) (label_behind c t i (try_label (slice_get c.ops j))) (lt-ltb j i a)
      (subst (λ (m : Option Op). label_behind c t i (try_label m) ≡ true) (sym e) (lt-ltb i l b)))
      (some_back (spot_at t j) q h)) (around_back i js more r)

  pub around_here : (i : ℕ) (p : Spot) → Around c (notes c t) i (names (cut p)) → Reached t (tries_of c t p) →
      all_around c t i (tries_of c t p) ≡ true
  around_here i p a r =
      around_back i (tries_of c t p) (subst (Around c (notes c t) i) (names_are c t p) a) r

  pub ends_back : (more xs ys : List ℕ) → more ++ xs ≡ ys → ends_with c t xs ys ≡ true
  ends_back [] xs [] e = nil_back xs e
  ends_back [] xs (y ∷ ys) e =
      fitting.cond_yes (same_numbers xs (y ∷ ys)) (ends_with c t xs ys) (leading.numbers_back xs (y ∷ ys) e)
  ends_back (m ∷ more) xs [] e = cc
  ends_back (m ∷ more) xs (y ∷ ys) e =
      fitting.cond_or (same_numbers xs (y ∷ ys)) (ends_with c t xs ys) (ends_back more xs ys (rest e))
    where
      rest : m ∷ (more ++ xs) ≡ y ∷ ys → more ++ xs ≡ ys
      rest e = cc

  module _ (told : Told c t) where
    nothing_asked : (l : ℕ) (q : Spot) → ((a : Sort) → at q.locals l ≡ Some a → a ≡ s.none) →
        asks_nothing c t (at q.locals l) ≡ true
    nothing_asked l q h = by_sort (at q.locals l) h
      where
        by_sort : (m : Option Sort) → ((a : Sort) → m ≡ Some a → a ≡ s.none) → asks_nothing c t m ≡ true
        by_sort None h = refl
        by_sort (Some a) h = subst (λ a. same a s.none ≡ true) (sym (h a refl)) refl

    quiet_back : (l : ℕ) (js : List ℕ) → Quiet c (notes c t) l js → is_quiet c t js l ≡ true
    quiet_back l [] r = refl
    quiet_back l (j ∷ js) (quiet_so {label = k} e h r) =
        and_from (asks_nothing c t (at (locals_at c t (try_label (slice_get c.ops j))) l)) (is_quiet c t js l)
        (subst (λ (m : Option Op). asks_nothing c t (at (locals_at c t (try_label m)) l) ≡ true) (sym e)
        (by_spot (spot_at t k) refl)) (quiet_back l js r)
      where
        by_spot : (m : Option Spot) → spot_at t k ≡ m → asks_nothing c t (at (spot_locals m []) l) ≡ true
        by_spot None f = refl
        by_spot (Some q) f =
            nothing_asked l q (λ a g. h (cut q) a (point_there c t k q f (told.even k q f)) g)

    pub quiet_in : (l : ℕ) (p : Spot) → Quiet c (notes c t) l (names (cut p)) → is_quiet c t (tries_of c t p) l ≡ true
    quiet_in l p q =
        quiet_back l (tries_of c t p) (subst (Quiet c (notes c t) l) (names_are c t p) q)

    -- a deferred block's first operation
    pub record EntryAt (p : Spot) (e count : ℕ) (q : Spot) : Type 0 where
      pub there : spot_at t e ≡ Some q
      pub func : p.func ≡ q.func
      pub arm : p.arm ≡ q.arm
      pub block : q.block ≡ Some e
      pub stack : q.stack ≡ []
      pub tries : q.tries ≡ []
      pub defers : q.defers ≡ []
      pub under : q.under ≡ p.under + count

    pub entry_at : (p : Spot) (e count : ℕ) (q : Point) → Entry c (notes c t) (cut p) e count q →
        (x : Spot) × EntryAt p e count x × (cut x ≡ q)
    entry_at p e count q n = by_spot (spotted c t e q n.live)
      where
        by_spot : Spotted c t e q → (x : Spot) × EntryAt p e count x × (cut x ≡ q)
        by_spot x =
            let b = bare_spot x.spot (ap (λ (r : Point). r.stack) x.is ∙ n.stack) (ap (λ (r : Point). r.tries) x.is ∙ n.tries) in (
              x.spot,
              record {
                there = x.there;
                func = n.func ∙ sym (ap (λ (r : Point). r.func) x.is);
                arm = n.arm ∙ sym (ap (λ (r : Point). r.arm) x.is);
                block = ap (λ (r : Point). r.block) x.is ∙ n.block;
                stack = b.0;
                tries = b.1;
                defers = ap (λ (r : Point). r.defers) x.is ∙ n.defers;
                under = ap (λ (r : Point). r.under) x.is ∙ n.under;
              },
              x.is,
            )

    pub ready_back : (p : Spot) (ls : List Sort) (ds : List ℕ) → Ready c (notes c t) (cut p) ls ds → ready c t p ls ds ≡ true
    ready_back p ls [] r = refl
    ready_back p ls (e ∷ ds) (ready_so {point = point} more n outer f r) =
        let y = entry_at p e (length ds) point n in
        let x = y.1 in
        let is = y.2 in
        and_from (on_spot (spot_at t e) (λ q. entry_fits c t p e (length ds) ls q)) (ready c t p (spot_locals (spot_at t e) ls) ds)
        (subst (λ m. on_spot m (λ q. entry_fits c t p e (length ds) ls q) ≡ true) (sym x.there)
        (and_from _ _ (and_from _ _ (and_from _ _ (and_from _ _ (and_from _ _ (and_from _ _ (and_from _ _ (and_from _ _
        (fitting.same_number p.func y.0.func x.func) (leading.arm_back p.arm y.0.arm x.arm))
        (leading.number_back (Some e) y.0.block (sym x.block))) (nil_back y.0.stack x.stack)) (nil_back y.0.tries x.tries))
        (nil_back y.0.defers x.defers)) (fitting.same_number (p.under + length ds) y.0.under (sym x.under)))
        (ends_back more y.0.outer (tries_of c t p) (ap (λ (r : Point). more ++ r.outer) is ∙ outer ∙ names_are c t p)))
        (leading.each_fits c t told (subst (λ (r : Point). Fitting c t ls r.locals) (sym is) f))))
        (subst (λ (m : Option Spot). ready c t p (spot_locals m ls) ds ≡ true) (sym x.there)
        (ready_back p y.0.locals ds (subst (λ (r : Point). Ready c (notes c t) (cut p) r.locals ds) (sym is) r)))
