-- Sorts that fit pass the tests.
use Rattle.std.proofs.Common.{◌≡◌, ℕ, zero, suc, ◌≤◌, ◌<◌, length, List, Option, Some, Bool, true, false, cond}
use Rattle.std.proofs.Common.{refl, sym, subst, arith}
use Rattle.std.specs.Prelude.{slice_get}
use Rattle.std.proofs.lemmas.Bool.{and_from}
use Rattle.verse_meaning_state.specs.Waits.{eqn}
use Rattle.verse_meaning_state.proofs.Numbers.{eqn_same}
use Rattle.verse_code_machine_parents.proofs.Lists.{no_both}
use Rattle.verse_sorts.specs.Sorts as s
use Rattle.verse_sorts.specs.Sorts.{Sort, Sorts, IsKnown, Inherits, itself, above, Fits, FitAll, to_none, to_any, from_never, fits_unit}
use Rattle.verse_sorts.specs.Sorts.{fits_nil}
use Rattle.verse_sorts.specs.Sorts.{fits_int, fits_logic, fits_char, fits_span, nil_logic, nil_opt, int_span, unit_span, fits_enum}
use Rattle.verse_sorts.specs.Sorts.{fits_obj, fits_var, fits_event, fits_task, fits_opt, fits_list, fits_map, fits_tuple, fit_none}
use Rattle.verse_sorts.specs.Sorts.{fit_more, IsKey, key_never, key_nil, key_int, key_logic, key_char, key_enum, key_text}
use Rattle.verse_verify_kept.specs.Notes.{ClassNote, parent_in}
use Rattle.verse_verify_faults.specs.Fitting.{same, same_all, heir, on_parent, fit, fit_each, is_key}

pub same_number : (a b : ℕ) → a ≡ b → eqn a b ≡ true
same_number a b e = subst (λ b. eqn a b ≡ true) e (eqn_same a)

mutual
  pub same_back : (a : Sort) → same a a ≡ true
  same_back s.none = refl
  same_back s.any = refl
  same_back s.never = refl
  same_back s.unit = refl
  same_back s.nil = refl
  same_back s.int = refl
  same_back s.logic = refl
  same_back s.char = refl
  same_back s.span = refl
  same_back (s.enum e) = eqn_same e
  same_back (s.obj c) = eqn_same c
  same_back (s.var a) = same_back a
  same_back (s.event a) = same_back a
  same_back (s.task a) = same_back a
  same_back (s.opt a) = same_back a
  same_back (s.list a) = same_back a
  same_back (s.map k a) = and_from (same k k) (same a a) (same_back k) (same_back a)
  same_back (s.tuple xs) = same_all_back xs

  pub same_all_back : (xs : Sorts) → same_all xs xs ≡ true
  same_all_back s.no_sorts = refl
  same_all_back (s.more_sorts a xs) = and_from (same a a) (same_all xs xs) (same_back a) (same_all_back xs)

pub cond_or : (b x : Bool) → x ≡ true → cond b true x ≡ true
cond_or true x e = refl
cond_or false x e = e

pub cond_yes : (b x : Bool) → b ≡ true → cond b true x ≡ true
cond_yes true x e = refl
cond_yes false x e = no_both (sym e)

module _ (cs : List ClassNote) where
  abbrev pub up : ℕ → Option ℕ
  up c = parent_in (slice_get cs c)

  fits_none : (a : Sort) → fit cs a s.none ≡ true
  fits_none s.none = refl
  fits_none s.any = refl
  fits_none s.never = refl
  fits_none s.unit = refl
  fits_none s.nil = refl
  fits_none s.int = refl
  fits_none s.logic = refl
  fits_none s.char = refl
  fits_none s.span = refl
  fits_none (s.enum e) = refl
  fits_none (s.obj c) = refl
  fits_none (s.var a) = refl
  fits_none (s.event a) = refl
  fits_none (s.task a) = refl
  fits_none (s.opt a) = refl
  fits_none (s.list a) = refl
  fits_none (s.map k a) = refl
  fits_none (s.tuple xs) = refl

  fits_any : (a : Sort) → IsKnown a → fit cs a s.any ≡ true
  fits_any s.none k = elim k [ ]
  fits_any s.any k = refl
  fits_any s.never k = refl
  fits_any s.unit k = refl
  fits_any s.nil k = refl
  fits_any s.int k = refl
  fits_any s.logic k = refl
  fits_any s.char k = refl
  fits_any s.span k = refl
  fits_any (s.enum e) k = refl
  fits_any (s.obj c) k = refl
  fits_any (s.var a) k = refl
  fits_any (s.event a) k = refl
  fits_any (s.task a) k = refl
  fits_any (s.opt a) k = refl
  fits_any (s.list a) k = refl
  fits_any (s.map l a) k = refl
  fits_any (s.tuple xs) k = refl

  module _ (rank : ℕ → ℕ) (falls : (k b : ℕ) → up k ≡ Some b → rank b < rank k) (most : (k : ℕ) → rank k ≤ length cs) where
    heir_back : (k : ℕ) {c d : ℕ} → rank c ≤ k → Inherits up c d → heir k cs c d ≡ true
    heir_back zero {c = c} l itself = eqn_same c
    heir_back (suc k) {c = c} l itself =
        cond_yes (eqn c c) (on_parent (up c) (λ b. heir k cs b c)) (eqn_same c)
    heir_back zero {c = c} l (above {d = e} h r) = elim (lowest (rank e) (rank c) (falls c e h) l) [ ]
      where
        lowest : (a b : ℕ) → a < b → b ≤ 0 → ⊥
        lowest a b l k = omega (arith, l, k)
    heir_back (suc k) {c = c} {d = d} l (above {d = e} h r) =
        cond_or (eqn c d) (on_parent (up c) (λ b. heir k cs b d))
        (subst (λ m. on_parent m (λ b. heir k cs b d) ≡ true) (sym h)
        (heir_back k (lower (rank e) (rank c) k (falls c e h) l) r))
      where
        lower : (a b k : ℕ) → a < b → b ≤ suc k → a ≤ k
        lower a b k l m = omega (arith, l, m)

    mutual
      pub fit_back : {a b : Sort} → Fits up a b → fit cs a b ≡ true
      fit_back {a = a} to_none = fits_none a
      fit_back {a = a} (to_any k) = fits_any a k
      fit_back from_never = refl
      fit_back fits_unit = refl
      fit_back fits_nil = refl
      fit_back fits_int = refl
      fit_back fits_logic = refl
      fit_back fits_char = refl
      fit_back fits_span = refl
      fit_back nil_logic = refl
      fit_back nil_opt = refl
      fit_back int_span = refl
      fit_back unit_span = refl
      fit_back (fits_enum {e = e}) = eqn_same e
      fit_back (fits_obj {c = c} h) = heir_back (length cs) (most c) h
      fit_back (fits_var {s = a}) = same_back a
      fit_back (fits_event {s = a}) = same_back a
      fit_back (fits_task f) = fit_back f
      fit_back (fits_opt f) = fit_back f
      fit_back (fits_list f) = fit_back f
      fit_back (fits_map {k = k} {l = l} {s = a} {t = b} f g) =
          and_from (fit cs k l) (fit cs a b) (fit_back f) (fit_back g)
      fit_back (fits_tuple f) = fit_each_back f

      pub fit_each_back : {xs ys : Sorts} → FitAll up xs ys → fit_each cs xs ys ≡ true
      fit_each_back fit_none = refl
      fit_each_back (fit_more {s = a} {t = b} {ss = xs} {ts = ys} f g) =
          and_from (fit cs a b) (fit_each cs xs ys) (fit_back f) (fit_each_back g)

pub is_key_back : {a : Sort} → IsKey a → is_key a ≡ true
is_key_back key_never = refl
is_key_back key_nil = refl
is_key_back key_int = refl
is_key_back key_logic = refl
is_key_back key_char = refl
is_key_back key_enum = refl
is_key_back key_text = refl
