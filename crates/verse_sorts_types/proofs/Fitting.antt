-- A type that fits another one has a sort that fits the other's.
use Rattle.std.proofs.Common.{◌≡◌, ℕ, zero, suc, Bool, true, false, cond, nat_eq, List, Option, Some, None, refl, sym}
use Rattle.std.proofs.Common.{subst, ap}
use Rattle.std.specs.Prelude.{length, is_some}
use Rattle.std.proofs.lemmas.Bool.{eqb-true}
use Rattle.verse_base.proofs.Facts.{and_first, and_second}
use Rattle.verse_rules_types.specs.Types as t
use Rattle.verse_rules_types.specs.Types.{Ty, Tys, Class}
use Rattle.verse_rules_types.specs.Fitting.{fits, all_fit, is_same, all_same, first_above, above, parent_of, alone_fits}
use Rattle.verse_sorts.specs.Sorts as s
use Rattle.verse_sorts.specs.Sorts.{IsKnown, Inherits, itself, Fits, FitAll, to_any, from_never, fits_nil}
use Rattle.verse_sorts.specs.Sorts.{fits_int, fits_logic, fits_char, nil_logic, nil_opt, fits_enum}
use Rattle.verse_sorts.specs.Sorts.{fits_obj, fits_event, fits_task, fits_opt, fits_list, fits_map, fits_tuple, fit_none, fit_more}
use Rattle.verse_sorts_types.specs.SortOf.{sort_of, sorts_of}

same_number : (a b : ℕ) → nat_eq a b ≡ true → a ≡ b
same_number a b h = eqb-true a b h

module _ (cs : List Class) where
  over : (n c d : ℕ) (p : Option ℕ) → parent_of cs c ≡ p → ((q : ℕ) → is_some (first_above cs (nat_eq d) n q) ≡ true →
      Inherits (parent_of cs) q d) → is_some (above p (first_above cs (nat_eq d) n)) ≡ true → Inherits (parent_of cs) c d
  over n c d None e f h = cc
  over n c d (Some p) e f h = s.above e (f p h)

  from : (n c d : ℕ) (b : Bool) → nat_eq d c ≡ b → ((q : ℕ) → is_some (first_above cs (nat_eq d) n q) ≡ true →
      Inherits (parent_of cs) q d) → is_some (cond b (Some c) (above (parent_of cs c) (first_above cs (nat_eq d) n))) ≡ true →
      Inherits (parent_of cs) c d
  from n c d true e f h = subst (λ x. Inherits (parent_of cs) c x) (sym (same_number d c e)) itself
  from n c d false e f h = over n c d (parent_of cs c) refl f h

  pub climb : (n c d : ℕ) → is_some (first_above cs (nat_eq d) n c) ≡ true → Inherits (parent_of cs) c d
  climb zero c d h = cc
  climb (suc n) c d h = from n c d (nat_eq d c) refl (λ q k. climb n q d k) h

both_same : (k l a b : Ty) → k ≡ l → a ≡ b → t.mapping k a ≡ t.mapping l b
both_same k l a b e f = rw (e, f)

more_same : (a b : Ty) (as1 bs : Tys) → a ≡ b → as1 ≡ bs → t.more_tys a as1 ≡ t.more_tys b bs
more_same a b as1 bs e f = rw (e, f)

mutual
  pub same : (a b : Ty) → is_same a b ≡ true → a ≡ b
  same t.never t.never h = refl
  same t.nil t.nil h = refl
  same t.void t.void h = refl
  same t.int t.int h = refl
  same t.logic t.logic h = refl
  same t.char t.char h = refl
  same (t.enum e) (t.enum f) h = ap t.enum (same_number e f h)
  same (t.class e) (t.class f) h = ap t.class (same_number e f h)
  same (t.option a) (t.option b) h = ap t.option (same a b h)
  same (t.array a) (t.array b) h = ap t.array (same a b h)
  same (t.task a) (t.task b) h = ap t.task (same a b h)
  same (t.event a) (t.event b) h = ap t.event (same a b h)
  same (t.mapping k a) (t.mapping l b) h = both_same k l a b (same k l (and_first _ _ h)) (same a b (and_second _ _ h))
  same (t.tuple a) (t.tuple b) h = ap t.tuple (each_same a b h)
  same a b h = cc

  each_same : (a b : Tys) → all_same a b ≡ true → a ≡ b
  each_same t.no_tys t.no_tys h = refl
  each_same (t.more_tys a as1) (t.more_tys b bs) h = more_same a b as1 bs (same a b (and_first _ _ h)) (each_same as1 bs (and_second _ _ h))
  each_same a b h = cc

-- no sort of a type is that of a local of which nothing is known
pub sort_known : (a : Ty) → IsKnown (sort_of a)
sort_known t.never = tt
sort_known t.nil = tt
sort_known t.void = tt
sort_known t.int = tt
sort_known t.logic = tt
sort_known t.char = tt
sort_known (t.enum e) = tt
sort_known (t.class c) = tt
sort_known (t.option a) = tt
sort_known (t.array a) = tt
sort_known (t.task a) = tt
sort_known (t.event a) = tt
sort_known (t.mapping k a) = tt
sort_known (t.tuple as1) = tt

module _ (cs : List Class) where
  -- what is the same fits
  itself_fits : (a b : Ty) → Fits (parent_of cs) (sort_of a) (sort_of a) → is_same a b ≡ true → Fits (parent_of cs) (sort_of a) (sort_of b)
  itself_fits a b f h = subst (λ x. Fits (parent_of cs) (sort_of a) (sort_of x)) (same a b h) f

  alone_sort : (a b : Ty) → Fits (parent_of cs) (sort_of a) (sort_of a) → alone_fits a b ≡ true →
      Fits (parent_of cs) (sort_of a) (sort_of b)
  alone_sort a t.void f h = to_any (sort_known a)
  alone_sort a b f h = itself_fits a b f h

  mutual
    pub fits_sort : (a b : Ty) → fits cs a b ≡ true → Fits (parent_of cs) (sort_of a) (sort_of b)
    fits_sort t.never b h = from_never
    fits_sort t.nil t.nil h = fits_nil
    fits_sort t.nil t.logic h = nil_logic
    fits_sort t.nil (t.option b) h = nil_opt
    fits_sort t.nil t.void h = to_any tt
    fits_sort t.void b h = alone_sort t.void b (to_any tt) h
    fits_sort t.int b h = alone_sort t.int b fits_int h
    fits_sort t.logic b h = alone_sort t.logic b fits_logic h
    fits_sort t.char b h = alone_sort t.char b fits_char h
    fits_sort (t.enum e) b h = alone_sort (t.enum e) b fits_enum h
    fits_sort (t.event a) b h = alone_sort (t.event a) b fits_event h
    fits_sort (t.class c) (t.class d) h = fits_obj (climb cs (length cs) c d h)
    fits_sort (t.class c) t.void h = to_any tt
    fits_sort (t.option a) (t.option b) h = fits_opt (fits_sort a b h)
    fits_sort (t.option a) t.void h = to_any tt
    fits_sort (t.array a) (t.array b) h = fits_list (fits_sort a b h)
    fits_sort (t.array a) t.void h = to_any tt
    fits_sort (t.task a) (t.task b) h = fits_task (fits_sort a b h)
    fits_sort (t.task a) t.void h = to_any tt
    fits_sort (t.mapping k a) (t.mapping l b) h = fits_map (fits_sort k l (and_first _ _ h)) (fits_sort a b (and_second _ _ h))
    fits_sort (t.mapping k a) t.void h = to_any tt
    fits_sort (t.tuple a) (t.tuple b) h = fits_tuple (each_sort a b h)
    fits_sort (t.tuple a) t.void h = to_any tt
    fits_sort a b h = cc

    each_sort : (a b : Tys) → all_fit cs a b ≡ true → FitAll (parent_of cs) (sorts_of a) (sorts_of b)
    each_sort t.no_tys t.no_tys h = fit_none
    each_sort (t.more_tys a as1) (t.more_tys b bs) h = fit_more (fits_sort a b (and_first _ _ h)) (each_sort as1 bs (and_second _ _ h))
    each_sort a b h = cc
