-- Two types fit what they join to.
use Rattle.std.proofs.Common.{◌≡◌, ℕ, zero, suc, Bool, true, false, cond, List, Option, Some, None, refl}
use Rattle.std.proofs.Common.{subst}
use Rattle.std.specs.Prelude.{length}
use Rattle.std.proofs.lemmas.Option.{same_Some}
use Rattle.verse_rules_types.specs.Types as t
use Rattle.verse_rules_types.specs.Types.{Ty, Tys, Class}
use Rattle.verse_rules_types.specs.Fitting.{fits, inherits, first_above, above, parent_of, class_or_void, common, pick, tuple_or_void}
use Rattle.verse_rules_types.specs.Fitting.{one_more, joined}
use Rattle.verse_rules_types.specs.Fitting.{all_joined, join}
use Rattle.verse_sorts.specs.Sorts as s
use Rattle.verse_sorts.specs.Sorts.{Inherits, itself, Fits, FitAll, to_any, from_never, fits_nil}
use Rattle.verse_sorts.specs.Sorts.{fits_int, fits_logic, fits_char, fits_enum}
use Rattle.verse_sorts.specs.Sorts.{fits_obj, fits_event, fits_task, fits_opt, fits_list, fits_map, fits_tuple, fit_none, fit_more}
use Rattle.verse_sorts_types.specs.SortOf.{sort_of, sorts_of}
use Rattle.verse_sorts_types.proofs.Fitting.{sort_known, fits_sort, climb}

module _ (cs : List Class) where
  mutual
    pub sort_itself : (a : Ty) → Fits (parent_of cs) (sort_of a) (sort_of a)
    sort_itself t.never = from_never
    sort_itself t.nil = fits_nil
    sort_itself t.void = to_any tt
    sort_itself t.int = fits_int
    sort_itself t.logic = fits_logic
    sort_itself t.char = fits_char
    sort_itself (t.enum e) = fits_enum
    sort_itself (t.class c) = fits_obj itself
    sort_itself (t.option a) = fits_opt (sort_itself a)
    sort_itself (t.array a) = fits_list (sort_itself a)
    sort_itself (t.task a) = fits_task (sort_itself a)
    sort_itself (t.event a) = fits_event
    sort_itself (t.mapping k a) = fits_map (sort_itself k) (sort_itself a)
    sort_itself (t.tuple as1) = fits_tuple (sorts_itself as1)

    pub sorts_itself : (a : Tys) → FitAll (parent_of cs) (sorts_of a) (sorts_of a)
    sorts_itself t.no_tys = fit_none
    sorts_itself (t.more_tys a as1) = fit_more (sort_itself a) (sorts_itself as1)

  -- what is found above a class
  found_over : (test : ℕ → Bool) (n c e : ℕ) (p : Option ℕ) → parent_of cs c ≡ p → ((q : ℕ) → first_above cs test n q ≡ Some e →
      Inherits (parent_of cs) q e × (test e ≡ true)) → above p (first_above cs test n) ≡ Some e →
      Inherits (parent_of cs) c e × (test e ≡ true)
  found_over test n c e None h f g = cc
  found_over test n c e (Some p) h f g = (s.above h (f p g).0, (f p g).1)

  found_from : (test : ℕ → Bool) (n c e : ℕ) (b : Bool) → test c ≡ b → ((q : ℕ) → first_above cs test n q ≡ Some e →
      Inherits (parent_of cs) q e × (test e ≡ true)) → cond b (Some c) (above (parent_of cs c) (first_above cs test n)) ≡ Some e →
      Inherits (parent_of cs) c e × (test e ≡ true)
  found_from test n c e true h f g = subst (λ x. Inherits (parent_of cs) c x × (test x ≡ true)) (same_Some c e g) (itself, h)
  found_from test n c e false h f g = found_over test n c e (parent_of cs c) refl f g

  found : (test : ℕ → Bool) (n c e : ℕ) → first_above cs test n c ≡ Some e → Inherits (parent_of cs) c e × (test e ≡ true)
  found test zero c e h = cc
  found test (suc n) c e h = found_from test n c e (test c) refl (λ q k. found test n q e k) h

  common_over : (c d : ℕ) (p : Option ℕ) → common cs c d ≡ p → Fits (parent_of cs) (s.obj c) (sort_of (class_or_void p)) ×
      Fits (parent_of cs) (s.obj d) (sort_of (class_or_void p))
  common_over c d None h = (to_any tt, to_any tt)
  common_over c d (Some e) h = (
    fits_obj (found (inherits cs d) (length cs) c e h).0,
    fits_obj (climb cs (length cs) d e (found (inherits cs d)
        (length cs) c e h).1),
  )

  abbrev pub Both : Ty → Ty → Ty → Type 0
  Both a b c = Fits (parent_of cs) (sort_of a) (sort_of c) × Fits (parent_of cs) (sort_of b) (sort_of c)

  picked : (a b c : Ty) (x y : Bool) → fits cs a b ≡ x → fits cs b a ≡ y → Both a b c → Both a b (cond x b (cond y a c))
  picked a b c true y h k f = (fits_sort cs a b h, sort_itself b)
  picked a b c false true h k f = (sort_itself a, fits_sort cs b a k)
  picked a b c false false h k f = f

  pick_both : (a b c : Ty) → Both a b c → Both a b (pick cs a b c)
  pick_both a b c f = picked a b c (fits cs a b) (fits cs b a) refl refl f

  abbrev pub BothAll : Tys → Tys → Option Tys → Type 0
  BothAll as1 bs None = Unit {0}
  BothAll as1 bs (Some cs1) = FitAll (parent_of cs) (sorts_of as1) (sorts_of cs1) × FitAll (parent_of cs) (sorts_of bs) (sorts_of cs1)

  more_both : (a b c : Ty) (as1 bs : Tys) (cs1 : Option Tys) → Both a b c → BothAll as1 bs cs1 →
      BothAll (t.more_tys a as1) (t.more_tys b bs) (one_more c cs1)
  more_both a b c as1 bs None f g = tt
  more_both a b c as1 bs (Some cs1) f g = (fit_more f.0 g.0, fit_more f.1 g.1)

  tuple_both : (as1 bs : Tys) (cs1 : Option Tys) → BothAll as1 bs cs1 → Both (t.tuple as1) (t.tuple bs) (tuple_or_void cs1)
  tuple_both as1 bs None f = (to_any tt, to_any tt)
  tuple_both as1 bs (Some cs1) f = (fits_tuple f.0, fits_tuple f.1)

  mutual
    pub joined_both : (a b : Ty) → Both a b (joined cs a b)
    joined_both (t.class c) (t.class d) = common_over c d (common cs c d) refl
    joined_both (t.option a) (t.option b) = let f = pick_both a b (joined cs a b) (joined_both a b) in (fits_opt f.0, fits_opt f.1)
    joined_both (t.array a) (t.array b) = let f = pick_both a b (joined cs a b) (joined_both a b) in (fits_list f.0, fits_list f.1)
    joined_both (t.task a) (t.task b) = let f = pick_both a b (joined cs a b) (joined_both a b) in (fits_task f.0, fits_task f.1)
    joined_both (t.mapping k a) (t.mapping l b) =
        let f = pick_both k l (joined cs k l) (joined_both k l) in let g = pick_both a b (joined cs a b) (joined_both a b) in
        (fits_map f.0 g.0, fits_map f.1 g.1)
    joined_both (t.tuple as1) (t.tuple bs) = tuple_both as1 bs (all_joined cs as1 bs) (each_both as1 bs)
    joined_both a b = (to_any (sort_known a), to_any (sort_known b))

    each_both : (as1 bs : Tys) → BothAll as1 bs (all_joined cs as1 bs)
    each_both t.no_tys t.no_tys = (fit_none, fit_none)
    each_both (t.more_tys a as1) (t.more_tys b bs) =
        more_both a b (pick cs a b (joined cs a b)) as1 bs (all_joined cs as1 bs) (pick_both a b (joined cs a b) (joined_both a b))
        (each_both as1 bs)
    each_both as1 bs = tt

  pub join_both : (a b : Ty) → Both a b (join cs a b)
  join_both a b = pick_both a b (joined cs a b) (joined_both a b)
