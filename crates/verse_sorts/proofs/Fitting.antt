-- A value of a sort is of each sort that it fits, and stays so where more is there.
use Rattle.std.proofs.Common.{◌≡◌, ◌≢◌, ℕ, List, [], ◌∷◌, Option, refl, ◌∙◌}
use Rattle.verse_value.specs.Val.{Val, Vals, Pairs}
use Rattle.verse_sorts.specs.Sorts as s
use Rattle.verse_sorts.specs.Sorts.{Sort, Sorts, IsKnown, Inherits, itself, above, Fits, FitAll, to_none, to_any, from_never, fits_unit}
use Rattle.verse_sorts.specs.Sorts.{fits_nil}
use Rattle.verse_sorts.specs.Sorts.{fits_int, fits_logic, fits_char, fits_span, nil_logic, nil_opt, int_span, unit_span, fits_enum}
use Rattle.verse_sorts.specs.Sorts.{fits_obj, fits_var, fits_event, fits_task, fits_opt, fits_list, fits_map, fits_tuple, fit_none}
use Rattle.verse_sorts.specs.Sorts.{fit_more}
use Rattle.verse_sorts.specs.Typing.{Typing, Grows, Adds, Is, AreAll, ArePairs, AreEach, is_none, is_any, is_unit, is_nil, is_false}
use Rattle.verse_sorts.specs.Typing.{is_true}
use Rattle.verse_sorts.specs.Typing.{is_int, is_char, is_low, is_over, is_enum, is_object, is_var, is_event, is_task, is_empty, is_some}
use Rattle.verse_sorts.specs.Typing.{is_list, is_map, is_tuple, no_all, more_all, no_entries, more_entries, no_each, more_each, Are}
use Rattle.verse_sorts.specs.Typing.{AllFit, are_no}
use Rattle.verse_sorts.specs.Typing.{are_so, fit_no, fit_so}

-- all but none are known
pub known_sort : (a : Sort) → a ≢ s.none → IsKnown a
known_sort s.none h = elim (h refl) [ ]
known_sort a h = tt

module _ (up : ℕ → Option ℕ) where
  pub inherits_on : {c d e : ℕ} → Inherits up c d → Inherits up d e → Inherits up c e
  inherits_on itself b = b
  inherits_on (above h a) b = above h (inherits_on a b)

  -- of what fits a sort that is known, the sort is known
  pub known_below : {a b : Sort} → Fits up a b → IsKnown b → IsKnown a
  known_below to_none k = elim k [ ]
  known_below (to_any h) k = h
  known_below from_never k = tt
  known_below fits_unit k = tt
  known_below fits_nil k = tt
  known_below fits_int k = tt
  known_below fits_logic k = tt
  known_below fits_char k = tt
  known_below fits_span k = tt
  known_below nil_logic k = tt
  known_below nil_opt k = tt
  known_below int_span k = tt
  known_below unit_span k = tt
  known_below fits_enum k = tt
  known_below (fits_obj f) k = tt
  known_below fits_var k = tt
  known_below fits_event k = tt
  known_below (fits_task f) k = tt
  known_below (fits_opt f) k = tt
  known_below (fits_list f) k = tt
  known_below (fits_map f g) k = tt
  known_below (fits_tuple f) k = tt

  pub none_alone : {a : Sort} → Fits up s.none a → a ≡ s.none
  none_alone to_none = refl
  none_alone (to_any k) = elim k [ ]

  mutual
    pub fits_on : {a b c : Sort} → Fits up a b → Fits up b c → Fits up a c
    fits_on f to_none = to_none
    fits_on f (to_any k) = to_any (known_below f k)
    fits_on from_never g = from_never
    fits_on fits_unit g = g
    fits_on fits_nil g = g
    fits_on fits_int g = g
    fits_on fits_logic g = g
    fits_on fits_char g = g
    fits_on fits_span g = g
    fits_on fits_enum g = g
    fits_on fits_var g = g
    fits_on fits_event g = g
    fits_on nil_logic fits_logic = nil_logic
    fits_on nil_opt (fits_opt g) = nil_opt
    fits_on int_span fits_span = int_span
    fits_on unit_span fits_span = unit_span
    fits_on (fits_obj f) (fits_obj g) = fits_obj (inherits_on f g)
    fits_on (fits_task f) (fits_task g) = fits_task (fits_on f g)
    fits_on (fits_opt f) (fits_opt g) = fits_opt (fits_on f g)
    fits_on (fits_list f) (fits_list g) = fits_list (fits_on f g)
    fits_on (fits_map f e) (fits_map g h) = fits_map (fits_on f g) (fits_on e h)
    fits_on (fits_tuple f) (fits_tuple g) = fits_tuple (fit_all_on f g)

    pub fit_all_on : {a b c : Sorts} → FitAll up a b → FitAll up b c → FitAll up a c
    fit_all_on fit_none fit_none = fit_none
    fit_all_on (fit_more f fs) (fit_more g gs) = fit_more (fits_on f g) (fit_all_on fs gs)

  mutual
    pub is_up : {t : Typing} {v : Val} {a b : Sort} → Is up t v a → Fits up a b → Is up t v b
    is_up i to_none = is_none
    is_up i (to_any k) = is_any
    is_up i from_never = elim i [ ]
    is_up i fits_unit = i
    is_up i fits_nil = i
    is_up i fits_int = i
    is_up i fits_logic = i
    is_up i fits_char = i
    is_up i fits_span = i
    is_up i fits_enum = i
    is_up i fits_var = i
    is_up i fits_event = i
    is_up is_nil nil_logic = is_false
    is_up is_nil nil_opt = is_empty
    is_up is_int int_span = is_low
    is_up is_unit unit_span = is_over
    is_up (is_object h k) (fits_obj f) = is_object h (inherits_on k f)
    is_up (is_task h k) (fits_task f) = is_task h (fits_on k f)
    is_up is_empty (fits_opt f) = is_empty
    is_up (is_some i) (fits_opt f) = is_some (is_up i f)
    is_up (is_list i) (fits_list f) = is_list (all_up i f)
    is_up (is_map i) (fits_map f g) = is_map (pairs_up i f g)
    is_up (is_tuple i) (fits_tuple f) = is_tuple (each_up i f)

    pub all_up : {t : Typing} {vs : Vals} {a b : Sort} → AreAll up t vs a → Fits up a b → AreAll up t vs b
    all_up no_all f = no_all
    all_up (more_all i is) f = more_all (is_up i f) (all_up is f)

    pub pairs_up : {t : Typing} {ps : Pairs} {k l a b : Sort} → ArePairs up t ps k a → Fits up k l → Fits up a b → ArePairs up t ps l b
    pairs_up no_entries f g = no_entries
    pairs_up (more_entries i j is) f g = more_entries (is_up i f) (is_up j g) (pairs_up is f g)

    pub each_up : {t : Typing} {vs : Vals} {xs ys : Sorts} → AreEach up t vs xs → FitAll up xs ys → AreEach up t vs ys
    each_up no_each fit_none = no_each
    each_up (more_each i is) (fit_more f fs) = more_each (is_up i f) (each_up is fs)

  module _ {t u : Typing} (g : Grows t u) where
    mutual
      pub is_more : {v : Val} {a : Sort} → Is up t v a → Is up u v a
      is_more is_none = is_none
      is_more is_any = is_any
      is_more is_unit = is_unit
      is_more is_nil = is_nil
      is_more is_false = is_false
      is_more is_true = is_true
      is_more is_int = is_int
      is_more is_char = is_char
      is_more is_low = is_low
      is_more is_over = is_over
      is_more is_enum = is_enum
      is_more (is_object h k) = is_object (g.cells _ _ h) k
      is_more (is_var h) = is_var (g.cells _ _ h)
      is_more (is_event h) = is_event (g.cells _ _ h)
      is_more (is_task h k) = is_task (g.entries _ _ h) k
      is_more is_empty = is_empty
      is_more (is_some i) = is_some (is_more i)
      is_more (is_list i) = is_list (all_more i)
      is_more (is_map i) = is_map (pairs_more i)
      is_more (is_tuple i) = is_tuple (each_more i)

      pub all_more : {vs : Vals} {a : Sort} → AreAll up t vs a → AreAll up u vs a
      all_more no_all = no_all
      all_more (more_all i is) = more_all (is_more i) (all_more is)

      pub pairs_more : {ps : Pairs} {k a : Sort} → ArePairs up t ps k a → ArePairs up u ps k a
      pairs_more no_entries = no_entries
      pairs_more (more_entries i j is) = more_entries (is_more i) (is_more j) (pairs_more is)

      pub each_more : {vs : Vals} {xs : Sorts} → AreEach up t vs xs → AreEach up u vs xs
      each_more no_each = no_each
      each_more (more_each i is) = more_each (is_more i) (each_more is)

    pub are_more : {vs : List Val} {xs : List Sort} → Are up t vs xs → Are up u vs xs
    are_more are_no = are_no
    are_more (are_so i is) = are_so (is_more i) (are_more is)

  pub are_up : {t : Typing} {vs : List Val} {xs ys : List Sort} → Are up t vs xs → AllFit up xs ys → Are up t vs ys
  are_up are_no fit_no = are_no
  are_up (are_so i is) (fit_so f fs) = are_so (is_up i f) (are_up is fs)

  mutual
    pub fits_itself : (a : Sort) → Fits up a a
    fits_itself s.none = to_none
    fits_itself s.any = to_any tt
    fits_itself s.never = from_never
    fits_itself s.unit = fits_unit
    fits_itself s.nil = fits_nil
    fits_itself s.int = fits_int
    fits_itself s.logic = fits_logic
    fits_itself s.char = fits_char
    fits_itself s.span = fits_span
    fits_itself (s.enum e) = fits_enum
    fits_itself (s.obj c) = fits_obj itself
    fits_itself (s.var a) = fits_var
    fits_itself (s.event a) = fits_event
    fits_itself (s.task a) = fits_task (fits_itself a)
    fits_itself (s.opt a) = fits_opt (fits_itself a)
    fits_itself (s.list a) = fits_list (fits_itself a)
    fits_itself (s.map k a) = fits_map (fits_itself k) (fits_itself a)
    fits_itself (s.tuple xs) = fits_tuple (fit_all_itself xs)

    fit_all_itself : (xs : Sorts) → FitAll up xs xs
    fit_all_itself s.no_sorts = fit_none
    fit_all_itself (s.more_sorts a xs) = fit_more (fits_itself a) (fit_all_itself xs)

  pub all_itself : (xs : List Sort) → AllFit up xs xs
  all_itself [] = fit_no
  all_itself (a ∷ xs) = fit_so (fits_itself a) (all_itself xs)

  pub all_fit_on : {xs ys zs : List Sort} → AllFit up xs ys → AllFit up ys zs → AllFit up xs zs
  all_fit_on fit_no fit_no = fit_no
  all_fit_on (fit_so f fs) (fit_so g gs) = fit_so (fits_on f g) (all_fit_on fs gs)

pub grows_itself : {t : Typing} → Grows t t
grows_itself = record { cells = λ i s e. e; entries = λ i s e. e; waits = λ i s e. e; parts = λ i s e. e }

pub grows_on : {t u w : Typing} → Grows t u → Grows u w → Grows t w
grows_on g h = record {
  cells = λ i s e. h.cells i s (g.cells i s e);
  entries = λ i s e. h.entries i s (g.entries i s e);
  waits = λ i s e. h.waits i s (g.waits i s e);
  parts = λ i s e. h.parts i s (g.parts i s e);
}

pub adds_itself : {t : Typing} → Adds t t
adds_itself = record { grows = grows_itself; entries = refl; waits = refl; parts = refl }

pub adds_on : {t u w : Typing} → Adds t u → Adds u w → Adds t w
adds_on g h = record {
  grows = grows_on g.grows h.grows;
  entries = g.entries ∙ h.entries;
  waits = g.waits ∙ h.waits;
  parts = g.parts ∙ h.parts;
}
