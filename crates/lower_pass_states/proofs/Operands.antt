-- What is taken of operands, where those that are there fit.
use Rattle.std.proofs.Common.{◌≡◌, ℕ, zero, suc, length, List, [], ◌∷◌, ◌++◌, Option, Some, refl, sym, subst, ap}
use Rattle.std.proofs.lemmas.Option.{same_Some, none-some}
use Rattle.verse_code.specs.declared.codes.Code.{Code}
use Rattle.verse_sorts.specs.Sorts as s
use Rattle.verse_sorts.specs.Sorts.{Sort, Sorts, Fits, FitAll, fit_none, fit_more, IsKey, from_never, fits_list, fits_tuple, fits_opt}
use Rattle.verse_sorts.specs.Sorts.{fits_map}
use Rattle.verse_sorts.specs.Sorts.{fits_int, fits_logic, fits_char, nil_logic, nil_opt, fits_task, fits_event}
use Rattle.verse_sorts.specs.Typing.{AllFit, fit_no, fit_so}
use Rattle.verse_sorts_values.specs.Operands as v
use Rattle.verse_sorts_values.specs.Operands.{HasNever, never_here, never_behind, Every, every_no, every_so, sort_in}
use Rattle.verse_sorts_values.specs.Operands.{Shown, shows_int, shows_char, shows_text, AllShown}
use Rattle.verse_verify_kept.specs.Notes.{Notes, parent_of}
use Rattle.verse_verify_kept.specs.Rules as r
use Rattle.verse_verify_kept.specs.Rules.{AnyNever, first_never, later_never, AllIn, in_no, in_so, Queried, of_option, of_logic, of_nil}
use Rattle.verse_verify_kept.specs.Rules.{of_never}
use Rattle.verse_verify_kept.specs.Rules.{Counted, list_counted, map_counted, never_counted}
use Rattle.lower_pass_states.proofs.Steps.{turned}

module _ (up : ℕ → Option ℕ) where
  fits_never : {a : Sort} → Fits up a s.never → a ≡ s.never
  fits_never from_never = refl

  -- where what is taken has no value, so is it with an operand
  pub has_never : {has taken : List Sort} → AllFit up has taken → HasNever taken → AnyNever has
  has_never (fit_so {xs = xs} f h) never_here = subst (λ a. AnyNever (a ∷ xs)) (sym (fits_never f)) first_never
  has_never (fit_so f h) (never_behind n) = later_never (has_never h n)
  has_never fit_no n = elim n [ ]

-- on the stack
pub never_turned : (qs done : List Sort) → AnyNever qs → AnyNever (turned qs done)
never_turned (q ∷ qs) done first_never = still qs (q ∷ done) first_never
  where
    still : (qs done : List Sort) → AnyNever done → AnyNever (turned qs done)
    still [] done h = h
    still (q ∷ qs) done h = still qs (q ∷ done) (later_never h)
never_turned (q ∷ qs) done (later_never h) = never_turned qs (q ∷ done) h
never_turned [] done h = elim h [ ]

pub never_append : (qs st : List Sort) → AnyNever qs → AnyNever (qs ++ st)
never_append (q ∷ qs) st first_never = first_never
never_append (q ∷ qs) st (later_never h) = later_never (never_append qs st h)
never_append [] st h = elim h [ ]

module _ (code : Code) (notes : Notes) where
  abbrev up : ℕ → Option ℕ
  up = parent_of notes

  pub all_in : {u : Sort} {has taken : List Sort} → AllFit up has taken → Every u taken → AllIn code notes u has
  all_in fit_no every_no = in_no
  all_in (fit_so f h) (every_so e) = in_so f (all_in h e)

  -- an option or a logic value is queried
  pub option_queried : {a q : Sort} → Fits up a (s.opt q) → (u : Sort) × (Queried code notes a u × Fits up u q)
  option_queried from_never = (s.never, (of_never, from_never))
  option_queried nil_opt = (s.never, (of_nil, from_never))
  option_queried (fits_opt f) = (_, (of_option, f))

  pub logic_queried : {a : Sort} → Fits up a s.logic → (u : Sort) × (Queried code notes a u × Fits up u s.logic)
  logic_queried from_never = (s.never, (of_never, from_never))
  logic_queried nil_logic = (s.never, (of_nil, from_never))
  logic_queried fits_logic = (s.logic, (of_logic, fits_logic))

  -- what is counted
  pub list_is_counted : {a q : Sort} → Fits up a (s.list q) → Counted code notes a
  list_is_counted from_never = never_counted
  list_is_counted (fits_list f) = list_counted

  pub map_is_counted : {a k q : Sort} → Fits up a (s.map k q) → Counted code notes a
  map_is_counted from_never = never_counted
  map_is_counted (fits_map f g) = map_counted

  -- an item of a tuple
  pub item_in : {xs ys : Sorts} (i : ℕ) {q : Sort} → FitAll up xs ys → sort_in ys i ≡ Some q →
      (u : Sort) × ((r.at_sort xs i ≡ Some u) × Fits up u q)
  item_in i fit_none e = absurd (none-some _ e)
  item_in zero (fit_more {s = a} f h) e = (a, (refl, subst (Fits up a) (same_Some _ _ e) f))
  item_in (suc i) (fit_more f h) e = item_in i h e

  pub sorts_same : (qs : List Sort) → v.sorts qs ≡ r.sorts qs
  sorts_same [] = refl
  sorts_same (q ∷ qs) = ap (s.more_sorts q) (sorts_same qs)

  pub sorts_fit : {xs ys : List Sort} → AllFit up xs ys → FitAll up (r.sorts xs) (v.sorts ys)
  sorts_fit fit_no = fit_none
  sorts_fit (fit_so f h) = fit_more f (sorts_fit h)

  -- what has a text
  pub all_shown : {has taken : List Sort} → AllFit up has taken → AllShown taken → r.Shown code notes has
  all_shown fit_no v.shown_no = r.shown_no
  all_shown (fit_so f h) (v.shown_so shows_int k) = r.shown_int f (all_shown h k)
  all_shown (fit_so f h) (v.shown_so shows_char k) = r.shown_char f (all_shown h k)
  all_shown (fit_so f h) (v.shown_so shows_text k) = r.shown_text f (all_shown h k)

  pub all_many : {xs ys : List Sort} → AllFit up xs ys → length xs ≡ length ys
  all_many fit_no = refl
  all_many (fit_so f h) = ap suc (all_many h)
