-- Tests of sorts: which are the same, which fit which, which are keys.
use Rattle.std.specs.Prelude.{ℕ, zero, suc, List, [], ◌∷◌, length, Option, Some, None, Bool, true}
use Rattle.std.specs.Prelude.{false, ◌&&◌, ◌||◌, cond, slice_get}
use Rattle.verse_meaning_state.specs.Waits.{eqn}
use Rattle.verse_sorts.specs.Sorts.{Sort, Sorts, none, any, never, unit, nil, int, logic, char}
use Rattle.verse_sorts.specs.Sorts.{span, enum, obj, var, event, task, opt, list}
use Rattle.verse_sorts.specs.Sorts.{map, tuple, no_sorts, more_sorts}
use Rattle.verse_verify_kept.specs.Notes.{ClassNote, parent_in}

abbrev mutual
  pub same : Sort → Sort → Bool
  same none none = true
  same any any = true
  same never never = true
  same unit unit = true
  same nil nil = true
  same int int = true
  same logic logic = true
  same char char = true
  same span span = true
  same (enum d) (enum e) = eqn d e
  same (obj c) (obj d) = eqn c d
  same (var a) (var b) = same a b
  same (event a) (event b) = same a b
  same (task a) (task b) = same a b
  same (opt a) (opt b) = same a b
  same (list a) (list b) = same a b
  same (map k a) (map l b) = same k l && same a b
  same (tuple xs) (tuple ys) = same_all xs ys
  same a b = false

  pub same_all : Sorts → Sorts → Bool
  same_all no_sorts no_sorts = true
  same_all (more_sorts a xs) (more_sorts b ys) = same a b && same_all xs ys
  same_all xs ys = false

abbrev pub on_parent : Option ℕ → (ℕ → Bool) → Bool
on_parent None go = false
on_parent (Some b) go = go b

-- a class inherits from another, by at most so many parents
abbrev pub heir : ℕ → List ClassNote → ℕ → ℕ → Bool
heir zero cs c d = eqn c d
heir (suc k) cs c d = cond (eqn c d) true
    (on_parent (parent_in (slice_get cs c)) (λ b. heir k cs b d))

-- the second sort, where the first is of this form: a none or an any fits what it is
abbrev pub on_none : Sort → Bool
on_none none = true
on_none b = false

abbrev pub on_any : Sort → Bool
on_any none = true
on_any any = true
on_any b = false

abbrev pub on_unit : Sort → Bool
on_unit none = true
on_unit any = true
on_unit unit = true
on_unit span = true
on_unit b = false

abbrev pub on_nil : Sort → Bool
on_nil none = true
on_nil any = true
on_nil nil = true
on_nil logic = true
on_nil (opt b) = true
on_nil b = false

abbrev pub on_int : Sort → Bool
on_int none = true
on_int any = true
on_int int = true
on_int span = true
on_int b = false

abbrev pub on_logic : Sort → Bool
on_logic none = true
on_logic any = true
on_logic logic = true
on_logic b = false

abbrev pub on_char : Sort → Bool
on_char none = true
on_char any = true
on_char char = true
on_char b = false

abbrev pub on_span : Sort → Bool
on_span none = true
on_span any = true
on_span span = true
on_span b = false

abbrev pub on_enum : Sort → (ℕ → Bool) → Bool
on_enum none is = true
on_enum any is = true
on_enum (enum e) is = is e
on_enum b is = false

abbrev pub on_obj : Sort → (ℕ → Bool) → Bool
on_obj none is = true
on_obj any is = true
on_obj (obj d) is = is d
on_obj b is = false

abbrev pub on_var : Sort → (Sort → Bool) → Bool
on_var none is = true
on_var any is = true
on_var (var b) is = is b
on_var b is = false

abbrev pub on_event : Sort → (Sort → Bool) → Bool
on_event none is = true
on_event any is = true
on_event (event b) is = is b
on_event b is = false

abbrev pub on_task : Sort → (Sort → Bool) → Bool
on_task none is = true
on_task any is = true
on_task (task b) is = is b
on_task b is = false

abbrev pub on_opt : Sort → (Sort → Bool) → Bool
on_opt none is = true
on_opt any is = true
on_opt (opt b) is = is b
on_opt b is = false

abbrev pub on_list : Sort → (Sort → Bool) → Bool
on_list none is = true
on_list any is = true
on_list (list b) is = is b
on_list b is = false

abbrev pub on_map : Sort → (Sort → Sort → Bool) → Bool
on_map none is = true
on_map any is = true
on_map (map l b) is = is l b
on_map b is = false

abbrev pub on_tuple : Sort → (Sorts → Bool) → Bool
on_tuple none is = true
on_tuple any is = true
on_tuple (tuple ys) is = is ys
on_tuple b is = false

module _ (cs : List ClassNote) where
  abbrev mutual
    pub fit : Sort → Sort → Bool
    fit none b = on_none b
    fit any b = on_any b
    fit never b = true
    fit unit b = on_unit b
    fit nil b = on_nil b
    fit int b = on_int b
    fit logic b = on_logic b
    fit char b = on_char b
    fit span b = on_span b
    fit (enum d) b = on_enum b (λ e. eqn d e)
    fit (obj c) b = on_obj b (λ d. heir (length cs) cs c d)
    fit (var a) b = on_var b (λ b. same a b)
    fit (event a) b = on_event b (λ b. same a b)
    fit (task a) b = on_task b (λ b. fit a b)
    fit (opt a) b = on_opt b (λ b. fit a b)
    fit (list a) b = on_list b (λ b. fit a b)
    fit (map k a) b = on_map b (λ l b. fit k l && fit a b)
    fit (tuple xs) b = on_tuple b (λ ys. fit_each xs ys)

    pub fit_each : Sorts → Sorts → Bool
    fit_each no_sorts no_sorts = true
    fit_each (more_sorts a xs) (more_sorts b ys) = fit a b && fit_each xs ys
    fit_each xs ys = false

  -- all of them fit one
  abbrev pub all_fit : List Sort → Sort → Bool
  all_fit [] b = true
  all_fit (a ∷ xs) b = fit a b && all_fit xs b

  -- each fits its own
  abbrev pub each_fit : List Sort → List Sort → Bool
  each_fit [] [] = true
  each_fit (a ∷ xs) (b ∷ ys) = fit a b && each_fit xs ys
  each_fit xs ys = false

-- no value is of the sort, or of one of these sorts
abbrev pub is_never : Sort → Bool
is_never never = true
is_never a = false

abbrev pub any_never : List Sort → Bool
any_never [] = false
any_never (a ∷ xs) = is_never a || any_never xs

abbrev pub is_char : Sort → Bool
is_char char = true
is_char b = false

abbrev pub is_key : Sort → Bool
is_key never = true
is_key nil = true
is_key int = true
is_key logic = true
is_key char = true
is_key (enum e) = true
is_key (list a) = is_char a
is_key a = false
