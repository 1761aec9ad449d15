-- Sorts that pass the tests are the same, or fit.
use Rattle.std.proofs.Common.{◌≡◌, ℕ, zero, suc, length, List, [], ◌∷◌, Option, Some, None, true, refl, sym, subst, ap}
use Rattle.std.specs.Prelude.{◌&&◌, slice_get, not}
use Rattle.std.proofs.lemmas.Bool.{and_parts, cond_both}
use Rattle.verse_meaning_state.specs.Waits.{eqn}
use Rattle.verse_meaning_state.proofs.Numbers.{eqn_is}
use Rattle.verse_code_machine_parents.proofs.Lists.{no_both}
use Rattle.verse_sorts.specs.Sorts as s
use Rattle.verse_sorts.specs.Sorts.{Sort, Sorts, Inherits, itself, above, Fits, FitAll, to_none, to_any, from_never, fits_unit, fits_nil}
use Rattle.verse_sorts.specs.Sorts.{fits_int}
use Rattle.verse_sorts.specs.Sorts.{fits_logic, fits_char, fits_span, nil_logic, nil_opt, int_span, unit_span, fits_enum, fits_obj}
use Rattle.verse_sorts.specs.Sorts.{fits_var}
use Rattle.verse_sorts.specs.Sorts.{fits_event, fits_task, fits_opt, fits_list, fits_map, fits_tuple, fit_none, fit_more, IsKey, key_never}
use Rattle.verse_sorts.specs.Sorts.{key_nil, key_int, key_logic, key_char, key_enum, key_text}
use Rattle.verse_sorts.specs.Typing.{AllFit, fit_no, fit_so}
use Rattle.verse_verify_kept.specs.Notes.{ClassNote, parent_in}
use Rattle.verse_verify_faults.specs.Fitting.{same, same_all, heir, on_parent, on_none, on_any, on_unit, on_nil, on_int, on_logic, on_char}
use Rattle.verse_verify_faults.specs.Fitting.{on_span}
use Rattle.verse_verify_faults.specs.Fitting.{on_enum, on_obj, on_var, on_event, on_task, on_opt, on_list, on_map, on_tuple, fit, fit_each}
use Rattle.verse_verify_faults.specs.Fitting.{each_fit, is_char, is_key}
use Rattle.verse_verify_faults.specs.Faults.{is_none}

mutual
  pub same_is : (a b : Sort) → same a b ≡ true → a ≡ b
  same_is s.none s.none e = refl
  same_is s.any s.any e = refl
  same_is s.never s.never e = refl
  same_is s.unit s.unit e = refl
  same_is s.nil s.nil e = refl
  same_is s.int s.int e = refl
  same_is s.logic s.logic e = refl
  same_is s.char s.char e = refl
  same_is s.span s.span e = refl
  same_is (s.enum d) (s.enum f) e = ap s.enum (eqn_is d f e)
  same_is (s.obj c) (s.obj d) e = ap s.obj (eqn_is c d e)
  same_is (s.var a) (s.var b) e = ap s.var (same_is a b e)
  same_is (s.event a) (s.event b) e = ap s.event (same_is a b e)
  same_is (s.task a) (s.task b) e = ap s.task (same_is a b e)
  same_is (s.opt a) (s.opt b) e = ap s.opt (same_is a b e)
  same_is (s.list a) (s.list b) e = ap s.list (same_is a b e)
  same_is (s.map k a) (s.map l b) e = maps k l a b (same_is k l (and_parts (same k l) (same a b) e).0)
      (same_is a b (and_parts (same k l) (same a b) e).1)
    where
      maps : (k l a b : Sort) → k ≡ l → a ≡ b → s.map k a ≡ s.map l b
      maps k l a b e f = cc
  same_is (s.tuple xs) (s.tuple ys) e = ap s.tuple (same_all_is xs ys e)
  same_is a b e = no_both (sym e)

  pub same_all_is : (xs ys : Sorts) → same_all xs ys ≡ true → xs ≡ ys
  same_all_is s.no_sorts s.no_sorts e = refl
  same_all_is (s.more_sorts a xs) (s.more_sorts b ys) e =
      more a b xs ys (same_is a b (and_parts (same a b) (same_all xs ys) e).0)
      (same_all_is xs ys (and_parts (same a b) (same_all xs ys) e).1)
    where
      more : (a b : Sort) (xs ys : Sorts) → a ≡ b → xs ≡ ys → s.more_sorts a xs ≡ s.more_sorts b ys
      more a b xs ys e f = cc
  same_all_is xs ys e = no_both (sym e)

module _ (cs : List ClassNote) where
  abbrev pub up : ℕ → Option ℕ
  up c = parent_in (slice_get cs c)

  pub heir_is : (k c d : ℕ) → heir k cs c d ≡ true → Inherits up c d
  heir_is zero c d e = subst (Inherits up c) (eqn_is c d e) itself
  heir_is (suc k) c d e =
      cond_both (eqn c d) true (on_parent (up c) (λ b. heir k cs b d)) (λ b. b ≡ true → Inherits up c d) (λ same h. subst (Inherits up c)
      (eqn_is c d same) itself) (λ other h. by_parent (up c) refl (λ b h. heir_is k b d h) h) e
    where
      by_parent : (m : Option ℕ) → up c ≡ m → ((b : ℕ) → heir k cs b d ≡ true → Inherits up b d) → on_parent m (λ b. heir k cs b d) ≡ true →
          Inherits up c d
      by_parent None e go h = no_both (sym h)
      by_parent (Some b) e go h = above e (go b h)

  none_in : (b : Sort) → on_none b ≡ true → Fits up s.none b
  none_in s.none e = to_none
  none_in b e = no_both (sym e)

  any_in : (b : Sort) → on_any b ≡ true → Fits up s.any b
  any_in s.none e = to_none
  any_in s.any e = to_any tt
  any_in b e = no_both (sym e)

  unit_in : (b : Sort) → on_unit b ≡ true → Fits up s.unit b
  unit_in s.none e = to_none
  unit_in s.any e = to_any tt
  unit_in s.unit e = fits_unit
  unit_in s.span e = unit_span
  unit_in b e = no_both (sym e)

  nil_in : (b : Sort) → on_nil b ≡ true → Fits up s.nil b
  nil_in s.none e = to_none
  nil_in s.any e = to_any tt
  nil_in s.nil e = fits_nil
  nil_in s.logic e = nil_logic
  nil_in (s.opt b) e = nil_opt
  nil_in b e = no_both (sym e)

  int_in : (b : Sort) → on_int b ≡ true → Fits up s.int b
  int_in s.none e = to_none
  int_in s.any e = to_any tt
  int_in s.int e = fits_int
  int_in s.span e = int_span
  int_in b e = no_both (sym e)

  logic_in : (b : Sort) → on_logic b ≡ true → Fits up s.logic b
  logic_in s.none e = to_none
  logic_in s.any e = to_any tt
  logic_in s.logic e = fits_logic
  logic_in b e = no_both (sym e)

  char_in : (b : Sort) → on_char b ≡ true → Fits up s.char b
  char_in s.none e = to_none
  char_in s.any e = to_any tt
  char_in s.char e = fits_char
  char_in b e = no_both (sym e)

  span_in : (b : Sort) → on_span b ≡ true → Fits up s.span b
  span_in s.none e = to_none
  span_in s.any e = to_any tt
  span_in s.span e = fits_span
  span_in b e = no_both (sym e)

  enum_in : (d : ℕ) (b : Sort) → on_enum b (λ e. eqn d e) ≡ true → Fits up (s.enum d) b
  enum_in d s.none e = to_none
  enum_in d s.any e = to_any tt
  enum_in d (s.enum f) e = subst (λ f. Fits up (s.enum d) (s.enum f)) (eqn_is d f e) fits_enum
  enum_in d b e = no_both (sym e)

  obj_in : (c : ℕ) (b : Sort) → on_obj b (λ d. heir (length cs) cs c d) ≡ true → Fits up (s.obj c) b
  obj_in c s.none e = to_none
  obj_in c s.any e = to_any tt
  obj_in c (s.obj d) e = fits_obj (heir_is (length cs) c d e)
  obj_in c b e = no_both (sym e)

  var_in : (a b : Sort) → on_var b (λ b. same a b) ≡ true → Fits up (s.var a) b
  var_in a s.none e = to_none
  var_in a s.any e = to_any tt
  var_in a (s.var b) e = subst (λ b. Fits up (s.var a) (s.var b)) (same_is a b e) fits_var
  var_in a b e = no_both (sym e)

  event_in : (a b : Sort) → on_event b (λ b. same a b) ≡ true → Fits up (s.event a) b
  event_in a s.none e = to_none
  event_in a s.any e = to_any tt
  event_in a (s.event b) e = subst (λ b. Fits up (s.event a) (s.event b)) (same_is a b e) fits_event
  event_in a b e = no_both (sym e)

  task_in : (a b : Sort) → ((d : Sort) → fit cs a d ≡ true → Fits up a d) → on_task b (λ b. fit cs a b) ≡ true → Fits up (s.task a) b
  task_in a s.none go e = to_none
  task_in a s.any go e = to_any tt
  task_in a (s.task b) go e = fits_task (go b e)
  task_in a b go e = no_both (sym e)

  opt_in : (a b : Sort) → ((d : Sort) → fit cs a d ≡ true → Fits up a d) → on_opt b (λ b. fit cs a b) ≡ true → Fits up (s.opt a) b
  opt_in a s.none go e = to_none
  opt_in a s.any go e = to_any tt
  opt_in a (s.opt b) go e = fits_opt (go b e)
  opt_in a b go e = no_both (sym e)

  list_in : (a b : Sort) → ((d : Sort) → fit cs a d ≡ true → Fits up a d) → on_list b (λ b. fit cs a b) ≡ true → Fits up (s.list a) b
  list_in a s.none go e = to_none
  list_in a s.any go e = to_any tt
  list_in a (s.list b) go e = fits_list (go b e)
  list_in a b go e = no_both (sym e)

  map_in : (k a b : Sort) → ((d : Sort) → fit cs k d ≡ true → Fits up k d) → ((d : Sort) → fit cs a d ≡ true → Fits up a d) →
      on_map b (λ l b. fit cs k l && fit cs a b) ≡ true → Fits up (s.map k a) b
  map_in k a s.none go on e = to_none
  map_in k a s.any go on e = to_any tt
  map_in k a (s.map l b) go on e =
      fits_map (go l (and_parts (fit cs k l) (fit cs a b) e).0) (on b (and_parts (fit cs k l) (fit cs a b) e).1)
  map_in k a b go on e = no_both (sym e)

  tuple_in : (xs : Sorts) (b : Sort) → ((ys : Sorts) → fit_each cs xs ys ≡ true → FitAll up xs ys) →
      on_tuple b (λ ys. fit_each cs xs ys) ≡ true → Fits up (s.tuple xs) b
  tuple_in xs s.none go e = to_none
  tuple_in xs s.any go e = to_any tt
  tuple_in xs (s.tuple ys) go e = fits_tuple (go ys e)
  tuple_in xs b go e = no_both (sym e)

  mutual
    pub fit_is : (a b : Sort) → fit cs a b ≡ true → Fits up a b
    fit_is s.none b e = none_in b e
    fit_is s.any b e = any_in b e
    fit_is s.never b e = from_never
    fit_is s.unit b e = unit_in b e
    fit_is s.nil b e = nil_in b e
    fit_is s.int b e = int_in b e
    fit_is s.logic b e = logic_in b e
    fit_is s.char b e = char_in b e
    fit_is s.span b e = span_in b e
    fit_is (s.enum d) b e = enum_in d b e
    fit_is (s.obj c) b e = obj_in c b e
    fit_is (s.var a) b e = var_in a b e
    fit_is (s.event a) b e = event_in a b e
    fit_is (s.task a) b e = task_in a b (λ d h. fit_is a d h) e
    fit_is (s.opt a) b e = opt_in a b (λ d h. fit_is a d h) e
    fit_is (s.list a) b e = list_in a b (λ d h. fit_is a d h) e
    fit_is (s.map k a) b e = map_in k a b (λ d h. fit_is k d h) (λ d h. fit_is a d h) e
    fit_is (s.tuple xs) b e = tuple_in xs b (λ ys h. fit_each_is xs ys h) e

    fit_each_is : (xs ys : Sorts) → fit_each cs xs ys ≡ true → FitAll up xs ys
    fit_each_is s.no_sorts s.no_sorts e = fit_none
    fit_each_is (s.more_sorts a xs) (s.more_sorts b ys) e =
        fit_more (fit_is a b (and_parts (fit cs a b) (fit_each cs xs ys) e).0)
        (fit_each_is xs ys (and_parts (fit cs a b) (fit_each cs xs ys) e).1)
    fit_each_is s.no_sorts (s.more_sorts b ys) e = no_both (sym e)
    fit_each_is (s.more_sorts a xs) s.no_sorts e = no_both (sym e)

  pub each_fit_is : (xs ys : List Sort) → each_fit cs xs ys ≡ true → AllFit up xs ys
  each_fit_is [] [] e = fit_no
  each_fit_is (a ∷ xs) (b ∷ ys) e =
      fit_so (fit_is a b (and_parts (fit cs a b) (each_fit cs xs ys) e).0)
      (each_fit_is xs ys (and_parts (fit cs a b) (each_fit cs xs ys) e).1)
  each_fit_is [] (b ∷ ys) e = no_both (sym e)
  each_fit_is (a ∷ xs) [] e = no_both (sym e)

pub is_key_is : (a : Sort) → is_key a ≡ true → IsKey a
is_key_is s.never e = key_never
is_key_is s.nil e = key_nil
is_key_is s.int e = key_int
is_key_is s.logic e = key_logic
is_key_is s.char e = key_char
is_key_is (s.enum d) e = key_enum
is_key_is (s.list a) e = of_char a e
  where
    of_char : (a : Sort) → is_char a ≡ true → IsKey (s.list a)
    of_char s.char e = key_text
    of_char a e = no_both (sym e)
is_key_is a e = no_both (sym e)

pub some_is : {A : Type 0} (m : Option A) → not (is_none m) ≡ true → (x : A) × (m ≡ Some x)
some_is None e = no_both (sym e)
some_is (Some x) e = (x, refl)
