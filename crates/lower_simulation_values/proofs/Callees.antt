-- What a callee stands for, and calls that are wrong on both sides.
use Rattle.std.proofs.Common.{◌≡◌, ℕ, zero, suc, List, [], ◌∷◌, length, Option, Some, None, Bool, true, false, cond, refl, ap, ◌∙◌}
use Rattle.verse_base.specs.declared.places.Place.{Place}
use Rattle.verse_tree.specs.Tree.{Bytes, Tree, tree, Shape}
use Rattle.verse_tree.specs.Tree as t
use Rattle.verse_tree.specs.ItemTree.{ParamTree, FunTree}
use Rattle.verse_tree.specs.declared.tables.Ref.{Ref}
use Rattle.verse_tree.specs.declared.tables.Ref.TheVariants as ref
use Rattle.verse_value.specs.Val.{Val}
use Rattle.verse_meaning.specs.Programs.{ref_at, fun_at, same_name}
use Rattle.verse_meaning.specs.Residuals as form
use Rattle.verse_meaning.specs.Residuals.{Env, Form}
use Rattle.verse_meaning.specs.Outcomes.{World, Outcome, halted, wrong, if_known}
use Rattle.verse_meaning.specs.Evaluating.{Callee, alone, of_object, of_value, of_quotient, named_callee, member_callee, builtin}
use Rattle.verse_meaning.specs.Evaluating.{callee_of}
use Rattle.verse_meaning.specs.Evaluating.{await_name, signal_name, number_of}
use Rattle.verse_meaning.specs.Runs.{deeper, taking, with_params, with_this}
use Rattle.lower_simulation.proofs.Claims.{Setting}
use Rattle.lower_simulation_values.proofs.Tables.{Is_function}

-- what callees there are, of a tree; `whole` is the form where it is a value
pub data Sort (z : Setting) (whole : Form) (pl : Place) : Tree → Callee → Type 0 where
  a_function : {b : Tree} (f : ℕ) → Is_function z f → Sort z whole pl b (alone (form.calling f))
  own_method : {b : Tree} (m : ℕ) → Sort z whole pl b (alone (form.calling_own m))
  prints : {b : Tree} → Sort z whole pl b (alone (form.printing pl))
  floors : {b : Tree} → Sort z whole pl b (of_quotient (form.flooring pl))
  ceils : {b : Tree} → Sort z whole pl b (of_quotient (form.ceiling pl))
  takes_modulo : {b : Tree} → Sort z whole pl b (alone form.taking_modulo)
  a_method : {n : ℕ} {q : Place} {b : Tree} {x : Bytes} (m : ℕ) →
      Sort z whole pl (tree n q (t.Shape.member b x)) (of_object (form.calling_method m))
  awaits : {n : ℕ} {q : Place} {b : Tree} {x : Bytes} (is_event : Bool) →
      Sort z whole pl (tree n q (t.Shape.member b x)) (of_object (form.awaiting is_event))
  signals : {n : ℕ} {q : Place} {b : Tree} {x : Bytes} → Sort z whole pl (tree n q (t.Shape.member b x)) (of_object form.signalling)
  a_value : {b : Tree} → Sort z whole pl b (of_value whole)

module _ (z : Setting) (whole : Form) (pl : Place) where
  builtin_sort : (b : Tree) (k : ℕ) → Sort z whole pl b (builtin k pl)
  builtin_sort b zero = prints
  builtin_sort b (suc zero) = floors
  builtin_sort b (suc (suc zero)) = ceils
  builtin_sort b (suc (suc (suc k))) = takes_modulo

  name_sort : (b : Tree) (n : ℕ) (r : Option Ref) → ref_at z.program n ≡ r → Sort z whole pl b (named_callee r whole pl)
  name_sort b n (Some (ref.Fun f)) h = a_function f (n, h)
  name_sort b n (Some (ref.Method c m)) h = own_method m
  name_sort b n (Some (ref.Builtin k)) h = builtin_sort b k
  name_sort b n r h = a_value

  by_name : (n : ℕ) (q : Place) (b : Tree) (x : Bytes) (is_event await signal : Bool) → Sort z whole pl (tree n q (t.Shape.member b x))
      (cond await (of_object (form.awaiting is_event)) (cond signal (of_object form.signalling) (of_value whole)))
  by_name n q b x is_event true signal = awaits is_event
  by_name n q b x is_event false true = signals
  by_name n q b x is_event false false = a_value

  member_sort : (n : ℕ) (q : Place) (b : Tree) (x : Bytes) (is_event : Bool) (r : Option Ref) →
      Sort z whole pl (tree n q (t.Shape.member b x)) (member_callee r is_event x whole)
  member_sort n q b x is_event (Some (ref.Method c m)) = a_method m
  member_sort n q b x is_event None = by_name n q b x is_event (same_name x await_name) (same_name x signal_name)
  member_sort n q b x is_event r = a_value

  pub sort_of : (b : Tree) → Sort z whole pl b (callee_of z.program b whole pl)
  sort_of (tree n q (t.Shape.name x)) = name_sort (tree n q (t.Shape.name x)) n (ref_at z.program n) refl
  sort_of (tree n q (t.Shape.member b x)) = member_sort n q b x (z.program.is_event (number_of b)) (ref_at z.program n)
  sort_of (tree n q s) = a_value

-- ---- calls that are wrong

-- other than as many arguments as parameters
unbound : (xs : List ParamTree) (vs : List Val) (e : Env) → (length vs ≡ length xs → ⊥) → with_params xs vs e ≡ None
unbound [] [] e h = absurd (h refl)
unbound [] (v ∷ vs) e h = refl
unbound (x ∷ xs) [] e h = refl
unbound (x ∷ xs) (v ∷ vs) e h = unbound xs vs _ (λ q. h (ap suc q))

module _ (z : Setting) (f : ℕ) (this : Option Val) (vs : List Val) (y : World) where
  -- no function of this number takes so many arguments
  pub data Misfit : Type 0 where
    unknown : fun_at z.program f ≡ None → Misfit
    other_many : (fn : FunTree) → fun_at z.program f ≡ Some fn → (length vs ≡ length fn.params → ⊥) → Misfit

  taking_wrong : (go : FunTree → Env → Outcome) → Misfit → taking z.program f this vs y go ≡ halted (wrong y.state)
  unfolding if_known
  taking_wrong go (unknown h) =
      ap (λ x. if_known x y (λ (fn : FunTree). if_known (with_params fn.params vs (with_this this)) y (λ e. go fn e))) h
  taking_wrong go (other_many fn h n) =
      ap (λ x. if_known x y (λ (fn : FunTree). if_known (with_params fn.params vs (with_this this)) y (λ e. go fn e))) h ∙
      ap (λ x. if_known x y (λ e. go fn e)) (unbound fn.params vs (with_this this) n)

  pub calls_wrong : (M : ℕ) (w : Bool) (e : Env) → Misfit → (deeper z.program M).calls f this vs w e y ≡ halted (wrong y.state)
  calls_wrong zero w e h = taking_wrong _ h
  calls_wrong (suc M) w e h = taking_wrong _ h

  pub spawns_wrong : (M : ℕ) (e : Env) → Misfit → (deeper z.program M).spawns f this vs e y ≡ halted (wrong y.state)
  spawns_wrong zero e h = taking_wrong _ h
  spawns_wrong (suc M) e h = taking_wrong _ h
