-- A program with its names and types is the one that its items are, and its code does what they mean.
use Rattle.std.proofs.Common.{◌≡◌, ℕ, zero, suc, List, [], ◌∷◌, Bool, Option, Some, None, map, slice_get, length, refl}
use Rattle.std.proofs.Common.{sym, ap, subst, ◌∙◌}
use Rattle.verse_tree.specs.ItemTree.{ItemTree}
use Rattle.verse_tree.specs.ItemView.{item_of}
use Rattle.verse_tree.specs.declared.programs.Program.{Program as Made}
use Rattle.verse_tree.specs.declared.tables.Ty.{Ty as MadeTy, Ty-F, map-Ty, fold-roll-Ty, ind-Ty}
use Rattle.verse_tree.specs.declared.tables.Ty.TheOpen as layer
use Rattle.verse_tree.specs.declared.tables.MapOf.{MapOf, fold-MapOf}
use Rattle.verse_rules_types.specs.Types.{Ty, ty_step, two_tys, ty_of, map_of}
use Rattle.verse_rules.specs.Sound.{completed, types_of}
use Rattle.verse_meaning_state.specs.State.{State}
use Rattle.verse_meaning_state.specs.Waits.{Wait}
use Rattle.verse_meaning_state.specs.Turns.{Stage, going, closed, broken, amiss}
use Rattle.verse_meaning.specs.Programs.{Program, array_step, event_step, no_map, is_array_type, is_event_type, of_type}
use Rattle.verse_meaning.specs.Programs.{program_of}
use Rattle.verse_meaning.specs.Runs.{forest_leaves}
use Rattle.verse_code.specs.declared.codes.Code.{Code}
use Rattle.verse_code.specs.Validity.{Valid}
use Rattle.verse_code_machine.specs.Tasks.{tree_waits}
use Rattle.verse_code_machine.specs.Runs.{mach_after}
use Rattle.lower_code.specs.Programs.{code_of}
use Rattle.lower_lookup.specs.Types.{differ_in, differ_of}
use Rattle.lower_bounds.specs.Laws.{CodeIsValid}
use Rattle.lower_simulation.specs.Seen.{Seen, between, ended, broke_off, seen_of}
use Rattle.lower_simulation_runs.specs.Programs.{CanBeFollowed}
use Rattle.lower_simulation_runs.specs.Laws.{CodeMeansTheSame, TurnsAreTheSame}
use Rattle.verse_accept_fine.specs.Sorted.{sorted}
use Rattle.verse_verify_bytes.specs.Bytes.{bytes_of}
use Rattle.verse_verify_faults.specs.Spots.{Table}
use Rattle.lower_notes.specs.Programs.{notes_of}
use Rattle.note_sorts.specs.Tabled.{found_of}
use Rattle.note_found.specs.Laws.{Agree, TablesAgree}
use Rattle.verse_top_texts.specs.Streams.{state_in}
use Rattle.verse_accept_laws.specs.Laws.{AcceptedCanBeFollowed}
use Rattle.verse_top.specs.Programs.{IsAccepted}
use Rattle.verse_top.specs.Meaning.{Does, are_different, code_from, differ_from, is_array, is_event, notes_from, of_node, program_from}
use Rattle.verse_top.specs.Meaning.{stage_with}

-- ---- types of nodes

-- what is asked of a map says nothing
abbrev no_map_of : MapOf → Bool
no_map_of = fold-MapOf Bool Bool array_step no_map

abbrev no_event_map : MapOf → Bool
no_event_map = fold-MapOf Bool Bool event_step no_map

same_array : (x : Ty-F MadeTy MapOf) → array_step (map-Ty MadeTy MapOf Bool Bool is_array_type no_map_of x) ≡
    is_array (ty_step (map-Ty MadeTy MapOf Ty (Ty × Ty) ty_of map_of x))
same_array layer.Never = refl
same_array layer.Nil = refl
same_array layer.Void = refl
same_array layer.Int = refl
same_array layer.Logic = refl
same_array layer.Char = refl
same_array (layer.Enum e) = refl
same_array (layer.Class e) = refl
same_array (layer.Option u) = refl
same_array (layer.Array u) = refl
same_array (layer.Map m) = refl
same_array (layer.Tuple us) = refl
same_array (layer.Task u) = refl
same_array (layer.Event u) = refl

same_event : (x : Ty-F MadeTy MapOf) → event_step (map-Ty MadeTy MapOf Bool Bool is_event_type no_event_map x) ≡
    is_event (ty_step (map-Ty MadeTy MapOf Ty (Ty × Ty) ty_of map_of x))
same_event layer.Never = refl
same_event layer.Nil = refl
same_event layer.Void = refl
same_event layer.Int = refl
same_event layer.Logic = refl
same_event layer.Char = refl
same_event (layer.Enum e) = refl
same_event (layer.Class e) = refl
same_event (layer.Option u) = refl
same_event (layer.Array u) = refl
same_event (layer.Map m) = refl
same_event (layer.Tuple us) = refl
same_event (layer.Task u) = refl
same_event (layer.Event u) = refl

array_of : (u : MadeTy) → is_array_type u ≡ is_array (ty_of u)
array_of = ind-Ty (λ u. is_array_type u ≡ is_array (ty_of u)) (λ m. Unit {0})
    (λ x y e. fold-roll-Ty Bool Bool array_step no_map x ∙ same_array x ∙ sym (ap is_array (fold-roll-Ty Ty (Ty × Ty) ty_step two_tys x)))
    (λ x y e. tt)

event_of : (u : MadeTy) → is_event_type u ≡ is_event (ty_of u)
event_of = ind-Ty (λ u. is_event_type u ≡ is_event (ty_of u)) (λ m. Unit {0})
    (λ x y e. fold-roll-Ty Bool Bool event_step no_map x ∙ same_event x ∙ sym (ap is_event (fold-roll-Ty Ty (Ty × Ty) ty_step two_tys x)))
    (λ x y e. tt)

abbrev seen_type : Option MadeTy → Option Ty
seen_type None = None
seen_type (Some u) = Some (ty_of u)

type_in : (us : List MadeTy) (n : ℕ) → slice_get (map ty_of us) n ≡ seen_type (slice_get us n)
type_in [] zero = refl
type_in [] (suc n) = refl
type_in (u ∷ us) zero = refl
type_in (u ∷ us) (suc n) = type_in us n

of_type_is : (f : MadeTy → Bool) (g : Ty → Bool) → ((u : MadeTy) → f u ≡ g (ty_of u)) → (x : Option MadeTy) →
    of_type f x ≡ of_node g (seen_type x)
of_type_is f g same None = refl
of_type_is f g same (Some u) = same u

differ_is : (x y : Option MadeTy) → differ_in x y ≡ are_different (seen_type x) (seen_type y)
differ_is None y = refl
differ_is (Some u) None = refl
differ_is (Some u) (Some v) = refl

-- ---- programs

module _ (made : Made) (named : made.names ≡ completed (map item_of made.tree.items))
    (typed : map ty_of made.typed.types ≡ types_of (map item_of made.tree.items)) where
  type_at : (n : ℕ) → seen_type (slice_get made.typed.types n) ≡ slice_get (types_of (map item_of made.tree.items)) n
  type_at n = sym (type_in made.typed.types n) ∙ ap (λ us. slice_get us n) typed

  node_is : (f : MadeTy → Bool) (g : Ty → Bool) → ((u : MadeTy) → f u ≡ g (ty_of u)) → (n : ℕ) →
      of_type f (slice_get made.typed.types n) ≡ of_node g (slice_get (types_of (map item_of made.tree.items)) n)
  node_is f g same n = of_type_is f g same (slice_get made.typed.types n) ∙ ap (of_node g) (type_at n)

  differs : (a b : ℕ) → differ_of made a b ≡ differ_from (map item_of made.tree.items) a b
  differs a b =
      differ_is (slice_get made.typed.types a) (slice_get made.typed.types b)
      ∙ ap (λ x. are_different x (seen_type (slice_get made.typed.types b))) (type_at a)
      ∙ ap (are_different (slice_get (types_of (map item_of made.tree.items)) a)) (type_at b)

  pub same_program : program_of made ≡ program_from (map item_of made.tree.items)
  same_program = λ i. record {
    items = map item_of made.tree.items;
    names = named i;
    is_array = λ n. node_is is_array_type is_array array_of n i;
    is_event = λ n. node_is is_event_type is_event event_of n i;
  }

  same_differ : differ_of made ≡ differ_from (map item_of made.tree.items)
  same_differ = λ i a b. differs a b i

  pub same_code : (files : ℕ) → code_of (program_of made) (differ_of made) files ≡ code_from (map item_of made.tree.items) files
  same_code files = λ i. code_of (same_program i) (same_differ i) files

  same_found : Agree (found_of made) (sorted (map item_of made.tree.items)) → found_of made ≡ sorted (map item_of made.tree.items)
  same_found agree = λ i. record {
    sort = λ n. agree.sort n i;
    key = λ n. agree.key n i;
    is_var = λ n. agree.is_var n i;
    up = λ n. agree.up n i;
    slots = λ n. agree.slots n i;
    signature = λ n. agree.signature n i;
  }

  pub same_notes : Agree (found_of made) (sorted (map item_of made.tree.items)) → (c : Code) →
      notes_of (program_of made) (found_of made) (differ_of made) c
      ≡ notes_of (program_from (map item_of made.tree.items)) (sorted (map item_of made.tree.items))
      (differ_from (map item_of made.tree.items)) c
  same_notes agree c = λ i. notes_of (same_program i) (same_found agree i) (same_differ i) c

-- ---- runs

abbrev state_seen : Seen → State
state_seen (between s ws) = s
state_seen (ended e s ws) = s
state_seen (broke_off e s) = s

state_is : {A : Type 0} (waits : A → List Wait) (stage : Stage A) → state_in stage ≡ state_seen (seen_of waits stage)
state_is waits (going s x) = refl
state_is waits (closed e s x) = refl
state_is waits (broken e s) = refl
state_is waits (amiss s) = refl

same_state : {A B : Type 0} (waits : A → List Wait) (leaves : B → List Wait) (x : Stage A) (y : Stage B) →
    seen_of waits x ≡ seen_of leaves y → state_in x ≡ state_in y
same_state waits leaves x y e = state_is waits x ∙ ap state_seen e ∙ sym (state_is leaves y)

pub does_mean : (is : List ItemTree) (files : ℕ) → CanBeFollowed (program_from is) files → CodeMeansTheSame → TurnsAreTheSame →
    Does (code_from is files) is
does_mean is files can means turns = record {
  runs = λ o. means (program_from is) (differ_from is) files can o.inputs o.steps o.until;
  states = λ o k. same_state tree_waits forest_leaves (mach_after (code_from is files) o.inputs o.steps o.until k) (stage_with is o k)
      (turns (program_from is) (differ_from is) files can o.inputs o.steps o.until k);
}

-- ---- the code of a program that is accepted

module _ (files : List (List ℕ)) (made : Made) (accepted : IsAccepted files made) (law : AcceptedCanBeFollowed) where
  can_follow : CanBeFollowed (program_from (map item_of made.tree.items)) made.tree.files
  can_follow =
      subst (λ (n : ℕ). CanBeFollowed (program_from (map item_of made.tree.items)) n) (sym accepted.files_are)
      (subst (λ (p : Program). CanBeFollowed p (length files)) (same_program made accepted.named accepted.typed)
      (law made files accepted.some accepted.few accepted.accepts accepted.named))

  pub lowered_code : (p : Made) (c : Code) → p ≡ made → c ≡ code_of (program_of p) (differ_of p) p.tree.files →
      c ≡ code_from (map item_of made.tree.items) made.tree.files
  lowered_code p c e f =
      f ∙ ap (λ (q : Made). code_of (program_of q) (differ_of q) q.tree.files) e
      ∙ same_code made accepted.named accepted.typed made.tree.files

  pub lowered_valid : (c : Code) → c ≡ code_from (map item_of made.tree.items) made.tree.files → CodeIsValid → Valid c
  lowered_valid c e valid = subst Valid (sym e)
      (valid (program_from (map item_of made.tree.items)) (differ_from (map item_of made.tree.items)) made.tree.files can_follow.lowered)

  pub lowered_does : (c : Code) → c ≡ code_from (map item_of made.tree.items) made.tree.files → CodeMeansTheSame → TurnsAreTheSame →
      Does c (map item_of made.tree.items)
  lowered_does c e means turns = subst (λ (k : Code). Does k (map item_of made.tree.items)) (sym e)
      (does_mean (map item_of made.tree.items) made.tree.files can_follow means turns)

-- and its notes
module _ (files : List (List ℕ)) (made : Made) (accepted : IsAccepted files made) where
  pub noted_is : TablesAgree → (p : Made) (c : Code) (t : Table) (bytes : List ℕ) → p ≡ made →
      c ≡ code_from (map item_of made.tree.items) made.tree.files →
      t ≡ notes_of (program_of p) (found_of p) (differ_of p) c → bytes ≡ bytes_of c t →
      bytes ≡ notes_from (map item_of made.tree.items) made.tree.files
  noted_is agree p c t bytes e f g h =
      let is = map item_of made.tree.items in
      let table : t ≡ notes_of (program_from is) (sorted is) (differ_from is) c =
      g ∙ ap (λ (q : Made). notes_of (program_of q) (found_of q) (differ_of q) c) e
      ∙ same_notes made accepted.named accepted.typed (agree made accepted.named accepted.typed) c in
      h ∙ ap (bytes_of c) table ∙ ap (λ k. bytes_of k (notes_of (program_from is) (sorted is) (differ_from is) k)) f
