-- The notes of the code of accepted files fulfil the rules.
use Rattle.std.proofs.Common.{◌≡◌, ℕ, Bool, false, List, length, map, ◌≤◌, Some, inl, refl, sym, subst}
use Rattle.std.specs.Prelude.{slice_get}
use Rattle.verse_tree.specs.ItemTree.{ItemTree}
use Rattle.verse_tree.specs.ItemView.{item_of}
use Rattle.verse_tree.specs.declared.programs.Program.{Program as Made}
use Rattle.verse_tree.specs.declared.tables.Names.{Names}
use Rattle.verse_code.specs.declared.codes.Code.{Code}
use Rattle.verse_rules_walk.specs.Order.{InPostOrder}
use Rattle.verse_rules.specs.Sound.{completed}
use Rattle.verse_accept.specs.Fronts.{Accepts}
use Rattle.verse_meaning.specs.Programs.{Program, program_of, ref_at, fields_of, is_array_type, is_event_type, of_type}
use Rattle.verse_meaning.specs.Evaluating.{class_ref}
use Rattle.verse_sound_rules.specs.Found.{Found}
use Rattle.verse_sound_rules.specs.Programs.{FineFound}
use Rattle.verse_verify_kept.specs.Notes.{Notes}
use Rattle.verse_verify_kept.specs.Rules.{Verified}
use Rattle.lower_bounds.specs.Programs.{TablesAgree}
use Rattle.lower_simulation_runs.specs.Programs.{NumbersAgree, CanBeFollowed}
use Rattle.lower_sound.specs.Programs.{ItemsFound}
use Rattle.lower_lookup.specs.Types.{differ_of}
use Rattle.lower_pass_values.proofs.Assigned.{Alike}
use Rattle.lower_pass_values.proofs.Instances.{IsClass, HaveDefaults}
use Rattle.lower_pass_values.proofs.Tabled.{class_ref_is, have_defaults, is_class}
use Rattle.lower_pass_trees.proofs.Trees.{trees_pass}
use Rattle.lower_pass_programs.proofs.Telling.{Told}
use Rattle.lower_pass_programs.proofs.Declared as declared
use Rattle.lower_pass_programs.proofs.Declared.{all_declared}
use Rattle.lower_pass_programs.proofs.Inheriting.{fine_noted}
use Rattle.lower_pass_programs.proofs.Bodies.{Knot}
use Rattle.lower_pass_programs.proofs.Whole as passed
use Rattle.note_sorts.specs.Tabled.{found_of}
use Rattle.note_found.specs.Laws.{Agree, TablesAgree as TablesFound}
use Rattle.verse_accept_nodes.specs.Laws.{AcceptedShaped}
use Rattle.verse_accept_laws.specs.Laws.{AcceptedCanBeFollowed}
use Rattle.verse_accept_classes.specs.Laws.{Quiet, FunctionsStand}
use Rattle.verse_accept_classes.proofs.Tables.{functions_found}
use Rattle.verse_accept_fine.specs.Sorted.{sorted}
use Rattle.verse_accept_sound.specs.Laws.{IsTold}
use Rattle.verse_accept_sound.specs.Programs.{ProgramsAreFine}
use Rattle.verse_accept_sound.proofs.Told.{tables_tell}
use Rattle.verse_accept_sound.proofs.Whole as sound
use Rattle.verse_lower_sound.proofs.Tables.{items_found}
use Rattle.note_pass.specs.Laws.{AcceptedNotesPass}
use Rattle.note_pass.proofs.Types.{nodes_alike}
use Rattle.note_pass.proofs.Telling as telling

-- ---- what the notes of a program pass by

pub record IsReady (p : Program) (found : Found) (differ : ℕ → ℕ → Bool) (files : ℕ) : Type 0 where
  pub same : (m n : ℕ) → differ m n ≡ false → Alike (found.sort m) (found.sort n)
  pub can : CanBeFollowed p files
  pub items : ItemsFound p found p.items
  pub told : Told p found
  pub fine : FineFound p found

module _ (p : Program) (found : Found) (differ : ℕ → ℕ → Bool) (files count : ℕ) (ready : IsReady p found differ files) where
  abbrev code : Code
  code = declared.code p found differ count

  abbrev notes : Notes
  notes = declared.notes p found differ count

  abbrev tables : TablesAgree p
  tables = ready.can.lowered.tables

  abbrev numbers : NumbersAgree p
  numbers = ready.can.numbers

  classes : (m k : ℕ) → class_ref p (ref_at p m) ≡ Some k → IsClass p found code notes k
  classes m k e = is_class p found differ count notes refl tables numbers m k (class_ref_is p (ref_at p m) k e)

  defaults : (m k : ℕ) → class_ref p (ref_at p m) ≡ Some k → HaveDefaults p found code notes (fields_of p k)
  defaults m k e = have_defaults p found differ count notes refl tables numbers m k (class_ref_is p (ref_at p m) k e)

  pub trees : Knot p found differ count
  trees = trees_pass p found differ code notes (all_declared p found differ count numbers ready.told)
      (fine_noted p found differ count ready.told ready.fine) ready.same classes defaults

  notes_pass : Verified code notes
  notes_pass = passed.verified p found differ count numbers ready.can.nodes ready.items ready.told ready.fine trees

-- ---- one that is accepted

-- what is found is the same, where it is at each number
one_found : (f g : Found) → Agree f g → f ≡ g
one_found f g h = λ i. record {
  sort = λ m. h.sort m i;
  key = λ m. h.key m i;
  is_var = λ m. h.is_var m i;
  up = λ m. h.up m i;
  slots = λ m. h.slots m i;
  signature = λ m. h.signature m i;
}

module _ (order : InPostOrder) (shapes : AcceptedShaped) (follows : AcceptedCanBeFollowed) (programs : ProgramsAreFine)
    (agree : TablesFound) where
  pub accepted_ready : (files : List (List ℕ)) (made : Made) → 1 ≤ length files → length files ≤ 16 →
      Accepts files (map item_of made.tree.items) → IsTold made →
      IsReady (program_of made) (found_of made) (differ_of made) (length files)
  accepted_ready files made some few a told =
      let is : List ItemTree = map item_of made.tree.items in
      let arrays : ℕ → Bool = λ n. of_type is_array_type (slice_get made.typed.types n) in
      let events : ℕ → Bool = λ n. of_type is_event_type (slice_get made.typed.types n) in
      let differ : ℕ → ℕ → Bool = differ_of made in
      let of_names : Names → Program = λ k. record { items = is; names = k; is_array = arrays; is_event = events } in
      let sound_is = sound.sound order shapes programs files is a in
      let numbered = sound.numbered order shapes programs files is a in
      let quiet : Quiet is = λ n c b. sound_is.named n c (inl b) in
      let functions : FunctionsStand is = functions_found is numbered in
      let ready : (k : Names) (f : Found) → Type 0 = λ k f. IsReady (of_names k) f differ (length files) in
      let here : ready (completed is) (sorted is) = record {
        same = nodes_alike is made.typed.types told.types;
        can = subst (λ k. CanBeFollowed (of_names k) (length files)) told.names (follows made files some few a told.names);
        items = items_found is quiet functions arrays events;
        told = telling.told is arrays events (shapes files is a) numbered sound_is quiet functions;
        fine = sound.items_found order shapes programs files is a arrays events (tables_tell is made.typed.types told.types);
      } in
      subst (ready made.names) (sym (one_found (found_of made) (sorted is) (agree made told.names told.types)))
      (subst (λ k. ready k (sorted is)) (sym told.names) here)

  pub accepted_pass : AcceptedNotesPass
  accepted_pass files made some few a told count = notes_pass (program_of made) (found_of made) (differ_of made) (length files) count
      (accepted_ready files made some few a told)
