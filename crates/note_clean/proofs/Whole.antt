-- The notes of the code of accepted files break no rule.
use Rattle.std.proofs.Common.{◌≡◌, ℕ, Bool, List, length, map, inl, sym, ap, ◌∙◌}
use Rattle.verse_tree.specs.ItemTree.{ItemTree}
use Rattle.verse_tree.specs.ItemView.{item_of}
use Rattle.verse_tree.specs.declared.tables.Names.{Names}
use Rattle.verse_rules_types.specs.Fitting.{parent_of}
use Rattle.verse_rules_walk.specs.Order.{InPostOrder}
use Rattle.verse_names_declarations.specs.Known.{known}
use Rattle.verse_meaning.specs.Programs.{Program, program_of}
use Rattle.verse_sound_rules.specs.Found.{Found}
use Rattle.lower_bounds.specs.Laws.{CodeIsValid}
use Rattle.lower_lookup.specs.Types.{differ_of}
use Rattle.lower_pass_clean.proofs.Passing.{note_passes}
use Rattle.note_sorts.specs.Tabled.{found_of}
use Rattle.note_found.specs.Laws.{TablesAgree}
use Rattle.verse_accept_nodes.specs.Laws.{AcceptedShaped}
use Rattle.verse_accept_laws.specs.Laws.{AcceptedCanBeFollowed}
use Rattle.verse_accept_classes.specs.Laws.{Quiet}
use Rattle.verse_accept_classes.proofs.Classes.{outline_many, classes_many}
use Rattle.verse_accept_classes.proofs.Tables.{parents_are}
use Rattle.verse_accept_sound.specs.Programs.{ProgramsAreFine}
use Rattle.verse_accept_sound.proofs.Whole.{sound}
use Rattle.note_pass.proofs.Whole.{IsReady, trees, accepted_ready}
use Rattle.note_clean.specs.Laws.{AcceptedNotesAreClean}
use Rattle.note_clean.proofs.Heights.{falling}

module _ (order : InPostOrder) (shapes : AcceptedShaped) (follows : AcceptedCanBeFollowed) (programs : ProgramsAreFine)
    (agree : TablesAgree) (valid : CodeIsValid) where
  pub accepted_clean : AcceptedNotesAreClean
  accepted_clean files made some few a told count =
      let is : List ItemTree = map item_of made.tree.items in
      let p : Program = program_of made in
      let found : Found = found_of made in
      let differ : ℕ → ℕ → Bool = differ_of made in
      let quiet : Quiet is = λ n c b. (sound order shapes programs files is a).named n c (inl b) in
      let ready : IsReady p found differ (length files) = accepted_ready order shapes follows programs agree files made some few a told in
      let up : (c : ℕ) → found.up c ≡ parent_of (known is).outline c =
      λ c. (agree made told.names told.types).up c ∙ parents_are is quiet c in
      let many : length made.names.classes ≡ length (known is).outline =
      ap (λ (k : Names). length k.classes) told.names ∙ (classes_many is ∙ sym (outline_many is)) in
      note_passes p found differ count ready.can.numbers ready.can.nodes ready.items ready.told ready.fine
      (trees p found differ (length files) count ready) (valid p differ (length files) ready.can.lowered).classes
      (falling is quiet p found differ count up many)
