-- The verifier accepts the notes of the code of accepted files.
use Rattle.std.proofs.Common.{◌≡◌, ℕ, ◌<◌, ◌≤◌, Bool, List, length, map, Some, Ok, All, sym, ap, ◌∙◌, subst, arith}
use Rattle.std.specs.Prelude.{slice_get}
use Rattle.std.proofs.lemmas.List.{length-map}
use Rattle.verse_tree.specs.ItemTree.{ItemTree}
use Rattle.verse_tree.specs.ItemView.{item_of}
use Rattle.verse_tree.specs.declared.programs.Program.{Program as Made}
use Rattle.verse_tree.specs.declared.tables.Names.{Names}
use Rattle.verse_tree.specs.declared.tables.ClassInfo.{ClassInfo}
use Rattle.verse_rules_walk.specs.Order.{InPostOrder}
use Rattle.verse_check_typing.specs.Members.{fields_in}
use Rattle.verse_rules.specs.Sound.{completed}
use Rattle.verse_accept.specs.Fronts.{Accepts}
use Rattle.verse_code.specs.declared.codes.Code.{Code}
use Rattle.verse_code.specs.Validity.{Valid}
use Rattle.verse_meaning.specs.Programs.{Program, program_of}
use Rattle.verse_sound_rules.specs.Found.{Found, Signature}
use Rattle.verse_verify_faults.specs.Spots.{Table}
use Rattle.verse_verify_faults.specs.Reading.{fault_in}
use Rattle.verse_verify_bytes.specs.Bytes.{bytes_of}
use Rattle.verse_verify_bytes.specs.Suits.{IsSort, SuitsSort, Suits}
use Rattle.verse_verify_bytes.specs.Laws.{WrittenIsRead}
use Rattle.lower_code.specs.Programs.{class_of}
use Rattle.lower_bounds.specs.Laws.{CodeIsValid}
use Rattle.lower_lookup.specs.Types.{differ_of}
use Rattle.lower_pass_suits.proofs.Spelled.{Spelled}
use Rattle.lower_pass_suits.proofs.Whole.{suits_of}
use Rattle.note_sorts.specs.Tabled.{field_sort, found_of}
use Rattle.note_found.specs.Laws.{Agree, TablesAgree}
use Rattle.verse_accept_nodes.specs.Laws.{AcceptedShaped}
use Rattle.verse_accept_laws.specs.Laws.{AcceptedCanBeFollowed}
use Rattle.verse_accept_fine.specs.Sorted.{sorted}
use Rattle.verse_accept_sound.specs.Laws.{IsTold}
use Rattle.verse_accept_sound.specs.Programs.{ProgramsAreFine}
use Rattle.note_spelled.specs.Laws.{AreSpelled, AcceptedSpelled, AcceptedEnums}
use Rattle.note_pass.specs.Laws.{code_from, notes_from}
use Rattle.note_pass.proofs.Whole.{IsReady, trees, accepted_ready}
use Rattle.note_clean.specs.Laws.{AcceptedNotesAreClean}
use Rattle.note_verified.specs.Laws.{bytes_from, AcceptedNotesAreVerified}

slots_many : (made : Made) (c : ℕ) (x : ClassInfo) → slice_get made.names.classes c ≡ Some x →
    length ((found_of made).slots c) ≡ length x.fields
unfolding found_of
slots_many made c x e = ap (λ k. length (map field_sort (fields_in k))) e ∙ length-map x.fields field_sort

module _ (spelled : AcceptedSpelled) (enums : AcceptedEnums) (agree : TablesAgree) where
  -- what is found of an accepted program are sorts that bytes can spell
  accepted_spelled : (files : List (List ℕ)) (made : Made) → Accepts files (map item_of made.tree.items) → IsTold made →
      (count : ℕ) → Spelled (program_of made) (found_of made) (code_from made count)
  accepted_spelled files made a told count =
      let is : List ItemTree = map item_of made.tree.items in
      let code : Code = code_from made count in
      let h : Agree (found_of made) (sorted is) = agree made told.names told.types in
      let many : length code.classes ≡ length made.names.classes = length-map made.names.classes class_of in
      let same : length code.classes ≡ length (completed is).classes = many ∙ ap (λ (k : Names). length k.classes) told.names in
      let least : AreSpelled code 39 (sorted is) = spelled files made a code same 39 (omega arith) in
      let all : AreSpelled code 40 (sorted is) = spelled files made a code same 40 (omega arith) in
      record {
        sort = λ n. subst (IsSort code 39) (sym (h.sort n)) (least.sort n);
        key = λ n. subst (SuitsSort code) (sym (h.key n)) (all.key n);
        enums = enums files made a;
        slots = λ c x e. (slots_many made c x e, subst (All (SuitsSort code)) (sym (h.slots c)) (all.slots c));
        params = λ g. subst (λ (f : Signature). All (SuitsSort code) f.params) (sym (h.signature g)) (all.params g);
        result = λ g. subst (λ (f : Signature). SuitsSort code f.result) (sym (h.signature g)) (all.result g);
        this = λ g c e. subst (λ n. c < n) many
            (all.this g c (subst (λ (f : Signature). f.this ≡ Some c) (h.signature g) e));
      }

  module _ (order : InPostOrder) (shapes : AcceptedShaped) (follows : AcceptedCanBeFollowed) (programs : ProgramsAreFine)
      (valid : CodeIsValid) (clean : AcceptedNotesAreClean) (read : WrittenIsRead) where
    pub accepted_verified : AcceptedNotesAreVerified
    accepted_verified files made some few a told =
        let count : ℕ = length files in
        let p : Program = program_of made in
        let found : Found = found_of made in
        let differ : ℕ → ℕ → Bool = differ_of made in
        let code : Code = code_from made count in
        let notes : Table = notes_from made count in
        let ready : IsReady p found differ count = accepted_ready order shapes follows programs agree files made some few a told in
        let fits : Valid code = valid p differ count ready.can.lowered in
        let suits : Suits code notes = suits_of p found differ count ready.can.numbers ready.can.nodes ready.items ready.told
        ready.fine (trees p found differ count count ready) fits (accepted_spelled files made a told count) in
        ap (fault_in code (length (bytes_from made count))) (read code notes fits suits)
        ∙ clean files made some few a told count
