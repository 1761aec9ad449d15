-- What notes say of classes, one by one.
use Rattle.std.proofs.Common.{◌≡◌, suc, List, [], ◌∷◌, ◌++◌, length, map, slice_get, Some, refl, sym, ap, ◌∙◌, arith}
use Rattle.std.proofs.lemmas.List.{append_assoc, length-append}
use Rattle.std.specs.Option.{option_map}
use Rattle.std.proofs.lemmas.Option.{slice_get-map}
use Rattle.verse_tree.specs.declared.tables.ClassInfo.{ClassInfo}
use Rattle.verse_tree.specs.declared.programs.Program.{Program}
use Rattle.verse_rules_types.specs.Types.{class_of}
use Rattle.verse_rules_types.specs.Fitting.{parent_in}
use Rattle.verse_check_typing.specs.Members.{fields_in}
use Rattle.lower_notes.specs.Programs.{class_notes}
use Rattle.note_sorts.specs.Tabled.{field_sort, found_of}
use Rattle.note_sorts.specs.Classes.{class_note}

at_seam : {A : Type 0} (xs ys : List A) (y : A) → slice_get (xs ++ y ∷ ys) (length xs) ≡ Some y
at_seam [] ys y = refl
at_seam (x ∷ xs) ys y = at_seam xs ys y

-- behind some of them
classes_from : (p : Program) (pre cs : List ClassInfo) → p.names.classes ≡ pre ++ cs →
    map class_note cs ≡ class_notes (found_of p) (length pre) cs
unfolding found_of
classes_from p pre [] e = refl
classes_from p pre (c ∷ cs) e =
    let here : slice_get p.names.classes (length pre) ≡ Some c = ap (λ xs. slice_get xs (length pre)) e ∙ at_seam pre cs c in
    let up : (found_of p).up (length pre) ≡ c.parent =
    ap parent_in (slice_get-map class_of p.names.classes (length pre) ∙ ap (option_map class_of) here) in
    let slots : (found_of p).slots (length pre) ≡ map field_sort c.fields = ap (λ o. map field_sort (fields_in o)) here in
    let more : p.names.classes ≡ (pre ++ c ∷ []) ++ cs = e ∙ sym (append_assoc pre (c ∷ []) cs) in
    let long : length (pre ++ c ∷ []) ≡ suc (length pre) = omega (arith, length-append pre (c ∷ [])) in
    let rest = class_notes (found_of p) (suc (length pre)) cs in
    ap (λ k. class_note c ∷ k) (classes_from p (pre ++ c ∷ []) cs more ∙ ap (λ k. class_notes (found_of p) k cs) long)
    ∙ ap (λ q. (record (class_note c) { parent = q; slots = map field_sort c.fields }) ∷ rest) (sym up)
    ∙ ap (λ q. (record (class_note c) { parent = (found_of p).up (length pre); slots = q }) ∷ rest) (sym slots)

pub classes_are : (p : Program) → map class_note p.names.classes ≡ class_notes (found_of p) 0 p.names.classes
classes_are p = classes_from p [] p.names.classes refl
