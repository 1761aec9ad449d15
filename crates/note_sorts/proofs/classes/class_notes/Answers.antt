-- The classes that are noted are all.
use Rattle.std.proofs.Common.{◌++◌, map, sym, ap, ◌∙◌}
use Rattle.std.proofs.Math.ListN.{drop_of_length-le}
use Rattle.std.proofs.lemmas.List.{append-nil}
use Rattle.verse_verify_notes.specs.View.{classes_of}
use Rattle.note_sorts.specs.Classes.{class_note}
use Rattle.note_sorts.proofs.Noting.{classes_are}
use Rattle.note_sorts.proofs.classes.class_notes.Goals as goal

pub returns : goal.returns
returns c =
    let made = classes_of c.classes.notes.items in
    let these = c.as_slice-classes.result.now in
    sym (append-nil made)
    ∙ ap (λ xs. made ++ map class_note xs) (sym (drop_of_length-le these c.classes-test.false))
    ∙ c.classes.invariant ∙ ap (map class_note) c.as_slice-classes.ensures ∙ classes_are c.args.program.now
