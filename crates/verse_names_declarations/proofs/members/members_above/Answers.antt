use Rattle.std.proofs.Common.{map, ap, sym, ◌∙◌}
use Rattle.verse_rules_types.specs.Types.{classes_of}
use Rattle.verse_rules_types.specs.Fitting.{parent_of}
use Rattle.verse_names_tables.specs.Notes.{note_of}
use Rattle.verse_names_declarations.proofs.Descending.{told_above_ok}
use Rattle.verse_names_declarations.proofs.members.members_above.Goals as goal

pub returns-in-Some-descent : goal.returns-in-Some-descent
returns-in-Some-descent c =
    let traced = c.args.known.now.lineage in
    let up_is = ap (λ l. parent_of (classes_of l) c.args.class) (sym c.as_slice.ensures) ∙ sym c.parent.ensures ∙ c.in-Some-parent.is in
    told_above_ok (map note_of traced.notes.items) (classes_of traced.outline) c.args.class c.in-Some-parent.up c.in-Some._own.now
    c.in-Some-descent.descent.now c.copy.result c.in-Some.ensures c.in-Some-descent.ensures up_is c.copy.ensures.view
