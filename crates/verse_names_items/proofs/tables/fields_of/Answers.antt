use Rattle.std.proofs.Common.{◌++◌, map, ap, sym, ◌∙◌, append_assoc}
use Rattle.std.specs.Prelude.{slice_get}
use Rattle.verse_rules_types.specs.Types.{field_of}
use Rattle.verse_names_tables.specs.Views.{table_of}
use Rattle.verse_names_tables.specs.Notes.{note_of}
use Rattle.verse_names_items.specs.Tables.{fields_of, own_fields, note_members}
use Rattle.verse_names_items.proofs.Fields.{last_fields}
use Rattle.verse_names_items.proofs.tables.fields_of.Goals as goal

pub classes-preserved : goal.classes-preserved
classes-preserved c =
    let ts = table_of c.args.types.now in
    let ns = map note_of c.args.notes.now in
    let front = map field_of c.classes.found in
    let rest = c.pop.new.self in
    let own = own_fields ts (note_members (slice_get ns c.in-Some.at)) in
    ap (λ l. l ++ fields_of ts ns rest) (c.in_ok-found.ensures ∙ ap (λ ms. front ++ own_fields ts ms) c.members_at.ensures)
    ∙ append_assoc front own (fields_of ts ns rest)
    ∙ ap (λ l. front ++ l) (sym (last_fields ts ns rest c.in-Some.at))
    ∙ ap (λ l. front ++ fields_of ts ns l) (sym c.in-Some.ensures)
    ∙ c.classes.invariant
