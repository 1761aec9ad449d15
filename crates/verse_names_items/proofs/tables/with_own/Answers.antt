use Rattle.std.specs.Prelude.{◌++◌, map, slice_get}
use Rattle.std.proofs.Common.{◌∙◌, ap}
use Rattle.std.proofs.lemmas.Result.{IfOk-weaker}
use Rattle.verse_rules_types.specs.Types.{field_of}
use Rattle.verse_names_tables.specs.Views.{table_of}
use Rattle.verse_names_tables.specs.Notes.{note_of}
use Rattle.verse_names_declarations.specs.Known.{known_of}
use Rattle.verse_names_items.specs.Tables as tables
use Rattle.verse_names_items.proofs.Making.{own_told}
use Rattle.verse_names_items.proofs.tables.with_own.Goals as goal

pub returns : goal.returns
returns c = IfOk-weaker c.with_fields.result _ _ (λ r e. own_told (known_of c.args.known.now) c.args.class c.args.above r c.requires
    (e ∙ ap (λ ms. map field_of c.args.above ++ tables.own_fields (table_of c.args.known.now.index.types) ms)
    (c.members_at-members.ensures ∙ ap (λ ns. tables.note_members (slice_get (map note_of ns) c.args.class)) c.deref.ensures.value)))
    c.with_fields.ensures
