use Rattle.std.proofs.Common.{ap, ◌∙◌}
use Rattle.verse_tree.specs.declared.tables.Ref.TheVariants as ref
use Rattle.verse_names_declarations.specs.Members.{stands}
use Rattle.verse_names_declarations.proofs.Membering.{field_at}
use Rattle.verse_names_declarations.proofs.members.Members.field.Goals as goal

pub returns : goal.returns
returns c = c.as_field.ensures ∙ ap (stands (ref.Field c.args.self.now.class)) c.find.ensures ∙
    field_at c.args.self.now.class c.args.name.now c.args.self.now.fields
