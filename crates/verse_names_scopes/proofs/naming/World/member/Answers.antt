use Rattle.std.proofs.Common.{◌∙◌, ap, sym}
use Rattle.verse_names_tables.specs.Names.{look}
use Rattle.verse_names_declarations.specs.Lines.{members_view}
use Rattle.verse_names_scopes.specs.Views.{seen_members}
use Rattle.verse_names_scopes.proofs.Bare.{bare_is}
use Rattle.verse_names_scopes.proofs.naming.World.member.Goals as goal

pub returns-in-Some : goal.returns-in-Some
returns-in-Some c = c.bare.ensures ∙ bare_is c.in-Some.members.now.class c.args.name.now (members_view c.in-Some.members.now) ∙
    ap (λ o. look c.args.name.now (seen_members o)) (sym c.in-Some.is)
