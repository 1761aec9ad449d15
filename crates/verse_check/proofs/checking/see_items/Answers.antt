use Rattle.std.proofs.Common.{map, ◌∙◌}
use Rattle.verse_tree.specs.ItemView.{item_of}
use Rattle.verse_names_declarations.specs.Lines.{members_view}
use Rattle.verse_check_typing.specs.Views.{names_of}
use Rattle.verse_check.specs.Views.{sight_of}
use Rattle.verse_check.proofs.Answering.{sees}
use Rattle.verse_check.proofs.checking.see_items.Goals as goal

pub returns : goal.returns
returns c =
    sees c.args.names.now (map item_of c.args.items.now) (sight_of c.in_ok-seen.seen) (map members_view c.members.result.now)
    (map names_of c.values.result.now) c.in_ok-seen.ensures
    (c.members.ensures ∙ c.in_ok-tables.ensures.members) (c.values.ensures ∙ c.in_ok-tables.ensures.values)
