use Rattle.std.proofs.Common.{◌∙◌, ap}
use Rattle.verse_names_declarations.specs.Lines.{members_view}
use Rattle.verse_names_declarations.specs.Known.{known_of}
use Rattle.verse_names_scopes.specs.Visible.{bare_table, World, inside}
use Rattle.verse_names_scopes.proofs.items.world_in.Goals as goal

pub returns : goal.returns
returns c =
    let k = known_of c.args.known.now in
    ap (λ t. (let w : World = record { items = k.index.items; types = k.index.types; members = t; class = (inside k c.args.class).class } in w))
    (ap (λ n. bare_table n (members_view c.args.members.now)) c.requires.class ∙ ap (bare_table c.args.class) c.requires.view)
