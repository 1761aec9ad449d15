use Rattle.std.proofs.Common.{◌≡◌, ◌<◌, ◌≤◌, length, rules, get_or, ap, ◌∙◌}
use Rattle.verse_value.specs.Places.{nth}
use Rattle.verse_value.proofs.Seen.{nth_here, nth_past}
use Rattle.verse_value.proofs.values.Parts.part.Goals as goal

pub returns-then-at-len : goal.returns-then-at-len
returns-then-at-len c =
    let within : c.args.at < length c.self.inside.items.items = search rules in
    let here : c.index.result.now ≡ get_or c.self.inside.items.items c.args.at c.index.result.now = search rules in
    nth_here c.self.inside.items.items c.args.at c.index.result.now within here ∙ ap (λ vs. nth vs c.args.at) c.self.view_is

pub returns-else-at-len : goal.returns-else-at-len
returns-else-at-len c =
    let past : length c.self.inside.items.items ≤ c.args.at = search rules in
    nth_past c.self.inside.items.items c.args.at past ∙ ap (λ vs. nth vs c.args.at) c.self.view_is
