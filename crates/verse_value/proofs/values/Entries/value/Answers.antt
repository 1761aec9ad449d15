use Rattle.std.proofs.Common.{◌≡◌, ◌<◌, ◌≤◌, length, rules, get_or, sym, ap, ◌∙◌}
use Rattle.verse_value.specs.Places.{nth}
use Rattle.verse_value.specs.Parts.{vals_in}
use Rattle.verse_value.proofs.Seen.{nth_here, nth_past, vals_seen}
use Rattle.verse_value.proofs.values.Entries.value.Goals as goal

pub returns-then-at-len : goal.returns-then-at-len
returns-then-at-len c =
    let within : c.args.at < length c.self.inside.values.items = search rules in
    let here : c.index.result.now ≡ get_or c.self.inside.values.items c.args.at c.index.result.now = search rules in
    nth_here c.self.inside.values.items c.args.at c.index.result.now within here ∙
    ap (λ vs. nth vs c.args.at) (sym (vals_seen c.self.inside.keys.keys c.self.inside.values.items c.self.invariant.0) ∙
    ap vals_in c.self.view_is)

pub returns-else-at-len : goal.returns-else-at-len
returns-else-at-len c =
    let past : length c.self.inside.values.items ≤ c.args.at = search rules in
    nth_past c.self.inside.values.items c.args.at past ∙
    ap (λ vs. nth vs c.args.at) (sym (vals_seen c.self.inside.keys.keys c.self.inside.values.items c.self.invariant.0) ∙
    ap vals_in c.self.view_is)
