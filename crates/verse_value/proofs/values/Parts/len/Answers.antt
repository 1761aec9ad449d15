use Rattle.std.proofs.Common.{◌≡◌, length, rules, ◌∙◌}
use Rattle.verse_value.proofs.Seen.{count_is}
use Rattle.verse_value.proofs.values.Parts.len.Goals as goal

pub returns : goal.returns
returns c =
    let long : c.len.result ≡ length c.self.inside.items.items = search rules in
    long ∙ count_is c.self.inside.items.items c.args.self.now c.self.view_is
