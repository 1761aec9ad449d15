use Rattle.std.proofs.Common.{◌≡◌, length, rules}
use Rattle.verse_value.specs.Operations.{count}
use Rattle.verse_value.proofs.Seen.{count_is}
use Rattle.verse_value.proofs.values.Parts.count.Goals as goal

pub returns : goal.returns
returns c =
    let many : length c.self.inside.items.items ≡ count c.args.self.now =
    count_is c.self.inside.items.items c.args.self.now c.self.view_is in
    search (rules, many)
