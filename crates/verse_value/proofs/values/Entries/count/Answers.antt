use Rattle.std.proofs.Common.{◌≡◌, length, rules, sym, ap, ◌∙◌}
use Rattle.verse_value.specs.Parts.{keys_in}
use Rattle.verse_value.specs.Operations.{entry_count}
use Rattle.verse_value.proofs.Seen.{keys_seen, key_count_in}
use Rattle.verse_value.proofs.values.Entries.count.Goals as goal

pub returns : goal.returns
returns c =
    let many : length c.self.inside.values.items ≡ entry_count c.args.self.now =
    c.self.invariant.0 ∙ ap length (sym (keys_seen c.self.inside.keys.keys c.self.inside.values.items c.self.invariant.0)) ∙
    ap (λ ps. length (keys_in ps)) c.self.view_is ∙ key_count_in c.args.self.now in
    search (rules, many)
