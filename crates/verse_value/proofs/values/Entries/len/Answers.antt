use Rattle.std.proofs.Common.{◌≡◌, length, rules, sym, ap, ◌∙◌}
use Rattle.verse_value.specs.Parts.{keys_in}
use Rattle.verse_value.proofs.Seen.{keys_seen, key_count_in}
use Rattle.verse_value.proofs.values.Entries.len.Goals as goal

pub returns : goal.returns
returns c =
    let long : c.len.result ≡ length c.self.inside.values.items = search rules in
    long ∙ c.self.invariant.0 ∙ ap length (sym (keys_seen c.self.inside.keys.keys c.self.inside.values.items c.self.invariant.0)) ∙
    ap (λ ps. length (keys_in ps)) c.self.view_is ∙ key_count_in c.args.self.now
