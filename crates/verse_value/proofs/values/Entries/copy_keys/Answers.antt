use Rattle.std.proofs.Common.{◌≡◌, take, arith, sym, ap, ◌∙◌}
use Rattle.std.proofs.lemmas.Grind.{common_steps}
use Rattle.verse_value.specs.contracts.keys.KeyEq.TheImpl.Laws.{laws-law}
use Rattle.verse_value.specs.Keys.{key_eq}
use Rattle.verse_value.specs.Parts.{keys_in}
use Rattle.verse_value.proofs.Seen.{keys_seen}
use Rattle.verse_value.proofs.KeyPlaces.{one_more_key}
use Rattle.verse_value.proofs.values.Entries.copy_keys.Goals as goal

pub keys-preserved : goal.keys-preserved
keys-preserved c =
    one_more_key key_eq laws-law.symm c.as_slice-key-items.result.now _ _ c.keys.key-index _ c.key-item.result
    (rw c.as_slice-key-items.ensures.keys c.as_slice-key-items.ensures.unique) c.keys-test.true c.keys.invariant c.in_ok-copy.ensures
    c.key-item.is c.in_ok-insert.ensures.keys

pub returns : goal.returns
returns c =
    let all : take c.keys.key-index c.as_slice-key-items.result.now ≡ c.as_slice-key-items.result.now = grind (arith, common_steps) in
    c.keys.invariant ∙ all ∙ c.as_slice-key-items.ensures.keys ∙
    sym (keys_seen c.self.inside.keys.keys c.self.inside.values.items c.self.invariant.0) ∙ ap keys_in c.self.view_is
