use Rattle.std.proofs.Common.{◌≡◌, ◌+◌, arith, sym, ap, ◌∙◌}
use Rattle.verse_value.specs.declared.values.Value.{Value}
use Rattle.verse_value.specs.View.{val_of, vals_of}
use Rattle.verse_value.specs.Val.{vals}
use Rattle.verse_value.specs.Bulk.{bulk, bulks, pair_bulks}
use Rattle.verse_value.specs.Parts.{vals_in}
use Rattle.verse_value.specs.Sizes.{levels_of, most_levels, most_pair_levels}
use Rattle.verse_value.proofs.Seen.{item_bulk, bulks_in}
use Rattle.verse_value.proofs.Sums.{levels_in}
use Rattle.verse_value.proofs.sizes.+levels.Goals as goal

pub levels-most_of-requires-in-Map : goal.levels-most_of-requires-in-Map
levels-most_of-requires-in-Map t c = (
  omega (
    arith,
    ap bulks c.values.ensures,
    bulks_in c.deref-in-Map.result.now,
    ap pair_bulks c.deref-in-Map.ensures,
    ap (λ (v : Value). bulk (val_of v)) c.in-Map.is,
  ),
  tt,
)

pub levels-returns-in-Map : goal.levels-returns-in-Map
levels-returns-in-Map t c =
    let deep : most_levels (vals (vals_of c.values.result.now)) ≡ most_pair_levels c.in-Map.entries.value =
    ap most_levels (c.values.ensures ∙ ap vals_in c.deref-in-Map.ensures) ∙ sym (levels_in c.in-Map.entries.value) in
    let whole : levels_of (val_of c.args.v.now) ≡ 1 + most_pair_levels c.in-Map.entries.value =
    ap (λ (v : Value). levels_of (val_of v)) c.in-Map.is in
    omega (arith, c.saturating_add-in-Map.ensures, c.most_of-in-Map.ensures, deep, whole)

pub most_of-levels-requires : goal.most_of-levels-requires
most_of-levels-requires t c = (
  omega (
    arith,
    item_bulk c.args.values.now c.values.value-index c.value-item.result c.values-test.true c.value-item.is,
  ),
  tt,
)
