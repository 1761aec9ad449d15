use Rattle.std.proofs.Common.{arith, ap, ◌∙◌}
use Rattle.verse_value.specs.Val.{vals}
use Rattle.verse_value.specs.Bulk.{bulks}
use Rattle.verse_value.proofs.Seen.{item_bulk, bulks_in, same_pairs, as_many}
use Rattle.verse_value.proofs.values.+copy.Goals as goal

pub copy_all-copy-requires : goal.copy_all-copy-requires
copy_all-copy-requires t c = (
  omega (
    arith,
    item_bulk c.args.values.now c.values.value-index c.value-item.result c.values-test.true c.value-item.is,
  ),
  tt,
)

pub copy_map-copy_all-requires : goal.copy_map-copy_all-requires
copy_map-copy_all-requires t c = (omega (arith, ap bulks c.values.ensures, bulks_in c.args.entries.now), tt)

pub copy_map-of-requires : goal.copy_map-of-requires
copy_map-of-requires t c = as_many c.in_ok-keys.keys.keys c.in_ok-values.values.items c.args.entries.now c.in_ok-keys.ensures
    (ap vals c.in_ok-values.ensures ∙ c.values.ensures)

pub copy_map-returns : goal.copy_map-returns
copy_map-returns t c =
    same_pairs c.of.result c.args.entries.now (c.of.ensures.keys ∙ c.in_ok-keys.ensures)
    (c.of.ensures.values ∙ ap vals c.in_ok-values.ensures ∙ c.values.ensures)
