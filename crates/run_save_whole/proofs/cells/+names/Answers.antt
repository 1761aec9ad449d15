use Rattle.std.proofs.Common.{arith, ap, ◌∙◌}
use Rattle.verse_value.specs.Bulk.{bulks}
use Rattle.verse_value.proofs.Seen.{item_bulk, bulks_in}
use Rattle.run_save_format.specs.Whole.{name_none}
use Rattle.run_save_whole.proofs.CellSteps.{pairs_in}
use Rattle.run_save_whole.proofs.cells.+names.Goals as goal

pub name_none-names_none-requires : goal.name_none-names_none-requires
name_none-names_none-requires t c = (
  omega (arith, item_bulk c.args.values.now c.values.i c.index-values-i.result c.values-test.true c.index-values-i.is),
  tt,
)

pub pairs_name_none-name_none-requires : goal.pairs_name_none-name_none-requires
pairs_name_none-name_none-requires t c = (omega (arith, ap bulks c.values.ensures, bulks_in c.args.pairs.now), tt)

pub pairs_name_none-returns : goal.pairs_name_none-returns
pairs_name_none-returns t c =
    c.name_none.ensures ∙ ap (name_none c.args.entries) c.values.ensures ∙ pairs_in c.args.entries c.args.pairs.now
