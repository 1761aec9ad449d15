use Rattle.std.proofs.Common.{List, subst}
use Rattle.verse_image.specs.Writing.{Writes}
use Rattle.verse_image.proofs.WritingLemmas.{writes_then}
use Rattle.verse_value.specs.declared.values.Value.{Value}
use Rattle.verse_value.specs.View.{vals_of}
use Rattle.run_save_format.specs.Format.{cell_kind, value, list}
use Rattle.run_save_writer.proofs.cells.push_cell.Goals as goal

pub returns : goal.returns
returns c =
    writes_then (cell_kind c.args.cell.now.0) (list value (vals_of c.args.cell.now.1.items)) _ _ _ c.in_ok-push_kind.ensures
    (subst (λ (xs : List Value). Writes (list value (vals_of xs)) c.push_kind.new.out.items c.push_values.new.out.items)
    c.as_slice.ensures.value c.in_ok-push_values.ensures)
