use Rattle.verse_image.proofs.WritingLemmas.{writes_then}
use Rattle.verse_value.specs.View.{val_of}
use Rattle.run_save_format.specs.Format.{value, wide}
use Rattle.run_save_writer.proofs.cells.push_given.Goals as goal

pub returns : goal.returns
returns c =
    writes_then (value (val_of c.args.entry.now.0)) (wide c.args.entry.now.1) _ _ _ c.in_ok-push_value.ensures c.in_ok-push_wide.ensures
