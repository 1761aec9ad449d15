use Rattle.std.proofs.Common.{arith, refl}
use Rattle.verse_image.specs.Format.{number}
use Rattle.verse_image.proofs.WritingLemmas.{writes_entry, writes_end}
use Rattle.run_save_writer.proofs.Writing.{writes_many}
use Rattle.run_save_writer.proofs.numbers.push_numbers.Goals as goal

pub entries-init : goal.entries-init
entries-init c = λ new w. writes_many number c.args.numbers.now _ _ _ c.in_ok-push_count.ensures w

pub entries-preserved : goal.entries-preserved
entries-preserved c = λ new w.
    c.entries.invariant new (writes_entry number c.args.numbers.now c.entries.entry-index _ 0 _ _ _
    (omega arith) refl c.in_ok-push_number.ensures w)

pub returns : goal.returns
returns c = c.entries.invariant _ (writes_end number c.args.numbers.now c.entries.entry-index _ (omega arith))
