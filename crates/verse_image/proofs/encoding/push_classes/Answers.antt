use Rattle.std.proofs.Common.{length, arith}
use Rattle.verse_image.specs.Format.{number, each, class}
use Rattle.verse_image.proofs.WritingLemmas.{writes_then, writes_entry, writes_end}
use Rattle.verse_image.proofs.encoding.push_classes.Goals as goal

pub entries-init : goal.entries-init
entries-init c = λ new w. writes_then (number (length c.args.classes.now)) (each class c.args.classes.now) _ _ _ c.in_ok-push_count.ensures
    w

pub entries-preserved : goal.entries-preserved
entries-preserved c = λ new w.
    c.entries.invariant new (writes_entry class c.args.classes.now c.entries.class-index _ _ _ _ _
    (omega arith) c.class-item.is c.in_ok-push_class.ensures w)

pub returns : goal.returns
returns c = c.entries.invariant _ (writes_end class c.args.classes.now c.entries.class-index _ (omega arith))
