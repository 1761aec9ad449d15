use Rattle.std.proofs.Common.{length, arith, refl}
use Rattle.verse_image.specs.Format.{number, each}
use Rattle.verse_image.proofs.WritingLemmas.{writes_then, writes_entry, writes_end}
use Rattle.verse_image.proofs.pieces.push_methods.Goals as goal

pub entries-init : goal.entries-init
entries-init c = λ new w. writes_then (number (length c.args.methods.now)) (each number c.args.methods.now) _ _ _ c.in_ok-push_count.ensures
    w

pub entries-preserved : goal.entries-preserved
entries-preserved c = λ new w.
    c.entries.invariant new (writes_entry number c.args.methods.now c.entries.method-index _ 0 _ _ _
    (omega arith) refl c.in_ok-push_number.ensures w)

pub returns : goal.returns
returns c = c.entries.invariant _ (writes_end number c.args.methods.now c.entries.method-index _ (omega arith))
