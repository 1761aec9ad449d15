use Rattle.std.proofs.Common.{length, arith, refl}
use Rattle.verse_image.specs.Format.{number, each, place}
use Rattle.verse_image.proofs.WritingLemmas.{writes_then, writes_entry, writes_end}
use Rattle.verse_image.proofs.encoding.push_places.Goals as goal

pub entries-init : goal.entries-init
entries-init c = λ new w. writes_then (number (length c.args.places.now)) (each place c.args.places.now) _ _ _ c.in_ok-push_count.ensures w

pub entries-preserved : goal.entries-preserved
entries-preserved c = λ new w.
    c.entries.invariant new (writes_entry place c.args.places.now c.entries.place-index _ _ _ _ _
    (omega arith) refl c.in_ok-push_place.ensures w)

pub returns : goal.returns
returns c = c.entries.invariant _ (writes_end place c.args.places.now c.entries.place-index _ (omega arith))
