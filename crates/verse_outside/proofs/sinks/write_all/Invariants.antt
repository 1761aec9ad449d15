use Rattle.std.proofs.Common.{◌≡◌, ◌-◌, ◌≤◌, length, take}
use Rattle.verse_outside.specs.Held.{with_more}
use Rattle.verse_outside.proofs.sinks.write_all.Given as goal

abbrev pub invariant-pieces : goal.invariant-pieces
invariant-pieces g l =
    let taken = g.S.Sink.taken in
    let faults = g.S.Sink.faults in
    record {
      within : l.at ≤ length l.piece;
      taken : taken l.out ≡ with_more (taken l.fn.out) (take l.at l.piece);
      calm : faults l.out ≡ faults l.fn.out;
    }

abbrev pub decreases-pieces : goal.decreases-pieces
decreases-pieces g l = length l.piece - l.at
