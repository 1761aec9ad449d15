use Rattle.std.proofs.Common.{◌≡◌, ◌≢◌, ◌-◌, [], reverse}
use Rattle.verse_value.specs.View.{vals_of}
use Rattle.vm_frames.specs.Calls.{popped_many}
use Rattle.vm_frames.proofs.threads.Thread.pop_many.Given as goal

abbrev pub invariant-operands : goal.invariant-operands
invariant-operands l =
    (l.self ≢ []) × (popped_many (l.count - l._i) (vals_of (reverse l.taken.items)) l.self ≡ popped_many l.count [] l.fn.self)
