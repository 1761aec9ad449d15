use Rattle.std.proofs.Common.{◌≡◌, take, map}
use Rattle.verse_value.specs.Val.{int}
use Rattle.verse_value.specs.View.{val_of}
use Rattle.vm_run.proofs.machines.input_array.Given as goal

abbrev pub invariant-loop-input : goal.invariant-loop-input
invariant-loop-input l = map val_of l.items.items ≡ map int (take l.input-index l.inputs)
