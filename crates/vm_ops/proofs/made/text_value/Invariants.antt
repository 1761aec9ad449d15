use Rattle.std.proofs.Common.{◌≡◌, map, take}
use Rattle.verse_value.specs.Val.{char}
use Rattle.verse_value.specs.View.{vals_of}
use Rattle.vm_ops.proofs.made.text_value.Given as goal

abbrev pub invariant-bytes : goal.invariant-bytes
invariant-bytes l = vals_of l.items.items ≡ map char (take l.byte-index l.bytes)
