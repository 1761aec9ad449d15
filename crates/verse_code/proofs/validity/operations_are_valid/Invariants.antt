use Rattle.std.proofs.Common.{◌≡◌, ◌<◌, ℕ, true, Some, slice_get}
use Rattle.verse_code.specs.declared.operations.Op.{Op}
use Rattle.verse_code.specs.Operations.{operands_of}
use Rattle.verse_code.specs.Validity.{all_suit}
use Rattle.verse_code.proofs.validity.operations_are_valid.Given as goal

-- the operations so far have operands that suit
abbrev pub invariant-loop-at : goal.invariant-loop-at
invariant-loop-at l = (at : ℕ) (op : Op) → at < l.at → slice_get l.code.ops at ≡ Some op → all_suit l.sizes at (operands_of op) ≡ true
