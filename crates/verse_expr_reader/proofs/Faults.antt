-- A fault is the same whatever the reading that it ended was of.
use Rattle.std.proofs.Common.{Err}
use Rattle.std.specs.Result.{IsErrOf}
use Rattle.verse_expr_reader.specs.declared.steps.ReadFault.{ReadFault}

pub same_fault : {A B : Type 0} (x y : ReadFault) → IsErrOf {T = A} (Err x) y → IsErrOf {T = B} (Err x) y
same_fault x y h = cc
