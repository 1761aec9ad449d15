-- How an operation goes.
use Rattle.verse_code.specs.declared.codes.Code.{Code}
use Rattle.verse_code.specs.Validity.{Valid}
use Rattle.verse_code_machine.specs.Tasks.{Machine}
use Rattle.verse_code_machine.specs.Runs.{step}
use Rattle.verse_code_machine_parents.specs.Parents.{MachineRooted}
use Rattle.run_save_moves.specs.Fine.{TextsAreBytes}
use Rattle.run_save_moves.specs.Moves.{acts, Leads}

-- an operation of a valid code goes by moves
abbrev pub OperationMoves : Type 0
OperationMoves = (c : Code) → Valid c → TextsAreBytes c → (k : Machine) → MachineRooted k →
    Leads c (acts k) (step c k)
