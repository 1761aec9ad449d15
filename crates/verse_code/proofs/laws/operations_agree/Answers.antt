use Rattle.verse_code.proofs.Agree.{right_forms, op_form}
use Rattle.verse_code.proofs.laws.operations_agree.Goals as goal

pub returns : goal.returns
returns c = record { forms = right_forms; operations = op_form }
