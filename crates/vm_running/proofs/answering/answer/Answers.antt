use Rattle.std.proofs.Common.{subst}
use Rattle.vm_ops.specs.Answers.{IsAnswerOrMemory}
use Rattle.vm_running.proofs.Steps.{given}
use Rattle.vm_running.proofs.answering.answer.Goals as goal

pub returns-in-Ok : goal.returns-in-Ok
returns-in-Ok g c a is = given _ a _ _ _ _ (subst (IsAnswerOrMemory a) c.in-Ok.is is) c.push_on.ensures
