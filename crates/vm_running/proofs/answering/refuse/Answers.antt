use Rattle.std.proofs.Common.{subst}
use Rattle.verse_value.specs.Answer as answer
use Rattle.vm_ops.specs.Answers.{IsFaultOrMemory}
use Rattle.vm_running.specs.Doings.{place_in}
use Rattle.vm_running.proofs.Steps.{refused, stuck_answers}
use Rattle.vm_running.proofs.answering.refuse.Goals as goal

pub returns-in-Fail : goal.returns-in-Fail
returns-in-Fail g c a is = refused _ a answer.fails _ _ _ (subst (IsFaultOrMemory a) c.in-Fail.is is) c.fail.ensures

pub returns-in-Fault : goal.returns-in-Fault
returns-in-Fault g c a is = refused _ a (answer.error c.in-Fault.kind) _ _ _ (subst (IsFaultOrMemory a) c.in-Fault.is is) c.raise.ensures

pub returns-in-Stuck : goal.returns-in-Stuck
returns-in-Stuck g c a is = refused _ a answer.stuck _ _ _ (subst (IsFaultOrMemory a) c.in-Stuck.is is)
    (stuck_answers _ _ (place_in c.args.code.now c.args.place))
