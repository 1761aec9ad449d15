use Rattle.std.proofs.Common.{None, sym, subst}
use Rattle.verse_value.specs.Answer.{gives}
use Rattle.verse_value.specs.Operations.{text_val}
use Rattle.vm_ops.specs.Answers.{IsAnswerOrMemory}
use Rattle.vm_running.specs.Doings.{answers}
use Rattle.vm_running.proofs.Steps.{ok_by, one_leads}
use Rattle.vm_exec_values.proofs.moves.text.Goals as goal

pub returns : goal.returns
returns g c =
    ok_by _ _ (one_leads (λ bytes. answers None (gives (text_val bytes))) _ _ _ c.requires.ready (sym c.in-Some.ensures.value))
    (c.answer.ensures (gives (text_val c.in-Some.bytes.now))
    (subst (λ bytes. IsAnswerOrMemory (gives (text_val bytes)) c.op_text.result) c.as_slice.ensures c.op_text.ensures.answers))
