use Rattle.std.proofs.Common.{◌≡◌, ◌+◌, Some, [], subst}
use Rattle.verse_value.specs.View.{vals_of}
use Rattle.vm_frames.specs.Calls.{popped_many}
use Rattle.vm_running.specs.Doings.{place_in}
use Rattle.vm_exec_values.proofs.Shapes.{many_stuck, many_comes}
use Rattle.verse_value.specs.Operations.{map_of}
use Rattle.verse_code_machine.specs.Acts.{paired}
use Rattle.vm_ops.specs.Answers.{IsAnswerOrMemory}
use Rattle.vm_exec_values.proofs.collected.map.Goals as goal
use Rattle.vm_running.proofs.Handed.{none_of, some_of}

pub returns-in_default : goal.returns-in_default
returns-in_default g c = many_stuck (c.args.count + c.args.count) (λ vs. map_of (paired vs))
    (place_in c.args.code.now (Some c.args.place)) _ _ (none_of _ c.in_default.is c.in_ok-parts.ensures.none)

pub returns : goal.returns
returns g c =
    many_comes (c.args.count + c.args.count) (λ vs. map_of (paired vs)) (place_in c.args.code.now (Some c.args.place)) _ _ _ _ _
    c.requires.ready (some_of (λ vs. popped_many (c.args.count + c.args.count) [] c.args.run.now.thread ≡
    Some (vals_of vs.items, c.pop_many.new.self)) _ _ c.in-Some.is c.in_ok-parts.ensures.some)
    (c.answer.ensures (map_of (paired (vals_of c.in-Some.parts.items)))
    (subst (λ ps. IsAnswerOrMemory (map_of ps) c.op_map.result) c.in_ok-pairs.ensures c.op_map.ensures.answers))
