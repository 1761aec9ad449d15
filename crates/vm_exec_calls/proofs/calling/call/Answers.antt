use Rattle.std.proofs.Common.{◌≡◌, Some, [], refl, sym}
use Rattle.verse_code.specs.declared.codes.Func.{Func}
use Rattle.verse_value.specs.View.{vals_of}
use Rattle.vm_frames.specs.Calls.{popped_many}
use Rattle.vm_running.specs.Doings.{popping_many}
use Rattle.vm_running.proofs.Steps.{comes_by, ok_by, one_leads, many_leads, many_none}
use Rattle.vm_exec_calls.specs.Calling.{calls}
use Rattle.vm_exec_calls.proofs.Choosing.{room_for, args_length}
use Rattle.vm_exec_calls.proofs.calling.call.Goals as goal
use Rattle.vm_running.proofs.Handed.{none_of, some_of}

pub returns-in_default-2 : goal.returns-in_default-2
returns-in_default-2 g c =
    comes_by (one_leads (λ (f : Func). popping_many f.params (λ vs. calls f vs)) _ c.in-Some.func.now _ c.requires.ready
    (sym c.in-Some.ensures.value)) (many_none (λ vs. calls c.in-Some.func.now vs) c.in-Some.func.now.params c.in-Some.func.now.params _
    _ refl (none_of _ c.in_default-2.is c.in_ok-args.ensures.none))

pub enter-requires-clause-params : goal.enter-requires-clause-params
enter-requires-clause-params g c =
    args_length c.in-Some.func.now.params c.in-Some-2.args.items c.args.run.now.thread c.pop_many.new.self
    (some_of (λ vs. popped_many c.in-Some.func.now.params [] c.args.run.now.thread ≡ Some (vals_of vs.items, c.pop_many.new.self)) _ _
    c.in-Some-2.is c.in_ok-args.ensures.some)

pub enter-requires-clause-locals : goal.enter-requires-clause-locals
enter-requires-clause-locals g c = room_for c.args.code.now c.args.func c.in-Some.func.now c.requires.valid (sym c.in-Some.ensures.value)

pub returns : goal.returns
returns g c =
    ok_by _ _ (one_leads (λ (f : Func). popping_many f.params (λ vs. calls f vs)) _ c.in-Some.func.now _ c.requires.ready
    (sym c.in-Some.ensures.value)) (ok_by _ _
    (many_leads (λ vs. calls c.in-Some.func.now vs) c.in-Some.func.now.params _ _ _ c.requires.ready
    (some_of (λ vs. popped_many c.in-Some.func.now.params [] c.args.run.now.thread ≡ Some (vals_of vs.items, c.pop_many.new.self)) _ _
    c.in-Some-2.is c.in_ok-args.ensures.some)) c.enter.ensures)
