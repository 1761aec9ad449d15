use Rattle.std.proofs.Common.{◌≡◌, suc, ◌+◌, Some, [], sym, ap, subst, ◌∙◌, arith}
use Rattle.verse_value.specs.View.{vals_of}
use Rattle.vm_frames.specs.Calls.{popped_many}
use Rattle.vm_running.proofs.Steps.{comes_by, ok_by, many_none, many_leads}
use Rattle.vm_exec_calls.specs.Calling.{calls_method, chosen_of}
use Rattle.vm_exec_calls.proofs.Choosing.{args_length}
use Rattle.vm_exec_calls.proofs.Entering.{method_leads, chosen_ok, chosen_stuck}
use Rattle.vm_exec_calls.proofs.calling.call_method.Goals as goal
use Rattle.vm_running.proofs.Handed.{none_of, some_of}

pub returns-in_default : goal.returns-in_default
returns-in_default g c =
    let next : c.args.count + 1 ≡ suc c.args.count = omega arith in
    comes_by (method_leads c.args.code.now c.args.method c.args.count _ c.requires.ready)
    (many_none (calls_method c.args.code.now c.args.method c.args.count) (c.args.count + 1) (suc c.args.count) _ _ next
    (none_of _ c.in_default.is c.in_ok-args.ensures.none))

pub returns-in_default-chosen : goal.returns-in_default-chosen
returns-in_default-chosen g c =
    let next : c.args.count + 1 ≡ suc c.args.count = omega arith in
    let popped : popped_many (suc c.args.count) [] c.args.run.now.thread ≡ Some (vals_of c.in-Some.args.items, c.pop_many.new.self) =
    subst (λ k. popped_many k [] c.args.run.now.thread ≡ Some (vals_of c.in-Some.args.items, c.pop_many.new.self)) next
    (some_of (λ vs. popped_many (c.args.count + 1) [] c.args.run.now.thread ≡ Some (vals_of vs.items, c.pop_many.new.self)) _ _
    c.in-Some.is c.in_ok-args.ensures.some) in
    let lead = many_leads (calls_method c.args.code.now c.args.method c.args.count) (suc c.args.count) _ _ _ c.requires.ready popped in
    comes_by (method_leads c.args.code.now c.args.method c.args.count _ c.requires.ready)
    (comes_by lead (chosen_stuck c.args.code.now c.args.method c.args.count (vals_of c.in-Some.args.items) _ _ c.chosen.ensures.same
    (λ t e. sym c.in_default-chosen.is ∙ (c.chosen.ensures.chosen t e ∙
    ap (λ xs. chosen_of c.args.code.now c.args.method c.args.count (vals_of xs) t) c.as_slice.ensures.value))))

pub enter-requires-clause-params : goal.enter-requires-clause-params
enter-requires-clause-params g c =
    args_length (c.args.count + 1) c.in-Some.args.items c.args.run.now.thread c.pop_many.new.self
    (some_of (λ vs. popped_many (c.args.count + 1) [] c.args.run.now.thread ≡ Some (vals_of vs.items, c.pop_many.new.self)) _ _
    c.in-Some.is c.in_ok-args.ensures.some) ∙ sym c.in-Some-chosen.ensures.takes

pub returns : goal.returns
returns g c =
    let next : c.args.count + 1 ≡ suc c.args.count = omega arith in
    let popped : popped_many (suc c.args.count) [] c.args.run.now.thread ≡ Some (vals_of c.in-Some.args.items, c.pop_many.new.self) =
    subst (λ k. popped_many k [] c.args.run.now.thread ≡ Some (vals_of c.in-Some.args.items, c.pop_many.new.self)) next
    (some_of (λ vs. popped_many (c.args.count + 1) [] c.args.run.now.thread ≡ Some (vals_of vs.items, c.pop_many.new.self)) _ _
    c.in-Some.is c.in_ok-args.ensures.some) in
    let lead = many_leads (calls_method c.args.code.now c.args.method c.args.count) (suc c.args.count) _ _ _ c.requires.ready popped in
    ok_by _ _ (method_leads c.args.code.now c.args.method c.args.count _ c.requires.ready)
    (ok_by _ _ lead (chosen_ok c.args.code.now c.args.method c.args.count (vals_of c.in-Some.args.items) c.in-Some-chosen.func _ _ _
    lead.ready c.chosen.ensures.same (λ t e. sym c.in-Some-chosen.is ∙
    (c.chosen.ensures.chosen t e ∙ ap (λ xs. chosen_of c.args.code.now c.args.method c.args.count (vals_of xs) t)
    c.as_slice.ensures.value)) c.enter.ensures))
