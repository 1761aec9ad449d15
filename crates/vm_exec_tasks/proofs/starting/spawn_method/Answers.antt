use Rattle.std.proofs.Common.{◌≡◌, suc, ◌+◌, Some, [], true, false, refl, sym, ap, subst, ◌∙◌, arith, rules}
use Rattle.vm_exec_tasks.proofs.Asking.{asks_by, asks_nothing, held_none, free_leads, free_bare, settled_moved, ready_same, many_free}
use Rattle.vm_running.proofs.Steps.{many_leads, many_none}
use Rattle.verse_value.specs.View.{vals_of}
use Rattle.vm_frames.specs.Calls.{popped_many}
use Rattle.vm_exec_calls.specs.Calling.{chosen_of}
use Rattle.vm_exec_calls.proofs.Choosing.{args_length}
use Rattle.vm_exec_tasks.proofs.Starts.{begins_method, pops_method, method_leads, method_stuck, method_asks, called, spawn_asks}
use Rattle.vm_exec_tasks.proofs.Leaving.{like_by, like_many, like_moved, settles, still_by}
use Rattle.vm_exec_tasks.proofs.starting.spawn_method.Goals as goal
use Rattle.vm_running.proofs.Handed.{none_of, some_of}

pub returns-then-not-is_free-clause-asks : goal.returns-then-not-is_free-clause-asks
returns-then-not-is_free-clause-asks g c =
    let not_so : c.is_free.result ≡ false = search rules in
    held_none (pops_method c.args.code.now c.args.method c.args.count) _ _ (λ ms. sym not_so ∙ c.is_free.ensures ms)

pub returns-in_default-clause-asks : goal.returns-in_default-clause-asks
returns-in_default-clause-asks g c =
    let so : c.is_free.result ≡ true = search rules in
    let next : c.args.count + 1 ≡ suc c.args.count = omega arith in
    asks_by (free_leads (pops_method c.args.code.now c.args.method c.args.count) _ c.requires.ready (λ ms. sym so ∙ c.is_free.ensures ms))
    (asks_by (method_leads c.args.code.now c.args.method c.args.count _ c.requires.ready)
    (asks_nothing _ (many_none (begins_method c.args.code.now c.args.method c.args.count) (c.args.count + 1) (suc c.args.count) _ _ next
    (none_of _ c.in_default.is c.in_ok-args.ensures.none))))

pub returns-in_default-chosen-clause-asks : goal.returns-in_default-chosen-clause-asks
returns-in_default-chosen-clause-asks g c =
    let so : c.is_free.result ≡ true = search rules in
    let next : c.args.count + 1 ≡ suc c.args.count = omega arith in
    let popped : popped_many (suc c.args.count) [] c.args.run.now.thread ≡ Some (vals_of c.in-Some.args.items, c.pop_many.new.self) =
    subst (λ k. popped_many k [] c.args.run.now.thread ≡ Some (vals_of c.in-Some.args.items, c.pop_many.new.self)) next
    (some_of (λ vs. popped_many (c.args.count + 1) [] c.args.run.now.thread ≡ Some (vals_of vs.items, c.pop_many.new.self)) _ _
    c.in-Some.is c.in_ok-args.ensures.some) in
    let lead = many_leads (begins_method c.args.code.now c.args.method c.args.count) (suc c.args.count) _ _ _ c.requires.ready popped in
    asks_by (free_leads (pops_method c.args.code.now c.args.method c.args.count) _ c.requires.ready (λ ms. sym so ∙ c.is_free.ensures ms))
    (asks_by (method_leads c.args.code.now c.args.method c.args.count _ c.requires.ready)
    (asks_by lead (method_stuck c.args.code.now c.args.method c.args.count (vals_of c.in-Some.args.items) _ _ c.chosen.ensures.same
    (λ t e. sym c.in_default-chosen.is ∙ (c.chosen.ensures.chosen t e ∙
    ap (λ xs. chosen_of c.args.code.now c.args.method c.args.count (vals_of xs) t) c.as_slice.ensures.value)))))

pub go_next-requires-clause-some : goal.go_next-requires-clause-some
go_next-requires-clause-some g c =
    (like_many (c.args.count + 1) _ _ _ (some_of (λ vs. popped_many (c.args.count + 1) [] c.args.run.now.thread ≡
    Some (vals_of vs.items, c.pop_many.new.self)) _ _ c.in-Some.is c.in_ok-args.ensures.some)).some c.requires.ready.some

pub go_next-requires-clause-free : goal.go_next-requires-clause-free
go_next-requires-clause-free g c =
    let so : c.is_free.result ≡ true = search rules in
    many_free (c.args.count + 1) _ _ _ (some_of (λ vs. popped_many (c.args.count + 1) [] c.args.run.now.thread ≡
    Some (vals_of vs.items, c.pop_many.new.self)) _ _ c.in-Some.is c.in_ok-args.ensures.some) (sym (c.is_free.ensures []) ∙ so)

pub returns-clause-asks : goal.returns-clause-asks
returns-clause-asks g c =
    let so : c.is_free.result ≡ true = search rules in
    let next : c.args.count + 1 ≡ suc c.args.count = omega arith in
    let many = (some_of (λ vs. popped_many (c.args.count + 1) [] c.args.run.now.thread ≡ Some (vals_of vs.items, c.pop_many.new.self)) _ _
    c.in-Some.is c.in_ok-args.ensures.some) in
    let popped : popped_many (suc c.args.count) [] c.args.run.now.thread ≡ Some (vals_of c.in-Some.args.items, c.pop_many.new.self) =
    subst (λ k. popped_many k [] c.args.run.now.thread ≡ Some (vals_of c.in-Some.args.items, c.pop_many.new.self)) next many in
    let lead = many_leads (begins_method c.args.code.now c.args.method c.args.count) (suc c.args.count) _ _ _ c.requires.ready popped in
    let free = many_free (c.args.count + 1) _ _ _ many (sym (c.is_free.ensures []) ∙ so) in
    asks_by (free_leads (pops_method c.args.code.now c.args.method c.args.count) _ c.requires.ready (λ ms. sym so ∙ c.is_free.ensures ms))
    (asks_by (method_leads c.args.code.now c.args.method c.args.count _ c.requires.ready)
    (asks_by lead (method_asks c.args.code.now c.args.method c.args.count (vals_of c.in-Some.args.items) c.in-Some-chosen.func _ _ _
    lead.ready c.chosen.ensures.same (λ t e. sym c.in-Some-chosen.is ∙
    (c.chosen.ensures.chosen t e ∙ ap (λ xs. chosen_of c.args.code.now c.args.method c.args.count (vals_of xs) t)
    c.as_slice.ensures.value)) (spawn_asks c.in-Some-chosen.func (called c.in-Some-chosen.func c.in-Some.args) _ _ lead.ready.some
    c.go_next.ensures (settled_moved _ _ _ (ready_same lead.ready c.chosen.ensures.same) (free_bare _ [] free) c.go_next.ensures)
    refl))))

pub returns-clause-leaves : goal.returns-clause-leaves
returns-clause-leaves g c =
    let so : c.is_free.result ≡ true = search rules in
    let many = (some_of (λ vs. popped_many (c.args.count + 1) [] c.args.run.now.thread ≡ Some (vals_of vs.items, c.pop_many.new.self)) _ _
    c.in-Some.is c.in_ok-args.ensures.some) in (
      settles _ _ (still_by c.chosen.ensures.same) (like_by (like_many (c.args.count + 1) _ _ _ many) (like_moved _ _ _ c.go_next.ensures))
          (sym (c.is_free.ensures []) ∙ so),
      record {
        params = args_length (c.args.count + 1) c.in-Some.args.items c.args.run.now.thread c.pop_many.new.self many ∙
            sym c.in-Some-chosen.ensures.takes;
        locals = c.in-Some-chosen.ensures.locals;
      },
    )
