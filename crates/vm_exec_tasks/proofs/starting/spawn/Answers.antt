use Rattle.std.proofs.Common.{◌≡◌, Some, [], true, false, refl, sym, ◌∙◌, rules, slice_get}
use Rattle.vm_exec_tasks.proofs.Asking.{asks_by, asks_nothing, held_none, free_leads, free_bare, settled_moved, many_free}
use Rattle.vm_running.proofs.Steps.{many_leads, many_none, one_leads, one_none}
use Rattle.vm_running.specs.Doings.{popping_many, with_one}
use Rattle.verse_code.specs.declared.codes.Func.{Func}
use Rattle.verse_value.specs.View.{vals_of}
use Rattle.vm_frames.specs.Calls.{popped_many}
use Rattle.vm_exec_calls.proofs.Choosing.{room_for, args_length}
use Rattle.vm_exec_tasks.proofs.Starts.{begins, called, spawn_asks}
use Rattle.vm_exec_tasks.proofs.Leaving.{like_by, like_many, like_moved, settles}
use Rattle.vm_exec_tasks.proofs.starting.spawn.Goals as goal
use Rattle.vm_running.proofs.Handed.{none_of, some_of}

pub returns-then-not-is_free-clause-asks : goal.returns-then-not-is_free-clause-asks
returns-then-not-is_free-clause-asks g c =
    let not_so : c.is_free.result ≡ false = search rules in
    held_none (with_one (slice_get c.args.code.now.functions c.args.func) (λ (f : Func). popping_many f.params (λ vs. begins f vs))) _ _
    (λ ms. sym not_so ∙ c.is_free.ensures ms)

pub returns-in_default-clause-asks : goal.returns-in_default-clause-asks
returns-in_default-clause-asks g c =
    let so : c.is_free.result ≡ true = search rules in
    asks_by (free_leads (with_one (slice_get c.args.code.now.functions c.args.func)
    (λ (f : Func). popping_many f.params (λ vs. begins f vs))) _ c.requires.ready (λ ms. sym so ∙ c.is_free.ensures ms))
    (asks_nothing _ (one_none (λ (f : Func). popping_many f.params (λ vs. begins f vs)) _ _ _ (sym c.in_default.ensures.value)))

pub returns-in_default-2-clause-asks : goal.returns-in_default-2-clause-asks
returns-in_default-2-clause-asks g c =
    let so : c.is_free.result ≡ true = search rules in
    let found = one_leads (λ (f : Func). popping_many f.params (λ vs. begins f vs)) _ c.in-Some.func.now _ c.requires.ready
    (sym c.in-Some.ensures.value) in
    asks_by (free_leads (with_one (slice_get c.args.code.now.functions c.args.func)
    (λ (f : Func). popping_many f.params (λ vs. begins f vs))) _ c.requires.ready (λ ms. sym so ∙ c.is_free.ensures ms))
    (asks_by found (asks_nothing _ (many_none (λ vs. begins c.in-Some.func.now vs) c.in-Some.func.now.params c.in-Some.func.now.params _
    _ refl (none_of _ c.in_default-2.is c.in_ok-args.ensures.none))))

pub go_next-requires-clause-some : goal.go_next-requires-clause-some
go_next-requires-clause-some g c =
    (like_many c.in-Some.func.now.params _ _ _
    (some_of (λ vs. popped_many c.in-Some.func.now.params [] c.args.run.now.thread ≡ Some (vals_of vs.items, c.pop_many.new.self)) _ _
    c.in-Some-2.is c.in_ok-args.ensures.some)).some c.requires.ready.some

pub go_next-requires-clause-inner : goal.go_next-requires-clause-inner
go_next-requires-clause-inner g c =
    (many_leads (λ vs. begins c.in-Some.func.now vs) c.in-Some.func.now.params _ _ _ c.requires.ready
    (some_of (λ vs. popped_many c.in-Some.func.now.params [] c.args.run.now.thread ≡ Some (vals_of vs.items, c.pop_many.new.self)) _ _
    c.in-Some-2.is c.in_ok-args.ensures.some)).inner c.requires.inner

pub go_next-requires-clause-free : goal.go_next-requires-clause-free
go_next-requires-clause-free g c =
    let so : c.is_free.result ≡ true = search rules in
    many_free c.in-Some.func.now.params _ _ _
    (some_of (λ vs. popped_many c.in-Some.func.now.params [] c.args.run.now.thread ≡ Some (vals_of vs.items, c.pop_many.new.self)) _ _
    c.in-Some-2.is c.in_ok-args.ensures.some) (sym (c.is_free.ensures []) ∙ so)

pub returns-clause-asks : goal.returns-clause-asks
returns-clause-asks g c =
    let so : c.is_free.result ≡ true = search rules in
    let found = one_leads (λ (f : Func). popping_many f.params (λ vs. begins f vs)) _ c.in-Some.func.now _ c.requires.ready
    (sym c.in-Some.ensures.value) in
    let many = (some_of (λ vs. popped_many c.in-Some.func.now.params [] c.args.run.now.thread ≡
    Some (vals_of vs.items, c.pop_many.new.self)) _ _ c.in-Some-2.is c.in_ok-args.ensures.some) in
    let popped = many_leads (λ vs. begins c.in-Some.func.now vs) c.in-Some.func.now.params _ _ _ c.requires.ready many in
    let free = many_free c.in-Some.func.now.params _ _ _ many (sym (c.is_free.ensures []) ∙ so) in
    asks_by (free_leads (with_one (slice_get c.args.code.now.functions c.args.func)
    (λ (f : Func). popping_many f.params (λ vs. begins f vs))) _ c.requires.ready (λ ms. sym so ∙ c.is_free.ensures ms))
    (asks_by found (asks_by popped (spawn_asks c.in-Some.func.now (called c.in-Some.func.now c.in-Some-2.args) _ _ popped.ready.some
    c.go_next.ensures (settled_moved _ _ _ popped.ready (free_bare _ [] free) c.go_next.ensures) refl)))

pub returns-clause-leaves : goal.returns-clause-leaves
returns-clause-leaves g c =
    let so : c.is_free.result ≡ true = search rules in
    let many = (some_of (λ vs. popped_many c.in-Some.func.now.params [] c.args.run.now.thread ≡
    Some (vals_of vs.items, c.pop_many.new.self)) _ _ c.in-Some-2.is c.in_ok-args.ensures.some) in (
      settles _ _ refl (like_by (like_many c.in-Some.func.now.params _ _ _ many) (like_moved _ _ _ c.go_next.ensures))
          (sym (c.is_free.ensures []) ∙ so),
      record {
        params = args_length c.in-Some.func.now.params c.in-Some-2.args.items c.args.run.now.thread c.pop_many.new.self many;
        locals = room_for c.args.code.now c.args.func c.in-Some.func.now c.requires.valid (sym c.in-Some.ensures.value);
      },
    )
