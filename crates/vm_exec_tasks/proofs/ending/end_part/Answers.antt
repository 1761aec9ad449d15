use Rattle.std.proofs.Common.{◌≡◌, Some, true, false, refl, sym, ap, ◌∙◌, rules}
use Rattle.vm_exec_tasks.proofs.Asking.{asks_by, asks_nothing}
use Rattle.vm_running.proofs.Steps.{pop_leads, pop_none}
use Rattle.vm_exec_tasks.proofs.Ends.{closing, unclean_closes, close_held, close_last, close_more}
use Rattle.verse_value.specs.View.{val_of}
use Rattle.vm_exec_tasks.proofs.Ends.{ended_with}
use Rattle.vm_exec_tasks.proofs.Leaving.{returns}
use Rattle.vm_exec_tasks.proofs.ending.end_part.Goals as goal

pub returns-in_default-clause-asks : goal.returns-in_default-clause-asks
returns-in_default-clause-asks g c code =
    asks_nothing _ (pop_none closing _ _ c.in_default.ensures.none)

pub returns-then-not-is_clean-clause-asks : goal.returns-then-not-is_clean-clause-asks
returns-then-not-is_clean-clause-asks g c code =
    let popped = pop_leads closing _ _ _ c.requires.ready c.in-Some.ensures.some in
    let not_so : c.is_clean.result ≡ false = search rules in
    asks_by popped (unclean_closes (val_of c.in-Some.value) _ _ (sym not_so ∙ c.is_clean.ensures))

pub returns-in_default-leave-clause-asks : goal.returns-in_default-leave-clause-asks
returns-in_default-leave-clause-asks g c code =
    let popped = pop_leads closing _ _ _ c.requires.ready c.in-Some.ensures.some in
    let so : c.is_clean.result ≡ true = search rules in
    asks_by popped (close_held (val_of c.in-Some.value) _ _ popped.ready.some (sym so ∙ c.is_clean.ensures) c.in_default-leave.ensures.none)

pub returns-then-not-last-clause-asks : goal.returns-then-not-last-clause-asks
returns-then-not-last-clause-asks g c code =
    let popped = pop_leads closing _ _ _ c.requires.ready c.in-Some.ensures.some in
    let so : c.is_clean.result ≡ true = search rules in
    let is : c.in-Some-leave.last ≡ false = search rules in
    asks_by popped (close_more (val_of c.in-Some.value) _ _ _ popped.ready.some (sym so ∙ c.is_clean.ensures)
    (c.in-Some-leave.ensures.some ∙ ap (λ b. Some (b, c.leave.new.self)) is))

pub returns-clause-asks : goal.returns-clause-asks
returns-clause-asks g c code =
    let popped = pop_leads closing _ _ _ c.requires.ready c.in-Some.ensures.some in
    let so : c.is_clean.result ≡ true = search rules in
    let is : c.in-Some-leave.last ≡ true = search rules in
    asks_by popped (close_last c.in-Some.value _ _ _ popped.ready (sym so ∙ c.is_clean.ensures)
    (c.in-Some-leave.ensures.some ∙ ap (λ b. Some (b, c.leave.new.self)) is)
    (ap (λ b. ended_with b c.in-Some.value) c.born-born.ensures))

pub returns-clause-leaves : goal.returns-clause-leaves
returns-clause-leaves g c =
    let so : c.is_clean.result ≡ true = search rules in
    returns _ _ _ (val_of c.in-Some.value) _ _ refl c.in-Some.ensures.some (sym so ∙ c.is_clean.ensures) c.in-Some-leave.ensures.some
    c.born-born.ensures
