use Rattle.std.proofs.Common.{◌≡◌, ◌+◌, true, false, sym, ap, ◌∙◌, rules}
use Rattle.vm_running.proofs.Steps.{raises_sure, raises_not, raises_nowhere}
use Rattle.vm_running.proofs.answering.raise.Goals as goal

pub returns-then-not-permits : goal.returns-then-not-permits
returns-then-not-permits g c =
    let not_so : c.permits.result ≡ false = search rules in
    raises_not _ _ _ _ (ap (λ k. k + 1) c.place-next.ensures) (sym c.permits.ensures ∙ not_so)

pub returns-in-Some : goal.returns-in-Some
returns-in-Some g c =
    let sure : c.permits.result ≡ true = search rules in
    raises_sure _ c.in-Some.place _ _ _ c.requires.ready.some (ap (λ k. k + 1) c.place-next.ensures) (sym c.permits.ensures ∙ sure)
    (sym c.in-Some.is ∙ c.place_at.ensures)

pub returns-in-None : goal.returns-in-None
returns-in-None g c = raises_nowhere _ _ _ (sym c.in-None.is ∙ c.place_at.ensures)
