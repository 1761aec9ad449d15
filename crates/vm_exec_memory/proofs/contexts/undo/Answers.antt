use Rattle.std.proofs.Common.{◌≡◌, ◌+◌, true, false, sym, ap, ◌∙◌, rules}
use Rattle.vm_exec_memory.proofs.Attempts.{copies_there, marks_there, some_released, undo_none, undo_not, undo_sure}
use Rattle.vm_exec_memory.proofs.contexts.undo.Goals as goal

pub returns-then-not-release : goal.returns-then-not-release
returns-then-not-release g c code =
    let not_so : c.release.result ≡ false = search rules in
    undo_none code _ _ (c.release.ensures.no not_so)

pub returns-then-not-go : goal.returns-then-not-go
returns-then-not-go g c code =
    let so : c.release.result ≡ true = search rules in
    let not_so : c.go.result ≡ false = search rules in
    undo_not code _ _ _ _ (c.release.ensures.yes so) (ap (λ k. k + 1) c.place-next.ensures) (sym c.go.ensures.test ∙ not_so)

pub place-next-requires : goal.place-next-requires
place-next-requires g c =
    let so : c.release.result ≡ true = search rules in
    some_released _ _ (c.release.ensures.yes so)

pub go-requires : goal.go-requires
go-requires g c =
    let so : c.release.result ≡ true = search rules in
    some_released _ _ (c.release.ensures.yes so)

pub rollback-requires : goal.rollback-requires
rollback-requires g c =
    let so : c.release.result ≡ true = search rules in
    copies_there _ _ c.requires.ready (c.release.ensures.yes so)

pub rollback-requires-2 : goal.rollback-requires-2
rollback-requires-2 g c =
    let so : c.release.result ≡ true = search rules in
    marks_there _ _ c.requires.ready (c.release.ensures.yes so)

pub returns : goal.returns
returns g c code =
    let so : c.release.result ≡ true = search rules in
    let sure : c.go.result ≡ true = search rules in
    undo_sure code _ _ _ _ c.requires.ready (c.release.ensures.yes so) (ap (λ k. k + 1) c.place-next.ensures) (sym c.go.ensures.test ∙ sure)
    (c.go.ensures.yes sure) c.rollback.ensures.back c.rollback-2.ensures
