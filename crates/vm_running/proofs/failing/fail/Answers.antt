use Rattle.std.proofs.Common.{◌≡◌, true, false, sym, ◌∙◌, rules}
use Rattle.vm_running.proofs.Unwinding.{fewer, fail_none, fail_not, copies_there, marks_there, fail_sure}
use Rattle.vm_running.proofs.failing.fail.Goals as goal

pub returns-in_default : goal.returns-in_default
returns-in_default g c = fail_none _ _ c.in_default.ensures.none

pub go-requires : goal.go-requires
go-requires g c = (fewer c.args.run.now.thread _ _ c.in-Some.ensures.some).1

pub returns-then-not-go : goal.returns-then-not-go
returns-then-not-go g c =
    let not_so : c.go.result ≡ false = search rules in
    fail_not _ _ _ _ c.in-Some.ensures.some (sym c.go.ensures.test ∙ not_so)

pub rollback-requires : goal.rollback-requires
rollback-requires g c = copies_there _ _ _ c.requires.ready c.in-Some.ensures.some

pub rollback-requires-2 : goal.rollback-requires-2
rollback-requires-2 g c = marks_there _ _ _ c.requires.ready c.in-Some.ensures.some

pub returns : goal.returns
returns g c =
    let sure : c.go.result ≡ true = search rules in
    fail_sure _ _ _ _ c.requires.ready c.in-Some.ensures.some (sym c.go.ensures.test ∙ sure)
    (c.go.ensures.yes sure) c.rollback.ensures.back c.rollback-2.ensures
