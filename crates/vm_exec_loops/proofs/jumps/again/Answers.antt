use Rattle.std.proofs.Common.{◌≡◌, true, false, sym, ◌∙◌, rules}
use Rattle.vm_running.specs.Doings.{going}
use Rattle.vm_exec_loops.proofs.Jumping.{spends_barred}
use Rattle.vm_exec_loops.proofs.jumps.again.Goals as goal
use Rattle.vm_running.proofs.Steps.{spends_moved, ready_moved, spent_on}

pub returns-then-not-go : goal.returns-then-not-go
returns-then-not-go g c code =
    let not_so : c.go.result ≡ false = search rules in
    spends_barred c.args.label _ _ (sym c.go.ensures.test ∙ not_so)

pub spend-requires : goal.spend-requires
spend-requires g c =
    let sure : c.go.result ≡ true = search rules in
    record { ready = ready_moved _ _ _ c.requires.ready (c.go.ensures.yes sure) }

pub returns-then-not-spend : goal.returns-then-not-spend
returns-then-not-spend g c code =
    let sure : c.go.result ≡ true = search rules in
    let out : c.spend.result ≡ false = search rules in
    spends_moved c.args.label _ _ _ _ c.requires.ready.some (sym c.go.ensures.test ∙ sure) (c.go.ensures.yes sure)
    (c.spend.ensures.out out going)

pub returns : goal.returns
returns g c code =
    let sure : c.go.result ≡ true = search rules in
    let spent : c.spend.result ≡ true = search rules in
    spends_moved c.args.label _ _ _ _ c.requires.ready.some (sym c.go.ensures.test ∙ sure) (c.go.ensures.yes sure)
    (spent_on (c.spend.ensures.leads spent going))
