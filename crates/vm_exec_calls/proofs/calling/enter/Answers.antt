use Rattle.std.proofs.Common.{◌≡◌, ◌+◌, true, false, sym, ap, ◌∙◌, rules}
use Rattle.verse_value.specs.View.{vals_of}
use Rattle.vm_running.proofs.Steps.{comes_by, ready_moved}
use Rattle.vm_exec_calls.proofs.Entering.{opens, calls_barred, calls_moved, opens_comes}
use Rattle.vm_exec_calls.proofs.calling.enter.Goals as goal

pub returns-then-not-go : goal.returns-then-not-go
returns-then-not-go g c =
    let not_so : c.go.result ≡ false = search rules in
    calls_barred c.args.func.now (vals_of c.args.args.items) _ _ _ (ap (λ k. k + 1) c.place-next.ensures) (sym c.go.ensures.test ∙ not_so)

pub spend-requires : goal.spend-requires
spend-requires g c =
    let sure : c.go.result ≡ true = search rules in
    record { ready = ready_moved _ _ _ c.requires.ready (c.go.ensures.yes sure) }

pub returns-then-not-spend : goal.returns-then-not-spend
returns-then-not-spend g c =
    let sure : c.go.result ≡ true = search rules in
    let out : c.spend.result ≡ false = search rules in
    calls_moved c.args.func.now (vals_of c.args.args.items) _ _ _ _ _ c.requires.ready.some (ap (λ k. k + 1) c.place-next.ensures)
    (sym c.go.ensures.test ∙ sure) (c.go.ensures.yes sure) (c.spend.ensures.out out (opens c.args.func.now (vals_of c.args.args.items)))

pub returns : goal.returns
returns g c =
    let sure : c.go.result ≡ true = search rules in
    let spent : c.spend.result ≡ true = search rules in
    let lead = c.spend.ensures.leads spent (opens c.args.func.now (vals_of c.args.args.items)) in
    calls_moved c.args.func.now (vals_of c.args.args.items) _ _ _ _ _ c.requires.ready.some (ap (λ k. k + 1) c.place-next.ensures)
    (sym c.go.ensures.test ∙ sure) (c.go.ensures.yes sure)
    (comes_by lead (opens_comes c.args.func.now (vals_of c.args.args.items) _ _ lead.ready c.in_ok-enter.ensures.ok))
