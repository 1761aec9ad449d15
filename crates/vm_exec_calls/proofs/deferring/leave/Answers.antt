use Rattle.std.proofs.Common.{◌≡◌, Some, true, false, sym, subst, ◌∙◌, arith, rules}
use Rattle.vm_frames.specs.Calls.{taken}
use Rattle.vm_running.specs.Doings.{spends, going}
use Rattle.vm_running.proofs.Steps.{comes_by, fits_none, moves, ready_moved, spends_moved, spent_on}
use Rattle.vm_exec_calls.proofs.Blocks.{leave_few, leave_kept, leave_done, leave_more, ready_taken}
use Rattle.vm_exec_calls.proofs.deferring.leave.Goals as goal

pub returns-then-blocks-count : goal.returns-then-blocks-count
returns-then-blocks-count g c code = let lt = c.if-blocks-count.true in let same = c.defers-blocks.ensures in
    leave_few code c.args.count _ _ (omega (arith, lt, same))

pub returns-then-count-kept : goal.returns-then-count-kept
returns-then-count-kept g c code = let lt = c.if-count-kept.true in let same = c.kept.ensures in
    leave_kept code c.args.count _ _ (omega (arith, lt, same))

pub returns-then-blocks-count-2 : goal.returns-then-blocks-count-2
returns-then-blocks-count-2 g c code =
    let is = c.if-blocks-count-2.true in
    let same = c.defers-blocks.ensures in
    let le = c.if-count-kept.false in
    let kept = c.kept.ensures in
    comes_by (leave_done code c.args.count _ c.requires.ready (omega (arith, is, same)) (omega (arith, le, kept))) c.go_on.ensures

pub returns-then-not-go : goal.returns-then-not-go
returns-then-not-go g c code =
    let is = c.if-blocks-count-2.false in
    let few = c.if-blocks-count.false in
    let same = c.defers-blocks.ensures in
    let le = c.if-count-kept.false in
    let kept = c.kept.ensures in
    let lead = leave_more code c.args.count _ _ _ c.requires.ready c.requires.inner (omega (arith, is, few, same)) (omega (arith, le, kept))
    (subst (λ p. taken p c.args.run.now.thread ≡ Some (c.take_defer-block.result, c.take_defer-block.new.self)) c.place-place.ensures
    c.take_defer-block.ensures) in
    let not_so : c.go.result ≡ false = search rules in
    comes_by lead (fits_none (spends (moves c.take_defer-block.result)) _ _ _ (sym c.go.ensures.test ∙ not_so))

pub spend-requires : goal.spend-requires
spend-requires g c =
    let sure : c.go.result ≡ true = search rules in
    record {
      ready = ready_moved _ _ _ (ready_taken _ _ _ c.requires.ready
          (subst (λ p. taken p c.args.run.now.thread ≡ Some (c.take_defer-block.result, c.take_defer-block.new.self)) c.place-place.ensures
          c.take_defer-block.ensures)) (c.go.ensures.yes sure);
    }

pub returns-then-not-spend : goal.returns-then-not-spend
returns-then-not-spend g c code =
    let is = c.if-blocks-count-2.false in
    let few = c.if-blocks-count.false in
    let same = c.defers-blocks.ensures in
    let le = c.if-count-kept.false in
    let kept = c.kept.ensures in
    let lead = leave_more code c.args.count _ _ _ c.requires.ready c.requires.inner (omega (arith, is, few, same)) (omega (arith, le, kept))
    (subst (λ p. taken p c.args.run.now.thread ≡ Some (c.take_defer-block.result, c.take_defer-block.new.self)) c.place-place.ensures
    c.take_defer-block.ensures) in
    let sure : c.go.result ≡ true = search rules in
    let out : c.spend.result ≡ false = search rules in
    comes_by lead (spends_moved c.take_defer-block.result _ _ _ _ lead.ready.some (sym c.go.ensures.test ∙ sure) (c.go.ensures.yes sure)
    (c.spend.ensures.out out going))

pub returns : goal.returns
returns g c code =
    let is = c.if-blocks-count-2.false in
    let few = c.if-blocks-count.false in
    let same = c.defers-blocks.ensures in
    let le = c.if-count-kept.false in
    let kept = c.kept.ensures in
    let lead = leave_more code c.args.count _ _ _ c.requires.ready c.requires.inner (omega (arith, is, few, same)) (omega (arith, le, kept))
    (subst (λ p. taken p c.args.run.now.thread ≡ Some (c.take_defer-block.result, c.take_defer-block.new.self)) c.place-place.ensures
    c.take_defer-block.ensures) in
    let sure : c.go.result ≡ true = search rules in
    let spent : c.spend.result ≡ true = search rules in
    comes_by lead (spends_moved c.take_defer-block.result _ _ _ _ lead.ready.some (sym c.go.ensures.test ∙ sure) (c.go.ensures.yes sure)
    (spent_on (c.spend.ensures.leads spent going)))
