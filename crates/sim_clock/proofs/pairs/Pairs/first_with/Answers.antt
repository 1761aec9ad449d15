use Rattle.sim_clock.proofs.Pair.{from_first, not_with_first}
use Rattle.sim_clock.proofs.pairs.Pairs.first_with.Goals as goal

pub returns-in_err-found-clause-none : goal.returns-in_err-found-clause-none
returns-in_err-found-clause-none c =
    rw c.from_residual.ensures (λ n. (c.range.ensures.in_range tt).5 c.in_err-found.ensures.steps.0 (c.args.first, n)
    (from_first c.args.first n, tt))

pub returns-else-found-first-clause-none : goal.returns-else-found-first-clause-none
returns-else-found-first-clause-none c n =
    let part = c.range.ensures.in_range tt in
    let head = rw c.in_ok-found.ensures.steps at part.1 in
    not_with_first c.args.self.now.set c.args.first n _ head.0.0
    (λ there. rw c.in_ok-found.ensures.steps at (part.2 (c.args.first, n) (from_first c.args.first n, tt) there)) c.if-found-first.false
