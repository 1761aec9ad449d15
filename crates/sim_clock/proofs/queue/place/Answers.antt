use Rattle.std.proofs.Common.{◌≡◌, length, rules}
use Rattle.std.specs.VecDeque.{deque_len}
use Rattle.sim_clock.proofs.Order.{gap_from_search}
use Rattle.sim_clock.proofs.queue.place.Goals as goal

pub returns-clause-gap : goal.returns-clause-gap
returns-clause-gap c =
    let all : deque_len c.args.order.now ≡ length c.args.order.now.items = search rules in
    gap_from_search _ c.requires _ _ _ (rw all at c.binary_search.ensures.bound) c.binary_search.ensures.position
