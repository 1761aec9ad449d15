-- What a queue of pairs stands for.
use Rattle.std.specs.VecDeque.{deque_capacity}
use Rattle.sim_clock.specs.Queued.{Queued, InOrder}
use Rattle.sim_clock.specs.declared.queue.Queue.TheInside.{Inside}

abbrev pub queued_of : Inside → Queued
queued_of q = record { pairs = q.order.items; room = deque_capacity q.order }

abbrev pub IsInOrder : Inside → Type 0
IsInOrder q = InOrder q.order.items
