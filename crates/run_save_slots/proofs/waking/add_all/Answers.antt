use Rattle.std.proofs.Common.{sym, subst, arith}
use Rattle.run_save_slots.specs.Started.{Rises}
use Rattle.run_save_slots.proofs.Orders.{above_so_far}
use Rattle.run_save_slots.proofs.waking.add_all.Goals as goal

pub add-requires : goal.add-requires
add-requires g c =
    above_so_far c.as_slice-wait-items.result.now c.waits.wait-index _ _ c.waits.invariant
    (grind (arith, c.waits-test.true, c.waits.auto.wait-index-end))
    (subst (λ xs. Rises xs) (sym c.as_slice-wait-items.ensures.value) c.in_ok-all.ensures.rises)
