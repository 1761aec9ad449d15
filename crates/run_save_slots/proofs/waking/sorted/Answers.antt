use Rattle.std.proofs.Common.{rules}
use Rattle.std.proofs.lemmas.List.Sorted.{IsNonDecreasingBy-from_sort_by_key}
use Rattle.run_save_slots.specs.Started.{number_of}
use Rattle.run_save_slots.proofs.Orders.{in_order}
use Rattle.run_save_slots.proofs.waking.sorted.Goals as goal

pub returns : goal.returns
returns c = in_order c.args.all.items _ c.sort_by_key.ensures.permutation
    (IsNonDecreasingBy-from_sort_by_key number_of _ c.in_ok-sort_by_key.ensures.sorted (λ x b f k. search rules)) c.requires
