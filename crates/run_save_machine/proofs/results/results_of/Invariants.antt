use Rattle.std.proofs.Common.{◌≡◌, ◌++◌, length, map, option_map, reverse}
use Rattle.vm_scheduler.specs.Standing as standing
use Rattle.run_save_shots.specs.View.{given_of}
use Rattle.run_save_machine.proofs.results.results_of.Given as goal

abbrev pub invariant-entries : goal.invariant-entries
invariant-entries l =
    map (λ o. option_map standing.given_of o) l.results.items ++ map (option_map given_of) (reverse l.spawned.items) ≡
    map (option_map given_of) l.fn.spawned.items

abbrev pub decreases-entries : goal.decreases-entries
decreases-entries l = length l.spawned.items
