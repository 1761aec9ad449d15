use Rattle.std.proofs.Common.{◌≡◌, map, take, option_map}
use Rattle.vm_scheduler.specs.Standing as standing
use Rattle.run_save_shots.specs.View.{given_of}
use Rattle.vm_shot.proofs.given.spawned_shot.Given as goal

-- what the entries so far gave
abbrev pub invariant-results : goal.invariant-results
invariant-results l =
    map (option_map given_of) l.spawned.items ≡ map (λ o. option_map standing.given_of o) (take l.entry-index l.results)
