use Rattle.std.proofs.Common.{◌≡◌, ◌-◌, [], map, option_map}
use Rattle.run_save_shots.specs.View.{given_of}
use Rattle.run_save_format.specs.Values.{each_at}
use Rattle.run_save_format.specs.Reading.{entry_at}
use Rattle.run_save_values.proofs.ListSteps.{after_front}
use Rattle.run_save_parts.proofs.entries.some_entries.Given as goal

abbrev pub invariant-entries : goal.invariant-entries
invariant-entries l =
    after_front (map (option_map given_of) l.spawned.items) (each_at (entry_at l.entries) (l.count - l._i) l.lefts.items l.rest) ≡
    each_at (entry_at l.entries) l.count [] l.bytes
