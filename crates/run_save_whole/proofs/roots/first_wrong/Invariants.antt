use Rattle.std.proofs.Common.{◌≡◌, drop, length, map, option_map}
use Rattle.run_save_shots.specs.View.{given_of}
use Rattle.run_save_whole.specs.Tallies.{wrong_entry}
use Rattle.run_save_whole.proofs.roots.first_wrong.Given as goal

abbrev pub invariant-entries : goal.invariant-entries
invariant-entries l = record {
  long : length l.roots ≡ length l.spawned;
  rest : wrong_entry l.roots l.i (map (option_map given_of) (drop l.i l.spawned)) ≡
      wrong_entry l.roots 0 (map (option_map given_of) l.spawned);
}
