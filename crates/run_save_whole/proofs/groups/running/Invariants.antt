use Rattle.std.proofs.Common.{◌≡◌, ◌+◌, ◌≤◌, drop, map, option_map}
use Rattle.verse_value.specs.View.{val_of}
use Rattle.run_save_shots.specs.Lists.{count}
use Rattle.run_save_shots.specs.Fitting.{is_running}
use Rattle.run_save_whole.proofs.groups.running.Given as goal

abbrev pub invariant-arms : goal.invariant-arms
invariant-arms l = record {
  few : l.running ≤ l.arm-index;
  rest : l.running + count is_running (map (option_map val_of) (drop l.arm-index l.arms)) ≡
      count is_running (map (option_map val_of) l.arms);
}
