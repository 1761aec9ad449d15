use Rattle.std.proofs.Common.{◌≡◌, drop, length, map, option_map}
use Rattle.verse_value.specs.View.{val_of}
use Rattle.run_save_whole.specs.Tallies.{wrong_arm}
use Rattle.run_save_whole.proofs.groups.arms_break.Given as goal

abbrev pub invariant-arms : goal.invariant-arms
invariant-arms l = record {
  long : length l.children ≡ length l.arms;
  rest : wrong_arm l.children l.i (map (option_map val_of) (drop l.i l.arms)) ≡
      wrong_arm l.children 0 (map (option_map val_of) l.arms);
}
