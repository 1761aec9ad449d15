use Rattle.std.proofs.Common.{◌≡◌, map, take, option_map}
use Rattle.verse_value.specs.View.{val_of}
use Rattle.vm_tasks.specs.View.{part_of}
use Rattle.run_save_shots.specs.Keeping.{arm}
use Rattle.vm_shot_tasks.proofs.rests.arms_shot.Given as goal

-- what the arms so far gave
abbrev pub invariant-arms : goal.invariant-arms
invariant-arms l = map (option_map val_of) l.given.items ≡ map arm (map part_of (take l.arm-index l.arms))
