use Rattle.std.proofs.Common.{◌≡◌, suc, ◌+◌, drop}
use Rattle.verse_verify_kept.specs.Rules.{sorts}
use Rattle.verse_verify_notes.specs.View.{sorts_of}
use Rattle.verse_verify_tasks.specs.Arms.{each_from, arm_fits}
use Rattle.verse_verify_tasks.proofs.arms.does_each_fit.Given as goal

-- what is left gives the answer
abbrev pub invariant-parts : goal.invariant-parts
invariant-parts l =
    (each_from (arm_fits l.here) l.at (sorts (sorts_of (drop l.part-index l.parts))) ≡
    each_from (arm_fits l.here) (suc l.here.index) (sorts (sorts_of l.parts))) × (l.at ≡ suc l.here.index + l.part-index)
