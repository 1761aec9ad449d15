use Rattle.std.proofs.Common.{◌≡◌, suc, ◌+◌, ◌-◌}
use Rattle.verse_verify_tasks.specs.Arms.{all_from, is_arm, are_arms}
use Rattle.verse_verify_tasks.proofs.arms.are_arms.Given as goal

-- what is left gives the answer
abbrev pub invariant-arms : goal.invariant-arms
invariant-arms l = all_from (is_arm l.here) (suc l.here.index + l.i) (l.count - l.i) ≡ are_arms l.here l.count
