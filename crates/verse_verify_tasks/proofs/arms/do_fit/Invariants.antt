use Rattle.std.proofs.Common.{◌≡◌, suc, ◌+◌, ◌-◌}
use Rattle.verse_verify_notes.specs.View.{sort_of}
use Rattle.verse_verify_tasks.specs.Arms.{all_from, arm_fits, do_fit}
use Rattle.verse_verify_tasks.proofs.arms.do_fit.Given as goal

-- what is left gives the answer
abbrev pub invariant-arms : goal.invariant-arms
invariant-arms l =
    all_from (λ n. arm_fits l.here n (sort_of l.sort)) (suc l.here.index + l.i) (l.count - l.i) ≡ do_fit l.here l.count (sort_of l.sort)
