use Rattle.std.proofs.Common.{◌≡◌, suc, ◌+◌, ◌-◌}
use Rattle.verse_verify_tasks.specs.Arms.{all_from, may_begin, do_begin}
use Rattle.verse_verify_tasks.proofs.arms.do_begin.Given as goal

-- what is left gives the answer
abbrev pub invariant-arms : goal.invariant-arms
invariant-arms l = all_from (may_begin l.here) (suc l.here.index + l.i) (l.count - l.i) ≡ do_begin l.here l.count
