use Rattle.std.proofs.lemmas.Result.{IfOk-weaker}
use Rattle.verse_expr_patterns.proofs.patterns.arm.Goals as goal
use Rattle.verse_expr_patterns.proofs.Arms.{arm_reads}

pub returns-in-Some-clause-spelled : goal.returns-in-Some-clause-spelled
returns-in-Some-clause-spelled g c = IfOk-weaker c.arm_placed.result _ _
    (λ r told. arm_reads c.in-Some.ensures told) c.arm_placed.ensures.spelled
