use Rattle.std.proofs.Common.{arith}
use Rattle.lower_expr.specs.Building.{built}
use Rattle.lower_expr.proofs.Exits.{closed_done}
use Rattle.lower_expr.proofs.builder.Builder.close_exits.Goals as goal

pub returns : goal.returns
unfolding built
returns c = closed_done (built c.args.self.now).exits c.exits.exit c.args.out (built c.exits.self) _
    (omega (arith, c.exits-test.false, c.len-exit-end.ensures)) c.exits.invariant.closed
