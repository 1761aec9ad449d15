use Rattle.std.proofs.Common.{None}
use Rattle.verse_value.specs.View.{val_of}
use Rattle.verse_value.specs.Operations.{at_least_of}
use Rattle.vm_exec_values.proofs.Shapes.{widened, two_comes}
use Rattle.vm_exec_values.proofs.numbers.at_least.Goals as goal

pub returns : goal.returns
returns g c = two_comes at_least_of None _ _ _ _ _ _ c.requires.ready c.in-Some.ensures.some
    (c.answer.ensures (at_least_of (val_of c.in-Some.first) (val_of c.in-Some.second)) (widened _ _ c.op_ge.ensures.answers))
