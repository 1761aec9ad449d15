use Rattle.std.proofs.Common.{None}
use Rattle.verse_value.specs.View.{val_of}
use Rattle.verse_value.specs.Operations.{modulo_of}
use Rattle.vm_exec_values.proofs.Shapes.{widened, two_comes}
use Rattle.vm_exec_values.proofs.numbers.modulo.Goals as goal

pub returns : goal.returns
returns g c = two_comes modulo_of None _ _ _ _ _ _ c.requires.ready c.in-Some.ensures.some
    (c.answer.ensures (modulo_of (val_of c.in-Some.first) (val_of c.in-Some.second)) (widened _ _ c.op_mod.ensures.answers))
