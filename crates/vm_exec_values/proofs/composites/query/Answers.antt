use Rattle.std.proofs.Common.{None}
use Rattle.verse_value.specs.View.{val_of}
use Rattle.verse_value.specs.Operations.{query_of}
use Rattle.vm_exec_values.proofs.Shapes.{widened, one_comes}
use Rattle.vm_exec_values.proofs.composites.query.Goals as goal

pub returns : goal.returns
returns g c = one_comes query_of None _ _ _ _ _ c.requires.ready c.in-Some.ensures.some
    (c.answer.ensures (query_of (val_of c.in-Some.value)) (widened _ _ c.op_query.ensures.answers))
