use Rattle.std.proofs.Common.{None}
use Rattle.verse_value.specs.View.{val_of}
use Rattle.verse_value.specs.Operations.{item_of}
use Rattle.vm_exec_values.proofs.Shapes.{widened, one_comes}
use Rattle.vm_exec_values.proofs.composites.item.Goals as goal

pub returns : goal.returns
returns g c = one_comes (λ v. item_of v c.args.at) None _ _ _ _ _ c.requires.ready c.in-Some.ensures.some
    (c.answer.ensures (item_of (val_of c.in-Some.value) c.args.at) (widened _ _ c.op_item.ensures.answers))
