use Rattle.std.proofs.Common.{Some}
use Rattle.verse_value.specs.View.{val_of}
use Rattle.verse_value.specs.Operations.{negation_of}
use Rattle.vm_running.specs.Doings.{place_in}
use Rattle.vm_exec_values.proofs.Shapes.{widened, one_comes}
use Rattle.vm_exec_values.proofs.numbers.negate.Goals as goal

pub returns : goal.returns
returns g c = one_comes negation_of (place_in c.args.code.now (Some c.args.place)) _ _ _ _ _ c.requires.ready c.in-Some.ensures.some
    (c.answer.ensures (negation_of (val_of c.in-Some.value)) (widened _ _ c.op_neg.ensures.answers))
