use Rattle.std.proofs.Common.{Some}
use Rattle.verse_value.specs.View.{val_of}
use Rattle.verse_value.specs.Operations.{option_of}
use Rattle.vm_running.specs.Doings.{place_in}
use Rattle.vm_exec_values.proofs.Shapes.{one_comes}
use Rattle.vm_exec_values.proofs.composites.optional.Goals as goal

pub returns : goal.returns
returns g c = one_comes option_of (place_in c.args.code.now (Some c.args.place)) _ _ _ _ _ c.requires.ready c.in-Some.ensures.some
    (c.answer.ensures (option_of (val_of c.in-Some.value)) c.op_some.ensures.answers)
