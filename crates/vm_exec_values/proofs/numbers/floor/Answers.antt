use Rattle.std.proofs.Common.{Some}
use Rattle.verse_value.specs.View.{val_of}
use Rattle.verse_value.specs.Operations.{floor_of}
use Rattle.vm_running.specs.Doings.{place_in}
use Rattle.vm_exec_values.proofs.Shapes.{widened, two_comes}
use Rattle.vm_exec_values.proofs.numbers.floor.Goals as goal

pub returns : goal.returns
returns g c = two_comes floor_of (place_in c.args.code.now (Some c.args.place)) _ _ _ _ _ _ c.requires.ready c.in-Some.ensures.some
    (c.answer.ensures (floor_of (val_of c.in-Some.first) (val_of c.in-Some.second)) (widened _ _ c.op_floor.ensures.answers))
