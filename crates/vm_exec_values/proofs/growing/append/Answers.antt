use Rattle.std.proofs.Common.{Some}
use Rattle.verse_value.specs.View.{val_of}
use Rattle.verse_value.specs.Operations.{append_of}
use Rattle.vm_running.specs.Doings.{place_in}
use Rattle.vm_exec_values.proofs.Shapes.{append_ok, append_not_fails}
use Rattle.vm_exec_values.proofs.growing.append.Goals as goal

pub returns : goal.returns
returns g c =
    append_ok (place_in c.args.code.now (Some c.args.place)) c.args.local (val_of c.in-Some.value)
    (val_of c.put_local-array.result) _ _ _ _ _ c.requires.ready c.in-Some.ensures.some c.put_local-array.ensures.old
    c.put_local-array.ensures.new (c.settle.ensures (append_of (val_of c.put_local-array.result) (val_of c.in-Some.value))
    (val_of c.put_local-array.result) c.op_append.ensures.answers
    (append_not_fails (val_of c.put_local-array.result) (val_of c.in-Some.value)))
