use Rattle.std.proofs.Common.{Some, ap}
use Rattle.verse_value.specs.View.{vals_of}
use Rattle.verse_value.specs.declared.runs.CellKind.TheVariants as cell
use Rattle.vm_running.specs.Doings.{place_in}
use Rattle.vm_exec_memory.proofs.Stores.{made_as}
use Rattle.vm_exec_memory.proofs.cells.event.Goals as goal

pub returns : goal.returns
returns g c = made_as (place_in c.args.code.now (Some c.args.place)) cell.Event _ _ _ _ _
    (ap vals_of c.new.ensures.items) c.add_cell.ensures
