use Rattle.std.proofs.Common.{Some}
use Rattle.verse_value.specs.declared.runs.CellKind.TheVariants as cell
use Rattle.verse_meaning_state.specs.Effects.{variable_made}
use Rattle.vm_running.specs.Doings.{place_in, effects}
use Rattle.vm_running.proofs.Steps.{ok_by, pop_leads}
use Rattle.vm_exec_memory.proofs.Handed.{single}
use Rattle.vm_exec_memory.proofs.Stores.{made_as}
use Rattle.vm_exec_memory.proofs.cells.variable.Goals as goal

pub returns : goal.returns
returns g c =
    ok_by _ _ (pop_leads (λ v. effects (place_in c.args.code.now (Some c.args.place)) (variable_made v)) _ _ _ c.requires.ready
    c.in-Some.ensures.some) (made_as (place_in c.args.code.now (Some c.args.place)) cell.Var _ _ _ _ _
    (single _ _ _ c.in_ok-push.ensures.items c.new-slots.ensures.items) c.add_cell.ensures)
