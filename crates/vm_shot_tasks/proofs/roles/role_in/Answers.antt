use Rattle.std.proofs.Common.{sym}
use Rattle.vm_shot_tasks.proofs.Rows.{has_item}
use Rattle.vm_shot_tasks.proofs.roles.role_in.Goals as goal

pub role_by-requires : goal.role_by-requires
role_by-requires c = has_item c.in-Some.id c.args.tree.now c.in-Some-get.slot.now c.requires (sym c.in-Some-get.ensures)
