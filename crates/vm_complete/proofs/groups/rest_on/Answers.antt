use Rattle.vm_complete.proofs.Resting.{idle_down, down_rests, others_rest}
use Rattle.vm_complete.proofs.groups.rest_on.Goals as goal

pub rest-requires : goal.rest-requires
rest-requires g c = idle_down g.W.Waits.pending c.args.went _ _ c.in-Down.is c.requires

pub returns-in-Down : goal.returns-in-Down
returns-in-Down g c = down_rests g.W.Waits.pending c.rest.result c.args.went _ _ _ _ c.in-Down.is c.rest.ensures

pub returns-in_default : goal.returns-in_default
returns-in_default g c = others_rest g.W.Waits.pending c.args.went _ _ c.in_default.not-Down
