-- What has no type.
use Rattle.note_sorts.proofs.Typing.{sort_none}
use Rattle.note_sorts.proofs.kinds.node.Goals as goal

pub returns-in-None : goal.returns-in-None
returns-in-None c = sort_none c.args.program.now c.args.node c.in-None.ensures.value
