-- What has no type.
use Rattle.note_sorts.proofs.Typing.{keys_none}
use Rattle.note_sorts.proofs.kinds.keys_of.Goals as goal

pub returns-in-None : goal.returns-in-None
returns-in-None c = keys_none c.args.program.now c.args.node c.in-None.ensures.value
