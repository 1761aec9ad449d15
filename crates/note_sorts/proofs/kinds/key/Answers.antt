-- What has no type.
use Rattle.std.proofs.Common.{ap, slice_get, ◌∙◌}
use Rattle.note_sorts.proofs.Typing.{key_none}
use Rattle.note_sorts.proofs.kinds.key.Goals as goal

pub returns-in-None : goal.returns-in-None
returns-in-None c =
    key_none c.args.program.now c.args.node
    (c.in-None.ensures.value ∙ ap (slice_get c.args.program.now.typed.types) c.saturating_sub.ensures)
