use Rattle.std.proofs.Common.{length}
use Rattle.lower_items.specs.Views.{body_view}
use Rattle.verse_note.proofs.Bodies.{note_default}
use Rattle.verse_note.proofs.functions.func_note.Goals as goal

pub returns-else-number-classes : goal.returns-else-number-classes
returns-else-number-classes c code =
    rw (note_default c.args.program.now code (length c.args.classes.now) c.args.number (body_view c.args.body)
    c.if-number-classes.false) (c.default_note.ensures code)
