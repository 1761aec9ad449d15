use Rattle.std.proofs.Common.{◌∙◌}
use Rattle.verse_layout.specs.Blocks.{line_sep}
use Rattle.verse_layout.specs.Frames.{write}
use Rattle.verse_layout.proofs.steps.put_open.Goals as goal

pub returns-clause-ok : goal.returns-clause-ok
returns-clause-ok c = λ x. c.want_line.ensures x ∙ c.in_ok-put_mark.ensures.ok (write (line_sep c.args.token.now) x)
