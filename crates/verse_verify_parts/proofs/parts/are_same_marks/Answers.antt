use Rattle.std.proofs.Common.{map, sym, ◌∙◌}
use Rattle.verse_verify_notes.specs.View.{mark_of}
use Rattle.verse_verify_parts.proofs.Lists.{marks_reversed}
use Rattle.verse_verify_parts.proofs.parts.are_same_marks.Goals as goal

pub returns : goal.returns
returns c = c.have_same_parts.ensures ∙ sym (marks_reversed (map mark_of c.args.marks.now) (map mark_of c.args.others.now))
