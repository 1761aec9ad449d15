use Rattle.std.proofs.Common.{ap, ◌∙◌}
use Rattle.verse_verify_faults.specs.Fitting.{fit}
use Rattle.verse_verify_notes.specs.View.{sort_of}
use Rattle.verse_verify_operands.proofs.asking.is_fit.Goals as goal

pub returns : goal.returns
returns c = c.does_fit.ensures ∙ ap (λ cs. fit cs (sort_of c.args.sort.now) (sort_of c.args.other.now)) c.classes.ensures
