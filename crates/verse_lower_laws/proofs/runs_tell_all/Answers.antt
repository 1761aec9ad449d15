use Rattle.verse_lower_laws.proofs.Runs.{runs_tell_all}
use Rattle.verse_lower_laws.proofs.runs_tell_all.Goals as goal

pub returns : goal.returns
returns c =
    runs_tell_all c.turns_are_the_same.ensures c.lines_stay.ensures c.steps_counted.ensures
    c.runs_end.ensures c.stays_over.ensures c.code_is_valid.ensures
