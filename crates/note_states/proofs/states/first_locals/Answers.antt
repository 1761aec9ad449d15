use Rattle.std.proofs.Common.{ap, ◌∙◌, ◌++◌, ◌-◌, ◌+◌}
use Rattle.verse_verify_kept.specs.Rules.{nones}
use Rattle.verse_verify_notes.specs.View.{sorts_of}
use Rattle.verse_verify_notes.specs.declared.sorts.Sort as sort
use Rattle.note_states.proofs.Lists.{locals_next, none_is}
use Rattle.note_states.proofs.states.first_locals.Goals as goal

pub locals-preserved : goal.locals-preserved
locals-preserved c =
    ap (λ k. sorts_of k ++ nones (c.args.count - (c.locals._local + 1))) c.in_ok-push.ensures.items
    ∙ locals_next c.locals.locals.items sort.None c.args.count c.locals._local c.locals-test.true none_is ∙ c.locals.invariant
