use Rattle.std.proofs.Common.{sym, ap, ◌∙◌}
use Rattle.std.specs.Option.{option_map}
use Rattle.verse_verify_notes.specs.View.{sort_of}
use Rattle.note_states.specs.View.{or_none}
use Rattle.note_states.proofs.Lists.{none_is}
use Rattle.note_states.proofs.states.copy_local.Goals as goal

pub returns-in-None : goal.returns-in-None
returns-in-None c =
    none_is ∙ sym (ap or_none (sym c.local_at.ensures ∙ ap (option_map (λ q. sort_of q.now)) c.in-None.is))

pub returns-in_ok-copy_sort-in-Some : goal.returns-in_ok-copy_sort-in-Some
returns-in_ok-copy_sort-in-Some c =
    c.in_ok-copy_sort-in-Some.ensures
    ∙ sym (ap or_none (sym c.local_at.ensures ∙ ap (option_map (λ q. sort_of q.now)) c.in-Some.is))
