use Rattle.std.proofs.Common.{◌≡◌, false, map, is_some, option_map, sym, ap, ◌∙◌, rules}
use Rattle.verse_value.specs.View.{val_of}
use Rattle.verse_code_machine.specs.Ends.{first_did}
use Rattle.vm_tasks.specs.View.{part_of}
use Rattle.vm_group.proofs.Settling.{settles_not_first, race_ok}
use Rattle.vm_group.proofs.Downs.{race_runs}
use Rattle.vm_group.proofs.groups.settle_race.Goals as goal

pub returns-then-not-one_gave-clause-settles : goal.returns-then-not-one_gave-clause-settles
returns-then-not-one_gave-clause-settles g c =
    let not_so : c.one_gave.result ≡ false = search rules in
    settles_not_first g.W.Waits.pending c.args.begins _ _ _ _ c.requires.kind
    (sym (c.one_gave.ensures ∙ ap (λ z. is_some (first_did (map part_of z))) c.as_slice.ensures.value) ∙ not_so) c.stand.ensures.stands

pub returns-clause-settles : goal.returns-clause-settles
returns-clause-settles g c =
    race_ok g.W.Waits.pending c.cancel_arms.result c.args.begins (val_of c.in-Some.value) _ _ _ _ c.requires.kind
    (sym c.first_value.ensures ∙ ap (λ o. option_map val_of o) c.in-Some.is) c.cancel_arms.ensures

pub returns-clause-above : goal.returns-clause-above
returns-clause-above g c = race_runs g.W.Waits.pending c.cancel_arms.result _ c.args.begins
    (val_of c.in-Some.value) _ _ _ _ c.requires.hand c.cancel_arms.ensures
