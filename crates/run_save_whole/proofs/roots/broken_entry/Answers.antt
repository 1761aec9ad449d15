use Rattle.std.proofs.Common.{◌∙◌, sym, ap, length, map, option_map, replicate}
use Rattle.std.proofs.lemmas.List.{length-map, length-replicate}
use Rattle.run_save_shots.specs.View.{task_of, given_of}
use Rattle.run_save_whole.specs.Tallies.{wrong_entry}
use Rattle.run_save_whole.proofs.Counting.{roots_long, entries_decided_as}
use Rattle.run_save_whole.proofs.roots.broken_entry.Goals as goal

pub first_wrong-requires : goal.first_wrong-requires
first_wrong-requires c =
    ap length (c.deref.ensures.value ∙ c.in_ok-roots.ensures) ∙
    roots_long (map task_of c.args.tasks.now) (replicate (length c.args.spawned.now) 0) ∙ length-replicate (length c.args.spawned.now) 0

pub returns : goal.returns
returns c =
    c.first_wrong.ensures ∙
    ap (λ r. wrong_entry r 0 (map (option_map given_of) c.args.spawned.now)) (c.deref.ensures.value ∙ c.in_ok-roots.ensures) ∙
    entries_decided_as (map task_of c.args.tasks.now) (map (option_map given_of) c.args.spawned.now) (length c.args.spawned.now)
    (sym (length-map c.args.spawned.now (option_map given_of)))
