use Rattle.std.proofs.Common.{map, option_map, sym, ap, ◌∙◌}
use Rattle.std.proofs.lemmas.List.{length-map}
use Rattle.verse_value.specs.View.{val_of}
use Rattle.run_save_shots.specs.View.{frame_of}
use Rattle.run_save_numbers.specs.View.{numbers_of}
use Rattle.run_save_slots.proofs.Made.{made_at_group}
use Rattle.run_save_slots.proofs.slots.at_group.Goals as goal

pub returns : goal.returns
returns c =
    made_at_group c.args.code.now (map frame_of c.args.frames.items) _ (map (option_map val_of) c.args.arms.items)
    (numbers_of c.args.numbers.now) c.in_ok-thread.thread c.in_ok-group.group _ _ _ c.in_ok-thread.ensures.stacked
    (c.len-count.ensures ∙ (c.args.arms.ok.0 ∙ sym (length-map c.args.arms.items (option_map val_of)))) c.deref-3.ensures.value
    c.in_ok-group.ensures (ap (map frame_of) c.deref.ensures.value) c.deref-2.ensures.value
