use Rattle.std.proofs.Common.{List, map, option_map, subst}
use Rattle.std.specs.Prelude.{Option}
use Rattle.verse_image.specs.Format.{byte}
use Rattle.verse_image.specs.Writing.{Writes}
use Rattle.verse_image.proofs.WritingLemmas.{writes_then, writes_three}
use Rattle.verse_value.specs.declared.values.Value.{Value}
use Rattle.verse_value.specs.View.{val_of}
use Rattle.run_save_shots.specs.View.{cause_of}
use Rattle.run_save_format.specs.Format.{wide, value, maybe, list, cause}
use Rattle.run_save_writer.proofs.rests.push_rest.Goals as goal

pub returns-in_ok-push_cause-in-Leaf : goal.returns-in_ok-push_cause-in-Leaf
returns-in_ok-push_cause-in-Leaf c =
    rw c.in-Leaf.is (writes_three (byte 0) (wide c.in-Leaf.number) (cause (cause_of c.in-Leaf.kind)) _ _ _ _
    c.in_ok-push_byte-in-Leaf.ensures c.in_ok-push_wide-in-Leaf.ensures c.in_ok-push_cause-in-Leaf.ensures)

pub returns-in_ok-push_arms-in-Group : goal.returns-in_ok-push_arms-in-Group
returns-in_ok-push_arms-in-Group c =
    rw c.in-Group.is (writes_then (byte 1) (list (maybe value) (map (option_map val_of) c.in-Group.arms.items)) _ _ _
    c.in_ok-push_byte-in-Group.ensures
    (subst (λ (xs : List (Option Value)). Writes (list (maybe value) (map (option_map val_of) xs)) c.push_byte-in-Group.new.out.items
    c.push_arms.new.out.items) c.as_slice.ensures.value c.in_ok-push_arms-in-Group.ensures))
