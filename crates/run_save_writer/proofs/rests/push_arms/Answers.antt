use Rattle.std.proofs.Common.{arith, option_map}
use Rattle.std.specs.Prelude.{Option}
use Rattle.verse_value.specs.declared.values.Value.{Value}
use Rattle.verse_value.specs.View.{val_of}
use Rattle.run_save_format.specs.Format.{value, maybe}
use Rattle.verse_image.proofs.WritingLemmas.{writes_entry, writes_end}
use Rattle.run_save_writer.proofs.Writing.{writes_list}
use Rattle.run_save_writer.proofs.rests.push_arms.Goals as goal

pub entries-init : goal.entries-init
entries-init c = λ new w. writes_list (maybe value) (option_map val_of) c.args.arms.now _ _ _ c.in_ok-push_count.ensures w

pub entries-preserved : goal.entries-preserved
entries-preserved c = λ new w.
    c.entries.invariant new (writes_entry (λ (x : Option Value). maybe value (option_map val_of x)) c.args.arms.now
    c.entries.entry-index _ _ _ _ _
    (omega arith) c.entry-item.is c.in_ok-push_arm.ensures w)

pub returns : goal.returns
returns c = c.entries.invariant _ (writes_end (λ (x : Option Value). maybe value (option_map val_of x)) c.args.arms.now
    c.entries.entry-index _ (omega arith))
