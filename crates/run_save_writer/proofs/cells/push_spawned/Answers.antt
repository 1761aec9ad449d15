use Rattle.std.proofs.Common.{arith, option_map}
use Rattle.std.specs.Prelude.{ℕ, Option}
use Rattle.verse_value.specs.declared.values.Value.{Value}
use Rattle.run_save_shots.specs.View.{given_of}
use Rattle.run_save_format.specs.Format.{given, maybe}
use Rattle.verse_image.proofs.WritingLemmas.{writes_entry, writes_end}
use Rattle.run_save_writer.proofs.Writing.{writes_list}
use Rattle.run_save_writer.proofs.cells.push_spawned.Goals as goal

pub entries-init : goal.entries-init
entries-init c = λ new w. writes_list (maybe given) (option_map given_of) c.args.spawned.now _ _ _ c.in_ok-push_count.ensures w

pub entries-preserved : goal.entries-preserved
entries-preserved c = λ new w.
    c.entries.invariant new (writes_entry (λ (x : Option (Value × ℕ)). maybe given (option_map given_of x)) c.args.spawned.now
    c.entries.entry-index _ _ _ _ _
    (omega arith) c.entry-item.is c.in_ok-push_entry.ensures w)

pub returns : goal.returns
returns c = c.entries.invariant _ (writes_end (λ (x : Option (Value × ℕ)). maybe given (option_map given_of x))
    c.args.spawned.now c.entries.entry-index _ (omega arith))
