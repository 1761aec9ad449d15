use Rattle.std.proofs.Common.{List, ℕ, drop, map, option_map}
use Rattle.verse_image.specs.Format.{each}
use Rattle.verse_image.specs.Writing.{Writes}
use Rattle.verse_value.specs.View.{val_of}
use Rattle.run_save_format.specs.Format.{value, maybe, list}
use Rattle.std.specs.Prelude.{Option}
use Rattle.verse_value.specs.declared.values.Value.{Value}
use Rattle.run_save_writer.proofs.rests.push_arms.Given as goal

-- what writes the entries that are left completes them
abbrev pub invariant-entries : goal.invariant-entries
invariant-entries l = (new : List ℕ) → Writes (each (λ (x : Option Value). maybe value (option_map val_of x)) (drop
    l.entry-index l.arms)) l.out.items new →
    Writes (list (maybe value) (map (option_map val_of) l.arms)) l.fn.out.items new
