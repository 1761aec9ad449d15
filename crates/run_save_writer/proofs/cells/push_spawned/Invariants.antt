use Rattle.std.proofs.Common.{List, ℕ, drop, map, option_map}
use Rattle.verse_image.specs.Format.{each}
use Rattle.verse_image.specs.Writing.{Writes}
use Rattle.run_save_shots.specs.View.{given_of}
use Rattle.run_save_format.specs.Format.{given, maybe, list}
use Rattle.std.specs.Prelude.{Option}
use Rattle.verse_value.specs.declared.values.Value.{Value}
use Rattle.run_save_writer.proofs.cells.push_spawned.Given as goal

-- what writes the entries that are left completes them
abbrev pub invariant-entries : goal.invariant-entries
invariant-entries l = (new : List ℕ) → Writes (each (λ (x : Option (Value × ℕ)). maybe given (option_map given_of x)) (drop
    l.entry-index l.spawned)) l.out.items new →
    Writes (list (maybe given) (map (option_map given_of) l.spawned)) l.fn.out.items new
