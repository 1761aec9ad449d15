use Rattle.std.proofs.Common.{List, ℕ, drop, map}
use Rattle.verse_image.specs.Format.{each}
use Rattle.verse_image.specs.Writing.{Writes}
use Rattle.run_save_shots.specs.View.{cell_of}
use Rattle.run_save_format.specs.Format.{cell_field, list}
use Rattle.std.specs.Global.{Vec}
use Rattle.verse_value.specs.declared.runs.CellKind.{CellKind}
use Rattle.verse_value.specs.declared.values.Value.{Value}
use Rattle.run_save_writer.proofs.cells.push_cells.Given as goal

-- what writes the entries that are left completes them
abbrev pub invariant-entries : goal.invariant-entries
invariant-entries l = (new : List ℕ) → Writes (each (λ (x : CellKind × Vec Value). cell_field (cell_of x)) (drop l.entry-index
    l.cells)) l.out.items new →
    Writes (list cell_field (map cell_of l.cells)) l.fn.out.items new
