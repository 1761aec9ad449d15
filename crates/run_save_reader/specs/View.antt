-- What the parts of a saved run mean together.
use Rattle.std.specs.Prelude.{map, option_map}
use Rattle.verse_code.specs.declared.codes.Code.{Code}
use Rattle.run_save_shots.specs.View.{cell_of, given_of, task_of}
use Rattle.run_save_format.specs.declared.weights.Numbers.{Numbers}
use Rattle.run_save_format.specs.Reading.{Known, Found, kept_of}
use Rattle.run_save_parts.specs.declared.cells.Cells.{Cells}
use Rattle.run_save_parts.specs.declared.entries.Spawned.{Spawned}
use Rattle.run_save_tasks.specs.declared.tasks.Tasks.{Tasks}

-- what tasks are read against
abbrev pub known_with : Code → Numbers → Cells → Spawned → Known
known_with code numbers cells spawned = record {
  code = code;
  numbers = numbers;
  cells = map cell_of cells.cells.items;
  spawned = map (option_map given_of) spawned.spawned.items;
}

abbrev pub found_with : Code → Numbers → Cells → Spawned → Tasks → Found
found_with code numbers cells spawned tasks = record {
  code = code;
  kept = kept_of numbers (map cell_of cells.cells.items)
      (map (option_map given_of) spawned.spawned.items) (map task_of tasks.tasks.items);
  cell_lefts = cells.lefts.items;
  entry_lefts = spawned.lefts.items;
  task_lefts = tasks.lefts.items;
}
