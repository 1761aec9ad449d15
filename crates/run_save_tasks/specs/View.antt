-- What the words of this crate mean.
use Rattle.std.specs.Prelude.{map, option_map}
use Rattle.run_save_shots.specs.View.{cell_of, given_of}
use Rattle.run_save_format.specs.Reading as reading
use Rattle.run_save_tasks.specs.declared.known.Known.{Known}

abbrev pub known_of : Known → reading.Known
known_of k = record {
  code = k.code.now;
  numbers = k.numbers;
  cells = map cell_of k.cells.now;
  spawned = map (option_map given_of) k.spawned.now;
}
