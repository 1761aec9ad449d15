-- What the words of this crate mean.
use Rattle.verse_code.specs.declared.codes.Code.{Code}
use Rattle.run_save_shots.specs.declared.shots.Shot.{Shot}
use Rattle.run_save_shots.specs.View.{shot_of}
use Rattle.run_save_format.specs.Reading.{Found}
use Rattle.run_save_whole.specs.declared.arms.Arms.{Arms}
use Rattle.run_save_whole.specs.declared.firsts.Lefts.{Lefts}
use Rattle.run_save_whole.specs.Tallies.{Marks}

abbrev pub marks_of : Arms → Marks
marks_of a = (a.counts.items, a.beyond)

abbrev pub found : Code → Shot → Lefts → Found
found code shot lefts = record {
  code = code;
  kept = shot_of shot;
  cell_lefts = lefts.cells.items;
  entry_lefts = lefts.entries.items;
  task_lefts = lefts.tasks.items;
}
