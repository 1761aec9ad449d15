-- The options of a run, as they are asked for.
use Rattle.verse_top_args.specs.Words.{Options}
use Rattle.verse_top_exec.specs.declared.asking.Asked.{Asked}

abbrev pub options_of : Asked → Options
options_of a = record { steps = a.steps; until = a.until; inputs = a.inputs.now; heap = a.heap }
