-- Laws of a program that the front end accepts: what lowering asks of its tables and its size.
use Rattle.std.specs.Prelude.{◌≤◌}
use Rattle.verse_base.specs.declared.limits.TheConstants.{MOST_OPERATIONS}
use Rattle.verse_tree.specs.declared.programs.Program.{Program as Made}
use Rattle.verse_meaning.specs.Programs.{program_of}
use Rattle.lower_bounds.specs.Programs.{size_of, TablesAgree, HasMain}
use Rattle.lower_simulation_runs.specs.Programs.{NumbersAgree}
use Rattle.verse_accept_tables.specs.Sound.{IsSoundProgram}

abbrev pub NumbersStand : Type 0
NumbersStand = (made : Made) → IsSoundProgram made → NumbersAgree (program_of made)

abbrev pub TablesStand : Type 0
TablesStand = (made : Made) → IsSoundProgram made → TablesAgree (program_of made)

abbrev pub MainStands : Type 0
MainStands = (made : Made) → IsSoundProgram made → HasMain (program_of made)

abbrev pub SizeFits : Type 0
SizeFits = (made : Made) → IsSoundProgram made → size_of (program_of made) ≤ MOST_OPERATIONS
