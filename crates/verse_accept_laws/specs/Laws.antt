-- What is known of a program that is accepted.
use Rattle.std.specs.Prelude.{◌≡◌, ℕ, ◌≤◌, List, length, map}
use Rattle.verse_tree.specs.ItemView.{item_of}
use Rattle.verse_tree.specs.declared.programs.Program.{Program as Made}
use Rattle.verse_rules.specs.Sound.{completed}
use Rattle.verse_accept.specs.Fronts.{Accepts}
use Rattle.verse_meaning.specs.Programs.{program_of}
use Rattle.lower_simulation_runs.specs.Programs.{CanBeFollowed}

-- its code can be valid and does what it means
abbrev pub AcceptedCanBeFollowed : Type 0
AcceptedCanBeFollowed = (made : Made) (files : List (List ℕ)) → 1 ≤ length files →
    length files ≤ 16 →
    Accepts files (map item_of made.tree.items) → made.names ≡ completed (map item_of made.tree.items) →
    CanBeFollowed (program_of made) (length files)
