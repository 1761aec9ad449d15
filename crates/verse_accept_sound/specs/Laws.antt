-- A program that the front end accepts has sorts for all of it, and so it is never stuck.
use Rattle.std.specs.Prelude.{◌≡◌, ◌≢◌, ℕ, ℤ, Bool, List, map}
use Rattle.verse_tree.specs.ItemTree.{ItemTree}
use Rattle.verse_tree.specs.ItemView.{item_of}
use Rattle.verse_tree.specs.declared.programs.Program.{Program as Made}
use Rattle.verse_rules_types.specs.Types.{ty_of}
use Rattle.verse_rules.specs.Sound.{completed, types_of}
use Rattle.verse_accept.specs.Fronts.{Accepts}
use Rattle.verse_value.specs.declared.runs.Ending.TheVariants as ending
use Rattle.verse_meaning.specs.Programs.{program_of}
use Rattle.verse_meaning.specs.Runs.{after, mean}
use Rattle.verse_sound_rules.specs.Programs.{FineProgram}
use Rattle.verse_sound_runs.specs.Laws.{GoesRight}
use Rattle.verse_accept_fine.specs.Sorted.{program}
use Rattle.verse_accept_trees.specs.Laws.{Told}

-- of accepted items, where tables tell which nodes are arrays and events
abbrev pub ItemsAreFine : Type 0
ItemsAreFine = (files : List (List ℕ)) (is : List ItemTree) → Accepts files is →
    (arrays events : ℕ → Bool) → Told is arrays events → FineProgram (program is arrays events)

-- their run goes right in each turn, and never ends stuck, for all inputs, bounds of steps and
-- horizons
abbrev pub ItemsGoRight : Type 0
ItemsGoRight = (files : List (List ℕ)) (is : List ItemTree) → Accepts files is →
    (arrays events : ℕ → Bool) → Told is arrays events → (ns : List ℤ) (steps until k : ℕ) →
    GoesRight (after (program is arrays events) ns steps until k)

abbrev pub ItemsAreNeverStuck : Type 0
ItemsAreNeverStuck = (files : List (List ℕ)) (is : List ItemTree) → Accepts files is →
    (arrays events : ℕ → Bool) →
    Told is arrays events → (ns : List ℤ) (steps until : ℕ) → (mean (program is arrays events) ns steps until).ending ≢ ending.Stuck

-- a program with the names and the types of its nodes
pub record IsTold (made : Made) : Type 0 where
  pub names : made.names ≡ completed (map item_of made.tree.items)
  pub types : map ty_of made.typed.types ≡ types_of (map item_of made.tree.items)

-- of what is answered for accepted files
abbrev pub AcceptedIsFine : Type 0
AcceptedIsFine = (files : List (List ℕ)) (made : Made) →
    Accepts files (map item_of made.tree.items) → IsTold made → FineProgram (program_of made)

abbrev pub AcceptedIsNeverStuck : Type 0
AcceptedIsNeverStuck = (files : List (List ℕ)) (made : Made) →
    Accepts files (map item_of made.tree.items) → IsTold made → (ns : List ℤ) (steps until : ℕ) →
    (mean (program_of made) ns steps until).ending ≢ ending.Stuck
