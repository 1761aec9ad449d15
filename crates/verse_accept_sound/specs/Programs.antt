-- A program that breaks no rule is fine, with the sorts of the types that are found.
use Rattle.std.specs.Prelude.{ℕ, Bool, List}
use Rattle.verse_tree.specs.ItemTree.{ItemTree}
use Rattle.verse_tree.specs.Shapes.{ItemsShaped}
use Rattle.verse_rules_walk.specs.Order.{AreNumbered}
use Rattle.verse_rules.specs.Sound.{IsSound}
use Rattle.verse_sound_rules.specs.Programs.{FineFound}
use Rattle.verse_accept_scopes.specs.Lists.{Each}
use Rattle.verse_accept_scopes.specs.Sites.{program_sites}
use Rattle.verse_accept_fine.specs.Sorted.{sorted, program}
use Rattle.verse_accept_trees.specs.Names.{Named}
use Rattle.verse_accept_trees.specs.Laws.{Told}

-- where its trees have the shapes of those that are spelled, its nodes are numbered, no name that
-- it defines is `Self`, and the tables tell which nodes are arrays and events
abbrev pub ProgramsAreFine : Type 0
ProgramsAreFine = (is : List ItemTree) (arrays events : ℕ → Bool) → Told is arrays events →
    ItemsShaped is → AreNumbered is →
    IsSound is → Each Named (program_sites is) → FineFound (program is arrays events) (sorted is)
