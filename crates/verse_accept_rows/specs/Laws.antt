-- Laws of what is found at the nodes of a program.
use Rattle.std.specs.Prelude.{List, []}
use Rattle.verse_tree.specs.ItemTree.{ItemTree}
use Rattle.verse_tree.specs.Shapes.{ItemsShaped}
use Rattle.verse_names_declarations.specs.Known.{known}
use Rattle.verse_rules_walk.specs.Order.{AreNumbered}
use Rattle.verse_rules.specs.Sound.{IsSound}
use Rattle.verse_accept_scopes.specs.Lists.{Each}
use Rattle.verse_accept_scopes.specs.Sites.{program_sites}
use Rattle.verse_accept_scopes.specs.Holding.{OnItems}
use Rattle.verse_accept_rows.specs.Found.{Found}

-- at each node, by what is found at all of them
abbrev pub AllFound : Type 0
AllFound = (is : List ItemTree) → ItemsShaped is → AreNumbered is → IsSound is →
    Each (Found is) (program_sites is)

-- and so form by form
abbrev pub ItemsFound : Type 0
ItemsFound = (is : List ItemTree) → ItemsShaped is → AreNumbered is → IsSound is →
    OnItems (Found is) (known is) [] (known is).items
