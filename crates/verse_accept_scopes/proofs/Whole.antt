-- The laws of the nodes of a program.
use Rattle.std.proofs.Common.{◌≡◌, ℕ, ◌+◌, ◌<◌, List, [], length, ap, arith}
use Rattle.verse_tree.specs.ItemTree.{ItemTree}
use Rattle.verse_tree.specs.PostOrder.{items_order, program_place}
use Rattle.verse_tree.specs.Shapes.{ItemsShaped}
use Rattle.verse_names_declarations.specs.Known.{known}
use Rattle.verse_names_scopes.specs.Visible.{World, inside, outside}
use Rattle.verse_names_scopes.specs.Subjects.{quiet}
use Rattle.verse_names_scopes.specs.Visits.{Seen, visit, nothing_seen}
use Rattle.verse_rules_walk.specs.Nodes.{items_nodes}
use Rattle.verse_rules_walk.specs.Order.{AreNumbered}
use Rattle.verse_rules_walk.proofs.Order.{numbers_in_row}
use Rattle.verse_accept_scopes.specs.Lists.{Each}
use Rattle.verse_accept_scopes.specs.Sites.{Site, program_sites}
use Rattle.verse_accept_scopes.specs.Laws.{WalkedAreSites, VisitsAreSites, SitesInRow, SitesStand, HoldsOnItems}
use Rattle.verse_accept_scopes.proofs.Rows.{Row, row_of, number_in}
use Rattle.verse_accept_scopes.proofs.Agreeing.{program_agrees}
use Rattle.verse_accept_scopes.proofs.Holding.{all_on}

abbrev Any : World → Type 0
Any w = Unit {0}

pub walked_are_sites : WalkedAreSites
walked_are_sites is h = (program_agrees Any is tt (λ c l. tt) h nothing_seen).walked

pub visits_are_sites : VisitsAreSites
visits_are_sites is h =
    ap (λ (s : Seen). (visit (outside (known is)) (length (items_order is)) program_place quiet s).visits)
    (program_agrees Any is tt (λ c l. tt) h nothing_seen).seen

program_row : (is : List ItemTree) → ItemsShaped is → AreNumbered is → Row 0 (program_sites is) (length (program_sites is))
program_row is h n = row_of (program_sites is) (items_nodes is) (walked_are_sites is h) (numbers_in_row is n)

pub sites_in_row : SitesInRow
sites_in_row is h n i v e =
    let there : v.number ≡ 0 + i = number_in 0 (program_sites is) (length (program_sites is)) (program_row is h n) i v e in
    omega (arith, there)

pub sites_stand : SitesStand
sites_stand is h n = (program_agrees Any is tt (λ c l. tt) h nothing_seen).stand 0 (length (program_sites is)) (program_row is h n) tt tt tt

pub holds_on_items : HoldsOnItems
holds_on_items P is h n e = all_on P (known is) [] (known is).items (length (program_sites is)) (program_row is h n) e

-- each site is in a world of the program, outside the classes or inside one of them
pub worlds_are : (In : World → Type 0) (is : List ItemTree) → In (outside (known is)) →
    ((c : ℕ) → c < length (known is).notes → In (inside (known is) c)) →
    ItemsShaped is → Each (λ (v : Site). In v.world) (program_sites is)
worlds_are In is out within h = (program_agrees In is out within h nothing_seen).worlds
