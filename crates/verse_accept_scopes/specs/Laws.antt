-- Laws of the nodes of a program with what stands round them and what is visible at them.
use Rattle.std.specs.Prelude.{◌≡◌, ℕ, ◌<◌, List, [], ◌∷◌, ◌++◌, map, length, Some, slice_get}
use Rattle.verse_tree.specs.Tree.{Bytes}
use Rattle.verse_tree.specs.ItemTree.{ItemTree}
use Rattle.verse_tree.specs.PostOrder.{What, expression, items_order, program_place}
use Rattle.verse_tree.specs.Shapes.{ItemsShaped}
use Rattle.verse_tree.specs.declared.tables.Ref.{Ref}
use Rattle.verse_tree.specs.declared.tables.Ref.TheVariants as ref
use Rattle.verse_names_declarations.specs.Known.{known}
use Rattle.verse_names_scopes.specs.Visible.{outside}
use Rattle.verse_names_scopes.specs.Subjects.{quiet}
use Rattle.verse_names_scopes.specs.Visits.{Visit, program_visits}
use Rattle.verse_rules_walk.specs.Around.{Around, argument}
use Rattle.verse_rules_walk.specs.Nodes.{Node, items_nodes, shape_nodes}
use Rattle.verse_rules_walk.specs.Order.{AreNumbered}
use Rattle.verse_accept_scopes.specs.Lists.{Each}
use Rattle.verse_accept_scopes.specs.Sites.{Site, node_of, visit_of, program_sites}
use Rattle.verse_accept_scopes.specs.Holding.{OnItems}

-- the nodes that are walked are the sites
abbrev pub WalkedAreSites : Type 0
WalkedAreSites = (is : List ItemTree) → ItemsShaped is →
    map node_of (program_sites is) ≡ items_nodes is

-- the visit of the program's own node
abbrev pub own_visit : List ItemTree → Visit
own_visit is = record {
  number = length (items_order is);
  place = program_place;
  subject = quiet;
  world = outside (known is);
  locals = [];
}

-- the nodes whose names are looked up are the sites too, each with the names of its place
abbrev pub VisitsAreSites : Type 0
VisitsAreSites = (is : List ItemTree) → ItemsShaped is →
    program_visits is ≡ map visit_of (program_sites is) ++ own_visit is ∷ []

-- the site i has the number i
abbrev pub SitesInRow : Type 0
SitesInRow = (is : List ItemTree) → ItemsShaped is → AreNumbered is → (i : ℕ) (v : Site) →
    slice_get (program_sites is) i ≡ Some v → v.number ≡ i

-- the nodes of the parts of a node
abbrev pub parts_of : ℕ → Around → What → List Node
parts_of n a (expression s) = shape_nodes n a s
parts_of n a x = []

-- a local name, of a node with a number below n
abbrev pub LocalBelow : ℕ → Ref → Type 0
LocalBelow n (ref.Local m) = m < n
LocalBelow n (ref.Key m) = m < n
LocalBelow n r = ⊥

-- below a node are numbered its parts, the nodes of the names that are visible at it, and the
-- callee whose argument it is; above it the loop round it
pub record Stands (v : Site) : Type 0 where
  pub parts : Each (λ (u : Node). u.number < v.number) (parts_of v.number v.around v.what)
  pub locals : Each (λ (e : Bytes × Ref). LocalBelow v.number e.1) v.locals
  pub callee : (c i : ℕ) → v.around.used ≡ argument c i → c < v.number
  pub loop : (m : ℕ) → v.around.enclosing ≡ Some m → v.number < m

abbrev pub SitesStand : Type 0
SitesStand = (is : List ItemTree) → ItemsShaped is → AreNumbered is → Each Stands (program_sites is)

-- what holds of each site holds on the items, form by form
abbrev pub HoldsOnItems : Type 1
HoldsOnItems = (P : Site → Type 0) (is : List ItemTree) → ItemsShaped is → AreNumbered is →
    Each P (program_sites is) → OnItems P (known is) [] (known is).items
