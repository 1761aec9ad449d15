use Rattle.std.proofs.Common.{◌≡◌, ℕ, List, map, length, ap, sym, ◌∙◌, subst}
use Rattle.std.specs.Prelude.{None, Option}
use Rattle.verse_tree.specs.ItemTree.{ItemTree}
use Rattle.verse_tree.specs.ItemView.{item_of}
use Rattle.verse_tree.specs.PostOrder.{items_order}
use Rattle.verse_rules_least.specs.Least.{Told, Placed}
use Rattle.verse_rules_least.specs.declared.faults.Fault.{Fault}
use Rattle.verse_rules_least.proofs.Both.{leads}
use Rattle.verse_names_declarations.specs.Known.{Known, known, known_of}
use Rattle.verse_names_items.specs.Faults.{program_fault}
use Rattle.verse_names_items.specs.Nodes.{number_of, place_of, program_declared, keep_fault, Breaks}
use Rattle.verse_names_items.proofs.Passing.{items_told, items_placed}
use Rattle.verse_names_items.proofs.Numbered.{numbers_rise, placed_there}
use Rattle.verse_names_items.proofs.declarations.least_fault.Goals as goal

-- what the code finds is the first fault of the program's items
found : (o : Option Fault) (k : Known) (last : ℕ) (is js : List ItemTree) → o ≡ program_fault k last js → js ≡ is → k ≡ known is →
    last ≡ length (items_order is) → o ≡ program_fault (known is) (length (items_order is)) is
found o k last is js e items knows number =
    e ∙ ap (program_fault k last) items ∙ ap (λ m. program_fault m last is) knows ∙ ap (λ m. program_fault (known is) m is) number

pub returns-clause-least : goal.returns-clause-least
returns-clause-least c =
    let is = map item_of c.args.tree.now.items in
    let e = found c.in_ok-fault.fault (known_of c.args.known.now) c.last_node-last.result is _ c.in_ok-fault.ensures
    (ap (map item_of) c.as_slice.ensures) c.requires.known c.last_node-last.ensures in
    let rise = numbers_rise is c.args.tree.now.nodes c.requires.numbered in
    leads number_of (keep_fault (known is)) (Breaks (known is)) (program_declared (known is) is) None c.in_ok-fault.fault (
    subst (Told number_of (keep_fault (known is)) (Breaks (known is)) (program_declared (known is) is) None) (sym e)
    (items_told (known is) is rise)
    )

pub returns-clause-placed : goal.returns-clause-placed
returns-clause-placed c =
    let is = map item_of c.args.tree.now.items in
    let e = found c.in_ok-fault.fault (known_of c.args.known.now) c.last_node-last.result is _ c.in_ok-fault.ensures
    (ap (map item_of) c.as_slice.ensures) c.requires.known c.last_node-last.ensures in
    placed_there is c.args.tree.now.nodes c.in_ok-fault.fault c.requires.numbered (
    subst (Placed number_of place_of (program_declared (known is) is)) (sym e) (items_placed (known is) is)
    )
