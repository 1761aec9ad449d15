-- The pass over a program answers the least rule that is broken, at its node.
use Rattle.std.proofs.Common.{◌≡◌, ℕ, Bool, true, List, refl, sym, subst}
use Rattle.verse_tree.specs.ItemTree.{ItemTree}
use Rattle.verse_tree.specs.PostOrder.{What, program, item, member, parameter, type_name, expression}
use Rattle.verse_tree.specs.declared.tables.Names.{Names}
use Rattle.verse_rules_least.specs.Least.{Finds, first_true, ascends}
use Rattle.verse_rules_least.proofs.Least.{first_finds, least_kept, placed_kept}
use Rattle.verse_rules_walk.specs.Around.{Around}
use Rattle.verse_rules_walk.specs.Nodes.{Node, number_of, place_of, items_nodes}
use Rattle.verse_rules_walk.specs.Order.{AreNumbered}
use Rattle.verse_rules_least.specs.Least.{each}
use Rattle.verse_rules_walk.proofs.Order.{numbers_rise}
use Rattle.verse_effects.specs.Rules.{rules_of, rules_at, step, Breaks, begun, Answers}
use Rattle.verse_effects.specs.declared.seen.Seen.{Seen}

-- the rules of a node have rising codes
ascending : (k : Names) (vars : List Bool) (w : Around) (n : ℕ) (x : What) → ascends (rules_of k vars w n x) ≡ true
ascending k vars w n (expression s) = refl
ascending k vars w n (item i) = refl
ascending k vars w n (member m) = refl
ascending k vars w n (program is) = refl
ascending k vars w n (parameter p) = refl
ascending k vars w n (type_name x) = refl

finds : (k : Names) (v : Node) (x : Seen) → Finds (Breaks k v x) (first_true (rules_at k x.vars v))
finds k v x = first_finds (rules_at k x.vars v) (ascending k x.vars v.around v.number v.what)

pub answers : (k : Names) (is : List ItemTree) → AreNumbered is → Answers k (items_nodes is) (each (step k) (items_nodes is) begun).fault
unfolding step
answers k is h =
    let vs = items_nodes is in (
      least_kept number_of place_of (step k) (Breaks k) (λ v x. first_true (rules_at k x.vars v)) (finds k) (λ x. x.fault)
          (λ v x. refl) vs begun (numbers_rise is h) refl,
      placed_kept number_of place_of (step k) (Breaks k) (λ v x. first_true (rules_at k x.vars v)) (finds k) (λ x. x.fault)
          (λ v x. refl) vs begun refl,
    )
