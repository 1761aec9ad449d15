-- The pass over a program answers the least rule of types that is broken, at its node.
use Rattle.std.proofs.Common.{◌≡◌, ℕ, Bool, true, false, not, List, ◌∷◌, Option, refl, ap, sym, ◌∙◌, subst}
use Rattle.std.specs.Prelude.{Some, None}
use Rattle.verse_base.specs.declared.rules.TheConstants.{TYPES_DIFFER}
use Rattle.verse_tree.specs.Tree.{Bytes}
use Rattle.verse_tree.specs.ItemTree.{ItemTree}
use Rattle.verse_tree.specs.PostOrder.{What, program, item, member, parameter, type_name, expression}
use Rattle.verse_tree.specs.declared.tables.Names.{Names}
use Rattle.verse_rules_types.specs.Types.{Ty}
use Rattle.verse_rules_least.specs.Least.{Finds, first_true, ascends}
use Rattle.verse_rules_least.proofs.Least.{first_finds, least_kept, placed_kept}
use Rattle.verse_rules_walk.specs.Around.{Around}
use Rattle.verse_rules_walk.specs.Nodes.{Node, number_of, place_of, items_nodes}
use Rattle.verse_rules_walk.specs.Order.{AreNumbered}
use Rattle.verse_rules_walk.proofs.Order.{numbers_rise}
use Rattle.verse_names_declarations.specs.Known.{known}
use Rattle.verse_names_declarations.specs.Lines.{Members}
use Rattle.verse_check_typing.specs.Facts.{World, Facts, class_members, enum_values, world_of}
use Rattle.verse_check_typing.specs.Steps.{Sight, facts, own_rules, rules_at, type_by, own, serves_as, cut, served, judge, step, Breaks}
use Rattle.verse_check_typing.specs.Steps.{begun}
use Rattle.verse_check_typing.specs.Steps.{seen}
use Rattle.verse_check.specs.Checking.{world_by, all_seen, TellsTypes}

cut_code : (t : Ty) (o : Option ℕ) → (cut t o).code ≡ o
cut_code t None = refl
cut_code t (Some c) = refl

served_code : (b : Bool) (t : Ty) (rs : List (ℕ × Bool)) → (served b (cut t (first_true rs))).code ≡ first_true ((TYPES_DIFFER, not b) ∷ rs)
served_code true t rs = cut_code t (first_true rs)
served_code false t rs = refl

-- the code of a node is that of the first of its rules that is broken
judged_code : (f : Facts) (v : Node) → (judge f v).code ≡ first_true (rules_at f v)
judged_code f v = served_code (serves_as f v.around.used v.what (own f v).ty) (type_by f v.number v.what)
    (own_rules f v.around v.number v.what)

-- the rules of a node have rising codes
ascending : (f : Facts) (w : Around) (n : ℕ) (x : What) (b : Bool) → ascends ((TYPES_DIFFER, b) ∷ own_rules f w n x) ≡ true
ascending f w n (expression s) b = refl
ascending f w n (item i) b = refl
ascending f w n (member m) b = refl
ascending f w n (program is) b = refl
ascending f w n (parameter p) b = refl
ascending f w n (type_name x) b = refl

finds : (k : World) (v : Node) (x : Sight) → Finds (Breaks k v x) (judge (facts k x) v).code
finds k v x =
    let f = facts k x in
    subst (Finds (Breaks k v x)) (sym (judged_code f v))
    (first_finds (rules_at f v) (ascending f v.around v.number v.what (not (serves_as f v.around.used v.what (own f v).ty))))

pub answers : (k : Names) (is : List ItemTree) → AreNumbered is → TellsTypes k is (all_seen k is).fault
unfolding step
answers k is h =
    let w = world_of k is in
    let vs = items_nodes is in (
      least_kept number_of place_of (step w) (Breaks w) (λ v x. (judge (facts w x) v).code) (finds w) (λ x. x.fault) (λ v x. refl) vs begun
          (numbers_rise is h) refl,
      placed_kept number_of place_of (step w) (Breaks w) (λ v x. (judge (facts w x) v).code) (finds w) (λ x. x.fault)
          (λ v x. refl) vs begun refl,
    )

-- the same tables find the same
pub sees : (k : Names) (is : List ItemTree) (x : Sight) (ms : List Members) (vs : List (List Bytes)) →
    x ≡ seen (world_by k ms vs) (items_nodes is) → ms ≡ class_members (known is) → vs ≡ enum_values is →
    x ≡ all_seen k is
sees k is x ms vs h e g =
    h
    ∙ ap (λ (l : List Members). seen (world_by k l vs) (items_nodes is)) e
    ∙ ap (λ (l : List (List Bytes)). seen (world_by k (class_members (known is)) l) (items_nodes is)) g
