-- The items of all files joined.
use Rattle.std.proofs.Common.{◌≡◌, ℕ, ◌*◌, ◌<◌, ◌≤◌, List, [], ◌∷◌, ◌++◌, length, map, refl, sym, ap, ◌∙◌, arith}
use Rattle.std.specs.List.{flat_map}
use Rattle.verse_base.specs.declared.limits.TheConstants.{MOST_FILE_BYTES}
use Rattle.verse_tree.specs.declared.items.Item.{Item}
use Rattle.verse_tree.specs.Numbering.{item_nodes, items_nodes, program_nodes}
use Rattle.verse_tree.proofs.Order.{both_nodes}
use Rattle.verse_join.specs.Joining.{file_items, joined}
use Rattle.verse_accept.specs.Fronts.{all_items}
use Rattle.verse_accept.specs.Ready.{Each, HasFewNodes}

-- files of few nodes have few nodes together
few_each : (files : List (List Item)) → Each HasFewNodes (map file_items files) →
    items_nodes (joined files) ≤ length files * (4 * MOST_FILE_BYTES)
few_each [] e = omega arith
few_each (f ∷ fs) e =
    let rest = few_each fs e.1 in
    let both = both_nodes (file_items f) (joined fs) in
    let first = e.0 in
    omega arith

pub few_nodes : (files : List (List Item)) → Each HasFewNodes (map file_items files) → length files ≤ 16 →
    program_nodes (joined files) < 4294967295
few_nodes files e few = let all = few_each files e in omega arith

pub all_joined : (files : List (List Item)) → all_items (map file_items files) ≡ joined files
all_joined [] = refl
all_joined (f ∷ fs) = ap (λ is. file_items f ++ is) (all_joined fs)
