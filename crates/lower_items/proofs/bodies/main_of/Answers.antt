use Rattle.std.proofs.Common.{◌≡◌, ◌+◌, ◌∷◌, drop, map, false, ap, sym, ◌∙◌}
use Rattle.std.proofs.lemmas.List.{drop_more}
use Rattle.verse_tree.specs.ItemView.{item_of}
use Rattle.lower_code.specs.Programs.{main_from}
use Rattle.lower_items.specs.Parts.{is_main}
use Rattle.lower_items.proofs.Splitting.{main_behind}
use Rattle.lower_items.proofs.bodies.main_of.Goals as goal

pub items-preserved : goal.items-preserved
items-preserved c =
    let items = c.args.items.now in
    let i = c.items.item-index in
    let item = c.item-item.result in
    let split : drop i items ≡ item ∷ drop (i + 1) items =
    drop_more items i item c.items-test.true ∙ ap (λ x. x ∷ drop (i + 1) items) (sym c.item-item.is) in
    let other : is_main (item_of item) ≡ false = sym c.is_main.ensures ∙ c.if-is_main.false in
    ap (λ n. main_from n (map item_of (drop (i + 1) items))) c.in_ok-at.ensures ∙
    sym (main_behind (item_of item) (map item_of (drop (i + 1) items)) c.items.at other) ∙
    ap (λ l. main_from c.items.at (map item_of l)) (sym split) ∙ c.items.invariant
