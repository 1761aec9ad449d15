-- One more item in a row.
use Rattle.std.proofs.Common.{◌≡◌, ℕ, List, [], ◌∷◌, ◌++◌, map}
use Rattle.verse_base.proofs.Facts.{map_last}
use Rattle.verse_layout.specs.declared.toks.TokKind.TheVariants as tok
use Rattle.verse_layout.specs.declared.toks.Tok.{Tok}
use Rattle.verse_tree.specs.ItemView.{item_of}
use Rattle.verse_tree.specs.declared.items.Item.{Item}
use Rattle.verse_grammar.specs.Items.{ItemRow, more_items}
use Rattle.verse_grammar.specs.Items as grammar
use Rattle.verse_grammar.specs.Symbols as rules_of
use Rattle.verse_grammar.specs.Reading.{EatsRule}
use Rattle.verse_grammar.specs.Loops.{Goes}
use Rattle.verse_grammar.proofs.GoingItems.{goes_items_tail_at}

pub item_read : (b : List ℕ) (ks rest r1 r2 : List Tok) (s : Tok) (xs ys : List Item) (x : Item) → ItemRow b ks (map item_of xs) rest →
    rest ≡ s ∷ r1 → s.kind ≡ tok.Sep → grammar.Item b r1 (item_of x) r2 → ys ≡ xs ++ x ∷ [] → ItemRow b ks (map item_of ys) r2
item_read b ks rest r1 r2 s xs ys x row e h one is =
    let t : ItemRow b ks (map item_of xs) (s ∷ r1) = rw (← e) row in
    rw (is, map_last item_of xs x) (more_items t h one)

pub item_goes : (ks rest r1 r2 : List Tok) (s : Tok) → Goes rules_of.items_tail ks rest → rest ≡ s ∷ r1 → s.kind ≡ tok.Sep →
    EatsRule rules_of.an_item r1 r2 → Goes rules_of.items_tail ks r2
item_goes ks rest r1 r2 s g e h x =
    let t : Goes rules_of.items_tail ks (s ∷ r1) = rw (← e) g in
    goes_items_tail_at s ks r1 r2 t h x
