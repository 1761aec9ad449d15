-- The forms of one tok.
use Rattle.std.proofs.Common.{◌≡◌, ℕ, List, ◌∷◌, Some}
use Rattle.verse_layout.specs.declared.toks.Tok.{Tok}
use Rattle.verse_tree.specs.Tree.{tree}
use Rattle.verse_grammar.specs.Starts.{primary_start}
use Rattle.verse_grammar.specs.Exprs.{Reads, integer, character, text, truth, falsehood, this}
use Rattle.verse_grammar.specs.Symbols.{phrase}
use Rattle.verse_grammar.specs.Reading.{EatsRule}
use Rattle.verse_grammar.specs.declared.phrases.Phrase.TheVariants as p
use Rattle.verse_grammar.proofs.Eating.{eats_primary_int, eats_primary_char, eats_primary_text, eats_primary_true, eats_primary_false}
use Rattle.verse_grammar.proofs.Eating.{eats_primary_this}
use Rattle.verse_expr_keywords.specs.declared.leaves.Leaf.{Leaf}
use Rattle.verse_expr_keywords.specs.declared.leaves.Leaf.TheVariants as leaf
use Rattle.verse_expr_keywords.specs.Leaves.{leaf_start, leaf_shape}

pub leaf_reads : {b : List ℕ} {k : Tok} {rest : List Tok} (l : Leaf) → primary_start k.kind ≡ Some (leaf_start l) →
    Reads b p.Primary (k ∷ rest) (tree 0 k.place (leaf_shape b k l)) rest
leaf_reads (leaf.Int n) s = integer s
leaf_reads (leaf.Char n) s = character s
leaf_reads leaf.Text s = text s
leaf_reads leaf.True s = truth s
leaf_reads leaf.False s = falsehood s
leaf_reads leaf.This s = this s

pub leaf_eaten : (l : Leaf) (k : Tok) (rest : List Tok) → primary_start k.kind ≡ Some (leaf_start l) →
    EatsRule (phrase p.Primary) (k ∷ rest) rest
leaf_eaten (leaf.Int n) k rest s = eats_primary_int n k rest s
leaf_eaten (leaf.Char n) k rest s = eats_primary_char n k rest s
leaf_eaten leaf.Text k rest s = eats_primary_text k rest s
leaf_eaten leaf.True k rest s = eats_primary_true k rest s
leaf_eaten leaf.False k rest s = eats_primary_false k rest s
leaf_eaten leaf.This k rest s = eats_primary_this k rest s
