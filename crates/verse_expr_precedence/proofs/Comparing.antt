-- A sum and what it is compared with are a comparison.
use Rattle.std.proofs.Common.{ℕ, List}
use Rattle.verse_layout.specs.declared.toks.Tok.{Tok}
use Rattle.verse_tree.specs.Tree.{Tree}
use Rattle.verse_grammar.specs.Exprs.{Reads, comparison_sum, comparison_two}
use Rattle.verse_grammar.specs.declared.phrases.Phrase.TheVariants as p
use Rattle.verse_expr_precedence.specs.Compares.{Compares, alone, with_another}

pub compared_sums : {b : List ℕ} {ks ls rest : List Tok} {e f : Tree} → Reads b p.Sum ks e ls → Compares b e ls f rest →
    Reads b p.Comparison ks f rest
compared_sums r alone = comparison_sum r
compared_sums r (with_another h s) = comparison_two r h s
