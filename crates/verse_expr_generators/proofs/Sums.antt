-- An expression is a sum and what is behind it.
use Rattle.std.proofs.Common.{ℕ, List}
use Rattle.verse_layout.specs.declared.toks.Tok.{Tok}
use Rattle.verse_tree.specs.Tree.{Tree}
use Rattle.verse_grammar.specs.Exprs.{Reads, comparison_sum, comparison_two, not_comparison, and_chain, or_chain, expr_or}
use Rattle.verse_grammar.specs.declared.phrases.Phrase.TheVariants as p
use Rattle.verse_expr_precedence.specs.Compares.{Compares, alone, with_another}
use Rattle.verse_expr_generators.specs.Behind.{ExprBehind, behind}

compared : {b : List ℕ} {ks ls rest : List Tok} {e f : Tree} → Reads b p.Sum ks e ls → Compares b e ls f rest →
    Reads b p.Comparison ks f rest
compared s alone = comparison_sum s
compared s (with_another h r) = comparison_two s h r

pub whole : {b : List ℕ} {ks ls rest : List Tok} {e f : Tree} → Reads b p.Sum ks e ls → ExprBehind b e ls f rest → Reads b p.Expr ks f rest
whole s (behind c a o) = expr_or (or_chain (and_chain (not_comparison (compared s c)) a) o)
