-- The rest of a clause behind the sum with which it begins.
use Rattle.std.specs.Prelude.{◌≡◌, ℕ, List, [], ◌∷◌}
use Rattle.verse_lex.specs.declared.tokens.Mark.TheVariants as m
use Rattle.verse_layout.specs.declared.toks.Tok.{Tok}
use Rattle.verse_tree.specs.Tree.{Tree}
use Rattle.verse_grammar.specs.Toks.{mark}
use Rattle.verse_grammar.specs.Exprs.{Reads, Chain}
use Rattle.verse_grammar.specs.Symbols.{Symbol, a, rule, phrase}
use Rattle.verse_grammar.specs.declared.phrases.Phrase.TheVariants as p
use Rattle.verse_expr_precedence.specs.Compares.{Compares}

-- behind a sum: a comparison, and what `and` and then `or` join to it
pub data ExprBehind (b : List ℕ) (left : Tree) : List Tok → Tree → List Tok → Type 0 where
  behind : {ks ls ms rest : List Tok} {e f g : Tree} → Compares b left ks e ls →
      Chain b p.And e ls f ms → Chain b p.Or f ms g rest → ExprBehind b left ks g rest

-- behind the start of a range: its end
pub data EndsRange (b : List ℕ) : List Tok → Tree → List Tok → Type 0 where
  ends : {d : Tok} {ks rest : List Tok} {e : Tree} → d.kind ≡ mark m.DotDot →
      Reads b p.Sum ks e rest → EndsRange b (d ∷ ks) e rest

abbrev pub end_symbols : List Symbol
end_symbols = a (mark m.DotDot) ∷ rule (phrase p.Sum) ∷ []
