-- Behind the place of a `set`: how it writes, and the value.
use Rattle.std.specs.Prelude.{◌≡◌, ℕ, List, [], ◌∷◌, Some}
use Rattle.verse_layout.specs.declared.toks.Tok.{Tok}
use Rattle.verse_tree.specs.Tree.{Tree}
use Rattle.verse_tree.specs.declared.exprs.Assign.{Assign}
use Rattle.verse_grammar.specs.Starts.{assign_at}
use Rattle.verse_grammar.specs.Exprs.{Reads}
use Rattle.verse_grammar.specs.Symbols.{Symbol, rule, phrase, assign}
use Rattle.verse_grammar.specs.declared.phrases.Phrase.TheVariants as p

-- behind the place of a `set`: how it writes, and the value
pub data Writes (b : List ℕ) : List Tok → Assign → Tree → List Tok → Type 0 where
  writes : {o : Tok} {ks rest : List Tok} {x : Assign} {e : Tree} → assign_at o.kind ≡ Some x →
      Reads b p.Expr ks e rest → Writes b (o ∷ ks) x e rest

abbrev pub write_symbols : List Symbol
write_symbols = rule assign ∷ rule (phrase p.Expr) ∷ []
