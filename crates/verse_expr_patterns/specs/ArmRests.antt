-- What stands in an arm behind its pattern.
use Rattle.std.specs.Prelude.{◌≡◌, ℕ, List, [], ◌∷◌}
use Rattle.verse_lex.specs.declared.tokens.Mark.TheVariants as m
use Rattle.verse_layout.specs.declared.toks.Tok.{Tok}
use Rattle.verse_tree.specs.Tree.{Tree}
use Rattle.verse_grammar.specs.Toks.{mark}
use Rattle.verse_grammar.specs.Exprs.{Reads}
use Rattle.verse_grammar.specs.Symbols.{Symbol, a, rule, phrase}
use Rattle.verse_grammar.specs.declared.phrases.Phrase.TheVariants as p

-- its symbols
abbrev pub arm_rest : List Symbol
arm_rest = a (mark m.FatArrow) ∷ rule (phrase p.Body) ∷ []

-- the arrow, and the body behind it
pub data IsArmRest (b : List ℕ) : List Tok → Tree → List Tok → Type 0 where
  behind_arrow : {o : Tok} {ls rest : List Tok} {f : Tree} → o.kind ≡ mark m.FatArrow →
      Reads b p.Body ls f rest → IsArmRest b (o ∷ ls) f rest
