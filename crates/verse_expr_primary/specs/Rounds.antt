-- What stands in round brackets behind the first expression, and what the whole is.
use Rattle.std.specs.Prelude.{◌≡◌, ℕ, List, ◌∷◌, Option, Some, None}
use Rattle.verse_base.specs.declared.places.Place.{Place}
use Rattle.verse_lex.specs.declared.tokens.Mark.TheVariants as m
use Rattle.verse_layout.specs.declared.toks.Tok.{Tok}
use Rattle.verse_tree.specs.Tree.{Tree, tree}
use Rattle.verse_tree.specs.Tree as t
use Rattle.verse_tree.specs.View.{trees}
use Rattle.verse_grammar.specs.Toks.{mark}
use Rattle.verse_grammar.specs.Exprs.{Closed}
use Rattle.verse_grammar.specs.declared.phrases.Phrase.TheVariants as p

-- others behind a comma, or none
pub data RoundRest (b : List ℕ) : List Tok → Option (List Tree) → List Tok → Type 0 where
  only_one : {c : Tok} {rest : List Tok} → c.kind ≡ mark m.RoundClose →
      RoundRest b (c ∷ rest) None rest
  several : {s : Tok} {ls rest : List Tok} {es : List Tree} → s.kind ≡ mark m.Comma →
      Closed b p.Expr (mark m.Comma) (mark m.RoundClose) ls es rest →
      RoundRest b (s ∷ ls) (Some es) rest

-- one expression is itself, and several are a tuple
abbrev pub rounded : Place → Tree → Option (List Tree) → Tree
rounded place e None = e
rounded place e (Some es) = tree 0 place (t.Shape.tuple (trees (e ∷ es)))
