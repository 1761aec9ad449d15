-- An arm of a `case`.
use Rattle.std.specs.Prelude.{◌≡◌, ℕ, List, ◌∷◌}
use Rattle.verse_base.specs.declared.places.Place.{Place}
use Rattle.verse_lex.specs.declared.tokens.Mark.TheVariants as m
use Rattle.verse_layout.specs.declared.toks.Tok.{Tok}
use Rattle.verse_tree.specs.Tree.{Tree, tree}
use Rattle.verse_tree.specs.Tree as t
use Rattle.verse_grammar.specs.Toks.{mark}
use Rattle.verse_grammar.specs.Exprs.{Reads}
use Rattle.verse_grammar.specs.declared.phrases.Phrase.TheVariants as p

-- an arm of a `case`, whose node has this place
pub data IsArm (b : List ℕ) (place : Place) : List Tok → Tree → List Tok → Type 0 where
  is_arm : {o : Tok} {ks ls rest : List Tok} {e f : Tree} → Reads b p.Pattern ks e (o ∷ ls) →
      o.kind ≡ mark m.FatArrow → Reads b p.Body ls f rest →
      IsArm b place ks (tree 0 place (t.Shape.arm e f)) rest
