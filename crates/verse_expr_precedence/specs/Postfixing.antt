-- One postfix, behind its first tok.
use Rattle.std.specs.Prelude.{◌≡◌, ◌≢◌, ℕ, List, ◌∷◌, Some, length, map}
use Rattle.verse_base.specs.declared.places.Place.{Place}
use Rattle.verse_lex.specs.declared.tokens.Mark.TheVariants as m
use Rattle.verse_layout.specs.declared.toks.Tok.{Tok}
use Rattle.verse_tree.specs.Tree.{Tree, tree}
use Rattle.verse_tree.specs.Tree as t
use Rattle.verse_tree.specs.View.{tree_of, trees}
use Rattle.verse_tree.specs.declared.exprs.Expr.{Expr}
use Rattle.verse_grammar.specs.Toks.{ahead, mark, name, name_at}
use Rattle.verse_grammar.specs.Exprs.{Until}
use Rattle.verse_grammar.specs.Symbols.{until}
use Rattle.verse_grammar.specs.Reading.{EatsRule, SticksRule}
use Rattle.verse_grammar.specs.declared.phrases.Phrase.TheVariants as p
use Rattle.verse_grammar.specs.declared.starts.PostfixStart.{PostfixStart}
use Rattle.verse_grammar.specs.declared.starts.PostfixStart.TheVariants as postfix
use Rattle.verse_expr_precedence.specs.declared.postfixes.Suffix.{Suffix}
use Rattle.verse_expr_precedence.specs.declared.postfixes.Suffix.TheVariants as suffix

-- the tree with the postfix, which begins at a place
abbrev pub joined : Place → Tree → Suffix → Tree
joined place e (suffix.Call es) = tree 0 place (t.Shape.call e (trees (map tree_of es)))
joined place e (suffix.Index es) = tree 0 place (t.Shape.index e (trees (map tree_of es)))
joined place e (suffix.Member n) = tree 0 place (t.Shape.member e n)
joined place e suffix.Query = tree 0 place (t.Shape.query e)

-- the postfix that the toks behind its first are, by what it begins with
pub data OnePostfix (b : List ℕ) : PostfixStart → List Tok → Suffix → List Tok → Type 0 where
  one_call : {ks rest : List Tok} {es : List Expr} →
      Until b p.Expr (mark m.Comma) (mark m.RoundClose) ks (map tree_of es) rest →
      OnePostfix b postfix.Round ks (suffix.Call es) rest
  one_index : {ks rest : List Tok} {es : List Expr} →
      Until b p.Expr (mark m.Comma) (mark m.SquareClose) ks (map tree_of es) rest →
      OnePostfix b postfix.Square ks (suffix.Index es) rest
  one_member : {n : Tok} {rest : List Tok} → n.kind ≡ name →
      OnePostfix b postfix.Dot (n ∷ rest) (suffix.Member (name_at b n)) rest
  one_query : {rest : List Tok} → OnePostfix b postfix.Question rest suffix.Query rest

-- the toks of the postfix behind its first
pub data PostfixEats : PostfixStart → List Tok → List Tok → Type 0 where
  eats_call : {ks rest : List Tok} →
      EatsRule (until p.Expr (mark m.Comma) (mark m.RoundClose)) ks rest →
      PostfixEats postfix.Round ks rest
  eats_index : {ks rest : List Tok} →
      EatsRule (until p.Expr (mark m.Comma) (mark m.SquareClose)) ks rest →
      PostfixEats postfix.Square ks rest
  eats_member : {n : Tok} {rest : List Tok} → n.kind ≡ name →
      PostfixEats postfix.Dot (n ∷ rest) rest
  eats_query : {rest : List Tok} → PostfixEats postfix.Question rest rest

pub data PostfixSticks : PostfixStart → List Tok → ℕ → Type 0 where
  sticks_call : {ks : List Tok} {left : ℕ} →
      SticksRule (until p.Expr (mark m.Comma) (mark m.RoundClose)) ks left →
      PostfixSticks postfix.Round ks left
  sticks_index : {ks : List Tok} {left : ℕ} →
      SticksRule (until p.Expr (mark m.Comma) (mark m.SquareClose)) ks left →
      PostfixSticks postfix.Square ks left
  sticks_member : {ks : List Tok} → ahead ks ≢ Some name → PostfixSticks postfix.Dot ks (length ks)
