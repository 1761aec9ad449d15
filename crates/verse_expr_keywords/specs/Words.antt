-- What stands behind a word: a list in braces, or a block.
use Rattle.std.specs.Prelude.{ℕ, List}
use Rattle.verse_layout.specs.declared.toks.TokKind.TheVariants as tok
use Rattle.verse_layout.specs.declared.toks.Tok.{Tok}
use Rattle.verse_tree.specs.Tree.{Tree, Trees, Shape}
use Rattle.verse_tree.specs.Tree as t
use Rattle.verse_grammar.specs.Exprs.{Closed, Until}
use Rattle.verse_grammar.specs.Symbols.{Rule, closed, until}
use Rattle.verse_grammar.specs.declared.phrases.Phrase.TheVariants as p
use Rattle.verse_grammar.specs.declared.starts.PrimaryStart.{PrimaryStart}
use Rattle.verse_grammar.specs.declared.starts.PrimaryStart.TheVariants as primary
use Rattle.verse_expr_keywords.specs.declared.words.ListWord.{ListWord}
use Rattle.verse_expr_keywords.specs.declared.words.ListWord.TheVariants as list
use Rattle.verse_expr_keywords.specs.declared.words.BodyWord.{BodyWord}
use Rattle.verse_expr_keywords.specs.declared.words.BodyWord.TheVariants as body

abbrev pub list_start : ListWord → PrimaryStart
list_start list.Array = primary.Array
list_start list.Option = primary.Option
list_start list.Logic = primary.Logic
list_start list.Sync = primary.Sync
list_start list.Race = primary.Race
list_start list.Rush = primary.Rush

abbrev pub list_shape : ListWord → Trees → Shape
list_shape list.Array es = t.Shape.array es
list_shape list.Option es = t.Shape.option es
list_shape list.Logic es = t.Shape.logic es
list_shape list.Sync es = t.Shape.sync es
list_shape list.Race es = t.Shape.race es
list_shape list.Rush es = t.Shape.rush es

-- its rule
abbrev pub list_rule : ListWord → Rule
list_rule list.Array = until p.Expr tok.Sep tok.Close
list_rule list.Option = closed p.Stmt tok.Sep tok.Close
list_rule list.Logic = closed p.Stmt tok.Sep tok.Close
list_rule list.Sync = until p.Stmt tok.Sep tok.Close
list_rule list.Race = until p.Stmt tok.Sep tok.Close
list_rule list.Rush = until p.Stmt tok.Sep tok.Close

-- and how it is written
abbrev pub IsList : List ℕ → ListWord → List Tok → List Tree → List Tok → Type 0
IsList b list.Array ks es rest = Until b p.Expr tok.Sep tok.Close ks es rest
IsList b list.Option ks es rest = Closed b p.Stmt tok.Sep tok.Close ks es rest
IsList b list.Logic ks es rest = Closed b p.Stmt tok.Sep tok.Close ks es rest
IsList b list.Sync ks es rest = Until b p.Stmt tok.Sep tok.Close ks es rest
IsList b list.Race ks es rest = Until b p.Stmt tok.Sep tok.Close ks es rest
IsList b list.Rush ks es rest = Until b p.Stmt tok.Sep tok.Close ks es rest

abbrev pub body_start : BodyWord → PrimaryStart
body_start body.Loop = primary.Loop
body_start body.Block = primary.Block
body_start body.Branch = primary.Branch

abbrev pub body_shape : BodyWord → Tree → Shape
body_shape body.Loop e = t.Shape.loop_form e
body_shape body.Block e = t.Shape.block_form e
body_shape body.Branch e = t.Shape.branch e
