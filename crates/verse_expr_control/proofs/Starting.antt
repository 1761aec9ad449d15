-- The kind of a tok with which a statement begins.
use Rattle.std.proofs.Common.{◌≡◌, ℕ, List, ◌∷◌, Option, Some, None, refl}
use Rattle.verse_lex.specs.declared.tokens.Word.{Word}
use Rattle.verse_lex.specs.declared.tokens.Word.TheVariants as w
use Rattle.verse_lex.specs.declared.tokens.TokenKind.TheVariants as token
use Rattle.verse_layout.specs.declared.toks.TokKind.{TokKind}
use Rattle.verse_layout.specs.declared.toks.TokKind.TheVariants as tok
use Rattle.verse_layout.specs.declared.toks.Tok.{Tok}
use Rattle.verse_tree.specs.Tree as t
use Rattle.verse_grammar.specs.Toks.{word, name}
use Rattle.verse_grammar.specs.Exprs.{Control, break_form, at}
use Rattle.verse_grammar.specs.Starts.{stmt_start}
use Rattle.verse_grammar.specs.declared.starts.StmtStart.{StmtStart}
use Rattle.verse_grammar.specs.declared.starts.StmtStart.TheVariants as stmt

abbrev start_kind : StmtStart → TokKind
start_kind stmt.Name = name
start_kind stmt.Var = word w.Var
start_kind stmt.Set = word w.Set
start_kind stmt.Return = word w.Return
start_kind stmt.Break = word w.Break

abbrev Starts : TokKind → Option StmtStart → Type 0
Starts k None = Unit {0}
Starts k (Some s) = k ≡ start_kind s

starts_word : (x : Word) → Starts (tok.Plain (token.Word x)) (stmt_start (tok.Plain (token.Word x)))
starts_word w.Array = tt
starts_word w.And = tt
starts_word w.Block = tt
starts_word w.Branch = tt
starts_word w.Break = refl
starts_word w.Case = tt
starts_word w.Char = tt
starts_word w.Class = tt
starts_word w.Defer = tt
starts_word w.Else = tt
starts_word w.Enum = tt
starts_word w.Event = tt
starts_word w.False = tt
starts_word w.For = tt
starts_word w.If = tt
starts_word w.Inf = tt
starts_word w.Int = tt
starts_word w.Logic = tt
starts_word w.Loop = tt
starts_word w.Map = tt
starts_word w.Not = tt
starts_word w.Option = tt
starts_word w.Or = tt
starts_word w.Race = tt
starts_word w.Return = refl
starts_word w.Rush = tt
starts_word w.This = tt
starts_word w.Set = refl
starts_word w.Sleep = tt
starts_word w.Spawn = tt
starts_word w.String = tt
starts_word w.Sync = tt
starts_word w.Task = tt
starts_word w.Then = tt
starts_word w.True = tt
starts_word w.Tuple = tt
starts_word w.Using = tt
starts_word w.Var = refl
starts_word w.Void = tt
starts_word w.Wild = tt

starts : (k : TokKind) → Starts k (stmt_start k)
starts (tok.Plain token.Name) = refl
starts (tok.Plain (token.Word x)) = starts_word x
starts (tok.Plain token.LeftOut) = tt
starts (tok.Plain (token.Int n)) = tt
starts (tok.Plain (token.Dec n)) = tt
starts (tok.Plain (token.Char n)) = tt
starts (tok.Plain token.Text) = tt
starts (tok.Plain token.TextOpen) = tt
starts (tok.Plain token.TextMid) = tt
starts (tok.Plain token.TextClose) = tt
starts (tok.Plain (token.Mark x)) = tt
starts tok.Open = tt
starts tok.Sep = tt
starts tok.Close = tt

pub start_is : (k : TokKind) (s : StmtStart) → stmt_start k ≡ Some s → k ≡ start_kind s
start_is k s h = rw h at (starts k)

pub name_start : (k : TokKind) → stmt_start k ≡ Some stmt.Name → k ≡ name
name_start k h = start_is k stmt.Name h

pub set_start : (k : TokKind) → stmt_start k ≡ Some stmt.Set → k ≡ word w.Set
set_start k h = start_is k stmt.Set h

pub var_start : (k : TokKind) → stmt_start k ≡ Some stmt.Var → k ≡ word w.Var
var_start k h = start_is k stmt.Var h

pub return_start : (k : TokKind) → stmt_start k ≡ Some stmt.Return → k ≡ word w.Return
return_start k h = start_is k stmt.Return h

pub break_start : (k : TokKind) → stmt_start k ≡ Some stmt.Break → k ≡ word w.Break
break_start k h = start_is k stmt.Break h

pub left_at : (b : List ℕ) (k : Tok) (rest : List Tok) → stmt_start k.kind ≡ Some stmt.Break →
    Control b (k ∷ rest) (at k t.Shape.break_form) rest
left_at b k rest h = break_form (break_start k.kind h)
