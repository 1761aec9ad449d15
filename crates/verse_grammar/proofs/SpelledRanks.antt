-- What the numbers say of a tok.
use Rattle.std.proofs.Common.{◌≡◌, ◌≢◌, ℕ, ◌≤◌, ◌<◌, true, false, List, [], ◌∷◌, Option, Some, None, refl, ap, arith, ◌⊎◌, inl, inr}
use Rattle.verse_lex.specs.declared.tokens.Word.{Word}
use Rattle.verse_lex.specs.declared.tokens.Word.TheVariants as w
use Rattle.verse_lex.specs.declared.tokens.Mark.{Mark}
use Rattle.verse_lex.specs.declared.tokens.Mark.TheVariants as m
use Rattle.verse_lex.specs.declared.tokens.TokenKind.TheVariants as token
use Rattle.verse_layout.specs.declared.toks.TokKind.{TokKind}
use Rattle.verse_layout.specs.declared.toks.TokKind.TheVariants as tok
use Rattle.verse_layout.specs.declared.toks.Tok.{Tok}
use Rattle.verse_tree.specs.declared.exprs.Assign.{Assign}
use Rattle.verse_tree.specs.declared.exprs.Comparison.{Comparison}
use Rattle.verse_tree.specs.declared.exprs.Operator.{Operator}
use Rattle.verse_grammar.specs.Toks.{mark, name, ahead}
use Rattle.verse_grammar.specs.Starts.{type_start, primary_start, primary_word, postfix_start, stmt_start, comparison_at, assign_at}
use Rattle.verse_grammar.specs.Starts.{begins_expr, sum_operator, product_operator}
use Rattle.verse_grammar.specs.Exprs.{chain_operator, operand}
use Rattle.verse_grammar.specs.Symbols.{first_as, first_is}
use Rattle.verse_grammar.specs.Follows.{rank, rank_ahead, needs, rise, rise_ahead}
use Rattle.verse_grammar.specs.declared.phrases.Phrase.{Phrase}
use Rattle.verse_grammar.specs.declared.phrases.Phrase.TheVariants as p
use Rattle.verse_grammar.specs.declared.starts.PrimaryStart.{PrimaryStart}
use Rattle.verse_grammar.specs.declared.starts.PostfixStart.{PostfixStart}
use Rattle.verse_grammar.specs.declared.starts.TypeStart.{TypeStart}

pub postfix_rank : (k : TokKind) (o : PostfixStart) → postfix_start k ≡ Some o → 1 ≤ rank k
postfix_rank (tok.Plain (token.Mark m.RoundOpen)) o h = omega arith
postfix_rank (tok.Plain (token.Mark m.SquareOpen)) o h = omega arith
postfix_rank (tok.Plain (token.Mark m.Dot)) o h = omega arith
postfix_rank (tok.Plain (token.Mark m.Question)) o h = omega arith
postfix_rank _ o h = absurd (cc)

product_rank : (k : TokKind) (o : Operator) → product_operator k ≡ Some o → 2 ≤ rank k
product_rank (tok.Plain (token.Mark m.Times)) o h = omega arith
product_rank (tok.Plain (token.Mark m.Slash)) o h = omega arith
product_rank _ o h = absurd (cc)

sum_rank : (k : TokKind) (o : Operator) → sum_operator k ≡ Some o → 3 ≤ rank k
sum_rank (tok.Plain (token.Mark m.Plus)) o h = omega arith
sum_rank (tok.Plain (token.Mark m.Minus)) o h = omega arith
sum_rank _ o h = absurd (cc)

and_rank : (k : TokKind) (o : Operator) → chain_operator p.And k ≡ Some o → 5 ≤ rank k
and_rank (tok.Plain (token.Word w.And)) o h = omega arith
and_rank _ o h = absurd (cc)

or_rank : (k : TokKind) (o : Operator) → chain_operator p.Or k ≡ Some o → 6 ≤ rank k
or_rank (tok.Plain (token.Word w.Or)) o h = omega arith
or_rank _ o h = absurd (cc)

-- an operator may stand behind its operands
pub chain_rank : (q : Phrase) (k : TokKind) (o : Operator) → chain_operator q k ≡ Some o → needs (operand q) ≤ rank k
chain_rank p.Or k o h = or_rank k o h
chain_rank p.And k o h = and_rank k o h
chain_rank p.Sum k o h = sum_rank k o h
chain_rank p.Product k o h = product_rank k o h
chain_rank _ k o h = absurd (cc)

pub comparison_rank : (k : TokKind) (o : Comparison) → comparison_at k ≡ Some o → 4 ≤ rank k
comparison_rank (tok.Plain (token.Mark m.Equals)) o h = omega arith
comparison_rank (tok.Plain (token.Mark m.Differs)) o h = omega arith
comparison_rank (tok.Plain (token.Mark m.Below)) o h = omega arith
comparison_rank (tok.Plain (token.Mark m.AtMost)) o h = omega arith
comparison_rank (tok.Plain (token.Mark m.Above)) o h = omega arith
comparison_rank (tok.Plain (token.Mark m.AtLeast)) o h = omega arith
comparison_rank _ o h = absurd (cc)

pub assign_rank : (k : TokKind) (o : Assign) → assign_at k ≡ Some o → 2 ≤ rank k
assign_rank (tok.Plain (token.Mark m.Equals)) o h = omega arith
assign_rank (tok.Plain (token.Mark m.PlusEquals)) o h = omega arith
assign_rank (tok.Plain (token.Mark m.MinusEquals)) o h = omega arith
assign_rank (tok.Plain (token.Mark m.TimesEquals)) o h = omega arith
assign_rank _ o h = absurd (cc)

pub at_rank : (n : ℕ) (j k : TokKind) → j ≡ k → n ≤ rank k → n ≤ rank j
at_rank n j k h l = rw h l

-- a tok of another rank is none of a kind
pub not_below : (n : ℕ) (o : Option TokKind) (k : TokKind) → n ≤ rank_ahead o → rank k < n → o ≢ Some k
not_below n o k h l e = let s : rank_ahead o ≡ rank k = ap rank_ahead e in absurd (omega arith)

no_postfix_at : (k : TokKind) → 2 ≤ rank k → postfix_start k ≡ None
no_postfix_at (tok.Plain (token.Mark m.RoundOpen)) h = absurd (omega arith)
no_postfix_at (tok.Plain (token.Mark m.SquareOpen)) h = absurd (omega arith)
no_postfix_at (tok.Plain (token.Mark m.Dot)) h = absurd (omega arith)
no_postfix_at (tok.Plain (token.Mark m.Question)) h = absurd (omega arith)
no_postfix_at _ h = refl

pub no_postfix : (ks : List Tok) → 2 ≤ rank_ahead (ahead ks) → first_as postfix_start ks ≡ None
no_postfix [] h = refl
no_postfix (k ∷ ks) h = no_postfix_at k.kind h

no_product_at : (k : TokKind) → 3 ≤ rank k → product_operator k ≡ None
no_product_at (tok.Plain (token.Mark m.Times)) h = absurd (omega arith)
no_product_at (tok.Plain (token.Mark m.Slash)) h = absurd (omega arith)
no_product_at _ h = refl

no_sum_at : (k : TokKind) → 4 ≤ rank k → sum_operator k ≡ None
no_sum_at (tok.Plain (token.Mark m.Plus)) h = absurd (omega arith)
no_sum_at (tok.Plain (token.Mark m.Minus)) h = absurd (omega arith)
no_sum_at _ h = refl

no_and_at : (k : TokKind) → 6 ≤ rank k → chain_operator p.And k ≡ None
no_and_at (tok.Plain (token.Word w.And)) h = absurd (omega arith)
no_and_at _ h = refl

no_or_at : (k : TokKind) → 7 ≤ rank k → chain_operator p.Or k ≡ None
no_or_at (tok.Plain (token.Word w.Or)) h = absurd (omega arith)
no_or_at _ h = refl

no_chain_at : (q : Phrase) (k : TokKind) → needs q ≤ rank k → chain_operator q k ≡ None
no_chain_at p.Or k h = no_or_at k h
no_chain_at p.And k h = no_and_at k h
no_chain_at p.Sum k h = no_sum_at k h
no_chain_at p.Product k h = no_product_at k h
no_chain_at _ k h = refl

pub no_chain : (q : Phrase) (ks : List Tok) → needs q ≤ rank_ahead (ahead ks) → first_as (chain_operator q) ks ≡ None
no_chain q [] h = refl
no_chain q (k ∷ ks) h = no_chain_at q k.kind h

no_comparison_at : (k : TokKind) → 5 ≤ rank k → comparison_at k ≡ None
no_comparison_at (tok.Plain (token.Mark m.Equals)) h = absurd (omega arith)
no_comparison_at (tok.Plain (token.Mark m.Differs)) h = absurd (omega arith)
no_comparison_at (tok.Plain (token.Mark m.Below)) h = absurd (omega arith)
no_comparison_at (tok.Plain (token.Mark m.AtMost)) h = absurd (omega arith)
no_comparison_at (tok.Plain (token.Mark m.Above)) h = absurd (omega arith)
no_comparison_at (tok.Plain (token.Mark m.AtLeast)) h = absurd (omega arith)
no_comparison_at _ h = refl

pub no_comparison : (ks : List Tok) → 5 ≤ rank_ahead (ahead ks) → first_as comparison_at ks ≡ None
no_comparison [] h = refl
no_comparison (k ∷ ks) h = no_comparison_at k.kind h

begins_word : (x : Word) → 9 ≤ rank (tok.Plain (token.Word x)) → begins_expr (tok.Plain (token.Word x)) ≡ false
begins_word w.And h = absurd (omega arith)
begins_word w.Or h = absurd (omega arith)
begins_word w.Else h = absurd (omega arith)
begins_word _ h = absurd (omega arith)

ends_at : (k : TokKind) → 9 ≤ rank k → begins_expr k ≡ false
ends_at (tok.Plain (token.Word x)) h = begins_word x h
ends_at (tok.Plain (token.Mark m.RoundClose)) h = refl
ends_at (tok.Plain (token.Mark m.SquareClose)) h = refl
ends_at (tok.Plain (token.Mark m.Comma)) h = refl
ends_at (tok.Plain token.TextMid) h = refl
ends_at (tok.Plain token.TextClose) h = refl
ends_at tok.Sep h = refl
ends_at tok.Close h = refl
ends_at _ h = absurd (omega arith)

pub no_expr : (ks : List Tok) → 9 ≤ rank_ahead (ahead ks) → first_is begins_expr ks ≡ false
no_expr [] h = refl
no_expr (k ∷ ks) h = ends_at k.kind h

primary_word_rise : (x : Word) (o : PrimaryStart) → primary_word x ≡ Some o → rise (tok.Plain (token.Word x)) ≤ 0
primary_word_rise w.True o h = omega arith
primary_word_rise w.False o h = omega arith
primary_word_rise w.This o h = omega arith
primary_word_rise w.Array o h = omega arith
primary_word_rise w.Map o h = omega arith
primary_word_rise w.Option o h = omega arith
primary_word_rise w.Logic o h = omega arith
primary_word_rise w.Event o h = omega arith
primary_word_rise w.For o h = omega arith
primary_word_rise w.Loop o h = omega arith
primary_word_rise w.Block o h = omega arith
primary_word_rise w.Branch o h = omega arith
primary_word_rise w.Sync o h = omega arith
primary_word_rise w.Race o h = omega arith
primary_word_rise w.Rush o h = omega arith
primary_word_rise w.Case o h = omega arith
primary_word_rise w.Spawn o h = omega arith
primary_word_rise w.Sleep o h = omega arith
primary_word_rise _ o h = absurd (cc)

pub primary_rise : (k : TokKind) (o : PrimaryStart) → primary_start k ≡ Some o → rise k ≤ 0
primary_rise (tok.Plain (token.Word x)) o h = primary_word_rise x o h
primary_rise (tok.Plain (token.Int n)) o h = omega arith
primary_rise (tok.Plain (token.Char n)) o h = omega arith
primary_rise (tok.Plain token.Text) o h = omega arith
primary_rise (tok.Plain token.TextOpen) o h = omega arith
primary_rise (tok.Plain token.Name) o h = omega arith
primary_rise (tok.Plain (token.Mark m.RoundOpen)) o h = omega arith
primary_rise _ o h = absurd (cc)

word_begins : (x : Word) → rise (tok.Plain (token.Word x)) ≤ 3 → begins_expr (tok.Plain (token.Word x)) ≡ true
word_begins w.True h = refl
word_begins w.False h = refl
word_begins w.This h = refl
word_begins w.Array h = refl
word_begins w.Map h = refl
word_begins w.Option h = refl
word_begins w.Logic h = refl
word_begins w.Event h = refl
word_begins w.For h = refl
word_begins w.Loop h = refl
word_begins w.Block h = refl
word_begins w.Branch h = refl
word_begins w.Sync h = refl
word_begins w.Race h = refl
word_begins w.Rush h = refl
word_begins w.Case h = refl
word_begins w.Spawn h = refl
word_begins w.Sleep h = refl
word_begins w.If h = refl
word_begins w.Not h = refl
word_begins _ h = absurd (omega arith)

begins_at : (k : TokKind) → rise k ≤ 3 → begins_expr k ≡ true
begins_at (tok.Plain (token.Word x)) h = word_begins x h
begins_at (tok.Plain (token.Int n)) h = refl
begins_at (tok.Plain (token.Char n)) h = refl
begins_at (tok.Plain token.Text) h = refl
begins_at (tok.Plain token.TextOpen) h = refl
begins_at (tok.Plain token.Name) h = refl
begins_at (tok.Plain (token.Mark m.RoundOpen)) h = refl
begins_at (tok.Plain (token.Mark m.Minus)) h = refl
begins_at _ h = absurd (omega arith)

pub an_expr : (ks : List Tok) → rise_ahead (ahead ks) ≤ 3 → first_is begins_expr ks ≡ true
an_expr [] h = absurd (omega arith)
an_expr (k ∷ ks) h = begins_at k.kind h

-- a tok with a rise above a bound is none with a rise below it
pub not_above : (n : ℕ) (o : Option TokKind) (k : TokKind) → rise_ahead o ≤ n → n < rise k → o ≢ Some k
not_above n o k h l e = let s : rise_ahead o ≡ rise k = ap rise_ahead e in absurd (omega arith)

word_no_stmt : (x : Word) → rise (tok.Plain (token.Word x)) ≤ 3 → stmt_start (tok.Plain (token.Word x)) ≡ None
word_no_stmt w.Var h = absurd (omega arith)
word_no_stmt w.Set h = absurd (omega arith)
word_no_stmt w.Return h = absurd (omega arith)
word_no_stmt w.Break h = absurd (omega arith)
word_no_stmt _ h = refl

-- what an expression begins with is a name or no beginning of another statement
pub a_name_or : (k : TokKind) → rise k ≤ 3 → (k ≡ name) ⊎ (stmt_start k ≡ None)
a_name_or (tok.Plain token.Name) h = inl refl
a_name_or (tok.Plain (token.Word x)) h = inr (word_no_stmt x h)
a_name_or _ h = inr refl

not_that : (k : TokKind) (o : TypeStart) → type_start k ≡ None → type_start k ≡ Some o → ⊥
not_that k o e h = absurd (cc)

-- a type begins with none of the closing brackets
pub type_no_close : (k : TokKind) (o : TypeStart) → type_start k ≡ Some o → (k ≢ mark m.SquareClose) × (k ≢ mark m.RoundClose)
type_no_close k o h = (λ e. not_that k o (rw e refl) h, λ e. not_that k o (rw e refl) h)

rise_word : (x : Word) → rise (tok.Plain (token.Word x)) ≤ 7
rise_word w.True = omega arith
rise_word _ = omega arith

rise_mark : (x : Mark) → rise (tok.Plain (token.Mark x)) ≤ 7
rise_mark m.Dot = omega arith
rise_mark _ = omega arith

pub rise_bound : (k : TokKind) → rise k ≤ 7
rise_bound (tok.Plain (token.Word x)) = rise_word x
rise_bound (tok.Plain (token.Mark x)) = rise_mark x
rise_bound _ = omega arith
