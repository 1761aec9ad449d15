-- The rules of the grammar as a predictive reader uses them: the next tok decides what a rule does.
-- What several alternatives begin with is read once, and the tok behind it decides.
use Rattle.std.specs.Prelude.{ℕ, ℤ, ◌==◌, ◌≡◌, Bool, true, false, if◌then◌else◌, List, [], ◌∷◌}
use Rattle.std.specs.Prelude.{Option, Some, None}
use Rattle.verse_lex.specs.declared.tokens.Word.TheVariants as w
use Rattle.verse_lex.specs.declared.tokens.Mark.TheVariants as m
use Rattle.verse_lex.specs.declared.tokens.TokenKind.TheVariants as token
use Rattle.verse_layout.specs.declared.toks.TokKind.{TokKind}
use Rattle.verse_layout.specs.declared.toks.TokKind.TheVariants as tok
use Rattle.verse_layout.specs.declared.toks.Tok.{Tok}
use Rattle.verse_tree.specs.declared.exprs.Assign.{Assign}
use Rattle.verse_tree.specs.declared.exprs.Comparison.{Comparison}
use Rattle.verse_tree.specs.declared.exprs.Operator.{Operator}
use Rattle.verse_grammar.specs.Toks.{word, mark, name}
use Rattle.verse_grammar.specs.Codes.{sees}
use Rattle.verse_grammar.specs.Starts.{type_start, primary_start, postfix_start, stmt_start}
use Rattle.verse_grammar.specs.Starts.{pattern_start, item_start, comparison_at}
use Rattle.verse_grammar.specs.Starts.{assign_at, duration_at, int_at, begins_expr}
use Rattle.verse_grammar.specs.Exprs.{chain_operator, operand}
use Rattle.verse_grammar.specs.declared.phrases.Phrase.{Phrase}
use Rattle.verse_grammar.specs.declared.phrases.Phrase.TheVariants as p
use Rattle.verse_grammar.specs.declared.starts.Duration.{Duration}
use Rattle.verse_grammar.specs.declared.starts.TypeStart.{TypeStart}
use Rattle.verse_grammar.specs.declared.starts.TypeStart.TheVariants as type
use Rattle.verse_grammar.specs.declared.starts.PrimaryStart.{PrimaryStart}
use Rattle.verse_grammar.specs.declared.starts.PrimaryStart.TheVariants as primary
use Rattle.verse_grammar.specs.declared.starts.PostfixStart.{PostfixStart}
use Rattle.verse_grammar.specs.declared.starts.PostfixStart.TheVariants as postfix
use Rattle.verse_grammar.specs.declared.starts.StmtStart.{StmtStart}
use Rattle.verse_grammar.specs.declared.starts.StmtStart.TheVariants as stmt
use Rattle.verse_grammar.specs.declared.starts.PatternStart.{PatternStart}
use Rattle.verse_grammar.specs.declared.starts.PatternStart.TheVariants as pattern
use Rattle.verse_grammar.specs.declared.starts.ItemStart.{ItemStart}
use Rattle.verse_grammar.specs.declared.starts.ItemStart.TheVariants as item

pub data Rule : Type 0 where
  a_type bracket_rest tuple_rest types types_tail bracket_type bracket_type_rest stmt_name : Rule
  typed_value set_rest assign return_value an_if taken otherwise comparison_tail : Rule
  postfix_tail hole_rest name_rest givens_until given givens_tail round_rest pairs_until : Rule
  pair pairs_tail clauses case_rest duration generator_rest entries_rest clause_name : Rule
  clause_value range_rest an_int program items_tail an_item using_rest dotted : Rule
  dots_tail path_tail specs item_rest enum_or_class enum_rest values_until values_tail : Rule
  class_rest parent members_until members_tail member member_rest field_rest default : Rule
  fun_rest params_until param params_tail : Rule
  phrase : Phrase → Rule
  chain_tail : Phrase → Rule
  row_tail : Phrase → TokKind → Rule
  closed : Phrase → TokKind → TokKind → Rule
  until : Phrase → TokKind → TokKind → Rule

-- a tok of this kind, or what a rule stands for
pub data Symbol : Type 0 where
  a : TokKind → Symbol
  rule : Rule → Symbol

-- what a rule does at the next tok
pub data Move : Type 0 where
  -- takes it, and these symbols follow
  takes : List Symbol → Move
  -- leaves it to these symbols
  becomes : List Symbol → Move
  refuses : Move

-- what a function makes of the first tok's kind
abbrev pub first_as : {A : Type 0} → (TokKind → Option A) → List Tok → Option A
first_as f [] = None
first_as f (k ∷ ks) = f k.kind

abbrev pub first_is : (TokKind → Bool) → List Tok → Bool
first_is f [] = false
first_is f (k ∷ ks) = f k.kind

abbrev pub by_a_type : Option TypeStart → Move
by_a_type None = refuses
by_a_type (Some type.Int) = takes []
by_a_type (Some type.Logic) = takes []
by_a_type (Some type.Char) = takes []
by_a_type (Some type.String) = takes []
by_a_type (Some type.Void) = takes []
by_a_type (Some type.Name) = takes []
by_a_type (Some type.Option) = takes (rule a_type ∷ [])
by_a_type (Some type.Bracket) = takes (rule bracket_rest ∷ [])
by_a_type (Some type.Tuple) = takes (rule tuple_rest ∷ [])
by_a_type (Some type.Task) = takes (a (mark m.RoundOpen) ∷ rule a_type ∷ a (mark m.RoundClose) ∷ [])
by_a_type (Some type.Event) = takes (rule bracket_type ∷ [])

abbrev pub by_stmt : Option StmtStart → Move
by_stmt None = becomes (rule (phrase p.Expr) ∷ [])
by_stmt (Some stmt.Name) = takes (rule stmt_name ∷ [])
by_stmt (Some stmt.Var) = takes (a name ∷ rule typed_value ∷ [])
by_stmt (Some stmt.Set) = takes (rule set_rest ∷ [])
by_stmt (Some stmt.Return) = takes (rule return_value ∷ [])
by_stmt (Some stmt.Break) = takes []

abbrev pub by_primary : Option PrimaryStart → Move
by_primary None = refuses
by_primary (Some (primary.Int n)) = takes []
by_primary (Some (primary.Char n)) = takes []
by_primary (Some primary.Text) = takes []
by_primary (Some primary.True) = takes []
by_primary (Some primary.False) = takes []
by_primary (Some primary.This) = takes []
by_primary (Some primary.TextOpen) = takes (rule (phrase p.Expr) ∷ rule hole_rest ∷ [])
by_primary (Some primary.Name) = takes (rule name_rest ∷ [])
by_primary (Some primary.Round) = takes (rule (phrase p.Expr) ∷ rule round_rest ∷ [])
by_primary (Some primary.Array) = takes (a tok.Open ∷ rule (until p.Expr tok.Sep tok.Close) ∷ [])
by_primary (Some primary.Map) = takes (a tok.Open ∷ rule pairs_until ∷ [])
by_primary (Some primary.Option) = takes (a tok.Open ∷ rule (closed p.Stmt tok.Sep tok.Close) ∷ [])
by_primary (Some primary.Logic) = takes (a tok.Open ∷ rule (closed p.Stmt tok.Sep tok.Close) ∷ [])
by_primary (Some primary.Event) = takes (rule bracket_type ∷ a tok.Open ∷ a tok.Close ∷ [])
by_primary (Some primary.For) =
    takes (a (mark m.RoundOpen) ∷ rule clauses ∷ rule (phrase p.Block) ∷ [])
by_primary (Some primary.Loop) = takes (rule (phrase p.Block) ∷ [])
by_primary (Some primary.Block) = takes (rule (phrase p.Block) ∷ [])
by_primary (Some primary.Branch) = takes (rule (phrase p.Block) ∷ [])
by_primary (Some primary.Sync) = takes (a tok.Open ∷ rule (until p.Stmt tok.Sep tok.Close) ∷ [])
by_primary (Some primary.Race) = takes (a tok.Open ∷ rule (until p.Stmt tok.Sep tok.Close) ∷ [])
by_primary (Some primary.Rush) = takes (a tok.Open ∷ rule (until p.Stmt tok.Sep tok.Close) ∷ [])
by_primary (Some primary.Case) = takes (rule case_rest ∷ [])
by_primary (Some primary.Spawn) = takes (a tok.Open ∷ rule (phrase p.Expr) ∷ a tok.Close ∷ [])
by_primary (Some primary.Sleep) =
    takes (a (mark m.RoundOpen) ∷ rule duration ∷ a (mark m.RoundClose) ∷ [])

abbrev pub by_clause : Option StmtStart → Move
by_clause None = becomes (rule (phrase p.Expr) ∷ [])
by_clause (Some stmt.Name) = takes (rule clause_name ∷ [])
by_clause (Some stmt.Var) = refuses
by_clause (Some stmt.Set) = takes (rule set_rest ∷ [])
by_clause (Some stmt.Return) = takes (rule return_value ∷ [])
by_clause (Some stmt.Break) = takes []

abbrev pub by_pattern : Option PatternStart → Move
by_pattern None = refuses
by_pattern (Some (pattern.Int n)) = takes []
by_pattern (Some (pattern.Char n)) = takes []
by_pattern (Some pattern.Text) = takes []
by_pattern (Some pattern.True) = takes []
by_pattern (Some pattern.False) = takes []
by_pattern (Some pattern.Wild) = takes []
by_pattern (Some pattern.Minus) = takes (rule an_int ∷ [])
by_pattern (Some pattern.Name) = takes (a (mark m.Dot) ∷ a name ∷ [])

abbrev pub by_assign : Option Assign → Move
by_assign None = refuses
by_assign (Some o) = takes []

abbrev pub by_chain_tail : Phrase → Option Operator → Move
by_chain_tail q None = becomes []
by_chain_tail q (Some o) = takes (rule (phrase (operand q)) ∷ rule (chain_tail q) ∷ [])

abbrev pub by_comparison_tail : Option Comparison → Move
by_comparison_tail None = becomes []
by_comparison_tail (Some o) = takes (rule (phrase p.Sum) ∷ [])

abbrev pub by_postfix_tail : Option PostfixStart → Move
by_postfix_tail None = becomes []
by_postfix_tail (Some postfix.Round) =
    takes (rule (until p.Expr (mark m.Comma) (mark m.RoundClose)) ∷ rule postfix_tail ∷ [])
by_postfix_tail (Some postfix.Square) =
    takes (rule (until p.Expr (mark m.Comma) (mark m.SquareClose)) ∷ rule postfix_tail ∷ [])
by_postfix_tail (Some postfix.Dot) = takes (a name ∷ rule postfix_tail ∷ [])
by_postfix_tail (Some postfix.Question) = takes (rule postfix_tail ∷ [])

abbrev pub by_duration : Option Duration → Move
by_duration None = refuses
by_duration (Some d) = takes []

abbrev pub by_an_int : Option ℤ → Move
by_an_int None = refuses
by_an_int (Some n) = takes []

abbrev pub by_an_item : Option ItemStart → Move
by_an_item None = refuses
by_an_item (Some item.Using) = takes (rule using_rest ∷ [])
by_an_item (Some item.Name) = takes (rule specs ∷ rule item_rest ∷ [])

-- what a rule does before these toks
abbrev pub predict : Rule → List Tok → Move
predict a_type ks = by_a_type (first_as type_start ks)
predict bracket_rest ks = if sees (mark m.SquareClose) ks then takes (rule a_type ∷ []) else
    (becomes (rule a_type ∷ a (mark m.SquareClose) ∷ rule a_type ∷ []))
predict tuple_rest ks = becomes
    (a (mark m.RoundOpen) ∷ rule a_type ∷ a (mark m.Comma) ∷ rule types ∷ a (mark m.RoundClose) ∷
    [])
predict types ks = becomes (rule a_type ∷ rule types_tail ∷ [])
predict types_tail ks = if sees (mark m.Comma) ks then takes (rule a_type ∷ rule types_tail ∷ [])
    else (becomes [])
predict bracket_type ks = becomes (a (mark m.RoundOpen) ∷ rule bracket_type_rest ∷ [])
predict bracket_type_rest ks =
    if sees (mark m.RoundClose) ks then takes []
    else (becomes (rule a_type ∷ a (mark m.RoundClose) ∷ []))
predict (phrase p.Block) ks = becomes (a tok.Open ∷ rule (until p.Part tok.Sep tok.Close) ∷ [])
predict (phrase p.Part) ks = if sees (word w.Defer) ks then takes (rule (phrase p.Block) ∷ [])
    else (becomes (rule (phrase p.Stmt) ∷ []))
predict (phrase p.Stmt) ks = by_stmt (first_as stmt_start ks)
predict (phrase p.Body) ks = if sees tok.Open ks then becomes (rule (phrase p.Block) ∷ [])
    else (becomes (rule (phrase p.Expr) ∷ []))
predict (phrase p.Expr) ks = if sees (word w.If) ks then becomes (rule an_if ∷ [])
    else (becomes (rule (phrase p.Or) ∷ []))
predict (phrase p.Or) ks = becomes (rule (phrase p.And) ∷ rule (chain_tail p.Or) ∷ [])
predict (phrase p.And) ks = becomes (rule (phrase p.Not) ∷ rule (chain_tail p.And) ∷ [])
predict (phrase p.Not) ks = if sees (word w.Not) ks then takes (rule (phrase p.Not) ∷ [])
    else (becomes (rule (phrase p.Comparison) ∷ []))
predict (phrase p.Comparison) ks = becomes (rule (phrase p.Sum) ∷ rule comparison_tail ∷ [])
predict (phrase p.Sum) ks = becomes (rule (phrase p.Product) ∷ rule (chain_tail p.Sum) ∷ [])
predict (phrase p.Product) ks = becomes (rule (phrase p.Minus) ∷ rule (chain_tail p.Product) ∷ [])
predict (phrase p.Minus) ks = if sees (mark m.Minus) ks then takes (rule (phrase p.Minus) ∷ []) else
    (becomes (rule (phrase p.Postfix) ∷ []))
predict (phrase p.Postfix) ks = becomes (rule (phrase p.Primary) ∷ rule postfix_tail ∷ [])
predict (phrase p.Primary) ks = by_primary (first_as primary_start ks)
predict (phrase p.Generator) ks = becomes (a name ∷ rule generator_rest ∷ [])
predict (phrase p.Clause) ks = by_clause (first_as stmt_start ks)
predict (phrase p.Arm) ks = becomes
    (rule (phrase p.Pattern) ∷ a (mark m.FatArrow) ∷ rule (phrase p.Body) ∷ [])
predict (phrase p.Pattern) ks = by_pattern (first_as pattern_start ks)
predict stmt_name ks = if sees (mark m.Define) ks then takes (rule (phrase p.Expr) ∷ []) else
    (if sees (mark m.Colon) ks then becomes (rule typed_value ∷ []) else
    (becomes (rule name_rest ∷ rule postfix_tail ∷ rule (chain_tail p.Product) ∷
    rule (chain_tail p.Sum) ∷ rule comparison_tail ∷ rule (chain_tail p.And) ∷
    rule (chain_tail p.Or) ∷ [])))
predict typed_value ks = becomes
    (a (mark m.Colon) ∷ rule a_type ∷ a (mark m.Equals) ∷ rule (phrase p.Expr) ∷ [])
predict set_rest ks = becomes (rule (phrase p.Postfix) ∷ rule assign ∷ rule (phrase p.Expr) ∷ [])
predict assign ks = by_assign (first_as assign_at ks)
predict return_value ks = if first_is begins_expr ks then becomes (rule (phrase p.Expr) ∷ [])
    else becomes []
predict an_if ks = becomes (a (word w.If) ∷ a (mark m.RoundOpen) ∷
    rule (closed p.Stmt (mark m.Comma) (mark m.RoundClose)) ∷ rule taken ∷ rule otherwise ∷ [])
predict taken ks = if sees (word w.Then) ks then takes (rule (phrase p.Or) ∷ [])
    else (becomes (rule (phrase p.Block) ∷ []))
predict otherwise ks = if sees (word w.Else) ks then takes (rule (phrase p.Body) ∷ [])
    else (becomes [])
predict (chain_tail q) ks = by_chain_tail q (first_as (chain_operator q) ks)
predict comparison_tail ks = by_comparison_tail (first_as comparison_at ks)
predict postfix_tail ks = by_postfix_tail (first_as postfix_start ks)
predict (row_tail q s) ks = if sees s ks then takes (rule (phrase q) ∷ rule (row_tail q s) ∷ [])
    else (becomes [])
predict (closed q s c) ks = becomes (rule (phrase q) ∷ rule (row_tail q s) ∷ a c ∷ [])
predict (until q s c) ks = if sees c ks then takes [] else (becomes (rule (closed q s c) ∷ []))
predict hole_rest ks = if sees (tok.Plain token.TextMid) ks then takes
    (rule (phrase p.Expr) ∷ rule hole_rest ∷ []) else (becomes (a (tok.Plain token.TextClose) ∷ []))
predict name_rest ks = if sees tok.Open ks then takes (rule givens_until ∷ []) else (becomes [])
predict givens_until ks = if sees tok.Close ks then takes []
    else (becomes (rule given ∷ rule givens_tail ∷ a tok.Close ∷ []))
predict given ks = becomes (a name ∷ a (mark m.Define) ∷ rule (phrase p.Expr) ∷ [])
predict givens_tail ks = if sees tok.Sep ks then takes (rule given ∷ rule givens_tail ∷ [])
    else (becomes [])
predict round_rest ks = if sees (mark m.Comma) ks then takes
    (rule (closed p.Expr (mark m.Comma) (mark m.RoundClose)) ∷ [])
    else (becomes (a (mark m.RoundClose) ∷ []))
predict pairs_until ks = if sees tok.Close ks then takes []
    else (becomes (rule pair ∷ rule pairs_tail ∷ a tok.Close ∷ []))
predict pair ks = becomes (rule (phrase p.Expr) ∷ a (mark m.FatArrow) ∷ rule (phrase p.Expr) ∷ [])
predict pairs_tail ks = if sees tok.Sep ks then takes (rule pair ∷ rule pairs_tail ∷ [])
    else (becomes [])
predict clauses ks = becomes (rule (phrase p.Generator) ∷ rule (row_tail p.Clause (mark m.Comma)) ∷
    a (mark m.RoundClose) ∷ [])
predict case_rest ks = becomes
    (a (mark m.RoundOpen) ∷ rule (phrase p.Expr) ∷ a (mark m.RoundClose) ∷ a tok.Open ∷
    rule (closed p.Arm tok.Sep tok.Close) ∷ [])
predict duration ks = by_duration (first_as duration_at ks)
predict generator_rest ks = if sees (mark m.Colon) ks then takes (rule (phrase p.Sum) ∷ []) else
    (if sees (mark m.Arrow) ks then takes (rule entries_rest ∷ []) else
    (if sees (mark m.Define) ks then takes
    (rule (phrase p.Sum) ∷ a (mark m.DotDot) ∷ rule (phrase p.Sum) ∷ []) else refuses))
predict entries_rest ks = becomes (a name ∷ a (mark m.Colon) ∷ rule (phrase p.Sum) ∷ [])
predict clause_name ks = if sees (mark m.Colon) ks then takes (rule (phrase p.Sum) ∷ []) else
    (if sees (mark m.Arrow) ks then takes (rule entries_rest ∷ []) else
    (if sees (mark m.Define) ks then takes (rule clause_value ∷ []) else
    (becomes (rule name_rest ∷ rule postfix_tail ∷ rule (chain_tail p.Product) ∷
    rule (chain_tail p.Sum) ∷ rule comparison_tail ∷ rule (chain_tail p.And) ∷
    rule (chain_tail p.Or) ∷ []))))
predict clause_value ks = if sees (word w.If) ks then becomes (rule an_if ∷ []) else
    (if sees (word w.Not) ks then becomes (rule (phrase p.Or) ∷ [])
    else (becomes (rule (phrase p.Sum) ∷ rule range_rest ∷ [])))
predict range_rest ks = if sees (mark m.DotDot) ks then takes (rule (phrase p.Sum) ∷ []) else
    (becomes (rule comparison_tail ∷ rule (chain_tail p.And) ∷ rule (chain_tail p.Or) ∷ []))
predict an_int ks = by_an_int (first_as int_at ks)
predict program [] = becomes []
predict program (k ∷ ks) = becomes (rule an_item ∷ rule items_tail ∷ [])
predict items_tail ks = if sees tok.Sep ks then takes (rule an_item ∷ rule items_tail ∷ [])
    else (becomes [])
predict an_item ks = by_an_item (first_as item_start ks)
predict using_rest ks = becomes
    (a tok.Open ∷ a (mark m.Slash) ∷ rule dotted ∷ rule path_tail ∷ a tok.Close ∷ [])
predict dotted ks = becomes (a name ∷ rule dots_tail ∷ [])
predict dots_tail ks = if sees (mark m.Dot) ks then takes (a name ∷ rule dots_tail ∷ [])
    else (becomes [])
predict path_tail ks = if sees (mark m.Slash) ks then takes (rule dotted ∷ rule path_tail ∷ [])
    else (becomes [])
predict specs ks = if sees (mark m.Below) ks then takes
    (a name ∷ a (mark m.Above) ∷ rule specs ∷ []) else (becomes [])
predict item_rest ks = if sees (mark m.Define) ks then takes (rule enum_or_class ∷ [])
    else (becomes (rule fun_rest ∷ []))
predict enum_or_class ks = if sees (word w.Enum) ks then takes (rule enum_rest ∷ []) else
    (if sees (word w.Class) ks then takes (rule class_rest ∷ []) else refuses)
predict enum_rest ks = becomes (a tok.Open ∷ rule values_until ∷ [])
predict values_until ks = if sees tok.Close ks then takes []
    else (becomes (a name ∷ rule values_tail ∷ a tok.Close ∷ []))
predict values_tail ks = if sees tok.Sep ks then takes (a name ∷ rule values_tail ∷ [])
    else (becomes [])
predict class_rest ks = becomes (rule specs ∷ rule parent ∷ a tok.Open ∷ rule members_until ∷ [])
predict parent ks = if sees (mark m.RoundOpen) ks then takes (a name ∷ a (mark m.RoundClose) ∷ [])
    else (becomes [])
predict members_until ks = if sees tok.Close ks then takes []
    else (becomes (rule member ∷ rule members_tail ∷ a tok.Close ∷ []))
predict members_tail ks = if sees tok.Sep ks then takes (rule member ∷ rule members_tail ∷ [])
    else (becomes [])
predict member ks = if sees (word w.Var) ks then takes
    (rule specs ∷ a name ∷ rule specs ∷ rule field_rest ∷ [])
    else (becomes (a name ∷ rule specs ∷ rule member_rest ∷ []))
predict member_rest ks = if sees (mark m.RoundOpen) ks then becomes (rule fun_rest ∷ [])
    else (becomes (rule field_rest ∷ []))
predict field_rest ks = becomes (a (mark m.Colon) ∷ rule a_type ∷ rule default ∷ [])
predict default ks = if sees (mark m.Equals) ks then takes (rule (phrase p.Expr) ∷ [])
    else (becomes [])
predict fun_rest ks = becomes (a (mark m.RoundOpen) ∷ rule params_until ∷ rule specs ∷
    a (mark m.Colon) ∷ rule a_type ∷ a (mark m.Equals) ∷ rule (phrase p.Body) ∷ [])
predict params_until ks = if sees (mark m.RoundClose) ks then takes [] else
    (becomes (rule param ∷ rule params_tail ∷ a (mark m.RoundClose) ∷ []))
predict param ks = becomes (a name ∷ a (mark m.Colon) ∷ rule a_type ∷ [])
predict params_tail ks = if sees (mark m.Comma) ks then takes (rule param ∷ rule params_tail ∷ [])
    else (becomes [])
