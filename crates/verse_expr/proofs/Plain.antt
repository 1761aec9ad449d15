-- No rule reads a whole program as its part.
use Rattle.std.proofs.Common.{◌≡◌, ◌≢◌, ℤ, Bool, true, false, if◌then◌else◌, List, [], ◌∷◌, Option, Some, None, refl}
use Rattle.verse_grammar.specs.Codes.{sees}
use Rattle.verse_grammar.specs.Toks.{word, mark}
use Rattle.verse_grammar.specs.Exprs.{chain_operator}
use Rattle.verse_grammar.specs.Starts.{type_start, primary_start, postfix_start, stmt_start, pattern_start, item_start, comparison_at}
use Rattle.verse_grammar.specs.Starts.{assign_at, duration_at, int_at, begins_expr}
use Rattle.verse_lex.specs.declared.tokens.Word.TheVariants as w
use Rattle.verse_lex.specs.declared.tokens.Mark.TheVariants as m
use Rattle.verse_lex.specs.declared.tokens.TokenKind.TheVariants as token
use Rattle.verse_layout.specs.declared.toks.TokKind.TheVariants as tok
use Rattle.verse_layout.specs.declared.toks.Tok.{Tok}
use Rattle.verse_tree.specs.declared.exprs.Assign.{Assign}
use Rattle.verse_tree.specs.declared.exprs.Comparison.{Comparison}
use Rattle.verse_tree.specs.declared.exprs.Operator.{Operator}
use Rattle.verse_grammar.specs.declared.phrases.Phrase.{Phrase}
use Rattle.verse_grammar.specs.declared.phrases.Phrase.TheVariants as p
use Rattle.verse_grammar.specs.declared.starts.Duration.{Duration}
use Rattle.verse_grammar.specs.declared.starts.TypeStart.{TypeStart}
use Rattle.verse_grammar.specs.declared.starts.TypeStart.TheVariants as type
use Rattle.verse_grammar.specs.declared.starts.PrimaryStart.{PrimaryStart}
use Rattle.verse_grammar.specs.declared.starts.PrimaryStart.TheVariants as primary
use Rattle.verse_grammar.specs.declared.starts.PostfixStart.{PostfixStart}
use Rattle.verse_grammar.specs.declared.starts.PostfixStart.TheVariants as postfix
use Rattle.verse_grammar.specs.declared.starts.StmtStart.{StmtStart}
use Rattle.verse_grammar.specs.declared.starts.StmtStart.TheVariants as stmt
use Rattle.verse_grammar.specs.declared.starts.PatternStart.{PatternStart}
use Rattle.verse_grammar.specs.declared.starts.PatternStart.TheVariants as pattern
use Rattle.verse_grammar.specs.declared.starts.ItemStart.{ItemStart}
use Rattle.verse_grammar.specs.declared.starts.ItemStart.TheVariants as item
use Rattle.verse_grammar.specs.Symbols.{Rule, Symbol, a, rule, Move, takes, becomes, refuses, first_as, first_is, predict, by_a_type}
use Rattle.verse_grammar.specs.Symbols.{by_stmt, by_primary, by_clause, by_pattern, by_assign, by_comparison_tail, by_postfix_tail}
use Rattle.verse_grammar.specs.Symbols.{by_duration, by_an_int, by_an_item, by_chain_tail, a_type, bracket_rest, tuple_rest, types}
use Rattle.verse_grammar.specs.Symbols.{types_tail, bracket_type, bracket_type_rest, stmt_name, typed_value, set_rest, assign, return_value}
use Rattle.verse_grammar.specs.Symbols.{an_if, taken, otherwise, comparison_tail, postfix_tail, hole_rest, name_rest, givens_until, given}
use Rattle.verse_grammar.specs.Symbols.{givens_tail, round_rest, pairs_until, pair, pairs_tail, clauses, case_rest, duration}
use Rattle.verse_grammar.specs.Symbols.{generator_rest, entries_rest, clause_name, clause_value, range_rest, an_int, program, items_tail}
use Rattle.verse_grammar.specs.Symbols.{an_item, using_rest, dotted, dots_tail, path_tail, specs, item_rest, enum_or_class, enum_rest}
use Rattle.verse_grammar.specs.Symbols.{values_until, values_tail, class_rest, parent, members_until, members_tail, member, member_rest}
use Rattle.verse_grammar.specs.Symbols.{field_rest, default, fun_rest, params_until, param, params_tail, phrase, chain_tail, row_tail}
use Rattle.verse_grammar.specs.Symbols.{closed, until}

abbrev is_program : Rule → Bool
is_program program = true
is_program _ = false

-- no whole program is among them
abbrev pub plain : List Symbol → Bool
plain [] = true
plain (a kind ∷ Xs) = plain Xs
plain (rule r ∷ Xs) = if is_program r then false else (plain Xs)

abbrev plain_move : Move → Bool
plain_move (takes Xs) = plain Xs
plain_move (becomes Xs) = plain Xs
plain_move refuses = true

plain_if : (M N : Move) (x : Bool) → plain_move M ≡ true → plain_move N ≡ true → plain_move (if x then M else N) ≡ true
plain_if M N true g h = g
plain_if M N false g h = h

plain_a_type : (o : Option TypeStart) → plain_move (by_a_type o) ≡ true
plain_a_type None = refl
plain_a_type (Some type.Int) = refl
plain_a_type (Some type.Logic) = refl
plain_a_type (Some type.Char) = refl
plain_a_type (Some type.String) = refl
plain_a_type (Some type.Void) = refl
plain_a_type (Some type.Name) = refl
plain_a_type (Some type.Option) = refl
plain_a_type (Some type.Bracket) = refl
plain_a_type (Some type.Tuple) = refl
plain_a_type (Some type.Task) = refl
plain_a_type (Some type.Event) = refl

plain_stmt : (o : Option StmtStart) → plain_move (by_stmt o) ≡ true
plain_stmt None = refl
plain_stmt (Some stmt.Name) = refl
plain_stmt (Some stmt.Var) = refl
plain_stmt (Some stmt.Set) = refl
plain_stmt (Some stmt.Return) = refl
plain_stmt (Some stmt.Break) = refl

plain_primary : (o : Option PrimaryStart) → plain_move (by_primary o) ≡ true
plain_primary None = refl
plain_primary (Some (primary.Int n)) = refl
plain_primary (Some (primary.Char n)) = refl
plain_primary (Some primary.Text) = refl
plain_primary (Some primary.True) = refl
plain_primary (Some primary.False) = refl
plain_primary (Some primary.This) = refl
plain_primary (Some primary.TextOpen) = refl
plain_primary (Some primary.Name) = refl
plain_primary (Some primary.Round) = refl
plain_primary (Some primary.Array) = refl
plain_primary (Some primary.Map) = refl
plain_primary (Some primary.Option) = refl
plain_primary (Some primary.Logic) = refl
plain_primary (Some primary.Event) = refl
plain_primary (Some primary.For) = refl
plain_primary (Some primary.Loop) = refl
plain_primary (Some primary.Block) = refl
plain_primary (Some primary.Branch) = refl
plain_primary (Some primary.Sync) = refl
plain_primary (Some primary.Race) = refl
plain_primary (Some primary.Rush) = refl
plain_primary (Some primary.Case) = refl
plain_primary (Some primary.Spawn) = refl
plain_primary (Some primary.Sleep) = refl

plain_clause : (o : Option StmtStart) → plain_move (by_clause o) ≡ true
plain_clause None = refl
plain_clause (Some stmt.Name) = refl
plain_clause (Some stmt.Var) = refl
plain_clause (Some stmt.Set) = refl
plain_clause (Some stmt.Return) = refl
plain_clause (Some stmt.Break) = refl

plain_pattern : (o : Option PatternStart) → plain_move (by_pattern o) ≡ true
plain_pattern None = refl
plain_pattern (Some (pattern.Int n)) = refl
plain_pattern (Some (pattern.Char n)) = refl
plain_pattern (Some pattern.Text) = refl
plain_pattern (Some pattern.True) = refl
plain_pattern (Some pattern.False) = refl
plain_pattern (Some pattern.Wild) = refl
plain_pattern (Some pattern.Minus) = refl
plain_pattern (Some pattern.Name) = refl

plain_assign : (o : Option Assign) → plain_move (by_assign o) ≡ true
plain_assign None = refl
plain_assign (Some o) = refl

plain_comparison_tail : (o : Option Comparison) → plain_move (by_comparison_tail o) ≡ true
plain_comparison_tail None = refl
plain_comparison_tail (Some o) = refl

plain_postfix_tail : (o : Option PostfixStart) → plain_move (by_postfix_tail o) ≡ true
plain_postfix_tail None = refl
plain_postfix_tail (Some postfix.Round) = refl
plain_postfix_tail (Some postfix.Square) = refl
plain_postfix_tail (Some postfix.Dot) = refl
plain_postfix_tail (Some postfix.Question) = refl

plain_duration : (o : Option Duration) → plain_move (by_duration o) ≡ true
plain_duration None = refl
plain_duration (Some d) = refl

plain_an_int : (o : Option ℤ) → plain_move (by_an_int o) ≡ true
plain_an_int None = refl
plain_an_int (Some n) = refl

plain_an_item : (o : Option ItemStart) → plain_move (by_an_item o) ≡ true
plain_an_item None = refl
plain_an_item (Some item.Using) = refl
plain_an_item (Some item.Name) = refl

plain_chain_tail : (q : Phrase) (o : Option Operator) → plain_move (by_chain_tail q o) ≡ true
plain_chain_tail q None = refl
plain_chain_tail q (Some o) = refl

plain_predict : (r : Rule) (ks : List Tok) → plain_move (predict r ks) ≡ true
plain_predict a_type ks = plain_a_type (first_as type_start ks)
plain_predict bracket_rest ks = plain_if _ _ (sees (mark m.SquareClose) ks) refl refl
plain_predict tuple_rest ks = refl
plain_predict types ks = refl
plain_predict types_tail ks = plain_if _ _ (sees (mark m.Comma) ks) refl refl
plain_predict bracket_type ks = refl
plain_predict bracket_type_rest ks = plain_if _ _ (sees (mark m.RoundClose) ks) refl refl
plain_predict (phrase p.Block) ks = refl
plain_predict (phrase p.Part) ks = plain_if _ _ (sees (word w.Defer) ks) refl refl
plain_predict (phrase p.Stmt) ks = plain_stmt (first_as stmt_start ks)
plain_predict (phrase p.Body) ks = plain_if _ _ (sees tok.Open ks) refl refl
plain_predict (phrase p.Expr) ks = plain_if _ _ (sees (word w.If) ks) refl refl
plain_predict (phrase p.Or) ks = refl
plain_predict (phrase p.And) ks = refl
plain_predict (phrase p.Not) ks = plain_if _ _ (sees (word w.Not) ks) refl refl
plain_predict (phrase p.Comparison) ks = refl
plain_predict (phrase p.Sum) ks = refl
plain_predict (phrase p.Product) ks = refl
plain_predict (phrase p.Minus) ks = plain_if _ _ (sees (mark m.Minus) ks) refl refl
plain_predict (phrase p.Postfix) ks = refl
plain_predict (phrase p.Primary) ks = plain_primary (first_as primary_start ks)
plain_predict (phrase p.Generator) ks = refl
plain_predict (phrase p.Clause) ks = plain_clause (first_as stmt_start ks)
plain_predict (phrase p.Arm) ks = refl
plain_predict (phrase p.Pattern) ks = plain_pattern (first_as pattern_start ks)
plain_predict stmt_name ks = plain_if _ _ (sees (mark m.Define) ks) refl (plain_if _ _ (sees (mark m.Colon) ks) refl refl)
plain_predict typed_value ks = refl
plain_predict set_rest ks = refl
plain_predict assign ks = plain_assign (first_as assign_at ks)
plain_predict return_value ks = plain_if _ _ (first_is begins_expr ks) refl refl
plain_predict an_if ks = refl
plain_predict taken ks = plain_if _ _ (sees (word w.Then) ks) refl refl
plain_predict otherwise ks = plain_if _ _ (sees (word w.Else) ks) refl refl
plain_predict (chain_tail q) ks = plain_chain_tail q (first_as (chain_operator q) ks)
plain_predict comparison_tail ks = plain_comparison_tail (first_as comparison_at ks)
plain_predict postfix_tail ks = plain_postfix_tail (first_as postfix_start ks)
plain_predict (row_tail q s) ks = plain_if _ _ (sees s ks) refl refl
plain_predict (closed q s c) ks = refl
plain_predict (until q s c) ks = plain_if _ _ (sees c ks) refl refl
plain_predict hole_rest ks = plain_if _ _ (sees (tok.Plain token.TextMid) ks) refl refl
plain_predict name_rest ks = plain_if _ _ (sees tok.Open ks) refl refl
plain_predict givens_until ks = plain_if _ _ (sees tok.Close ks) refl refl
plain_predict given ks = refl
plain_predict givens_tail ks = plain_if _ _ (sees tok.Sep ks) refl refl
plain_predict round_rest ks = plain_if _ _ (sees (mark m.Comma) ks) refl refl
plain_predict pairs_until ks = plain_if _ _ (sees tok.Close ks) refl refl
plain_predict pair ks = refl
plain_predict pairs_tail ks = plain_if _ _ (sees tok.Sep ks) refl refl
plain_predict clauses ks = refl
plain_predict case_rest ks = refl
plain_predict duration ks = plain_duration (first_as duration_at ks)
plain_predict generator_rest ks = plain_if _ _ (sees (mark m.Colon) ks) refl
    (plain_if _ _ (sees (mark m.Arrow) ks) refl (plain_if _ _ (sees (mark m.Define) ks) refl refl))
plain_predict entries_rest ks = refl
plain_predict clause_name ks = plain_if _ _ (sees (mark m.Colon) ks) refl
    (plain_if _ _ (sees (mark m.Arrow) ks) refl (plain_if _ _ (sees (mark m.Define) ks) refl refl))
plain_predict clause_value ks = plain_if _ _ (sees (word w.If) ks) refl (plain_if _ _ (sees (word w.Not) ks) refl refl)
plain_predict range_rest ks = plain_if _ _ (sees (mark m.DotDot) ks) refl refl
plain_predict an_int ks = plain_an_int (first_as int_at ks)
plain_predict items_tail ks = plain_if _ _ (sees tok.Sep ks) refl refl
plain_predict an_item ks = plain_an_item (first_as item_start ks)
plain_predict using_rest ks = refl
plain_predict dotted ks = refl
plain_predict dots_tail ks = plain_if _ _ (sees (mark m.Dot) ks) refl refl
plain_predict path_tail ks = plain_if _ _ (sees (mark m.Slash) ks) refl refl
plain_predict specs ks = plain_if _ _ (sees (mark m.Below) ks) refl refl
plain_predict item_rest ks = plain_if _ _ (sees (mark m.Define) ks) refl refl
plain_predict enum_or_class ks = plain_if _ _ (sees (word w.Enum) ks) refl (plain_if _ _ (sees (word w.Class) ks) refl refl)
plain_predict enum_rest ks = refl
plain_predict values_until ks = plain_if _ _ (sees tok.Close ks) refl refl
plain_predict values_tail ks = plain_if _ _ (sees tok.Sep ks) refl refl
plain_predict class_rest ks = refl
plain_predict parent ks = plain_if _ _ (sees (mark m.RoundOpen) ks) refl refl
plain_predict members_until ks = plain_if _ _ (sees tok.Close ks) refl refl
plain_predict members_tail ks = plain_if _ _ (sees tok.Sep ks) refl refl
plain_predict member ks = plain_if _ _ (sees (word w.Var) ks) refl refl
plain_predict member_rest ks = plain_if _ _ (sees (mark m.RoundOpen) ks) refl refl
plain_predict field_rest ks = refl
plain_predict default ks = plain_if _ _ (sees (mark m.Equals) ks) refl refl
plain_predict fun_rest ks = refl
plain_predict params_until ks = plain_if _ _ (sees (mark m.RoundClose) ks) refl refl
plain_predict param ks = refl
plain_predict params_tail ks = plain_if _ _ (sees (mark m.Comma) ks) refl refl
plain_predict program [] = refl
plain_predict program (k ∷ ks) = refl

pub takes_plain : (r : Rule) (ks : List Tok) (Xs : List Symbol) → predict r ks ≡ takes Xs → plain Xs ≡ true
takes_plain r ks Xs e = rw e at (plain_predict r ks)

pub becomes_plain : (r : Rule) (ks : List Tok) (Xs : List Symbol) → predict r ks ≡ becomes Xs → plain Xs ≡ true
becomes_plain r ks Xs e = rw e at (plain_predict r ks)

not_among : (x y : Bool) → (if x then false else y) ≡ true → (x ≡ false) × (y ≡ true)
not_among true y h = absurd (cc)
not_among false y h = (refl, h)

no_program : (r : Rule) → is_program r ≡ false → r ≢ program
no_program r h e = let g : is_program program ≡ false = rw e at h in absurd (cc)

-- the first is none, and none is among the others
pub plain_parts : (r : Rule) (Xs : List Symbol) → plain (rule r ∷ Xs) ≡ true → (r ≢ program) × (plain Xs ≡ true)
plain_parts r Xs h = let p = not_among (is_program r) (plain Xs) h in (no_program r p.0, p.1)
