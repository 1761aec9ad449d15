-- What each rule reads.
use Rattle.std.proofs.Common.{◌≡◌, ◌≢◌, ℕ, ℤ, true, false, List, [], ◌∷◌, Option, Some, None, length, refl}
use Rattle.verse_lex.specs.declared.tokens.Word.TheVariants as w
use Rattle.verse_lex.specs.declared.tokens.Mark.TheVariants as m
use Rattle.verse_lex.specs.declared.tokens.TokenKind.TheVariants as token
use Rattle.verse_layout.specs.declared.toks.TokKind.{TokKind}
use Rattle.verse_layout.specs.declared.toks.TokKind.TheVariants as tok
use Rattle.verse_layout.specs.declared.toks.Tok.{Tok}
use Rattle.verse_tree.specs.declared.exprs.Assign.{Assign}
use Rattle.verse_tree.specs.declared.exprs.Comparison.{Comparison}
use Rattle.verse_tree.specs.declared.exprs.Operator.{Operator}
use Rattle.verse_grammar.specs.Toks.{word, mark, name, ahead}
use Rattle.verse_grammar.specs.Starts.{type_start, primary_start, postfix_start, stmt_start, pattern_start, item_start, comparison_at}
use Rattle.verse_grammar.specs.Starts.{assign_at, duration_at, int_at, begins_expr}
use Rattle.verse_grammar.specs.Exprs.{chain_operator, operand}
use Rattle.verse_grammar.specs.declared.phrases.Phrase.{Phrase}
use Rattle.verse_grammar.specs.declared.phrases.Phrase.TheVariants as p
use Rattle.verse_grammar.specs.declared.starts.Duration.{Duration}
use Rattle.verse_grammar.specs.declared.starts.TypeStart.TheVariants as type
use Rattle.verse_grammar.specs.declared.starts.PrimaryStart.TheVariants as primary
use Rattle.verse_grammar.specs.declared.starts.PostfixStart.TheVariants as postfix
use Rattle.verse_grammar.specs.declared.starts.StmtStart.TheVariants as stmt
use Rattle.verse_grammar.specs.declared.starts.PatternStart.TheVariants as pattern
use Rattle.verse_grammar.specs.declared.starts.ItemStart.TheVariants as item
use Rattle.verse_grammar.specs.Symbols.{a, rule, first_as, first_is, a_type, bracket_rest, tuple_rest, types, types_tail, bracket_type}
use Rattle.verse_grammar.specs.Symbols.{bracket_type_rest, phrase, stmt_name, typed_value, set_rest, assign, return_value, an_if, taken}
use Rattle.verse_grammar.specs.Symbols.{otherwise, chain_tail, comparison_tail, postfix_tail, row_tail, closed, until, hole_rest, name_rest}
use Rattle.verse_grammar.specs.Symbols.{givens_until, given, givens_tail, round_rest, pairs_until, pair, pairs_tail, clauses, case_rest}
use Rattle.verse_grammar.specs.Symbols.{duration, generator_rest, entries_rest, clause_name, clause_value, range_rest, an_int, program}
use Rattle.verse_grammar.specs.Symbols.{items_tail, an_item, using_rest, dotted, dots_tail, path_tail, specs, item_rest, enum_or_class}
use Rattle.verse_grammar.specs.Symbols.{enum_rest, values_until, values_tail, class_rest, parent, members_until, members_tail, member}
use Rattle.verse_grammar.specs.Symbols.{member_rest, field_rest, default, fun_rest, params_until, param, params_tail}
use Rattle.verse_grammar.proofs.Sights.{seen, unseen}
use Rattle.verse_grammar.specs.Reading.{EatsRule, SticksRule, eats_none, eats_tok, eats_rule, eats_takes, eats_becomes, sticks_here}
use Rattle.verse_grammar.specs.Reading.{sticks_behind_tok, sticks_in_rule, sticks_behind_rule, sticks_refused, sticks_takes, sticks_becomes}

pub eats_a_type_int : (k : Tok) (rest : List Tok) → type_start k.kind ≡ Some type.Int → EatsRule a_type (k ∷ rest) rest
eats_a_type_int k rest h = eats_takes {r = a_type} {Ys = []} (rw h refl) eats_none

pub eats_a_type_logic : (k : Tok) (rest : List Tok) → type_start k.kind ≡ Some type.Logic → EatsRule a_type (k ∷ rest) rest
eats_a_type_logic k rest h = eats_takes {r = a_type} {Ys = []} (rw h refl) eats_none

pub eats_a_type_char : (k : Tok) (rest : List Tok) → type_start k.kind ≡ Some type.Char → EatsRule a_type (k ∷ rest) rest
eats_a_type_char k rest h = eats_takes {r = a_type} {Ys = []} (rw h refl) eats_none

pub eats_a_type_string : (k : Tok) (rest : List Tok) → type_start k.kind ≡ Some type.String → EatsRule a_type (k ∷ rest) rest
eats_a_type_string k rest h = eats_takes {r = a_type} {Ys = []} (rw h refl) eats_none

pub eats_a_type_void : (k : Tok) (rest : List Tok) → type_start k.kind ≡ Some type.Void → EatsRule a_type (k ∷ rest) rest
eats_a_type_void k rest h = eats_takes {r = a_type} {Ys = []} (rw h refl) eats_none

pub eats_a_type_name : (k : Tok) (rest : List Tok) → type_start k.kind ≡ Some type.Name → EatsRule a_type (k ∷ rest) rest
eats_a_type_name k rest h = eats_takes {r = a_type} {Ys = []} (rw h refl) eats_none

pub eats_a_type_option : (k : Tok) (ks1 rest : List Tok) → type_start k.kind ≡ Some type.Option → EatsRule a_type ks1 rest →
    EatsRule a_type (k ∷ ks1) rest
eats_a_type_option k ks1 rest h e1 = eats_takes {r = a_type} {Ys = rule a_type ∷ []} (rw h refl) (eats_rule e1 eats_none)

pub eats_a_type_bracket : (k : Tok) (ks1 rest : List Tok) → type_start k.kind ≡ Some type.Bracket → EatsRule bracket_rest ks1 rest →
    EatsRule a_type (k ∷ ks1) rest
eats_a_type_bracket k ks1 rest h e1 = eats_takes {r = a_type} {Ys = rule bracket_rest ∷ []} (rw h refl) (eats_rule e1 eats_none)

pub eats_a_type_tuple : (k : Tok) (ks1 rest : List Tok) → type_start k.kind ≡ Some type.Tuple → EatsRule tuple_rest ks1 rest →
    EatsRule a_type (k ∷ ks1) rest
eats_a_type_tuple k ks1 rest h e1 = eats_takes {r = a_type} {Ys = rule tuple_rest ∷ []} (rw h refl) (eats_rule e1 eats_none)

pub eats_a_type_task : (k k1 k3 : Tok) (ks2 rest : List Tok) → type_start k.kind ≡ Some type.Task → k1.kind ≡ (mark m.RoundOpen) →
    EatsRule a_type ks2 (k3 ∷ rest) → k3.kind ≡ (mark m.RoundClose) → EatsRule a_type (k ∷ (k1 ∷ ks2)) rest
eats_a_type_task k k1 k3 ks2 rest h e1 e2 e3 =
    eats_takes {r = a_type} {Ys = a (mark m.RoundOpen) ∷ rule a_type ∷ a (mark m.RoundClose) ∷ []} (rw h refl)
    (eats_tok e1 (eats_rule e2 (eats_tok e3 eats_none)))

pub eats_a_type_event : (k : Tok) (ks1 rest : List Tok) → type_start k.kind ≡ Some type.Event → EatsRule bracket_type ks1 rest →
    EatsRule a_type (k ∷ ks1) rest
eats_a_type_event k ks1 rest h e1 = eats_takes {r = a_type} {Ys = rule bracket_type ∷ []} (rw h refl) (eats_rule e1 eats_none)

pub eats_bracket_rest_at : (k : Tok) (ks1 rest : List Tok) → k.kind ≡ (mark m.SquareClose) → EatsRule a_type ks1 rest →
    EatsRule bracket_rest (k ∷ ks1) rest
eats_bracket_rest_at k ks1 rest h e1 = eats_takes {r = bracket_rest} {Ys = rule a_type ∷ []} (rw h refl) (eats_rule e1 eats_none)

pub eats_bracket_rest_other : (k2 : Tok) (ks1 ks3 rest : List Tok) → ahead ks1 ≢ Some (mark m.SquareClose) →
    EatsRule a_type ks1 (k2 ∷ ks3) → k2.kind ≡ (mark m.SquareClose) → EatsRule a_type ks3 rest → EatsRule bracket_rest ks1 rest
eats_bracket_rest_other k2 ks1 ks3 rest h0 e1 e2 e3 =
    eats_becomes {r = bracket_rest} {Ys = rule a_type ∷ a (mark m.SquareClose) ∷ rule a_type ∷ []} {ks = ks1}
    (rw (unseen (mark m.SquareClose) _ h0) refl) (eats_rule e1 (eats_tok e2 (eats_rule e3 eats_none)))

pub eats_tuple_rest : (k1 k3 k5 : Tok) (ks2 ks4 rest : List Tok) → k1.kind ≡ (mark m.RoundOpen) → EatsRule a_type ks2 (k3 ∷ ks4) →
    k3.kind ≡ (mark m.Comma) → EatsRule types ks4 (k5 ∷ rest) → k5.kind ≡ (mark m.RoundClose) → EatsRule tuple_rest (k1 ∷ ks2) rest
eats_tuple_rest k1 k3 k5 ks2 ks4 rest e1 e2 e3 e4 e5 =
    eats_becomes {r = tuple_rest} {Ys = a (mark m.RoundOpen) ∷ rule a_type ∷ a (mark m.Comma) ∷ rule types ∷ a (mark m.RoundClose) ∷ []}
    {ks = k1 ∷ ks2} refl (eats_tok e1 (eats_rule e2 (eats_tok e3 (eats_rule e4 (eats_tok e5 eats_none)))))

pub eats_types : (ks1 ks2 rest : List Tok) → EatsRule a_type ks1 ks2 → EatsRule types_tail ks2 rest → EatsRule types ks1 rest
eats_types ks1 ks2 rest e1 e2 = eats_becomes {r = types} {Ys = rule a_type ∷ rule types_tail ∷ []} {ks = ks1} refl
    (eats_rule e1 (eats_rule e2 eats_none))

pub eats_types_tail_at : (k : Tok) (ks1 ks2 rest : List Tok) → k.kind ≡ (mark m.Comma) → EatsRule a_type ks1 ks2 →
    EatsRule types_tail ks2 rest → EatsRule types_tail (k ∷ ks1) rest
eats_types_tail_at k ks1 ks2 rest h e1 e2 =
    eats_takes {r = types_tail} {Ys = rule a_type ∷ rule types_tail ∷ []} (rw h refl) (eats_rule e1 (eats_rule e2 eats_none))

pub eats_types_tail_other : (rest : List Tok) → ahead rest ≢ Some (mark m.Comma) → EatsRule types_tail rest rest
eats_types_tail_other rest h0 = eats_becomes {r = types_tail} {Ys = []} {ks = rest} (rw (unseen (mark m.Comma) _ h0) refl) eats_none

pub eats_bracket_type : (k1 : Tok) (ks2 rest : List Tok) → k1.kind ≡ (mark m.RoundOpen) → EatsRule bracket_type_rest ks2 rest →
    EatsRule bracket_type (k1 ∷ ks2) rest
eats_bracket_type k1 ks2 rest e1 e2 = eats_becomes {r = bracket_type} {Ys = a (mark m.RoundOpen) ∷ rule bracket_type_rest ∷ []}
    {ks = k1 ∷ ks2} refl (eats_tok e1 (eats_rule e2 eats_none))

pub eats_bracket_type_rest_at : (k : Tok) (rest : List Tok) → k.kind ≡ (mark m.RoundClose) → EatsRule bracket_type_rest (k ∷ rest) rest
eats_bracket_type_rest_at k rest h = eats_takes {r = bracket_type_rest} {Ys = []} (rw h refl) eats_none

pub eats_bracket_type_rest_other : (k2 : Tok) (ks1 rest : List Tok) → ahead ks1 ≢ Some (mark m.RoundClose) →
    EatsRule a_type ks1 (k2 ∷ rest) → k2.kind ≡ (mark m.RoundClose) → EatsRule bracket_type_rest ks1 rest
eats_bracket_type_rest_other k2 ks1 rest h0 e1 e2 =
    eats_becomes {r = bracket_type_rest} {Ys = rule a_type ∷ a (mark m.RoundClose) ∷ []} {ks = ks1}
    (rw (unseen (mark m.RoundClose) _ h0) refl) (eats_rule e1 (eats_tok e2 eats_none))

pub eats_block : (k1 : Tok) (ks2 rest : List Tok) → k1.kind ≡ tok.Open → EatsRule (until p.Part tok.Sep tok.Close) ks2 rest →
    EatsRule (phrase p.Block) (k1 ∷ ks2) rest
eats_block k1 ks2 rest e1 e2 = eats_becomes {r = phrase p.Block} {Ys = a tok.Open ∷ rule (until p.Part tok.Sep tok.Close) ∷ []}
    {ks = k1 ∷ ks2} refl (eats_tok e1 (eats_rule e2 eats_none))

pub eats_part_at : (k : Tok) (ks1 rest : List Tok) → k.kind ≡ (word w.Defer) → EatsRule (phrase p.Block) ks1 rest →
    EatsRule (phrase p.Part) (k ∷ ks1) rest
eats_part_at k ks1 rest h e1 = eats_takes {r = phrase p.Part} {Ys = rule (phrase p.Block) ∷ []} (rw h refl) (eats_rule e1 eats_none)

pub eats_part_other : (ks1 rest : List Tok) → ahead ks1 ≢ Some (word w.Defer) → EatsRule (phrase p.Stmt) ks1 rest →
    EatsRule (phrase p.Part) ks1 rest
eats_part_other ks1 rest h0 e1 = eats_becomes {r = phrase p.Part} {Ys = rule (phrase p.Stmt) ∷ []} {ks = ks1}
    (rw (unseen (word w.Defer) _ h0) refl) (eats_rule e1 eats_none)

pub eats_stmt_name : (k : Tok) (ks1 rest : List Tok) → stmt_start k.kind ≡ Some stmt.Name → EatsRule stmt_name ks1 rest →
    EatsRule (phrase p.Stmt) (k ∷ ks1) rest
eats_stmt_name k ks1 rest h e1 = eats_takes {r = phrase p.Stmt} {Ys = rule stmt_name ∷ []} (rw h refl) (eats_rule e1 eats_none)

pub eats_stmt_var : (k k1 : Tok) (ks2 rest : List Tok) → stmt_start k.kind ≡ Some stmt.Var → k1.kind ≡ name →
    EatsRule typed_value ks2 rest → EatsRule (phrase p.Stmt) (k ∷ (k1 ∷ ks2)) rest
eats_stmt_var k k1 ks2 rest h e1 e2 = eats_takes {r = phrase p.Stmt} {Ys = a name ∷ rule typed_value ∷ []} (rw h refl)
    (eats_tok e1 (eats_rule e2 eats_none))

pub eats_stmt_set : (k : Tok) (ks1 rest : List Tok) → stmt_start k.kind ≡ Some stmt.Set → EatsRule set_rest ks1 rest →
    EatsRule (phrase p.Stmt) (k ∷ ks1) rest
eats_stmt_set k ks1 rest h e1 = eats_takes {r = phrase p.Stmt} {Ys = rule set_rest ∷ []} (rw h refl) (eats_rule e1 eats_none)

pub eats_stmt_return : (k : Tok) (ks1 rest : List Tok) → stmt_start k.kind ≡ Some stmt.Return → EatsRule return_value ks1 rest →
    EatsRule (phrase p.Stmt) (k ∷ ks1) rest
eats_stmt_return k ks1 rest h e1 = eats_takes {r = phrase p.Stmt} {Ys = rule return_value ∷ []} (rw h refl) (eats_rule e1 eats_none)

pub eats_stmt_break : (k : Tok) (rest : List Tok) → stmt_start k.kind ≡ Some stmt.Break → EatsRule (phrase p.Stmt) (k ∷ rest) rest
eats_stmt_break k rest h = eats_takes {r = phrase p.Stmt} {Ys = []} (rw h refl) eats_none

pub eats_stmt_other : (ks1 rest : List Tok) → first_as stmt_start ks1 ≡ None → EatsRule (phrase p.Expr) ks1 rest →
    EatsRule (phrase p.Stmt) ks1 rest
eats_stmt_other ks1 rest h e1 = eats_becomes {r = phrase p.Stmt} {Ys = rule (phrase p.Expr) ∷ []} {ks = ks1} (rw h refl)
    (eats_rule e1 eats_none)

pub eats_body_at : (k : Tok) (ks rest : List Tok) → k.kind ≡ tok.Open → EatsRule (phrase p.Block) (k ∷ ks) rest →
    EatsRule (phrase p.Body) (k ∷ ks) rest
eats_body_at k ks rest h e1 = eats_becomes {r = phrase p.Body} {Ys = rule (phrase p.Block) ∷ []} {ks = k ∷ ks} (rw h refl)
    (eats_rule e1 eats_none)

pub eats_body_other : (ks1 rest : List Tok) → ahead ks1 ≢ Some tok.Open → EatsRule (phrase p.Expr) ks1 rest →
    EatsRule (phrase p.Body) ks1 rest
eats_body_other ks1 rest h0 e1 = eats_becomes {r = phrase p.Body} {Ys = rule (phrase p.Expr) ∷ []} {ks = ks1}
    (rw (unseen tok.Open _ h0) refl) (eats_rule e1 eats_none)

pub eats_expr_at : (k : Tok) (ks rest : List Tok) → k.kind ≡ (word w.If) → EatsRule an_if (k ∷ ks) rest →
    EatsRule (phrase p.Expr) (k ∷ ks) rest
eats_expr_at k ks rest h e1 = eats_becomes {r = phrase p.Expr} {Ys = rule an_if ∷ []} {ks = k ∷ ks} (rw h refl) (eats_rule e1 eats_none)

pub eats_expr_other : (ks1 rest : List Tok) → ahead ks1 ≢ Some (word w.If) → EatsRule (phrase p.Or) ks1 rest →
    EatsRule (phrase p.Expr) ks1 rest
eats_expr_other ks1 rest h0 e1 = eats_becomes {r = phrase p.Expr} {Ys = rule (phrase p.Or) ∷ []} {ks = ks1}
    (rw (unseen (word w.If) _ h0) refl) (eats_rule e1 eats_none)

pub eats_or : (ks1 ks2 rest : List Tok) → EatsRule (phrase p.And) ks1 ks2 → EatsRule (chain_tail p.Or) ks2 rest →
    EatsRule (phrase p.Or) ks1 rest
eats_or ks1 ks2 rest e1 e2 = eats_becomes {r = phrase p.Or} {Ys = rule (phrase p.And) ∷ rule (chain_tail p.Or) ∷ []} {ks = ks1} refl
    (eats_rule e1 (eats_rule e2 eats_none))

pub eats_and : (ks1 ks2 rest : List Tok) → EatsRule (phrase p.Not) ks1 ks2 → EatsRule (chain_tail p.And) ks2 rest →
    EatsRule (phrase p.And) ks1 rest
eats_and ks1 ks2 rest e1 e2 = eats_becomes {r = phrase p.And} {Ys = rule (phrase p.Not) ∷ rule (chain_tail p.And) ∷ []} {ks = ks1} refl
    (eats_rule e1 (eats_rule e2 eats_none))

pub eats_not_at : (k : Tok) (ks1 rest : List Tok) → k.kind ≡ (word w.Not) → EatsRule (phrase p.Not) ks1 rest →
    EatsRule (phrase p.Not) (k ∷ ks1) rest
eats_not_at k ks1 rest h e1 = eats_takes {r = phrase p.Not} {Ys = rule (phrase p.Not) ∷ []} (rw h refl) (eats_rule e1 eats_none)

pub eats_not_other : (ks1 rest : List Tok) → ahead ks1 ≢ Some (word w.Not) → EatsRule (phrase p.Comparison) ks1 rest →
    EatsRule (phrase p.Not) ks1 rest
eats_not_other ks1 rest h0 e1 = eats_becomes {r = phrase p.Not} {Ys = rule (phrase p.Comparison) ∷ []} {ks = ks1}
    (rw (unseen (word w.Not) _ h0) refl) (eats_rule e1 eats_none)

pub eats_comparison : (ks1 ks2 rest : List Tok) → EatsRule (phrase p.Sum) ks1 ks2 → EatsRule comparison_tail ks2 rest →
    EatsRule (phrase p.Comparison) ks1 rest
eats_comparison ks1 ks2 rest e1 e2 = eats_becomes {r = phrase p.Comparison} {Ys = rule (phrase p.Sum) ∷ rule comparison_tail ∷ []}
    {ks = ks1} refl (eats_rule e1 (eats_rule e2 eats_none))

pub eats_sum : (ks1 ks2 rest : List Tok) → EatsRule (phrase p.Product) ks1 ks2 → EatsRule (chain_tail p.Sum) ks2 rest →
    EatsRule (phrase p.Sum) ks1 rest
eats_sum ks1 ks2 rest e1 e2 = eats_becomes {r = phrase p.Sum} {Ys = rule (phrase p.Product) ∷ rule (chain_tail p.Sum) ∷ []} {ks = ks1} refl
    (eats_rule e1 (eats_rule e2 eats_none))

pub eats_product : (ks1 ks2 rest : List Tok) → EatsRule (phrase p.Minus) ks1 ks2 → EatsRule (chain_tail p.Product) ks2 rest →
    EatsRule (phrase p.Product) ks1 rest
eats_product ks1 ks2 rest e1 e2 = eats_becomes {r = phrase p.Product} {Ys = rule (phrase p.Minus) ∷ rule (chain_tail p.Product) ∷ []}
    {ks = ks1} refl (eats_rule e1 (eats_rule e2 eats_none))

pub eats_minus_at : (k : Tok) (ks1 rest : List Tok) → k.kind ≡ (mark m.Minus) → EatsRule (phrase p.Minus) ks1 rest →
    EatsRule (phrase p.Minus) (k ∷ ks1) rest
eats_minus_at k ks1 rest h e1 = eats_takes {r = phrase p.Minus} {Ys = rule (phrase p.Minus) ∷ []} (rw h refl) (eats_rule e1 eats_none)

pub eats_minus_other : (ks1 rest : List Tok) → ahead ks1 ≢ Some (mark m.Minus) → EatsRule (phrase p.Postfix) ks1 rest →
    EatsRule (phrase p.Minus) ks1 rest
eats_minus_other ks1 rest h0 e1 = eats_becomes {r = phrase p.Minus} {Ys = rule (phrase p.Postfix) ∷ []} {ks = ks1}
    (rw (unseen (mark m.Minus) _ h0) refl) (eats_rule e1 eats_none)

pub eats_postfix : (ks1 ks2 rest : List Tok) → EatsRule (phrase p.Primary) ks1 ks2 → EatsRule postfix_tail ks2 rest →
    EatsRule (phrase p.Postfix) ks1 rest
eats_postfix ks1 ks2 rest e1 e2 = eats_becomes {r = phrase p.Postfix} {Ys = rule (phrase p.Primary) ∷ rule postfix_tail ∷ []} {ks = ks1}
    refl (eats_rule e1 (eats_rule e2 eats_none))

pub eats_primary_int : (n : ℤ) (k : Tok) (rest : List Tok) → primary_start k.kind ≡ Some (primary.Int n) →
    EatsRule (phrase p.Primary) (k ∷ rest) rest
eats_primary_int n k rest h = eats_takes {r = phrase p.Primary} {Ys = []} (rw h refl) eats_none

pub eats_primary_char : (n : ℕ) (k : Tok) (rest : List Tok) → primary_start k.kind ≡ Some (primary.Char n) →
    EatsRule (phrase p.Primary) (k ∷ rest) rest
eats_primary_char n k rest h = eats_takes {r = phrase p.Primary} {Ys = []} (rw h refl) eats_none

pub eats_primary_text : (k : Tok) (rest : List Tok) → primary_start k.kind ≡ Some primary.Text → EatsRule (phrase p.Primary) (k ∷ rest) rest
eats_primary_text k rest h = eats_takes {r = phrase p.Primary} {Ys = []} (rw h refl) eats_none

pub eats_primary_true : (k : Tok) (rest : List Tok) → primary_start k.kind ≡ Some primary.True → EatsRule (phrase p.Primary) (k ∷ rest) rest
eats_primary_true k rest h = eats_takes {r = phrase p.Primary} {Ys = []} (rw h refl) eats_none

pub eats_primary_false : (k : Tok) (rest : List Tok) → primary_start k.kind ≡ Some primary.False →
    EatsRule (phrase p.Primary) (k ∷ rest) rest
eats_primary_false k rest h = eats_takes {r = phrase p.Primary} {Ys = []} (rw h refl) eats_none

pub eats_primary_this : (k : Tok) (rest : List Tok) → primary_start k.kind ≡ Some primary.This → EatsRule (phrase p.Primary) (k ∷ rest) rest
eats_primary_this k rest h = eats_takes {r = phrase p.Primary} {Ys = []} (rw h refl) eats_none

pub eats_primary_textopen : (k : Tok) (ks1 ks2 rest : List Tok) → primary_start k.kind ≡ Some primary.TextOpen →
    EatsRule (phrase p.Expr) ks1 ks2 → EatsRule hole_rest ks2 rest → EatsRule (phrase p.Primary) (k ∷ ks1) rest
eats_primary_textopen k ks1 ks2 rest h e1 e2 =
    eats_takes {r = phrase p.Primary} {Ys = rule (phrase p.Expr) ∷ rule hole_rest ∷ []} (rw h refl) (eats_rule e1 (eats_rule e2 eats_none))

pub eats_primary_name : (k : Tok) (ks1 rest : List Tok) → primary_start k.kind ≡ Some primary.Name → EatsRule name_rest ks1 rest →
    EatsRule (phrase p.Primary) (k ∷ ks1) rest
eats_primary_name k ks1 rest h e1 = eats_takes {r = phrase p.Primary} {Ys = rule name_rest ∷ []} (rw h refl) (eats_rule e1 eats_none)

pub eats_primary_round : (k : Tok) (ks1 ks2 rest : List Tok) → primary_start k.kind ≡ Some primary.Round →
    EatsRule (phrase p.Expr) ks1 ks2 → EatsRule round_rest ks2 rest → EatsRule (phrase p.Primary) (k ∷ ks1) rest
eats_primary_round k ks1 ks2 rest h e1 e2 =
    eats_takes {r = phrase p.Primary} {Ys = rule (phrase p.Expr) ∷ rule round_rest ∷ []} (rw h refl) (eats_rule e1 (eats_rule e2 eats_none))

pub eats_primary_array : (k k1 : Tok) (ks2 rest : List Tok) → primary_start k.kind ≡ Some primary.Array → k1.kind ≡ tok.Open →
    EatsRule (until p.Expr tok.Sep tok.Close) ks2 rest → EatsRule (phrase p.Primary) (k ∷ (k1 ∷ ks2)) rest
eats_primary_array k k1 ks2 rest h e1 e2 =
    eats_takes {r = phrase p.Primary} {Ys = a tok.Open ∷ rule (until p.Expr tok.Sep tok.Close) ∷ []} (rw h refl)
    (eats_tok e1 (eats_rule e2 eats_none))

pub eats_primary_map : (k k1 : Tok) (ks2 rest : List Tok) → primary_start k.kind ≡ Some primary.Map → k1.kind ≡ tok.Open →
    EatsRule pairs_until ks2 rest → EatsRule (phrase p.Primary) (k ∷ (k1 ∷ ks2)) rest
eats_primary_map k k1 ks2 rest h e1 e2 = eats_takes {r = phrase p.Primary} {Ys = a tok.Open ∷ rule pairs_until ∷ []} (rw h refl)
    (eats_tok e1 (eats_rule e2 eats_none))

pub eats_primary_option : (k k1 : Tok) (ks2 rest : List Tok) → primary_start k.kind ≡ Some primary.Option → k1.kind ≡ tok.Open →
    EatsRule (closed p.Stmt tok.Sep tok.Close) ks2 rest → EatsRule (phrase p.Primary) (k ∷ (k1 ∷ ks2)) rest
eats_primary_option k k1 ks2 rest h e1 e2 =
    eats_takes {r = phrase p.Primary} {Ys = a tok.Open ∷ rule (closed p.Stmt tok.Sep tok.Close) ∷ []} (rw h refl)
    (eats_tok e1 (eats_rule e2 eats_none))

pub eats_primary_logic : (k k1 : Tok) (ks2 rest : List Tok) → primary_start k.kind ≡ Some primary.Logic → k1.kind ≡ tok.Open →
    EatsRule (closed p.Stmt tok.Sep tok.Close) ks2 rest → EatsRule (phrase p.Primary) (k ∷ (k1 ∷ ks2)) rest
eats_primary_logic k k1 ks2 rest h e1 e2 =
    eats_takes {r = phrase p.Primary} {Ys = a tok.Open ∷ rule (closed p.Stmt tok.Sep tok.Close) ∷ []} (rw h refl)
    (eats_tok e1 (eats_rule e2 eats_none))

pub eats_primary_event : (k k2 k3 : Tok) (ks1 rest : List Tok) → primary_start k.kind ≡ Some primary.Event →
    EatsRule bracket_type ks1 (k2 ∷ (k3 ∷ rest)) → k2.kind ≡ tok.Open → k3.kind ≡ tok.Close → EatsRule (phrase p.Primary) (k ∷ ks1) rest
eats_primary_event k k2 k3 ks1 rest h e1 e2 e3 =
    eats_takes {r = phrase p.Primary} {Ys = rule bracket_type ∷ a tok.Open ∷ a tok.Close ∷ []} (rw h refl)
    (eats_rule e1 (eats_tok e2 (eats_tok e3 eats_none)))

pub eats_primary_for : (k k1 : Tok) (ks2 ks3 rest : List Tok) → primary_start k.kind ≡ Some primary.For → k1.kind ≡ (mark m.RoundOpen) →
    EatsRule clauses ks2 ks3 → EatsRule (phrase p.Block) ks3 rest → EatsRule (phrase p.Primary) (k ∷ (k1 ∷ ks2)) rest
eats_primary_for k k1 ks2 ks3 rest h e1 e2 e3 =
    eats_takes {r = phrase p.Primary} {Ys = a (mark m.RoundOpen) ∷ rule clauses ∷ rule (phrase p.Block) ∷ []} (rw h refl)
    (eats_tok e1 (eats_rule e2 (eats_rule e3 eats_none)))

pub eats_primary_loop : (k : Tok) (ks1 rest : List Tok) → primary_start k.kind ≡ Some primary.Loop → EatsRule (phrase p.Block) ks1 rest →
    EatsRule (phrase p.Primary) (k ∷ ks1) rest
eats_primary_loop k ks1 rest h e1 = eats_takes {r = phrase p.Primary} {Ys = rule (phrase p.Block) ∷ []} (rw h refl) (eats_rule e1 eats_none)

pub eats_primary_block : (k : Tok) (ks1 rest : List Tok) → primary_start k.kind ≡ Some primary.Block → EatsRule (phrase p.Block) ks1 rest →
    EatsRule (phrase p.Primary) (k ∷ ks1) rest
eats_primary_block k ks1 rest h e1 = eats_takes {r = phrase p.Primary} {Ys = rule (phrase p.Block) ∷ []} (rw h refl)
    (eats_rule e1 eats_none)

pub eats_primary_branch : (k : Tok) (ks1 rest : List Tok) → primary_start k.kind ≡ Some primary.Branch →
    EatsRule (phrase p.Block) ks1 rest → EatsRule (phrase p.Primary) (k ∷ ks1) rest
eats_primary_branch k ks1 rest h e1 = eats_takes {r = phrase p.Primary} {Ys = rule (phrase p.Block) ∷ []} (rw h refl)
    (eats_rule e1 eats_none)

pub eats_primary_sync : (k k1 : Tok) (ks2 rest : List Tok) → primary_start k.kind ≡ Some primary.Sync → k1.kind ≡ tok.Open →
    EatsRule (until p.Stmt tok.Sep tok.Close) ks2 rest → EatsRule (phrase p.Primary) (k ∷ (k1 ∷ ks2)) rest
eats_primary_sync k k1 ks2 rest h e1 e2 = eats_takes {r = phrase p.Primary} {Ys = a tok.Open ∷ rule (until p.Stmt tok.Sep tok.Close) ∷ []}
    (rw h refl) (eats_tok e1 (eats_rule e2 eats_none))

pub eats_primary_race : (k k1 : Tok) (ks2 rest : List Tok) → primary_start k.kind ≡ Some primary.Race → k1.kind ≡ tok.Open →
    EatsRule (until p.Stmt tok.Sep tok.Close) ks2 rest → EatsRule (phrase p.Primary) (k ∷ (k1 ∷ ks2)) rest
eats_primary_race k k1 ks2 rest h e1 e2 = eats_takes {r = phrase p.Primary} {Ys = a tok.Open ∷ rule (until p.Stmt tok.Sep tok.Close) ∷ []}
    (rw h refl) (eats_tok e1 (eats_rule e2 eats_none))

pub eats_primary_rush : (k k1 : Tok) (ks2 rest : List Tok) → primary_start k.kind ≡ Some primary.Rush → k1.kind ≡ tok.Open →
    EatsRule (until p.Stmt tok.Sep tok.Close) ks2 rest → EatsRule (phrase p.Primary) (k ∷ (k1 ∷ ks2)) rest
eats_primary_rush k k1 ks2 rest h e1 e2 = eats_takes {r = phrase p.Primary} {Ys = a tok.Open ∷ rule (until p.Stmt tok.Sep tok.Close) ∷ []}
    (rw h refl) (eats_tok e1 (eats_rule e2 eats_none))

pub eats_primary_case : (k : Tok) (ks1 rest : List Tok) → primary_start k.kind ≡ Some primary.Case → EatsRule case_rest ks1 rest →
    EatsRule (phrase p.Primary) (k ∷ ks1) rest
eats_primary_case k ks1 rest h e1 = eats_takes {r = phrase p.Primary} {Ys = rule case_rest ∷ []} (rw h refl) (eats_rule e1 eats_none)

pub eats_primary_spawn : (k k1 k3 : Tok) (ks2 rest : List Tok) → primary_start k.kind ≡ Some primary.Spawn → k1.kind ≡ tok.Open →
    EatsRule (phrase p.Expr) ks2 (k3 ∷ rest) → k3.kind ≡ tok.Close → EatsRule (phrase p.Primary) (k ∷ (k1 ∷ ks2)) rest
eats_primary_spawn k k1 k3 ks2 rest h e1 e2 e3 =
    eats_takes {r = phrase p.Primary} {Ys = a tok.Open ∷ rule (phrase p.Expr) ∷ a tok.Close ∷ []} (rw h refl)
    (eats_tok e1 (eats_rule e2 (eats_tok e3 eats_none)))

pub eats_primary_sleep : (k k1 k3 : Tok) (ks2 rest : List Tok) → primary_start k.kind ≡ Some primary.Sleep → k1.kind ≡ (mark m.RoundOpen) →
    EatsRule duration ks2 (k3 ∷ rest) → k3.kind ≡ (mark m.RoundClose) → EatsRule (phrase p.Primary) (k ∷ (k1 ∷ ks2)) rest
eats_primary_sleep k k1 k3 ks2 rest h e1 e2 e3 =
    eats_takes {r = phrase p.Primary} {Ys = a (mark m.RoundOpen) ∷ rule duration ∷ a (mark m.RoundClose) ∷ []} (rw h refl)
    (eats_tok e1 (eats_rule e2 (eats_tok e3 eats_none)))

pub eats_generator : (k1 : Tok) (ks2 rest : List Tok) → k1.kind ≡ name → EatsRule generator_rest ks2 rest →
    EatsRule (phrase p.Generator) (k1 ∷ ks2) rest
eats_generator k1 ks2 rest e1 e2 = eats_becomes {r = phrase p.Generator} {Ys = a name ∷ rule generator_rest ∷ []} {ks = k1 ∷ ks2} refl
    (eats_tok e1 (eats_rule e2 eats_none))

pub eats_clause_name : (k : Tok) (ks1 rest : List Tok) → stmt_start k.kind ≡ Some stmt.Name → EatsRule clause_name ks1 rest →
    EatsRule (phrase p.Clause) (k ∷ ks1) rest
eats_clause_name k ks1 rest h e1 = eats_takes {r = phrase p.Clause} {Ys = rule clause_name ∷ []} (rw h refl) (eats_rule e1 eats_none)

pub eats_clause_set : (k : Tok) (ks1 rest : List Tok) → stmt_start k.kind ≡ Some stmt.Set → EatsRule set_rest ks1 rest →
    EatsRule (phrase p.Clause) (k ∷ ks1) rest
eats_clause_set k ks1 rest h e1 = eats_takes {r = phrase p.Clause} {Ys = rule set_rest ∷ []} (rw h refl) (eats_rule e1 eats_none)

pub eats_clause_return : (k : Tok) (ks1 rest : List Tok) → stmt_start k.kind ≡ Some stmt.Return → EatsRule return_value ks1 rest →
    EatsRule (phrase p.Clause) (k ∷ ks1) rest
eats_clause_return k ks1 rest h e1 = eats_takes {r = phrase p.Clause} {Ys = rule return_value ∷ []} (rw h refl) (eats_rule e1 eats_none)

pub eats_clause_break : (k : Tok) (rest : List Tok) → stmt_start k.kind ≡ Some stmt.Break → EatsRule (phrase p.Clause) (k ∷ rest) rest
eats_clause_break k rest h = eats_takes {r = phrase p.Clause} {Ys = []} (rw h refl) eats_none

pub eats_clause_other : (ks1 rest : List Tok) → first_as stmt_start ks1 ≡ None → EatsRule (phrase p.Expr) ks1 rest →
    EatsRule (phrase p.Clause) ks1 rest
eats_clause_other ks1 rest h e1 = eats_becomes {r = phrase p.Clause} {Ys = rule (phrase p.Expr) ∷ []} {ks = ks1} (rw h refl)
    (eats_rule e1 eats_none)

pub eats_arm : (k2 : Tok) (ks1 ks3 rest : List Tok) → EatsRule (phrase p.Pattern) ks1 (k2 ∷ ks3) → k2.kind ≡ (mark m.FatArrow) →
    EatsRule (phrase p.Body) ks3 rest → EatsRule (phrase p.Arm) ks1 rest
eats_arm k2 ks1 ks3 rest e1 e2 e3 = eats_becomes {r = phrase p.Arm}
    {Ys = rule (phrase p.Pattern) ∷ a (mark m.FatArrow) ∷ rule (phrase p.Body) ∷ []} {ks = ks1} refl
    (eats_rule e1 (eats_tok e2 (eats_rule e3 eats_none)))

pub eats_pattern_int : (n : ℤ) (k : Tok) (rest : List Tok) → pattern_start k.kind ≡ Some (pattern.Int n) →
    EatsRule (phrase p.Pattern) (k ∷ rest) rest
eats_pattern_int n k rest h = eats_takes {r = phrase p.Pattern} {Ys = []} (rw h refl) eats_none

pub eats_pattern_char : (n : ℕ) (k : Tok) (rest : List Tok) → pattern_start k.kind ≡ Some (pattern.Char n) →
    EatsRule (phrase p.Pattern) (k ∷ rest) rest
eats_pattern_char n k rest h = eats_takes {r = phrase p.Pattern} {Ys = []} (rw h refl) eats_none

pub eats_pattern_text : (k : Tok) (rest : List Tok) → pattern_start k.kind ≡ Some pattern.Text → EatsRule (phrase p.Pattern) (k ∷ rest) rest
eats_pattern_text k rest h = eats_takes {r = phrase p.Pattern} {Ys = []} (rw h refl) eats_none

pub eats_pattern_true : (k : Tok) (rest : List Tok) → pattern_start k.kind ≡ Some pattern.True → EatsRule (phrase p.Pattern) (k ∷ rest) rest
eats_pattern_true k rest h = eats_takes {r = phrase p.Pattern} {Ys = []} (rw h refl) eats_none

pub eats_pattern_false : (k : Tok) (rest : List Tok) → pattern_start k.kind ≡ Some pattern.False →
    EatsRule (phrase p.Pattern) (k ∷ rest) rest
eats_pattern_false k rest h = eats_takes {r = phrase p.Pattern} {Ys = []} (rw h refl) eats_none

pub eats_pattern_wild : (k : Tok) (rest : List Tok) → pattern_start k.kind ≡ Some pattern.Wild → EatsRule (phrase p.Pattern) (k ∷ rest) rest
eats_pattern_wild k rest h = eats_takes {r = phrase p.Pattern} {Ys = []} (rw h refl) eats_none

pub eats_pattern_minus : (k : Tok) (ks1 rest : List Tok) → pattern_start k.kind ≡ Some pattern.Minus → EatsRule an_int ks1 rest →
    EatsRule (phrase p.Pattern) (k ∷ ks1) rest
eats_pattern_minus k ks1 rest h e1 = eats_takes {r = phrase p.Pattern} {Ys = rule an_int ∷ []} (rw h refl) (eats_rule e1 eats_none)

pub eats_pattern_name : (k k1 k2 : Tok) (rest : List Tok) → pattern_start k.kind ≡ Some pattern.Name → k1.kind ≡ (mark m.Dot) →
    k2.kind ≡ name → EatsRule (phrase p.Pattern) (k ∷ (k1 ∷ (k2 ∷ rest))) rest
eats_pattern_name k k1 k2 rest h e1 e2 = eats_takes {r = phrase p.Pattern} {Ys = a (mark m.Dot) ∷ a name ∷ []} (rw h refl)
    (eats_tok e1 (eats_tok e2 eats_none))

pub eats_stmt_name_at1 : (k : Tok) (ks1 rest : List Tok) → k.kind ≡ (mark m.Define) → EatsRule (phrase p.Expr) ks1 rest →
    EatsRule stmt_name (k ∷ ks1) rest
eats_stmt_name_at1 k ks1 rest h e1 = eats_takes {r = stmt_name} {Ys = rule (phrase p.Expr) ∷ []} (rw h refl) (eats_rule e1 eats_none)

pub eats_stmt_name_at2 : (k : Tok) (ks rest : List Tok) → k.kind ≡ (mark m.Colon) → EatsRule typed_value (k ∷ ks) rest →
    EatsRule stmt_name (k ∷ ks) rest
eats_stmt_name_at2 k ks rest h e1 = eats_becomes {r = stmt_name} {Ys = rule typed_value ∷ []} {ks = k ∷ ks} (rw h refl)
    (eats_rule e1 eats_none)

pub eats_stmt_name_other : (ks1 ks2 ks3 ks4 ks5 ks6 ks7 rest : List Tok) → ahead ks1 ≢ Some (mark m.Define) →
    ahead ks1 ≢ Some (mark m.Colon) → EatsRule name_rest ks1 ks2 → EatsRule postfix_tail ks2 ks3 → EatsRule (chain_tail p.Product) ks3 ks4 →
    EatsRule (chain_tail p.Sum) ks4 ks5 → EatsRule comparison_tail ks5 ks6 → EatsRule (chain_tail p.And) ks6 ks7 →
    EatsRule (chain_tail p.Or) ks7 rest → EatsRule stmt_name ks1 rest
eats_stmt_name_other ks1 ks2 ks3 ks4 ks5 ks6 ks7 rest h0 h1 e1 e2 e3 e4 e5 e6 e7 =
    eats_becomes {r = stmt_name} {Ys = rule name_rest ∷ rule postfix_tail ∷ rule (chain_tail p.Product) ∷ rule
    (chain_tail p.Sum) ∷ rule comparison_tail ∷ rule (chain_tail p.And) ∷ rule (chain_tail p.Or) ∷ []} {ks = ks1}
    (rw (unseen (mark m.Define) _ h0, unseen (mark m.Colon) _ h1) refl)
    (eats_rule e1 (eats_rule e2 (eats_rule e3 (eats_rule e4 (eats_rule e5 (eats_rule e6 (eats_rule e7 eats_none)))))))

pub eats_typed_value : (k1 k3 : Tok) (ks2 ks4 rest : List Tok) → k1.kind ≡ (mark m.Colon) → EatsRule a_type ks2 (k3 ∷ ks4) →
    k3.kind ≡ (mark m.Equals) → EatsRule (phrase p.Expr) ks4 rest → EatsRule typed_value (k1 ∷ ks2) rest
eats_typed_value k1 k3 ks2 ks4 rest e1 e2 e3 e4 =
    eats_becomes {r = typed_value} {Ys = a (mark m.Colon) ∷ rule a_type ∷ a (mark m.Equals) ∷ rule (phrase p.Expr) ∷ []} {ks = k1 ∷ ks2}
    refl (eats_tok e1 (eats_rule e2 (eats_tok e3 (eats_rule e4 eats_none))))

pub eats_set_rest : (ks1 ks2 ks3 rest : List Tok) → EatsRule (phrase p.Postfix) ks1 ks2 → EatsRule assign ks2 ks3 →
    EatsRule (phrase p.Expr) ks3 rest → EatsRule set_rest ks1 rest
eats_set_rest ks1 ks2 ks3 rest e1 e2 e3 = eats_becomes {r = set_rest}
    {Ys = rule (phrase p.Postfix) ∷ rule assign ∷ rule (phrase p.Expr) ∷ []} {ks = ks1} refl
    (eats_rule e1 (eats_rule e2 (eats_rule e3 eats_none)))

pub eats_assign_at : (o : Assign) (k : Tok) (rest : List Tok) → assign_at k.kind ≡ Some o → EatsRule assign (k ∷ rest) rest
eats_assign_at o k rest h = eats_takes {r = assign} {Ys = []} (rw h refl) eats_none

pub eats_return_value_at : (ks1 rest : List Tok) → first_is begins_expr ks1 ≡ true → EatsRule (phrase p.Expr) ks1 rest →
    EatsRule return_value ks1 rest
eats_return_value_at ks1 rest h e1 = eats_becomes {r = return_value} {Ys = rule (phrase p.Expr) ∷ []} {ks = ks1} (rw h refl)
    (eats_rule e1 eats_none)

pub eats_return_value_other : (rest : List Tok) → first_is begins_expr rest ≡ false → EatsRule return_value rest rest
eats_return_value_other rest h = eats_becomes {r = return_value} {Ys = []} {ks = rest} (rw h refl) eats_none

pub eats_an_if : (k1 k2 : Tok) (ks3 ks4 ks5 rest : List Tok) → k1.kind ≡ (word w.If) → k2.kind ≡ (mark m.RoundOpen) →
    EatsRule (closed p.Stmt (mark m.Comma) (mark m.RoundClose)) ks3 ks4 → EatsRule taken ks4 ks5 → EatsRule otherwise ks5 rest →
    EatsRule an_if (k1 ∷ (k2 ∷ ks3)) rest
eats_an_if k1 k2 ks3 ks4 ks5 rest e1 e2 e3 e4 e5 =
    eats_becomes {r = an_if} {Ys = a (word w.If) ∷ a (mark m.RoundOpen) ∷ rule (closed p.Stmt (mark m.Comma) (mark m.RoundClose)) ∷ rule
    taken ∷ rule otherwise ∷ []} {ks = k1 ∷ (k2 ∷ ks3)} refl
    (eats_tok e1 (eats_tok e2 (eats_rule e3 (eats_rule e4 (eats_rule e5 eats_none)))))

pub eats_taken_at : (k : Tok) (ks1 rest : List Tok) → k.kind ≡ (word w.Then) → EatsRule (phrase p.Or) ks1 rest →
    EatsRule taken (k ∷ ks1) rest
eats_taken_at k ks1 rest h e1 = eats_takes {r = taken} {Ys = rule (phrase p.Or) ∷ []} (rw h refl) (eats_rule e1 eats_none)

pub eats_taken_other : (ks1 rest : List Tok) → ahead ks1 ≢ Some (word w.Then) → EatsRule (phrase p.Block) ks1 rest → EatsRule taken ks1 rest
eats_taken_other ks1 rest h0 e1 = eats_becomes {r = taken} {Ys = rule (phrase p.Block) ∷ []} {ks = ks1}
    (rw (unseen (word w.Then) _ h0) refl) (eats_rule e1 eats_none)

pub eats_otherwise_at : (k : Tok) (ks1 rest : List Tok) → k.kind ≡ (word w.Else) → EatsRule (phrase p.Body) ks1 rest →
    EatsRule otherwise (k ∷ ks1) rest
eats_otherwise_at k ks1 rest h e1 = eats_takes {r = otherwise} {Ys = rule (phrase p.Body) ∷ []} (rw h refl) (eats_rule e1 eats_none)

pub eats_otherwise_other : (rest : List Tok) → ahead rest ≢ Some (word w.Else) → EatsRule otherwise rest rest
eats_otherwise_other rest h0 = eats_becomes {r = otherwise} {Ys = []} {ks = rest} (rw (unseen (word w.Else) _ h0) refl) eats_none

pub eats_chain_tail_at : (q : Phrase) (o : Operator) (k : Tok) (ks1 ks2 rest : List Tok) → chain_operator q k.kind ≡ Some o →
    EatsRule (phrase (operand q)) ks1 ks2 → EatsRule (chain_tail q) ks2 rest → EatsRule (chain_tail q) (k ∷ ks1) rest
eats_chain_tail_at q o k ks1 ks2 rest h e1 e2 =
    eats_takes {r = chain_tail q} {Ys = rule (phrase (operand q)) ∷ rule (chain_tail q) ∷ []} (rw h refl)
    (eats_rule e1 (eats_rule e2 eats_none))

pub eats_chain_tail_other : (q : Phrase) (rest : List Tok) → first_as (chain_operator q) rest ≡ None → EatsRule (chain_tail q) rest rest
eats_chain_tail_other q rest h = eats_becomes {r = chain_tail q} {Ys = []} {ks = rest} (rw h refl) eats_none

pub eats_comparison_tail_at : (o : Comparison) (k : Tok) (ks1 rest : List Tok) → comparison_at k.kind ≡ Some o →
    EatsRule (phrase p.Sum) ks1 rest → EatsRule comparison_tail (k ∷ ks1) rest
eats_comparison_tail_at o k ks1 rest h e1 =
    eats_takes {r = comparison_tail} {Ys = rule (phrase p.Sum) ∷ []} (rw h refl) (eats_rule e1 eats_none)

pub eats_comparison_tail_other : (rest : List Tok) → first_as comparison_at rest ≡ None → EatsRule comparison_tail rest rest
eats_comparison_tail_other rest h = eats_becomes {r = comparison_tail} {Ys = []} {ks = rest} (rw h refl) eats_none

pub eats_postfix_tail_round : (k : Tok) (ks1 ks2 rest : List Tok) → postfix_start k.kind ≡ Some postfix.Round →
    EatsRule (until p.Expr (mark m.Comma) (mark m.RoundClose)) ks1 ks2 → EatsRule postfix_tail ks2 rest →
    EatsRule postfix_tail (k ∷ ks1) rest
eats_postfix_tail_round k ks1 ks2 rest h e1 e2 =
    eats_takes {r = postfix_tail} {Ys = rule (until p.Expr (mark m.Comma) (mark m.RoundClose)) ∷ rule postfix_tail ∷ []} (rw h refl)
    (eats_rule e1 (eats_rule e2 eats_none))

pub eats_postfix_tail_square : (k : Tok) (ks1 ks2 rest : List Tok) → postfix_start k.kind ≡ Some postfix.Square →
    EatsRule (until p.Expr (mark m.Comma) (mark m.SquareClose)) ks1 ks2 → EatsRule postfix_tail ks2 rest →
    EatsRule postfix_tail (k ∷ ks1) rest
eats_postfix_tail_square k ks1 ks2 rest h e1 e2 =
    eats_takes {r = postfix_tail} {Ys = rule (until p.Expr (mark m.Comma) (mark m.SquareClose)) ∷ rule postfix_tail ∷ []} (rw h refl)
    (eats_rule e1 (eats_rule e2 eats_none))

pub eats_postfix_tail_dot : (k k1 : Tok) (ks2 rest : List Tok) → postfix_start k.kind ≡ Some postfix.Dot → k1.kind ≡ name →
    EatsRule postfix_tail ks2 rest → EatsRule postfix_tail (k ∷ (k1 ∷ ks2)) rest
eats_postfix_tail_dot k k1 ks2 rest h e1 e2 =
    eats_takes {r = postfix_tail} {Ys = a name ∷ rule postfix_tail ∷ []} (rw h refl) (eats_tok e1 (eats_rule e2 eats_none))

pub eats_postfix_tail_question : (k : Tok) (ks1 rest : List Tok) → postfix_start k.kind ≡ Some postfix.Question →
    EatsRule postfix_tail ks1 rest → EatsRule postfix_tail (k ∷ ks1) rest
eats_postfix_tail_question k ks1 rest h e1 =
    eats_takes {r = postfix_tail} {Ys = rule postfix_tail ∷ []} (rw h refl) (eats_rule e1 eats_none)

pub eats_postfix_tail_other : (rest : List Tok) → first_as postfix_start rest ≡ None → EatsRule postfix_tail rest rest
eats_postfix_tail_other rest h = eats_becomes {r = postfix_tail} {Ys = []} {ks = rest} (rw h refl) eats_none

pub eats_row_tail_at : (q : Phrase) (s : TokKind) (k : Tok) (ks1 ks2 rest : List Tok) → k.kind ≡ s → EatsRule (phrase q) ks1 ks2 →
    EatsRule (row_tail q s) ks2 rest → EatsRule (row_tail q s) (k ∷ ks1) rest
eats_row_tail_at q s k ks1 ks2 rest h e1 e2 =
    eats_takes {r = row_tail q s} {Ys = rule (phrase q) ∷ rule (row_tail q s) ∷ []} (rw (seen s k _ h) refl)
    (eats_rule e1 (eats_rule e2 eats_none))

pub eats_row_tail_other : (q : Phrase) (s : TokKind) (rest : List Tok) → ahead rest ≢ Some s → EatsRule (row_tail q s) rest rest
eats_row_tail_other q s rest h0 = eats_becomes {r = row_tail q s} {Ys = []} {ks = rest} (rw (unseen s _ h0) refl) eats_none

pub eats_closed : (q : Phrase) (s : TokKind) (c : TokKind) (k3 : Tok) (ks1 ks2 rest : List Tok) → EatsRule (phrase q) ks1 ks2 →
    EatsRule (row_tail q s) ks2 (k3 ∷ rest) → k3.kind ≡ c → EatsRule (closed q s c) ks1 rest
eats_closed q s c k3 ks1 ks2 rest e1 e2 e3 =
    eats_becomes {r = closed q s c} {Ys = rule (phrase q) ∷ rule (row_tail q s) ∷ a c ∷ []} {ks = ks1} refl
    (eats_rule e1 (eats_rule e2 (eats_tok e3 eats_none)))

pub eats_until_at : (q : Phrase) (s : TokKind) (c : TokKind) (k : Tok) (rest : List Tok) → k.kind ≡ c →
    EatsRule (until q s c) (k ∷ rest) rest
eats_until_at q s c k rest h = eats_takes {r = until q s c} {Ys = []} (rw (seen c k _ h) refl) eats_none

pub eats_until_other : (q : Phrase) (s : TokKind) (c : TokKind) (ks1 rest : List Tok) → ahead ks1 ≢ Some c →
    EatsRule (closed q s c) ks1 rest → EatsRule (until q s c) ks1 rest
eats_until_other q s c ks1 rest h0 e1 = eats_becomes {r = until q s c} {Ys = rule (closed q s c) ∷ []} {ks = ks1} (rw (unseen c _ h0) refl)
    (eats_rule e1 eats_none)

pub eats_hole_rest_at : (k : Tok) (ks1 ks2 rest : List Tok) → k.kind ≡ (tok.Plain token.TextMid) → EatsRule (phrase p.Expr) ks1 ks2 →
    EatsRule hole_rest ks2 rest → EatsRule hole_rest (k ∷ ks1) rest
eats_hole_rest_at k ks1 ks2 rest h e1 e2 =
    eats_takes {r = hole_rest} {Ys = rule (phrase p.Expr) ∷ rule hole_rest ∷ []} (rw h refl) (eats_rule e1 (eats_rule e2 eats_none))

pub eats_hole_rest_other : (k1 : Tok) (rest : List Tok) → ahead (k1 ∷ rest) ≢ Some (tok.Plain token.TextMid) →
    k1.kind ≡ (tok.Plain token.TextClose) → EatsRule hole_rest (k1 ∷ rest) rest
eats_hole_rest_other k1 rest h0 e1 = eats_becomes {r = hole_rest} {Ys = a (tok.Plain token.TextClose) ∷ []} {ks = k1 ∷ rest}
    (rw (unseen (tok.Plain token.TextMid) _ h0) refl) (eats_tok e1 eats_none)

pub eats_name_rest_at : (k : Tok) (ks1 rest : List Tok) → k.kind ≡ tok.Open → EatsRule givens_until ks1 rest →
    EatsRule name_rest (k ∷ ks1) rest
eats_name_rest_at k ks1 rest h e1 = eats_takes {r = name_rest} {Ys = rule givens_until ∷ []} (rw h refl) (eats_rule e1 eats_none)

pub eats_name_rest_other : (rest : List Tok) → ahead rest ≢ Some tok.Open → EatsRule name_rest rest rest
eats_name_rest_other rest h0 = eats_becomes {r = name_rest} {Ys = []} {ks = rest} (rw (unseen tok.Open _ h0) refl) eats_none

pub eats_givens_until_at : (k : Tok) (rest : List Tok) → k.kind ≡ tok.Close → EatsRule givens_until (k ∷ rest) rest
eats_givens_until_at k rest h = eats_takes {r = givens_until} {Ys = []} (rw h refl) eats_none

pub eats_givens_until_other : (k3 : Tok) (ks1 ks2 rest : List Tok) → ahead ks1 ≢ Some tok.Close → EatsRule given ks1 ks2 →
    EatsRule givens_tail ks2 (k3 ∷ rest) → k3.kind ≡ tok.Close → EatsRule givens_until ks1 rest
eats_givens_until_other k3 ks1 ks2 rest h0 e1 e2 e3 =
    eats_becomes {r = givens_until} {Ys = rule given ∷ rule givens_tail ∷ a tok.Close ∷ []} {ks = ks1} (rw (unseen tok.Close _ h0) refl)
    (eats_rule e1 (eats_rule e2 (eats_tok e3 eats_none)))

pub eats_given : (k1 k2 : Tok) (ks3 rest : List Tok) → k1.kind ≡ name → k2.kind ≡ (mark m.Define) → EatsRule (phrase p.Expr) ks3 rest →
    EatsRule given (k1 ∷ (k2 ∷ ks3)) rest
eats_given k1 k2 ks3 rest e1 e2 e3 = eats_becomes {r = given} {Ys = a name ∷ a (mark m.Define) ∷ rule (phrase p.Expr) ∷ []}
    {ks = k1 ∷ (k2 ∷ ks3)} refl (eats_tok e1 (eats_tok e2 (eats_rule e3 eats_none)))

pub eats_givens_tail_at : (k : Tok) (ks1 ks2 rest : List Tok) → k.kind ≡ tok.Sep → EatsRule given ks1 ks2 → EatsRule givens_tail ks2 rest →
    EatsRule givens_tail (k ∷ ks1) rest
eats_givens_tail_at k ks1 ks2 rest h e1 e2 =
    eats_takes {r = givens_tail} {Ys = rule given ∷ rule givens_tail ∷ []} (rw h refl) (eats_rule e1 (eats_rule e2 eats_none))

pub eats_givens_tail_other : (rest : List Tok) → ahead rest ≢ Some tok.Sep → EatsRule givens_tail rest rest
eats_givens_tail_other rest h0 = eats_becomes {r = givens_tail} {Ys = []} {ks = rest} (rw (unseen tok.Sep _ h0) refl) eats_none

pub eats_round_rest_at : (k : Tok) (ks1 rest : List Tok) → k.kind ≡ (mark m.Comma) →
    EatsRule (closed p.Expr (mark m.Comma) (mark m.RoundClose)) ks1 rest → EatsRule round_rest (k ∷ ks1) rest
eats_round_rest_at k ks1 rest h e1 = eats_takes {r = round_rest} {Ys = rule (closed p.Expr (mark m.Comma) (mark m.RoundClose)) ∷ []}
    (rw h refl) (eats_rule e1 eats_none)

pub eats_round_rest_other : (k1 : Tok) (rest : List Tok) → ahead (k1 ∷ rest) ≢ Some (mark m.Comma) → k1.kind ≡ (mark m.RoundClose) →
    EatsRule round_rest (k1 ∷ rest) rest
eats_round_rest_other k1 rest h0 e1 = eats_becomes {r = round_rest} {Ys = a (mark m.RoundClose) ∷ []} {ks = k1 ∷ rest}
    (rw (unseen (mark m.Comma) _ h0) refl) (eats_tok e1 eats_none)

pub eats_pairs_until_at : (k : Tok) (rest : List Tok) → k.kind ≡ tok.Close → EatsRule pairs_until (k ∷ rest) rest
eats_pairs_until_at k rest h = eats_takes {r = pairs_until} {Ys = []} (rw h refl) eats_none

pub eats_pairs_until_other : (k3 : Tok) (ks1 ks2 rest : List Tok) → ahead ks1 ≢ Some tok.Close → EatsRule pair ks1 ks2 →
    EatsRule pairs_tail ks2 (k3 ∷ rest) → k3.kind ≡ tok.Close → EatsRule pairs_until ks1 rest
eats_pairs_until_other k3 ks1 ks2 rest h0 e1 e2 e3 =
    eats_becomes {r = pairs_until} {Ys = rule pair ∷ rule pairs_tail ∷ a tok.Close ∷ []} {ks = ks1} (rw (unseen tok.Close _ h0) refl)
    (eats_rule e1 (eats_rule e2 (eats_tok e3 eats_none)))

pub eats_pair : (k2 : Tok) (ks1 ks3 rest : List Tok) → EatsRule (phrase p.Expr) ks1 (k2 ∷ ks3) → k2.kind ≡ (mark m.FatArrow) →
    EatsRule (phrase p.Expr) ks3 rest → EatsRule pair ks1 rest
eats_pair k2 ks1 ks3 rest e1 e2 e3 = eats_becomes {r = pair} {Ys = rule (phrase p.Expr) ∷ a (mark m.FatArrow) ∷ rule (phrase p.Expr) ∷ []}
    {ks = ks1} refl (eats_rule e1 (eats_tok e2 (eats_rule e3 eats_none)))

pub eats_pairs_tail_at : (k : Tok) (ks1 ks2 rest : List Tok) → k.kind ≡ tok.Sep → EatsRule pair ks1 ks2 → EatsRule pairs_tail ks2 rest →
    EatsRule pairs_tail (k ∷ ks1) rest
eats_pairs_tail_at k ks1 ks2 rest h e1 e2 =
    eats_takes {r = pairs_tail} {Ys = rule pair ∷ rule pairs_tail ∷ []} (rw h refl) (eats_rule e1 (eats_rule e2 eats_none))

pub eats_pairs_tail_other : (rest : List Tok) → ahead rest ≢ Some tok.Sep → EatsRule pairs_tail rest rest
eats_pairs_tail_other rest h0 = eats_becomes {r = pairs_tail} {Ys = []} {ks = rest} (rw (unseen tok.Sep _ h0) refl) eats_none

pub eats_clauses : (k3 : Tok) (ks1 ks2 rest : List Tok) → EatsRule (phrase p.Generator) ks1 ks2 →
    EatsRule (row_tail p.Clause (mark m.Comma)) ks2 (k3 ∷ rest) → k3.kind ≡ (mark m.RoundClose) → EatsRule clauses ks1 rest
eats_clauses k3 ks1 ks2 rest e1 e2 e3 = eats_becomes {r = clauses}
    {Ys = rule (phrase p.Generator) ∷ rule (row_tail p.Clause (mark m.Comma)) ∷ a (mark m.RoundClose) ∷ []} {ks = ks1} refl
    (eats_rule e1 (eats_rule e2 (eats_tok e3 eats_none)))

pub eats_case_rest : (k1 k3 k4 : Tok) (ks2 ks5 rest : List Tok) → k1.kind ≡ (mark m.RoundOpen) →
    EatsRule (phrase p.Expr) ks2 (k3 ∷ (k4 ∷ ks5)) → k3.kind ≡ (mark m.RoundClose) → k4.kind ≡ tok.Open →
    EatsRule (closed p.Arm tok.Sep tok.Close) ks5 rest → EatsRule case_rest (k1 ∷ ks2) rest
eats_case_rest k1 k3 k4 ks2 ks5 rest e1 e2 e3 e4 e5 =
    eats_becomes {r = case_rest} {Ys = a (mark m.RoundOpen) ∷ rule (phrase p.Expr) ∷ a (mark m.RoundClose) ∷ a tok.Open ∷ rule
    (closed p.Arm tok.Sep tok.Close) ∷ []} {ks = k1 ∷ ks2} refl
    (eats_tok e1 (eats_rule e2 (eats_tok e3 (eats_tok e4 (eats_rule e5 eats_none)))))

pub eats_duration_at : (d : Duration) (k : Tok) (rest : List Tok) → duration_at k.kind ≡ Some d → EatsRule duration (k ∷ rest) rest
eats_duration_at d k rest h = eats_takes {r = duration} {Ys = []} (rw h refl) eats_none

pub eats_generator_rest_at1 : (k : Tok) (ks1 rest : List Tok) → k.kind ≡ (mark m.Colon) → EatsRule (phrase p.Sum) ks1 rest →
    EatsRule generator_rest (k ∷ ks1) rest
eats_generator_rest_at1 k ks1 rest h e1 = eats_takes {r = generator_rest} {Ys = rule (phrase p.Sum) ∷ []} (rw h refl)
    (eats_rule e1 eats_none)

pub eats_generator_rest_at2 : (k : Tok) (ks1 rest : List Tok) → k.kind ≡ (mark m.Arrow) → EatsRule entries_rest ks1 rest →
    EatsRule generator_rest (k ∷ ks1) rest
eats_generator_rest_at2 k ks1 rest h e1 = eats_takes {r = generator_rest} {Ys = rule entries_rest ∷ []} (rw h refl) (eats_rule e1 eats_none)

pub eats_generator_rest_at3 : (k k2 : Tok) (ks1 ks3 rest : List Tok) → k.kind ≡ (mark m.Define) → EatsRule (phrase p.Sum) ks1 (k2 ∷ ks3) →
    k2.kind ≡ (mark m.DotDot) → EatsRule (phrase p.Sum) ks3 rest → EatsRule generator_rest (k ∷ ks1) rest
eats_generator_rest_at3 k k2 ks1 ks3 rest h e1 e2 e3 =
    eats_takes {r = generator_rest} {Ys = rule (phrase p.Sum) ∷ a (mark m.DotDot) ∷ rule (phrase p.Sum) ∷ []} (rw h refl)
    (eats_rule e1 (eats_tok e2 (eats_rule e3 eats_none)))

pub eats_entries_rest : (k1 k2 : Tok) (ks3 rest : List Tok) → k1.kind ≡ name → k2.kind ≡ (mark m.Colon) → EatsRule (phrase p.Sum) ks3 rest →
    EatsRule entries_rest (k1 ∷ (k2 ∷ ks3)) rest
eats_entries_rest k1 k2 ks3 rest e1 e2 e3 =
    eats_becomes {r = entries_rest} {Ys = a name ∷ a (mark m.Colon) ∷ rule (phrase p.Sum) ∷ []} {ks = k1 ∷ (k2 ∷ ks3)} refl
    (eats_tok e1 (eats_tok e2 (eats_rule e3 eats_none)))

pub eats_clause_name_at1 : (k : Tok) (ks1 rest : List Tok) → k.kind ≡ (mark m.Colon) → EatsRule (phrase p.Sum) ks1 rest →
    EatsRule clause_name (k ∷ ks1) rest
eats_clause_name_at1 k ks1 rest h e1 = eats_takes {r = clause_name} {Ys = rule (phrase p.Sum) ∷ []} (rw h refl) (eats_rule e1 eats_none)

pub eats_clause_name_at2 : (k : Tok) (ks1 rest : List Tok) → k.kind ≡ (mark m.Arrow) → EatsRule entries_rest ks1 rest →
    EatsRule clause_name (k ∷ ks1) rest
eats_clause_name_at2 k ks1 rest h e1 = eats_takes {r = clause_name} {Ys = rule entries_rest ∷ []} (rw h refl) (eats_rule e1 eats_none)

pub eats_clause_name_at3 : (k : Tok) (ks1 rest : List Tok) → k.kind ≡ (mark m.Define) → EatsRule clause_value ks1 rest →
    EatsRule clause_name (k ∷ ks1) rest
eats_clause_name_at3 k ks1 rest h e1 = eats_takes {r = clause_name} {Ys = rule clause_value ∷ []} (rw h refl) (eats_rule e1 eats_none)

pub eats_clause_name_other : (ks1 ks2 ks3 ks4 ks5 ks6 ks7 rest : List Tok) → ahead ks1 ≢ Some (mark m.Colon) →
    ahead ks1 ≢ Some (mark m.Arrow) → ahead ks1 ≢ Some (mark m.Define) → EatsRule name_rest ks1 ks2 → EatsRule postfix_tail ks2 ks3 →
    EatsRule (chain_tail p.Product) ks3 ks4 → EatsRule (chain_tail p.Sum) ks4 ks5 → EatsRule comparison_tail ks5 ks6 →
    EatsRule (chain_tail p.And) ks6 ks7 → EatsRule (chain_tail p.Or) ks7 rest → EatsRule clause_name ks1 rest
eats_clause_name_other ks1 ks2 ks3 ks4 ks5 ks6 ks7 rest h0 h1 h2 e1 e2 e3 e4 e5 e6 e7 =
    eats_becomes {r = clause_name} {Ys = rule name_rest ∷ rule postfix_tail ∷ rule (chain_tail p.Product) ∷ rule
    (chain_tail p.Sum) ∷ rule comparison_tail ∷ rule (chain_tail p.And) ∷ rule (chain_tail p.Or) ∷ []} {ks = ks1}
    (rw (unseen (mark m.Colon) _ h0, unseen (mark m.Arrow) _ h1, unseen (mark m.Define) _ h2) refl)
    (eats_rule e1 (eats_rule e2 (eats_rule e3 (eats_rule e4 (eats_rule e5 (eats_rule e6 (eats_rule e7 eats_none)))))))

pub eats_clause_value_at1 : (k : Tok) (ks rest : List Tok) → k.kind ≡ (word w.If) → EatsRule an_if (k ∷ ks) rest →
    EatsRule clause_value (k ∷ ks) rest
eats_clause_value_at1 k ks rest h e1 = eats_becomes {r = clause_value} {Ys = rule an_if ∷ []} {ks = k ∷ ks} (rw h refl)
    (eats_rule e1 eats_none)

pub eats_clause_value_at2 : (k : Tok) (ks rest : List Tok) → k.kind ≡ (word w.Not) → EatsRule (phrase p.Or) (k ∷ ks) rest →
    EatsRule clause_value (k ∷ ks) rest
eats_clause_value_at2 k ks rest h e1 = eats_becomes {r = clause_value} {Ys = rule (phrase p.Or) ∷ []} {ks = k ∷ ks} (rw h refl)
    (eats_rule e1 eats_none)

pub eats_clause_value_other : (ks1 ks2 rest : List Tok) → ahead ks1 ≢ Some (word w.If) → ahead ks1 ≢ Some (word w.Not) →
    EatsRule (phrase p.Sum) ks1 ks2 → EatsRule range_rest ks2 rest → EatsRule clause_value ks1 rest
eats_clause_value_other ks1 ks2 rest h0 h1 e1 e2 =
    eats_becomes {r = clause_value} {Ys = rule (phrase p.Sum) ∷ rule range_rest ∷ []} {ks = ks1}
    (rw (unseen (word w.If) _ h0, unseen (word w.Not) _ h1) refl) (eats_rule e1 (eats_rule e2 eats_none))

pub eats_range_rest_at : (k : Tok) (ks1 rest : List Tok) → k.kind ≡ (mark m.DotDot) → EatsRule (phrase p.Sum) ks1 rest →
    EatsRule range_rest (k ∷ ks1) rest
eats_range_rest_at k ks1 rest h e1 = eats_takes {r = range_rest} {Ys = rule (phrase p.Sum) ∷ []} (rw h refl) (eats_rule e1 eats_none)

pub eats_range_rest_other : (ks1 ks2 ks3 rest : List Tok) → ahead ks1 ≢ Some (mark m.DotDot) → EatsRule comparison_tail ks1 ks2 →
    EatsRule (chain_tail p.And) ks2 ks3 → EatsRule (chain_tail p.Or) ks3 rest → EatsRule range_rest ks1 rest
eats_range_rest_other ks1 ks2 ks3 rest h0 e1 e2 e3 =
    eats_becomes {r = range_rest} {Ys = rule comparison_tail ∷ rule (chain_tail p.And) ∷ rule (chain_tail p.Or) ∷ []} {ks = ks1}
    (rw (unseen (mark m.DotDot) _ h0) refl) (eats_rule e1 (eats_rule e2 (eats_rule e3 eats_none)))

pub eats_an_int_at : (n : ℤ) (k : Tok) (rest : List Tok) → int_at k.kind ≡ Some n → EatsRule an_int (k ∷ rest) rest
eats_an_int_at n k rest h = eats_takes {r = an_int} {Ys = []} (rw h refl) eats_none
