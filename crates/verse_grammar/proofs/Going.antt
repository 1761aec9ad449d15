-- Loops over rules that end in themselves.
use Rattle.std.proofs.Common.{◌≡◌, ◌≢◌, ℕ, ℤ, true, false, List, [], ◌∷◌, Option, Some, None, length, refl}
use Rattle.verse_lex.specs.declared.tokens.Word.TheVariants as w
use Rattle.verse_lex.specs.declared.tokens.Mark.TheVariants as m
use Rattle.verse_lex.specs.declared.tokens.TokenKind.TheVariants as token
use Rattle.verse_layout.specs.declared.toks.TokKind.{TokKind}
use Rattle.verse_layout.specs.declared.toks.TokKind.TheVariants as tok
use Rattle.verse_layout.specs.declared.toks.Tok.{Tok}
use Rattle.verse_tree.specs.declared.exprs.Assign.{Assign}
use Rattle.verse_tree.specs.declared.exprs.Comparison.{Comparison}
use Rattle.verse_tree.specs.declared.exprs.Operator.{Operator}
use Rattle.verse_grammar.specs.Toks.{word, mark, name, ahead}
use Rattle.verse_grammar.specs.Starts.{type_start, primary_start, postfix_start, stmt_start, pattern_start, item_start, comparison_at}
use Rattle.verse_grammar.specs.Starts.{assign_at, duration_at, int_at, begins_expr}
use Rattle.verse_grammar.specs.Exprs.{chain_operator, operand}
use Rattle.verse_grammar.specs.declared.phrases.Phrase.{Phrase}
use Rattle.verse_grammar.specs.declared.phrases.Phrase.TheVariants as p
use Rattle.verse_grammar.specs.declared.starts.Duration.{Duration}
use Rattle.verse_grammar.specs.declared.starts.TypeStart.TheVariants as type
use Rattle.verse_grammar.specs.declared.starts.PrimaryStart.TheVariants as primary
use Rattle.verse_grammar.specs.declared.starts.PostfixStart.TheVariants as postfix
use Rattle.verse_grammar.specs.declared.starts.StmtStart.TheVariants as stmt
use Rattle.verse_grammar.specs.declared.starts.PatternStart.TheVariants as pattern
use Rattle.verse_grammar.specs.declared.starts.ItemStart.TheVariants as item
use Rattle.verse_grammar.specs.Symbols.{Rule, a, rule, first_as, first_is, a_type, bracket_rest, tuple_rest, types, types_tail}
use Rattle.verse_grammar.specs.Symbols.{bracket_type, bracket_type_rest, phrase, stmt_name, typed_value, set_rest, assign, return_value}
use Rattle.verse_grammar.specs.Symbols.{an_if, taken, otherwise, chain_tail, comparison_tail, postfix_tail, row_tail, closed, until}
use Rattle.verse_grammar.specs.Symbols.{hole_rest, name_rest, givens_until, given, givens_tail, round_rest, pairs_until, pair, pairs_tail}
use Rattle.verse_grammar.specs.Symbols.{clauses, case_rest, duration, generator_rest, entries_rest, clause_name, clause_value, range_rest}
use Rattle.verse_grammar.specs.Symbols.{an_int, program, items_tail, an_item, using_rest, dotted, dots_tail, path_tail, specs, item_rest}
use Rattle.verse_grammar.specs.Symbols.{enum_or_class, enum_rest, values_until, values_tail, class_rest, parent, members_until}
use Rattle.verse_grammar.specs.Symbols.{members_tail, member, member_rest, field_rest, default, fun_rest, params_until, param, params_tail}
use Rattle.verse_grammar.proofs.Sights.{seen, unseen}
use Rattle.verse_grammar.specs.Reading.{EatsRule, SticksRule}
use Rattle.verse_grammar.specs.Loops.{Goes}
use Rattle.verse_grammar.proofs.Eating.{eats_a_type_option, eats_chain_tail_at, eats_givens_tail_at, eats_hole_rest_at, eats_minus_at}
use Rattle.verse_grammar.proofs.Eating.{eats_not_at, eats_pairs_tail_at, eats_postfix_tail_dot, eats_postfix_tail_question}
use Rattle.verse_grammar.proofs.Eating.{eats_postfix_tail_round, eats_postfix_tail_square, eats_row_tail_at, eats_types_tail_at}
use Rattle.verse_grammar.proofs.Sticking.{sticks_a_type_option_1}
use Rattle.verse_grammar.proofs.StickingParts.{sticks_chain_tail_at_1, sticks_chain_tail_at_2, sticks_givens_tail_at_1}
use Rattle.verse_grammar.proofs.Sticking.{sticks_minus_at_1}
use Rattle.verse_grammar.proofs.StickingParts.{sticks_givens_tail_at_2, sticks_hole_rest_at_1, sticks_hole_rest_at_2}
use Rattle.verse_grammar.proofs.Sticking.{sticks_not_at_1}
use Rattle.verse_grammar.proofs.StickingParts.{sticks_pairs_tail_at_1, sticks_pairs_tail_at_2, sticks_postfix_tail_dot_1}
use Rattle.verse_grammar.proofs.StickingParts.{sticks_postfix_tail_dot_2, sticks_postfix_tail_question_1, sticks_postfix_tail_round_1}
use Rattle.verse_grammar.proofs.StickingParts.{sticks_postfix_tail_round_2, sticks_postfix_tail_square_1, sticks_postfix_tail_square_2}
use Rattle.verse_grammar.proofs.Sticking.{sticks_types_tail_at_1, sticks_types_tail_at_2}
use Rattle.verse_grammar.proofs.StickingParts.{sticks_row_tail_at_1, sticks_row_tail_at_2}

pub goes_start : (r : Rule) (ks : List Tok) → Goes r ks ks
goes_start r ks = record { eats = λ rest e. e; sticks = λ left x. x }

pub goes_eats : (r : Rule) (ks ls rest : List Tok) → Goes r ks ls → EatsRule r ls rest → EatsRule r ks rest
goes_eats r ks ls rest g e = g.eats rest e

pub goes_sticks : (r : Rule) (ks ls : List Tok) (left : ℕ) → Goes r ks ls → SticksRule r ls left → SticksRule r ks left
goes_sticks r ks ls left g x = g.sticks left x

pub goes_a_type_option : (k : Tok) (ks0 rest : List Tok) → Goes a_type ks0 (k ∷ rest) → type_start k.kind ≡ Some type.Option →
    Goes a_type ks0 rest
goes_a_type_option k ks0 rest g h = record {
  eats = λ more e. g.eats more (eats_a_type_option k rest more h e);
  sticks = λ left x. g.sticks left (sticks_a_type_option_1 left k rest h x);
}

pub goes_types_tail_at : (k : Tok) (ks0 ks1 rest : List Tok) → Goes types_tail ks0 (k ∷ ks1) → k.kind ≡ (mark m.Comma) →
    EatsRule a_type ks1 rest → Goes types_tail ks0 rest
goes_types_tail_at k ks0 ks1 rest g h e1 = record {
  eats = λ more e. g.eats more (eats_types_tail_at k ks1 rest more h e1 e);
  sticks = λ left x. g.sticks left (sticks_types_tail_at_2 left k ks1 rest h e1 x);
}

pub stuck_types_tail_at_1 : (left : ℕ) (k : Tok) (ks0 at : List Tok) → Goes types_tail ks0 (k ∷ at) → k.kind ≡ (mark m.Comma) →
    SticksRule a_type at left → SticksRule types_tail ks0 left
stuck_types_tail_at_1 left k ks0 at g h x = g.sticks left (sticks_types_tail_at_1 left k at h x)

pub goes_not_at : (k : Tok) (ks0 rest : List Tok) → Goes (phrase p.Not) ks0 (k ∷ rest) → k.kind ≡ (word w.Not) →
    Goes (phrase p.Not) ks0 rest
goes_not_at k ks0 rest g h = record {
  eats = λ more e. g.eats more (eats_not_at k rest more h e);
  sticks = λ left x. g.sticks left (sticks_not_at_1 left k rest h x);
}

pub goes_minus_at : (k : Tok) (ks0 rest : List Tok) → Goes (phrase p.Minus) ks0 (k ∷ rest) → k.kind ≡ (mark m.Minus) →
    Goes (phrase p.Minus) ks0 rest
goes_minus_at k ks0 rest g h = record {
  eats = λ more e. g.eats more (eats_minus_at k rest more h e);
  sticks = λ left x. g.sticks left (sticks_minus_at_1 left k rest h x);
}

pub goes_chain_tail_at : (q : Phrase) (o : Operator) (k : Tok) (ks0 ks1 rest : List Tok) → Goes (chain_tail q) ks0 (k ∷ ks1) →
    chain_operator q k.kind ≡ Some o → EatsRule (phrase (operand q)) ks1 rest → Goes (chain_tail q) ks0 rest
goes_chain_tail_at q o k ks0 ks1 rest g h e1 = record {
  eats = λ more e. g.eats more (eats_chain_tail_at q o k ks1 rest more h e1 e);
  sticks = λ left x. g.sticks left (sticks_chain_tail_at_2 q o left k ks1 rest h e1 x);
}

pub stuck_chain_tail_at_1 : (q : Phrase) (o : Operator) (left : ℕ) (k : Tok) (ks0 at : List Tok) → Goes (chain_tail q) ks0 (k ∷ at) →
    chain_operator q k.kind ≡ Some o → SticksRule (phrase (operand q)) at left → SticksRule (chain_tail q) ks0 left
stuck_chain_tail_at_1 q o left k ks0 at g h x = g.sticks left (sticks_chain_tail_at_1 q o left k at h x)

pub goes_postfix_tail_round : (k : Tok) (ks0 ks1 rest : List Tok) → Goes postfix_tail ks0 (k ∷ ks1) →
    postfix_start k.kind ≡ Some postfix.Round → EatsRule (until p.Expr (mark m.Comma) (mark m.RoundClose)) ks1 rest →
    Goes postfix_tail ks0 rest
goes_postfix_tail_round k ks0 ks1 rest g h e1 = record {
  eats = λ more e. g.eats more (eats_postfix_tail_round k ks1 rest more h e1 e);
  sticks = λ left x. g.sticks left (sticks_postfix_tail_round_2 left k ks1 rest h e1 x);
}

pub stuck_postfix_tail_round_1 : (left : ℕ) (k : Tok) (ks0 at : List Tok) → Goes postfix_tail ks0 (k ∷ at) →
    postfix_start k.kind ≡ Some postfix.Round → SticksRule (until p.Expr (mark m.Comma) (mark m.RoundClose)) at left →
    SticksRule postfix_tail ks0 left
stuck_postfix_tail_round_1 left k ks0 at g h x = g.sticks left (sticks_postfix_tail_round_1 left k at h x)

pub goes_postfix_tail_square : (k : Tok) (ks0 ks1 rest : List Tok) → Goes postfix_tail ks0 (k ∷ ks1) →
    postfix_start k.kind ≡ Some postfix.Square → EatsRule (until p.Expr (mark m.Comma) (mark m.SquareClose)) ks1 rest →
    Goes postfix_tail ks0 rest
goes_postfix_tail_square k ks0 ks1 rest g h e1 = record {
  eats = λ more e. g.eats more (eats_postfix_tail_square k ks1 rest more h e1 e);
  sticks = λ left x. g.sticks left (sticks_postfix_tail_square_2 left k ks1 rest h e1 x);
}

pub stuck_postfix_tail_square_1 : (left : ℕ) (k : Tok) (ks0 at : List Tok) → Goes postfix_tail ks0 (k ∷ at) →
    postfix_start k.kind ≡ Some postfix.Square → SticksRule (until p.Expr (mark m.Comma) (mark m.SquareClose)) at left →
    SticksRule postfix_tail ks0 left
stuck_postfix_tail_square_1 left k ks0 at g h x = g.sticks left (sticks_postfix_tail_square_1 left k at h x)

pub goes_postfix_tail_dot : (k k1 : Tok) (ks0 rest : List Tok) → Goes postfix_tail ks0 (k ∷ (k1 ∷ rest)) →
    postfix_start k.kind ≡ Some postfix.Dot → k1.kind ≡ name → Goes postfix_tail ks0 rest
goes_postfix_tail_dot k k1 ks0 rest g h e1 = record {
  eats = λ more e. g.eats more (eats_postfix_tail_dot k k1 rest more h e1 e);
  sticks = λ left x. g.sticks left (sticks_postfix_tail_dot_2 left k k1 rest h e1 x);
}

pub stuck_postfix_tail_dot_1 : (k : Tok) (ks0 at : List Tok) → Goes postfix_tail ks0 (k ∷ at) → postfix_start k.kind ≡ Some postfix.Dot →
    ahead at ≢ Some name → SticksRule postfix_tail ks0 (length at)
stuck_postfix_tail_dot_1 k ks0 at g h x = g.sticks (length at) (sticks_postfix_tail_dot_1 k at h x)

pub goes_postfix_tail_question : (k : Tok) (ks0 rest : List Tok) → Goes postfix_tail ks0 (k ∷ rest) →
    postfix_start k.kind ≡ Some postfix.Question → Goes postfix_tail ks0 rest
goes_postfix_tail_question k ks0 rest g h = record {
  eats = λ more e. g.eats more (eats_postfix_tail_question k rest more h e);
  sticks = λ left x. g.sticks left (sticks_postfix_tail_question_1 left k rest h x);
}

pub goes_row_tail_at : (q : Phrase) (s : TokKind) (k : Tok) (ks0 ks1 rest : List Tok) → Goes (row_tail q s) ks0 (k ∷ ks1) → k.kind ≡ s →
    EatsRule (phrase q) ks1 rest → Goes (row_tail q s) ks0 rest
goes_row_tail_at q s k ks0 ks1 rest g h e1 = record {
  eats = λ more e. g.eats more (eats_row_tail_at q s k ks1 rest more h e1 e);
  sticks = λ left x. g.sticks left (sticks_row_tail_at_2 q s left k ks1 rest h e1 x);
}

pub stuck_row_tail_at_1 : (q : Phrase) (s : TokKind) (left : ℕ) (k : Tok) (ks0 at : List Tok) → Goes (row_tail q s) ks0 (k ∷ at) →
    k.kind ≡ s → SticksRule (phrase q) at left → SticksRule (row_tail q s) ks0 left
stuck_row_tail_at_1 q s left k ks0 at g h x = g.sticks left (sticks_row_tail_at_1 q s left k at h x)

pub goes_hole_rest_at : (k : Tok) (ks0 ks1 rest : List Tok) → Goes hole_rest ks0 (k ∷ ks1) → k.kind ≡ (tok.Plain token.TextMid) →
    EatsRule (phrase p.Expr) ks1 rest → Goes hole_rest ks0 rest
goes_hole_rest_at k ks0 ks1 rest g h e1 = record {
  eats = λ more e. g.eats more (eats_hole_rest_at k ks1 rest more h e1 e);
  sticks = λ left x. g.sticks left (sticks_hole_rest_at_2 left k ks1 rest h e1 x);
}

pub stuck_hole_rest_at_1 : (left : ℕ) (k : Tok) (ks0 at : List Tok) → Goes hole_rest ks0 (k ∷ at) → k.kind ≡ (tok.Plain token.TextMid) →
    SticksRule (phrase p.Expr) at left → SticksRule hole_rest ks0 left
stuck_hole_rest_at_1 left k ks0 at g h x = g.sticks left (sticks_hole_rest_at_1 left k at h x)

pub goes_givens_tail_at : (k : Tok) (ks0 ks1 rest : List Tok) → Goes givens_tail ks0 (k ∷ ks1) → k.kind ≡ tok.Sep →
    EatsRule given ks1 rest → Goes givens_tail ks0 rest
goes_givens_tail_at k ks0 ks1 rest g h e1 = record {
  eats = λ more e. g.eats more (eats_givens_tail_at k ks1 rest more h e1 e);
  sticks = λ left x. g.sticks left (sticks_givens_tail_at_2 left k ks1 rest h e1 x);
}

pub stuck_givens_tail_at_1 : (left : ℕ) (k : Tok) (ks0 at : List Tok) → Goes givens_tail ks0 (k ∷ at) → k.kind ≡ tok.Sep →
    SticksRule given at left → SticksRule givens_tail ks0 left
stuck_givens_tail_at_1 left k ks0 at g h x = g.sticks left (sticks_givens_tail_at_1 left k at h x)

pub goes_pairs_tail_at : (k : Tok) (ks0 ks1 rest : List Tok) → Goes pairs_tail ks0 (k ∷ ks1) → k.kind ≡ tok.Sep → EatsRule pair ks1 rest →
    Goes pairs_tail ks0 rest
goes_pairs_tail_at k ks0 ks1 rest g h e1 = record {
  eats = λ more e. g.eats more (eats_pairs_tail_at k ks1 rest more h e1 e);
  sticks = λ left x. g.sticks left (sticks_pairs_tail_at_2 left k ks1 rest h e1 x);
}

pub stuck_pairs_tail_at_1 : (left : ℕ) (k : Tok) (ks0 at : List Tok) → Goes pairs_tail ks0 (k ∷ at) → k.kind ≡ tok.Sep →
    SticksRule pair at left → SticksRule pairs_tail ks0 left
stuck_pairs_tail_at_1 left k ks0 at g h x = g.sticks left (sticks_pairs_tail_at_1 left k at h x)
