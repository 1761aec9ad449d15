-- Loops over rules of items that end in themselves.
use Rattle.std.proofs.Common.{◌≡◌, ◌≢◌, ℕ, ℤ, true, false, List, [], ◌∷◌, Option, Some, None, length, refl}
use Rattle.verse_lex.specs.declared.tokens.Word.TheVariants as w
use Rattle.verse_lex.specs.declared.tokens.Mark.TheVariants as m
use Rattle.verse_lex.specs.declared.tokens.TokenKind.TheVariants as token
use Rattle.verse_layout.specs.declared.toks.TokKind.{TokKind}
use Rattle.verse_layout.specs.declared.toks.TokKind.TheVariants as tok
use Rattle.verse_layout.specs.declared.toks.Tok.{Tok}
use Rattle.verse_tree.specs.declared.exprs.Assign.{Assign}
use Rattle.verse_tree.specs.declared.exprs.Comparison.{Comparison}
use Rattle.verse_tree.specs.declared.exprs.Operator.{Operator}
use Rattle.verse_grammar.specs.Toks.{word, mark, name, ahead}
use Rattle.verse_grammar.specs.Starts.{type_start, primary_start, postfix_start, stmt_start, pattern_start, item_start, comparison_at}
use Rattle.verse_grammar.specs.Starts.{assign_at, duration_at, int_at, begins_expr}
use Rattle.verse_grammar.specs.Exprs.{chain_operator, operand}
use Rattle.verse_grammar.specs.declared.phrases.Phrase.{Phrase}
use Rattle.verse_grammar.specs.declared.phrases.Phrase.TheVariants as p
use Rattle.verse_grammar.specs.declared.starts.Duration.{Duration}
use Rattle.verse_grammar.specs.declared.starts.TypeStart.TheVariants as type
use Rattle.verse_grammar.specs.declared.starts.PrimaryStart.TheVariants as primary
use Rattle.verse_grammar.specs.declared.starts.PostfixStart.TheVariants as postfix
use Rattle.verse_grammar.specs.declared.starts.StmtStart.TheVariants as stmt
use Rattle.verse_grammar.specs.declared.starts.PatternStart.TheVariants as pattern
use Rattle.verse_grammar.specs.declared.starts.ItemStart.TheVariants as item
use Rattle.verse_grammar.specs.Symbols.{Rule, a, rule, first_as, first_is, a_type, bracket_rest, tuple_rest, types, types_tail}
use Rattle.verse_grammar.specs.Symbols.{bracket_type, bracket_type_rest, phrase, stmt_name, typed_value, set_rest, assign, return_value}
use Rattle.verse_grammar.specs.Symbols.{an_if, taken, otherwise, chain_tail, comparison_tail, postfix_tail, row_tail, closed, until}
use Rattle.verse_grammar.specs.Symbols.{hole_rest, name_rest, givens_until, given, givens_tail, round_rest, pairs_until, pair, pairs_tail}
use Rattle.verse_grammar.specs.Symbols.{clauses, case_rest, duration, generator_rest, entries_rest, clause_name, clause_value, range_rest}
use Rattle.verse_grammar.specs.Symbols.{an_int, program, items_tail, an_item, using_rest, dotted, dots_tail, path_tail, specs, item_rest}
use Rattle.verse_grammar.specs.Symbols.{enum_or_class, enum_rest, values_until, values_tail, class_rest, parent, members_until}
use Rattle.verse_grammar.specs.Symbols.{members_tail, member, member_rest, field_rest, default, fun_rest, params_until, param, params_tail}
use Rattle.verse_grammar.proofs.Sights.{seen, unseen}
use Rattle.verse_grammar.specs.Reading.{EatsRule, SticksRule}
use Rattle.verse_grammar.specs.Loops.{Goes}
use Rattle.verse_grammar.proofs.EatingItems.{eats_dots_tail_at, eats_items_tail_at, eats_members_tail_at, eats_params_tail_at}
use Rattle.verse_grammar.proofs.EatingItems.{eats_path_tail_at, eats_specs_at, eats_values_tail_at}
use Rattle.verse_grammar.proofs.StickingItems.{sticks_dots_tail_at_1, sticks_dots_tail_at_2, sticks_items_tail_at_1, sticks_items_tail_at_2}
use Rattle.verse_grammar.proofs.StickingItems.{sticks_members_tail_at_1, sticks_members_tail_at_2, sticks_params_tail_at_1}
use Rattle.verse_grammar.proofs.StickingItems.{sticks_params_tail_at_2, sticks_path_tail_at_1, sticks_path_tail_at_2, sticks_specs_at_1}
use Rattle.verse_grammar.proofs.StickingItems.{sticks_specs_at_2, sticks_specs_at_3, sticks_values_tail_at_1, sticks_values_tail_at_2}

pub goes_items_tail_at : (k : Tok) (ks0 ks1 rest : List Tok) → Goes items_tail ks0 (k ∷ ks1) → k.kind ≡ tok.Sep →
    EatsRule an_item ks1 rest → Goes items_tail ks0 rest
goes_items_tail_at k ks0 ks1 rest g h e1 = record {
  eats = λ more e. g.eats more (eats_items_tail_at k ks1 rest more h e1 e);
  sticks = λ left x. g.sticks left (sticks_items_tail_at_2 left k ks1 rest h e1 x);
}

pub stuck_items_tail_at_1 : (left : ℕ) (k : Tok) (ks0 at : List Tok) → Goes items_tail ks0 (k ∷ at) → k.kind ≡ tok.Sep →
    SticksRule an_item at left → SticksRule items_tail ks0 left
stuck_items_tail_at_1 left k ks0 at g h x = g.sticks left (sticks_items_tail_at_1 left k at h x)

pub goes_dots_tail_at : (k k1 : Tok) (ks0 rest : List Tok) → Goes dots_tail ks0 (k ∷ (k1 ∷ rest)) → k.kind ≡ (mark m.Dot) → k1.kind ≡ name →
    Goes dots_tail ks0 rest
goes_dots_tail_at k k1 ks0 rest g h e1 = record {
  eats = λ more e. g.eats more (eats_dots_tail_at k k1 rest more h e1 e);
  sticks = λ left x. g.sticks left (sticks_dots_tail_at_2 left k k1 rest h e1 x);
}

pub stuck_dots_tail_at_1 : (k : Tok) (ks0 at : List Tok) → Goes dots_tail ks0 (k ∷ at) → k.kind ≡ (mark m.Dot) → ahead at ≢ Some name →
    SticksRule dots_tail ks0 (length at)
stuck_dots_tail_at_1 k ks0 at g h x = g.sticks (length at) (sticks_dots_tail_at_1 k at h x)

pub goes_path_tail_at : (k : Tok) (ks0 ks1 rest : List Tok) → Goes path_tail ks0 (k ∷ ks1) → k.kind ≡ (mark m.Slash) →
    EatsRule dotted ks1 rest → Goes path_tail ks0 rest
goes_path_tail_at k ks0 ks1 rest g h e1 = record {
  eats = λ more e. g.eats more (eats_path_tail_at k ks1 rest more h e1 e);
  sticks = λ left x. g.sticks left (sticks_path_tail_at_2 left k ks1 rest h e1 x);
}

pub stuck_path_tail_at_1 : (left : ℕ) (k : Tok) (ks0 at : List Tok) → Goes path_tail ks0 (k ∷ at) → k.kind ≡ (mark m.Slash) →
    SticksRule dotted at left → SticksRule path_tail ks0 left
stuck_path_tail_at_1 left k ks0 at g h x = g.sticks left (sticks_path_tail_at_1 left k at h x)

pub goes_specs_at : (k k1 k2 : Tok) (ks0 rest : List Tok) → Goes specs ks0 (k ∷ (k1 ∷ (k2 ∷ rest))) → k.kind ≡ (mark m.Below) →
    k1.kind ≡ name → k2.kind ≡ (mark m.Above) → Goes specs ks0 rest
goes_specs_at k k1 k2 ks0 rest g h e1 e2 = record {
  eats = λ more e. g.eats more (eats_specs_at k k1 k2 rest more h e1 e2 e);
  sticks = λ left x. g.sticks left (sticks_specs_at_3 left k k1 k2 rest h e1 e2 x);
}

pub stuck_specs_at_1 : (k : Tok) (ks0 at : List Tok) → Goes specs ks0 (k ∷ at) → k.kind ≡ (mark m.Below) → ahead at ≢ Some name →
    SticksRule specs ks0 (length at)
stuck_specs_at_1 k ks0 at g h x = g.sticks (length at) (sticks_specs_at_1 k at h x)

pub stuck_specs_at_2 : (k k1 : Tok) (ks0 at : List Tok) → Goes specs ks0 (k ∷ (k1 ∷ at)) → k.kind ≡ (mark m.Below) → k1.kind ≡ name →
    ahead at ≢ Some (mark m.Above) → SticksRule specs ks0 (length at)
stuck_specs_at_2 k k1 ks0 at g h e1 x = g.sticks (length at) (sticks_specs_at_2 k k1 at h e1 x)

pub goes_values_tail_at : (k k1 : Tok) (ks0 rest : List Tok) → Goes values_tail ks0 (k ∷ (k1 ∷ rest)) → k.kind ≡ tok.Sep → k1.kind ≡ name →
    Goes values_tail ks0 rest
goes_values_tail_at k k1 ks0 rest g h e1 = record {
  eats = λ more e. g.eats more (eats_values_tail_at k k1 rest more h e1 e);
  sticks = λ left x. g.sticks left (sticks_values_tail_at_2 left k k1 rest h e1 x);
}

pub stuck_values_tail_at_1 : (k : Tok) (ks0 at : List Tok) → Goes values_tail ks0 (k ∷ at) → k.kind ≡ tok.Sep → ahead at ≢ Some name →
    SticksRule values_tail ks0 (length at)
stuck_values_tail_at_1 k ks0 at g h x = g.sticks (length at) (sticks_values_tail_at_1 k at h x)

pub goes_members_tail_at : (k : Tok) (ks0 ks1 rest : List Tok) → Goes members_tail ks0 (k ∷ ks1) → k.kind ≡ tok.Sep →
    EatsRule member ks1 rest → Goes members_tail ks0 rest
goes_members_tail_at k ks0 ks1 rest g h e1 = record {
  eats = λ more e. g.eats more (eats_members_tail_at k ks1 rest more h e1 e);
  sticks = λ left x. g.sticks left (sticks_members_tail_at_2 left k ks1 rest h e1 x);
}

pub stuck_members_tail_at_1 : (left : ℕ) (k : Tok) (ks0 at : List Tok) → Goes members_tail ks0 (k ∷ at) → k.kind ≡ tok.Sep →
    SticksRule member at left → SticksRule members_tail ks0 left
stuck_members_tail_at_1 left k ks0 at g h x = g.sticks left (sticks_members_tail_at_1 left k at h x)

pub goes_params_tail_at : (k : Tok) (ks0 ks1 rest : List Tok) → Goes params_tail ks0 (k ∷ ks1) → k.kind ≡ (mark m.Comma) →
    EatsRule param ks1 rest → Goes params_tail ks0 rest
goes_params_tail_at k ks0 ks1 rest g h e1 = record {
  eats = λ more e. g.eats more (eats_params_tail_at k ks1 rest more h e1 e);
  sticks = λ left x. g.sticks left (sticks_params_tail_at_2 left k ks1 rest h e1 x);
}

pub stuck_params_tail_at_1 : (left : ℕ) (k : Tok) (ks0 at : List Tok) → Goes params_tail ks0 (k ∷ at) → k.kind ≡ (mark m.Comma) →
    SticksRule param at left → SticksRule params_tail ks0 left
stuck_params_tail_at_1 left k ks0 at g h x = g.sticks left (sticks_params_tail_at_1 left k at h x)
