-- Where each rule of items cannot go on.
use Rattle.std.proofs.Common.{◌≡◌, ◌≢◌, ℕ, ℤ, true, false, List, [], ◌∷◌, Option, Some, None, length, refl}
use Rattle.verse_lex.specs.declared.tokens.Word.TheVariants as w
use Rattle.verse_lex.specs.declared.tokens.Mark.TheVariants as m
use Rattle.verse_lex.specs.declared.tokens.TokenKind.TheVariants as token
use Rattle.verse_layout.specs.declared.toks.TokKind.{TokKind}
use Rattle.verse_layout.specs.declared.toks.TokKind.TheVariants as tok
use Rattle.verse_layout.specs.declared.toks.Tok.{Tok}
use Rattle.verse_tree.specs.declared.exprs.Assign.{Assign}
use Rattle.verse_tree.specs.declared.exprs.Comparison.{Comparison}
use Rattle.verse_tree.specs.declared.exprs.Operator.{Operator}
use Rattle.verse_grammar.specs.Toks.{word, mark, name, ahead}
use Rattle.verse_grammar.specs.Starts.{type_start, primary_start, postfix_start, stmt_start, pattern_start, item_start, comparison_at}
use Rattle.verse_grammar.specs.Starts.{assign_at, duration_at, int_at, begins_expr}
use Rattle.verse_grammar.specs.Exprs.{chain_operator, operand}
use Rattle.verse_grammar.specs.declared.phrases.Phrase.{Phrase}
use Rattle.verse_grammar.specs.declared.phrases.Phrase.TheVariants as p
use Rattle.verse_grammar.specs.declared.starts.Duration.{Duration}
use Rattle.verse_grammar.specs.declared.starts.TypeStart.TheVariants as type
use Rattle.verse_grammar.specs.declared.starts.PrimaryStart.TheVariants as primary
use Rattle.verse_grammar.specs.declared.starts.PostfixStart.TheVariants as postfix
use Rattle.verse_grammar.specs.declared.starts.StmtStart.TheVariants as stmt
use Rattle.verse_grammar.specs.declared.starts.PatternStart.TheVariants as pattern
use Rattle.verse_grammar.specs.declared.starts.ItemStart.TheVariants as item
use Rattle.verse_grammar.specs.Symbols.{a, rule, first_as, first_is, a_type, bracket_rest, tuple_rest, types, types_tail, bracket_type}
use Rattle.verse_grammar.specs.Symbols.{bracket_type_rest, phrase, stmt_name, typed_value, set_rest, assign, return_value, an_if, taken}
use Rattle.verse_grammar.specs.Symbols.{otherwise, chain_tail, comparison_tail, postfix_tail, row_tail, closed, until, hole_rest, name_rest}
use Rattle.verse_grammar.specs.Symbols.{givens_until, given, givens_tail, round_rest, pairs_until, pair, pairs_tail, clauses, case_rest}
use Rattle.verse_grammar.specs.Symbols.{duration, generator_rest, entries_rest, clause_name, clause_value, range_rest, an_int, program}
use Rattle.verse_grammar.specs.Symbols.{items_tail, an_item, using_rest, dotted, dots_tail, path_tail, specs, item_rest, enum_or_class}
use Rattle.verse_grammar.specs.Symbols.{enum_rest, values_until, values_tail, class_rest, parent, members_until, members_tail, member}
use Rattle.verse_grammar.specs.Symbols.{member_rest, field_rest, default, fun_rest, params_until, param, params_tail}
use Rattle.verse_grammar.proofs.Sights.{seen, unseen}
use Rattle.verse_grammar.specs.Reading.{EatsRule, SticksRule, eats_none, eats_tok, eats_rule, eats_takes, eats_becomes, sticks_here}
use Rattle.verse_grammar.specs.Reading.{sticks_behind_tok, sticks_in_rule, sticks_behind_rule, sticks_refused, sticks_takes, sticks_becomes}

pub sticks_program_some_1 : (left : ℕ) (k : Tok) (ks : List Tok) → SticksRule an_item (k ∷ ks) left → SticksRule program (k ∷ ks) left
sticks_program_some_1 left k ks x = sticks_becomes {r = program} {Ys = rule an_item ∷ rule items_tail ∷ []} {ks = k ∷ ks} refl
    (sticks_in_rule x)

pub sticks_program_some_2 : (left : ℕ) (k : Tok) (ks at : List Tok) → EatsRule an_item (k ∷ ks) at → SticksRule items_tail at left →
    SticksRule program (k ∷ ks) left
sticks_program_some_2 left k ks at e1 x = sticks_becomes {r = program} {Ys = rule an_item ∷ rule items_tail ∷ []} {ks = k ∷ ks} refl
    (sticks_behind_rule e1 (sticks_in_rule x))

pub sticks_items_tail_at_1 : (left : ℕ) (k : Tok) (at : List Tok) → k.kind ≡ tok.Sep → SticksRule an_item at left →
    SticksRule items_tail (k ∷ at) left
sticks_items_tail_at_1 left k at h x = sticks_takes {r = items_tail} {Ys = rule an_item ∷ rule items_tail ∷ []} (rw h refl)
    (sticks_in_rule x)

pub sticks_items_tail_at_2 : (left : ℕ) (k : Tok) (ks1 at : List Tok) → k.kind ≡ tok.Sep → EatsRule an_item ks1 at →
    SticksRule items_tail at left → SticksRule items_tail (k ∷ ks1) left
sticks_items_tail_at_2 left k ks1 at h e1 x =
    sticks_takes {r = items_tail} {Ys = rule an_item ∷ rule items_tail ∷ []} (rw h refl) (sticks_behind_rule e1 (sticks_in_rule x))

pub sticks_an_item_using_1 : (left : ℕ) (k : Tok) (at : List Tok) → item_start k.kind ≡ Some item.Using → SticksRule using_rest at left →
    SticksRule an_item (k ∷ at) left
sticks_an_item_using_1 left k at h x = sticks_takes {r = an_item} {Ys = rule using_rest ∷ []} (rw h refl) (sticks_in_rule x)

pub sticks_an_item_name_1 : (left : ℕ) (k : Tok) (at : List Tok) → item_start k.kind ≡ Some item.Name → SticksRule specs at left →
    SticksRule an_item (k ∷ at) left
sticks_an_item_name_1 left k at h x = sticks_takes {r = an_item} {Ys = rule specs ∷ rule item_rest ∷ []} (rw h refl) (sticks_in_rule x)

pub sticks_an_item_name_2 : (left : ℕ) (k : Tok) (ks1 at : List Tok) → item_start k.kind ≡ Some item.Name → EatsRule specs ks1 at →
    SticksRule item_rest at left → SticksRule an_item (k ∷ ks1) left
sticks_an_item_name_2 left k ks1 at h e1 x =
    sticks_takes {r = an_item} {Ys = rule specs ∷ rule item_rest ∷ []} (rw h refl) (sticks_behind_rule e1 (sticks_in_rule x))

pub sticks_an_item_other : (k : Tok) (ks : List Tok) → item_start k.kind ≡ None → SticksRule an_item (k ∷ ks) (length (k ∷ ks))
sticks_an_item_other k ks h = sticks_refused (rw h refl)

pub sticks_an_item_end : SticksRule an_item [] 0
sticks_an_item_end = sticks_refused refl

pub sticks_using_rest_1 : (at : List Tok) → ahead at ≢ Some tok.Open → SticksRule using_rest at (length at)
sticks_using_rest_1 at x = sticks_becomes {r = using_rest}
    {Ys = a tok.Open ∷ a (mark m.Slash) ∷ rule dotted ∷ rule path_tail ∷ a tok.Close ∷ []} {ks = at} refl (sticks_here x)

pub sticks_using_rest_2 : (k1 : Tok) (at : List Tok) → k1.kind ≡ tok.Open → ahead at ≢ Some (mark m.Slash) →
    SticksRule using_rest (k1 ∷ at) (length at)
sticks_using_rest_2 k1 at e1 x = sticks_becomes {r = using_rest}
    {Ys = a tok.Open ∷ a (mark m.Slash) ∷ rule dotted ∷ rule path_tail ∷ a tok.Close ∷ []} {ks = k1 ∷ at} refl
    (sticks_behind_tok e1 (sticks_here x))

pub sticks_using_rest_3 : (left : ℕ) (k1 k2 : Tok) (at : List Tok) → k1.kind ≡ tok.Open → k2.kind ≡ (mark m.Slash) →
    SticksRule dotted at left → SticksRule using_rest (k1 ∷ (k2 ∷ at)) left
sticks_using_rest_3 left k1 k2 at e1 e2 x =
    sticks_becomes {r = using_rest} {Ys = a tok.Open ∷ a (mark m.Slash) ∷ rule dotted ∷ rule path_tail ∷ a tok.Close ∷ []}
    {ks = k1 ∷ (k2 ∷ at)} refl (sticks_behind_tok e1 (sticks_behind_tok e2 (sticks_in_rule x)))

pub sticks_using_rest_4 : (left : ℕ) (k1 k2 : Tok) (ks3 at : List Tok) → k1.kind ≡ tok.Open → k2.kind ≡ (mark m.Slash) →
    EatsRule dotted ks3 at → SticksRule path_tail at left → SticksRule using_rest (k1 ∷ (k2 ∷ ks3)) left
sticks_using_rest_4 left k1 k2 ks3 at e1 e2 e3 x =
    sticks_becomes {r = using_rest} {Ys = a tok.Open ∷ a (mark m.Slash) ∷ rule dotted ∷ rule path_tail ∷ a tok.Close ∷ []}
    {ks = k1 ∷ (k2 ∷ ks3)} refl (sticks_behind_tok e1 (sticks_behind_tok e2 (sticks_behind_rule e3 (sticks_in_rule x))))

pub sticks_using_rest_5 : (k1 k2 : Tok) (ks3 ks4 at : List Tok) → k1.kind ≡ tok.Open → k2.kind ≡ (mark m.Slash) → EatsRule dotted ks3 ks4 →
    EatsRule path_tail ks4 at → ahead at ≢ Some tok.Close → SticksRule using_rest (k1 ∷ (k2 ∷ ks3)) (length at)
sticks_using_rest_5 k1 k2 ks3 ks4 at e1 e2 e3 e4 x =
    sticks_becomes {r = using_rest} {Ys = a tok.Open ∷ a (mark m.Slash) ∷ rule dotted ∷ rule path_tail ∷ a tok.Close ∷ []}
    {ks = k1 ∷ (k2 ∷ ks3)} refl (sticks_behind_tok e1
    (sticks_behind_tok e2 (sticks_behind_rule e3 (sticks_behind_rule e4 (sticks_here x)))))

pub sticks_dotted_1 : (at : List Tok) → ahead at ≢ Some name → SticksRule dotted at (length at)
sticks_dotted_1 at x = sticks_becomes {r = dotted} {Ys = a name ∷ rule dots_tail ∷ []} {ks = at} refl (sticks_here x)

pub sticks_dotted_2 : (left : ℕ) (k1 : Tok) (at : List Tok) → k1.kind ≡ name → SticksRule dots_tail at left →
    SticksRule dotted (k1 ∷ at) left
sticks_dotted_2 left k1 at e1 x = sticks_becomes {r = dotted} {Ys = a name ∷ rule dots_tail ∷ []} {ks = k1 ∷ at} refl
    (sticks_behind_tok e1 (sticks_in_rule x))

pub sticks_dots_tail_at_1 : (k : Tok) (at : List Tok) → k.kind ≡ (mark m.Dot) → ahead at ≢ Some name →
    SticksRule dots_tail (k ∷ at) (length at)
sticks_dots_tail_at_1 k at h x = sticks_takes {r = dots_tail} {Ys = a name ∷ rule dots_tail ∷ []} (rw h refl) (sticks_here x)

pub sticks_dots_tail_at_2 : (left : ℕ) (k k1 : Tok) (at : List Tok) → k.kind ≡ (mark m.Dot) → k1.kind ≡ name →
    SticksRule dots_tail at left → SticksRule dots_tail (k ∷ (k1 ∷ at)) left
sticks_dots_tail_at_2 left k k1 at h e1 x =
    sticks_takes {r = dots_tail} {Ys = a name ∷ rule dots_tail ∷ []} (rw h refl) (sticks_behind_tok e1 (sticks_in_rule x))

pub sticks_path_tail_at_1 : (left : ℕ) (k : Tok) (at : List Tok) → k.kind ≡ (mark m.Slash) → SticksRule dotted at left →
    SticksRule path_tail (k ∷ at) left
sticks_path_tail_at_1 left k at h x = sticks_takes {r = path_tail} {Ys = rule dotted ∷ rule path_tail ∷ []} (rw h refl) (sticks_in_rule x)

pub sticks_path_tail_at_2 : (left : ℕ) (k : Tok) (ks1 at : List Tok) → k.kind ≡ (mark m.Slash) → EatsRule dotted ks1 at →
    SticksRule path_tail at left → SticksRule path_tail (k ∷ ks1) left
sticks_path_tail_at_2 left k ks1 at h e1 x =
    sticks_takes {r = path_tail} {Ys = rule dotted ∷ rule path_tail ∷ []} (rw h refl) (sticks_behind_rule e1 (sticks_in_rule x))

pub sticks_specs_at_1 : (k : Tok) (at : List Tok) → k.kind ≡ (mark m.Below) → ahead at ≢ Some name → SticksRule specs (k ∷ at) (length at)
sticks_specs_at_1 k at h x = sticks_takes {r = specs} {Ys = a name ∷ a (mark m.Above) ∷ rule specs ∷ []} (rw h refl) (sticks_here x)

pub sticks_specs_at_2 : (k k1 : Tok) (at : List Tok) → k.kind ≡ (mark m.Below) → k1.kind ≡ name → ahead at ≢ Some (mark m.Above) →
    SticksRule specs (k ∷ (k1 ∷ at)) (length at)
sticks_specs_at_2 k k1 at h e1 x = sticks_takes {r = specs} {Ys = a name ∷ a (mark m.Above) ∷ rule specs ∷ []} (rw h refl)
    (sticks_behind_tok e1 (sticks_here x))

pub sticks_specs_at_3 : (left : ℕ) (k k1 k2 : Tok) (at : List Tok) → k.kind ≡ (mark m.Below) → k1.kind ≡ name → k2.kind ≡ (mark m.Above) →
    SticksRule specs at left → SticksRule specs (k ∷ (k1 ∷ (k2 ∷ at))) left
sticks_specs_at_3 left k k1 k2 at h e1 e2 x =
    sticks_takes {r = specs} {Ys = a name ∷ a (mark m.Above) ∷ rule specs ∷ []} (rw h refl)
    (sticks_behind_tok e1 (sticks_behind_tok e2 (sticks_in_rule x)))

pub sticks_item_rest_at_1 : (left : ℕ) (k : Tok) (at : List Tok) → k.kind ≡ (mark m.Define) → SticksRule enum_or_class at left →
    SticksRule item_rest (k ∷ at) left
sticks_item_rest_at_1 left k at h x = sticks_takes {r = item_rest} {Ys = rule enum_or_class ∷ []} (rw h refl) (sticks_in_rule x)

pub sticks_item_rest_other_1 : (left : ℕ) (at : List Tok) → ahead at ≢ Some (mark m.Define) → SticksRule fun_rest at left →
    SticksRule item_rest at left
sticks_item_rest_other_1 left at h0 x = sticks_becomes {r = item_rest} {Ys = rule fun_rest ∷ []} {ks = at}
    (rw (unseen (mark m.Define) _ h0) refl) (sticks_in_rule x)

pub sticks_enum_or_class_at1_1 : (left : ℕ) (k : Tok) (at : List Tok) → k.kind ≡ (word w.Enum) → SticksRule enum_rest at left →
    SticksRule enum_or_class (k ∷ at) left
sticks_enum_or_class_at1_1 left k at h x = sticks_takes {r = enum_or_class} {Ys = rule enum_rest ∷ []} (rw h refl) (sticks_in_rule x)

pub sticks_enum_or_class_at2_1 : (left : ℕ) (k : Tok) (at : List Tok) → k.kind ≡ (word w.Class) → SticksRule class_rest at left →
    SticksRule enum_or_class (k ∷ at) left
sticks_enum_or_class_at2_1 left k at h x = sticks_takes {r = enum_or_class} {Ys = rule class_rest ∷ []} (rw h refl) (sticks_in_rule x)

pub sticks_enum_or_class_other : (ks : List Tok) → ahead ks ≢ Some (word w.Enum) → ahead ks ≢ Some (word w.Class) →
    SticksRule enum_or_class ks (length ks)
sticks_enum_or_class_other ks h0 h1 = sticks_refused (rw (unseen (word w.Enum) _ h0, unseen (word w.Class) _ h1) refl)

pub sticks_enum_rest_1 : (at : List Tok) → ahead at ≢ Some tok.Open → SticksRule enum_rest at (length at)
sticks_enum_rest_1 at x = sticks_becomes {r = enum_rest} {Ys = a tok.Open ∷ rule values_until ∷ []} {ks = at} refl (sticks_here x)

pub sticks_enum_rest_2 : (left : ℕ) (k1 : Tok) (at : List Tok) → k1.kind ≡ tok.Open → SticksRule values_until at left →
    SticksRule enum_rest (k1 ∷ at) left
sticks_enum_rest_2 left k1 at e1 x = sticks_becomes {r = enum_rest} {Ys = a tok.Open ∷ rule values_until ∷ []} {ks = k1 ∷ at} refl
    (sticks_behind_tok e1 (sticks_in_rule x))

pub sticks_values_until_other_1 : (at : List Tok) → ahead at ≢ Some tok.Close → ahead at ≢ Some name →
    SticksRule values_until at (length at)
sticks_values_until_other_1 at h0 x = sticks_becomes {r = values_until} {Ys = a name ∷ rule values_tail ∷ a tok.Close ∷ []} {ks = at}
    (rw (unseen tok.Close _ h0) refl) (sticks_here x)

pub sticks_values_until_other_2 : (left : ℕ) (k1 : Tok) (at : List Tok) → ahead (k1 ∷ at) ≢ Some tok.Close → k1.kind ≡ name →
    SticksRule values_tail at left → SticksRule values_until (k1 ∷ at) left
sticks_values_until_other_2 left k1 at h0 e1 x =
    sticks_becomes {r = values_until} {Ys = a name ∷ rule values_tail ∷ a tok.Close ∷ []} {ks = k1 ∷ at} (rw (unseen tok.Close _ h0) refl)
    (sticks_behind_tok e1 (sticks_in_rule x))

pub sticks_values_until_other_3 : (k1 : Tok) (ks2 at : List Tok) → ahead (k1 ∷ ks2) ≢ Some tok.Close → k1.kind ≡ name →
    EatsRule values_tail ks2 at → ahead at ≢ Some tok.Close → SticksRule values_until (k1 ∷ ks2) (length at)
sticks_values_until_other_3 k1 ks2 at h0 e1 e2 x =
    sticks_becomes {r = values_until} {Ys = a name ∷ rule values_tail ∷ a tok.Close ∷ []} {ks = k1 ∷ ks2} (rw (unseen tok.Close _ h0) refl)
    (sticks_behind_tok e1 (sticks_behind_rule e2 (sticks_here x)))

pub sticks_values_tail_at_1 : (k : Tok) (at : List Tok) → k.kind ≡ tok.Sep → ahead at ≢ Some name →
    SticksRule values_tail (k ∷ at) (length at)
sticks_values_tail_at_1 k at h x = sticks_takes {r = values_tail} {Ys = a name ∷ rule values_tail ∷ []} (rw h refl) (sticks_here x)

pub sticks_values_tail_at_2 : (left : ℕ) (k k1 : Tok) (at : List Tok) → k.kind ≡ tok.Sep → k1.kind ≡ name → SticksRule values_tail at left →
    SticksRule values_tail (k ∷ (k1 ∷ at)) left
sticks_values_tail_at_2 left k k1 at h e1 x =
    sticks_takes {r = values_tail} {Ys = a name ∷ rule values_tail ∷ []} (rw h refl) (sticks_behind_tok e1 (sticks_in_rule x))

pub sticks_class_rest_1 : (left : ℕ) (at : List Tok) → SticksRule specs at left → SticksRule class_rest at left
sticks_class_rest_1 left at x = sticks_becomes {r = class_rest} {Ys = rule specs ∷ rule parent ∷ a tok.Open ∷ rule members_until ∷ []}
    {ks = at} refl (sticks_in_rule x)

pub sticks_class_rest_2 : (left : ℕ) (ks1 at : List Tok) → EatsRule specs ks1 at → SticksRule parent at left →
    SticksRule class_rest ks1 left
sticks_class_rest_2 left ks1 at e1 x = sticks_becomes {r = class_rest}
    {Ys = rule specs ∷ rule parent ∷ a tok.Open ∷ rule members_until ∷ []} {ks = ks1} refl (sticks_behind_rule e1 (sticks_in_rule x))

pub sticks_class_rest_3 : (ks1 ks2 at : List Tok) → EatsRule specs ks1 ks2 → EatsRule parent ks2 at → ahead at ≢ Some tok.Open →
    SticksRule class_rest ks1 (length at)
sticks_class_rest_3 ks1 ks2 at e1 e2 x = sticks_becomes {r = class_rest}
    {Ys = rule specs ∷ rule parent ∷ a tok.Open ∷ rule members_until ∷ []} {ks = ks1} refl
    (sticks_behind_rule e1 (sticks_behind_rule e2 (sticks_here x)))

pub sticks_class_rest_4 : (left : ℕ) (k3 : Tok) (ks1 ks2 at : List Tok) → EatsRule specs ks1 ks2 → EatsRule parent ks2 (k3 ∷ at) →
    k3.kind ≡ tok.Open → SticksRule members_until at left → SticksRule class_rest ks1 left
sticks_class_rest_4 left k3 ks1 ks2 at e1 e2 e3 x =
    sticks_becomes {r = class_rest} {Ys = rule specs ∷ rule parent ∷ a tok.Open ∷ rule members_until ∷ []} {ks = ks1} refl
    (sticks_behind_rule e1 (sticks_behind_rule e2 (sticks_behind_tok e3 (sticks_in_rule x))))

pub sticks_parent_at_1 : (k : Tok) (at : List Tok) → k.kind ≡ (mark m.RoundOpen) → ahead at ≢ Some name →
    SticksRule parent (k ∷ at) (length at)
sticks_parent_at_1 k at h x = sticks_takes {r = parent} {Ys = a name ∷ a (mark m.RoundClose) ∷ []} (rw h refl) (sticks_here x)

pub sticks_parent_at_2 : (k k1 : Tok) (at : List Tok) → k.kind ≡ (mark m.RoundOpen) → k1.kind ≡ name → ahead at ≢ Some (mark m.RoundClose) →
    SticksRule parent (k ∷ (k1 ∷ at)) (length at)
sticks_parent_at_2 k k1 at h e1 x = sticks_takes {r = parent} {Ys = a name ∷ a (mark m.RoundClose) ∷ []} (rw h refl)
    (sticks_behind_tok e1 (sticks_here x))

pub sticks_members_until_other_1 : (left : ℕ) (at : List Tok) → ahead at ≢ Some tok.Close → SticksRule member at left →
    SticksRule members_until at left
sticks_members_until_other_1 left at h0 x =
    sticks_becomes {r = members_until} {Ys = rule member ∷ rule members_tail ∷ a tok.Close ∷ []} {ks = at} (rw (unseen tok.Close _ h0) refl)
    (sticks_in_rule x)

pub sticks_members_until_other_2 : (left : ℕ) (ks1 at : List Tok) → ahead ks1 ≢ Some tok.Close → EatsRule member ks1 at →
    SticksRule members_tail at left → SticksRule members_until ks1 left
sticks_members_until_other_2 left ks1 at h0 e1 x =
    sticks_becomes {r = members_until} {Ys = rule member ∷ rule members_tail ∷ a tok.Close ∷ []} {ks = ks1}
    (rw (unseen tok.Close _ h0) refl) (sticks_behind_rule e1 (sticks_in_rule x))

pub sticks_members_until_other_3 : (ks1 ks2 at : List Tok) → ahead ks1 ≢ Some tok.Close → EatsRule member ks1 ks2 →
    EatsRule members_tail ks2 at → ahead at ≢ Some tok.Close → SticksRule members_until ks1 (length at)
sticks_members_until_other_3 ks1 ks2 at h0 e1 e2 x =
    sticks_becomes {r = members_until} {Ys = rule member ∷ rule members_tail ∷ a tok.Close ∷ []} {ks = ks1}
    (rw (unseen tok.Close _ h0) refl) (sticks_behind_rule e1 (sticks_behind_rule e2 (sticks_here x)))

pub sticks_members_tail_at_1 : (left : ℕ) (k : Tok) (at : List Tok) → k.kind ≡ tok.Sep → SticksRule member at left →
    SticksRule members_tail (k ∷ at) left
sticks_members_tail_at_1 left k at h x = sticks_takes {r = members_tail} {Ys = rule member ∷ rule members_tail ∷ []} (rw h refl)
    (sticks_in_rule x)

pub sticks_members_tail_at_2 : (left : ℕ) (k : Tok) (ks1 at : List Tok) → k.kind ≡ tok.Sep → EatsRule member ks1 at →
    SticksRule members_tail at left → SticksRule members_tail (k ∷ ks1) left
sticks_members_tail_at_2 left k ks1 at h e1 x =
    sticks_takes {r = members_tail} {Ys = rule member ∷ rule members_tail ∷ []} (rw h refl) (sticks_behind_rule e1 (sticks_in_rule x))

pub sticks_member_at_1 : (left : ℕ) (k : Tok) (at : List Tok) → k.kind ≡ (word w.Var) → SticksRule specs at left →
    SticksRule member (k ∷ at) left
sticks_member_at_1 left k at h x = sticks_takes {r = member} {Ys = rule specs ∷ a name ∷ rule specs ∷ rule field_rest ∷ []} (rw h refl)
    (sticks_in_rule x)

pub sticks_member_at_2 : (k : Tok) (ks1 at : List Tok) → k.kind ≡ (word w.Var) → EatsRule specs ks1 at → ahead at ≢ Some name →
    SticksRule member (k ∷ ks1) (length at)
sticks_member_at_2 k ks1 at h e1 x = sticks_takes {r = member} {Ys = rule specs ∷ a name ∷ rule specs ∷ rule field_rest ∷ []} (rw h refl)
    (sticks_behind_rule e1 (sticks_here x))

pub sticks_member_at_3 : (left : ℕ) (k k2 : Tok) (ks1 at : List Tok) → k.kind ≡ (word w.Var) → EatsRule specs ks1 (k2 ∷ at) →
    k2.kind ≡ name → SticksRule specs at left → SticksRule member (k ∷ ks1) left
sticks_member_at_3 left k k2 ks1 at h e1 e2 x =
    sticks_takes {r = member} {Ys = rule specs ∷ a name ∷ rule specs ∷ rule field_rest ∷ []} (rw h refl)
    (sticks_behind_rule e1 (sticks_behind_tok e2 (sticks_in_rule x)))

pub sticks_member_at_4 : (left : ℕ) (k k2 : Tok) (ks1 ks3 at : List Tok) → k.kind ≡ (word w.Var) → EatsRule specs ks1 (k2 ∷ ks3) →
    k2.kind ≡ name → EatsRule specs ks3 at → SticksRule field_rest at left → SticksRule member (k ∷ ks1) left
sticks_member_at_4 left k k2 ks1 ks3 at h e1 e2 e3 x =
    sticks_takes {r = member} {Ys = rule specs ∷ a name ∷ rule specs ∷ rule field_rest ∷ []} (rw h refl)
    (sticks_behind_rule e1 (sticks_behind_tok e2 (sticks_behind_rule e3 (sticks_in_rule x))))

pub sticks_member_other_1 : (at : List Tok) → ahead at ≢ Some (word w.Var) → ahead at ≢ Some name → SticksRule member at (length at)
sticks_member_other_1 at h0 x = sticks_becomes {r = member} {Ys = a name ∷ rule specs ∷ rule member_rest ∷ []} {ks = at}
    (rw (unseen (word w.Var) _ h0) refl) (sticks_here x)

pub sticks_member_other_2 : (left : ℕ) (k1 : Tok) (at : List Tok) → ahead (k1 ∷ at) ≢ Some (word w.Var) → k1.kind ≡ name →
    SticksRule specs at left → SticksRule member (k1 ∷ at) left
sticks_member_other_2 left k1 at h0 e1 x =
    sticks_becomes {r = member} {Ys = a name ∷ rule specs ∷ rule member_rest ∷ []} {ks = k1 ∷ at} (rw (unseen (word w.Var) _ h0) refl)
    (sticks_behind_tok e1 (sticks_in_rule x))

pub sticks_member_other_3 : (left : ℕ) (k1 : Tok) (ks2 at : List Tok) → ahead (k1 ∷ ks2) ≢ Some (word w.Var) → k1.kind ≡ name →
    EatsRule specs ks2 at → SticksRule member_rest at left → SticksRule member (k1 ∷ ks2) left
sticks_member_other_3 left k1 ks2 at h0 e1 e2 x =
    sticks_becomes {r = member} {Ys = a name ∷ rule specs ∷ rule member_rest ∷ []} {ks = k1 ∷ ks2} (rw (unseen (word w.Var) _ h0) refl)
    (sticks_behind_tok e1 (sticks_behind_rule e2 (sticks_in_rule x)))

pub sticks_member_rest_at_1 : (left : ℕ) (k : Tok) (ks : List Tok) → k.kind ≡ (mark m.RoundOpen) → SticksRule fun_rest (k ∷ ks) left →
    SticksRule member_rest (k ∷ ks) left
sticks_member_rest_at_1 left k ks h x = sticks_becomes {r = member_rest} {Ys = rule fun_rest ∷ []} {ks = k ∷ ks} (rw h refl)
    (sticks_in_rule x)

pub sticks_member_rest_other_1 : (left : ℕ) (at : List Tok) → ahead at ≢ Some (mark m.RoundOpen) → SticksRule field_rest at left →
    SticksRule member_rest at left
sticks_member_rest_other_1 left at h0 x = sticks_becomes {r = member_rest} {Ys = rule field_rest ∷ []} {ks = at}
    (rw (unseen (mark m.RoundOpen) _ h0) refl) (sticks_in_rule x)

pub sticks_field_rest_1 : (at : List Tok) → ahead at ≢ Some (mark m.Colon) → SticksRule field_rest at (length at)
sticks_field_rest_1 at x = sticks_becomes {r = field_rest} {Ys = a (mark m.Colon) ∷ rule a_type ∷ rule default ∷ []} {ks = at} refl
    (sticks_here x)

pub sticks_field_rest_2 : (left : ℕ) (k1 : Tok) (at : List Tok) → k1.kind ≡ (mark m.Colon) → SticksRule a_type at left →
    SticksRule field_rest (k1 ∷ at) left
sticks_field_rest_2 left k1 at e1 x = sticks_becomes {r = field_rest} {Ys = a (mark m.Colon) ∷ rule a_type ∷ rule default ∷ []}
    {ks = k1 ∷ at} refl (sticks_behind_tok e1 (sticks_in_rule x))

pub sticks_field_rest_3 : (left : ℕ) (k1 : Tok) (ks2 at : List Tok) → k1.kind ≡ (mark m.Colon) → EatsRule a_type ks2 at →
    SticksRule default at left → SticksRule field_rest (k1 ∷ ks2) left
sticks_field_rest_3 left k1 ks2 at e1 e2 x =
    sticks_becomes {r = field_rest} {Ys = a (mark m.Colon) ∷ rule a_type ∷ rule default ∷ []} {ks = k1 ∷ ks2} refl
    (sticks_behind_tok e1 (sticks_behind_rule e2 (sticks_in_rule x)))

pub sticks_default_at_1 : (left : ℕ) (k : Tok) (at : List Tok) → k.kind ≡ (mark m.Equals) → SticksRule (phrase p.Expr) at left →
    SticksRule default (k ∷ at) left
sticks_default_at_1 left k at h x = sticks_takes {r = default} {Ys = rule (phrase p.Expr) ∷ []} (rw h refl) (sticks_in_rule x)

pub sticks_fun_rest_1 : (at : List Tok) → ahead at ≢ Some (mark m.RoundOpen) → SticksRule fun_rest at (length at)
sticks_fun_rest_1 at x = sticks_becomes {r = fun_rest}
    {Ys = a (mark m.RoundOpen) ∷ rule params_until ∷ rule specs ∷ a (mark m.Colon) ∷ rule a_type ∷ a (mark m.Equals) ∷ rule
    (phrase p.Body) ∷ []} {ks = at} refl (sticks_here x)

pub sticks_fun_rest_2 : (left : ℕ) (k1 : Tok) (at : List Tok) → k1.kind ≡ (mark m.RoundOpen) → SticksRule params_until at left →
    SticksRule fun_rest (k1 ∷ at) left
sticks_fun_rest_2 left k1 at e1 x = sticks_becomes {r = fun_rest}
    {Ys = a (mark m.RoundOpen) ∷ rule params_until ∷ rule specs ∷ a (mark m.Colon) ∷ rule a_type ∷ a (mark m.Equals) ∷ rule
    (phrase p.Body) ∷ []} {ks = k1 ∷ at} refl (sticks_behind_tok e1 (sticks_in_rule x))

pub sticks_fun_rest_3 : (left : ℕ) (k1 : Tok) (ks2 at : List Tok) → k1.kind ≡ (mark m.RoundOpen) → EatsRule params_until ks2 at →
    SticksRule specs at left → SticksRule fun_rest (k1 ∷ ks2) left
sticks_fun_rest_3 left k1 ks2 at e1 e2 x =
    sticks_becomes {r = fun_rest} {Ys = a (mark m.RoundOpen) ∷ rule params_until ∷ rule specs ∷ a (mark m.Colon) ∷ rule a_type ∷ a
    (mark m.Equals) ∷ rule (phrase p.Body) ∷ []} {ks = k1 ∷ ks2} refl (sticks_behind_tok e1 (sticks_behind_rule e2 (sticks_in_rule x)))

pub sticks_fun_rest_4 : (k1 : Tok) (ks2 ks3 at : List Tok) → k1.kind ≡ (mark m.RoundOpen) → EatsRule params_until ks2 ks3 →
    EatsRule specs ks3 at → ahead at ≢ Some (mark m.Colon) → SticksRule fun_rest (k1 ∷ ks2) (length at)
sticks_fun_rest_4 k1 ks2 ks3 at e1 e2 e3 x =
    sticks_becomes {r = fun_rest} {Ys = a (mark m.RoundOpen) ∷ rule params_until ∷ rule specs ∷ a (mark m.Colon) ∷ rule a_type ∷ a
    (mark m.Equals) ∷ rule (phrase p.Body) ∷ []} {ks = k1 ∷ ks2} refl
    (sticks_behind_tok e1 (sticks_behind_rule e2 (sticks_behind_rule e3 (sticks_here x))))

pub sticks_fun_rest_5 : (left : ℕ) (k1 k4 : Tok) (ks2 ks3 at : List Tok) → k1.kind ≡ (mark m.RoundOpen) → EatsRule params_until ks2 ks3 →
    EatsRule specs ks3 (k4 ∷ at) → k4.kind ≡ (mark m.Colon) → SticksRule a_type at left → SticksRule fun_rest (k1 ∷ ks2) left
sticks_fun_rest_5 left k1 k4 ks2 ks3 at e1 e2 e3 e4 x =
    sticks_becomes {r = fun_rest} {Ys = a (mark m.RoundOpen) ∷ rule params_until ∷ rule specs ∷ a (mark m.Colon) ∷ rule a_type ∷ a
    (mark m.Equals) ∷ rule (phrase p.Body) ∷ []} {ks = k1 ∷ ks2} refl
    (sticks_behind_tok e1 (sticks_behind_rule e2 (sticks_behind_rule e3 (sticks_behind_tok e4 (sticks_in_rule x)))))

pub sticks_fun_rest_6 : (k1 k4 : Tok) (ks2 ks3 ks5 at : List Tok) → k1.kind ≡ (mark m.RoundOpen) → EatsRule params_until ks2 ks3 →
    EatsRule specs ks3 (k4 ∷ ks5) → k4.kind ≡ (mark m.Colon) → EatsRule a_type ks5 at → ahead at ≢ Some (mark m.Equals) →
    SticksRule fun_rest (k1 ∷ ks2) (length at)
sticks_fun_rest_6 k1 k4 ks2 ks3 ks5 at e1 e2 e3 e4 e5 x =
    sticks_becomes {r = fun_rest} {Ys = a (mark m.RoundOpen) ∷ rule params_until ∷ rule specs ∷ a (mark m.Colon) ∷ rule a_type ∷ a
    (mark m.Equals) ∷ rule (phrase p.Body) ∷ []} {ks = k1 ∷ ks2} refl
    (sticks_behind_tok e1 (sticks_behind_rule e2 (sticks_behind_rule e3 (sticks_behind_tok e4 (sticks_behind_rule e5 (sticks_here x))))))

pub sticks_fun_rest_7 : (left : ℕ) (k1 k4 k6 : Tok) (ks2 ks3 ks5 at : List Tok) → k1.kind ≡ (mark m.RoundOpen) →
    EatsRule params_until ks2 ks3 → EatsRule specs ks3 (k4 ∷ ks5) → k4.kind ≡ (mark m.Colon) → EatsRule a_type ks5 (k6 ∷ at) →
    k6.kind ≡ (mark m.Equals) → SticksRule (phrase p.Body) at left → SticksRule fun_rest (k1 ∷ ks2) left
sticks_fun_rest_7 left k1 k4 k6 ks2 ks3 ks5 at e1 e2 e3 e4 e5 e6 x =
    sticks_becomes {r = fun_rest} {Ys = a (mark m.RoundOpen) ∷ rule params_until ∷ rule specs ∷ a (mark m.Colon) ∷ rule a_type ∷ a
    (mark m.Equals) ∷ rule (phrase p.Body) ∷ []} {ks = k1 ∷ ks2} refl
    (sticks_behind_tok e1 (sticks_behind_rule e2
    (sticks_behind_rule e3 (sticks_behind_tok e4 (sticks_behind_rule e5 (sticks_behind_tok e6 (sticks_in_rule x)))))))

pub sticks_params_until_other_1 : (left : ℕ) (at : List Tok) → ahead at ≢ Some (mark m.RoundClose) → SticksRule param at left →
    SticksRule params_until at left
sticks_params_until_other_1 left at h0 x =
    sticks_becomes {r = params_until} {Ys = rule param ∷ rule params_tail ∷ a (mark m.RoundClose) ∷ []} {ks = at}
    (rw (unseen (mark m.RoundClose) _ h0) refl) (sticks_in_rule x)

pub sticks_params_until_other_2 : (left : ℕ) (ks1 at : List Tok) → ahead ks1 ≢ Some (mark m.RoundClose) → EatsRule param ks1 at →
    SticksRule params_tail at left → SticksRule params_until ks1 left
sticks_params_until_other_2 left ks1 at h0 e1 x =
    sticks_becomes {r = params_until} {Ys = rule param ∷ rule params_tail ∷ a (mark m.RoundClose) ∷ []} {ks = ks1}
    (rw (unseen (mark m.RoundClose) _ h0) refl) (sticks_behind_rule e1 (sticks_in_rule x))

pub sticks_params_until_other_3 : (ks1 ks2 at : List Tok) → ahead ks1 ≢ Some (mark m.RoundClose) → EatsRule param ks1 ks2 →
    EatsRule params_tail ks2 at → ahead at ≢ Some (mark m.RoundClose) → SticksRule params_until ks1 (length at)
sticks_params_until_other_3 ks1 ks2 at h0 e1 e2 x =
    sticks_becomes {r = params_until} {Ys = rule param ∷ rule params_tail ∷ a (mark m.RoundClose) ∷ []} {ks = ks1}
    (rw (unseen (mark m.RoundClose) _ h0) refl) (sticks_behind_rule e1 (sticks_behind_rule e2 (sticks_here x)))

pub sticks_param_1 : (at : List Tok) → ahead at ≢ Some name → SticksRule param at (length at)
sticks_param_1 at x = sticks_becomes {r = param} {Ys = a name ∷ a (mark m.Colon) ∷ rule a_type ∷ []} {ks = at} refl (sticks_here x)

pub sticks_param_2 : (k1 : Tok) (at : List Tok) → k1.kind ≡ name → ahead at ≢ Some (mark m.Colon) → SticksRule param (k1 ∷ at) (length at)
sticks_param_2 k1 at e1 x = sticks_becomes {r = param} {Ys = a name ∷ a (mark m.Colon) ∷ rule a_type ∷ []} {ks = k1 ∷ at} refl
    (sticks_behind_tok e1 (sticks_here x))

pub sticks_param_3 : (left : ℕ) (k1 k2 : Tok) (at : List Tok) → k1.kind ≡ name → k2.kind ≡ (mark m.Colon) → SticksRule a_type at left →
    SticksRule param (k1 ∷ (k2 ∷ at)) left
sticks_param_3 left k1 k2 at e1 e2 x = sticks_becomes {r = param} {Ys = a name ∷ a (mark m.Colon) ∷ rule a_type ∷ []} {ks = k1 ∷ (k2 ∷ at)}
    refl (sticks_behind_tok e1 (sticks_behind_tok e2 (sticks_in_rule x)))

pub sticks_params_tail_at_1 : (left : ℕ) (k : Tok) (at : List Tok) → k.kind ≡ (mark m.Comma) → SticksRule param at left →
    SticksRule params_tail (k ∷ at) left
sticks_params_tail_at_1 left k at h x = sticks_takes {r = params_tail} {Ys = rule param ∷ rule params_tail ∷ []} (rw h refl)
    (sticks_in_rule x)

pub sticks_params_tail_at_2 : (left : ℕ) (k : Tok) (ks1 at : List Tok) → k.kind ≡ (mark m.Comma) → EatsRule param ks1 at →
    SticksRule params_tail at left → SticksRule params_tail (k ∷ ks1) left
sticks_params_tail_at_2 left k ks1 at h e1 x =
    sticks_takes {r = params_tail} {Ys = rule param ∷ rule params_tail ∷ []} (rw h refl) (sticks_behind_rule e1 (sticks_in_rule x))
