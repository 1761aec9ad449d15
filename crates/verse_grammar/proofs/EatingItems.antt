-- What each rule of items reads.
use Rattle.std.proofs.Common.{◌≡◌, ◌≢◌, ℕ, ℤ, true, false, List, [], ◌∷◌, Option, Some, None, length, refl}
use Rattle.verse_lex.specs.declared.tokens.Word.TheVariants as w
use Rattle.verse_lex.specs.declared.tokens.Mark.TheVariants as m
use Rattle.verse_lex.specs.declared.tokens.TokenKind.TheVariants as token
use Rattle.verse_layout.specs.declared.toks.TokKind.{TokKind}
use Rattle.verse_layout.specs.declared.toks.TokKind.TheVariants as tok
use Rattle.verse_layout.specs.declared.toks.Tok.{Tok}
use Rattle.verse_tree.specs.declared.exprs.Assign.{Assign}
use Rattle.verse_tree.specs.declared.exprs.Comparison.{Comparison}
use Rattle.verse_tree.specs.declared.exprs.Operator.{Operator}
use Rattle.verse_grammar.specs.Toks.{word, mark, name, ahead}
use Rattle.verse_grammar.specs.Starts.{type_start, primary_start, postfix_start, stmt_start, pattern_start, item_start, comparison_at}
use Rattle.verse_grammar.specs.Starts.{assign_at, duration_at, int_at, begins_expr}
use Rattle.verse_grammar.specs.Exprs.{chain_operator, operand}
use Rattle.verse_grammar.specs.declared.phrases.Phrase.{Phrase}
use Rattle.verse_grammar.specs.declared.phrases.Phrase.TheVariants as p
use Rattle.verse_grammar.specs.declared.starts.Duration.{Duration}
use Rattle.verse_grammar.specs.declared.starts.TypeStart.TheVariants as type
use Rattle.verse_grammar.specs.declared.starts.PrimaryStart.TheVariants as primary
use Rattle.verse_grammar.specs.declared.starts.PostfixStart.TheVariants as postfix
use Rattle.verse_grammar.specs.declared.starts.StmtStart.TheVariants as stmt
use Rattle.verse_grammar.specs.declared.starts.PatternStart.TheVariants as pattern
use Rattle.verse_grammar.specs.declared.starts.ItemStart.TheVariants as item
use Rattle.verse_grammar.specs.Symbols.{a, rule, first_as, first_is, a_type, bracket_rest, tuple_rest, types, types_tail, bracket_type}
use Rattle.verse_grammar.specs.Symbols.{bracket_type_rest, phrase, stmt_name, typed_value, set_rest, assign, return_value, an_if, taken}
use Rattle.verse_grammar.specs.Symbols.{otherwise, chain_tail, comparison_tail, postfix_tail, row_tail, closed, until, hole_rest, name_rest}
use Rattle.verse_grammar.specs.Symbols.{givens_until, given, givens_tail, round_rest, pairs_until, pair, pairs_tail, clauses, case_rest}
use Rattle.verse_grammar.specs.Symbols.{duration, generator_rest, entries_rest, clause_name, clause_value, range_rest, an_int, program}
use Rattle.verse_grammar.specs.Symbols.{items_tail, an_item, using_rest, dotted, dots_tail, path_tail, specs, item_rest, enum_or_class}
use Rattle.verse_grammar.specs.Symbols.{enum_rest, values_until, values_tail, class_rest, parent, members_until, members_tail, member}
use Rattle.verse_grammar.specs.Symbols.{member_rest, field_rest, default, fun_rest, params_until, param, params_tail}
use Rattle.verse_grammar.proofs.Sights.{seen, unseen}
use Rattle.verse_grammar.specs.Reading.{EatsRule, SticksRule, eats_none, eats_tok, eats_rule, eats_takes, eats_becomes, sticks_here}
use Rattle.verse_grammar.specs.Reading.{sticks_behind_tok, sticks_in_rule, sticks_behind_rule, sticks_refused, sticks_takes, sticks_becomes}

pub eats_program_end : EatsRule program [] []
eats_program_end = eats_becomes {r = program} {Ys = []} {ks = []} refl eats_none

pub eats_program_some : (k : Tok) (ks ks2 rest : List Tok) → EatsRule an_item (k ∷ ks) ks2 → EatsRule items_tail ks2 rest →
    EatsRule program (k ∷ ks) rest
eats_program_some k ks ks2 rest e1 e2 = eats_becomes {r = program} {Ys = rule an_item ∷ rule items_tail ∷ []} {ks = k ∷ ks} refl
    (eats_rule e1 (eats_rule e2 eats_none))

pub eats_items_tail_at : (k : Tok) (ks1 ks2 rest : List Tok) → k.kind ≡ tok.Sep → EatsRule an_item ks1 ks2 → EatsRule items_tail ks2 rest →
    EatsRule items_tail (k ∷ ks1) rest
eats_items_tail_at k ks1 ks2 rest h e1 e2 =
    eats_takes {r = items_tail} {Ys = rule an_item ∷ rule items_tail ∷ []} (rw h refl) (eats_rule e1 (eats_rule e2 eats_none))

pub eats_items_tail_other : (rest : List Tok) → ahead rest ≢ Some tok.Sep → EatsRule items_tail rest rest
eats_items_tail_other rest h0 = eats_becomes {r = items_tail} {Ys = []} {ks = rest} (rw (unseen tok.Sep _ h0) refl) eats_none

pub eats_an_item_using : (k : Tok) (ks1 rest : List Tok) → item_start k.kind ≡ Some item.Using → EatsRule using_rest ks1 rest →
    EatsRule an_item (k ∷ ks1) rest
eats_an_item_using k ks1 rest h e1 = eats_takes {r = an_item} {Ys = rule using_rest ∷ []} (rw h refl) (eats_rule e1 eats_none)

pub eats_an_item_name : (k : Tok) (ks1 ks2 rest : List Tok) → item_start k.kind ≡ Some item.Name → EatsRule specs ks1 ks2 →
    EatsRule item_rest ks2 rest → EatsRule an_item (k ∷ ks1) rest
eats_an_item_name k ks1 ks2 rest h e1 e2 =
    eats_takes {r = an_item} {Ys = rule specs ∷ rule item_rest ∷ []} (rw h refl) (eats_rule e1 (eats_rule e2 eats_none))

pub eats_using_rest : (k1 k2 k5 : Tok) (ks3 ks4 rest : List Tok) → k1.kind ≡ tok.Open → k2.kind ≡ (mark m.Slash) → EatsRule dotted ks3 ks4 →
    EatsRule path_tail ks4 (k5 ∷ rest) → k5.kind ≡ tok.Close → EatsRule using_rest (k1 ∷ (k2 ∷ ks3)) rest
eats_using_rest k1 k2 k5 ks3 ks4 rest e1 e2 e3 e4 e5 =
    eats_becomes {r = using_rest} {Ys = a tok.Open ∷ a (mark m.Slash) ∷ rule dotted ∷ rule path_tail ∷ a tok.Close ∷ []}
    {ks = k1 ∷ (k2 ∷ ks3)} refl (eats_tok e1 (eats_tok e2 (eats_rule e3 (eats_rule e4 (eats_tok e5 eats_none)))))

pub eats_dotted : (k1 : Tok) (ks2 rest : List Tok) → k1.kind ≡ name → EatsRule dots_tail ks2 rest → EatsRule dotted (k1 ∷ ks2) rest
eats_dotted k1 ks2 rest e1 e2 = eats_becomes {r = dotted} {Ys = a name ∷ rule dots_tail ∷ []} {ks = k1 ∷ ks2} refl
    (eats_tok e1 (eats_rule e2 eats_none))

pub eats_dots_tail_at : (k k1 : Tok) (ks2 rest : List Tok) → k.kind ≡ (mark m.Dot) → k1.kind ≡ name → EatsRule dots_tail ks2 rest →
    EatsRule dots_tail (k ∷ (k1 ∷ ks2)) rest
eats_dots_tail_at k k1 ks2 rest h e1 e2 = eats_takes {r = dots_tail} {Ys = a name ∷ rule dots_tail ∷ []} (rw h refl)
    (eats_tok e1 (eats_rule e2 eats_none))

pub eats_dots_tail_other : (rest : List Tok) → ahead rest ≢ Some (mark m.Dot) → EatsRule dots_tail rest rest
eats_dots_tail_other rest h0 = eats_becomes {r = dots_tail} {Ys = []} {ks = rest} (rw (unseen (mark m.Dot) _ h0) refl) eats_none

pub eats_path_tail_at : (k : Tok) (ks1 ks2 rest : List Tok) → k.kind ≡ (mark m.Slash) → EatsRule dotted ks1 ks2 →
    EatsRule path_tail ks2 rest → EatsRule path_tail (k ∷ ks1) rest
eats_path_tail_at k ks1 ks2 rest h e1 e2 =
    eats_takes {r = path_tail} {Ys = rule dotted ∷ rule path_tail ∷ []} (rw h refl) (eats_rule e1 (eats_rule e2 eats_none))

pub eats_path_tail_other : (rest : List Tok) → ahead rest ≢ Some (mark m.Slash) → EatsRule path_tail rest rest
eats_path_tail_other rest h0 = eats_becomes {r = path_tail} {Ys = []} {ks = rest} (rw (unseen (mark m.Slash) _ h0) refl) eats_none

pub eats_specs_at : (k k1 k2 : Tok) (ks3 rest : List Tok) → k.kind ≡ (mark m.Below) → k1.kind ≡ name → k2.kind ≡ (mark m.Above) →
    EatsRule specs ks3 rest → EatsRule specs (k ∷ (k1 ∷ (k2 ∷ ks3))) rest
eats_specs_at k k1 k2 ks3 rest h e1 e2 e3 =
    eats_takes {r = specs} {Ys = a name ∷ a (mark m.Above) ∷ rule specs ∷ []} (rw h refl)
    (eats_tok e1 (eats_tok e2 (eats_rule e3 eats_none)))

pub eats_specs_other : (rest : List Tok) → ahead rest ≢ Some (mark m.Below) → EatsRule specs rest rest
eats_specs_other rest h0 = eats_becomes {r = specs} {Ys = []} {ks = rest} (rw (unseen (mark m.Below) _ h0) refl) eats_none

pub eats_item_rest_at : (k : Tok) (ks1 rest : List Tok) → k.kind ≡ (mark m.Define) → EatsRule enum_or_class ks1 rest →
    EatsRule item_rest (k ∷ ks1) rest
eats_item_rest_at k ks1 rest h e1 = eats_takes {r = item_rest} {Ys = rule enum_or_class ∷ []} (rw h refl) (eats_rule e1 eats_none)

pub eats_item_rest_other : (ks1 rest : List Tok) → ahead ks1 ≢ Some (mark m.Define) → EatsRule fun_rest ks1 rest →
    EatsRule item_rest ks1 rest
eats_item_rest_other ks1 rest h0 e1 = eats_becomes {r = item_rest} {Ys = rule fun_rest ∷ []} {ks = ks1}
    (rw (unseen (mark m.Define) _ h0) refl) (eats_rule e1 eats_none)

pub eats_enum_or_class_at1 : (k : Tok) (ks1 rest : List Tok) → k.kind ≡ (word w.Enum) → EatsRule enum_rest ks1 rest →
    EatsRule enum_or_class (k ∷ ks1) rest
eats_enum_or_class_at1 k ks1 rest h e1 = eats_takes {r = enum_or_class} {Ys = rule enum_rest ∷ []} (rw h refl) (eats_rule e1 eats_none)

pub eats_enum_or_class_at2 : (k : Tok) (ks1 rest : List Tok) → k.kind ≡ (word w.Class) → EatsRule class_rest ks1 rest →
    EatsRule enum_or_class (k ∷ ks1) rest
eats_enum_or_class_at2 k ks1 rest h e1 = eats_takes {r = enum_or_class} {Ys = rule class_rest ∷ []} (rw h refl) (eats_rule e1 eats_none)

pub eats_enum_rest : (k1 : Tok) (ks2 rest : List Tok) → k1.kind ≡ tok.Open → EatsRule values_until ks2 rest →
    EatsRule enum_rest (k1 ∷ ks2) rest
eats_enum_rest k1 ks2 rest e1 e2 = eats_becomes {r = enum_rest} {Ys = a tok.Open ∷ rule values_until ∷ []} {ks = k1 ∷ ks2} refl
    (eats_tok e1 (eats_rule e2 eats_none))

pub eats_values_until_at : (k : Tok) (rest : List Tok) → k.kind ≡ tok.Close → EatsRule values_until (k ∷ rest) rest
eats_values_until_at k rest h = eats_takes {r = values_until} {Ys = []} (rw h refl) eats_none

pub eats_values_until_other : (k1 k3 : Tok) (ks2 rest : List Tok) → ahead (k1 ∷ ks2) ≢ Some tok.Close → k1.kind ≡ name →
    EatsRule values_tail ks2 (k3 ∷ rest) → k3.kind ≡ tok.Close → EatsRule values_until (k1 ∷ ks2) rest
eats_values_until_other k1 k3 ks2 rest h0 e1 e2 e3 =
    eats_becomes {r = values_until} {Ys = a name ∷ rule values_tail ∷ a tok.Close ∷ []} {ks = k1 ∷ ks2} (rw (unseen tok.Close _ h0) refl)
    (eats_tok e1 (eats_rule e2 (eats_tok e3 eats_none)))

pub eats_values_tail_at : (k k1 : Tok) (ks2 rest : List Tok) → k.kind ≡ tok.Sep → k1.kind ≡ name → EatsRule values_tail ks2 rest →
    EatsRule values_tail (k ∷ (k1 ∷ ks2)) rest
eats_values_tail_at k k1 ks2 rest h e1 e2 =
    eats_takes {r = values_tail} {Ys = a name ∷ rule values_tail ∷ []} (rw h refl) (eats_tok e1 (eats_rule e2 eats_none))

pub eats_values_tail_other : (rest : List Tok) → ahead rest ≢ Some tok.Sep → EatsRule values_tail rest rest
eats_values_tail_other rest h0 = eats_becomes {r = values_tail} {Ys = []} {ks = rest} (rw (unseen tok.Sep _ h0) refl) eats_none

pub eats_class_rest : (k3 : Tok) (ks1 ks2 ks4 rest : List Tok) → EatsRule specs ks1 ks2 → EatsRule parent ks2 (k3 ∷ ks4) →
    k3.kind ≡ tok.Open → EatsRule members_until ks4 rest → EatsRule class_rest ks1 rest
eats_class_rest k3 ks1 ks2 ks4 rest e1 e2 e3 e4 =
    eats_becomes {r = class_rest} {Ys = rule specs ∷ rule parent ∷ a tok.Open ∷ rule members_until ∷ []} {ks = ks1} refl
    (eats_rule e1 (eats_rule e2 (eats_tok e3 (eats_rule e4 eats_none))))

pub eats_parent_at : (k k1 k2 : Tok) (rest : List Tok) → k.kind ≡ (mark m.RoundOpen) → k1.kind ≡ name → k2.kind ≡ (mark m.RoundClose) →
    EatsRule parent (k ∷ (k1 ∷ (k2 ∷ rest))) rest
eats_parent_at k k1 k2 rest h e1 e2 = eats_takes {r = parent} {Ys = a name ∷ a (mark m.RoundClose) ∷ []} (rw h refl)
    (eats_tok e1 (eats_tok e2 eats_none))

pub eats_parent_other : (rest : List Tok) → ahead rest ≢ Some (mark m.RoundOpen) → EatsRule parent rest rest
eats_parent_other rest h0 = eats_becomes {r = parent} {Ys = []} {ks = rest} (rw (unseen (mark m.RoundOpen) _ h0) refl) eats_none

pub eats_members_until_at : (k : Tok) (rest : List Tok) → k.kind ≡ tok.Close → EatsRule members_until (k ∷ rest) rest
eats_members_until_at k rest h = eats_takes {r = members_until} {Ys = []} (rw h refl) eats_none

pub eats_members_until_other : (k3 : Tok) (ks1 ks2 rest : List Tok) → ahead ks1 ≢ Some tok.Close → EatsRule member ks1 ks2 →
    EatsRule members_tail ks2 (k3 ∷ rest) → k3.kind ≡ tok.Close → EatsRule members_until ks1 rest
eats_members_until_other k3 ks1 ks2 rest h0 e1 e2 e3 =
    eats_becomes {r = members_until} {Ys = rule member ∷ rule members_tail ∷ a tok.Close ∷ []} {ks = ks1} (rw (unseen tok.Close _ h0) refl)
    (eats_rule e1 (eats_rule e2 (eats_tok e3 eats_none)))

pub eats_members_tail_at : (k : Tok) (ks1 ks2 rest : List Tok) → k.kind ≡ tok.Sep → EatsRule member ks1 ks2 →
    EatsRule members_tail ks2 rest → EatsRule members_tail (k ∷ ks1) rest
eats_members_tail_at k ks1 ks2 rest h e1 e2 =
    eats_takes {r = members_tail} {Ys = rule member ∷ rule members_tail ∷ []} (rw h refl) (eats_rule e1 (eats_rule e2 eats_none))

pub eats_members_tail_other : (rest : List Tok) → ahead rest ≢ Some tok.Sep → EatsRule members_tail rest rest
eats_members_tail_other rest h0 = eats_becomes {r = members_tail} {Ys = []} {ks = rest} (rw (unseen tok.Sep _ h0) refl) eats_none

pub eats_member_at : (k k2 : Tok) (ks1 ks3 ks4 rest : List Tok) → k.kind ≡ (word w.Var) → EatsRule specs ks1 (k2 ∷ ks3) → k2.kind ≡ name →
    EatsRule specs ks3 ks4 → EatsRule field_rest ks4 rest → EatsRule member (k ∷ ks1) rest
eats_member_at k k2 ks1 ks3 ks4 rest h e1 e2 e3 e4 =
    eats_takes {r = member} {Ys = rule specs ∷ a name ∷ rule specs ∷ rule field_rest ∷ []} (rw h refl)
    (eats_rule e1 (eats_tok e2 (eats_rule e3 (eats_rule e4 eats_none))))

pub eats_member_other : (k1 : Tok) (ks2 ks3 rest : List Tok) → ahead (k1 ∷ ks2) ≢ Some (word w.Var) → k1.kind ≡ name →
    EatsRule specs ks2 ks3 → EatsRule member_rest ks3 rest → EatsRule member (k1 ∷ ks2) rest
eats_member_other k1 ks2 ks3 rest h0 e1 e2 e3 =
    eats_becomes {r = member} {Ys = a name ∷ rule specs ∷ rule member_rest ∷ []} {ks = k1 ∷ ks2} (rw (unseen (word w.Var) _ h0) refl)
    (eats_tok e1 (eats_rule e2 (eats_rule e3 eats_none)))

pub eats_member_rest_at : (k : Tok) (ks rest : List Tok) → k.kind ≡ (mark m.RoundOpen) → EatsRule fun_rest (k ∷ ks) rest →
    EatsRule member_rest (k ∷ ks) rest
eats_member_rest_at k ks rest h e1 = eats_becomes {r = member_rest} {Ys = rule fun_rest ∷ []} {ks = k ∷ ks} (rw h refl)
    (eats_rule e1 eats_none)

pub eats_member_rest_other : (ks1 rest : List Tok) → ahead ks1 ≢ Some (mark m.RoundOpen) → EatsRule field_rest ks1 rest →
    EatsRule member_rest ks1 rest
eats_member_rest_other ks1 rest h0 e1 = eats_becomes {r = member_rest} {Ys = rule field_rest ∷ []} {ks = ks1}
    (rw (unseen (mark m.RoundOpen) _ h0) refl) (eats_rule e1 eats_none)

pub eats_field_rest : (k1 : Tok) (ks2 ks3 rest : List Tok) → k1.kind ≡ (mark m.Colon) → EatsRule a_type ks2 ks3 →
    EatsRule default ks3 rest → EatsRule field_rest (k1 ∷ ks2) rest
eats_field_rest k1 ks2 ks3 rest e1 e2 e3 =
    eats_becomes {r = field_rest} {Ys = a (mark m.Colon) ∷ rule a_type ∷ rule default ∷ []} {ks = k1 ∷ ks2} refl
    (eats_tok e1 (eats_rule e2 (eats_rule e3 eats_none)))

pub eats_default_at : (k : Tok) (ks1 rest : List Tok) → k.kind ≡ (mark m.Equals) → EatsRule (phrase p.Expr) ks1 rest →
    EatsRule default (k ∷ ks1) rest
eats_default_at k ks1 rest h e1 = eats_takes {r = default} {Ys = rule (phrase p.Expr) ∷ []} (rw h refl) (eats_rule e1 eats_none)

pub eats_default_other : (rest : List Tok) → ahead rest ≢ Some (mark m.Equals) → EatsRule default rest rest
eats_default_other rest h0 = eats_becomes {r = default} {Ys = []} {ks = rest} (rw (unseen (mark m.Equals) _ h0) refl) eats_none

pub eats_fun_rest : (k1 k4 k6 : Tok) (ks2 ks3 ks5 ks7 rest : List Tok) → k1.kind ≡ (mark m.RoundOpen) → EatsRule params_until ks2 ks3 →
    EatsRule specs ks3 (k4 ∷ ks5) → k4.kind ≡ (mark m.Colon) → EatsRule a_type ks5 (k6 ∷ ks7) → k6.kind ≡ (mark m.Equals) →
    EatsRule (phrase p.Body) ks7 rest → EatsRule fun_rest (k1 ∷ ks2) rest
eats_fun_rest k1 k4 k6 ks2 ks3 ks5 ks7 rest e1 e2 e3 e4 e5 e6 e7 =
    eats_becomes {r = fun_rest} {Ys = a (mark m.RoundOpen) ∷ rule params_until ∷ rule specs ∷ a (mark m.Colon) ∷ rule a_type ∷ a
    (mark m.Equals) ∷ rule (phrase p.Body) ∷ []} {ks = k1 ∷ ks2} refl
    (eats_tok e1 (eats_rule e2 (eats_rule e3 (eats_tok e4 (eats_rule e5 (eats_tok e6 (eats_rule e7 eats_none)))))))

pub eats_params_until_at : (k : Tok) (rest : List Tok) → k.kind ≡ (mark m.RoundClose) → EatsRule params_until (k ∷ rest) rest
eats_params_until_at k rest h = eats_takes {r = params_until} {Ys = []} (rw h refl) eats_none

pub eats_params_until_other : (k3 : Tok) (ks1 ks2 rest : List Tok) → ahead ks1 ≢ Some (mark m.RoundClose) → EatsRule param ks1 ks2 →
    EatsRule params_tail ks2 (k3 ∷ rest) → k3.kind ≡ (mark m.RoundClose) → EatsRule params_until ks1 rest
eats_params_until_other k3 ks1 ks2 rest h0 e1 e2 e3 =
    eats_becomes {r = params_until} {Ys = rule param ∷ rule params_tail ∷ a (mark m.RoundClose) ∷ []} {ks = ks1}
    (rw (unseen (mark m.RoundClose) _ h0) refl) (eats_rule e1 (eats_rule e2 (eats_tok e3 eats_none)))

pub eats_param : (k1 k2 : Tok) (ks3 rest : List Tok) → k1.kind ≡ name → k2.kind ≡ (mark m.Colon) → EatsRule a_type ks3 rest →
    EatsRule param (k1 ∷ (k2 ∷ ks3)) rest
eats_param k1 k2 ks3 rest e1 e2 e3 = eats_becomes {r = param} {Ys = a name ∷ a (mark m.Colon) ∷ rule a_type ∷ []} {ks = k1 ∷ (k2 ∷ ks3)}
    refl (eats_tok e1 (eats_tok e2 (eats_rule e3 eats_none)))

pub eats_params_tail_at : (k : Tok) (ks1 ks2 rest : List Tok) → k.kind ≡ (mark m.Comma) → EatsRule param ks1 ks2 →
    EatsRule params_tail ks2 rest → EatsRule params_tail (k ∷ ks1) rest
eats_params_tail_at k ks1 ks2 rest h e1 e2 =
    eats_takes {r = params_tail} {Ys = rule param ∷ rule params_tail ∷ []} (rw h refl) (eats_rule e1 (eats_rule e2 eats_none))

pub eats_params_tail_other : (rest : List Tok) → ahead rest ≢ Some (mark m.Comma) → EatsRule params_tail rest rest
eats_params_tail_other rest h0 = eats_becomes {r = params_tail} {Ys = []} {ks = rest} (rw (unseen (mark m.Comma) _ h0) refl) eats_none
