-- Where the rules of phrases cannot go on.
use Rattle.std.proofs.Common.{◌≡◌, ◌≢◌, ℕ, List, [], ◌∷◌, Option, Some, None, length, refl}
use Rattle.verse_lex.specs.declared.tokens.Word.TheVariants as w
use Rattle.verse_lex.specs.declared.tokens.Mark.TheVariants as m
use Rattle.verse_layout.specs.declared.toks.TokKind.TheVariants as tok
use Rattle.verse_layout.specs.declared.toks.Tok.{Tok}
use Rattle.verse_tree.specs.declared.exprs.Comparison.{Comparison}
use Rattle.verse_grammar.specs.Toks.{word, mark, name, ahead}
use Rattle.verse_grammar.specs.Starts.{type_start, primary_start, stmt_start, pattern_start}
use Rattle.verse_grammar.specs.declared.phrases.Phrase.TheVariants as p
use Rattle.verse_grammar.specs.declared.starts.TypeStart.TheVariants as type
use Rattle.verse_grammar.specs.declared.starts.PrimaryStart.TheVariants as primary
use Rattle.verse_grammar.specs.declared.starts.StmtStart.TheVariants as stmt
use Rattle.verse_grammar.specs.declared.starts.PatternStart.TheVariants as pattern
use Rattle.verse_grammar.specs.Symbols.{a, rule, first_as, a_type, bracket_rest, tuple_rest, types, types_tail, bracket_type}
use Rattle.verse_grammar.specs.Symbols.{bracket_type_rest, phrase, stmt_name, typed_value, set_rest, return_value, an_if}
use Rattle.verse_grammar.specs.Symbols.{chain_tail, comparison_tail, postfix_tail, closed, until, hole_rest, name_rest}
use Rattle.verse_grammar.specs.Symbols.{round_rest, pairs_until, clauses, case_rest}
use Rattle.verse_grammar.specs.Symbols.{duration, generator_rest, clause_name, an_int}
use Rattle.verse_grammar.proofs.Sights.{unseen}
use Rattle.verse_grammar.specs.Reading.{EatsRule, SticksRule, sticks_here}
use Rattle.verse_grammar.specs.Reading.{sticks_behind_tok, sticks_in_rule, sticks_behind_rule, sticks_refused, sticks_takes, sticks_becomes}

pub sticks_a_type_option_1 : (left : ℕ) (k : Tok) (at : List Tok) → type_start k.kind ≡ Some type.Option → SticksRule a_type at left →
    SticksRule a_type (k ∷ at) left
sticks_a_type_option_1 left k at h x = sticks_takes {r = a_type} {Ys = rule a_type ∷ []} (rw h refl) (sticks_in_rule x)

pub sticks_a_type_bracket_1 : (left : ℕ) (k : Tok) (at : List Tok) → type_start k.kind ≡ Some type.Bracket →
    SticksRule bracket_rest at left → SticksRule a_type (k ∷ at) left
sticks_a_type_bracket_1 left k at h x = sticks_takes {r = a_type} {Ys = rule bracket_rest ∷ []} (rw h refl) (sticks_in_rule x)

pub sticks_a_type_tuple_1 : (left : ℕ) (k : Tok) (at : List Tok) → type_start k.kind ≡ Some type.Tuple → SticksRule tuple_rest at left →
    SticksRule a_type (k ∷ at) left
sticks_a_type_tuple_1 left k at h x = sticks_takes {r = a_type} {Ys = rule tuple_rest ∷ []} (rw h refl) (sticks_in_rule x)

pub sticks_a_type_task_1 : (k : Tok) (at : List Tok) → type_start k.kind ≡ Some type.Task → ahead at ≢ Some (mark m.RoundOpen) →
    SticksRule a_type (k ∷ at) (length at)
sticks_a_type_task_1 k at h x = sticks_takes {r = a_type} {Ys = a (mark m.RoundOpen) ∷ rule a_type ∷ a (mark m.RoundClose) ∷ []} (rw h refl)
    (sticks_here x)

pub sticks_a_type_task_2 : (left : ℕ) (k k1 : Tok) (at : List Tok) → type_start k.kind ≡ Some type.Task → k1.kind ≡ (mark m.RoundOpen) →
    SticksRule a_type at left → SticksRule a_type (k ∷ (k1 ∷ at)) left
sticks_a_type_task_2 left k k1 at h e1 x =
    sticks_takes {r = a_type} {Ys = a (mark m.RoundOpen) ∷ rule a_type ∷ a (mark m.RoundClose) ∷ []} (rw h refl)
    (sticks_behind_tok e1 (sticks_in_rule x))

pub sticks_a_type_task_3 : (k k1 : Tok) (ks2 at : List Tok) → type_start k.kind ≡ Some type.Task → k1.kind ≡ (mark m.RoundOpen) →
    EatsRule a_type ks2 at → ahead at ≢ Some (mark m.RoundClose) → SticksRule a_type (k ∷ (k1 ∷ ks2)) (length at)
sticks_a_type_task_3 k k1 ks2 at h e1 e2 x =
    sticks_takes {r = a_type} {Ys = a (mark m.RoundOpen) ∷ rule a_type ∷ a (mark m.RoundClose) ∷ []} (rw h refl)
    (sticks_behind_tok e1 (sticks_behind_rule e2 (sticks_here x)))

pub sticks_a_type_event_1 : (left : ℕ) (k : Tok) (at : List Tok) → type_start k.kind ≡ Some type.Event → SticksRule bracket_type at left →
    SticksRule a_type (k ∷ at) left
sticks_a_type_event_1 left k at h x = sticks_takes {r = a_type} {Ys = rule bracket_type ∷ []} (rw h refl) (sticks_in_rule x)

pub sticks_a_type_other : (k : Tok) (ks : List Tok) → type_start k.kind ≡ None → SticksRule a_type (k ∷ ks) (length (k ∷ ks))
sticks_a_type_other k ks h = sticks_refused (rw h refl)

pub sticks_a_type_end : SticksRule a_type [] 0
sticks_a_type_end = sticks_refused refl

pub sticks_bracket_rest_at_1 : (left : ℕ) (k : Tok) (at : List Tok) → k.kind ≡ (mark m.SquareClose) → SticksRule a_type at left →
    SticksRule bracket_rest (k ∷ at) left
sticks_bracket_rest_at_1 left k at h x = sticks_takes {r = bracket_rest} {Ys = rule a_type ∷ []} (rw h refl) (sticks_in_rule x)

pub sticks_bracket_rest_other_1 : (left : ℕ) (at : List Tok) → ahead at ≢ Some (mark m.SquareClose) → SticksRule a_type at left →
    SticksRule bracket_rest at left
sticks_bracket_rest_other_1 left at h0 x =
    sticks_becomes {r = bracket_rest} {Ys = rule a_type ∷ a (mark m.SquareClose) ∷ rule a_type ∷ []} {ks = at}
    (rw (unseen (mark m.SquareClose) _ h0) refl) (sticks_in_rule x)

pub sticks_bracket_rest_other_2 : (ks1 at : List Tok) → ahead ks1 ≢ Some (mark m.SquareClose) → EatsRule a_type ks1 at →
    ahead at ≢ Some (mark m.SquareClose) → SticksRule bracket_rest ks1 (length at)
sticks_bracket_rest_other_2 ks1 at h0 e1 x =
    sticks_becomes {r = bracket_rest} {Ys = rule a_type ∷ a (mark m.SquareClose) ∷ rule a_type ∷ []} {ks = ks1}
    (rw (unseen (mark m.SquareClose) _ h0) refl) (sticks_behind_rule e1 (sticks_here x))

pub sticks_bracket_rest_other_3 : (left : ℕ) (k2 : Tok) (ks1 at : List Tok) → ahead ks1 ≢ Some (mark m.SquareClose) →
    EatsRule a_type ks1 (k2 ∷ at) → k2.kind ≡ (mark m.SquareClose) → SticksRule a_type at left → SticksRule bracket_rest ks1 left
sticks_bracket_rest_other_3 left k2 ks1 at h0 e1 e2 x =
    sticks_becomes {r = bracket_rest} {Ys = rule a_type ∷ a (mark m.SquareClose) ∷ rule a_type ∷ []} {ks = ks1}
    (rw (unseen (mark m.SquareClose) _ h0) refl) (sticks_behind_rule e1 (sticks_behind_tok e2 (sticks_in_rule x)))

pub sticks_tuple_rest_1 : (at : List Tok) → ahead at ≢ Some (mark m.RoundOpen) → SticksRule tuple_rest at (length at)
sticks_tuple_rest_1 at x = sticks_becomes {r = tuple_rest}
    {Ys = a (mark m.RoundOpen) ∷ rule a_type ∷ a (mark m.Comma) ∷ rule types ∷ a (mark m.RoundClose) ∷ []} {ks = at} refl (sticks_here x)

pub sticks_tuple_rest_2 : (left : ℕ) (k1 : Tok) (at : List Tok) → k1.kind ≡ (mark m.RoundOpen) → SticksRule a_type at left →
    SticksRule tuple_rest (k1 ∷ at) left
sticks_tuple_rest_2 left k1 at e1 x = sticks_becomes {r = tuple_rest}
    {Ys = a (mark m.RoundOpen) ∷ rule a_type ∷ a (mark m.Comma) ∷ rule types ∷ a (mark m.RoundClose) ∷ []} {ks = k1 ∷ at} refl
    (sticks_behind_tok e1 (sticks_in_rule x))

pub sticks_tuple_rest_3 : (k1 : Tok) (ks2 at : List Tok) → k1.kind ≡ (mark m.RoundOpen) → EatsRule a_type ks2 at →
    ahead at ≢ Some (mark m.Comma) → SticksRule tuple_rest (k1 ∷ ks2) (length at)
sticks_tuple_rest_3 k1 ks2 at e1 e2 x = sticks_becomes {r = tuple_rest}
    {Ys = a (mark m.RoundOpen) ∷ rule a_type ∷ a (mark m.Comma) ∷ rule types ∷ a (mark m.RoundClose) ∷ []} {ks = k1 ∷ ks2} refl
    (sticks_behind_tok e1 (sticks_behind_rule e2 (sticks_here x)))

pub sticks_tuple_rest_4 : (left : ℕ) (k1 k3 : Tok) (ks2 at : List Tok) → k1.kind ≡ (mark m.RoundOpen) → EatsRule a_type ks2 (k3 ∷ at) →
    k3.kind ≡ (mark m.Comma) → SticksRule types at left → SticksRule tuple_rest (k1 ∷ ks2) left
sticks_tuple_rest_4 left k1 k3 ks2 at e1 e2 e3 x =
    sticks_becomes {r = tuple_rest} {Ys = a (mark m.RoundOpen) ∷ rule a_type ∷ a (mark m.Comma) ∷ rule types ∷ a (mark m.RoundClose) ∷ []}
    {ks = k1 ∷ ks2} refl (sticks_behind_tok e1 (sticks_behind_rule e2 (sticks_behind_tok e3 (sticks_in_rule x))))

pub sticks_tuple_rest_5 : (k1 k3 : Tok) (ks2 ks4 at : List Tok) → k1.kind ≡ (mark m.RoundOpen) → EatsRule a_type ks2 (k3 ∷ ks4) →
    k3.kind ≡ (mark m.Comma) → EatsRule types ks4 at → ahead at ≢ Some (mark m.RoundClose) → SticksRule tuple_rest (k1 ∷ ks2) (length at)
sticks_tuple_rest_5 k1 k3 ks2 ks4 at e1 e2 e3 e4 x =
    sticks_becomes {r = tuple_rest} {Ys = a (mark m.RoundOpen) ∷ rule a_type ∷ a (mark m.Comma) ∷ rule types ∷ a (mark m.RoundClose) ∷ []}
    {ks = k1 ∷ ks2} refl (sticks_behind_tok e1 (sticks_behind_rule e2 (sticks_behind_tok e3 (sticks_behind_rule e4 (sticks_here x)))))

pub sticks_types_1 : (left : ℕ) (at : List Tok) → SticksRule a_type at left → SticksRule types at left
sticks_types_1 left at x = sticks_becomes {r = types} {Ys = rule a_type ∷ rule types_tail ∷ []} {ks = at} refl (sticks_in_rule x)

pub sticks_types_2 : (left : ℕ) (ks1 at : List Tok) → EatsRule a_type ks1 at → SticksRule types_tail at left → SticksRule types ks1 left
sticks_types_2 left ks1 at e1 x = sticks_becomes {r = types} {Ys = rule a_type ∷ rule types_tail ∷ []} {ks = ks1} refl
    (sticks_behind_rule e1 (sticks_in_rule x))

pub sticks_types_tail_at_1 : (left : ℕ) (k : Tok) (at : List Tok) → k.kind ≡ (mark m.Comma) → SticksRule a_type at left →
    SticksRule types_tail (k ∷ at) left
sticks_types_tail_at_1 left k at h x = sticks_takes {r = types_tail} {Ys = rule a_type ∷ rule types_tail ∷ []} (rw h refl)
    (sticks_in_rule x)

pub sticks_types_tail_at_2 : (left : ℕ) (k : Tok) (ks1 at : List Tok) → k.kind ≡ (mark m.Comma) → EatsRule a_type ks1 at →
    SticksRule types_tail at left → SticksRule types_tail (k ∷ ks1) left
sticks_types_tail_at_2 left k ks1 at h e1 x =
    sticks_takes {r = types_tail} {Ys = rule a_type ∷ rule types_tail ∷ []} (rw h refl) (sticks_behind_rule e1 (sticks_in_rule x))

pub sticks_bracket_type_1 : (at : List Tok) → ahead at ≢ Some (mark m.RoundOpen) → SticksRule bracket_type at (length at)
sticks_bracket_type_1 at x = sticks_becomes {r = bracket_type} {Ys = a (mark m.RoundOpen) ∷ rule bracket_type_rest ∷ []} {ks = at} refl
    (sticks_here x)

pub sticks_bracket_type_2 : (left : ℕ) (k1 : Tok) (at : List Tok) → k1.kind ≡ (mark m.RoundOpen) → SticksRule bracket_type_rest at left →
    SticksRule bracket_type (k1 ∷ at) left
sticks_bracket_type_2 left k1 at e1 x = sticks_becomes {r = bracket_type} {Ys = a (mark m.RoundOpen) ∷ rule bracket_type_rest ∷ []}
    {ks = k1 ∷ at} refl (sticks_behind_tok e1 (sticks_in_rule x))

pub sticks_bracket_type_rest_other_1 : (left : ℕ) (at : List Tok) → ahead at ≢ Some (mark m.RoundClose) → SticksRule a_type at left →
    SticksRule bracket_type_rest at left
sticks_bracket_type_rest_other_1 left at h0 x =
    sticks_becomes {r = bracket_type_rest} {Ys = rule a_type ∷ a (mark m.RoundClose) ∷ []} {ks = at}
    (rw (unseen (mark m.RoundClose) _ h0) refl) (sticks_in_rule x)

pub sticks_bracket_type_rest_other_2 : (ks1 at : List Tok) → ahead ks1 ≢ Some (mark m.RoundClose) → EatsRule a_type ks1 at →
    ahead at ≢ Some (mark m.RoundClose) → SticksRule bracket_type_rest ks1 (length at)
sticks_bracket_type_rest_other_2 ks1 at h0 e1 x =
    sticks_becomes {r = bracket_type_rest} {Ys = rule a_type ∷ a (mark m.RoundClose) ∷ []} {ks = ks1}
    (rw (unseen (mark m.RoundClose) _ h0) refl) (sticks_behind_rule e1 (sticks_here x))

pub sticks_block_1 : (at : List Tok) → ahead at ≢ Some tok.Open → SticksRule (phrase p.Block) at (length at)
sticks_block_1 at x = sticks_becomes {r = phrase p.Block} {Ys = a tok.Open ∷ rule (until p.Part tok.Sep tok.Close) ∷ []} {ks = at} refl
    (sticks_here x)

pub sticks_block_2 : (left : ℕ) (k1 : Tok) (at : List Tok) → k1.kind ≡ tok.Open → SticksRule (until p.Part tok.Sep tok.Close) at left →
    SticksRule (phrase p.Block) (k1 ∷ at) left
sticks_block_2 left k1 at e1 x = sticks_becomes {r = phrase p.Block} {Ys = a tok.Open ∷ rule (until p.Part tok.Sep tok.Close) ∷ []}
    {ks = k1 ∷ at} refl (sticks_behind_tok e1 (sticks_in_rule x))

pub sticks_part_at_1 : (left : ℕ) (k : Tok) (at : List Tok) → k.kind ≡ (word w.Defer) → SticksRule (phrase p.Block) at left →
    SticksRule (phrase p.Part) (k ∷ at) left
sticks_part_at_1 left k at h x = sticks_takes {r = phrase p.Part} {Ys = rule (phrase p.Block) ∷ []} (rw h refl) (sticks_in_rule x)

pub sticks_part_other_1 : (left : ℕ) (at : List Tok) → ahead at ≢ Some (word w.Defer) → SticksRule (phrase p.Stmt) at left →
    SticksRule (phrase p.Part) at left
sticks_part_other_1 left at h0 x = sticks_becomes {r = phrase p.Part} {Ys = rule (phrase p.Stmt) ∷ []} {ks = at}
    (rw (unseen (word w.Defer) _ h0) refl) (sticks_in_rule x)

pub sticks_stmt_name_1 : (left : ℕ) (k : Tok) (at : List Tok) → stmt_start k.kind ≡ Some stmt.Name → SticksRule stmt_name at left →
    SticksRule (phrase p.Stmt) (k ∷ at) left
sticks_stmt_name_1 left k at h x = sticks_takes {r = phrase p.Stmt} {Ys = rule stmt_name ∷ []} (rw h refl) (sticks_in_rule x)

pub sticks_stmt_var_1 : (k : Tok) (at : List Tok) → stmt_start k.kind ≡ Some stmt.Var → ahead at ≢ Some name →
    SticksRule (phrase p.Stmt) (k ∷ at) (length at)
sticks_stmt_var_1 k at h x = sticks_takes {r = phrase p.Stmt} {Ys = a name ∷ rule typed_value ∷ []} (rw h refl) (sticks_here x)

pub sticks_stmt_var_2 : (left : ℕ) (k k1 : Tok) (at : List Tok) → stmt_start k.kind ≡ Some stmt.Var → k1.kind ≡ name →
    SticksRule typed_value at left → SticksRule (phrase p.Stmt) (k ∷ (k1 ∷ at)) left
sticks_stmt_var_2 left k k1 at h e1 x = sticks_takes {r = phrase p.Stmt} {Ys = a name ∷ rule typed_value ∷ []} (rw h refl)
    (sticks_behind_tok e1 (sticks_in_rule x))

pub sticks_stmt_set_1 : (left : ℕ) (k : Tok) (at : List Tok) → stmt_start k.kind ≡ Some stmt.Set → SticksRule set_rest at left →
    SticksRule (phrase p.Stmt) (k ∷ at) left
sticks_stmt_set_1 left k at h x = sticks_takes {r = phrase p.Stmt} {Ys = rule set_rest ∷ []} (rw h refl) (sticks_in_rule x)

pub sticks_stmt_return_1 : (left : ℕ) (k : Tok) (at : List Tok) → stmt_start k.kind ≡ Some stmt.Return → SticksRule return_value at left →
    SticksRule (phrase p.Stmt) (k ∷ at) left
sticks_stmt_return_1 left k at h x = sticks_takes {r = phrase p.Stmt} {Ys = rule return_value ∷ []} (rw h refl) (sticks_in_rule x)

pub sticks_stmt_other_1 : (left : ℕ) (at : List Tok) → first_as stmt_start at ≡ None → SticksRule (phrase p.Expr) at left →
    SticksRule (phrase p.Stmt) at left
sticks_stmt_other_1 left at h x = sticks_becomes {r = phrase p.Stmt} {Ys = rule (phrase p.Expr) ∷ []} {ks = at} (rw h refl)
    (sticks_in_rule x)

pub sticks_body_at_1 : (left : ℕ) (k : Tok) (ks : List Tok) → k.kind ≡ tok.Open → SticksRule (phrase p.Block) (k ∷ ks) left →
    SticksRule (phrase p.Body) (k ∷ ks) left
sticks_body_at_1 left k ks h x = sticks_becomes {r = phrase p.Body} {Ys = rule (phrase p.Block) ∷ []} {ks = k ∷ ks} (rw h refl)
    (sticks_in_rule x)

pub sticks_body_other_1 : (left : ℕ) (at : List Tok) → ahead at ≢ Some tok.Open → SticksRule (phrase p.Expr) at left →
    SticksRule (phrase p.Body) at left
sticks_body_other_1 left at h0 x = sticks_becomes {r = phrase p.Body} {Ys = rule (phrase p.Expr) ∷ []} {ks = at}
    (rw (unseen tok.Open _ h0) refl) (sticks_in_rule x)

pub sticks_expr_at_1 : (left : ℕ) (k : Tok) (ks : List Tok) → k.kind ≡ (word w.If) → SticksRule an_if (k ∷ ks) left →
    SticksRule (phrase p.Expr) (k ∷ ks) left
sticks_expr_at_1 left k ks h x = sticks_becomes {r = phrase p.Expr} {Ys = rule an_if ∷ []} {ks = k ∷ ks} (rw h refl) (sticks_in_rule x)

pub sticks_expr_other_1 : (left : ℕ) (at : List Tok) → ahead at ≢ Some (word w.If) → SticksRule (phrase p.Or) at left →
    SticksRule (phrase p.Expr) at left
sticks_expr_other_1 left at h0 x = sticks_becomes {r = phrase p.Expr} {Ys = rule (phrase p.Or) ∷ []} {ks = at}
    (rw (unseen (word w.If) _ h0) refl) (sticks_in_rule x)

pub sticks_or_1 : (left : ℕ) (at : List Tok) → SticksRule (phrase p.And) at left → SticksRule (phrase p.Or) at left
sticks_or_1 left at x = sticks_becomes {r = phrase p.Or} {Ys = rule (phrase p.And) ∷ rule (chain_tail p.Or) ∷ []} {ks = at} refl
    (sticks_in_rule x)

pub sticks_or_2 : (left : ℕ) (ks1 at : List Tok) → EatsRule (phrase p.And) ks1 at → SticksRule (chain_tail p.Or) at left →
    SticksRule (phrase p.Or) ks1 left
sticks_or_2 left ks1 at e1 x = sticks_becomes {r = phrase p.Or} {Ys = rule (phrase p.And) ∷ rule (chain_tail p.Or) ∷ []} {ks = ks1} refl
    (sticks_behind_rule e1 (sticks_in_rule x))

pub sticks_and_1 : (left : ℕ) (at : List Tok) → SticksRule (phrase p.Not) at left → SticksRule (phrase p.And) at left
sticks_and_1 left at x = sticks_becomes {r = phrase p.And} {Ys = rule (phrase p.Not) ∷ rule (chain_tail p.And) ∷ []} {ks = at} refl
    (sticks_in_rule x)

pub sticks_and_2 : (left : ℕ) (ks1 at : List Tok) → EatsRule (phrase p.Not) ks1 at → SticksRule (chain_tail p.And) at left →
    SticksRule (phrase p.And) ks1 left
sticks_and_2 left ks1 at e1 x = sticks_becomes {r = phrase p.And} {Ys = rule (phrase p.Not) ∷ rule (chain_tail p.And) ∷ []} {ks = ks1} refl
    (sticks_behind_rule e1 (sticks_in_rule x))

pub sticks_not_at_1 : (left : ℕ) (k : Tok) (at : List Tok) → k.kind ≡ (word w.Not) → SticksRule (phrase p.Not) at left →
    SticksRule (phrase p.Not) (k ∷ at) left
sticks_not_at_1 left k at h x = sticks_takes {r = phrase p.Not} {Ys = rule (phrase p.Not) ∷ []} (rw h refl) (sticks_in_rule x)

pub sticks_not_other_1 : (left : ℕ) (at : List Tok) → ahead at ≢ Some (word w.Not) → SticksRule (phrase p.Comparison) at left →
    SticksRule (phrase p.Not) at left
sticks_not_other_1 left at h0 x = sticks_becomes {r = phrase p.Not} {Ys = rule (phrase p.Comparison) ∷ []} {ks = at}
    (rw (unseen (word w.Not) _ h0) refl) (sticks_in_rule x)

pub sticks_comparison_1 : (left : ℕ) (at : List Tok) → SticksRule (phrase p.Sum) at left → SticksRule (phrase p.Comparison) at left
sticks_comparison_1 left at x = sticks_becomes {r = phrase p.Comparison} {Ys = rule (phrase p.Sum) ∷ rule comparison_tail ∷ []} {ks = at}
    refl (sticks_in_rule x)

pub sticks_comparison_2 : (left : ℕ) (ks1 at : List Tok) → EatsRule (phrase p.Sum) ks1 at → SticksRule comparison_tail at left →
    SticksRule (phrase p.Comparison) ks1 left
sticks_comparison_2 left ks1 at e1 x = sticks_becomes {r = phrase p.Comparison} {Ys = rule (phrase p.Sum) ∷ rule comparison_tail ∷ []}
    {ks = ks1} refl (sticks_behind_rule e1 (sticks_in_rule x))

pub sticks_sum_1 : (left : ℕ) (at : List Tok) → SticksRule (phrase p.Product) at left → SticksRule (phrase p.Sum) at left
sticks_sum_1 left at x = sticks_becomes {r = phrase p.Sum} {Ys = rule (phrase p.Product) ∷ rule (chain_tail p.Sum) ∷ []} {ks = at} refl
    (sticks_in_rule x)

pub sticks_sum_2 : (left : ℕ) (ks1 at : List Tok) → EatsRule (phrase p.Product) ks1 at → SticksRule (chain_tail p.Sum) at left →
    SticksRule (phrase p.Sum) ks1 left
sticks_sum_2 left ks1 at e1 x = sticks_becomes {r = phrase p.Sum} {Ys = rule (phrase p.Product) ∷ rule (chain_tail p.Sum) ∷ []} {ks = ks1}
    refl (sticks_behind_rule e1 (sticks_in_rule x))

pub sticks_product_1 : (left : ℕ) (at : List Tok) → SticksRule (phrase p.Minus) at left → SticksRule (phrase p.Product) at left
sticks_product_1 left at x = sticks_becomes {r = phrase p.Product} {Ys = rule (phrase p.Minus) ∷ rule (chain_tail p.Product) ∷ []} {ks = at}
    refl (sticks_in_rule x)

pub sticks_product_2 : (left : ℕ) (ks1 at : List Tok) → EatsRule (phrase p.Minus) ks1 at → SticksRule (chain_tail p.Product) at left →
    SticksRule (phrase p.Product) ks1 left
sticks_product_2 left ks1 at e1 x = sticks_becomes {r = phrase p.Product} {Ys = rule (phrase p.Minus) ∷ rule (chain_tail p.Product) ∷ []}
    {ks = ks1} refl (sticks_behind_rule e1 (sticks_in_rule x))

pub sticks_minus_at_1 : (left : ℕ) (k : Tok) (at : List Tok) → k.kind ≡ (mark m.Minus) → SticksRule (phrase p.Minus) at left →
    SticksRule (phrase p.Minus) (k ∷ at) left
sticks_minus_at_1 left k at h x = sticks_takes {r = phrase p.Minus} {Ys = rule (phrase p.Minus) ∷ []} (rw h refl) (sticks_in_rule x)

pub sticks_minus_other_1 : (left : ℕ) (at : List Tok) → ahead at ≢ Some (mark m.Minus) → SticksRule (phrase p.Postfix) at left →
    SticksRule (phrase p.Minus) at left
sticks_minus_other_1 left at h0 x = sticks_becomes {r = phrase p.Minus} {Ys = rule (phrase p.Postfix) ∷ []} {ks = at}
    (rw (unseen (mark m.Minus) _ h0) refl) (sticks_in_rule x)

pub sticks_postfix_1 : (left : ℕ) (at : List Tok) → SticksRule (phrase p.Primary) at left → SticksRule (phrase p.Postfix) at left
sticks_postfix_1 left at x = sticks_becomes {r = phrase p.Postfix} {Ys = rule (phrase p.Primary) ∷ rule postfix_tail ∷ []} {ks = at} refl
    (sticks_in_rule x)

pub sticks_postfix_2 : (left : ℕ) (ks1 at : List Tok) → EatsRule (phrase p.Primary) ks1 at → SticksRule postfix_tail at left →
    SticksRule (phrase p.Postfix) ks1 left
sticks_postfix_2 left ks1 at e1 x = sticks_becomes {r = phrase p.Postfix} {Ys = rule (phrase p.Primary) ∷ rule postfix_tail ∷ []} {ks = ks1}
    refl (sticks_behind_rule e1 (sticks_in_rule x))

pub sticks_primary_textopen_1 : (left : ℕ) (k : Tok) (at : List Tok) → primary_start k.kind ≡ Some primary.TextOpen →
    SticksRule (phrase p.Expr) at left → SticksRule (phrase p.Primary) (k ∷ at) left
sticks_primary_textopen_1 left k at h x = sticks_takes {r = phrase p.Primary} {Ys = rule (phrase p.Expr) ∷ rule hole_rest ∷ []} (rw h refl)
    (sticks_in_rule x)

pub sticks_primary_textopen_2 : (left : ℕ) (k : Tok) (ks1 at : List Tok) → primary_start k.kind ≡ Some primary.TextOpen →
    EatsRule (phrase p.Expr) ks1 at → SticksRule hole_rest at left → SticksRule (phrase p.Primary) (k ∷ ks1) left
sticks_primary_textopen_2 left k ks1 at h e1 x =
    sticks_takes {r = phrase p.Primary} {Ys = rule (phrase p.Expr) ∷ rule hole_rest ∷ []} (rw h refl)
    (sticks_behind_rule e1 (sticks_in_rule x))

pub sticks_primary_name_1 : (left : ℕ) (k : Tok) (at : List Tok) → primary_start k.kind ≡ Some primary.Name → SticksRule name_rest at left →
    SticksRule (phrase p.Primary) (k ∷ at) left
sticks_primary_name_1 left k at h x = sticks_takes {r = phrase p.Primary} {Ys = rule name_rest ∷ []} (rw h refl) (sticks_in_rule x)

pub sticks_primary_round_1 : (left : ℕ) (k : Tok) (at : List Tok) → primary_start k.kind ≡ Some primary.Round →
    SticksRule (phrase p.Expr) at left → SticksRule (phrase p.Primary) (k ∷ at) left
sticks_primary_round_1 left k at h x = sticks_takes {r = phrase p.Primary} {Ys = rule (phrase p.Expr) ∷ rule round_rest ∷ []} (rw h refl)
    (sticks_in_rule x)

pub sticks_primary_round_2 : (left : ℕ) (k : Tok) (ks1 at : List Tok) → primary_start k.kind ≡ Some primary.Round →
    EatsRule (phrase p.Expr) ks1 at → SticksRule round_rest at left → SticksRule (phrase p.Primary) (k ∷ ks1) left
sticks_primary_round_2 left k ks1 at h e1 x =
    sticks_takes {r = phrase p.Primary} {Ys = rule (phrase p.Expr) ∷ rule round_rest ∷ []} (rw h refl)
    (sticks_behind_rule e1 (sticks_in_rule x))

pub sticks_primary_array_1 : (k : Tok) (at : List Tok) → primary_start k.kind ≡ Some primary.Array → ahead at ≢ Some tok.Open →
    SticksRule (phrase p.Primary) (k ∷ at) (length at)
sticks_primary_array_1 k at h x = sticks_takes {r = phrase p.Primary} {Ys = a tok.Open ∷ rule (until p.Expr tok.Sep tok.Close) ∷ []}
    (rw h refl) (sticks_here x)

pub sticks_primary_array_2 : (left : ℕ) (k k1 : Tok) (at : List Tok) → primary_start k.kind ≡ Some primary.Array → k1.kind ≡ tok.Open →
    SticksRule (until p.Expr tok.Sep tok.Close) at left → SticksRule (phrase p.Primary) (k ∷ (k1 ∷ at)) left
sticks_primary_array_2 left k k1 at h e1 x =
    sticks_takes {r = phrase p.Primary} {Ys = a tok.Open ∷ rule (until p.Expr tok.Sep tok.Close) ∷ []} (rw h refl)
    (sticks_behind_tok e1 (sticks_in_rule x))

pub sticks_primary_map_1 : (k : Tok) (at : List Tok) → primary_start k.kind ≡ Some primary.Map → ahead at ≢ Some tok.Open →
    SticksRule (phrase p.Primary) (k ∷ at) (length at)
sticks_primary_map_1 k at h x = sticks_takes {r = phrase p.Primary} {Ys = a tok.Open ∷ rule pairs_until ∷ []} (rw h refl) (sticks_here x)

pub sticks_primary_map_2 : (left : ℕ) (k k1 : Tok) (at : List Tok) → primary_start k.kind ≡ Some primary.Map → k1.kind ≡ tok.Open →
    SticksRule pairs_until at left → SticksRule (phrase p.Primary) (k ∷ (k1 ∷ at)) left
sticks_primary_map_2 left k k1 at h e1 x =
    sticks_takes {r = phrase p.Primary} {Ys = a tok.Open ∷ rule pairs_until ∷ []} (rw h refl) (sticks_behind_tok e1 (sticks_in_rule x))

pub sticks_primary_option_1 : (k : Tok) (at : List Tok) → primary_start k.kind ≡ Some primary.Option → ahead at ≢ Some tok.Open →
    SticksRule (phrase p.Primary) (k ∷ at) (length at)
sticks_primary_option_1 k at h x = sticks_takes {r = phrase p.Primary} {Ys = a tok.Open ∷ rule (closed p.Stmt tok.Sep tok.Close) ∷ []}
    (rw h refl) (sticks_here x)

pub sticks_primary_option_2 : (left : ℕ) (k k1 : Tok) (at : List Tok) → primary_start k.kind ≡ Some primary.Option → k1.kind ≡ tok.Open →
    SticksRule (closed p.Stmt tok.Sep tok.Close) at left → SticksRule (phrase p.Primary) (k ∷ (k1 ∷ at)) left
sticks_primary_option_2 left k k1 at h e1 x =
    sticks_takes {r = phrase p.Primary} {Ys = a tok.Open ∷ rule (closed p.Stmt tok.Sep tok.Close) ∷ []} (rw h refl)
    (sticks_behind_tok e1 (sticks_in_rule x))

pub sticks_primary_logic_1 : (k : Tok) (at : List Tok) → primary_start k.kind ≡ Some primary.Logic → ahead at ≢ Some tok.Open →
    SticksRule (phrase p.Primary) (k ∷ at) (length at)
sticks_primary_logic_1 k at h x = sticks_takes {r = phrase p.Primary} {Ys = a tok.Open ∷ rule (closed p.Stmt tok.Sep tok.Close) ∷ []}
    (rw h refl) (sticks_here x)

pub sticks_primary_logic_2 : (left : ℕ) (k k1 : Tok) (at : List Tok) → primary_start k.kind ≡ Some primary.Logic → k1.kind ≡ tok.Open →
    SticksRule (closed p.Stmt tok.Sep tok.Close) at left → SticksRule (phrase p.Primary) (k ∷ (k1 ∷ at)) left
sticks_primary_logic_2 left k k1 at h e1 x =
    sticks_takes {r = phrase p.Primary} {Ys = a tok.Open ∷ rule (closed p.Stmt tok.Sep tok.Close) ∷ []} (rw h refl)
    (sticks_behind_tok e1 (sticks_in_rule x))

pub sticks_primary_event_1 : (left : ℕ) (k : Tok) (at : List Tok) → primary_start k.kind ≡ Some primary.Event →
    SticksRule bracket_type at left → SticksRule (phrase p.Primary) (k ∷ at) left
sticks_primary_event_1 left k at h x = sticks_takes {r = phrase p.Primary} {Ys = rule bracket_type ∷ a tok.Open ∷ a tok.Close ∷ []}
    (rw h refl) (sticks_in_rule x)

pub sticks_primary_event_2 : (k : Tok) (ks1 at : List Tok) → primary_start k.kind ≡ Some primary.Event → EatsRule bracket_type ks1 at →
    ahead at ≢ Some tok.Open → SticksRule (phrase p.Primary) (k ∷ ks1) (length at)
sticks_primary_event_2 k ks1 at h e1 x = sticks_takes {r = phrase p.Primary} {Ys = rule bracket_type ∷ a tok.Open ∷ a tok.Close ∷ []}
    (rw h refl) (sticks_behind_rule e1 (sticks_here x))

pub sticks_primary_event_3 : (k k2 : Tok) (ks1 at : List Tok) → primary_start k.kind ≡ Some primary.Event →
    EatsRule bracket_type ks1 (k2 ∷ at) → k2.kind ≡ tok.Open → ahead at ≢ Some tok.Close →
    SticksRule (phrase p.Primary) (k ∷ ks1) (length at)
sticks_primary_event_3 k k2 ks1 at h e1 e2 x =
    sticks_takes {r = phrase p.Primary} {Ys = rule bracket_type ∷ a tok.Open ∷ a tok.Close ∷ []} (rw h refl)
    (sticks_behind_rule e1 (sticks_behind_tok e2 (sticks_here x)))

pub sticks_primary_for_1 : (k : Tok) (at : List Tok) → primary_start k.kind ≡ Some primary.For → ahead at ≢ Some (mark m.RoundOpen) →
    SticksRule (phrase p.Primary) (k ∷ at) (length at)
sticks_primary_for_1 k at h x = sticks_takes {r = phrase p.Primary} {Ys = a (mark m.RoundOpen) ∷ rule clauses ∷ rule (phrase p.Block) ∷ []}
    (rw h refl) (sticks_here x)

pub sticks_primary_for_2 : (left : ℕ) (k k1 : Tok) (at : List Tok) → primary_start k.kind ≡ Some primary.For →
    k1.kind ≡ (mark m.RoundOpen) → SticksRule clauses at left → SticksRule (phrase p.Primary) (k ∷ (k1 ∷ at)) left
sticks_primary_for_2 left k k1 at h e1 x =
    sticks_takes {r = phrase p.Primary} {Ys = a (mark m.RoundOpen) ∷ rule clauses ∷ rule (phrase p.Block) ∷ []} (rw h refl)
    (sticks_behind_tok e1 (sticks_in_rule x))

pub sticks_primary_for_3 : (left : ℕ) (k k1 : Tok) (ks2 at : List Tok) → primary_start k.kind ≡ Some primary.For →
    k1.kind ≡ (mark m.RoundOpen) → EatsRule clauses ks2 at → SticksRule (phrase p.Block) at left →
    SticksRule (phrase p.Primary) (k ∷ (k1 ∷ ks2)) left
sticks_primary_for_3 left k k1 ks2 at h e1 e2 x =
    sticks_takes {r = phrase p.Primary} {Ys = a (mark m.RoundOpen) ∷ rule clauses ∷ rule (phrase p.Block) ∷ []} (rw h refl)
    (sticks_behind_tok e1 (sticks_behind_rule e2 (sticks_in_rule x)))

pub sticks_primary_loop_1 : (left : ℕ) (k : Tok) (at : List Tok) → primary_start k.kind ≡ Some primary.Loop →
    SticksRule (phrase p.Block) at left → SticksRule (phrase p.Primary) (k ∷ at) left
sticks_primary_loop_1 left k at h x = sticks_takes {r = phrase p.Primary} {Ys = rule (phrase p.Block) ∷ []} (rw h refl) (sticks_in_rule x)

pub sticks_primary_block_1 : (left : ℕ) (k : Tok) (at : List Tok) → primary_start k.kind ≡ Some primary.Block →
    SticksRule (phrase p.Block) at left → SticksRule (phrase p.Primary) (k ∷ at) left
sticks_primary_block_1 left k at h x = sticks_takes {r = phrase p.Primary} {Ys = rule (phrase p.Block) ∷ []} (rw h refl) (sticks_in_rule x)

pub sticks_primary_branch_1 : (left : ℕ) (k : Tok) (at : List Tok) → primary_start k.kind ≡ Some primary.Branch →
    SticksRule (phrase p.Block) at left → SticksRule (phrase p.Primary) (k ∷ at) left
sticks_primary_branch_1 left k at h x = sticks_takes {r = phrase p.Primary} {Ys = rule (phrase p.Block) ∷ []} (rw h refl) (sticks_in_rule x)

pub sticks_primary_sync_1 : (k : Tok) (at : List Tok) → primary_start k.kind ≡ Some primary.Sync → ahead at ≢ Some tok.Open →
    SticksRule (phrase p.Primary) (k ∷ at) (length at)
sticks_primary_sync_1 k at h x = sticks_takes {r = phrase p.Primary} {Ys = a tok.Open ∷ rule (until p.Stmt tok.Sep tok.Close) ∷ []}
    (rw h refl) (sticks_here x)

pub sticks_primary_sync_2 : (left : ℕ) (k k1 : Tok) (at : List Tok) → primary_start k.kind ≡ Some primary.Sync → k1.kind ≡ tok.Open →
    SticksRule (until p.Stmt tok.Sep tok.Close) at left → SticksRule (phrase p.Primary) (k ∷ (k1 ∷ at)) left
sticks_primary_sync_2 left k k1 at h e1 x =
    sticks_takes {r = phrase p.Primary} {Ys = a tok.Open ∷ rule (until p.Stmt tok.Sep tok.Close) ∷ []} (rw h refl)
    (sticks_behind_tok e1 (sticks_in_rule x))

pub sticks_primary_race_1 : (k : Tok) (at : List Tok) → primary_start k.kind ≡ Some primary.Race → ahead at ≢ Some tok.Open →
    SticksRule (phrase p.Primary) (k ∷ at) (length at)
sticks_primary_race_1 k at h x = sticks_takes {r = phrase p.Primary} {Ys = a tok.Open ∷ rule (until p.Stmt tok.Sep tok.Close) ∷ []}
    (rw h refl) (sticks_here x)

pub sticks_primary_race_2 : (left : ℕ) (k k1 : Tok) (at : List Tok) → primary_start k.kind ≡ Some primary.Race → k1.kind ≡ tok.Open →
    SticksRule (until p.Stmt tok.Sep tok.Close) at left → SticksRule (phrase p.Primary) (k ∷ (k1 ∷ at)) left
sticks_primary_race_2 left k k1 at h e1 x =
    sticks_takes {r = phrase p.Primary} {Ys = a tok.Open ∷ rule (until p.Stmt tok.Sep tok.Close) ∷ []} (rw h refl)
    (sticks_behind_tok e1 (sticks_in_rule x))

pub sticks_primary_rush_1 : (k : Tok) (at : List Tok) → primary_start k.kind ≡ Some primary.Rush → ahead at ≢ Some tok.Open →
    SticksRule (phrase p.Primary) (k ∷ at) (length at)
sticks_primary_rush_1 k at h x = sticks_takes {r = phrase p.Primary} {Ys = a tok.Open ∷ rule (until p.Stmt tok.Sep tok.Close) ∷ []}
    (rw h refl) (sticks_here x)

pub sticks_primary_rush_2 : (left : ℕ) (k k1 : Tok) (at : List Tok) → primary_start k.kind ≡ Some primary.Rush → k1.kind ≡ tok.Open →
    SticksRule (until p.Stmt tok.Sep tok.Close) at left → SticksRule (phrase p.Primary) (k ∷ (k1 ∷ at)) left
sticks_primary_rush_2 left k k1 at h e1 x =
    sticks_takes {r = phrase p.Primary} {Ys = a tok.Open ∷ rule (until p.Stmt tok.Sep tok.Close) ∷ []} (rw h refl)
    (sticks_behind_tok e1 (sticks_in_rule x))

pub sticks_primary_case_1 : (left : ℕ) (k : Tok) (at : List Tok) → primary_start k.kind ≡ Some primary.Case → SticksRule case_rest at left →
    SticksRule (phrase p.Primary) (k ∷ at) left
sticks_primary_case_1 left k at h x = sticks_takes {r = phrase p.Primary} {Ys = rule case_rest ∷ []} (rw h refl) (sticks_in_rule x)

pub sticks_primary_spawn_1 : (k : Tok) (at : List Tok) → primary_start k.kind ≡ Some primary.Spawn → ahead at ≢ Some tok.Open →
    SticksRule (phrase p.Primary) (k ∷ at) (length at)
sticks_primary_spawn_1 k at h x = sticks_takes {r = phrase p.Primary} {Ys = a tok.Open ∷ rule (phrase p.Expr) ∷ a tok.Close ∷ []}
    (rw h refl) (sticks_here x)

pub sticks_primary_spawn_2 : (left : ℕ) (k k1 : Tok) (at : List Tok) → primary_start k.kind ≡ Some primary.Spawn → k1.kind ≡ tok.Open →
    SticksRule (phrase p.Expr) at left → SticksRule (phrase p.Primary) (k ∷ (k1 ∷ at)) left
sticks_primary_spawn_2 left k k1 at h e1 x =
    sticks_takes {r = phrase p.Primary} {Ys = a tok.Open ∷ rule (phrase p.Expr) ∷ a tok.Close ∷ []} (rw h refl)
    (sticks_behind_tok e1 (sticks_in_rule x))

pub sticks_primary_spawn_3 : (k k1 : Tok) (ks2 at : List Tok) → primary_start k.kind ≡ Some primary.Spawn → k1.kind ≡ tok.Open →
    EatsRule (phrase p.Expr) ks2 at → ahead at ≢ Some tok.Close → SticksRule (phrase p.Primary) (k ∷ (k1 ∷ ks2)) (length at)
sticks_primary_spawn_3 k k1 ks2 at h e1 e2 x =
    sticks_takes {r = phrase p.Primary} {Ys = a tok.Open ∷ rule (phrase p.Expr) ∷ a tok.Close ∷ []} (rw h refl)
    (sticks_behind_tok e1 (sticks_behind_rule e2 (sticks_here x)))

pub sticks_primary_sleep_1 : (k : Tok) (at : List Tok) → primary_start k.kind ≡ Some primary.Sleep → ahead at ≢ Some (mark m.RoundOpen) →
    SticksRule (phrase p.Primary) (k ∷ at) (length at)
sticks_primary_sleep_1 k at h x = sticks_takes {r = phrase p.Primary}
    {Ys = a (mark m.RoundOpen) ∷ rule duration ∷ a (mark m.RoundClose) ∷ []} (rw h refl) (sticks_here x)

pub sticks_primary_sleep_2 : (left : ℕ) (k k1 : Tok) (at : List Tok) → primary_start k.kind ≡ Some primary.Sleep →
    k1.kind ≡ (mark m.RoundOpen) → SticksRule duration at left → SticksRule (phrase p.Primary) (k ∷ (k1 ∷ at)) left
sticks_primary_sleep_2 left k k1 at h e1 x =
    sticks_takes {r = phrase p.Primary} {Ys = a (mark m.RoundOpen) ∷ rule duration ∷ a (mark m.RoundClose) ∷ []} (rw h refl)
    (sticks_behind_tok e1 (sticks_in_rule x))

pub sticks_primary_sleep_3 : (k k1 : Tok) (ks2 at : List Tok) → primary_start k.kind ≡ Some primary.Sleep → k1.kind ≡ (mark m.RoundOpen) →
    EatsRule duration ks2 at → ahead at ≢ Some (mark m.RoundClose) → SticksRule (phrase p.Primary) (k ∷ (k1 ∷ ks2)) (length at)
sticks_primary_sleep_3 k k1 ks2 at h e1 e2 x =
    sticks_takes {r = phrase p.Primary} {Ys = a (mark m.RoundOpen) ∷ rule duration ∷ a (mark m.RoundClose) ∷ []} (rw h refl)
    (sticks_behind_tok e1 (sticks_behind_rule e2 (sticks_here x)))

pub sticks_primary_other : (k : Tok) (ks : List Tok) → primary_start k.kind ≡ None →
    SticksRule (phrase p.Primary) (k ∷ ks) (length (k ∷ ks))
sticks_primary_other k ks h = sticks_refused (rw h refl)

pub sticks_primary_end : SticksRule (phrase p.Primary) [] 0
sticks_primary_end = sticks_refused refl

pub sticks_generator_1 : (at : List Tok) → ahead at ≢ Some name → SticksRule (phrase p.Generator) at (length at)
sticks_generator_1 at x = sticks_becomes {r = phrase p.Generator} {Ys = a name ∷ rule generator_rest ∷ []} {ks = at} refl (sticks_here x)

pub sticks_generator_2 : (left : ℕ) (k1 : Tok) (at : List Tok) → k1.kind ≡ name → SticksRule generator_rest at left →
    SticksRule (phrase p.Generator) (k1 ∷ at) left
sticks_generator_2 left k1 at e1 x = sticks_becomes {r = phrase p.Generator} {Ys = a name ∷ rule generator_rest ∷ []} {ks = k1 ∷ at} refl
    (sticks_behind_tok e1 (sticks_in_rule x))

pub sticks_clause_name_1 : (left : ℕ) (k : Tok) (at : List Tok) → stmt_start k.kind ≡ Some stmt.Name → SticksRule clause_name at left →
    SticksRule (phrase p.Clause) (k ∷ at) left
sticks_clause_name_1 left k at h x = sticks_takes {r = phrase p.Clause} {Ys = rule clause_name ∷ []} (rw h refl) (sticks_in_rule x)

pub sticks_clause_var : (k : Tok) (ks : List Tok) → stmt_start k.kind ≡ Some stmt.Var →
    SticksRule (phrase p.Clause) (k ∷ ks) (length (k ∷ ks))
sticks_clause_var k ks h = sticks_refused (rw h refl)

pub sticks_clause_set_1 : (left : ℕ) (k : Tok) (at : List Tok) → stmt_start k.kind ≡ Some stmt.Set → SticksRule set_rest at left →
    SticksRule (phrase p.Clause) (k ∷ at) left
sticks_clause_set_1 left k at h x = sticks_takes {r = phrase p.Clause} {Ys = rule set_rest ∷ []} (rw h refl) (sticks_in_rule x)

pub sticks_clause_return_1 : (left : ℕ) (k : Tok) (at : List Tok) → stmt_start k.kind ≡ Some stmt.Return → SticksRule return_value at left →
    SticksRule (phrase p.Clause) (k ∷ at) left
sticks_clause_return_1 left k at h x = sticks_takes {r = phrase p.Clause} {Ys = rule return_value ∷ []} (rw h refl) (sticks_in_rule x)

pub sticks_clause_other_1 : (left : ℕ) (at : List Tok) → first_as stmt_start at ≡ None → SticksRule (phrase p.Expr) at left →
    SticksRule (phrase p.Clause) at left
sticks_clause_other_1 left at h x = sticks_becomes {r = phrase p.Clause} {Ys = rule (phrase p.Expr) ∷ []} {ks = at} (rw h refl)
    (sticks_in_rule x)

pub sticks_arm_1 : (left : ℕ) (at : List Tok) → SticksRule (phrase p.Pattern) at left → SticksRule (phrase p.Arm) at left
sticks_arm_1 left at x = sticks_becomes {r = phrase p.Arm} {Ys = rule (phrase p.Pattern) ∷ a (mark m.FatArrow) ∷ rule (phrase p.Body) ∷ []}
    {ks = at} refl (sticks_in_rule x)

pub sticks_arm_2 : (ks1 at : List Tok) → EatsRule (phrase p.Pattern) ks1 at → ahead at ≢ Some (mark m.FatArrow) →
    SticksRule (phrase p.Arm) ks1 (length at)
sticks_arm_2 ks1 at e1 x = sticks_becomes {r = phrase p.Arm}
    {Ys = rule (phrase p.Pattern) ∷ a (mark m.FatArrow) ∷ rule (phrase p.Body) ∷ []} {ks = ks1} refl (sticks_behind_rule e1 (sticks_here x))

pub sticks_arm_3 : (left : ℕ) (k2 : Tok) (ks1 at : List Tok) → EatsRule (phrase p.Pattern) ks1 (k2 ∷ at) → k2.kind ≡ (mark m.FatArrow) →
    SticksRule (phrase p.Body) at left → SticksRule (phrase p.Arm) ks1 left
sticks_arm_3 left k2 ks1 at e1 e2 x = sticks_becomes {r = phrase p.Arm}
    {Ys = rule (phrase p.Pattern) ∷ a (mark m.FatArrow) ∷ rule (phrase p.Body) ∷ []} {ks = ks1} refl
    (sticks_behind_rule e1 (sticks_behind_tok e2 (sticks_in_rule x)))

pub sticks_pattern_minus_1 : (left : ℕ) (k : Tok) (at : List Tok) → pattern_start k.kind ≡ Some pattern.Minus → SticksRule an_int at left →
    SticksRule (phrase p.Pattern) (k ∷ at) left
sticks_pattern_minus_1 left k at h x = sticks_takes {r = phrase p.Pattern} {Ys = rule an_int ∷ []} (rw h refl) (sticks_in_rule x)

pub sticks_pattern_name_1 : (k : Tok) (at : List Tok) → pattern_start k.kind ≡ Some pattern.Name → ahead at ≢ Some (mark m.Dot) →
    SticksRule (phrase p.Pattern) (k ∷ at) (length at)
sticks_pattern_name_1 k at h x = sticks_takes {r = phrase p.Pattern} {Ys = a (mark m.Dot) ∷ a name ∷ []} (rw h refl) (sticks_here x)

pub sticks_pattern_name_2 : (k k1 : Tok) (at : List Tok) → pattern_start k.kind ≡ Some pattern.Name → k1.kind ≡ (mark m.Dot) →
    ahead at ≢ Some name → SticksRule (phrase p.Pattern) (k ∷ (k1 ∷ at)) (length at)
sticks_pattern_name_2 k k1 at h e1 x = sticks_takes {r = phrase p.Pattern} {Ys = a (mark m.Dot) ∷ a name ∷ []} (rw h refl)
    (sticks_behind_tok e1 (sticks_here x))

pub sticks_pattern_other : (k : Tok) (ks : List Tok) → pattern_start k.kind ≡ None →
    SticksRule (phrase p.Pattern) (k ∷ ks) (length (k ∷ ks))
sticks_pattern_other k ks h = sticks_refused (rw h refl)

pub sticks_pattern_end : SticksRule (phrase p.Pattern) [] 0
sticks_pattern_end = sticks_refused refl
