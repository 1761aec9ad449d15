-- Where the rules of what phrases are made of cannot go on.
use Rattle.std.proofs.Common.{◌≡◌, ◌≢◌, ℕ, true, List, [], ◌∷◌, Some, None, length, refl}
use Rattle.verse_lex.specs.declared.tokens.Word.TheVariants as w
use Rattle.verse_lex.specs.declared.tokens.Mark.TheVariants as m
use Rattle.verse_lex.specs.declared.tokens.TokenKind.TheVariants as token
use Rattle.verse_layout.specs.declared.toks.TokKind.{TokKind}
use Rattle.verse_layout.specs.declared.toks.TokKind.TheVariants as tok
use Rattle.verse_layout.specs.declared.toks.Tok.{Tok}
use Rattle.verse_tree.specs.declared.exprs.Comparison.{Comparison}
use Rattle.verse_tree.specs.declared.exprs.Operator.{Operator}
use Rattle.verse_grammar.specs.Toks.{word, mark, name, ahead}
use Rattle.verse_grammar.specs.Starts.{postfix_start, comparison_at}
use Rattle.verse_grammar.specs.Starts.{assign_at, duration_at, int_at, begins_expr}
use Rattle.verse_grammar.specs.Exprs.{chain_operator, operand}
use Rattle.verse_grammar.specs.declared.phrases.Phrase.{Phrase}
use Rattle.verse_grammar.specs.declared.phrases.Phrase.TheVariants as p
use Rattle.verse_grammar.specs.declared.starts.PostfixStart.TheVariants as postfix
use Rattle.verse_grammar.specs.Symbols.{a, rule, first_is, a_type}
use Rattle.verse_grammar.specs.Symbols.{phrase, stmt_name, typed_value, set_rest, assign, return_value, an_if, taken}
use Rattle.verse_grammar.specs.Symbols.{otherwise, chain_tail, comparison_tail, postfix_tail, row_tail, closed, until, hole_rest, name_rest}
use Rattle.verse_grammar.specs.Symbols.{givens_until, given, givens_tail, round_rest, pairs_until, pair, pairs_tail, clauses, case_rest}
use Rattle.verse_grammar.specs.Symbols.{duration, generator_rest, entries_rest, clause_name, clause_value, range_rest, an_int}
use Rattle.verse_grammar.proofs.Sights.{seen, unseen}
use Rattle.verse_grammar.specs.Reading.{EatsRule, SticksRule, sticks_here}
use Rattle.verse_grammar.specs.Reading.{sticks_behind_tok, sticks_in_rule, sticks_behind_rule, sticks_refused, sticks_takes, sticks_becomes}

pub sticks_stmt_name_at1_1 : (left : ℕ) (k : Tok) (at : List Tok) → k.kind ≡ (mark m.Define) → SticksRule (phrase p.Expr) at left →
    SticksRule stmt_name (k ∷ at) left
sticks_stmt_name_at1_1 left k at h x = sticks_takes {r = stmt_name} {Ys = rule (phrase p.Expr) ∷ []} (rw h refl) (sticks_in_rule x)

pub sticks_stmt_name_at2_1 : (left : ℕ) (k : Tok) (ks : List Tok) → k.kind ≡ (mark m.Colon) → SticksRule typed_value (k ∷ ks) left →
    SticksRule stmt_name (k ∷ ks) left
sticks_stmt_name_at2_1 left k ks h x = sticks_becomes {r = stmt_name} {Ys = rule typed_value ∷ []} {ks = k ∷ ks} (rw h refl)
    (sticks_in_rule x)

pub sticks_stmt_name_other_1 : (left : ℕ) (at : List Tok) → ahead at ≢ Some (mark m.Define) → ahead at ≢ Some (mark m.Colon) →
    SticksRule name_rest at left → SticksRule stmt_name at left
sticks_stmt_name_other_1 left at h0 h1 x =
    sticks_becomes {r = stmt_name} {Ys = rule name_rest ∷ rule postfix_tail ∷ rule (chain_tail p.Product) ∷ rule
    (chain_tail p.Sum) ∷ rule comparison_tail ∷ rule (chain_tail p.And) ∷ rule (chain_tail p.Or) ∷ []} {ks = at}
    (rw (unseen (mark m.Define) _ h0, unseen (mark m.Colon) _ h1) refl) (sticks_in_rule x)

pub sticks_stmt_name_other_2 : (left : ℕ) (ks1 at : List Tok) → ahead ks1 ≢ Some (mark m.Define) → ahead ks1 ≢ Some (mark m.Colon) →
    EatsRule name_rest ks1 at → SticksRule postfix_tail at left → SticksRule stmt_name ks1 left
sticks_stmt_name_other_2 left ks1 at h0 h1 e1 x =
    sticks_becomes {r = stmt_name} {Ys = rule name_rest ∷ rule postfix_tail ∷ rule (chain_tail p.Product) ∷ rule
    (chain_tail p.Sum) ∷ rule comparison_tail ∷ rule (chain_tail p.And) ∷ rule (chain_tail p.Or) ∷ []} {ks = ks1}
    (rw (unseen (mark m.Define) _ h0, unseen (mark m.Colon) _ h1) refl) (sticks_behind_rule e1 (sticks_in_rule x))

pub sticks_stmt_name_other_3 : (left : ℕ) (ks1 ks2 at : List Tok) → ahead ks1 ≢ Some (mark m.Define) → ahead ks1 ≢ Some (mark m.Colon) →
    EatsRule name_rest ks1 ks2 → EatsRule postfix_tail ks2 at → SticksRule (chain_tail p.Product) at left → SticksRule stmt_name ks1 left
sticks_stmt_name_other_3 left ks1 ks2 at h0 h1 e1 e2 x =
    sticks_becomes {r = stmt_name} {Ys = rule name_rest ∷ rule postfix_tail ∷ rule (chain_tail p.Product) ∷ rule
    (chain_tail p.Sum) ∷ rule comparison_tail ∷ rule (chain_tail p.And) ∷ rule (chain_tail p.Or) ∷ []} {ks = ks1}
    (rw (unseen (mark m.Define) _ h0, unseen (mark m.Colon) _ h1) refl) (sticks_behind_rule e1 (sticks_behind_rule e2 (sticks_in_rule x)))

pub sticks_stmt_name_other_4 : (left : ℕ) (ks1 ks2 ks3 at : List Tok) → ahead ks1 ≢ Some (mark m.Define) → ahead ks1 ≢ Some (mark m.Colon) →
    EatsRule name_rest ks1 ks2 → EatsRule postfix_tail ks2 ks3 → EatsRule (chain_tail p.Product) ks3 at →
    SticksRule (chain_tail p.Sum) at left → SticksRule stmt_name ks1 left
sticks_stmt_name_other_4 left ks1 ks2 ks3 at h0 h1 e1 e2 e3 x =
    sticks_becomes {r = stmt_name} {Ys = rule name_rest ∷ rule postfix_tail ∷ rule (chain_tail p.Product) ∷ rule
    (chain_tail p.Sum) ∷ rule comparison_tail ∷ rule (chain_tail p.And) ∷ rule (chain_tail p.Or) ∷ []} {ks = ks1}
    (rw (unseen (mark m.Define) _ h0, unseen (mark m.Colon) _ h1) refl)
    (sticks_behind_rule e1 (sticks_behind_rule e2 (sticks_behind_rule e3 (sticks_in_rule x))))

pub sticks_stmt_name_other_5 : (left : ℕ) (ks1 ks2 ks3 ks4 at : List Tok) → ahead ks1 ≢ Some (mark m.Define) →
    ahead ks1 ≢ Some (mark m.Colon) → EatsRule name_rest ks1 ks2 → EatsRule postfix_tail ks2 ks3 → EatsRule (chain_tail p.Product) ks3 ks4 →
    EatsRule (chain_tail p.Sum) ks4 at → SticksRule comparison_tail at left → SticksRule stmt_name ks1 left
sticks_stmt_name_other_5 left ks1 ks2 ks3 ks4 at h0 h1 e1 e2 e3 e4 x =
    sticks_becomes {r = stmt_name} {Ys = rule name_rest ∷ rule postfix_tail ∷ rule (chain_tail p.Product) ∷ rule
    (chain_tail p.Sum) ∷ rule comparison_tail ∷ rule (chain_tail p.And) ∷ rule (chain_tail p.Or) ∷ []} {ks = ks1}
    (rw (unseen (mark m.Define) _ h0, unseen (mark m.Colon) _ h1) refl)
    (sticks_behind_rule e1 (sticks_behind_rule e2 (sticks_behind_rule e3 (sticks_behind_rule e4 (sticks_in_rule x)))))

pub sticks_stmt_name_other_6 : (left : ℕ) (ks1 ks2 ks3 ks4 ks5 at : List Tok) → ahead ks1 ≢ Some (mark m.Define) →
    ahead ks1 ≢ Some (mark m.Colon) → EatsRule name_rest ks1 ks2 → EatsRule postfix_tail ks2 ks3 → EatsRule (chain_tail p.Product) ks3 ks4 →
    EatsRule (chain_tail p.Sum) ks4 ks5 → EatsRule comparison_tail ks5 at → SticksRule (chain_tail p.And) at left →
    SticksRule stmt_name ks1 left
sticks_stmt_name_other_6 left ks1 ks2 ks3 ks4 ks5 at h0 h1 e1 e2 e3 e4 e5 x =
    sticks_becomes {r = stmt_name} {Ys = rule name_rest ∷ rule postfix_tail ∷ rule (chain_tail p.Product) ∷ rule
    (chain_tail p.Sum) ∷ rule comparison_tail ∷ rule (chain_tail p.And) ∷ rule (chain_tail p.Or) ∷ []} {ks = ks1}
    (rw (unseen (mark m.Define) _ h0, unseen (mark m.Colon) _ h1) refl)
    (sticks_behind_rule e1 (sticks_behind_rule e2
    (sticks_behind_rule e3 (sticks_behind_rule e4 (sticks_behind_rule e5 (sticks_in_rule x))))))

pub sticks_stmt_name_other_7 : (left : ℕ) (ks1 ks2 ks3 ks4 ks5 ks6 at : List Tok) → ahead ks1 ≢ Some (mark m.Define) →
    ahead ks1 ≢ Some (mark m.Colon) → EatsRule name_rest ks1 ks2 → EatsRule postfix_tail ks2 ks3 → EatsRule (chain_tail p.Product) ks3 ks4 →
    EatsRule (chain_tail p.Sum) ks4 ks5 → EatsRule comparison_tail ks5 ks6 → EatsRule (chain_tail p.And) ks6 at →
    SticksRule (chain_tail p.Or) at left → SticksRule stmt_name ks1 left
sticks_stmt_name_other_7 left ks1 ks2 ks3 ks4 ks5 ks6 at h0 h1 e1 e2 e3 e4 e5 e6 x =
    sticks_becomes {r = stmt_name} {Ys = rule name_rest ∷ rule postfix_tail ∷ rule (chain_tail p.Product) ∷ rule
    (chain_tail p.Sum) ∷ rule comparison_tail ∷ rule (chain_tail p.And) ∷ rule (chain_tail p.Or) ∷ []} {ks = ks1}
    (rw (unseen (mark m.Define) _ h0, unseen (mark m.Colon) _ h1) refl)
    (sticks_behind_rule e1 (sticks_behind_rule e2
    (sticks_behind_rule e3 (sticks_behind_rule e4 (sticks_behind_rule e5 (sticks_behind_rule e6 (sticks_in_rule x)))))))

pub sticks_typed_value_1 : (at : List Tok) → ahead at ≢ Some (mark m.Colon) → SticksRule typed_value at (length at)
sticks_typed_value_1 at x = sticks_becomes {r = typed_value}
    {Ys = a (mark m.Colon) ∷ rule a_type ∷ a (mark m.Equals) ∷ rule (phrase p.Expr) ∷ []} {ks = at} refl (sticks_here x)

pub sticks_typed_value_2 : (left : ℕ) (k1 : Tok) (at : List Tok) → k1.kind ≡ (mark m.Colon) → SticksRule a_type at left →
    SticksRule typed_value (k1 ∷ at) left
sticks_typed_value_2 left k1 at e1 x = sticks_becomes {r = typed_value}
    {Ys = a (mark m.Colon) ∷ rule a_type ∷ a (mark m.Equals) ∷ rule (phrase p.Expr) ∷ []} {ks = k1 ∷ at} refl
    (sticks_behind_tok e1 (sticks_in_rule x))

pub sticks_typed_value_3 : (k1 : Tok) (ks2 at : List Tok) → k1.kind ≡ (mark m.Colon) → EatsRule a_type ks2 at →
    ahead at ≢ Some (mark m.Equals) → SticksRule typed_value (k1 ∷ ks2) (length at)
sticks_typed_value_3 k1 ks2 at e1 e2 x = sticks_becomes {r = typed_value}
    {Ys = a (mark m.Colon) ∷ rule a_type ∷ a (mark m.Equals) ∷ rule (phrase p.Expr) ∷ []} {ks = k1 ∷ ks2} refl
    (sticks_behind_tok e1 (sticks_behind_rule e2 (sticks_here x)))

pub sticks_typed_value_4 : (left : ℕ) (k1 k3 : Tok) (ks2 at : List Tok) → k1.kind ≡ (mark m.Colon) → EatsRule a_type ks2 (k3 ∷ at) →
    k3.kind ≡ (mark m.Equals) → SticksRule (phrase p.Expr) at left → SticksRule typed_value (k1 ∷ ks2) left
sticks_typed_value_4 left k1 k3 ks2 at e1 e2 e3 x =
    sticks_becomes {r = typed_value} {Ys = a (mark m.Colon) ∷ rule a_type ∷ a (mark m.Equals) ∷ rule (phrase p.Expr) ∷ []} {ks = k1 ∷ ks2}
    refl (sticks_behind_tok e1 (sticks_behind_rule e2 (sticks_behind_tok e3 (sticks_in_rule x))))

pub sticks_set_rest_1 : (left : ℕ) (at : List Tok) → SticksRule (phrase p.Postfix) at left → SticksRule set_rest at left
sticks_set_rest_1 left at x = sticks_becomes {r = set_rest} {Ys = rule (phrase p.Postfix) ∷ rule assign ∷ rule (phrase p.Expr) ∷ []}
    {ks = at} refl (sticks_in_rule x)

pub sticks_set_rest_2 : (left : ℕ) (ks1 at : List Tok) → EatsRule (phrase p.Postfix) ks1 at → SticksRule assign at left →
    SticksRule set_rest ks1 left
sticks_set_rest_2 left ks1 at e1 x = sticks_becomes {r = set_rest} {Ys = rule (phrase p.Postfix) ∷ rule assign ∷ rule (phrase p.Expr) ∷ []}
    {ks = ks1} refl (sticks_behind_rule e1 (sticks_in_rule x))

pub sticks_set_rest_3 : (left : ℕ) (ks1 ks2 at : List Tok) → EatsRule (phrase p.Postfix) ks1 ks2 → EatsRule assign ks2 at →
    SticksRule (phrase p.Expr) at left → SticksRule set_rest ks1 left
sticks_set_rest_3 left ks1 ks2 at e1 e2 x =
    sticks_becomes {r = set_rest} {Ys = rule (phrase p.Postfix) ∷ rule assign ∷ rule (phrase p.Expr) ∷ []} {ks = ks1} refl
    (sticks_behind_rule e1 (sticks_behind_rule e2 (sticks_in_rule x)))

pub sticks_assign_other : (k : Tok) (ks : List Tok) → assign_at k.kind ≡ None → SticksRule assign (k ∷ ks) (length (k ∷ ks))
sticks_assign_other k ks h = sticks_refused (rw h refl)

pub sticks_assign_end : SticksRule assign [] 0
sticks_assign_end = sticks_refused refl

pub sticks_return_value_at_1 : (left : ℕ) (at : List Tok) → first_is begins_expr at ≡ true → SticksRule (phrase p.Expr) at left →
    SticksRule return_value at left
sticks_return_value_at_1 left at h x = sticks_becomes {r = return_value} {Ys = rule (phrase p.Expr) ∷ []} {ks = at} (rw h refl)
    (sticks_in_rule x)

pub sticks_an_if_1 : (at : List Tok) → ahead at ≢ Some (word w.If) → SticksRule an_if at (length at)
sticks_an_if_1 at x = sticks_becomes {r = an_if}
    {Ys = a (word w.If) ∷ a (mark m.RoundOpen) ∷ rule (closed p.Stmt (mark m.Comma) (mark m.RoundClose)) ∷ rule taken ∷ rule otherwise ∷ []}
    {ks = at} refl (sticks_here x)

pub sticks_an_if_2 : (k1 : Tok) (at : List Tok) → k1.kind ≡ (word w.If) → ahead at ≢ Some (mark m.RoundOpen) →
    SticksRule an_if (k1 ∷ at) (length at)
sticks_an_if_2 k1 at e1 x = sticks_becomes {r = an_if}
    {Ys = a (word w.If) ∷ a (mark m.RoundOpen) ∷ rule (closed p.Stmt (mark m.Comma) (mark m.RoundClose)) ∷ rule taken ∷ rule otherwise ∷ []}
    {ks = k1 ∷ at} refl (sticks_behind_tok e1 (sticks_here x))

pub sticks_an_if_3 : (left : ℕ) (k1 k2 : Tok) (at : List Tok) → k1.kind ≡ (word w.If) → k2.kind ≡ (mark m.RoundOpen) →
    SticksRule (closed p.Stmt (mark m.Comma) (mark m.RoundClose)) at left → SticksRule an_if (k1 ∷ (k2 ∷ at)) left
sticks_an_if_3 left k1 k2 at e1 e2 x = sticks_becomes {r = an_if}
    {Ys = a (word w.If) ∷ a (mark m.RoundOpen) ∷ rule (closed p.Stmt (mark m.Comma) (mark m.RoundClose)) ∷ rule taken ∷ rule otherwise ∷ []}
    {ks = k1 ∷ (k2 ∷ at)} refl (sticks_behind_tok e1 (sticks_behind_tok e2 (sticks_in_rule x)))

pub sticks_an_if_4 : (left : ℕ) (k1 k2 : Tok) (ks3 at : List Tok) → k1.kind ≡ (word w.If) → k2.kind ≡ (mark m.RoundOpen) →
    EatsRule (closed p.Stmt (mark m.Comma) (mark m.RoundClose)) ks3 at → SticksRule taken at left → SticksRule an_if (k1 ∷ (k2 ∷ ks3)) left
sticks_an_if_4 left k1 k2 ks3 at e1 e2 e3 x =
    sticks_becomes {r = an_if} {Ys = a (word w.If) ∷ a (mark m.RoundOpen) ∷ rule (closed p.Stmt (mark m.Comma) (mark m.RoundClose)) ∷ rule
    taken ∷ rule otherwise ∷ []} {ks = k1 ∷ (k2 ∷ ks3)} refl
    (sticks_behind_tok e1 (sticks_behind_tok e2 (sticks_behind_rule e3 (sticks_in_rule x))))

pub sticks_an_if_5 : (left : ℕ) (k1 k2 : Tok) (ks3 ks4 at : List Tok) → k1.kind ≡ (word w.If) → k2.kind ≡ (mark m.RoundOpen) →
    EatsRule (closed p.Stmt (mark m.Comma) (mark m.RoundClose)) ks3 ks4 → EatsRule taken ks4 at → SticksRule otherwise at left →
    SticksRule an_if (k1 ∷ (k2 ∷ ks3)) left
sticks_an_if_5 left k1 k2 ks3 ks4 at e1 e2 e3 e4 x =
    sticks_becomes {r = an_if} {Ys = a (word w.If) ∷ a (mark m.RoundOpen) ∷ rule (closed p.Stmt (mark m.Comma) (mark m.RoundClose)) ∷ rule
    taken ∷ rule otherwise ∷ []} {ks = k1 ∷ (k2 ∷ ks3)} refl
    (sticks_behind_tok e1 (sticks_behind_tok e2 (sticks_behind_rule e3 (sticks_behind_rule e4 (sticks_in_rule x)))))

pub sticks_taken_at_1 : (left : ℕ) (k : Tok) (at : List Tok) → k.kind ≡ (word w.Then) → SticksRule (phrase p.Or) at left →
    SticksRule taken (k ∷ at) left
sticks_taken_at_1 left k at h x = sticks_takes {r = taken} {Ys = rule (phrase p.Or) ∷ []} (rw h refl) (sticks_in_rule x)

pub sticks_taken_other_1 : (left : ℕ) (at : List Tok) → ahead at ≢ Some (word w.Then) → SticksRule (phrase p.Block) at left →
    SticksRule taken at left
sticks_taken_other_1 left at h0 x = sticks_becomes {r = taken} {Ys = rule (phrase p.Block) ∷ []} {ks = at}
    (rw (unseen (word w.Then) _ h0) refl) (sticks_in_rule x)

pub sticks_otherwise_at_1 : (left : ℕ) (k : Tok) (at : List Tok) → k.kind ≡ (word w.Else) → SticksRule (phrase p.Body) at left →
    SticksRule otherwise (k ∷ at) left
sticks_otherwise_at_1 left k at h x = sticks_takes {r = otherwise} {Ys = rule (phrase p.Body) ∷ []} (rw h refl) (sticks_in_rule x)

pub sticks_chain_tail_at_1 : (q : Phrase) (o : Operator) (left : ℕ) (k : Tok) (at : List Tok) → chain_operator q k.kind ≡ Some o →
    SticksRule (phrase (operand q)) at left → SticksRule (chain_tail q) (k ∷ at) left
sticks_chain_tail_at_1 q o left k at h x =
    sticks_takes {r = chain_tail q} {Ys = rule (phrase (operand q)) ∷ rule (chain_tail q) ∷ []} (rw h refl) (sticks_in_rule x)

pub sticks_chain_tail_at_2 : (q : Phrase) (o : Operator) (left : ℕ) (k : Tok) (ks1 at : List Tok) → chain_operator q k.kind ≡ Some o →
    EatsRule (phrase (operand q)) ks1 at → SticksRule (chain_tail q) at left → SticksRule (chain_tail q) (k ∷ ks1) left
sticks_chain_tail_at_2 q o left k ks1 at h e1 x =
    sticks_takes {r = chain_tail q} {Ys = rule (phrase (operand q)) ∷ rule (chain_tail q) ∷ []} (rw h refl)
    (sticks_behind_rule e1 (sticks_in_rule x))

pub sticks_comparison_tail_at_1 : (o : Comparison) (left : ℕ) (k : Tok) (at : List Tok) → comparison_at k.kind ≡ Some o →
    SticksRule (phrase p.Sum) at left → SticksRule comparison_tail (k ∷ at) left
sticks_comparison_tail_at_1 o left k at h x =
    sticks_takes {r = comparison_tail} {Ys = rule (phrase p.Sum) ∷ []} (rw h refl) (sticks_in_rule x)

pub sticks_postfix_tail_round_1 : (left : ℕ) (k : Tok) (at : List Tok) → postfix_start k.kind ≡ Some postfix.Round →
    SticksRule (until p.Expr (mark m.Comma) (mark m.RoundClose)) at left → SticksRule postfix_tail (k ∷ at) left
sticks_postfix_tail_round_1 left k at h x =
    sticks_takes {r = postfix_tail} {Ys = rule (until p.Expr (mark m.Comma) (mark m.RoundClose)) ∷ rule postfix_tail ∷ []} (rw h refl)
    (sticks_in_rule x)

pub sticks_postfix_tail_round_2 : (left : ℕ) (k : Tok) (ks1 at : List Tok) → postfix_start k.kind ≡ Some postfix.Round →
    EatsRule (until p.Expr (mark m.Comma) (mark m.RoundClose)) ks1 at → SticksRule postfix_tail at left →
    SticksRule postfix_tail (k ∷ ks1) left
sticks_postfix_tail_round_2 left k ks1 at h e1 x =
    sticks_takes {r = postfix_tail} {Ys = rule (until p.Expr (mark m.Comma) (mark m.RoundClose)) ∷ rule postfix_tail ∷ []} (rw h refl)
    (sticks_behind_rule e1 (sticks_in_rule x))

pub sticks_postfix_tail_square_1 : (left : ℕ) (k : Tok) (at : List Tok) → postfix_start k.kind ≡ Some postfix.Square →
    SticksRule (until p.Expr (mark m.Comma) (mark m.SquareClose)) at left → SticksRule postfix_tail (k ∷ at) left
sticks_postfix_tail_square_1 left k at h x =
    sticks_takes {r = postfix_tail} {Ys = rule (until p.Expr (mark m.Comma) (mark m.SquareClose)) ∷ rule postfix_tail ∷ []} (rw h refl)
    (sticks_in_rule x)

pub sticks_postfix_tail_square_2 : (left : ℕ) (k : Tok) (ks1 at : List Tok) → postfix_start k.kind ≡ Some postfix.Square →
    EatsRule (until p.Expr (mark m.Comma) (mark m.SquareClose)) ks1 at → SticksRule postfix_tail at left →
    SticksRule postfix_tail (k ∷ ks1) left
sticks_postfix_tail_square_2 left k ks1 at h e1 x =
    sticks_takes {r = postfix_tail} {Ys = rule (until p.Expr (mark m.Comma) (mark m.SquareClose)) ∷ rule postfix_tail ∷ []} (rw h refl)
    (sticks_behind_rule e1 (sticks_in_rule x))

pub sticks_postfix_tail_dot_1 : (k : Tok) (at : List Tok) → postfix_start k.kind ≡ Some postfix.Dot → ahead at ≢ Some name →
    SticksRule postfix_tail (k ∷ at) (length at)
sticks_postfix_tail_dot_1 k at h x = sticks_takes {r = postfix_tail} {Ys = a name ∷ rule postfix_tail ∷ []} (rw h refl) (sticks_here x)

pub sticks_postfix_tail_dot_2 : (left : ℕ) (k k1 : Tok) (at : List Tok) → postfix_start k.kind ≡ Some postfix.Dot → k1.kind ≡ name →
    SticksRule postfix_tail at left → SticksRule postfix_tail (k ∷ (k1 ∷ at)) left
sticks_postfix_tail_dot_2 left k k1 at h e1 x =
    sticks_takes {r = postfix_tail} {Ys = a name ∷ rule postfix_tail ∷ []} (rw h refl) (sticks_behind_tok e1 (sticks_in_rule x))

pub sticks_postfix_tail_question_1 : (left : ℕ) (k : Tok) (at : List Tok) → postfix_start k.kind ≡ Some postfix.Question →
    SticksRule postfix_tail at left → SticksRule postfix_tail (k ∷ at) left
sticks_postfix_tail_question_1 left k at h x = sticks_takes {r = postfix_tail} {Ys = rule postfix_tail ∷ []} (rw h refl) (sticks_in_rule x)

pub sticks_row_tail_at_1 : (q : Phrase) (s : TokKind) (left : ℕ) (k : Tok) (at : List Tok) → k.kind ≡ s → SticksRule (phrase q) at left →
    SticksRule (row_tail q s) (k ∷ at) left
sticks_row_tail_at_1 q s left k at h x = sticks_takes {r = row_tail q s} {Ys = rule (phrase q) ∷ rule (row_tail q s) ∷ []}
    (rw (seen s k _ h) refl) (sticks_in_rule x)

pub sticks_row_tail_at_2 : (q : Phrase) (s : TokKind) (left : ℕ) (k : Tok) (ks1 at : List Tok) → k.kind ≡ s → EatsRule (phrase q) ks1 at →
    SticksRule (row_tail q s) at left → SticksRule (row_tail q s) (k ∷ ks1) left
sticks_row_tail_at_2 q s left k ks1 at h e1 x =
    sticks_takes {r = row_tail q s} {Ys = rule (phrase q) ∷ rule (row_tail q s) ∷ []} (rw (seen s k _ h) refl)
    (sticks_behind_rule e1 (sticks_in_rule x))

pub sticks_closed_1 : (q : Phrase) (s : TokKind) (c : TokKind) (left : ℕ) (at : List Tok) → SticksRule (phrase q) at left →
    SticksRule (closed q s c) at left
sticks_closed_1 q s c left at x = sticks_becomes {r = closed q s c} {Ys = rule (phrase q) ∷ rule (row_tail q s) ∷ a c ∷ []} {ks = at} refl
    (sticks_in_rule x)

pub sticks_closed_2 : (q : Phrase) (s : TokKind) (c : TokKind) (left : ℕ) (ks1 at : List Tok) → EatsRule (phrase q) ks1 at →
    SticksRule (row_tail q s) at left → SticksRule (closed q s c) ks1 left
sticks_closed_2 q s c left ks1 at e1 x = sticks_becomes {r = closed q s c} {Ys = rule (phrase q) ∷ rule (row_tail q s) ∷ a c ∷ []}
    {ks = ks1} refl (sticks_behind_rule e1 (sticks_in_rule x))

pub sticks_closed_3 : (q : Phrase) (s : TokKind) (c : TokKind) (ks1 ks2 at : List Tok) → EatsRule (phrase q) ks1 ks2 →
    EatsRule (row_tail q s) ks2 at → ahead at ≢ Some c → SticksRule (closed q s c) ks1 (length at)
sticks_closed_3 q s c ks1 ks2 at e1 e2 x =
    sticks_becomes {r = closed q s c} {Ys = rule (phrase q) ∷ rule (row_tail q s) ∷ a c ∷ []} {ks = ks1} refl
    (sticks_behind_rule e1 (sticks_behind_rule e2 (sticks_here x)))

pub sticks_until_other_1 : (q : Phrase) (s : TokKind) (c : TokKind) (left : ℕ) (at : List Tok) → ahead at ≢ Some c →
    SticksRule (closed q s c) at left → SticksRule (until q s c) at left
sticks_until_other_1 q s c left at h0 x = sticks_becomes {r = until q s c} {Ys = rule (closed q s c) ∷ []} {ks = at}
    (rw (unseen c _ h0) refl) (sticks_in_rule x)

pub sticks_hole_rest_at_1 : (left : ℕ) (k : Tok) (at : List Tok) → k.kind ≡ (tok.Plain token.TextMid) → SticksRule (phrase p.Expr) at left →
    SticksRule hole_rest (k ∷ at) left
sticks_hole_rest_at_1 left k at h x = sticks_takes {r = hole_rest} {Ys = rule (phrase p.Expr) ∷ rule hole_rest ∷ []} (rw h refl)
    (sticks_in_rule x)

pub sticks_hole_rest_at_2 : (left : ℕ) (k : Tok) (ks1 at : List Tok) → k.kind ≡ (tok.Plain token.TextMid) →
    EatsRule (phrase p.Expr) ks1 at → SticksRule hole_rest at left → SticksRule hole_rest (k ∷ ks1) left
sticks_hole_rest_at_2 left k ks1 at h e1 x =
    sticks_takes {r = hole_rest} {Ys = rule (phrase p.Expr) ∷ rule hole_rest ∷ []} (rw h refl) (sticks_behind_rule e1 (sticks_in_rule x))

pub sticks_hole_rest_other_1 : (at : List Tok) → ahead at ≢ Some (tok.Plain token.TextMid) → ahead at ≢ Some (tok.Plain token.TextClose) →
    SticksRule hole_rest at (length at)
sticks_hole_rest_other_1 at h0 x = sticks_becomes {r = hole_rest} {Ys = a (tok.Plain token.TextClose) ∷ []} {ks = at}
    (rw (unseen (tok.Plain token.TextMid) _ h0) refl) (sticks_here x)

pub sticks_name_rest_at_1 : (left : ℕ) (k : Tok) (at : List Tok) → k.kind ≡ tok.Open → SticksRule givens_until at left →
    SticksRule name_rest (k ∷ at) left
sticks_name_rest_at_1 left k at h x = sticks_takes {r = name_rest} {Ys = rule givens_until ∷ []} (rw h refl) (sticks_in_rule x)

pub sticks_givens_until_other_1 : (left : ℕ) (at : List Tok) → ahead at ≢ Some tok.Close → SticksRule given at left →
    SticksRule givens_until at left
sticks_givens_until_other_1 left at h0 x =
    sticks_becomes {r = givens_until} {Ys = rule given ∷ rule givens_tail ∷ a tok.Close ∷ []} {ks = at} (rw (unseen tok.Close _ h0) refl)
    (sticks_in_rule x)

pub sticks_givens_until_other_2 : (left : ℕ) (ks1 at : List Tok) → ahead ks1 ≢ Some tok.Close → EatsRule given ks1 at →
    SticksRule givens_tail at left → SticksRule givens_until ks1 left
sticks_givens_until_other_2 left ks1 at h0 e1 x =
    sticks_becomes {r = givens_until} {Ys = rule given ∷ rule givens_tail ∷ a tok.Close ∷ []} {ks = ks1} (rw (unseen tok.Close _ h0) refl)
    (sticks_behind_rule e1 (sticks_in_rule x))

pub sticks_givens_until_other_3 : (ks1 ks2 at : List Tok) → ahead ks1 ≢ Some tok.Close → EatsRule given ks1 ks2 →
    EatsRule givens_tail ks2 at → ahead at ≢ Some tok.Close → SticksRule givens_until ks1 (length at)
sticks_givens_until_other_3 ks1 ks2 at h0 e1 e2 x =
    sticks_becomes {r = givens_until} {Ys = rule given ∷ rule givens_tail ∷ a tok.Close ∷ []} {ks = ks1} (rw (unseen tok.Close _ h0) refl)
    (sticks_behind_rule e1 (sticks_behind_rule e2 (sticks_here x)))

pub sticks_given_1 : (at : List Tok) → ahead at ≢ Some name → SticksRule given at (length at)
sticks_given_1 at x = sticks_becomes {r = given} {Ys = a name ∷ a (mark m.Define) ∷ rule (phrase p.Expr) ∷ []} {ks = at} refl
    (sticks_here x)

pub sticks_given_2 : (k1 : Tok) (at : List Tok) → k1.kind ≡ name → ahead at ≢ Some (mark m.Define) → SticksRule given (k1 ∷ at) (length at)
sticks_given_2 k1 at e1 x = sticks_becomes {r = given} {Ys = a name ∷ a (mark m.Define) ∷ rule (phrase p.Expr) ∷ []} {ks = k1 ∷ at} refl
    (sticks_behind_tok e1 (sticks_here x))

pub sticks_given_3 : (left : ℕ) (k1 k2 : Tok) (at : List Tok) → k1.kind ≡ name → k2.kind ≡ (mark m.Define) →
    SticksRule (phrase p.Expr) at left → SticksRule given (k1 ∷ (k2 ∷ at)) left
sticks_given_3 left k1 k2 at e1 e2 x = sticks_becomes {r = given} {Ys = a name ∷ a (mark m.Define) ∷ rule (phrase p.Expr) ∷ []}
    {ks = k1 ∷ (k2 ∷ at)} refl (sticks_behind_tok e1 (sticks_behind_tok e2 (sticks_in_rule x)))

pub sticks_givens_tail_at_1 : (left : ℕ) (k : Tok) (at : List Tok) → k.kind ≡ tok.Sep → SticksRule given at left →
    SticksRule givens_tail (k ∷ at) left
sticks_givens_tail_at_1 left k at h x = sticks_takes {r = givens_tail} {Ys = rule given ∷ rule givens_tail ∷ []} (rw h refl)
    (sticks_in_rule x)

pub sticks_givens_tail_at_2 : (left : ℕ) (k : Tok) (ks1 at : List Tok) → k.kind ≡ tok.Sep → EatsRule given ks1 at →
    SticksRule givens_tail at left → SticksRule givens_tail (k ∷ ks1) left
sticks_givens_tail_at_2 left k ks1 at h e1 x =
    sticks_takes {r = givens_tail} {Ys = rule given ∷ rule givens_tail ∷ []} (rw h refl) (sticks_behind_rule e1 (sticks_in_rule x))

pub sticks_round_rest_at_1 : (left : ℕ) (k : Tok) (at : List Tok) → k.kind ≡ (mark m.Comma) →
    SticksRule (closed p.Expr (mark m.Comma) (mark m.RoundClose)) at left → SticksRule round_rest (k ∷ at) left
sticks_round_rest_at_1 left k at h x = sticks_takes {r = round_rest} {Ys = rule (closed p.Expr (mark m.Comma) (mark m.RoundClose)) ∷ []}
    (rw h refl) (sticks_in_rule x)

pub sticks_round_rest_other_1 : (at : List Tok) → ahead at ≢ Some (mark m.Comma) → ahead at ≢ Some (mark m.RoundClose) →
    SticksRule round_rest at (length at)
sticks_round_rest_other_1 at h0 x = sticks_becomes {r = round_rest} {Ys = a (mark m.RoundClose) ∷ []} {ks = at}
    (rw (unseen (mark m.Comma) _ h0) refl) (sticks_here x)

pub sticks_pairs_until_other_1 : (left : ℕ) (at : List Tok) → ahead at ≢ Some tok.Close → SticksRule pair at left →
    SticksRule pairs_until at left
sticks_pairs_until_other_1 left at h0 x = sticks_becomes {r = pairs_until} {Ys = rule pair ∷ rule pairs_tail ∷ a tok.Close ∷ []} {ks = at}
    (rw (unseen tok.Close _ h0) refl) (sticks_in_rule x)

pub sticks_pairs_until_other_2 : (left : ℕ) (ks1 at : List Tok) → ahead ks1 ≢ Some tok.Close → EatsRule pair ks1 at →
    SticksRule pairs_tail at left → SticksRule pairs_until ks1 left
sticks_pairs_until_other_2 left ks1 at h0 e1 x =
    sticks_becomes {r = pairs_until} {Ys = rule pair ∷ rule pairs_tail ∷ a tok.Close ∷ []} {ks = ks1} (rw (unseen tok.Close _ h0) refl)
    (sticks_behind_rule e1 (sticks_in_rule x))

pub sticks_pairs_until_other_3 : (ks1 ks2 at : List Tok) → ahead ks1 ≢ Some tok.Close → EatsRule pair ks1 ks2 → EatsRule pairs_tail ks2 at →
    ahead at ≢ Some tok.Close → SticksRule pairs_until ks1 (length at)
sticks_pairs_until_other_3 ks1 ks2 at h0 e1 e2 x =
    sticks_becomes {r = pairs_until} {Ys = rule pair ∷ rule pairs_tail ∷ a tok.Close ∷ []} {ks = ks1} (rw (unseen tok.Close _ h0) refl)
    (sticks_behind_rule e1 (sticks_behind_rule e2 (sticks_here x)))

pub sticks_pair_1 : (left : ℕ) (at : List Tok) → SticksRule (phrase p.Expr) at left → SticksRule pair at left
sticks_pair_1 left at x = sticks_becomes {r = pair} {Ys = rule (phrase p.Expr) ∷ a (mark m.FatArrow) ∷ rule (phrase p.Expr) ∷ []} {ks = at}
    refl (sticks_in_rule x)

pub sticks_pair_2 : (ks1 at : List Tok) → EatsRule (phrase p.Expr) ks1 at → ahead at ≢ Some (mark m.FatArrow) →
    SticksRule pair ks1 (length at)
sticks_pair_2 ks1 at e1 x = sticks_becomes {r = pair} {Ys = rule (phrase p.Expr) ∷ a (mark m.FatArrow) ∷ rule (phrase p.Expr) ∷ []}
    {ks = ks1} refl (sticks_behind_rule e1 (sticks_here x))

pub sticks_pair_3 : (left : ℕ) (k2 : Tok) (ks1 at : List Tok) → EatsRule (phrase p.Expr) ks1 (k2 ∷ at) → k2.kind ≡ (mark m.FatArrow) →
    SticksRule (phrase p.Expr) at left → SticksRule pair ks1 left
sticks_pair_3 left k2 ks1 at e1 e2 x = sticks_becomes {r = pair}
    {Ys = rule (phrase p.Expr) ∷ a (mark m.FatArrow) ∷ rule (phrase p.Expr) ∷ []} {ks = ks1} refl
    (sticks_behind_rule e1 (sticks_behind_tok e2 (sticks_in_rule x)))

pub sticks_pairs_tail_at_1 : (left : ℕ) (k : Tok) (at : List Tok) → k.kind ≡ tok.Sep → SticksRule pair at left →
    SticksRule pairs_tail (k ∷ at) left
sticks_pairs_tail_at_1 left k at h x = sticks_takes {r = pairs_tail} {Ys = rule pair ∷ rule pairs_tail ∷ []} (rw h refl) (sticks_in_rule x)

pub sticks_pairs_tail_at_2 : (left : ℕ) (k : Tok) (ks1 at : List Tok) → k.kind ≡ tok.Sep → EatsRule pair ks1 at →
    SticksRule pairs_tail at left → SticksRule pairs_tail (k ∷ ks1) left
sticks_pairs_tail_at_2 left k ks1 at h e1 x =
    sticks_takes {r = pairs_tail} {Ys = rule pair ∷ rule pairs_tail ∷ []} (rw h refl) (sticks_behind_rule e1 (sticks_in_rule x))

pub sticks_clauses_1 : (left : ℕ) (at : List Tok) → SticksRule (phrase p.Generator) at left → SticksRule clauses at left
sticks_clauses_1 left at x = sticks_becomes {r = clauses}
    {Ys = rule (phrase p.Generator) ∷ rule (row_tail p.Clause (mark m.Comma)) ∷ a (mark m.RoundClose) ∷ []} {ks = at} refl
    (sticks_in_rule x)

pub sticks_clauses_2 : (left : ℕ) (ks1 at : List Tok) → EatsRule (phrase p.Generator) ks1 at →
    SticksRule (row_tail p.Clause (mark m.Comma)) at left → SticksRule clauses ks1 left
sticks_clauses_2 left ks1 at e1 x = sticks_becomes {r = clauses}
    {Ys = rule (phrase p.Generator) ∷ rule (row_tail p.Clause (mark m.Comma)) ∷ a (mark m.RoundClose) ∷ []} {ks = ks1} refl
    (sticks_behind_rule e1 (sticks_in_rule x))

pub sticks_clauses_3 : (ks1 ks2 at : List Tok) → EatsRule (phrase p.Generator) ks1 ks2 →
    EatsRule (row_tail p.Clause (mark m.Comma)) ks2 at → ahead at ≢ Some (mark m.RoundClose) → SticksRule clauses ks1 (length at)
sticks_clauses_3 ks1 ks2 at e1 e2 x = sticks_becomes {r = clauses}
    {Ys = rule (phrase p.Generator) ∷ rule (row_tail p.Clause (mark m.Comma)) ∷ a (mark m.RoundClose) ∷ []} {ks = ks1} refl
    (sticks_behind_rule e1 (sticks_behind_rule e2 (sticks_here x)))

pub sticks_case_rest_1 : (at : List Tok) → ahead at ≢ Some (mark m.RoundOpen) → SticksRule case_rest at (length at)
sticks_case_rest_1 at x = sticks_becomes {r = case_rest}
    {Ys = a (mark m.RoundOpen) ∷ rule (phrase p.Expr) ∷ a (mark m.RoundClose) ∷ a tok.Open ∷ rule (closed p.Arm tok.Sep tok.Close) ∷ []}
    {ks = at} refl (sticks_here x)

pub sticks_case_rest_2 : (left : ℕ) (k1 : Tok) (at : List Tok) → k1.kind ≡ (mark m.RoundOpen) → SticksRule (phrase p.Expr) at left →
    SticksRule case_rest (k1 ∷ at) left
sticks_case_rest_2 left k1 at e1 x = sticks_becomes {r = case_rest}
    {Ys = a (mark m.RoundOpen) ∷ rule (phrase p.Expr) ∷ a (mark m.RoundClose) ∷ a tok.Open ∷ rule (closed p.Arm tok.Sep tok.Close) ∷ []}
    {ks = k1 ∷ at} refl (sticks_behind_tok e1 (sticks_in_rule x))

pub sticks_case_rest_3 : (k1 : Tok) (ks2 at : List Tok) → k1.kind ≡ (mark m.RoundOpen) → EatsRule (phrase p.Expr) ks2 at →
    ahead at ≢ Some (mark m.RoundClose) → SticksRule case_rest (k1 ∷ ks2) (length at)
sticks_case_rest_3 k1 ks2 at e1 e2 x = sticks_becomes {r = case_rest}
    {Ys = a (mark m.RoundOpen) ∷ rule (phrase p.Expr) ∷ a (mark m.RoundClose) ∷ a tok.Open ∷ rule (closed p.Arm tok.Sep tok.Close) ∷ []}
    {ks = k1 ∷ ks2} refl (sticks_behind_tok e1 (sticks_behind_rule e2 (sticks_here x)))

pub sticks_case_rest_4 : (k1 k3 : Tok) (ks2 at : List Tok) → k1.kind ≡ (mark m.RoundOpen) → EatsRule (phrase p.Expr) ks2 (k3 ∷ at) →
    k3.kind ≡ (mark m.RoundClose) → ahead at ≢ Some tok.Open → SticksRule case_rest (k1 ∷ ks2) (length at)
sticks_case_rest_4 k1 k3 ks2 at e1 e2 e3 x =
    sticks_becomes {r = case_rest} {Ys = a (mark m.RoundOpen) ∷ rule (phrase p.Expr) ∷ a (mark m.RoundClose) ∷ a tok.Open ∷ rule
    (closed p.Arm tok.Sep tok.Close) ∷ []} {ks = k1 ∷ ks2} refl
    (sticks_behind_tok e1 (sticks_behind_rule e2 (sticks_behind_tok e3 (sticks_here x))))

pub sticks_case_rest_5 : (left : ℕ) (k1 k3 k4 : Tok) (ks2 at : List Tok) → k1.kind ≡ (mark m.RoundOpen) →
    EatsRule (phrase p.Expr) ks2 (k3 ∷ (k4 ∷ at)) → k3.kind ≡ (mark m.RoundClose) → k4.kind ≡ tok.Open →
    SticksRule (closed p.Arm tok.Sep tok.Close) at left → SticksRule case_rest (k1 ∷ ks2) left
sticks_case_rest_5 left k1 k3 k4 ks2 at e1 e2 e3 e4 x =
    sticks_becomes {r = case_rest} {Ys = a (mark m.RoundOpen) ∷ rule (phrase p.Expr) ∷ a (mark m.RoundClose) ∷ a tok.Open ∷ rule
    (closed p.Arm tok.Sep tok.Close) ∷ []} {ks = k1 ∷ ks2} refl
    (sticks_behind_tok e1 (sticks_behind_rule e2 (sticks_behind_tok e3 (sticks_behind_tok e4 (sticks_in_rule x)))))

pub sticks_duration_other : (k : Tok) (ks : List Tok) → duration_at k.kind ≡ None → SticksRule duration (k ∷ ks) (length (k ∷ ks))
sticks_duration_other k ks h = sticks_refused (rw h refl)

pub sticks_duration_end : SticksRule duration [] 0
sticks_duration_end = sticks_refused refl

pub sticks_generator_rest_at1_1 : (left : ℕ) (k : Tok) (at : List Tok) → k.kind ≡ (mark m.Colon) → SticksRule (phrase p.Sum) at left →
    SticksRule generator_rest (k ∷ at) left
sticks_generator_rest_at1_1 left k at h x = sticks_takes {r = generator_rest} {Ys = rule (phrase p.Sum) ∷ []} (rw h refl) (sticks_in_rule x)

pub sticks_generator_rest_at2_1 : (left : ℕ) (k : Tok) (at : List Tok) → k.kind ≡ (mark m.Arrow) → SticksRule entries_rest at left →
    SticksRule generator_rest (k ∷ at) left
sticks_generator_rest_at2_1 left k at h x = sticks_takes {r = generator_rest} {Ys = rule entries_rest ∷ []} (rw h refl) (sticks_in_rule x)

pub sticks_generator_rest_at3_1 : (left : ℕ) (k : Tok) (at : List Tok) → k.kind ≡ (mark m.Define) → SticksRule (phrase p.Sum) at left →
    SticksRule generator_rest (k ∷ at) left
sticks_generator_rest_at3_1 left k at h x =
    sticks_takes {r = generator_rest} {Ys = rule (phrase p.Sum) ∷ a (mark m.DotDot) ∷ rule (phrase p.Sum) ∷ []} (rw h refl)
    (sticks_in_rule x)

pub sticks_generator_rest_at3_2 : (k : Tok) (ks1 at : List Tok) → k.kind ≡ (mark m.Define) → EatsRule (phrase p.Sum) ks1 at →
    ahead at ≢ Some (mark m.DotDot) → SticksRule generator_rest (k ∷ ks1) (length at)
sticks_generator_rest_at3_2 k ks1 at h e1 x =
    sticks_takes {r = generator_rest} {Ys = rule (phrase p.Sum) ∷ a (mark m.DotDot) ∷ rule (phrase p.Sum) ∷ []} (rw h refl)
    (sticks_behind_rule e1 (sticks_here x))

pub sticks_generator_rest_at3_3 : (left : ℕ) (k k2 : Tok) (ks1 at : List Tok) → k.kind ≡ (mark m.Define) →
    EatsRule (phrase p.Sum) ks1 (k2 ∷ at) → k2.kind ≡ (mark m.DotDot) → SticksRule (phrase p.Sum) at left →
    SticksRule generator_rest (k ∷ ks1) left
sticks_generator_rest_at3_3 left k k2 ks1 at h e1 e2 x =
    sticks_takes {r = generator_rest} {Ys = rule (phrase p.Sum) ∷ a (mark m.DotDot) ∷ rule (phrase p.Sum) ∷ []} (rw h refl)
    (sticks_behind_rule e1 (sticks_behind_tok e2 (sticks_in_rule x)))

pub sticks_generator_rest_other : (ks : List Tok) → ahead ks ≢ Some (mark m.Colon) → ahead ks ≢ Some (mark m.Arrow) →
    ahead ks ≢ Some (mark m.Define) → SticksRule generator_rest ks (length ks)
sticks_generator_rest_other ks h0 h1 h2 = sticks_refused
    (rw (unseen (mark m.Colon) _ h0, unseen (mark m.Arrow) _ h1, unseen (mark m.Define) _ h2) refl)

pub sticks_entries_rest_1 : (at : List Tok) → ahead at ≢ Some name → SticksRule entries_rest at (length at)
sticks_entries_rest_1 at x = sticks_becomes {r = entries_rest} {Ys = a name ∷ a (mark m.Colon) ∷ rule (phrase p.Sum) ∷ []} {ks = at} refl
    (sticks_here x)

pub sticks_entries_rest_2 : (k1 : Tok) (at : List Tok) → k1.kind ≡ name → ahead at ≢ Some (mark m.Colon) →
    SticksRule entries_rest (k1 ∷ at) (length at)
sticks_entries_rest_2 k1 at e1 x = sticks_becomes {r = entries_rest} {Ys = a name ∷ a (mark m.Colon) ∷ rule (phrase p.Sum) ∷ []}
    {ks = k1 ∷ at} refl (sticks_behind_tok e1 (sticks_here x))

pub sticks_entries_rest_3 : (left : ℕ) (k1 k2 : Tok) (at : List Tok) → k1.kind ≡ name → k2.kind ≡ (mark m.Colon) →
    SticksRule (phrase p.Sum) at left → SticksRule entries_rest (k1 ∷ (k2 ∷ at)) left
sticks_entries_rest_3 left k1 k2 at e1 e2 x =
    sticks_becomes {r = entries_rest} {Ys = a name ∷ a (mark m.Colon) ∷ rule (phrase p.Sum) ∷ []} {ks = k1 ∷ (k2 ∷ at)} refl
    (sticks_behind_tok e1 (sticks_behind_tok e2 (sticks_in_rule x)))

pub sticks_clause_name_at1_1 : (left : ℕ) (k : Tok) (at : List Tok) → k.kind ≡ (mark m.Colon) → SticksRule (phrase p.Sum) at left →
    SticksRule clause_name (k ∷ at) left
sticks_clause_name_at1_1 left k at h x = sticks_takes {r = clause_name} {Ys = rule (phrase p.Sum) ∷ []} (rw h refl) (sticks_in_rule x)

pub sticks_clause_name_at2_1 : (left : ℕ) (k : Tok) (at : List Tok) → k.kind ≡ (mark m.Arrow) → SticksRule entries_rest at left →
    SticksRule clause_name (k ∷ at) left
sticks_clause_name_at2_1 left k at h x = sticks_takes {r = clause_name} {Ys = rule entries_rest ∷ []} (rw h refl) (sticks_in_rule x)

pub sticks_clause_name_at3_1 : (left : ℕ) (k : Tok) (at : List Tok) → k.kind ≡ (mark m.Define) → SticksRule clause_value at left →
    SticksRule clause_name (k ∷ at) left
sticks_clause_name_at3_1 left k at h x = sticks_takes {r = clause_name} {Ys = rule clause_value ∷ []} (rw h refl) (sticks_in_rule x)

pub sticks_clause_name_other_1 : (left : ℕ) (at : List Tok) → ahead at ≢ Some (mark m.Colon) → ahead at ≢ Some (mark m.Arrow) →
    ahead at ≢ Some (mark m.Define) → SticksRule name_rest at left → SticksRule clause_name at left
sticks_clause_name_other_1 left at h0 h1 h2 x =
    sticks_becomes {r = clause_name} {Ys = rule name_rest ∷ rule postfix_tail ∷ rule (chain_tail p.Product) ∷ rule
    (chain_tail p.Sum) ∷ rule comparison_tail ∷ rule (chain_tail p.And) ∷ rule (chain_tail p.Or) ∷ []} {ks = at}
    (rw (unseen (mark m.Colon) _ h0, unseen (mark m.Arrow) _ h1, unseen (mark m.Define) _ h2) refl) (sticks_in_rule x)

pub sticks_clause_name_other_2 : (left : ℕ) (ks1 at : List Tok) → ahead ks1 ≢ Some (mark m.Colon) → ahead ks1 ≢ Some (mark m.Arrow) →
    ahead ks1 ≢ Some (mark m.Define) → EatsRule name_rest ks1 at → SticksRule postfix_tail at left → SticksRule clause_name ks1 left
sticks_clause_name_other_2 left ks1 at h0 h1 h2 e1 x =
    sticks_becomes {r = clause_name} {Ys = rule name_rest ∷ rule postfix_tail ∷ rule (chain_tail p.Product) ∷ rule
    (chain_tail p.Sum) ∷ rule comparison_tail ∷ rule (chain_tail p.And) ∷ rule (chain_tail p.Or) ∷ []} {ks = ks1}
    (rw (unseen (mark m.Colon) _ h0, unseen (mark m.Arrow) _ h1, unseen (mark m.Define) _ h2) refl)
    (sticks_behind_rule e1 (sticks_in_rule x))

pub sticks_clause_name_other_3 : (left : ℕ) (ks1 ks2 at : List Tok) → ahead ks1 ≢ Some (mark m.Colon) → ahead ks1 ≢ Some (mark m.Arrow) →
    ahead ks1 ≢ Some (mark m.Define) → EatsRule name_rest ks1 ks2 → EatsRule postfix_tail ks2 at →
    SticksRule (chain_tail p.Product) at left → SticksRule clause_name ks1 left
sticks_clause_name_other_3 left ks1 ks2 at h0 h1 h2 e1 e2 x =
    sticks_becomes {r = clause_name} {Ys = rule name_rest ∷ rule postfix_tail ∷ rule (chain_tail p.Product) ∷ rule
    (chain_tail p.Sum) ∷ rule comparison_tail ∷ rule (chain_tail p.And) ∷ rule (chain_tail p.Or) ∷ []} {ks = ks1}
    (rw (unseen (mark m.Colon) _ h0, unseen (mark m.Arrow) _ h1, unseen (mark m.Define) _ h2) refl)
    (sticks_behind_rule e1 (sticks_behind_rule e2 (sticks_in_rule x)))

pub sticks_clause_name_other_4 : (left : ℕ) (ks1 ks2 ks3 at : List Tok) → ahead ks1 ≢ Some (mark m.Colon) →
    ahead ks1 ≢ Some (mark m.Arrow) → ahead ks1 ≢ Some (mark m.Define) → EatsRule name_rest ks1 ks2 → EatsRule postfix_tail ks2 ks3 →
    EatsRule (chain_tail p.Product) ks3 at → SticksRule (chain_tail p.Sum) at left → SticksRule clause_name ks1 left
sticks_clause_name_other_4 left ks1 ks2 ks3 at h0 h1 h2 e1 e2 e3 x =
    sticks_becomes {r = clause_name} {Ys = rule name_rest ∷ rule postfix_tail ∷ rule (chain_tail p.Product) ∷ rule
    (chain_tail p.Sum) ∷ rule comparison_tail ∷ rule (chain_tail p.And) ∷ rule (chain_tail p.Or) ∷ []} {ks = ks1}
    (rw (unseen (mark m.Colon) _ h0, unseen (mark m.Arrow) _ h1, unseen (mark m.Define) _ h2) refl)
    (sticks_behind_rule e1 (sticks_behind_rule e2 (sticks_behind_rule e3 (sticks_in_rule x))))

pub sticks_clause_name_other_5 : (left : ℕ) (ks1 ks2 ks3 ks4 at : List Tok) → ahead ks1 ≢ Some (mark m.Colon) →
    ahead ks1 ≢ Some (mark m.Arrow) → ahead ks1 ≢ Some (mark m.Define) → EatsRule name_rest ks1 ks2 → EatsRule postfix_tail ks2 ks3 →
    EatsRule (chain_tail p.Product) ks3 ks4 → EatsRule (chain_tail p.Sum) ks4 at → SticksRule comparison_tail at left →
    SticksRule clause_name ks1 left
sticks_clause_name_other_5 left ks1 ks2 ks3 ks4 at h0 h1 h2 e1 e2 e3 e4 x =
    sticks_becomes {r = clause_name} {Ys = rule name_rest ∷ rule postfix_tail ∷ rule (chain_tail p.Product) ∷ rule
    (chain_tail p.Sum) ∷ rule comparison_tail ∷ rule (chain_tail p.And) ∷ rule (chain_tail p.Or) ∷ []} {ks = ks1}
    (rw (unseen (mark m.Colon) _ h0, unseen (mark m.Arrow) _ h1, unseen (mark m.Define) _ h2) refl)
    (sticks_behind_rule e1 (sticks_behind_rule e2 (sticks_behind_rule e3 (sticks_behind_rule e4 (sticks_in_rule x)))))

pub sticks_clause_name_other_6 : (left : ℕ) (ks1 ks2 ks3 ks4 ks5 at : List Tok) → ahead ks1 ≢ Some (mark m.Colon) →
    ahead ks1 ≢ Some (mark m.Arrow) → ahead ks1 ≢ Some (mark m.Define) → EatsRule name_rest ks1 ks2 → EatsRule postfix_tail ks2 ks3 →
    EatsRule (chain_tail p.Product) ks3 ks4 → EatsRule (chain_tail p.Sum) ks4 ks5 → EatsRule comparison_tail ks5 at →
    SticksRule (chain_tail p.And) at left → SticksRule clause_name ks1 left
sticks_clause_name_other_6 left ks1 ks2 ks3 ks4 ks5 at h0 h1 h2 e1 e2 e3 e4 e5 x =
    sticks_becomes {r = clause_name} {Ys = rule name_rest ∷ rule postfix_tail ∷ rule (chain_tail p.Product) ∷ rule
    (chain_tail p.Sum) ∷ rule comparison_tail ∷ rule (chain_tail p.And) ∷ rule (chain_tail p.Or) ∷ []} {ks = ks1}
    (rw (unseen (mark m.Colon) _ h0, unseen (mark m.Arrow) _ h1, unseen (mark m.Define) _ h2) refl)
    (sticks_behind_rule e1 (sticks_behind_rule e2
    (sticks_behind_rule e3 (sticks_behind_rule e4 (sticks_behind_rule e5 (sticks_in_rule x))))))

pub sticks_clause_name_other_7 : (left : ℕ) (ks1 ks2 ks3 ks4 ks5 ks6 at : List Tok) → ahead ks1 ≢ Some (mark m.Colon) →
    ahead ks1 ≢ Some (mark m.Arrow) → ahead ks1 ≢ Some (mark m.Define) → EatsRule name_rest ks1 ks2 → EatsRule postfix_tail ks2 ks3 →
    EatsRule (chain_tail p.Product) ks3 ks4 → EatsRule (chain_tail p.Sum) ks4 ks5 → EatsRule comparison_tail ks5 ks6 →
    EatsRule (chain_tail p.And) ks6 at → SticksRule (chain_tail p.Or) at left → SticksRule clause_name ks1 left
sticks_clause_name_other_7 left ks1 ks2 ks3 ks4 ks5 ks6 at h0 h1 h2 e1 e2 e3 e4 e5 e6 x =
    sticks_becomes {r = clause_name} {Ys = rule name_rest ∷ rule postfix_tail ∷ rule (chain_tail p.Product) ∷ rule
    (chain_tail p.Sum) ∷ rule comparison_tail ∷ rule (chain_tail p.And) ∷ rule (chain_tail p.Or) ∷ []} {ks = ks1}
    (rw (unseen (mark m.Colon) _ h0, unseen (mark m.Arrow) _ h1, unseen (mark m.Define) _ h2) refl)
    (sticks_behind_rule e1 (sticks_behind_rule e2
    (sticks_behind_rule e3 (sticks_behind_rule e4 (sticks_behind_rule e5 (sticks_behind_rule e6 (sticks_in_rule x)))))))

pub sticks_clause_value_at1_1 : (left : ℕ) (k : Tok) (ks : List Tok) → k.kind ≡ (word w.If) → SticksRule an_if (k ∷ ks) left →
    SticksRule clause_value (k ∷ ks) left
sticks_clause_value_at1_1 left k ks h x = sticks_becomes {r = clause_value} {Ys = rule an_if ∷ []} {ks = k ∷ ks} (rw h refl)
    (sticks_in_rule x)

pub sticks_clause_value_at2_1 : (left : ℕ) (k : Tok) (ks : List Tok) → k.kind ≡ (word w.Not) → SticksRule (phrase p.Or) (k ∷ ks) left →
    SticksRule clause_value (k ∷ ks) left
sticks_clause_value_at2_1 left k ks h x = sticks_becomes {r = clause_value} {Ys = rule (phrase p.Or) ∷ []} {ks = k ∷ ks} (rw h refl)
    (sticks_in_rule x)

pub sticks_clause_value_other_1 : (left : ℕ) (at : List Tok) → ahead at ≢ Some (word w.If) → ahead at ≢ Some (word w.Not) →
    SticksRule (phrase p.Sum) at left → SticksRule clause_value at left
sticks_clause_value_other_1 left at h0 h1 x =
    sticks_becomes {r = clause_value} {Ys = rule (phrase p.Sum) ∷ rule range_rest ∷ []} {ks = at}
    (rw (unseen (word w.If) _ h0, unseen (word w.Not) _ h1) refl) (sticks_in_rule x)

pub sticks_clause_value_other_2 : (left : ℕ) (ks1 at : List Tok) → ahead ks1 ≢ Some (word w.If) → ahead ks1 ≢ Some (word w.Not) →
    EatsRule (phrase p.Sum) ks1 at → SticksRule range_rest at left → SticksRule clause_value ks1 left
sticks_clause_value_other_2 left ks1 at h0 h1 e1 x =
    sticks_becomes {r = clause_value} {Ys = rule (phrase p.Sum) ∷ rule range_rest ∷ []} {ks = ks1}
    (rw (unseen (word w.If) _ h0, unseen (word w.Not) _ h1) refl) (sticks_behind_rule e1 (sticks_in_rule x))

pub sticks_range_rest_at_1 : (left : ℕ) (k : Tok) (at : List Tok) → k.kind ≡ (mark m.DotDot) → SticksRule (phrase p.Sum) at left →
    SticksRule range_rest (k ∷ at) left
sticks_range_rest_at_1 left k at h x = sticks_takes {r = range_rest} {Ys = rule (phrase p.Sum) ∷ []} (rw h refl) (sticks_in_rule x)

pub sticks_range_rest_other_1 : (left : ℕ) (at : List Tok) → ahead at ≢ Some (mark m.DotDot) → SticksRule comparison_tail at left →
    SticksRule range_rest at left
sticks_range_rest_other_1 left at h0 x = sticks_becomes {r = range_rest}
    {Ys = rule comparison_tail ∷ rule (chain_tail p.And) ∷ rule (chain_tail p.Or) ∷ []} {ks = at} (rw (unseen (mark m.DotDot) _ h0) refl)
    (sticks_in_rule x)

pub sticks_range_rest_other_2 : (left : ℕ) (ks1 at : List Tok) → ahead ks1 ≢ Some (mark m.DotDot) → EatsRule comparison_tail ks1 at →
    SticksRule (chain_tail p.And) at left → SticksRule range_rest ks1 left
sticks_range_rest_other_2 left ks1 at h0 e1 x =
    sticks_becomes {r = range_rest} {Ys = rule comparison_tail ∷ rule (chain_tail p.And) ∷ rule (chain_tail p.Or) ∷ []} {ks = ks1}
    (rw (unseen (mark m.DotDot) _ h0) refl) (sticks_behind_rule e1 (sticks_in_rule x))

pub sticks_range_rest_other_3 : (left : ℕ) (ks1 ks2 at : List Tok) → ahead ks1 ≢ Some (mark m.DotDot) → EatsRule comparison_tail ks1 ks2 →
    EatsRule (chain_tail p.And) ks2 at → SticksRule (chain_tail p.Or) at left → SticksRule range_rest ks1 left
sticks_range_rest_other_3 left ks1 ks2 at h0 e1 e2 x =
    sticks_becomes {r = range_rest} {Ys = rule comparison_tail ∷ rule (chain_tail p.And) ∷ rule (chain_tail p.Or) ∷ []} {ks = ks1}
    (rw (unseen (mark m.DotDot) _ h0) refl) (sticks_behind_rule e1 (sticks_behind_rule e2 (sticks_in_rule x)))

pub sticks_an_int_other : (k : Tok) (ks : List Tok) → int_at k.kind ≡ None → SticksRule an_int (k ∷ ks) (length (k ∷ ks))
sticks_an_int_other k ks h = sticks_refused (rw h refl)

pub sticks_an_int_end : SticksRule an_int [] 0
sticks_an_int_end = sticks_refused refl
