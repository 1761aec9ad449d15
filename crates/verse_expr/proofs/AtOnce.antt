-- A rule that reads nothing at the end of the toks sticks at no tok at once.
use Rattle.std.proofs.Common.{◌≡◌, ◌≢◌, ℕ, ◌≤◌, Bool, true, false, if◌then◌else◌, List, [], ◌∷◌, Option, Some, None, length, refl, ap}
use Rattle.std.proofs.Common.{subst, ◌∙◌, arith}
use Rattle.std.specs.Option.{is_some}
use Rattle.verse_lex.specs.declared.tokens.Word.TheVariants as w
use Rattle.verse_lex.specs.declared.tokens.Mark.TheVariants as m
use Rattle.verse_lex.specs.declared.tokens.TokenKind.TheVariants as token
use Rattle.verse_layout.specs.declared.toks.TokKind.{TokKind}
use Rattle.verse_layout.specs.declared.toks.TokKind.TheVariants as tok
use Rattle.verse_layout.specs.declared.toks.Tok.{Tok}
use Rattle.verse_tree.specs.declared.exprs.Comparison.{Comparison}
use Rattle.verse_tree.specs.declared.exprs.Operator.{Operator}
use Rattle.verse_grammar.specs.Toks.{word, mark, ahead}
use Rattle.verse_grammar.specs.Codes.{sees}
use Rattle.verse_grammar.specs.Exprs.{chain_operator}
use Rattle.verse_grammar.specs.Starts.{primary_start, postfix_start, comparison_at, begins_expr}
use Rattle.verse_grammar.specs.declared.phrases.Phrase.{Phrase}
use Rattle.verse_grammar.specs.declared.phrases.Phrase.TheVariants as p
use Rattle.verse_grammar.specs.declared.starts.PrimaryStart.{PrimaryStart}
use Rattle.verse_grammar.specs.declared.starts.PrimaryStart.TheVariants as primary
use Rattle.verse_grammar.specs.declared.starts.PostfixStart.{PostfixStart}
use Rattle.verse_grammar.specs.declared.starts.PostfixStart.TheVariants as postfix
use Rattle.verse_grammar.specs.Symbols.{Rule, Symbol, a, rule, Move, takes, becomes, refuses, first_as, first_is, predict, by_primary}
use Rattle.verse_grammar.specs.Symbols.{by_chain_tail, by_comparison_tail, by_postfix_tail, a_type, bracket_rest, tuple_rest, types}
use Rattle.verse_grammar.specs.Symbols.{types_tail, bracket_type, bracket_type_rest, stmt_name, typed_value, set_rest, assign, return_value}
use Rattle.verse_grammar.specs.Symbols.{an_if, taken, otherwise, comparison_tail, postfix_tail, hole_rest, name_rest, givens_until, given}
use Rattle.verse_grammar.specs.Symbols.{givens_tail, round_rest, pairs_until, pair, pairs_tail, clauses, case_rest, duration}
use Rattle.verse_grammar.specs.Symbols.{generator_rest, entries_rest, clause_name, clause_value, range_rest, an_int, program, items_tail}
use Rattle.verse_grammar.specs.Symbols.{an_item, using_rest, dotted, dots_tail, path_tail, specs, item_rest, enum_or_class, enum_rest}
use Rattle.verse_grammar.specs.Symbols.{values_until, values_tail, class_rest, parent, members_until, members_tail, member, member_rest}
use Rattle.verse_grammar.specs.Symbols.{field_rest, default, fun_rest, params_until, param, params_tail, phrase, chain_tail, row_tail}
use Rattle.verse_grammar.specs.Symbols.{closed, until}
use Rattle.verse_grammar.specs.Reading.{Eats, eats_tok, eats_rule, EatsRule, eats_takes, eats_becomes, Sticks, sticks_here}
use Rattle.verse_grammar.specs.Reading.{sticks_behind_tok, sticks_in_rule, sticks_behind_rule, SticksRule, sticks_refused, sticks_takes}
use Rattle.verse_grammar.specs.Reading.{sticks_becomes}
use Rattle.verse_grammar.proofs.Sights.{seen}
use Rattle.verse_grammar.proofs.Moves.{becomes_becomes, takes_becomes, takes_refuses, becomes_refuses}
use Rattle.verse_grammar.proofs.Local.{rule_within}
use Rattle.verse_grammar.proofs.ByExpr.{seen_ahead}
use Rattle.verse_expr.proofs.Suffixes.{stuck_inside}

no_toks : {k : Tok} {ks : List Tok} → k ∷ ks ≡ [] → ⊥
no_toks h = cc

-- at the end of the toks this reads nothing
abbrev Full : Rule → Type 0
Full r = (ks rest : List Tok) → ks ≡ [] → EatsRule r ks rest → ⊥

abbrev Fulls : List Symbol → Type 0
Fulls Xs = (ks rest : List Tok) → ks ≡ [] → Eats Xs ks rest → ⊥

full_refuses : {r : Rule} → predict r [] ≡ refuses → Full r
full_refuses g ks rest e (eats_takes h x) = no_toks e
full_refuses {r} g ks rest e (eats_becomes h x) = becomes_refuses h (ap (predict r) e ∙ g)

full_becomes : {r : Rule} {Xs : List Symbol} → predict r [] ≡ becomes Xs → Fulls Xs → Full r
full_becomes g f ks rest e (eats_takes h x) = no_toks e
full_becomes {r} {Xs} g f ks rest e (eats_becomes h x) =
    f ks rest e (subst (λ (Ys : List Symbol). Eats Ys ks rest) (becomes_becomes h (ap (predict r) e ∙ g)) x)

fulls_tok : {kind : TokKind} {Xs : List Symbol} → Fulls (a kind ∷ Xs)
fulls_tok ks rest e (eats_tok h x) = no_toks e

fulls_rule : {r : Rule} {Xs : List Symbol} → Full r → Fulls (rule r ∷ Xs)
fulls_rule f ks rest e (eats_rule {ls = ls} x y) = f ks ls e x

nothing_behind : (ks ls : List Tok) → ks ≡ [] → length ls ≤ length ks → ls ≡ []
nothing_behind ks [] e h = refl
nothing_behind ks (l ∷ ls) e h = absurd (let i : length ks ≡ 0 = ap length e in omega arith)

fulls_behind : {r : Rule} {Xs : List Symbol} → Fulls Xs → Fulls (rule r ∷ Xs)
fulls_behind f ks rest e (eats_rule {ls = ls} x y) = f ls rest (nothing_behind ks ls e (rule_within x)) y

full_tok : {r : Rule} {kind : TokKind} {Xs : List Symbol} → predict r [] ≡ becomes (a kind ∷ Xs) → Full r
full_tok g = full_becomes g fulls_tok

full_rule : {r s : Rule} {Xs : List Symbol} → predict r [] ≡ becomes (rule s ∷ Xs) → Full s → Full r
full_rule g f = full_becomes g (fulls_rule f)

full_type : Full a_type
full_type = full_refuses refl

full_primary : Full (phrase p.Primary)
full_primary = full_refuses refl

full_postfix : Full (phrase p.Postfix)
full_postfix = full_rule refl full_primary

full_minus : Full (phrase p.Minus)
full_minus = full_rule refl full_postfix

full_product : Full (phrase p.Product)
full_product = full_rule refl full_minus

full_sum : Full (phrase p.Sum)
full_sum = full_rule refl full_product

full_comparison : Full (phrase p.Comparison)
full_comparison = full_rule refl full_sum

full_not : Full (phrase p.Not)
full_not = full_rule refl full_comparison

full_and : Full (phrase p.And)
full_and = full_rule refl full_not

full_or : Full (phrase p.Or)
full_or = full_rule refl full_and

full_expr : Full (phrase p.Expr)
full_expr = full_rule refl full_or

full_block : Full (phrase p.Block)
full_block = full_tok refl

full_stmt : Full (phrase p.Stmt)
full_stmt = full_rule refl full_expr

full_pattern : Full (phrase p.Pattern)
full_pattern = full_refuses refl

full_phrase : (q : Phrase) → Full (phrase q)
full_phrase p.Block = full_block
full_phrase p.Part = full_rule refl full_stmt
full_phrase p.Stmt = full_stmt
full_phrase p.Body = full_rule refl full_expr
full_phrase p.Expr = full_expr
full_phrase p.Or = full_or
full_phrase p.And = full_and
full_phrase p.Not = full_not
full_phrase p.Comparison = full_comparison
full_phrase p.Sum = full_sum
full_phrase p.Product = full_product
full_phrase p.Minus = full_minus
full_phrase p.Postfix = full_postfix
full_phrase p.Primary = full_primary
full_phrase p.Generator = full_tok refl
full_phrase p.Clause = full_rule refl full_expr
full_phrase p.Arm = full_rule refl full_pattern
full_phrase p.Pattern = full_pattern

-- these toks begin with none at which the rule sticks at once
abbrev CalmAt : List Tok → Rule → Type 0
CalmAt ks r = (left : ℕ) → length ks ≤ left → SticksRule r ks left → ⊥

abbrev CalmsAt : List Tok → List Symbol → Type 0
CalmsAt ks Xs = (left : ℕ) → length ks ≤ left → Sticks Xs ks left → ⊥

abbrev Calm : Rule → Type 0
Calm r = (ks : List Tok) → CalmAt ks r

abbrev Calms : List Symbol → Type 0
Calms Xs = (ks : List Tok) → CalmsAt ks Xs

calm_takes : {r : Rule} {ks : List Tok} {Xs : List Symbol} → predict r ks ≡ takes Xs → CalmAt ks r
calm_takes g left h (sticks_refused e) = takes_refuses g e
calm_takes g left h (sticks_takes {ks = ks} e x) = let i : left ≤ length ks = stuck_inside _ ks left x in absurd (omega arith)
calm_takes g left h (sticks_becomes e x) = takes_becomes g e

calm_becomes : {r : Rule} {ks : List Tok} {Xs : List Symbol} → predict r ks ≡ becomes Xs → CalmsAt ks Xs → CalmAt ks r
calm_becomes g f left h (sticks_refused e) = becomes_refuses g e
calm_becomes g f left h (sticks_takes e x) = takes_becomes e g
calm_becomes {ks = ks} g f left h (sticks_becomes e x) = f left h (subst (λ (Ys : List Symbol). Sticks Ys ks left) (becomes_becomes e g) x)

calms_none : Calms []
calms_none ks left h x = elim x [ ]

calms_rule : {ks : List Tok} {r : Rule} {Xs : List Symbol} → CalmAt ks r → Calms Xs → CalmsAt ks (rule r ∷ Xs)
calms_rule f g left h (sticks_in_rule x) = f left h x
calms_rule f g left h (sticks_behind_rule {ls = ls} x y) = let i = rule_within x in g ls left (omega arith) y

calms_tok : {ks : List Tok} {kind : TokKind} {Xs : List Symbol} → ahead ks ≡ Some kind → CalmsAt ks (a kind ∷ Xs)
calms_tok e left h (sticks_here n) = n e
calms_tok e left h (sticks_behind_tok {ks = ks} g x) = let i : left ≤ length ks = stuck_inside _ ks left x in absurd (omega arith)

-- a rule that takes a tok, or is at its end
data CalmMove : Move → Type 0 where
  takes_on : {Xs : List Symbol} → CalmMove (takes Xs)
  ends : CalmMove (becomes [])

calm_by : {r : Rule} {ks : List Tok} {M : Move} → predict r ks ≡ M → CalmMove M → CalmAt ks r
calm_by g takes_on = calm_takes g
calm_by {ks = ks} g ends = calm_becomes g (calms_none ks)

calm_move : (r : Rule) → ((ks : List Tok) → CalmMove (predict r ks)) → Calm r
calm_move r f ks = calm_by refl (f ks)

calm_if : (Xs : List Symbol) (x : Bool) → CalmMove (if x then takes Xs else (becomes []))
calm_if Xs true = takes_on
calm_if Xs false = ends

calm_chain : (q : Phrase) (o : Option Operator) → CalmMove (by_chain_tail q o)
calm_chain q None = ends
calm_chain q (Some o) = takes_on

calm_compared : (o : Option Comparison) → CalmMove (by_comparison_tail o)
calm_compared None = ends
calm_compared (Some o) = takes_on

calm_postfix : (o : Option PostfixStart) → CalmMove (by_postfix_tail o)
calm_postfix None = ends
calm_postfix (Some postfix.Round) = takes_on
calm_postfix (Some postfix.Square) = takes_on
calm_postfix (Some postfix.Dot) = takes_on
calm_postfix (Some postfix.Question) = takes_on

chain_tail_calm : (q : Phrase) → Calm (chain_tail q)
chain_tail_calm q = calm_move (chain_tail q) (λ ks. calm_chain q (first_as (chain_operator q) ks))

comparison_tail_calm : Calm comparison_tail
comparison_tail_calm = calm_move comparison_tail (λ ks. calm_compared (first_as comparison_at ks))

postfix_tail_calm : Calm postfix_tail
postfix_tail_calm = calm_move postfix_tail (λ ks. calm_postfix (first_as postfix_start ks))

name_rest_calm : Calm name_rest
name_rest_calm = calm_move name_rest (λ ks. calm_if _ (sees tok.Open ks))

one_more : {r : Rule} {Xs : List Symbol} → Calm r → Calms Xs → Calms (rule r ∷ Xs)
one_more f g ks = calms_rule (f ks) g

-- what follows a sum, and what follows a name, in an expression
behind_a_sum : Calms (rule comparison_tail ∷ rule (chain_tail p.And) ∷ rule (chain_tail p.Or) ∷ [])
behind_a_sum = one_more comparison_tail_calm (one_more (chain_tail_calm p.And) (one_more (chain_tail_calm p.Or) calms_none))

behind_a_name : Calms (rule name_rest ∷ rule postfix_tail ∷ rule (chain_tail p.Product) ∷ rule
    (chain_tail p.Sum) ∷ rule comparison_tail ∷ rule (chain_tail p.And) ∷ rule (chain_tail p.Or) ∷ [])
behind_a_name = one_more name_rest_calm (one_more postfix_tail_calm
    (one_more (chain_tail_calm p.Product) (one_more (chain_tail_calm p.Sum) behind_a_sum)))

abbrev CalmIf : List Tok → Bool → Move → Move → Type 0
CalmIf ks x M N = (r : Rule) → predict r ks ≡ (if x then M else N) → CalmAt ks r

calm_cases : {ks : List Tok} {M N : Move} (x : Bool) → (x ≡ true → (r : Rule) → predict r ks ≡ M → CalmAt ks r) →
    ((r : Rule) → predict r ks ≡ N → CalmAt ks r) → CalmIf ks x M N
calm_cases true f g r e = f refl r e
calm_cases false f g r e = g r e

colon_taken : (ks : List Tok) → sees (mark m.Colon) ks ≡ true → CalmAt ks typed_value
colon_taken ks h = calm_becomes refl (calms_tok (seen_ahead (mark m.Colon) ks h))

stmt_name_calm : Calm stmt_name
stmt_name_calm ks =
    calm_cases (sees (mark m.Define) ks) (λ h r e. calm_takes e)
    (calm_cases (sees (mark m.Colon) ks) (λ h r e. calm_becomes e (calms_rule (colon_taken ks h) calms_none))
    (λ r e. calm_becomes e (behind_a_name ks)))
    stmt_name refl

clause_name_calm : Calm clause_name
clause_name_calm ks =
    calm_cases (sees (mark m.Colon) ks) (λ h r e. calm_takes e)
    (calm_cases (sees (mark m.Arrow) ks) (λ h r e. calm_takes e)
    (calm_cases (sees (mark m.Define) ks) (λ h r e. calm_takes e) (λ r e. calm_becomes e (behind_a_name ks))))
    clause_name refl

range_rest_calm : Calm range_rest
range_rest_calm ks = calm_cases (sees (mark m.DotDot) ks) (λ h r e. calm_takes e) (λ r e. calm_becomes e (behind_a_sum ks)) range_rest refl

-- a tok with which an expression begins
primary_takes : (o : Option PrimaryStart) → is_some o ≡ true → CalmMove (by_primary o)
primary_takes None h = absurd (cc)
primary_takes (Some (primary.Int n)) h = takes_on
primary_takes (Some (primary.Char n)) h = takes_on
primary_takes (Some primary.Text) h = takes_on
primary_takes (Some primary.True) h = takes_on
primary_takes (Some primary.False) h = takes_on
primary_takes (Some primary.This) h = takes_on
primary_takes (Some primary.TextOpen) h = takes_on
primary_takes (Some primary.Name) h = takes_on
primary_takes (Some primary.Round) h = takes_on
primary_takes (Some primary.Array) h = takes_on
primary_takes (Some primary.Map) h = takes_on
primary_takes (Some primary.Option) h = takes_on
primary_takes (Some primary.Logic) h = takes_on
primary_takes (Some primary.Event) h = takes_on
primary_takes (Some primary.For) h = takes_on
primary_takes (Some primary.Loop) h = takes_on
primary_takes (Some primary.Block) h = takes_on
primary_takes (Some primary.Branch) h = takes_on
primary_takes (Some primary.Sync) h = takes_on
primary_takes (Some primary.Race) h = takes_on
primary_takes (Some primary.Rush) h = takes_on
primary_takes (Some primary.Case) h = takes_on
primary_takes (Some primary.Spawn) h = takes_on
primary_takes (Some primary.Sleep) h = takes_on

data Begin (k : TokKind) : Type 0 where
  by_if : k ≡ word w.If → Begin k
  by_not : k ≡ word w.Not → Begin k
  by_minus : k ≡ mark m.Minus → Begin k
  by_primary_form : is_some (primary_start k) ≡ true → Begin k

begin_of : (k : TokKind) → begins_expr k ≡ true → Begin k
begin_of (tok.Plain (token.Word w.If)) h = by_if refl
begin_of (tok.Plain (token.Word w.Not)) h = by_not refl
begin_of (tok.Plain (token.Mark m.Minus)) h = by_minus refl
begin_of k h = by_primary_form h

chain_calm : (ks : List Tok) (q : Phrase) (s : Rule) → predict (phrase q) ks ≡ becomes (rule s ∷ rule (chain_tail q) ∷ []) → CalmAt ks s →
    CalmAt ks (phrase q)
chain_calm ks q s e f = calm_becomes e (calms_rule f (one_more (chain_tail_calm q) calms_none))

expr_of_or : (ks : List Tok) → CalmAt ks (phrase p.Or) → CalmAt ks (phrase p.Expr)
expr_of_or ks f =
    calm_cases (sees (word w.If) ks) (λ h r e.
    calm_becomes e (calms_rule (calm_becomes refl (calms_tok (seen_ahead (word w.If) ks h))) calms_none))
    (λ r e. calm_becomes e (calms_rule f calms_none)) (phrase p.Expr) refl

expr_of_not : (ks : List Tok) → CalmAt ks (phrase p.Not) → CalmAt ks (phrase p.Expr)
expr_of_not ks f = expr_of_or ks (chain_calm ks p.Or (phrase p.And) refl (chain_calm ks p.And (phrase p.Not) refl f))

not_of_minus : (ks : List Tok) → CalmAt ks (phrase p.Minus) → CalmAt ks (phrase p.Not)
not_of_minus ks f =
    let g : CalmAt ks (phrase p.Sum) = chain_calm ks p.Sum (phrase p.Product) refl (chain_calm ks p.Product (phrase p.Minus) refl f) in
    let h : CalmAt ks (phrase p.Comparison) = calm_becomes refl (calms_rule g (one_more comparison_tail_calm calms_none)) in
    calm_cases (sees (word w.Not) ks) (λ e r i. calm_takes i) (λ r i. calm_becomes i (calms_rule h calms_none)) (phrase p.Not) refl

minus_of_postfix : (ks : List Tok) → CalmAt ks (phrase p.Postfix) → CalmAt ks (phrase p.Minus)
minus_of_postfix ks f = calm_cases (sees (mark m.Minus) ks) (λ e r i. calm_takes i) (λ r i. calm_becomes i (calms_rule f calms_none))
    (phrase p.Minus) refl

when_true : (r : Rule) (ks : List Tok) (M N : Move) (x : Bool) → x ≡ true → predict r ks ≡ (if x then M else N) → predict r ks ≡ M
when_true r ks M N true h g = g
when_true r ks M N false h g = absurd (cc)

expr_begun : (k : Tok) (ks : List Tok) → Begin k.kind → CalmAt (k ∷ ks) (phrase p.Expr)
expr_begun k ks (by_if e) =
    let g : predict (phrase p.Expr) (k ∷ ks) ≡ becomes (rule an_if ∷ []) =
    when_true (phrase p.Expr) (k ∷ ks) _ _ (sees (word w.If) (k ∷ ks)) (seen (word w.If) k ks e) refl in
    let f : CalmAt (k ∷ ks) an_if = calm_becomes refl (calms_tok (ap Some e)) in
    calm_becomes g (calms_rule f calms_none)
expr_begun k ks (by_not e) =
    let g : predict (phrase p.Not) (k ∷ ks) ≡ takes (rule (phrase p.Not) ∷ []) =
    when_true (phrase p.Not) (k ∷ ks) _ _ (sees (word w.Not) (k ∷ ks)) (seen (word w.Not) k ks e) refl in
    expr_of_not (k ∷ ks) (calm_takes g)
expr_begun k ks (by_minus e) =
    let g : predict (phrase p.Minus) (k ∷ ks) ≡ takes (rule (phrase p.Minus) ∷ []) =
    when_true (phrase p.Minus) (k ∷ ks) _ _ (sees (mark m.Minus) (k ∷ ks)) (seen (mark m.Minus) k ks e) refl in
    expr_of_not (k ∷ ks) (not_of_minus (k ∷ ks) (calm_takes g))
expr_begun k ks (by_primary_form e) =
    let f : CalmAt (k ∷ ks) (phrase p.Primary) = calm_by refl (primary_takes (primary_start k.kind) e) in
    let g : CalmAt (k ∷ ks) (phrase p.Postfix) = calm_becomes refl (calms_rule f (one_more postfix_tail_calm calms_none)) in
    expr_of_not (k ∷ ks) (not_of_minus (k ∷ ks) (minus_of_postfix (k ∷ ks) g))

expr_first : (ks : List Tok) → first_is begins_expr ks ≡ true → CalmAt ks (phrase p.Expr)
expr_first [] h = absurd (cc)
expr_first (k ∷ ks) h = expr_begun k ks (begin_of k.kind h)

return_value_calm : Calm return_value
return_value_calm ks =
    calm_cases (first_is begins_expr ks) (λ h r e. calm_becomes e (calms_rule (expr_first ks h) calms_none))
    (λ r e. calm_becomes e (calms_none ks)) return_value refl

-- a rule that sticks at the first tok reads nothing at the end
abbrev AtOnce : Rule → Type 0
AtOnce r = (ks ls rest : List Tok) (left : ℕ) → length ks ≤ left → ls ≡ [] → SticksRule r ks left → EatsRule r ls rest → ⊥

by_full : {r : Rule} → Full r → AtOnce r
by_full f ks ls rest left h e x y = f ls rest e y

by_calm : {r : Rule} → Calm r → AtOnce r
by_calm f ks ls rest left h e x y = f ks left h x

full_field : Full field_rest
full_field = full_tok refl

full_fun : Full fun_rest
full_fun = full_tok refl

full_class : Full class_rest
full_class = full_becomes refl (fulls_behind (fulls_behind fulls_tok))

pub at_once : (r : Rule) → r ≢ program → AtOnce r
at_once a_type n = by_full full_type
at_once bracket_rest n = by_full (full_rule refl full_type)
at_once tuple_rest n = by_full (full_tok refl)
at_once types n = by_full (full_rule refl full_type)
at_once types_tail n = by_calm (calm_move types_tail (λ ks. calm_if _ (sees (mark m.Comma) ks)))
at_once bracket_type n = by_full (full_tok refl)
at_once bracket_type_rest n = by_full (full_rule refl full_type)
at_once stmt_name n = by_calm stmt_name_calm
at_once typed_value n = by_full (full_tok refl)
at_once set_rest n = by_full (full_rule refl full_postfix)
at_once assign n = by_full (full_refuses refl)
at_once return_value n = by_calm return_value_calm
at_once an_if n = by_full (full_tok refl)
at_once taken n = by_full (full_rule refl full_block)
at_once otherwise n = by_calm (calm_move otherwise (λ ks. calm_if _ (sees (word w.Else) ks)))
at_once comparison_tail n = by_calm comparison_tail_calm
at_once postfix_tail n = by_calm postfix_tail_calm
at_once hole_rest n = by_full (full_tok refl)
at_once name_rest n = by_calm name_rest_calm
at_once givens_until n = by_full (full_rule refl (full_tok refl))
at_once given n = by_full (full_tok refl)
at_once givens_tail n = by_calm (calm_move givens_tail (λ ks. calm_if _ (sees tok.Sep ks)))
at_once round_rest n = by_full (full_tok refl)
at_once pairs_until n = by_full (full_rule refl (full_rule refl full_expr))
at_once pair n = by_full (full_rule refl full_expr)
at_once pairs_tail n = by_calm (calm_move pairs_tail (λ ks. calm_if _ (sees tok.Sep ks)))
at_once clauses n = by_full (full_rule refl (full_phrase p.Generator))
at_once case_rest n = by_full (full_tok refl)
at_once duration n = by_full (full_refuses refl)
at_once generator_rest n = by_full (full_refuses refl)
at_once entries_rest n = by_full (full_tok refl)
at_once clause_name n = by_calm clause_name_calm
at_once clause_value n = by_full (full_rule refl full_sum)
at_once range_rest n = by_calm range_rest_calm
at_once an_int n = by_full (full_refuses refl)
at_once program n = absurd (n refl)
at_once items_tail n = by_calm (calm_move items_tail (λ ks. calm_if _ (sees tok.Sep ks)))
at_once an_item n = by_full (full_refuses refl)
at_once using_rest n = by_full (full_tok refl)
at_once dotted n = by_full (full_tok refl)
at_once dots_tail n = by_calm (calm_move dots_tail (λ ks. calm_if _ (sees (mark m.Dot) ks)))
at_once path_tail n = by_calm (calm_move path_tail (λ ks. calm_if _ (sees (mark m.Slash) ks)))
at_once specs n = by_calm (calm_move specs (λ ks. calm_if _ (sees (mark m.Below) ks)))
at_once item_rest n = by_full (full_rule refl full_fun)
at_once enum_or_class n = by_full (full_refuses refl)
at_once enum_rest n = by_full (full_tok refl)
at_once values_until n = by_full (full_tok refl)
at_once values_tail n = by_calm (calm_move values_tail (λ ks. calm_if _ (sees tok.Sep ks)))
at_once class_rest n = by_full full_class
at_once parent n = by_calm (calm_move parent (λ ks. calm_if _ (sees (mark m.RoundOpen) ks)))
at_once members_until n = by_full (full_rule refl (full_tok refl))
at_once members_tail n = by_calm (calm_move members_tail (λ ks. calm_if _ (sees tok.Sep ks)))
at_once member n = by_full (full_tok refl)
at_once member_rest n = by_full (full_rule refl full_field)
at_once field_rest n = by_full full_field
at_once default n = by_calm (calm_move default (λ ks. calm_if _ (sees (mark m.Equals) ks)))
at_once fun_rest n = by_full full_fun
at_once params_until n = by_full (full_rule refl (full_tok refl))
at_once param n = by_full (full_tok refl)
at_once params_tail n = by_calm (calm_move params_tail (λ ks. calm_if _ (sees (mark m.Comma) ks)))
at_once (phrase q) n = by_full (full_phrase q)
at_once (chain_tail q) n = by_calm (chain_tail_calm q)
at_once (row_tail q s) n = by_calm (calm_move (row_tail q s) (λ ks. calm_if _ (sees s ks)))
at_once (closed q s c) n = by_full (full_rule refl (full_phrase q))
at_once (until q s c) n = by_full (full_rule refl (full_rule refl (full_phrase q)))
