-- What the rules of statements and expressions do is right, and each can be read.
use Rattle.std.proofs.Common.{◌≡◌, ℕ, ℤ, pos, List, [], ◌∷◌, Option, Some, None, refl, ap}
use Rattle.verse_lex.specs.declared.tokens.Word.{Word}
use Rattle.verse_lex.specs.declared.tokens.Word.TheVariants as w
use Rattle.verse_lex.specs.declared.tokens.Mark.TheVariants as m
use Rattle.verse_lex.specs.declared.tokens.TokenKind.TheVariants as token
use Rattle.verse_layout.specs.declared.toks.TokKind.{TokKind}
use Rattle.verse_layout.specs.declared.toks.TokKind.TheVariants as tok
use Rattle.verse_layout.specs.declared.toks.Tok.{Tok}
use Rattle.verse_tree.specs.Tree.{Bytes, Tree}
use Rattle.verse_grammar.specs.declared.phrases.Phrase.{Phrase}
use Rattle.verse_grammar.specs.declared.phrases.Phrase.TheVariants as p
use Rattle.verse_grammar.specs.Toks.{word, mark, name}
use Rattle.verse_grammar.specs.Symbols as s
use Rattle.verse_grammar.specs.Symbols.{predict}
use Rattle.verse_grammar.proofs.CompletingMeanings.{OneTok, one_tok, Tail, tail_none, tail_more, IsGiven, is_given, IsPair, is_pair, Means}
use Rattle.verse_grammar.proofs.CompletingMeanings.{Sound, either_sound, sees_sound, Readable, a_tok}
use Rattle.verse_tree.specs.declared.exprs.Assign.{Assign}
use Rattle.verse_tree.specs.declared.exprs.Assign.TheVariants as assign
use Rattle.verse_tree.specs.declared.exprs.Comparison.{Comparison}
use Rattle.verse_tree.specs.declared.exprs.Operator.{Operator}
use Rattle.verse_grammar.specs.Codes.{sees}
use Rattle.verse_grammar.specs.Starts.{primary_start, postfix_start, stmt_start, pattern_start, comparison_at, assign_at, duration_at}
use Rattle.verse_grammar.specs.Starts.{int_at, begins_expr}
use Rattle.verse_grammar.specs.declared.starts.Duration.{Duration}
use Rattle.verse_grammar.specs.declared.starts.Duration.TheVariants as duration
use Rattle.verse_grammar.specs.declared.starts.PrimaryStart.{PrimaryStart}
use Rattle.verse_grammar.specs.declared.starts.PrimaryStart.TheVariants as primary
use Rattle.verse_grammar.specs.declared.starts.PostfixStart.{PostfixStart}
use Rattle.verse_grammar.specs.declared.starts.PostfixStart.TheVariants as postfix
use Rattle.verse_grammar.specs.declared.starts.StmtStart.{StmtStart}
use Rattle.verse_grammar.specs.declared.starts.StmtStart.TheVariants as stmt
use Rattle.verse_grammar.specs.declared.starts.PatternStart.{PatternStart}
use Rattle.verse_grammar.specs.declared.starts.PatternStart.TheVariants as pattern
use Rattle.verse_grammar.specs.Types.{type_name}
use Rattle.verse_grammar.specs.Exprs.{chain_operator, Reads, block, part_defer, part_stmt, stmt_definition, stmt_typed, stmt_variable}
use Rattle.verse_grammar.specs.Exprs.{stmt_control, stmt_expr, body_block, body_expr, expr_if, expr_or, or_chain, and_chain, not_word}
use Rattle.verse_grammar.specs.Exprs.{not_comparison, comparison_sum, comparison_two, sum_chain, product_chain, minus_mark, minus_postfix}
use Rattle.verse_grammar.specs.Exprs.{postfix_chain, integer, character, text, text_holes, truth, falsehood, this, name_alone, instance}
use Rattle.verse_grammar.specs.Exprs.{brackets, tuple, array, mapping, option, logic, event, for_form, loop_form, block_form, branch, sync}
use Rattle.verse_grammar.specs.Exprs.{race, rush, cases, spawn, sleep, sleep_forever, elements, entries, range, clause_generator}
use Rattle.verse_grammar.specs.Exprs.{clause_definition, clause_control, clause_expr, arm, integer_pattern, minus_pattern}
use Rattle.verse_grammar.specs.Exprs.{character_pattern, text_pattern, truth_pattern, falsehood_pattern, any_pattern, enum_pattern}
use Rattle.verse_grammar.specs.Exprs.{typed_value, Control, assignment, returned, returned_unit, break_form, if_alone, if_else, taken_then}
use Rattle.verse_grammar.specs.Exprs.{taken_block, chain_none, chain_more, postfix_none, postfix_call, postfix_index, postfix_member}
use Rattle.verse_grammar.specs.Exprs.{postfix_query, Row, row_one, row_more, closed, until_none, until_some, no_holes, more_holes}
use Rattle.verse_grammar.specs.Exprs.{last_hole, PairRow, pair_one, pair_more, no_pairs, some_pairs, GivenRow, given_one, given_more}
use Rattle.verse_grammar.specs.Exprs.{no_givens, some_givens, ClauseRow, first_generator, more_clauses, clauses}
use Rattle.verse_grammar.specs.Symbols.{first_is, by_stmt, by_primary, by_clause, by_pattern, by_assign, by_chain_tail, by_comparison_tail}
use Rattle.verse_grammar.specs.Symbols.{by_postfix_tail, by_duration, by_an_int}

-- what the kinds of starts are
abbrev stmt_kind : StmtStart → TokKind
stmt_kind stmt.Name = name
stmt_kind stmt.Var = word w.Var
stmt_kind stmt.Set = word w.Set
stmt_kind stmt.Return = word w.Return
stmt_kind stmt.Break = word w.Break

abbrev StmtStands : TokKind → Option StmtStart → Type 0
StmtStands k None = Unit {0}
StmtStands k (Some x) = k ≡ stmt_kind x

stmt_word : (x : Word) → StmtStands (word x) (stmt_start (word x))
stmt_word w.Var = refl
stmt_word w.Set = refl
stmt_word w.Return = refl
stmt_word w.Break = refl
stmt_word _ = tt

stmt_stands : (k : TokKind) → StmtStands k (stmt_start k)
stmt_stands (tok.Plain token.Name) = refl
stmt_stands (tok.Plain (token.Word x)) = stmt_word x
stmt_stands _ = tt

started : {k : TokKind} {x : StmtStart} → stmt_start k ≡ Some x → k ≡ stmt_kind x
started {k = k} h = rw h at (stmt_stands k)

named_start : {k : TokKind} → k ≡ name → primary_start k ≡ Some primary.Name
named_start h = ap primary_start h

-- each level holds what the next one reads
minus_of : {b : List ℕ} {ks rest : List Tok} {e : Tree} → Reads b p.Primary ks e rest → Reads b p.Minus ks e rest
minus_of x = minus_postfix (postfix_chain x postfix_none)

sum_of : {b : List ℕ} {ks rest : List Tok} {e : Tree} → Reads b p.Primary ks e rest → Reads b p.Sum ks e rest
sum_of x = sum_chain (product_chain (minus_of x) chain_none) chain_none

not_of : {b : List ℕ} {ks rest : List Tok} {e : Tree} → Reads b p.Sum ks e rest → Reads b p.Not ks e rest
not_of x = not_comparison (comparison_sum x)

or_of : {b : List ℕ} {ks rest : List Tok} {e : Tree} → Reads b p.Sum ks e rest → Reads b p.Or ks e rest
or_of x = or_chain (and_chain (not_of x) chain_none) chain_none

expr_of : {b : List ℕ} {ks rest : List Tok} {e : Tree} → Reads b p.Primary ks e rest → Reads b p.Expr ks e rest
expr_of x = expr_or (or_of (sum_of x))

-- what a name and the tails behind it make
name_sum : {b : List ℕ} {ks ls ms ns rest : List Tok} → Means b s.name_rest ks ls → Means b s.postfix_tail ls ms →
    Means b (s.chain_tail p.Product) ms ns → Means b (s.chain_tail p.Sum) ns rest →
    (k : Tok) → k.kind ≡ name → (e : Tree) × Reads b p.Sum (k ∷ ks) e rest
name_sum {ls = ls} {ms = ms} {ns = ns} f g c d k h =
    let x = f k (named_start h) in
    let y = g ls x.0 x.0 postfix_none in
    let z = c ms y.0 y.0 chain_none in
    let u = d ns z.0 z.0 chain_none in
    (u.0, sum_chain (product_chain (minus_postfix (postfix_chain x.1 y.1)) z.1) u.1)

sum_or : {b : List ℕ} {js ks ls ms rest : List Tok} {e : Tree} → Reads b p.Sum js e ks → Means b s.comparison_tail ks ls →
    Means b (s.chain_tail p.And) ls ms → Means b (s.chain_tail p.Or) ms rest →
    (f : Tree) × Reads b p.Or js f rest
sum_or {js = js} {ls = ls} {ms = ms} {e = e} x c f g =
    let y = c js e x in
    let z = f ls y.0 y.0 chain_none in
    let u = g ms z.0 z.0 chain_none in
    (u.0, or_chain (and_chain (not_comparison y.1) z.1) u.1)

pub block_sound : (b : List ℕ) (ks : List Tok) → Sound b (s.phrase p.Block) ks (predict (s.phrase p.Block) ks)
block_sound b ks = λ rest ms x o ho. (_, block ho x.1)

pub part_sound : (b : List ℕ) (ks : List Tok) → Sound b (s.phrase p.Part) ks (predict (s.phrase p.Part) ks)
part_sound b ks = sees_sound b (s.phrase p.Part) ks (word w.Defer) _ _ (λ k h rest ms x. (_, part_defer h x.1))
    (λ rest ms x. (_, part_stmt x.1))

stmt_case : (b : List ℕ) (k : Tok) (ks : List Tok) (o : Option StmtStart) → stmt_start k.kind ≡ o →
    Sound b (s.phrase p.Stmt) (k ∷ ks) (by_stmt o)
stmt_case b k ks None h = λ rest ms x. (_, stmt_expr x.1)
stmt_case b k ks (Some stmt.Name) h = λ rest ms x. x k (started h)
stmt_case b k ks (Some stmt.Var) h = λ rest ms x n hn. (_, stmt_variable (started h) hn x.2)
stmt_case b k ks (Some stmt.Set) h = λ rest ms x. (_, stmt_control (x k (started h)).1)
stmt_case b k ks (Some stmt.Return) h = λ rest ms x. (_, stmt_control (x k (started h)).1)
stmt_case b k ks (Some stmt.Break) h = λ rest. (_, stmt_control (break_form (started h)))

pub stmt_sound : (b : List ℕ) (ks : List Tok) → Sound b (s.phrase p.Stmt) ks (predict (s.phrase p.Stmt) ks)
stmt_sound b [] = λ rest ms x. (_, stmt_expr x.1)
stmt_sound b (k ∷ ks) = stmt_case b k ks (stmt_start k.kind) refl

pub body_sound : (b : List ℕ) (ks : List Tok) → Sound b (s.phrase p.Body) ks (predict (s.phrase p.Body) ks)
body_sound b ks = either_sound b (s.phrase p.Body) ks (sees tok.Open ks) _ _ (λ rest ms x. (_, body_block x.1))
    (λ rest ms x. (_, body_expr x.1))

pub expr_sound : (b : List ℕ) (ks : List Tok) → Sound b (s.phrase p.Expr) ks (predict (s.phrase p.Expr) ks)
expr_sound b ks = either_sound b (s.phrase p.Expr) ks (sees (word w.If) ks) _ _ (λ rest ms x. (_, expr_if x.1))
    (λ rest ms x. (_, expr_or x.1))

pub or_sound : (b : List ℕ) (ks : List Tok) → Sound b (s.phrase p.Or) ks (predict (s.phrase p.Or) ks)
or_sound b ks = λ rest ns t ms x. (_, or_chain x.1 (t ns x.0 x.0 chain_none).1)

pub and_sound : (b : List ℕ) (ks : List Tok) → Sound b (s.phrase p.And) ks (predict (s.phrase p.And) ks)
and_sound b ks = λ rest ns t ms x. (_, and_chain x.1 (t ns x.0 x.0 chain_none).1)

pub not_sound : (b : List ℕ) (ks : List Tok) → Sound b (s.phrase p.Not) ks (predict (s.phrase p.Not) ks)
not_sound b ks = sees_sound b (s.phrase p.Not) ks (word w.Not) _ _ (λ k h rest ms x. (_, not_word h x.1))
    (λ rest ms x. (_, not_comparison x.1))

pub comparison_sound : (b : List ℕ) (ks : List Tok) → Sound b (s.phrase p.Comparison) ks (predict (s.phrase p.Comparison) ks)
comparison_sound b ks = λ rest ns t ms x. t ms x.0 x.1

pub sum_sound : (b : List ℕ) (ks : List Tok) → Sound b (s.phrase p.Sum) ks (predict (s.phrase p.Sum) ks)
sum_sound b ks = λ rest ns t ms x. (_, sum_chain x.1 (t ns x.0 x.0 chain_none).1)

pub product_sound : (b : List ℕ) (ks : List Tok) → Sound b (s.phrase p.Product) ks (predict (s.phrase p.Product) ks)
product_sound b ks = λ rest ns t ms x. (_, product_chain x.1 (t ns x.0 x.0 chain_none).1)

pub minus_sound : (b : List ℕ) (ks : List Tok) → Sound b (s.phrase p.Minus) ks (predict (s.phrase p.Minus) ks)
minus_sound b ks = sees_sound b (s.phrase p.Minus) ks (mark m.Minus) _ _ (λ k h rest ms x. (_, minus_mark h x.1))
    (λ rest ms x. (_, minus_postfix x.1))

pub postfix_sound : (b : List ℕ) (ks : List Tok) → Sound b (s.phrase p.Postfix) ks (predict (s.phrase p.Postfix) ks)
postfix_sound b ks = λ rest ns t ms x. (_, postfix_chain x.1 (t ns x.0 x.0 postfix_none).1)

sleep_case : {b : List ℕ} {k o c : Tok} {ks rest : List Tok} → primary_start k.kind ≡ Some primary.Sleep → o.kind ≡ mark m.RoundOpen →
    OneTok Duration duration_at ks (c ∷ rest) → c.kind ≡ mark m.RoundClose →
    (e : Tree) × Reads b p.Primary (k ∷ o ∷ ks) e rest
sleep_case h o (one_tok (duration.Milliseconds n) d) c = (_, sleep h o d c)
sleep_case h o (one_tok duration.Forever d) c = (_, sleep_forever h o d c)

primary_case : (b : List ℕ) (k : Tok) (ks : List Tok) (o : Option PrimaryStart) → primary_start k.kind ≡ o →
    Sound b (s.phrase p.Primary) (k ∷ ks) (by_primary o)
primary_case b k ks None h = tt
primary_case b k ks (Some (primary.Int n)) h = λ rest. (_, integer h)
primary_case b k ks (Some (primary.Char n)) h = λ rest. (_, character h)
primary_case b k ks (Some primary.Text) h = λ rest. (_, text h)
primary_case b k ks (Some primary.True) h = λ rest. (_, truth h)
primary_case b k ks (Some primary.False) h = λ rest. (_, falsehood h)
primary_case b k ks (Some primary.This) h = λ rest. (_, this h)
primary_case b k ks (Some primary.TextOpen) h = λ rest ns t ms x. (_, text_holes h (t ms ms [] x.0 no_holes x.1).1)
primary_case b k ks (Some primary.Name) h = λ rest ms x. x k h
primary_case b k ks (Some primary.Round) h = λ rest ns t ms x. t k ms x.0 h x.1
primary_case b k ks (Some primary.Array) h = λ rest ms x o ho. (_, array h ho x.1)
primary_case b k ks (Some primary.Map) h = λ rest ms x o ho. (_, mapping h ho x.1)
primary_case b k ks (Some primary.Option) h = λ rest ms x o ho. (_, option h ho x.1)
primary_case b k ks (Some primary.Logic) h = λ rest ms x o ho. (_, logic h ho x.1)
primary_case b k ks (Some primary.Event) h = λ rest c hc o ho ms x. (_, event h x.1 ho hc)
primary_case b k ks (Some primary.For) h = λ rest ns y ms x o ho. (_, for_form h ho x.1 y.1)
primary_case b k ks (Some primary.Loop) h = λ rest ms x. (_, loop_form h x.1)
primary_case b k ks (Some primary.Block) h = λ rest ms x. (_, block_form h x.1)
primary_case b k ks (Some primary.Branch) h = λ rest ms x. (_, branch h x.1)
primary_case b k ks (Some primary.Sync) h = λ rest ms x o ho. (_, sync h ho x.1)
primary_case b k ks (Some primary.Race) h = λ rest ms x o ho. (_, race h ho x.1)
primary_case b k ks (Some primary.Rush) h = λ rest ms x o ho. (_, rush h ho x.1)
primary_case b k ks (Some primary.Case) h = λ rest ms x. x k h
primary_case b k ks (Some primary.Spawn) h = λ rest c hc ms x o ho. (_, spawn h ho x.1 hc)
primary_case b k ks (Some primary.Sleep) h = λ rest c hc ms d o ho. sleep_case h ho d hc

pub primary_sound : (b : List ℕ) (ks : List Tok) → Sound b (s.phrase p.Primary) ks (predict (s.phrase p.Primary) ks)
primary_sound b [] = tt
primary_sound b (k ∷ ks) = primary_case b k ks (primary_start k.kind) refl

pub generator_sound : (b : List ℕ) (ks : List Tok) → Sound b (s.phrase p.Generator) ks (predict (s.phrase p.Generator) ks)
generator_sound b ks = λ rest ms x k h. x k h

clause_case : (b : List ℕ) (k : Tok) (ks : List Tok) (o : Option StmtStart) → stmt_start k.kind ≡ o →
    Sound b (s.phrase p.Clause) (k ∷ ks) (by_clause o)
clause_case b k ks None h = λ rest ms x. (_, clause_expr x.1)
clause_case b k ks (Some stmt.Name) h = λ rest ms x. x k (started h)
clause_case b k ks (Some stmt.Var) h = tt
clause_case b k ks (Some stmt.Set) h = λ rest ms x. (_, clause_control (x k (started h)).1)
clause_case b k ks (Some stmt.Return) h = λ rest ms x. (_, clause_control (x k (started h)).1)
clause_case b k ks (Some stmt.Break) h = λ rest. (_, clause_control (break_form (started h)))

pub clause_sound : (b : List ℕ) (ks : List Tok) → Sound b (s.phrase p.Clause) ks (predict (s.phrase p.Clause) ks)
clause_sound b [] = λ rest ms x. (_, clause_expr x.1)
clause_sound b (k ∷ ks) = clause_case b k ks (stmt_start k.kind) refl

arm_of : {b : List ℕ} {o : Tok} {ks ls rest : List Tok} {e f : Tree} → Reads b p.Pattern ks e (o ∷ ls) → o.kind ≡ mark m.FatArrow →
    Reads b p.Body ls f rest → (g : Tree) × Reads b p.Arm ks g rest
arm_of (integer_pattern h) o x = (_, arm (integer_pattern h) o x)
arm_of (minus_pattern h i) o x = (_, arm (minus_pattern h i) o x)
arm_of (character_pattern h) o x = (_, arm (character_pattern h) o x)
arm_of (text_pattern h) o x = (_, arm (text_pattern h) o x)
arm_of (truth_pattern h) o x = (_, arm (truth_pattern h) o x)
arm_of (falsehood_pattern h) o x = (_, arm (falsehood_pattern h) o x)
arm_of (any_pattern h) o x = (_, arm (any_pattern h) o x)
arm_of (enum_pattern h d v) o x = (_, arm (enum_pattern h d v) o x)

pub arm_sound : (b : List ℕ) (ks : List Tok) → Sound b (s.phrase p.Arm) ks (predict (s.phrase p.Arm) ks)
arm_sound b ks = λ rest ns y o ho ms x. arm_of x.1 ho y.1

minus_case : {b : List ℕ} {k : Tok} {ks rest : List Tok} → pattern_start k.kind ≡ Some pattern.Minus → OneTok ℤ int_at ks rest →
    (e : Tree) × Reads b p.Pattern (k ∷ ks) e rest
minus_case h (one_tok n i) = (_, minus_pattern h i)

pattern_case : (b : List ℕ) (k : Tok) (ks : List Tok) (o : Option PatternStart) → pattern_start k.kind ≡ o →
    Sound b (s.phrase p.Pattern) (k ∷ ks) (by_pattern o)
pattern_case b k ks None h = tt
pattern_case b k ks (Some (pattern.Int n)) h = λ rest. (_, integer_pattern h)
pattern_case b k ks (Some (pattern.Char n)) h = λ rest. (_, character_pattern h)
pattern_case b k ks (Some pattern.Text) h = λ rest. (_, text_pattern h)
pattern_case b k ks (Some pattern.True) h = λ rest. (_, truth_pattern h)
pattern_case b k ks (Some pattern.False) h = λ rest. (_, falsehood_pattern h)
pattern_case b k ks (Some pattern.Wild) h = λ rest. (_, any_pattern h)
pattern_case b k ks (Some pattern.Minus) h = λ rest ms x. minus_case h x
pattern_case b k ks (Some pattern.Name) h = λ rest v hv d hd. (_, enum_pattern h hd hv)

pub pattern_sound : (b : List ℕ) (ks : List Tok) → Sound b (s.phrase p.Pattern) ks (predict (s.phrase p.Pattern) ks)
pattern_sound b [] = tt
pattern_sound b (k ∷ ks) = pattern_case b k ks (pattern_start k.kind) refl

pub stmt_name_sound : (b : List ℕ) (ks : List Tok) → Sound b s.stmt_name ks (predict s.stmt_name ks)
stmt_name_sound b ks = sees_sound b s.stmt_name ks (mark m.Define) _ _ (λ o ho rest ms x k hk. (_, stmt_definition hk ho x.1))
    (either_sound b s.stmt_name ks (sees (mark m.Colon) ks) _ _ (λ rest ms x k hk. (_, stmt_typed hk x.2))
    (λ rest os cor us cand ts cmp ns csum ms cprod ls post is nm k hk.
    (_, stmt_expr (expr_or (sum_or (name_sum nm post cprod csum k hk).1 cmp cand cor).1))))

pub typed_value_sound : (b : List ℕ) (ks : List Tok) → Sound b s.typed_value ks (predict s.typed_value ks)
typed_value_sound b ks = λ rest ns y q hq ms x o ho. (_, _, typed_value ho x.1 hq y.1)

assigned : {b : List ℕ} {k : Tok} {ks ls ms rest : List Tok} {e f : Tree} → k.kind ≡ word w.Set → Reads b p.Postfix ks e ls →
    OneTok Assign assign_at ls ms → Reads b p.Expr ms f rest →
    (g : Tree) × Control b (k ∷ ks) g rest
assigned h x (one_tok c i) y = (_, assignment h x i y)

pub set_rest_sound : (b : List ℕ) (ks : List Tok) → Sound b s.set_rest ks (predict s.set_rest ks)
set_rest_sound b ks = λ rest ns y js c ms x k hk. assigned hk x.1 c y.1

assign_case : (b : List ℕ) (k : Tok) (ks : List Tok) (o : Option Assign) → assign_at k.kind ≡ o → Sound b s.assign (k ∷ ks) (by_assign o)
assign_case b k ks None h = tt
assign_case b k ks (Some c) h = λ rest. one_tok c h

pub assign_sound : (b : List ℕ) (ks : List Tok) → Sound b s.assign ks (predict s.assign ks)
assign_sound b [] = tt
assign_sound b (k ∷ ks) = assign_case b k ks (assign_at k.kind) refl

pub return_value_sound : (b : List ℕ) (ks : List Tok) → Sound b s.return_value ks (predict s.return_value ks)
return_value_sound b ks = either_sound b s.return_value ks (first_is begins_expr ks) _ _ (λ rest ms x k hk. (_, returned hk x.1))
    (λ rest k hk. (_, returned_unit hk))

pub an_if_sound : (b : List ℕ) (ks : List Tok) → Sound b s.an_if ks (predict s.an_if ks)
an_if_sound b ks = λ rest os t ts y cs x o ho k hk. t k o cs ts x.0 y.0 hk ho x.1 y.1

pub taken_sound : (b : List ℕ) (ks : List Tok) → Sound b s.taken ks (predict s.taken ks)
taken_sound b ks = sees_sound b s.taken ks (word w.Then) _ _ (λ k h rest ms x. (_, taken_then h x.1)) (λ rest ms x. (_, taken_block x.1))

pub otherwise_sound : (b : List ℕ) (ks : List Tok) → Sound b s.otherwise ks (predict s.otherwise ks)
otherwise_sound b ks = sees_sound b s.otherwise ks (word w.Else) _ _ (λ q hq rest ms x k o js ls cs e hk ho r t.
    (_, if_else hk ho r t hq x.1)) (λ rest k o js ls cs e hk ho r t. (_, if_alone hk ho r t))

chain_tail_case : (b : List ℕ) (q : Phrase) (k : Tok) (ks : List Tok) (o : Option Operator) → chain_operator q k.kind ≡ o →
    Sound b (s.chain_tail q) (k ∷ ks) (by_chain_tail q o)
chain_tail_case b q k ks None h = λ rest js e f r. (f, r)
chain_tail_case b q k ks (Some c) h = λ rest ns t ms x js e f r. t js e _ (chain_more r h x.1)

pub chain_tail_sound : (b : List ℕ) (q : Phrase) (ks : List Tok) → Sound b (s.chain_tail q) ks (predict (s.chain_tail q) ks)
chain_tail_sound b q [] = λ rest js e f r. (f, r)
chain_tail_sound b q (k ∷ ks) = chain_tail_case b q k ks (chain_operator q k.kind) refl

comparison_tail_case : (b : List ℕ) (k : Tok) (ks : List Tok) (o : Option Comparison) → comparison_at k.kind ≡ o →
    Sound b s.comparison_tail (k ∷ ks) (by_comparison_tail o)
comparison_tail_case b k ks None h = λ rest js e x. (_, comparison_sum x)
comparison_tail_case b k ks (Some c) h = λ rest ms y js e x. (_, comparison_two x h y.1)

pub comparison_tail_sound : (b : List ℕ) (ks : List Tok) → Sound b s.comparison_tail ks (predict s.comparison_tail ks)
comparison_tail_sound b [] = λ rest js e x. (_, comparison_sum x)
comparison_tail_sound b (k ∷ ks) = comparison_tail_case b k ks (comparison_at k.kind) refl

postfix_tail_case : (b : List ℕ) (k : Tok) (ks : List Tok) (o : Option PostfixStart) → postfix_start k.kind ≡ o →
    Sound b s.postfix_tail (k ∷ ks) (by_postfix_tail o)
postfix_tail_case b k ks None h = λ rest js e f r. (f, r)
postfix_tail_case b k ks (Some postfix.Round) h = λ rest ns t ms x js e f r. t js e _ (postfix_call r h x.1)
postfix_tail_case b k ks (Some postfix.Square) h = λ rest ns t ms x js e f r. t js e _ (postfix_index r h x.1)
postfix_tail_case b k ks (Some postfix.Dot) h = λ rest ns t n hn js e f r. t js e _ (postfix_member r h hn)
postfix_tail_case b k ks (Some postfix.Question) h = λ rest ns t js e f r. t js e _ (postfix_query r h)

pub postfix_tail_sound : (b : List ℕ) (ks : List Tok) → Sound b s.postfix_tail ks (predict s.postfix_tail ks)
postfix_tail_sound b [] = λ rest js e f r. (f, r)
postfix_tail_sound b (k ∷ ks) = postfix_tail_case b k ks (postfix_start k.kind) refl

pub row_tail_sound : (b : List ℕ) (q : Phrase) (sep : TokKind) (ks : List Tok) →
    Sound b (s.row_tail q sep) ks (predict (s.row_tail q sep) ks)
row_tail_sound b q sep ks = sees_sound b (s.row_tail q sep) ks sep _ _ (λ k h rest ns t ms x. tail_more h x.1 t) (λ rest. tail_none)

row_on : {b : List ℕ} {q : Phrase} {sep : TokKind} {ks rest : List Tok} → Tail b q sep ks rest → (js : List Tok) (es : List Tree) →
    Row b q sep js es ks → (fs : List Tree) × Row b q sep js fs rest
row_on tail_none js es r = (es, r)
row_on (tail_more h x t) js es r = row_on t js _ (row_more r h x)

clauses_on : {b : List ℕ} {ks rest : List Tok} → Tail b p.Clause (mark m.Comma) ks rest → (js : List Tok) (es : List Tree) →
    ClauseRow b js es ks → (fs : List Tree) × ClauseRow b js fs rest
clauses_on tail_none js es r = (es, r)
clauses_on (tail_more h x t) js es r = clauses_on t js _ (more_clauses r h x)

pub closed_sound : (b : List ℕ) (q : Phrase) (sep c : TokKind) (ks : List Tok) →
    Sound b (s.closed q sep c) ks (predict (s.closed q sep c) ks)
closed_sound b q sep c ks = λ rest k hk ns t ms x. (_, closed (row_on t ms _ (row_one x.1)).1 hk)

pub until_sound : (b : List ℕ) (q : Phrase) (sep c : TokKind) (ks : List Tok) → Sound b (s.until q sep c) ks (predict (s.until q sep c) ks)
until_sound b q sep c ks = sees_sound b (s.until q sep c) ks c _ _ (λ k h rest. ([], until_none h)) (λ rest ms x. (_, until_some x.1))

pub hole_rest_sound : (b : List ℕ) (ks : List Tok) → Sound b s.hole_rest ks (predict s.hole_rest ks)
hole_rest_sound b ks = sees_sound b s.hole_rest ks (tok.Plain token.TextMid) _ _ (λ k h rest ns t ms x js ls hs e r y.
    t js ms _ x.0 (more_holes r y h) x.1) (λ rest k h js ls hs e r y. (_, last_hole r y h))

pub name_rest_sound : (b : List ℕ) (ks : List Tok) → Sound b s.name_rest ks (predict s.name_rest ks)
name_rest_sound b ks = sees_sound b s.name_rest ks tok.Open _ _ (λ o ho rest ms x k h. (_, instance h ho x.1))
    (λ rest k h. (_, name_alone h))

first_given : {b : List ℕ} {ks rest : List Tok} → IsGiven b ks rest → (gs : List (Bytes × Tree)) × GivenRow b ks gs rest
first_given (is_given n o x) = (_, given_one n o x)

next_given : {b : List ℕ} {k : Tok} {js ks rest : List Tok} {gs : List (Bytes × Tree)} → GivenRow b js gs (k ∷ ks) → k.kind ≡ tok.Sep →
    IsGiven b ks rest → (hs : List (Bytes × Tree)) × GivenRow b js hs rest
next_given r h (is_given n o x) = (_, given_more r h n o x)

pub givens_until_sound : (b : List ℕ) (ks : List Tok) → Sound b s.givens_until ks (predict s.givens_until ks)
givens_until_sound b ks = sees_sound b s.givens_until ks tok.Close _ _ (λ k h rest. ([], no_givens h))
    (λ rest c hc ns t ms x. (_, some_givens (t ms _ (first_given x).1).1 hc))

pub given_sound : (b : List ℕ) (ks : List Tok) → Sound b s.given ks (predict s.given ks)
given_sound b ks = λ rest ms x o ho n hn. is_given hn ho x.1

pub givens_tail_sound : (b : List ℕ) (ks : List Tok) → Sound b s.givens_tail ks (predict s.givens_tail ks)
givens_tail_sound b ks = sees_sound b s.givens_tail ks tok.Sep _ _ (λ k h rest ns t ms x js gs r. t js _ (next_given r h x).1)
    (λ rest js gs r. (gs, r))

pub round_rest_sound : (b : List ℕ) (ks : List Tok) → Sound b s.round_rest ks (predict s.round_rest ks)
round_rest_sound b ks = sees_sound b s.round_rest ks (mark m.Comma) _ _ (λ d hd rest ms x k js e h y. (_, tuple h y hd x.1))
    (λ rest c hc k js e h y. (_, brackets h y hc))

first_pair : {b : List ℕ} {ks rest : List Tok} → IsPair b ks rest → (ps : List (Tree × Tree)) × PairRow b ks ps rest
first_pair (is_pair x o y) = (_, pair_one x o y)

next_pair : {b : List ℕ} {k : Tok} {js ks rest : List Tok} {ps : List (Tree × Tree)} → PairRow b js ps (k ∷ ks) → k.kind ≡ tok.Sep →
    IsPair b ks rest → (qs : List (Tree × Tree)) × PairRow b js qs rest
next_pair r h (is_pair x o y) = (_, pair_more r h x o y)

pub pairs_until_sound : (b : List ℕ) (ks : List Tok) → Sound b s.pairs_until ks (predict s.pairs_until ks)
pairs_until_sound b ks = sees_sound b s.pairs_until ks tok.Close _ _ (λ k h rest. ([], no_pairs h))
    (λ rest c hc ns t ms x. (_, some_pairs (t ms _ (first_pair x).1).1 hc))

pub pair_sound : (b : List ℕ) (ks : List Tok) → Sound b s.pair ks (predict s.pair ks)
pair_sound b ks = λ rest ns y o ho ms x. is_pair x.1 ho y.1

pub pairs_tail_sound : (b : List ℕ) (ks : List Tok) → Sound b s.pairs_tail ks (predict s.pairs_tail ks)
pairs_tail_sound b ks = sees_sound b s.pairs_tail ks tok.Sep _ _ (λ k h rest ns t ms x js ps r. t js _ (next_pair r h x).1)
    (λ rest js ps r. (ps, r))

pub clauses_sound : (b : List ℕ) (ks : List Tok) → Sound b s.clauses ks (predict s.clauses ks)
clauses_sound b ks = λ rest c hc ns t ms x. (_, clauses (clauses_on t ms _ (first_generator x.1)).1 hc)

pub case_rest_sound : (b : List ℕ) (ks : List Tok) → Sound b s.case_rest ks (predict s.case_rest ks)
case_rest_sound b ks = λ rest ms y q hq c hc ns x o ho k h. (_, cases h ho x.1 hc hq y.1)

duration_case : (b : List ℕ) (k : Tok) (ks : List Tok) (o : Option Duration) → duration_at k.kind ≡ o →
    Sound b s.duration (k ∷ ks) (by_duration o)
duration_case b k ks None h = tt
duration_case b k ks (Some c) h = λ rest. one_tok c h

pub duration_sound : (b : List ℕ) (ks : List Tok) → Sound b s.duration ks (predict s.duration ks)
duration_sound b [] = tt
duration_sound b (k ∷ ks) = duration_case b k ks (duration_at k.kind) refl

pub generator_rest_sound : (b : List ℕ) (ks : List Tok) → Sound b s.generator_rest ks (predict s.generator_rest ks)
generator_rest_sound b ks = sees_sound b s.generator_rest ks (mark m.Colon) _ _ (λ o ho rest ms x k hk. (_, elements hk ho x.1))
    (sees_sound b s.generator_rest ks (mark m.Arrow) _ _ (λ o ho rest ms x k hk. x k o hk ho)
    (sees_sound b s.generator_rest ks (mark m.Define) _ _ (λ o ho rest ns y d hd ms x k hk. (_, range hk ho x.1 hd y.1)) tt))

pub entries_rest_sound : (b : List ℕ) (ks : List Tok) → Sound b s.entries_rest ks (predict s.entries_rest ks)
entries_rest_sound b ks = λ rest ms x q hq v hv k o hk ho. (_, entries hk ho hv hq x.1)

pub clause_name_sound : (b : List ℕ) (ks : List Tok) → Sound b s.clause_name ks (predict s.clause_name ks)
clause_name_sound b ks = sees_sound b s.clause_name ks (mark m.Colon) _ _
    (λ o ho rest ms x k hk. (_, clause_generator (elements hk ho x.1)))
    (sees_sound b s.clause_name ks (mark m.Arrow) _ _ (λ o ho rest ms x k hk. (_, clause_generator (x k o hk ho).1))
    (sees_sound b s.clause_name ks (mark m.Define) _ _ (λ o ho rest ms x k hk. x k o hk ho)
    (λ rest os cor us cand ts cmp ns csum ms cprod ls post is nm k hk.
    (_, clause_expr (expr_or (sum_or (name_sum nm post cprod csum k hk).1 cmp cand cor).1)))))

pub clause_value_sound : (b : List ℕ) (ks : List Tok) → Sound b s.clause_value ks (predict s.clause_value ks)
clause_value_sound b ks = either_sound b s.clause_value ks (sees (word w.If) ks) _ _
    (λ rest ms x k o hk ho. (_, clause_definition hk ho (expr_if x.1)))
    (either_sound b s.clause_value ks (sees (word w.Not) ks) _ _ (λ rest ms x k o hk ho. (_, clause_definition hk ho (expr_or x.1)))
    (λ rest ns t ms x k o hk ho. t k o ms x.0 hk ho x.1))

pub range_rest_sound : (b : List ℕ) (ks : List Tok) → Sound b s.range_rest ks (predict s.range_rest ks)
range_rest_sound b ks = sees_sound b s.range_rest ks (mark m.DotDot) _ _
    (λ d hd rest ms y k o js e hk ho x. (_, clause_generator (range hk ho x hd y.1))) (λ rest os cor us cand cs cmp k o js e hk ho x.
    (_, clause_definition hk ho (expr_or (sum_or x cmp cand cor).1)))

an_int_case : (b : List ℕ) (k : Tok) (ks : List Tok) (o : Option ℤ) → int_at k.kind ≡ o → Sound b s.an_int (k ∷ ks) (by_an_int o)
an_int_case b k ks None h = tt
an_int_case b k ks (Some n) h = λ rest. one_tok n h

pub an_int_sound : (b : List ℕ) (ks : List Tok) → Sound b s.an_int ks (predict s.an_int ks)
an_int_sound b [] = tt
an_int_sound b (k ∷ ks) = an_int_case b k ks (int_at k.kind) refl

pub read_block : (b : List ℕ) → Readable b (s.phrase p.Block)
read_block b = λ rest. (a_tok tok.Open ∷ a_tok tok.Close ∷ rest, (_, block refl (until_none refl)))

pub read_part : (b : List ℕ) → Readable b (s.phrase p.Part)
read_part b = λ rest. (a_tok name ∷ rest, (_, part_stmt (stmt_expr (expr_of (name_alone refl)))))

pub read_stmt : (b : List ℕ) → Readable b (s.phrase p.Stmt)
read_stmt b = λ rest. (a_tok name ∷ rest, (_, stmt_expr (expr_of (name_alone refl))))

pub read_body : (b : List ℕ) → Readable b (s.phrase p.Body)
read_body b = λ rest. (a_tok name ∷ rest, (_, body_expr (expr_of (name_alone refl))))

pub read_expr : (b : List ℕ) → Readable b (s.phrase p.Expr)
read_expr b = λ rest. (a_tok name ∷ rest, (_, expr_of (name_alone refl)))

pub read_or : (b : List ℕ) → Readable b (s.phrase p.Or)
read_or b = λ rest. (a_tok name ∷ rest, (_, or_of (sum_of (name_alone refl))))

pub read_and : (b : List ℕ) → Readable b (s.phrase p.And)
read_and b = λ rest. (a_tok name ∷ rest, (_, and_chain (not_of (sum_of (name_alone refl))) chain_none))

pub read_not : (b : List ℕ) → Readable b (s.phrase p.Not)
read_not b = λ rest. (a_tok name ∷ rest, (_, not_of (sum_of (name_alone refl))))

pub read_comparison : (b : List ℕ) → Readable b (s.phrase p.Comparison)
read_comparison b = λ rest. (a_tok name ∷ rest, (_, comparison_sum (sum_of (name_alone refl))))

pub read_sum : (b : List ℕ) → Readable b (s.phrase p.Sum)
read_sum b = λ rest. (a_tok name ∷ rest, (_, sum_of (name_alone refl)))

pub read_product : (b : List ℕ) → Readable b (s.phrase p.Product)
read_product b = λ rest. (a_tok name ∷ rest, (_, product_chain (minus_of (name_alone refl)) chain_none))

pub read_minus : (b : List ℕ) → Readable b (s.phrase p.Minus)
read_minus b = λ rest. (a_tok name ∷ rest, (_, minus_of (name_alone refl)))

pub read_postfix : (b : List ℕ) → Readable b (s.phrase p.Postfix)
read_postfix b = λ rest. (a_tok name ∷ rest, (_, postfix_chain (name_alone refl) postfix_none))

pub read_primary : (b : List ℕ) → Readable b (s.phrase p.Primary)
read_primary b = λ rest. (a_tok name ∷ rest, (_, name_alone refl))

pub read_generator : (b : List ℕ) → Readable b (s.phrase p.Generator)
read_generator b = λ rest. (a_tok name ∷ a_tok (mark m.Colon) ∷ a_tok name ∷ rest, (_, elements refl refl (sum_of (name_alone refl))))

pub read_clause : (b : List ℕ) → Readable b (s.phrase p.Clause)
read_clause b = λ rest. (a_tok name ∷ rest, (_, clause_expr (expr_of (name_alone refl))))

pub read_arm : (b : List ℕ) → Readable b (s.phrase p.Arm)
read_arm b = λ rest. (
  a_tok (word w.Wild) ∷ a_tok (mark m.FatArrow) ∷ a_tok name ∷ rest,
  (_, arm (any_pattern refl) refl (body_expr (expr_of (name_alone refl)))),
)

pub read_pattern : (b : List ℕ) → Readable b (s.phrase p.Pattern)
read_pattern b = λ rest. (a_tok (word w.Wild) ∷ rest, (_, any_pattern refl))

pub read_phrase : (b : List ℕ) (q : Phrase) → Readable b (s.phrase q)
read_phrase b p.Block = read_block b
read_phrase b p.Part = read_part b
read_phrase b p.Stmt = read_stmt b
read_phrase b p.Body = read_body b
read_phrase b p.Expr = read_expr b
read_phrase b p.Or = read_or b
read_phrase b p.And = read_and b
read_phrase b p.Not = read_not b
read_phrase b p.Comparison = read_comparison b
read_phrase b p.Sum = read_sum b
read_phrase b p.Product = read_product b
read_phrase b p.Minus = read_minus b
read_phrase b p.Postfix = read_postfix b
read_phrase b p.Primary = read_primary b
read_phrase b p.Generator = read_generator b
read_phrase b p.Clause = read_clause b
read_phrase b p.Arm = read_arm b
read_phrase b p.Pattern = read_pattern b

pub read_stmt_name : (b : List ℕ) → Readable b s.stmt_name
read_stmt_name b = λ rest. (a_tok (mark m.Define) ∷ a_tok name ∷ rest, λ k hk. (_, stmt_definition hk refl (expr_of (name_alone refl))))

pub read_typed_value : (b : List ℕ) → Readable b s.typed_value
read_typed_value b = λ rest. (
  a_tok (mark m.Colon) ∷ a_tok name ∷ a_tok (mark m.Equals) ∷ a_tok name ∷ rest,
  (_, _, typed_value refl (type_name refl) refl (expr_of (name_alone refl))),
)

pub read_set_rest : (b : List ℕ) → Readable b s.set_rest
read_set_rest b = λ rest. (
  a_tok name ∷ a_tok (mark m.Equals) ∷ a_tok name ∷ rest,
  λ k hk.
      (_, assignment hk (postfix_chain (name_alone refl) postfix_none) refl (expr_of (name_alone refl))),
)

pub read_assign : (b : List ℕ) → Readable b s.assign
read_assign b = λ rest. (a_tok (mark m.Equals) ∷ rest, one_tok assign.Set refl)

pub read_return_value : (b : List ℕ) → Readable b s.return_value
read_return_value b = λ rest. (rest, λ k hk. (_, returned_unit hk))

pub read_an_if : (b : List ℕ) → Readable b s.an_if
read_an_if b = λ rest. (
  a_tok (word w.If) ∷ a_tok (mark m.RoundOpen) ∷ a_tok name ∷ a_tok (mark m.RoundClose) ∷ a_tok
      (word w.Then) ∷ a_tok name ∷ rest,
  (
    _,
    if_alone refl refl (closed (row_one (stmt_expr (expr_of (name_alone refl)))) refl)
        (taken_then refl (or_of (sum_of (name_alone refl)))),
  ),
)

pub read_taken : (b : List ℕ) → Readable b s.taken
read_taken b = λ rest. (a_tok (word w.Then) ∷ a_tok name ∷ rest, (_, taken_then refl (or_of (sum_of (name_alone refl)))))

pub read_otherwise : (b : List ℕ) → Readable b s.otherwise
read_otherwise b = λ rest. (rest, λ k o js ls cs e hk ho r t. (_, if_alone hk ho r t))

pub read_chain_tail : (b : List ℕ) (q : Phrase) → Readable b (s.chain_tail q)
read_chain_tail b q = λ rest. (rest, λ js e f r. (f, r))

pub read_comparison_tail : (b : List ℕ) → Readable b s.comparison_tail
read_comparison_tail b = λ rest. (rest, λ js e x. (_, comparison_sum x))

pub read_postfix_tail : (b : List ℕ) → Readable b s.postfix_tail
read_postfix_tail b = λ rest. (rest, λ js e f r. (f, r))

pub read_row_tail : (b : List ℕ) (q : Phrase) (sep : TokKind) → Readable b (s.row_tail q sep)
read_row_tail b q sep = λ rest. (rest, tail_none)

pub read_closed : (b : List ℕ) (q : Phrase) (sep c : TokKind) → Readable b (s.closed q sep c)
read_closed b q sep c = λ rest. let x = read_phrase b q (a_tok c ∷ rest) in (x.0, (_, closed (row_one x.1.1) refl))

pub read_until : (b : List ℕ) (q : Phrase) (sep c : TokKind) → Readable b (s.until q sep c)
read_until b q sep c = λ rest. (a_tok c ∷ rest, ([], until_none refl))

pub read_hole_rest : (b : List ℕ) → Readable b s.hole_rest
read_hole_rest b = λ rest. (a_tok (tok.Plain token.TextClose) ∷ rest, λ js ls hs e r y. (_, last_hole r y refl))

pub read_name_rest : (b : List ℕ) → Readable b s.name_rest
read_name_rest b = λ rest. (rest, λ k h. (_, name_alone h))

pub read_givens_until : (b : List ℕ) → Readable b s.givens_until
read_givens_until b = λ rest. (a_tok tok.Close ∷ rest, ([], no_givens refl))

pub read_given : (b : List ℕ) → Readable b s.given
read_given b = λ rest. (a_tok name ∷ a_tok (mark m.Define) ∷ a_tok name ∷ rest, is_given refl refl (expr_of (name_alone refl)))

pub read_givens_tail : (b : List ℕ) → Readable b s.givens_tail
read_givens_tail b = λ rest. (rest, λ js gs r. (gs, r))

pub read_round_rest : (b : List ℕ) → Readable b s.round_rest
read_round_rest b = λ rest. (a_tok (mark m.RoundClose) ∷ rest, λ k js e h y. (_, brackets h y refl))

pub read_pairs_until : (b : List ℕ) → Readable b s.pairs_until
read_pairs_until b = λ rest. (a_tok tok.Close ∷ rest, ([], no_pairs refl))

pub read_pair : (b : List ℕ) → Readable b s.pair
read_pair b = λ rest. (
  a_tok name ∷ a_tok (mark m.FatArrow) ∷ a_tok name ∷ rest,
  is_pair (expr_of (name_alone refl)) refl (expr_of (name_alone refl)),
)

pub read_pairs_tail : (b : List ℕ) → Readable b s.pairs_tail
read_pairs_tail b = λ rest. (rest, λ js ps r. (ps, r))

pub read_clauses : (b : List ℕ) → Readable b s.clauses
read_clauses b = λ rest. (
  a_tok name ∷ a_tok (mark m.Colon) ∷ a_tok name ∷ a_tok (mark m.RoundClose) ∷ rest,
  (_, clauses (first_generator (elements refl refl (sum_of (name_alone refl)))) refl),
)

pub read_case_rest : (b : List ℕ) → Readable b s.case_rest
read_case_rest b = λ rest. (
  a_tok (mark m.RoundOpen) ∷ a_tok name ∷ a_tok (mark m.RoundClose) ∷ a_tok tok.Open ∷ a_tok (word w.Wild) ∷ a_tok
      (mark m.FatArrow) ∷ a_tok name ∷ a_tok tok.Close ∷ rest,
  λ k h. (
    _,
    cases h refl (expr_of (name_alone refl)) refl refl
        (closed (row_one (arm (any_pattern refl) refl (body_expr (expr_of (name_alone refl))))) refl),
  ),
)

pub read_duration : (b : List ℕ) → Readable b s.duration
read_duration b = λ rest. (a_tok (word w.Inf) ∷ rest, one_tok duration.Forever refl)

pub read_generator_rest : (b : List ℕ) → Readable b s.generator_rest
read_generator_rest b = λ rest. (a_tok (mark m.Colon) ∷ a_tok name ∷ rest, λ k hk. (_, elements hk refl (sum_of (name_alone refl))))

pub read_entries_rest : (b : List ℕ) → Readable b s.entries_rest
read_entries_rest b = λ rest. (
  a_tok name ∷ a_tok (mark m.Colon) ∷ a_tok name ∷ rest,
  λ k o hk ho.
      (_, entries hk ho refl refl (sum_of (name_alone refl))),
)

pub read_clause_name : (b : List ℕ) → Readable b s.clause_name
read_clause_name b = λ rest. (
  a_tok (mark m.Colon) ∷ a_tok name ∷ rest,
  λ k hk.
      (_, clause_generator (elements hk refl (sum_of (name_alone refl)))),
)

pub read_clause_value : (b : List ℕ) → Readable b s.clause_value
read_clause_value b = λ rest. (a_tok name ∷ rest, λ k o hk ho. (_, clause_definition hk ho (expr_of (name_alone refl))))

pub read_range_rest : (b : List ℕ) → Readable b s.range_rest
read_range_rest b = λ rest. (rest, λ k o js e hk ho x. (_, clause_definition hk ho (expr_or (or_of x))))

pub read_an_int : (b : List ℕ) → Readable b s.an_int
read_an_int b = λ rest. (a_tok (tok.Plain (token.Int (pos 0))) ∷ rest, one_tok (pos 0) refl)
