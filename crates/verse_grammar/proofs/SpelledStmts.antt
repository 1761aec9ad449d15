-- What statements, clauses and arms read, with their values.
use Rattle.std.proofs.Common.{◌≡◌, ◌≢◌, ℕ, ◌≤◌, true, false, List, [], ◌∷◌, Option, Some, None, refl, sym, ap, subst, arith, ◌∙◌, ◌⊎◌, inl}
use Rattle.std.proofs.Common.{inr}
use Rattle.verse_lex.specs.declared.tokens.Word.TheVariants as w
use Rattle.verse_lex.specs.declared.tokens.Mark.TheVariants as m
use Rattle.verse_layout.specs.declared.toks.TokKind.{TokKind}
use Rattle.verse_layout.specs.declared.toks.TokKind.TheVariants as tok
use Rattle.verse_layout.specs.declared.toks.Tok.{Tok}
use Rattle.verse_tree.specs.Tree.{Bytes, Written, Tree, Shape}
use Rattle.verse_tree.specs.Tree as t
use Rattle.verse_tree.specs.declared.exprs.Assign.{Assign}
use Rattle.verse_grammar.specs.Toks.{word, mark, name, name_at, ahead}
use Rattle.verse_grammar.specs.Codes.{sees}
use Rattle.verse_grammar.specs.Starts.{primary_start, stmt_start, assign_at, begins_expr}
use Rattle.verse_grammar.specs.Exprs.{at}
use Rattle.verse_grammar.specs.Follows.{rank, rank_ahead, needs, rise_ahead}
use Rattle.verse_grammar.specs.declared.phrases.Phrase.{Phrase}
use Rattle.verse_grammar.specs.declared.phrases.Phrase.TheVariants as p
use Rattle.verse_grammar.specs.declared.starts.PrimaryStart.TheVariants as primary
use Rattle.verse_grammar.specs.declared.starts.StmtStart.TheVariants as stmt
use Rattle.verse_grammar.specs.Symbols.{Rule, Symbol, a, rule, predict, takes, becomes, first_is, a_type, stmt_name, typed_value, set_rest}
use Rattle.verse_grammar.specs.Symbols.{assign, return_value, an_if, comparison_tail, postfix_tail, name_rest, generator_rest, entries_rest}
use Rattle.verse_grammar.specs.Symbols.{clause_name, clause_value, range_rest, phrase, chain_tail}
use Rattle.verse_grammar.proofs.Sights.{unseen}
use Rattle.verse_grammar.proofs.SpelledRanks.{no_postfix, no_chain, no_comparison, no_expr, an_expr, not_below, not_above, a_name_or}
use Rattle.verse_grammar.specs.Reading.{Eats, EatsRule, eats_none, eats_rule}
use Rattle.verse_grammar.proofs.ByExpr.{by_sight, from_name, from_comparison, became, named_expr}
use Rattle.verse_grammar.proofs.SpelledLevels.{seen_first}
use Rattle.verse_grammar.proofs.SpelledTypes.{revalued}
use Rattle.verse_grammar.proofs.SpelledValues.{Val, v_type, v_typed, v_tree, v_shape, v_named, v_clause, by_name, act_takes, act_becomes}
use Rattle.verse_grammar.proofs.SpelledValues.{as_tree, as_after, as_named, Gives, GivesAll, gives_eats, gives_none, gives_tok, gives_rule}
use Rattle.verse_grammar.proofs.SpelledValues.{gives_takes, gives_becomes}

-- inversions
record One (b : List ℕ) (q : Rule) (ks : List Tok) (f : Val → Val) (v : Val) (rest : List Tok) : Type 0 where
  part : Val
  gives : Gives b q ks part rest
  same : f part ≡ v

record Two (b : List ℕ) (q s : Rule) (ks : List Tok) (f : Val → Val → Val) (v : Val) (rest : List Tok) : Type 0 where
  first : Val
  second : Val
  mid : List Tok
  gives_first : Gives b q ks first mid
  gives_second : Gives b s mid second rest
  same : f first second ≡ v

one_of : {b : List ℕ} {q : Rule} {ks rest : List Tok} {vs : List Val} {v : Val} (f : List Val → Val) → GivesAll b (rule q ∷ []) ks vs rest →
    f vs ≡ v → One b q ks (λ x. f (x ∷ [])) v rest
one_of f (gives_rule {v = x} g gives_none) h = record { part = x; gives = g; same = h }

two_of : {b : List ℕ} {q s : Rule} {ks rest : List Tok} {vs : List Val} {v : Val} (f : List Val → Val) →
    GivesAll b (rule q ∷ rule s ∷ []) ks vs rest → f vs ≡ v → Two b q s ks (λ x y. f (x ∷ y ∷ [])) v rest
two_of f (gives_rule {ls = mid} {v = x} g (gives_rule {v = y} k gives_none)) h =
    record { first = x; second = y; mid = mid; gives_first = g; gives_second = k; same = h }

became_one : {b : List ℕ} {r : Rule} (q : Rule) {ks rest : List Tok} {v : Val} → Gives b r ks v rest →
    predict r ks ≡ becomes (rule q ∷ []) → One b q ks (λ x. act_becomes b r ks (x ∷ [])) v rest
became_one q (gives_takes h g e) i = absurd (cc)
became_one {b = b} {r = r} q {ks = ks} {rest = rest} (gives_becomes {Ys = Ys} {vs = vs} h g e) i =
    let s : Ys ≡ rule q ∷ [] = cc in one_of (act_becomes b r ks) (subst (λ (Xs : List Symbol). GivesAll b Xs ks vs rest) s g) e

became_two : {b : List ℕ} {r : Rule} (q s : Rule) {ks rest : List Tok} {v : Val} → Gives b r ks v rest →
    predict r ks ≡ becomes (rule q ∷ rule s ∷ []) → Two b q s ks (λ x y. act_becomes b r ks (x ∷ y ∷ [])) v rest
became_two q s (gives_takes h g e) i = absurd (cc)
became_two {b = b} {r = r} q s {ks = ks} {rest = rest} (gives_becomes {Ys = Ys} {vs = vs} h g e) i =
    let u : Ys ≡ rule q ∷ rule s ∷ [] = cc in two_of (act_becomes b r ks) (subst (λ (Xs : List Symbol). GivesAll b Xs ks vs rest) u g) e

took_one : {b : List ℕ} {r : Rule} (q : Rule) {k : Tok} {ks rest : List Tok} {v : Val} → Gives b r (k ∷ ks) v rest →
    predict r (k ∷ ks) ≡ takes (rule q ∷ []) → One b q ks (λ x. act_takes b r k (x ∷ [])) v rest
took_one q (gives_becomes h g e) i = absurd (cc)
took_one {b = b} {r = r} q {k = k} {ks = ks} {rest = rest} (gives_takes {Ys = Ys} {vs = vs} h g e) i =
    let s : Ys ≡ rule q ∷ [] = cc in one_of (act_takes b r k) (subst (λ (Xs : List Symbol). GivesAll b Xs ks vs rest) s g) e

-- a tree, and what is made of it from the left
abbrev folded : List Val → Tree → Tree
folded [] e = e
folded (c ∷ cs) e = folded cs (as_after c e)

-- what a rule reads, down to the rule with which it begins: these symbols stand behind that
record Falls (b : List ℕ) (q : Rule) (ks : List Tok) (Xs : List Symbol) (v : Val) (rest : List Tok) : Type 0 where
  first : Val
  others : List Val
  mid : List Tok
  gives_first : Gives b q ks first mid
  gives_others : GivesAll b Xs mid others rest
  same : folded others (as_tree first) ≡ as_tree v

falls_here : {b : List ℕ} {q : Rule} {ks rest : List Tok} {v : Val} → Gives b q ks v rest → Falls b q ks [] v rest
falls_here {rest = rest} {v = v} g = record { first = v; others = []; mid = rest; gives_first = g; gives_others = gives_none; same = refl }

falls_one : {b : List ℕ} {r : Rule} (q : Rule) {ks rest : List Tok} {Xs : List Symbol} {v : Val} → Falls b r ks Xs v rest →
    predict r ks ≡ becomes (rule q ∷ []) → ((x : Val) → as_tree (act_becomes b r ks (x ∷ [])) ≡ as_tree x) →
    Falls b q ks Xs v rest
falls_one q f h e =
    let d = became_one q f.gives_first h in
    record {
      first = d.part;
      others = f.others;
      mid = f.mid;
      gives_first = d.gives;
      gives_others = f.gives_others;
      same =
          ap (folded f.others) (sym (e d.part) ∙ ap as_tree d.same) ∙ f.same;
    }

falls_two : {b : List ℕ} {r : Rule} (q s : Rule) {ks rest : List Tok} {Xs : List Symbol} {v : Val} → Falls b r ks Xs v rest →
    predict r ks ≡ becomes (rule q ∷ rule s ∷ []) →
    ((x y : Val) → as_tree (act_becomes b r ks (x ∷ y ∷ [])) ≡ as_after y (as_tree x)) → Falls b q ks (rule s ∷ Xs) v rest
falls_two q s f h e =
    let d = became_two q s f.gives_first h in
    record {
      first = d.first;
      others = d.second ∷ f.others;
      mid = d.mid;
      gives_first = d.gives_first;
      gives_others = gives_rule d.gives_second f.gives_others;
      same = ap (folded f.others) (sym (e d.first d.second) ∙ ap as_tree d.same) ∙ f.same;
    }

-- from the first sum on
falls_to_sum : {b : List ℕ} {ks rest : List Tok} {v : Val} → sees (word w.Not) ks ≡ false → Falls b (phrase p.Or) ks [] v rest →
    Falls b (phrase p.Sum) ks from_comparison v rest
falls_to_sum n f =
    falls_two (phrase p.Sum) comparison_tail
    (falls_one (phrase p.Comparison)
    (falls_two (phrase p.Not) (chain_tail p.And) (falls_two (phrase p.And) (chain_tail p.Or) f refl (λ x y. refl)) refl (λ x y. refl))
    (rw n refl) (λ x. refl))
    refl (λ x y. refl)

-- an expression from its first sum on
record FromSum (b : List ℕ) (ks : List Tok) (v : Val) (rest : List Tok) : Type 0 where
  sum : Val
  c1 : Val
  c2 : Val
  c3 : Val
  m1 : List Tok
  m2 : List Tok
  m3 : List Tok
  gives_sum : Gives b (phrase p.Sum) ks sum m1
  gives1 : Gives b comparison_tail m1 c1 m2
  gives2 : Gives b (chain_tail p.And) m2 c2 m3
  gives3 : Gives b (chain_tail p.Or) m3 c3 rest
  same : as_after c3 (as_after c2 (as_after c1 (as_tree sum))) ≡ as_tree v

sum_parts : {b : List ℕ} {ks m1 rest : List Tok} {x v : Val} {cs : List Val} → Gives b (phrase p.Sum) ks x m1 →
    GivesAll b from_comparison m1 cs rest → folded cs (as_tree x) ≡ as_tree v → FromSum b ks v rest
sum_parts {m1 = m1} {x = x} g (gives_rule {ls = m2} {v = c1} r1 (gives_rule {ls = m3} {v = c2} r2 (gives_rule {v = c3} r3 gives_none))) h =
    record { sum = x; c1 = c1; c2 = c2; c3 = c3; m1 = m1; m2 = m2; m3 = m3; gives_sum = g; gives1 = r1; gives2 = r2; gives3 = r3; same = h }

from_the_sum : {b : List ℕ} {ks rest : List Tok} {v : Val} → sees (word w.Not) ks ≡ false → Gives b (phrase p.Or) ks v rest →
    FromSum b ks v rest
from_the_sum n g = let f = falls_to_sum n (falls_here g) in sum_parts f.gives_first f.gives_others f.same

-- an expression from the tok behind the name with which it begins
record FromName (b : List ℕ) (k : Tok) (ks : List Tok) (v : Val) (rest : List Tok) : Type 0 where
  values : List Val
  gives : GivesAll b from_name ks values rest
  same : by_name values k ≡ as_tree v

name_act : (b : List ℕ) (k : Tok) (x v : Val) → primary_start k.kind ≡ Some primary.Name → act_takes b (phrase p.Primary) k (x ∷ []) ≡ v →
    as_named x k ≡ as_tree v
name_act b k x v h e = ap as_tree (rw h at e)

stmt_act : (b : List ℕ) (k : Tok) (f : Tok → Tree) (e : Tree) → stmt_start k.kind ≡ Some stmt.Name → f k ≡ e →
    act_takes b (phrase p.Stmt) k (v_named f ∷ []) ≡ v_tree e
stmt_act b k f e h q = rw h (ap v_tree q)

clause_act : (b : List ℕ) (k : Tok) (f : Tok → Tree) (e : Tree) → stmt_start k.kind ≡ Some stmt.Name → f k ≡ e →
    act_takes b (phrase p.Clause) k (v_named f ∷ []) ≡ v_tree e
clause_act b k f e h q = rw h (ap v_tree q)

falls_to_primary : {b : List ℕ} {k : Tok} {ks rest : List Tok} {v : Val} → k.kind ≡ name → Falls b (phrase p.Or) (k ∷ ks) [] v rest →
    Falls b (phrase p.Primary) (k ∷ ks) (rule postfix_tail ∷ rule (chain_tail p.Product) ∷ rule (chain_tail p.Sum) ∷ from_comparison) v rest
falls_to_primary h f =
    falls_two (phrase p.Primary) postfix_tail
    (falls_one (phrase p.Postfix)
    (falls_two (phrase p.Minus) (chain_tail p.Product)
    (falls_two (phrase p.Product) (chain_tail p.Sum) (falls_to_sum (rw h refl) f) refl (λ x y. refl)) refl (λ x y. refl))
    (rw h refl) (λ x. refl))
    refl (λ x y. refl)

name_folded : {b : List ℕ} {mid rest : List Tok} {cs : List Val} (n : Val) (k : Tok) →
    GivesAll b (rule postfix_tail ∷ rule (chain_tail p.Product) ∷ rule (chain_tail p.Sum) ∷ from_comparison) mid cs rest →
    by_name (n ∷ cs) k ≡ folded cs (as_named n k)
name_folded n k (gives_rule r1 (gives_rule r2 (gives_rule r3 (gives_rule r4 (gives_rule r5 (gives_rule r6 gives_none)))))) = refl

name_parts : {b : List ℕ} {k : Tok} {ks rest : List Tok} {v : Val} → k.kind ≡ name →
    Falls b (phrase p.Primary) (k ∷ ks) (rule postfix_tail ∷ rule (chain_tail p.Product) ∷ rule (chain_tail p.Sum) ∷ from_comparison) v
    rest → FromName b k ks v rest
name_parts {b = b} {k = k} h f =
    let d = took_one name_rest f.gives_first (rw h refl) in
    record {
      values = d.part ∷ f.others;
      gives = gives_rule d.gives f.gives_others;
      same = name_folded d.part k f.gives_others ∙ ap (folded f.others) (name_act b k d.part f.first (ap primary_start h) d.same) ∙ f.same;
    }

expr_or : {b : List ℕ} {k : Tok} {ks rest : List Tok} {v : Val} → k.kind ≡ name → Falls b (phrase p.Expr) (k ∷ ks) [] v rest →
    Falls b (phrase p.Or) (k ∷ ks) [] v rest
expr_or h f = falls_one (phrase p.Or) f (rw h refl) (λ x. refl)

from_the_name : {b : List ℕ} {k : Tok} {ks rest : List Tok} {v : Val} → k.kind ≡ name → Gives b (phrase p.Expr) (k ∷ ks) v rest →
    FromName b k ks v rest
from_the_name h g = name_parts h (falls_to_primary h (expr_or h (falls_here g)))

nothing_eaten : {ks ls : List Tok} → Eats [] ks ls → ks ≡ ls
nothing_eaten eats_none = refl

skip : {r : Rule} {ks ls : List Tok} → EatsRule r ks ls → predict r ks ≡ becomes [] → ks ≡ ls
skip e h = nothing_eaten (became e h)

still : {ks ls : List Tok} → 8 ≤ rank_ahead (ahead ks) → ks ≡ ls → 8 ≤ rank_ahead (ahead ls)
still h s = subst (λ (xs : List Tok). 8 ≤ rank_ahead (ahead xs)) s h

stop_name : (ks : List Tok) → 8 ≤ rank_ahead (ahead ks) → predict name_rest ks ≡ becomes []
stop_name ks h = rw (unseen tok.Open ks (not_below 8 (ahead ks) tok.Open h (omega arith))) refl

stop_postfix : (ks : List Tok) → 8 ≤ rank_ahead (ahead ks) → predict postfix_tail ks ≡ becomes []
stop_postfix ks h = rw (no_postfix ks (omega arith)) refl

stop_chain : (q : Phrase) (ks : List Tok) → needs q ≤ 8 → 8 ≤ rank_ahead (ahead ks) → predict (chain_tail q) ks ≡ becomes []
stop_chain q ks l h = rw (no_chain q ks (omega arith)) refl

stop_comparison : (ks : List Tok) → 8 ≤ rank_ahead (ahead ks) → predict comparison_tail ks ≡ becomes []
stop_comparison ks h = rw (no_comparison ks (omega arith)) refl

stopped : {ks rest : List Tok} → 8 ≤ rank_ahead (ahead ks) → Eats from_name ks rest → ks ≡ rest
stopped {ks = ks} h (eats_rule {ls = l1} r1
    (eats_rule {ls = l2} r2 (eats_rule {ls = l3} r3
    (eats_rule {ls = l4} r4 (eats_rule {ls = l5} r5 (eats_rule {ls = l6} r6 (eats_rule {ls = l7} r7 eats_none))))))) =
    let s1 : ks ≡ l1 = skip r1 (stop_name ks h) in
    let h1 : 8 ≤ rank_ahead (ahead l1) = still h s1 in
    let s2 : l1 ≡ l2 = skip r2 (stop_postfix l1 h1) in
    let h2 : 8 ≤ rank_ahead (ahead l2) = still h1 s2 in
    let s3 : l2 ≡ l3 = skip r3 (stop_chain p.Product l2 (omega arith) h2) in
    let h3 : 8 ≤ rank_ahead (ahead l3) = still h2 s3 in
    let s4 : l3 ≡ l4 = skip r4 (stop_chain p.Sum l3 (omega arith) h3) in
    let h4 : 8 ≤ rank_ahead (ahead l4) = still h3 s4 in
    let s5 : l4 ≡ l5 = skip r5 (stop_comparison l4 h4) in
    let h5 : 8 ≤ rank_ahead (ahead l5) = still h4 s5 in
    let s6 : l5 ≡ l6 = skip r6 (stop_chain p.And l5 (omega arith) h5) in
    let h6 : 8 ≤ rank_ahead (ahead l6) = still h5 s6 in
    let s7 : l6 ≡ l7 = skip r7 (stop_chain p.Or l6 (omega arith) h6) in
    s1 ∙ s2 ∙ s3 ∙ s4 ∙ s5 ∙ s6 ∙ s7

-- behind the name with which an expression begins stands no tok of rank 8, if none stands behind the expression
goes_on : {b : List ℕ} {k : Tok} {ks rest : List Tok} {v : Val} → k.kind ≡ name → Gives b (phrase p.Expr) (k ∷ ks) v rest →
    9 ≤ rank_ahead (ahead rest) → (x : TokKind) → rank x ≡ 8 → ahead ks ≢ Some x
goes_on {k = k} {ks = ks} {rest = rest} h g l x i e =
    let j : rank_ahead (ahead ks) ≡ 8 = ap rank_ahead e ∙ i in
    let s : ks ≡ rest = stopped (omega arith) (named_expr k ks rest h (gives_eats g)) in
    let m : rank_ahead (ahead ks) ≡ rank_ahead (ahead rest) = ap (λ xs. rank_ahead (ahead xs)) s in
    absurd (omega arith)

-- statements and clauses that begin with a name and are expressions
stmt_named : {b : List ℕ} {k : Tok} {ks rest : List Tok} {e : Tree} → k.kind ≡ name → 9 ≤ rank_ahead (ahead rest) →
    Gives b (phrase p.Expr) (k ∷ ks) (v_tree e) rest → Gives b (phrase p.Stmt) (k ∷ ks) (v_tree e) rest
stmt_named {b = b} {k = k} {ks = ks} {e = e} h l g =
    let d = from_the_name h g in
    let n = goes_on h g l (mark m.Define) refl in
    let o = goes_on h g l (mark m.Colon) refl in
    gives_takes {r = phrase p.Stmt} {Ys = rule stmt_name ∷ []} (rw h refl)
    (gives_rule (gives_becomes {r = stmt_name} {Ys = from_name} {v = v_named (by_name d.values)}
    (rw (unseen (mark m.Define) ks n, unseen (mark m.Colon) ks o) refl) d.gives (rw (unseen (mark m.Colon) ks o) refl)) gives_none)
    (stmt_act b k (by_name d.values) e (ap stmt_start h) d.same)

clause_named : {b : List ℕ} {k : Tok} {ks rest : List Tok} {e : Tree} → k.kind ≡ name → 9 ≤ rank_ahead (ahead rest) →
    Gives b (phrase p.Expr) (k ∷ ks) (v_tree e) rest → Gives b (phrase p.Clause) (k ∷ ks) (v_tree e) rest
clause_named {b = b} {k = k} {ks = ks} {e = e} h l g =
    let d = from_the_name h g in
    let n = goes_on h g l (mark m.Define) refl in
    let o = goes_on h g l (mark m.Colon) refl in
    let i = goes_on h g l (mark m.Arrow) refl in
    gives_takes {r = phrase p.Clause} {Ys = rule clause_name ∷ []} (rw h refl)
    (gives_rule (gives_becomes {r = clause_name} {Ys = from_name} {v = v_named (by_name d.values)}
    (rw (unseen (mark m.Define) ks n, unseen (mark m.Colon) ks o, unseen (mark m.Arrow) ks i) refl) d.gives refl) gives_none)
    (clause_act b k (by_name d.values) e (ap stmt_start h) d.same)

both_expr : {b : List ℕ} (k : Tok) {ks rest : List Tok} {e : Tree} → (k.kind ≡ name) ⊎ (stmt_start k.kind ≡ None) →
    9 ≤ rank_ahead (ahead rest) → Gives b (phrase p.Expr) (k ∷ ks) (v_tree e) rest →
    (Gives b (phrase p.Stmt) (k ∷ ks) (v_tree e) rest) × (Gives b (phrase p.Clause) (k ∷ ks) (v_tree e) rest)
both_expr k (inl h) l g = (stmt_named h l g, clause_named h l g)
both_expr k (inr h) l g = (
  gives_becomes {r = phrase p.Stmt} {Ys = rule (phrase p.Expr) ∷ []} (rw h refl) (gives_rule g gives_none) refl,
  gives_becomes {r = phrase p.Clause} {Ys = rule (phrase p.Expr) ∷ []} (rw h refl) (gives_rule g gives_none) refl,
)

-- an expression is a statement and a clause
pub case_expr : {b : List ℕ} {ks rest : List Tok} {e : Tree} → rise_ahead (ahead ks) ≤ 3 → 9 ≤ rank_ahead (ahead rest) →
    Gives b (phrase p.Expr) ks (v_tree e) rest →
    (Gives b (phrase p.Stmt) ks (v_tree e) rest) × (Gives b (phrase p.Clause) ks (v_tree e) rest)
case_expr {ks = []} o l g = absurd (omega arith)
case_expr {ks = k ∷ ks} o l g = both_expr k (a_name_or k.kind o) l g

pub case_stmt_definition : {b : List ℕ} {k o : Tok} {ks rest : List Tok} {e : Tree} → k.kind ≡ name → o.kind ≡ mark m.Define →
    Gives b (phrase p.Expr) ks (v_tree e) rest →
    Gives b (phrase p.Stmt) (k ∷ o ∷ ks) (v_tree (at k (t.Shape.definition (name_at b k) e))) rest
case_stmt_definition h ho d = gives_takes {r = phrase p.Stmt} {Ys = rule stmt_name ∷ []} (rw h refl)
    (gives_rule (gives_takes {r = stmt_name} {Ys = rule (phrase p.Expr) ∷ []} (rw ho refl) (gives_rule d gives_none) refl) gives_none)
    (rw h refl)

pub case_typed_value : {b : List ℕ} {o q : Tok} {ks ls rest : List Tok} {u : Written} {e : Tree} → o.kind ≡ mark m.Colon →
    Gives b a_type ks (v_type u) (q ∷ ls) → q.kind ≡ mark m.Equals → Gives b (phrase p.Expr) ls (v_tree e) rest →
    Gives b typed_value (o ∷ ks) (v_typed u e) rest
case_typed_value ho d hq g = gives_becomes {r = typed_value}
    {Ys = a (mark m.Colon) ∷ rule a_type ∷ a (mark m.Equals) ∷ rule (phrase p.Expr) ∷ []} refl
    (gives_tok ho (gives_rule d (gives_tok hq (gives_rule g gives_none)))) refl

not_define : {x : Option TokKind} → x ≡ Some (mark m.Colon) → x ≡ Some (mark m.Define) → ⊥
not_define h i = absurd (cc)

typed_gives : {b : List ℕ} {ks rest : List Tok} {u : Written} {e : Tree} → sees (mark m.Define) ks ≡ false → sees (mark m.Colon) ks ≡ true →
    Gives b typed_value ks (v_typed u e) rest →
    Gives b stmt_name ks (v_named (λ n. at n (t.Shape.typed (name_at b n) u e))) rest
typed_gives n s d = gives_becomes {r = stmt_name} {Ys = rule typed_value ∷ []} (rw (n, s) refl) (gives_rule d gives_none) (rw s refl)

pub case_stmt_typed : {b : List ℕ} {k : Tok} {ks rest : List Tok} {u : Written} {e : Tree} → k.kind ≡ name →
    ahead ks ≡ Some (mark m.Colon) → Gives b typed_value ks (v_typed u e) rest →
    Gives b (phrase p.Stmt) (k ∷ ks) (v_tree (at k (t.Shape.typed (name_at b k) u e))) rest
case_stmt_typed {ks = ks} h i d = gives_takes {r = phrase p.Stmt} {Ys = rule stmt_name ∷ []} (rw h refl)
    (gives_rule (typed_gives (unseen (mark m.Define) ks (λ j. not_define i j)) (seen_first (mark m.Colon) ks i) d) gives_none) (rw h refl)

pub case_stmt_variable : {b : List ℕ} {k n : Tok} {ks rest : List Tok} {u : Written} {e : Tree} → k.kind ≡ word w.Var → n.kind ≡ name →
    Gives b typed_value ks (v_typed u e) rest →
    Gives b (phrase p.Stmt) (k ∷ n ∷ ks) (v_tree (at k (t.Shape.variable (name_at b n) u e))) rest
case_stmt_variable h hn d = gives_takes {r = phrase p.Stmt} {Ys = a name ∷ rule typed_value ∷ []} (rw h refl)
    (gives_tok hn (gives_rule d gives_none)) (rw h refl)

-- statements that may be clauses too
set_gives : {b : List ℕ} {o : Tok} {ks ls rest : List Tok} {x : Assign} {e f : Tree} → Gives b (phrase p.Postfix) ks (v_tree e) (o ∷ ls) →
    assign_at o.kind ≡ Some x → Gives b (phrase p.Expr) ls (v_tree f) rest →
    Gives b set_rest ks (v_shape (t.Shape.assignment x e f)) rest
set_gives d ho g = gives_becomes {r = set_rest} {Ys = rule (phrase p.Postfix) ∷ rule assign ∷ rule (phrase p.Expr) ∷ []} refl
    (gives_rule d (gives_rule (gives_takes {r = assign} {Ys = []} (rw ho refl) gives_none refl) (gives_rule g gives_none))) (rw ho refl)

returned_gives : {b : List ℕ} {ks rest : List Tok} {e : Tree} → first_is begins_expr ks ≡ true →
    Gives b (phrase p.Expr) ks (v_tree e) rest → Gives b return_value ks (v_shape (t.Shape.returned e)) rest
returned_gives h d = gives_becomes {r = return_value} {Ys = rule (phrase p.Expr) ∷ []} (rw h refl) (gives_rule d gives_none) (rw h refl)

unit_gives : {b : List ℕ} {rest : List Tok} → first_is begins_expr rest ≡ false →
    Gives b return_value rest (v_shape t.Shape.returned_unit) rest
unit_gives h = gives_becomes {r = return_value} {Ys = []} (rw h refl) gives_none (rw h refl)

set_stmt : {b : List ℕ} {k : Tok} {ks rest : List Tok} {s : Shape} → k.kind ≡ word w.Set → Gives b set_rest ks (v_shape s) rest →
    Gives b (phrase p.Stmt) (k ∷ ks) (v_tree (at k s)) rest
set_stmt h d = gives_takes {r = phrase p.Stmt} {Ys = rule set_rest ∷ []} (rw h refl) (gives_rule d gives_none) (rw h refl)

return_stmt : {b : List ℕ} {k : Tok} {ks rest : List Tok} {s : Shape} → k.kind ≡ word w.Return → Gives b return_value ks (v_shape s) rest →
    Gives b (phrase p.Stmt) (k ∷ ks) (v_tree (at k s)) rest
return_stmt h d = gives_takes {r = phrase p.Stmt} {Ys = rule return_value ∷ []} (rw h refl) (gives_rule d gives_none) (rw h refl)

break_stmt : {b : List ℕ} {k : Tok} {rest : List Tok} → k.kind ≡ word w.Break →
    Gives b (phrase p.Stmt) (k ∷ rest) (v_tree (at k t.Shape.break_form)) rest
break_stmt h = gives_takes {r = phrase p.Stmt} {Ys = []} (rw h refl) gives_none (rw h refl)

set_clause : {b : List ℕ} {k : Tok} {ks rest : List Tok} {s : Shape} → k.kind ≡ word w.Set → Gives b set_rest ks (v_shape s) rest →
    Gives b (phrase p.Clause) (k ∷ ks) (v_tree (at k s)) rest
set_clause h d = gives_takes {r = phrase p.Clause} {Ys = rule set_rest ∷ []} (rw h refl) (gives_rule d gives_none) (rw h refl)

return_clause : {b : List ℕ} {k : Tok} {ks rest : List Tok} {s : Shape} → k.kind ≡ word w.Return →
    Gives b return_value ks (v_shape s) rest → Gives b (phrase p.Clause) (k ∷ ks) (v_tree (at k s)) rest
return_clause h d = gives_takes {r = phrase p.Clause} {Ys = rule return_value ∷ []} (rw h refl) (gives_rule d gives_none) (rw h refl)

break_clause : {b : List ℕ} {k : Tok} {rest : List Tok} → k.kind ≡ word w.Break →
    Gives b (phrase p.Clause) (k ∷ rest) (v_tree (at k t.Shape.break_form)) rest
break_clause h = gives_takes {r = phrase p.Clause} {Ys = []} (rw h refl) gives_none (rw h refl)

-- both at once
pub record ControlGives (b : List ℕ) (ks : List Tok) (e : Tree) (rest : List Tok) : Type 0 where
  pub stmt : Gives b (phrase p.Stmt) ks (v_tree e) rest
  pub clause : Gives b (phrase p.Clause) ks (v_tree e) rest

pub case_assignment : {b : List ℕ} {k o : Tok} {ks ls rest : List Tok} {x : Assign} {e f : Tree} → k.kind ≡ word w.Set →
    Gives b (phrase p.Postfix) ks (v_tree e) (o ∷ ls) → assign_at o.kind ≡ Some x → Gives b (phrase p.Expr) ls (v_tree f) rest →
    ControlGives b (k ∷ ks) (at k (t.Shape.assignment x e f)) rest
case_assignment h d ho g = record { stmt = set_stmt h (set_gives d ho g); clause = set_clause h (set_gives d ho g) }

pub case_returned : {b : List ℕ} {k : Tok} {ks rest : List Tok} {e : Tree} → k.kind ≡ word w.Return → rise_ahead (ahead ks) ≤ 3 →
    Gives b (phrase p.Expr) ks (v_tree e) rest → ControlGives b (k ∷ ks) (at k (t.Shape.returned e)) rest
case_returned {ks = ks} h o d = record {
  stmt = return_stmt h (returned_gives (an_expr ks o) d);
  clause =
      return_clause h (returned_gives (an_expr ks o) d);
}

pub case_returned_unit : {b : List ℕ} {k : Tok} {rest : List Tok} → k.kind ≡ word w.Return → 9 ≤ rank_ahead (ahead rest) →
    ControlGives b (k ∷ rest) (at k t.Shape.returned_unit) rest
case_returned_unit {rest = rest} h l = record {
  stmt = return_stmt h (unit_gives (no_expr rest l));
  clause =
      return_clause h (unit_gives (no_expr rest l));
}

pub case_break_form : {b : List ℕ} {k : Tok} {rest : List Tok} → k.kind ≡ word w.Break →
    ControlGives b (k ∷ rest) (at k t.Shape.break_form) rest
case_break_form h = record { stmt = break_stmt h; clause = break_clause h }

-- a generator, as such and as a clause
pub record GeneratorGives (b : List ℕ) (ks : List Tok) (e : Tree) (rest : List Tok) : Type 0 where
  pub generator : Gives b (phrase p.Generator) ks (v_tree e) rest
  pub clause : Gives b (phrase p.Clause) ks (v_tree e) rest

generator_gives : {b : List ℕ} {k : Tok} {ks rest : List Tok} {f : Tok → Tree} {e : Tree} → k.kind ≡ name →
    Gives b generator_rest ks (v_named f) rest → f k ≡ e → Gives b (phrase p.Generator) (k ∷ ks) (v_tree e) rest
generator_gives h d s = gives_becomes {r = phrase p.Generator} {Ys = a name ∷ rule generator_rest ∷ []} refl
    (gives_tok h (gives_rule d gives_none)) (ap v_tree s)

clause_gives : {b : List ℕ} {k : Tok} {ks rest : List Tok} {f : Tok → Tree} {e : Tree} → k.kind ≡ name →
    Gives b clause_name ks (v_named f) rest → f k ≡ e → Gives b (phrase p.Clause) (k ∷ ks) (v_tree e) rest
clause_gives {b = b} {k = k} {f = f} {e = e} h d s =
    gives_takes {r = phrase p.Clause} {Ys = rule clause_name ∷ []} (rw h refl) (gives_rule d gives_none)
    (clause_act b k f e (ap stmt_start h) s)

pub case_elements : {b : List ℕ} {k o : Tok} {ks rest : List Tok} {e : Tree} → k.kind ≡ name → o.kind ≡ mark m.Colon →
    Gives b (phrase p.Sum) ks (v_tree e) rest → GeneratorGives b (k ∷ o ∷ ks) (at k (t.Shape.elements (name_at b k) e)) rest
case_elements {b = b} {e = e} h ho d = record {
  generator = generator_gives {f = λ n. at n (t.Shape.elements (name_at b n) e)} h
      (gives_takes {r = generator_rest} {Ys = rule (phrase p.Sum) ∷ []} (rw ho refl) (gives_rule d gives_none) (rw ho refl)) refl;
  clause = clause_gives {f = λ n. at n (t.Shape.elements (name_at b n) e)} h
      (gives_takes {r = clause_name} {Ys = rule (phrase p.Sum) ∷ []} (rw ho refl) (gives_rule d gives_none) (rw ho refl)) refl;
}

entries_gives : {b : List ℕ} (v : Tok) {q : Tok} {ks rest : List Tok} {e : Tree} → v.kind ≡ name → q.kind ≡ mark m.Colon →
    Gives b (phrase p.Sum) ks (v_tree e) rest →
    Gives b entries_rest (v ∷ q ∷ ks) (v_named (λ n. at n (t.Shape.entries (name_at b n) (name_at b v) e))) rest
entries_gives v hv hq d = gives_becomes {r = entries_rest} {Ys = a name ∷ a (mark m.Colon) ∷ rule (phrase p.Sum) ∷ []} refl
    (gives_tok hv (gives_tok hq (gives_rule d gives_none))) refl

pub case_entries : {b : List ℕ} {k o v q : Tok} {ks rest : List Tok} {e : Tree} → k.kind ≡ name → o.kind ≡ mark m.Arrow → v.kind ≡ name →
    q.kind ≡ mark m.Colon → Gives b (phrase p.Sum) ks (v_tree e) rest →
    GeneratorGives b (k ∷ o ∷ v ∷ q ∷ ks) (at k (t.Shape.entries (name_at b k) (name_at b v) e)) rest
case_entries {b = b} {v = v} {e = e} h ho hv hq d = record {
  generator = generator_gives {f = λ n. at n (t.Shape.entries (name_at b n) (name_at b v) e)} h
      (gives_takes {r = generator_rest} {Ys = rule entries_rest ∷ []} (rw ho refl) (gives_rule (entries_gives v hv hq d) gives_none)
      (rw ho refl)) refl;
  clause = clause_gives {f = λ n. at n (t.Shape.entries (name_at b n) (name_at b v) e)} h
      (gives_takes {r = clause_name} {Ys = rule entries_rest ∷ []} (rw ho refl) (gives_rule (entries_gives v hv hq d) gives_none)
      (rw ho refl)) refl;
}

range_gives : {b : List ℕ} {d : Tok} {ls rest : List Tok} (f : Tree) → d.kind ≡ mark m.DotDot → Gives b (phrase p.Sum) ls (v_tree f) rest →
    Gives b range_rest (d ∷ ls) (v_clause (λ n e. at n (t.Shape.range (name_at b n) e f))) rest
range_gives f hd g = gives_takes {r = range_rest} {Ys = rule (phrase p.Sum) ∷ []} (rw hd refl) (gives_rule g gives_none) refl

value_range : {b : List ℕ} {ks ls rest : List Tok} {x : Val} {f : Tok → Tree → Tree} → sees (word w.If) ks ≡ false →
    sees (word w.Not) ks ≡ false → Gives b (phrase p.Sum) ks x ls → Gives b range_rest ls (v_clause f) rest →
    Gives b clause_value ks (v_named (λ n. f n (as_tree x))) rest
value_range i n d g = gives_becomes {r = clause_value} {Ys = rule (phrase p.Sum) ∷ rule range_rest ∷ []} (rw (i, n) refl)
    (gives_rule d (gives_rule g gives_none)) (rw (i, n) refl)

pub case_range : {b : List ℕ} {k o d : Tok} {ks ls rest : List Tok} {e f : Tree} → k.kind ≡ name → o.kind ≡ mark m.Define →
    rise_ahead (ahead ks) ≤ 1 → Gives b (phrase p.Sum) ks (v_tree e) (d ∷ ls) → d.kind ≡ mark m.DotDot →
    Gives b (phrase p.Sum) ls (v_tree f) rest →
    GeneratorGives b (k ∷ o ∷ ks) (at k (t.Shape.range (name_at b k) e f)) rest
case_range {b = b} {ks = ks} {e = e} {f = f} h ho i d hd g = record {
  generator = generator_gives {f = λ n. at n (t.Shape.range (name_at b n) e f)} h
      (gives_takes {r = generator_rest} {Ys = rule (phrase p.Sum) ∷ a (mark m.DotDot) ∷ rule (phrase p.Sum) ∷ []} (rw ho refl)
      (gives_rule d (gives_tok hd (gives_rule g gives_none))) (rw ho refl)) refl;
  clause = clause_gives {f = λ n. at n (t.Shape.range (name_at b n) e f)} h
      (gives_takes {r = clause_name} {Ys = rule clause_value ∷ []} (rw ho refl)
      (gives_rule (value_range (unseen (word w.If) ks (not_above 1 (ahead ks) (word w.If) i (omega arith)))
      (unseen (word w.Not) ks (not_above 1 (ahead ks) (word w.Not) i (omega arith))) d (range_gives f hd g)) gives_none)
      (rw ho refl)) refl;
}

-- a definition as a clause
-- where dots stand behind the first sum, the expression ends there
dots_end : {b : List ℕ} {mid rest : List Tok} {c1 c2 c3 : Val} {m2 m3 : List Tok} → 8 ≤ rank_ahead (ahead mid) →
    Gives b comparison_tail mid c1 m2 → Gives b (chain_tail p.And) m2 c2 m3 → Gives b (chain_tail p.Or) m3 c3 rest → mid ≡ rest
dots_end {mid = l4} {rest = l7} {m2 = l5} {m3 = l6} h4 r5 r6 r7 =
    let s5 : l4 ≡ l5 = skip (gives_eats r5) (stop_comparison l4 h4) in
    let h5 : 8 ≤ rank_ahead (ahead l5) = still h4 s5 in
    let s6 : l5 ≡ l6 = skip (gives_eats r6) (stop_chain p.And l5 (omega arith) h5) in
    let h6 : 8 ≤ rank_ahead (ahead l6) = still h5 s6 in
    let s7 : l6 ≡ l7 = skip (gives_eats r7) (stop_chain p.Or l6 (omega arith) h6) in
    s5 ∙ s6 ∙ s7

no_dots : {b : List ℕ} {mid rest : List Tok} {c1 c2 c3 : Val} {m2 m3 : List Tok} → 9 ≤ rank_ahead (ahead rest) →
    Gives b comparison_tail mid c1 m2 → Gives b (chain_tail p.And) m2 c2 m3 → Gives b (chain_tail p.Or) m3 c3 rest →
    ahead mid ≢ Some (mark m.DotDot)
no_dots {mid = mid} {rest = rest} l r1 r2 r3 e =
    let j : rank_ahead (ahead mid) ≡ 8 = ap rank_ahead e in
    let s : mid ≡ rest = dots_end (omega arith) r1 r2 r3 in
    let m : rank_ahead (ahead mid) ≡ rank_ahead (ahead rest) = ap (λ xs. rank_ahead (ahead xs)) s in
    absurd (omega arith)

range_definition : {b : List ℕ} {mid m2 m3 rest : List Tok} {c1 c2 c3 : Val} → sees (mark m.DotDot) mid ≡ false →
    Gives b comparison_tail mid c1 m2 → Gives b (chain_tail p.And) m2 c2 m3 → Gives b (chain_tail p.Or) m3 c3 rest →
    Gives b range_rest mid (v_clause (λ n e. at n (t.Shape.definition (name_at b n) (as_after c3 (as_after c2 (as_after c1 e)))))) rest
range_definition s r1 r2 r3 = gives_becomes {r = range_rest} {Ys = from_comparison} (rw s refl)
    (gives_rule r1 (gives_rule r2 (gives_rule r3 gives_none))) refl

value_sum : {b : List ℕ} {ks rest : List Tok} {v : Val} {e : Tree} → sees (word w.If) ks ≡ false → sees (word w.Not) ks ≡ false →
    9 ≤ rank_ahead (ahead rest) → FromSum b ks v rest → as_tree v ≡ e →
    Gives b clause_value ks (v_named (λ n. at n (t.Shape.definition (name_at b n) e))) rest
value_sum {b = b} i n l s q = revalued (ap (λ (x : Tree). v_named (λ n. at n (t.Shape.definition (name_at b n) x))) (s.same ∙ q))
    (value_range i n s.gives_sum (range_definition (unseen (mark m.DotDot) s.m1 (no_dots l s.gives1 s.gives2 s.gives3)) s.gives1 s.gives2
    s.gives3))

value_definition : {b : List ℕ} {ks rest : List Tok} {e : Tree} → 9 ≤ rank_ahead (ahead rest) → Gives b (phrase p.Expr) ks (v_tree e) rest →
    Gives b clause_value ks (v_named (λ n. at n (t.Shape.definition (name_at b n) e))) rest
value_definition {b = b} {ks = ks} l g =
    by_sight (sees (word w.If) ks)
    (λ i. let d = became_one an_if g (rw i refl) in
    gives_becomes {r = clause_value} {Ys = rule an_if ∷ []} (rw i refl) (gives_rule d.gives gives_none)
    (rw i (ap (λ (x : Val). v_named (λ n. at n (t.Shape.definition (name_at b n) (as_tree x)))) d.same)))
    (λ i. let d = became_one (phrase p.Or) g (rw i refl) in
    by_sight (sees (word w.Not) ks)
    (λ n. gives_becomes {r = clause_value} {Ys = rule (phrase p.Or) ∷ []} (rw (i, n) refl) (gives_rule d.gives gives_none)
    (rw (i, n) (ap (λ (x : Val). v_named (λ n. at n (t.Shape.definition (name_at b n) (as_tree x)))) d.same)))
    (λ n. value_sum i n l (from_the_sum n d.gives) (ap as_tree d.same)))

pub case_clause_definition : {b : List ℕ} {k o : Tok} {ks rest : List Tok} {e : Tree} → k.kind ≡ name → o.kind ≡ mark m.Define →
    9 ≤ rank_ahead (ahead rest) → Gives b (phrase p.Expr) ks (v_tree e) rest →
    Gives b (phrase p.Clause) (k ∷ o ∷ ks) (v_tree (at k (t.Shape.definition (name_at b k) e))) rest
case_clause_definition {b = b} {e = e} h ho l d =
    clause_gives {f = λ n. at n (t.Shape.definition (name_at b n) e)} h
    (gives_takes {r = clause_name} {Ys = rule clause_value ∷ []} (rw ho refl) (gives_rule (value_definition l d) gives_none) (rw ho refl))
    refl

pub case_arm : {b : List ℕ} {k o : Tok} {ks ls rest : List Tok} {e f : Tree} → Gives b (phrase p.Pattern) (k ∷ ks) (v_tree e) (o ∷ ls) →
    o.kind ≡ mark m.FatArrow → Gives b (phrase p.Body) ls (v_tree f) rest →
    Gives b (phrase p.Arm) (k ∷ ks) (v_tree (at k (t.Shape.arm e f))) rest
case_arm d ho g = gives_becomes {r = phrase p.Arm} {Ys = rule (phrase p.Pattern) ∷ a (mark m.FatArrow) ∷ rule (phrase p.Body) ∷ []} refl
    (gives_rule d (gives_tok ho (gives_rule g gives_none))) refl
