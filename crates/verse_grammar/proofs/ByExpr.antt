-- Statements and clauses that begin with a name and are expressions: what reads the expression reads them.
use Rattle.std.proofs.Common.{◌≡◌, ◌≢◌, ℕ, Bool, true, false, List, [], ◌∷◌, ◌++◌, Some, refl, sym, ap, subst, ◌∙◌}
use Rattle.verse_lex.specs.declared.tokens.Word.TheVariants as w
use Rattle.verse_lex.specs.declared.tokens.Mark.TheVariants as m
use Rattle.verse_layout.specs.declared.toks.TokKind.{TokKind}
use Rattle.verse_layout.specs.declared.toks.Tok.{Tok}
use Rattle.verse_grammar.specs.Toks.{word, mark, name, ahead}
use Rattle.verse_grammar.specs.Codes.{sees}
use Rattle.verse_grammar.specs.declared.phrases.Phrase.TheVariants as p
use Rattle.verse_grammar.specs.Symbols.{Rule, Symbol, rule, takes, becomes, predict, phrase, stmt_name, name_rest, postfix_tail, chain_tail}
use Rattle.verse_grammar.specs.Symbols.{comparison_tail, clause_name, clause_value, range_rest, an_if}
use Rattle.verse_grammar.specs.Reading.{Eats, EatsRule, Sticks, SticksRule, eats_none, eats_tok, eats_rule, eats_takes, eats_becomes}
use Rattle.verse_grammar.specs.Reading.{sticks_here, sticks_behind_tok, sticks_in_rule, sticks_behind_rule, sticks_refused, sticks_takes}
use Rattle.verse_grammar.specs.Reading.{sticks_becomes}
use Rattle.verse_grammar.proofs.Sights.{unseen, same_kind}

-- what a rule that becomes symbols reads, they read
pub became : {r : Rule} {Ys : List Symbol} {ks rest : List Tok} → EatsRule r ks rest → predict r ks ≡ becomes Ys → Eats Ys ks rest
became (eats_takes h e) q = absurd (cc)
became {ks = ks} {rest = rest} (eats_becomes {Ys = Zs} h e) q =
    let s : Zs ≡ _ = cc in subst (λ (Xs : List Symbol). Eats Xs ks rest) s e

pub took : {r : Rule} {Ys : List Symbol} {k : Tok} {ks rest : List Tok} → EatsRule r (k ∷ ks) rest → predict r (k ∷ ks) ≡ takes Ys →
    Eats Ys ks rest
took {ks = ks} {rest = rest} (eats_takes {Ys = Zs} h e) q =
    let s : Zs ≡ _ = cc in subst (λ (Xs : List Symbol). Eats Xs ks rest) s e
took (eats_becomes h e) q = absurd (cc)

pub stuck_became : {r : Rule} {Ys : List Symbol} {ks : List Tok} {left : ℕ} → SticksRule r ks left → predict r ks ≡ becomes Ys →
    Sticks Ys ks left
stuck_became (sticks_refused h) q = absurd (cc)
stuck_became (sticks_takes h e) q = absurd (cc)
stuck_became {ks = ks} {left = left} (sticks_becomes {Ys = Zs} h e) q =
    let s : Zs ≡ _ = cc in subst (λ (Xs : List Symbol). Sticks Xs ks left) s e

pub stuck_took : {r : Rule} {Ys : List Symbol} {k : Tok} {ks : List Tok} {left : ℕ} → SticksRule r (k ∷ ks) left →
    predict r (k ∷ ks) ≡ takes Ys → Sticks Ys ks left
stuck_took (sticks_refused h) q = absurd (cc)
stuck_took {ks = ks} {left = left} (sticks_takes {Ys = Zs} h e) q =
    let s : Zs ≡ _ = cc in subst (λ (Xs : List Symbol). Sticks Xs ks left) s e
stuck_took (sticks_becomes h e) q = absurd (cc)

pub eats_both : (Xs Ys : List Symbol) (ks ls rest : List Tok) → Eats Xs ks ls → Eats Ys ls rest → Eats (Xs ++ Ys) ks rest
eats_both _ Ys _ ls rest eats_none f = f
eats_both _ Ys _ ls rest (eats_tok h e) f = eats_tok h (eats_both _ Ys _ ls rest e f)
eats_both _ Ys _ ls rest (eats_rule r e) f = eats_rule r (eats_both _ Ys _ ls rest e f)

pub sticks_first : (Xs Ys : List Symbol) (ks : List Tok) (left : ℕ) → Sticks Xs ks left → Sticks (Xs ++ Ys) ks left
sticks_first _ Ys _ _ (sticks_here h) = sticks_here h
sticks_first _ Ys _ _ (sticks_behind_tok h e) = sticks_behind_tok h (sticks_first _ Ys _ _ e)
sticks_first _ Ys _ _ (sticks_in_rule r) = sticks_in_rule r
sticks_first _ Ys _ _ (sticks_behind_rule r e) = sticks_behind_rule r (sticks_first _ Ys _ _ e)

pub sticks_second : (Xs Ys : List Symbol) (ks ls : List Tok) (left : ℕ) → Eats Xs ks ls → Sticks Ys ls left → Sticks (Xs ++ Ys) ks left
sticks_second _ Ys _ ls left eats_none f = f
sticks_second _ Ys _ ls left (eats_tok h e) f = sticks_behind_tok h (sticks_second _ Ys _ ls left e f)
sticks_second _ Ys _ ls left (eats_rule r e) f = sticks_behind_rule r (sticks_second _ Ys _ ls left e f)

-- where a rule becomes another and more, what the other does on these toks is done first
onto : (Xs Ys : List Symbol) (q : Rule) (ks ls rest : List Tok) → ((ms : List Tok) → EatsRule q ks ms → Eats Xs ls ms) →
    Eats (rule q ∷ Ys) ks rest → Eats (Xs ++ Ys) ls rest
onto Xs Ys q ks ls rest f (eats_rule {ls = ms} r e) = eats_both Xs Ys ls ms rest (f ms r) e

stuck_onto : (Xs Ys : List Symbol) (q : Rule) (ks ls : List Tok) (left : ℕ) → ((ms : List Tok) → EatsRule q ks ms → Eats Xs ls ms) →
    (SticksRule q ks left → Sticks Xs ls left) →
    Sticks (rule q ∷ Ys) ks left → Sticks (Xs ++ Ys) ls left
stuck_onto Xs Ys q ks ls left f g (sticks_in_rule r) = sticks_first Xs Ys ls left (g r)
stuck_onto Xs Ys q ks ls left f g (sticks_behind_rule {ls = ms} r e) = sticks_second Xs Ys ls ms left (f ms r) e

-- the tails behind what an expression begins with
abbrev pub from_sum : List Symbol
from_sum = rule (phrase p.Sum) ∷ rule comparison_tail ∷ rule (chain_tail p.And) ∷ rule (chain_tail p.Or) ∷ []

abbrev pub from_name : List Symbol
from_name = rule name_rest ∷ rule postfix_tail ∷ rule (chain_tail p.Product) ∷ rule (chain_tail p.Sum) ∷ rule comparison_tail ∷ rule
    (chain_tail p.And) ∷ rule (chain_tail p.Or) ∷ []

-- what a rule does on these toks, these symbols do
record Does (r : Rule) (ks : List Tok) (Xs : List Symbol) (ls : List Tok) : Type 0 where
  eats : (rest : List Tok) → EatsRule r ks rest → Eats Xs ls rest
  sticks : (left : ℕ) → SticksRule r ks left → Sticks Xs ls left

does_itself : (r : Rule) (ks : List Tok) → Does r ks (rule r ∷ []) ks
does_itself r ks = record { eats = λ rest e. eats_rule e eats_none; sticks = λ left s. sticks_in_rule s }

does_taken : (r : Rule) (k : Tok) (ks : List Tok) (Xs : List Symbol) → predict r (k ∷ ks) ≡ takes Xs → Does r (k ∷ ks) Xs ks
does_taken r k ks Xs h = record { eats = λ rest e. took e h; sticks = λ left s. stuck_took s h }

does_further : (r q : Rule) (Xs Ys : List Symbol) (ks ls : List Tok) → predict r ks ≡ becomes (rule q ∷ Ys) → Does q ks Xs ls →
    Does r ks (Xs ++ Ys) ls
does_further r q Xs Ys ks ls h d = record {
  eats = λ rest e. onto Xs Ys q ks ls rest (λ ms f. d.eats ms f) (became e h);
  sticks = λ left s. stuck_onto Xs Ys q ks ls left (λ ms f. d.eats ms f) (λ f. d.sticks left f) (stuck_became s h);
}

-- an expression from its first sum on, where it begins with no `not`
or_from_sum : (ks : List Tok) → sees (word w.Not) ks ≡ false → Does (phrase p.Or) ks from_sum ks
or_from_sum ks h =
    let d1 : Does (phrase p.Comparison) ks (rule (phrase p.Sum) ∷ rule comparison_tail ∷ []) ks =
    does_further _ _ _ _ _ _ refl (does_itself (phrase p.Sum) ks) in
    let d2 : Does (phrase p.Not) ks (rule (phrase p.Sum) ∷ rule comparison_tail ∷ []) ks =
    does_further (phrase p.Not) (phrase p.Comparison) (rule (phrase p.Sum) ∷ rule comparison_tail ∷ []) [] ks ks (rw h refl) d1 in
    let d3 : Does (phrase p.And) ks (rule (phrase p.Sum) ∷ rule comparison_tail ∷ rule (chain_tail p.And) ∷ []) ks =
    does_further _ _ _ _ _ _ refl d2 in
    does_further _ _ _ _ _ _ refl d3

-- from the tok behind the name with which it begins
expr_from_name : (k : Tok) (ks : List Tok) → k.kind ≡ name → Does (phrase p.Expr) (k ∷ ks) from_name ks
expr_from_name k ks h =
    let d1 : Does (phrase p.Primary) (k ∷ ks) (rule name_rest ∷ []) ks =
    does_taken (phrase p.Primary) k ks (rule name_rest ∷ []) (rw h refl) in
    let d2 : Does (phrase p.Postfix) (k ∷ ks) (rule name_rest ∷ rule postfix_tail ∷ []) ks = does_further _ _ _ _ _ _ refl d1 in
    let d3 : Does (phrase p.Minus) (k ∷ ks) (rule name_rest ∷ rule postfix_tail ∷ []) ks =
    does_further (phrase p.Minus) (phrase p.Postfix) (rule name_rest ∷ rule postfix_tail ∷ []) [] (k ∷ ks) ks (rw h refl) d2 in
    let d4 : Does (phrase p.Product) (k ∷ ks) (rule name_rest ∷ rule postfix_tail ∷ rule (chain_tail p.Product) ∷ []) ks =
    does_further _ _ _ _ _ _ refl d3 in
    let d5 : Does (phrase p.Sum) (k ∷ ks) (rule name_rest ∷ rule postfix_tail ∷ rule (chain_tail p.Product) ∷ rule (chain_tail p.Sum) ∷ [])
    ks = does_further _ _ _ _ _ _ refl d4 in
    let d6 : Does (phrase p.Comparison) (k ∷ ks)
    (rule name_rest ∷ rule postfix_tail ∷ rule (chain_tail p.Product) ∷ rule (chain_tail p.Sum) ∷ rule comparison_tail ∷ []) ks =
    does_further _ _ _ _ _ _ refl d5 in
    let d7 : Does (phrase p.Not) (k ∷ ks) (rule name_rest ∷ rule postfix_tail ∷ rule (chain_tail p.Product) ∷ rule
    (chain_tail p.Sum) ∷ rule comparison_tail ∷ []) ks =
    does_further (phrase p.Not) (phrase p.Comparison)
    (rule name_rest ∷ rule postfix_tail ∷ rule (chain_tail p.Product) ∷ rule (chain_tail p.Sum) ∷ rule comparison_tail ∷ []) []
    (k ∷ ks) ks (rw h refl) d6 in
    let d8 : Does (phrase p.And) (k ∷ ks) (rule name_rest ∷ rule postfix_tail ∷ rule (chain_tail p.Product) ∷ rule
    (chain_tail p.Sum) ∷ rule comparison_tail ∷ rule (chain_tail p.And) ∷ []) ks = does_further _ _ _ _ _ _ refl d7 in
    let d9 : Does (phrase p.Or) (k ∷ ks) from_name ks = does_further _ _ _ _ _ _ refl d8 in
    does_further (phrase p.Expr) (phrase p.Or) from_name [] (k ∷ ks) ks (rw h refl) d9

pub named_expr : (k : Tok) (ks rest : List Tok) → k.kind ≡ name → EatsRule (phrase p.Expr) (k ∷ ks) rest → Eats from_name ks rest
named_expr k ks rest h e = let d = expr_from_name k ks h in d.eats rest e

pub named_expr_stuck : (k : Tok) (ks : List Tok) (left : ℕ) → k.kind ≡ name → SticksRule (phrase p.Expr) (k ∷ ks) left →
    Sticks from_name ks left
named_expr_stuck k ks left h s = let d = expr_from_name k ks h in d.sticks left s

pub sum_first : (ks rest : List Tok) → ahead ks ≢ Some (word w.Not) → EatsRule (phrase p.Or) ks rest → Eats from_sum ks rest
sum_first ks rest h e = let d = or_from_sum ks (unseen (word w.Not) ks h) in d.eats rest e

pub sum_first_stuck : (ks : List Tok) (left : ℕ) → ahead ks ≢ Some (word w.Not) → SticksRule (phrase p.Or) ks left → Sticks from_sum ks left
sum_first_stuck ks left h s = let d = or_from_sum ks (unseen (word w.Not) ks h) in d.sticks left s

stmt_name_other : (ks : List Tok) → ahead ks ≢ Some (mark m.Define) → ahead ks ≢ Some (mark m.Colon) →
    predict stmt_name ks ≡ becomes from_name
stmt_name_other ks h i = rw (unseen (mark m.Define) ks h, unseen (mark m.Colon) ks i) refl

clause_name_other : (ks : List Tok) → ahead ks ≢ Some (mark m.Define) → ahead ks ≢ Some (mark m.Colon) → ahead ks ≢ Some (mark m.Arrow) →
    predict clause_name ks ≡ becomes from_name
clause_name_other ks h i j = rw (unseen (mark m.Define) ks h, unseen (mark m.Colon) ks i, unseen (mark m.Arrow) ks j) refl

pub stmt_by_expr : (k : Tok) (ks rest : List Tok) → k.kind ≡ name → ahead ks ≢ Some (mark m.Define) → ahead ks ≢ Some (mark m.Colon) →
    EatsRule (phrase p.Expr) (k ∷ ks) rest → EatsRule (phrase p.Stmt) (k ∷ ks) rest
stmt_by_expr k ks rest h i j e = eats_takes {r = phrase p.Stmt} {Ys = rule stmt_name ∷ []} (rw h refl)
    (eats_rule (eats_becomes (stmt_name_other ks i j) (named_expr k ks rest h e)) eats_none)

pub stmt_stuck_by_expr : (k : Tok) (ks : List Tok) (left : ℕ) → k.kind ≡ name → ahead ks ≢ Some (mark m.Define) →
    ahead ks ≢ Some (mark m.Colon) →
    SticksRule (phrase p.Expr) (k ∷ ks) left → SticksRule (phrase p.Stmt) (k ∷ ks) left
stmt_stuck_by_expr k ks left h i j s = sticks_takes {r = phrase p.Stmt} {Ys = rule stmt_name ∷ []} (rw h refl)
    (sticks_in_rule (sticks_becomes (stmt_name_other ks i j) (named_expr_stuck k ks left h s)))

pub clause_by_expr : (k : Tok) (ks rest : List Tok) → k.kind ≡ name → ahead ks ≢ Some (mark m.Define) → ahead ks ≢ Some (mark m.Colon) →
    ahead ks ≢ Some (mark m.Arrow) →
    EatsRule (phrase p.Expr) (k ∷ ks) rest → EatsRule (phrase p.Clause) (k ∷ ks) rest
clause_by_expr k ks rest h i j l e = eats_takes {r = phrase p.Clause} {Ys = rule clause_name ∷ []} (rw h refl)
    (eats_rule (eats_becomes (clause_name_other ks i j l) (named_expr k ks rest h e)) eats_none)

pub clause_stuck_by_expr : (k : Tok) (ks : List Tok) (left : ℕ) → k.kind ≡ name → ahead ks ≢ Some (mark m.Define) →
    ahead ks ≢ Some (mark m.Colon) → ahead ks ≢ Some (mark m.Arrow) →
    SticksRule (phrase p.Expr) (k ∷ ks) left → SticksRule (phrase p.Clause) (k ∷ ks) left
clause_stuck_by_expr k ks left h i j l s =
    sticks_takes {r = phrase p.Clause} {Ys = rule clause_name ∷ []} (rw h refl)
    (sticks_in_rule (sticks_becomes (clause_name_other ks i j l) (named_expr_stuck k ks left h s)))

pub by_sight : {P : Type 0} (x : Bool) → (x ≡ true → P) → (x ≡ false → P) → P
by_sight true f g = f refl
by_sight false f g = g refl

skipped : {ks ls : List Tok} → Eats [] ks ls → ks ≡ ls
skipped eats_none = refl

stuck_nowhere : {ks : List Tok} {left : ℕ} → Sticks [] ks left → ⊥
stuck_nowhere s = elim s [ ]

pub seen_ahead : (kind : TokKind) (ks : List Tok) → sees kind ks ≡ true → ahead ks ≡ Some kind
seen_ahead kind [] h = absurd (cc)
seen_ahead kind (k ∷ ks) h = ap Some (same_kind k.kind kind h)

-- behind a first sum
abbrev pub from_comparison : List Symbol
from_comparison = rule comparison_tail ∷ rule (chain_tail p.And) ∷ rule (chain_tail p.Or) ∷ []

dots_and : (ks : List Tok) → ahead ks ≡ Some (mark m.DotDot) → predict (chain_tail p.And) ks ≡ becomes []
dots_and [] h = refl
dots_and (k ∷ ks) h = let e : k.kind ≡ mark m.DotDot = cc in rw e refl

dots_or : (ks : List Tok) → ahead ks ≡ Some (mark m.DotDot) → predict (chain_tail p.Or) ks ≡ becomes []
dots_or [] h = refl
dots_or (k ∷ ks) h = let e : k.kind ≡ mark m.DotDot = cc in rw e refl

dots_comparison : (ks : List Tok) → ahead ks ≡ Some (mark m.DotDot) → predict comparison_tail ks ≡ becomes []
dots_comparison [] h = refl
dots_comparison (k ∷ ks) h = let e : k.kind ≡ mark m.DotDot = cc in rw e refl

no_tails : (ks rest : List Tok) → ahead ks ≡ Some (mark m.DotDot) → Eats from_comparison ks rest → ks ≡ rest
no_tails ks rest h (eats_rule {ls = l1} r1 (eats_rule {ls = l2} r2 (eats_rule {ls = l3} r3 e))) =
    let s1 : ks ≡ l1 = skipped (became r1 (dots_comparison ks h)) in
    let s2 : l1 ≡ l2 = skipped (became r2 (dots_and l1 (ap ahead (sym s1) ∙ h))) in
    let s3 : l2 ≡ l3 = skipped (became r3 (dots_or l2 (ap ahead (sym (s1 ∙ s2)) ∙ h))) in
    s1 ∙ s2 ∙ s3 ∙ skipped e

no_tails_stuck : (ks : List Tok) (left : ℕ) → ahead ks ≡ Some (mark m.DotDot) → Sticks from_comparison ks left → ⊥
no_tails_stuck ks left h (sticks_in_rule r) = stuck_nowhere (stuck_became r (dots_comparison ks h))
no_tails_stuck ks left h (sticks_behind_rule {ls = l1} r1 (sticks_in_rule r)) =
    let s1 : ks ≡ l1 = skipped (became r1 (dots_comparison ks h)) in stuck_nowhere (stuck_became r (dots_and l1 (ap ahead (sym s1) ∙ h)))
no_tails_stuck ks left h (sticks_behind_rule {ls = l1} r1 (sticks_behind_rule {ls = l2} r2 (sticks_in_rule r))) =
    let s1 : ks ≡ l1 = skipped (became r1 (dots_comparison ks h)) in
    let s2 : l1 ≡ l2 = skipped (became r2 (dots_and l1 (ap ahead (sym s1) ∙ h))) in
    stuck_nowhere (stuck_became r (dots_or l2 (ap ahead (sym (s1 ∙ s2)) ∙ h)))
no_tails_stuck ks left h (sticks_behind_rule r1 (sticks_behind_rule r2 (sticks_behind_rule r3 e))) = stuck_nowhere e

-- what a definition in a `for` makes of its sum and what follows
by_range : (ks rest : List Tok) → ahead rest ≢ Some (mark m.DotDot) → Eats from_sum ks rest →
    Eats (rule (phrase p.Sum) ∷ rule range_rest ∷ []) ks rest
by_range ks rest h (eats_rule {ls = mid} r e) = eats_rule r (eats_rule
    (by_sight (sees (mark m.DotDot) mid)
    (λ s. let d : ahead mid ≡ Some (mark m.DotDot) = seen_ahead (mark m.DotDot) mid s in
    absurd (h (ap ahead (sym (no_tails mid rest d e)) ∙ d)))
    (λ s. eats_becomes {r = range_rest} {Ys = from_comparison} (rw s refl) e))
    eats_none)

by_range_stuck : (ks : List Tok) (left : ℕ) → Sticks from_sum ks left → Sticks (rule (phrase p.Sum) ∷ rule range_rest ∷ []) ks left
by_range_stuck ks left (sticks_in_rule r) = sticks_in_rule r
by_range_stuck ks left (sticks_behind_rule {ls = mid} r e) = sticks_behind_rule r (sticks_in_rule
    (by_sight (sees (mark m.DotDot) mid)
    (λ s. absurd (no_tails_stuck mid left (seen_ahead (mark m.DotDot) mid s) e))
    (λ s. sticks_becomes {r = range_rest} {Ys = from_comparison} (rw s refl) e)))

pub value_by_expr : (ks rest : List Tok) → ahead rest ≢ Some (mark m.DotDot) → EatsRule (phrase p.Expr) ks rest →
    EatsRule clause_value ks rest
value_by_expr ks rest h e =
    by_sight (sees (word w.If) ks)
    (λ i. eats_becomes {r = clause_value} {Ys = rule an_if ∷ []} (rw i refl) (became e (rw i refl)))
    (λ i. let o : Eats (rule (phrase p.Or) ∷ []) ks rest = became e (rw i refl) in
    by_sight (sees (word w.Not) ks)
    (λ n. eats_becomes {r = clause_value} {Ys = rule (phrase p.Or) ∷ []} (rw (i, n) refl) o)
    (λ n. eats_becomes {r = clause_value} {Ys = rule (phrase p.Sum) ∷ rule range_rest ∷ []} (rw (i, n) refl)
    (by_range ks rest h (onto from_sum [] (phrase p.Or) ks ks rest (λ ms f. let d = or_from_sum ks n in d.eats ms f) o))))

pub value_stuck_by_expr : (ks : List Tok) (left : ℕ) → SticksRule (phrase p.Expr) ks left → SticksRule clause_value ks left
value_stuck_by_expr ks left e =
    by_sight (sees (word w.If) ks)
    (λ i. sticks_becomes {r = clause_value} {Ys = rule an_if ∷ []} (rw i refl) (stuck_became e (rw i refl)))
    (λ i. let o : Sticks (rule (phrase p.Or) ∷ []) ks left = stuck_became e (rw i refl) in
    by_sight (sees (word w.Not) ks)
    (λ n. sticks_becomes {r = clause_value} {Ys = rule (phrase p.Or) ∷ []} (rw (i, n) refl) o)
    (λ n. sticks_becomes {r = clause_value} {Ys = rule (phrase p.Sum) ∷ rule range_rest ∷ []} (rw (i, n) refl)
    (by_range_stuck ks left (stuck_onto from_sum [] (phrase p.Or) ks ks left (λ ms f. let d = or_from_sum ks n in d.eats ms f) (λ f. let d =
    or_from_sum ks n in d.sticks left f) o))))
