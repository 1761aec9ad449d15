-- Predictive reading is a function of the toks, and looks one tok ahead only.
use Rattle.std.proofs.Common.{◌≡◌, ◌≢◌, ℕ, ◌+◌, ◌≤◌, List, [], ◌∷◌, Some, None, length, refl, sym, ap, subst, ◌∙◌, arith}
use Rattle.verse_layout.specs.declared.toks.TokKind.{TokKind}
use Rattle.verse_layout.specs.declared.toks.Tok.{Tok}
use Rattle.verse_grammar.specs.Toks.{ahead}
use Rattle.verse_grammar.specs.declared.phrases.Phrase.TheVariants as p
use Rattle.verse_grammar.specs.Symbols.{Rule, Symbol, a, rule, predict, takes, becomes, refuses, a_type, bracket_rest, tuple_rest, types}
use Rattle.verse_grammar.specs.Symbols.{types_tail, bracket_type, bracket_type_rest, stmt_name, typed_value, set_rest, assign, return_value}
use Rattle.verse_grammar.specs.Symbols.{an_if, taken, otherwise, comparison_tail, postfix_tail, hole_rest, name_rest, givens_until, given}
use Rattle.verse_grammar.specs.Symbols.{givens_tail, round_rest, pairs_until, pair, pairs_tail, clauses, case_rest, duration}
use Rattle.verse_grammar.specs.Symbols.{generator_rest, entries_rest, clause_name, clause_value, range_rest, an_int, program, items_tail}
use Rattle.verse_grammar.specs.Symbols.{an_item, using_rest, dotted, dots_tail, path_tail, specs, item_rest, enum_or_class, enum_rest}
use Rattle.verse_grammar.specs.Symbols.{values_until, values_tail, class_rest, parent, members_until, members_tail, member, member_rest}
use Rattle.verse_grammar.specs.Symbols.{field_rest, default, fun_rest, params_until, param, params_tail, phrase, chain_tail, row_tail}
use Rattle.verse_grammar.specs.Symbols.{closed, until}
use Rattle.verse_grammar.specs.Reading.{Eats, eats_none, eats_tok, eats_rule, EatsRule, eats_takes, eats_becomes, Sticks, sticks_here}
use Rattle.verse_grammar.specs.Reading.{sticks_behind_tok, sticks_in_rule, sticks_behind_rule, SticksRule, sticks_refused, sticks_takes}
use Rattle.verse_grammar.specs.Reading.{sticks_becomes}
use Rattle.verse_grammar.proofs.Moves.{takes_takes, becomes_becomes, takes_becomes, takes_refuses, becomes_refuses}
use Rattle.verse_grammar.specs.BeginsLaws.{Agree, agree_last, agree_more, SticksAt, ReadsOneWay, ReadsLocally}

-- what a rule does depends on the kind of the first tok alone
same_move : (r : Rule) (k l : Tok) (ks ls : List Tok) → k.kind ≡ l.kind → predict r (k ∷ ks) ≡ predict r (l ∷ ls)
same_move a_type k l ks ls h = rw h refl
same_move bracket_rest k l ks ls h = rw h refl
same_move tuple_rest k l ks ls h = refl
same_move types k l ks ls h = refl
same_move types_tail k l ks ls h = rw h refl
same_move bracket_type k l ks ls h = refl
same_move bracket_type_rest k l ks ls h = rw h refl
same_move stmt_name k l ks ls h = rw h refl
same_move typed_value k l ks ls h = refl
same_move set_rest k l ks ls h = refl
same_move assign k l ks ls h = rw h refl
same_move return_value k l ks ls h = rw h refl
same_move an_if k l ks ls h = refl
same_move taken k l ks ls h = rw h refl
same_move otherwise k l ks ls h = rw h refl
same_move comparison_tail k l ks ls h = rw h refl
same_move postfix_tail k l ks ls h = rw h refl
same_move hole_rest k l ks ls h = rw h refl
same_move name_rest k l ks ls h = rw h refl
same_move givens_until k l ks ls h = rw h refl
same_move given k l ks ls h = refl
same_move givens_tail k l ks ls h = rw h refl
same_move round_rest k l ks ls h = rw h refl
same_move pairs_until k l ks ls h = rw h refl
same_move pair k l ks ls h = refl
same_move pairs_tail k l ks ls h = rw h refl
same_move clauses k l ks ls h = refl
same_move case_rest k l ks ls h = refl
same_move duration k l ks ls h = rw h refl
same_move generator_rest k l ks ls h = rw h refl
same_move entries_rest k l ks ls h = refl
same_move clause_name k l ks ls h = rw h refl
same_move clause_value k l ks ls h = rw h refl
same_move range_rest k l ks ls h = rw h refl
same_move an_int k l ks ls h = rw h refl
same_move program k l ks ls h = refl
same_move items_tail k l ks ls h = rw h refl
same_move an_item k l ks ls h = rw h refl
same_move using_rest k l ks ls h = refl
same_move dotted k l ks ls h = refl
same_move dots_tail k l ks ls h = rw h refl
same_move path_tail k l ks ls h = rw h refl
same_move specs k l ks ls h = rw h refl
same_move item_rest k l ks ls h = rw h refl
same_move enum_or_class k l ks ls h = rw h refl
same_move enum_rest k l ks ls h = refl
same_move values_until k l ks ls h = rw h refl
same_move values_tail k l ks ls h = rw h refl
same_move class_rest k l ks ls h = refl
same_move parent k l ks ls h = rw h refl
same_move members_until k l ks ls h = rw h refl
same_move members_tail k l ks ls h = rw h refl
same_move member k l ks ls h = rw h refl
same_move member_rest k l ks ls h = rw h refl
same_move field_rest k l ks ls h = refl
same_move default k l ks ls h = rw h refl
same_move fun_rest k l ks ls h = refl
same_move params_until k l ks ls h = rw h refl
same_move param k l ks ls h = refl
same_move params_tail k l ks ls h = rw h refl
same_move (phrase p.Block) k l ks ls h = refl
same_move (phrase p.Part) k l ks ls h = rw h refl
same_move (phrase p.Stmt) k l ks ls h = rw h refl
same_move (phrase p.Body) k l ks ls h = rw h refl
same_move (phrase p.Expr) k l ks ls h = rw h refl
same_move (phrase p.Or) k l ks ls h = refl
same_move (phrase p.And) k l ks ls h = refl
same_move (phrase p.Not) k l ks ls h = rw h refl
same_move (phrase p.Comparison) k l ks ls h = refl
same_move (phrase p.Sum) k l ks ls h = refl
same_move (phrase p.Product) k l ks ls h = refl
same_move (phrase p.Minus) k l ks ls h = rw h refl
same_move (phrase p.Postfix) k l ks ls h = refl
same_move (phrase p.Primary) k l ks ls h = rw h refl
same_move (phrase p.Generator) k l ks ls h = refl
same_move (phrase p.Clause) k l ks ls h = rw h refl
same_move (phrase p.Arm) k l ks ls h = refl
same_move (phrase p.Pattern) k l ks ls h = rw h refl
same_move (chain_tail q) k l ks ls h = rw h refl
same_move (row_tail q s) k l ks ls h = rw h refl
same_move (closed q s c) k l ks ls h = refl
same_move (until q s c) k l ks ls h = rw h refl

pub predict_ahead : (r : Rule) (ks ls : List Tok) → ahead ks ≡ ahead ls → predict r ks ≡ predict r ls
predict_ahead r [] [] h = refl
predict_ahead r [] (l ∷ ls) h = absurd (cc)
predict_ahead r (k ∷ ks) [] h = absurd (cc)
predict_ahead r (k ∷ ks) (l ∷ ls) h = same_move r k l ks ls (cc)

-- where reading ends: before a rest, or where so many toks are left
data Out : Type 0 where
  upto : List Tok → Out
  at : ℕ → Out

data Run (Xs : List Symbol) (ks : List Tok) : Out → Type 0 where
  eaten : {ls : List Tok} → Eats Xs ks ls → Run Xs ks (upto ls)
  stuck : {left : ℕ} → Sticks Xs ks left → Run Xs ks (at left)

data RunRule (r : Rule) (ks : List Tok) : Out → Type 0 where
  rule_eaten : {ls : List Tok} → EatsRule r ks ls → RunRule r ks (upto ls)
  rule_stuck : {left : ℕ} → SticksRule r ks left → RunRule r ks (at left)

none_case : {ks : List Tok} {o : Out} → Run [] ks o → o ≡ upto ks
none_case (eaten eats_none) = refl
none_case (stuck x) = elim x [ ]

tok_case : {kind : TokKind} {Xs : List Symbol} {k : Tok} {ks : List Tok} {o q : Out} → k.kind ≡ kind → ((o : Out) → Run Xs ks o → o ≡ q) →
    Run (a kind ∷ Xs) (k ∷ ks) o → o ≡ q
tok_case e f (eaten (eats_tok h x)) = f _ (eaten x)
tok_case e f (stuck (sticks_here n)) = absurd (n (ap Some e))
tok_case e f (stuck (sticks_behind_tok h x)) = f _ (stuck x)

off_case : {kind : TokKind} {Xs : List Symbol} {ks : List Tok} {o : Out} → ahead ks ≢ Some kind → Run (a kind ∷ Xs) ks o →
    o ≡ at (length ks)
off_case n (eaten (eats_tok h x)) = absurd (n (ap Some h))
off_case n (stuck (sticks_here m)) = refl
off_case n (stuck (sticks_behind_tok h x)) = absurd (n (ap Some h))

same_upto : {ls ms : List Tok} → upto ls ≡ upto ms → ls ≡ ms
same_upto h = cc

upto_at : {ls : List Tok} {n : ℕ} → upto ls ≡ at n → ⊥
upto_at h = cc

rule_case : {r : Rule} {Xs : List Symbol} {ks ls : List Tok} {o q : Out} → ((o : Out) → RunRule r ks o → o ≡ upto ls) →
    ((o : Out) → Run Xs ls o → o ≡ q) → Run (rule r ∷ Xs) ks o → o ≡ q
rule_case {Xs = Xs} f g (eaten {ls = rest} (eats_rule x y)) =
    g _ (eaten (subst (λ (z : List Tok). Eats Xs z rest) (same_upto (f _ (rule_eaten x))) y))
rule_case f g (stuck (sticks_in_rule x)) = absurd (upto_at (sym (f _ (rule_stuck x))))
rule_case {Xs = Xs} f g (stuck {left = left} (sticks_behind_rule x y)) =
    g _ (stuck (subst (λ (z : List Tok). Sticks Xs z left) (same_upto (f _ (rule_eaten x))) y))

rule_off : {r : Rule} {Xs : List Symbol} {ks : List Tok} {o : Out} {n : ℕ} → ((o : Out) → RunRule r ks o → o ≡ at n) →
    Run (rule r ∷ Xs) ks o → o ≡ at n
rule_off f (eaten (eats_rule x y)) = absurd (upto_at (f _ (rule_eaten x)))
rule_off f (stuck (sticks_in_rule x)) = f _ (rule_stuck x)
rule_off f (stuck (sticks_behind_rule x y)) = absurd (upto_at (f _ (rule_eaten x)))

takes_case : {r : Rule} {Ys : List Symbol} {k : Tok} {ks : List Tok} {o q : Out} → predict r (k ∷ ks) ≡ takes Ys →
    ((o : Out) → Run Ys ks o → o ≡ q) → RunRule r (k ∷ ks) o → o ≡ q
takes_case {ks = ks} e f (rule_eaten {ls = rest} (eats_takes h x)) =
    f _ (eaten (subst (λ (Xs : List Symbol). Eats Xs ks rest) (takes_takes h e) x))
takes_case e f (rule_eaten (eats_becomes h x)) = absurd (takes_becomes e h)
takes_case e f (rule_stuck (sticks_refused h)) = absurd (takes_refuses e h)
takes_case {ks = ks} e f (rule_stuck {left = left} (sticks_takes h x)) =
    f _ (stuck (subst (λ (Xs : List Symbol). Sticks Xs ks left) (takes_takes h e) x))
takes_case e f (rule_stuck (sticks_becomes h x)) = absurd (takes_becomes e h)

becomes_case : {r : Rule} {Ys : List Symbol} {ks : List Tok} {o q : Out} → predict r ks ≡ becomes Ys → ((o : Out) → Run Ys ks o → o ≡ q) →
    RunRule r ks o → o ≡ q
becomes_case e f (rule_eaten (eats_takes h x)) = absurd (takes_becomes h e)
becomes_case {ks = ks} e f (rule_eaten {ls = rest} (eats_becomes h x)) =
    f _ (eaten (subst (λ (Xs : List Symbol). Eats Xs ks rest) (becomes_becomes h e) x))
becomes_case e f (rule_stuck (sticks_refused h)) = absurd (becomes_refuses e h)
becomes_case e f (rule_stuck (sticks_takes h x)) = absurd (takes_becomes h e)
becomes_case {ks = ks} e f (rule_stuck {left = left} (sticks_becomes h x)) =
    f _ (stuck (subst (λ (Xs : List Symbol). Sticks Xs ks left) (becomes_becomes h e) x))

refuses_case : {r : Rule} {ks : List Tok} {o : Out} → predict r ks ≡ refuses → RunRule r ks o → o ≡ at (length ks)
refuses_case e (rule_eaten (eats_takes h x)) = absurd (takes_refuses h e)
refuses_case e (rule_eaten (eats_becomes h x)) = absurd (becomes_refuses h e)
refuses_case e (rule_stuck (sticks_refused h)) = refl
refuses_case e (rule_stuck (sticks_takes h x)) = absurd (takes_refuses h e)
refuses_case e (rule_stuck (sticks_becomes h x)) = absurd (becomes_refuses h e)

mutual
  only_eats : {Xs : List Symbol} {ks ls : List Tok} → Eats Xs ks ls → (o : Out) → Run Xs ks o → o ≡ upto ls
  only_eats eats_none o y = none_case y
  only_eats (eats_tok e x) o y = tok_case e (λ q z. only_eats x q z) y
  only_eats (eats_rule d x) o y = rule_case (λ q z. only_rule d q z) (λ q z. only_eats x q z) y

  only_rule : {r : Rule} {ks ls : List Tok} → EatsRule r ks ls → (o : Out) → RunRule r ks o → o ≡ upto ls
  only_rule (eats_takes e x) o y = takes_case e (λ q z. only_eats x q z) y
  only_rule (eats_becomes e x) o y = becomes_case e (λ q z. only_eats x q z) y

mutual
  only_sticks : {Xs : List Symbol} {ks : List Tok} {left : ℕ} → Sticks Xs ks left → (o : Out) → Run Xs ks o → o ≡ at left
  only_sticks (sticks_here n) o y = off_case n y
  only_sticks (sticks_behind_tok e x) o y = tok_case e (λ q z. only_sticks x q z) y
  only_sticks (sticks_in_rule x) o y = rule_off (λ q z. only_sticks_rule x q z) y
  only_sticks (sticks_behind_rule d x) o y = rule_case (λ q z. only_rule d q z) (λ q z. only_sticks x q z) y

  only_sticks_rule : {r : Rule} {ks : List Tok} {left : ℕ} → SticksRule r ks left → (o : Out) → RunRule r ks o → o ≡ at left
  only_sticks_rule (sticks_refused e) o y = refuses_case e y
  only_sticks_rule (sticks_takes e x) o y = takes_case e (λ q z. only_sticks x q z) y
  only_sticks_rule (sticks_becomes e x) o y = becomes_case e (λ q z. only_sticks x q z) y

pub same_rest : {r : Rule} {ks ls ms : List Tok} → EatsRule r ks ls → EatsRule r ks ms → ls ≡ ms
same_rest x y = same_upto (sym (only_rule x _ (rule_eaten y)))

pub same_left : {r : Rule} {ks : List Tok} {m n : ℕ} → SticksRule r ks m → SticksRule r ks n → m ≡ n
same_left {m = m} {n = n} x y = let h : at n ≡ at m = only_sticks_rule x _ (rule_stuck y) in cc

pub not_both : {r : Rule} {ks ls : List Tok} {n : ℕ} → EatsRule r ks ls → SticksRule r ks n → ⊥
not_both x y = upto_at (sym (only_rule x _ (rule_stuck y)))

-- what is left is part of what was there
mutual
  eats_within : {Xs : List Symbol} {ks rest : List Tok} → Eats Xs ks rest → length rest ≤ length ks
  eats_within eats_none = omega arith
  eats_within (eats_tok e x) = let i = eats_within x in omega arith
  eats_within (eats_rule d x) = let i = rule_within d in let j = eats_within x in omega arith

  pub rule_within : {r : Rule} {ks rest : List Tok} → EatsRule r ks rest → length rest ≤ length ks
  rule_within (eats_takes e x) = let i = eats_within x in omega arith
  rule_within (eats_becomes e x) = eats_within x

mutual
  sticks_within : {Xs : List Symbol} {ks : List Tok} {left : ℕ} → Sticks Xs ks left → left ≤ length ks
  sticks_within (sticks_here n) = omega arith
  sticks_within (sticks_behind_tok e x) = let i = sticks_within x in omega arith
  sticks_within (sticks_in_rule x) = sticks_rule_within x
  sticks_within (sticks_behind_rule d x) = let i = rule_within d in let j = sticks_within x in omega arith

  pub sticks_rule_within : {r : Rule} {ks : List Tok} {left : ℕ} → SticksRule r ks left → left ≤ length ks
  sticks_rule_within (sticks_refused e) = omega arith
  sticks_rule_within (sticks_takes e x) = let i = sticks_within x in omega arith
  sticks_rule_within (sticks_becomes e x) = sticks_within x

-- lists that agree
agree_ahead : {stop : ℕ} {ks ls : List Tok} → Agree stop ks ls → ahead ks ≡ ahead ls
agree_ahead (agree_last e h) = h
agree_ahead (agree_more h g) = ap Some h

data Step (stop : ℕ) (k : Tok) (ks : List Tok) : List Tok → Type 0 where
  step_on : {l : Tok} {ls : List Tok} → k.kind ≡ l.kind → Agree stop ks ls → Step stop k ks (l ∷ ls)

step : {stop : ℕ} {k : Tok} {ks ls : List Tok} → stop ≤ length ks → Agree stop (k ∷ ks) ls → Step stop k ks ls
step n (agree_last e h) = absurd (omega arith)
step n (agree_more h g) = step_on h g

record EatsAlike (stop : ℕ) (Xs : List Symbol) (ks rest ls : List Tok) : Type 0 where
  behind : List Tok
  eats : Eats Xs ls behind
  agree : Agree stop rest behind
  count : length ls + length rest ≡ length ks + length behind

record RuleAlike (stop : ℕ) (r : Rule) (ks rest ls : List Tok) : Type 0 where
  behind : List Tok
  eats : EatsRule r ls behind
  agree : Agree stop rest behind
  count : length ls + length rest ≡ length ks + length behind

alike_tok : {stop : ℕ} {kind : TokKind} {Xs : List Symbol} {k : Tok} {ks rest ls : List Tok} → k.kind ≡ kind →
    ((ms : List Tok) → Agree stop ks ms → EatsAlike stop Xs ks rest ms) →
    Step stop k ks ls → EatsAlike stop (a kind ∷ Xs) (k ∷ ks) rest ls
alike_tok e f (step_on {ls = ms} h g) = let i = f ms g in
    record { behind = i.behind; eats = eats_tok (sym h ∙ e) i.eats; agree = i.agree; count = omega (arith, i.count) }

alike_takes : {stop : ℕ} {r : Rule} {Ys : List Symbol} {k : Tok} {ks rest ls : List Tok} → predict r (k ∷ ks) ≡ takes Ys →
    ((ms : List Tok) → Agree stop ks ms → EatsAlike stop Ys ks rest ms) →
    Step stop k ks ls → RuleAlike stop r (k ∷ ks) rest ls
alike_takes {r = r} {k = k} {ks = ks} e f (step_on {l = l} {ls = ms} h g) =
    let i = f ms g in record {
      behind = i.behind;
      eats = eats_takes (sym (same_move r k l ks ms h) ∙ e) i.eats;
      agree = i.agree;
      count =
          omega (arith, i.count);
    }

mutual
  eats_alike : {Xs : List Symbol} {ks rest : List Tok} → Eats Xs ks rest → (stop : ℕ) (ls : List Tok) → stop ≤ length rest →
      Agree stop ks ls → EatsAlike stop Xs ks rest ls
  eats_alike eats_none stop ls n g = record { behind = ls; eats = eats_none; agree = g; count = omega arith }
  eats_alike (eats_tok e x) stop ls n g = let i = eats_within x in alike_tok e (λ ms z. eats_alike x stop ms n z) (step (omega arith) g)
  eats_alike (eats_rule d x) stop ls n g =
      let w = eats_within x in
      let i = rule_alike d stop ls (omega arith) g in
      let j = eats_alike x stop i.behind n i.agree in
      record { behind = j.behind; eats = eats_rule i.eats j.eats; agree = j.agree; count = omega (arith, i.count, j.count) }

  rule_alike : {r : Rule} {ks rest : List Tok} → EatsRule r ks rest → (stop : ℕ) (ls : List Tok) → stop ≤ length rest → Agree stop ks ls →
      RuleAlike stop r ks rest ls
  rule_alike (eats_takes e x) stop ls n g = let i = eats_within x in alike_takes e (λ ms z. eats_alike x stop ms n z) (step (omega arith) g)
  rule_alike (eats_becomes {r = r} {ks = ks} e x) stop ls n g =
      let i = eats_alike x stop ls n g in
      record {
        behind = i.behind;
        eats = eats_becomes (sym (predict_ahead r ks ls (agree_ahead g)) ∙ e) i.eats;
        agree = i.agree;
        count =
            i.count;
      }

record SticksAlike (left : ℕ) (Xs : List Symbol) (ks ls : List Tok) : Type 0 where
  more : ℕ
  sticks : Sticks Xs ls more
  count : length ls + left ≡ length ks + more

record StuckAlike (left : ℕ) (r : Rule) (ks ls : List Tok) : Type 0 where
  more : ℕ
  sticks : SticksRule r ls more
  count : length ls + left ≡ length ks + more

stuck_tok : {left : ℕ} {kind : TokKind} {Xs : List Symbol} {k : Tok} {ks ls : List Tok} → k.kind ≡ kind →
    ((ms : List Tok) → Agree left ks ms → SticksAlike left Xs ks ms) →
    Step left k ks ls → SticksAlike left (a kind ∷ Xs) (k ∷ ks) ls
stuck_tok e f (step_on {ls = ms} h g) = let i = f ms g in
    record { more = i.more; sticks = sticks_behind_tok (sym h ∙ e) i.sticks; count = omega (arith, i.count) }

stuck_takes : {left : ℕ} {r : Rule} {Ys : List Symbol} {k : Tok} {ks ls : List Tok} → predict r (k ∷ ks) ≡ takes Ys →
    ((ms : List Tok) → Agree left ks ms → SticksAlike left Ys ks ms) →
    Step left k ks ls → StuckAlike left r (k ∷ ks) ls
stuck_takes {r = r} {k = k} {ks = ks} e f (step_on {l = l} {ls = ms} h g) =
    let i = f ms g in record {
      more = i.more;
      sticks = sticks_takes (sym (same_move r k l ks ms h) ∙ e) i.sticks;
      count =
          omega (arith, i.count);
    }

mutual
  sticks_alike : {Xs : List Symbol} {ks : List Tok} {left : ℕ} → Sticks Xs ks left → (ls : List Tok) → Agree left ks ls →
      SticksAlike left Xs ks ls
  sticks_alike (sticks_here n) ls g = record { more = length ls; sticks = sticks_here (λ e. n (agree_ahead g ∙ e)); count = omega arith }
  sticks_alike (sticks_behind_tok e x) ls g = stuck_tok e (λ ms z. sticks_alike x ms z) (step (sticks_within x) g)
  sticks_alike (sticks_in_rule x) ls g = let i = stuck_alike x ls g in
      record { more = i.more; sticks = sticks_in_rule i.sticks; count = i.count }
  sticks_alike (sticks_behind_rule {left = left} d x) ls g =
      let i = rule_alike d left ls (sticks_within x) g in
      let j = sticks_alike x i.behind i.agree in
      record { more = j.more; sticks = sticks_behind_rule i.eats j.sticks; count = omega (arith, i.count, j.count) }

  stuck_alike : {r : Rule} {ks : List Tok} {left : ℕ} → SticksRule r ks left → (ls : List Tok) → Agree left ks ls → StuckAlike left r ks ls
  stuck_alike (sticks_refused {r = r} {ks = ks} e) ls g =
      record { more = length ls; sticks = sticks_refused (sym (predict_ahead r ks ls (agree_ahead g)) ∙ e); count = omega arith }
  stuck_alike (sticks_takes e x) ls g = stuck_takes e (λ ms z. sticks_alike x ms z) (step (sticks_within x) g)
  stuck_alike (sticks_becomes {r = r} {ks = ks} e x) ls g =
      let i = sticks_alike x ls g in record {
        more = i.more;
        sticks =
            sticks_becomes (sym (predict_ahead r ks ls (agree_ahead g)) ∙ e) i.sticks;
        count = i.count;
      }

pub sticks_again : (r : Rule) (ks ls : List Tok) (index left : ℕ) → SticksRule r ks left → index + left ≡ length ks → Agree left ks ls →
    SticksAt r ls index
sticks_again r ks ls index left x e g = let i = stuck_alike x ls g in
    record { left = i.more; sticks = i.sticks; count = omega (arith, i.count) }

pub stuck_for_good : (r : Rule) (ks ls : List Tok) (left : ℕ) → SticksRule r ks left → Agree left ks ls → EatsRule r ls [] → ⊥
stuck_for_good r ks ls left x g y = let i = stuck_alike x ls g in not_both y i.sticks

agree_none : {k : Tok} {rest behind : List Tok} → Agree (length (k ∷ rest)) (k ∷ rest) behind → behind ≡ [] → ⊥
agree_none {k = k} {rest = rest} {behind = behind} g e = let h : ahead (k ∷ rest) ≡ ahead behind = agree_ahead g in
    let f : Some k.kind ≡ None = h ∙ ap ahead e in absurd (cc)

pub left_for_good : (r : Rule) (ks ls : List Tok) (k : Tok) (rest : List Tok) → EatsRule r ks (k ∷ rest) → Agree (length (k ∷ rest)) ks ls →
    EatsRule r ls [] → ⊥
left_for_good r ks ls k rest x g y = let i = rule_alike x (length (k ∷ rest)) ls (omega arith) g in agree_none i.agree (same_rest i.eats y)

pub reads_one_way : ReadsOneWay
reads_one_way r ks = record {
  eaten = λ ls ms x y. same_rest x y;
  stuck = λ left more x y. same_left x y;
  either =
      λ ls left x y. not_both x y;
}

pub reads_locally : ReadsLocally
reads_locally r ks = record {
  sticks = λ index left ls x e g. sticks_again r ks ls index left x e g;
  stuck =
      λ left ls x g y. stuck_for_good r ks ls left x g y;
  left = λ k rest ls x g y. left_for_good r ks ls k rest x g y;
}
