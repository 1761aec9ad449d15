-- How tasks stand to one another is the same in trees that come to the same under two numberings.
use Rattle.std.proofs.Common.{◌≡◌, ℕ, suc, ◌+◌, ◌≤◌, ◌<◌, List, [], ◌∷◌, ◌++◌, Bool, true, false, cond, refl, sym, subst, ap, ◌∙◌, arith}
use Rattle.std.proofs.Common.{◌⊎◌, inl, inr}
use Rattle.std.proofs.lemmas.Bool.{cases_Bool}
use Rattle.verse_meaning_state.specs.State.{State}
use Rattle.verse_meaning_state.specs.Waits.{ltn}
use Rattle.verse_meaning_state.proofs.Numbers.{ltn_is_not, ltn_is}
use Rattle.verse_code_machine.specs.Tasks.{Who, Rest, asleep, group, Task, same_path}
use Rattle.verse_code_machine.specs.Ends.{is_run}
use Rattle.verse_code_machine.specs.Runs.{Forest}
use Rattle.verse_code_machine_parents.specs.Parents.{whos}
use Rattle.verse_code_machine_saved.specs.Numbers.{Numbering, Fixed}
use Rattle.verse_code_machine_saved.proofs.Numbers.{path_end}
use Rattle.run_save_shots.specs.Lists.{Each}
use Rattle.run_save_fits.specs.Held.{IsSome, tasks_sum, trees_sum, one}
use Rattle.run_save_fits.proofs.Holding.{role_some}
use Rattle.run_save_fits.proofs.Counted.{one_most}
use Rattle.run_save_kept.specs.Orders.{StandsBefore, NoneBelow, Sits, Lined, last, is_named, in_group, awaits, skips, weight, Orderly}
use Rattle.run_save_kept.proofs.Paths.{end_is}
use Rattle.run_save_kept.proofs.Sums.{sums_add}
use Rattle.run_save_orders.specs.Roots.{Sorts}
use Rattle.run_save_same.proofs.Pairs.{EachPair}
use Rattle.run_save_chain.proofs.Numbered.{path_ends, stay_apart, one_path, most_at, least_at, stands_as, stood_as, below_as, below_was}
use Rattle.run_save_chain.proofs.Numbered.{last_as, last_was}
use Rattle.run_save_chain.proofs.Meeting as m
use Rattle.run_save_chain.proofs.Meeting.{tasks_same, trees_same, tasks_some, trees_some}

none_most : (i j : ℕ) → i ≡ 0 → i ≤ j
none_most i j e = omega (arith, e)

further : {i j k : ℕ} → i ≡ j → j ≤ k → i ≤ k
further e f = omega (arith, e, f)

most_is : {i j k : ℕ} → i ≤ j → j ≡ k → i ≤ k
most_is e f = omega (arith, e, f)

longer : {i j k : ℕ} → i ≤ j → j ≤ k → i ≤ k
longer e f = omega (arith, e, f)

one_less : (b d : Bool) → (b ≡ true → d ≡ true) → one b ≤ one d
one_less true true f = omega arith
one_less true false f = absurd (no (f refl))
  where
    no : false ≡ true → ⊥
    no e = cc
one_less false true f = omega arith
one_less false false f = omega arith

-- a number is no lower than the bound, by the test
ltn_yes : (k n : ℕ) → k ≤ n → ltn k (suc n) ≡ true
ltn_yes k n h = by (cases_Bool (ltn k (suc n)))
  where
    no : (k n : ℕ) → k ≤ n → suc n ≤ k → ⊥
    no k n h g = omega (arith, h, g)

    by : (ltn k (suc n) ≡ true) ⊎ (ltn k (suc n) ≡ false) → ltn k (suc n) ≡ true
    by (inl e) = e
    by (inr e) = absurd (no k n h (ltn_is_not k (suc n) e))

weights_sum : (f g : Task → ℕ) (tss : Forest) → trees_sum (λ t. f t + g t) tss ≡ trees_sum f tss + trees_sum g tss
weights_sum f g [] = refl
weights_sum f g (ts ∷ tss) = let h = weights_sum f g tss in let k = sums_add f g ts in omega (arith, h, k)

sums_less : (f g : Task → ℕ) → ((t : Task) → f t ≤ g t) → (ts : List Task) → tasks_sum f ts ≤ tasks_sum g ts
sums_less f g h [] = omega arith
sums_less f g h (t ∷ ts) = both (f t) (g t) (tasks_sum f ts) (tasks_sum g ts) (h t) (sums_less f g h ts)
  where
    both : (a b x y : ℕ) → a ≤ b → x ≤ y → a + x ≤ b + y
    both a b x y e f = omega (arith, e, f)

all_less : (f g : Task → ℕ) → ((t : Task) → f t ≤ g t) → (tss : Forest) → trees_sum f tss ≤ trees_sum g tss
all_less f g h [] = omega arith
all_less f g h (ts ∷ tss) = both (tasks_sum f ts) (tasks_sum g ts) (trees_sum f tss) (trees_sum g tss) (sums_less f g h ts)
    (all_less f g h tss)
  where
    both : (a b x y : ℕ) → a ≤ b → x ≤ y → a + x ≤ b + y
    both a b x y e f = omega (arith, e, f)

-- only the task of the path skips
skip_named : (p : List ℕ) (n k : ℕ) (t : Task) → in_group (skips p n k) t.thread.who.path t.rest ≤ is_named p t
skip_named p n k t = by t.rest
  where
    inner : (b d : Bool) → cond d (cond b 0 1) 0 ≤ 1
    inner true true = omega arith
    inner false true = omega arith
    inner true false = omega arith
    inner false false = omega arith

    outer : (b : Bool) (i : ℕ) → i ≤ 1 → cond b i 0 ≤ one b
    outer true i h = h
    outer false i h = omega arith

    by : (r : Rest) → in_group (skips p n k) t.thread.who.path r ≤ is_named p t
    by (asleep w) = omega arith
    by (group l q gs) = outer (same_path p t.thread.who.path) (cond (is_run k gs) (cond (is_run n gs) 0 1) 0)
        (inner (is_run n gs) (is_run k gs))

module _ (s : State) (own other : Numbering) (own_sorts : Sorts own) (other_sorts : Sorts other) (left : ℕ)
    (own_fixed : Fixed own left) (other_fixed : Fixed other left) where
  abbrev A : List ℕ → List ℕ
  A = m.A s own other own_sorts other_sorts

  abbrev B : List ℕ → List ℕ
  B = m.B s own other own_sorts other_sorts

  abbrev Meet : Task → Task → Type 0
  Meet = m.Meet s own other own_sorts other_sorts

  -- ---- lines

  stands_met : (p q x y : List ℕ) → A p ≡ B x → A q ≡ B y → IsSome q → StandsBefore p q → StandsBefore x y
  stands_met p q x y e d some b = stood_as other other_sorts x y (m.some_met s own other own_sorts other_sorts q y d some)
      (subst (λ z. StandsBefore z (B y)) e (subst (StandsBefore (A p)) d (stands_as own own_sorts p q some b)))

  sits_met : (t u : Task) → Meet t u → Sits left t.thread.who → Sits left u.thread.who
  sits_met t u a b = record {
    named = m.who_met s own other own_sorts other_sorts t u a b.named;
    above = below_was other other_sorts left other_fixed [] u.thread.who.path
        (subst (NoneBelow left) (m.path_met s own other own_sorts other_sorts t u a)
        (below_as own own_sorts left own_fixed [] t.thread.who.path b.above));
  }

  behind_met : (t u : Task) → Meet t u → (ts us : List Task) → EachPair Meet ts us →
      Each (λ (v : Who). StandsBefore t.thread.who.path v.path) (whos ts) → Lined left (whos ts) →
      Each (λ (v : Who). StandsBefore u.thread.who.path v.path) (whos us)
  behind_met t u a [] [] b d l = tt
  behind_met t u a [] (y ∷ ys) b d l = absurd b
  behind_met t u a (x ∷ xs) [] b d l = absurd b
  behind_met t u a (x ∷ xs) (y ∷ ys) b d l = (
    stands_met t.thread.who.path x.thread.who.path u.thread.who.path y.thread.who.path
        (m.path_met s own other own_sorts other_sorts t u a) (m.path_met s own other own_sorts other_sorts x y b.0)
        (role_some x.thread.who.role x.thread.who l.0.named) d.0,
    behind_met t u a xs ys b.1 d.1 l.2,
  )

  lined_met : (ts us : List Task) → EachPair Meet ts us → Lined left (whos ts) → Lined left (whos us)
  lined_met [] [] a l = tt
  lined_met [] (u ∷ us) a l = absurd a
  lined_met (t ∷ ts) [] a l = absurd a
  lined_met (t ∷ ts) (u ∷ us) a l = (
    sits_met t u a.0 l.0,
    behind_met t u a.0 ts us a.1 l.1 l.2,
    lined_met ts us a.1 l.2,
  )

  -- ---- all

  module _ (tss uss : Forest) (pairs : EachPair (EachPair Meet) tss uss) (h : Orderly left tss) where
    abbrev Named : List ℕ → Type 0
    Named = m.Named s own other own_sorts other_sorts

    abbrev Arm : List ℕ → ℕ → Type 0
    Arm = m.Arm s own other own_sorts other_sorts

    named_some : (p : List ℕ) → (trees_sum (is_named p) uss ≡ 0) ⊎ Named p
    named_some p = trees_some Meet (is_named p) (Named p) (m.named_some s own other own_sorts other_sorts p) tss uss pairs

    named_same : (q p : List ℕ) → A q ≡ B p → trees_sum (is_named q) tss ≡ trees_sum (is_named p) uss
    named_same q p e = trees_same Meet (is_named q) (is_named p) (m.named_met s own other own_sorts other_sorts q p e) tss uss pairs

    last_met : (q p : List ℕ) → A q ≡ B p → ltn left (suc (last q)) ≡ true → ltn left (suc (last p)) ≡ true
    last_met q p e a = ltn_yes left (last p) (last_was other other_sorts left other_fixed [] p
        (subst (λ z. left ≤ last z) e (last_as own own_sorts left own_fixed [] q (less (ltn_is left (suc (last q)) a)))))
      where
        less : {i j : ℕ} → i < suc j → i ≤ j
        less l = omega (arith, l)

    names : (p : List ℕ) → trees_sum (is_named p) uss ≤ one (ltn left (suc (last p)))
    names p = by (named_some p)
      where
        by : (trees_sum (is_named p) uss ≡ 0) ⊎ Named p → trees_sum (is_named p) uss ≤ one (ltn left (suc (last p)))
        by (inl e) = none_most (trees_sum (is_named p) uss) (one (ltn left (suc (last p)))) e
        by (inr q) = further (sym (named_same q.0 p q.1)) (longer (h.names q.0)
            (one_less (ltn left (suc (last q.0))) (ltn left (suc (last p))) (last_met q.0 p q.1)))

    name_most : (p : List ℕ) → trees_sum (is_named p) uss ≤ 1
    name_most p = longer (names p) (one_most (ltn left (suc (last p))))

    arms_in : (p : List ℕ) → IsSome p → (k : ℕ) (ts us : List Task) → EachPair Meet ts us →
        ((q : List ℕ) → IsSome q → (n : ℕ) → tasks_sum (awaits q n) ts ≤ tasks_sum (is_named (q ++ n ∷ [])) ts) →
        tasks_sum (awaits p k) us ≤ tasks_sum (is_named (p ++ k ∷ [])) us
    arms_in p some k ts us a less =
        by (tasks_some Meet (awaits p k) (Arm p k) (m.arms_some s own other own_sorts other_sorts p k) ts us a)
      where
        by : (tasks_sum (awaits p k) us ≡ 0) ⊎ Arm p k → tasks_sum (awaits p k) us ≤ tasks_sum (is_named (p ++ k ∷ [])) us
        by (inl e) = none_most (tasks_sum (awaits p k) us) (tasks_sum (is_named (p ++ k ∷ [])) us) e
        by (inr q) = further
            (sym (tasks_same Meet (awaits q.0 q.1) (awaits p k) (m.arms_met s own other own_sorts other_sorts q.0 p q.1 k q.2 q.3)
            ts us a))
            (most_is (less q.0 (m.some_was s own other own_sorts other_sorts q.0 p q.2 some) q.1)
            (tasks_same Meet (is_named (q.0 ++ q.1 ∷ [])) (is_named (p ++ k ∷ [])) (m.named_met s own other own_sorts other_sorts
            (q.0 ++ q.1 ∷ []) (p ++ k ∷ []) (m.ends_met s own other own_sorts other_sorts q.0 p q.1 k q.2 q.3)) ts us a))

    all_arms : (p : List ℕ) → IsSome p → (k : ℕ) (xss yss : Forest) → EachPair (EachPair Meet) xss yss →
        ((q : List ℕ) → IsSome q → (n : ℕ) →
        Each (λ ts. tasks_sum (awaits q n) ts ≤ tasks_sum (is_named (q ++ n ∷ [])) ts) xss) →
        Each (λ us. tasks_sum (awaits p k) us ≤ tasks_sum (is_named (p ++ k ∷ [])) us) yss
    all_arms p some k [] [] a less = tt
    all_arms p some k [] (us ∷ yss) a less = absurd a
    all_arms p some k (ts ∷ xss) [] a less = absurd a
    all_arms p some k (ts ∷ xss) (us ∷ yss) a less = (
      arms_in p some k ts us a.0 (λ q is n. (less q is n).0),
      all_arms p some k xss yss a.1 (λ q is n. (less q is n).1),
    )

    -- ---- arms and other children

    abbrev skip : List ℕ → ℕ → ℕ → Task → ℕ
    skip p n k t = in_group (skips p n k) t.thread.who.path t.rest

    younger : (p : List ℕ) → IsSome p → (n k : ℕ) → n ≤ k →
        trees_sum (weight (λ path. one (same_path (p ++ n ∷ []) path)) (skips p n k)) uss ≤ 1
    younger p some n k le = by (trees_some Meet (skip p n k) (Arm p k) (m.skips_some s own other own_sorts other_sorts p n k)
        tss uss pairs) (named_some (p ++ n ∷ []))
      where
        parts : trees_sum (weight (λ path. one (same_path (p ++ n ∷ []) path)) (skips p n k)) uss ≡
            trees_sum (skip p n k) uss + trees_sum (is_named (p ++ n ∷ [])) uss
        parts = weights_sum (skip p n k) (is_named (p ++ n ∷ [])) uss

        first_most : {i j l : ℕ} → i ≡ j + l → j ≡ 0 → l ≤ 1 → i ≤ 1
        first_most e f g = omega (arith, e, f, g)

        second_most : {i j l : ℕ} → i ≡ j + l → l ≡ 0 → j ≤ 1 → i ≤ 1
        second_most e f g = omega (arith, e, f, g)

        -- the arm's task and the other child have one parent
        one_parent : (q : Arm p k) (r : List ℕ) (j : ℕ) → A (r ++ j ∷ []) ≡ B (p ++ n ∷ []) →
            trees_sum (weight (λ path. one (same_path (p ++ n ∷ []) path)) (skips p n k)) uss ≤ 1
        one_parent q r j e =
            let is = end_is (A r) (B p) (own r j) (other p n) (sym (path_end own (stay_apart own own_sorts) r j) ∙
            (e ∙ path_end other (stay_apart other other_sorts) p n)) in
            let same : r ≡ q.0 = one_path own own_sorts r q.0 (is.0 ∙ sym q.2) in
            let number : own q.0 j ≡ other p n = subst (λ z. own z j ≡ other p n) same is.1 in
            let is_some = m.some_was s own other own_sorts other_sorts q.0 p q.2 some in
            let older : j ≤ q.1 = least_at own own_sorts q.0 is_some j q.1
            (subst (λ z. z ≤ own q.0 q.1) (sym number) (subst (λ z. other p n ≤ z) (sym q.3)
            (most_at other other_sorts p some n k le))) in
            further (sym (trees_same Meet (weight (λ path. one (same_path (q.0 ++ j ∷ []) path)) (skips q.0 j q.1))
            (weight (λ path. one (same_path (p ++ n ∷ []) path)) (skips p n k)) (λ t u a. both
            (m.skips_met s own other own_sorts other_sorts q.0 p j n q.1 k q.2 number q.3 t u a)
            (m.named_met s own other own_sorts other_sorts (q.0 ++ j ∷ []) (p ++ n ∷ [])
            (m.ends_met s own other own_sorts other_sorts q.0 p j n q.2 number) t u a)) tss uss pairs))
            (h.younger q.0 is_some j q.1 older)
          where
            both : {a b x y : ℕ} → a ≡ b → x ≡ y → a + x ≡ b + y
            both e d = omega (arith, e, d)

        by : (trees_sum (skip p n k) uss ≡ 0) ⊎ Arm p k → (trees_sum (is_named (p ++ n ∷ [])) uss ≡ 0) ⊎ Named (p ++ n ∷ []) →
            trees_sum (weight (λ path. one (same_path (p ++ n ∷ []) path)) (skips p n k)) uss ≤ 1
        by (inl e) b = first_most parts e (name_most (p ++ n ∷ []))
        by (inr q) (inl e) = second_most parts e (longer (all_less (skip p n k) (is_named p) (skip_named p n k) uss) (name_most p))
        by (inr q) (inr r) = let ends = path_ends r.0 (m.some_was s own other own_sorts other_sorts r.0 (p ++ n ∷ []) r.1
            (end_some p n)) in
            one_parent q ends.0 ends.1 (ap A (sym ends.2) ∙ r.1)
          where
            end_some : (x : List ℕ) (j : ℕ) → IsSome (x ++ j ∷ [])
            end_some [] j = tt
            end_some (i ∷ x) j = tt

    pub orderly_met : Orderly left uss
    orderly_met = record {
      lines = m.pair_each (EachPair Meet) (λ ts. Lined left (whos ts)) (λ us. Lined left (whos us)) (λ ts us a l. lined_met ts us a l)
          tss uss pairs h.lines;
      names = names;
      arms = λ p some k. all_arms p some k tss uss pairs h.arms;
      younger = younger;
    }
