-- Paths of tasks, and the arms of groups.
use Rattle.std.proofs.Common.{◌≡◌, ℕ, suc, ◌+◌, ◌≤◌, ◌<◌, length, List, [], ◌∷◌, ◌++◌, Bool, true, false, cond, refl, sym, subst, ap}
use Rattle.std.proofs.Common.{◌∙◌}
use Rattle.std.proofs.Common.{arith, ◌⊎◌}
use mathlib.Core.Logic.{inl, inr}
use Rattle.std.proofs.lemmas.Bool.{cases_Bool}
use Rattle.verse_base.proofs.Facts.{clash}
use Rattle.verse_value.specs.Val.{Val}
use Rattle.verse_meaning_state.specs.Waits.{eqn}
use Rattle.verse_meaning_state.proofs.Numbers.{eqn_is, eqn_same, eqn_not}
use Rattle.verse_code_machine.specs.Tasks.{Part, did, runs, same_path, starts, since, beneath_arms}
use Rattle.verse_code_machine.specs.Ends.{is_run, with_did}
use Rattle.verse_code_machine.proofs.Paths.{same_is, same_self}
use Rattle.verse_code_machine_parents.proofs.Lists.{no_both}
use Rattle.run_save_shots.proofs.Lists.{none_end}
use Rattle.run_save_fits.specs.Held.{IsSome, one}
use Rattle.run_save_fits.proofs.Lasting.{none_starts, none_since}
use Rattle.run_save_kept.specs.Orders.{Before, NoneBelow, last, runs_in}

-- ---- paths

pub is_same : (p q : List ℕ) → p ≡ q → same_path p q ≡ true
is_same p q e = subst (λ q. same_path p q ≡ true) e (same_self p)

pub not_same : (p q : List ℕ) → (p ≡ q → ⊥) → same_path p q ≡ false
not_same p q other = by_answer (same_path p q) refl
  where
    by_answer : (b : Bool) → same_path p q ≡ b → b ≡ false
    by_answer true e = absurd (other (same_is p q e))
    by_answer false e = refl

tail_is : {i j : ℕ} {p q : List ℕ} → i ∷ p ≡ j ∷ q → p ≡ q
tail_is e = cc

head_is : {i j : ℕ} {p q : List ℕ} → i ∷ p ≡ j ∷ q → i ≡ j
head_is e = cc

pub end_is : (a b : List ℕ) (n k : ℕ) → a ++ n ∷ [] ≡ b ++ k ∷ [] → (a ≡ b) × (n ≡ k)
end_is [] [] n k e = (refl, head_is e)
end_is [] (j ∷ b) n k e = none_end b k (tail_is e)
end_is (i ∷ a) [] n k e = none_end a n (sym (tail_is e))
end_is (i ∷ a) (j ∷ b) n k e = let h = end_is a b n k (tail_is e) in (both (head_is e) h.0, h.1)
  where
    both : {i j : ℕ} {p q : List ℕ} → i ≡ j → p ≡ q → i ∷ p ≡ j ∷ q
    both e f = cc

pub last_end : (a : List ℕ) (n : ℕ) → last (a ++ n ∷ []) ≡ n
last_end [] n = refl
last_end (i ∷ []) n = refl
last_end (i ∷ j ∷ a) n = last_end (j ∷ a) n

-- a path of one number is no part's
pub root_no_part : {A : Type 0} (a : List ℕ) (n k : ℕ) → IsSome a → a ++ n ∷ [] ≡ k ∷ [] → A
root_no_part [] n k s e = absurd s
root_no_part (i ∷ a) n k s e = none_end a n (sym (tail_is e))

pub shorter_not : (a b : List ℕ) → length b < length a → same_path a b ≡ false
shorter_not a b h = not_same a b (λ e. no (length a) (length b) h (ap length e))
  where
    no : (i j : ℕ) → j < i → i ≡ j → ⊥
    no i j h e = omega (arith, h, e)

-- ---- numbers

-- ---- which tasks go

-- what goes with a task above it, or is a child of the one that stays
pub record Rises (a : List ℕ) (f : List ℕ → Bool) : Type 0 where
  pub up : (x : List ℕ) (n : ℕ) → f (x ++ n ∷ []) ≡ true → (f x ≡ true) ⊎ (x ≡ a)

cond_false : {A : Type 0} (b c : Bool) → c ≡ false → cond b c false ≡ true → A
cond_false true c e f = clash c f e
cond_false false c e f = no_both (sym f)

since_up : (a : List ℕ) (b : ℕ) (x : List ℕ) (n : ℕ) → since a b (x ++ n ∷ []) ≡ true → (since a b x ≡ true) ⊎ (x ≡ a)
since_up [] b [] n e = inr refl
since_up [] b (k ∷ x) n e = inl e
since_up (i ∷ a) b [] n e = cond_false (eqn i n) (since a b []) (none_since a b) e
since_up (i ∷ a) b (j ∷ x) n e = by_test (cases_Bool (eqn i j)) (since_up a b x n)
  where
    further : eqn i j ≡ true → (since a b x ≡ true) ⊎ (x ≡ a) → (cond (eqn i j) (since a b x) false ≡ true) ⊎ (j ∷ x ≡ i ∷ a)
    further f (inl g) = inl (subst (λ t. cond t (since a b x) false ≡ true) (sym f) g)
    further f (inr g) = inr (both (eqn_is i j f) g)
      where
        both : {i j : ℕ} {p q : List ℕ} → i ≡ j → p ≡ q → j ∷ p ≡ i ∷ q
        both e f = cc

    by_test : (eqn i j ≡ true) ⊎ (eqn i j ≡ false) → (since a b (x ++ n ∷ []) ≡ true → (since a b x ≡ true) ⊎ (x ≡ a)) →
        (cond (eqn i j) (since a b x) false ≡ true) ⊎ (j ∷ x ≡ i ∷ a)
    by_test (inl f) h = further f (h (subst (λ t. cond t (since a b (x ++ n ∷ [])) false ≡ true) f e))
    by_test (inr f) h = no_both (sym (subst (λ t. cond t (since a b (x ++ n ∷ [])) false ≡ true) f e))

pub since_rises : (a : List ℕ) (b : ℕ) → Rises a (since a b)
since_rises a b = record { up = since_up a b }

start_up : (a : List ℕ) (k : ℕ) (x : List ℕ) (n : ℕ) → starts (a ++ k ∷ []) (x ++ n ∷ []) ≡ true → (starts (a ++ k ∷ []) x ≡ true) ⊎ (x ≡ a)
start_up [] k [] n e = inr refl
start_up [] k (j ∷ x) n e = inl e
start_up (i ∷ a) k [] n e = cond_false (eqn i n) (starts (a ++ k ∷ []) []) (none_starts a k) e
start_up (i ∷ a) k (j ∷ x) n e = by_test (cases_Bool (eqn i j)) (start_up a k x n)
  where
    further : eqn i j ≡ true → (starts (a ++ k ∷ []) x ≡ true) ⊎ (x ≡ a) →
        (cond (eqn i j) (starts (a ++ k ∷ []) x) false ≡ true) ⊎ (j ∷ x ≡ i ∷ a)
    further f (inl g) = inl (subst (λ t. cond t (starts (a ++ k ∷ []) x) false ≡ true) (sym f) g)
    further f (inr g) = inr (both (eqn_is i j f) g)
      where
        both : {i j : ℕ} {p q : List ℕ} → i ≡ j → p ≡ q → j ∷ p ≡ i ∷ q
        both e f = cc

    by_test : (eqn i j ≡ true) ⊎ (eqn i j ≡ false) →
        (starts (a ++ k ∷ []) (x ++ n ∷ []) ≡ true → (starts (a ++ k ∷ []) x ≡ true) ⊎ (x ≡ a)) →
        (cond (eqn i j) (starts (a ++ k ∷ []) x) false ≡ true) ⊎ (j ∷ x ≡ i ∷ a)
    by_test (inl f) h = further f (h (subst (λ t. cond t (starts (a ++ k ∷ []) (x ++ n ∷ [])) false ≡ true) f e))
    by_test (inr f) h = no_both (sym (subst (λ t. cond t (starts (a ++ k ∷ []) (x ++ n ∷ [])) false ≡ true) f e))

arms_up : (a : List ℕ) (gs : List Part) (x : List ℕ) (n : ℕ) → beneath_arms a gs (x ++ n ∷ []) ≡ true → (beneath_arms a gs x ≡ true) ⊎
    (x ≡ a)
arms_up a [] x n e = no_both (sym e)
arms_up a (did v ∷ gs) x n e = arms_up a gs x n e
arms_up a (runs k ∷ gs) x n e = by_test (cases_Bool (starts (a ++ k ∷ []) (x ++ n ∷ []))) (arms_up a gs x n)
  where
    later : (b : Bool) → (beneath_arms a gs x ≡ true) ⊎ (x ≡ a) → (cond b true (beneath_arms a gs x) ≡ true) ⊎ (x ≡ a)
    later true g = inl refl
    later false g = g

    first : (starts (a ++ k ∷ []) x ≡ true) ⊎ (x ≡ a) → (beneath_arms a (runs k ∷ gs) x ≡ true) ⊎ (x ≡ a)
    first (inl g) = inl (subst (λ t. cond t true (beneath_arms a gs x) ≡ true) (sym g) refl)
    first (inr g) = inr g

    by_test : (starts (a ++ k ∷ []) (x ++ n ∷ []) ≡ true) ⊎ (starts (a ++ k ∷ []) (x ++ n ∷ []) ≡ false) →
        (beneath_arms a gs (x ++ n ∷ []) ≡ true → (beneath_arms a gs x ≡ true) ⊎ (x ≡ a)) → (beneath_arms a (runs k ∷ gs) x ≡ true) ⊎
        (x ≡ a)
    by_test (inl f) h = first (start_up a k x n f)
    by_test (inr f) h = later (starts (a ++ k ∷ []) x) (h (subst (λ t. cond t true (beneath_arms a gs (x ++ n ∷ [])) ≡ true) f e))

pub arms_rise : (a : List ℕ) (gs : List Part) → Rises a (beneath_arms a gs)
arms_rise a gs = record { up = arms_up a gs }

-- ---- the order of paths

pub below_less : (l k : ℕ) (p : List ℕ) → l ≤ k → NoneBelow k p → NoneBelow l p
below_less l k [] h a = tt
below_less l k (n ∷ p) h a = (lower l k n h a.0, below_less l k p h a.1)
  where
    lower : (l k n : ℕ) → l ≤ k → k ≤ n → l ≤ n
    lower l k n h e = omega (arith, h, e)

pub below_end : (l : ℕ) (p : List ℕ) → NoneBelow l p → NoneBelow l (p ++ l ∷ [])
below_end l [] a = (omega arith, tt)
below_end l (n ∷ p) a = (a.0, below_end l p a.1)

-- a child stands before its parent
pub child_before : (a : List ℕ) (l : ℕ) → Before (a ++ l ∷ []) a
child_before [] l = tt
child_before (i ∷ a) l = inr (refl, child_before a l)

-- a new child stands behind what stands before its parent
pub before_child : (x a : List ℕ) (l : ℕ) → NoneBelow (suc l) x → Before x a → Before x (a ++ l ∷ [])
before_child [] a l h b = absurd b
before_child (i ∷ x) [] l h b = inl (h.0)
before_child (i ∷ x) (j ∷ a) l h (inl e) = inl e
before_child (i ∷ x) (j ∷ a) l h (inr e) = inr (e.0, before_child x a l h.1 e.1)

-- and before what stands behind it
pub child_behind : (a x : List ℕ) (l : ℕ) → Before a x → Before (a ++ l ∷ []) x
child_behind [] x l b = absurd b
child_behind (i ∷ a) [] l b = tt
child_behind (i ∷ a) (j ∷ x) l (inl e) = inl e
child_behind (i ∷ a) (j ∷ x) l (inr e) = inr (e.0, child_behind a x l e.1)

-- of two siblings the earlier one has the greater number
pub siblings_fall : (a : List ℕ) (n k : ℕ) → Before (a ++ n ∷ []) (a ++ k ∷ []) → k < n
siblings_fall [] n k (inl e) = e
siblings_fall [] n k (inr e) = absurd e.1
siblings_fall (i ∷ a) n k (inl e) = absurd (no i e)
  where
    no : (i : ℕ) → i < i → ⊥
    no i e = omega (arith, e)
siblings_fall (i ∷ a) n k (inr e) = siblings_fall a n k e.1

-- ---- arms

pub runs_end : (n k : ℕ) (gs : List Part) → runs_in n (gs ++ runs k ∷ []) ≡ runs_in n gs + one (eqn n k)
runs_end n k [] = omega arith
runs_end n k (did v ∷ gs) = runs_end n k gs
runs_end n k (runs j ∷ gs) = let h = runs_end n k gs in omega (arith, h)

pub runs_did : (n : ℕ) (v : Val) (gs : List Part) → runs_in n (gs ++ did v ∷ []) ≡ runs_in n gs
runs_did n v [] = refl
runs_did n v (did w ∷ gs) = runs_did n v gs
runs_did n v (runs j ∷ gs) = ap (λ i. one (eqn n j) + i) (runs_did n v gs)

pub no_run : (n : ℕ) (gs : List Part) → is_run n gs ≡ false → runs_in n gs ≡ 0
no_run n [] e = refl
no_run n (did v ∷ gs) e = no_run n gs e
no_run n (runs j ∷ gs) e = by_test (eqn n j) (no_run n gs) e
  where
    by_test : (b : Bool) → (is_run n gs ≡ false → runs_in n gs ≡ 0) → cond b true (is_run n gs) ≡ false → one b + runs_in n gs ≡ 0
    by_test true h e = no_both e
    by_test false h e = let g = h e in omega (arith, g)

-- one fewer
pub with_fewer : (n : ℕ) (v : Val) (gs : List Part) → is_run n gs ≡ true → suc (runs_in n (with_did n v gs)) ≡ runs_in n gs
with_fewer n v [] e = no_both (sym e)
with_fewer n v (did w ∷ gs) e = with_fewer n v gs e
with_fewer n v (runs j ∷ gs) e = by_test (eqn n j) refl (λ f. with_fewer n v gs f) e
  where
    by_test : (b : Bool) → eqn n j ≡ b → (is_run n gs ≡ true → suc (runs_in n (with_did n v gs)) ≡ runs_in n gs) →
        cond b true (is_run n gs) ≡ true → suc (runs_in n (cond b (did v ∷ gs) (runs j ∷ with_did n v gs))) ≡ one b + runs_in n gs
    by_test true f h e = omega arith
    by_test false f h e = let g = h e in let i = ap one f in omega (arith, g, i)

pub with_most : (k n : ℕ) (v : Val) (gs : List Part) → runs_in n (with_did k v gs) ≤ runs_in n gs
with_most k n v [] = omega arith
with_most k n v (did w ∷ gs) = with_most k n v gs
with_most k n v (runs j ∷ gs) = by_test (eqn k j) (with_most k n v gs)
  where
    by_test : (b : Bool) → runs_in n (with_did k v gs) ≤ runs_in n gs →
        runs_in n (cond b (did v ∷ gs) (runs j ∷ with_did k v gs)) ≤ one (eqn n j) + runs_in n gs
    by_test true h = omega arith
    by_test false h = omega (arith, h)

-- which arms run
pub run_end : (n k : ℕ) (gs : List Part) → (n ≡ k → ⊥) → is_run n (gs ++ runs k ∷ []) ≡ is_run n gs
run_end n k [] other = ap (λ b. cond b true false) (eqn_not n k other)
run_end n k (did v ∷ gs) other = run_end n k gs other
run_end n k (runs j ∷ gs) other = ap (cond (eqn n j) true) (run_end n k gs other)

pub run_new : (k : ℕ) (gs : List Part) → is_run k (gs ++ runs k ∷ []) ≡ true
run_new k [] = ap (λ b. cond b true false) (eqn_same k)
run_new k (did v ∷ gs) = run_new k gs
run_new k (runs j ∷ gs) = by_test (eqn k j) (run_new k gs)
  where
    by_test : (b : Bool) → is_run k (gs ++ runs k ∷ []) ≡ true → cond b true (is_run k (gs ++ runs k ∷ [])) ≡ true
    by_test true h = refl
    by_test false h = h

pub run_did : (n : ℕ) (v : Val) (gs : List Part) → is_run n (gs ++ did v ∷ []) ≡ is_run n gs
run_did n v [] = refl
run_did n v (did w ∷ gs) = run_did n v gs
run_did n v (runs j ∷ gs) = ap (cond (eqn n j) true) (run_did n v gs)

-- an arm that ran runs
pub run_more : (n k : ℕ) (gs : List Part) → is_run n gs ≡ true → is_run n (gs ++ runs k ∷ []) ≡ true
run_more n k [] e = no_both (sym e)
run_more n k (did v ∷ gs) e = run_more n k gs e
run_more n k (runs j ∷ gs) e = by_test (eqn n j) (run_more n k gs) e
  where
    by_test : (b : Bool) → (is_run n gs ≡ true → is_run n (gs ++ runs k ∷ []) ≡ true) → cond b true (is_run n gs) ≡ true →
        cond b true (is_run n (gs ++ runs k ∷ [])) ≡ true
    by_test true h e = refl
    by_test false h e = h e

pub with_other : (n k : ℕ) (v : Val) (gs : List Part) → (n ≡ k → ⊥) → is_run n (with_did k v gs) ≡ is_run n gs
with_other n k v [] other = refl
with_other n k v (did w ∷ gs) other = with_other n k v gs other
with_other n k v (runs j ∷ gs) other = by_test (eqn k j) refl (with_other n k v gs other)
  where
    by_test : (b : Bool) → eqn k j ≡ b → is_run n (with_did k v gs) ≡ is_run n gs →
        is_run n (cond b (did v ∷ gs) (runs j ∷ with_did k v gs)) ≡ cond (eqn n j) true (is_run n gs)
    by_test true f h = ap (λ b. cond b true (is_run n gs)) (sym (eqn_not n j (λ e. other (e ∙ sym (eqn_is k j f)))))
    by_test false f h = ap (cond (eqn n j) true) h

pub with_run : (n k : ℕ) (v : Val) (gs : List Part) → is_run n (with_did k v gs) ≡ true → is_run n gs ≡ true
with_run n k v [] e = e
with_run n k v (did w ∷ gs) e = with_run n k v gs e
with_run n k v (runs j ∷ gs) e = by_test (eqn k j) (cases_Bool (eqn n j)) (with_run n k v gs) e
  where
    by_test : (b : Bool) → (eqn n j ≡ true) ⊎ (eqn n j ≡ false) → (is_run n (with_did k v gs) ≡ true → is_run n gs ≡ true) →
        is_run n (cond b (did v ∷ gs) (runs j ∷ with_did k v gs)) ≡ true → cond (eqn n j) true (is_run n gs) ≡ true
    by_test b (inl f) h e = ap (λ t. cond t true (is_run n gs)) f
    by_test true (inr f) h e = subst (λ t. cond t true (is_run n gs) ≡ true) (sym f) e
    by_test false (inr f) h e = subst (λ t. cond t true (is_run n gs) ≡ true) (sym f)
        (h (subst (λ t. cond t true (is_run n (with_did k v gs)) ≡ true) f e))
