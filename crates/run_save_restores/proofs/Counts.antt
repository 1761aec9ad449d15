-- Words on lists: parts that stand behind others, and how many pass a test.
use Rattle.std.proofs.Common.{◌≡◌, ℕ, zero, suc, ◌+◌, ◌≤◌, Bool, true, false, cond, ◌&&◌, List, [], ◌∷◌, ◌++◌, length}
use Rattle.std.proofs.Common.{Some, slice_get, refl, ap, subst, ◌∙◌, arith}
use Rattle.std.proofs.lemmas.Bool.{or_from}
use Rattle.run_save_shots.specs.Lists.{Each, EachAt, EachTwo, count}
use Rattle.run_save_shots.specs.Kept.{KeptTask}
use Rattle.run_save_shots.specs.Fitting.{frames_in}
use Rattle.run_save_shots.proofs.Lists.{each_middle}
use Rattle.run_save_format.specs.Whole.{any}

-- ---- places

-- ---- what holds of each element

pub any_none : {A : Type 0} (test : A → Bool) (xs : List A) → Each (λ x. test x ≡ false) xs → any test xs ≡ false
any_none test [] p = refl
any_none test (x ∷ xs) p = or_from (test x) (any test xs) p.0 (any_none test xs p.1)

pub each_here : {A : Type 0} (P : A → Type 0) {all : List A} (before : List A) (t : A) (ts : List A) → all ≡ before ++ t ∷ ts →
    Each P all → P t
each_here P before t ts e p = each_middle P before t ts (subst (Each P) e p)

at_middle : {A : Type 0} (P : ℕ → A → Type 0) (first at : ℕ) (before : List A) (t : A) (ts : List A) → first + length before ≡ at →
    EachAt P first (before ++ t ∷ ts) → P at t
at_middle P first at [] t ts e p = let same : first ≡ at = omega (arith, e) in subst (λ n. P n t) same p.0
at_middle P first at (x ∷ before) t ts e p =
    let same : suc first + length before ≡ at = omega (arith, e) in at_middle P (suc first) at before t ts same p.1

pub at_here : {A : Type 0} (P : ℕ → A → Type 0) {all : List A} (before : List A) (t : A) (ts : List A) → all ≡ before ++ t ∷ ts →
    EachAt P 0 all → P (length before) t
at_here P before t ts e p = at_middle P 0 (length before) before t ts (omega arith) (subst (EachAt P 0) e p)

at_get : {A : Type 0} (P : ℕ → A → Type 0) (first n at : ℕ) (xs : List A) (x : A) → first + n ≡ at → slice_get xs n ≡ Some x →
    EachAt P first xs → P at x
at_get P first n at [] x e there p = absurd (cc)
at_get P first zero at (y ∷ xs) x e there p =
    let same : first ≡ at = omega (arith, e) in
    let one : y ≡ x = cc in
    subst (λ n. P n x) same (subst (P first) one p.0)
at_get P first (suc n) at (y ∷ xs) x e there p =
    let same : suc first + n ≡ at = omega (arith, e) in at_get P (suc first) n at xs x same there p.1

pub at_place : {A : Type 0} (P : ℕ → A → Type 0) (n : ℕ) (xs : List A) (x : A) → slice_get xs n ≡ Some x → EachAt P 0 xs → P n x
at_place P n xs x there p = at_get P 0 n n xs x (omega arith) there p

two_middle : {A : Type 0} (R : A → A → Type 0) (before : List A) (t : A) (ts : List A) → EachTwo R (before ++ t ∷ ts) →
    Each (λ u. R u t) before
two_middle R [] t ts p = tt
two_middle R (x ∷ before) t ts p = (each_middle (R x) before t ts p.0, two_middle R before t ts p.1)

pub two_here : {A : Type 0} (R : A → A → Type 0) {all : List A} (before : List A) (t : A) (ts : List A) → all ≡ before ++ t ∷ ts →
    EachTwo R all → Each (λ u. R u t) before
two_here R before t ts e p = two_middle R before t ts (subst (EachTwo R) e p)

-- ---- counts

pub each_fails : {A : Type 0} (test : A → Bool) (xs : List A) → count test xs ≡ 0 → Each (λ x. test x ≡ false) xs
each_fails test [] e = tt
each_fails test (x ∷ xs) e = two (test x) refl (each_fails test xs) e
  where
    two : (b : Bool) → test x ≡ b → (count test xs ≡ 0 → Each (λ x. test x ≡ false) xs) →
        cond b (suc (count test xs)) (count test xs) ≡ 0 → (test x ≡ false) × Each (λ x. test x ≡ false) xs
    two true same on f = absurd (omega (arith, f))
    two false same on f = (same, on f)

count_parts : {A : Type 0} (test : A → Bool) (xs ys : List A) → count test (xs ++ ys) ≡ count test xs + count test ys
count_parts test [] ys = omega arith
count_parts test (x ∷ xs) ys = two (test x) (count_parts test xs ys)
  where
    two : (b : Bool) → count test (xs ++ ys) ≡ count test xs + count test ys →
        cond b (suc (count test (xs ++ ys))) (count test (xs ++ ys)) ≡ cond b (suc (count test xs)) (count test xs) + count test ys
    two true e = omega (arith, e)
    two false e = e

-- where at most one passes, and this one does, none before it does
pub alone : {A : Type 0} (test : A → Bool) {all : List A} (before : List A) (t : A) (ts : List A) → all ≡ before ++ t ∷ ts →
    count test all ≤ 1 → (test t && any test before) ≡ false
alone test {all} before t ts e few = two (test t) refl
  where
    sum : count test all ≡ count test before + count test (t ∷ ts)
    sum = ap (count test) e ∙ count_parts test before (t ∷ ts)

    two : (b : Bool) → test t ≡ b → (b && any test before) ≡ false
    two true same =
        (let one : count test (t ∷ ts) ≡ suc (count test ts) = ap (λ b. cond b (suc (count test ts)) (count test ts)) same in
        let none : count test before ≡ 0 = omega (arith, sum, one, few) in
        any_none test before (each_fails test before none))
    two false same = refl

-- ---- frames

frames_parts : (before ts : List KeptTask) → frames_in (before ++ ts) ≡ frames_in before + frames_in ts
frames_parts [] ts = omega arith
frames_parts (u ∷ before) ts = let rest = frames_parts before ts in omega arith

pub frames_last : (before : List KeptTask) (t : KeptTask) → frames_in (before ++ t ∷ []) ≡ frames_in before + length t.frames
frames_last before t = let sum = frames_parts before (t ∷ []) in omega arith

pub frames_here : {all : List KeptTask} (before : List KeptTask) (t : KeptTask) (ts : List KeptTask) → all ≡ before ++ t ∷ ts →
    frames_in before + length t.frames ≤ frames_in all
frames_here {all} before t ts e =
    let sum : frames_in all ≡ frames_in before + (length t.frames + frames_in ts) = ap frames_in e ∙ frames_parts before (t ∷ ts) in
    omega arith
