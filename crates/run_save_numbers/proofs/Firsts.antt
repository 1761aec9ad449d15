-- The number of the first task behind a place that passes a test.
use Rattle.std.proofs.Common.{◌≡◌, ℕ, zero, suc, ◌+◌, ◌*◌, ◌≤◌, Bool, true, false, ◌&&◌, ◌||◌, cond, eqb, max, List, [], ◌∷◌, ◌++◌, length}
use Rattle.std.proofs.Common.{Option, Some, None, refl, sym, ap, ◌∙◌, arith}
use Rattle.std.proofs.Math.Nat.{mul-le-mul_left}
use Rattle.std.proofs.lemmas.Bool.{leb-true, leb-false, le-leb, lt-leb, eqb-true, eqb-false, eq-eqb, ne_eqb}
use Rattle.std.specs.Prelude.{nat_le}
use Rattle.task_tree.specs.Tasks.{is_behind}
use Rattle.task_tree.specs.declared.tasks.Role.{Role}
use Rattle.task_tree.specs.declared.tasks.Role.TheVariants.{Root, Arm, Behind}
use Rattle.run_save_shots.specs.Lists.{from}
use Rattle.run_save_shots.specs.Kept.{KeptTask, Kept}
use Rattle.run_save_shots.specs.Fitting.{is_child_of}
use Rattle.run_save_shots.specs.Naming.{number_at, is_since, is_begun_since}

-- in the background of the frame of this depth alone
abbrev pub is_at : (at depth : ℕ) → KeptTask → Bool
is_at at depth t = is_child_of at t && is_behind depth t.role

module _ (s : Kept) where
  abbrev pub first : (KeptTask → Bool) → List KeptTask → ℕ
  first test ts = number_at s (from test ts)

  pub first_step : (test : KeptTask → Bool) (t : KeptTask) (ts : List KeptTask) →
      first test (t ∷ ts) ≡ cond (test t) (number_at s (t ∷ ts)) (first test ts)
  first_step test t ts = by (test t) refl
    where
      by : (b : Bool) → test t ≡ b → first test (t ∷ ts) ≡ cond (test t) (number_at s (t ∷ ts)) (first test ts)
      by true e = rw e refl
      by false e = rw e refl

  pub number_more : (t : KeptTask) (ts : List KeptTask) → number_at s ts ≤ number_at s (t ∷ ts)
  number_more t ts =
      let l : suc s.spent * length ts ≤ suc s.spent * suc (length ts) = mul-le-mul_left (suc s.spent) (omega arith) in omega (arith, l)

  pub first_least : (test : KeptTask → Bool) (ts : List KeptTask) → first test ts ≤ number_at s ts
  first_least test [] = omega arith
  first_least test (t ∷ ts) = by (test t) refl (first_least test ts) (number_more t ts)
    where
      by : (b : Bool) → test t ≡ b → first test ts ≤ number_at s ts → number_at s ts ≤ number_at s (t ∷ ts) →
          first test (t ∷ ts) ≤ number_at s (t ∷ ts)
      by true e l m = rw e (omega arith)
      by false e l m = rw e (omega (arith, l, m))

  -- of two tests
  pub first_or : (p q r : KeptTask → Bool) → ((t : KeptTask) → r t ≡ (p t || q t)) → (ts : List KeptTask) →
      first r ts ≡ max (first p ts) (first q ts)
  first_or p q r h [] = omega arith
  first_or p q r h (t ∷ ts) =
      first_step r t ts ∙ (ap (λ b. cond b (number_at s (t ∷ ts)) (first r ts)) (h t) ∙
      (by (p t) (q t) (first_or p q r h ts) (first_least p ts) (first_least q ts) (number_more t ts) ∙
      sym (ap (λ n. max n (first q (t ∷ ts))) (first_step p t ts) ∙
      ap (λ n. max (cond (p t) (number_at s (t ∷ ts)) (first p ts)) n) (first_step q t ts))))
    where
      by : (a b : Bool) → first r ts ≡ max (first p ts) (first q ts) → first p ts ≤ number_at s ts → first q ts ≤ number_at s ts →
          number_at s ts ≤ number_at s (t ∷ ts) → cond (a || b) (number_at s (t ∷ ts)) (first r ts) ≡
          max (cond a (number_at s (t ∷ ts)) (first p ts)) (cond b (number_at s (t ∷ ts)) (first q ts))
      by true true e l m n = omega arith
      by true false e l m n = omega (arith, m, n)
      by false true e l m n = omega (arith, l, n)
      by false false e l m n = e

-- a child since a frame stands behind it, or began since the frame above it
pub since_parts : (at depth : ℕ) (t : KeptTask) → is_begun_since at depth t ≡ (is_begun_since at (suc depth) t || is_at at depth t)
since_parts at depth t = by (is_child_of at t) t.role
  where
    behind : (d : ℕ) → nat_le depth d ≡ (nat_le (suc depth) d || eqb d depth)
    behind d = of (nat_le depth d) refl (eqb d depth) refl
      where
        of : (a : Bool) → nat_le depth d ≡ a → (b : Bool) → eqb d depth ≡ b → nat_le depth d ≡ (nat_le (suc depth) d || eqb d depth)
        of a e true f =
            let o : nat_le depth d ≡ true = le-leb depth d (omega (arith, eqb-true d depth f)) in
            let l : nat_le (suc depth) d ≡ false = lt-leb (suc depth) d (omega (arith, eqb-true d depth f)) in rw (o, l, f) refl
        of true e false f =
            let l : nat_le (suc depth) d ≡ true = le-leb (suc depth) d (omega (arith, leb-true depth d e, eqb-false d depth f)) in
            rw (e, l) refl
        of false e false f =
            let l : nat_le (suc depth) d ≡ false = lt-leb (suc depth) d (omega (arith, leb-false depth d e)) in rw (e, l, f) refl

    by : (b : Bool) (r : Role) → (b && is_since depth r) ≡ ((b && is_since (suc depth) r) || (b && is_behind depth r))
    by false r = refl
    by true Root = refl
    by true (Arm place) = refl
    by true (Behind d) = behind d
