-- Sums over the tasks of a run.
use Rattle.std.proofs.Common.{◌≡◌, ℕ, ◌+◌, ◌≤◌, List, [], ◌∷◌, ◌++◌, Bool, true, false, cond, refl, arith}
use Rattle.verse_code_machine.specs.Tasks.{Task, World, onto, starts}
use Rattle.verse_code_machine.specs.Cancelling.{without, inserted, gone_before, gone_behind, cancelled}
use Rattle.verse_code_machine.specs.Runs.{Forest}
use Rattle.run_save_shots.specs.Lists.{Each}
use Rattle.run_save_shots.proofs.Lists.{each_join}
use Rattle.run_save_fits.specs.Held.{tasks_sum, trees_sum}
use Rattle.run_save_fits.proofs.KeptAll.{tasks_join, trees_join}

module _ (f : Task → ℕ) where
  pub onto_sum : (xs ts : List Task) → tasks_sum f (onto xs ts) ≡ tasks_sum f xs + tasks_sum f ts
  onto_sum [] ts = omega arith
  onto_sum (x ∷ xs) ts = let h = onto_sum xs (x ∷ ts) in omega (arith, h)

  pub among_sum : (ts : List Task) (before behind : Forest) →
      trees_sum f (before ++ ts ∷ behind) ≡ tasks_sum f ts + (trees_sum f before + trees_sum f behind)
  among_sum ts before behind = let h = trees_join f before (ts ∷ behind) in omega (arith, h)

  pub one_tree : (tss : Forest) (ts : List Task) → trees_sum f (tss ++ ts ∷ []) ≡ trees_sum f tss + tasks_sum f ts
  one_tree tss ts = let h = trees_join f tss (ts ∷ []) in omega (arith, h)

  cond_is : (b : Bool) (xs ts : List Task) (n : ℕ) → (b ≡ true → tasks_sum f xs ≡ n) → (b ≡ false → tasks_sum f ts ≡ n) →
      tasks_sum f (cond b xs ts) ≡ n
  cond_is true xs ts n g h = g refl
  cond_is false xs ts n g h = h refl

  inserted_sum : (t : Task) (ts : List Task) → tasks_sum f (inserted t ts) ≡ f t + tasks_sum f ts
  inserted_sum t [] = refl
  inserted_sum t (x ∷ xs) = let h = inserted_sum t xs in cond_is (starts t.thread.who.path x.thread.who.path) (x ∷ inserted t xs)
      (t ∷ x ∷ xs) (f t + (f x + tasks_sum f xs)) (λ e. omega (arith, h)) (λ e. refl)

  -- of a list of which some are taken out
  split : (g : List ℕ → Bool) (t : Task) (ts xs : List Task) (all : ℕ) → tasks_sum f xs + tasks_sum f (without g ts) ≡ all →
      (ys : List Task) → tasks_sum f ys ≡ f t + tasks_sum f xs → (b : Bool) →
      tasks_sum f (cond b ys xs) + tasks_sum f (cond b (without g ts) (t ∷ without g ts)) ≡ f t + all
  split g t ts xs all e ys h true = omega (arith, e, h)
  split g t ts xs all e ys h false = omega (arith, e)

  pub before_sum : (g : List ℕ → Bool) (ts : List Task) → tasks_sum f (gone_before g ts) + tasks_sum f (without g ts) ≡ tasks_sum f ts
  before_sum g [] = refl
  before_sum g (t ∷ ts) = split g t ts (gone_before g ts) (tasks_sum f ts) (before_sum g ts) (inserted t (gone_before g ts)) (inserted_sum t
      (gone_before g ts)) (g t.thread.who.path)

  pub behind_sum : (g : List ℕ → Bool) (ts : List Task) → tasks_sum f (gone_behind g ts) + tasks_sum f (without g ts) ≡ tasks_sum f ts
  behind_sum g [] = refl
  behind_sum g (t ∷ ts) = split g t ts (gone_behind g ts) (tasks_sum f ts) (behind_sum g ts) (t ∷ gone_behind g ts) refl
      (g t.thread.who.path)

  pub cancelled_sum : (g : List ℕ → Bool) (o : World) →
      tasks_sum f (cancelled g o) + (tasks_sum f (without g o.pre) + tasks_sum f (without g o.post)) ≡ tasks_sum f o.pre +
      tasks_sum f o.post
  cancelled_sum g o =
      let a = tasks_join f (gone_before g o.pre) (gone_behind g o.post) in
      let b = before_sum g o.pre in
      let d = behind_sum g o.post in
      omega (arith, a, b, d)

  pub fewer : (g : List ℕ → Bool) (ts : List Task) → tasks_sum f (without g ts) ≤ tasks_sum f ts
  fewer g ts = let b = behind_sum g ts in omega (arith, b)

-- what stays of a list weighs as much, where those that go weigh nothing
pub stays_sum : (f : Task → ℕ) (g : List ℕ → Bool) → ((t : Task) → g t.thread.who.path ≡ true → f t ≡ 0) → (ts : List Task) →
    tasks_sum f (without g ts) ≡ tasks_sum f ts
stays_sum f g h [] = refl
stays_sum f g h (t ∷ ts) = by_test (g t.thread.who.path) (h t) (stays_sum f g h ts)
  where
    by_test : (b : Bool) → (b ≡ true → f t ≡ 0) → tasks_sum f (without g ts) ≡ tasks_sum f ts →
        tasks_sum f (cond b (without g ts) (t ∷ without g ts)) ≡ f t + tasks_sum f ts
    by_test true k e = let d = k refl in omega (arith, d, e)
    by_test false k e = omega (arith, e)

-- and nothing, where those that stay weigh nothing
pub none_stays : (f : Task → ℕ) (g : List ℕ → Bool) → ((t : Task) → g t.thread.who.path ≡ false → f t ≡ 0) → (ts : List Task) →
    tasks_sum f (without g ts) ≡ 0
none_stays f g h [] = refl
none_stays f g h (t ∷ ts) = by_test (g t.thread.who.path) (h t) (none_stays f g h ts)
  where
    by_test : (b : Bool) → (b ≡ false → f t ≡ 0) → tasks_sum f (without g ts) ≡ 0 →
        tasks_sum f (cond b (without g ts) (t ∷ without g ts)) ≡ 0
    by_test true k e = e
    by_test false k e = let d = k refl in omega (arith, d, e)

-- where one weighs nothing, another weighs nothing
pub none_sum : (f g : Task → ℕ) → ((t : Task) → f t ≡ 0 → g t ≡ 0) → (ts : List Task) → tasks_sum f ts ≡ 0 → tasks_sum g ts ≡ 0
none_sum f g h [] e = refl
none_sum f g h (t ∷ ts) e = both (g t) (tasks_sum g ts) (h t (first (f t) (tasks_sum f ts) e))
    (none_sum f g h ts (rest (f t) (tasks_sum f ts) e))
  where
    first : (a b : ℕ) → a + b ≡ 0 → a ≡ 0
    first a b e = omega (arith, e)

    rest : (a b : ℕ) → a + b ≡ 0 → b ≡ 0
    rest a b e = omega (arith, e)

    both : (a b : ℕ) → a ≡ 0 → b ≡ 0 → a + b ≡ 0
    both a b e f = omega (arith, e, f)

pub sums_as : (f g : Task → ℕ) → ((t : Task) → f t ≡ g t) → (ts : List Task) → tasks_sum f ts ≡ tasks_sum g ts
sums_as f g h [] = refl
sums_as f g h (t ∷ ts) = both (f t) (g t) (tasks_sum f ts) (tasks_sum g ts) (h t) (sums_as f g h ts)
  where
    both : (a b x y : ℕ) → a ≡ b → x ≡ y → a + x ≡ b + y
    both a b x y e f = omega (arith, e, f)

pub trees_as : (f g : Task → ℕ) → ((t : Task) → f t ≡ g t) → (tss : Forest) → trees_sum f tss ≡ trees_sum g tss
trees_as f g h [] = refl
trees_as f g h (ts ∷ tss) = both (tasks_sum f ts) (tasks_sum g ts) (trees_sum f tss) (trees_sum g tss) (sums_as f g h ts)
    (trees_as f g h tss)
  where
    both : (a b x y : ℕ) → a ≡ b → x ≡ y → a + x ≡ b + y
    both a b x y e f = omega (arith, e, f)

-- one weighs no more than two others
pub sums_most : (f g i : Task → ℕ) → ((t : Task) → f t ≤ g t + i t) → (ts : List Task) → tasks_sum f ts ≤ tasks_sum g ts + tasks_sum i ts
sums_most f g i h [] = omega arith
sums_most f g i h (t ∷ ts) = both (f t) (g t) (i t) (tasks_sum f ts) (tasks_sum g ts) (tasks_sum i ts) (h t) (sums_most f g i h ts)
  where
    both : (a b d x y z : ℕ) → a ≤ b + d → x ≤ y + z → a + x ≤ (b + y) + (d + z)
    both a b d x y z e f = omega (arith, e, f)

pub trees_most : (f g i : Task → ℕ) → ((t : Task) → f t ≤ g t + i t) → (tss : Forest) → trees_sum f tss ≤ trees_sum g tss + trees_sum i tss
trees_most f g i h [] = omega arith
trees_most f g i h (ts ∷ tss) = both (tasks_sum f ts) (tasks_sum g ts) (tasks_sum i ts) (trees_sum f tss) (trees_sum g tss)
    (trees_sum i tss) (sums_most f g i h ts) (trees_most f g i h tss)
  where
    both : (a b d x y z : ℕ) → a ≤ b + d → x ≤ y + z → a + x ≤ (b + y) + (d + z)
    both a b d x y z e f = omega (arith, e, f)

-- ---- each task

-- of those that go
module _ (P : Task → Type 0) (g : List ℕ → Bool) (h : (t : Task) → g t.thread.who.path ≡ true → P t) where
  cond_each : (b : Bool) (xs ys : List Task) → (b ≡ true → Each P xs) → (b ≡ false → Each P ys) → Each P (cond b xs ys)
  cond_each true xs ys a b = a refl
  cond_each false xs ys a b = b refl

  inserted_each : (t : Task) (ts : List Task) → P t → Each P ts → Each P (inserted t ts)
  inserted_each t [] a b = (a, tt)
  inserted_each t (x ∷ xs) a b = cond_each (starts t.thread.who.path x.thread.who.path) (x ∷ inserted t xs) (t ∷ x ∷ xs) (λ e. (
    b.0,
    inserted_each t xs a b.1,
  )) (λ e. (a, b))

  before_each : (ts : List Task) → Each P (gone_before g ts)
  before_each [] = tt
  before_each (t ∷ ts) = cond_each (g t.thread.who.path) (inserted t (gone_before g ts)) (gone_before g ts)
      (λ e. inserted_each t (gone_before g ts) (h t e) (before_each ts)) (λ e. before_each ts)

  behind_each : (ts : List Task) → Each P (gone_behind g ts)
  behind_each [] = tt
  behind_each (t ∷ ts) = cond_each (g t.thread.who.path) (t ∷ gone_behind g ts) (gone_behind g ts) (λ e. (h t e, behind_each ts))
      (λ e. behind_each ts)

  pub cancelled_each : (o : World) → Each P (cancelled g o)
  cancelled_each o = each_join P (gone_before g o.pre) (gone_behind g o.post) (before_each o.pre) (behind_each o.post)

pub sums_add : (f g : Task → ℕ) (ts : List Task) → tasks_sum (λ t. f t + g t) ts ≡ tasks_sum f ts + tasks_sum g ts
sums_add f g [] = refl
sums_add f g (t ∷ ts) = let h = sums_add f g ts in omega (arith, h)
