-- Tests of paths and what is cancelled, under other numbers.
use Rattle.std.proofs.Common.{◌≡◌, ℕ, zero, suc, ◌<◌, List, [], ◌∷◌, ◌++◌, Bool, true, false, cond, refl, sym, ap, ◌∙◌, arith, subst}
use Rattle.std.proofs.Common.{append-nil}
use Rattle.verse_meaning_state.specs.Waits.{eqn, ltn}
use Rattle.verse_meaning_state.proofs.Numbers.{eqn_is, eqn_same, eqn_not, ltn_yes, ltn_no}
use Rattle.verse_code_machine.specs.Tasks.{Part, did, runs, Task, World, world, starts, same_path, since, beneath_arms}
use Rattle.verse_code_machine.specs.Cancelling.{without, inserted, gone_before, gone_behind, cancelled, world_without}
use Rattle.verse_code_machine_saved.specs.Numbers.{Numbering, Rises, Prior, path_from, path_as, parts_as, task_as, tasks_as, world_as}
use Rattle.verse_code_machine_saved.specs.Numbers.{SameTest, CancelledRenumbered, SinceRenumbered, ArmsRenumbered}

data Order (n k : ℕ) : Type 0 where
  lower : n < k → Order n k
  level : n ≡ k → Order n k
  higher : k < n → Order n k

order : (n k : ℕ) → Order n k
order zero zero = level refl
order zero (suc k) = lower (omega arith)
order (suc n) zero = higher (omega arith)
order (suc n) (suc k) = up (order n k)
  where
    up : Order n k → Order (suc n) (suc k)
    up (lower h) = lower (omega (arith, h))
    up (level h) = level (ap suc h)
    up (higher h) = higher (omega (arith, h))

app_more : (a : List ℕ) (n : ℕ) (x : List ℕ) → (a ++ n ∷ []) ++ x ≡ a ++ n ∷ x
app_more [] n x = refl
app_more (b ∷ a) n x = ap (λ y. b ∷ y) (app_more a n x)

-- no two numbers beneath a path come to one
abbrev pub IsApart : Numbering → Type 0
IsApart r = (a : List ℕ) (n k : ℕ) → r a n ≡ r a k → n ≡ k

-- those beneath this path keep their order
abbrev pub RisesAt : Numbering → List ℕ → Type 0
RisesAt r a = (n k : ℕ) → n < k → r a n < r a k

pub rising_apart : (r : Numbering) → Rises r → IsApart r
rising_apart r rises a n k e = by (order n k)
  where
    by : Order n k → n ≡ k
    by (lower h) = absurd (omega (arith, e, rises a n k h))
    by (level h) = h
    by (higher h) = absurd (omega (arith, e, rises a k n h))

module _ (r : Numbering) (apart : IsApart r) where
  eqn_as : (a : List ℕ) (n k : ℕ) → eqn (r a n) (r a k) ≡ eqn n k
  eqn_as a n k = by (order n k)
    where
      by : Order n k → eqn (r a n) (r a k) ≡ eqn n k
      by (lower h) = eqn_not (r a n) (r a k) (λ e. omega (arith, h, apart a n k e)) ∙ sym (eqn_not n k (λ e. omega (arith, e, h)))
      by (level h) = subst (λ k. eqn (r a n) (r a k) ≡ eqn n k) h (eqn_same (r a n) ∙ sym (eqn_same n))
      by (higher h) = eqn_not (r a n) (r a k) (λ e. omega (arith, h, apart a n k e)) ∙ sym (eqn_not n k (λ e. omega (arith, e, h)))

  ltn_as : (a : List ℕ) → RisesAt r a → (n k : ℕ) → ltn (r a n) (r a k) ≡ ltn n k
  ltn_as a rises n k = by (order n k)
    where
      by : Order n k → ltn (r a n) (r a k) ≡ ltn n k
      by (lower h) = ltn_yes (r a n) (r a k) (rises n k h) ∙ sym (ltn_yes n k h)
      by (level h) = subst (λ k. ltn (r a n) (r a k) ≡ ltn n k) h (ltn_no (r a n) (r a n) (omega arith) ∙ sym (ltn_no n n (omega arith)))
      by (higher h) = ltn_no (r a n) (r a k) (omega (arith, rises k n h)) ∙ sym (ltn_no n k (omega (arith, h)))

  cond_as : {A : Type 0} (b c : Bool) (x y u v : A) → b ≡ c → (c ≡ true → x ≡ u) → y ≡ v → cond b x y ≡ cond c u v
  cond_as true true x y u v e f g = f refl
  cond_as false false x y u v e f g = g
  cond_as true false x y u v e f g = grind (arith, e)
  cond_as false true x y u v e f g = grind (arith, e)

  starts_from : (a x y : List ℕ) → starts (path_from r a x) (path_from r a y) ≡ starts x y
  starts_from a [] y = refl
  starts_from a (i ∷ x) [] = refl
  starts_from a (i ∷ x) (j ∷ y) = cond_as _ _ _ _ _ _ (eqn_as a i j)
      (λ e. subst (λ k. starts (path_from r (a ++ i ∷ []) x) (path_from r (a ++ k ∷ []) y) ≡ starts x y) (eqn_is i j e) (starts_from (a ++
      i ∷ []) x y)) refl

  same_from : (a x y : List ℕ) → same_path (path_from r a x) (path_from r a y) ≡ same_path x y
  same_from a [] [] = refl
  same_from a [] (j ∷ y) = refl
  same_from a (i ∷ x) [] = refl
  same_from a (i ∷ x) (j ∷ y) = cond_as _ _ _ _ _ _ (eqn_as a i j)
      (λ e. subst (λ k. same_path (path_from r (a ++ i ∷ []) x) (path_from r (a ++ k ∷ []) y) ≡ same_path x y) (eqn_is i j e) (same_from
      (a ++ i ∷ []) x y)) refl

  since_from : (a x b : List ℕ) → a ++ x ≡ b → RisesAt r b → (n : ℕ) (y : List ℕ) →
      since (path_from r a x) (r b n) (path_from r a y) ≡ since x n y
  since_from a [] b h rises n [] = refl
  since_from a [] b h rises n (k ∷ y) = subst (λ d. ltn (r d k) (r b n) ≡ ltn k n) (sym h ∙ append-nil a) (ltn_as b rises k n)
  since_from a (i ∷ x) b h rises n [] = refl
  since_from a (i ∷ x) b h rises n (j ∷ y) = cond_as _ _ _ _ _ _ (eqn_as a i j)
      (λ e. subst (λ k. since (path_from r (a ++ i ∷ []) x) (r b n) (path_from r (a ++ k ∷ []) y) ≡ since x n y) (eqn_is i j
      e) (since_from (a ++ i ∷ []) x b (app_more a i x ∙ h) rises n y)) refl

  path_last : (a x : List ℕ) (n : ℕ) → path_from r a (x ++ n ∷ []) ≡ path_from r a x ++ r (a ++ x) n ∷ []
  path_last a [] n = ap (λ b. r b n ∷ []) (sym (append-nil a))
  path_last a (i ∷ x) n = ap (λ y. r a i ∷ y) (path_last (a ++ i ∷ []) x n ∙ ap (λ b. path_from r (a ++ i ∷ []) x ++ r b n ∷ []) (app_more a
      i x))

  arms_from : (a : List ℕ) (gs : List Part) (y : List ℕ) → beneath_arms (path_as r a) (parts_as r a gs) (path_as r y) ≡ beneath_arms a gs y
  arms_from a [] y = refl
  arms_from a (did v ∷ gs) y = arms_from a gs y
  arms_from a (runs n ∷ gs) y = cond_as _ _ _ _ _ _
      (ap (λ b. starts b (path_as r y)) (sym (path_last [] a n)) ∙ starts_from [] (a ++ n ∷ []) y) (λ e. refl) (arms_from a gs y)

module _ (z : Prior) (apart : IsApart z.numbers) where
  cond_tasks : (b : Bool) (xs ys : List Task) → tasks_as z (cond b xs ys) ≡ cond b (tasks_as z xs) (tasks_as z ys)
  cond_tasks true xs ys = refl
  cond_tasks false xs ys = refl

  inserted_as : (t : Task) (ts : List Task) → inserted (task_as z t) (tasks_as z ts) ≡ tasks_as z (inserted t ts)
  inserted_as t [] = refl
  inserted_as t (x ∷ xs) = cond_as z.numbers apart _ _ _ _ _ _ (starts_from z.numbers apart [] t.thread.who.path x.thread.who.path)
      (λ e. ap (λ ys. task_as z x ∷ ys) (inserted_as t xs)) refl ∙ sym (cond_tasks _ _ _)

  onto_tasks : (xs ys : List Task) → tasks_as z (xs ++ ys) ≡ tasks_as z xs ++ tasks_as z ys
  onto_tasks [] ys = refl
  onto_tasks (x ∷ xs) ys = ap (λ zs. task_as z x ∷ zs) (onto_tasks xs ys)

  module _ (f g : List ℕ → Bool) (same : SameTest z.numbers f g) where
    without_as : (ts : List Task) → without g (tasks_as z ts) ≡ tasks_as z (without f ts)
    without_as [] = refl
    without_as (t ∷ ts) = cond_as z.numbers apart _ _ _ _ _ _ (same t.thread.who.path) (λ e. without_as ts)
        (ap (λ ys. task_as z t ∷ ys) (without_as ts)) ∙ sym (cond_tasks _ _ _)

    before_as : (ts : List Task) → gone_before g (tasks_as z ts) ≡ tasks_as z (gone_before f ts)
    before_as [] = refl
    before_as (t ∷ ts) = cond_as z.numbers apart _ _ _ _ _ _ (same t.thread.who.path)
        (λ e. ap (inserted (task_as z t)) (before_as ts) ∙ inserted_as t (gone_before f ts)) (before_as ts) ∙ sym (cond_tasks _ _ _)

    behind_as : (ts : List Task) → gone_behind g (tasks_as z ts) ≡ tasks_as z (gone_behind f ts)
    behind_as [] = refl
    behind_as (t ∷ ts) = cond_as z.numbers apart _ _ _ _ _ _ (same t.thread.who.path)
        (λ e. ap (λ ys. task_as z t ∷ ys) (behind_as ts)) (behind_as ts) ∙
        sym (cond_tasks _ _ _)

    gone_as : (o : World) → cancelled g (world_as z o) ≡ tasks_as z (cancelled f o)
    gone_as o =
        ap (λ xs. xs ++ gone_behind g (tasks_as z o.post)) (before_as o.pre) ∙ ap (λ ys. tasks_as z (gone_before f o.pre) ++ ys) (behind_as
        o.post) ∙ sym (onto_tasks (gone_before f o.pre) (gone_behind f o.post))

    left_as : (o : World) → world_without g (world_as z o) ≡ world_as z (world_without f o)
    left_as o =
        ap (λ xs. world xs (without g (tasks_as z o.post)) (world_as z o).ups (world_as z o).trees) (without_as o.pre) ∙ ap (λ ys. world
        (tasks_as z (without f o.pre)) ys (world_as z o).ups (world_as z o).trees) (without_as o.post)

pub cancelled_as : (z : Prior) (f g : List ℕ → Bool) (o : World) → IsApart z.numbers → SameTest z.numbers f g →
    (cancelled g (world_as z o) ≡ tasks_as z (cancelled f o)) × (world_without g (world_as z o) ≡ world_as z (world_without f o))
cancelled_as z f g o apart same = (gone_as z apart f g same o, left_as z apart f g same o)

pub cancelled_renumbered : CancelledRenumbered
cancelled_renumbered z f g o rises same = cancelled_as z f g o (rising_apart z.numbers rises) same

pub since_as : (r : Numbering) (a : List ℕ) (n : ℕ) → IsApart r → RisesAt r a → SameTest r (since a n) (since (path_as r a) (r a n))
since_as r a n apart rises x = since_from r apart [] a a refl rises n x

pub since_renumbered : SinceRenumbered
since_renumbered r a n rises = since_as r a n (rising_apart r rises) (rises a)

pub arms_as : (r : Numbering) (a : List ℕ) (gs : List Part) → IsApart r →
    SameTest r (beneath_arms a gs) (beneath_arms (path_as r a) (parts_as r a gs))
arms_as r a gs apart x = arms_from r apart a gs x

pub arms_renumbered : ArmsRenumbered
arms_renumbered r a gs rises = arms_as r a gs (rising_apart r rises)

pub path_end : (r : Numbering) → IsApart r → (a : List ℕ) (n : ℕ) → path_as r (a ++ n ∷ []) ≡ path_as r a ++ r a n ∷ []
path_end r apart a n = path_last r apart [] a n

pub same_as : (r : Numbering) → IsApart r → (x y : List ℕ) → same_path (path_as r x) (path_as r y) ≡ same_path x y
same_as r apart x y = same_from r apart [] x y

pub eqn_number : (r : Numbering) → IsApart r → (a : List ℕ) (n k : ℕ) → eqn (r a n) (r a k) ≡ eqn n k
eqn_number r apart a n k = eqn_as r apart a n k
