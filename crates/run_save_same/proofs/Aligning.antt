-- The numbers beneath a task and those beneath the one that is spelled for it are in one order.
use Rattle.std.proofs.Common.{◌≡◌, ℕ, zero, suc, ◌+◌, ◌*◌, ◌≤◌, ◌<◌, length, map, List, [], ◌∷◌, Some, Bool, true}
use Rattle.std.proofs.Common.{false, cond, nat_le}
use Rattle.std.proofs.Common.{refl, sym, subst, ap, ◌∙◌, arith}
use Rattle.std.specs.Prelude.{◌&&◌}
use mathlib.Core.Logic.{inl, inr}
use Rattle.std.proofs.lemmas.Bool.Decides.{nat_tests}
use Rattle.std.proofs.lemmas.List.{length-map}
use Rattle.task_tree.specs.Tasks.{is_child}
use Rattle.task_tree.specs.declared.tasks.Role.{Role}
use Rattle.task_tree.specs.declared.tasks.Role.TheVariants.{Root, Arm, Behind}
use Rattle.verse_code.specs.declared.codes.Code.{Code}
use Rattle.verse_code_machine.specs.Tasks.{Frame, Task}
use Rattle.verse_code_machine_saved.specs.Numbers.{Pairs}
use Rattle.run_save_shots.specs.Lists.{Each, EachTwo, from}
use Rattle.run_save_shots.specs.Kept.{KeptTask, Kept}
use Rattle.run_save_shots.specs.Fitting.{is_child_of}
use Rattle.run_save_shots.specs.Keeping as kp
use Rattle.run_save_shots.specs.Naming.{number_at, is_since, is_begun_since}
use Rattle.run_save_shots.specs.Spelling as sp
use Rattle.run_save_kept.specs.Orders.{last}
use Rattle.run_save_births.specs.Births.{births, Rising}
use Rattle.run_save_orders.specs.Roots.{AreApart}
use Rattle.run_save_same.proofs.Sorting.{Aligned, IsAbove}
use Rattle.run_save_same.proofs.Spelt.{kept_of, number_of, number_is, number_kept, births_made, Spelt}
use Rattle.run_save_same.proofs.Depths.{Tested, since_of}

-- ---- from the first that passes

from_most : {A : Type 0} (p : A → Bool) (xs : List A) → length (from p xs) ≤ length xs
from_most p [] = omega arith
from_most p (a ∷ xs) = by_test (p a) (from_most p xs)
  where
    by_test : (b : Bool) → length (from p xs) ≤ length xs → length (cond b (a ∷ xs) (from p xs)) ≤ suc (length xs)
    by_test true h = omega arith
    by_test false h = omega (arith, h)

from_less : {A : Type 0} (p q : A → Bool) → ((a : A) → p a ≡ true → q a ≡ true) → (xs : List A) →
    length (from p xs) ≤ length (from q xs)
from_less p q so [] = omega arith
from_less p q so (a ∷ xs) = by_test (p a) (q a) (so a) (from_less p q so xs)
  where
    less : (i j : ℕ) → i ≤ j → i ≤ suc j
    less i j h = omega (arith, h)

    by_test : (b d : Bool) → (b ≡ true → d ≡ true) → length (from p xs) ≤ length (from q xs) →
        length (cond b (a ∷ xs) (from p xs)) ≤ length (cond d (a ∷
        xs) (from q xs))
    by_test true true f h = omega arith
    by_test true false f h = absurd (clash (f refl))
      where
        clash : false ≡ true → ⊥
        clash e = cc
    by_test false true f h = less (length (from p xs)) (length xs) (from_most p xs)
    by_test false false f h = h

pub from_map : {A B : Type 0} (f : A → B) (p : B → Bool) (xs : List A) →
    length (from p (map f xs)) ≡ length (from (λ a. p (f a)) xs)
from_map f p [] = refl
from_map f p (a ∷ xs) = by_test (p (f a)) (from_map f p xs)
  where
    by_test : (b : Bool) → length (from p (map f xs)) ≡ length (from (λ a. p (f a)) xs) →
        length (cond b (f a ∷ map f xs) (from p (map f xs))) ≡ length (cond b (a ∷ xs) (from (λ a. p (f a)) xs))
    by_test true h = ap suc (length-map xs f)
    by_test false h = h

-- ---- numbers

times : (s i j : ℕ) → i ≤ j → s * i ≤ s * j
times s zero j h = omega arith
times s (suc i) zero h = absurd (omega (arith, h))
times s (suc i) (suc j) h = more (s * i) (s * j) (s * suc i) (s * suc j) (times s i j (omega (arith, h)))
    (one_more s i) (one_more s j)
  where
    one_more : (s i : ℕ) → s * suc i ≡ s + s * i
    one_more s i = omega arith

    more : (a b e f : ℕ) → a ≤ b → e ≡ s + a → f ≡ s + b → e ≤ f
    more a b e f g h i = omega (arith, g, h, i)

-- a level of so many tasks, and what is above it within the next
within : (left spent i j k : ℕ) → i ≤ j → k ≤ spent → left + suc spent * i + k < left + suc spent * suc j
within left spent i j k h g = sums (suc spent * i) (suc spent * j) (suc spent * suc j) (times (suc spent) i j h)
    (next (suc spent) j)
  where
    next : (s j : ℕ) → s * suc j ≡ s + s * j
    next s j = omega arith

    sums : (a b e : ℕ) → a ≤ b → e ≡ suc spent + b → left + a + k < left + e
    sums a b e f h = omega (arith, f, h, g)

levels : (left spent i j : ℕ) → i ≤ j → left + suc spent * i ≤ left + suc spent * j
levels left spent i j h = sums (suc spent * i) (suc spent * j) (times (suc spent) i j h)
  where
    sums : (a b : ℕ) → a ≤ b → left + a ≤ left + b
    sums a b e = omega (arith, e)

-- ---- tests

since_less : (d : ℕ) (r : Role) → is_since (suc d) r ≡ true → is_since d r ≡ true
since_less d (Behind e) h = le d e h
  where
    le : (i j : ℕ) → nat_le (suc i) j ≡ true → nat_le i j ≡ true
    le i j h = grind (arith, nat_tests, h)
since_less d (Arm place) h = refl
since_less d Root h = absurd (cc)

and_less : (b d e : Bool) → (d ≡ true → e ≡ true) → b && d ≡ true → b && e ≡ true
and_less true d e f h = f h
and_less false d e f h = absurd (cc)

and_first : (b d : Bool) → b && d ≡ true → b ≡ true
and_first true d h = refl
and_first false d h = absurd (cc)

begun_less : (at d : ℕ) (t : KeptTask) → is_begun_since at (suc d) t ≡ true → is_begun_since at d t ≡ true
begun_less at d t h = and_less (is_child_of at t) (is_since (suc d) t.role) (is_since d t.role) (since_less d t.role) h

-- the task at a place is its parent
abbrev pub is_its : List Task → ℕ → Task → Bool
is_its ys at z = is_child (Some at) (kp.place_of z.thread.who.up ys)

abbrev pub zipped : List ℕ → List ℕ → Pairs
zipped [] ms = []
zipped (n ∷ ns) [] = []
zipped (n ∷ ns) (m ∷ ms) = (n, m) ∷ zipped ns ms

-- of the tasks that pass the test, and those that are spelled for them
abbrev pub children : (Task → Bool) → List Task → List Task → Pairs
children test [] vs = []
children test (z ∷ zs) [] = []
children test (z ∷ zs) (v ∷ vs) = cond (test z) ((z.thread.who.number, v.thread.who.number) ∷ children test zs vs)
    (children test zs vs)

-- the second began later
abbrev pub Falls : (Task → Bool) → Task → Task → Type 0
Falls test z w = test z ≡ true → test w ≡ true → w.thread.who.number < z.thread.who.number

-- their numbers are two
abbrev pub Differ : (Task → Bool) → Task → Task → Type 0
Differ test z w = test z ≡ true → test w ≡ true → z.thread.who.number ≡ w.thread.who.number → ⊥

-- ---- births

zipped_above : (n m l k : ℕ) (ns ms : List ℕ) → n < l → m < k → Rising l ns → Rising k ms →
    Each (Aligned (n, m)) (zipped ns ms)
zipped_above n m l k [] ms h g a b = tt
zipped_above n m l k (i ∷ ns) [] h g a b = tt
zipped_above n m l k (i ∷ ns) (j ∷ ms) h g a b = (
  inl (further n l i h a.0, further m k j g b.0),
  zipped_above n m (suc i) (suc j) ns ms (next n l i h a.0) (next m k j g b.0) a.1 b.1,
)
  where
    further : (i j k : ℕ) → i < j → j ≤ k → i < k
    further i j k e f = omega (arith, e, f)

    next : (i j k : ℕ) → i < j → j ≤ k → i < suc k
    next i j k e f = omega (arith, e, f)

pub zipped_two : (l k : ℕ) (ns ms : List ℕ) → Rising l ns → Rising k ms → EachTwo Aligned (zipped ns ms)
zipped_two l k [] ms a b = tt
zipped_two l k (n ∷ ns) [] a b = tt
zipped_two l k (n ∷ ns) (m ∷ ms) a b = (
  zipped_above n m (suc n) (suc m) ns ms (omega arith) (omega arith) a.1 b.1,
  zipped_two (suc n) (suc m) ns ms a.1 b.1,
)

pub zipped_from : (l k bound : ℕ) (ns ms : List ℕ) → bound ≤ l → bound ≤ k → Rising l ns → Rising k ms →
    Each (IsAbove bound) (zipped ns ms)
zipped_from l k bound [] ms h g a b = tt
zipped_from l k bound (n ∷ ns) [] h g a b = tt
zipped_from l k bound (n ∷ ns) (m ∷ ms) h g a b = (
  (further bound l n h a.0, further bound k m g b.0),
  zipped_from (suc n) (suc m) bound ns ms (next bound l n h a.0) (next bound k m g b.0) a.1 b.1,
)
  where
    further : (i j k : ℕ) → i ≤ j → j ≤ k → i ≤ k
    further i j k e f = omega (arith, e, f)

    next : (i j k : ℕ) → i ≤ j → j ≤ k → i ≤ suc k
    next i j k e f = omega (arith, e, f)

module _ (c : Code) (x : Kept) (ys : List Task) where
  abbrev N : ℕ → ℕ
  N = number_of c x ys

  abbrev K : List Task → List KeptTask
  K = kept_of c x ys

  abbrev Made : (at : ℕ) (y : Task) (zs : List Task) (k n : ℕ) → List ℕ
  Made at y zs k n = births_made c x ys at (K (y ∷ zs)) (K zs) k n

  born_less : (at : ℕ) (y : Task) (zs : List Task) (k n : ℕ) → k ≤ x.spent →
      sp.born x at (suc n) (K (y ∷ zs)) k (K zs) < sp.born x at n (K (y ∷ zs)) (suc k) (K zs)
  born_less at y zs k zero h = within x.left x.spent (length (from (is_begun_since at 1) (K zs))) (length (K zs)) k
      (from_most (is_begun_since at 1) (K zs)) h
  born_less at y zs k (suc n) h =
      sums (number_at x (from (is_begun_since at (suc (suc n))) (K zs)))
      (number_at x (from (is_begun_since at (suc n)) (K zs)))
      (levels x.left x.spent (length (from (is_begun_since at (suc (suc n))) (K zs)))
      (length (from (is_begun_since at (suc n)) (K zs))) (from_less
      (is_begun_since at (suc (suc n))) (is_begun_since at (suc n)) (begun_less at (suc n)) (K zs)))
    where
      sums : (i j : ℕ) → i ≤ j → i + k < j + suc k
      sums i j e = omega (arith, e)

  -- numbers fall along the list
  pub number_falls : (i j : ℕ) → suc i ≤ j → N i < N j
  number_falls i j h = sums (N i) (N i + 0) (N (suc i)) (N j) (omega arith)
      (within x.left x.spent i i 0 (omega arith) (omega arith)) (levels x.left x.spent (suc i) j h)
    where
      sums : (n a b d : ℕ) → a ≡ n + 0 → a < b → b ≤ d → n < d
      sums n a b d e f g = omega (arith, e, f, g)

  pub made_rises : (at : ℕ) (y : Task) (zs : List Task) (bound k n : ℕ) →
      ((j : ℕ) → n ≡ suc j → bound ≤ sp.born x at j (K (y ∷ zs)) k (K zs)) →
      k + n ≤ suc (suc x.spent) → Rising bound (Made at y zs k n)
  made_rises at y zs bound k zero f h = tt
  made_rises at y zs bound k (suc n) f h =
      (f n refl, made_rises at y zs (suc (sp.born x at n (K (y ∷ zs)) k (K zs))) (suc k) n next (further k n x.spent h))
    where
      further : (k n s : ℕ) → k + suc n ≤ suc (suc s) → suc k + n ≤ suc (suc s)
      further k n s e = omega (arith, e)

      few : (k n j s : ℕ) → k + suc n ≤ suc (suc s) → n ≡ suc j → k ≤ s
      few k n j s e g = omega (arith, e, g)

      less : (i j : ℕ) → i < j → suc i ≤ j
      less i j e = omega (arith, e)

      next : (j : ℕ) → n ≡ suc j → suc (sp.born x at n (K (y ∷ zs)) k (K zs)) ≤ sp.born x at j (K (y ∷ zs)) (suc k)
          (K zs)
      next j e = subst (λ i. suc (sp.born x at i (K (y ∷ zs)) k (K zs)) ≤ sp.born x at j (K (y ∷ zs)) (suc k) (K zs))
          (sym e) (less _ _ (born_less at y zs
          k j (few k n j x.spent h e)))

  pub born_above : (at : ℕ) (y : Task) (zs : List Task) (k n : ℕ) → x.left ≤ sp.born x at n (K (y ∷ zs)) k (K zs)
  born_above at y zs k zero = above x.left (suc x.spent * length (K (y ∷ zs)))
    where
      above : (i j : ℕ) → i ≤ i + j
      above i j = omega arith
  born_above at y zs k (suc n) = above x.left (suc x.spent * length (from (is_begun_since at (suc n)) (K zs))) k
    where
      above : (i j k : ℕ) → i ≤ i + j + k
      above i j k = omega arith

  -- the lowest frame has the task's own number
  pub made_last : (at : ℕ) (y : Task) (zs : List Task) (k n : ℕ) → last (Made at y zs k (suc n)) ≡ N (suc (length zs))
  made_last at y zs k zero = number_kept c x ys (y ∷ zs)
  made_last at y zs k (suc n) = made_last at y zs (suc k) n

  -- ---- children

  module _ (test : Task → Bool) where
    abbrev Kids : List Task → List Task → Pairs
    Kids = children test

    cond_each : (P : ℕ × ℕ → Type 0) (b : Bool) (p : ℕ × ℕ) (ps : Pairs) → (b ≡ true → P p) → Each P ps →
        Each P (cond b (p ∷ ps) ps)
    cond_each P true p ps f a = (f refl, a)
    cond_each P false p ps f a = a

    number_less : (i m : ℕ) (v : Task) (b : ℕ) → v.thread.who.number ≡ N (suc i) → suc i ≤ m → N m < b →
        v.thread.who.number < b
    number_less i m v b e h g = below (v.thread.who.number) (N (suc i)) (N m) b e (levels x.left x.spent (suc i) m h) g
      where
        below : (a d e f : ℕ) → a ≡ d → d ≤ e → e < f → a < f
        below a d e f g h i = omega (arith, g, h, i)

    -- below a pair that is above all of them
    after : (b d m at : ℕ) (zs vs : List Task) → Spelt c x ys at zs vs →
        Each (λ (z : Task). test z ≡ true → z.thread.who.number < b) zs → length zs ≤ m →
        N m < d → Each (Aligned (b, d)) (Kids zs vs)
    after b d m at [] vs s f h g = tt
    after b d m at (z ∷ zs) [] s f h g = tt
    after b d m at (z ∷ zs) (v ∷ vs) s f h g =
        cond_each (Aligned (b, d)) (test z) (z.thread.who.number, v.thread.who.number) (Kids zs vs)
        (λ e. inr (f.0 e, number_less (length zs) m v d s.0.number h g))
        (after b d m (suc at) zs vs s.1 f.1 (less (length zs) m h) g)
      where
        less : (i j : ℕ) → suc i ≤ j → i ≤ j
        less i j e = omega (arith, e)

    abbrev Splits : (begun : Task → Bool) (b : ℕ) → Task → Type 0
    Splits begun b z = (begun z ≡ true → (test z ≡ true) × (z.thread.who.number < b)) ×
        (test z ≡ true → begun z ≡ false → b < z.thread.who.number)

    later_below : (z : Task) (b : ℕ) (zs : List Task) → test z ≡ true → z.thread.who.number < b →
        Each (Falls test z) zs →
        Each (λ (w : Task). test w ≡ true → w.thread.who.number < b) zs
    later_below z b [] e h a = tt
    later_below z b (w ∷ zs) e h a =
        ((λ f. further w.thread.who.number z.thread.who.number b (a.0 e f) h), later_below z b zs e h a.1)
      where
        further : (i j k : ℕ) → i < j → j < k → i < k
        further i j k e f = omega (arith, e, f)

    -- a pair that is above those from the first on that passes the other test
    cut : (begun : Task → Bool) (b k at : ℕ) (zs vs : List Task) → 0 < k → k ≤ x.spent → Spelt c x ys at zs vs →
        Each (Splits begun b) zs →
        EachTwo (Falls test) zs → Each (Aligned (b, N (length (from begun zs)) + k)) (Kids zs vs)
    cut begun b k at [] vs h g s f a = tt
    cut begun b k at (z ∷ zs) [] h g s f a = tt
    cut begun b k at (z ∷ zs) (v ∷ vs) h g s f a = by_test (begun z) refl (cut begun b k (suc at) zs vs h g s.1 f.1 a.1)
      where
        more : (n k : ℕ) → 0 < k → n < n + k
        more n k h = omega (arith, h)

        by_test : (t : Bool) → begun z ≡ t → Each (Aligned (b, N (length (from begun zs)) + k)) (Kids zs vs) →
            Each (Aligned (b, N (length (cond t (z ∷ zs) (from begun zs))) + k)) (Kids (z ∷ zs) (v ∷ vs))
        by_test true e i =
            let p = f.0.0 e in
            after b (N (suc (length zs)) + k) (suc (length zs)) at (z ∷ zs) (v ∷ vs) s
            ((λ d. p.1), later_below z b zs p.0 p.1 a.0) (omega arith)
            (more (N (suc (length zs))) k h)
        by_test false e i = cond_each (Aligned (b, N (length (from begun zs)) + k)) (test z)
            (z.thread.who.number, v.thread.who.number) (Kids zs vs)
            (λ d. inl (
              f.0.1 d e,
              below (N (length (from begun zs)) + k) (N (suc (length zs))) v.thread.who.number s.0.number
                  (within x.left x.spent (length (from
                  begun zs)) (length zs) k (from_most begun zs) g),
            )) i
          where
            below : (i j m : ℕ) → m ≡ j → i < j → i < m
            below i j m e h = omega (arith, e, h)

    pub children_two : (at : ℕ) (zs vs : List Task) → Spelt c x ys at zs vs → EachTwo (Falls test) zs →
        EachTwo Aligned (Kids zs vs)
    children_two at [] vs s a = tt
    children_two at (z ∷ zs) [] s a = tt
    children_two at (z ∷ zs) (v ∷ vs) s a = cond_two (test z) refl (children_two (suc at) zs vs s.1 a.1)
      where
        first : (e : test z ≡ true) → Each (λ (w : Task). test w ≡ true → w.thread.who.number < z.thread.who.number) zs
        first e = falls zs a.0
          where
            falls : (us : List Task) → Each (Falls test z) us →
                Each (λ (w : Task). test w ≡ true → w.thread.who.number < z.thread.who.number) us
            falls [] d = tt
            falls (u ∷ us) d = (d.0 e, falls us d.1)

        top : N (length zs) < v.thread.who.number
        top = below (N (length zs) + 0) (N (length zs)) (N (suc (length zs))) v.thread.who.number s.0.number
            (omega arith) (within x.left x.spent (length
            zs) (length zs) 0 (omega arith) (omega arith))
          where
            below : (i j k m : ℕ) → m ≡ k → i ≡ j + 0 → i < k → j < m
            below i j k m e h g = omega (arith, e, h, g)

        cond_two : (b : Bool) → test z ≡ b → EachTwo Aligned (Kids zs vs) →
            EachTwo Aligned (cond b ((z.thread.who.number, v.thread.who.number) ∷ Kids zs
            vs) (Kids zs vs))
        cond_two true e h = (
          after z.thread.who.number v.thread.who.number (length zs) (suc at) zs vs s.1 (first e) (omega arith) top,
          h,
        )
        cond_two false e h = h

    pub children_from : (at bound : ℕ) (zs vs : List Task) → bound ≤ x.left → Spelt c x ys at zs vs →
        Each (λ (z : Task). bound ≤ z.thread.who.number) zs →
        Each (IsAbove bound) (Kids zs vs)
    children_from at bound [] vs h s a = tt
    children_from at bound (z ∷ zs) [] h s a = tt
    children_from at bound (z ∷ zs) (v ∷ vs) h s a =
        cond_each (IsAbove bound) (test z) (z.thread.who.number, v.thread.who.number) (Kids zs vs)
        (λ e. (a.0, above x.left (suc x.spent * suc (length zs)) v.thread.who.number s.0.number h))
        (children_from (suc at) bound zs vs h s.1 a.1)
      where
        above : (i j m : ℕ) → m ≡ i + j → bound ≤ i → bound ≤ m
        above i j m e h = omega (arith, e, h)

  -- no two of the second numbers are one, where no two of the first are
  pub children_apart : (test : Task → Bool) (at : ℕ) (zs vs : List Task) → Spelt c x ys at zs vs →
      EachTwo (Differ test) zs → AreApart (children test zs vs)
  children_apart test at [] vs s a = tt
  children_apart test at (z ∷ zs) [] s a = tt
  children_apart test at (z ∷ zs) (v ∷ vs) s a = by_test (test z) refl (children_apart test (suc at) zs vs s.1 a.1)
    where
      higher : (i m k j : ℕ) → m ≡ N (suc i) → k ≡ N (suc j) → suc j ≤ i → m ≡ k → ⊥
      higher i m k j e f h g = no (number_falls (suc j) (suc i) (less i j h)) (sym e ∙ (g ∙ f))
        where
          less : (i j : ℕ) → suc j ≤ i → suc (suc j) ≤ suc i
          less i j h = omega (arith, h)

          no : {a b : ℕ} → a < b → b ≡ a → ⊥
          no l e = omega (arith, l, e)

      others : test z ≡ true → (at : ℕ) (us ws : List Task) → length us ≤ length zs → Spelt c x ys at us ws →
          Each (Differ test z) us →
          Each (λ q. (z.thread.who.number ≡ q.0 → ⊥) × (v.thread.who.number ≡ q.1 → ⊥)) (children test us ws)
      others e at [] ws h t d = tt
      others e at (u ∷ us) [] h t d = tt
      others e at (u ∷ us) (w ∷ ws) h t d =
          either (test u) refl (others e (suc at) us ws (less (length us) (length zs) h) t.1 d.1)
        where
          less : (i j : ℕ) → suc i ≤ j → i ≤ j
          less i j e = omega (arith, e)

          either : (b : Bool) → test u ≡ b →
              Each (λ q. (z.thread.who.number ≡ q.0 → ⊥) × (v.thread.who.number ≡ q.1 → ⊥)) (children test us ws) →
              Each (λ q. (z.thread.who.number ≡ q.0 → ⊥) × (v.thread.who.number ≡ q.1 → ⊥))
              (cond b ((u.thread.who.number, w.thread.who.number) ∷ children
              test us ws) (children test us ws))
          either true f g = (
            (
              (λ i. d.0 e f i),
              (λ i. higher (length zs) v.thread.who.number w.thread.who.number (length us) s.0.number t.0.number h
                  i),
            ),
            g,
          )
          either false f g = g

      by_test : (b : Bool) → test z ≡ b → AreApart (children test zs vs) →
          AreApart (cond b ((z.thread.who.number, v.thread.who.number) ∷ children test zs
          vs) (children test zs vs))
      by_test true e h = (others e (suc at) zs vs (omega arith) s.1 a.0, h)
      by_test false e h = h

  -- ---- frames and children

  -- what is known of a later task and the frames of the task at a place
  abbrev pub Kid : ℕ → List Frame → Task → Type 0
  Kid at fs z = is_its ys at z ≡ true → Tested (since_of ys at z) z.thread.who.number fs

  kids_lower : (at : ℕ) (f g : Frame) (fs : List Frame) (zs : List Task) → Each (Kid at (f ∷ g ∷ fs)) zs →
      Each (Kid at (g ∷ fs)) zs
  kids_lower at f g fs [] a = tt
  kids_lower at f g fs (z ∷ zs) a = ((λ e. (a.0 e).1), kids_lower at f g fs zs a.1)

  kids_split : (at d : ℕ) (f g : Frame) (fs : List Frame) (zs : List Task) → Each (Kid at (f ∷ g ∷ fs)) zs →
      Each (Splits (is_its ys at) (λ z. since_of ys at z (suc (length fs))) f.life.born) zs
  kids_split at d f g fs [] a = tt
  kids_split at d f g fs (z ∷ zs) a = (
    (
      (λ e. let i = and_first (is_its ys at z) _ e in (i, (a.0 i).0.0 e)),
      (λ i e. (a.0 i).0.1 e),
    ),
    kids_split at d f g fs zs a.1,
  )

  kids_last : (at : ℕ) (f : Frame) (zs : List Task) → Each (Kid at (f ∷ [])) zs →
      Each (λ (z : Task). is_its ys at z ≡ true → z.thread.who.number <
      f.life.born) zs
  kids_last at f [] a = tt
  kids_last at f (z ∷ zs) a = (a.0, kids_last at f zs a.1)

  pub frames_kids : (at : ℕ) (y : Task) (zs vs : List Task) → Spelt c x ys (suc at) zs vs →
      EachTwo (Falls (is_its ys at)) zs → (k : ℕ) (fs : List Frame) →
      0 < k → k + length fs ≤ suc (suc x.spent) → Each (Kid at fs) zs →
      Each (λ p. Each (Aligned p) (children (is_its ys at) zs vs)) (zipped (births fs) (Made at y zs k (length fs)))
  frames_kids at y zs vs s a k [] h g f = tt
  frames_kids at y zs vs s a k (b ∷ []) h g f = (
    after (is_its ys at) b.life.born (number_at x (K (y ∷ zs))) (length zs) (suc at) zs vs s (kids_last at b zs f)
        (omega arith) top,
    tt,
  )
    where
      top : N (length zs) < number_at x (K (y ∷ zs))
      top = below (N (length zs) + 0) (N (length zs)) (N (suc (length zs))) (number_at x (K (y ∷ zs)))
          (number_kept c x ys (y ∷ zs)) (omega arith)
          (within x.left x.spent (length zs) (length zs) 0 (omega arith) (omega arith))
        where
          below : (i j k m : ℕ) → m ≡ k → i ≡ j + 0 → i < k → j < m
          below i j k m e h g = omega (arith, e, h, g)
  frames_kids at y zs vs s a k (b ∷ d ∷ fs) h g f = (
    subst (λ n. Each (Aligned (b.life.born, n + k)) (children (is_its ys at) zs vs)) (sym level)
        (cut (is_its ys at) (λ z. since_of ys at z (suc (length
        fs))) b.life.born k (suc at) zs vs h (few k (length fs) x.spent g) s
        (kids_split at (suc (length fs)) b d fs zs f) a),
    frames_kids at y zs vs s a (suc k) (d ∷ fs) (omega arith) (further k (length fs) x.spent g)
        (kids_lower at b d fs zs f),
  )
    where
      few : (k n s : ℕ) → k + suc (suc n) ≤ suc (suc s) → k ≤ s
      few k n s e = omega (arith, e)

      further : (k n s : ℕ) → k + suc (suc n) ≤ suc (suc s) → suc k + suc n ≤ suc (suc s)
      further k n s e = omega (arith, e)

      level : number_at x (from (is_begun_since at (suc (length fs))) (K zs)) ≡ N
          (length (from (λ z. since_of ys at z (suc (length fs))) zs))
      level = number_is c x ys (from (is_begun_since at (suc (length fs))) (K zs)) _
          (from_map (kp.task ys) (is_begun_since at (suc (length fs))) zs)
