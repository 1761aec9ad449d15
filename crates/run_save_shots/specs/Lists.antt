-- Words on lists.
use Rattle.std.specs.Prelude.{◌≡◌, ◌≢◌, ℕ, suc, Bool, cond, List, [], ◌∷◌, ◌++◌}

-- P holds of each element
abbrev pub Each : {A : Type 0} → (A → Type 0) → List A → Type 0
Each P [] = Unit {0}
Each P (x ∷ xs) = P x × Each P xs

-- P holds of each element and its place; the first has the place n
abbrev pub EachAt : {A : Type 0} → (ℕ → A → Type 0) → ℕ → List A → Type 0
EachAt P n [] = Unit {0}
EachAt P n (x ∷ xs) = P n x × EachAt P (suc n) xs

-- R holds of each element and each later one
abbrev pub EachTwo : {A : Type 0} → (A → A → Type 0) → List A → Type 0
EachTwo R [] = Unit {0}
EachTwo R (x ∷ xs) = Each (R x) xs × EachTwo R xs

-- no number stands twice
abbrev pub AreDistinct : List ℕ → Type 0
AreDistinct ns = EachTwo (λ n m. n ≢ m) ns

-- from the first element on that passes the test
abbrev pub from : {A : Type 0} → (A → Bool) → List A → List A
from test [] = []
from test (x ∷ xs) = cond (test x) (x ∷ xs) (from test xs)

-- how many elements pass the test
abbrev pub count : {A : Type 0} → (A → Bool) → List A → ℕ
count test [] = 0
count test (x ∷ xs) = cond (test x) (suc (count test xs)) (count test xs)

-- two lists of the same elements
pub data Reordered {A : Type 0} : List A → List A → Type 0 where
  no_elements : Reordered [] []
  one_more : {x : A} {xs zs : List A} (front back : List A) → zs ≡ front ++ x ∷ back →
      Reordered xs (front ++ back) → Reordered (x ∷ xs) zs
