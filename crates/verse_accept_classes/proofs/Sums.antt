-- A list of numbers without repetition takes of a list of weights no more than there is.
use Rattle.std.proofs.Common.{◌≡◌, ℕ, zero, suc, ◌+◌, ◌<◌, ◌≤◌, List, [], ◌∷◌, length, refl, ap, arith}
use Rattle.verse_accept_scopes.specs.Lists.{Each}

-- no number stands twice in a list
abbrev pub Absent : ℕ → List ℕ → Type 0
Absent n [] = Unit {0}
Absent n (m ∷ ms) = (n ≡ m → ⊥) × Absent n ms

abbrev pub Distinct : List ℕ → Type 0
Distinct [] = Unit {0}
Distinct (n ∷ ns) = Absent n ns × Distinct ns

abbrev pub total : List ℕ → ℕ
total [] = 0
total (w ∷ ws) = w + total ws

-- the weight at a place
abbrev pub weight : List ℕ → ℕ → ℕ
weight [] d = 0
weight (w ∷ ws) zero = w
weight (w ∷ ws) (suc d) = weight ws d

-- the weights at these places
abbrev pub taken : List ℕ → List ℕ → ℕ
taken ws [] = 0
taken ws (d ∷ ds) = weight ws d + taken ws ds

abbrev without : ℕ → List ℕ → List ℕ
without d [] = []
without zero (w ∷ ws) = 0 ∷ ws
without (suc d) (w ∷ ws) = w ∷ without d ws

split : (d : ℕ) (ws : List ℕ) → total ws ≡ weight ws d + total (without d ws)
split d [] = omega arith
split zero (w ∷ ws) = omega arith
split (suc d) (w ∷ ws) = omega (arith, split d ws)

same : (d e : ℕ) (ws : List ℕ) → (d ≡ e → ⊥) → weight (without d ws) e ≡ weight ws e
same d e [] h = refl
same zero zero (w ∷ ws) h = absurd (h refl)
same zero (suc e) (w ∷ ws) h = refl
same (suc d) zero (w ∷ ws) h = refl
same (suc d) (suc e) (w ∷ ws) h = same d e ws (λ q. h (ap suc q))

all_same : (d : ℕ) (ds ws : List ℕ) → Absent d ds → taken (without d ws) ds ≡ taken ws ds
all_same d [] ws h = refl
all_same d (e ∷ ds) ws h = omega (arith, same d e ws h.0, all_same d ds ws h.1)

pub within : (ds ws : List ℕ) → Distinct ds → taken ws ds ≤ total ws
within [] ws h = omega arith
within (d ∷ ds) ws h = omega (arith, split d ws, all_same d ds ws h.0, within ds (without d ws) h.1)

-- ---- numbers below a bound

abbrev one_each : ℕ → List ℕ
one_each zero = []
one_each (suc n) = 1 ∷ one_each n

all_ones : (n : ℕ) → total (one_each n) ≡ n
all_ones zero = refl
all_ones (suc n) = omega (arith, all_ones n)

weight_one : (n d : ℕ) → d < n → weight (one_each n) d ≡ 1
weight_one zero d h = omega (arith, h)
weight_one (suc n) zero h = refl
weight_one (suc n) (suc d) h = weight_one n d (omega (arith, h))

taken_ones : (n : ℕ) (ds : List ℕ) → Each (λ d. d < n) ds → taken (one_each n) ds ≡ length ds
taken_ones n [] h = refl
taken_ones n (d ∷ ds) h = omega (arith, weight_one n d h.0, taken_ones n ds h.1)

-- there are no more of them than the bound
pub few : (n : ℕ) (ds : List ℕ) → Each (λ d. d < n) ds → Distinct ds → length ds ≤ n
few n ds h k = omega (arith, all_ones n, taken_ones n ds h, within ds (one_each n) k)
