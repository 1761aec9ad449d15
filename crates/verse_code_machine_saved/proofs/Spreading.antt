-- Two numberings in the same order have a common one.
use Rattle.std.proofs.Common.{◌≡◌, ℕ, ◌+◌, ◌≤◌, ◌<◌, List, [], ◌∷◌, ◌++◌, Bool, true, false, cond, nat_le, refl, sym, ap, ◌∙◌, subst, arith}
use Rattle.std.proofs.lemmas.Bool.Decides.{nat_tests}
use Rattle.verse_code_machine_saved.specs.Numbers.{Rises, Fixed, Pairs, AllAbove, Rising, NoneBelow, beside, turned, spread, Meeting}
use Rattle.verse_code_machine_saved.specs.Numbers.{NumberingsMeet}

Under : ℕ → Pairs → Type 0
Under k [] = Unit {0}
Under k (p ∷ ps) = k ≤ p.1

above_under : (p : ℕ × ℕ) (ps : Pairs) → AllAbove p ps → Under p.1 ps
unfolding Under
above_under p [] a = tt
above_under p (k ∷ ps) a = omega (arith, a.1)

yes : (n k : ℕ) → n ≤ k → nat_le n k ≡ true
yes n k h = grind (arith, nat_tests, h)

no : (n k : ℕ) → k < n → nat_le n k ≡ false
no n k h = grind (arith, nat_tests, h)

at_least : (ps : Pairs) (m k : ℕ) → Rising ps → Under k ps → k ≤ beside m ps k
unfolding Under
at_least [] m k r u = omega arith
at_least (p ∷ ps) m k r u = at (nat_le p.0 m) (at_least ps m p.1 r.1 (above_under p ps r.0))
  where
    at : (b : Bool) → p.1 ≤ beside m ps p.1 → k ≤ cond b (beside m ps p.1) k
    at true h = omega (arith, u, h)
    at false h = omega arith

grows : (ps : Pairs) (n m k : ℕ) → n ≤ m → Rising ps → Under k ps → beside n ps k ≤ beside m ps k
unfolding Under
grows [] n m k h r u = omega arith
grows (p ∷ ps) n m k h r u =
    at (nat_le p.0 n) (nat_le p.0 m) refl refl (grows ps n m p.1 h r.1 (above_under p ps r.0))
    (at_least ps m p.1 r.1 (above_under p ps r.0))
  where
    at : (b c : Bool) → nat_le p.0 n ≡ b → nat_le p.0 m ≡ c → beside n ps p.1 ≤ beside m ps p.1 → p.1 ≤ beside m ps p.1 →
        cond b (beside n ps p.1) k ≤ cond c (beside m ps p.1) k
    at true true e f g l = g
    at false false e f g l = omega arith
    at false true e f g l = omega (arith, u, l)
    at true false e f g l = absurd (grind (arith, nat_tests, e, f, h))

none_beside : (ps : Pairs) (n bound : ℕ) → n < bound → NoneBelow bound ps → beside n ps 0 ≡ 0
none_beside [] n bound h b = refl
none_beside (p ∷ ps) n bound h b = ap (λ c. cond c (beside n ps p.1) 0) (no p.0 n (omega (arith, h, b.0)))

-- the last pair at or before a number
behind_none : (ps : Pairs) (p : ℕ × ℕ) (k : ℕ) → AllAbove p ps → beside p.0 ps k ≡ k
behind_none [] p k a = refl
behind_none (x ∷ ps) p k a = ap (λ c. cond c (beside p.0 ps x.1) k) (no x.0 p.0 a.0)

above_of : (front : Pairs) (x p : ℕ × ℕ) (back : Pairs) → AllAbove x (front ++ p ∷ back) → x.0 < p.0
above_of [] x p back a = a.0
above_of (y ∷ front) x p back a = above_of front x p back a.2

beside_at : (front back : Pairs) (p : ℕ × ℕ) (k : ℕ) → Rising (front ++ p ∷ back) → beside p.0 (front ++ p ∷ back) k ≡ p.1
beside_at [] back p k r = ap (λ c. cond c (beside p.0 back p.1) k) (yes p.0 p.0 (omega arith)) ∙ behind_none back p p.1 r.0
beside_at (x ∷ front) back p k r =
    ap (λ c. cond c (beside p.0 (front ++ p ∷ back) x.1) k) (yes x.0 p.0 (omega (arith, above_of front x p back r.0))) ∙
    beside_at front back p x.1 r.1

turned_above : (p : ℕ × ℕ) (ps : Pairs) → AllAbove p ps → AllAbove (p.1, p.0) (turned ps)
turned_above p [] a = tt
turned_above p (x ∷ ps) a = (a.1, a.0, turned_above p ps a.2)

turned_rising : (ps : Pairs) → Rising ps → Rising (turned ps)
turned_rising [] r = tt
turned_rising (p ∷ ps) r = (turned_above p ps r.0, turned_rising ps r.1)

turned_none : (bound : ℕ) (ps : Pairs) → NoneBelow bound ps → NoneBelow bound (turned ps)
turned_none bound [] b = tt
turned_none bound (p ∷ ps) b = (b.1, b.0, turned_none bound ps b.2)

turned_more : (front back : Pairs) (p : ℕ × ℕ) → turned (front ++ p ∷ back) ≡ turned front ++ (p.1, p.0) ∷ turned back
turned_more [] back p = refl
turned_more (x ∷ front) back p = ap (λ ps. (x.1, x.0) ∷ ps) (turned_more front back p)

under_zero : (ps : Pairs) → Under 0 ps
unfolding Under
under_zero [] = tt
under_zero (p ∷ ps) = omega arith

rises : (f : List ℕ → Pairs) → ((a : List ℕ) → Rising (f a)) → Rises (spread f)
rises f r a n k h = omega (arith, h, grows (f a) n k 0 (omega (arith, h)) (r a) (under_zero (f a)))

fixed : (f : List ℕ → Pairs) (bound : ℕ) → ((a : List ℕ) → NoneBelow bound (f a)) → Fixed (spread f) bound
fixed f bound b a n h = ap (λ k. n + k) (none_beside (f a) n bound h (b a)) ∙ none_more n
  where
    none_more : (n : ℕ) → n + 0 ≡ n
    none_more n = omega arith

meeting : (ps : Pairs) → Rising ps → Meeting ps
meeting ps r p front back e =
    ap (λ k. p.0 + k) (ap (λ qs. beside p.0 qs 0) e ∙ beside_at front back p 0 (subst Rising e r)) ∙ swap p.0 p.1 ∙ ap (λ k. p.1 + k) (sym
    (ap (λ qs. beside p.1 qs 0) (ap turned e ∙ turned_more front back p) ∙ beside_at (turned front) (turned back) (p.1, p.0) 0 (subst Rising
    (ap turned e ∙ turned_more front back p) (turned_rising ps r))))
  where
    swap : (a b : ℕ) → a + b ≡ b + a
    swap a b = omega arith

pub numberings_meet : NumberingsMeet
numberings_meet f bound r b = (
  (rises f r, fixed f bound b),
  (rises (λ a. turned (f a)) (λ a. turned_rising (f a) (r a)), fixed (λ a. turned (f a)) bound (λ a. turned_none bound (f a) (b a))),
  λ a. meeting (f a) (r a),
)
