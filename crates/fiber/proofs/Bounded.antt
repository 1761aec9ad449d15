-- Bounds in either order.
use Rattle.std.proofs.Common.{◌≡◌, ℕ, zero, suc, ◌≤◌, ◌<◌, Bool, true, false, cond, ◌&&◌, List, [], ◌∷◌, ◌++◌, length, drop, get_or}
use Rattle.std.proofs.Common.{reverse, refl, sym, ap, ◌∙◌, arith}
use Rattle.std.proofs.lemmas.List.{reverse-append}
use Rattle.fiber_stacks.specs.declared.heads.Bounds.{Bounds}
use Rattle.fiber.specs.Bounding.{allows, within}

between : (a b c : Bool) → cond a (b && c) false ≡ (cond a b false && c)
between true b c = refl
between false b c = refl

last_one : (a b : Bool) → (b && cond a true false) ≡ cond a b false
last_one true true = refl
last_one true false = refl
last_one false true = refl
last_one false false = refl

within_append : (xs ys : List Bounds) (q : ℕ) → within (xs ++ ys) q ≡ (within xs q && within ys q)
within_append [] ys q = refl
within_append (x ∷ xs) ys q = rw (within_append xs ys q) (between (allows x q) (within xs q) (within ys q))

within_reverse : (bs : List Bounds) (q : ℕ) → within (reverse bs) q ≡ within bs q
within_reverse [] q = refl
within_reverse (b ∷ bs) q =
    ap (λ k. within k q) (reverse-append (b ∷ []) bs) ∙ within_append (reverse bs) (b ∷ []) q ∙
    ap (λ t. t && within (b ∷ []) q) (within_reverse bs q) ∙ last_one (allows b q) (within bs q)

refused_at : (bs : List Bounds) (i : ℕ) (q : ℕ) (d : Bounds) → i < length bs → allows (get_or bs i d) q ≡ false →
    within (drop i bs) q ≡ false
refused_at [] i q d lt not_so = absurd (omega (arith, lt))
refused_at (b ∷ bs) zero q d lt not_so = rw not_so refl
refused_at (b ∷ bs) (suc i) q d lt not_so = refused_at bs i q d (omega (arith, lt)) not_so

passed_all : (bs : List Bounds) (i : ℕ) (q : ℕ) → length bs ≤ i → within (drop i bs) q ≡ true
passed_all [] zero q le = refl
passed_all [] (suc i) q le = refl
passed_all (b ∷ bs) zero q le = absurd (omega (arith, le))
passed_all (b ∷ bs) (suc i) q le = passed_all bs i q (omega (arith, le))

pub refused : (bs : List Bounds) (i : ℕ) (q : ℕ) (d : Bounds) → within (drop i bs) q ≡ within bs q → i < length bs →
    allows (get_or bs i d) q ≡ false → false ≡ within (reverse bs) q
refused bs i q d same lt not_so = sym (within_reverse bs q ∙ sym same ∙ refused_at bs i q d lt not_so)

pub passed : (bs : List Bounds) (i : ℕ) (q : ℕ) → within (drop i bs) q ≡ within bs q → length bs ≤ i → true ≡ within (reverse bs) q
passed bs i q same le = sym (within_reverse bs q ∙ sym same ∙ passed_all bs i q le)
