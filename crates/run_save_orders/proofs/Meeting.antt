-- Trees whose numbers are paired come to the same under two numberings.
use Rattle.std.proofs.Common.{◌≡◌, ℕ, suc, ◌+◌, ◌*◌, ◌≤◌, ◌<◌, length, List, [], ◌∷◌, ◌++◌, Option, Some, None}
use Rattle.std.proofs.Common.{Bool, true, false, cond, option_map}
use Rattle.std.proofs.Common.{refl, sym, subst, ap, ◌∙◌, arith}
use Rattle.std.proofs.lemmas.Option.{same_Some}
use Rattle.verse_meaning_state.specs.Waits.{eqn, ltn, nth}
use Rattle.verse_meaning_state.proofs.Numbers.{eqn_is, ltn_is_not, eqn_same, ltn_is}
use Rattle.verse_code_machine_saved.specs.Numbers.{Numbering, Fixed, Pairs, Rising, NoneBelow, beside, turned, spread}
use Rattle.verse_code_machine_saved.specs.Numbers.{NumberingsMeet, renumbered}
use Rattle.verse_code_machine_saved.specs.Pairing.{IsPair, pairs_at, path_at}
use Rattle.verse_code_machine_saved.proofs.Paired.{Level, forests_meet}
use Rattle.verse_code_machine_saved.proofs.Tables.{rising_at, none_at}
use Rattle.run_save_shots.specs.Lists.{Each}
use Rattle.run_save_orders.specs.Roots.{Sorts, AreApart, TreesSorted, with_roots, TableSorts}

pub none_some : {A B : Type 0} {x : A} → None ≡ Some x → B
none_some e = cc

-- ---- numbers by the places of their pairs

-- the place of the pair whose first number it is
abbrev place_in : Pairs → ℕ → Option ℕ
place_in [] n = None
place_in (p ∷ ps) n = cond (eqn p.0 n) (Some 0) (option_map suc (place_in ps n))

abbrev by_place : (bound n : ℕ) → Option ℕ → ℕ
by_place bound n None = bound + suc (2 * n)
by_place bound n (Some i) = bound + 2 * i

-- below the bound it is as it was
abbrev placed : ℕ → Pairs → ℕ → ℕ
placed bound ps n = cond (ltn n bound) n (by_place bound n (place_in ps n))

first_at : (ps : Pairs) (n i : ℕ) → place_in ps n ≡ Some i → (p : ℕ × ℕ) × (nth ps i ≡ Some p) × (p.0 ≡ n)
first_at [] n i e = none_some e
first_at (p ∷ ps) n i e = by_test (eqn p.0 n) refl i e (λ j. first_at ps n j)
  where
    later : (o : Option ℕ) (i : ℕ) → option_map suc o ≡ Some i →
        ((j : ℕ) → o ≡ Some j → (q : ℕ × ℕ) × (nth ps j ≡ Some q) × (q.0 ≡ n)) →
        (q : ℕ × ℕ) × (nth (p ∷ ps) i ≡ Some q) × (q.0 ≡ n)
    later None i f g = none_some f
    later (Some j) i f g = subst (λ k. (q : ℕ × ℕ) × (nth (p ∷ ps) k ≡ Some q) × (q.0 ≡ n)) (same_Some _ _ f) (g j refl)

    by_test : (b : Bool) → eqn p.0 n ≡ b → (i : ℕ) → cond b (Some 0) (option_map suc (place_in ps n)) ≡ Some i →
        ((j : ℕ) → place_in ps n ≡ Some j → (q : ℕ × ℕ) × (nth ps j ≡ Some q) × (q.0 ≡ n)) →
        (q : ℕ × ℕ) × (nth (p ∷ ps) i ≡ Some q) × (q.0 ≡ n)
    by_test true f i g h = subst (λ k. (q : ℕ × ℕ) × (nth (p ∷ ps) k ≡ Some q) × (q.0 ≡ n)) (same_Some _ _ g)
        (p, refl, eqn_is p.0 n f)
    by_test false f i g h = later (place_in ps n) i g h

one_place : (ps : Pairs) (n k i : ℕ) → place_in ps n ≡ Some i → place_in ps k ≡ Some i → n ≡ k
one_place ps n k i e f =
    let a = first_at ps n i e in
    let b = first_at ps k i f in
    sym a.2 ∙ (ap (λ (p : ℕ × ℕ). p.0) (same_Some _ _ (sym a.1 ∙ b.1)) ∙ b.2)

placed_apart : (bound : ℕ) (ps : Pairs) (n k : ℕ) → placed bound ps n ≡ placed bound ps k → n ≡ k
placed_apart bound ps n k e = by_tests (ltn n bound) (ltn k bound) refl refl e
  where
    low : (o : Option ℕ) (n k : ℕ) → n < bound → n ≡ by_place bound k o → n ≡ k
    low None n k h e = absurd (omega (arith, h, e))
    low (Some i) n k h e = absurd (omega (arith, h, e))

    both : (o p : Option ℕ) → place_in ps n ≡ o → place_in ps k ≡ p → by_place bound n o ≡ by_place bound k p → n ≡ k
    both None None f g e = omega (arith, e)
    both None (Some j) f g e = absurd (omega (arith, e))
    both (Some i) None f g e = absurd (omega (arith, e))
    both (Some i) (Some j) f g e = one_place ps n k i f (g ∙ ap Some (same i j e))
      where
        same : (i j : ℕ) → bound + 2 * i ≡ bound + 2 * j → j ≡ i
        same i j e = omega (arith, e)

    by_tests : (b d : Bool) → ltn n bound ≡ b → ltn k bound ≡ d →
        cond b n (by_place bound n (place_in ps n)) ≡ cond d k (by_place bound k (place_in ps
        k)) → n ≡ k
    by_tests true true f g e = e
    by_tests true false f g e = low (place_in ps k) n k (ltn_is n bound f) e
    by_tests false true f g e = sym (low (place_in ps n) k n (ltn_is k bound g) (sym e))
    by_tests false false f g e = both (place_in ps n) (place_in ps k) refl refl e

placed_fixed : (bound : ℕ) (ps : Pairs) (n : ℕ) → n < bound → placed bound ps n ≡ n
placed_fixed bound ps n h = by_test (ltn n bound) refl
  where
    no : (i j : ℕ) → i < j → j ≤ i → ⊥
    no i j h g = omega (arith, h, g)

    by_test : (b : Bool) → ltn n bound ≡ b → cond b n (by_place bound n (place_in ps n)) ≡ n
    by_test true e = refl
    by_test false e = absurd (no n bound h (ltn_is_not n bound e))

placed_at : (bound : ℕ) (ps : Pairs) (n i : ℕ) → bound ≤ n → place_in ps n ≡ Some i → placed bound ps n ≡ bound + 2 * i
placed_at bound ps n i h e = by_test (ltn n bound) refl ∙ ap (by_place bound n) e
  where
    no : (i j : ℕ) → i < j → j ≤ i → ⊥
    no i j h g = omega (arith, h, g)

    by_test : (b : Bool) → ltn n bound ≡ b →
        cond b n (by_place bound n (place_in ps n)) ≡ by_place bound n (place_in ps n)
    by_test true f = absurd (no n bound (ltn_is n bound f) h)
    by_test false f = refl

-- a pair behind others of other numbers
found_at : (front back : Pairs) (n m : ℕ) → AreApart (front ++ (n, m) ∷ back) →
    (place_in (front ++ (n, m) ∷ back) n ≡ Some (length front)) ×
    (place_in (turned (front ++ (n, m) ∷ back)) m ≡ Some (length front))
found_at [] back n m a = (
  ap (λ b. cond b (Some 0) (option_map suc (place_in back n))) (eqn_same n),
  ap (λ b. cond b (Some 0) (option_map suc (place_in (turned back) m))) (eqn_same m),
)
found_at (p ∷ front) back n m a =
    let h = found_at front back n m a.1 in
    let d = among front a.0 in (
      ap (λ b. cond b (Some 0) (option_map suc (place_in (front ++ (n, m) ∷ back) n))) (other p.0 n d.0) ∙
          ap (option_map suc) h.0,
      ap (λ b. cond b (Some 0) (option_map suc (place_in (turned (front ++ (n, m) ∷ back)) m))) (other p.1 m d.1) ∙
          ap (option_map suc) h.1,
    )
  where
    among : (xs : Pairs) → Each (λ q. (p.0 ≡ q.0 → ⊥) × (p.1 ≡ q.1 → ⊥)) (xs ++ (n, m) ∷ back) →
        (p.0 ≡ n → ⊥) × (p.1 ≡ m → ⊥)
    among [] b = b.0
    among (x ∷ xs) b = among xs b.1

    other : (i j : ℕ) → (i ≡ j → ⊥) → eqn i j ≡ false
    other i j f = by_test (eqn i j) refl
      where
        by_test : (b : Bool) → eqn i j ≡ b → b ≡ false
        by_test true e = absurd (f (eqn_is i j e))
        by_test false e = refl

below_at : (bound : ℕ) (front back : Pairs) (n m : ℕ) → NoneBelow bound (front ++ (n, m) ∷ back) →
    (bound ≤ n) × (bound ≤ m)
below_at bound [] back n m a = (a.0, a.1)
below_at bound (p ∷ front) back n m a = below_at bound front back n m a.2

-- ---- two numberings

module _ (f : List ℕ → Pairs) (first : List ℕ → List ℕ) (bound : ℕ) where
  -- beneath tasks alone
  abbrev inner : List ℕ → Pairs
  inner [] = []
  inner (i ∷ a) = f (i ∷ a)

  abbrev own : Numbering
  own [] n = placed bound (f []) n
  own (i ∷ a) n = spread inner (i ∷ a) n

  abbrev other : Numbering
  other [] n = placed bound (turned (f [])) n
  other (j ∷ b) n = spread (λ b. turned (inner (first b))) (j ∷ b) n

  module _ (law : NumberingsMeet) (start : first [] ≡ []) (apart : AreApart (f []))
      (rising : (i : ℕ) (a : List ℕ) → Rising (f (i ∷ a)))
      (none : (a : List ℕ) → NoneBelow bound (f a)) where
    inner_rises : (a : List ℕ) → Rising (inner a)
    inner_rises [] = tt
    inner_rises (i ∷ a) = rising i a

    inner_none : (a : List ℕ) → NoneBelow bound (inner a)
    inner_none [] = tt
    inner_none (i ∷ a) = none (i ∷ a)

    pub own_sorts : Sorts own
    own_sorts = record {
      apart = λ n k e. placed_apart bound (f []) n k e;
      rises = λ i a n k h. (law inner bound inner_rises inner_none).0.0 (i ∷ a) n k h;
    }

    pub own_fixed : Fixed own bound
    own_fixed [] n h = placed_fixed bound (f []) n h
    own_fixed (i ∷ a) n h = (law inner bound inner_rises inner_none).0.1 (i ∷ a) n h

    pub other_sorts : Sorts other
    other_sorts = record {
      apart = λ n k e. placed_apart bound (turned (f [])) n k e;
      rises = λ j b n k h. (law (λ b. inner (first b)) bound (λ b. inner_rises (first b))
          (λ b. inner_none (first b))).1.0 (j ∷ b) n k h;
    }

    pub other_fixed : Fixed other bound
    other_fixed [] n h = placed_fixed bound (turned (f [])) n h
    other_fixed (j ∷ b) n h =
        (law (λ b. inner (first b)) bound (λ b. inner_rises (first b)) (λ b. inner_none (first b))).1.1 (j ∷ b) n h

    pub meets : (a b : List ℕ) (n m : ℕ) → Level a b → IsPair f first a b n m → own a n ≡ other b m
    meets [] [] n m l q =
        let h = found_at q.front q.back n m (subst AreApart q.is apart) in
        let k = below_at bound q.front q.back n m (subst (NoneBelow bound) q.is (none [])) in
        placed_at bound (f []) n (length q.front) k.0 (ap (λ ps. place_in ps n) q.is ∙ h.0) ∙
        sym (placed_at bound (turned (f [])) m (length q.front) k.1 (ap (λ
        ps. place_in (turned ps) m) q.is ∙ h.1))
    meets (i ∷ a) (j ∷ b) n m l q =
        subst (λ z. spread inner (i ∷ a) n ≡ m + beside m (turned (inner z)) 0) (sym q.path)
        ((law inner bound inner_rises
        inner_none).2 (i ∷ a) (n, m) q.front q.back q.is)
    meets [] (j ∷ b) n m l q = absurd l
    meets (i ∷ a) [] n m l q = absurd l

pub trees_sorted : NumberingsMeet → TreesSorted
trees_sorted law f first s tss uss start apart rising none p = record {
  own = own f first s.clock.left;
  other = other f first s.clock.left;
  own_sorts = own_sorts f first s.clock.left law start apart rising none;
  own_fixed = own_fixed f first s.clock.left law start apart rising none;
  other_sorts = other_sorts f first s.clock.left law start apart rising none;
  other_fixed = other_fixed f first s.clock.left law start apart rising none;
  meet = forests_meet f first (renumbered (own f first s.clock.left) s) (renumbered (other f first s.clock.left) s)
      (meets f first s.clock.left law start apart rising none) tss uss p;
}

-- ---- by a table

pub table_sorts : NumberingsMeet → TableSorts
table_sorts law roots es s tss uss apart none ordered p =
    trees_sorted law (pairs_at (with_roots roots es)) (path_at (with_roots roots es)) s tss uss refl apart
    (λ i a. rising_at s.clock.left es (i ∷ a) ordered) below p
  where
    below : (a : List ℕ) → NoneBelow s.clock.left (pairs_at (with_roots roots es) a)
    below [] = none
    below (i ∷ a) = none_at s.clock.left es (i ∷ a) ordered
