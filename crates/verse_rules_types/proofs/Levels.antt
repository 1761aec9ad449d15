-- Where two classes meet that are lifted to one level and go up from there in step.
use Rattle.std.proofs.Common.{◌≡◌, ℕ, zero, suc, ◌+◌, ◌-◌, ◌<◌, ◌≤◌, Bool, true, false, cond, nat_eq, nat_le, List, length, Option, refl, sym, ap, ◌∙◌}
use Rattle.std.proofs.Common.{subst, arith}
use Rattle.std.specs.Prelude.{Some, None, is_some}
use Rattle.std.proofs.lemmas.Bool.Decides.{nat_tests}
use Rattle.std.proofs.lemmas.Bool.{eqb-true}
use Rattle.verse_rules_types.specs.Types.{Class}
use Rattle.verse_rules_types.specs.Fitting.{first_above, parent_of, above, inherits, common}
use Rattle.verse_rules_types.specs.Depths as depths
use Rattle.verse_rules_types.specs.Depths.{top, up}
use Rattle.verse_rules_types.specs.Depths.{height_from, height_on, height, lifted, lift_on, meeting, meeting_from}
use Rattle.verse_rules_types.proofs.Climbing.{down, none}

-- ---- the loops

module _ (cs : List Class) where
  pub height_up : (n i c p : ℕ) → i < n → parent_of cs c ≡ Some p →
      height_from cs (n - i) i c ≡ height_from cs (n - (i + 1)) (i + 1) p
  height_up n i c p h e = ap (λ m. height_from cs m i c) (down n i h) ∙ ap (λ o. height_on i o (height_from cs (n - (i + 1)) (i + 1))) e

  pub height_top : (n i c : ℕ) → i < n → parent_of cs c ≡ None → height_from cs (n - i) i c ≡ Some i
  height_top n i c h e = ap (λ m. height_from cs m i c) (down n i h) ∙ ap (λ o. height_on i o (height_from cs (n - (i + 1)) (i + 1))) e

  pub height_end : (n i c : ℕ) → n ≤ i → height_from cs (n - i) i c ≡ None
  height_end n i c h = ap (λ m. height_from cs m i c) (none n i h)

  pub lift_up : (n i c p : ℕ) → i < n → parent_of cs c ≡ Some p → lifted cs (n - i) c ≡ lifted cs (n - (i + 1)) p
  lift_up n i c p h e = ap (λ m. lifted cs m c) (down n i h) ∙ ap (λ o. lift_on c o (lifted cs (n - (i + 1)))) e

  pub lift_top : (n i c : ℕ) → i < n → parent_of cs c ≡ None → lifted cs (n - i) c ≡ c
  lift_top n i c h e = ap (λ m. lifted cs m c) (down n i h) ∙ ap (λ o. lift_on c o (lifted cs (n - (i + 1)))) e

  pub lift_end : (n i c : ℕ) → n ≤ i → lifted cs (n - i) c ≡ c
  lift_end n i c h = ap (λ m. lifted cs m c) (none n i h)

  same_step : (n c d : ℕ) → nat_eq c d ≡ true → meeting cs (suc n) c d ≡ Some c
  same_step n c d e = rw e refl

  up_step : (n c d p q : ℕ) → nat_eq c d ≡ false → parent_of cs c ≡ Some p → parent_of cs d ≡ Some q →
      meeting cs (suc n) c d ≡ meeting cs n p q
  up_step n c d p q e f g = rw (e, f, g) refl

  top_step : (n c d : ℕ) → nat_eq c d ≡ false → parent_of cs c ≡ None → meeting cs (suc n) c d ≡ None
  top_step n c d e f = rw (e, f) refl

  far_step : (n c d p : ℕ) → nat_eq c d ≡ false → parent_of cs c ≡ Some p → parent_of cs d ≡ None → meeting cs (suc n) c d ≡ None
  far_step n c d p e f g = rw (e, f, g) refl

  pub meet_up : (n i c d p q : ℕ) → i < n → nat_eq c d ≡ false → parent_of cs c ≡ Some p → parent_of cs d ≡ Some q →
      meeting cs (n - i) c d ≡ meeting cs (n - (i + 1)) p q
  meet_up n i c d p q h e f g = ap (λ m. meeting cs m c d) (down n i h) ∙ up_step (n - (i + 1)) c d p q e f g

  pub meet_here : (n i c d : ℕ) → i < n → nat_eq c d ≡ true → meeting cs (n - i) c d ≡ Some c
  meet_here n i c d h e = ap (λ m. meeting cs m c d) (down n i h) ∙ same_step (n - (i + 1)) c d e

  pub meet_top : (n i c d : ℕ) → i < n → nat_eq c d ≡ false → parent_of cs c ≡ None → meeting cs (n - i) c d ≡ None
  meet_top n i c d h e f = ap (λ m. meeting cs m c d) (down n i h) ∙ top_step (n - (i + 1)) c d e f

  pub meet_far : (n i c d p : ℕ) → i < n → nat_eq c d ≡ false → parent_of cs c ≡ Some p → parent_of cs d ≡ None →
      meeting cs (n - i) c d ≡ None
  meet_far n i c d p h e f g = ap (λ m. meeting cs m c d) (down n i h) ∙ far_step (n - (i + 1)) c d p e f g

  pub meet_end : (n i c d : ℕ) → n ≤ i → meeting cs (n - i) c d ≡ None
  meet_end n i c d h = ap (λ m. meeting cs m c d) (none n i h)

-- ---- levels

pub same_number : (a b : ℕ) → nat_eq a b ≡ true → a ≡ b
same_number a b e = eqb-true a b e

no_more : (a b : ℕ) → nat_le a b ≡ true → a ≤ b
no_more a b e = grind (arith, nat_tests)

more : (a b : ℕ) → nat_le a b ≡ false → b < a
more a b e = grind (arith, nat_tests)

pub other_number : (a b : ℕ) → (a ≡ b → ⊥) → nat_eq a b ≡ false
other_number a b h = by (nat_eq a b) refl
  where
    by : (b′ : Bool) → nat_eq a b ≡ b′ → nat_eq a b ≡ false
    by true e = absurd (h (same_number a b e))
    by false e = e

module _ (cs : List Class) where
  abbrev Ends : ℕ → ℕ → Type 0
  Ends = depths.Ends cs

  pub once : {k j c : ℕ} → Ends k c → Ends j c → k ≡ j
  once (top e) (top f) = refl
  once (top e) (up f g) = cc
  once (up e g) (top f) = cc
  once (up {p = p} e g) (up {k = j} {p = q} f h) =
      ap suc (once g (subst (Ends j) (let same : q ≡ p = cc in same) h))

  pub apart : {k j c d : ℕ} → Ends k c → Ends j d → k < j → nat_eq d c ≡ false
  apart {k} {j} {c} {d} e f h = other_number d c (λ s. absurd (no (once e (subst (Ends j) s f))))
    where
      no : k ≡ j → ⊥
      no s = omega (arith, h, s)

  stable : {k c : ℕ} (t : ℕ → Bool) (n m : ℕ) → Ends k c → k < n → k < m → first_above cs t n c ≡ first_above cs t m c
  stable t zero m e h l = absurd (omega (arith, h))
  stable t (suc n) zero e h l = absurd (omega (arith, l))
  stable t (suc n) (suc m) (top p) h l = rw p refl
  stable t (suc n) (suc m) (up {c = c} p e) h l =
      rw p (ap (λ o. cond (t c) (Some c) o) (stable t n m e (omega (arith, h)) (omega (arith, l))))

  pub too_low : {k j d x : ℕ} (n : ℕ) → Ends k d → Ends j x → k < j → first_above cs (nat_eq x) n d ≡ None
  too_low zero e f h = refl
  too_low (suc n) (top p) f h = rw (apart (top p) f h, p) refl
  too_low (suc n) (up p e) f h = rw (apart (up p e) f h, p) (too_low n e f (omega (arith, h)))

  beside : {k d x : ℕ} (n : ℕ) → Ends k d → Ends k x → nat_eq x d ≡ false → first_above cs (nat_eq x) n d ≡ None
  beside zero e f g = refl
  beside (suc n) (top p) f g = rw (g, p) refl
  beside (suc n) (up p e) f g = rw (g, p) (too_low n e f (omega arith))

  -- one class up, where the test holds at none but those above
  one_higher : {k p : ℕ} (c : ℕ) (t : ℕ → Bool) (n : ℕ) → suc k < n → t c ≡ false → parent_of cs c ≡ Some p → Ends k p →
      first_above cs t n c ≡ first_above cs t n p
  one_higher c t zero h g e f = absurd (omega (arith, h))
  one_higher c t (suc n) h g e f = rw (g, e) (stable t n (suc n) f (omega (arith, h)) (omega (arith, h)))

  same_tests : {k c : ℕ} (t u : ℕ → Bool) (n : ℕ) → Ends k c → ((i x : ℕ) → Ends i x → i ≤ k → t x ≡ u x) →
      first_above cs t n c ≡ first_above cs u n c
  same_tests t u zero e s = refl
  same_tests t u (suc n) (top {c = c} p) s = rw (s zero c (top p) (omega arith), p) refl
  same_tests t u (suc n) (up {k = k} {c = c} p e) s =
      rw (s (suc k) c (up p e) (omega arith), p)
      (ap (λ o. cond (u c) (Some c) o) (same_tests t u n e (λ i x f l. s i x f (omega (arith, l)))))

  apart_up : {k q i : ℕ} (d y : ℕ) → parent_of cs d ≡ Some q → Ends k q → Ends i y → i < suc k → nat_eq y d ≡ false
  apart_up {i = i} d y e f g l = other_number y d (λ s. absurd (omega (arith, once (up e f) (subst (Ends i) s g), l)))

  -- a class inherits from a lower one where its parent does
  test_up : {k q i : ℕ} (n d x : ℕ) → suc k < n → parent_of cs d ≡ Some q → Ends k q → Ends i x → i < suc k →
      is_some (first_above cs (nat_eq x) n d) ≡ is_some (first_above cs (nat_eq x) n q)
  test_up n d x h e f g l = ap is_some (one_higher d (nat_eq x) n h (apart_up d x e f g l) e f)

  -- a class inherits from another one, looking n steps up
  abbrev Below : ℕ → ℕ → ℕ → Bool
  Below n d x = is_some (first_above cs (nat_eq x) n d)

  lift_first : {j k c d : ℕ} (i n : ℕ) → Ends j c → j ≡ i + k → Ends k d → j < n →
      (first_above cs (Below n d) n c ≡ first_above cs (Below n d) n (lifted cs i c)) × Ends k (lifted cs i c)
  lift_first {j = j} {k = k} {c = c} zero n e s f h = (refl, subst (λ m. Ends m c) (let same : j ≡ k = omega (arith, s) in same) e)
  lift_first (suc i) n (top p) s f h = absurd (omega (arith, s))
  lift_first {c = c} {d = d} (suc i) n (up {k = j} {p = q} p e) s f h =
      let here : Below n d c ≡ false = ap is_some (too_low n f (up p e) (omega (arith, s))) in
      let rest = lift_first i n e (omega (arith, s)) f (omega (arith, h)) in
      rw p (one_higher c (Below n d) n h here p e ∙ rest.0, rest.1)

  lift_second : {j k c d : ℕ} (i n : ℕ) → Ends k c → Ends j d → j ≡ i + k → j < n →
      (first_above cs (Below n d) n c ≡ first_above cs (Below n (lifted cs i d)) n c) × Ends k (lifted cs i d)
  lift_second {j = j} {k = k} {d = d} zero n e f s h = (refl, subst (λ m. Ends m d) (let same : j ≡ k = omega (arith, s) in same) f)
  lift_second (suc i) n e (top p) s h = absurd (omega (arith, s))
  lift_second {k = k} {d = d} (suc i) n e (up {k = j} {p = q} p f) s h =
      let rest = lift_second i n e f (omega (arith, s)) (omega (arith, h)) in
      rw p (same_tests (Below n d) (Below n q) n e (λ m x g l. test_up n d x h p f g (omega (arith, s, l))) ∙ rest.0, rest.1)

  first_none : (t : ℕ → Bool) (n c : ℕ) → t c ≡ false → parent_of cs c ≡ None → first_above cs t n c ≡ None
  first_none t zero c h e = refl
  first_none t (suc n) c h e = rw (h, e) refl

  meet_none : (m c d : ℕ) → nat_eq c d ≡ false → parent_of cs c ≡ None → meeting cs m c d ≡ None
  meet_none zero c d s e = refl
  meet_none (suc m) c d s e = top_step cs m c d s e

  same : (n m c d : ℕ) → nat_eq c d ≡ true → 0 < n → 0 < m → first_above cs (Below n d) n c ≡ meeting cs m c d
  same zero m c d s h l = absurd (omega (arith, h))
  same (suc n) zero c d s h l = absurd (omega (arith, l))
  same (suc n) (suc m) c d s h l = rw s refl

  tops : (b : Bool) (n m c d : ℕ) → nat_eq c d ≡ b → parent_of cs c ≡ None → parent_of cs d ≡ None → 0 < n → 0 < m →
      first_above cs (Below n d) n c ≡ meeting cs m c d
  tops true n m c d s p q h l = same n m c d s h l
  tops false n m c d s p q h l =
      first_none (Below n d) n c (ap is_some (beside n (top q) (top p) s)) p ∙ sym (meet_none m c d s p)

  ups : {k p q : ℕ} (b : Bool) (n m c d : ℕ) → nat_eq c d ≡ b → parent_of cs c ≡ Some p → parent_of cs d ≡ Some q →
      Ends k p → Ends k q → suc k < n → suc k < m →
      ((o : ℕ) → k < o → first_above cs (Below n q) n p ≡ meeting cs o p q) →
      first_above cs (Below n d) n c ≡ meeting cs m c d
  ups true n m c d s e f g i h l r = same n m c d s (omega (arith, h)) (omega (arith, l))
  ups false n zero c d s e f g i h l r = absurd (omega (arith, l))
  ups {p = p} {q = q} false n (suc m) c d s e f g i h l r =
      one_higher c (Below n d) n h (ap is_some (beside n (up f i) (up e g) s)) e g
      ∙ same_tests (Below n d) (Below n q) n g (λ j x o z. test_up n d x h f i o (omega (arith, z)))
      ∙ r m (omega (arith, l)) ∙ sym (up_step cs m c d p q s e f)

  met : {k c d : ℕ} (n m : ℕ) → Ends k c → Ends k d → k < n → k < m → first_above cs (Below n d) n c ≡ meeting cs m c d
  met {c = c} {d = d} n m (top p) (top q) h l = tops (nat_eq c d) n m c d refl p q h l
  met {c = c} {d = d} n m (up p e) (up q f) h l =
      ups (nat_eq c d) n m c d refl p q e f h l (λ o z. met n o e f (omega (arith, h)) z)

  abbrev Told : ℕ → ℕ → ℕ → ℕ → Type 0
  Told n i c h = (j : ℕ) × (h ≡ i + j) × (j < n) × Ends j c

  ends_on : (n i c h : ℕ) (o : Option ℕ) → parent_of cs c ≡ o → ((q : ℕ) → height_from cs n (i + 1) q ≡ Some h → Told n (i + 1) q h) →
      height_on i o (height_from cs n (i + 1)) ≡ Some h → Told (suc n) i c h
  ends_on n i c h None p r e = (0, (let same : h ≡ i = cc in omega (arith, same)), omega arith, top p)
  ends_on n i c h (Some q) p r e =
      let rest = r q e in
      (suc rest.0, omega (arith, rest.1), omega (arith, rest.2), up p rest.3)

  ends : (n i c h : ℕ) → height_from cs n i c ≡ Some h → Told n i c h
  ends zero i c h e = cc
  ends (suc n) i c h e = ends_on n i c h (parent_of cs c) refl (λ q f. ends n (i + 1) q h f) e

  pub high_ends : (c h : ℕ) → height cs c ≡ Some h → (h < length cs) × Ends h c
  high_ends c h e =
      let t = ends (length cs) 0 c h e in
      let same : t.0 ≡ h = omega (arith, t.1) in
      (omega (arith, same, t.2), subst (λ j. Ends j c) same t.3)

  ends_high : {k c : ℕ} (n i : ℕ) → Ends k c → k < n → height_from cs n i c ≡ Some (i + k)
  ends_high zero i e h = absurd (omega (arith, h))
  ends_high (suc n) i (top p) h = ap (λ o. height_on i o (height_from cs n (i + 1))) p ∙ ap Some (let same : i ≡ i + 0 = omega arith in same)
  ends_high (suc n) i (up {k = k} p e) h =
      ap (λ o. height_on i o (height_from cs n (i + 1))) p ∙ ends_high n (i + 1) e (omega (arith, h)) ∙
      ap Some (let same : (i + 1) + k ≡ i + suc k = omega arith in same)

  pub is_high : {k c : ℕ} → Ends k c → k < length cs → height cs c ≡ Some k
  is_high {k = k} e h = ends_high (length cs) 0 e h ∙ ap Some (let same : 0 + k ≡ k = omega arith in same)

  meet_low : (n i j c d h k : ℕ) → h ≤ k → h ≡ i → k ≡ j → i < n → j < n → Ends i c → Ends j d →
      first_above cs (Below n d) n c ≡ meeting cs n (lifted cs (h - k) c) (lifted cs (k - h) d)
  meet_low n i j c d h k o s t l m e f =
      let rest = lift_second (k - h) n e f (let sum : j ≡ (k - h) + i = omega (arith, o, s, t) in sum) m in
      rest.0 ∙ met n n e rest.1 l l ∙
      ap (λ z. meeting cs n (lifted cs z c) (lifted cs (k - h) d)) (let gone : 0 ≡ h - k = omega (arith, o) in gone)

  meet_high : (n i j c d h k : ℕ) → k < h → h ≡ i → k ≡ j → i < n → j < n → Ends i c → Ends j d →
      first_above cs (Below n d) n c ≡ meeting cs n (lifted cs (h - k) c) (lifted cs (k - h) d)
  meet_high n i j c d h k o s t l m e f =
      let rest = lift_first (h - k) n e (let sum : i ≡ (h - k) + j = omega (arith, o, s, t) in sum) f l in
      rest.0 ∙ met n n rest.1 f m m ∙
      ap (λ z. meeting cs n (lifted cs (h - k) c) (lifted cs z d)) (let gone : 0 ≡ k - h = omega (arith, o) in gone)

  pub meet_levels : (c d h k : ℕ) → height cs c ≡ Some h → height cs d ≡ Some k → common cs c d ≡ meeting_from cs c d h k
  meet_levels c d h k e f = by (nat_le h k) refl
    where
      a : Told (length cs) 0 c h
      a = ends (length cs) 0 c h e

      b : Told (length cs) 0 d k
      b = ends (length cs) 0 d k f

      by : (t : Bool) → nat_le h k ≡ t → common cs c d ≡ meeting_from cs c d h k
      by true t = meet_low (length cs) a.0 b.0 c d h k (no_more h k t) (omega (arith, a.1)) (omega (arith, b.1)) a.2 b.2 a.3 b.3
      by false t = meet_high (length cs) a.0 b.0 c d h k (more h k t) (omega (arith, a.1)) (omega (arith, b.1)) a.2 b.2 a.3 b.3
