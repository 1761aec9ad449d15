-- Numbers from one on, one by one.
use Rattle.std.proofs.Common.{◌≡◌, ℕ, suc, ◌+◌, ◌-◌, ◌<◌, ◌≤◌, List, [], ◌∷◌, length, Bool, true, false, refl, sym, ap, ◌∙◌, arith}
use Rattle.std.specs.Prelude.{◌&&◌}
use Rattle.verse_verify_kept.specs.Rules.{sorts}
use Rattle.verse_verify_notes.specs.declared.sorts.Sort.{Sort as Kept}
use Rattle.verse_verify_notes.specs.View.{sorts_of}
use Rattle.verse_verify_tasks.specs.Arms.{all_from, size}

next : (m i : ℕ) → i < m → m - i ≡ suc (m - (i + 1))
next m i h = omega (arith, h)

none : (m i : ℕ) → m ≤ i → m - i ≡ 0
none m i h = omega (arith, h)

plus : (x i : ℕ) → suc (x + i) ≡ x + (i + 1)
plus x i = omega arith

module _ (test : ℕ → Bool) where
  one_less : (a m i : ℕ) → i < m → all_from test a (m - i) ≡ test a && all_from test (suc a) (m - (i + 1))
  one_less a m i h = ap (all_from test a) (next m i h)

  pub ends : (a m i : ℕ) → m ≤ i → all_from test a (m - i) ≡ true
  ends a m i h = ap (all_from test a) (none m i h)

  pub stops : (a m i : ℕ) → i < m → test a ≡ false → all_from test a (m - i) ≡ false
  stops a m i h e = one_less a m i h ∙ ap (λ b. b && all_from test (suc a) (m - (i + 1))) e

  pub further : (x m i : ℕ) → i < m → test (x + i) ≡ true → all_from test (x + (i + 1)) (m - (i + 1)) ≡ all_from test (x + i) (m - i)
  further x m i h e = sym (one_less (x + i) m i h ∙ ap (λ b. b && all_from test (suc (x + i)) (m - (i + 1))) e ∙ ap (λ n. all_from test n (m
      - (i + 1))) (plus x i))

pub count_is : (xs : List Kept) → size (sorts (sorts_of xs)) ≡ length xs
count_is [] = refl
count_is (x ∷ xs) = ap suc (count_is xs)
