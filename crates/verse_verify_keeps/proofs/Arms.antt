-- Operations behind a Group, one by one.
use Rattle.std.proofs.Common.{◌≡◌, ℕ, suc, ◌+◌, ◌-◌, ◌<◌, ◌≤◌, true, sym, ap, ◌∙◌, arith}
use Rattle.std.specs.Prelude.{not, ◌&&◌, slice_get}
use Rattle.verse_code.specs.declared.codes.Code.{Code}
use Rattle.verse_code_machine.specs.Acts.{label_of}
use Rattle.verse_verify_faults.specs.Spots.{Table}
use Rattle.verse_verify_faults.specs.Faults.{are_arms, is_none}

module _ (c : Code) (t : Table) where
  pub one_less : (j m i : ℕ) → i < m →
      are_arms c t j (m - i) ≡ not (is_none (label_of (slice_get c.ops j))) && are_arms c t (suc j) (m - (i + 1))
  one_less j m i h = ap (are_arms c t j) (next m i h)
    where
      next : (m i : ℕ) → i < m → m - i ≡ suc (m - (i + 1))
      next m i h = omega (arith, h)

  pub none_left : (j m i : ℕ) → m ≤ i → are_arms c t j (m - i) ≡ true
  none_left j m i h = ap (are_arms c t j) (none m i h)
    where
      none : (m i : ℕ) → m ≤ i → m - i ≡ 0
      none m i h = omega (arith, h)

  pub further : (x m i : ℕ) → i < m → not (is_none (label_of (slice_get c.ops (suc x + i)))) ≡ true →
      are_arms c t (suc x + (i + 1)) (m - (i + 1)) ≡ are_arms c t (suc x + i) (m - i)
  further x m i h y = sym (one_less (suc x + i) m i h ∙ ap (λ b. b && are_arms c t (suc (suc x + i)) (m - (i + 1))) y ∙
      ap (λ n. are_arms c t n (m - (i + 1))) (plus x i))
    where
      plus : (x i : ℕ) → suc (suc x + i) ≡ suc x + (i + 1)
      plus x i = omega arith
