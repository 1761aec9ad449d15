-- One frame more, from the top one down.
use Rattle.std.proofs.Common.{◌≡◌, ℕ, zero, suc, ◌+◌, ◌-◌, ◌<◌, ◌≤◌, max, List, [], ◌∷◌, ◌++◌, length, set, get_or, take, drop, refl, sym}
use Rattle.std.proofs.Common.{ap}
use Rattle.std.proofs.Common.{◌∙◌, arith}
use Rattle.run_save_numbers.specs.Marking.{carry, lifted}

carry_more : (above : ℕ) (ns : List ℕ) (i : ℕ) → carry above (drop i ns) ≤ carry above ns
carry_more above [] zero = omega arith
carry_more above [] (suc i) = omega arith
carry_more above (n ∷ ns) zero = omega arith
carry_more above (n ∷ ns) (suc i) = omega (arith, carry_more above ns i)

drop_at : (ns : List ℕ) (i d : ℕ) → i < length ns → drop i ns ≡ get_or ns i d ∷ drop (suc i) ns
drop_at [] i d l = absurd (omega (arith, l))
drop_at (n ∷ ns) zero d l = refl
drop_at (n ∷ ns) (suc i) d l = drop_at ns i d (omega (arith, l))

drop_long : (ns : List ℕ) (i : ℕ) → i ≤ length ns → length (drop i ns) + i ≡ length ns
drop_long ns zero l = omega arith
drop_long [] (suc i) l = absurd (omega (arith, l))
drop_long (n ∷ ns) (suc i) l = omega (arith, drop_long ns i (omega (arith, l)))

-- the place is not behind those that are done
same_at : (ns ms : List ℕ) (i d : ℕ) → i < length ns → get_or (take (suc i) ns ++ ms) i d ≡ get_or ns i d
same_at [] ms i d l = absurd (omega (arith, l))
same_at (n ∷ ns) ms zero d l = refl
same_at (n ∷ ns) ms (suc i) d l = same_at ns ms i d (omega (arith, l))

put_at : (ns ms : List ℕ) (i y : ℕ) → i < length ns → set (take (suc i) ns ++ ms) i y ≡ take i ns ++ y ∷ ms
put_at [] ms i y l = absurd (omega (arith, l))
put_at (n ∷ ns) ms zero y l = refl
put_at (n ∷ ns) ms (suc i) y l = ap (λ zs. n ∷ zs) (put_at ns ms i y (omega (arith, l)))

module _ (above : ℕ) (ns borns : List ℕ) (i now d : ℕ) (within : i < length ns) (is_now : now ≡ carry above (drop (suc i) ns))
    (so_far : borns ≡ take (suc i) ns ++ lifted above (drop (suc i) ns)) where
  pub here : max now (get_or borns i d) ≡ carry above (drop i ns)
  here =
      let one : get_or borns i d ≡ get_or ns i d =
      ap (λ xs. get_or xs i d) so_far ∙ same_at ns (lifted above (drop (suc i) ns)) i d within in
      let two : carry above (drop i ns) ≡ max (carry above (drop (suc i) ns)) (get_or ns i d) =
      ap (carry above) (drop_at ns i d within) in
      omega (arith, one, two, is_now)

  pub fits : carry above ns + length ns ≤ 18446744073709551615 → max now (get_or borns i d) + (length ns - i) ≤ 18446744073709551615
  fits few = omega (arith, here, carry_more above ns i, few, within)

  pub lifts : set borns i (max now (get_or borns i d) + (length ns - i)) ≡ take i ns ++ lifted above (drop i ns)
  lifts =
      let count : length ns - i ≡ suc (length (drop (suc i) ns)) = omega (arith, drop_long ns (suc i) (omega (arith, within)), within) in
      let number : max now (get_or borns i d) + (length ns - i) ≡ carry above (get_or ns i d ∷ drop (suc i) ns) +
      suc (length (drop (suc i) ns)) = omega (arith, here, ap (carry above) (drop_at ns i d within), count) in
      let rest : lifted above (drop i ns) ≡ lifted above (get_or ns i d ∷ drop (suc i) ns) = ap (lifted above) (drop_at ns i d within) in
      ap (λ xs. set xs i (max now (get_or borns i d) + (length ns - i))) so_far ∙
      (put_at ns (lifted above (drop (suc i) ns)) i (max now (get_or borns i d) + (length ns - i)) within ∙
      (ap (λ n. take i ns ++ n ∷ lifted above (drop (suc i) ns)) number ∙ ap (λ zs. take i ns ++ zs) (sym rest)))
