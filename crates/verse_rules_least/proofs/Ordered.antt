-- Numbers that follow one another rise.
use Rattle.std.proofs.Common.{◌≡◌, ℕ, ◌+◌, ◌<◌, List, [], ◌∷◌, length, map, arith}
use Rattle.std.specs.List.{range_with_len}
use Rattle.verse_rules_least.specs.Least.{Above, InOrder}

module _ {N : Type 0} (number : N → ℕ) where
  all_above : (m n : ℕ) (vs : List N) → m < n → map number vs ≡ range_with_len n (length vs) → Above number m vs
  all_above m n [] h e = tt
  all_above m n (v ∷ vs) h e =
      let at : number v ≡ n = cc in
      (omega arith, all_above m (n + 1) vs (omega arith) (cc))

  -- where the nodes are numbered one after the other, they are in order
  pub in_order : (n : ℕ) (vs : List N) → map number vs ≡ range_with_len n (length vs) → InOrder number vs
  in_order n [] e = tt
  in_order n (v ∷ vs) e =
      let at : number v ≡ n = cc in
      (all_above (number v) (n + 1) vs (omega arith) (cc), in_order (n + 1) vs (cc))
