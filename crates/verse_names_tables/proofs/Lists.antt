-- Lists that grow at their end.
use Rattle.std.proofs.Common.{◌≡◌, List, [], ◌∷◌, ◌++◌, append_assoc}

module _ {A : Type 0} where
  -- what was found, the next one, and what is left
  pub join_next : (xs : List A) (y : A) (zs : List A) → (xs ++ y ∷ []) ++ zs ≡ xs ++ (y ∷ zs)
  join_next xs y zs = append_assoc xs (y ∷ []) zs
