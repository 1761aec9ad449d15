-- Names in a set with one name more.
use Rattle.std.specs.Str.{bytes_eq}
use Rattle.std.proofs.Common.{◌≡◌, ◌⊎◌, inl, inr, Bool, true, false, cond, List, [], ◌∷◌, ◌++◌, refl}
use Rattle.verse_tree.specs.Tree.{Bytes}
use Rattle.verse_check_typing.specs.Sets.{has_name, with_name}

pub has_end : (y v : Bytes) (xs : List Bytes) → has_name y (xs ++ v ∷ []) ≡ true → (has_name y xs ≡ true) ⊎ (bytes_eq y v ≡ true)
has_end y v [] h = by (bytes_eq y v) refl h
  where
    by : (s : Bool) → bytes_eq y v ≡ s → cond s true false ≡ true → (false ≡ true) ⊎ (bytes_eq y v ≡ true)
    by true k g = inr k
    by false k g = inl g
has_end y v (z ∷ xs) h = by (bytes_eq y z) h (λ g. has_end y v xs g)
  where
    by : (s : Bool) → cond s true (has_name y (xs ++ v ∷ [])) ≡ true →
        (has_name y (xs ++ v ∷ []) ≡ true → (has_name y xs ≡ true) ⊎ (bytes_eq y v ≡ true)) →
        (cond s true (has_name y xs) ≡ true) ⊎ (bytes_eq y v ≡ true)
    by true g rest = inl refl
    by false g rest = rest g

pub has_with : (y v : Bytes) (xs : List Bytes) → has_name y (with_name v xs) ≡ true → (has_name y xs ≡ true) ⊎ (bytes_eq y v ≡ true)
has_with y v xs h = by (has_name v xs) h
  where
    by : (s : Bool) → has_name y (cond s xs (xs ++ v ∷ [])) ≡ true → (has_name y xs ≡ true) ⊎ (bytes_eq y v ≡ true)
    by true g = inl g
    by false g = has_end y v xs g
