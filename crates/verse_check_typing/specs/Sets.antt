-- Sets of names and of numbers, as lists in the order in which their members came.
use Rattle.std.specs.Prelude.{ℕ, Bool, true, false, cond, nat_eq, ◌&&◌, List, [], ◌∷◌, ◌++◌}
use Rattle.std.specs.Str.{bytes_eq}
use Rattle.verse_tree.specs.Tree.{Bytes}

abbrev pub has_name : Bytes → List Bytes → Bool
has_name x [] = false
has_name x (y ∷ ys) = cond (bytes_eq x y) true (has_name x ys)

abbrev pub with_name : Bytes → List Bytes → List Bytes
with_name x xs = cond (has_name x xs) xs (xs ++ x ∷ [])

abbrev pub with_names : List Bytes → List Bytes → List Bytes
with_names [] xs = xs
with_names (y ∷ ys) xs = with_names ys (with_name y xs)

-- all of the first are among the second
abbrev pub has_names : List Bytes → List Bytes → Bool
has_names [] ys = true
has_names (x ∷ xs) ys = has_name x ys && has_names xs ys

abbrev pub has_number : ℕ → List ℕ → Bool
has_number n [] = false
has_number n (m ∷ ms) = cond (nat_eq n m) true (has_number n ms)

abbrev pub with_number : ℕ → List ℕ → List ℕ
with_number n ms = cond (has_number n ms) ms (ms ++ n ∷ [])
