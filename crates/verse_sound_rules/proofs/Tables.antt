-- What a table has with one name more.
use Rattle.std.specs.Str.{bytes_eq}
use Rattle.std.proofs.Common.{◌≡◌, Bool, true, false, cond, Option, Some, None, refl, [], ◌∷◌, ◌++◌, ap}
use Rattle.verse_tree.specs.declared.tables.Ref.{Ref}
use Rattle.verse_tree.specs.Tree.{Bytes}
use Rattle.verse_names_tables.specs.Names as names
use Rattle.verse_names_tables.specs.Names.{Table}
use Rattle.verse_meaning.proofs.Names.{test_itself}

pub absent_test : (q : Bool) (r : Ref) (o : Option Ref) → cond q (Some r) o ≡ None → (q ≡ false) × (o ≡ None)
absent_test true r o h = cc
absent_test false r o h = (refl, h)

-- the new name behind the others, and the others before it
pub look_new : (y : Bytes) (r : Ref) (xs : Table) → names.look y xs ≡ None → names.look y (xs ++ (y, r) ∷ []) ≡ Some r
look_new y r [] h = rw (test_itself y)
look_new y r (e ∷ xs) h =
    let k = absent_test (bytes_eq y e.0) e.1 (names.look y xs) h in rw (k.0, look_new y r xs k.1)

pub look_old : (x y : Bytes) (r : Ref) (xs : Table) → bytes_eq x y ≡ false → names.look x (xs ++ (y, r) ∷ []) ≡ names.look x xs
look_old x y r [] h = rw h
look_old x y r (e ∷ xs) h = ap (cond (bytes_eq x e.0) (Some e.1)) (look_old x y r xs h)
