-- Names that are the same, and what a table has for them.
use Rattle.std.specs.Prelude.{◌==◌, ◌&&◌}
use Rattle.std.proofs.Common.{◌≡◌, true, false, Bool, [], ◌∷◌, bytes_eq, cond, refl, ◌∙◌, Option, Some}
use Rattle.std.proofs.lemmas.Slice.Eq.{bytes_eq-Decides}
use Rattle.verse_tree.specs.Tree.{Bytes}
use Rattle.verse_tree.specs.ItemTree.{FunTree}
use Rattle.verse_meaning.specs.Programs.{same_name, or_else}

pub same_bytes : (x y : Bytes) → bytes_eq x y ≡ same_name x y
same_bytes [] [] = refl
same_bytes [] (c ∷ y) = refl
same_bytes (b ∷ x) [] = refl
same_bytes (b ∷ x) (c ∷ y) = rw (same_bytes x y) (by (b == c) (same_name x y))
  where
    by : (s r : Bool) → (s && r) ≡ cond s r false
    by true r = refl
    by false r = refl

pub and_cond : (q r t : Bool) → r ≡ t → cond q r false ≡ (q && t)
and_cond true r t h = h
and_cond false r t h = refl

pub one_test : (x y : Bytes) → same_name x y ≡ bytes_eq x y
one_test [] [] = refl
one_test [] (c ∷ y) = refl
one_test (b ∷ x) [] = refl
one_test (b ∷ x) (c ∷ y) = and_cond (b == c) (same_name x y) (bytes_eq x y) (one_test x y)

pub test_itself : (x : Bytes) → bytes_eq x x ≡ true
test_itself x = (bytes_eq-Decides x x).1 refl

pub test_same : (x y : Bytes) → bytes_eq x y ≡ true → x ≡ y
test_same x y h = (bytes_eq-Decides x y).0 h

pub name_same : (x y : Bytes) → same_name x y ≡ true → x ≡ y
name_same x y h = (bytes_eq-Decides x y).0 (same_bytes x y ∙ h)

pub or_cond : (b : Bool) (f : FunTree) (x y : Option FunTree) → cond b (Some f) (or_else x y) ≡ or_else (cond b (Some f) x) y
or_cond true f x y = refl
or_cond false f x y = refl
