-- The least code of a form and its type is that of all rules of an expression.
use Rattle.std.proofs.Common.{◌≡◌, ℕ, Bool, true, false, [], ◌∷◌, refl}
use Rattle.verse_base.specs.declared.rules.TheConstants.{ALONE, INCOMPARABLE, LACKING, MEMBERLESS}
use Rattle.verse_base.specs.declared.rules.TheConstants.{MISCOUNTED, TYPES_DIFFER, TYPE_TOO_DEEP}
use Rattle.verse_base.specs.declared.rules.TheConstants.{UNCALLABLE, UNCOVERED}
use Rattle.verse_base.specs.declared.rules.TheConstants.{UNROUNDED, UNSETTABLE}
use Rattle.verse_tree.specs.Tree.{Shape}
use Rattle.verse_rules_least.specs.Least.{first_true}
use Rattle.verse_rules_walk.specs.Around.{Around}
use Rattle.verse_check_typing.specs.Facts.{Facts}
use Rattle.verse_check_typing.specs.Rows.{row}
use Rattle.verse_check_typing.specs.Steps.{form_rules, expression_rules}
use Rattle.verse_check_typing.specs.TypeRules.{mismatched, uncallable, miscounted, incomparable, unsettable, lacking, memberless, alone}
use Rattle.verse_check_typing.specs.TypeRules.{uncovered}
use Rattle.verse_check_typing.specs.TypeRules.{unrounded, is_keyless, is_too_deep}
use Rattle.verse_check_nodes.specs.Codes.{least_code, code_with}

in_order : (a b c d p e f g h i j q : Bool) →
    first_true ((TYPES_DIFFER, a) ∷ (UNCALLABLE, b) ∷ (MISCOUNTED, c) ∷ (INCOMPARABLE, d) ∷ (INCOMPARABLE, p) ∷ (UNSETTABLE, e)
    ∷ (LACKING, f) ∷ (MEMBERLESS, g) ∷ (ALONE, h) ∷ (UNCOVERED, i) ∷ (UNROUNDED, j) ∷ (TYPE_TOO_DEEP, q) ∷ [])
    ≡ least_code (first_true ((TYPES_DIFFER, a) ∷ (UNCALLABLE, b) ∷ (MISCOUNTED, c) ∷ (INCOMPARABLE, d) ∷ (UNSETTABLE, e)
    ∷ (LACKING, f) ∷ (MEMBERLESS, g) ∷ (ALONE, h) ∷ (UNCOVERED, i) ∷ (UNROUNDED, j) ∷ [])) p q
in_order true b c d p e f g h i j q = refl
in_order false true c d p e f g h i j q = refl
in_order false false true d p e f g h i j q = refl
in_order false false false true p e f g h i j q = refl
in_order false false false false true true f g h i j q = refl
in_order false false false false true false true g h i j q = refl
in_order false false false false true false false true h i j q = refl
in_order false false false false true false false false true i j q = refl
in_order false false false false true false false false false true j q = refl
in_order false false false false true false false false false false true q = refl
in_order false false false false true false false false false false false q = refl
in_order false false false false false true f g h i j q = refl
in_order false false false false false false true g h i j q = refl
in_order false false false false false false false true h i j q = refl
in_order false false false false false false false false true i j q = refl
in_order false false false false false false false false false true j q = refl
in_order false false false false false false false false false false true q = refl
in_order false false false false false false false false false false false q = refl

pub expression_code : (f : Facts) (w : Around) (n : ℕ) (x : Shape) →
    first_true (expression_rules f w n x) ≡ code_with (first_true (form_rules f w n x)) (row f n x)
expression_code f w n x =
    in_order (mismatched f w n x) (uncallable f w n x) (miscounted f x) (incomparable f x) (is_keyless (row f n x)) (unsettable f x)
    (lacking f n x)
    (memberless f w n x) (alone x) (uncovered f x) (unrounded f w x) (is_too_deep (row f n x))
