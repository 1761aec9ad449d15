-- `case`: the subject, the patterns of the arms, and whether they cover it.
use Rattle.std.specs.Prelude.{ℕ, Bool, true, false, not, cond, nat_eq, ◌&&◌, ◌||◌, List, []}
use Rattle.verse_tree.specs.Tree.{Bytes, Tree, tree, Shape, Trees, no_trees, more_trees}
use Rattle.verse_tree.specs.Tree as s
use Rattle.verse_rules_types.specs.Types.{Ty, never, int, logic, char, enum, array}
use Rattle.verse_rules_types.specs.Fitting.{fits}
use Rattle.verse_rules_types.specs.Kinds.{is_char}
use Rattle.verse_check_typing.specs.Facts.{Facts, classes, type_of, type_at}
use Rattle.verse_check_typing.specs.Parts.{joined, is_never}
use Rattle.verse_check_typing.specs.Members.{values_of}
use Rattle.verse_check_typing.specs.Sets.{with_name, has_names}

abbrev pub is_subject : Ty → Bool
is_subject never = true
is_subject int = true
is_subject logic = true
is_subject char = true
is_subject (enum e) = true
is_subject (array t) = is_char t
is_subject t = false

abbrev pub shape_fits : Facts → Ty → Shape → Bool
shape_fits f t (s.Shape.arm a b) = fits (classes f) (type_of f a) t
shape_fits f t s = true

-- the pattern of an arm fits the subject
abbrev pub arm_fits : Facts → Ty → Tree → Bool
arm_fits f t (tree n p s) = shape_fits f t s

abbrev pub arms_fit : Facts → Ty → Trees → Bool
arms_fit f t no_trees = true
arms_fit f t (more_trees e es) = arm_fits f t e && arms_fit f t es

-- the patterns are not tested where the subject gives no value
abbrev pub can_case : Facts → Ty → Trees → Bool
can_case f t es = is_subject t && (is_never t || arms_fit f t es)

abbrev pub case_type : Facts → Ty → Trees → Ty
case_type f t es = cond (is_never t) never (joined f es)

abbrev pub is_any_pattern : Shape → Bool
is_any_pattern s.Shape.any_pattern = true
is_any_pattern s = false

abbrev pub is_any_tree : Tree → Bool
is_any_tree (tree n p s) = is_any_pattern s

abbrev pub is_any_arm : Shape → Bool
is_any_arm (s.Shape.arm a b) = is_any_tree a
is_any_arm s = false

abbrev pub takes_any : Tree → Bool
takes_any (tree n p s) = is_any_arm s

abbrev pub any_takes_any : Trees → Bool
any_takes_any no_trees = false
any_takes_any (more_trees e es) = takes_any e || any_takes_any es

abbrev pub is_of_enum : ℕ → Ty → Bool
is_of_enum e (enum d) = nat_eq d e
is_of_enum e t = false

abbrev pub with_valued : Facts → ℕ → ℕ → Shape → List Bytes → List Bytes
with_valued f e n (s.Shape.enum_pattern x y) ys =
    cond (is_of_enum e (type_at f.types n)) (with_name y ys) ys
with_valued f e n s ys = ys

abbrev pub with_pattern : Facts → ℕ → Tree → List Bytes → List Bytes
with_pattern f e (tree n p s) ys = with_valued f e n s ys

abbrev pub with_shape : Facts → ℕ → Shape → List Bytes → List Bytes
with_shape f e (s.Shape.arm a b) ys = with_pattern f e a ys
with_shape f e s ys = ys

abbrev pub with_arm : Facts → ℕ → Tree → List Bytes → List Bytes
with_arm f e (tree n p s) ys = with_shape f e s ys

-- the values of an enum that the patterns name
abbrev pub named_from : Facts → ℕ → List Bytes → Trees → List Bytes
named_from f e ys no_trees = ys
named_from f e ys (more_trees d ds) = named_from f e (with_arm f e d ys) ds

abbrev pub all_named : Facts → Ty → Trees → Bool
all_named f (enum e) es = has_names (values_of f e) (named_from f e [] es)
all_named f t es = false

-- some arm takes any value, or each value of the subject's enum has an arm
abbrev pub are_covered : Facts → Ty → Trees → Bool
are_covered f t es = any_takes_any es || all_named f t es
