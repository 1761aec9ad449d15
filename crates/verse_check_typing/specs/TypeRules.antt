-- The rules of types at single nodes, each with the forms that it concerns.
use Rattle.std.specs.Prelude.{ℕ, Bool, true, false, not, cond, nat_lt, ◌&&◌, ◌||◌, List, [], ◌∷◌}
use Rattle.std.specs.Prelude.{Option, Some, None}
use Rattle.verse_tree.specs.Tree.{Bytes, Written, Tree, tree, Shape, Trees, no_trees, more_trees}
use Rattle.verse_tree.specs.Tree.{Givens}
use Rattle.verse_tree.specs.Tree as s
use Rattle.verse_tree.specs.declared.tables.Ref.{Ref}
use Rattle.verse_tree.specs.declared.tables.Ref.TheVariants as ref
use Rattle.verse_rules_types.specs.Types.{Ty, void}
use Rattle.verse_rules_types.specs.Fitting.{fits}
use Rattle.verse_rules_types.specs.Kinds.{levels}
use Rattle.verse_check_typing.specs.Refs.{ref_at, builtin_by}
use Rattle.verse_check_typing.specs.declared.builtins.Builtin.{Builtin}
use Rattle.verse_check_typing.specs.declared.builtins.Builtin.TheVariants as b
use Rattle.verse_rules_walk.specs.Around.{Used, free, callee, object, argument, value, target, base}
use Rattle.verse_rules_walk.specs.Around.{spawned, Around}
use Rattle.verse_rules_walk.specs.Nodes.{number_of_tree}
use Rattle.verse_check_typing.specs.Facts.{Facts, classes, named_ref, type_of, var_at}
use Rattle.verse_check_typing.specs.Keys.{has_keys}
use Rattle.verse_check_typing.specs.Parts.{count, do_chain, is_quotient, is_equality, are_ints}
use Rattle.verse_check_typing.specs.Parts.{is_int, have_equality, can_assign, can_query}
use Rattle.verse_check_typing.specs.Parts.{have_texts}
use Rattle.verse_check_typing.specs.Members.{is_var_field, member_of, may_stand, givens_fit}
use Rattle.verse_check_typing.specs.Members.{are_fields, has_all, is_value}
use Rattle.verse_check_typing.specs.Callees.{callee_of}
use Rattle.verse_check_typing.specs.Calls.{arguments_fit, indices_fit, call_wanted, index_wanted}
use Rattle.verse_check_typing.specs.Calls.{are_wanted, can_call, can_stand_indexed}
use Rattle.verse_check_typing.specs.Calls.{has_called_item, is_suspending}
use Rattle.verse_check_typing.specs.Loops.{all_take}
use Rattle.verse_check_typing.specs.Cases.{can_case, are_covered}
use Rattle.verse_check_typing.specs.Rows.{spelled}

-- a reference to what has a value; an unknown name is refused elsewhere
abbrev pub has_value : Option Ref → Bool
has_value None = true
has_value (Some (ref.Local n)) = true
has_value (Some (ref.Key n)) = true
has_value (Some (ref.Field c i)) = true
has_value (Some (ref.Method c m)) = false
has_value (Some (ref.Fun g)) = false
has_value (Some (ref.Class c)) = false
has_value (Some (ref.Enum e)) = false
has_value (Some (ref.Builtin i)) = false

-- what is called or indexed
abbrev pub is_called : Used → Bool
is_called callee = true
is_called base = true
is_called free = false
is_called object = false
is_called (argument c i) = false
is_called (value w) = false
is_called target = false
is_called spawned = false

abbrev pub is_enum : Option Ref → Bool
is_enum (Some (ref.Enum e)) = true
is_enum (Some r) = false
is_enum None = false

-- where the name of a function, a class or an enum may stand: before brackets, as the target of a
-- `set`, and that of an enum before a dot
abbrev pub takes_item : Used → Option Ref → Bool
takes_item callee r = true
takes_item base r = true
takes_item target r = true
takes_item object r = is_enum r
takes_item free r = false
takes_item (argument c i) r = false
takes_item (value w) r = false
takes_item spawned r = false

abbrev pub is_variable : Facts → Option Ref → Bool
is_variable f (Some (ref.Local n)) = var_at f.vars n
is_variable f (Some (ref.Field c i)) = is_var_field f c i
is_variable f (Some r) = false
is_variable f None = false

abbrev mutual
  -- a variable, a `var` field, or an index path from one
  pub can_be_set : Facts → Tree → Bool
  can_be_set f (tree n p x) = can_shape_be_set f n x

  pub can_shape_be_set : Facts → ℕ → Shape → Bool
  can_shape_be_set f n (s.Shape.name x) = is_variable f (ref_at f.refs n)
  can_shape_be_set f n (s.Shape.member a x) = is_variable f (ref_at f.refs n)
  can_shape_be_set f n (s.Shape.index a ts) = can_be_set f a
  can_shape_be_set f n x = false

abbrev pub is_item_name : Facts → ℕ → Shape → Bool
is_item_name f n (s.Shape.name x) = not (has_value (ref_at f.refs n))
is_item_name f n x = false

-- the target is the name of what has no type
abbrev pub is_item : Facts → Tree → Bool
is_item f (tree n p x) = is_item_name f n x

-- what is returned fits the result; in the default of a field there is none
abbrev pub fits_result : Facts → Option Written → Ty → Bool
fits_result f None t = true
fits_result f (Some w) t = fits (classes f) t (spelled f w)

abbrev pub is_suspending_call : Facts → Shape → Bool
is_suspending_call f (s.Shape.call a ts) = is_suspending (callee_of f a)
is_suspending_call f (s.Shape.index a ts) = is_suspending (callee_of f a)
is_suspending_call f x = false

abbrev pub can_be_spawned : Facts → Tree → Bool
can_be_spawned f (tree n p x) = is_suspending_call f x

abbrev pub is_round_builtin : Option Builtin → Bool
is_round_builtin (Some b.Round) = true
is_round_builtin (Some b.Print) = false
is_round_builtin (Some b.Modulo) = false
is_round_builtin None = false

-- `Floor` or `Ceil`
abbrev pub is_round : Option Ref → Bool
is_round (Some (ref.Builtin i)) = is_round_builtin (builtin_by i)
is_round (Some r) = false
is_round None = false

abbrev pub is_rounded : Facts → Used → Bool
is_rounded f (argument c i) = is_round (ref_at f.refs c)
is_rounded f free = false
is_rounded f callee = false
is_rounded f object = false
is_rounded f (value w) = false
is_rounded f target = false
is_rounded f base = false
is_rounded f spawned = false

abbrev pub on_class : Option Ref → (ℕ → Bool) → Bool
on_class (Some (ref.Class c)) g = g c
on_class (Some r) g = true
on_class None g = true

abbrev pub is_class : Option Ref → Bool
is_class (Some (ref.Class c)) = true
is_class (Some r) = false
is_class None = false

abbrev pub is_enum_value : Facts → Option Ref → Bytes → Bool
is_enum_value f (Some (ref.Enum e)) x = is_value f e x
is_enum_value f (Some r) x = false
is_enum_value f None x = false

-- E050: types do not match
abbrev pub mismatched : Facts → Around → ℕ → Shape → Bool
mismatched f w n (s.Shape.assignment m a b) =
    not (is_item f a) && not (can_assign (classes f) m (type_of f a) (type_of f b))
mismatched f w n (s.Shape.returned a) = not (fits_result f w.owner.result (type_of f a))
mismatched f w n s.Shape.returned_unit = not (fits_result f w.owner.result void)
mismatched f w n (s.Shape.chained o a b) = not (do_chain (classes f) o (type_of f a) (type_of f b))
mismatched f w n (s.Shape.compared o a b) =
    not (is_equality o) && not (are_ints (type_of f a) (type_of f b))
mismatched f w n (s.Shape.minus a) = not (is_int (type_of f a))
mismatched f w n (s.Shape.call a ts) = not (arguments_fit f (callee_of f a) ts)
mismatched f w n (s.Shape.index a ts) = not (indices_fit f (callee_of f a) ts)
mismatched f w n (s.Shape.query a) = not (can_query (type_of f a))
mismatched f w n (s.Shape.holes x hs) = not (have_texts f hs)
mismatched f w n (s.Shape.instance x gs) = not (on_class (named_ref f n) (λ c. givens_fit f c gs))
mismatched f w n (s.Shape.for_form ts a) = not (all_take f ts)
mismatched f w n (s.Shape.cases a ts) = not (can_case f (type_of f a) ts)
mismatched f w n x = false

-- E051: what cannot be called, and the name of what is no value as a value
abbrev pub uncallable : Facts → Around → ℕ → Shape → Bool
uncallable f w n (s.Shape.name x) =
    not (has_value (named_ref f n)) && not (takes_item w.used (named_ref f n))
uncallable f w n (s.Shape.call a ts) = not (can_call (callee_of f a))
uncallable f w n (s.Shape.index a ts) = not (can_stand_indexed (callee_of f a))
uncallable f w n (s.Shape.instance x gs) = not (is_class (named_ref f n))
uncallable f w n (s.Shape.spawn a) = not (can_be_spawned f a)
uncallable f w n x = false

-- E052: wrong number of arguments
abbrev pub miscounted : Facts → Shape → Bool
miscounted f (s.Shape.call a ts) = not (are_wanted (call_wanted (callee_of f a)) (count ts))
miscounted f (s.Shape.index a ts) = not (are_wanted (index_wanted (callee_of f a)) (count ts))
miscounted f x = false

-- E053: what has no equality is compared
abbrev pub incomparable : Facts → Shape → Bool
incomparable f (s.Shape.compared o a b) =
    is_equality o && not (have_equality (classes f) (type_of f a) (type_of f b))
incomparable f x = false

-- E054: what cannot be set
abbrev pub unsettable : Facts → Shape → Bool
unsettable f (s.Shape.assignment m a b) = not (can_be_set f a)
unsettable f x = false

-- E055: a field without a value
abbrev pub lacking : Facts → ℕ → Shape → Bool
lacking f n (s.Shape.instance x gs) = not (on_class (named_ref f n) (λ c. has_all f c gs))
lacking f n x = false

-- E056: no such member
abbrev pub memberless : Facts → Around → ℕ → Shape → Bool
memberless f w n (s.Shape.member a x) =
    not (may_stand (is_called w.used)
    (member_of f (ref_at f.refs (number_of_tree a)) (type_of f a) x))
memberless f w n (s.Shape.call a ts) = not (has_called_item (callee_of f a) ts)
memberless f w n (s.Shape.instance x gs) = not (on_class (named_ref f n) (λ c. are_fields f c gs))
memberless f w n (s.Shape.enum_pattern x y) = not (is_enum_value f (named_ref f n) y)
memberless f w n x = false

abbrev pub is_alone : Trees → Bool
is_alone ts = nat_lt (count ts) 2

-- E057: fewer than two expressions
abbrev pub alone : Shape → Bool
alone (s.Shape.sync ts) = is_alone ts
alone (s.Shape.race ts) = is_alone ts
alone (s.Shape.rush ts) = is_alone ts
alone x = false

-- E058: a case that is not covered
abbrev pub uncovered : Facts → Shape → Bool
uncovered f (s.Shape.cases a ts) = not (are_covered f (type_of f a) ts)
uncovered f x = false

-- E059: a quotient that is no argument of `Floor` or `Ceil`
abbrev pub unrounded : Facts → Around → Shape → Bool
unrounded f w (s.Shape.chained o a b) = is_quotient o && not (is_rounded f w.used)
unrounded f w x = false

-- E053 too: a key type that is none
abbrev pub is_keyless : Ty → Bool
is_keyless t = not (has_keys t)

-- E070: a type of more than 32 levels
abbrev pub is_too_deep : Ty → Bool
is_too_deep t = nat_lt 32 (levels t)
