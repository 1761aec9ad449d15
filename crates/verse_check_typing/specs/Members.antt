-- Members by their names, of classes and of other types.
use Rattle.std.specs.Prelude.{ℕ, ◌+◌, Bool, true, false, not, cond, ◌&&◌, ◌||◌, List, [], ◌∷◌, map}
use Rattle.std.specs.Prelude.{Option, Some, None, slice_get, codes}
use Rattle.std.specs.Str.{bytes_eq}
use Rattle.verse_tree.specs.Tree.{Bytes, Tree, Givens, no_givens, more_givens}
use Rattle.verse_tree.specs.declared.tables.FieldInfo.{FieldInfo}
use Rattle.verse_tree.specs.declared.tables.ClassInfo.{ClassInfo}
use Rattle.verse_tree.specs.declared.tables.Ref.{Ref}
use Rattle.verse_tree.specs.declared.tables.Ref.TheVariants as ref
use Rattle.verse_rules_types.specs.Types.{Ty, never, int, enum, class, array, task, event, mapping}
use Rattle.verse_rules_types.specs.Types.{ty_of}
use Rattle.verse_rules_types.specs.Fitting.{fits}
use Rattle.verse_names_tables.specs.Names.{Table, look, place}
use Rattle.verse_names_declarations.specs.Lines.{Members}
use Rattle.verse_check_typing.specs.Facts.{Facts, classes, type_of, or_never}
use Rattle.verse_check_typing.specs.Sets.{has_name, has_number, with_number}

abbrev pub field_place : Option Ref → Option ℕ
field_place None = None
field_place (Some (ref.Field c i)) = Some i
field_place (Some r) = None

abbrev pub field_named : Option Members → Bytes → Option ℕ
field_named None x = None
field_named (Some m) x = field_place (look x m.fields)

abbrev pub method_named : Option Members → Bytes → Option ℕ
method_named None x = None
method_named (Some m) x = place x m.methods

-- the place of the field of a class that has this name
abbrev pub field_by : Facts → ℕ → Bytes → Option ℕ
field_by f c x = field_named (slice_get f.world.members c) x

abbrev pub method_by : Facts → ℕ → Bytes → Option ℕ
method_by f c x = method_named (slice_get f.world.members c) x

abbrev pub fields_in : Option ClassInfo → List FieldInfo
fields_in None = []
fields_in (Some c) = c.fields

abbrev pub fields_of : Facts → ℕ → List FieldInfo
fields_of f c = fields_in (slice_get f.world.names.classes c)

abbrev pub type_in : Option FieldInfo → Ty
type_in None = never
type_in (Some i) = ty_of i.ty

abbrev pub is_var_in : Option FieldInfo → Bool
is_var_in None = false
is_var_in (Some i) = i.is_var

-- the type of the field of a class at this place
abbrev pub field_type : Facts → ℕ → ℕ → Ty
field_type f c i = type_in (slice_get (fields_of f c) i)

abbrev pub is_var_field : Facts → ℕ → ℕ → Bool
is_var_field f c i = is_var_in (slice_get (fields_of f c) i)

abbrev pub member_at : ℕ → Option ℕ → Option ℕ → Option Ref
member_at c (Some i) m = Some (ref.Field c i)
member_at c None (Some m) = Some (ref.Method c m)
member_at c None None = None

-- the field or the method of a class that has this name
abbrev pub class_member : Facts → ℕ → Bytes → Option Ref
class_member f c x = member_at c (field_by f c x) (method_by f c x)

-- what a member refers to, by the type of its object
abbrev pub member_ref : Facts → Ty → Bytes → Option Ref
member_ref f (class c) x = class_member f c x
member_ref f t x = None

-- what stands behind a dot
pub data Member : Type 0 where
  -- a value of this type
  part : Ty → Member
  -- what can only be called: a method, `Await` or `Signal`
  action : Member
  missing : Member

abbrev pub by_ref : Facts → Option Ref → Member
by_ref f (Some (ref.Field c i)) = part (field_type f c i)
by_ref f (Some (ref.Method c m)) = action
by_ref f (Some r) = missing
by_ref f None = missing

abbrev pub named_length : Bytes → Member
named_length x = cond (bytes_eq x (codes "Length")) (part int) missing

abbrev pub named_await : Bytes → Member
named_await x = cond (bytes_eq x (codes "Await")) action missing

abbrev pub named_event : Bytes → Member
named_event x = cond (bytes_eq x (codes "Await") || bytes_eq x (codes "Signal")) action missing

abbrev pub type_member : Facts → Ty → Bytes → Member
type_member f never x = part never
type_member f (class c) x = by_ref f (class_member f c x)
type_member f (array t) x = named_length x
type_member f (mapping k t) x = named_length x
type_member f (task t) x = named_await x
type_member f (event t) x = named_event x
type_member f t x = missing

abbrev pub names_in : Option (List Bytes) → List Bytes
names_in None = []
names_in (Some xs) = xs

-- the names of the values of an enum
abbrev pub values_of : Facts → ℕ → List Bytes
values_of f e = names_in (slice_get f.world.values e)

abbrev pub is_value : Facts → ℕ → Bytes → Bool
is_value f e x = has_name x (values_of f e)

abbrev pub enum_member : Facts → ℕ → Bytes → Member
enum_member f e x = cond (is_value f e x) (part (enum e)) missing

-- the member of an object that refers to this and has this type
abbrev pub member_of : Facts → Option Ref → Ty → Bytes → Member
member_of f (Some (ref.Enum e)) t x = enum_member f e x
member_of f (Some r) t x = type_member f t x
member_of f None t x = type_member f t x

abbrev pub part_type : Member → Ty
part_type (part t) = t
part_type action = never
part_type missing = never

-- the member may stand where it is called, or where it is not
abbrev pub may_stand : Bool → Member → Bool
may_stand called (part t) = true
may_stand called action = called
may_stand called missing = false

abbrev pub fits_field : Facts → ℕ → Ty → Option ℕ → Bool
fits_field f c t None = true
fits_field f c t (Some i) = fits (classes f) t (field_type f c i)

-- each value fits its field, where there is a field of its name
abbrev pub givens_fit : Facts → ℕ → Givens → Bool
givens_fit f c no_givens = true
givens_fit f c (more_givens x e gs) =
    fits_field f c (type_of f e) (field_by f c x) && givens_fit f c gs

abbrev pub is_place : Option ℕ → Bool
is_place None = false
is_place (Some i) = true

-- each name is that of a field
abbrev pub are_fields : Facts → ℕ → Givens → Bool
are_fields f c no_givens = true
are_fields f c (more_givens x e gs) = is_place (field_by f c x) && are_fields f c gs

abbrev pub with_place : Option ℕ → List ℕ → List ℕ
with_place None is = is
with_place (Some i) is = with_number i is

-- the places of the fields that are given
abbrev pub places_from : Facts → ℕ → List ℕ → Givens → List ℕ
places_from f c is no_givens = is
places_from f c is (more_givens x e gs) = places_from f c (with_place (field_by f c x) is) gs

abbrev pub has_default : FieldInfo → Bool
has_default i = is_place i.default

-- each field, from this place on, has a default or is given
abbrev pub all_given : List ℕ → ℕ → List FieldInfo → Bool
all_given is n [] = true
all_given is n (i ∷ rest) = (has_default i || has_number n is) && all_given is (n + 1) rest

abbrev pub has_all : Facts → ℕ → Givens → Bool
has_all f c gs = all_given (places_from f c [] gs) 0 (fields_of f c)
