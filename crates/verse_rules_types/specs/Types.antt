-- Types and classes as the definitions see them.
use Rattle.std.specs.Prelude.{ℕ, Bool, List, [], ◌∷◌, map, Option}
use Rattle.verse_tree.specs.declared.tables.Ty.{Ty as Made, Ty-F, fold-Ty}
use Rattle.verse_tree.specs.declared.tables.Ty.TheOpen as made
use Rattle.verse_tree.specs.declared.tables.MapOf.{MapOf, MapOf-F, fold-MapOf}
use Rattle.verse_tree.specs.declared.tables.FieldInfo.{FieldInfo}
use Rattle.verse_tree.specs.declared.tables.ClassInfo.{ClassInfo}

mutual
  pub data Ty : Type 0 where
    -- of what gives no value
    never : Ty
    -- of `false`
    nil : Ty
    void int logic char : Ty
    -- by their numbers
    enum class : ℕ → Ty
    option array task event : Ty → Ty
    mapping : (key value : Ty) → Ty
    tuple : Tys → Ty

  pub data Tys : Type 0 where
    no_tys : Tys
    more_tys : Ty → Tys → Tys

-- a text is an array of its chars
abbrev pub string : Ty
string = array char

abbrev pub tys : List Ty → Tys
tys [] = no_tys
tys (t ∷ ts) = more_tys t (tys ts)

abbrev pub ty_step : Ty-F Ty (Ty × Ty) → Ty
ty_step made.Never = never
ty_step made.Nil = nil
ty_step made.Void = void
ty_step made.Int = int
ty_step made.Logic = logic
ty_step made.Char = char
ty_step (made.Enum e) = enum e
ty_step (made.Class c) = class c
ty_step (made.Option t) = option t
ty_step (made.Array t) = array t
ty_step (made.Map m) = mapping m.0 m.1
ty_step (made.Tuple ts) = tuple (tys ts)
ty_step (made.Task t) = task t
ty_step (made.Event t) = event t

abbrev pub two_tys : MapOf-F Ty (Ty × Ty) → Ty × Ty
two_tys m = (m.key, m.value)

-- what a type of the code stands for
abbrev pub ty_of : Made → Ty
ty_of = fold-Ty Ty (Ty × Ty) ty_step two_tys

-- the types of a map's keys and values
abbrev pub map_of : MapOf → Ty × Ty
map_of = fold-MapOf Ty (Ty × Ty) ty_step two_tys

pub record Field : Type 0 where
  pub ty : Ty
  pub is_var : Bool
  -- the number of the node of its default
  pub default : Option ℕ

-- a class with all fields and methods of its instances, the root's first
pub record Class : Type 0 where
  pub parent : Option ℕ
  pub is_unique : Bool
  pub fields : List Field
  -- by the numbers of functions
  pub methods : List ℕ

abbrev pub field_of : FieldInfo → Field
field_of f = record { ty = ty_of f.ty; is_var = f.is_var; default = f.default }

abbrev pub class_of : ClassInfo → Class
class_of c = record {
  parent = c.parent;
  is_unique = c.is_unique;
  fields = map field_of c.fields;
  methods = c.methods;
}

abbrev pub classes_of : List ClassInfo → List Class
classes_of cs = map class_of cs
