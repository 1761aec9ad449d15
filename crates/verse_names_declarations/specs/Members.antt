-- The members that a list of classes has, the last of which comes first.
use Rattle.std.specs.Prelude.{ℕ, zero, suc, ◌+◌, cond, nat_eq, List, [], ◌∷◌, ◌++◌, length, map}
use Rattle.std.specs.Prelude.{Option, Some, None, slice_get}
use Rattle.verse_tree.specs.Tree.{Bytes}
use Rattle.verse_tree.specs.ItemTree.{MemberTree, field, method}
use Rattle.verse_tree.specs.declared.tables.Ref.{Ref}
use Rattle.verse_tree.specs.declared.tables.Ref.TheVariants as ref
use Rattle.verse_rules_types.specs.Types.{Class}
use Rattle.verse_rules_types.specs.Fitting.{parent_of}
use Rattle.verse_names_tables.specs.Names.{Table, look, place, keep, put}
use Rattle.verse_names_tables.specs.Counting.{fun_after}
use Rattle.verse_names_tables.specs.Notes.{Note}
use Rattle.verse_names_declarations.specs.declared.members.Members.{Members as Made}

abbrev pub on_class : Option ℕ → (ℕ → List ℕ) → List ℕ
on_class None f = []
on_class (Some c) f = f c

-- a class and its ancestors, the root last; as many steps as there are classes lead to all
abbrev pub line : List Class → ℕ → ℕ → List ℕ
line cs zero c = []
line cs (suc n) c = c ∷ on_class (parent_of cs c) (line cs n)

abbrev pub line_of : List Class → ℕ → List ℕ
line_of cs c = line cs (length cs) c

-- all but the class itself, which stands above itself where classes inherit in a circle
abbrev pub others : ℕ → List ℕ → List ℕ
others c [] = []
others c (d ∷ ds) = cond (nat_eq d c) (others c ds) (d ∷ others c ds)

-- the classes from which a class inherits, the nearest first
abbrev pub ancestors : List Class → ℕ → List ℕ
ancestors cs c = others c (on_class (parent_of cs c) (line_of cs))

-- the names of all fields, each with its place, and of all methods, each with its function; an
-- override takes the place of what it overrides
pub record Members : Type 0 where
  pub fields : Table
  -- how many fields there are
  pub count : ℕ
  pub methods : Table

abbrev pub with_field : ℕ → Bytes → Members → Members
with_field c x m = record {
  fields = keep x (ref.Field c m.count) m.fields;
  count = m.count + 1;
  methods = m.methods;
}

abbrev pub with_function : Bytes → ℕ → Members → Members
with_function x n m =
    record { fields = m.fields; count = m.count; methods = put x (ref.Fun n) m.methods }

abbrev pub with_member : (class fun : ℕ) → MemberTree → Members → Members
with_member c n (field d) m = with_field c d.name m
with_member c n (method f) m = with_function f.name n m

-- those of one class, its first method being the function n
abbrev pub with_members : (class fun : ℕ) → List MemberTree → Members → Members
with_members c n [] m = m
with_members c n (d ∷ ds) m = with_members c (fun_after d n) ds (with_member c n d m)

abbrev pub with_note : ℕ → Option Note → Members → Members
with_note c None m = m
with_note c (Some n) m = with_members c n.first n.item.members m

abbrev pub no_members : Members
no_members = record { fields = []; count = 0; methods = [] }

-- with those of a list of classes, the last class first
abbrev pub with_notes : List Note → ℕ → List ℕ → Members → Members
with_notes ns c [] m = m
with_notes ns c (d ∷ ds) m = with_note c (slice_get ns d) (with_notes ns c ds m)

abbrev pub members_of : List Note → ℕ → List ℕ → Members
members_of ns c ds = with_notes ns c ds no_members

-- what a number stands for, if there is one
abbrev pub stands : (ℕ → Ref) → Option ℕ → Option Ref
stands f None = None
stands f (Some n) = Some (f n)

abbrev pub field_entry : ℕ → Bytes × ℕ → Bytes × Ref
field_entry c e = (e.0, ref.Field c e.1)

abbrev pub method_entry : Bytes × ℕ → Bytes × Ref
method_entry e = (e.0, ref.Fun e.1)

abbrev pub members_view : Made → Members
members_view m = record {
  fields = map (field_entry m.class) m.fields;
  count = m.count;
  methods = map method_entry m.methods;
}

-- a field of another class, at the same place
abbrev pub moved : ℕ → Ref → Ref
moved c (ref.Field d i) = ref.Field c i
moved c r = r

-- the same members, as those of a class
abbrev pub as_of : ℕ → Members → Members
as_of c m = record {
  fields = map (λ e. (e.0, moved c e.1)) m.fields;
  count = m.count;
  methods = m.methods;
}

abbrev pub fun_number : Ref → List ℕ
fun_number (ref.Fun n) = n ∷ []
fun_number r = []

-- the functions among what names stand for
abbrev pub fun_numbers : List Ref → List ℕ
fun_numbers [] = []
fun_numbers (r ∷ rs) = fun_number r ++ fun_numbers rs

abbrev pub or_method : Option Ref → ℕ → Option ℕ → Option Ref
or_method (Some r) c o = Some r
or_method None c None = None
or_method None c (Some i) = Some (ref.Method c i)

-- what a bare name stands for in a method of a class with these members
abbrev pub bare : Bytes → ℕ → Members → Option Ref
bare x c m = or_method (look x m.fields) c (place x m.methods)
