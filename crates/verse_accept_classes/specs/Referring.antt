-- What names stand for is there, in a method the members of its class among it.
use Rattle.std.specs.Prelude.{◌≡◌, ℕ, ◌<◌, List, Option, Some, None, slice_get}
use Rattle.verse_tree.specs.Tree.{Bytes}
use Rattle.verse_tree.specs.ItemTree.{FieldTree, FunTree, EnumTree, ItemTree}
use Rattle.verse_tree.specs.declared.tables.Ref.{Ref}
use Rattle.verse_tree.specs.declared.tables.Ref.TheVariants as ref
use Rattle.verse_names_tables.specs.Names.{Table, look}
use Rattle.verse_names_tables.specs.Notes.{Note}
use Rattle.verse_names_declarations.specs.Known.{known}
use Rattle.verse_names_items.specs.Tables.{methods_of}
use Rattle.verse_names_scopes.specs.Visible.{World, visible}
use Rattle.verse_meaning.specs.Programs.{classes, enums, fields_from}
use Rattle.verse_meaning_state.specs.Waits.{nth}
use Rattle.std.specs.Prelude.{length}
use Rattle.verse_accept_scopes.specs.Lists.{Each}
use Rattle.verse_accept_scopes.specs.Laws.{LocalBelow}
use Rattle.verse_accept_classes.specs.Owners.{owned}

module _ (is : List ItemTree) where
  -- all fields of a class, the root's first
  abbrev pub fields_of : ℕ → List FieldTree
  fields_of c = fields_from (length (classes is)) (classes is) (nth (classes is) c)

  pub record IsField (c i : ℕ) : Type 0 where
    pub tree : FieldTree
    pub there : slice_get (fields_of c) i ≡ Some tree

  pub record IsMethod (c m : ℕ) : Type 0 where
    pub number : ℕ
    pub there : slice_get (methods_of (known is) c) m ≡ Some number

  pub record IsFunction (f : ℕ) : Type 0 where
    pub tree : FunTree
    pub there : slice_get (owned (known is).items) f ≡ Some (record { class = None; tree = tree })

  pub record IsClass (c : ℕ) : Type 0 where
    pub note : Note
    pub there : slice_get (known is).notes c ≡ Some note

  pub record IsEnum (e : ℕ) : Type 0 where
    pub tree : EnumTree
    pub there : slice_get (enums is) e ≡ Some tree

  -- members by their bare names are those of this class
  abbrev pub IsThere : Option ℕ → Ref → Type 0
  IsThere this (ref.Local n) = Unit {0}
  IsThere this (ref.Key n) = Unit {0}
  IsThere this (ref.Field c i) = (this ≡ Some c) × IsField c i
  IsThere this (ref.Method c m) = (this ≡ Some c) × IsMethod c m
  IsThere this (ref.Fun f) = IsFunction f
  IsThere this (ref.Class c) = IsClass c
  IsThere this (ref.Enum e) = IsEnum e
  IsThere this (ref.Builtin b) = b < 4

  -- in a world of a program
  pub record Names (w : World) : Type 0 where
    pub names : (n : ℕ) (xs : Table) → Each (λ (e : Bytes × Ref). LocalBelow n e.1) xs →
        (x : Bytes) (r : Ref) → visible w xs x ≡ Some r → IsThere w.class r
    -- and local names are found among those that are visible
    pub locals : (xs : Table) (x : Bytes) (n : ℕ) → visible w xs x ≡ Some (ref.Local n) →
        look x xs ≡ Some (ref.Local n)
    pub keys : (xs : Table) (x : Bytes) (n : ℕ) → visible w xs x ≡ Some (ref.Key n) →
        look x xs ≡ Some (ref.Key n)
    pub types : w.types ≡ (known is).index.types
