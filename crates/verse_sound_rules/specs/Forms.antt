-- The forms with operands: of what sorts they take them, and of what sort is what they give.
use Rattle.std.specs.Prelude.{◌≡◌, ◌≢◌, ℕ, Bool, true, false, List, [], ◌∷◌, ◌++◌, Option, Some}
use Rattle.std.specs.Prelude.{None, cond}
use Rattle.verse_base.specs.declared.places.Place.{Place}
use Rattle.verse_tree.specs.Tree.{Bytes, Tree}
use Rattle.verse_tree.specs.ItemTree.{FieldTree, FunTree}
use Rattle.verse_tree.specs.declared.exprs.Comparison.{Comparison}
use Rattle.verse_tree.specs.declared.exprs.Comparison.TheVariants as c
use Rattle.verse_tree.specs.declared.exprs.Operator.{Operator}
use Rattle.verse_tree.specs.declared.exprs.Operator.TheVariants as op
use Rattle.verse_tree.specs.declared.tables.Ref.{Ref}
use Rattle.verse_tree.specs.declared.tables.Ref.TheVariants as ref
use Rattle.verse_value.specs.declared.modes.Mode.{Mode}
use Rattle.verse_names_tables.specs.Names.{Table, look}
use Rattle.verse_sorts.specs.Sorts as s
use Rattle.verse_sorts.specs.Sorts.{Sort, Sorts, Fits, IsKey}
use Rattle.verse_sorts.specs.Typing.{at, AllFit}
use Rattle.verse_sorts_values.specs.Operands.{sorts, sort_in, HasNever, Every, Entries, AllShown}
use Rattle.verse_sorts_values.specs.Operands.{Indexed, Path, Writes}
use Rattle.verse_meaning_state.specs.Waits.{nth}
use Rattle.verse_meaning.specs.Programs.{Program, same_name, fun_at, method_at, fields_of}
use Rattle.verse_meaning.specs.Residuals as form
use Rattle.verse_meaning.specs.Residuals.{Form, Base, in_variable, in_self, in_object}
use Rattle.verse_sound_rules.specs.Found.{Found, Allowed}

pub data IsOrder : Comparison → Type 0 where
  order_below : IsOrder c.Below
  order_at_most : IsOrder c.AtMost
  order_above : IsOrder c.Above
  order_at_least : IsOrder c.AtLeast

-- the sort of the value that is given to the field of a name
abbrev pub given_sort : Bytes → List Bytes → List Sort → Option Sort
given_sort x [] qs = None
given_sort x (y ∷ ys) [] = None
given_sort x (y ∷ ys) (q ∷ qs) = cond (same_name x y) (Some q) (given_sort x ys qs)

-- a form of operands that is no `case`
abbrev pub NoCase : Form → Type 0
NoCase (form.choosing ts) = ⊥
NoCase x = Unit {0}

module _ (p : Program) (f : Found) where
  -- the default of a field, and what the field holds
  pub data IsDefault : Tree → Sort → Type 0 where
    is_default : (c i : ℕ) (d : FieldTree) {b : Tree} {q : Sort} → nth (fields_of p c) i ≡ Some d →
        d.default ≡ Some b → at (f.slots c) i ≡ Some q → IsDefault b q

  -- each field is given, or is its default
  pub data Filled (xs : List Bytes) (qs : List Sort) : List FieldTree → List Sort → Type 0 where
    filled_no : Filled xs qs [] []
    filled_given : {d : FieldTree} {ds : List FieldTree} (q : Sort) {r : Sort} {rs : List Sort} →
        given_sort d.name xs qs ≡ Some q → Fits f.up q r → Filled xs qs ds rs →
        Filled xs qs (d ∷ ds) (r ∷ rs)
    filled_by_default : {d : FieldTree} {ds : List FieldTree} (b : Tree) {r : Sort}
        {rs : List Sort} → given_sort d.name xs qs ≡ None → d.default ≡ Some b → IsDefault b r →
        Filled xs qs ds rs → Filled xs qs (d ∷ ds) (r ∷ rs)

  module _ (a : Allowed) (xs : Table) where
    -- what a name stands for, and of what sort its value is
    pub data NameIs (x : Bytes) : Option Ref → Sort → Type 0 where
      is_local : {m : ℕ} → look x xs ≡ Some (ref.Local m) → NameIs x (Some (ref.Local m)) (f.sort m)
      is_key_name : {m : ℕ} → look x xs ≡ Some (ref.Key m) → NameIs x (Some (ref.Key m)) (f.key m)
      is_field : {c i : ℕ} (d : ℕ) {q : Sort} → a.this ≡ Some d → at (f.slots d) i ≡ Some q →
          NameIs x (Some (ref.Field c i)) q

    -- where `set` writes: the operands before the path, and what the slot holds
    pub data Placed : Base → List Sort → Sort → Type 0 where
      in_local : {x : Bytes} {m : ℕ} → look x xs ≡ Some (ref.Local m) → f.is_var m ≡ true →
          Placed (in_variable x) [] (f.sort m)
      in_own : (c : ℕ) {i : ℕ} {q : Sort} → a.this ≡ Some c → at (f.slots c) i ≡ Some q →
          Placed (in_self i) [] q
      in_field : {c i : ℕ} {q : Sort} → at (f.slots c) i ≡ Some q →
          Placed (in_object i) (s.obj c ∷ []) q

    -- Where an operand gives no value, no more is asked of a form but what these say: it is an
    -- operator, a member, or a place that is there; or what gives no value is what is called,
    -- indexed, awaited or signalled.
    pub data Spared : Form → List Sort → Type 0 where
      spared_operator : {o : Operator} {t : Bool} {pl : Place} {qs : List Sort} → HasNever qs →
          Spared (form.computing o t pl) qs
      spared_query : {qs : List Sort} → HasNever qs → Spared form.querying qs
      spared_length : {qs : List Sort} → HasNever qs → Spared form.measuring qs
      spared_member : {qs : List Sort} → HasNever qs → Spared form.defining qs
      spared_place : {b : Base} {x : Mode} {pl : Place} {qs : List Sort} (os : List Sort)
          (q : Sort) → Placed b os q → HasNever qs → Spared (form.storing b x pl) qs
      spared_item : {i : Option ℕ} {qs : List Sort} → Spared (form.picking i) (s.never ∷ qs)
      spared_index : {qs : List Sort} → Spared form.indexing (s.never ∷ qs)
      spared_await : {t : Bool} {qs : List Sort} → Spared (form.awaiting t) (s.never ∷ qs)
      spared_signal : {qs : List Sort} → Spared form.signalling (s.never ∷ qs)

    -- the function of a number may be called here
    pub record Callable (g : ℕ) : Type 0 where
      pub function : FunTree
      pub found : fun_at p g ≡ Some function
      pub fails : (f.signature g).decides ≡ true → a.fails ≡ true
      pub waits : (f.signature g).lasts ≡ true → a.waits ≡ true

    -- a call of it may be spawned here
    pub record CanBeSpawned (g : ℕ) : Type 0 where
      pub function : FunTree
      pub found : fun_at p g ≡ Some function
      pub decides : (f.signature g).decides ≡ false
      pub waits : a.waits ≡ true

    -- a form takes operands of these sorts, and what it gives is of that one
    pub data Takes : Form → List Sort → Sort → Type 0 where
      takes_never : {x : Form} {qs : List Sort} {r : Sort} → Spared x qs → Takes x qs r
      -- operators
      takes_and : {t : Bool} {pl : Place} {q r : Sort} →
          Takes (form.computing op.And t pl) (q ∷ r ∷ []) r
      takes_sum : {pl : Place} → Takes (form.computing op.Add false pl) (s.int ∷ s.int ∷ []) s.int
      takes_lists : {pl : Place} {q : Sort} →
          Takes (form.computing op.Add true pl) (s.list q ∷ s.list q ∷ []) (s.list q)
      takes_difference : {t : Bool} {pl : Place} →
          Takes (form.computing op.Sub t pl) (s.int ∷ s.int ∷ []) s.int
      takes_product : {t : Bool} {pl : Place} →
          Takes (form.computing op.Mul t pl) (s.int ∷ s.int ∷ []) s.int
      takes_equal : {q r : Sort} → a.fails ≡ true → Takes (form.comparing c.Equal) (q ∷ r ∷ []) q
      takes_differs : {q r : Sort} → a.fails ≡ true →
          Takes (form.comparing c.Differs) (q ∷ r ∷ []) q
      takes_order : {o : Comparison} → IsOrder o → a.fails ≡ true →
          Takes (form.comparing o) (s.int ∷ s.int ∷ []) s.int
      takes_minus : {pl : Place} → Takes (form.negating pl) (s.int ∷ []) s.int
      takes_option : {q : Sort} → a.fails ≡ true → Takes form.querying (s.opt q ∷ []) q
      takes_logic : a.fails ≡ true → Takes form.querying (s.logic ∷ []) s.logic
      -- members and values that are made
      takes_object : {c i : ℕ} {q : Sort} → at (f.slots c) i ≡ Some q →
          Takes (form.reading i) (s.obj c ∷ []) q
      takes_list_length : {q : Sort} → Takes form.measuring (s.list q ∷ []) s.int
      takes_map_length : {k q : Sort} → Takes form.measuring (s.map k q ∷ []) s.int
      takes_tuple : {pl : Place} {qs : List Sort} →
          Takes (form.making_tuple pl) qs (s.tuple (sorts qs))
      takes_array : {pl : Place} {q : Sort} {qs : List Sort} → Every q qs →
          Takes (form.making_array pl) qs (s.list q)
      takes_map : {pl : Place} {k q : Sort} {qs : List Sort} → IsKey k → Entries k q qs →
          Takes (form.making_map pl) qs (s.map k q)
      takes_texts : {ys : List Bytes} {pl : Place} {qs : List Sort} → AllShown qs →
          Takes (form.joining ys pl) qs (s.list s.char)
      takes_item : {i : ℕ} {qs : Sorts} {r : Sort} → sort_in qs i ≡ Some r →
          Takes (form.picking (Some i)) (s.tuple qs ∷ []) r
      takes_index : {q i r : Sort} → a.fails ≡ true → Indexed q i r →
          Takes form.indexing (q ∷ i ∷ []) r
      -- calls
      takes_arguments : {g : ℕ} → Callable g → (f.signature g).this ≡ None →
          Takes (form.calling g) (f.signature g).params (f.signature g).result
      takes_own : (c g : ℕ) {m : ℕ} → a.this ≡ Some c → method_at p c m ≡ Some g → Callable g →
          Takes (form.calling_own m) (f.signature g).params (f.signature g).result
      takes_method : {c : ℕ} (g : ℕ) {m : ℕ} → method_at p c m ≡ Some g → Callable g →
          Takes (form.calling_method m) (s.obj c ∷ (f.signature g).params) (f.signature g).result
      takes_line : {pl : Place} → Takes (form.printing pl) (s.list s.char ∷ []) s.unit
      takes_floor : {pl : Place} → a.fails ≡ true →
          Takes (form.flooring pl) (s.int ∷ s.int ∷ []) s.int
      takes_ceiling : {pl : Place} → a.fails ≡ true →
          Takes (form.ceiling pl) (s.int ∷ s.int ∷ []) s.int
      takes_modulo : a.fails ≡ true → Takes form.taking_modulo (s.int ∷ s.int ∷ []) s.int
      -- tasks
      takes_task : {q : Sort} → a.waits ≡ true → Takes (form.awaiting false) (s.task q ∷ []) q
      takes_event : {q : Sort} → a.waits ≡ true → Takes (form.awaiting true) (s.event q ∷ []) q
      takes_signal : {q : Sort} → a.waits ≡ true → Takes form.signalling (s.event q ∷ q ∷ []) s.unit
      takes_bare_signal : {q : Sort} → a.waits ≡ true → Fits f.up s.unit q →
          Takes form.signalling (s.event q ∷ []) s.unit
      takes_spawned : {g : ℕ} → CanBeSpawned g → (f.signature g).this ≡ None →
          Takes (form.spawning g) (f.signature g).params (s.task (f.signature g).result)
      takes_spawned_own : (c g : ℕ) {m : ℕ} → a.this ≡ Some c → method_at p c m ≡ Some g →
          CanBeSpawned g → Takes (form.spawning_own m) (f.signature g).params
          (s.task (f.signature g).result)
      takes_spawned_method : {c : ℕ} (g : ℕ) {m : ℕ} → method_at p c m ≡ Some g → CanBeSpawned g →
          Takes (form.spawning_method m) (s.obj c ∷ (f.signature g).params)
          (s.task (f.signature g).result)
      -- statements
      takes_place : {b : Base} {x : Mode} {pl : Place} (os is : List Sort) (q v r : Sort)
          {w : Sort} → Placed b os q → Path q is r → Writes f.up x v r w →
          (is ≢ [] → a.fails ≡ true) → Takes (form.storing b x pl) (os ++ (is ++ v ∷ [])) w
      takes_fields : {c : ℕ} {ys : List Bytes} {pl : Place} {qs : List Sort} →
          Filled ys qs (fields_of p c) (f.slots c) → Takes (form.instancing c ys pl) qs (s.obj c)
      takes_defined : {q : Sort} → Takes form.defining (q ∷ []) q
      takes_varying : {pl : Place} {q : Sort} → Takes (form.varying pl) (q ∷ []) q
      takes_result : {q r : Sort} → a.result ≡ Some q → Takes form.returning (q ∷ []) r

    -- with operands of sorts that fit those taken, and a value of a sort that fits the one wanted
    pub record Gives (x : Form) (has : List Sort) (wanted : Sort) : Type 0 where
      pub no_case : NoCase x
      pub taken : List Sort
      pub given : Sort
      pub operands : AllFit f.up has taken
      pub takes : Takes x taken given
      pub value : Fits f.up given wanted
