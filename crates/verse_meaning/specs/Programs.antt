-- A program as its meaning sees it: the items of its files, and what its names stand for.
use Rattle.std.specs.Prelude.{ℕ, zero, suc, ◌==◌, List, [], ◌∷◌, ◌++◌, length, Option, Some, None}
use Rattle.std.specs.Prelude.{Bool, true, false, cond, slice_get, map}
use Rattle.verse_tree.specs.Tree.{Bytes, Tree, tree, Shape, Trees, no_trees, more_trees, Holes}
use Rattle.verse_tree.specs.Tree.{no_holes, more_holes, Givens, no_givens}
use Rattle.verse_tree.specs.Tree.{more_givens}
use Rattle.verse_tree.specs.Tree as t
use Rattle.verse_tree.specs.ItemTree.{EnumTree, FieldTree, FunTree, MemberTree, field, method}
use Rattle.verse_tree.specs.ItemTree.{ClassTree, ItemTree, using, enumeration}
use Rattle.verse_tree.specs.ItemTree.{class, function}
use Rattle.verse_tree.specs.ItemView.{item_of}
use Rattle.verse_tree.specs.declared.tables.FunInfo.{FunInfo}
use Rattle.verse_tree.specs.declared.tables.ClassInfo.{ClassInfo}
use Rattle.verse_tree.specs.declared.tables.MapOf.{MapOf-F}
use Rattle.verse_tree.specs.declared.tables.Names.{Names}
use Rattle.verse_tree.specs.declared.tables.Ref.{Ref}
use Rattle.verse_tree.specs.declared.tables.Ty.{Ty, Ty-F, fold-Ty}
use Rattle.verse_tree.specs.declared.tables.Ty.TheOpen as ty
use Rattle.verse_tree.specs.declared.programs.Program.{Program as Made}
use Rattle.verse_value.specs.Val.{Val, enum}
use Rattle.verse_meaning_state.specs.Waits.{nth}

pub record Program : Type 0 where
  pub items : List ItemTree
  pub names : Names
  -- whether the type of the node of a number is an array, or an event
  pub is_array : ℕ → Bool
  pub is_event : ℕ → Bool

-- whether a type is an array, or an event
abbrev pub array_step : Ty-F Bool Bool → Bool
array_step (ty.Array t) = true
array_step other = false

abbrev pub event_step : Ty-F Bool Bool → Bool
event_step (ty.Event t) = true
event_step other = false

abbrev pub no_map : MapOf-F Bool Bool → Bool
no_map m = false

abbrev pub is_array_type : Ty → Bool
is_array_type = fold-Ty Bool Bool array_step no_map

abbrev pub is_event_type : Ty → Bool
is_event_type = fold-Ty Bool Bool event_step no_map

-- of the node of a number, where it has a type
abbrev pub of_type : (Ty → Bool) → Option Ty → Bool
of_type is None = false
of_type is (Some t) = is t

abbrev pub program_of : Made → Program
program_of p = record {
  items = map item_of p.tree.items;
  names = p.names;
  is_array = λ n. of_type is_array_type (slice_get p.typed.types n);
  is_event = λ n. of_type is_event_type (slice_get p.typed.types n);
}

abbrev pub same_name : Bytes → Bytes → Bool
same_name [] [] = true
same_name [] (c ∷ y) = false
same_name (b ∷ x) [] = false
same_name (b ∷ x) (c ∷ y) = cond (b == c) (same_name x y) false

abbrev pub known : {A : Type 0} → Option (Option A) → Option A
known None = None
known (Some x) = x

-- what the node of a number stands for
abbrev pub ref_at : Program → ℕ → Option Ref
ref_at p number = known (slice_get p.names.refs number)

abbrev pub or_else : {A : Type 0} → Option A → Option A → Option A
or_else None other = other
or_else (Some x) other = Some x

-- the function or method whose node has a number
abbrev pub method_numbered : ℕ → List MemberTree → Option FunTree
method_numbered number [] = None
method_numbered number (field f ∷ ms) = method_numbered number ms
method_numbered number (method f ∷ ms) =
    cond (f.number == number) (Some f) (method_numbered number ms)

abbrev pub fun_numbered : ℕ → List ItemTree → Option FunTree
fun_numbered number [] = None
fun_numbered number (using u ∷ is) = fun_numbered number is
fun_numbered number (enumeration e ∷ is) = fun_numbered number is
fun_numbered number (class c ∷ is) =
    or_else (method_numbered number c.members) (fun_numbered number is)
fun_numbered number (function f ∷ is) = cond (f.number == number) (Some f) (fun_numbered number is)

abbrev pub fun_of_info : List ItemTree → Option FunInfo → Option FunTree
fun_of_info is None = None
fun_of_info is (Some info) = fun_numbered info.item is

-- the function of a number
abbrev pub fun_at : Program → ℕ → Option FunTree
fun_at p f = fun_of_info p.items (slice_get p.names.funs f)

abbrev pub method_in : ℕ → Option ClassInfo → Option ℕ
method_in m None = None
method_in m (Some c) = slice_get c.methods m

-- the function that is the method m of a class
abbrev pub method_at : Program → (c m : ℕ) → Option ℕ
method_at p c m = method_in m (slice_get p.names.classes c)

-- classes and enums are numbered in the order of their items
abbrev pub classes : List ItemTree → List ClassTree
classes [] = []
classes (using u ∷ is) = classes is
classes (enumeration e ∷ is) = classes is
classes (class c ∷ is) = c ∷ classes is
classes (function f ∷ is) = classes is

abbrev pub enums : List ItemTree → List EnumTree
enums [] = []
enums (using u ∷ is) = enums is
enums (enumeration e ∷ is) = e ∷ enums is
enums (class c ∷ is) = enums is
enums (function f ∷ is) = enums is

abbrev pub own_fields : List MemberTree → List FieldTree
own_fields [] = []
own_fields (field f ∷ ms) = f ∷ own_fields ms
own_fields (method f ∷ ms) = own_fields ms

abbrev pub class_named : Bytes → List ClassTree → Option ClassTree
class_named x [] = None
class_named x (c ∷ cs) = cond (same_name x c.name) (Some c) (class_named x cs)

abbrev pub parent_of : List ClassTree → Option Bytes → Option ClassTree
parent_of cs None = None
parent_of cs (Some x) = class_named x cs

-- all fields of a class, the root's first; there are no more than n classes above it
abbrev pub fields_from : ℕ → List ClassTree → Option ClassTree → List FieldTree
fields_from n cs None = []
fields_from zero cs (Some c) = own_fields c.members
fields_from (suc n) cs (Some c) = fields_from n cs (parent_of cs c.parent) ++ own_fields c.members

abbrev pub fields_of : Program → ℕ → List FieldTree
fields_of p c = fields_from (length (classes p.items)) (classes p.items) (nth (classes p.items) c)

-- the place of a name in a list
abbrev pub one_further : Option ℕ → Option ℕ
one_further None = None
one_further (Some n) = Some (suc n)

abbrev pub place_of : Bytes → List Bytes → Option ℕ
place_of x [] = None
place_of x (y ∷ ys) = cond (same_name x y) (Some 0) (one_further (place_of x ys))

abbrev pub enum_val : ℕ → Option ℕ → Option Val
enum_val e None = None
enum_val e (Some i) = Some (enum e i)

abbrev pub value_in : ℕ → Bytes → Option EnumTree → Option Val
value_in e x None = None
value_in e x (Some en) = enum_val e (place_of x en.values)

-- the value of an enum by its name
abbrev pub enum_value : Program → ℕ → Bytes → Option Val
enum_value p e x = value_in e x (nth (enums p.items) e)

abbrev pub enum_names : List EnumTree → List Bytes
enum_names [] = []
enum_names (e ∷ es) = e.name ∷ enum_names es

abbrev pub named_value : Program → Bytes → Option ℕ → Option Val
named_value p x None = None
named_value p x (Some e) = enum_value p e x

-- the value of a pattern `E.V`
abbrev pub pattern_value : Program → Bytes → Bytes → Option Val
pattern_value p e x = named_value p x (place_of e (enum_names (enums p.items)))

abbrev pub field_names : List FieldTree → List Bytes
field_names [] = []
field_names (f ∷ fs) = f.name ∷ field_names fs

abbrev pub main_name : Bytes
main_name = 77 ∷ 97 ∷ 105 ∷ 110 ∷ []

-- the item that is named Main
abbrev pub main_in : List ItemTree → Option FunTree
main_in [] = None
main_in (using u ∷ is) = main_in is
main_in (enumeration e ∷ is) = main_in is
main_in (class c ∷ is) = main_in is
main_in (function f ∷ is) = cond (same_name f.name main_name) (Some f) (main_in is)

abbrev pub trees_list : Trees → List Tree
trees_list no_trees = []
trees_list (more_trees a as1) = a ∷ trees_list as1

abbrev pub holes_list : Holes → List Tree
holes_list no_holes = []
holes_list (more_holes a x hs) = a ∷ holes_list hs

abbrev pub pieces : Holes → List Bytes
pieces no_holes = []
pieces (more_holes a x hs) = x ∷ pieces hs

abbrev pub pairs_list : t.Pairs → List Tree
pairs_list t.Pairs.no_pairs = []
pairs_list (t.Pairs.more_pairs k a ps) = k ∷ a ∷ pairs_list ps

abbrev pub givens_list : Givens → List Tree
givens_list no_givens = []
givens_list (more_givens x a gs) = a ∷ givens_list gs

abbrev pub given_names : Givens → List Bytes
given_names no_givens = []
given_names (more_givens x a gs) = x ∷ given_names gs
