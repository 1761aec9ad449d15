-- The code of each form, row by row: each names a form and the operations that it must have.
use Rattle.std.specs.Prelude.{◌≡◌, ℕ, nat_eq, pos, negsuc, List, [], ◌∷◌, map, Option, Some, None}
use Rattle.std.specs.Prelude.{Bool, false, codes}
use Rattle.verse_base.specs.declared.places.Place.{Place}
use Rattle.verse_tree.specs.Tree.{Tree, tree, Shape, Trees, no_trees, more_trees, more_givens}
use Rattle.verse_tree.specs.Tree.{no_givens, more_holes, no_holes}
use Rattle.verse_tree.specs.Tree as t
use Rattle.verse_tree.specs.ItemTree.{ClassTree, EnumTree, FieldTree, FunTree, field, method}
use Rattle.verse_tree.specs.ItemTree.{enumeration, class, function}
use Rattle.verse_tree.specs.declared.exprs.Assign.TheVariants as assign
use Rattle.verse_tree.specs.declared.exprs.Comparison.TheVariants as comparison
use Rattle.verse_tree.specs.declared.exprs.Operator.TheVariants as operator
use Rattle.verse_tree.specs.declared.tables.FunInfo.{FunInfo}
use Rattle.verse_tree.specs.declared.tables.FieldInfo.{FieldInfo}
use Rattle.verse_tree.specs.declared.tables.Ref.TheVariants as ref
use Rattle.verse_tree.specs.declared.tables.Ty.TheVariants as ty
use Rattle.verse_code.specs.declared.operations.Op.{Op}
use Rattle.verse_code.specs.declared.operations.Op.TheVariants as o
use Rattle.verse_meaning.specs.Programs.{Program}
use Rattle.verse_meaning.specs.Forms.{this_name}
use Rattle.lower_code.specs.Arounds.{fresh}
use Rattle.lower_code.specs.Scopes.{Scope, constant_at, variable_at}
use Rattle.lower_code.specs.Lowering.{shape_piece, pattern_op}
use Rattle.lower_code.specs.Programs.{item_op, first_spot}

abbrev pub at : Place
at = record { file = 0; line = 1; col = 1 }

-- the parts of forms
abbrev pub part_at : ℕ → Shape → Tree
part_at n s = tree n at s

abbrev pub part : Shape → Tree
part s = part_at 0 s

abbrev pub int : ℕ → Tree
int k = part (t.Shape.integer (pos k))

abbrev pub one_of : Tree → Trees
one_of a = more_trees a no_trees

abbrev pub two : Tree → Tree → Trees
two a b = more_trees a (more_trees b no_trees)

abbrev pub arm : Shape → Tree → Tree
arm s a = part (t.Shape.arm (part s) a)

-- 1 / 2
abbrev pub quotient_of : Tree
quotient_of = part (t.Shape.chained operator.Div (int 1) (int 2))

-- defer{1}
abbrev pub deferred : Tree
deferred = part (t.Shape.defer (int 1))

-- A := 1
abbrev pub defined : List ℕ → Tree
defined x = part (t.Shape.definition x (int 1))

-- A program for the forms to speak of. A node stands for what its number says in `refs`.
-- e := enum{A, B}
-- c := class:
--     L:int = 7
--     N:int
--     M(A:int):void = 1
-- F(A:int):void = 1
abbrev pub an_enum : EnumTree
an_enum = record {
  number = 30;
  place = at;
  name = codes "e";
  specs = [];
  values =
      codes "A" ∷ codes "B" ∷ [];
}

abbrev pub a_field : ℕ → List ℕ → Option Tree → FieldTree
a_field n x default = record {
  number = n;
  place = at;
  is_var = false;
  var_specs = [];
  name = x;
  specs = [];
  written = t.Written.int;
  default = default;
}

abbrev pub a_function : ℕ → List ℕ → FunTree
a_function n x = record {
  number = n;
  place = at;
  name = x;
  specs = [];
  params = record { number = 0; place = at; name = codes "A"; written = t.Written.int } ∷ [];
  effects = [];
  written = t.Written.void;
  body = int 1;
}

abbrev pub a_class : ClassTree
a_class = record {
  number = 31;
  place = at;
  name = codes "c";
  specs = [];
  class_specs = [];
  parent = None;
  members = field (a_field 32 (codes "L") (Some (int 7))) ∷ field (a_field 33 (codes "N") None) ∷
      method (a_function 34 (codes "M")) ∷ [];
}

abbrev pub function_info : ℕ → FunInfo
function_info n = record {
  params = ty.Int ∷ [];
  result = ty.Void;
  effects = record { computes = false; transacts = false; decides = false; suspends = false };
  item = n;
}

abbrev pub field_info : Option ℕ → FieldInfo
field_info default = record { ty = ty.Int; is_var = false; default = default }

abbrev pub small_program : Program
small_program = record {
  items = enumeration an_enum ∷ class a_class ∷ function (a_function 35 (codes "F")) ∷ [];
  is_array = λ n. nat_eq n 20;
  is_event = λ n. nat_eq n 21;
  names = record {
    funs = function_info 34 ∷ function_info 35 ∷ [];
    classes = record {
      parent = None;
      is_unique = false;
      fields = field_info (Some 0) ∷ field_info None ∷ [];
      methods = 0 ∷ [];
    } ∷ [];
    enums = record { count = 2 } ∷ [];
    refs = None ∷ Some (ref.Fun 1) ∷ Some (ref.Method 0 0) ∷ Some (ref.Field 0 1) ∷
        Some (ref.Class 0) ∷ Some (ref.Enum 0) ∷ Some (ref.Builtin 0) ∷ Some (ref.Builtin 1) ∷
        Some (ref.Builtin 2) ∷ Some (ref.Builtin 3) ∷ [];
  };
}

-- in a method of c with a constant X and a variable V
abbrev pub small_scope : Scope
small_scope = variable_at (codes "V") ∷ constant_at (codes "X") ∷ constant_at this_name ∷ []

abbrev pub named_as : ℕ → List ℕ → Tree
named_as n x = part_at n (t.Shape.name x)

abbrev pub constant : Tree
constant = named_as 0 (codes "X")

abbrev pub variable : Tree
variable = named_as 0 (codes "V")

abbrev pub own_field : Tree
own_field = named_as 3 (codes "N")

-- A : X
abbrev pub each_of_constant : Tree
each_of_constant = part (t.Shape.elements (codes "A") constant)

-- F(1)
abbrev pub call_of_function : Tree
call_of_function = part (t.Shape.call (named_as 1 (codes "F")) (one_of (int 1)))

-- X.M
abbrev pub method_of_constant : Tree
method_of_constant = part_at 2 (t.Shape.member constant (codes "M"))

-- node 40 has a type of its own
abbrev pub differ : ℕ → ℕ → Bool
differ n m = nat_eq n 40

-- the operations of the node n, which is a form
abbrev pub code_at : (n : ℕ) → Shape → List Op
code_at n s = map item_op (shape_piece small_program differ s n at small_scope fresh
    first_spot).items

abbrev pub code : Shape → List Op
code s = code_at 0 s

abbrev pub pattern : Shape → List Op
pattern s = map item_op (pattern_op small_program differ s first_spot).items

-- Blocks and statements
pub record BlocksHaveCode : Type 0 where
  -- 1; 2
  pub statements : code (t.Shape.block (two (int 1) (int 2))) ≡
      o.Int (pos 1) ∷ o.Drop ∷ o.Int (pos 2) ∷ []
  -- A := 1
  pub definition : code (t.Shape.definition (codes "A") (int 1)) ≡
      o.Int (pos 1) ∷ o.Put 3 ∷ o.Get 3 ∷ []
  -- var A:int = 1
  pub variable : code (t.Shape.variable (codes "A") t.Written.int (int 1)) ≡
      o.Int (pos 1) ∷ o.New 0 ∷ o.Put 3 ∷ o.Get 3 ∷ o.Load 0 ∷ []
  -- defer{1}; 2
  pub deferring : code (t.Shape.block (two deferred (int 2))) ≡
      o.Defer 4 ∷ o.Int (pos 1) ∷ o.Drop ∷ o.DeferEnd ∷ o.Unit ∷ o.Drop ∷ o.Int (pos 2) ∷
      o.Leave 0 ∷ []
  -- return 1
  pub returned : code (t.Shape.returned (int 1)) ≡ o.Int (pos 1) ∷ o.Return ∷ []
  -- defer{1}; return 2
  pub returned_behind_defer : code
      (t.Shape.block (two deferred (part (t.Shape.returned (int 2))))) ≡ o.Defer 4 ∷ o.Int (pos 1) ∷
      o.Drop ∷ o.DeferEnd ∷ o.Unit ∷ o.Drop ∷ o.Int (pos 2) ∷ o.Leave 0 ∷ o.Return ∷ o.Leave 0 ∷ []
  -- return
  pub returned_unit : code t.Shape.returned_unit ≡ o.Unit ∷ o.Return ∷ []
  -- block: 1
  pub block_form : code (t.Shape.block_form (int 1)) ≡ o.Int (pos 1) ∷ []

-- Writes
pub record WritesHaveCode : Type 0 where
  -- set V = 1
  pub set_variable : code (t.Shape.assignment assign.Set variable (int 1)) ≡
      o.Get 2 ∷ o.Int (pos 1) ∷ o.Store 0 0 0 0 ∷ []
  -- set V = W, where the types differ
  pub set_of_another_type : code
      (t.Shape.assignment assign.Set (part_at 40 (t.Shape.name (codes "V"))) (int 1)) ≡ o.Get 2 ∷
      o.Int (pos 1) ∷ o.Put 3 ∷ o.Get 3 ∷ o.Store 0 0 0 0 ∷ o.Drop ∷ o.Get 3 ∷ []
  -- set V += 1
  pub add_to_variable : code (t.Shape.assignment assign.Add variable (int 1)) ≡
      o.Get 2 ∷ o.Int (pos 1) ∷ o.Store 0 0 1 0 ∷ []
  -- set V -= 1
  pub sub_from_variable : code (t.Shape.assignment assign.Sub variable (int 1)) ≡
      o.Get 2 ∷ o.Int (pos 1) ∷ o.Store 0 0 2 0 ∷ []
  -- set V *= 1
  pub mul_variable : code (t.Shape.assignment assign.Mul variable (int 1)) ≡
      o.Get 2 ∷ o.Int (pos 1) ∷ o.Store 0 0 3 0 ∷ []
  -- set V[1] = 2
  pub set_element : code (t.Shape.assignment assign.Set
      (part (t.Shape.index variable (one_of (int 1)))) (int 2)) ≡ o.Get 2 ∷ o.Int (pos 1) ∷
      o.Int (pos 2) ∷ o.Store 0 1 0 0 ∷ []
  -- set N = 1
  pub set_own_field : code (t.Shape.assignment assign.Set own_field (int 1)) ≡
      o.Get 0 ∷ o.Int (pos 1) ∷ o.Store 1 0 0 0 ∷ []
  -- set X.N = 1
  pub set_field : code (t.Shape.assignment assign.Set
      (part_at 3 (t.Shape.member constant (codes "N"))) (int 1)) ≡ o.Get 1 ∷ o.Int (pos 1) ∷
      o.Store 1 0 0 0 ∷ []

-- Failure contexts
pub record AttemptsHaveCode : Type 0 where
  -- if (1): 2 else: 3
  pub if_else : code (t.Shape.if_else (one_of (int 1)) (int 2) (int 3)) ≡
      o.Try 6 ∷ o.Int (pos 1) ∷ o.Drop ∷ o.Commit ∷ o.Int (pos 2) ∷ o.Jump 7 ∷
      o.Int (pos 3) ∷ []
  -- if (1): 2
  pub if_alone : code (t.Shape.if_alone (one_of (int 1)) (int 2)) ≡
      o.Try 6 ∷ o.Int (pos 1) ∷ o.Drop ∷ o.Commit ∷ o.Int (pos 2) ∷ o.Jump 7 ∷ o.Unit ∷ []
  -- if (A := 1): A
  pub if_defines : code (t.Shape.if_alone (one_of (defined (codes "A")))
      (part (t.Shape.name (codes "A")))) ≡ o.Try 8 ∷ o.Int (pos 1) ∷ o.Put 3 ∷ o.Get 3 ∷ o.Drop ∷
      o.Commit ∷ o.Get 3 ∷ o.Jump 9 ∷ o.Unit ∷ []
  -- not 1
  pub negation : code (t.Shape.negation (int 1)) ≡
      o.Try 5 ∷ o.Int (pos 1) ∷ o.Drop ∷ o.Undo ∷ o.Fail ∷ o.Unit ∷ []
  -- 1 or 2
  pub either : code (t.Shape.chained operator.Or (int 1) (int 2)) ≡
      o.Try 4 ∷ o.Int (pos 1) ∷ o.Commit ∷ o.Jump 5 ∷ o.Int (pos 2) ∷ []
  -- 1 and 2
  pub both : code (t.Shape.chained operator.And (int 1) (int 2)) ≡
      o.Int (pos 1) ∷ o.Drop ∷ o.Int (pos 2) ∷ []
  -- option{1}
  pub option : code (t.Shape.option (one_of (int 1))) ≡
      o.Try 5 ∷ o.Int (pos 1) ∷ o.Commit ∷ o.Some 0 ∷ o.Jump 6 ∷ o.False ∷ []
  -- logic{1}
  pub logic : code (t.Shape.logic (one_of (int 1))) ≡
      o.Try 6 ∷ o.Int (pos 1) ∷ o.Drop ∷ o.Commit ∷ o.True ∷ o.Jump 7 ∷ o.False ∷ []

-- Loops and cases
pub record LoopsHaveCode : Type 0 where
  -- loop: 1
  pub loop_form : code (t.Shape.loop_form (int 1)) ≡
      o.Jump 3 ∷ o.Int (pos 1) ∷ o.Drop ∷ o.Again 1 ∷ o.Unit ∷ []
  -- loop: break
  pub loop_broken : code (t.Shape.loop_form (part t.Shape.break_form)) ≡
      o.Jump 3 ∷ o.Jump 4 ∷ o.Drop ∷ o.Again 1 ∷ o.Unit ∷ []
  -- loop: (1, break)
  pub broken_above_an_operand : code
      (t.Shape.loop_form (part (t.Shape.tuple (two (int 1) (part t.Shape.break_form))))) ≡
      o.Jump 5 ∷ o.Int (pos 1) ∷ o.Jump 6 ∷ o.Tuple 2 0 ∷ o.Drop ∷ o.Again 1 ∷ o.Drop ∷ o.Unit ∷ []
  -- for (A : X): 1
  pub elements : code (t.Shape.for_form (one_of each_of_constant) (int 1)) ≡
      o.Array 0 0 ∷ o.Put 3 ∷ o.Try 12 ∷ o.Get 1 ∷ o.Commit ∷ o.Each 4 ∷ o.Jump 11 ∷
      o.Try 11 ∷ o.Commit ∷ o.Int (pos 1) ∷ o.Append 3 0 ∷ o.Take 4 6 7 ∷ o.Get 3 ∷ []
  -- for (K -> A : X): 1
  pub entries : code (t.Shape.for_form
      (one_of (part (t.Shape.entries (codes "K") (codes "A") constant))) (int 1)) ≡ o.Array 0 0 ∷
      o.Put 3 ∷ o.Try 12 ∷ o.Get 1 ∷ o.Commit ∷ o.Each 4 ∷ o.Jump 11 ∷ o.Try 11 ∷ o.Commit ∷
      o.Int (pos 1) ∷ o.Append 3 0 ∷ o.Take 4 6 7 ∷ o.Get 3 ∷ []
  -- for (I := 1..2): 3
  pub range : code (t.Shape.for_form (one_of (part (t.Shape.range (codes "I") (int 1) (int 2))))
      (int 3)) ≡ o.Array 0 0 ∷ o.Put 3 ∷ o.Try 13 ∷ o.Int (pos 1) ∷ o.Int (pos 2) ∷ o.Commit ∷
      o.Range 4 ∷ o.Jump 12 ∷ o.Try 12 ∷ o.Commit ∷ o.Int (pos 3) ∷ o.Append 3 0 ∷
      o.Take 4 6 8 ∷ o.Get 3 ∷ []
  -- for (A : X, 1): 2
  pub elements_where : code (t.Shape.for_form (two each_of_constant (int 1)) (int 2)) ≡
      o.Array 0 0 ∷ o.Put 3 ∷ o.Try 14 ∷ o.Get 1 ∷ o.Commit ∷ o.Each 4 ∷ o.Jump 13 ∷
      o.Try 13 ∷ o.Int (pos 1) ∷ o.Drop ∷ o.Commit ∷ o.Int (pos 2) ∷ o.Append 3 0 ∷
      o.Take 4 6 7 ∷ o.Get 3 ∷ []
  -- for (A : X, B := 1): 2
  pub elements_with : code (t.Shape.for_form (two each_of_constant (defined (codes "B"))) (int 2)) ≡
      o.Array 0 0 ∷ o.Put 3 ∷ o.Try 16 ∷ o.Get 1 ∷ o.Commit ∷ o.Each 4 ∷ o.Jump 15 ∷
      o.Try 15 ∷ o.Int (pos 1) ∷ o.Put 8 ∷ o.Get 8 ∷ o.Drop ∷ o.Commit ∷ o.Int (pos 2) ∷
      o.Append 3 0 ∷ o.Take 4 6 7 ∷ o.Get 3 ∷ []
  -- case (X): 1 => 2, _ => 3
  pub cases : code (t.Shape.cases constant
      (two (arm (t.Shape.integer_pattern (pos 1)) (int 2)) (arm t.Shape.any_pattern (int 3)))) ≡
      o.Get 1 ∷ o.Put 3 ∷ o.Int (pos 1) ∷ o.Get 3 ∷ o.Same 7 ∷ o.Int (pos 2) ∷ o.Jump 8 ∷
      o.Int (pos 3) ∷ []
  -- a pattern 1
  pub integer_pattern : pattern (t.Shape.integer_pattern (pos 1)) ≡ o.Int (pos 1) ∷ []
  -- a pattern -1
  pub minus_pattern : pattern (t.Shape.minus_pattern (pos 1)) ≡ o.Int (negsuc 0) ∷ []
  -- a pattern 'a'
  pub character_pattern : pattern (t.Shape.character_pattern 97) ≡ o.Char 97 ∷ []
  -- a pattern "ab"
  pub text_pattern : pattern (t.Shape.text_pattern (codes "ab")) ≡ o.Text 0 ∷ []
  -- a pattern true
  pub truth_pattern : pattern t.Shape.truth_pattern ≡ o.True ∷ []
  -- a pattern false
  pub falsehood_pattern : pattern t.Shape.falsehood_pattern ≡ o.False ∷ []
  -- a pattern e.B
  pub enum_pattern : pattern (t.Shape.enum_pattern (codes "e") (codes "B")) ≡ o.Enum 0 1 ∷ []

-- Operators
pub record OperatorsHaveCode : Type 0 where
  -- 1 + 2
  pub sum : code (t.Shape.chained operator.Add (int 1) (int 2)) ≡
      o.Int (pos 1) ∷ o.Int (pos 2) ∷ o.Add 0 ∷ []
  -- 1 - 2
  pub difference : code (t.Shape.chained operator.Sub (int 1) (int 2)) ≡
      o.Int (pos 1) ∷ o.Int (pos 2) ∷ o.Sub 0 ∷ []
  -- 1 * 2
  pub product : code (t.Shape.chained operator.Mul (int 1) (int 2)) ≡
      o.Int (pos 1) ∷ o.Int (pos 2) ∷ o.Mul 0 ∷ []
  -- X + X, of arrays
  pub arrays_joined : code_at 20 (t.Shape.chained operator.Add constant constant) ≡
      o.Get 1 ∷ o.Get 1 ∷ o.Concat 0 ∷ []
  -- 1 = 2
  pub equal : code (t.Shape.compared comparison.Equal (int 1) (int 2)) ≡
      o.Int (pos 1) ∷ o.Int (pos 2) ∷ o.Eq ∷ []
  -- 1 <> 2
  pub differs : code (t.Shape.compared comparison.Differs (int 1) (int 2)) ≡
      o.Int (pos 1) ∷ o.Int (pos 2) ∷ o.Ne ∷ []
  -- 1 < 2
  pub below : code (t.Shape.compared comparison.Below (int 1) (int 2)) ≡
      o.Int (pos 1) ∷ o.Int (pos 2) ∷ o.Lt ∷ []
  -- 1 <= 2
  pub at_most : code (t.Shape.compared comparison.AtMost (int 1) (int 2)) ≡
      o.Int (pos 1) ∷ o.Int (pos 2) ∷ o.Le ∷ []
  -- 1 > 2
  pub above : code (t.Shape.compared comparison.Above (int 1) (int 2)) ≡
      o.Int (pos 1) ∷ o.Int (pos 2) ∷ o.Gt ∷ []
  -- 1 >= 2
  pub at_least : code (t.Shape.compared comparison.AtLeast (int 1) (int 2)) ≡
      o.Int (pos 1) ∷ o.Int (pos 2) ∷ o.Ge ∷ []
  -- -X
  pub minus : code (t.Shape.minus constant) ≡ o.Get 1 ∷ o.Neg 0 ∷ []
  -- X?
  pub query : code (t.Shape.query constant) ≡ o.Get 1 ∷ o.Query ∷ []

-- Members, calls, indices
pub record CallsHaveCode : Type 0 where
  -- e.B
  pub enum_value : code (t.Shape.member (named_as 5 (codes "e")) (codes "B")) ≡ o.Enum 0 1 ∷ []
  -- X.N
  pub field : code_at 3 (t.Shape.member constant (codes "N")) ≡ o.Get 1 ∷ o.Load 1 ∷ []
  -- X.Length
  pub length : code (t.Shape.member constant (codes "Length")) ≡ o.Get 1 ∷ o.Length ∷ []
  -- F(1)
  pub call : code (t.Shape.call (named_as 1 (codes "F")) (one_of (int 1))) ≡
      o.Int (pos 1) ∷ o.Call 1 ∷ []
  -- F[1]
  pub failable_call : code (t.Shape.index (named_as 1 (codes "F")) (one_of (int 1))) ≡
      o.Int (pos 1) ∷ o.Call 1 ∷ []
  -- M(1)
  pub own_method : code (t.Shape.call (named_as 2 (codes "M")) (one_of (int 1))) ≡
      o.Get 0 ∷ o.Int (pos 1) ∷ o.Method 0 1 ∷ []
  -- X.M(1)
  pub method : code (t.Shape.call method_of_constant (one_of (int 1))) ≡
      o.Get 1 ∷ o.Int (pos 1) ∷ o.Method 0 1 ∷ []
  -- Print("a")
  pub print : code (t.Shape.call (named_as 6 (codes "Print"))
      (one_of (part (t.Shape.text (codes "a"))))) ≡ o.Text 0 ∷ o.Print 0 ∷ []
  -- Floor(1 / 2)
  pub floor : code (t.Shape.call (named_as 7 (codes "Floor")) (one_of quotient_of)) ≡
      o.Int (pos 1) ∷ o.Int (pos 2) ∷ o.Floor 0 ∷ []
  -- Ceil(1 / 2)
  pub ceil : code (t.Shape.call (named_as 8 (codes "Ceil")) (one_of quotient_of)) ≡
      o.Int (pos 1) ∷ o.Int (pos 2) ∷ o.Ceil 0 ∷ []
  -- Mod[1, 2]
  pub modulo : code (t.Shape.index (named_as 9 (codes "Mod")) (two (int 1) (int 2))) ≡
      o.Int (pos 1) ∷ o.Int (pos 2) ∷ o.Mod ∷ []
  -- X.Await(), of a task
  pub await_task : code (t.Shape.call (part (t.Shape.member constant (codes "Await"))) no_trees) ≡
      o.Get 1 ∷ o.AwaitTask ∷ []
  -- X.Await(), of an event
  pub await_event : code (t.Shape.call
      (part (t.Shape.member (named_as 21 (codes "X")) (codes "Await"))) no_trees) ≡ o.Get 1 ∷
      o.AwaitEvent ∷ []
  -- X.Signal()
  pub signal_unit : code (t.Shape.call (part (t.Shape.member constant (codes "Signal"))) no_trees) ≡
      o.Get 1 ∷ o.Unit ∷ o.Signal ∷ []
  -- X.Signal(1)
  pub signal : code (t.Shape.call (part (t.Shape.member constant (codes "Signal")))
      (one_of (int 1))) ≡ o.Get 1 ∷ o.Int (pos 1) ∷ o.Signal ∷ []
  -- X(0)
  pub item : code (t.Shape.call constant (one_of (int 0))) ≡ o.Get 1 ∷ o.Item 0 ∷ []
  -- X[1]
  pub element : code (t.Shape.index constant (one_of (int 1))) ≡ o.Get 1 ∷ o.Int (pos 1) ∷ o.At ∷ []
  -- with another number of arguments, which is accepted only where X never has a value
  -- X.Await(1)
  pub await_more :
      code (t.Shape.call (part (t.Shape.member constant (codes "Await"))) (one_of (int 1))) ≡
      o.Get 1 ∷ o.Int (pos 1) ∷ o.Drop ∷ o.AwaitTask ∷ []
  -- X.Signal(1, 2)
  pub signal_more :
      code (t.Shape.call (part (t.Shape.member constant (codes "Signal"))) (two (int 1) (int 2))) ≡
      o.Get 1 ∷ o.Int (pos 1) ∷ o.Int (pos 2) ∷ o.Drop ∷ o.Signal ∷ []
  -- X()
  pub first_item : code (t.Shape.call constant no_trees) ≡ o.Get 1 ∷ o.Item 0 ∷ []
  -- X[1, 2]
  pub element_more : code (t.Shape.index constant (two (int 1) (int 2))) ≡
      o.Get 1 ∷ o.Int (pos 1) ∷ o.Int (pos 2) ∷ o.Drop ∷ o.At ∷ []

-- Literals, names, values
pub record ValuesHaveCode : Type 0 where
  -- 1
  pub integer : code (t.Shape.integer (pos 1)) ≡ o.Int (pos 1) ∷ []
  -- 'a'
  pub character : code (t.Shape.character 97) ≡ o.Char 97 ∷ []
  -- "ab"
  pub text : code (t.Shape.text (codes "ab")) ≡ o.Text 0 ∷ []
  -- "ab{X}c{V}"
  pub holes : code (t.Shape.holes (codes "ab")
      (more_holes constant (codes "c") (more_holes variable [] no_holes))) ≡ o.Text 0 ∷ o.Get 1 ∷
      o.Text 1 ∷ o.Get 2 ∷ o.Load 0 ∷ o.Join 4 0 ∷ []
  -- true
  pub truth : code t.Shape.truth ≡ o.True ∷ []
  -- false
  pub falsehood : code t.Shape.falsehood ≡ o.False ∷ []
  -- Self
  pub this : code t.Shape.this ≡ o.Get 0 ∷ []
  -- X
  pub constant_name : code (t.Shape.name (codes "X")) ≡ o.Get 1 ∷ []
  -- V
  pub variable_name : code (t.Shape.name (codes "V")) ≡ o.Get 2 ∷ o.Load 0 ∷ []
  -- N
  pub field_name : code_at 3 (t.Shape.name (codes "N")) ≡ o.Get 0 ∷ o.Load 1 ∷ []
  -- (1, 2)
  pub tuple : code (t.Shape.tuple (two (int 1) (int 2))) ≡
      o.Int (pos 1) ∷ o.Int (pos 2) ∷ o.Tuple 2 0 ∷ []
  -- array{1, 2}
  pub array : code (t.Shape.array (two (int 1) (int 2))) ≡
      o.Int (pos 1) ∷ o.Int (pos 2) ∷ o.Array 2 0 ∷ []
  -- map{1 => 2}
  pub mapping : code (t.Shape.mapping (t.Pairs.more_pairs (int 1) (int 2) t.Pairs.no_pairs)) ≡
      o.Int (pos 1) ∷ o.Int (pos 2) ∷ o.Map 1 0 ∷ []
  -- c{N := 1}
  pub instance : code_at 4 (t.Shape.instance (codes "c")
      (more_givens (codes "N") (int 1) no_givens)) ≡ o.Int (pos 1) ∷ o.Put 3 ∷ o.Call 2 ∷ o.Get 3 ∷
      o.Object 0 0 ∷ []
  -- event(int){}
  pub event : code (t.Shape.event t.Written.int) ≡ o.Event 0 ∷ []
  -- event(){}
  pub bare_event : code t.Shape.bare_event ≡ o.Event 0 ∷ []

-- Tasks
pub record TasksHaveCode : Type 0 where
  -- sync: 1; 2
  pub sync : code (t.Shape.sync (two (int 1) (int 2))) ≡
      o.Group 0 2 0 ∷ o.Arm 4 ∷ o.Arm 6 ∷ o.Jump 8 ∷ o.Int (pos 1) ∷ o.ArmEnd ∷
      o.Int (pos 2) ∷ o.ArmEnd ∷ []
  -- race: 1; 2
  pub race : code (t.Shape.race (two (int 1) (int 2))) ≡
      o.Group 1 2 0 ∷ o.Arm 4 ∷ o.Arm 6 ∷ o.Jump 8 ∷ o.Int (pos 1) ∷ o.ArmEnd ∷
      o.Int (pos 2) ∷ o.ArmEnd ∷ []
  -- rush: 1; 2
  pub rush : code (t.Shape.rush (two (int 1) (int 2))) ≡
      o.Group 2 2 0 ∷ o.Arm 4 ∷ o.Arm 6 ∷ o.Jump 8 ∷ o.Int (pos 1) ∷ o.ArmEnd ∷
      o.Int (pos 2) ∷ o.ArmEnd ∷ []
  -- branch: 1
  pub branch : code (t.Shape.branch (int 1)) ≡ o.Branch 3 ∷ o.Int (pos 1) ∷ o.ArmEnd ∷ []
  -- spawn{F(1)}
  pub spawn_call : code (t.Shape.spawn call_of_function) ≡ o.Int (pos 1) ∷ o.Spawn 1 ∷ []
  -- spawn{M(1)}
  pub spawn_own_method : code (t.Shape.spawn
      (part (t.Shape.call (named_as 2 (codes "M")) (one_of (int 1))))) ≡ o.Get 0 ∷ o.Int (pos 1) ∷
      o.SpawnMethod 0 1 ∷ []
  -- spawn{X.M(1)}
  pub spawn_method : code (t.Shape.spawn
      (part (t.Shape.call method_of_constant (one_of (int 1))))) ≡ o.Get 1 ∷ o.Int (pos 1) ∷
      o.SpawnMethod 0 1 ∷ []
  -- Sleep(1.0)
  pub pause : code (t.Shape.sleep 1000) ≡ o.Sleep 1000 ∷ []
  -- Sleep(Inf)
  pub forever : code t.Shape.sleep_forever ≡ o.Forever ∷ []

-- What is wrong
pub record WrongHasCode : Type 0 where
  -- Y
  pub unknown_name : code (t.Shape.name (codes "Y")) ≡ o.Arm 1 ∷ []
  -- break outside a loop
  pub broken_outside : code t.Shape.break_form ≡ o.Arm 1 ∷ []
  -- if (return 1): 2
  pub returned_in_attempt : code
      (t.Shape.if_alone (one_of (part (t.Shape.returned (int 1)))) (int 2)) ≡ o.Try 7 ∷
      o.Int (pos 1) ∷ o.Arm 3 ∷ o.Drop ∷ o.Commit ∷ o.Int (pos 2) ∷ o.Jump 8 ∷ o.Unit ∷ []
