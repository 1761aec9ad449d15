-- Small programs, form by form, whose notes break no rule from V1 to V9.
use Rattle.std.specs.Prelude.{◌≡◌, ℕ, zero, suc, nat_eq, pos, List, [], ◌∷◌, Option, Some, None}
use Rattle.std.specs.Prelude.{Bool, true, false, codes}
use Rattle.verse_base.specs.declared.places.Place.{Place}
use Rattle.verse_tree.specs.Tree.{Tree, tree, Shape, Trees, no_trees, more_trees, more_givens}
use Rattle.verse_tree.specs.Tree.{no_givens, more_holes, no_holes}
use Rattle.verse_tree.specs.Tree as t
use Rattle.verse_tree.specs.ItemTree.{ClassTree, EnumTree, FieldTree, FunTree, field, method}
use Rattle.verse_tree.specs.ItemTree.{enumeration, class, function}
use Rattle.verse_tree.specs.declared.exprs.Assign.TheVariants as assign
use Rattle.verse_tree.specs.declared.exprs.Comparison.TheVariants as comparison
use Rattle.verse_tree.specs.declared.exprs.Operator.TheVariants as operator
use Rattle.verse_tree.specs.declared.tables.FunInfo.{FunInfo}
use Rattle.verse_tree.specs.declared.tables.FieldInfo.{FieldInfo}
use Rattle.verse_tree.specs.declared.tables.Ref.{Ref}
use Rattle.verse_tree.specs.declared.tables.Ref.TheVariants as ref
use Rattle.verse_tree.specs.declared.tables.Ty.TheVariants as ty
use Rattle.verse_code.specs.declared.codes.Code.{Code}
use Rattle.verse_sorts.specs.Sorts as s
use Rattle.verse_sorts.specs.Sorts.{Sort}
use Rattle.verse_meaning.specs.Programs.{Program, main_name}
use Rattle.verse_sound_rules.specs.Found.{Found, Signature}
use Rattle.verse_verify_faults.specs.Spots.{Table}
use Rattle.verse_verify_faults.specs.Reading.{verdict}
use Rattle.lower_code.specs.Programs.{suspends_name, code_of}
use Rattle.lower_notes.specs.Programs.{notes_of}
use Rattle.verse_verify_bytes.specs.Bytes.{bytes_of}

abbrev pub at : Place
at = record { file = 0; line = 1; col = 1 }

-- The number of a node is that of its sort, or of what it stands for.
abbrev pub void : ℕ
void = 1

abbrev pub never : ℕ
never = 2

abbrev pub false_sort : ℕ
false_sort = 3

abbrev pub logic : ℕ
logic = 4

abbrev pub text : ℕ
text = 5

abbrev pub list : ℕ
list = 6

abbrev pub map : ℕ
map = 7

abbrev pub task : ℕ
task = 8

abbrev pub event : ℕ
event = 9

abbrev pub pair : ℕ
pair = 10

abbrev pub opt : ℕ
opt = 11

abbrev pub an_e : ℕ
an_e = 12

abbrev pub empty : ℕ
empty = 13

abbrev pub lists : ℕ
lists = 14

abbrev pub sorts : List Sort
sorts = s.int ∷ s.any ∷ s.never ∷ s.nil ∷ s.logic ∷ s.list s.char ∷ s.list s.int ∷
    s.map (s.list s.char) s.int ∷ s.task s.int ∷
    s.event s.int ∷ s.tuple (s.more_sorts s.int (s.more_sorts s.int s.no_sorts)) ∷ s.opt s.int ∷
    s.enum 0 ∷
    s.list s.never ∷
    s.list (s.list s.int) ∷ s.obj 0 ∷ s.int ∷ []

-- an instance of the class, and its field N
abbrev pub an_object : ℕ
an_object = 15

abbrev pub its_field : ℕ
its_field = 16

-- the enum, the functions and the method
abbrev pub the_enum : ℕ
the_enum = 17

abbrev pub the_function : ℕ
the_function = 18

abbrev pub the_method : ℕ
the_method = 19

abbrev pub printing : ℕ
printing = 20

abbrev pub flooring : ℕ
flooring = 21

abbrev pub modulo : ℕ
modulo = 22

abbrev pub refs : List (Option Ref)
refs = None ∷ None ∷ None ∷ None ∷ None ∷ None ∷ None ∷ None ∷ None ∷ None ∷ None ∷ None ∷ None ∷
    None ∷
    None ∷
    Some (ref.Class 0) ∷ Some (ref.Field 0 1) ∷ Some (ref.Enum 0) ∷ Some (ref.Fun 1) ∷
    Some (ref.Method 0 0) ∷
    Some (ref.Builtin 0) ∷ Some (ref.Builtin 1) ∷ Some (ref.Builtin 3) ∷ []

abbrev pub nth_sort : List Sort → ℕ → Sort
nth_sort [] n = s.any
nth_sort (a ∷ qs) zero = a
nth_sort (a ∷ qs) (suc n) = nth_sort qs n

-- the parts of forms
abbrev pub part : ℕ → Shape → Tree
part n x = tree n at x

abbrev pub int : ℕ → Tree
int k = part 0 (t.Shape.integer (pos k))

abbrev pub named : ℕ → List ℕ → Tree
named n x = part n (t.Shape.name x)

abbrev pub alone : Tree → Trees
alone b = more_trees b no_trees

abbrev pub two : Tree → Tree → Trees
two b c = more_trees b (alone c)

abbrev pub three : Tree → Tree → Tree → Trees
three b c d = more_trees b (two c d)

abbrev pub block : Trees → Tree
block ts = part void (t.Shape.block ts)

-- X := b
abbrev pub defined : ℕ → List ℕ → Tree → Tree
defined n x b = part n (t.Shape.definition x b)

-- b < c
abbrev pub below : Tree → Tree → Tree
below b c = part 0 (t.Shape.compared comparison.Below b c)

abbrev pub sum : Tree → Tree → Tree
sum b c = part 0 (t.Shape.chained operator.Add b c)

abbrev pub characters : List ℕ → Tree
characters x = part text (t.Shape.text x)

-- e := enum{A, B}
-- c := class:
--     L:int = 7
--     var N:int
--     M(A:int):int = ..
-- F(A:int)<decides>:int = A
-- Main()<suspends>:void = ..
abbrev pub an_enum : EnumTree
an_enum = record {
  number = 30;
  place = at;
  name = codes "e";
  specs = [];
  values = codes "A" ∷ codes "B" ∷
      [];
}

abbrev pub a_field : ℕ → List ℕ → Option Tree → FieldTree
a_field n x default = record {
  number = n;
  place = at;
  is_var = false;
  var_specs = [];
  name = x;
  specs = [];
  written = t.Written.int;
  default = default;
}

abbrev pub a_function : ℕ → List ℕ → Tree → FunTree
a_function n x b = record {
  number = n;
  place = at;
  name = x;
  specs = [];
  params = record { number = 0; place = at; name = codes "A"; written = t.Written.int } ∷ [];
  effects = [];
  written = t.Written.int;
  body = b;
}

abbrev pub main : Tree → FunTree
main b = record {
  number = 36;
  place = at;
  name = main_name;
  specs = [];
  params = [];
  effects = record { place = at; name = suspends_name } ∷ [];
  written = t.Written.void;
  body = b;
}

-- its parameter
abbrev pub the_a : Tree
the_a = named 0 (codes "A")

abbrev pub a_class : Tree → ClassTree
a_class m = record {
  number = 31;
  place = at;
  name = codes "c";
  specs = [];
  class_specs = [];
  parent = None;
  members = field (a_field 32 (codes "L") (Some (int 7))) ∷ field (a_field 33 (codes "N") None) ∷
      method (a_function 34 (codes "M") m) ∷ [];
}

abbrev pub function_info : ℕ → FunInfo
function_info n = record {
  params = [];
  result = ty.Void;
  effects = record { computes = false; transacts = false; decides = false; suspends = false };
  item = n;
}

abbrev pub field_info : Option ℕ → FieldInfo
field_info default = record { ty = ty.Int; is_var = false; default = default }

-- with these bodies of M and Main
abbrev pub program : (m b : Tree) → Program
program m b = record {
  items = enumeration an_enum ∷ class (a_class m) ∷ function (a_function 35 (codes "F") the_a) ∷
      function (main b) ∷ [];
  is_array = λ n. nat_eq n list;
  is_event = λ n. nat_eq n event;
  names = record {
    funs = function_info 34 ∷ function_info 35 ∷ function_info 36 ∷ [];
    classes = record {
      parent = None;
      is_unique = false;
      fields = field_info (Some 0) ∷ field_info None ∷ [];
      methods = 0 ∷ [];
    } ∷ [];
    enums = record { count = 2 } ∷ [];
    refs = refs;
  };
}

abbrev pub signature : ℕ → Signature
signature zero = record {
  params = s.int ∷ [];
  result = s.int;
  decides = false;
  lasts =
      false;
  this = Some 0;
}
signature (suc zero) = record {
  params = s.int ∷ [];
  result = s.int;
  decides = true;
  lasts = false;
  this =
      None;
}
signature (suc (suc g)) = record {
  params = [];
  result = s.any;
  decides = false;
  lasts =
      true;
  this = None;
}

abbrev pub found : Found
found = record {
  sort = nth_sort sorts;
  key = λ n. s.list s.char;
  is_var = λ n. false;
  up = λ c. None;
  slots = λ c. s.int ∷ s.int ∷ [];
  signature = signature;
}

abbrev pub differ : ℕ → ℕ → Bool
differ n m = nat_eq n opt

abbrev pub code : (m b : Tree) → Code
code m b = code_of (program m b) differ 1

abbrev pub notes : (m b : Tree) → Table
notes m b = notes_of (program m b) found differ (code m b)

-- the rule that the notes break as they are read from their bytes, and where
abbrev pub fault_in : (m b : Tree) → Option (ℕ × ℕ)
fault_in m b = verdict (code m b) (bytes_of (code m b) (notes m b))

abbrev pub fault : Tree → Option (ℕ × ℕ)
fault b = fault_in the_a b

abbrev pub Passes : Tree → Type 0
Passes b = fault b ≡ None

-- as the body of M
abbrev pub PassesInMethod : Tree → Type 0
PassesInMethod m = fault_in m (int 1) ≡ None

-- Literals, names, operators, values that are made
pub record ValuesPass : Type 0 where
  -- 1 + 2
  pub sums : Passes (sum (int 1) (int 2))
  -- X := (1, 2); X(0)
  pub items : Passes (block
      (two (defined pair (codes "X") (part pair (t.Shape.tuple (two (int 1) (int 2)))))
      (part 0 (t.Shape.call (named pair (codes "X")) (alone (int 0))))))
  -- array{1} + array{}
  pub joined : Passes
      (part list (t.Shape.chained operator.Add (part list (t.Shape.array (alone (int 1))))
      (part empty (t.Shape.array no_trees))))
  -- Print("a{1}")
  pub printed : Passes (part void (t.Shape.call (named printing (codes "Print"))
      (alone (part text (t.Shape.holes (codes "a") (more_holes (int 1) [] no_holes))))))
  -- M := map{array{} => 1}; if (M["a"] < 2): 3, where the empty array is a text
  pub mapped : Passes (block (two (defined map (codes "M") (part map (t.Shape.mapping
      (t.Pairs.more_pairs (part empty (t.Shape.array no_trees)) (int 1) t.Pairs.no_pairs))))
      (part void (t.Shape.if_alone
      (alone (below (part 0
      (t.Shape.index (named map (codes "M")) (alone (characters (codes "a")))))
      (int 2))) (int 3)))))
  -- X := array{1}; -X.Length
  pub counted : Passes (block (two
      (defined list (codes "X") (part list (t.Shape.array (alone (int 1)))))
      (part 0 (t.Shape.minus (part 0 (t.Shape.member (named list (codes "X")) (codes "Length")))))))
  -- X:[]int = array{}; X
  pub typed : Passes (block (two
      (part list (t.Shape.typed (codes "X") t.Written.int (part empty (t.Shape.array no_trees))))
      (named list (codes "X"))))

-- Failure contexts
pub record AttemptsPass : Type 0 where
  -- if (X := 1, X < 2): X else: 3
  pub defines : Passes (part 0 (t.Shape.if_else (two (defined 0 (codes "X") (int 1))
      (below (named 0 (codes "X")) (int 2)))
      (named 0 (codes "X")) (int 3)))
  -- if (not 1 < 2): 3
  pub negation : Passes
      (part void (t.Shape.if_alone (alone (part void (t.Shape.negation (below (int 1) (int 2)))))
      (int 3)))
  -- F[1] or 2
  pub either : Passes
      (part 0 (t.Shape.chained operator.Or (part 0 (t.Shape.index (named the_function (codes "F"))
      (alone (int 1))))
      (int 2)))
  -- X := option{1 < 2}; logic{X?}
  pub options : Passes
      (block (two (defined opt (codes "X")
      (part opt (t.Shape.option (alone (below (int 1) (int 2))))))
      (part logic (t.Shape.logic (alone (part 0 (t.Shape.query (named opt (codes "X")))))))))
  -- if (1 < 2): return 3; 4
  pub returned : Passes (block (two (part void (t.Shape.if_alone (alone (below (int 1) (int 2)))
      (part never (t.Shape.returned (int 3))))) (int 4)))

-- Loops and cases
pub record LoopsPass : Type 0 where
  -- loop: (1, break)
  pub broken : Passes
      (part void
      (t.Shape.loop_form (part pair (t.Shape.tuple (two (int 1) (part never t.Shape.break_form))))))
  -- loop: (1, if (1 < 2) then break else 2)
  pub broken_at_times : Passes (part void (t.Shape.loop_form (part pair (t.Shape.tuple (two (int 1)
      (part 0 (t.Shape.if_else (alone (below (int 1) (int 2))) (part never t.Shape.break_form)
      (int 2))))))))
  -- loop: 1; 2 is never reached
  pub endless : Passes (block (two (part never (t.Shape.loop_form (int 1))) (int 2)))
  -- for (A : array{1}, A < 2, B := A): B
  pub elements : Passes (part list (t.Shape.for_form (three
      (part 0 (t.Shape.elements (codes "A") (part list (t.Shape.array (alone (int 1))))))
      (below (named 0 (codes "A")) (int 2)) (defined 0 (codes "B") (named 0 (codes "A"))))
      (named 0 (codes "B"))))
  -- for (I := 1..2, A : array{I}): A
  pub nested : Passes
      (part list (t.Shape.for_form (two (part 0 (t.Shape.range (codes "I") (int 1) (int 2)))
      (part 0 (t.Shape.elements (codes "A")
      (part list (t.Shape.array (alone (named 0 (codes "I"))))))))
      (named 0 (codes "A"))))
  -- for (K -> A : map{"a" => 1}): Print(K); A
  pub entries : Passes
      (part list (t.Shape.for_form (alone (part 0 (t.Shape.entries (codes "K") (codes "A") (part map
      (t.Shape.mapping (t.Pairs.more_pairs (characters (codes "a")) (int 1) t.Pairs.no_pairs))))))
      (part 0 (t.Shape.block (two (part void (t.Shape.call (named printing (codes "Print"))
      (alone (named text (codes "K")))))
      (named 0 (codes "A")))))))
  -- if (X := for (A : array{1}): A): X
  pub in_condition : Passes
      (part void (t.Shape.if_alone (alone (defined list (codes "X") (part list (t.Shape.for_form
      (alone (part 0 (t.Shape.elements (codes "A") (part list (t.Shape.array (alone (int 1)))))))
      (named 0 (codes "A"))))))
      (named list (codes "X"))))
  -- case (1): 1 => 2, _ => 3
  pub cases : Passes (part 0 (t.Shape.cases (int 1) (two
      (part 0 (t.Shape.arm (part 0 (t.Shape.integer_pattern (pos 1))) (int 2)))
      (part 0 (t.Shape.arm (part 0 t.Shape.any_pattern) (int 3))))))
  -- case (e.B): e.A => return 2, _ => 3, e.B => 4
  pub case_behind_any : Passes
      (part 0 (t.Shape.cases (part an_e (t.Shape.member (named the_enum (codes "e")) (codes "B")))
      (three
      (part never (t.Shape.arm (part an_e (t.Shape.enum_pattern (codes "e") (codes "A")))
      (part never (t.Shape.returned (int 2)))))
      (part 0 (t.Shape.arm (part 0 t.Shape.any_pattern) (int 3)))
      (part 0 (t.Shape.arm (part an_e (t.Shape.enum_pattern (codes "e") (codes "B"))) (int 4))))))
  -- loop: for (A : array{1}): break
  pub broken_in_for : Passes (part void (t.Shape.loop_form (part empty (t.Shape.for_form
      (alone (part 0 (t.Shape.elements (codes "A") (part list (t.Shape.array (alone (int 1)))))))
      (part never t.Shape.break_form)))))
  -- loop: (1, loop: (2, break))
  pub loops_in_loops : Passes (part never (t.Shape.loop_form (part void (t.Shape.tuple (two (int 1)
      (part void (t.Shape.loop_form (part void (t.Shape.tuple
      (two (int 2) (part never t.Shape.break_form)))))))))))
  -- loop: (1, case (2): 3 => break, _ => 4)
  pub broken_in_case : Passes (part void (t.Shape.loop_form (part pair (t.Shape.tuple (two (int 1)
      (part 0 (t.Shape.cases (int 2) (two
      (part never (t.Shape.arm (part 0 (t.Shape.integer_pattern (pos 3)))
      (part never t.Shape.break_form)))
      (part 0 (t.Shape.arm (part 0 t.Shape.any_pattern) (int 4)))))))))))

-- defer{b}
abbrev pub deferred : Tree → Tree
deferred b = part void (t.Shape.defer b)

abbrev pub four : Tree → Tree → Tree → Tree → Trees
four b c d e = more_trees b (three c d e)

-- X := 1
abbrev pub an_x : Tree
an_x = defined 0 (codes "X") (int 1)

abbrev pub the_x : Tree
the_x = named 0 (codes "X")

-- Deferred blocks
pub record DefersPass : Type 0 where
  -- X := 1; defer{X}; Y := 2; Y
  pub deferring : Passes (block (four an_x (deferred the_x) (defined 0 (codes "Y") (int 2))
      (named 0 (codes "Y"))))
  -- X := 1; defer{X}; defer{Y := X; Y}; return 2
  pub returned : Passes (block (four an_x (deferred the_x)
      (deferred (block (two (defined 0 (codes "Y") the_x) (named 0 (codes "Y")))))
      (part never (t.Shape.returned (int 2)))))
  -- defer{defer{1}; 2}; 3
  pub nested : Passes (block (two (deferred (block (two (deferred (int 1)) (int 2)))) (int 3)))
  -- X := 1; loop: defer{X}; break
  pub broken : Passes (block (two an_x (part void (t.Shape.loop_form
      (block (two (deferred the_x) (part never t.Shape.break_form)))))))
  -- defer{1}; if (block{defer{2}; 3} < 4): return 5; 6
  pub in_condition : Passes (block (three (deferred (int 1)) (part void (t.Shape.if_alone
      (alone (below (part 0
      (t.Shape.block_form (part 0 (t.Shape.block (two (deferred (int 2)) (int 3))))))
      (int 4)))
      (part never (t.Shape.returned (int 5))))) (int 6)))
  -- X := 1; defer{X}; race: X, block{defer{X}; 2}
  pub in_arm : Passes (block (three an_x (deferred the_x) (part 0 (t.Shape.race
      (two the_x (part 0 (t.Shape.block_form
      (part 0 (t.Shape.block (two (deferred the_x) (int 2)))))))))))
  -- defer{1}; Y := 2; return Y
  pub returned_behind : Passes (block (three (deferred (int 1)) (defined 0 (codes "Y") (int 2))
      (part never (t.Shape.returned (named 0 (codes "Y"))))))
  -- defer{1}; Y := 2; defer{Y}: one Leave runs both blocks, and Y is there for the last one alone
  pub one_defined : Passes (block (three (deferred (int 1)) (defined 0 (codes "Y") (int 2))
      (deferred (named 0 (codes "Y")))))
  -- X := 1; defer{X}; Y := 2; defer{Y}; 3
  pub two_scopes : Passes (block (more_trees an_x (four (deferred the_x)
      (defined 0 (codes "Y") (int 2)) (deferred (named 0 (codes "Y"))) (int 3))))

-- Groups, branches, spawned calls and pauses
pub record TasksPass : Type 0 where
  -- X := 1; (X, sync: X, 2)
  pub group : Passes
      (block (two an_x
      (part void (t.Shape.tuple (two the_x (part pair (t.Shape.sync (two the_x (int 2)))))))))
  -- branch: Sleep(1.0); 2
  pub branch : Passes
      (block (two (part void (t.Shape.branch (part void (t.Shape.sleep 1000)))) (int 2)))
  -- E := event(int){}; E.Signal(1); E.Await()
  pub event_awaited : Passes
      (block (three (defined event (codes "E") (part event (t.Shape.event t.Written.int)))
      (part void (t.Shape.call
      (part void (t.Shape.member (named event (codes "E")) (codes "Signal")))
      (alone (int 1))))
      (part 0 (t.Shape.call (part void (t.Shape.member (named event (codes "E"))
      (codes "Await"))) no_trees))))
  -- T := spawn{c{N := 1}.M(2)}; T.Await()
  pub task_awaited : Passes
      (block (two (defined task (codes "T") (part task (t.Shape.spawn (part 0 (t.Shape.call
      (part the_method (t.Shape.member
      (part an_object (t.Shape.instance (codes "c") (more_givens (codes "N")
      (int 1) no_givens)))
      (codes "M"))) (alone (int 2)))))))
      (part 0 (t.Shape.call
      (part void (t.Shape.member (named task (codes "T")) (codes "Await"))) no_trees))))
  -- sync: (rush: 1, 2), 3
  pub groups_in_groups : Passes (part pair (t.Shape.sync
      (two (part 0 (t.Shape.rush (two (int 1) (int 2)))) (int 3))))
  -- loop: (1, race: block{loop{break}; 2}, 3); break
  pub group_in_loop : Passes (part void (t.Shape.loop_form (block (two
      (part pair (t.Shape.tuple (two (int 1) (part 0 (t.Shape.race
      (two (part 0 (t.Shape.block
      (two (part void (t.Shape.loop_form (part never t.Shape.break_form))) (int 2))))
      (int 3)))))))
      (part never t.Shape.break_form)))))
  -- Sleep(Inf)
  pub forever : Passes (part void t.Shape.sleep_forever)

-- Writes, instances and calls
pub record WritesPass : Type 0 where
  -- var V:int = 1; set V += 2; V
  pub variable : Passes (block (three (part 0 (t.Shape.variable (codes "V") t.Written.int (int 1)))
      (part 0 (t.Shape.assignment assign.Add (named 0 (codes "V")) (int 2))) (named 0 (codes "V"))))
  -- var V:?int = option{1 < 2}; set V = false
  pub another_type : Passes (block (two (part opt (t.Shape.variable (codes "V") t.Written.int
      (part opt (t.Shape.option (alone (below (int 1) (int 2)))))))
      (part false_sort (t.Shape.assignment assign.Set (named opt (codes "V"))
      (part false_sort t.Shape.falsehood)))))
  -- var V:[]int = array{1}; if (set V[0] = 2): V
  pub element : Passes
      (block (two (part list (t.Shape.variable (codes "V") t.Written.int
      (part list (t.Shape.array (alone (int 1))))))
      (part void (t.Shape.if_alone (alone (part 0 (t.Shape.assignment assign.Set
      (part 0 (t.Shape.index (named list (codes "V")) (alone (int 0)))) (int 2))))
      (named list (codes "V"))))))
  -- X := c{N := 1}; set X.N = X.M(2)
  pub field_written : Passes (block (two (defined an_object (codes "X")
      (part an_object (t.Shape.instance (codes "c") (more_givens (codes "N") (int 1) no_givens))))
      (part 0 (t.Shape.assignment assign.Set
      (part its_field (t.Shape.member (named an_object (codes "X"))
      (codes "N")))
      (part 0 (t.Shape.call
      (part the_method (t.Shape.member (named an_object (codes "X")) (codes "M")))
      (alone (int 2))))))))

-- Calls, and what stands in a method
pub record CallsPass : Type 0 where
  -- Floor(5 / 2) or 3
  pub quotient : Passes (part 0 (t.Shape.chained operator.Or
      (part 0 (t.Shape.call (named flooring (codes "Floor"))
      (alone (part 0 (t.Shape.chained operator.Div (int 5) (int 2))))))
      (int 3)))
  -- if (Mod[5, 2] = 1): 3
  pub remainder : Passes (part void (t.Shape.if_alone
      (alone (part 0 (t.Shape.compared comparison.Equal
      (part 0 (t.Shape.index (named modulo (codes "Mod")) (two (int 5) (int 2)))) (int 1))))
      (int 3)))
  -- N + A
  pub own_field : PassesInMethod (sum (named its_field (codes "N")) the_a)
  -- set N = A; Self.N
  pub own_field_written : PassesInMethod (part 0 (t.Shape.block (two
      (part 0 (t.Shape.assignment assign.Set (named its_field (codes "N")) the_a))
      (part its_field (t.Shape.member (part an_object t.Shape.this) (codes "N"))))))
  -- M(A)
  pub own_method : PassesInMethod
      (part 0 (t.Shape.call (named the_method (codes "M")) (alone the_a)))
  -- return A behind defer{A}, and a loop that is left twice
  pub left_in_method : PassesInMethod (part 0 (t.Shape.block (three (deferred the_a)
      (part void (t.Shape.loop_form (block (two (deferred (int 1))
      (part void (t.Shape.if_else (alone (below the_a (int 2)))
      (part never (t.Shape.returned the_a))
      (part never t.Shape.break_form)))))))
      the_a)))

-- What is taken out of what never has a value, with as many arguments as one likes
abbrev pub no_value : Tree
no_value = part never (t.Shape.query (part false_sort t.Shape.falsehood))

-- race: (loop: 1), loop: 2
abbrev pub endless_race : Tree
endless_race = part never (t.Shape.race (two (part never (t.Shape.loop_form (int 1)))
    (part never (t.Shape.loop_form (int 2)))))

abbrev pub tried : Tree → Tree
tried b = part opt (t.Shape.option (alone b))

abbrev pub of_race : List ℕ → Trees → Tree
of_race x ts = part never (t.Shape.call (part void (t.Shape.member endless_race x)) ts)

pub record NothingPasses : Type 0 where
  -- option{false?()}
  pub called : Passes (tried (part never (t.Shape.call no_value no_trees)))
  -- option{false?[]}
  pub no_index : Passes (tried (part never (t.Shape.index no_value no_trees)))
  -- option{false?[1, 2]}
  pub indices : Passes (tried (part never (t.Shape.index no_value (two (int 1) (int 2)))))
  -- (race: (loop: 1), loop: 2).Await(1)
  pub awaited : Passes (of_race (codes "Await") (alone (int 1)))
  -- (race: (loop: 1), loop: 2).Signal(1, 2): a Signal leaves unit, where the checker finds that there
  -- is never a value
  pub signalled : Passes (of_race (codes "Signal") (two (int 1) (int 2)))
  -- option{(false?).Length}
  pub counted : Passes (tried (part never (t.Shape.member no_value (codes "Length"))))
  -- option{case (false?) { _ => 1 }}
  pub matched : Passes (tried (part never (t.Shape.cases no_value
      (alone (part void (t.Shape.arm (part void t.Shape.any_pattern) (int 1)))))))
