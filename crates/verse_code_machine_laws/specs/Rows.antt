-- What small codes do, row by row: each names the code, and the run that it must have.
use Rattle.std.specs.Prelude.{◌≡◌, ℕ, pos, negsuc, List, [], ◌∷◌, Option, Some, None, true, codes}
use Rattle.verse_base.specs.declared.places.Place.{Place}
use Rattle.verse_base.specs.declared.refusals.Kind.TheVariants as kind
use Rattle.verse_value.specs.Val.{
  Val,
  unit,
  int,
  task,
  array,
  mapping,
  no_vals,
  more_vals,
  no_pairs,
  more_pairs,
}
use Rattle.verse_value.specs.Operations.{text_val}
use Rattle.verse_value.specs.declared.keys.Key.TheVariants as key
use Rattle.verse_value.specs.declared.runs.CellKind.{CellKind}
use Rattle.verse_value.specs.declared.runs.CellKind.TheVariants as cell
use Rattle.verse_value.specs.declared.runs.Ending.{Ending}
use Rattle.verse_value.specs.declared.runs.Ending.TheVariants as ending
use Rattle.verse_value.specs.Store.{Cell, Store}
use Rattle.verse_value.specs.Runs.{Line, Run}
use Rattle.verse_code.specs.declared.operations.Op.{Op}
use Rattle.verse_code.specs.declared.operations.Op.TheVariants as o
use Rattle.verse_code.specs.declared.codes.Func.{Func}
use Rattle.verse_code.specs.declared.codes.Class.{Class}
use Rattle.verse_code.specs.declared.codes.Code.{Code}
use Rattle.verse_code_machine.specs.Runs.{mach}

abbrev pub at : ℕ → ℕ → Place
at l c = record { file = 0; line = l; col = c }

abbrev pub function : (params locals entry : ℕ) → Func
function n m k = record { params = n; locals = m; entry = k; suspends = true }

abbrev pub class : ℕ → List ℕ → Class
class n fs = record { slots = n; methods = fs }

-- a code of functions, classes and operations, with two texts and two places; Main is its first
-- function
abbrev pub code : List Func → List Class → List Op → Code
code fs cs ops = record {
  files = 1;
  texts = codes "ab" ∷ codes "c" ∷ [];
  places = at 1 1 ∷ at 2 2 ∷ [];
  functions = fs;
  classes = cs;
  main = 0;
  ops = ops;
}

-- its run, of no more than 60 steps
abbrev pub run_of : List Func → List Class → List Op → Run
run_of fs cs ops = mach (code fs cs ops) (pos 1 ∷ pos 2 ∷ []) 60 1000000

-- of Main alone, with four locals
abbrev pub run : List Op → Run
run ops = run_of (function 0 4 0 ∷ []) [] ops

abbrev pub line : ℕ → List ℕ → Line
line n bytes = record { moment = n; bytes = bytes }

abbrev pub cell_of : CellKind → List Val → Cell
cell_of k vs = record { kind = k; slots = vs }

abbrev pub is_over : Ending → List Line → Store → (now steps : ℕ) → Option ℕ → Run
is_over e trace store now steps live = record {
  trace = trace;
  store = store;
  ending = e;
  now = now;
  steps = steps;
  live = live;
}

abbrev pub is_done : List Line → Store → (now steps : ℕ) → Run
is_done trace store now steps = is_over ending.Done trace store now steps (Some 0)

abbrev pub is_stuck : List Line → Store → (now steps : ℕ) → Run
is_stuck trace store now steps = is_over ending.Stuck trace store now steps None

abbrev pub is_spent : List Line → Store → (now steps : ℕ) → Run
is_spent trace store now steps = is_over ending.Steps trace store now steps None

-- what operands an operation takes, and what it does with those of another kind
pub record ValuesRun : Type 0 where
  pub same_of_two_kinds : run (o.Int (pos 1) ∷ o.Text 0 ∷ o.Same 5 ∷ o.Text 0 ∷ o.Print 0 ∷ o.Unit
      ∷ o.Return ∷ []) ≡ is_done [] [] 0 1
  pub equal_of_two_kinds : run (o.Try 5 ∷ o.Unit ∷ o.False ∷ o.Eq ∷ o.Fail ∷ o.Text 0 ∷ o.Print 0
      ∷ o.Return ∷ []) ≡ is_done (line 0 (codes "ab") ∷ []) [] 0 1
  pub map_at_another_kind : run (o.Try 10 ∷ o.Int (pos 1) ∷ o.Int (pos 2) ∷ o.Map 1 0 ∷ o.Char 65
      ∷ o.At ∷ o.Commit ∷ o.Text 0 ∷ o.Print 0 ∷ o.Return ∷ o.Text 1 ∷ o.Print 0 ∷ o.Return ∷ [])
      ≡ is_done (line 0 (codes "c") ∷ []) [] 0 1
  pub map_at_an_enum : run (o.Enum 1 2 ∷ o.Text 0 ∷ o.False ∷ o.Text 1 ∷ o.Map 2 0 ∷ o.Put 0 ∷
      o.Try 11 ∷ o.Get 0 ∷ o.Enum 1 2 ∷ o.At ∷ o.Commit ∷ o.Print 0 ∷ o.Return ∷ []) ≡ is_done
      (line 0 (codes "ab") ∷ []) [] 0 1
  pub array_at_a_char : run (o.Try 10 ∷ o.Int (pos 1) ∷ o.Array 1 0 ∷ o.Char 65 ∷ o.At ∷ o.Commit
      ∷ o.Text 0 ∷ o.Print 0 ∷ o.Return ∷ o.Unit ∷ o.Text 1 ∷ o.Print 0 ∷ o.Return ∷ []) ≡
      is_stuck [] [] 0 1
  pub map_at_an_option : run (o.Try 10 ∷ o.Int (pos 1) ∷ o.Int (pos 2) ∷ o.Map 1 0 ∷ o.Int (pos 1)
      ∷ o.Some 0 ∷ o.At ∷ o.Commit ∷ o.Unit ∷ o.Return ∷ o.Text 1 ∷ o.Print 0 ∷ o.Return ∷ []) ≡
      is_stuck [] [] 0 1
  pub no_operands : run (o.Join 0 0 ∷ o.Print 0 ∷ o.Drop ∷ o.Array 0 0 ∷ o.Tuple 0 0 ∷ o.Map 0 0 ∷
      o.Length ∷ o.Return ∷ []) ≡ is_done (line 0 [] ∷ []) [] 0 1
  pub append_to_unit : run (o.Int (pos 1) ∷ o.Append 0 0 ∷ o.Unit ∷ o.Return ∷ []) ≡ is_stuck []
      [] 0 1
  pub item_outside : run (o.Int (pos 1) ∷ o.Tuple 1 0 ∷ o.Item 1 ∷ o.Return ∷ []) ≡ is_stuck [] []
      0 1
  pub query_of_an_int : run (o.Try 4 ∷ o.Int (pos 1) ∷ o.Query ∷ o.Commit ∷ o.Unit ∷ o.Return ∷
      []) ≡ is_stuck [] [] 0 1
  pub query_of_false : run (o.Try 4 ∷ o.False ∷ o.Query ∷ o.Commit ∷ o.Unit ∷ o.Return ∷ []) ≡
      is_done [] [] 0 1
  pub print_of_an_int : run (o.Int (pos 1) ∷ o.Print 0 ∷ o.Return ∷ []) ≡ is_stuck [] [] 0 1
  pub get_of_no_local : run (o.Get 4 ∷ o.Return ∷ []) ≡ is_stuck [] [] 0 1
  pub main_with_an_input : run_of (function 1 1 0 ∷ []) [] (o.Get 0 ∷ o.Length ∷ o.Join 1 0 ∷
      o.Print 0 ∷ o.Return ∷ []) ≡ is_done (line 0 (codes "2") ∷ []) [] 0 1
  pub end_of_the_code : run (o.Text 0 ∷ o.Print 0 ∷ []) ≡ is_stuck (line 0 (codes "ab") ∷ []) [] 0
      1
  pub end_behind_a_sleep : run (o.Text 0 ∷ o.Print 0 ∷ o.Drop ∷ o.Sleep 5 ∷ []) ≡ is_stuck (line 0
      (codes "ab") ∷ []) [] 5 2

-- what is written to cells, and in what order a write is stuck, fails or is an error
pub record CellsRun : Type 0 where
  pub add_where_absent : run (o.Map 0 0 ∷ o.New 0 ∷ o.Put 0 ∷ o.Try 11 ∷ o.Get 0 ∷ o.Int (pos 5) ∷
      o.Unit ∷ o.Store 0 1 1 0 ∷ o.Commit ∷ o.Text 0 ∷ o.Print 0 ∷ o.Text 1 ∷ o.Print 0 ∷ o.Return
      ∷ []) ≡ is_done (line 0 (codes "c") ∷ []) (cell_of cell.Var (mapping no_pairs ∷ []) ∷ []) 0
      1
  pub set_where_absent : run (o.Map 0 0 ∷ o.New 0 ∷ o.Put 0 ∷ o.Try 11 ∷ o.Get 0 ∷ o.Int (pos 5) ∷
      o.Unit ∷ o.Store 0 1 0 0 ∷ o.Commit ∷ o.Text 0 ∷ o.Print 0 ∷ o.Text 1 ∷ o.Print 0 ∷ o.Return
      ∷ []) ≡ is_done (line 0 (codes "ab") ∷ line 0 (codes "c") ∷ []) (cell_of cell.Var ((mapping
      (more_pairs (key.Int (pos 5)) unit no_pairs)) ∷ []) ∷ []) 0 1
  pub path_fails_first : run (o.Int (pos 1) ∷ o.Array 1 0 ∷ o.New 0 ∷ o.Put 0 ∷ o.Try 12 ∷ o.Get 0
      ∷ o.Int (pos 7) ∷ o.Unit ∷ o.Int (pos 1) ∷ o.Store 0 2 0 0 ∷ o.Commit ∷ o.Unit ∷ o.Text 1 ∷
      o.Print 0 ∷ o.Return ∷ []) ≡ is_done (line 0 (codes "c") ∷ []) (cell_of cell.Var (array
      (more_vals (int (pos 1)) no_vals) ∷ []) ∷ []) 0 1
  pub path_is_stuck_first : run (o.Int (pos 1) ∷ o.Array 1 0 ∷ o.New 0 ∷ o.Put 0 ∷ o.Try 12 ∷
      o.Get 0 ∷ o.Unit ∷ o.Int (pos 7) ∷ o.Int (pos 1) ∷ o.Store 0 2 0 0 ∷ o.Commit ∷ o.Unit ∷
      o.Text 1 ∷ o.Print 0 ∷ o.Return ∷ []) ≡ is_stuck [] (cell_of cell.Var (array (more_vals (int
      (pos 1)) no_vals) ∷ []) ∷ []) 0 1
  pub add_of_two_kinds : run (o.Int (pos 1) ∷ o.New 0 ∷ o.Put 0 ∷ o.Try 9 ∷ o.Get 0 ∷ o.Unit ∷
      o.Store 0 0 1 0 ∷ o.Commit ∷ o.Unit ∷ o.Text 1 ∷ o.Print 0 ∷ o.Return ∷ []) ≡ is_stuck []
      (cell_of cell.Var ((int (pos 1)) ∷ []) ∷ []) 0 1
  pub store_on_the_edge : run (o.Int (pos 9223372036854775807) ∷ o.New 0 ∷ o.Put 0 ∷ o.Try 7 ∷
      o.Get 0 ∷ o.Int (pos 1) ∷ o.Store 0 0 1 0 ∷ o.Unit ∷ o.Return ∷ []) ≡ is_stuck [] (cell_of
      cell.Var ((int (pos 9223372036854775807)) ∷ []) ∷ []) 0 1
  pub store_overflows : run (o.Int (pos 9223372036854775807) ∷ o.New 0 ∷ o.Put 0 ∷ o.Try 8 ∷ o.Get
      0 ∷ o.Int (pos 1) ∷ o.Store 0 0 1 0 ∷ o.Drop ∷ o.Unit ∷ o.Return ∷ []) ≡ is_over
      (ending.Error kind.Overflow (at 1 1)) [] (cell_of cell.Var ((int (pos 9223372036854775807))
      ∷ []) ∷ []) 0 1 None
  pub store_at_a_negative : run (o.Int (pos 1) ∷ o.Array 1 0 ∷ o.New 0 ∷ o.Put 0 ∷ o.Try 10 ∷
      o.Get 0 ∷ o.Int (negsuc 0) ∷ o.Unit ∷ o.Store 0 1 0 0 ∷ o.Commit ∷ o.Text 1 ∷ o.Print 0 ∷
      o.Return ∷ []) ≡ is_done (line 0 (codes "c") ∷ []) (cell_of cell.Var (array (more_vals (int
      (pos 1)) no_vals) ∷ []) ∷ []) 0 1
  pub store_in_no_slot : run (o.Int (pos 1) ∷ o.New 0 ∷ o.Int (pos 1) ∷ o.Store 1 0 0 0 ∷ o.Return
      ∷ []) ≡ is_stuck [] (cell_of cell.Var ((int (pos 1)) ∷ []) ∷ []) 0 1
  pub store_in_an_event : run (o.Event 0 ∷ o.Int (pos 1) ∷ o.Store 0 0 0 0 ∷ o.Return ∷ []) ≡
      is_stuck [] (cell_of cell.Event [] ∷ []) 0 1
  pub object_with_too_few : run_of (function 0 4 0 ∷ []) (class 2 [] ∷ []) (o.Int (pos 1) ∷
      o.Object 0 0 ∷ o.Return ∷ []) ≡ is_stuck [] [] 0 1
  pub cell_that_is_undone : run (o.Unit ∷ o.Put 0 ∷ o.Try 7 ∷ o.Int (pos 5) ∷ o.New 0 ∷ o.Put 0 ∷
      o.Fail ∷ o.Get 0 ∷ o.Load 0 ∷ o.Return ∷ []) ≡ is_stuck [] [] 0 1
  pub cell_made_again : run (o.Unit ∷ o.Put 0 ∷ o.Try 7 ∷ o.Int (pos 5) ∷ o.New 0 ∷ o.Put 0 ∷
      o.Fail ∷ o.Text 0 ∷ o.New 0 ∷ o.Drop ∷ o.Get 0 ∷ o.Load 0 ∷ o.Print 0 ∷ o.Return ∷ []) ≡
      is_done (line 0 (codes "ab") ∷ []) (cell_of cell.Var (text_val (codes "ab") ∷ []) ∷ []) 0 1
  pub event_that_is_a_variable : run (o.Unit ∷ o.Put 0 ∷ o.Try 6 ∷ o.Event 0 ∷ o.Put 0 ∷ o.Fail ∷
      o.Text 0 ∷ o.New 0 ∷ o.Drop ∷ o.Get 0 ∷ o.Unit ∷ o.Signal ∷ o.Return ∷ []) ≡ is_stuck []
      (cell_of cell.Var (text_val (codes "ab") ∷ []) ∷ []) 0 1
  pub event_made_again : run (o.Unit ∷ o.Put 0 ∷ o.Try 6 ∷ o.Event 0 ∷ o.Put 0 ∷ o.Fail ∷ o.Event
      0 ∷ o.Drop ∷ o.Get 0 ∷ o.Unit ∷ o.Signal ∷ o.Return ∷ []) ≡ is_done [] (cell_of cell.Event
      [] ∷ []) 0 1

-- where a task goes on, where an attempt bounds it, and what a failure puts back
pub record AttemptsRun : Type 0 where
  pub overflow_on_the_edge : run (o.Try 4 ∷ o.Int (pos 9223372036854775807) ∷ o.Int (pos 1) ∷
      o.Add 0 ∷ o.Unit ∷ o.Return ∷ []) ≡ is_stuck [] [] 0 1
  pub overflow_within : run (o.Try 5 ∷ o.Int (pos 9223372036854775807) ∷ o.Int (pos 1) ∷ o.Add 0 ∷
      o.Drop ∷ o.Unit ∷ o.Return ∷ []) ≡ is_over (ending.Error kind.Overflow (at 1 1)) [] [] 0 1
      None
  pub fail_on_the_edge : run (o.Try 2 ∷ o.Fail ∷ o.Unit ∷ o.Return ∷ []) ≡ is_done [] [] 0 1
  pub comparison_holds_on_the_edge : run (o.Try 4 ∷ o.Int (pos 1) ∷ o.Int (pos 2) ∷ o.Lt ∷ o.Unit
      ∷ o.Return ∷ []) ≡ is_stuck [] [] 0 1
  pub comparison_fails_on_the_edge : run (o.Try 4 ∷ o.Int (pos 2) ∷ o.Int (pos 1) ∷ o.Lt ∷ o.Unit
      ∷ o.Return ∷ []) ≡ is_done [] [] 0 1
  pub jump_out_of_an_attempt : run (o.Try 3 ∷ o.Jump 3 ∷ o.Unit ∷ o.Unit ∷ o.Return ∷ []) ≡
      is_stuck [] [] 0 1
  pub jump_within : run (o.Try 4 ∷ o.Jump 3 ∷ o.Fail ∷ o.Commit ∷ o.Unit ∷ o.Return ∷ []) ≡
      is_done [] [] 0 1
  pub again_out_of_an_attempt : run (o.Unit ∷ o.Try 4 ∷ o.Again 1 ∷ o.Commit ∷ o.Unit ∷ o.Return ∷
      []) ≡ is_stuck [] [] 0 1
  pub again_spends_steps : run (o.Unit ∷ o.Drop ∷ o.Again 0 ∷ []) ≡ is_spent [] [] 0 60
  pub same_out_of_an_attempt : run (o.Try 5 ∷ o.Int (pos 1) ∷ o.Int (pos 2) ∷ o.Same 5 ∷ o.Commit
      ∷ o.Unit ∷ o.Return ∷ []) ≡ is_stuck [] [] 0 1
  pub same_within : run (o.Try 6 ∷ o.Int (pos 1) ∷ o.Int (pos 2) ∷ o.Same 5 ∷ o.Unit ∷ o.Commit ∷
      o.Unit ∷ o.Return ∷ []) ≡ is_done [] [] 0 1
  pub drop_below_an_attempt : run (o.Int (pos 1) ∷ o.Try 4 ∷ o.Drop ∷ o.Commit ∷ o.Unit ∷ o.Return
      ∷ []) ≡ is_stuck [] [] 0 1
  pub commit_joins_operands : run (o.Text 0 ∷ o.Try 5 ∷ o.Text 1 ∷ o.Commit ∷ o.Drop ∷ o.Print 0 ∷
      o.Return ∷ []) ≡ is_done (line 0 (codes "ab") ∷ []) [] 0 1
  pub commit_of_no_attempt : run (o.Commit ∷ o.Unit ∷ o.Return ∷ []) ≡ is_stuck [] [] 0 1
  pub fail_drops_operands : run (o.Text 0 ∷ o.Try 6 ∷ o.Text 1 ∷ o.Text 1 ∷ o.Text 1 ∷ o.Fail ∷
      o.Print 0 ∷ o.Return ∷ []) ≡ is_done (line 0 (codes "ab") ∷ []) [] 0 1
  pub undo_takes_writes_back : run (o.Text 0 ∷ o.New 0 ∷ o.Put 0 ∷ o.Try 10 ∷ o.Get 0 ∷ o.Text 1 ∷
      o.Store 0 0 0 0 ∷ o.Undo ∷ o.Drop ∷ o.Jump 10 ∷ o.Get 0 ∷ o.Load 0 ∷ o.Print 0 ∷ o.Return ∷
      []) ≡ is_done (line 0 (codes "ab") ∷ []) (cell_of cell.Var (text_val (codes "ab") ∷ []) ∷
      []) 0 1
  pub return_within : run (o.Try 3 ∷ o.Unit ∷ o.Return ∷ o.Unit ∷ o.Return ∷ []) ≡ is_stuck [] []
      0 1

-- what a call and a method take, and how a failure leaves them
pub record CallsRun : Type 0 where
  pub call_out_of_an_attempt : run_of (function 0 1 0 ∷ function 0 1 4 ∷ []) [] (o.Try 2 ∷ o.Call
      1 ∷ o.Unit ∷ o.Return ∷ o.Unit ∷ o.Return ∷ []) ≡ is_stuck [] [] 0 1
  pub call_within : run_of (function 0 1 0 ∷ function 0 1 5 ∷ []) [] (o.Try 3 ∷ o.Call 1 ∷
      o.Commit ∷ o.Unit ∷ o.Return ∷ o.Unit ∷ o.Return ∷ []) ≡ is_done [] [] 0 2
  pub call_below_an_attempt : run_of (function 0 1 0 ∷ function 1 1 6 ∷ []) [] (o.Unit ∷ o.Try 6 ∷
      o.Call 1 ∷ o.Commit ∷ o.Unit ∷ o.Return ∷ o.Unit ∷ o.Return ∷ []) ≡ is_stuck [] [] 0 1
  pub fail_in_a_call : run_of (function 0 1 0 ∷ function 0 1 10 ∷ []) [] (o.Text 0 ∷ o.Put 0 ∷
      o.Try 7 ∷ o.Text 1 ∷ o.Put 0 ∷ o.Call 1 ∷ o.Commit ∷ o.Get 0 ∷ o.Print 0 ∷ o.Return ∷ o.Text
      0 ∷ o.New 0 ∷ o.Fail ∷ []) ≡ is_done (line 0 (codes "c") ∷ []) [] 0 2
  pub undo_in_a_call : run_of (function 0 1 0 ∷ function 0 1 6 ∷ []) [] (o.Try 4 ∷ o.Call 1 ∷
      o.Commit ∷ o.Unit ∷ o.Unit ∷ o.Return ∷ o.Undo ∷ o.Unit ∷ o.Return ∷ []) ≡ is_stuck [] [] 0
      2
  pub method : run_of (function 0 1 0 ∷ function 2 2 6 ∷ []) (class 1 (1 ∷ []) ∷ []) (o.Text 0 ∷
      o.Object 0 0 ∷ o.Text 1 ∷ o.Method 0 1 ∷ o.Print 0 ∷ o.Return ∷ o.Get 0 ∷ o.Load 0 ∷ o.Get 1
      ∷ o.Concat 0 ∷ o.Return ∷ []) ≡ is_done (line 0 (codes
      "abc") ∷ []) (cell_of (cell.Object 0) (text_val (codes "ab") ∷ []) ∷ []) 0 2
  pub method_with_one_more : run_of (function 0 1 0 ∷ function 2 2 7 ∷ []) (class 1 (1 ∷ []) ∷ [])
      (o.Text 0 ∷ o.Object 0 0 ∷ o.Text 1 ∷ o.Text 1 ∷ o.Method 0 2 ∷ o.Print 0 ∷ o.Return ∷ o.Get
      0 ∷ o.Load 0 ∷ o.Return ∷ []) ≡ is_stuck [] (cell_of (cell.Object 0) (text_val (codes "ab")
      ∷ []) ∷ []) 0 1
  pub method_of_a_variable : run_of (function 0 1 0 ∷ function 2 2 6 ∷ []) (class 1 (1 ∷ []) ∷ [])
      (o.Text 0 ∷ o.New 0 ∷ o.Text 1 ∷ o.Method 0 1 ∷ o.Print 0 ∷ o.Return ∷ o.Get 0 ∷ o.Load 0 ∷
      o.Return ∷ []) ≡ is_stuck [] (cell_of cell.Var (text_val (codes "ab") ∷ []) ∷ []) 0 1

-- over what a `for` goes, and how it takes the next value
pub record DomainsRun : Type 0 where
  pub range_from_a_text : run (o.Text 0 ∷ o.Int (pos 1) ∷ o.Range 0 ∷ o.Text 1 ∷ o.Print 0 ∷
      o.Return ∷ []) ≡ is_stuck [] [] 0 1
  pub range_to_unit : run (o.Int (pos 1) ∷ o.Unit ∷ o.Range 0 ∷ o.Unit ∷ o.Return ∷ []) ≡ is_stuck
      [] [] 0 1
  pub each_of_an_int : run (o.Int (pos 1) ∷ o.Each 0 ∷ o.Unit ∷ o.Return ∷ []) ≡ is_stuck [] [] 0
      1
  pub take_into_no_local : run (o.Array 0 0 ∷ o.Each 0 ∷ o.Jump 3 ∷ o.Jump 4 ∷ o.Take 0 3 3 ∷
      o.Unit ∷ o.Return ∷ []) ≡ is_stuck [] [] 0 1
  pub take_from_a_spent_range : run (o.Unit ∷ o.Put 0 ∷ o.Int (pos 1) ∷ o.Put 1 ∷ o.Jump 5 ∷
      o.Take 0 2 4 ∷ o.Unit ∷ o.Return ∷ []) ≡ is_done [] [] 0 1
  pub take_at_a_negative : run (o.Array 0 0 ∷ o.Put 0 ∷ o.Int (negsuc 0) ∷ o.Put 1 ∷ o.Jump 5 ∷
      o.Take 0 2 4 ∷ o.Unit ∷ o.Return ∷ []) ≡ is_done [] [] 0 1
  pub take_from_a_map_at_unit : run (o.Map 0 0 ∷ o.Put 0 ∷ o.Unit ∷ o.Put 1 ∷ o.Jump 5 ∷ o.Take 0
      2 4 ∷ o.Unit ∷ o.Return ∷ []) ≡ is_stuck [] [] 0 1
  pub take_spends_steps : run (o.Int (pos 9223372036854775806) ∷ o.Int (pos 9223372036854775807) ∷
      o.Range 0 ∷ o.Jump 6 ∷ o.Text 0 ∷ o.Print 0 ∷ o.Take 0 2 4 ∷ o.Unit ∷ o.Return ∷ []) ≡
      is_done (line 0 (codes "ab") ∷ line 0 (codes "ab") ∷ []) [] 0 3
  pub take_over_the_domain : run_of (function 0 3 0 ∷ []) [] (o.Int (pos 1) ∷ o.Int (pos 2) ∷
      o.Array 2 0 ∷ o.Each 0 ∷ o.Jump 7 ∷ o.Text 0 ∷ o.Print 0 ∷ o.Take 0 0 5 ∷ o.Unit ∷ o.Return
      ∷ []) ≡ is_stuck (line 0 (codes "ab") ∷ line 0 (codes "ab") ∷ []) [] 0 3
  pub take_over_the_index : run (o.Int (pos 1) ∷ o.Int (pos 2) ∷ o.Array 2 0 ∷ o.Each 0 ∷ o.Jump 7
      ∷ o.Text 0 ∷ o.Print 0 ∷ o.Take 0 1 5 ∷ o.Unit ∷ o.Return ∷ []) ≡ is_done (line 0 (codes
      "ab") ∷ line 0 (codes "ab") ∷ []) [] 0 3
  pub take_out_of_an_attempt : run (o.Int (pos 1) ∷ o.Int (pos 2) ∷ o.Range 0 ∷ o.Jump 4 ∷ o.Try 9
      ∷ o.Take 0 2 3 ∷ o.Commit ∷ o.Unit ∷ o.Return ∷ o.Unit ∷ o.Return ∷ []) ≡ is_stuck [] [] 0 1

-- when deferred blocks run, and what a frame may do while one does
pub record DeferredRun : Type 0 where
  pub undo_keeps_deferred : run (o.Try 8 ∷ o.Defer 4 ∷ o.Unit ∷ o.DeferEnd ∷ o.Undo ∷ o.Unit ∷
      o.Return ∷ o.Unit ∷ o.Unit ∷ o.Return ∷ []) ≡ is_stuck [] [] 0 1
  pub commit_keeps_deferred : run (o.Try 9 ∷ o.Defer 5 ∷ o.Text 0 ∷ o.Print 0 ∷ o.DeferEnd ∷
      o.Commit ∷ o.Leave 0 ∷ o.Unit ∷ o.Return ∷ o.Unit ∷ o.Return ∷ []) ≡ is_done (line 0 (codes
      "ab") ∷ []) [] 0 2
  pub fail_drops_deferred : run (o.Try 6 ∷ o.Defer 5 ∷ o.Text 0 ∷ o.Print 0 ∷ o.DeferEnd ∷ o.Fail
      ∷ o.Leave 0 ∷ o.Unit ∷ o.Return ∷ []) ≡ is_done [] [] 0 1
  pub leave_more_than_there_are : run (o.Leave 1 ∷ o.Unit ∷ o.Return ∷ []) ≡ is_stuck [] [] 0 1
  pub leave_below_an_attempt : run (o.Defer 3 ∷ o.Unit ∷ o.DeferEnd ∷ o.Try 7 ∷ o.Leave 0 ∷
      o.Commit ∷ o.Unit ∷ o.Leave 0 ∷ o.Unit ∷ o.Return ∷ []) ≡ is_stuck [] [] 0 1
  pub leave_within : run (o.Defer 4 ∷ o.Text 0 ∷ o.Print 0 ∷ o.DeferEnd ∷ o.Try 8 ∷ o.Leave 1 ∷
      o.Commit ∷ o.Unit ∷ o.Leave 0 ∷ o.Unit ∷ o.Return ∷ []) ≡ is_done (line 0 (codes "ab") ∷ [])
      [] 0 2
  pub leave_spends_steps : run (o.Defer 4 ∷ o.Text 0 ∷ o.Print 0 ∷ o.DeferEnd ∷ o.Defer 8 ∷ o.Text
      1 ∷ o.Print 0 ∷ o.DeferEnd ∷ o.Leave 0 ∷ o.Unit ∷ o.Return ∷ []) ≡ is_done (line 0 (codes
      "c") ∷ line 0 (codes "ab") ∷ []) [] 0 3
  pub leave_out_of_an_attempt : run (o.Defer 3 ∷ o.Unit ∷ o.DeferEnd ∷ o.Try 9 ∷ o.Defer 7 ∷
      o.Unit ∷ o.DeferEnd ∷ o.Leave 0 ∷ o.Commit ∷ o.Unit ∷ o.Return ∷ []) ≡ is_stuck [] [] 0 1
  pub end_of_no_deferred : run (o.DeferEnd ∷ o.Unit ∷ o.Return ∷ []) ≡ is_stuck [] [] 0 1
  pub end_of_deferred_in_an_attempt : run (o.Defer 6 ∷ o.Try 5 ∷ o.DeferEnd ∷ o.Commit ∷ o.Unit ∷
      o.Unit ∷ o.Leave 0 ∷ o.Unit ∷ o.Return ∷ []) ≡ is_stuck [] [] 0 2
  pub end_of_deferred_within : run (o.Defer 3 ∷ o.Try 9 ∷ o.DeferEnd ∷ o.Leave 0 ∷ o.Commit ∷
      o.Text 0 ∷ o.Print 0 ∷ o.Return ∷ o.Unit ∷ o.Unit ∷ o.Return ∷ []) ≡ is_stuck [] [] 0 2
  pub attempt_in_deferred : run (o.Defer 8 ∷ o.Try 7 ∷ o.Int (pos 1) ∷ o.Int (pos 2) ∷ o.Gt ∷
      o.Drop ∷ o.Commit ∷ o.DeferEnd ∷ o.Leave 0 ∷ o.Unit ∷ o.Return ∷ []) ≡ is_done [] [] 0 2
  pub return_with_deferred : run (o.Defer 3 ∷ o.Unit ∷ o.DeferEnd ∷ o.Unit ∷ o.Return ∷ []) ≡
      is_stuck [] [] 0 1
  pub return_in_deferred : run (o.Defer 4 ∷ o.Unit ∷ o.Return ∷ o.DeferEnd ∷ o.Leave 0 ∷ o.Unit ∷
      o.Return ∷ []) ≡ is_stuck [] [] 0 2
  pub print_in_a_call_of_deferred : run_of (function 0 1 0 ∷ function 0 1 7 ∷ []) [] (o.Defer 4 ∷
      o.Call 1 ∷ o.Drop ∷ o.DeferEnd ∷ o.Leave 0 ∷ o.Unit ∷ o.Return ∷ o.Text 0 ∷ o.Print 0 ∷
      o.Return ∷ []) ≡ is_done (line 0 (codes "ab") ∷ []) [] 0 3
  pub sleep_in_a_call_of_deferred : run_of (function 0 1 0 ∷ function 0 1 7 ∷ []) [] (o.Defer 4 ∷
      o.Call 1 ∷ o.Drop ∷ o.DeferEnd ∷ o.Leave 0 ∷ o.Unit ∷ o.Return ∷ o.Sleep 0 ∷ o.Return ∷ [])
      ≡ is_stuck [] [] 0 3
  pub spawn_in_deferred : run_of (function 0 1 0 ∷ function 0 1 6 ∷ []) [] (o.Defer 3 ∷ o.Spawn 1
      ∷ o.DeferEnd ∷ o.Leave 0 ∷ o.Unit ∷ o.Return ∷ o.Unit ∷ o.Return ∷ []) ≡ is_stuck [] [] 0 2

-- how groups and their arms begin and end, and where a task may be suspended
pub record TasksRun : Type 0 where
  pub group_of_no_arms : run (o.Group 0 0 0 ∷ o.Unit ∷ o.Return ∷ []) ≡ is_stuck [] [] 0 1
  pub group_of_too_few_arms : run (o.Group 0 2 0 ∷ o.Arm 5 ∷ o.Unit ∷ o.Unit ∷ o.Return ∷ o.Unit ∷
      o.ArmEnd ∷ []) ≡ is_stuck [] [] 0 1
  pub arm_of_no_group : run (o.Arm 1 ∷ o.Unit ∷ o.Return ∷ []) ≡ is_stuck [] [] 0 1
  pub arm_without_a_value : run (o.Jump 3 ∷ o.Unit ∷ o.ArmEnd ∷ o.Group 0 1 0 ∷ o.Arm 6 ∷ o.Unit ∷
      o.ArmEnd ∷ []) ≡ is_stuck [] [] 0 2
  pub end_of_an_arm_in_main : run (o.Unit ∷ o.ArmEnd ∷ []) ≡ is_stuck [] [] 0 1
  pub end_of_an_arm_in_a_call : run_of (function 0 1 0 ∷ function 0 1 5 ∷ []) [] (o.Group 0 1 0 ∷
      o.Arm 3 ∷ o.Return ∷ o.Call 1 ∷ o.ArmEnd ∷ o.Unit ∷ o.ArmEnd ∷ []) ≡ is_stuck [] [] 0 3
  pub return_in_an_arm : run (o.Group 0 1 0 ∷ o.Arm 3 ∷ o.Return ∷ o.Unit ∷ o.Return ∷ []) ≡
      is_stuck [] [] 0 2
  pub locals_of_an_arm : run (o.Text 0 ∷ o.Put 0 ∷ o.Group 0 1 0 ∷ o.Arm 5 ∷ o.Jump 9 ∷ o.Text 1 ∷
      o.Put 0 ∷ o.Get 0 ∷ o.ArmEnd ∷ o.Get 0 ∷ o.Print 0 ∷ o.Return ∷ []) ≡ is_done (line 0 (codes
      "ab") ∷ []) [] 0 2
  pub group_in_an_attempt : run (o.Try 8 ∷ o.Group 0 1 0 ∷ o.Arm 4 ∷ o.Commit ∷ o.Unit ∷ o.ArmEnd
      ∷ o.Unit ∷ o.Unit ∷ o.Unit ∷ o.Return ∷ []) ≡ is_stuck [] [] 0 1
  pub sync : run (o.Group 0 2 0 ∷ o.Arm 6 ∷ o.Arm 8 ∷ o.Item 1 ∷ o.Print 0 ∷ o.Return ∷ o.Sleep 3
      ∷ o.ArmEnd ∷ o.Text 0 ∷ o.ArmEnd ∷ []) ≡ is_done (line 3 (codes "ab") ∷ []) [] 3 4
  pub race : run (o.Group 1 2 0 ∷ o.Arm 5 ∷ o.Arm 8 ∷ o.Print 0 ∷ o.Return ∷ o.Sleep 3 ∷ o.Text 0
      ∷ o.ArmEnd ∷ o.Text 1 ∷ o.ArmEnd ∷ []) ≡ is_done (line 0 (codes "c") ∷ []) [] 0 3
  pub rush : run (o.Group 2 2 0 ∷ o.Arm 6 ∷ o.Arm 11 ∷ o.Print 0 ∷ o.Sleep 9 ∷ o.Return ∷ o.Sleep
      3 ∷ o.Text 0 ∷ o.Print 0 ∷ o.Text 0 ∷ o.ArmEnd ∷ o.Text 1 ∷ o.ArmEnd ∷ []) ≡ is_done (line 0
      (codes "c") ∷ line 3 (codes "ab") ∷ []) [] 9 5
  pub sleep_in_an_attempt : run (o.Try 4 ∷ o.Sleep 0 ∷ o.Drop ∷ o.Commit ∷ o.Unit ∷ o.Return ∷ [])
      ≡ is_stuck [] [] 0 1
  pub sleep_in_an_attempt_of_the_caller : run_of (function 0 1 0 ∷ function 0 1 6 ∷ []) [] (o.Try
      4 ∷ o.Call 1 ∷ o.Commit ∷ o.Return ∷ o.Unit ∷ o.Return ∷ o.Sleep 0 ∷ o.Return ∷ []) ≡
      is_stuck [] [] 0 2
  pub signal_in_an_attempt : run (o.Try 6 ∷ o.Event 0 ∷ o.Unit ∷ o.Signal ∷ o.Commit ∷ o.Return ∷
      o.Unit ∷ o.Return ∷ []) ≡ is_stuck [] (cell_of cell.Event [] ∷ []) 0 1
  pub signals_in_their_order : run (o.Event 0 ∷ o.Put 0 ∷ o.Branch 7 ∷ o.Get 0 ∷ o.AwaitEvent ∷
      o.Print 0 ∷ o.ArmEnd ∷ o.Drop ∷ o.Branch 13 ∷ o.Get 0 ∷ o.AwaitEvent ∷ o.Print 0 ∷ o.ArmEnd
      ∷ o.Drop ∷ o.Get 0 ∷ o.Text 0 ∷ o.Signal ∷ o.Drop ∷ o.Get 0 ∷ o.Text 1 ∷ o.Signal ∷ o.Drop ∷
      o.Sleep 0 ∷ o.Return ∷ []) ≡ is_done (line 0 (codes "ab") ∷ line 0 (codes "ab") ∷ [])
      (cell_of cell.Event [] ∷ []) 0 6
  pub spawn : run_of (function 0 1 0 ∷ function 0 1 6 ∷ []) [] (o.Spawn 1 ∷ o.Put 0 ∷ o.Get 0 ∷
      o.AwaitTask ∷ o.Print 0 ∷ o.Return ∷ o.Sleep 3 ∷ o.Drop ∷ o.Text 0 ∷ o.Return ∷ []) ≡
      is_done (line 3 (codes "ab") ∷ []) [] 3 4
  pub task_that_awaits_itself : run_of (function 0 1 0 ∷ function 1 1 10 ∷ []) [] (o.Unit ∷ o.New
      0 ∷ o.Put 0 ∷ o.Get 0 ∷ o.Get 0 ∷ o.Spawn 1 ∷ o.Store 0 0 0 0 ∷ o.Drop ∷ o.Unit ∷ o.Return ∷
      o.Sleep 1 ∷ o.Drop ∷ o.Get 0 ∷ o.Load 0 ∷ o.AwaitTask ∷ o.Return ∷ []) ≡ is_over
      ending.Waiting [] (cell_of cell.Var ((task 0) ∷ []) ∷ []) 1 3 (Some 1)

-- what is cancelled, in what order, and what its deferred blocks may do
pub record CancellingRuns : Type 0 where
  pub race_over_at_once : run (o.Group 1 2 0 ∷ o.Arm 7 ∷ o.Arm 12 ∷ o.Print 0 ∷ o.Drop ∷ o.Sleep 9
      ∷ o.Return ∷ o.Sleep 3 ∷ o.Drop ∷ o.Text 0 ∷ o.Print 0 ∷ o.ArmEnd ∷ o.Text 1 ∷ o.ArmEnd ∷
      []) ≡ is_done (line 0 (codes "c") ∷ []) [] 9 4
  pub end_of_an_arm : run (o.Group 0 1 0 ∷ o.Arm 5 ∷ o.Drop ∷ o.Sleep 9 ∷ o.Return ∷ o.Branch 10 ∷
      o.Sleep 3 ∷ o.Text 0 ∷ o.Print 0 ∷ o.ArmEnd ∷ o.Sleep 1 ∷ o.ArmEnd ∷ []) ≡ is_done [] [] 10
      5
  pub return_of_a_call : run_of (function 0 1 0 ∷ function 0 1 9 ∷ []) [] (o.Branch 6 ∷ o.Sleep 9
      ∷ o.Drop ∷ o.Text 0 ∷ o.Print 0 ∷ o.ArmEnd ∷ o.Call 1 ∷ o.Sleep 20 ∷ o.Return ∷ o.Branch 14
      ∷ o.Sleep 9 ∷ o.Text 1 ∷ o.Print 0 ∷ o.ArmEnd ∷ o.Sleep 1 ∷ o.Return ∷ []) ≡ is_done (line 9
      (codes "ab") ∷ []) [] 21 7
  pub last_branch_first : run (o.Branch 8 ∷ o.Defer 5 ∷ o.Text 0 ∷ o.Print 0 ∷ o.DeferEnd ∷
      o.Forever ∷ o.Leave 0 ∷ o.ArmEnd ∷ o.Branch 14 ∷ o.Defer 13 ∷ o.Text 1 ∷ o.Print 0 ∷
      o.DeferEnd ∷ o.Forever ∷ o.Sleep 2 ∷ o.Return ∷ []) ≡ is_done (line 2 (codes
      "c") ∷ line 2 (codes "ab") ∷ []) [] 2 6
  pub last_frame_first : run_of (function 0 1 0 ∷ function 0 1 12 ∷ []) [] (o.Branch 10 ∷ o.Defer
      5 ∷ o.Text 0 ∷ o.Print 0 ∷ o.DeferEnd ∷ o.Call 1 ∷ o.Leave 0 ∷ o.ArmEnd ∷ o.Unit ∷ o.Unit ∷
      o.Sleep 2 ∷ o.Return ∷ o.Defer 16 ∷ o.Text 1 ∷ o.Print 0 ∷ o.DeferEnd ∷ o.Forever ∷ o.Leave
      0 ∷ o.Return ∷ []) ≡ is_done (line 2 (codes "c") ∷ line 2 (codes "ab") ∷ []) [] 2 6
  pub frames_of_an_arm : run_of (function 0 1 0 ∷ function 0 1 10 ∷ []) [] (o.Group 1 2 0 ∷ o.Arm
      5 ∷ o.Arm 7 ∷ o.Print 0 ∷ o.Return ∷ o.Call 1 ∷ o.ArmEnd ∷ o.Sleep 4 ∷ o.Text 1 ∷ o.ArmEnd ∷
      o.Branch 16 ∷ o.Defer 15 ∷ o.Text 0 ∷ o.Print 0 ∷ o.DeferEnd ∷ o.Forever ∷ o.Sleep 9 ∷
      o.Return ∷ []) ≡ is_done (line 4 (codes "ab") ∷ line 4 (codes "c") ∷ []) [] 4 7
  pub deferred_in_deferred : run (o.Branch 11 ∷ o.Defer 9 ∷ o.Text 0 ∷ o.Print 0 ∷ o.Defer 8 ∷
      o.Text 1 ∷ o.Print 0 ∷ o.DeferEnd ∷ o.DeferEnd ∷ o.Forever ∷ o.ArmEnd ∷ o.Sleep 2 ∷ o.Return
      ∷ []) ≡ is_done (line 2 (codes "ab") ∷ line 2 (codes "c") ∷ []) [] 2 5
  pub sleep_in_deferred : run (o.Branch 8 ∷ o.Defer 5 ∷ o.Sleep 0 ∷ o.Drop ∷ o.DeferEnd ∷
      o.Forever ∷ o.Leave 0 ∷ o.ArmEnd ∷ o.Sleep 2 ∷ o.Return ∷ []) ≡ is_stuck [] [] 2 4
  pub fail_in_deferred : run (o.Branch 5 ∷ o.Defer 4 ∷ o.Fail ∷ o.DeferEnd ∷ o.Forever ∷ o.Sleep 2
      ∷ o.Return ∷ []) ≡ is_stuck [] [] 2 4
  pub attempt_in_deferred : run (o.Branch 9 ∷ o.Defer 8 ∷ o.Try 5 ∷ o.Fail ∷ o.Unit ∷ o.Text 0 ∷
      o.Print 0 ∷ o.DeferEnd ∷ o.Forever ∷ o.Sleep 2 ∷ o.Return ∷ []) ≡ is_done (line 2 (codes
      "ab") ∷ []) [] 2 4
  pub overflow_in_deferred : run (o.Branch 9 ∷ o.Defer 7 ∷ o.Int (pos 9223372036854775807) ∷ o.Int
      (pos 1) ∷ o.Add 1 ∷ o.Drop ∷ o.DeferEnd ∷ o.Forever ∷ o.Unit ∷ o.Sleep 2 ∷ o.Return ∷ []) ≡
      is_over (ending.Error kind.Overflow (at 2 2)) [] [] 2 4 None
