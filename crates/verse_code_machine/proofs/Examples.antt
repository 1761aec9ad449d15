-- Runs of codes, computed.
use Rattle.std.proofs.Common.{◌≡◌, ℕ, [], ◌∷◌, None, Some, refl, true, false}
use Rattle.std.specs.Prelude.{pos, codes}
use Rattle.std.specs.Fmt.{digits}
use Rattle.verse_base.specs.declared.places.Place.{Place}
use Rattle.verse_base.specs.declared.refusals.Kind.TheVariants as kind
use Rattle.verse_value.specs.Val.{int, array, no_vals, more_vals}
use Rattle.verse_value.specs.declared.runs.CellKind.TheVariants as cell
use Rattle.verse_value.specs.declared.runs.Ending.TheVariants as ending
use Rattle.verse_meaning_state.specs.Waits.{till, never}
use Rattle.verse_meaning_state.specs.Turns.{waits_in}
use Rattle.verse_code.specs.declared.operations.Op.TheVariants as o
use Rattle.verse_code.specs.declared.codes.Code.{Code}
use Rattle.verse_code_machine.specs.Tasks.{tree_waits}
use Rattle.verse_code_machine.specs.Runs.{mach, mach_after}

at : ℕ → ℕ → Place
at l c = record { file = 0; line = l; col = c }

-- What a `for` has written for a value that it does not take is undone; steps stay spent.
--
-- Main():void =
--     var S:int = 0
--     var R:[]int = for (I := 1..4, set S += I, Mod[I, 2] = 0) { I }
some_taken_code : Code
some_taken_code = record {
  files = 1;
  texts = [];
  places = ((at 2 5) ∷ (at 3 19) ∷ (at 3 35) ∷ (at 3 5) ∷ []);
  functions = (record { params = 0; locals = 7; entry = 0; suspends = false } ∷ []);
  classes = [];
  main = 0;
  ops = (o.Int (pos 0) ∷ o.New 0 ∷ o.Put 0 ∷ o.Get 0 ∷ o.Load 0 ∷ o.Drop ∷ o.Array 0 1 ∷ o.Put 1 ∷ o.Try 29 ∷ o.Int (pos 1) ∷ o.Int
      (pos 4) ∷ o.Commit ∷ o.Range 2 ∷ o.Jump 28 ∷ o.Try 28 ∷ o.Get 0 ∷ o.Get 4 ∷ o.Store 0 0 1 2 ∷ o.Drop ∷ o.Get 4 ∷ o.Int (pos 2)
      ∷ o.Mod ∷ o.Int (pos 0) ∷ o.Eq ∷ o.Drop ∷ o.Commit ∷ o.Get 4 ∷ o.Append 1 1 ∷ o.Take 2 4 14 ∷ o.Get 1 ∷ o.New 3 ∷ o.Put 6 ∷
      o.Get 6 ∷ o.Load 0 ∷ o.Return ∷ []);
}

some_taken : mach some_taken_code [] 100 1000000 ≡ record {
  trace = [];
  store = (record {
    kind = cell.Var;
    slots = ((int (pos 6)) ∷
        []);
  } ∷ record { kind = cell.Var; slots = ((array (more_vals (int (pos 2)) (more_vals (int (pos 4)) no_vals))) ∷ []) } ∷ []);
  ending = ending.Done;
  now = 0;
  steps = 5;
  live = Some 0;
}
unfolding at some_taken_code digits
some_taken = refl

-- A runtime error in a failure context undoes nothing.
--
-- Main():void =
--     var X:int = 1
--     if (Print("in"), set X = 7, 9223372036854775807 + X > 0):
--         Print("no")
fault_inside_code : Code
fault_inside_code = record {
  files = 1;
  texts = ((codes "in") ∷ (codes "no") ∷ []);
  places = ((at 2 5) ∷ (at 3 14) ∷ (at 3 22) ∷ (at 3 53) ∷ (at 4 14) ∷ []);
  functions = (record { params = 0; locals = 1; entry = 0; suspends = false } ∷ []);
  classes = [];
  main = 0;
  ops = (o.Int (pos 1) ∷ o.New 0 ∷ o.Put 0 ∷ o.Get 0 ∷ o.Load 0 ∷ o.Drop ∷ o.Try 25 ∷ o.Text 0 ∷ o.Print 1 ∷ o.Drop ∷ o.Get 0 ∷
      o.Int (pos 7) ∷ o.Store 0 0 0 2 ∷ o.Drop ∷ o.Int (pos 9223372036854775807) ∷ o.Get 0 ∷ o.Load 0 ∷ o.Add 3 ∷ o.Int (pos 0) ∷
      o.Gt ∷ o.Drop ∷ o.Commit ∷ o.Text 1 ∷ o.Print 4 ∷ o.Jump 26 ∷ o.Unit ∷ o.Return ∷ []);
}

fault_inside : mach fault_inside_code [] 100 1000000 ≡ record {
  trace = (record { moment = 0; bytes = (codes "in") } ∷ []);
  store =
      (record { kind = cell.Var; slots = ((int (pos 7)) ∷ []) } ∷ []);
  ending = (ending.Error kind.Overflow (at 3 53));
  now = 0;
  steps = 1;
  live = None;
}
unfolding at fault_inside_code digits
fault_inside = refl

-- A spent bound undoes nothing either.
--
-- F()<transacts><decides>:void =
--     Print("f")
--     F[]
-- Main():void =
--     Print("m")
--     if (not F[]):
--         Print("no")
out_of_steps_code : Code
out_of_steps_code = record {
  files = 1;
  texts = ((codes "f") ∷ (codes "m") ∷ (codes "no") ∷ []);
  places = ((at 2 10) ∷ (at 5 10) ∷ (at 7 14) ∷ []);
  functions = (record { params = 0; locals = 0; entry = 0; suspends = false } ∷ record {
    params = 0;
    locals = 0;
    entry = 5;
    suspends = false;
  } ∷ []);
  classes = [];
  main = 1;
  ops = (o.Text 0 ∷ o.Print 0 ∷ o.Drop ∷ o.Call 0 ∷ o.Return ∷ o.Text 1 ∷ o.Print 1 ∷ o.Drop ∷ o.Try 20 ∷ o.Try 14 ∷ o.Call 0 ∷
      o.Drop ∷ o.Undo ∷ o.Fail ∷ o.Unit ∷ o.Drop ∷ o.Commit ∷ o.Text 2 ∷ o.Print 2 ∷ o.Jump 21 ∷ o.Unit ∷ o.Return ∷ []);
}

out_of_steps : mach out_of_steps_code [] 3 1000000 ≡ record {
  trace = (record { moment = 0; bytes = (codes "m") } ∷ record {
    moment
        = 0;
    bytes = (codes "f");
  } ∷ record { moment = 0; bytes = (codes "f") } ∷ []);
  store = [];
  ending = ending.Steps;
  now = 0;
  steps = 3;
  live = None;
}
unfolding at out_of_steps_code digits
out_of_steps = refl

-- An arm that completes at once keeps later arms from starting.
--
-- Main()<suspends>:void =
--     race:
--         Print("a")
--         block:
--             Sleep(1.0)
--             Print("b")
--     Print("c")
--     Sleep(2.0)
race_at_once_code : Code
race_at_once_code = record {
  files = 1;
  texts = ((codes "a") ∷ (codes "b") ∷ (codes "c") ∷ []);
  places = ((at 2 5) ∷ (at 3 14) ∷ (at 6 18) ∷ (at 7 10) ∷ []);
  functions = (record { params = 0; locals = 0; entry = 0; suspends = true } ∷ []);
  classes = [];
  main = 0;
  ops = (o.Group 1 2 0 ∷ o.Arm 4 ∷ o.Arm 7 ∷ o.Jump 12 ∷ o.Text 0 ∷ o.Print 1 ∷ o.ArmEnd ∷ o.Sleep 1000 ∷ o.Drop ∷ o.Text 1 ∷
      o.Print 2 ∷ o.ArmEnd ∷ o.Drop ∷ o.Text 2 ∷ o.Print 3 ∷ o.Drop ∷ o.Sleep 2000 ∷ o.Return ∷ []);
}

race_at_once : mach race_at_once_code [] 100 1000000 ≡ record {
  trace = (record { moment = 0; bytes = (codes "a") } ∷ record {
    moment = 0;
    bytes = (codes "c");
  } ∷ []);
  store = [];
  ending = ending.Done;
  now = 2000;
  steps = 3;
  live = Some 0;
}
unfolding at race_at_once_code digits
race_at_once = refl

-- `rush` starts every arm, and lets the others go on.
--
-- Main()<suspends>:void =
--     rush:
--         Print("a")
--         block:
--             Sleep(1.0)
--             Print("b")
--     Print("c")
--     Sleep(2.0)
rush_at_once_code : Code
rush_at_once_code = record {
  files = 1;
  texts = ((codes "a") ∷ (codes "b") ∷ (codes "c") ∷ []);
  places = ((at 2 5) ∷ (at 3 14) ∷ (at 6 18) ∷ (at 7 10) ∷ []);
  functions = (record { params = 0; locals = 0; entry = 0; suspends = true } ∷ []);
  classes = [];
  main = 0;
  ops = (o.Group 2 2 0 ∷ o.Arm 4 ∷ o.Arm 7 ∷ o.Jump 12 ∷ o.Text 0 ∷ o.Print 1 ∷ o.ArmEnd ∷ o.Sleep 1000 ∷ o.Drop ∷ o.Text 1 ∷
      o.Print 2 ∷ o.ArmEnd ∷ o.Drop ∷ o.Text 2 ∷ o.Print 3 ∷ o.Drop ∷ o.Sleep 2000 ∷ o.Return ∷ []);
}

rush_at_once : mach rush_at_once_code [] 100 1000000 ≡ record {
  trace = (record { moment = 0; bytes = (codes "a") } ∷ record {
    moment = 0;
    bytes = (codes "c");
  } ∷ record { moment = 1000; bytes = (codes "b") } ∷ []);
  store = [];
  ending = ending.Done;
  now
      = 2000;
  steps = 5;
  live = Some 0;
}
unfolding at rush_at_once_code digits
rush_at_once = refl

-- What `rush` leaves is cancelled at the end of the call in which it stands.
--
-- F()<suspends>:void =
--     rush:
--         Sleep(1.0)
--         block:
--             Sleep(2.0)
--             Print("late")
-- Main()<suspends>:void =
--     F()
--     Sleep(5.0)
--     Print("end")
scope_of_call_code : Code
scope_of_call_code = record {
  files = 1;
  texts = ((codes "late") ∷ (codes "end") ∷ []);
  places = ((at 2 5) ∷ (at 6 18) ∷ (at 10 10) ∷ []);
  functions = (record { params = 0; locals = 0; entry = 0; suspends = true } ∷ record {
    params = 0;
    locals = 0;
    entry = 12;
    suspends = true;
  } ∷ []);
  classes = [];
  main = 1;
  ops = (o.Group 2 2 0 ∷ o.Arm 4 ∷ o.Arm 6 ∷ o.Jump 11 ∷ o.Sleep 1000 ∷ o.ArmEnd ∷ o.Sleep 2000 ∷ o.Drop ∷ o.Text 0 ∷ o.Print 1 ∷
      o.ArmEnd ∷ o.Return ∷ o.Call 0 ∷ o.Drop ∷ o.Sleep 5000 ∷ o.Drop ∷ o.Text 1 ∷ o.Print 2 ∷ o.Return ∷ []);
}

scope_of_call : mach scope_of_call_code [] 100 1000000 ≡ record {
  trace = (record { moment = 6000; bytes = (codes "end") } ∷ []);
  store = [];
  ending = ending.Done;
  now = 6000;
  steps = 6;
  live = Some 0;
}
unfolding at scope_of_call_code digits
scope_of_call = refl

-- A finished task gives its result at once.
--
-- W()<suspends>:int =
--     Sleep(1.0)
--     7
-- Main()<suspends>:void =
--     T := spawn{W()}
--     X := T.Await()
--     Y := T.Await()
--     Print("{X + Y}")
awaited_twice_code : Code
awaited_twice_code = record {
  files = 1;
  texts = [];
  places = ((at 8 15) ∷ (at 8 11) ∷ (at 8 10) ∷ []);
  functions = (record { params = 0; locals = 0; entry = 0; suspends = true } ∷ record {
    params = 0;
    locals = 3;
    entry = 4;
    suspends
        = true;
  } ∷ []);
  classes = [];
  main = 1;
  ops = (o.Sleep 1000 ∷ o.Drop ∷ o.Int (pos 7) ∷ o.Return ∷ o.Spawn 0 ∷ o.Put 0 ∷ o.Get 0 ∷ o.Drop ∷ o.Get 0 ∷ o.AwaitTask ∷ o.Put
      1 ∷ o.Get 1 ∷ o.Drop ∷ o.Get 0 ∷ o.AwaitTask ∷ o.Put 2 ∷ o.Get 2 ∷ o.Drop ∷ o.Get 1 ∷ o.Get 2 ∷ o.Add 0 ∷ o.Join 1 1 ∷ o.Print
      2 ∷ o.Return ∷ []);
}

awaited_twice : mach awaited_twice_code [] 100 1000000 ≡ record {
  trace = (record { moment = 1000; bytes = (codes "14") } ∷ []);
  store = [];
  ending = ending.Done;
  now = 1000;
  steps = 4;
  live = Some 0;
}
unfolding at awaited_twice_code digits
awaited_twice = refl

-- `return` runs the deferred blocks of the blocks that it leaves.
--
-- F():int =
--     defer:
--         Print("f")
--     loop:
--         defer:
--             Print("l")
--         return 5
-- Main():void =
--     Print("{F()}")
defers_left_code : Code
defers_left_code = record {
  files = 1;
  texts = ((codes "f") ∷ (codes "l") ∷ []);
  places = ((at 3 14) ∷ (at 6 18) ∷ (at 9 11) ∷ (at 9 10) ∷ []);
  functions = (record { params = 0; locals = 0; entry = 0; suspends = false } ∷ record {
    params = 0;
    locals = 0;
    entry = 24;
    suspends = false;
  } ∷ []);
  classes = [];
  main = 1;
  ops = (o.Defer 5 ∷ o.Text 0 ∷ o.Print 0 ∷ o.Drop ∷ o.DeferEnd ∷ o.Unit ∷ o.Drop ∷ o.Jump 20 ∷ o.Defer 13 ∷ o.Text 1 ∷ o.Print 1 ∷
      o.Drop ∷ o.DeferEnd ∷ o.Unit ∷ o.Drop ∷ o.Int (pos 5) ∷ o.Leave 0 ∷ o.Return ∷ o.Leave 1 ∷ o.Drop ∷ o.Again 8 ∷ o.Unit ∷
      o.Leave 0 ∷ o.Return ∷ o.Call 0 ∷ o.Join 1 2 ∷ o.Print 3 ∷ o.Return ∷ []);
}

defers_left : mach defers_left_code [] 100 1000000 ≡ record {
  trace = (record { moment = 0; bytes = (codes "l") } ∷ record {
    moment
        = 0;
    bytes = (codes "f");
  } ∷ record { moment = 0; bytes = (codes "5") } ∷ []);
  store = [];
  ending = ending.Done;
  now = 0;
  steps
      = 5;
  live = Some 0;
}
unfolding at defers_left_code digits
defers_left = refl

-- Later arms before earlier ones, and what a task encloses before it.
--
-- G(N:int)<suspends>:void =
--     defer:
--         Print("g{N}")
--     branch:
--         defer:
--             Print("b{N}")
--         Sleep(Inf)
--     Sleep(Inf)
-- Main()<suspends>:void =
--     race:
--         sync:
--             G(1)
--             G(2)
--         Sleep(1.0)
order_of_cancelling_code : Code
order_of_cancelling_code = record {
  files = 1;
  texts = ((codes "g") ∷ (codes "b") ∷ []);
  places = ((at 3 15) ∷ (at 3 14) ∷ (at 6 19) ∷ (at 6 18) ∷ (at 10 5) ∷ (at 11 9) ∷ []);
  functions = (record { params = 1; locals = 1; entry = 0; suspends = true } ∷ record {
    params = 0;
    locals = 0;
    entry = 26;
    suspends = true;
  } ∷ []);
  classes = [];
  main = 1;
  ops = (o.Defer 7 ∷ o.Text 0 ∷ o.Get 0 ∷ o.Join 2 0 ∷ o.Print 1 ∷ o.Drop ∷ o.DeferEnd ∷ o.Unit ∷ o.Drop ∷ o.Branch 22 ∷ o.Defer 17
      ∷ o.Text 1 ∷ o.Get 0 ∷ o.Join 2 2 ∷ o.Print 3 ∷ o.Drop ∷ o.DeferEnd ∷ o.Unit ∷ o.Drop ∷ o.Forever ∷ o.Leave 0 ∷ o.ArmEnd ∷
      o.Drop ∷ o.Forever ∷ o.Leave 0 ∷ o.Return ∷ o.Group 1 2 4 ∷ o.Arm 30 ∷ o.Arm 41 ∷ o.Jump 43 ∷ o.Group 0 2 5 ∷ o.Arm 34 ∷ o.Arm
      37 ∷ o.Jump 40 ∷ o.Int (pos 1) ∷ o.Call 0 ∷ o.ArmEnd ∷ o.Int (pos 2) ∷ o.Call 0 ∷ o.ArmEnd ∷ o.ArmEnd ∷ o.Sleep 1000 ∷ o.ArmEnd
      ∷ o.Return ∷ []);
}

order_of_cancelling : mach order_of_cancelling_code [] 100 1000000 ≡ record {
  trace = (record {
    moment = 1000;
    bytes = (codes "b2");
  } ∷ record { moment = 1000; bytes = (codes "g2") } ∷ record { moment = 1000; bytes = (codes "b1") } ∷ record {
    moment = 1000;
    bytes = (codes "g1");
  } ∷ []);
  store = [];
  ending = ending.Done;
  now = 1000;
  steps = 14;
  live = Some 0;
}
unfolding at order_of_cancelling_code digits
order_of_cancelling = refl

-- What still waits at the horizon.
--
-- Main()<suspends>:void =
--     sync { Sleep(1.0); Sleep(2.0); Sleep(3.0); Sleep(Inf) }
horizon_code : Code
horizon_code = record {
  files = 1;
  texts = [];
  places = ((at 2 5) ∷ []);
  functions = (record { params = 0; locals = 0; entry = 0; suspends = true } ∷ []);
  classes = [];
  main = 0;
  ops = (o.Group 0 4 0 ∷ o.Arm 6 ∷ o.Arm 8 ∷ o.Arm 10 ∷ o.Arm 12 ∷ o.Jump 14 ∷ o.Sleep 1000 ∷ o.ArmEnd ∷ o.Sleep 2000 ∷ o.ArmEnd ∷
      o.Sleep 3000 ∷ o.ArmEnd ∷ o.Forever ∷ o.ArmEnd ∷ o.Return ∷ []);
}

horizon : waits_in tree_waits (mach_after horizon_code [] 100 1000 101) ≡ (record { number = 1; cause = (till 2000) } ∷ record {
  number = 2;
  cause = (till 3000);
} ∷ record { number = 3; cause = never } ∷ [])
unfolding at horizon_code digits
horizon = refl

-- The last operation has its effect; the end of the code is Stuck.
end_of_code_code : Code
end_of_code_code = record {
  files = 1;
  texts = ((codes "a") ∷ []);
  places = ((at 1 1) ∷ []);
  functions = (record { params = 0; locals = 0; entry = 0; suspends = true } ∷ []);
  classes = [];
  main = 0;
  ops = (o.Text 0 ∷ o.Print 0 ∷ []);
}

end_of_code : mach end_of_code_code [] 10 100 ≡ record {
  trace = (record { moment = 0; bytes = (codes "a") } ∷ []);
  store = [];
  ending = ending.Stuck;
  now = 0;
  steps = 1;
  live = None;
}
unfolding at end_of_code_code digits
end_of_code = refl

-- The place where an operation goes on is tested before a runtime error.
place_before_error_code : Code
place_before_error_code = record {
  files = 1;
  texts = ((codes "a") ∷ []);
  places = ((at 1 1) ∷ []);
  functions = (record { params = 0; locals = 0; entry = 0; suspends = true } ∷ []);
  classes = [];
  main = 0;
  ops = (o.Try 4 ∷ o.Int (pos 9223372036854775807) ∷ o.Int (pos 1) ∷ o.Add 0 ∷ o.Unit ∷ o.Return ∷ []);
}

place_before_error : mach place_before_error_code [] 10 100 ≡ record {
  trace = [];
  store = [];
  ending = ending.Stuck;
  now = 0;
  steps = 1;
  live = None;
}
unfolding at place_before_error_code digits
place_before_error = refl

-- Where it fails, the label is tested instead.
label_after_failure_code : Code
label_after_failure_code = record {
  files = 1;
  texts = ((codes "a") ∷ []);
  places = ((at 1 1) ∷ []);
  functions = (record { params = 0; locals = 0; entry = 0; suspends = true } ∷ []);
  classes = [];
  main = 0;
  ops = (o.Try 2 ∷ o.Fail ∷ o.Unit ∷ o.Return ∷ []);
}

label_after_failure : mach label_after_failure_code [] 10 100 ≡ record {
  trace = [];
  store = [];
  ending = ending.Done;
  now = 0;
  steps = 1;
  live = Some 0;
}
unfolding at label_after_failure_code digits
label_after_failure = refl

-- What lies below the innermost handler is not there.
beneath_handler_code : Code
beneath_handler_code = record {
  files = 1;
  texts = ((codes "a") ∷ []);
  places = ((at 1 1) ∷ []);
  functions = (record { params = 0; locals = 0; entry = 0; suspends = true } ∷ []);
  classes = [];
  main = 0;
  ops = (o.Unit ∷ o.Try 4 ∷ o.Drop ∷ o.Commit ∷ o.Return ∷ []);
}

beneath_handler : mach beneath_handler_code [] 10 100 ≡ record {
  trace = [];
  store = [];
  ending = ending.Stuck;
  now = 0;
  steps = 1;
  live = None;
}
unfolding at beneath_handler_code digits
beneath_handler = refl

-- Leave does not reach deferred blocks from before the innermost handler.
leave_below_handler_code : Code
leave_below_handler_code = record {
  files = 1;
  texts = ((codes "a") ∷ []);
  places = ((at 1 1) ∷ []);
  functions = (record { params = 0; locals = 0; entry = 0; suspends = true } ∷ []);
  classes = [];
  main = 0;
  ops = (o.Defer 2 ∷ o.DeferEnd ∷ o.Try 5 ∷ o.Leave 0 ∷ o.Commit ∷ o.Unit ∷ o.Return ∷ []);
}

leave_below_handler : mach leave_below_handler_code [] 10 100 ≡ record {
  trace = [];
  store = [];
  ending = ending.Stuck;
  now = 0;
  steps = 1;
  live = None;
}
unfolding at leave_below_handler_code digits
leave_below_handler = refl

-- No task is suspended in a failure context.
suspends_in_handler_code : Code
suspends_in_handler_code = record {
  files = 1;
  texts = ((codes "a") ∷ []);
  places = ((at 1 1) ∷ []);
  functions = (record { params = 0; locals = 0; entry = 0; suspends = true } ∷ []);
  classes = [];
  main = 0;
  ops = (o.Try 3 ∷ o.Sleep 1 ∷ o.Commit ∷ o.Return ∷ []);
}

suspends_in_handler : mach suspends_in_handler_code [] 10 100 ≡ record {
  trace = [];
  store = [];
  ending = ending.Stuck;
  now = 0;
  steps = 1;
  live = None;
}
unfolding at suspends_in_handler_code digits
suspends_in_handler = refl

-- A failure puts back the memory of the Try whose handler is taken, whatever was committed within.
inner_commit_code : Code
inner_commit_code = record {
  files = 1;
  texts = ((codes "a") ∷ []);
  places = ((at 1 1) ∷ []);
  functions = (record { params = 0; locals = 1; entry = 0; suspends = false } ∷ []);
  classes = [];
  main = 0;
  ops = (o.Int (pos 1) ∷ o.New 0 ∷ o.Put 0 ∷ o.Try 13 ∷ o.Try 9 ∷ o.Get 0 ∷ o.Int (pos 2) ∷ o.Store 0 0 0 0 ∷ o.Commit ∷ o.Get 0 ∷
      o.Int (pos 3) ∷ o.Store 0 0 0 0 ∷ o.Fail ∷ o.Return ∷ []);
}

inner_commit : mach inner_commit_code [] 10 100 ≡ record {
  trace = [];
  store = (record {
    kind = cell.Var;
    slots = ((int (pos 1)) ∷
        []);
  } ∷ []);
  ending = ending.Stuck;
  now = 0;
  steps = 1;
  live = None;
}
unfolding at inner_commit_code digits
inner_commit = refl
