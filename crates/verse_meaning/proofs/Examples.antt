-- Runs of programs, computed.
use Rattle.std.proofs.Common.{◌≡◌, ℕ, [], ◌∷◌, None, Some, refl, true, false}
use Rattle.std.specs.Prelude.{pos, codes}
use Rattle.std.specs.Fmt.{digits}
use Rattle.verse_base.specs.declared.places.Place.{Place}
use Rattle.verse_base.specs.declared.refusals.Kind.TheVariants as kind
use Rattle.verse_value.specs.Val.{int, array, no_vals, more_vals}
use Rattle.verse_value.specs.declared.runs.CellKind.TheVariants as cell
use Rattle.verse_value.specs.declared.runs.Ending.TheVariants as ending
use Rattle.verse_meaning_state.specs.Waits.{till, never}
use Rattle.verse_tree.specs.Tree.{Tree, tree, no_trees, more_trees, no_holes, more_holes, no_givens, more_givens}
use Rattle.verse_tree.specs.Tree as t
use Rattle.verse_tree.specs.ItemTree.{field, class, function}
use Rattle.verse_tree.specs.declared.tables.Ref.TheVariants as ref
use Rattle.verse_tree.specs.declared.tables.Ty.TheVariants as ty
use Rattle.verse_tree.specs.declared.exprs.Assign.TheVariants as assign
use Rattle.verse_tree.specs.declared.exprs.Operator.TheVariants as op
use Rattle.verse_tree.specs.declared.exprs.Comparison.TheVariants as cmp
use Rattle.verse_meaning_state.specs.Turns.{waits_in}
use Rattle.verse_meaning.specs.Programs.{Program}
use Rattle.verse_meaning.specs.Outcomes.{ran, valued, attempted, turned, dropped, on_went, went_on, on_went_task, closing, call_end}
use Rattle.verse_meaning.specs.Outcomes.{branch_started, task_started, armed, arm_came, arm_before, arms_came, element_came, element_before}
use Rattle.verse_meaning.specs.Outcomes.{behind_came, told, told_plain, if_there, if_known, outside, spends, suspended}
use Rattle.verse_meaning.specs.Forms.{defined}
use Rattle.verse_meaning.specs.Evaluating.{scope_end, or_stands, settled, arm_gave, begins_scope, stated, claused, generates_from, levelled}
use Rattle.verse_meaning.specs.Evaluating.{by_callee, named, membered}
use Rattle.verse_meaning.specs.Runs.{forest_leaves, main_bound, on_next, main_found, main_spends, after, mean}

at : ℕ → ℕ → Place
at l c = record { file = 0; line = l; col = c }

-- What a `for` has written for a value that it does not take is undone; steps stay spent.
--
-- Main():void =
--     var S:int = 0
--     var R:[]int = for (I := 1..4, set S += I, Mod[I, 2] = 0) { I }
some_taken_program : Program
some_taken_program = record {
  items = (function (record {
    number = 19;
    place = (at 1 1);
    name = (codes "Main");
    specs = [];
    params = [];
    effects = [];
    written
        = t.Written.void;
    body = (tree 18 (at 2 5) (t.Shape.block (more_trees (tree 1 (at 2 5) (t.Shape.variable (codes "S")
        t.Written.void (tree 0 (at 2 17) (t.Shape.integer (pos 0))))) (more_trees (tree 17 (at 3 5) (t.Shape.variable (codes "R")
        t.Written.void (tree 16 (at 3 19) (t.Shape.for_form (more_trees (tree 4 (at 3 24) (t.Shape.range (codes "I") (tree 2 (at 3 29)
        (t.Shape.integer (pos 1))) (tree 3 (at 3 32) (t.Shape.integer (pos 4))))) (more_trees (tree 7 (at 3 35) (t.Shape.assignment
        assign.Add (tree 5 (at 3 39) (t.Shape.name (codes "S"))) (tree 6 (at 3 44) (t.Shape.name (codes "I"))))) (more_trees (tree 13
        (at 3 57) (t.Shape.compared cmp.Equal (tree 11 (at 3 50) (t.Shape.index (tree 8 (at 3 47) (t.Shape.name (codes "Mod")))
        (more_trees (tree 9 (at 3 51) (t.Shape.name (codes "I"))) (more_trees (tree 10 (at 3 54) (t.Shape.integer (pos 2)))
        no_trees)))) (tree 12 (at 3 59) (t.Shape.integer (pos 0))))) no_trees))) (tree 15 (at 3 62) (t.Shape.block (more_trees (tree 14
        (at 3 64) (t.Shape.name (codes "I"))) no_trees))))))) no_trees))));
  }) ∷ []);
  is_array = λ n. false;
  is_event = λ n. false;
  names = record {
    funs = (record {
      params = [];
      result = ty.Void;
      effects = record {
        computes = false;
        transacts = false;
        decides
            = false;
        suspends = false;
      };
      item = 19;
    } ∷ []);
    classes = [];
    enums = [];
    refs = (None ∷ None ∷ None ∷ None ∷ None ∷ Some
        (ref.Local 1) ∷ Some (ref.Local 4) ∷ None ∷ Some (ref.Builtin 3) ∷ Some (ref.Local 4) ∷ None ∷ None ∷ None ∷ None ∷ Some
        (ref.Local 4) ∷ None ∷ None ∷ None ∷ None ∷ None ∷ None ∷ []);
  };
}

some_taken : mean some_taken_program [] 100 1000000 ≡ record {
  trace = [];
  store = (record {
    kind = cell.Var;
    slots = ((int (pos
        6)) ∷ []);
  } ∷ record { kind = cell.Var; slots = ((array (more_vals (int (pos 2)) (more_vals (int (pos 4)) no_vals))) ∷ []) } ∷
      []);
  ending = ending.Done;
  now = 0;
  steps = 5;
  live = Some 0;
}
unfolding at some_taken_program digits valued attempted turned dropped on_went went_on on_went_task closing ran call_end branch_started
    task_started armed arm_came arm_before arms_came element_came element_before behind_came told told_plain if_there if_known outside
    spends suspended defined scope_end or_stands settled arm_gave begins_scope stated claused generates_from levelled by_callee named
    membered main_bound on_next main_found main_spends
some_taken = refl

-- A runtime error in a failure context undoes nothing.
--
-- Main():void =
--     var X:int = 1
--     if (Print("in"), set X = 7, 9223372036854775807 + X > 0):
--         Print("no")
fault_inside_program : Program
fault_inside_program = record {
  items = (function (record {
    number = 19;
    place = (at 1 1);
    name = (codes "Main");
    specs = [];
    params = [];
    effects = [];
    written
        = t.Written.void;
    body = (tree 18 (at 2 5) (t.Shape.block (more_trees (tree 1 (at 2 5) (t.Shape.variable (codes "X")
        t.Written.void (tree 0 (at 2 17) (t.Shape.integer (pos 1))))) (more_trees (tree 17 (at 3 5) (t.Shape.if_alone (more_trees (tree
        4 (at 3 14) (t.Shape.call (tree 2 (at 3 9) (t.Shape.name (codes "Print"))) (more_trees (tree 3 (at 3 15) (t.Shape.text (codes
        "in"))) no_trees))) (more_trees (tree 7 (at 3 22) (t.Shape.assignment assign.Set (tree 5 (at 3 26) (t.Shape.name (codes "X")))
        (tree 6 (at 3 30) (t.Shape.integer (pos 7))))) (more_trees (tree 12 (at 3 57) (t.Shape.compared cmp.Above (tree 10 (at 3 53)
        (t.Shape.chained op.Add (tree 8 (at 3 33) (t.Shape.integer (pos 9223372036854775807))) (tree 9 (at 3 55) (t.Shape.name (codes
        "X"))))) (tree 11 (at 3 59) (t.Shape.integer (pos 0))))) no_trees))) (tree 16 (at 4 9) (t.Shape.block (more_trees (tree 15 (at
        4 14) (t.Shape.call (tree 13 (at 4 9) (t.Shape.name (codes "Print"))) (more_trees (tree 14 (at 4 15) (t.Shape.text (codes
        "no"))) no_trees))) no_trees))))) no_trees))));
  }) ∷ []);
  is_array = λ n. false;
  is_event = λ n. false;
  names = record {
    funs = (record {
      params = [];
      result = ty.Void;
      effects = record {
        computes = false;
        transacts = false;
        decides
            = false;
        suspends = false;
      };
      item = 19;
    } ∷ []);
    classes = [];
    enums = [];
    refs = (None ∷ None ∷ Some (ref.Builtin 0) ∷ None ∷
        None ∷ Some (ref.Local 1) ∷ None ∷ None ∷ None ∷ Some (ref.Local 1) ∷ None ∷ None ∷ None ∷ Some (ref.Builtin 0) ∷ None ∷ None ∷
        None ∷ None ∷ None ∷ None ∷ None ∷ []);
  };
}

fault_inside : mean fault_inside_program [] 100 1000000 ≡ record {
  trace = (record { moment = 0; bytes = (codes "in") } ∷ []);
  store = (record { kind = cell.Var; slots = ((int (pos 7)) ∷ []) } ∷ []);
  ending = (ending.Error kind.Overflow (at 3 53));
  now =
      0;
  steps = 1;
  live = None;
}
unfolding at fault_inside_program digits valued attempted turned dropped on_went went_on on_went_task closing ran call_end branch_started
    task_started armed arm_came arm_before arms_came element_came element_before behind_came told told_plain if_there if_known outside
    spends suspended defined scope_end or_stands settled arm_gave begins_scope stated claused generates_from levelled by_callee named
    membered main_bound on_next main_found main_spends
fault_inside = refl

-- The first arm that completes gives the value; the other is cancelled.
--
-- Main()<suspends>:void =
--     race:
--         block:
--             Sleep(2.0)
--             Print("slow")
--         block:
--             Sleep(1.0)
--             Print("fast")
--     Print("after")
race_program : Program
race_program = record {
  items = (function (record {
    number = 17;
    place = (at 1 1);
    name = (codes "Main");
    specs = [];
    params = [];
    effects = [];
    written
        = t.Written.void;
    body = (tree 16 (at 2 5) (t.Shape.block (more_trees (tree 12 (at 2 5) (t.Shape.race (more_trees (tree 5 (at 3
        9) (t.Shape.block_form (tree 4 (at 4 13) (t.Shape.block (more_trees (tree 0 (at 4 13) (t.Shape.sleep 2000)) (more_trees (tree 3
        (at 5 18) (t.Shape.call (tree 1 (at 5 13) (t.Shape.name (codes "Print"))) (more_trees (tree 2 (at 5 19) (t.Shape.text (codes
        "slow"))) no_trees))) no_trees)))))) (more_trees (tree 11 (at 6 9) (t.Shape.block_form (tree 10 (at 7 13) (t.Shape.block
        (more_trees (tree 6 (at 7 13) (t.Shape.sleep 1000)) (more_trees (tree 9 (at 8 18) (t.Shape.call (tree 7 (at 8 13) (t.Shape.name
        (codes "Print"))) (more_trees (tree 8 (at 8 19) (t.Shape.text (codes "fast"))) no_trees))) no_trees)))))) no_trees))))
        (more_trees (tree 15 (at 9 10) (t.Shape.call (tree 13 (at 9 5) (t.Shape.name (codes "Print"))) (more_trees (tree 14 (at 9 11)
        (t.Shape.text (codes "after"))) no_trees))) no_trees))));
  }) ∷ []);
  is_array = λ n. false;
  is_event = λ n. false;
  names = record {
    funs = (record {
      params = [];
      result = ty.Void;
      effects = record {
        computes = false;
        transacts = false;
        decides
            = false;
        suspends = true;
      };
      item = 17;
    } ∷ []);
    classes = [];
    enums = [];
    refs = (None ∷ Some (ref.Builtin 0) ∷ None ∷ None ∷
        None ∷ None ∷ None ∷ Some (ref.Builtin 0) ∷ None ∷ None ∷ None ∷ None ∷ None ∷ Some (ref.Builtin 0) ∷ None ∷ None ∷ None ∷ None
        ∷ None ∷ []);
  };
}

race : mean race_program [] 100 1000000 ≡ record {
  trace = (record { moment = 1000; bytes = (codes "fast") } ∷ record {
    moment =
        1000;
    bytes = (codes "after");
  } ∷ []);
  store = [];
  ending = ending.Done;
  now = 1000;
  steps = 4;
  live = Some 0;
}
unfolding at race_program digits valued attempted turned dropped on_went went_on on_went_task closing ran call_end branch_started task_started
    armed arm_came arm_before arms_came element_came element_before behind_came told told_plain if_there if_known outside spends suspended
    defined scope_end or_stands settled arm_gave begins_scope stated claused generates_from levelled by_callee named membered main_bound
    on_next main_found main_spends
race = refl

-- `rush` starts every arm, and lets the others go on.
--
-- Main()<suspends>:void =
--     rush:
--         Print("a")
--         block:
--             Sleep(1.0)
--             Print("b")
--     Print("c")
--     Sleep(2.0)
rush_at_once_program : Program
rush_at_once_program = record {
  items = (function (record {
    number = 15;
    place = (at 1 1);
    name = (codes "Main");
    specs = [];
    params = [];
    effects = [];
    written
        = t.Written.void;
    body = (tree 14 (at 2 5) (t.Shape.block (more_trees (tree 9 (at 2 5) (t.Shape.rush (more_trees (tree 2 (at 3
        14) (t.Shape.call (tree 0 (at 3 9) (t.Shape.name (codes "Print"))) (more_trees (tree 1 (at 3 15) (t.Shape.text (codes "a")))
        no_trees))) (more_trees (tree 8 (at 4 9) (t.Shape.block_form (tree 7 (at 5 13) (t.Shape.block (more_trees (tree 3 (at 5 13)
        (t.Shape.sleep 1000)) (more_trees (tree 6 (at 6 18) (t.Shape.call (tree 4 (at 6 13) (t.Shape.name (codes "Print"))) (more_trees
        (tree 5 (at 6 19) (t.Shape.text (codes "b"))) no_trees))) no_trees)))))) no_trees)))) (more_trees (tree 12 (at 7 10)
        (t.Shape.call (tree 10 (at 7 5) (t.Shape.name (codes "Print"))) (more_trees (tree 11 (at 7 11) (t.Shape.text (codes "c")))
        no_trees))) (more_trees (tree 13 (at 8 5) (t.Shape.sleep 2000)) no_trees)))));
  }) ∷ []);
  is_array = λ n. false;
  is_event = λ n. false;
  names = record {
    funs = (record {
      params = [];
      result = ty.Void;
      effects = record {
        computes = false;
        transacts = false;
        decides
            = false;
        suspends = true;
      };
      item = 15;
    } ∷ []);
    classes = [];
    enums = [];
    refs = (Some (ref.Builtin 0) ∷ None ∷ None ∷ None ∷
        Some (ref.Builtin 0) ∷ None ∷ None ∷ None ∷ None ∷ None ∷ Some (ref.Builtin 0) ∷ None ∷ None ∷ None ∷ None ∷ None ∷ None ∷ []);
  };
}

rush_at_once : mean rush_at_once_program [] 100 1000000 ≡ record {
  trace = (record { moment = 0; bytes = (codes "a") } ∷ record {
    moment = 0;
    bytes = (codes "c");
  } ∷ record { moment = 1000; bytes = (codes "b") } ∷ []);
  store = [];
  ending = ending.Done;
  now
      = 2000;
  steps = 5;
  live = Some 0;
}
unfolding at rush_at_once_program digits valued attempted turned dropped on_went went_on on_went_task closing ran call_end branch_started
    task_started armed arm_came arm_before arms_came element_came element_before behind_came told told_plain if_there if_known outside
    spends suspended defined scope_end or_stands settled arm_gave begins_scope stated claused generates_from levelled by_callee named
    membered main_bound on_next main_found main_spends
rush_at_once = refl

-- What `rush` leaves is cancelled at the end of the call in which it stands.
--
-- F()<suspends>:void =
--     rush:
--         Sleep(1.0)
--         block:
--             Sleep(2.0)
--             Print("late")
-- Main()<suspends>:void =
--     F()
--     Sleep(5.0)
--     Print("end")
scope_of_call_program : Program
scope_of_call_program = record {
  items = (function (record {
    number = 9;
    place = (at 1 1);
    name = (codes "F");
    specs = [];
    params = [];
    effects = [];
    written =
        t.Written.void;
    body = (tree 8 (at 2 5) (t.Shape.block (more_trees (tree 7 (at 2 5) (t.Shape.rush (more_trees (tree 0 (at 3 9)
        (t.Shape.sleep 1000)) (more_trees (tree 6 (at 4 9) (t.Shape.block_form (tree 5 (at 5 13) (t.Shape.block (more_trees (tree 1 (at
        5 13) (t.Shape.sleep 2000)) (more_trees (tree 4 (at 6 18) (t.Shape.call (tree 2 (at 6 13) (t.Shape.name (codes "Print")))
        (more_trees (tree 3 (at 6 19) (t.Shape.text (codes "late"))) no_trees))) no_trees)))))) no_trees)))) no_trees)));
  }) ∷ function
      (record {
        number = 17;
        place = (at 7 1);
        name = (codes "Main");
        specs = [];
        params = [];
        effects = [];
        written =
            t.Written.void;
        body = (tree 16 (at 8 5) (t.Shape.block (more_trees (tree 11 (at 8 6) (t.Shape.call (tree 10 (at 8 5)
            (t.Shape.name (codes "F"))) no_trees)) (more_trees (tree 12 (at 9 5) (t.Shape.sleep 5000)) (more_trees (tree 15 (at 10 10)
            (t.Shape.call (tree 13 (at 10 5) (t.Shape.name (codes "Print"))) (more_trees (tree 14 (at 10 11) (t.Shape.text (codes "end")))
            no_trees))) no_trees)))));
      }) ∷ []);
  is_array = λ n. false;
  is_event = λ n. false;
  names = record {
    funs = (record {
      params = [];
      result = ty.Void;
      effects = record {
        computes = false;
        transacts = false;
        decides
            = false;
        suspends = true;
      };
      item = 9;
    } ∷ record {
      params = [];
      result = ty.Void;
      effects = record {
        computes = false;
        transacts
            = false;
        decides = false;
        suspends = true;
      };
      item = 17;
    } ∷ []);
    classes = [];
    enums = [];
    refs = (None ∷ None ∷ Some
        (ref.Builtin 0) ∷ None ∷ None ∷ None ∷ None ∷ None ∷ None ∷ None ∷ Some (ref.Fun 0) ∷ None ∷ None ∷ Some (ref.Builtin 0) ∷ None
        ∷ None ∷ None ∷ None ∷ None ∷ []);
  };
}

scope_of_call : mean scope_of_call_program [] 100 1000000 ≡ record {
  trace = (record { moment = 6000; bytes = (codes "end") } ∷
      []);
  store = [];
  ending = ending.Done;
  now = 6000;
  steps = 6;
  live = Some 0;
}
unfolding at scope_of_call_program digits valued attempted turned dropped on_went went_on on_went_task closing ran call_end branch_started
    task_started armed arm_came arm_before arms_came element_came element_before behind_came told told_plain if_there if_known outside
    spends suspended defined scope_end or_stands settled arm_gave begins_scope stated claused generates_from levelled by_callee named
    membered main_bound on_next main_found main_spends
scope_of_call = refl

-- A finished task gives its result at once.
--
-- W()<suspends>:int =
--     Sleep(1.0)
--     7
-- Main()<suspends>:void =
--     T := spawn{W()}
--     X := T.Await()
--     Y := T.Await()
--     Print("{X + Y}")
awaited_twice_program : Program
awaited_twice_program = record {
  items = (function (record {
    number = 3;
    place = (at 1 1);
    name = (codes "W");
    specs = [];
    params = [];
    effects = [];
    written =
        t.Written.void;
    body = (tree 2 (at 2 5) (t.Shape.block (more_trees (tree 0 (at 2 5) (t.Shape.sleep 1000)) (more_trees (tree 1
        (at 3 5) (t.Shape.integer (pos 7))) no_trees))));
  }) ∷ function (record {
    number = 23;
    place = (at 4 1);
    name = (codes "Main");
    specs = [];
    params = [];
    effects = [];
    written = t.Written.void;
    body = (tree 22 (at 5 5) (t.Shape.block (more_trees (tree 7
        (at 5 5) (t.Shape.definition (codes "T") (tree 6 (at 5 10) (t.Shape.spawn (tree 5 (at 5 17) (t.Shape.call (tree 4 (at 5 16)
        (t.Shape.name (codes "W"))) no_trees)))))) (more_trees (tree 11 (at 6 5) (t.Shape.definition (codes "X") (tree 10 (at 6 17)
        (t.Shape.call (tree 9 (at 6 11) (t.Shape.member (tree 8 (at 6 10) (t.Shape.name (codes "T"))) (codes "Await"))) no_trees))))
        (more_trees (tree 15 (at 7 5) (t.Shape.definition (codes "Y") (tree 14 (at 7 17) (t.Shape.call (tree 13 (at 7 11)
        (t.Shape.member (tree 12 (at 7 10) (t.Shape.name (codes "T"))) (codes "Await"))) no_trees)))) (more_trees (tree 21 (at 8 10)
        (t.Shape.call (tree 16 (at 8 5) (t.Shape.name (codes "Print"))) (more_trees (tree 20 (at 8 11) (t.Shape.holes [] (more_holes
        (tree 19 (at 8 15) (t.Shape.chained op.Add (tree 17 (at 8 13) (t.Shape.name (codes "X"))) (tree 18 (at 8 17) (t.Shape.name
        (codes "Y"))))) [] no_holes))) no_trees))) no_trees))))));
  }) ∷ []);
  is_array = λ n. false;
  is_event = λ n. false;
  names = record {
    funs = (record {
      params = [];
      result = ty.Void;
      effects = record {
        computes = false;
        transacts = false;
        decides
            = false;
        suspends = true;
      };
      item = 3;
    } ∷ record {
      params = [];
      result = ty.Void;
      effects = record {
        computes = false;
        transacts
            = false;
        decides = false;
        suspends = true;
      };
      item = 23;
    } ∷ []);
    classes = [];
    enums = [];
    refs = (None ∷ None ∷ None ∷ None ∷
        Some (ref.Fun 0) ∷ None ∷ None ∷ None ∷ Some (ref.Local 7) ∷ None ∷ None ∷ None ∷ Some (ref.Local 7) ∷ None ∷ None ∷ None ∷
        Some (ref.Builtin 0) ∷ Some (ref.Local 11) ∷ Some (ref.Local 15) ∷ None ∷ None ∷ None ∷ None ∷ None ∷ None ∷ []);
  };
}

awaited_twice : mean awaited_twice_program [] 100 1000000 ≡ record {
  trace = (record { moment = 1000; bytes = (codes "14") } ∷ []);
  store = [];
  ending = ending.Done;
  now = 1000;
  steps = 4;
  live = Some 0;
}
unfolding at awaited_twice_program digits valued attempted turned dropped on_went went_on on_went_task closing ran call_end branch_started
    task_started armed arm_came arm_before arms_came element_came element_before behind_came told told_plain if_there if_known outside
    spends suspended defined scope_end or_stands settled arm_gave begins_scope stated claused generates_from levelled by_callee named
    membered main_bound on_next main_found main_spends
awaited_twice = refl

-- A cell that a failed context has made is dropped.
--
-- c := class<unique>:
--     N:int = 0
-- Main():void =
--     var A:int = 1
--     if (X := c{N := 5}, X.N = 4) {}
--     var B:int = 2
cells_dropped_program : Program
cells_dropped_program = record {
  items = (class (record {
    number = 2;
    place = (at 1 1);
    name = (codes "c");
    specs = [];
    class_specs = [];
    parent = None;
    members =
        (field (record {
          number = 1;
          place = (at 2 5);
          is_var = false;
          var_specs = [];
          name = (codes "N");
          specs = [];
          written =
              t.Written.void;
          default = Some (tree 0 (at 2 13) (t.Shape.integer (pos 0)));
        }) ∷ []);
  }) ∷ function (record {
    number = 17;
    place
        = (at 3 1);
    name = (codes "Main");
    specs = [];
    params = [];
    effects = [];
    written = t.Written.void;
    body = (tree 16 (at 4 5)
        (t.Shape.block (more_trees (tree 4 (at 4 5) (t.Shape.variable (codes "A") t.Written.void (tree 3 (at 4 17) (t.Shape.integer
        (pos 1))))) (more_trees (tree 13 (at 5 5) (t.Shape.if_alone (more_trees (tree 7 (at 5 9) (t.Shape.definition (codes "X") (tree
        6 (at 5 14) (t.Shape.instance (codes "c") (more_givens (codes "N") (tree 5 (at 5 21) (t.Shape.integer (pos 5))) no_givens)))))
        (more_trees (tree 11 (at 5 29) (t.Shape.compared cmp.Equal (tree 9 (at 5 26) (t.Shape.member (tree 8 (at 5 25) (t.Shape.name
        (codes "X"))) (codes "N"))) (tree 10 (at 5 31) (t.Shape.integer (pos 4))))) no_trees)) (tree 12 (at 5 34) (t.Shape.block
        no_trees)))) (more_trees (tree 15 (at 6 5) (t.Shape.variable (codes "B") t.Written.void (tree 14 (at 6 17) (t.Shape.integer
        (pos 2))))) no_trees)))));
  }) ∷ []);
  is_array = λ n. false;
  is_event = λ n. false;
  names = record {
    funs = (record {
      params = [];
      result = ty.Void;
      effects = record {
        computes = false;
        transacts = false;
        decides
            = false;
        suspends = false;
      };
      item = 17;
    } ∷ []);
    classes = (record {
      parent = None;
      is_unique = true;
      fields = [];
      methods = [];
    } ∷ []);
    enums = [];
    refs = (None ∷ None ∷ None ∷ None ∷ None ∷ None ∷ Some (ref.Class 0) ∷ None ∷ Some (ref.Local 7) ∷ Some
        (ref.Field 0 0) ∷ None ∷ None ∷ None ∷ None ∷ None ∷ None ∷ None ∷ None ∷ None ∷ []);
  };
}

cells_dropped : mean cells_dropped_program [] 100 1000000 ≡ record {
  trace = [];
  store = (record {
    kind = cell.Var;
    slots = ((int
        (pos 1)) ∷ []);
  } ∷ record { kind = cell.Var; slots = ((int (pos 2)) ∷ []) } ∷ []);
  ending = ending.Done;
  now = 0;
  steps = 1;
  live = Some 0;
}
unfolding at cells_dropped_program digits valued attempted turned dropped on_went went_on on_went_task closing ran call_end branch_started
    task_started armed arm_came arm_before arms_came element_came element_before behind_came told told_plain if_there if_known outside
    spends suspended defined scope_end or_stands settled arm_gave begins_scope stated claused generates_from levelled by_callee named
    membered main_bound on_next main_found main_spends
cells_dropped = refl

-- Later arms before earlier ones, and what a task encloses before it.
--
-- G(N:int)<suspends>:void =
--     defer:
--         Print("g{N}")
--     branch:
--         defer:
--             Print("b{N}")
--         Sleep(Inf)
--     Sleep(Inf)
-- Main()<suspends>:void =
--     race:
--         sync:
--             G(1)
--             G(2)
--         Sleep(1.0)
order_of_cancelling_program : Program
order_of_cancelling_program = record {
  items = (function (record {
    number = 18;
    place = (at 1 1);
    name = (codes "G");
    specs = [];
    params = (record {
      number = 0;
      place =
          (at 1 3);
      name = (codes "N");
      written = t.Written.void;
    } ∷ []);
    effects = [];
    written = t.Written.void;
    body = (tree 17 (at 2
        5) (t.Shape.block (more_trees (tree 6 (at 2 5) (t.Shape.defer (tree 5 (at 3 9) (t.Shape.block (more_trees (tree 4 (at 3 14)
        (t.Shape.call (tree 1 (at 3 9) (t.Shape.name (codes "Print"))) (more_trees (tree 3 (at 3 15) (t.Shape.holes (codes "g")
        (more_holes (tree 2 (at 3 18) (t.Shape.name (codes "N"))) [] no_holes))) no_trees))) no_trees))))) (more_trees (tree 15 (at 4
        5) (t.Shape.branch (tree 14 (at 5 9) (t.Shape.block (more_trees (tree 12 (at 5 9) (t.Shape.defer (tree 11 (at 6 13)
        (t.Shape.block (more_trees (tree 10 (at 6 18) (t.Shape.call (tree 7 (at 6 13) (t.Shape.name (codes "Print"))) (more_trees (tree
        9 (at 6 19) (t.Shape.holes (codes "b") (more_holes (tree 8 (at 6 22) (t.Shape.name (codes "N"))) [] no_holes))) no_trees)))
        no_trees))))) (more_trees (tree 13 (at 7 9) t.Shape.sleep_forever) no_trees)))))) (more_trees (tree 16 (at 8 5)
        t.Shape.sleep_forever) no_trees)))));
  }) ∷ function (record {
    number = 29;
    place = (at 9 1);
    name = (codes "Main");
    specs = [];
    params = [];
    effects = [];
    written = t.Written.void;
    body = (tree 28 (at 10 5) (t.Shape.block (more_trees (tree 27 (at 10 5)
        (t.Shape.race (more_trees (tree 25 (at 11 9) (t.Shape.sync (more_trees (tree 21 (at 12 14) (t.Shape.call (tree 19 (at 12 13)
        (t.Shape.name (codes "G"))) (more_trees (tree 20 (at 12 15) (t.Shape.integer (pos 1))) no_trees))) (more_trees (tree 24 (at 13
        14) (t.Shape.call (tree 22 (at 13 13) (t.Shape.name (codes "G"))) (more_trees (tree 23 (at 13 15) (t.Shape.integer (pos 2)))
        no_trees))) no_trees)))) (more_trees (tree 26 (at 14 9) (t.Shape.sleep 1000)) no_trees)))) no_trees)));
  }) ∷ []);
  is_array = λ n. false;
  is_event = λ n. false;
  names = record {
    funs = (record {
      params = [];
      result = ty.Void;
      effects = record {
        computes = false;
        transacts = false;
        decides
            = false;
        suspends = true;
      };
      item = 18;
    } ∷ record {
      params = [];
      result = ty.Void;
      effects = record {
        computes = false;
        transacts = false;
        decides = false;
        suspends = true;
      };
      item = 29;
    } ∷ []);
    classes = [];
    enums = [];
    refs = (None ∷ Some
        (ref.Builtin 0) ∷ Some (ref.Local 0) ∷ None ∷ None ∷ None ∷ None ∷ Some (ref.Builtin 0) ∷ Some (ref.Local 0) ∷ None ∷ None ∷
        None ∷ None ∷ None ∷ None ∷ None ∷ None ∷ None ∷ None ∷ Some (ref.Fun 0) ∷ None ∷ None ∷ Some (ref.Fun 0) ∷ None ∷ None ∷ None
        ∷ None ∷ None ∷ None ∷ None ∷ None ∷ []);
  };
}

order_of_cancelling : mean order_of_cancelling_program [] 100 1000000 ≡ record {
  trace = (record {
    moment = 1000;
    bytes = (codes
        "b2");
  } ∷ record { moment = 1000; bytes = (codes "g2") } ∷ record { moment = 1000; bytes = (codes "b1") } ∷ record {
    moment =
        1000;
    bytes = (codes "g1");
  } ∷ []);
  store = [];
  ending = ending.Done;
  now = 1000;
  steps = 14;
  live = Some 0;
}
unfolding at order_of_cancelling_program digits valued attempted turned dropped on_went went_on on_went_task closing ran call_end
    branch_started task_started armed arm_came arm_before arms_came element_came element_before behind_came told told_plain if_there
    if_known outside spends suspended defined scope_end or_stands settled arm_gave begins_scope stated claused generates_from levelled
    by_callee named membered main_bound on_next main_found main_spends
order_of_cancelling = refl

-- What still waits at the horizon.
--
-- Main()<suspends>:void =
--     sync { Sleep(1.0); Sleep(2.0); Sleep(3.0); Sleep(Inf) }
horizon_program : Program
horizon_program = record {
  items = (function (record {
    number = 6;
    place = (at 1 1);
    name = (codes "Main");
    specs = [];
    params = [];
    effects = [];
    written =
        t.Written.void;
    body = (tree 5 (at 2 5) (t.Shape.block (more_trees (tree 4 (at 2 5) (t.Shape.sync (more_trees (tree 0 (at 2 12)
        (t.Shape.sleep 1000)) (more_trees (tree 1 (at 2 24) (t.Shape.sleep 2000)) (more_trees (tree 2 (at 2 36) (t.Shape.sleep 3000))
        (more_trees (tree 3 (at 2 48) t.Shape.sleep_forever) no_trees)))))) no_trees)));
  }) ∷ []);
  is_array = λ n. false;
  is_event = λ n. false;
  names = record {
    funs = (record {
      params = [];
      result = ty.Void;
      effects = record {
        computes = false;
        transacts = false;
        decides
            = false;
        suspends = true;
      };
      item = 6;
    } ∷ []);
    classes = [];
    enums = [];
    refs = (None ∷ None ∷ None ∷ None ∷ None ∷ None ∷ None
        ∷ None ∷ []);
  };
}

horizon : waits_in forest_leaves (after horizon_program [] 100 1000 101) ≡ (record { number = 1; cause = (till 2000) } ∷ record {
  number = 2;
  cause = (till 3000);
} ∷ record { number = 3; cause = never } ∷ [])
unfolding at horizon_program digits valued attempted turned dropped on_went went_on on_went_task closing ran call_end branch_started
    task_started armed arm_came arm_before arms_came element_came element_before behind_came told told_plain if_there if_known outside
    spends suspended defined scope_end or_stands settled arm_gave begins_scope stated claused generates_from levelled by_callee named
    membered main_bound on_next main_found main_spends
horizon = refl
