-- Runs of programs with tasks, computed: what stands, what is cancelled, what is undone.
use Rattle.std.proofs.Common.{◌≡◌, ℕ, [], ◌∷◌, None, Some, refl, true, false}
use Rattle.std.specs.Prelude.{pos, codes, cond}
use Rattle.std.specs.Fmt.{digits}
use Rattle.verse_base.specs.declared.places.Place.{Place}
use Rattle.verse_value.specs.Val.{int}
use Rattle.verse_value.specs.declared.runs.CellKind.TheVariants as cell
use Rattle.verse_value.specs.declared.runs.Ending.TheVariants as ending
use Rattle.verse_meaning_state.specs.Waits.{eqn}
use Rattle.verse_tree.specs.Tree.{Tree, tree, no_trees, more_trees, no_holes, more_holes}
use Rattle.verse_tree.specs.Tree as t
use Rattle.verse_tree.specs.ItemTree.{function}
use Rattle.verse_tree.specs.declared.tables.Ref.TheVariants as ref
use Rattle.verse_tree.specs.declared.tables.Ty.TheVariants as ty
use Rattle.verse_tree.specs.declared.exprs.Assign.TheVariants as assign
use Rattle.verse_tree.specs.declared.exprs.Comparison.TheVariants as cmp
use Rattle.verse_meaning.specs.Programs.{Program}
use Rattle.verse_meaning.specs.Outcomes.{ran, valued, attempted, turned, dropped, on_went, went_on, on_went_task, closing, call_end}
use Rattle.verse_meaning.specs.Outcomes.{branch_started, task_started, armed, arm_came, arm_before, arms_came, element_came, element_before}
use Rattle.verse_meaning.specs.Outcomes.{behind_came, told, told_plain, if_there, if_known, outside, spends, suspended}
use Rattle.verse_meaning.specs.Forms.{defined}
use Rattle.verse_meaning.specs.Evaluating.{scope_end, or_stands, settled, arm_gave, begins_scope, stated, claused, generates_from, levelled}
use Rattle.verse_meaning.specs.Evaluating.{by_callee, named, membered}
use Rattle.verse_meaning.specs.Runs.{main_bound, on_next, main_found, main_spends, mean}

at : ℕ → ℕ → Place
at l c = record { file = 0; line = l; col = c }

-- Where one arm is woken the backgrounds of the others go on.
--
-- Main()<suspends>:void =
--     sync:
--         block:
--             branch:
--                 Sleep(2.0)
--                 Print("b")
--             Sleep(3.0)
--         Sleep(1.0)
other_arms_stand_program : Program
other_arms_stand_program = record {
  items = (function (record {
    number = 12;
    place = (at 1 1);
    name = (codes
        "Main");
    specs = [];
    params = [];
    effects = [];
    written = t.Written.void;
    body = (tree 11 (at 2 5) (t.Shape.block (more_trees (tree 10 (at 2 5) (t.Shape.sync (more_trees (tree 8 (at 3 9) (t.Shape.block_form
        (tree 7 (at 4 13) (t.Shape.block (more_trees (tree 5 (at 4 13) (t.Shape.branch (tree 4 (at 5 17) (t.Shape.block (more_trees (tree 0
        (at 5 17) (t.Shape.sleep 2000)) (more_trees (tree 3 (at 6 22) (t.Shape.call (tree 1 (at 6 17) (t.Shape.name (codes "Print")))
        (more_trees (tree 2 (at 6 23) (t.Shape.text (codes "b"))) no_trees))) no_trees)))))) (more_trees (tree 6 (at 7 13) (t.Shape.sleep
        3000))
        no_trees)))))) (more_trees (tree 9 (at 8 9) (t.Shape.sleep 1000)) no_trees)))) no_trees)));
  }) ∷ []);
  is_array = λ n. false;
  is_event = λ
      n. false;
  names = record {
    funs = (record {
      params = [];
      result = ty.Void;
      effects = record {
        computes = false;
        transacts = false;
        decides = false;
        suspends = true;
      };
      item = 12;
    } ∷ []);
    classes = [];
    enums = [];
    refs = (None ∷ (Some (ref.Builtin 0)) ∷ None ∷ None ∷
        None ∷ None ∷ None ∷ None ∷ None ∷ None ∷ None ∷ None ∷ None ∷ None ∷ []);
  };
}

other_arms_stand : mean other_arms_stand_program [] 100 1000000 ≡ record {
  trace = (record { moment = 2000; bytes = (codes "b") } ∷ []);
  store = [];
  ending = ending.Done;
  now = 3000;
  steps = 7;
  live = (Some 0);
}
unfolding at other_arms_stand_program digits valued attempted turned dropped on_went went_on on_went_task closing ran call_end
    branch_started
    task_started armed arm_came arm_before arms_came element_came element_before behind_came told told_plain if_there if_known outside
    spends suspended defined scope_end or_stands settled arm_gave begins_scope stated claused generates_from levelled by_callee named
    membered main_bound on_next main_found main_spends
other_arms_stand = refl

-- A race that is over as it begins cancels the arms that have begun, and starts no other.
--
-- Main()<suspends>:void =
--     race:
--         block:
--             defer{Print("d")}
--             Sleep(1.0)
--             Print("no")
--         Print("a")
--         Print("not begun")
--     Sleep(2.0)
race_over_at_once_program : Program
race_over_at_once_program = record {
  items = (function (record {
    number = 20;
    place = (at 1 1);
    name = (codes
        "Main");
    specs = [];
    params = [];
    effects = [];
    written = t.Written.void;
    body = (tree 19 (at 2 5) (t.Shape.block (more_trees (tree 17 (at 2 5) (t.Shape.race (more_trees (tree 10 (at 3 9) (t.Shape.block_form
        (tree 9 (at 4 13) (t.Shape.block (more_trees (tree 4 (at 4 13) (t.Shape.defer (tree 3 (at 4 18) (t.Shape.block (more_trees (tree 2
        (at 4 24) (t.Shape.call (tree 0 (at 4 19) (t.Shape.name (codes "Print")))
        (more_trees (tree 1 (at 4 25) (t.Shape.text (codes
        "d"))) no_trees))) no_trees))))) (more_trees (tree 5 (at 5 13) (t.Shape.sleep 1000))
        (more_trees (tree 8 (at 6 18) (t.Shape.call (tree 6 (at 6 13) (t.Shape.name (codes "Print")))
        (more_trees (tree 7 (at 6 19) (t.Shape.text (codes "no"))) no_trees))) no_trees)))))))
        (more_trees (tree 13 (at 7 14) (t.Shape.call (tree 11 (at 7 9) (t.Shape.name (codes "Print")))
        (more_trees (tree 12 (at 7 15) (t.Shape.text (codes "a"))) no_trees)))
        (more_trees (tree 16 (at 8 14) (t.Shape.call (tree 14 (at 8 9) (t.Shape.name (codes "Print"))) (more_trees (tree 15
        (at 8 15) (t.Shape.text (codes "not begun"))) no_trees))) no_trees))))) (more_trees (tree 18 (at 9 5) (t.Shape.sleep 2000))
        no_trees))));
  }) ∷ []);
  is_array = λ n. false;
  is_event = λ n. false;
  names = record {
    funs = (record {
      params = [];
      result = ty.Void;
      effects =
          record { computes = false; transacts = false; decides = false; suspends = true };
      item = 20;
    } ∷ []);
    classes = [];
    enums = [];
    refs =
        ((Some (ref.Builtin 0)) ∷ None ∷ None ∷ None ∷ None ∷ None ∷ (Some (ref.Builtin 0)) ∷ None ∷ None ∷ None ∷ None ∷ (Some (ref.Builtin
        0))
        ∷ None ∷ None ∷ (Some (ref.Builtin 0)) ∷ None ∷ None ∷ None ∷ None ∷ None ∷ None ∷ None ∷ []);
  };
}

race_over_at_once : mean race_over_at_once_program [] 100 1000000 ≡ record {
  trace = (record {
    moment = 0;
    bytes = (codes
        "a");
  } ∷ record { moment = 0; bytes = (codes "d") } ∷ []);
  store = [];
  ending = ending.Done;
  now = 2000;
  steps = 5;
  live = (Some 0);
}
unfolding at race_over_at_once_program digits valued attempted turned dropped on_went went_on on_went_task closing ran call_end
    branch_started
    task_started armed arm_came arm_before arms_came element_came element_before behind_came told told_plain if_there if_known outside
    spends suspended defined scope_end or_stands settled arm_gave begins_scope stated claused generates_from levelled by_callee named
    membered main_bound on_next main_found main_spends
race_over_at_once = refl

-- The end of a scope runs the deferred blocks of what is behind it, behind its own.
--
-- Main()<suspends>:void =
--     branch:
--         defer{Print("b")}
--         Sleep(Inf)
--     defer{Print("m")}
--     Sleep(1.0)
scope_cancels_program : Program
scope_cancels_program = record {
  items = (function (record {
    number = 15;
    place = (at 1 1);
    name = (codes
        "Main");
    specs = [];
    params = [];
    effects = [];
    written = t.Written.void;
    body = (tree 14 (at 2 5) (t.Shape.block (more_trees (tree 7 (at 2 5) (t.Shape.branch (tree 6 (at 3 9) (t.Shape.block (more_trees (tree 4
        (at 3 9) (t.Shape.defer (tree 3 (at 3 14) (t.Shape.block (more_trees (tree 2 (at 3 20) (t.Shape.call (tree 0 (at 3 15) (t.Shape.name
        (codes "Print")))
        (more_trees (tree 1 (at 3 21) (t.Shape.text (codes
        "b"))) no_trees))) no_trees))))) (more_trees (tree 5 (at 4 9) t.Shape.sleep_forever) no_trees))))))
        (more_trees (tree 12 (at 5 5) (t.Shape.defer
        (tree 11 (at 5 10) (t.Shape.block (more_trees
        (tree 10 (at 5 16) (t.Shape.call (tree 8 (at 5 11) (t.Shape.name (codes "Print")))
        (more_trees (tree 9 (at 5 17) (t.Shape.text (codes "m"))) no_trees))) no_trees)))))
        (more_trees (tree 13 (at 6 5) (t.Shape.sleep 1000)) no_trees)))));
  }) ∷ []);
  is_array = λ n. false;
  is_event = λ n. false;
  names = record {
    funs = (record {
      params = [];
      result = ty.Void;
      effects = record { computes = false; transacts = false; decides = false; suspends = true };
      item = 15;
    } ∷ []);
    classes = [];
    enums = [];
    refs = ((Some (ref.Builtin 0)) ∷ None ∷ None ∷ None ∷ None ∷ None ∷ None ∷ None ∷ (Some (ref.Builtin 0)) ∷ None ∷ None ∷ None ∷ None ∷
        None ∷ None ∷ None ∷ None ∷ []);
  };
}

scope_cancels : mean scope_cancels_program [] 100 1000000 ≡ record {
  trace = (record {
    moment = 1000;
    bytes = (codes
        "m");
  } ∷ record { moment = 1000; bytes = (codes "b") } ∷ []);
  store = [];
  ending = ending.Done;
  now = 1000;
  steps = 5;
  live = (Some 0);
}
unfolding at scope_cancels_program digits valued attempted turned dropped on_went went_on on_went_task closing ran call_end branch_started
    task_started armed arm_came arm_before arms_came element_came element_before behind_came told told_plain if_there if_known outside
    spends suspended defined scope_end or_stands settled arm_gave begins_scope stated claused generates_from levelled by_callee named
    membered main_bound on_next main_found main_spends
scope_cancels = refl

-- Of two signals in one turn a wait gets the first; one signal wakes all waits before it, in their order.
--
-- W(E:event(int), N:int)<suspends>:void =
--     X := E.Await()
--     Print("{N} {X}")
--     Y := E.Await()
--     Print("{N} again {Y}")
-- Main()<suspends>:void =
--     E := event(int){}
--     spawn{W(E, 1)}
--     spawn{W(E, 2)}
--     Sleep(1.0)
--     E.Signal(5)
--     E.Signal(6)
--     Sleep(0.0)
--     E.Signal(7)
one_signal_program : Program
one_signal_program = record {
  items = (function (record {
    number = 21;
    place = (at 1 1);
    name = (codes
        "W");
    specs = [];
    params = (record { number = 0; place = (at 1 3); name = (codes "E"); written = t.Written.void } ∷ record {
      number = 1;
      place = (at 1 17);
      name = (codes
          "N");
      written = t.Written.void;
    } ∷ []);
    effects = [];
    written = t.Written.void;
    body = (tree 20 (at 2 5) (t.Shape.block (more_trees (tree 5 (at 2 5) (t.Shape.definition (codes "X")
        (tree 4 (at 2 17) (t.Shape.call (tree 3 (at 2 11) (t.Shape.member (tree 2 (at 2 10) (t.Shape.name (codes "E"))) (codes "Await")))
        no_trees)))) (more_trees (tree 10 (at 3 10) (t.Shape.call (tree 6 (at 3 5) (t.Shape.name (codes
        "Print"))) (more_trees (tree 9 (at 3 11) (t.Shape.holes [] (more_holes (tree 7 (at 3 13) (t.Shape.name (codes "N"))) (codes " ")
        (more_holes (tree 8 (at 3 17) (t.Shape.name (codes
        "X"))) [] no_holes)))) no_trees))) (more_trees (tree 14 (at 4 5) (t.Shape.definition (codes "Y") (tree 13 (at 4 17) (t.Shape.call
        (tree
        12 (at 4 11) (t.Shape.member (tree 11 (at 4 10) (t.Shape.name (codes "E"))) (codes "Await"))) no_trees)))) (more_trees (tree 19 (at
        5
        10) (t.Shape.call (tree 15 (at 5 5) (t.Shape.name (codes
        "Print"))) (more_trees (tree 18 (at 5 11) (t.Shape.holes [] (more_holes (tree 16 (at 5 13) (t.Shape.name (codes "N"))) (codes
        " again ")
        (more_holes (tree 17 (at 5 23) (t.Shape.name (codes
        "Y"))) [] no_holes)))) no_trees))) no_trees))))));
  }) ∷ function (record {
    number = 49;
    place = (at 6 1);
    name = (codes "Main");
    specs =
        [];
    params = [];
    effects = [];
    written = t.Written.void;
    body = (tree 48 (at 7 5) (t.Shape.block (more_trees (tree 23 (at 7 5)
        (t.Shape.definition (codes
        "E") (tree 22 (at 7 10) (t.Shape.event t.Written.void))))
        (more_trees (tree 28 (at 8 5) (t.Shape.spawn
        (tree 27 (at 8 12) (t.Shape.call (tree 24 (at 8 11) (t.Shape.name (codes "W")))
        (more_trees (tree 25 (at 8 13) (t.Shape.name (codes "E"))) (more_trees (tree 26 (at 8 16) (t.Shape.integer (pos 1))) no_trees))))))
        (more_trees (tree 33 (at 9 5) (t.Shape.spawn
        (tree 32 (at 9 12) (t.Shape.call (tree 29 (at 9 11) (t.Shape.name (codes "W")))
        (more_trees (tree 30 (at 9 13) (t.Shape.name (codes "E"))) (more_trees (tree 31 (at 9 16) (t.Shape.integer (pos 2))) no_trees))))))
        (more_trees (tree 34 (at 10 5) (t.Shape.sleep 1000))
        (more_trees (tree 38 (at 11 13) (t.Shape.call
        (tree 36 (at 11 6) (t.Shape.member (tree 35 (at 11 5) (t.Shape.name (codes "E"))) (codes "Signal")))
        (more_trees (tree 37 (at 11 14) (t.Shape.integer (pos 5))) no_trees)))
        (more_trees (tree 42 (at 12 13) (t.Shape.call
        (tree 40 (at 12 6) (t.Shape.member (tree 39 (at 12 5) (t.Shape.name (codes "E"))) (codes "Signal")))
        (more_trees (tree 41 (at 12 14) (t.Shape.integer (pos 6))) no_trees)))
        (more_trees (tree 43 (at 13 5) (t.Shape.sleep 0))
        (more_trees (tree 47 (at 14 13) (t.Shape.call
        (tree 45 (at 14 6) (t.Shape.member (tree 44 (at 14 5) (t.Shape.name (codes "E"))) (codes "Signal")))
        (more_trees (tree 46 (at 14 14) (t.Shape.integer (pos 7))) no_trees))) no_trees))))))))));
  }) ∷ []);
  is_array = λ n.
      false;
  is_event = λ n. cond (eqn n 2) true (eqn n 11);
  names = record {
    funs = (record {
      params = [];
      result = ty.Void;
      effects = record
          { computes = false; transacts = false; decides = false; suspends = true };
      item = 21;
    } ∷ record {
      params = [];
      result = ty.Void;
      effects
          = record { computes = false; transacts = false; decides = false; suspends = true };
      item = 49;
    } ∷ []);
    classes = [];
    enums = [];
    refs =
        (None ∷ None ∷ (Some (ref.Local 0)) ∷ None ∷ None ∷ None ∷ (Some (ref.Builtin 0)) ∷ (Some (ref.Local 1)) ∷ (Some (ref.Local 5)) ∷
        None ∷
        None ∷ (Some (ref.Local 0)) ∷ None ∷ None ∷ None ∷ (Some (ref.Builtin 0)) ∷ (Some (ref.Local 1)) ∷ (Some (ref.Local 14)) ∷ None ∷
        None ∷
        None ∷ None ∷ None ∷ None ∷ (Some (ref.Fun 0)) ∷ (Some (ref.Local 23)) ∷ None ∷ None ∷ None ∷ (Some (ref.Fun 0)) ∷ (Some (ref.Local
        23))
        ∷ None ∷ None ∷ None ∷ None ∷ (Some (ref.Local 23)) ∷ None ∷ None ∷ None ∷ (Some (ref.Local 23)) ∷ None ∷ None ∷ None ∷ None ∷ (Some
        (ref.Local 23)) ∷ None ∷ None ∷ None ∷ None ∷ None ∷ None ∷ []);
  };
}

one_signal : mean one_signal_program [] 100 1000000 ≡ record {
  trace = (record { moment = 1000; bytes = (codes "1 5") } ∷ record {
    moment =
        1000;
    bytes = (codes "2 5");
  } ∷ record { moment = 1000; bytes = (codes "1 again 7") } ∷ record {
    moment = 1000;
    bytes = (codes
        "2 again 7");
  } ∷ []);
  store = (record { kind = cell.Event; slots = [] } ∷ []);
  ending = ending.Done;
  now = 1000;
  steps = 9;
  live = (Some
      0);
}
unfolding at one_signal_program digits valued attempted turned dropped on_went went_on on_went_task closing ran call_end branch_started
    task_started armed arm_came arm_before arms_came element_came element_before behind_came told told_plain if_there if_known outside
    spends suspended defined scope_end or_stands settled arm_gave begins_scope stated claused generates_from levelled by_callee named
    membered main_bound on_next main_found main_spends
one_signal = refl

-- A value that a `for` does not take is undone, and so is the operand of a `not`.
--
-- Main():void =
--     var N:int = 0
--     R := for (I := 1..3, set N += 1, Print("{I}"), I <> 2) { N }
--     if (not block{set N = 9; 1 > 2}):
--         Print("{N} {R.Length}")
undone_values_program : Program
undone_values_program = record {
  items = (function (record {
    number = 37;
    place = (at 1 1);
    name = (codes
        "Main");
    specs = [];
    params = [];
    effects = [];
    written = t.Written.void;
    body = (tree 36 (at 2 5) (t.Shape.block (more_trees (tree 1 (at 2 5) (t.Shape.variable (codes "N")
        t.Written.void (tree 0 (at 2 17) (t.Shape.integer (pos 0))))) (more_trees (tree 18 (at 3 5) (t.Shape.definition (codes
        "R") (tree 17 (at 3 10) (t.Shape.for_form (more_trees (tree 4 (at 3 15) (t.Shape.range (codes "I") (tree 2 (at 3 20)
        (t.Shape.integer
        (pos 1))) (tree 3 (at 3 23) (t.Shape.integer (pos 3))))) (more_trees (tree 7 (at 3 26) (t.Shape.assignment assign.Add (tree 5 (at 3
        30)
        (t.Shape.name (codes
        "N"))) (tree 6 (at 3 35) (t.Shape.integer (pos 1)))))
        (more_trees (tree 11 (at 3 43) (t.Shape.call (tree 8 (at 3 38) (t.Shape.name (codes "Print")))
        (more_trees (tree 10 (at 3 44) (t.Shape.holes [] (more_holes (tree 9 (at 3 46) (t.Shape.name (codes "I"))) [] no_holes)))
        no_trees))) (more_trees (tree 14 (at 3 54)
        (t.Shape.compared cmp.Differs (tree 12 (at 3 52) (t.Shape.name (codes "I"))) (tree 13 (at 3 57) (t.Shape.integer (pos 2)))))
        no_trees)))) (tree 16 (at 3 60) (t.Shape.block (more_trees (tree 15 (at 3 62) (t.Shape.name (codes "N"))) no_trees)))))))
        (more_trees (tree 35 (at 4 5) (t.Shape.if_alone
        (more_trees (tree 27 (at 4 9) (t.Shape.negation
        (tree 26 (at 4 13) (t.Shape.block_form (tree 25 (at 4 18)
        (t.Shape.block (more_trees (tree 21 (at 4 19)
        (t.Shape.assignment assign.Set (tree 19 (at 4 23) (t.Shape.name (codes "N"))) (tree 20 (at 4 27) (t.Shape.integer (pos 9)))))
        (more_trees (tree 24 (at 4 32) (t.Shape.compared cmp.Above (tree 22 (at 4 30) (t.Shape.integer (pos 1)))
        (tree 23 (at 4 34) (t.Shape.integer (pos 2))))) no_trees)))))))) no_trees)
        (tree 34 (at 5 9) (t.Shape.block (more_trees
        (tree 33 (at 5 14) (t.Shape.call (tree 28 (at 5 9) (t.Shape.name (codes "Print")))
        (more_trees (tree 32 (at 5 15) (t.Shape.holes []
        (more_holes (tree 29 (at 5 17) (t.Shape.name (codes "N"))) (codes " ")
        (more_holes (tree 31 (at 5 22) (t.Shape.member (tree 30 (at 5 21) (t.Shape.name (codes "R"))) (codes "Length"))) [] no_holes))))
        no_trees))) no_trees))))) no_trees)))));
  }) ∷ []);
  is_array = λ n. false;
  is_event = λ n. false;
  names = record {
    funs = (record {
      params
          = [];
      result = ty.Void;
      effects = record { computes = false; transacts = false; decides = false; suspends = false };
      item = 37;
    } ∷ []);
    classes = [];
    enums = [];
    refs = (None ∷ None ∷ None ∷ None ∷ None ∷ (Some (ref.Local 1)) ∷ None ∷ None ∷ (Some (ref.Builtin 0)) ∷ (Some
        (ref.Local 4)) ∷ None ∷ None ∷ (Some (ref.Local 4)) ∷ None ∷ None ∷ (Some (ref.Local 1)) ∷ None ∷ None ∷ None ∷ (Some (ref.Local 1))
        ∷
        None ∷ None ∷ None ∷ None ∷ None ∷ None ∷ None ∷ None ∷ (Some (ref.Builtin 0)) ∷ (Some (ref.Local 1)) ∷ (Some (ref.Local 18)) ∷ None
        ∷
        None ∷ None ∷ None ∷ None ∷ None ∷ None ∷ None ∷ []);
  };
}

undone_values : mean undone_values_program [] 100 1000000 ≡ record {
  trace = (record {
    moment = 0;
    bytes = (codes
        "1");
  } ∷ record { moment = 0; bytes = (codes "3") } ∷ record { moment = 0; bytes = (codes "2 2") } ∷ []);
  store = (record {
    kind =
        cell.Var;
    slots = ((int (pos 2)) ∷ []);
  } ∷ []);
  ending = ending.Done;
  now = 0;
  steps = 4;
  live = (Some 0);
}
unfolding at undone_values_program digits valued attempted turned dropped on_went went_on on_went_task closing ran call_end branch_started
    task_started armed arm_came arm_before arms_came element_came element_before behind_came told told_plain if_there if_known outside
    spends suspended defined scope_end or_stands settled arm_gave begins_scope stated claused generates_from levelled by_callee named
    membered main_bound on_next main_found main_spends
undone_values = refl

-- The last step is spent in a deferred block of a cancelled task.
--
-- Main()<suspends>:void =
--     race:
--         block:
--             defer{Print("first")}
--             defer{Print("second")}
--             Sleep(Inf)
--         Sleep(1.0)
--     Print("after")
steps_in_cancelled_program : Program
steps_in_cancelled_program = record {
  items = (function (record {
    number = 19;
    place = (at 1 1);
    name = (codes
        "Main");
    specs = [];
    params = [];
    effects = [];
    written = t.Written.void;
    body = (tree 18 (at 2 5) (t.Shape.block (more_trees (tree 14 (at 2 5) (t.Shape.race (more_trees (tree 12 (at 3 9) (t.Shape.block_form
        (tree 11 (at 4 13) (t.Shape.block (more_trees (tree 4 (at 4 13) (t.Shape.defer (tree 3 (at 4 18) (t.Shape.block (more_trees (tree 2
        (at 4 24) (t.Shape.call (tree 0 (at 4 19) (t.Shape.name (codes "Print")))
        (more_trees (tree 1 (at 4 25) (t.Shape.text (codes
        "first"))) no_trees))) no_trees))))) (more_trees
        (tree 9 (at 5 13) (t.Shape.defer (tree 8 (at 5 18)
        (t.Shape.block (more_trees (tree 7 (at 5 24)
        (t.Shape.call (tree 5 (at 5 19) (t.Shape.name (codes "Print")))
        (more_trees (tree 6 (at 5 25) (t.Shape.text (codes "second"))) no_trees))) no_trees)))))
        (more_trees (tree 10 (at 6 13) t.Shape.sleep_forever) no_trees)))))))
        (more_trees (tree 13 (at 7 9) (t.Shape.sleep 1000)) no_trees))))
        (more_trees (tree 17 (at 8 10) (t.Shape.call (tree 15 (at 8 5) (t.Shape.name (codes "Print")))
        (more_trees (tree 16 (at 8 11) (t.Shape.text (codes "after"))) no_trees))) no_trees))));
  }) ∷ []);
  is_array = λ n. false;
  is_event = λ n.
      false;
  names = record {
    funs = (record {
      params = [];
      result = ty.Void;
      effects = record {
        computes = false;
        transacts = false;
        decides
            = false;
        suspends = true;
      };
      item = 19;
    } ∷ []);
    classes = [];
    enums = [];
    refs = ((Some (ref.Builtin 0)) ∷ None ∷ None ∷ None ∷ None ∷
        (Some (ref.Builtin 0)) ∷ None ∷ None ∷ None ∷ None ∷ None ∷ None ∷ None ∷ None ∷ None ∷ (Some (ref.Builtin 0)) ∷ None ∷ None ∷ None
        ∷
        None ∷ None ∷ []);
  };
}

steps_in_cancelled : mean steps_in_cancelled_program [] 5 1000000 ≡ record {
  trace = (record { moment = 1000; bytes = (codes "second") } ∷
      []);
  store = [];
  ending = ending.Steps;
  now = 1000;
  steps = 5;
  live = None;
}
unfolding at steps_in_cancelled_program digits valued attempted turned dropped on_went went_on on_went_task closing ran call_end
    branch_started
    task_started armed arm_came arm_before arms_came element_came element_before behind_came told told_plain if_there if_known outside
    spends suspended defined scope_end or_stands settled arm_gave begins_scope stated claused generates_from levelled by_callee named
    membered main_bound on_next main_found main_spends
steps_in_cancelled = refl
