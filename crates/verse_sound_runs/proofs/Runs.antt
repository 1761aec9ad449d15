-- The run of a program that the checker has found sorts for is never stuck.
use Rattle.std.proofs.Common.{◌≡◌, ◌≢◌, ℕ, zero, suc, ℤ, true, false, List, [], ◌∷◌, Some, None, refl, sym}
use Rattle.std.proofs.Common.{subst}
use Rattle.std.specs.Prelude.{map}
use Rattle.verse_tree.specs.ItemTree.{ParamTree}
use Rattle.verse_value.specs.Val as v
use Rattle.verse_value.specs.Val.{vals}
use Rattle.verse_value.specs.declared.runs.Ending.TheVariants as ending
use Rattle.verse_meaning_state.specs.State.{State, begun, stepped}
use Rattle.verse_meaning_state.specs.Turns.{Stage, turns, run_of}
use Rattle.verse_names_tables.specs.Names.{Table}
use Rattle.verse_sorts.specs.Sorts as s
use Rattle.verse_sorts.specs.Sorts.{Sort}
use Rattle.verse_sorts.specs.Typing.{Typing, AreAll, Are, are_no, are_so, no_all, more_all, is_int, is_list}
use Rattle.verse_sorts.proofs.Fitting.{grows_itself}
use Rattle.verse_sorts_values.specs.Cells.{cells_no}
use Rattle.verse_meaning.specs.Programs.{Program}
use Rattle.verse_meaning.specs.Residuals.{Env, root, none}
use Rattle.verse_meaning.specs.Outcomes.{world}
use Rattle.verse_meaning.specs.Runs.{with_params, inputs_of, entered, deeper, Forest, forest_leaves, came, main_found, main_bound}
use Rattle.verse_meaning.specs.Runs.{main_spends, turn_taken, started, after, mean}
use Rattle.verse_meaning.specs.Laws.{ContextLeaves, ContextUndoes, CancelLeaves}
use Rattle.verse_meaning.specs.RunLaws.{StepsCount}
use Rattle.verse_sound_rules.specs.Found.{Found}
use Rattle.verse_sound_rules.specs.Fine.{sort_at}
use Rattle.verse_sound_rules.specs.Programs.{FineFound, FineMain, FineParams, Inputs, no_inputs, has_inputs, params_behind}
use Rattle.verse_sound_trees.specs.Names.{no_this}
use Rattle.verse_sound_trees.specs.Going.{turns as for_turns, KeptIn, LeftScope}
use Rattle.verse_sound_trees.specs.Bounds.{Bounds}
use Rattle.verse_sound_trees.proofs.Scopes.{scope_typed}
use Rattle.verse_sound_trees.proofs.Trees.{ev_well}
use Rattle.verse_sound_runs.proofs.Calls.{no_true, params_typed, sees_this, known_at, at_top}
use Rattle.verse_sound_runs.proofs.Turns.{Sound, goes_on, is_done, is_waiting, is_until, is_out, breaks_off, breaks_out}
use Rattle.verse_sound_runs.proofs.Turns.{came_sound, turn_sound}
use Rattle.verse_sound_runs.proofs.Steps.{NotGoing, run_ends}

-- nothing is there as a run begins
abbrev pub nothing : Typing
nothing = record { cells = []; entries = []; waits = []; parts = λ i. None }

module _ (p : Program) (f : Found) where
  ints_are : (ns : List ℤ) → AreAll f.up nothing (vals (map v.int ns)) s.int
  ints_are [] = no_all
  ints_are (n ∷ ns) = more_all is_int (ints_are ns)

  inputs_are : (xs : Table) (ps : List ParamTree) (qs : List Sort) (ns : List ℤ) → Inputs qs → FineParams p f xs ps qs →
      Are f.up nothing (inputs_of ps ns) qs
  inputs_are xs [] [] ns no_inputs h = are_no
  inputs_are xs (x ∷ ps) [] ns no_inputs h = absurd h
  inputs_are xs [] (q ∷ qs) ns i h = absurd h
  inputs_are xs (x ∷ ps) (q ∷ qs) ns has_inputs h = are_so (is_list (ints_are ns)) are_no

  in_main : (b r : Sort) → Bounds f (root None) (record { fails = false; result = Some r; breaks = false; waits = true; this = None })
      false b s.none
  in_main b r = record {
    fails = λ h. no_true h;
    returns = λ z h. (tt, s.to_none);
    breaks = λ h. no_true h;
    value = s.to_none;
  }

  module _ (leave : (g : ℕ) → ContextLeaves p g) (undo : (g : ℕ) → ContextUndoes p (deeper p g)) (cancel : (g : ℕ) →
      CancelLeaves p (deeper p g)) (fine : FineFound p f) where
    start_typed : (n g : ℕ) (st : State) (m : FineMain p f) (e : Env) → KeptIn p f (LeftScope p f n) nothing (world st none []) →
        Rattle.verse_sound_trees.specs.Names.Sees f nothing None (params_behind m.function.params []) e →
        Sound p f n (came [] (entered p (deeper p g) (root None) m.function e true (world st none [])))
    start_typed n g st m e k see =
        came_sound p f n nothing s.none [] tt
        (scope_typed p f cancel n g (root None) nothing (record {
          fails = false;
          result = Some m.result;
          breaks = false;
          waits = true;
          this = None;
        }) false
        (sort_at p f m.function.body) s.none none (in_main (sort_at p f m.function.body) m.result) tt tt
        (ev_well p f (for_turns n) g (known_at p f leave undo cancel fine n g) m.function.body
        (record { fails = false; result = Some m.result; breaks = false; waits = true; this = None })
        (params_behind m.function.params []) nothing e m.body see
        (for_turns n) g (at_top p f leave undo cancel fine n g) tt nothing (world st none []) grows_itself k))

    begun_kept : (n left : ℕ) → KeptIn p f (LeftScope p f n) nothing (world (stepped left (begun (suc left))) none [])
    begun_kept n left = record {
      cells = cells_no;
      clock = record { entries = refl; waits = refl; results = λ i a h. no_entry h; signals = tt };
      behind = tt;
      tasks = tt;
    }
      where
        no_entry : {A B : Type 0} {x : A} → None ≡ Some x → B
        no_entry h = cc

    spends_sound : (n steps : ℕ) (m : FineMain p f) (e : Env) → Rattle.verse_sound_trees.specs.Names.Sees f nothing None
        (params_behind m.function.params []) e →
        Sound p f n (main_spends steps (begun steps) (λ s. came [] (entered p (deeper p s.clock.left) (root None) m.function e true
        (world s none []))))
    unfolding main_spends
    spends_sound n zero m e see = breaks_out
    spends_sound n (suc left) m e see = start_typed n left (stepped left (begun (suc left))) m e (begun_kept n left) see

    started_sound : (n : ℕ) (ns : List ℤ) (steps : ℕ) → Sound p f n (started p ns steps)
    unfolding main_found main_bound
    started_sound n ns steps =
        let m = fine.main in
        let q = params_typed p f nothing None m.function.params m.inputs (inputs_of m.function.params ns) [] [] m.params
        (inputs_are [] m.function.params m.inputs ns m.are m.params) (sees_this p f nothing None None no_this) in
        subst (λ z. Sound p f n (main_found z (begun steps) (λ fn. main_bound (with_params fn.params (inputs_of fn.params ns) [])
        (begun steps) (λ e.
        main_spends steps (begun steps) (λ s. came [] (entered p (deeper p s.clock.left) (root None) fn e true (world s none [])))))))
        (sym m.found)
        (subst (λ z. Sound p f n (main_bound z (begun steps) (λ e.
        main_spends steps (begun steps) (λ s. came [] (entered p (deeper p s.clock.left) (root None) m.function e true
        (world s none [])))))) (sym q.is)
        (spends_sound n steps m q.env q.sees))

    turns_sound : (n until : ℕ) (x : Stage Forest) → Sound p f n x → Sound p f zero (turns (turn_taken p until) n x)
    turns_sound zero until x h = h
    turns_sound (suc n) until x (goes_on {st} {fs} t k) = turns_sound n until (turn_taken p until st fs) (turn_sound p f n until t st fs k)
    turns_sound (suc n) until x is_done = is_done
    turns_sound (suc n) until x is_waiting = is_waiting
    turns_sound (suc n) until x is_until = is_until
    turns_sound (suc n) until x is_out = is_out
    turns_sound (suc n) until x breaks_off = breaks_off
    turns_sound (suc n) until x breaks_out = breaks_out

    pub after_sound : (ns : List ℤ) (steps until k : ℕ) → Sound p f zero (after p ns steps until k)
    after_sound ns steps until k = turns_sound k until (started p ns steps) (started_sound k ns steps)

    not_stuck : (count : StepsCount p) (x : Stage Forest) → Sound p f zero x → NotGoing p count x →
        (run_of forest_leaves x).ending ≢ ending.Stuck
    not_stuck count x (goes_on t k) h = absurd h
    not_stuck count x is_done h = λ e. cc
    not_stuck count x is_waiting h = λ e. cc
    not_stuck count x is_until h = λ e. cc
    not_stuck count x is_out h = λ e. cc
    not_stuck count x breaks_off h = λ e. cc
    not_stuck count x breaks_out h = λ e. cc

    pub mean_sound : StepsCount p → (ns : List ℤ) (steps until : ℕ) → (mean p ns steps until).ending ≢ ending.Stuck
    mean_sound count ns steps until =
        not_stuck count (after p ns steps until (suc steps)) (after_sound ns steps until (suc steps)) (run_ends p count ns steps until)

    right_of : (x : Stage Forest) → Sound p f zero x → Rattle.verse_sound_runs.specs.Laws.GoesRight x
    right_of x (goes_on t k) = tt
    right_of x is_done = λ e. cc
    right_of x is_waiting = λ e. cc
    right_of x is_until = λ e. cc
    right_of x is_out = λ e. cc
    right_of x breaks_off = λ e. cc
    right_of x breaks_out = λ e. cc

    pub after_right : (ns : List ℤ) (steps until k : ℕ) → Rattle.verse_sound_runs.specs.Laws.GoesRight (after p ns steps until k)
    after_right ns steps until k = right_of (after p ns steps until k) (after_sound ns steps until k)
