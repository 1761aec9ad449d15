-- A run that stopped at its horizon, resumed from what was kept of it.
use Rattle.std.proofs.Common.{◌≡◌, ℕ, zero, suc, ◌+◌, ◌≤◌, List, [], ◌∷◌, ◌++◌, Option, Some, None, refl, sym, ap, ◌∙◌, subst, arith}
use Rattle.std.specs.Prelude.{ℤ, slice_get}
use Rattle.std.proofs.lemmas.List.{append-nil}
use Rattle.verse_code.specs.declared.codes.Func.{Func}
use Rattle.verse_code.specs.declared.codes.Code.{Code}
use Rattle.verse_value.specs.Runs.{Line}
use Rattle.verse_value.specs.declared.runs.Ending.TheVariants as ending
use Rattle.verse_meaning_state.specs.State.{State, Before, Given, Signal, begun, at_moment, set_at}
use Rattle.verse_meaning_state.specs.Turns.{closed}
use Rattle.verse_code_machine.specs.Tasks.{Step, Next, Over, Turn, tree_waits}
use Rattle.verse_code_machine.specs.Frames.{on_there}
use Rattle.verse_code_machine.specs.Ends.{woken_in}
use Rattle.verse_code_machine.specs.Runs.{Forest, carried, room, stage_of, turn_taken, started, main_starts}
use Rattle.verse_code_machine.specs.Laws.{IsOver, RunsEnd}
use Rattle.verse_code_machine_saved.specs.Horizons.{NoLater, NoResultLater, NoneNewer, Unheard, Undone, Stopped, after_from, run_from}
use Rattle.verse_code_machine_saved.specs.Numbers.{Numbering, state_as, step_as, trees_as, renumbered}
use Rattle.verse_code_machine_saved.specs.Resuming.{apart, behind, prior, SameTrees, Within, RunResumed, RunResumedAgain, ResumedRunEnds}
use Rattle.verse_code_machine_saved.specs.Resuming.{StepsKept}
use Rattle.verse_code_machine_saved.proofs.Horizons.{on_step, goes_more, horizon_moves, horizon_moves_again, stopped_turn, stopped_again}
use Rattle.verse_code_machine_saved.proofs.Reached.{none_reached}
use Rattle.verse_code_machine_saved.proofs.Settings.{Setting, Keeping, StepIs, Same, all_trees, others, steps_is}
use Rattle.verse_code_machine_saved.proofs.Runs.{all_waits, comes, everywhere, carried_alike, turns_alike, ClosedIs, closed_is, run_behind}
use Rattle.verse_code_machine_saved.proofs.Runs.{run_renumbered_to, runs_alike, over_behind, behind_over, none_unheard}

newer_more : (n : ℕ) (gs : List Signal) → NoneNewer n gs → NoneNewer (suc n) gs
newer_more n [] h = tt
newer_more n (g ∷ gs) h = (omega (arith, h.0), newer_more n gs h.1)

newer_last : (n : ℕ) (gs : List Signal) (g : Signal) → g.next ≤ n → NoneNewer n gs → NoneNewer n (gs ++ g ∷ [])
newer_last n [] g h a = (h, tt)
newer_last n (x ∷ gs) g h a = (a.0, newer_last n gs g h a.1)

later_last : (m : ℕ) (gs : List Signal) (g : Signal) → g.given.moment ≤ m → NoLater m gs → NoLater m (gs ++ g ∷ [])
later_last m [] g h a = (h, tt)
later_last m (x ∷ gs) g h a = (a.0, later_last m gs g h a.1)

none_last : (m : ℕ) (rs : List (Option Given)) → NoResultLater m rs → NoResultLater m (rs ++ None ∷ [])
none_last m [] a = tt
none_last m (None ∷ rs) a = none_last m rs a
none_last m (Some g ∷ rs) a = (a.0, none_last m rs a.1)

set_later : (m : ℕ) (rs : List (Option Given)) (e : ℕ) (g : Given) → g.moment ≤ m → NoResultLater m rs →
    NoResultLater m (set_at rs e (Some g))
set_later m [] e g h a = tt
set_later m (None ∷ rs) zero g h a = (h, a)
set_later m (Some x ∷ rs) zero g h a = (h, a.1)
set_later m (None ∷ rs) (suc e) g h a = set_later m rs e g h a
set_later m (Some x ∷ rs) (suc e) g h a = (a.0, set_later m rs e g h a.1)

within_keeps : (until : ℕ) → Keeping (Within until)
within_keeps until = record {
  steps = λ l s e h. record { now = h.now; signals = h.signals; results = h.results; newer = h.newer };
  draws = λ s h. record {
    now = h.now;
    signals = h.signals;
    results = h.results;
    newer = newer_more s.clock.next s.clock.signals h.newer;
  };
  memory = λ m s h. record { now = h.now; signals = h.signals; results = h.results; newer = h.newer };
  result = λ e v s h. record {
    now = h.now;
    signals = h.signals;
    results = set_later until s.clock.results e _ h.now h.results;
    newer = h.newer;
  };
  signal = λ e v s h. record {
    now = h.now;
    signals = later_last until s.clock.signals _ h.now h.signals;
    results = h.results;
    newer = newer_last s.clock.next s.clock.signals _ (omega arith) h.newer;
  };
  entry = λ s h. record { now = h.now; signals = h.signals; results = none_last until s.clock.results h.results; newer = h.newer };
}

seen : (k : Setting) (q : Step) → StepIs k q → Same k q (step_as k.prior q)
seen k q h = record { is = refl; holds = h }

-- what holds at the start of a run and is kept, holds at a horizon
module _ (P : State → Type 0) (keeps : Keeping P) (until : ℕ) (moves : (m : ℕ) (s : State) → m ≤ until → P s → P (at_moment m s)) where
  -- a run seen from itself
  abbrev itself : (bound : ℕ) → Before → Setting
  itself bound before = record {
    prior = record { numbers = λ a n. n; signals = []; lines = []; before = before };
    bound = bound;
    apart = λ a n k e. e;
    IsPath = λ a. Unit {0};
    rises = λ a e n k h. h;
    fixed = λ a n h. refl;
    Holds = P;
    keeps = keeps;
    IsWait = λ w. Unit {0};
    new = λ c s h. tt;
  }

  start_is : (ns : List ℤ) (steps : ℕ) (f : Option Func) → P (begun steps) →
      StepIs (itself steps (record { bytes = 0; lines = 0 })) (on_there f (begun steps) (λ f. main_starts ns (begun steps) f))
  start_is ns steps None h = tt
  start_is ns zero (Some f) h = tt
  start_is ns (suc l) (Some f) h =
      let k = itself (suc l) (record { bytes = 0; lines = 0 }) in
      (steps_is k l (begun (suc l)) refl (record { few = omega arith; counts = refl; holds = h }), others k tt tt tt tt tt)

  at_horizon : (c : Code) (ns : List ℤ) (steps : ℕ) (s : State) (tss : Forest) → P (begun steps) → Stopped c ns steps until s tss → P s
  at_horizon c ns steps s tss h e =
      let k = itself steps (record { bytes = 0; lines = 0 }) in
      let a = everywhere k c (λ a. tt) in
      (subst (ClosedIs k c a) e
      (closed_is k c a _ _ (turns_alike k c a (λ w h e f. refl) steps until moves (suc steps) (started c ns steps) _
      (carried_alike k c a (room c steps) _ _ (comes _) (seen k _ (start_is ns steps (slice_get c.functions c.main) h)))))).holds

  at_next_horizon : (c : Code) (steps : ℕ) (s t : State) (tss uss : Forest) → P s →
      after_from c steps until s tss ≡ closed ending.Until t uss → P t
  at_next_horizon c steps s t tss uss h e =
      let k = itself s.clock.left s.clock.before in
      let a = everywhere k c (λ a. tt) in
      (subst (ClosedIs k c a) e (closed_is k c a _ _ (runs_alike k c a (λ w h e f. refl) steps until moves s tss (record {
        few = omega arith;
        counts = omega arith;
        holds = h;
      }) (all_trees k (λ w. tt) tss) tt))).holds

moves : (until m : ℕ) (s : State) → m ≤ until → Within until s → Within until (at_moment m s)
moves until m s e h = record { now = e; signals = h.signals; results = h.results; newer = h.newer }

steps_are : (steps : ℕ) → Keeping (λ s. s.clock.left + s.clock.spent ≡ steps)
steps_are steps = record {
  steps = λ l s e h. omega (arith, e, h);
  draws = λ s h. h;
  memory = λ m s h. h;
  result = λ e v s h. h;
  signal = λ e v s h. h;
  entry = λ s h. h;
}

pub steps_kept : StepsKept
steps_kept c ns steps until s tss e = at_horizon _ (steps_are steps) until (λ m s e h. h) c ns steps s tss (omega arith) e

-- what was kept, behind what was not, is the state
abbrev with_parts : State → List Line → List Signal → State
with_parts s ls gs = record {
  memory = record { store = s.memory.store; trace = ls };
  clock = record s.clock { signals = gs };
}

whole : (r : Numbering) (s : State) → state_as (prior r s) (apart s) ≡ s
whole r s = ap (λ ls. with_parts s ls (s.clock.signals ++ [])) (append-nil s.memory.trace) ∙
    ap (with_parts s s.memory.trace) (append-nil s.clock.signals)

same_waits : (s : State) (tss uss : Forest) → SameTrees s tss uss → tree_waits tss ≡ tree_waits uss
same_waits s tss uss m = sym (all_waits (renumbered m.own s) tss) ∙ ap tree_waits m.meet ∙ all_waits (prior m.other s) uss

resumed : (c : Code) (steps v : ℕ) (s : State) (tss uss : Forest) → SameTrees s tss uss → NoneNewer s.clock.next s.clock.signals →
    Unheard s.clock.signals (tree_waits tss) → behind s.memory.trace (run_from c steps v (apart s) uss) ≡ run_from c steps v s tss
resumed c steps v s tss uss m newer unheard =
    let z = prior m.other s in
    sym (run_behind c steps v z (apart s) uss m.other_rises m.other_fixed refl newer
    (subst (Unheard s.clock.signals) (same_waits s tss uss m) unheard)) ∙
    ap (λ u. run_from c steps v u (trees_as z uss)) (whole m.other s) ∙ ap (run_from c steps v s) (sym m.meet) ∙
    run_renumbered_to c steps v s tss m.own m.own_rises m.own_fixed

not_closed : (q : Step) (s : State) (tss : Forest) → stage_of q ≡ closed ending.Until s tss → ⊥
not_closed (Next m) s tss e = grind (arith, e)
not_closed (Over x t) s tss e = grind (arith, e)
not_closed (Turn t uss) s tss e = grind (arith, e)

-- what holds of a run that has stopped
record AtRest (until : ℕ) (s : State) (tss : Forest) : Type 0 where
  newer : NoneNewer s.clock.next s.clock.signals
  unheard : Unheard s.clock.signals (tree_waits tss)
  undone : Undone s.clock.results (tree_waits tss)

rests : (c : Code) (steps until : ℕ) (s : State) (tss : Forest) → Within until s →
    turn_taken c steps until s tss ≡ closed ending.Until s tss → AtRest until s tss
rests c steps until s tss w e =
    let n = none_reached until s s tss tss (λ d s. stage_of (carried c (room c steps) (woken_in d.number d.given.value [] tss s))) (λ d t f.
    not_closed _ s tss f) w.signals w.results e in
    record { newer = w.newer; unheard = n.0; undone = n.1 }

at_rest : (c : Code) (ns : List ℤ) (steps until : ℕ) (s : State) (tss : Forest) → Stopped c ns steps until s tss → AtRest until s tss
at_rest c ns steps until s tss e =
    rests c steps until s tss (at_horizon (Within until) (within_keeps until) until (moves until) c ns steps s tss (record {
      now = omega arith;
      signals = tt;
      results = tt;
      newer = tt;
    }) e) (stopped_turn c ns steps until s tss e)

pub run_resumed : RunsEnd → RunResumed
run_resumed ends c ns steps u v s tss uss valid le e m =
    let r = at_rest c ns steps u s tss e in
    (r.undone, resumed c steps v s tss uss m r.newer r.unheard ∙ horizon_moves ends c ns steps u v s tss valid le e)

pub run_resumed_again : RunResumedAgain
run_resumed_again c steps u v s t tss uss vss le w over e m =
    let x = at_next_horizon (Within u) (within_keeps u) u (moves u) c steps s t tss uss w e in
    let r = rests c steps u t uss x (stopped_again c steps u s t tss uss e) in
    (x, r.undone, resumed c steps v t uss vss m r.newer r.unheard ∙ horizon_moves_again c steps u v s t tss uss le over e)

resumed_over : (c : Code) (steps v : ℕ) (s : State) (tss uss : Forest) → SameTrees s tss uss → NoneNewer s.clock.next s.clock.signals →
    Unheard s.clock.signals (tree_waits tss) → IsOver (after_from c steps v s tss) → IsOver (after_from c steps v (apart s) uss)
resumed_over c steps v s tss uss m newer unheard o =
    let z = prior m.other s in
    let y = renumbered m.own s in
    let own : IsOver (after_from c steps v s (trees_as y tss)) =
    over_behind c steps v y s tss m.own_rises m.own_fixed (omega arith) tt (none_unheard (tree_waits tss)) o in
    let other : IsOver (after_from c steps v s (trees_as z uss)) = subst (λ ts. IsOver (after_from c steps v s ts)) m.meet own in
    behind_over c steps v z (apart s) uss m.other_rises m.other_fixed refl newer
    (subst (Unheard s.clock.signals) (same_waits s tss uss m) unheard)
    (subst (λ u. IsOver (after_from c steps v u (trees_as z uss))) (sym (whole m.other s)) other)

pub resumed_run_ends : RunsEnd → ResumedRunEnds
resumed_run_ends ends c ns steps u v s tss uss valid le e m =
    let r = at_rest c ns steps u s tss e in
    let over = (ends c ns steps v valid).over in
    resumed_over c steps v s tss uss m r.newer r.unheard (subst IsOver (sym (goes_more c steps u v (suc steps) le (started c ns steps) s tss
    (on_step _) over e)) over)
