-- What is kept of a machine whose run stopped at its horizon.
use Rattle.std.proofs.Common.{◌≡◌, ℕ, zero, suc, List, ◌++◌, map, Option, Some, None, sym, ap, subst, ◌∙◌, arith}
use Rattle.verse_code.specs.declared.codes.Code.{Code}
use Rattle.verse_code.specs.Validity.{Valid}
use Rattle.verse_value.specs.Runs.{Line, Run}
use Rattle.verse_value.specs.declared.runs.Ending.{Ending}
use Rattle.verse_value.specs.declared.runs.Ending.TheVariants as ending
use Rattle.verse_meaning_state.specs.State.{State, begun}
use Rattle.verse_meaning_state.specs.Turns.{Stage, going, closed, broken, amiss}
use Rattle.verse_code_machine.specs.Runs.{Forest}
use Rattle.verse_code_machine.specs.Laws.{IsOver}
use Rattle.verse_code_machine.specs.Belonging.{StateBelongs, StageBelongs}
use Rattle.verse_code_machine_endings.specs.Endings.{IsInner, EndsSo}
use Rattle.sim_clock.specs.declared.waits.Pending.{Pending}
use Rattle.tx_heap.specs.State as heap
use Rattle.vm_running.specs.declared.runners.Runner.{Runner}
use Rattle.vm_running.specs.Views.{View, line_of, state_of}
use Rattle.vm_running.specs.Runners.{view_of}
use Rattle.vm_scheduler.specs.Going.{Resting}
use Rattle.vm_wake.specs.Starts.{Fresh}
use Rattle.vm_shot.specs.Spelling.{SpellsEach}
use Rattle.vm_shot.specs.Shooting.{CanBeShot}
use Rattle.run_save_shots.specs.Kept.{Kept}
use Rattle.run_save_moves.specs.Fine.{TextsAreBytes}
use Rattle.run_save_premises.specs.Inputs.{FewInputsFit}
use Rattle.run_save_shots.specs.Keeping.{Spells}
use Rattle.run_save_shown.specs.Shown.{SpellsApart, StoppedRunIsShown, ResumedRunIsShown}
use Rattle.vm_run.specs.declared.machines.Phase.{Phase}
use Rattle.vm_run.specs.declared.machines.Phase.TheVariants as phase
use Rattle.vm_run.specs.declared.machines.Vm.{Vm}
use Rattle.vm_run.specs.Origins.{Origin, from_inputs, from_state, stage_after, RunsHold}
use Rattle.vm_run.specs.Standing.{Shows, LiveIs, IsEnd, IsResting, Holds, HoldsFirst, HoldsAfter, At, Belongs, stands, lost}
use Rattle.vm_run.specs.Reaching.{ended_in}
use Rattle.vm_run.specs.Saving.{CanBeKept, IsShot}
use Rattle.vm_run.proofs.Origins.{over_same}
use Rattle.vm_run.proofs.Standing.{answers, still_ended}

module _ {H W : Type 0} (state : H → heap.State) (pending : W → List Pending) where
  -- ---- where the machine rests

  -- in the state in which its run stopped
  pub record StoppedIn (g : Stage Forest) (past : List Line) (m : Vm H W) : Type 0 where
    pub last : State
    pub trees : Forest
    pub is : g ≡ closed ending.Until last trees
    pub rests : IsResting state pending last trees past m

  same_ending : (e f : Ending) → Some e ≡ Some f → f ≡ e
  same_ending e f h = cc

  ending_is : (e : Ending) (m : Vm H W) → m.phase ≡ phase.Ended ending.Until → ended_in m.phase ≡ Some e → e ≡ ending.Until
  ending_is e m is a = same_ending ending.Until e (sym (ap ended_in is) ∙ a)

  not_between : {A : Type 0} (p : Phase) (e : Ending) → p ≡ phase.Between → p ≡ phase.Ended e → A
  not_between p e a b = cc

  not_lost : {A : Type 0} (p : Phase) (e : Ending) → p ≡ phase.Lost → p ≡ phase.Ended e → A
  not_lost p e a b = cc

  pub stopped_in : (g : Stage Forest) (past : List Line) (m : Vm H W) → EndsSo g → Holds state pending g past m →
      m.phase ≡ phase.Ended ending.Until → StoppedIn g past m
  stopped_in (going s trees) past m so h is = not_between m.phase ending.Until h.between is
  stopped_in (closed e s trees) past m so h is = record {
    last = s;
    trees = trees;
    is = ap (λ f. closed f s trees) (ending_is e m is (answers state pending (closed e s trees) past m h));
    rests = h.rests;
  }
  stopped_in (broken e s) past m so h is =
      absurd (subst IsInner (ending_is e m is (answers state pending (broken e s) past m h)) so)
  stopped_in (amiss s) past m so h is = absurd h

  -- ---- a machine that has counted accesses of its heap

  module _ (m : Vm H W) (r : Runner H) (e : view_of state r ≡ view_of state m.run) where
    abbrev pub with_run : Vm H W
    with_run = record m { run = r }

    same_live : (o : Option ℕ) → LiveIs state pending o m → LiveIs state pending o with_run
    same_live None a = tt
    same_live (Some n) a = a

    same_end : (u : Run) (past : List Line) → IsEnd state pending u past m → IsEnd state pending u past with_run
    same_end u past h = record {
      ended = h.ended;
      trace = h.trace ∙ ap (λ (v : View). past ++ map line_of v.trace.kept) (sym e);
      store = h.store ∙ ap (λ (v : View). v.heap.cells) (sym e);
      moment = h.moment ∙ ap (λ (v : View). v.moment) (sym e);
      steps = h.steps ∙ ap (λ (v : View). v.spent) (sym e);
      live = same_live u.live h.live;
      copies = ap (λ (v : View). v.heap.copies) e ∙ h.copies;
      marks = ap (λ (v : View). v.trace.marks) e ∙ h.marks;
    }

    same_rests : (s : State) (trees : Forest) (past : List Line) → IsResting state pending s trees past m →
        IsResting state pending s trees past with_run
    same_rests s trees past h = record {
      aside = h.aside;
      same = h.same;
      is = h.is ∙ ap (λ v. state_of h.aside v) (sym e);
      resting = subst (λ v. Resting pending h.aside trees v m.tasks) (sym e) h.resting;
    }

    same_holds : (g : Stage Forest) (past : List Line) → Holds state pending g past m → Holds state pending g past with_run
    same_holds (going s trees) past h = record {
      between = h.between;
      rests = same_rests s trees past h.rests;
      shows = subst (λ v. Shows s past v) (sym e) h.shows;
    }
    same_holds (closed f s trees) past h = record { rests = same_rests s trees past h.rests; end = same_end _ past h.end }
    same_holds (broken f s) past h = same_end _ past h
    same_holds (amiss s) past h = h

    same_first : (origin : Origin) (steps : ℕ) (past : List Line) → HoldsFirst state pending origin steps past m →
        HoldsFirst state pending origin steps past with_run
    same_first (from_inputs ns) steps past h = record {
      unbegun = h.unbegun;
      none = h.none;
      inputs = h.inputs;
      left = ap (λ (v : View). v.left) e ∙ h.left;
      fresh = subst Fresh (sym e) h.fresh;
      new = h.new;
      shows = subst (λ v. Shows (begun steps) past v) (sym e) h.shows;
    }
    same_first (from_state s trees) steps past h = same_holds (going s trees) past h

    same_after : (c : Code) (origin : Origin) (steps until k : ℕ) (past : List Line) →
        HoldsAfter state pending c origin steps until k past m →
        HoldsAfter state pending c origin steps until k past with_run
    same_after c origin steps until zero past h = same_first origin steps past h
    same_after c origin steps until (suc k) past h = same_holds (stage_after c origin steps until k) past h

    pub same_at : (c : Code) (origin : Origin) (steps until k : ℕ) (past : List Line) →
        At state pending c origin steps until k past m →
        At state pending c origin steps until k past with_run
    same_at c origin steps until k past a = record {
      bound = record {
        steps_are = a.bound.steps_are;
        until_is = a.bound.until_is;
        can = a.bound.can;
        few_steps = a.bound.few_steps;
        near = a.bound.near;
      };
      holds = same_after c origin steps until k past a.holds;
    }

    pub same_belongs : (c : Code) → Belongs state pending c m → Belongs state pending c with_run
    same_belongs c (stands origin steps until k past a) = stands origin steps until k past (same_at c origin steps until k past a)
    same_belongs c (lost is) = lost is

  -- ---- what is kept

  module _ (c : Code) (law : RunsHold) (valid : Valid c) (m : Vm H W) (is : m.phase ≡ phase.Ended ending.Until) where
    stops : (origin : Origin) (steps until k : ℕ) (past : List Line) → At state pending c origin steps until k past m →
        StoppedIn (stage_after c origin steps until k) past m
    stops origin steps until k past at = stopped_in (stage_after c origin steps until k) past m
        ((law c origin steps until valid at.bound.can).ends k)
        (still_ended state pending c law valid origin steps until k past m ending.Until at is) is

    belongs_then : (origin : Origin) (steps until k : ℕ) (past : List Line) (at : At state pending c origin steps until k past m)
        (x : StoppedIn (stage_after c origin steps until k) past m) → StateBelongs c.classes x.last
    belongs_then origin steps until k past at x =
        (subst (StageBelongs c.classes) x.is ((law c origin steps until valid at.bound.can).belongs k)).0

    pub can_be_shot : Belongs state pending c m → CanBeShot pending c (view_of state m.run) m.tasks
    can_be_shot (stands origin steps until k past at) =
        let x = stops origin steps until k past at in
        record {
          aside = x.rests.aside;
          trees = x.trees;
          resting = x.rests.resting;
          belongs = subst (StateBelongs c.classes) x.rests.is (belongs_then origin steps until k past at x);
        }
    can_be_shot (lost l) = not_lost m.phase ending.Until l is

    -- at the end of the run
    stopped_then : (origin : Origin) (steps until k : ℕ) (past : List Line) (at : At state pending c origin steps until k past m)
        (x : StoppedIn (stage_after c origin steps until k) past m) →
        stage_after c origin steps until (suc steps) ≡ closed ending.Until x.last x.trees
    stopped_then origin steps until k past at x =
        over_same c origin steps until k (law c origin steps until valid at.bound.can) (subst IsOver (sym x.is) tt) ∙ x.is

    spells_apart : (x : Kept) → SpellsEach pending x (view_of state m.run) m.tasks → (s : State) (trees : Forest) (past : List Line) →
        IsResting state pending s trees past m → SpellsApart x s trees
    spells_apart x each s trees past h apart = subst (λ r. Spells x r trees) (sym h.is) (each h.aside trees h.resting apart)

    pub is_shot : FewInputsFit → StoppedRunIsShown → ResumedRunIsShown → TextsAreBytes c → (x : Kept) →
        SpellsEach pending x (view_of state m.run) m.tasks → (origin : Origin) (steps until k : ℕ) (past : List Line) →
        CanBeKept c origin steps until → At state pending c origin steps until k past m → IsShot c origin steps until x
    is_shot fit one more texts x each (from_inputs ns) steps until k past can at =
        let y = stops (from_inputs ns) steps until k past at in
        let e = stopped_then (from_inputs ns) steps until k past at y in
        record {
          state = y.last;
          trees = y.trees;
          stopped = e;
          shown = one c ns steps until y.last y.trees x valid texts (fit ns at.bound.can) at.bound.few_steps at.bound.near e
              (spells_apart x each y.last y.trees past y.rests);
        }
    is_shot fit one more texts x each (from_state s trees) steps until k past can at =
        let y = stops (from_state s trees) steps until k past at in
        let e = stopped_then (from_state s trees) steps until k past at y in
        record {
          state = y.last;
          trees = y.trees;
          stopped = e;
          shown = more c steps until until (suc (suc steps)) s y.last trees y.trees x valid texts at.bound.few_steps (omega arith)
              at.bound.near can (belongs_then (from_state s trees) steps until k past at y) e
              (spells_apart x each y.last y.trees past y.rests);
        }
