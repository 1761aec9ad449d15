-- From one call to the next.
use Rattle.std.proofs.Common.{◌≡◌, ◌≢◌, ◌≤◌, ◌⊎◌, inl, inr, ℕ, zero, suc, List, [], ◌++◌, length, map, Option, Some, None, refl}
use Rattle.std.proofs.Common.{sym, ap, subst, ◌∙◌}
use Rattle.std.specs.Prelude.{ℤ, Result, IfOk, IfSome}
use Rattle.std.proofs.lemmas.Result.{IfOk-weaker}
use Rattle.verse_code.specs.declared.codes.Code.{Code}
use Rattle.verse_code.specs.Validity.{Valid}
use Rattle.verse_value.specs.Runs.{Line, Run}
use Rattle.verse_value.specs.Val.{int, array, vals}
use Rattle.verse_value.specs.View.{val_of}
use Rattle.verse_value.specs.declared.runs.Ending.{Ending}
use Rattle.verse_value.specs.declared.runs.Ending.TheVariants as ending
use Rattle.verse_meaning_state.specs.State.{State}
use Rattle.verse_meaning_state.specs.Turns.{Stage, going, closed, broken, amiss, run, run_closed, run_of}
use Rattle.verse_code_machine.specs.Tasks.{tree_waits}
use Rattle.verse_code_machine.specs.Runs.{Forest, turn_taken, started}
use Rattle.verse_code_machine.specs.Belonging.{StateBelongs, StageBelongs}
use Rattle.verse_code_machine.specs.Laws.{IsWhole, IsOver}
use Rattle.sim_clock.specs.declared.waits.Pending.{Pending}
use Rattle.tx_heap.specs.State.{State as Kept}
use Rattle.vm_running.specs.Views.{View, Aside, line_of, state_of}
use Rattle.vm_running.specs.Runners.{view_of}
use Rattle.vm_scheduler.specs.declared.tasks.Tasks.{Tasks}
use Rattle.vm_run.specs.declared.machines.Phase.{Phase}
use Rattle.vm_run.specs.declared.machines.Phase.TheVariants as phase
use Rattle.vm_run.specs.declared.machines.Vm.{Vm}
use Rattle.vm_run.specs.Origins.{Origin, from_inputs, from_state, stage_after, whole_run, IsResumable, RunHolds, RunsHold}
use Rattle.vm_run.specs.Standing.{Shows, LiveIs, IsEnd, IsResting, Holds, IsBound, At, Belongs, stands, lost}
use Rattle.vm_run.specs.Turning.{ending_in, Turned}
use Rattle.vm_run.specs.Reaching.{ended_in, Rested, Reached, CanBegin, Begins, CanTurn, Turns}
use Rattle.vm_run.proofs.Origins.{next, one_more_turn, over_same}

-- the parts of a run whose waits may count
pub record Counted (e : Ending) (s : State) (n : ℕ) : Type 0 where
  pub live : Option ℕ
  pub is : run_closed e s n ≡ run s e live
  pub counts : (live ≡ None) ⊎ (live ≡ Some n)

pub counted : (e : Ending) (s : State) (n : ℕ) → Counted e s n
counted ending.Done s n = record { live = Some n; is = refl; counts = inr refl }
counted ending.Waiting s n = record { live = Some n; is = refl; counts = inr refl }
counted ending.Until s n = record { live = Some n; is = refl; counts = inr refl }
counted ending.Steps s n = record { live = None; is = refl; counts = inl refl }
counted (ending.Error k p) s n = record { live = Some n; is = refl; counts = inr refl }
counted ending.Stuck s n = record { live = Some n; is = refl; counts = inr refl }

pub shows_of : (a : Aside) (s : State) (past : List Line) (v : View) → a.past ≡ past → s ≡ state_of a v → v.heap.copies ≡ [] →
    v.trace.marks ≡ [] → Shows s past v
shows_of a s past v same is copies marks = record {
  trace = ap (λ (u : State). u.memory.trace) is ∙ ap (λ ls. ls ++ map line_of v.trace.kept) same;
  store = ap (λ (u : State). u.memory.store) is;
  moment = ap (λ (u : State). u.clock.now) is;
  steps = ap (λ (u : State). u.clock.spent) is;
  copies = copies;
  marks = marks;
}

module _ {H W : Type 0} (state : H → Kept) (pending : W → List Pending) where
  live_counts : (live : Option ℕ) (n : ℕ) (m : Vm H W) → (live ≡ None) ⊎ (live ≡ Some n) → n ≡ length (pending m.tasks.gone.waits) →
      LiveIs state pending live m
  live_counts live n m (inl e) is = rw e tt
  live_counts live n m (inr e) is = rw e is

  end_of : (e : Ending) (s : State) (live : Option ℕ) (past : List Line) (m : Vm H W) → m.phase ≡ phase.Ended e →
      Shows s past (view_of state m.run) → LiveIs state pending live m → IsEnd state pending (run s e live) past m
  end_of e s live past m ended h alive = record {
    ended = ended;
    trace = h.trace;
    store = h.store;
    moment = h.moment;
    steps = h.steps;
    live = alive;
    copies = h.copies;
    marks = h.marks;
  }

  rests_of : (s : State) (trees : Forest) (past : List Line) (m : Vm H W) → Rested pending s trees past (view_of state m.run) m.tasks →
      IsResting state pending s trees past m
  rests_of s trees past m r = record { aside = r.aside; same = r.same; is = r.is; resting = r.resting }

  shows_rested : (s : State) (trees : Forest) (past : List Line) (v : View) (t : Tasks W) → Rested pending s trees past v t → Shows s past v
  shows_rested s trees past v t r = shows_of r.aside s past v r.same r.is r.resting.bare.copies r.resting.bare.marks

  pub holds_of : (stage : Stage Forest) (past : List Line) (m : Vm H W) → Reached pending stage past m.phase (view_of state m.run) m.tasks →
      Holds state pending stage past m
  holds_of (going s trees) past m (is, r) = record {
    between = is;
    rests = rests_of s trees past m r;
    shows = shows_rested s trees past (view_of state m.run) m.tasks r;
  }
  holds_of (closed e s trees) past m (is, r, n) =
      let k = counted e s (length (tree_waits trees)) in
      record {
        rests = rests_of s trees past m r;
        end = subst (λ r. IsEnd state pending r past m) (sym k.is)
            (end_of e s k.live past m is (shows_rested s trees past (view_of state m.run) m.tasks r)
            (live_counts k.live (length (tree_waits trees)) m k.counts n));
      }
  holds_of (broken e s) past m (is, h) = end_of e s None past m is h tt
  holds_of (amiss s) past m r = r

  -- a machine that is made between two turns
  pub resumes : (c : Code) (steps until : ℕ) (s : State) (trees : Forest) (past : List Line) (m : Vm H W) → m.phase ≡ phase.Between →
      m.bounds.steps ≡ steps → m.bounds.until ≡ until → steps ≤ 100000000 → until ≤ 1000000000000 → IsResumable c steps s trees →
      Rested pending s trees past (view_of state m.run) m.tasks → At state pending c (from_state s trees) steps until 0 past m
  resumes c steps until s trees past m between are is few near can r = record {
    bound = record { steps_are = are; until_is = is; can = can; few_steps = few; near = near };
    holds = holds_of (going s trees) past m (between, r);
  }

  -- what is answered
  pub answers : (stage : Stage Forest) (past : List Line) (m : Vm H W) → Holds state pending stage past m →
      ended_in m.phase ≡ ending_in stage
  answers (going s trees) past m h = ap ended_in h.between
  answers (closed e s trees) past m h = ap ended_in h.end.ended ∙
      ap (λ (r : Run). Some r.ending) (counted e s (length (tree_waits trees))).is
  answers (broken e s) past m h = ap ended_in h.ended
  answers (amiss s) past m h = absurd h

  -- it has not ended
  pub no_ending : (stage : Stage Forest) (past : List Line) (m : Vm H W) → Holds state pending stage past m → ended_in m.phase ≡ None →
      m.phase ≡ phase.Between
  no_ending (going s trees) past m h none = h.between
  no_ending (closed e s trees) past m h none = let k = answers (closed e s trees) past m h in absurd (cc)
  no_ending (broken e s) past m h none = let k = answers (broken e s) past m h in absurd (cc)
  no_ending (amiss s) past m h none = absurd h

  pub goes_on : (stage : Stage Forest) (past : List Line) (m : Vm H W) → Holds state pending stage past m → m.phase ≡ phase.Between →
      IsOver stage → ⊥
  goes_on (going s trees) past m h is over = over
  goes_on (closed e s trees) past m h is over = let k = answers (closed e s trees) past m h in let b = ap ended_in is in absurd (cc)
  goes_on (broken e s) past m h is over = let k = answers (broken e s) past m h in let b = ap ended_in is in absurd (cc)
  goes_on (amiss s) past m h is over = h

  unbegun_not : (stage : Stage Forest) (past : List Line) (m : Vm H W) → Holds state pending stage past m → m.phase ≡ phase.Unbegun → ⊥
  unbegun_not (going s trees) past m h is = let b = h.between in absurd (cc)
  unbegun_not (closed e s trees) past m h is = let b = h.end.ended in absurd (cc)
  unbegun_not (broken e s) past m h is = let b = h.ended in absurd (cc)
  unbegun_not (amiss s) past m h is = h

  -- an ending
  pub over_ends : (stage : Stage Forest) (past : List Line) (m : Vm H W) (e : Ending) → Holds state pending stage past m →
      ending_in stage ≡ Some e → IsOver stage × IsEnd state pending (run_of tree_waits stage) past m ×
      (e ≡ (run_of tree_waits stage).ending)
  over_ends (going s trees) past m e h is = absurd (cc)
  over_ends (closed f s trees) past m e h is =
      (tt, h.end, sym (some_same _ _ is) ∙ sym (ap (λ (r : Run). r.ending) (counted f s (length (tree_waits trees))).is))
    where
      some_same : (f g : Ending) → Some f ≡ Some g → f ≡ g
      some_same f g e = cc
  over_ends (broken f s) past m e h is = (tt, h, sym (some_same _ _ is))
    where
      some_same : (f g : Ending) → Some f ≡ Some g → f ≡ g
      some_same f g e = cc
  over_ends (amiss s) past m e h is = absurd h

  module _ (c : Code) where
    pub few_steps : (m : Vm H W) → Belongs state pending c m → m.phase ≢ phase.Lost → m.bounds.steps ≤ 100000000
    few_steps m (stands origin steps until k past at) not = rw at.bound.steps_are at.bound.few_steps
    few_steps m (lost is) not = absurd (not is)

    pub can_begin : RunsHold → Valid c → (m : Vm H W) → Belongs state pending c m → m.phase ≡ phase.Unbegun →
        CanBegin pending c (val_of m.inputs) m.bounds.steps (view_of state m.run) m.tasks
    can_begin law valid m (stands (from_inputs ns) steps until zero past at) is =
        let b = at.bound in
        let h = at.holds in
        record {
          ns = ns;
          inputs_are = h.inputs;
          left = h.left ∙ sym b.steps_are;
          fresh = h.fresh;
          new = h.new;
          whole = (law c (from_inputs ns) m.bounds.steps until valid b.can).whole 0;
        }
    can_begin law valid m (stands (from_state s trees) steps until zero past at) is =
        absurd (unbegun_not (going s trees) past m at.holds is)
    can_begin law valid m (stands origin steps until (suc k) past at) is =
        absurd (unbegun_not (stage_after c origin steps until k) past m at.holds is)
    can_begin law valid m (lost l) is = absurd (cc)

    -- what a machine holds after its start

    began : (ns : List ℤ) (steps until : ℕ) (past : List Line) (m n : Vm H W) (p : Phase) →
        At state pending c (from_inputs ns) steps until 0 past m → Begins pending c ns m.bounds.steps p (view_of state n.run) n.tasks →
        Holds state pending (started c ns steps) past (record n { phase = p })
    began ns steps until past m n p at r =
        let h = at.holds in
        subst (λ ls. Holds state pending (started c ns steps) ls (record n { phase = p })) (sym h.none)
        (subst (λ k. Holds state pending (started c ns k) [] (record n { phase = p })) at.bound.steps_are
        (holds_of (started c ns m.bounds.steps) [] (record n { phase = p }) r.begins))

    pub it_began : {E : Type 0} (r : Result Phase E) (origin : Origin) (steps until k : ℕ) (past : List Line) (m n : Vm H W) →
        At state pending c origin steps until k past m → m.phase ≡ phase.Unbegun →
        ((ns : List ℤ) → val_of m.inputs ≡ array (vals (map int ns)) →
        IfOk r (λ p. Begins pending c ns m.bounds.steps p (view_of state n.run) n.tasks)) →
        IfOk r (λ p. Holds state pending (stage_after c origin steps until k) past (record n { phase = p }))
    it_began r (from_inputs ns) steps until zero past m n at is starts =
        IfOk-weaker r _ _ (λ p h. began ns steps until past m n p at h) (starts ns at.holds.inputs)
    it_began r (from_state s trees) steps until zero past m n at is starts = absurd (unbegun_not (going s trees) past m at.holds is)
    it_began r origin steps until (suc k) past m n at is starts =
        absurd (unbegun_not (stage_after c origin steps until k) past m at.holds is)

    -- where it stands before a turn
    record Before (origin : Origin) (steps until k : ℕ) (past : List Line) (m : Vm H W) : Type 0 where
      stage : Stage Forest
      next_is : next (turn_taken c steps until) stage ≡ stage_after c origin steps until k
      belongs : StageBelongs c.classes stage
      holds : Holds state pending stage past m

    before : (origin : Origin) (steps until k : ℕ) (past : List Line) (m : Vm H W) → RunHolds c origin steps until →
        At state pending c origin steps until k past m → (m.phase ≡ phase.Unbegun → ⊥) → Before origin steps until k past m
    before (from_inputs ns) steps until zero past m r at not = absurd (not at.holds.unbegun)
    before (from_state s trees) steps until zero past m r at not = record {
      stage = going s trees;
      next_is = refl;
      belongs = (at.bound.can.state_belongs, at.bound.can.trees_belong);
      holds = at.holds;
    }
    before origin steps until (suc k) past m r at not = record {
      stage = stage_after c origin steps until k;
      next_is = one_more_turn c origin steps until k;
      belongs = r.belongs k;
      holds = at.holds;
    }

    between_is_begun : (p : Phase) → p ≡ phase.Between → p ≡ phase.Unbegun → ⊥
    between_is_begun p is un = cc

    ended_is_begun : (p : Phase) (e : Ending) → p ≡ phase.Ended e → p ≡ phase.Unbegun → ⊥
    ended_is_begun p e is un = cc

    turn_there : (steps until : ℕ) (past : List Line) (m : Vm H W) (stage after : Stage Forest) → IsWhole after →
        next (turn_taken c steps until) stage ≡ after → StageBelongs c.classes stage → m.bounds.steps ≡ steps → m.bounds.until ≡ until →
        Holds state pending stage past m → m.phase ≡ phase.Between →
        CanTurn pending c m.bounds.steps m.bounds.until (view_of state m.run) m.tasks
    turn_there steps until past m (going s trees) after whole one here n u h is = record {
      aside = h.rests.aside;
      trees = trees;
      resting = h.rests.resting;
      state_belongs = subst (λ z. StateBelongs c.classes z) h.rests.is here.0;
      trees_belong = here.1;
      whole = subst (λ k. IsWhole (turn_taken c k m.bounds.until (state_of h.rests.aside (view_of state m.run)) trees)) (sym n)
          (subst (λ j. IsWhole (turn_taken c steps j (state_of h.rests.aside (view_of state m.run)) trees)) (sym u)
          (subst (λ z. IsWhole (turn_taken c steps until z trees)) h.rests.is (subst IsWhole (sym one) whole)));
    }
    turn_there steps until past m (closed f s trees) after whole one here n u h is = absurd (goes_on (closed f s trees) past m h is tt)
    turn_there steps until past m (broken f s) after whole one here n u h is = absurd (goes_on (broken f s) past m h is tt)
    turn_there steps until past m (amiss s) after whole one here n u h is = absurd h

    pub can_turn : RunsHold → Valid c → (m : Vm H W) → Belongs state pending c m → m.phase ≡ phase.Between →
        CanTurn pending c m.bounds.steps m.bounds.until (view_of state m.run) m.tasks
    can_turn law valid m (stands origin steps until k past at) is =
        let r = law c origin steps until valid at.bound.can in
        let b = before origin steps until k past m r at (between_is_begun m.phase is) in
        turn_there steps until past m b.stage (stage_after c origin steps until k) (r.whole k) b.next_is b.belongs at.bound.steps_are
        at.bound.until_is b.holds is
    can_turn law valid m (lost l) is = absurd (cc)

    -- what it holds after a turn, and after a call that finds its run over

    turned_there : (steps until : ℕ) (past : List Line) (m n : Vm H W) (p : Phase) (stage after : Stage Forest) →
        next (turn_taken c steps until) stage ≡ after → m.bounds.steps ≡ steps → m.bounds.until ≡ until →
        Holds state pending stage past m → m.phase ≡ phase.Between →
        Turns pending c m.bounds.steps m.bounds.until p (view_of state m.run) m.tasks (view_of state n.run) n.tasks →
        Holds state pending after past (record n { phase = p })
    turned_there steps until past m n p (going s trees) after one b u h is r =
        let it = record n { phase = p } in
        subst (λ z. Holds state pending z past it) one
        (subst (λ z. Holds state pending (turn_taken c steps until z trees) past it) (sym h.rests.is)
        (subst (λ j. Holds state pending (turn_taken c steps j (state_of h.rests.aside (view_of state m.run)) trees) past it) u
        (subst (λ k. Holds state pending (turn_taken c k m.bounds.until (state_of h.rests.aside (view_of state m.run)) trees) past it) b
        (subst (λ ls. Holds state pending (turn_taken c m.bounds.steps m.bounds.until (state_of h.rests.aside (view_of state m.run)) trees)
        ls it) h.rests.same
        (holds_of (turn_taken c m.bounds.steps m.bounds.until (state_of h.rests.aside (view_of state m.run)) trees) h.rests.aside.past it
        (r.turns h.rests.aside trees h.rests.resting))))))
    turned_there steps until past m n p (closed f s trees) after one b u h is r = absurd (goes_on (closed f s trees) past m h is tt)
    turned_there steps until past m n p (broken f s) after one b u h is r = absurd (goes_on (broken f s) past m h is tt)
    turned_there steps until past m n p (amiss s) after one b u h is r = absurd h

    pub turned : RunsHold → Valid c → (origin : Origin) (steps until k : ℕ) (past : List Line) (m n : Vm H W) (p : Phase) →
        At state pending c origin steps until k past m → m.phase ≡ phase.Between →
        Turns pending c m.bounds.steps m.bounds.until p (view_of state m.run) m.tasks (view_of state n.run) n.tasks →
        Holds state pending (stage_after c origin steps until k) past (record n { phase = p })
    turned law valid origin steps until k past m n p at is t =
        let r = law c origin steps until valid at.bound.can in
        let b = before origin steps until k past m r at (between_is_begun m.phase is) in
        turned_there steps until past m n p b.stage (stage_after c origin steps until k) b.next_is at.bound.steps_are at.bound.until_is
        b.holds is t

    ended_there : (steps until : ℕ) (past : List Line) (m : Vm H W) (e : Ending) (stage after : Stage Forest) →
        next (turn_taken c steps until) stage ≡ after → Holds state pending stage past m → m.phase ≡ phase.Ended e →
        Holds state pending after past m
    ended_there steps until past m e (going s trees) after one h ended = let b = h.between in absurd (cc)
    ended_there steps until past m e (closed f s trees) after one h ended = subst (λ z. Holds state pending z past m) one h
    ended_there steps until past m e (broken f s) after one h ended = subst (λ z. Holds state pending z past m) one h
    ended_there steps until past m e (amiss s) after one h ended = absurd h

    pub still_ended : RunsHold → Valid c → (origin : Origin) (steps until k : ℕ) (past : List Line) (m : Vm H W) (e : Ending) →
        At state pending c origin steps until k past m → m.phase ≡ phase.Ended e →
        Holds state pending (stage_after c origin steps until k) past m
    still_ended law valid origin steps until k past m e at is =
        let r = law c origin steps until valid at.bound.can in
        let b = before origin steps until k past m r at (ended_is_begun m.phase e is) in
        ended_there steps until past m e b.stage (stage_after c origin steps until k) b.next_is b.holds is

    -- a call

    same_bounds : (origin : Origin) (steps until : ℕ) (m n : Vm H W) → n.bounds ≡ m.bounds → IsBound c origin steps until m →
        IsBound c origin steps until n
    same_bounds origin steps until m n e b = record {
      steps_are = ap (λ k. k.steps) e ∙ b.steps_are;
      until_is = ap (λ k. k.until) e ∙ b.until_is;
      can = b.can;
      few_steps = b.few_steps;
      near = b.near;
    }

    over_of : (origin : Origin) (steps until k : ℕ) (past : List Line) (m : Vm H W) (e : Ending) → RunHolds c origin steps until →
        Holds state pending (stage_after c origin steps until k) past m → ending_in (stage_after c origin steps until k) ≡ Some e →
        (e ≡ (whole_run c origin steps until).ending) × IsEnd state pending (whole_run c origin steps until) past m
    over_of origin steps until k past m e r h is =
        let o = over_ends (stage_after c origin steps until k) past m e h is in
        let same : whole_run c origin steps until ≡ run_of tree_waits (stage_after c origin steps until k) =
        r.run ∙ ap (run_of tree_waits) (over_same c origin steps until k r o.0) in
        (o.2 ∙ sym (ap (λ (r : Run). r.ending) same), subst (λ z. IsEnd state pending z past m) (sym same) o.1)

    over_if : (origin : Origin) (steps until k : ℕ) (past : List Line) (m : Vm H W) (a : Option Ending) → RunHolds c origin steps until →
        Holds state pending (stage_after c origin steps until k) past m → a ≡ ending_in (stage_after c origin steps until k) →
        IfSome a (λ e. (e ≡ (whole_run c origin steps until).ending) × IsEnd state pending (whole_run c origin steps until) past m)
    over_if origin steps until k past m None r h is = tt
    over_if origin steps until k past m (Some e) r h is = over_of origin steps until k past m e r h (sym is)

    pub turned_by : RunsHold → Valid c → (origin : Origin) (steps until k : ℕ) (past : List Line) (m n : Vm H W) →
        n.bounds ≡ m.bounds → At state pending c origin steps until k past m →
        Holds state pending (stage_after c origin steps until k) past n →
        Turned state pending c origin steps until k past (ended_in n.phase) n
    turned_by law valid origin steps until k past m n e at h =
        let is = answers (stage_after c origin steps until k) past n h in
        record {
          at = record { bound = same_bounds origin steps until m n e at.bound; holds = h };
          answer = is;
          over = over_if origin steps until k past n (ended_in n.phase) (law c origin steps until valid at.bound.can) h is;
        }

    pub belongs_on : (a : Option Ending) (m n : Vm H W) → Belongs state pending c m → (m.phase ≡ phase.Lost → ⊥) →
        ((origin : Origin) (steps until k : ℕ) (past : List Line) → At state pending c origin steps until k past m →
        Turned state pending c origin steps until k past a n) →
        Belongs state pending c n
    belongs_on a m n (stands origin steps until k past at) not turns =
        stands origin steps until (suc k) past (turns origin steps until k past at).at
    belongs_on a m n (lost is) not turns = absurd (not is)
