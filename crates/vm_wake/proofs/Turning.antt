-- The next turn, before its task goes on.
use Rattle.std.proofs.Common.{◌≡◌, ℕ, suc, ◌+◌, ◌≤◌, ◌<◌, true, false, cond, nat_lt, Result, Ok, Err, IfOk, List, [], ◌∷◌, length, Option}
use Rattle.std.proofs.Common.{Some, None, refl, sym, ap, subst, ◌∙◌, arith}
use Rattle.std.proofs.lemmas.Bool.Decides.{nat_tests}
use Rattle.verse_value.specs.declared.runs.Ending.TheVariants as ending
use Rattle.verse_meaning_state.specs.State.{State, spending, stepped, at_moment}
use Rattle.verse_meaning_state.specs.Waits.{Wait, Due, least}
use Rattle.verse_meaning_state.specs.Turns.{Stage, closed, turn, turn_at}
use Rattle.verse_code_machine.specs.Tasks.{tree_waits}
use Rattle.verse_code_machine.specs.Runs.{Forest}
use Rattle.sim_clock.specs.declared.waits.WaitKind.{WaitKind}
use Rattle.sim_clock.specs.declared.waits.WaitKind.TheVariants.{At, Never, Task as OnTask, Event}
use Rattle.sim_clock.specs.declared.waits.Pending.{Pending}
use Rattle.sim_clock.specs.declared.waits.Due.{Due as ClockDue}
use Rattle.sim_clock.specs.Pending.{first_due}
use Rattle.vm_tasks_laws.specs.Clocks.{cause_of, value_for, sleeping, NextIs, SameNext}
use Rattle.vm_tasks_laws.proofs.Clocks.{next_is, live_is}
use Rattle.vm_tasks_laws.proofs.Ticks.{same_timed}
use Rattle.vm_running.specs.Views.{View, Aside, state_of}
use Rattle.vm_tasks.specs.View.{slot_of}
use Rattle.vm_scheduler.specs.declared.tasks.Tasks.{Tasks}
use Rattle.vm_scheduler.specs.declared.tasks.Went.{Went}
use Rattle.vm_scheduler.specs.declared.tasks.Went.TheVariants as went
use Rattle.vm_scheduler.specs.Frames.{frames_in}
use Rattle.vm_scheduler.specs.Standing.{Clocked, Bare}
use Rattle.vm_scheduler.specs.Going.{Resting}
use Rattle.vm_scheduler.proofs.Fines.{fine_less}
use Rattle.vm_wake.specs.Turns.{Rested, TakesTurn, CanWake, WakesNext}

module _ {W : Type 0} (pending : W → List Pending) where
  -- as many waits

  count_of : (a : Aside) (tss : Forest) (v : View) (t : Tasks W) → Resting pending a tss v t →
      length (tree_waits tss) ≡ length (pending t.gone.waits)
  count_of a tss v t r = live_is (slot_of frames_in) t.tree tss (pending t.gone.waits) (state_of a v) r.rests r.clock.timed

  next_of : (a : Aside) (tss : Forest) (v : View) (t : Tasks W) → Resting pending a tss v t →
      SameNext (state_of a v) (pending t.gone.waits) (least (state_of a v) (tree_waits tss)) (first_due (pending t.gone.waits))
  next_of a tss v t r = next_is (slot_of frames_in) t.tree tss (pending t.gone.waits) (state_of a v) r.rests r.clock.timed

  no_waits : (ws : List Wait) (s : State) (tss : Forest) (go : Due → State → Stage Forest) (until : ℕ) → length ws ≡ 0 →
      turn until ws s tss go ≡ closed ending.Done s tss
  no_waits [] s tss go until e = refl
  no_waits (w ∷ ws) s tss go until e = absurd (omega (arith, e))

  some_waits : (ws : List Wait) (s : State) (tss : Forest) (go : Due → State → Stage Forest) (until : ℕ) → (length ws ≡ 0 → ⊥) →
      turn until ws s tss go ≡ turn_at until (least s ws) s tss go
  some_waits [] s tss go until d = absurd (d refl)
  some_waits (w ∷ ws) s tss go until d = refl

  -- the run is over

  pub done_here : (until : ℕ) (v : View) (t : Tasks W) → length (pending t.gone.waits) ≡ 0 →
      TakesTurn pending until (went.Over ending.Done) v t v t
  done_here until v t none = record {
    takes = λ a tss r. record {
      is = λ go. no_waits (tree_waits tss) (state_of a v) tss go until (count_of a tss v t r ∙ none);
      view =
          refl;
      tasks = refl;
    };
  }

  none_next : (s : State) (ps : List Pending) (o : Option Due) (c : Option ClockDue) → SameNext s ps o c → c ≡ None → o ≡ None
  none_next s ps None c n e = refl
  none_next s ps (Some d) None n e = absurd n
  none_next s ps (Some d) (Some c) n e = absurd (cc)

  pub waiting_here : (until : ℕ) (v : View) (t : Tasks W) → (length (pending t.gone.waits) ≡ 0 → ⊥) →
      first_due (pending t.gone.waits) ≡ None → TakesTurn pending until (went.Over ending.Waiting) v t v t
  waiting_here until v t some none = record {
    takes = λ a tss r. record {
      is = λ go.
          some_waits (tree_waits tss) (state_of a v) tss go until (λ e. some (sym (count_of a tss v t r) ∙ e)) ∙
          ap (λ o. turn_at until o (state_of a v) tss go)
          (none_next (state_of a v) (pending t.gone.waits) (least (state_of a v) (tree_waits tss)) (first_due (pending t.gone.waits))
          (next_of a tss v t r) none);
      view = refl;
      tasks = refl;
    };
  }

  -- the wait that is due next

  record Found (s : State) (ps : List Pending) (o : Option Due) (e : ClockDue) : Type 0 where
    due : Due
    is : o ≡ Some due
    next : NextIs s ps due e

  found_next : (s : State) (ps : List Pending) (o : Option Due) (c : Option ClockDue) (e : ClockDue) → SameNext s ps o c → c ≡ Some e →
      Found s ps o e
  found_next s ps None None e n i = absurd (cc)
  found_next s ps None (Some c) e n i = absurd n
  found_next s ps (Some d) None e n i = absurd n
  found_next s ps (Some d) (Some c) e n i = record { due = d; is = refl; next = subst (λ z. NextIs s ps d z) same n }
    where
      or_this : Option ClockDue → ClockDue
      or_this None = c
      or_this (Some z) = z

      same : c ≡ e
      same = ap (λ o. or_this o) i

  module _ (until : ℕ) (v : View) (t : Tasks W) (e : ClockDue) (some : length (pending t.gone.waits) ≡ 0 →
      ⊥) (first : first_due (pending t.gone.waits) ≡ Some e) where
    found_here : (a : Aside) (tss : Forest) → Resting pending a tss v t →
        Found (state_of a v) (pending t.gone.waits) (least (state_of a v) (tree_waits tss)) e
    found_here a tss r = found_next (state_of a v) (pending t.gone.waits) (least (state_of a v) (tree_waits tss))
        (first_due (pending t.gone.waits)) e (next_of a tss v t r) first

    turn_is : (a : Aside) (tss : Forest) (r : Resting pending a tss v t) (go : Due → State → Stage Forest) →
        turn until (tree_waits tss) (state_of a v) tss go ≡ turn_at until (Some (found_here a tss r).due) (state_of a v) tss go
    turn_is a tss r go =
        some_waits (tree_waits tss) (state_of a v) tss go until (λ e. some (sym (count_of a tss v t r) ∙ e)) ∙
        ap (λ o. turn_at until o (state_of a v) tss go) (found_here a tss r).is

    abbrev spends : (a : Aside) (tss : Forest) → Due → (Due → State → Stage Forest) → ℕ → Stage Forest
    spends a tss d go left = spending left (state_of a v) (closed ending.Steps (state_of a v) tss) (λ s. go d (at_moment d.given.moment s))

    pub until_here : until < e.at → TakesTurn pending until (went.Over ending.Until) v t v t
    until_here late = record {
      takes = λ a tss r.
          let f = found_here a tss r in
          let moment = f.next.moment in
          let yes : nat_lt until f.due.given.moment ≡ true = grind (arith, nat_tests, late, moment) in
          record {
            is = λ go. turn_is a tss r go ∙ ap (λ b. cond b (closed ending.Until (state_of a v) tss) (spends a tss f.due go v.left)) yes;
            view = refl;
            tasks = refl;
          };
    }

    module _ (soon : e.at ≤ until) where
      soon_is : (a : Aside) (tss : Forest) (r : Resting pending a tss v t) (go : Due → State → Stage Forest) →
          turn until (tree_waits tss) (state_of a v) tss go ≡ spends a tss (found_here a tss r).due go v.left
      soon_is a tss r go =
          let f = found_here a tss r in
          let moment = f.next.moment in
          let no : nat_lt until f.due.given.moment ≡ false = grind (arith, nat_tests, soon, moment) in
          turn_is a tss r go ∙ ap (λ b. cond b (closed ending.Until (state_of a v) tss) (spends a tss f.due go v.left)) no

      pub steps_here : v.left ≡ 0 → TakesTurn pending until (went.Over ending.Steps) v t v t
      steps_here none = record {
        takes = λ a tss r. record {
          is = λ go. soon_is a tss r go ∙ ap (λ n. spends a tss (found_here a tss r).due go n) none;
          view =
              refl;
          tasks = refl;
        };
      }

      -- a step is spent, in the moment

      module _ (left spent : ℕ) (less : v.left ≡ suc left) (more : spent ≡ v.spent + 1) where
        abbrev turn_view : View
        turn_view = record v { left = left; spent = spent; moment = e.at }

        turn_clock : (a : Aside) → Clocked pending a v t → Clocked pending a turn_view t
        turn_clock a c =
            let le : left ≤ v.left = omega (arith, less) in
            record {
              past = c.past;
              next = c.next;
              results = c.results;
              signals = c.signals;
              timed = same_timed (sleeping (slot_of frames_in) t.tree) (pending t.gone.waits) (state_of a v)
                  (state_of a turn_view) refl refl refl c.timed;
              fine = fine_less v.left left t.tree le c.fine;
              untold = c.untold;
            }

        turn_bare : Bare v → Bare turn_view
        turn_bare b = let most = b.steps in record { copies = b.copies; marks = b.marks; steps = omega (arith, less, more, most) }

        turn_resting : (a : Aside) (tss : Forest) → Resting pending a tss v t → Resting pending a tss turn_view t
        turn_resting a tss r = record {
          clock = turn_clock a r.clock;
          rests = r.rests;
          bare = turn_bare r.bare;
          no_ups = r.no_ups;
          still =
              r.still;
          none = r.none;
        }

        value_same : (a : Aside) (p : Pending) (d : Due) → value_for (state_of a v) (cause_of p.wait.kind) e.cause ≡ Some d.given.value →
            value_for (state_of a turn_view) (cause_of p.wait.kind) e.cause ≡ Some d.given.value
        value_same a p d h = go p.wait.kind h
          where
            go : (k : WaitKind) → value_for (state_of a v) (cause_of k) e.cause ≡ Some d.given.value →
                value_for (state_of a turn_view) (cause_of k) e.cause ≡ Some d.given.value
            go (At moment) h = h
            go Never h = h
            go (OnTask entry) h = h
            go (Event cell) h = h

        turn_next : (a : Aside) (d : Due) → NextIs (state_of a v) (pending t.gone.waits) d e →
            NextIs (state_of a turn_view) (pending t.gone.waits) d e
        turn_next a d n = record {
          front = n.front;
          wait = n.wait;
          back = n.back;
          is = n.is;
          number = n.number;
          its_number =
              n.its_number;
          task = n.task;
          moment = n.moment;
          value = value_same a n.wait d n.value;
        }

        pub can_wake : Rested pending v t → CanWake pending e turn_view t
        can_wake r =
            let f = found_here r.aside r.trees r.resting in
            record {
              aside = r.aside;
              trees = r.trees;
              due = f.due;
              resting = turn_resting r.aside r.trees r.resting;
              next =
                  turn_next r.aside f.due f.next;
            }

        state_is : (a : Aside) (d : Due) → d.given.moment ≡ e.at → at_moment d.given.moment (stepped left (state_of a v)) ≡
            state_of a turn_view
        state_is a d n =
            let k : suc v.spent ≡ spent = omega (arith, more) in
            ap (λ z. at_moment z (stepped left (state_of a v))) n ∙
            ap (λ z. state_of a (record v { left = left; spent = z; moment = e.at })) k

        going_is : (a : Aside) (tss : Forest) (r : Resting pending a tss v t) (go : Due → State → Stage Forest) →
            turn until (tree_waits tss) (state_of a v) tss go ≡ go (found_here a tss r).due (state_of a turn_view)
        going_is a tss r go =
            let f = found_here a tss r in soon_is a tss r go ∙
            (ap (λ n. spends a tss f.due go n) less ∙ ap (λ z. go f.due z) (state_is a f.due f.next.moment))

        turned : (r : Went) (u : View) (s : Tasks W) → WakesNext pending e r turn_view t u s → TakesTurn pending until r v t u s
        turned went.On u s w = record {
          takes = λ a tss r.
              let f = found_here a tss r in
              record {
                due = f.due;
                state = state_of a turn_view;
                is = λ go. going_is a tss r go;
                goes =
                    w.wakes a tss f.due (turn_resting a tss r) (turn_next a f.due f.next);
              };
        }
        turned (went.Over q) u s w = record {
          takes = λ a tss r. let f = found_here a tss r in
              absurd (w.wakes a tss f.due (turn_resting a tss r) (turn_next a f.due f.next));
        }
        turned went.Down u s w = record {
          takes = λ a tss r. let f = found_here a tss r in
              absurd (w.wakes a tss f.due (turn_resting a tss r) (turn_next a f.due f.next));
        }

        pub turn_goes : {E : Type 0} (d : Result Went E) (u : View) (s : Tasks W) → IfOk d (λ r. WakesNext pending e r turn_view t u s) →
            IfOk d (λ r. TakesTurn pending until r v t u s)
        turn_goes (Err q) u s h = tt
        turn_goes (Ok r) u s h = turned r u s h
