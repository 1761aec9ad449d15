-- In every run no group stands that has its value.
use Rattle.std.proofs.Common.{ℕ, zero, suc, length, List, [], ◌∷◌, ◌++◌, Option, Some, None, Bool, true, false}
use Rattle.std.proofs.Common.{cond, nat_lt, refl, sym}
use Rattle.std.proofs.Common.{subst}
use Rattle.std.specs.Prelude.{ℤ, slice_get}
use Rattle.verse_base.specs.declared.places.Place.{Place}
use Rattle.verse_code.specs.declared.operations.Op.{Op}
use Rattle.verse_code.specs.declared.codes.Func.{Func}
use Rattle.verse_code.specs.declared.codes.Code.{Code}
use Rattle.verse_value.specs.Val.{Val}
use Rattle.verse_value.specs.declared.runs.Ending.TheVariants as ending
use Rattle.verse_meaning_state.specs.State.{State, Clock, Given, begun, spending, restored, at_moment}
use Rattle.verse_meaning_state.specs.Waits.{Wait, Due, least, never, done, heard, after, ltn, nth}
use Rattle.verse_meaning_state.specs.Turns.{Kind, sync, race, rush, Stage, going, closed, broken, amiss, turn}
use Rattle.verse_meaning_state.specs.Turns.{turn_at}
use Rattle.verse_meaning_state.specs.Effects.{event_of, task_of, signal_sent}
use Rattle.verse_code_machine.specs.Tasks.{Life, Handler, Frame, Note, to, gone, Who, World, Machine, Step, Next, Over}
use Rattle.verse_code_machine.specs.Tasks.{Turn, thread, tree_waits}
use Rattle.verse_code_machine.specs.Frames.{on_there, on_top, only_where, fits, answered, goes, failing, nothing}
use Rattle.verse_code_machine.specs.Frames.{method_of, free, kept_noted}
use Rattle.verse_code_machine.specs.Cancelling.{clears_frames}
use Rattle.verse_code_machine.specs.Ends.{cleared}
use Rattle.verse_code_machine.specs.Acts.{place_at, kind_of, awaits, spawns, labels, after_arms, groups, on_noted}
use Rattle.verse_code_machine.specs.Acts.{on_note, on_handler, frame, act}
use Rattle.verse_code_machine.specs.Runs.{step, carried, room, Forest, stage_of, turn_taken, main_starts, started}
use Rattle.verse_code_machine.specs.Runs.{mach_after}
use Rattle.verse_code_machine_contexts.specs.Runs.{Begins, main, woken, Comes, at_once, later, InRun}
use Rattle.verse_code_machine_contexts.specs.Contexts.{StepsAlone}
use Rattle.verse_code_machine_contexts.specs.Waits.{StillBegins, ForestWaits, WorldWaits, StageWaits}
use Rattle.verse_code_machine_contexts.specs.Waits.{GroupsWait}
use Rattle.verse_code_machine_contexts.proofs.Acts.{Low as Does, over, stays, closes, Leaves, sleep}
use Rattle.verse_code_machine_contexts.proofs.Acts.{forever, await_task}
use Rattle.verse_code_machine_contexts.proofs.Acts.{await_event, signal, spawn, spawn_method, group, branch}
use Rattle.verse_code_machine_contexts.proofs.Acts.{goes_low, only_low, top_low}
use Rattle.verse_code_machine_contexts.proofs.Acts.{two_low, many_low, there_low, Site, act_low}
use Rattle.verse_code_machine_contexts.proofs.Runs.{one_more, behind}
use Rattle.verse_code_machine_contexts.proofs.Waits.{StepWaits, Low, over as over_waits, next, with_ups}
use Rattle.verse_code_machine_contexts.proofs.Waits.{spending_low, frames_low, next_low, suspends_low}
use Rattle.verse_code_machine_contexts.proofs.Waits.{returns_low, ends_low, cleared_low, woken_in_low}

-- whatever the frames are
abbrev Any : ℕ → List Note → List Handler → List Frame → Type 0
Any born ns hs bl = Unit {0}

module _ (w : Who) (o : World) (s : State) (a : WorldWaits o) where
  abbrev Is : Step → Type 0
  Is = Does w o s.clock Any Low

  same_clock : StepsAlone s.clock s.clock
  same_clock = record { same = refl; sum = refl }

  fails_here : (ls : List Val) (hs : List Handler) (bl : List Frame) → Is (failing w o s ls hs bl)
  fails_here ls (h ∷ hs) bl =
      goes_low w o s.clock Any Low s (restored h.memory s) h.life ls h.stack h.label hs bl same_clock tt
  fails_here ls [] [] = over
  fails_here ls [] (f ∷ bl) = fails_here f.locals f.handlers bl

  handler_here : (hs : List Handler) (go : Handler → List Handler → Step) → ((h : Handler) (hs : List Handler) → Is (go
      h hs)) → Is (on_handler hs s go)
  handler_here [] go f = over
  handler_here (h ∷ hs) go f = f h hs

  only : (b : Bool) (q : Step) → Is q → Is (only_where b s q)
  only b q l = only_low w o s.clock Any Low b s q l

  module _ (g : Life) (ls st : List Val) (pc : ℕ) (hs : List Handler) (bl : List Frame) where
    note_here : (y : Note) (ns : List Note) → Is (on_note y (λ q. goes w o s s (record g { noted = ns }) ls st q hs bl)
        (clears_frames (λ s. cleared o.ups o.pre o.post o.trees s) w o s (frame (record g { noted = ns }) ls st pc hs ∷
        bl)))
    note_here (to q) ns = goes_low w o s.clock Any Low s s (record g { noted = ns }) ls st q hs bl same_clock tt
    note_here gone ns = closes (frames_low _ w o s (frame (record g { noted = ns }) ls st pc hs ∷ bl) a (λ s.
        cleared_low o.ups o.pre o.post o.trees s a))

    noted_here : (ns : List Note) → Is (on_noted ns s (λ y ns. on_note y (λ q. goes w o s s (record g { noted = ns }) ls
        st q hs bl) (clears_frames (λ s. cleared o.ups o.pre o.post o.trees s) w o s (frame (record g { noted = ns }) ls
        st pc hs ∷ bl))))
    noted_here [] = over
    noted_here (y ∷ ns) = note_here y ns

    sent_here : (e : Option ℕ) (v : Val) (q : ℕ) (st : List Val) → Is (answered None (signal_sent e v
        s) w o s g ls st pc hs bl)
    sent_here None v q st = over
    sent_here (Some e) v q st = only (fits hs (suc pc)) _ (closes (next a))

    awaits_here : (r : Option (Option Given)) (entry : ℕ) (st : List Val) →
        Is (awaits r entry (thread w (frame g ls st (suc pc) hs) bl) o s)
    awaits_here None entry st = over
    awaits_here (Some None) entry st = closes (suspends_low (done entry) _ o s a)
    awaits_here (Some (Some v)) entry st = closes (next a)

    spawns_here : (f : Func) (vs st : List Val) → Is (spawns f vs (thread w (frame g ls st (suc pc) hs) bl) o s)
    spawns_here f vs st = closes (spending_low s.clock.left s _ (λ u. next (record {
      pre = tt;
      post = tt;
      ups = (a.pre, a.post, a.ups);
      before = a.before;
      behind = a.behind;
    })))

    no_arms : (k : Kind) → StillBegins k []
    no_arms sync = tt
    no_arms race = refl
    no_arms rush = tt

    groups_here : (k : Kind) (p : Place) (ks : List ℕ) (q : ℕ) (st : List Val) → Is (groups k p ks q w o s g ls st hs
        bl)
    groups_here k p [] q st = over
    groups_here k p (l ∷ ks) q st = closes (next_low k p [] (l ∷ ks) _ o.pre o.post o.ups o.trees s (λ y. Over
        ending.Stuck s) (no_arms k) a (λ t b. over_waits))

    there : {A : Type 0} (x : Option A) (go : A → Step) → ((y : A) → Is (go y)) → Is (on_there x s go)
    there x go f = there_low w o s.clock Any Low x s go (λ y e. f y)

    top : (st : List Val) (go : Val → List Val → Step) → ((v : Val) (st : List Val) → Is (go v st)) → Is (on_top st s
        go)
    top st go f = top_low w o s.clock Any Low st s go f

    leaving_here : (c : Code) {op : Op} → Leaves op → Is (act c op w o s g ls st pc hs bl)
    leaving_here c (sleep {n = n}) = only (free hs g.noted bl) _ (closes (suspends_low (after n s) _ o s a))
    leaving_here c forever = only (free hs g.noted bl) _ (closes (suspends_low never _ o s a))
    leaving_here c await_task = only (free hs g.noted bl) _ (top st _ (λ v st. there (task_of v) _ (λ entry. awaits_here
        (nth s.clock.results entry) entry st)))
    leaving_here c await_event = only (free hs g.noted bl) _ (top st _ (λ v st. there (event_of v s) _ (λ e. closes
        (suspends_low (heard e) _ o s a))))
    leaving_here c signal = only (free hs g.noted bl) _ (two_low w o s.clock Any Low st s _ (λ e v st. sent_here
        (event_of e s) v pc st))
    leaving_here c (spawn {n = n}) = only (free hs g.noted bl) _ (there (slice_get c.functions n) _ (λ (f : Func).
        many_low w o s.clock Any Low f.params st [] s _ (λ vs st. spawns_here f vs st)))
    leaving_here c (spawn_method {n = n} {m = m}) = only (free hs g.noted bl) _ (many_low w o s.clock Any Low m st [] s
        _ (λ vs st. top st _ (λ v st. there (method_of c n m v s) _ (λ f. spawns_here f (v ∷ vs) st))))
    leaving_here c (group {k = k} {n = n} {p = p}) = only (free hs g.noted bl) _ (there (place_at c p) _ (λ q. there
        (labels c.ops (suc pc) n) _ (λ ks. groups_here (kind_of k) q ks (after_arms (suc pc) n) st)))
    leaving_here c branch = only (free hs g.noted bl) _ (closes (spending_low s.clock.left s _ (λ u. next (with_ups
        a.ups a))))

    site : Site w o s.clock Any (λ op. Low) s g ls st pc hs bl
    site = record {
      clock = same_clock;
      frames = tt;
      leaving = leaving_here;
      opens = λ h e. tt;
      notes = λ q. tt;
      calls = λ l ls st q f vs e. tt;
      failing = λ op can. fails_here ls hs bl;
      returns = λ v. only (nothing g.defers g.noted) _ (closes (returns_low w o g.born v s hs bl a));
      ends = λ v. only (nothing g.defers g.noted) _ (closes (ends_low w o g.born v s hs bl a));
      commits = handler_here hs _ (λ h hs. goes_low w o s.clock Any Low s s g ls (st ++ h.stack) (suc pc) hs bl
          same_clock tt);
      undoes = handler_here hs _ (λ h hs. goes_low w o s.clock Any Low s (restored h.memory s) g ls (st ++ h.stack) (suc
          pc) hs bl
          same_clock tt);
      defer_ends = only (ltn (kept_noted hs) (length g.noted)) _ (noted_here g.noted);
    }

-- what an operation comes to
waits_so : (w : Who) (o : World) (k : Clock) {q : Step} → WorldWaits o → Does w o k Any Low q → StepWaits q
waits_so w o k a over = tt
waits_so w o k a (stays i) = subst WorldWaits (sym i.world) a
waits_so w o k a (closes l) = l.holds

module _ (c : Code) where
  operation_waits : (m : Machine) → WorldWaits m.world → StepWaits (step c m)
  operation_waits m a = waits_so m.who m.world m.state.clock a (there_low m.who m.world m.state.clock Any Low (slice_get
      c.ops m.frame.place) m.state _ (λ op e. act_low m.who m.world m.state.clock Any (λ op. Low) m.state m.frame.life
      m.frame.locals m.frame.stack m.frame.place m.frame.handlers m.below (site m.who m.world m.state a m.frame.life
      m.frame.locals m.frame.stack m.frame.place m.frame.handlers m.below) c op))

  carried_waits : (n : ℕ) (q : Step) → StepWaits q → StepWaits (carried c n q)
  carried_waits zero q a = a
  carried_waits (suc n) (Next m) a = carried_waits n (step c m) (operation_waits m a)
  carried_waits (suc n) (Over e s) a = a
  carried_waits (suc n) (Turn s tss) a = a

  stage_waits : (q : Step) → StepWaits q → StageWaits (stage_of q)
  stage_waits (Next m) a = tt
  stage_waits (Over e s) a = a
  stage_waits (Turn s tss) a = a

  comes_waits : {q r : Step} → Comes c q r → StepWaits q → StepWaits r
  comes_waits at_once a = a
  comes_waits (later {k = k} p) a = comes_waits p (operation_waits k a)

-- a turn
module _ (until : ℕ) (s : State) (tss : Forest) (a : ForestWaits tss) (go : Due → State → Stage Forest)
    (goes : (d : Due) (u : State) → StageWaits (go d u)) where
  spent_waits : (left : ℕ) (d : Due) → StageWaits (spending left s (closed ending.Steps s tss) (λ s. go d (at_moment
      d.given.moment s)))
  spent_waits zero d = a
  spent_waits (suc l) d = goes d _

  late_waits : (late : Bool) (d : Due) → StageWaits (cond late (closed ending.Until s tss) (spending s.clock.left s
      (closed ending.Steps s tss) (λ s. go d (at_moment d.given.moment s))))
  late_waits true d = a
  late_waits false d = spent_waits s.clock.left d

  due_waits : (d : Option Due) → StageWaits (turn_at until d s tss go)
  due_waits None = a
  due_waits (Some d) = late_waits (nat_lt until d.given.moment) d

  turn_waits : (ws : List Wait) → StageWaits (turn until ws s tss go)
  turn_waits [] = a
  turn_waits (w ∷ ws) = due_waits (least s (w ∷ ws))

module _ (c : Code) (ns : List ℤ) (steps until : ℕ) where
  main_waits : (s : State) (f : Option Func) → StepWaits (on_there f s (λ f. main_starts ns s f))
  main_waits s None = tt
  main_waits s (Some f) =
      (spending_low s.clock.left s _ (λ u. next (record {
        pre = tt;
        post = tt;
        ups = tt;
        before = tt;
        behind = tt;
      }))).holds

  behind_waits : (g : Stage Forest) → StageWaits g → StageWaits (behind (turn_taken c steps until) g)
  behind_waits (going s tss) a = turn_waits until s tss a _ (λ d u. stage_waits c _ (carried_waits c (room c steps) _
      (woken_in_low d.number d.given.value [] tss u tt a).holds)) (tree_waits tss)
  behind_waits (closed e s tss) a = a
  behind_waits (broken e s) a = a
  behind_waits (amiss s) a = a

  each_waits : (k : ℕ) → StageWaits (mach_after c ns steps until k)
  each_waits zero = stage_waits c _ (carried_waits c (room c steps) _ (main_waits (begun steps) (slice_get c.functions
      c.main)))
  each_waits (suc k) = subst StageWaits (sym (one_more (turn_taken c steps until) k (started c ns steps))) (behind_waits
      (mach_after c ns steps until k) (each_waits k))

  start_waits : {q : Step} → Begins c ns steps until q → StepWaits q
  start_waits main = main_waits (begun steps) (slice_get c.functions c.main)
  start_waits (woken k left s tss due e d h l) =
      (woken_in_low due.number due.given.value [] tss _ tt (subst StageWaits e (each_waits k))).holds

  pub run_waits : (m : Machine) → InRun c ns steps until m → WorldWaits m.world
  run_waits m i = comes_waits c i.comes (start_waits i.begins)

pub groups_wait : GroupsWait
groups_wait c ns steps until = record { machine = run_waits c ns steps until; stage = each_waits c ns steps until }
