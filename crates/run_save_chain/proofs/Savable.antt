-- What can be saved of a state can be saved of the state that is spelled of what was kept.
use Rattle.std.proofs.Common.{◌≡◌, ℕ, suc, ◌+◌, ◌≤◌, length, List, [], ◌∷◌, Some, refl, sym, subst, ap, ◌∙◌, arith}
use Rattle.verse_code.specs.declared.codes.Code.{Code}
use Rattle.verse_meaning_state.specs.State.{State}
use Rattle.verse_meaning_state.specs.Waits.{Cause, till, never, done, heard}
use Rattle.verse_meaning_state.specs.Effects.{printed, printed_by}
use Rattle.verse_meaning_state.specs.Turns.{Kind, sync, race, rush}
use Rattle.verse_code_machine.specs.Tasks.{Frame, Part, did, runs, Rest, asleep, group, Task}
use Rattle.verse_code_machine.specs.Ends.{all_did, first_did}
use Rattle.verse_code_machine.specs.Frames.{behind}
use Rattle.verse_code_machine.specs.Runs.{Forest}
use Rattle.verse_code_machine_parents.specs.Parents.{TreesRooted}
use Rattle.run_save_shots.specs.Lists.{Each, Reordered}
use Rattle.run_save_shots.specs.Fitting.{ValuesFit, IsBlock}
use Rattle.run_save_shots.specs.Keeping.{kept}
use Rattle.run_save_shots.specs.Spelling.{state, trees}
use Rattle.run_save_moves.specs.Fine.{Scene}
use Rattle.run_save_moves.specs.Moves.{BehindCall, BehindGroup, NotYet, PartFits}
use Rattle.run_save_fits.specs.Held.{FrameStill, LowerStill, WhoIs, RestFine, TaskFine, CauseFine, Savable, trees_sum}
use Rattle.run_save_fits.specs.Held.{is_wait, is_task_of, is_main}
use Rattle.run_save_fits.proofs.KeptAll.{reordered_sum, lines_few}
use Rattle.run_save_kept.specs.Growing.{filled}
use Rattle.run_save_same.specs.Alike.{FrameAlike, FramesAlike, PartsAlike, RestAlike, TaskAlike, TasksAlike, TreesAlike}
use Rattle.run_save_same.proofs.Pairs.{EachPair}
use Rattle.run_save_chain.proofs.Meeting.{trees_same}
use Rattle.run_save_orders.proofs.Ordered.{filled_each}
use Rattle.run_save_orders.proofs.Runs.{filled_sum}

-- ---- what was printed

-- ---- trees

pub tasks_alike : (ts us : List Task) → TasksAlike ts us → EachPair TaskAlike ts us
tasks_alike [] [] a = tt
tasks_alike [] (u ∷ us) a = absurd a
tasks_alike (t ∷ ts) [] a = absurd a
tasks_alike (t ∷ ts) (u ∷ us) a = (a.0, tasks_alike ts us a.1)

pub trees_alike : (tss uss : Forest) → TreesAlike tss uss → EachPair (EachPair TaskAlike) tss uss
trees_alike [] [] a = tt
trees_alike [] (us ∷ uss) a = absurd a
trees_alike (ts ∷ tss) [] a = absurd a
trees_alike (ts ∷ tss) (us ∷ uss) a = (tasks_alike ts us a.0, trees_alike tss uss a.1)

-- ---- tasks

frames_long : (gs hs : List Frame) → FramesAlike gs hs → length gs ≡ length hs
frames_long [] [] a = refl
frames_long [] (h ∷ hs) a = absurd a
frames_long (g ∷ gs) [] a = absurd a
frames_long (g ∷ gs) (h ∷ hs) a = ap suc (frames_long gs hs a.1)

parts_long : (gs hs : List Part) → PartsAlike gs hs → length gs ≡ length hs
parts_long [] [] a = refl
parts_long [] (h ∷ hs) a = absurd a
parts_long (g ∷ gs) [] a = absurd a
parts_long (g ∷ gs) (h ∷ hs) a = ap suc (parts_long gs hs a.1)

all_alike : (gs hs : List Part) → PartsAlike gs hs → all_did gs ≡ all_did hs
all_alike [] [] a = refl
all_alike [] (h ∷ hs) a = absurd a
all_alike (g ∷ gs) [] a = absurd a
all_alike (did v ∷ gs) (did w ∷ hs) a = ap (behind v) (all_alike gs hs a.1) ∙ ap (λ x. behind x (all_did hs)) a.0
all_alike (did v ∷ gs) (runs k ∷ hs) a = absurd a.0
all_alike (runs n ∷ gs) (did w ∷ hs) a = absurd a.0
all_alike (runs n ∷ gs) (runs k ∷ hs) a = refl

first_alike : (gs hs : List Part) → PartsAlike gs hs → first_did gs ≡ first_did hs
first_alike [] [] a = refl
first_alike [] (h ∷ hs) a = absurd a
first_alike (g ∷ gs) [] a = absurd a
first_alike (did v ∷ gs) (did w ∷ hs) a = ap Some a.0
first_alike (did v ∷ gs) (runs k ∷ hs) a = absurd a.0
first_alike (runs n ∷ gs) (did w ∷ hs) a = absurd a.0
first_alike (runs n ∷ gs) (runs k ∷ hs) a = first_alike gs hs a.1

not_yet : (k : Kind) (gs hs : List Part) → PartsAlike gs hs → NotYet k gs → NotYet k hs
not_yet sync gs hs a e = sym (all_alike gs hs a) ∙ e
not_yet race gs hs a e = sym (first_alike gs hs a) ∙ e
not_yet rush gs hs a e = sym (first_alike gs hs a) ∙ e

parts_fit : (n : ℕ) (gs hs : List Part) → PartsAlike gs hs → Each (PartFits n) gs → Each (PartFits n) hs
parts_fit n [] [] a b = tt
parts_fit n [] (h ∷ hs) a b = absurd a
parts_fit n (g ∷ gs) [] a b = absurd a
parts_fit n (did v ∷ gs) (did w ∷ hs) a b = (subst (λ x. PartFits n (did x)) a.0 b.0, parts_fit n gs hs a.1 b.1)
parts_fit n (did v ∷ gs) (runs k ∷ hs) a b = absurd a.0
parts_fit n (runs m ∷ gs) (did w ∷ hs) a b = absurd a.0
parts_fit n (runs m ∷ gs) (runs k ∷ hs) a b = (tt, parts_fit n gs hs a.1 b.1)

wait_alike : (n : ℕ) (q r : Rest) → RestAlike q r → is_wait n q ≡ is_wait n r
wait_alike n (asleep w) (asleep v) a = ap (λ x. is_wait n (asleep x)) a
wait_alike n (asleep w) (group k p gs) a = absurd a
wait_alike n (group k p gs) (asleep v) a = absurd a
wait_alike n (group k p gs) (group j q hs) a = refl

module _ (c : Code) (z : Scene) (more : ℕ) where
  -- the same entries and events, and more that was printed
  abbrev pub later : Scene
  later = record { entries = z.entries; bytes = more; events = z.events }

  frame_still : (g h : Frame) → FrameAlike g h → FrameStill c z.entries g → FrameStill c z.entries h
  frame_still g h a b = record {
    locals = subst (ValuesFit z.entries) a.locals b.locals;
    stack = subst (ValuesFit z.entries) a.stack b.stack;
    defers = subst (Each (IsBlock c)) a.defers b.defers;
    handlers = sym a.handlers ∙ b.handlers;
  }

  lower_still : (gs hs : List Frame) → FramesAlike gs hs → Each (LowerStill c z.entries) gs → Each (LowerStill c z.entries) hs
  lower_still [] [] a b = tt
  lower_still [] (h ∷ hs) a b = absurd a
  lower_still (g ∷ gs) [] a b = absurd a
  lower_still (g ∷ gs) (h ∷ hs) a b = (
    (frame_still g h a.0 b.0.0, subst (BehindCall c) a.0.place b.0.1),
    lower_still gs hs a.1 b.1,
  )

  rest_fine : (next place : ℕ) (q r : Rest) → RestAlike q r → RestFine c z next place q → RestFine c later next place r
  rest_fine next place (asleep w) (asleep v) a b = subst (λ x. RestFine c later next place (asleep x)) a (
    b.0,
    b.1,
    cause w.cause b.2,
  )
    where
      cause : (d : Cause) → CauseFine c z d → CauseFine c later d
      cause (till moment) e = e
      cause never e = e
      cause (done entry) e = e
      cause (heard d) e = e
  rest_fine next place (asleep w) (group k p gs) a b = absurd a
  rest_fine next place (group k p gs) (asleep v) a b = absurd a
  rest_fine next place (group k p gs) (group j q hs) a b = subst (λ x. RestFine c later next place (group x q hs)) a.0
      (subst (λ x. RestFine c later next place (group k x hs)) a.1 (
        subst (BehindGroup c place k p) (parts_long gs hs a.2) b.0,
        not_yet k gs hs a.2 b.1,
        parts_fit z.entries gs hs a.2 b.2,
        subst (λ n. 1 ≤ n) (parts_long gs hs a.2) b.3,
      ))

  pub task_fine : (next : ℕ) (t u : Task) → TaskAlike t u → WhoIs u.thread.who → TaskFine c z next t → TaskFine c later next u
  task_fine next t u a named b = record {
    still = record {
      named = named;
      frame = frame_still t.thread.frame u.thread.frame a.frame b.still.frame;
      below = lower_still t.thread.below u.thread.below a.below b.still.below;
    };
    rest = subst (λ n. RestFine c later next n u.rest) a.frame.place
        (rest_fine next t.thread.frame.place t.rest u.rest a.rest b.rest);
  }

-- ---- all

lines_before : (l b n m : ℕ) → l ≤ b → n ≤ m → l + n ≤ b + m
lines_before l b n m e f = omega (arith, e, f)

told_before : (b x n most : ℕ) → b ≡ x → x + n ≤ most → (b + n) + 0 ≤ most
told_before b x n most e f = omega (arith, e, f)

at_most : (a b n : ℕ) → a ≡ b → b ≤ n → a ≤ n
at_most a b n e f = omega (arith, e, f)

at_least : (a b n : ℕ) → a ≡ b → n ≤ b → n ≤ a
at_least a b n e f = omega (arith, e, f)

module _ (c : Code) (steps until : ℕ) (s : State) (tss ordered : Forest) (o : Reordered tss ordered)
    (h : Savable c steps until s tss) (alike : TreesAlike (filled ordered) (trees c (kept s ordered)))
    (rooted : TreesRooted s.clock.left (trees c (kept s ordered))) where
  abbrev pub uss : Forest
  uss = trees c (kept s ordered)

  same_sum : (f : Task → ℕ) → ((t u : Task) → TaskAlike t u → f t ≡ f u) → trees_sum f uss ≡ trees_sum f tss
  same_sum f same = sym (trees_same TaskAlike f f same (filled ordered) uss (trees_alike (filled ordered) uss alike)) ∙
      (filled_sum f ordered ∙ reordered_sum f o)

  abbrev pub scene : Scene
  scene = later c h.scene (printed_by s)

  pub savable_again : Each (Each (TaskFine c scene s.clock.next)) uss →
      Savable c steps until (state (kept s ordered)) uss
  savable_again fine = record {
    scene = scene;
    state = record {
      fine = record {
        before = refl;
        entries = h.state.fine.entries;
        memory = record {
          slots = h.state.fine.memory.slots;
          weight = h.state.fine.memory.weight;
          told = told_before s.clock.before.bytes h.scene.bytes (length (printed s.memory.trace)) _ h.state.fine.before
              h.state.fine.memory.told;
          events = h.state.fine.memory.events;
        };
        results = h.state.fine.results;
        signals = tt;
      };
      now = h.state.now;
      results = h.state.results;
    };
    trees = fine;
    rooted = rooted;
    sum = h.sum;
    before = lines_before s.clock.before.lines s.clock.before.bytes (length s.memory.trace) (length (printed s.memory.trace)) h.before
        (lines_few s.memory.trace);
    few_tasks = at_most _ _ _ (same_sum (λ t. 1) (λ t u a. refl)) h.few_tasks;
    few_frames = at_most _ _ _ (same_sum (λ (t : Task). suc (length t.thread.below))
        (λ t u a. ap suc (frames_long t.thread.below u.thread.below a.below))) h.few_frames;
    few_waits = h.few_waits;
    few_entries = h.few_entries;
    waits = λ n. at_most _ _ _ (same_sum (λ (t : Task). is_wait n t.rest) (λ t u a. wait_alike n t.rest u.rest a.rest)) (h.waits n);
    tasks_of = λ e. at_most _ _ _ (same_sum (λ (t : Task). is_task_of e t.thread.who.role) (λ t u a. ap (is_task_of e) a.role))
        (h.tasks_of e);
    runs_of = λ e. at_least _ _ _ (same_sum (λ (t : Task). is_task_of e t.thread.who.role) (λ t u a. ap (is_task_of e) a.role))
        (h.runs_of e);
    main = at_most _ _ _ (same_sum (λ (t : Task). is_main t.thread.who.role) (λ t u a. ap is_main a.role)) h.main;
  }
