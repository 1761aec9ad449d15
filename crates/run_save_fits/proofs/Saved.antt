-- Every state of a run between two turns can be saved.
use Rattle.std.proofs.Common.{◌≡◌, ℕ, zero, suc, ◌+◌, ◌≤◌, length, map, List, [], ◌∷◌, ◌++◌, Option, Some, None, Bool, true, false, cond}
use Rattle.std.proofs.Common.{nat_lt}
use Rattle.std.proofs.Common.{refl, sym, subst, ap, arith}
use Rattle.std.specs.Prelude.{ℤ, ◌-◌, slice_get}
use Rattle.verse_code.specs.declared.codes.Func.{Func}
use Rattle.verse_code.specs.declared.codes.Code.{Code}
use Rattle.verse_code.specs.Validity.{Valid}
use Rattle.verse_value.specs.Val.{Val, int, array, vals}
use Rattle.verse_meaning_state.specs.State.{State, Given, Signal, begun, stepped, at_moment}
use Rattle.verse_meaning_state.specs.Waits.{Cause, till, never, done, heard, Wait, eqn, ltn, nth, first_signal, given_by, due_of, Due}
use Rattle.verse_meaning_state.specs.Waits.{sooner, sooner_of}
use Rattle.verse_meaning_state.specs.Waits.{least}
use Rattle.verse_meaning_state.specs.Turns.{Stage, going, closed, broken, amiss, turns}
use Rattle.verse_code_machine.specs.Tasks.{Task, tree_waits, root_named, world}
use Rattle.verse_code_machine.specs.Frames.{units, locals_of}
use Rattle.verse_code_machine.specs.Runs.{Forest, turn_taken, started, inputs_of, mach_after}
use Rattle.verse_code_machine_parents.specs.Parents.{StageRooted}
use Rattle.run_save_shots.specs.Lists.{Each}
use Rattle.run_save_shots.specs.Fitting.{ValueFits, ValuesFit, GivenFits, AreSound}
use Rattle.verse_base.specs.declared.limits.TheConstants.{MOST_NOW}
use Rattle.verse_base.proofs.Facts.{nat_lt_not}
use Rattle.run_save_shots.proofs.Lists.{all_as}
use Rattle.run_save_moves.specs.Fine.{Scene, TextsAreBytes}
use Rattle.run_save_fits.specs.Held as d
use Rattle.run_save_fits.specs.Held.{Savable, StateHeld, NoLater, trees_sum}
use Rattle.run_save_fits.specs.Laws.{StageSavable, InputsFit, RunIsSavable, SavableGoesOn}
use Rattle.run_save_moves.specs.Moves as m
use Rattle.run_save_moves.specs.Moves.{Point, Move}
use Rattle.run_save_moves.proofs.Values.{unit_fits, append_fit}
use Rattle.run_save_fits.proofs.Measures.{Measure, of_trees, held}
use Rattle.run_save_fits.proofs.Measures as w
use Rattle.run_save_fits.proofs.Counted.{all_tasks, all_frames, all_drawn, all_entries, wait_of, task_of, main_task, sum_below, sum_above}
use Rattle.run_save_fits.proofs.Counted.{lines_before}
use Rattle.run_save_fits.proofs.Holding as h
use Rattle.run_save_fits.proofs.Lasting as l
use Rattle.run_save_fits.proofs.Turning as t

-- ---- what a wait gives is a value of a run

abbrev DueFits : ℕ → Option Due → Type 0
DueFits n None = Unit {0}
DueFits n (Some d) = ValueFits n d.given.value

sooner_fits : (n i : ℕ) (g : Given) (o : Option Due) → ValueFits n g.value → DueFits n o → DueFits n (sooner i g o)
sooner_fits n i g None a b = a
sooner_fits n i g (Some d) a b = at (nat_lt d.given.moment g.moment) (nat_lt g.moment d.given.moment) (nat_lt d.number i)
  where
    at : (p q r : Bool) → DueFits n (cond p (Some d) (cond q (Some (record { number = i; given = g })) (cond r (Some d) (Some (record {
      number = i;
      given = g;
    })))))
    at true q r = b
    at false true r = a
    at false false true = b
    at false false false = a

of_fits : (n i : ℕ) (g : Option Given) (o : Option Due) → GivenFits n g → DueFits n o → DueFits n (sooner_of i g o)
of_fits n i None o a b = b
of_fits n i (Some g) o a b = sooner_fits n i g o a b

result_fits : (n : ℕ) (rs : List (Option Given)) (e : ℕ) → Each (GivenFits n) rs → GivenFits n (given_by (nth rs e))
result_fits n [] e a = tt
result_fits n (r ∷ rs) zero a = a.0
result_fits n (r ∷ rs) (suc e) a = result_fits n rs e a.1

signal_fits : (n : ℕ) (gs : List Signal) (e i : ℕ) → Each (λ (g : Signal). ValueFits n g.given.value) gs → GivenFits n (first_signal gs e i)
signal_fits n [] e i a = tt
signal_fits n (g ∷ gs) e i a = at (eqn e g.event) (ltn i g.next) (signal_fits n gs e i a.1)
  where
    at : (p q : Bool) → GivenFits n (first_signal gs e i) →
        GivenFits n (cond p (cond q (Some g.given) (first_signal gs e i)) (first_signal gs e i))
    at true true b = a.0
    at true false b = b
    at false q b = b

due_fits : (n : ℕ) (s : State) (i : ℕ) (q : Cause) → Each (GivenFits n) s.clock.results → Each (λ (g : Signal). ValueFits n g.given.value)
    s.clock.signals → GivenFits n (due_of s i q)
due_fits n s i (till moment) a b = unit_fits n
due_fits n s i never a b = tt
due_fits n s i (done e) a b = result_fits n s.clock.results e a
due_fits n s i (heard e) a b = signal_fits n s.clock.signals e i b

least_fits : (n : ℕ) (s : State) (ws : List Wait) → Each (GivenFits n) s.clock.results → Each (λ (g : Signal). ValueFits n g.given.value)
    s.clock.signals → DueFits n (least s ws)
least_fits n s [] a b = tt
least_fits n s (x ∷ ws) a b = of_fits n x.number (due_of s x.number x.cause) (least s ws) (due_fits n s x.number x.cause a b)
    (least_fits n s ws a b)

-- ---- Main's locals

units_fit : (n i : ℕ) → ValuesFit n (units i)
units_fit n zero = tt
units_fit n (suc i) = (unit_fits n, units_fit n i)

ints_sound : (n : ℕ) (ns : List ℤ) → AreSound n (vals (map int ns))
ints_sound n [] = tt
ints_sound n (z ∷ ns) = (tt, ints_sound n ns)

inputs_fit : (n i : ℕ) (ns : List ℤ) → InputsFit ns → ValuesFit n (inputs_of i ns)
inputs_fit n zero ns a = tt
inputs_fit n (suc i) ns a = (record { small = a; sound = ints_sound n ns }, tt)

plain : (a b : ℕ) → a + 0 ≤ b → a ≤ b
plain a b e = omega (arith, e)

bare : (a b : ℕ) → a ≤ b → a + 0 ≤ b
bare a b e = omega (arith, e)

rest_of : (a b k : ℕ) → a + k ≤ b → k ≤ b
rest_of a b k e = omega (arith, e)

both : (a b k n : ℕ) → a + k ≤ n → b + n ≤ k → k ≡ n
both a b k n e f = omega (arith, e, f)

module _ (c : Code) (valid : Valid c) (bytes : TextsAreBytes c) where
  counted : (k : Measure) (x y : Point) → Move c x y → w.Held k x → w.Held k y
  counted k x y v a = held k v a

  abbrev Counts : Measure → Stage Forest → Type 0
  Counts k g = t.StageIs c valid bytes (w.Held k) (counted k) g

  count_wakes : (k : Measure) (until : ℕ) → t.Wakes c valid bytes (w.Held k) (counted k) until
  count_wakes k until s tss d l a e f g = let b = k.turns l d.given.moment s e in omega (arith, a, b)

  count_turns : (k : Measure) (steps until i : ℕ) (g : Stage Forest) → Counts k g → StageRooted g →
      Counts k (turns (turn_taken c steps until) i g)
  count_turns k steps until i g a r = (t.turns_is c valid bytes (w.Held k) (counted k) until (count_wakes k until) steps i g a r).0

  abbrev Begins : Measure → ℕ → Type 0
  Begins k steps = (l : ℕ) → suc l ≡ steps →
      k.live (root_named l None) 1 + k.used (stepped l (begun steps)) ≤ k.bound (stepped l (begun steps))

  count_starts : (k : Measure) (ns : List ℤ) (steps : ℕ) → Begins k steps → Counts k (started c ns steps)
  count_starts k ns steps b =
      (t.started_is c valid bytes (w.Held k) (counted k) ns steps (λ f l i e. let a = b l e in omega (arith, a))).0

  module _ (until : ℕ) (short : until ≤ MOST_NOW) where
    holds : (x y : Point) → Move c x y → h.Held c until short x → h.Held c until short y
    holds x y v a = h.holds c until short v a

    abbrev Holds : Stage Forest → Type 0
    Holds g = t.StageIs c valid bytes (h.Held c until short) holds g

    hold_wakes : t.Wakes c valid bytes (h.Held c until short) holds until
    hold_wakes s tss d l a e f g = let z = a.0 in let b = a.1.0 in (
      z,
      (
        record {
          fine = record {
            before = b.fine.before;
            entries = b.fine.entries;
            memory = b.fine.memory;
            results = b.fine.results;
            signals = b.fine.signals;
          };
          now = nat_lt_not until d.given.moment g;
          results = b.results;
        },
        subst (DueFits z.entries) f (least_fits z.entries s (tree_waits tss) b.fine.results b.fine.signals),
        a.1.1,
      ),
    )

    hold_turns : (steps i : ℕ) (g : Stage Forest) → Holds g → StageRooted g → Holds (turns (turn_taken c steps until) i g)
    hold_turns steps i g a r = (t.turns_is c valid bytes (h.Held c until short) holds until hold_wakes steps i g a r).0

    hold_begins : (ns : List ℤ) (steps : ℕ) → InputsFit ns → t.Starts c valid bytes (h.Held c until short) holds ns steps
    hold_begins ns steps b f l i e = (
      record {
        entries = 0;
        bytes = 0;
        events = [];
      },
      (
        record {
          fine = record {
            before = refl;
            entries = refl;
            memory = record { slots = tt; weight = omega arith; told = omega arith; events = tt };
            results = tt;
            signals = tt;
          };
          now = omega arith;
          results = tt;
        },
        record {
          named = (refl, refl);
          frame = h.begun_fine c until short (record { entries = 0; bytes = 0; events = [] }) l f.entry
              (locals_of f (inputs_of f.params ns)) (append_fit 0 (inputs_of f.params ns) (units (f.locals - f.params))
              (inputs_fit 0 f.params ns b) (units_fit 0 (f.locals - f.params)));
          below = tt;
        },
        record { pre_fine = tt; post_fine = tt; ups = tt; before_fine = tt; behind_fine = tt },
      ),
    )

    hold_starts : (ns : List ℤ) (steps : ℕ) → InputsFit ns → Holds (started c ns steps)
    hold_starts ns steps b = (t.started_is c valid bytes (h.Held c until short) holds ns steps (hold_begins ns steps b)).0

    -- an entry that runs has its task
    abbrev Both : ℕ → Point → Type 0
    Both e x = h.Held c until short x × (l.Layered e x × l.Lasts e x)

    both_keep : (e : ℕ) (x y : Point) → Move c x y → Both e x → Both e y
    both_keep e x y v a = (h.holds c until short v a.0, (l.layered e v a.1.0, l.lasts e c until short v a.0 a.1.0 a.1.1))

    abbrev Lasting : ℕ → Stage Forest → Type 0
    Lasting e g = t.StageIs c valid bytes (Both e) (both_keep e) g

    both_wakes : (e : ℕ) → t.Wakes c valid bytes (Both e) (both_keep e) until
    both_wakes e s tss d i a f g k = (hold_wakes s tss d i a.0 f g k, (tt, a.1.1))

    lasting_turns : (e steps i : ℕ) (g : Stage Forest) → Lasting e g → StageRooted g → Lasting e (turns (turn_taken c steps until) i g)
    lasting_turns e steps i g a r = (t.turns_is c valid bytes (Both e) (both_keep e) until (both_wakes e) steps i g a r).0

    lasting_starts : (e : ℕ) (ns : List ℤ) (steps : ℕ) → InputsFit ns → Lasting e (started c ns steps)
    lasting_starts e ns steps b = (t.started_is c valid bytes (Both e) (both_keep e) ns steps
        (λ f i j k. (hold_begins ns steps b f i j k, ((tt, tt), omega arith)))).0

    -- all that is held and counted
    record Everything (steps : ℕ) (g : Stage Forest) : Type 0 where
      pub holding : Holds g
      pub rooted : StageRooted g
      pub tasks : Counts all_tasks g
      pub frames : Counts all_frames g
      pub drawn : Counts all_drawn g
      pub entries : Counts all_entries g
      pub waits : (n : ℕ) → Counts (wait_of n) g
      pub tasks_of : (e : ℕ) → Counts (task_of e) g
      pub lasting : (e : ℕ) → Lasting e g
      pub main : Counts main_task g
      pub below : Counts (sum_below steps) g
      pub above : Counts (sum_above steps) g
      pub before : Counts lines_before g

    everything_turns : (steps i : ℕ) (g : Stage Forest) → Everything steps g → Everything steps (turns (turn_taken c steps until) i g)
    everything_turns steps i g a = record {
      holding = hold_turns steps i g a.holding a.rooted;
      rooted = (t.turns_is c valid bytes (h.Held c until short) holds until hold_wakes steps i g a.holding a.rooted).1;
      tasks = count_turns all_tasks steps until i g a.tasks a.rooted;
      frames = count_turns all_frames steps until i g a.frames a.rooted;
      drawn = count_turns all_drawn steps until i g a.drawn a.rooted;
      entries = count_turns all_entries steps until i g a.entries a.rooted;
      waits = λ n. count_turns (wait_of n) steps until i g (a.waits n) a.rooted;
      tasks_of = λ e. count_turns (task_of e) steps until i g (a.tasks_of e) a.rooted;
      lasting = λ e. lasting_turns e steps i g (a.lasting e) a.rooted;
      main = count_turns main_task steps until i g a.main a.rooted;
      below = count_turns (sum_below steps) steps until i g a.below a.rooted;
      above = count_turns (sum_above steps) steps until i g a.above a.rooted;
      before = count_turns lines_before steps until i g a.before a.rooted;
    }

    everything_starts : (ns : List ℤ) (steps : ℕ) → InputsFit ns → Everything steps (started c ns steps)
    everything_starts ns steps b = record {
      holding = hold_starts ns steps b;
      rooted = (t.started_is c valid bytes (w.Held all_tasks) (counted all_tasks) ns steps (λ f l i e. omega arith)).1;
      tasks = count_starts all_tasks ns steps (λ l e. omega arith);
      frames = count_starts all_frames ns steps (λ l e. omega arith);
      drawn = count_starts all_drawn ns steps (λ l e. omega arith);
      entries = count_starts all_entries ns steps (λ l e. omega arith);
      waits = λ n. count_starts (wait_of n) ns steps (λ l e. omega arith);
      tasks_of = λ e. count_starts (task_of e) ns steps (λ l i. omega arith);
      lasting = λ e. lasting_starts e ns steps b;
      main = count_starts main_task ns steps (λ l e. omega arith);
      below = count_starts (sum_below steps) ns steps (λ l e. omega (arith, e));
      above = count_starts (sum_above steps) ns steps (λ l e. omega (arith, e));
      before = count_starts lines_before ns steps (λ l e. omega arith);
    }

    savable : (steps : ℕ) (s : State) (tss : Forest) → Everything steps (going s tss) → Savable c steps until s tss
    savable steps s tss a = record {
      scene = a.holding.0;
      state = a.holding.1.0;
      trees = a.holding.1.1;
      rooted = a.rooted;
      sum = both (of_trees (sum_below steps) tss) (of_trees (sum_above steps) tss) (s.clock.left + s.clock.spent) steps a.below a.above;
      before = rest_of (of_trees lines_before tss) s.clock.before.bytes s.clock.before.lines a.before;
      few_tasks = plain (of_trees all_tasks tss) s.clock.spent a.tasks;
      few_frames = plain (of_trees all_frames tss) s.clock.spent a.frames;
      few_waits = rest_of (of_trees all_drawn tss) s.clock.spent s.clock.next a.drawn;
      few_entries = rest_of (of_trees all_entries tss) s.clock.spent (length s.clock.results) a.entries;
      waits = λ n. plain (of_trees (wait_of n) tss) (d.one (ltn n s.clock.next)) (a.waits n);
      tasks_of = λ e. plain (of_trees (task_of e) tss) (d.unfinished (nth s.clock.results e)) (a.tasks_of e);
      runs_of = λ e. (a.lasting e).1.1;
      main = plain (of_trees main_task tss) 1 a.main;
    }

    stage_savable : (steps : ℕ) (g : Stage Forest) → Everything steps g → StageSavable c steps until g
    stage_savable steps (going s tss) a = savable steps s tss a
    stage_savable steps (closed e s tss) a = savable steps s tss (record {
      holding = a.holding;
      rooted = a.rooted;
      tasks = a.tasks;
      frames = a.frames;
      drawn = a.drawn;
      entries = a.entries;
      waits = a.waits;
      tasks_of = a.tasks_of;
      lasting = a.lasting;
      main = a.main;
      below = a.below;
      above = a.above;
      before = a.before;
    })
    stage_savable steps (broken e s) a = tt
    stage_savable steps (amiss s) a = tt

    -- what no task weighs
    none_weigh : (f : Task → ℕ) → ((x : Task) → f x ≡ 0) →
        (tss : Forest) → trees_sum f tss ≡ 0
    none_weigh f e [] = refl
    none_weigh f e (ts ∷ tss) = let a = tasks ts in let b = none_weigh f e tss in omega (arith, a, b)
      where
        tasks : (ts : List Task) → d.tasks_sum f ts ≡ 0
        tasks [] = refl
        tasks (x ∷ ts) = let a = e x in let b = tasks ts in omega (arith, a, b)

    held_later : (steps u : ℕ) (s : State) (tss : Forest) → u ≤ until → Savable c steps u s tss → h.Held c until short (m.turns s tss)
    held_later steps u s tss le a = (
      a.scene,
      (
        record {
          fine = a.state.fine;
          now = between s.clock.now u until a.state.now le;
          results = all_as (NoLater u) (NoLater until) later s.clock.results a.state.results;
        },
        a.trees,
      ),
    )
      where
        between : (n u v : ℕ) → n ≤ u → u ≤ v → n ≤ v
        between n u v e f = omega (arith, e, f)

        later : (g : Option Given) → NoLater u g → NoLater until g
        later None b = tt
        later (Some g) b = between g.moment u until b le

    from_savable : (steps u : ℕ) (s : State) (tss : Forest) → u ≤ until → Savable c steps u s tss → Everything steps (going s tss)
    from_savable steps u s tss le a = record {
      holding = held_later steps u s tss le a;
      lasting = λ e. (held_later steps u s tss le a, (tt, a.runs_of e));
      rooted = a.rooted;
      tasks = bare (of_trees all_tasks tss) s.clock.spent a.few_tasks;
      frames = bare (of_trees all_frames tss) s.clock.spent a.few_frames;
      drawn = none (of_trees all_drawn tss) s.clock.next s.clock.spent (none_weigh all_drawn.task (λ x. refl) tss) a.few_waits;
      entries = none (of_trees all_entries tss) (length s.clock.results) s.clock.spent (none_weigh all_entries.task (λ x. refl) tss)
          a.few_entries;
      waits = λ n. bare (of_trees (wait_of n) tss) (d.one (ltn n s.clock.next)) (a.waits n);
      tasks_of = λ e. bare (of_trees (task_of e) tss) (d.unfinished (nth s.clock.results e)) (a.tasks_of e);
      main = bare (of_trees main_task tss) 1 a.main;
      below = none (of_trees (sum_below steps) tss) (s.clock.left + s.clock.spent) steps (none_weigh (sum_below steps).task (λ x. refl) tss)
          (same_le _ _ a.sum);
      above = none (of_trees (sum_above steps) tss) steps (s.clock.left + s.clock.spent) (none_weigh (sum_above steps).task (λ x. refl) tss)
          (same_le _ _ (sym a.sum));
      before = none (of_trees lines_before tss) s.clock.before.lines s.clock.before.bytes (none_weigh lines_before.task (λ x. refl) tss)
          a.before;
    }
      where
        none : (a k n : ℕ) → a ≡ 0 → k ≤ n → a + k ≤ n
        none a k n e f = omega (arith, e, f)

        same_le : (a b : ℕ) → a ≡ b → a ≤ b
        same_le a b e = omega (arith, e)

pub run_is_savable : RunIsSavable
run_is_savable c ns steps until k valid bytes inputs short = stage_savable c valid bytes until short steps (mach_after c ns steps until k)
    (everything_turns c valid bytes until short steps k (started c ns steps) (everything_starts c valid bytes until short ns steps inputs))

pub savable_goes_on : SavableGoesOn
savable_goes_on c steps u v k s tss valid bytes le short a =
    stage_savable c valid bytes v short steps (turns (turn_taken c steps v) k (going s tss))
    (everything_turns c valid bytes v short steps k (going s tss) (from_savable c valid bytes v short steps u s tss le a))
