-- A run is the same with other numbers, and behind signals and lines of before.
use Rattle.std.proofs.Common.{◌≡◌, ℕ, zero, suc, ◌≤◌, length, List, [], ◌∷◌, ◌++◌, Option, Some, None, Bool, true, false, cond, nat_lt}
use Rattle.std.proofs.Common.{refl, sym, ap}
use Rattle.std.proofs.Common.{◌∙◌, subst, arith}
use Rattle.std.proofs.lemmas.Bool.Decides.{nat_tests}
use Rattle.verse_code.specs.declared.codes.Code.{Code}
use Rattle.verse_value.specs.Val.{Val}
use Rattle.verse_value.specs.declared.runs.Ending.{Ending}
use Rattle.verse_value.specs.declared.runs.Ending.TheVariants as ending
use Rattle.verse_meaning_state.specs.State.{State, Signal, spending, stepped, at_moment}
use Rattle.verse_meaning_state.specs.Waits.{Wait, Due, eqn, ltn, heard, first_signal, least}
use Rattle.verse_meaning_state.specs.Turns.{Stage, going, closed, broken, amiss, turn, turn_at, turns, run_of, run_closed}
use Rattle.verse_meaning_state.proofs.Numbers.{ltn_no}
use Rattle.verse_code_machine.specs.Tasks.{Rest, asleep, group, Task, Machine, Step, Next, Over, Turn, waits_with, waits_of, tree_waits}
use Rattle.verse_code_machine.specs.Ends.{woken_in}
use Rattle.verse_code_machine.specs.Runs.{Forest, step, carried, room, stage_of, turn_taken}
use Rattle.verse_code_machine.specs.Laws.{IsOver}
use Rattle.verse_code_machine_saved.specs.Horizons.{after_from, run_from, Unheard, NoneNewer}
use Rattle.verse_code_machine_saved.specs.Numbers.{Numbering, Prior, Rises, Fixed, Counts, state_as, trees_as, renumbered, RunRenumbered}
use Rattle.verse_code_machine_saved.specs.Resuming.{behind, RunBehind}
use Rattle.verse_code_machine_saved.proofs.Numbers.{rising_apart}
use Rattle.verse_code_machine_saved.proofs.Signals.{signals_unheard}
use Rattle.verse_code_machine_saved.proofs.Settings.{Setting, S, Is, steps_is, RestIs, TasksAre, TreesAre, Same}
use Rattle.verse_code_machine_saved.proofs.Ends.{waits_same, woken_in_same}
use Rattle.verse_code_machine_saved.proofs.Acts.{steps_same}

-- no signal of the list reaches the wait
abbrev pub IsUnheard : List Signal → Wait → Type 0
IsUnheard gs w = (event : ℕ) → w.cause ≡ heard event → first_signal gs event w.number ≡ None

pub all_waits : (z : Prior) (tss : Forest) → tree_waits (trees_as z tss) ≡ tree_waits tss
all_waits z [] = refl
all_waits z (ts ∷ tss) = ap (λ ws. ws ++ tree_waits (trees_as z tss)) (waits_same z ts) ∙ ap (λ ws. waits_of ts ++ ws) (all_waits z tss)

closed_behind : (z : Prior) (e : Ending) (s : State) (n : ℕ) → run_closed e (state_as z s) n ≡ behind z.lines (run_closed e s n)
closed_behind z ending.Done s n = refl
closed_behind z ending.Waiting s n = refl
closed_behind z ending.Until s n = refl
closed_behind z ending.Steps s n = refl
closed_behind z (ending.Error c p) s n = refl
closed_behind z ending.Stuck s n = refl

-- what an operation comes to: a machine of which this holds, or trees
abbrev pub Comes : (Machine → Type 0) → (State → Forest → Type 0) → Step → Type 0
Comes M T (Next m) = M m
Comes M T (Over e s) = Unit {0}
Comes M T (Turn s tss) = T s tss

-- what holds of the machines and the trees of this run, so that the task that runs has such a path
pub record Along (k : Setting) (c : Code) : Type 1 where
  pub Machines : Machine → Type 0
  pub Trees : State → Forest → Type 0
  pub path : (m : Machine) → Machines m → k.IsPath m.who.path
  pub steps : (m : Machine) → Machines m → Comes Machines Trees (step c m)
  pub wakes : (n : ℕ) (v : Val) (s : State) (tss : Forest) → Trees s tss → Comes Machines Trees (woken_in n v [] tss s)
  pub later : (l m : ℕ) (s : State) (tss : Forest) → suc l ≡ s.clock.left → Trees s tss → Trees (at_moment m (stepped l s)) tss

-- nothing is said of them
pub comes : (q : Step) → Comes (λ m. Unit {0}) (λ s tss. Unit {0}) q
comes (Next m) = tt
comes (Over e s) = tt
comes (Turn s tss) = tt

-- where every path is such a one
abbrev pub everywhere : (k : Setting) (c : Code) → ((a : List ℕ) → k.IsPath a) → Along k c
everywhere k c all = record {
  Machines = λ m. Unit {0};
  Trees = λ s tss. Unit {0};
  path = λ m h. all m.who.path;
  steps = λ m h. comes (step c m);
  wakes = λ n v s tss h. comes (woken_in n v [] tss s);
  later = λ l m s tss e h. tt;
}

module _ (k : Setting) (c : Code) (along : Along k c) where
  abbrev pub Goes : Step → Type 0
  Goes = Comes along.Machines along.Trees

  carried_goes : (n : ℕ) (q : Step) → Goes q → Goes (carried c n q)
  carried_goes zero q g = g
  carried_goes (suc n) (Next m) g = carried_goes n (step c m) (along.steps m g)
  carried_goes (suc n) (Over e s) g = tt
  carried_goes (suc n) (Turn s tss) g = g

  carried_same : (n : ℕ) (q p : Step) → Goes q → Same k q p → Same k (carried c n q) (carried c n p)
  carried_same zero q p g l = l
  carried_same (suc n) (Next m) p g l = subst (λ z. Same k (carried c n (step c m)) (carried c (suc n) z)) (sym l.is)
      (carried_same n _ _ (along.steps m g) (steps_same k c m (along.path m g) l.holds.0 l.holds.1))
  carried_same (suc n) (Over e s) p g l = subst (λ z. Same k (Over e s) (carried c (suc n) z)) (sym l.is) (record { is = refl; holds = tt })
  carried_same (suc n) (Turn s tss) p g l =
      subst (λ z. Same k (Turn s tss) (carried c (suc n) z)) (sym l.is) (record { is = refl; holds = l.holds })

  pub data Alike : Stage Forest → Stage Forest → Type 0 where
    both_go : {s : State} {tss : Forest} → Is k s → TreesAre k tss → along.Trees s tss →
        Alike (going s tss) (going (S k s) (trees_as k.prior tss))
    both_end : {e : Ending} {s : State} {tss : Forest} → Is k s → Alike (closed e s tss) (closed e (S k s) (trees_as k.prior tss))
    both_break : {e : Ending} {s : State} → Alike (broken e s) (broken e (S k s))
    both_miss : {s : State} → Alike (amiss s) (amiss (S k s))

  abbrev pub ClosedIs : Stage Forest → Type 0
  ClosedIs (going s tss) = Unit {0}
  ClosedIs (closed e s tss) = Is k s
  ClosedIs (broken e s) = Unit {0}
  ClosedIs (amiss s) = Unit {0}

  pub closed_is : (g h : Stage Forest) → Alike g h → ClosedIs g
  closed_is _ _ (both_go {s} {tss} f a g) = tt
  closed_is _ _ (both_end {e} {s} {tss} h) = h
  closed_is _ _ (both_break {e} {s}) = tt
  closed_is _ _ (both_miss {s}) = tt

  stage_alike : (q p : Step) → Goes q → Same k q p → Alike (stage_of q) (stage_of p)
  stage_alike (Next m) p g l = subst (λ z. Alike (amiss m.state) (stage_of z)) (sym l.is) both_miss
  stage_alike (Over e s) p g l = subst (λ z. Alike (broken e s) (stage_of z)) (sym l.is) both_break
  stage_alike (Turn s tss) p g l = subst (λ z. Alike (going s tss) (stage_of z)) (sym l.is) (both_go l.holds.0 l.holds.1 g)

  -- and where so many operations follow
  pub carried_alike : (n : ℕ) (q p : Step) → Goes q → Same k q p → Alike (stage_of (carried c n q)) (stage_of (carried c n p))
  carried_alike n q p g l = stage_alike (carried c n q) (carried c n p) (carried_goes n q g) (carried_same n q p g l)

  over_alike : (g h : Stage Forest) → Alike g h → IsOver g → IsOver h
  over_alike _ _ (both_go {s} {tss} f a g) o = o
  over_alike _ _ (both_end {e} {s} {tss} h) o = tt
  over_alike _ _ (both_break {e} {s}) o = tt
  over_alike _ _ (both_miss {s}) o = o

  over_back : (g h : Stage Forest) → Alike g h → IsOver h → IsOver g
  over_back _ _ (both_go {s} {tss} f a g) o = o
  over_back _ _ (both_end {e} {s} {tss} h) o = tt
  over_back _ _ (both_break {e} {s}) o = tt
  over_back _ _ (both_miss {s}) o = o

  pub run_alike : (g h : Stage Forest) → Alike g h → run_of tree_waits h ≡ behind k.prior.lines (run_of tree_waits g)
  run_alike _ _ (both_go {s} {tss} f a g) = refl
  run_alike _ _ (both_end {e} {s} {tss} h) =
      ap (λ ws. run_closed e (S k s) (length ws)) (all_waits k.prior tss) ∙ closed_behind k.prior e s (length (tree_waits tss))
  run_alike _ _ (both_break {e} {s}) = refl
  run_alike _ _ (both_miss {s}) = refl

  module _ (unheard : (w : Wait) → k.IsWait w → IsUnheard k.prior.signals w) where
    task_unheard : (ts : List Task) (ws : List Wait) → TasksAre k ts → Unheard k.prior.signals ws →
        Unheard k.prior.signals (waits_of ts ++ ws)
    task_unheard [] ws a b = b
    task_unheard (t ∷ ts) ws a b = front t.rest a.0 (task_unheard ts ws a.1 b)
      where
        front : (q : Rest) → RestIs k q → Unheard k.prior.signals (waits_of ts ++ ws) →
            Unheard k.prior.signals (waits_with q (waits_of ts) ++ ws)
        front (asleep w) a b = (unheard w a, b)
        front (group d p gs) a b = b

    all_unheard : (tss : Forest) → TreesAre k tss → Unheard k.prior.signals (tree_waits tss)
    all_unheard [] a = tt
    all_unheard (ts ∷ tss) a = task_unheard ts (tree_waits tss) a.0 (all_unheard tss a.1)

    module _ (steps until : ℕ) (moves : (m : ℕ) (s : State) → m ≤ until → k.Holds s → k.Holds (at_moment m s)) where
      abbrev wakes : Forest → Due → State → Stage Forest
      wakes tss d s = stage_of (carried c (room c steps) (woken_in d.number d.given.value [] tss s))

      moves_is : (m : ℕ) (s : State) → m ≤ until → Is k s → Is k (at_moment m s)
      moves_is m s e h = record { few = h.few; counts = h.counts; holds = moves m s e h.holds }

      spent_alike : (left : ℕ) (s : State) (tss : Forest) (d : Due) → left ≡ s.clock.left → d.given.moment ≤ until → Is k s →
          TreesAre k tss → along.Trees s tss →
          Alike (spending left s (closed ending.Steps s tss) (λ s. wakes tss d (at_moment d.given.moment s)))
          (spending left (S k s) (closed ending.Steps (S k s) (trees_as k.prior tss)) (λ s. wakes (trees_as k.prior tss) d (at_moment
          d.given.moment s)))
      spent_alike zero s tss d e u h a g = both_end h
      spent_alike (suc l) s tss d e u h a g =
          let t = at_moment d.given.moment (stepped l s) in
          carried_alike (room c steps) _ _
          (along.wakes d.number d.given.value t tss (along.later l d.given.moment s tss e g)) (woken_in_same k d.number
          d.given.value [] tss t (moves_is d.given.moment (stepped l s) u (steps_is k l s e h)) tt a)

      late_alike : (m : ℕ) (b : Bool) → nat_lt until m ≡ b → (g h i j : Stage Forest) → Alike g i → (m ≤ until → Alike h j) →
          Alike (cond b g h) (cond b i j)
      late_alike m true e g h i j a b = a
      late_alike m false e g h i j a b = b (grind (arith, nat_tests, e))

      due_alike : (s : State) (tss : Forest) (d : Option Due) → Is k s → TreesAre k tss → along.Trees s tss →
          Alike (turn_at until d s tss (wakes tss)) (turn_at until d (S k s) (trees_as k.prior tss) (wakes (trees_as k.prior tss)))
      due_alike s tss None h a g = both_end h
      due_alike s tss (Some d) h a g = late_alike d.given.moment (nat_lt until d.given.moment) refl _ _ _ _ (both_end h)
          (λ u. spent_alike s.clock.left s tss d refl u h a g)

      turn_alike : (s : State) (tss : Forest) (ws : List Wait) → Is k s → TreesAre k tss → along.Trees s tss → Unheard k.prior.signals ws →
          Alike (turn until ws s tss (wakes tss)) (turn until ws (S k s) (trees_as k.prior tss) (wakes (trees_as k.prior tss)))
      turn_alike s tss [] h a g b = both_end h
      turn_alike s tss (w ∷ ws) h a g b =
          subst (λ d. Alike (turn_at until (least s (w ∷ ws)) s tss (wakes tss)) (turn_at until d (S k s) (trees_as k.prior tss) (wakes
          (trees_as k.prior tss)))) (sym (signals_unheard k.prior (w ∷ ws) s b)) (due_alike s tss (least s (w ∷ ws)) h a g)

      taken_alike : (s : State) (tss : Forest) → Is k s → TreesAre k tss → along.Trees s tss →
          Alike (turn_taken c steps until s tss) (turn_taken c steps until (S k s) (trees_as k.prior tss))
      taken_alike s tss h a g =
          subst (λ ws. Alike (turn_taken c steps until s tss) (turn until ws (S k s) (trees_as k.prior tss) (wakes (trees_as k.prior tss))))
          (sym (all_waits k.prior tss)) (turn_alike s tss (tree_waits tss) h a g (all_unheard tss a))

      pub turns_alike : (n : ℕ) (g h : Stage Forest) → Alike g h →
          Alike (turns (turn_taken c steps until) n g) (turns (turn_taken c steps until) n h)
      turns_alike zero g h a = a
      turns_alike (suc n) _ _ (both_go {s} {tss} f a g) = turns_alike n _ _ (taken_alike s tss f a g)
      turns_alike (suc n) _ _ (both_end {e} {s} {tss} h) = both_end h
      turns_alike (suc n) _ _ (both_break {e} {s}) = both_break
      turns_alike (suc n) _ _ (both_miss {s}) = both_miss

      pub runs_alike : (s : State) (tss : Forest) → Is k s → TreesAre k tss → along.Trees s tss →
          Alike (after_from c steps until s tss) (after_from c steps until (S k s) (trees_as k.prior tss))
      runs_alike s tss h a g = turns_alike (suc steps) (going s tss) (going (S k s) (trees_as k.prior tss))
          (both_go {s = s} {tss = tss} h a g)

first_none : (gs : List Signal) (e n m : ℕ) → m ≤ n → NoneNewer m gs → first_signal gs e n ≡ None
first_none [] e n m h a = refl
first_none (g ∷ gs) e n m h a =
    at (eqn e g.event) (ltn n g.next) (ltn_no n g.next (omega (arith, h, a.0))) (first_none gs e n m h a.1)
  where
    at : (b c : Bool) → c ≡ false → first_signal gs e n ≡ None →
        cond b (cond c (Some g.given) (first_signal gs e n)) (first_signal gs e n) ≡ None
    at true c f i = ap (λ c. cond c (Some g.given) (first_signal gs e n)) f ∙ i
    at false c f i = i

-- the signals of before reach no wait that is left, and none that comes
abbrev unheard_setting : (z : Prior) (bound from : ℕ) → Rises z.numbers → Fixed z.numbers bound → NoneNewer from z.signals → Setting
unheard_setting z bound from rises fixed newer = record {
  prior = z;
  bound = bound;
  apart = rising_apart z.numbers rises;
  IsPath = λ a. Unit {0};
  rises = λ a e. rises a;
  fixed = fixed;
  Holds = λ s. from ≤ s.clock.next;
  keeps = record {
    steps = λ l s e h. h;
    draws = λ s h. omega (arith, h);
    memory = λ m s h. h;
    result = λ e v s h. h;
    signal = λ e v s h. h;
    entry = λ s h. h;
  };
  IsWait = IsUnheard z.signals;
  new = λ c s h e f. first_none z.signals e s.clock.next from h newer;
}

module _ (k : Setting) (of : (w : Wait) → IsUnheard k.prior.signals w → k.IsWait w) where
  rests_are : (ts : List Task) (ws : List Wait) → Unheard k.prior.signals (waits_of ts ++ ws) → TasksAre k ts × Unheard k.prior.signals ws
  rests_are [] ws h = (tt, h)
  rests_are (t ∷ ts) ws h = front t.rest h (rests_are ts ws)
    where
      front : (q : Rest) → Unheard k.prior.signals (waits_with q (waits_of ts) ++ ws) → (Unheard k.prior.signals (waits_of ts ++ ws) →
          TasksAre k ts × Unheard k.prior.signals ws) → (RestIs k q × TasksAre k ts) × Unheard k.prior.signals ws
      front (asleep w) h f = ((of w h.0, (f h.1).0), (f h.1).1)
      front (group d p gs) h f = ((tt, (f h).0), (f h).1)

  trees_unheard : (tss : Forest) → Unheard k.prior.signals (tree_waits tss) → TreesAre k tss
  trees_unheard [] h = tt
  trees_unheard (ts ∷ tss) h = let a = rests_are ts (tree_waits tss) h in (a.0, trees_unheard tss a.1)

module _ (c : Code) (steps until : ℕ) (z : Prior) (s : State) (tss : Forest) (rises : Rises z.numbers)
    (fixed : Fixed z.numbers s.clock.left) (counts : Counts z s) (newer : NoneNewer s.clock.next z.signals)
    (unheard : Unheard z.signals (tree_waits tss)) where
  abbrev K : Setting
  K = unheard_setting z s.clock.left s.clock.next rises fixed newer

  abbrev A : Along K c
  A = everywhere K c (λ a. tt)

  both_run : Alike K c A (after_from c steps until s tss) (after_from c steps until (state_as z s) (trees_as z tss))
  both_run = runs_alike K c A (λ w h. h) steps until (λ m s e h. h) s tss
      (record { few = omega arith; counts = counts; holds = omega arith })
      (trees_unheard K (λ w h. h) tss unheard) tt

  pub over_behind : IsOver (after_from c steps until s tss) → IsOver (after_from c steps until (state_as z s) (trees_as z tss))
  over_behind o = over_alike K c A _ _ both_run o

  pub behind_over : IsOver (after_from c steps until (state_as z s) (trees_as z tss)) → IsOver (after_from c steps until s tss)
  behind_over o = over_back K c A _ _ both_run o

  pub run_is : run_from c steps until (state_as z s) (trees_as z tss) ≡ behind z.lines (run_from c steps until s tss)
  run_is = run_alike K c A _ _ both_run

pub run_behind : RunBehind
run_behind c steps until z s tss rises fixed counts newer unheard = run_is c steps until z s tss rises fixed counts newer unheard

-- no signal, no wait that it reaches
pub none_unheard : (ws : List Wait) → Unheard [] ws
none_unheard [] = tt
none_unheard (w ∷ ws) = ((λ e h. refl), none_unheard ws)

pub run_renumbered_to : (c : Code) (steps until : ℕ) (s : State) (tss : Forest) (r : Numbering) → Rises r → Fixed r s.clock.left →
    run_from c steps until s (trees_as (renumbered r s) tss) ≡ run_from c steps until s tss
run_renumbered_to c steps until s tss r rises fixed =
    run_behind c steps until (renumbered r s) s tss rises fixed (omega arith) tt (none_unheard (tree_waits tss))

pub run_renumbered : RunRenumbered
run_renumbered c steps until s tss uss r q a b d e meet =
    sym (run_renumbered_to c steps until s tss r a d) ∙ ap (run_from c steps until s) meet ∙ run_renumbered_to c steps until s uss q b e
