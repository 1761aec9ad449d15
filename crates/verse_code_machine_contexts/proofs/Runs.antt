-- The turns of a run go by operations.
use Rattle.std.proofs.Common.{◌≡◌, ℕ, zero, suc, List, [], ◌∷◌, Option, Some, None, Bool, true, false, cond, nat_lt}
use Rattle.std.proofs.Common.{refl, sym, subst, ap}
use Rattle.std.specs.Prelude.{ℤ}
use Rattle.verse_code.specs.declared.codes.Code.{Code}
use Rattle.verse_value.specs.declared.runs.Ending.TheVariants as ending
use Rattle.verse_meaning_state.specs.State.{State, spending, at_moment}
use Rattle.verse_meaning_state.specs.Waits.{Wait, Due, least}
use Rattle.verse_meaning_state.specs.Turns.{Stage, going, closed, broken, amiss, turn, turn_at, turns}
use Rattle.verse_code_machine.specs.Tasks.{Step, Next, Over, Turn, tree_waits}
use Rattle.verse_code_machine.specs.Ends.{woken_in}
use Rattle.verse_code_machine.specs.Runs.{step, carried, room, Forest, stage_of, turn_taken, started, mach_after}
use Rattle.verse_code_machine_contexts.specs.Runs.{main, woken, Comes, at_once, later, Operates, operates, ended}
use Rattle.verse_code_machine_contexts.specs.Runs.{TurnsOperate}

carried_comes : (c : Code) (n : ℕ) (q : Step) → Comes c q (carried c n q)
carried_comes c zero q = at_once
carried_comes c (suc n) (Next m) = later (carried_comes c n (step c m))
carried_comes c (suc n) (Over e s) = at_once
carried_comes c (suc n) (Turn s tss) = at_once

-- the stage behind one more turn
module _ (take : State → Forest → Stage Forest) where
  abbrev pub behind : Stage Forest → Stage Forest
  behind (going s tss) = take s tss
  behind (closed e s tss) = closed e s tss
  behind (broken e s) = broken e s
  behind (amiss s) = amiss s

  one_turn : (g : Stage Forest) → turns take 1 g ≡ behind g
  one_turn (going s tss) = refl
  one_turn (closed e s tss) = refl
  one_turn (broken e s) = refl
  one_turn (amiss s) = refl

  pub one_more : (k : ℕ) (g : Stage Forest) → turns take (suc k) g ≡ behind (turns take k g)
  one_more zero g = one_turn g
  one_more (suc k) (going s tss) = one_more k (take s tss)
  one_more (suc k) (closed e s tss) = refl
  one_more (suc k) (broken e s) = refl
  one_more (suc k) (amiss s) = refl

module _ (c : Code) (ns : List ℤ) (steps until : ℕ) where
  abbrev Is : Stage Forest → Type 0
  Is = Operates c ns steps until

  module _ (k : ℕ) (s : State) (tss : Forest) (here : mach_after c ns steps until k ≡ going s tss) where
    wakes : (d : Due) → least s (tree_waits tss) ≡ Some d → nat_lt until d.given.moment ≡ false → (left : ℕ) →
        s.clock.left ≡ left →
        Is (spending left s (closed ending.Steps s tss) (λ s. stage_of (carried c (room c steps) (woken_in d.number
        d.given.value [] tss (at_moment d.given.moment s)))))
    wakes d e l zero h = ended ending.Steps s tss
    wakes d e l (suc left) h = operates _ _ (woken k left s tss d here e l h) (carried_comes c (room c steps) _)

    in_time : (d : Due) → least s (tree_waits tss) ≡ Some d → (late : Bool) → nat_lt until d.given.moment ≡ late → Is
        (cond late
        (closed ending.Until s tss) (spending s.clock.left s (closed ending.Steps s tss) (λ s. stage_of (carried c (room
        c steps) (woken_in d.number d.given.value [] tss (at_moment d.given.moment s))))))
    in_time d e true h = ended ending.Until s tss
    in_time d e false h = wakes d e h s.clock.left refl

    due_next : (d : Option Due) → least s (tree_waits tss) ≡ d → Is (turn_at until d s tss (λ due s. stage_of (carried c
        (room c
        steps) (woken_in due.number due.given.value [] tss s))))
    due_next None e = ended ending.Waiting s tss
    due_next (Some d) e = in_time d e (nat_lt until d.given.moment) refl

    turn_operates : (ws : List Wait) → tree_waits tss ≡ ws → Is (turn until ws s tss (λ due s. stage_of (carried c (room
        c steps)
        (woken_in due.number due.given.value [] tss s))))
    turn_operates [] e = ended ending.Done s tss
    turn_operates (w ∷ ws) e = due_next (least s (w ∷ ws)) (ap (least s) e)

  next_operates : (k : ℕ) (g : Stage Forest) → mach_after c ns steps until k ≡ g → Is g → Is (behind (turn_taken c steps
      until) g)
  next_operates k (going s tss) e o = turn_operates k s tss e (tree_waits tss) refl
  next_operates k (closed x s tss) e o = o
  next_operates k (broken x s) e o = o
  next_operates k (amiss s) e o = o

  each_operates : (k : ℕ) → Is (mach_after c ns steps until k)
  each_operates zero = operates _ _ main (carried_comes c (room c steps) _)
  each_operates (suc k) = subst Is (sym (one_more (turn_taken c steps until) k (started c ns steps))) (next_operates k
      (mach_after c
      ns steps until k) refl (each_operates k))

pub turns_operate : TurnsOperate
turns_operate c ns steps until k = each_operates c ns steps until k
