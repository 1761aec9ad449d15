-- A run of a valid code ends.
use Rattle.std.proofs.Common.{◌≡◌, ℕ, zero, suc, length, ◌+◌, ◌*◌, ◌<◌, ◌≤◌, List, [], ◌∷◌, Option, Some, None, Bool, true, false, cond}
use Rattle.std.proofs.Common.{nat_lt, refl, subst, arith}
use Rattle.std.specs.Prelude.{ℤ, slice_get}
use Rattle.std.proofs.lemmas.Option.{slice_get_within}
use Rattle.verse_code.specs.declared.operations.Op.{Op}
use Rattle.verse_code.specs.declared.codes.Func.{Func}
use Rattle.verse_code.specs.declared.codes.Code.{Code}
use Rattle.verse_code.specs.Validity.{AreOperations}
use Rattle.verse_value.specs.declared.runs.Ending.TheVariants as ending
use Rattle.verse_meaning_state.specs.State.{State, begun, spending, stepped, at_moment}
use Rattle.verse_meaning_state.specs.Waits.{Wait, Due, least}
use Rattle.verse_meaning_state.specs.Turns.{Stage, going, closed, broken, amiss, turn, turn_at}
use Rattle.verse_meaning_state.specs.Turns.{turns}
use Rattle.verse_code_machine.specs.Tasks.{Machine, Step, Next, Over, Turn, tree_waits}
use Rattle.verse_code_machine.specs.Frames.{on_there}
use Rattle.verse_code_machine.specs.Ends.{woken_in}
use Rattle.verse_code_machine.specs.Acts.{act}
use Rattle.verse_code_machine.specs.Runs.{step, carried, room, Forest, stage_of, turn_taken, main_starts, started, mach_after}
use Rattle.verse_code_machine.specs.Laws.{IsWhole, IsOver, RunsEnd, StaysOver}
use Rattle.verse_code_machine.proofs.Weights.{FrameIs, FramesAre, TreesAre, WorldIs, trees_weight, steps_weight, weight, Low, over}
use Rattle.verse_code_machine.proofs.Ends.{others, spending_low, woken_in_low}
use Rattle.verse_code_machine.proofs.Acts.{there_low, act_low}

zero_plus : (k : ℕ) → 0 + k ≡ k
zero_plus k = omega arith

suc_plus : (k j : ℕ) → suc (k + j) ≡ suc k + j
suc_plus k j = omega arith

module _ (c : Code) (valid : AreOperations c) where
  fetched : (op : Option Op) (m : Machine) → slice_get c.ops m.frame.place ≡ op → FrameIs m.frame → FramesAre m.below → WorldIs m.world →
      Low (length c.ops) (weight (length c.ops) m) (on_there op m.state (λ op. act c op m.who m.world m.state m.frame.life m.frame.locals
      m.frame.stack m.frame.place m.frame.handlers m.below))
  fetched None m e a b o = over (length c.ops)
  fetched (Some op) m e a b o = act_low (length c.ops) m.who m.world m.state m.frame.life m.frame.place m.frame.handlers m.below
      (record {
        within = slice_get_within c.ops m.frame.place op e;
        fit = a.0;
        kept = a.1;
        below = b;
        others =
            o;
      }) c op m.frame.locals m.frame.stack (valid m.frame.place op e)

  step_low : (m : Machine) → FrameIs m.frame → FramesAre m.below → WorldIs m.world → Low (length c.ops) (weight (length c.ops) m) (step c m)
  step_low m a b o = fetched (slice_get c.ops m.frame.place) m refl a b o

  -- no operation is to follow, and nothing weighs more
  abbrev IsSettled : ℕ → Step → Type 0
  IsSettled w (Next m) = ⊥
  IsSettled w (Over e s) = Unit {0}
  IsSettled w (Turn s tss) = (steps_weight (length c.ops) s + trees_weight (length c.ops) tss < w) × TreesAre tss

  settled_more : (v w : ℕ) (q : Step) → v ≤ w → IsSettled v q → IsSettled w q
  settled_more v w (Next m) le h = h
  settled_more v w (Over e s) le h = h
  settled_more v w (Turn s tss) le h = (omega (arith, le, h.0), h.1)

  enough : (fuel w : ℕ) (q : Step) → w ≤ fuel → Low (length c.ops) w q → IsSettled w (carried c fuel q)
  enough zero w (Next m) le l = absurd (omega (arith, le, l.holds.0))
  enough zero w (Over e s) le l = tt
  enough zero w (Turn s tss) le l = l.holds
  enough (suc fuel) w (Next m) le l =
      settled_more (weight (length c.ops) m) w (carried c fuel (step c m)) (omega (arith, l.holds.0)) (enough fuel (weight (length c.ops)
      m) (step c m) (omega (arith, le, l.holds.0)) (step_low m l.holds.1.0 l.holds.1.1.0 l.holds.1.1.1))
  enough (suc fuel) w (Over e s) le l = tt
  enough (suc fuel) w (Turn s tss) le l = l.holds

  -- k turns were taken: so many steps are gone
  abbrev pub Within : (steps k : ℕ) → Stage Forest → Type 0
  Within steps k (going s tss) =
      (steps_weight (length c.ops) s + trees_weight (length c.ops) tss + k * (2 * length c.ops + 4) ≤ steps * (2 * length c.ops + 4)) ×
      TreesAre tss
  Within steps k (closed e s tss) = Unit {0}
  Within steps k (broken e s) = Unit {0}
  Within steps k (amiss s) = ⊥

  stage_within : (steps k w : ℕ) (q : Step) → w + k * (2 * length c.ops + 4) ≤ steps * (2 * length c.ops + 4) + 1 → IsSettled w q →
      Within steps k (stage_of q)
  stage_within steps k w (Next m) le h = h
  stage_within steps k w (Over e s) le h = tt
  stage_within steps k w (Turn s tss) le h = (omega (arith, le, h.0), h.1)

  more_steps : (l : ℕ) → suc l * (2 * length c.ops + 4) ≡ l * (2 * length c.ops + 4) + (2 * length c.ops + 4)
  more_steps l = omega arith

  spent_within : (steps until k : ℕ) (s : State) (tss : Forest) (d : Due) (left : ℕ) → left ≡ s.clock.left →
      left * (2 * length c.ops + 4) + trees_weight (length c.ops) tss + k * (2 * length c.ops + 4) ≤ steps * (2 * length c.ops + 4) →
      TreesAre tss →
      Within steps (suc k) (spending left s (closed ending.Steps s tss) (λ s. stage_of (carried c (room c steps) (woken_in d.number
      d.given.value [] tss (at_moment d.given.moment s)))))
  spent_within steps until k s tss d zero e h a = tt
  spent_within steps until k s tss d (suc l) e h a =
      stage_within steps (suc k) (suc (l * (2 * length c.ops + 4) + trees_weight (length c.ops) tss)) _ (omega (
        arith,
        h,
        more_steps l,
        more_steps k,
      ))
      (enough (room c steps) _ _ (omega (arith, h, more_steps l, more_steps steps)) (woken_in_low (length c.ops) _ d.number d.given.value
      [] tss (at_moment d.given.moment (stepped l s)) (omega arith) tt a))

  due_within : (steps until k : ℕ) (s : State) (tss : Forest) (d : Option Due) → Within steps k (going s tss) →
      Within steps (suc k) (turn_at until d s tss (λ due s. stage_of (carried c (room c steps) (woken_in due.number due.given.value [] tss
      s))))
  due_within steps until k s tss None h = tt
  due_within steps until k s tss (Some d) h = late (nat_lt until d.given.moment)
    where
      late : (b : Bool) → Within steps (suc k) (cond b (closed ending.Until s tss) (spending s.clock.left s (closed ending.Steps s tss)
          (λ s. stage_of (carried c (room c steps) (woken_in d.number d.given.value [] tss (at_moment d.given.moment s))))))
      late true = tt
      late false = spent_within steps until k s tss d s.clock.left refl h.0 h.1

  turn_within : (steps until k : ℕ) (s : State) (tss : Forest) (ws : List Wait) → Within steps k (going s tss) →
      Within steps (suc k) (turn until ws s tss (λ due s. stage_of (carried c (room c steps) (woken_in due.number due.given.value [] tss
      s))))
  turn_within steps until k s tss [] h = tt
  turn_within steps until k s tss (x ∷ ws) h = due_within steps until k s tss (least s (x ∷ ws)) h

  pub turns_within : (steps until k j : ℕ) (g : Stage Forest) → Within steps k g →
      Within steps (k + j) (turns (turn_taken c steps until) j g)
  turns_within steps until k zero g h = subst (λ z. Within steps z g) (omega arith) h
  turns_within steps until k (suc j) (going s tss) h =
      subst (λ z. Within steps z (turns (turn_taken c steps until) j (turn_taken c steps until s tss))) (omega arith) (turns_within steps
      until (suc k) j (turn_taken c steps until s tss) (turn_within steps until k s tss (tree_waits tss) h))
  turns_within steps until k (suc j) (closed e s tss) h = tt
  turns_within steps until k (suc j) (broken e s) h = tt
  turns_within steps until k (suc j) (amiss s) h = h

  main_low : (ns : List ℤ) (steps : ℕ) (f : Option Func) → Low (length c.ops) (suc (steps * (2 * length c.ops + 4))) (on_there f (begun
      steps) (λ f. main_starts ns (begun steps) f))
  main_low ns steps f =
      there_low (length c.ops) _ f (begun steps) _ (λ (f : Func). spending_low (length c.ops) _ steps (begun steps) _ (λ l e. record {
        holds = (omega (arith, e), ((refl, tt), (tt, others tt tt tt tt tt)));
      }))

  started_within : (ns : List ℤ) (steps : ℕ) → Within steps 0 (started c ns steps)
  started_within ns steps =
      stage_within steps 0 (suc (steps * (2 * length c.ops + 4))) _ (omega arith) (enough (room c steps) _ _ (omega (
        arith,
        more_steps
            steps,
      )) (main_low ns steps (slice_get c.functions c.main)))

  after_within : (ns : List ℤ) (steps until k : ℕ) → Within steps k (mach_after c ns steps until k)
  after_within ns steps until k =
      subst (λ z. Within steps z (mach_after c ns steps until k)) (zero_plus k) (turns_within steps until 0 k (started c ns steps)
      (started_within ns steps))

  pub is_whole : (steps k : ℕ) (g : Stage Forest) → Within steps k g → IsWhole g
  is_whole steps k (going s tss) h = tt
  is_whole steps k (closed e s tss) h = tt
  is_whole steps k (broken e s) h = tt
  is_whole steps k (amiss s) h = h

  pub is_over : (steps : ℕ) (g : Stage Forest) → Within steps (suc steps) g → IsOver g
  is_over steps (going s tss) h = absurd (omega (arith, h.0, more_steps steps))
  is_over steps (closed e s tss) h = tt
  is_over steps (broken e s) h = tt
  is_over steps (amiss s) h = h

pub runs_end : RunsEnd
runs_end c ns steps until valid = record {
  whole = λ k. is_whole c valid.operations steps k (mach_after c ns steps until k) (after_within c valid.operations ns steps until k);
  over = is_over c valid.operations steps (mach_after c ns steps until (suc steps)) (after_within c valid.operations ns steps until (suc
      steps));
}

pub over_turns : (take : State → Forest → Stage Forest) (j : ℕ) (g : Stage Forest) → IsOver g → turns take j g ≡ g
over_turns take zero g h = refl
over_turns take (suc j) (going s tss) h = absurd h
over_turns take (suc j) (closed e s tss) h = refl
over_turns take (suc j) (broken e s) h = refl
over_turns take (suc j) (amiss s) h = refl

-- k turns and then j are as many turns
pub turns_more : (take : State → Forest → Stage Forest) (k j : ℕ) (g : Stage Forest) → IsOver (turns take k g) →
    turns take (k + j) g ≡ turns take k g
turns_more take zero j g h = subst (λ z. turns take z g ≡ g) (omega arith) (over_turns take j g h)
turns_more take (suc k) j (going s tss) h =
    subst (λ z. turns take z (going s tss) ≡ turns take k (take s tss)) (suc_plus k j) (turns_more take k j (take s tss) h)
turns_more take (suc k) j (closed e s tss) h = over_turns take (suc k + j) (closed e s tss) h
turns_more take (suc k) j (broken e s) h = over_turns take (suc k + j) (broken e s) h
turns_more take (suc k) j (amiss s) h = absurd h

pub stays_over : StaysOver
stays_over c ns steps until k j h = turns_more (turn_taken c steps until) k j (started c ns steps) h
