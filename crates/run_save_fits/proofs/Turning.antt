-- What moves keep holds of every state of a run.
use Rattle.std.proofs.Common.{◌≡◌, ℕ, zero, suc, ◌≤◌, List, [], ◌∷◌, Option, Some, None, Bool, true, false, cond, nat_lt, refl, sym, ap}
use Rattle.std.specs.Prelude.{ℤ, slice_get}
use Rattle.verse_code.specs.declared.codes.Func.{Func}
use Rattle.verse_code.specs.declared.codes.Code.{Code}
use Rattle.verse_code.specs.Validity.{Valid}
use Rattle.verse_value.specs.declared.runs.Ending.TheVariants as ending
use Rattle.verse_meaning_state.specs.State.{State, begun, spending, stepped, at_moment}
use Rattle.verse_meaning_state.specs.Waits.{Wait, Due, least}
use Rattle.verse_meaning_state.specs.Turns.{Stage, going, closed, broken, amiss, turn, turn_at, turns}
use Rattle.verse_code_machine.specs.Tasks.{Step, Next, Over, Turn, tree_waits, machine, root_named, world, life_from}
use Rattle.verse_code_machine.specs.Frames.{on_there, locals_of}
use Rattle.verse_code_machine.specs.Ends.{woken_in}
use Rattle.verse_code_machine.specs.Runs.{step, carried, room, Forest, stage_of, turn_taken, main_starts, started, inputs_of}
use Rattle.verse_code_machine_parents.specs.Parents.{TreesRooted, StepRooted, StageRooted}
use Rattle.verse_code_machine_parents.proofs.Leaving.{trees_less, one_less}
use Rattle.verse_code_machine_parents.proofs.Running.{operation_roots, woken_roots, main_roots, turn_roots, carried_roots, stage_roots}
use Rattle.run_save_moves.specs.Fine.{TextsAreBytes}
use Rattle.run_save_moves.specs.Moves as m
use Rattle.run_save_moves.specs.Moves.{Point, Move, Leads, ends_run, acts_next, turns_next, then_leads, at, begun as begins}
use Rattle.run_save_moves.proofs.ActsMove.{operation_leads}
use Rattle.run_save_moves.proofs.EndsMove.{wakes_lead, spending_leads}

module _ (c : Code) (valid : Valid c) (bytes : TextsAreBytes c) (P : Point → Type 0) (keeps : (x y : Point) → Move c x y → P x → P y) where
  abbrev pub StepIs : Step → Type 0
  StepIs (Next k) = P (m.acts k)
  StepIs (Over e s) = Unit {0}
  StepIs (Turn s tss) = P (m.turns s tss)

  abbrev pub StageIs : Stage Forest → Type 0
  StageIs (going s tss) = P (m.turns s tss)
  StageIs (closed e s tss) = P (m.turns s tss)
  StageIs (broken e s) = Unit {0}
  StageIs (amiss s) = Unit {0}

  leads_is : {x : Point} {q : Step} → Leads c x q → P x → StepIs q
  leads_is ends_run a = tt
  leads_is acts_next a = a
  leads_is turns_next a = a
  leads_is (then_leads v l) a = leads_is l (keeps _ _ v a)

  carried_is : (n : ℕ) (q : Step) → StepIs q → StepRooted q → StepIs (carried c n q)
  carried_is zero q a r = a
  carried_is (suc n) (Next k) a r =
      carried_is n (step c k) (leads_is (operation_leads c valid bytes k r) a) (operation_roots c k r)
  carried_is (suc n) (Over e s) a r = a
  carried_is (suc n) (Turn s tss) a r = a

  stage_is : (q : Step) → StepIs q → StageIs (stage_of q)
  stage_is (Next k) a = tt
  stage_is (Over e s) a = a
  stage_is (Turn s tss) a = a

  -- the wait that is due may be woken
  abbrev pub Wakes : ℕ → Type 0
  Wakes until = (s : State) (tss : Forest) (d : Due) (l : ℕ) → P (m.turns s tss) → suc l ≡ s.clock.left →
      least s (tree_waits tss) ≡ Some d → nat_lt until d.given.moment ≡ false →
      P (m.wakes d.number d.given.value tss (at_moment d.given.moment (stepped l s)))

  module _ (until : ℕ) (wakes : Wakes until) (steps : ℕ) where
    spent_is : (left : ℕ) (s : State) (tss : Forest) (d : Due) → s.clock.left ≡ left → P (m.turns s tss) → TreesRooted s.clock.left tss →
        least s (tree_waits tss) ≡ Some d → nat_lt until d.given.moment ≡ false →
        StageIs (spending left s (closed ending.Steps s tss)
        (λ s. stage_of (carried c (room c steps) (woken_in d.number d.given.value [] tss (at_moment d.given.moment s)))))
    spent_is zero s tss d e a r f g = a
    spent_is (suc l) s tss d e a r f g = stage_is _ (carried_is (room c steps) _
        (leads_is (wakes_lead c d.number d.given.value (at_moment d.given.moment (stepped l s)) tss) (wakes s tss d l a (sym e) f g))
        (woken_roots d.number d.given.value (at_moment d.given.moment (stepped l s)) tss (trees_less tss (one_less e) r)))

    late_is : (late : Bool) (g h : Stage Forest) → (late ≡ true → StageIs g) → (late ≡ false → StageIs h) → StageIs (cond late g h)
    late_is true g h a b = a refl
    late_is false g h a b = b refl

    due_is : (s : State) (tss : Forest) (d : Option Due) → least s (tree_waits tss) ≡ d → P (m.turns s tss) → TreesRooted s.clock.left tss →
        StageIs (turn_at until d s tss (λ due s. stage_of (carried c (room c steps) (woken_in due.number due.given.value [] tss s))))
    due_is s tss None e a r = a
    due_is s tss (Some d) e a r =
        late_is (nat_lt until d.given.moment) _ _ (λ f. a) (λ f. spent_is s.clock.left s tss d refl a r e f)

    waits_is : (s : State) (tss : Forest) (ws : List Wait) → tree_waits tss ≡ ws → P (m.turns s tss) → TreesRooted s.clock.left tss →
        StageIs (turn until ws s tss (λ due s. stage_of (carried c (room c steps) (woken_in due.number due.given.value [] tss s))))
    waits_is s tss [] e a r = a
    waits_is s tss (w ∷ ws) e a r = due_is s tss (least s (w ∷ ws)) (least_of s (tree_waits tss) (w ∷ ws) e) a r
      where
        least_of : (s : State) (xs ys : List Wait) → xs ≡ ys → least s xs ≡ least s ys
        least_of s xs ys e = ap (least s) e

    pub turns_is : (k : ℕ) (g : Stage Forest) → StageIs g → StageRooted g → StageIs (turns (turn_taken c steps until) k g) ×
        StageRooted (turns (turn_taken c steps until) k g)
    turns_is zero g a r = (a, r)
    turns_is (suc k) (going s tss) a r = turns_is k (turn_taken c steps until s tss) (waits_is s tss (tree_waits tss) refl a r)
        (turn_roots c steps until s tss (tree_waits tss) r)
    turns_is (suc k) (closed e s tss) a r = (a, r)
    turns_is (suc k) (broken e s) a r = (a, r)
    turns_is (suc k) (amiss s) a r = (a, r)

  -- Main's start
  abbrev pub Starts : List ℤ → ℕ → Type 0
  Starts ns steps = (f : Func) (l : ℕ) → slice_get c.functions c.main ≡ Some f → suc l ≡ steps →
      P (m.acts (at (root_named l None) (world [] [] [] (record { before = []; behind = [] })) (stepped l (begun steps))
      (begins l f.entry (locals_of f (inputs_of f.params ns))) []))

  main_is : (ns : List ℤ) (steps : ℕ) → Starts ns steps → (f : Option Func) → slice_get c.functions c.main ≡ f →
      StepIs (on_there f (begun steps) (λ f. main_starts ns (begun steps) f)) ×
      StepRooted (on_there f (begun steps) (λ f. main_starts ns (begun steps) f))
  main_is ns steps h None e = (tt, tt)
  main_is ns zero h (Some f) e = (tt, main_roots ns zero f)
  main_is ns (suc l) h (Some f) e = (h f l e refl, main_roots ns (suc l) f)

  pub started_is : (ns : List ℤ) (steps : ℕ) → Starts ns steps → StageIs (started c ns steps) × StageRooted (started c ns steps)
  started_is ns steps h = let a = main_is ns steps h (slice_get c.functions c.main) refl in (
    stage_is _ (carried_is (room c steps) _ a.0 a.1),
    stage_roots c _ (carried_roots c (room c steps) _ a.1),
  )
