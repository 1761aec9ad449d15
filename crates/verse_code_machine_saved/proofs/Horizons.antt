-- A run that goes on from where it stood at a horizon is the run to a later horizon.
use Rattle.std.proofs.Common.{◌≡◌, ℕ, zero, suc, ◌+◌, ◌≤◌, List, [], ◌∷◌, Option, Some, None, Bool, true, false, cond, nat_lt, refl, sym}
use Rattle.std.proofs.Common.{subst, ap, ◌∙◌, arith}
use Rattle.std.proofs.Common.{inl, inr}
use Rattle.std.specs.Prelude.{ℤ, ◌⊎◌}
use Rattle.std.proofs.lemmas.Bool.Decides.{nat_tests}
use Rattle.verse_code.specs.declared.codes.Code.{Code}
use Rattle.verse_value.specs.declared.runs.Ending.{Ending}
use Rattle.verse_value.specs.declared.runs.Ending.TheVariants as ending
use Rattle.verse_meaning_state.specs.State.{State, spending, stepped, at_moment}
use Rattle.verse_meaning_state.specs.Waits.{Wait, Due, least}
use Rattle.verse_meaning_state.specs.Turns.{Stage, going, closed, broken, amiss, turn, turn_at, turns, run_of}
use Rattle.verse_code_machine.specs.Tasks.{Step, Next, Over, Turn, tree_waits}
use Rattle.verse_code_machine.specs.Runs.{Forest, stage_of, turn_taken, started, mach_after}
use Rattle.verse_code_machine.specs.Laws.{IsOver, RunsEnd}
use Rattle.verse_code_machine.proofs.Whole.{over_turns}
use Rattle.verse_code_machine_saved.specs.Horizons.{after_from, HorizonMoves, HorizonMovesAgain}

-- it did not end at a horizon
abbrev IsOn : Stage Forest → Type 0
IsOn (going s tss) = Unit {0}
IsOn (closed e s tss) = e ≡ ending.Until → ⊥
IsOn (broken e s) = Unit {0}
IsOn (amiss s) = Unit {0}

pub on_step : (q : Step) → IsOn (stage_of q)
on_step (Next m) = tt
on_step (Over e s) = tt
on_step (Turn s tss) = tt

-- what a turn to a horizon is to one to a later horizon: the same, or there is none
abbrev Either : State → Forest → (a b : Stage Forest) → Type 0
Either s tss a b = (a ≡ closed ending.Until s tss) ⊎ ((a ≡ b) × IsOn a)

module _ (go : Due → State → Stage Forest) (on : (d : Due) (s : State) → IsOn (go d s)) (u v : ℕ) (le : u ≤ v) (s : State)
    (tss : Forest) where
  spent_on : (left : ℕ) (d : Due) → IsOn (spending left s (closed ending.Steps s tss) (λ s. go d (at_moment d.given.moment s)))
  spent_on zero d = λ e. grind (arith, e)
  spent_on (suc left) d = on d (at_moment d.given.moment (stepped left s))

  at_either : (d : Option Due) → Either s tss (turn_at u d s tss go) (turn_at v d s tss go)
  at_either None = inr (refl, λ e. grind (arith, e))
  at_either (Some d) = late (nat_lt u d.given.moment) (nat_lt v d.given.moment) refl refl
    where
      q : Stage Forest
      q = spending s.clock.left s (closed ending.Steps s tss) (λ s. go d (at_moment d.given.moment s))

      late : (a b : Bool) → nat_lt u d.given.moment ≡ a → nat_lt v d.given.moment ≡ b →
          Either s tss (cond a (closed ending.Until s tss) (spending s.clock.left s (closed ending.Steps s tss) (λ s. go d (at_moment
          d.given.moment s)))) (cond b (closed ending.Until s tss) (spending s.clock.left s (closed ending.Steps s tss) (λ s. go d
          (at_moment d.given.moment s))))
      late true b e f = inl refl
      late false false e f = inr (refl, spent_on s.clock.left d)
      late false true e f = absurd (grind (arith, nat_tests, e, f, le))

  either : (ws : List Wait) → Either s tss (turn u ws s tss go) (turn v ws s tss go)
  either [] = inr (refl, λ e. grind (arith, e))
  either (w ∷ ws) = at_either (least s (w ∷ ws))

turn_either : (c : Code) (steps u v : ℕ) → u ≤ v → (s : State) (tss : Forest) →
    Either s tss (turn_taken c steps u s tss) (turn_taken c steps v s tss)
turn_either c steps u v le s tss = either _ (λ d s. on_step _) u v le s tss (tree_waits tss)

not_stopped : (x : Ending) (t : State) (uss : Forest) (s : State) (tss : Forest) → IsOn (closed x t uss) →
    closed x t uss ≡ closed ending.Until s tss → ⊥
not_stopped x t uss s tss o e = o (grind (arith, e))

-- where a run to a horizon stood at it, the run to a later one stood too, after some turns
record Stood (take : State → Forest → Stage Forest) (k : ℕ) (g : Stage Forest) (s : State) (tss : Forest) : Type 0 where
  turns_before : ℕ
  is : turns take turns_before g ≡ going s tss

module _ (a b : State → Forest → Stage Forest) (or : (s : State) (tss : Forest) → Either s tss (a s tss) (b s tss)) where
  still : (k : ℕ) (t : State) (uss : Forest) (s : State) (tss : Forest) →
      turns a k (closed ending.Until t uss) ≡ closed ending.Until s tss → going t uss ≡ going s tss
  still zero t uss s tss e = grind (arith, e)
  still (suc k) t uss s tss e = grind (arith, e)

  next : (k : ℕ) (t : State) (uss : Forest) (s : State) (tss : Forest) → turns a k (a t uss) ≡ closed ending.Until s tss →
      (IsOn (a t uss) → Stood b k (a t uss) s tss) → Either t uss (a t uss) (b t uss) → Stood b (suc k) (going t uss) s tss
  next k t uss s tss e f (inl h) = record {
    turns_before = 0;
    is = still k t uss s tss (subst (λ g. turns a k g ≡ closed ending.Until s tss) h e);
  }
  next k t uss s tss e f (inr h) = record {
    turns_before = suc (f h.1).turns_before;
    is = subst (λ g. turns b (f h.1).turns_before g ≡ going s tss) h.0 (f h.1).is;
  }

  stood : (k : ℕ) (g : Stage Forest) (s : State) (tss : Forest) → IsOn g → turns a k g ≡ closed ending.Until s tss → Stood b k g s tss
  stood zero (going t uss) s tss o e = grind (arith, e)
  stood zero (closed x t uss) s tss o e = absurd (not_stopped x t uss s tss o e)
  stood zero (broken x t) s tss o e = grind (arith, e)
  stood zero (amiss t) s tss o e = grind (arith, e)
  stood (suc k) (going t uss) s tss o e =
      next k t uss s tss e (λ p. stood k (a t uss) s tss p e) (or t uss)
  stood (suc k) (closed x t uss) s tss o e = absurd (not_stopped x t uss s tss o e)
  stood (suc k) (broken x t) s tss o e = grind (arith, e)
  stood (suc k) (amiss t) s tss o e = grind (arith, e)

none : (j : ℕ) → j ≡ 0 + j
none j = omega arith

none_more : (k : ℕ) → suc k ≡ suc k + 0
none_more k = omega arith

more : (k j : ℕ) → suc (k + j) ≡ suc k + j
more k j = omega arith

-- it does not go on
abbrev IsStill : Stage Forest → Type 0
IsStill (going s tss) = ⊥
IsStill (closed e s tss) = Unit {0}
IsStill (broken e s) = Unit {0}
IsStill (amiss s) = Unit {0}

stays : (take : State → Forest → Stage Forest) (j : ℕ) (g : Stage Forest) → IsStill g → turns take j g ≡ g
stays take zero g h = refl
stays take (suc j) (going s tss) h = absurd h
stays take (suc j) (closed e s tss) h = refl
stays take (suc j) (broken e s) h = refl
stays take (suc j) (amiss s) h = refl

-- k turns and then j are as many turns
joined : (take : State → Forest → Stage Forest) (k j : ℕ) (g : Stage Forest) → turns take j (turns take k g) ≡ turns take (k + j) g
joined take zero j g = ap (λ n. turns take n g) (none j)
joined take (suc k) j (going s tss) = joined take k j (take s tss) ∙ ap (λ n. turns take n (going s tss)) (more k j)
joined take (suc k) j (closed e s tss) = stays take j (closed e s tss) tt ∙ sym (stays take (suc k + j) (closed e s tss) tt)
joined take (suc k) j (broken e s) = stays take j (broken e s) tt ∙ sym (stays take (suc k + j) (broken e s) tt)
joined take (suc k) j (amiss s) = stays take j (amiss s) tt ∙ sym (stays take (suc k + j) (amiss s) tt)

pub goes_more : (c : Code) (steps u v k : ℕ) → u ≤ v → (g : Stage Forest) (s : State) (tss : Forest) → IsOn g →
    IsOver (turns (turn_taken c steps v) (suc steps) g) → turns (turn_taken c steps u) k g ≡ closed ending.Until s tss →
    after_from c steps v s tss ≡ turns (turn_taken c steps v) (suc steps) g
goes_more c steps u v k le g s tss o over e =
    end (stood (turn_taken c steps u) (turn_taken c steps v) (turn_either c steps u v le) k g s tss o e)
  where
    take : State → Forest → Stage Forest
    take = turn_taken c steps v

    end : Stood (turn_taken c steps v) k g s tss → after_from c steps v s tss ≡ turns (turn_taken c steps v) (suc steps) g
    end r =
        ap (turns (turn_taken c steps v) (suc steps)) (sym r.is) ∙ joined (turn_taken c steps v) r.turns_before (suc steps) g ∙
        ap (λ n. turns (turn_taken c steps v) n g) (swap r.turns_before) ∙
        sym (joined (turn_taken c steps v) (suc steps) r.turns_before g) ∙ over_turns (turn_taken c steps v) r.turns_before _ over
      where
        swap : (n : ℕ) → n + suc steps ≡ suc steps + n
        swap n = omega arith

pub horizon_moves : RunsEnd → HorizonMoves
horizon_moves runs_end c ns steps u v s tss valid le e =
    ap (run_of tree_waits) (goes_more c steps u v (suc steps) le (started c ns steps) s tss (on_step _) (runs_end c ns steps v valid).over
    e)

pub horizon_moves_again : HorizonMovesAgain
horizon_moves_again c steps u v s t tss uss le over e =
    ap (run_of tree_waits) (goes_more c steps u v (suc steps) le (going s tss) t uss tt over e)

-- a run that stopped at its horizon stands before the turn that is behind it
abbrev TurnEnds : (State → Forest → Stage Forest) → Stage Forest → Type 0
TurnEnds a (going s tss) = a s tss ≡ closed ending.Until s tss
TurnEnds a (closed e s tss) = Unit {0}
TurnEnds a (broken e s) = Unit {0}
TurnEnds a (amiss s) = Unit {0}

module _ (a : State → Forest → Stage Forest) (or : (s : State) (tss : Forest) → Either s tss (a s tss) (a s tss)) where
  last_turn : (k : ℕ) (g : Stage Forest) (s : State) (tss : Forest) → IsOn g → turns a k g ≡ closed ending.Until s tss →
      a s tss ≡ closed ending.Until s tss
  last_turn zero (going t uss) s tss o e = grind (arith, e)
  last_turn zero (closed x t uss) s tss o e = absurd (not_stopped x t uss s tss o e)
  last_turn zero (broken x t) s tss o e = grind (arith, e)
  last_turn zero (amiss t) s tss o e = grind (arith, e)
  last_turn (suc k) (going t uss) s tss o e = at (or t uss) (λ o. last_turn k (a t uss) s tss o e)
    where
      at : Either t uss (a t uss) (a t uss) → (IsOn (a t uss) → a s tss ≡ closed ending.Until s tss) → a s tss ≡ closed ending.Until s tss
      at (inl h) f =
          subst (TurnEnds a) (still a a or k t uss s tss (subst (λ g. turns a k g ≡ closed ending.Until s tss) h e)) h
      at (inr h) f = f h.1
  last_turn (suc k) (closed x t uss) s tss o e = absurd (not_stopped x t uss s tss o e)
  last_turn (suc k) (broken x t) s tss o e = grind (arith, e)
  last_turn (suc k) (amiss t) s tss o e = grind (arith, e)

pub stopped_turn : (c : Code) (ns : List ℤ) (steps u : ℕ) (s : State) (tss : Forest) → mach_after c ns steps u (suc steps) ≡ closed
    ending.Until s tss → turn_taken c steps u s tss ≡ closed ending.Until s tss
stopped_turn c ns steps u s tss e =
    last_turn (turn_taken c steps u) (turn_either c steps u u (omega arith)) (suc steps) (started c ns steps) s tss (on_step _) e

pub stopped_again : (c : Code) (steps u : ℕ) (s t : State) (tss uss : Forest) → after_from c steps u s tss ≡ closed ending.Until t uss →
    turn_taken c steps u t uss ≡ closed ending.Until t uss
stopped_again c steps u s t tss uss e =
    last_turn (turn_taken c steps u) (turn_either c steps u u (omega arith)) (suc steps) (going s tss) t uss tt e
