-- In no state of a run do two tasks have one number.
use Rattle.std.proofs.Common.{◌≡◌, ℕ, ◌+◌, ◌≤◌, arith}
use Rattle.std.specs.Prelude.{ℤ, List}
use Rattle.verse_code.specs.declared.codes.Code.{Code}
use Rattle.verse_code.specs.Validity.{Valid}
use Rattle.verse_meaning_state.specs.State.{State}
use Rattle.verse_meaning_state.specs.Turns.{Stage, going, closed, broken, amiss, turns}
use Rattle.verse_code_machine.specs.Runs.{Forest, turn_taken, started, mach_after}
use Rattle.verse_code_machine_parents.specs.Parents.{TreesRooted, StageRooted}
use Rattle.run_save_moves.specs.Fine.{TextsAreBytes}
use Rattle.run_save_moves.specs.Moves.{Point, Move}
use Rattle.run_save_fits.proofs.Measures as w
use Rattle.run_save_fits.proofs.Measures.{held}
use Rattle.run_save_fits.proofs.Turning as t
use Rattle.run_save_apart.specs.Numbers.{numbered, NumbersApart}
use Rattle.run_save_apart.specs.Laws.{StageIsApart, RunIsApart, ApartGoesOn}
use Rattle.run_save_apart.proofs.Counts.{taken, taken_most, begins_so, number_of, sum_of, numbered_is, within}

at_most : (a b k : ℕ) → a ≡ b → b + 0 ≤ k → k ≤ 1 → a ≤ 1
at_most a b k e f g = omega (arith, e, f, g)

so_few : (a b : ℕ) → a ≡ b → a ≤ 1 → b ≤ 1
so_few a b e f = omega (arith, e, f)

bare : (a b : ℕ) → a ≤ b → a + 0 ≤ b
bare a b e = omega (arith, e)

apart : (s : State) (tss : Forest) → ((n : ℕ) → sum_of n tss + 0 ≤ taken s.clock.left n) → NumbersApart tss
apart s tss a n = at_most (numbered n tss) (sum_of n tss) (taken s.clock.left n) (numbered_is n tss) (a n) (taken_most s.clock.left n)

module _ (c : Code) (valid : Valid c) (bytes : TextsAreBytes c) where
  module _ (n : ℕ) where
    keeps : (x y : Point) → Move c x y → w.Held (number_of n) x → w.Held (number_of n) y
    keeps x y v a = held (number_of n) v a

    abbrev Counts : Stage Forest → Type 0
    Counts g = t.StageIs c valid bytes (w.Held (number_of n)) keeps g

    wakes : (until : ℕ) → t.Wakes c valid bytes (w.Held (number_of n)) keeps until
    wakes until s tss d l a e f g = let b = (number_of n).turns l d.given.moment s e in omega (arith, a, b)

    begins : (ns : List ℤ) (steps : ℕ) → t.Starts c valid bytes (w.Held (number_of n)) keeps ns steps
    begins ns steps f l i e = let a = begins_so n l steps e in omega (arith, a)

    starts : (ns : List ℤ) (steps : ℕ) → Counts (started c ns steps) × StageRooted (started c ns steps)
    starts ns steps = t.started_is c valid bytes (w.Held (number_of n)) keeps ns steps (begins ns steps)

    goes_on : (steps until k : ℕ) (g : Stage Forest) → Counts g → StageRooted g → Counts (turns (turn_taken c steps until) k g)
    goes_on steps until k g a r = (t.turns_is c valid bytes (w.Held (number_of n)) keeps until (wakes until) steps k g a r).0

  stage_apart : (g : Stage Forest) → ((n : ℕ) → Counts n g) → StageIsApart g
  stage_apart (going s tss) a = apart s tss a
  stage_apart (closed e s tss) a = apart s tss a
  stage_apart (broken e s) a = tt
  stage_apart (amiss s) a = tt

  from_apart : (s : State) (tss : Forest) → TreesRooted s.clock.left tss → NumbersApart tss → (n : ℕ) → Counts n (going s tss)
  from_apart s tss r a n = bare (sum_of n tss) (taken s.clock.left n)
      (within s.clock.left n tss r (so_few (numbered n tss) (sum_of n tss) (numbered_is n tss)
      (a n)))

pub run_is_apart : RunIsApart
run_is_apart c ns steps until k valid bytes = stage_apart c valid bytes (mach_after c ns steps until k)
    (λ n. let a = starts c valid bytes n ns steps in goes_on c valid bytes n steps until k (started c ns steps) a.0 a.1)

pub apart_goes_on : ApartGoesOn
apart_goes_on c steps until k s tss valid bytes r a = stage_apart c valid bytes (turns (turn_taken c steps until) k (going s tss))
    (λ n. goes_on c valid bytes n steps until k (going s tss) (from_apart c valid bytes s tss r a n) r)
