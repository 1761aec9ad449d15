-- How the tasks of a run stand to one another in each of its states.
use Rattle.std.proofs.Common.{◌≡◌, ℕ, suc, ◌+◌, ◌≤◌, List, [], ◌∷◌, ◌++◌, refl, sym, arith}
use Rattle.std.specs.Prelude.{ℤ}
use Rattle.verse_code.specs.declared.codes.Code.{Code}
use Rattle.verse_code.specs.Validity.{Valid}
use Rattle.verse_meaning_state.specs.State.{State}
use Rattle.verse_meaning_state.specs.Turns.{Stage, going, closed, broken, amiss, turns}
use Rattle.verse_code_machine.specs.Tasks.{Rest, asleep, group, Task, same_path}
use Rattle.verse_code_machine.specs.Runs.{Forest, turn_taken, started, mach_after}
use Rattle.verse_code_machine_parents.specs.Parents.{TreesRooted, StageRooted}
use Rattle.run_save_moves.specs.Fine.{TextsAreBytes}
use Rattle.run_save_moves.specs.Moves as m
use Rattle.run_save_moves.specs.Moves.{Point, Move}
use Rattle.run_save_fits.specs.Held.{IsSome, trees_sum, one}
use Rattle.run_save_fits.proofs.Turning as t
use Rattle.run_save_fits.proofs.Counted.{ltn_less, one_most}
use Rattle.run_save_kept.specs.Orders.{last, is_named, in_group, weight, Orderly}
use Rattle.run_save_kept.specs.Laws.{StageOrderly, RunIsOrderly, OrderlyGoesOn}
use Rattle.run_save_kept.proofs.Sums.{trees_as}
use Rattle.run_save_kept.proofs.Rails.{Railed, rails}
use Rattle.run_save_kept.proofs.Lines.{Lines, lines, rows, trees_lower}
use Rattle.run_save_kept.proofs.Named.{no_arms, has_path, room, Named, named, fresh}
use Rattle.run_save_kept.proofs.Present.{Present, present}
use Rattle.run_save_kept.proofs.Younger.{Young, young}

pub record Together (x : Point) : Type 0 where
  pub standing : Lines x
  pub railed : Railed x
  pub names : (p : List ℕ) → Named p x
  pub arms : (a : List ℕ) (some : IsSome a) (n : ℕ) → Present a some n x
  pub younger : (a : List ℕ) (some : IsSome a) (n k : ℕ) (le : n ≤ k) → Young a some n k le x

no_more : (path : List ℕ) (q : Rest) → in_group no_arms path q ≡ 0
no_more path (asleep w) = refl
no_more path (group k p gs) = refl

name_weighs : (p : List ℕ) (t : Task) → is_named p t ≡ weight (has_path p) no_arms t
name_weighs p t = let h = no_more t.thread.who.path t.rest in omega (arith, h)

at_most : (a b k : ℕ) → a ≡ b → b ≤ k → a ≤ k
at_most a b k e f = omega (arith, e, f)

-- between two turns
orderly : (s : State) (tss : Forest) → Together (m.turns s tss) → Orderly s.clock.left tss
orderly s tss a = record {
  lines = a.standing;
  names = λ p. at_most (trees_sum (is_named p) tss) (trees_sum (weight (has_path p) no_arms) tss) (room p s.clock.left)
      (trees_as (is_named p) (weight (has_path p) no_arms) (name_weighs p) tss) (a.names p);
  arms = λ b some n. a.arms b some n;
  younger = λ b some n k le. a.younger b some n k le;
}

from_orderly : (s : State) (tss : Forest) → Orderly s.clock.left tss → Together (m.turns s tss)
from_orderly s tss a = record {
  standing = a.lines;
  railed = tt;
  names = λ p. at_most (trees_sum (weight (has_path p) no_arms) tss) (trees_sum (is_named p) tss) (room p s.clock.left)
      (sym (trees_as (is_named p) (weight (has_path p) no_arms) (name_weighs p) tss)) (a.names p);
  arms = λ b some n. a.arms b some n;
  younger = λ b some n k le. a.younger b some n k le;
}

together : {c : Code} (x y : Point) → Move c x y → Together x → Together y
together x y v a = record {
  standing = lines v a.standing;
  railed = rails v a.standing a.railed;
  names = λ p. named p v a.railed (a.names p);
  arms = λ b some n. present b some n v a.railed (a.names b) (a.arms b some n);
  younger = λ b some n k le. young b some n k le v a.railed a.names (a.younger b some n k le);
}

lower : (l k : ℕ) → suc l ≡ k → l ≤ k
lower l k e = omega (arith, e)

trans_le : (i j k : ℕ) → i ≤ j → j ≤ k → i ≤ k
trans_le i j k e f = omega (arith, e, f)

first_of : (i j k : ℕ) → i + j ≤ k → i ≤ k
first_of i j k e = omega (arith, e)

bare : (i : ℕ) → i ≤ 1 → i + ((0 + 0) + (0 + (0 + 0))) ≤ 1
bare i e = omega (arith, e)

bare_room : (i k : ℕ) → i ≤ k → i + ((0 + 0) + (0 + (0 + 0))) ≤ k
bare_room i k e = omega (arith, e)

module _ (c : Code) (valid : Valid c) (bytes : TextsAreBytes c) where
  wakes : (until : ℕ) → t.Wakes c valid bytes Together (together {c = c}) until
  wakes until s tss d l a e f g = record {
    standing = trees_lower l s.clock.left tss (lower l s.clock.left e) a.standing;
    railed = tt;
    names = λ p. trans_le (trees_sum (weight (has_path p) no_arms) tss) (room p s.clock.left) (room p l) (a.names p)
        (ltn_less l s.clock.left (suc (last p)) (lower l s.clock.left e));
    arms = λ b some n. a.arms b some n;
    younger = λ b some n k le. a.younger b some n k le;
  }

  begins : (ns : List ℤ) (steps : ℕ) → t.Starts c valid bytes Together (together {c = c}) ns steps
  begins ns steps f l i e = record {
    standing = rows (record { named = (refl, refl); above = (omega arith, tt) }, tt, tt) tt tt tt;
    railed = (refl, refl);
    names = λ p. bare_room (one (same_path p (l ∷ []))) (room p l)
        (first_of (one (same_path p (l ∷ []))) (room p (suc l)) (room p l) (fresh p [] l (suc l) refl));
    arms = λ b some n. (omega arith, (tt, tt, tt));
    younger = λ b some n k le. bare (one (same_path (b ++ n ∷ []) (l ∷ []))) (one_most (same_path (b ++ n ∷ []) (l ∷ [])));
  }

  abbrev Stands : Stage Forest → Type 0
  Stands g = t.StageIs c valid bytes Together (together {c = c}) g

  stage_orderly : (g : Stage Forest) → Stands g → StageOrderly g
  stage_orderly (going s tss) a = orderly s tss a
  stage_orderly (closed e s tss) a = orderly s tss a
  stage_orderly (broken e s) a = tt
  stage_orderly (amiss s) a = tt

  after : (steps until k : ℕ) (g : Stage Forest) → Stands g → StageRooted g → StageOrderly (turns (turn_taken c steps until) k g) ×
      StageRooted (turns (turn_taken c steps until) k g)
  after steps until k g a r = let b = t.turns_is c valid bytes Together (together {c = c}) until (wakes until) steps k g a r in
      (stage_orderly (turns (turn_taken c steps until) k g) b.0, b.1)

pub run_stands : (c : Code) (ns : List ℤ) (steps until k : ℕ) → Valid c → TextsAreBytes c → StageOrderly (mach_after c ns steps until k) ×
    StageRooted (mach_after c ns steps until k)
run_stands c ns steps until k valid bytes = let s =
    t.started_is c valid bytes Together (together {c = c}) ns steps (begins c valid bytes ns steps) in
    after c valid bytes steps until k (started c ns steps) s.0 s.1

pub stands_on : (c : Code) (steps until k : ℕ) (s : State) (tss : Forest) → Valid c → TextsAreBytes c → TreesRooted s.clock.left tss →
    Orderly s.clock.left tss → StageOrderly (turns (turn_taken c steps until) k (going s tss)) ×
    StageRooted (turns (turn_taken c steps until) k (going s tss))
stands_on c steps until k s tss valid bytes r a = after c valid bytes steps until k (going s tss) (from_orderly s tss a) r

pub run_is_orderly : RunIsOrderly
run_is_orderly c ns steps until k valid bytes = (run_stands c ns steps until k valid bytes).0

pub orderly_goes_on : OrderlyGoesOn
orderly_goes_on c steps u v k s tss valid bytes a b = (stands_on c steps v k s tss valid bytes a.rooted b).0
