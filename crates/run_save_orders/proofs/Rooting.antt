-- A run is the same from trees with other numbers, whatever the order of those without a parent.
use Rattle.std.proofs.Common.{◌≡◌, ℕ, zero, suc, ◌≤◌, ◌<◌, List, [], ◌∷◌, ◌++◌, refl, sym, subst, ap, ◌∙◌, arith, ◌⊎◌}
use mathlib.Core.Logic.{inl, inr}
use Rattle.verse_code.specs.declared.codes.Code.{Code}
use Rattle.verse_meaning_state.specs.State.{State}
use Rattle.verse_code_machine.specs.Tasks.{Who, Up, Step, Next, Over, Turn, Task}
use Rattle.verse_code_machine.specs.Runs.{Forest}
use Rattle.verse_code_machine_parents.specs.Parents.{Rooted, rooted_root, rooted_part, Beneath, Tree, running}
use Rattle.verse_code_machine_parents.specs.Parents.{before_resuming}
use Rattle.verse_code_machine_parents.specs.Parents.{before_closing, before_finishing, MachineRooted, StepRooted}
use Rattle.verse_code_machine_parents.specs.Parents.{TreesRooted, OperationRoots}
use Rattle.verse_code_machine_parents.proofs.Lists.{line_tail}
use Rattle.verse_code_machine_parents.proofs.Leaving.{trees_less}
use Rattle.verse_code_machine_parents.proofs.Running.{woken_roots}
use Rattle.verse_code_machine_saved.specs.Horizons.{run_from}
use Rattle.verse_code_machine_saved.specs.Numbers.{Numbering, Fixed, trees_as, renumbered}
use Rattle.verse_code_machine_saved.proofs.Settings.{Setting, all_trees}
use Rattle.verse_code_machine_saved.proofs.Runs.{Comes, Along, run_alike, runs_alike}
use Rattle.run_save_orders.specs.Roots.{Sorts, RunSorted}

abbrev IsSome : List ℕ → Type 0
IsSome [] = ⊥
IsSome (i ∷ a) = Unit {0}

some_end : (a : List ℕ) (n : ℕ) (x : List ℕ) → IsSome (a ++ n ∷ x)
some_end [] n x = tt
some_end (i ∷ a) n x = tt

-- the task that runs has a name
rooted_some : {left : ℕ} {w : Who} {ws : List Who} → Rooted left (w ∷ ws) → IsSome w.path
rooted_some (rooted_root e p k r) = subst IsSome (sym p) tt
rooted_some (rooted_part {w = w} e p k b r) = subst IsSome (sym p) (some_end w.up w.number [])

beneath_some : {a x : List ℕ} → Beneath a x → IsSome x
beneath_some {a = a} b = subst IsSome (sym b.goes_on) (some_end a b.next b.rest)

tree_some : {left : ℕ} {pre post : List Task} {w : Who} {us : List Up} → Tree left pre post w us → IsSome w.path
tree_some {pre = pre} (running r f u) = rooted_some (line_tail pre r)
tree_some (before_resuming b c d e f) = beneath_some b
tree_some (before_closing b c d e) = beneath_some b
tree_some (before_finishing b c d e) = beneath_some b

comes_of : (q : Step) → StepRooted q → Comes MachineRooted (λ s tss. TreesRooted s.clock.left tss) q
comes_of (Next m) h = h
comes_of (Over e s) h = tt
comes_of (Turn s tss) h = h

-- numbers that keep their order stay apart
apart_by : (f : ℕ → ℕ) → ((n k : ℕ) → n < k → f n < f k) → (n k : ℕ) → f n ≡ f k → n ≡ k
apart_by f rises n k e = by (order n k)
  where
    data_of : (n k : ℕ) → n < k → f n ≡ f k → ⊥
    data_of n k h e = no (f n) (f k) (rises n k h) e
      where
        no : (i j : ℕ) → i < j → i ≡ j → ⊥
        no i j h e = omega (arith, h, e)

    order : (n k : ℕ) → (n ≡ k) ⊎ ((n < k) ⊎ (k < n))
    order zero zero = inl refl
    order zero (suc k) = inr (inl (omega arith))
    order (suc n) zero = inr (inr (omega arith))
    order (suc n) (suc k) = up (order n k)
      where
        up : (n ≡ k) ⊎ ((n < k) ⊎ (k < n)) → (suc n ≡ suc k) ⊎ ((suc n < suc k) ⊎ (suc k < suc n))
        up (inl h) = inl (ap suc h)
        up (inr (inl h)) = inr (inl (omega (arith, h)))
        up (inr (inr h)) = inr (inr (omega (arith, h)))

    by : (n ≡ k) ⊎ ((n < k) ⊎ (k < n)) → n ≡ k
    by (inl h) = h
    by (inr (inl h)) = absurd (data_of n k h e)
    by (inr (inr h)) = absurd (data_of k n h (sym e))

module _ (c : Code) (steps until : ℕ) (s : State) (r : Numbering) (sorts : Sorts r) (fixed : Fixed r s.clock.left)
    (law : OperationRoots) where
  apart : (a : List ℕ) (n k : ℕ) → r a n ≡ r a k → n ≡ k
  apart [] n k e = sorts.apart n k e
  apart (i ∷ a) n k e = apart_by (r (i ∷ a)) (sorts.rises i a) n k e

  rises : (a : List ℕ) → IsSome a → (n k : ℕ) → n < k → r a n < r a k
  rises [] h n k l = absurd h
  rises (i ∷ a) h n k l = sorts.rises i a n k l

  abbrev K : Setting
  K = record {
    prior = renumbered r s;
    bound = s.clock.left;
    apart = apart;
    IsPath = IsSome;
    rises = rises;
    fixed = fixed;
    Holds = λ s. Unit {0};
    keeps = record {
      steps = λ l s e h. tt;
      draws = λ s h. tt;
      memory = λ m s h. tt;
      result = λ e v s h. tt;
      signal = λ e v s h. tt;
      entry = λ s h. tt;
    };
    IsWait = λ w. Unit {0};
    new = λ c s h. tt;
  }

  fewer : (l k : ℕ) → suc l ≡ k → l ≤ k
  fewer l k e = omega (arith, e)

  abbrev A : Along K c
  A = record {
    Machines = MachineRooted;
    Trees = λ s tss. TreesRooted s.clock.left tss;
    path = λ m h. tree_some h.world.tree;
    steps = λ m h. comes_of _ (law c m h);
    wakes = λ n v s tss h. comes_of _ (woken_roots n v s tss h);
    later = λ l m s tss e h. trees_less tss (fewer l s.clock.left e) h;
  }

  pub renumbered_to : (tss : Forest) → TreesRooted s.clock.left tss →
      run_from c steps until s (trees_as (renumbered r s) tss) ≡ run_from c steps until s tss
  renumbered_to tss h =
      run_alike K c A _ _ (runs_alike K c A (λ w h e f. refl) steps until (λ m s e h. h) s tss (record {
        few = omega arith;
        counts = omega arith;
        holds = tt;
      }) (all_trees K (λ w. tt) tss) h)

pub run_sorted : OperationRoots → RunSorted
run_sorted law c steps until s tss uss a b m =
    sym (renumbered_to c steps until s m.own m.own_sorts m.own_fixed law tss a) ∙ (ap (run_from c steps until s) m.meet
    ∙ renumbered_to c steps until s m.other m.other_sorts m.other_fixed law uss b)
