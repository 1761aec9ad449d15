-- What is kept of a run that stopped fits its code, whole.
use Rattle.std.proofs.Common.{◌≡◌, ℕ, suc, ◌+◌, ◌≤◌, List, [], ◌∷◌, ◌++◌, sym, subst, ◌∙◌, arith}
use Rattle.verse_code.specs.declared.codes.Code.{Code}
use Rattle.verse_meaning_state.specs.State.{State}
use Rattle.verse_meaning_state.specs.Waits.{ltn}
use Rattle.verse_code_machine.specs.Tasks.{Task, same_path}
use Rattle.verse_code_machine.specs.Runs.{Forest}
use Rattle.verse_code_machine_parents.specs.Parents.{whos, Rooted, TreesRooted, StageRooted}
use Rattle.run_save_shots.specs.Lists.{Each, Reordered}
use Rattle.run_save_shots.specs.Fitting.{Fits}
use Rattle.run_save_shots.specs.Keeping.{walk, kept}
use Rattle.run_save_fits.specs.Held.{IsSome, tasks_sum, trees_sum, one}
use Rattle.run_save_fits.specs.Laws.{FitsApart, StoppedRunFits, ResumedRunFits}
use Rattle.run_save_fits.proofs.KeptAll.{reordered_each, reordered_sum, each_rooted}
use Rattle.run_save_fits.proofs.Counted.{one_most}
use Rattle.run_save_kept.specs.Orders.{Lined, last, is_named, awaits, skips, weight, Orderly}
use Rattle.run_save_kept.specs.Laws.{StageOrderly, SavedStatesFit, ResumedStatesFit}
use Rattle.run_save_kept.proofs.Siblings.{Named, trees_names, walk_each, walk_sum, walk_older}
use Rattle.run_save_kept.proofs.Arms.{arms_fit, order_fits}
use Rattle.run_save_kept.proofs.Through.{run_stands, stands_on}

trees_less : (f g : Task → ℕ) (tss : Forest) → Each (λ ts. tasks_sum f ts ≤ tasks_sum g ts) tss → trees_sum f tss ≤ trees_sum g tss
trees_less f g [] a = omega arith
trees_less f g (ts ∷ tss) a = both (tasks_sum f ts) (tasks_sum g ts) (trees_sum f tss) (trees_sum g tss) a.0 (trees_less f g tss a.1)
  where
    both : (i j k l : ℕ) → i ≤ j → k ≤ l → i + k ≤ j + l
    both i j k l e f = omega (arith, e, f)

at_most : (i j k : ℕ) → i ≡ j → j ≤ k → i ≤ k
at_most i j k e f = omega (arith, e, f)

further : (i j k : ℕ) → i ≤ j → j ≤ k → i ≤ k
further i j k e f = omega (arith, e, f)

one_more : (i k : ℕ) → i ≤ k → i ≤ suc k
one_more i k e = omega (arith, e)

module _ (left : ℕ) (tss ordered : Forest) (o : Reordered tss ordered) (a : Orderly left tss) (r : TreesRooted left tss) where
  lined : Each (λ ts. Lined left (whos ts)) ordered
  lined = reordered_each (λ ts. Lined left (whos ts)) o a.lines

  rooted : Each (λ ts. Rooted left (whos ts)) ordered
  rooted = reordered_each (λ ts. Rooted left (whos ts)) o (each_rooted left tss r)

  names : Each Named (walk ordered)
  names = walk_each Named ordered (trees_names left ordered lined)

  -- in whatever order the trees stand
  sums : (f : Task → ℕ) → tasks_sum f (walk ordered) ≡ trees_sum f tss
  sums f = walk_sum f ordered ∙ reordered_sum f o

  unique : (p : List ℕ) → tasks_sum (is_named p) (walk ordered) ≤ 1
  unique p = at_most (tasks_sum (is_named p) (walk ordered)) (trees_sum (is_named p) tss) 1 (sums (is_named p))
      (further (trees_sum (is_named p) tss) (one (ltn left (suc (last p)))) 1 (a.names p) (one_most (ltn left (suc (last p)))))

  there : (b : List ℕ) → IsSome b → (n : ℕ) → tasks_sum (awaits b n) (walk ordered) ≤ tasks_sum (is_named (b ++ n ∷ [])) (walk ordered)
  there b some n = between (tasks_sum (awaits b n) (walk ordered)) (trees_sum (awaits b n) tss)
      (tasks_sum (is_named (b ++ n ∷ [])) (walk ordered)) (trees_sum (is_named (b ++ n ∷ [])) tss) (sums (awaits b n))
      (sums (is_named (b ++ n ∷ []))) (trees_less (awaits b n) (is_named (b ++ n ∷ [])) tss (a.arms b some n))
    where
      between : (i j k l : ℕ) → i ≡ j → k ≡ l → j ≤ l → i ≤ k
      between i j k l e f g = omega (arith, e, f, g)

  later : (b : List ℕ) → IsSome b → (n k : ℕ) → n ≤ k →
      tasks_sum (weight (λ path. one (same_path (b ++ n ∷ []) path)) (skips b n k)) (walk ordered) ≤ 1
  later b some n k le = at_most (tasks_sum (weight (λ path. one (same_path (b ++ n ∷ []) path)) (skips b n k)) (walk ordered))
      (trees_sum (weight (λ path. one (same_path (b ++ n ∷ []) path)) (skips b n k)) tss) 1
      (sums (weight (λ path. one (same_path (b ++ n ∷ []) path)) (skips b n k))) (a.younger b some n k le)

  pub fits_whole : (c : Code) (s : State) → FitsApart c (kept s ordered) → Fits c (kept s ordered)
  fits_whole c s f = record {
    steps = f.steps;
    now = f.now;
    next = f.next;
    bytes = f.bytes;
    lines = f.lines;
    few_entries = f.few_entries;
    few_tasks = f.few_tasks;
    cells = f.cells;
    slots = f.slots;
    weight = f.weight;
    spawned = f.spawned;
    tasks = f.tasks;
    waits = f.waits;
    parents = f.parents;
    main = f.main;
    roots = f.roots;
    arms = arms_fit (walk ordered) names unique there;
    depths = f.depths;
    order = order_fits (walk ordered) names unique later (walk_older left ordered rooted lined unique);
    few_frames = one_more _ _ f.few_frames;
  }

pub saved_states_fit : StoppedRunFits → SavedStatesFit
saved_states_fit law c ns steps until s tss x valid bytes inputs few short e y =
    let b = run_stands c ns steps until (suc steps) valid bytes in
    subst (Fits c) (sym y.is) (fits_whole s.clock.left tss y.ordered y.reordered (subst StageOrderly e b.0) (subst StageRooted e b.1) c s
    (subst (FitsApart c) y.is (law c ns steps until s tss x valid bytes inputs few short e y)))

pub resumed_states_fit : ResumedRunFits → ResumedStatesFit
resumed_states_fit law c steps u v k s t tss uss x valid bytes few le short a d e belongs y =
    let b = stands_on c steps v k s tss valid bytes a.rooted d in
    subst (Fits c) (sym y.is) (fits_whole t.clock.left uss y.ordered y.reordered (subst StageOrderly e b.0) (subst StageRooted e b.1) c t
    (subst (FitsApart c) y.is (law c steps u v k s t tss uss x valid bytes few le short a e belongs y)))
