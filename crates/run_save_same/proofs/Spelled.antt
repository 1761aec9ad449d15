-- What is kept of a state spells its trees again, but for the numbers.
use Rattle.std.proofs.Common.{◌≡◌, ℕ, zero, suc, ◌+◌, ◌≤◌, ◌<◌, length, map, List, [], ◌∷◌, ◌++◌, Option, Some, None, Bool, true, false}
use Rattle.std.proofs.Common.{refl, sym, subst}
use Rattle.std.proofs.Common.{ap, ◌∙◌, arith, ◌⊎◌, cond, option_map}
use mathlib.Core.Logic.{inl, inr}
use Rattle.std.proofs.lemmas.Bool.{cases_Bool}
use Rattle.std.proofs.lemmas.Option.{same_Some}
use Rattle.verse_base.proofs.Facts.{length_more, append_one}
use Rattle.verse_code.specs.declared.codes.Code.{Code}
use Rattle.verse_meaning_state.specs.State.{State}
use Rattle.verse_meaning_state.specs.Waits.{nth, ltn}
use Rattle.verse_meaning_state.proofs.Numbers.{nth_first}
use Rattle.verse_code_machine.specs.Tasks.{Role, root, part, Who, Task, same_path}
use Rattle.verse_code_machine.specs.Runs.{Forest}
use Rattle.verse_code_machine.proofs.Paths.{same_is}
use Rattle.verse_code_machine_parents.specs.Parents.{whos, Rooted, Still, EachTask, TreesRooted}
use Rattle.run_save_shots.specs.Lists.{Each, EachAt, Reordered}
use Rattle.run_save_shots.specs.Kept.{Kept}
use Rattle.run_save_shots.specs.Fitting.{ParentBefore}
use Rattle.run_save_shots.specs.Keeping as kp
use Rattle.run_save_shots.specs.Keeping.{walk, kept, place_of, entry_of}
use Rattle.run_save_shots.specs.Naming.{named, parent_in, number_at}
use Rattle.run_save_shots.specs.Spelling as sp
use Rattle.run_save_shots.specs.Spelling.{tasks_from, trees, grown}
use Rattle.run_save_moves.specs.Fine.{Scene}
use Rattle.run_save_fits.specs.Held.{IsSome, RoleIs, TaskFine, Savable, tasks_sum, trees_sum, one}
use Rattle.run_save_fits.proofs.KeptTasks.{no_place}
use Rattle.run_save_fits.proofs.KeptOrder.{walk_well, parents_fit}
use Rattle.run_save_fits.proofs.KeptAll.{reordered_each, reordered_sum, each_rooted}
use Rattle.run_save_fits.proofs.Counted.{one_most}
use Rattle.run_save_kept.specs.Orders.{Lined, last, is_named, awaits, skips, weight, Orderly}
use Rattle.run_save_kept.specs.Growing.{filled}
use Rattle.run_save_kept.proofs.Paths.{is_same, not_same}
use Rattle.run_save_kept.proofs.Siblings.{Named, HasOwn, trees_names, walk_each, walk_sum, parents_from}
use Rattle.run_save_kept.proofs.Arms.{placed, found}
use Rattle.run_save_kept.proofs.Grown.{trees_again}
use Rattle.run_save_resumes.proofs.Adding as r
use Rattle.run_save_resumes.proofs.Naming.{names_apart}
use Rattle.run_save_same.specs.Alike.{TaskAlike, TreesAlike, TreesAreSpelled}
use Rattle.run_save_same.proofs.Framing.{all_rested, Made, made}
use Rattle.run_save_same.proofs.Pairs.{EachPair, grown_pair, trees_alike}
use Rattle.run_save_orders.proofs.Meeting.{none_some}

-- ---- lists

who_at : (us : List Task) (i : ℕ) → i < length us → (v : Task) × (nth us i ≡ Some v) × (nth (whos us) i ≡ Some v.thread.who)
who_at [] i h = absurd (never i h)
  where
    never : (i : ℕ) → i < 0 → ⊥
    never i h = omega (arith, h)
who_at (u ∷ us) zero h = (u, refl, refl)
who_at (u ∷ us) (suc i) h = who_at us i (lower i (length us) h)
  where
    lower : (i n : ℕ) → suc i < suc n → i < n
    lower i n h = omega (arith, h)

pub whos_end : (us : List Task) (u : Task) → whos (us ++ u ∷ []) ≡ whos us ++ u.thread.who ∷ []
whos_end [] u = refl
whos_end (v ∷ us) u = ap (λ ws. v.thread.who ∷ ws) (whos_end us u)

both_each : (P Q : Task → Type 0) (xs : List Task) → Each P xs → Each Q xs → Each (λ x. P x × Q x) xs
both_each P Q [] a b = tt
both_each P Q (x ∷ xs) a b = ((a.0, b.0), both_each P Q xs a.1 b.1)

task_each : (P : Task → Type 0) (ts : List Task) → EachTask P ts → Each P ts
task_each P [] a = tt
task_each P (t ∷ ts) a = (a.0, task_each P ts a.1)

trees_still : (left : ℕ) (tss : Forest) → TreesRooted left tss → Each (λ ts. Each (λ (t : Task). Still t.thread) ts) tss
trees_still left [] a = tt
trees_still left (ts ∷ tss) a = (task_each (λ (t : Task). Still t.thread) ts a.1, trees_still left tss a.2)

each_task : (P : Task → Type 0) (ts : List Task) → Each P ts → EachTask P ts
each_task P [] a = tt
each_task P (t ∷ ts) a = (a.0, each_task P ts a.1)

pub rooted_trees : (left : ℕ) (tss : Forest) → Each (λ ts. Rooted left (whos ts)) tss →
    Each (λ ts. Each (λ (t : Task). Still t.thread) ts) tss → TreesRooted left
    tss
rooted_trees left [] a b = tt
rooted_trees left (ts ∷ tss) a b = (a.0, each_task (λ (t : Task). Still t.thread) ts b.0, rooted_trees left tss a.1 b.1)

-- ---- names of the tasks that are spelled

one_as : (b : Bool) → one b ≡ r.one b
one_as true = refl
one_as false = refl

sum_as : (p : List ℕ) (us : List Task) → tasks_sum (is_named p) us ≡ r.tasks_sum (r.is_named p) us
sum_as p [] = refl
sum_as p (u ∷ us) = both (one_as (same_path p u.thread.who.path)) (sum_as p us)
  where
    both : {i j k l : ℕ} → i ≡ j → k ≡ l → i + k ≡ j + l
    both e f = omega (arith, e, f)

some_end : (up : List ℕ) (n : ℕ) → IsSome (up ++ n ∷ [])
some_end [] n = tt
some_end (i ∷ up) n = tt

-- no parent is found where there is none
pub unfound : (q : List ℕ) (ys : List Task) → place_of q ys ≡ None → tasks_sum (is_named q) ys ≡ 0
unfound q [] e = refl
unfound q (x ∷ xs) e = by_test (same_path q x.thread.who.path) e (unfound q xs)
  where
    no_suc : (o : Option ℕ) → option_map suc o ≡ None → o ≡ None
    no_suc None e = refl
    no_suc (Some i) e = none_some (sym e)

    by_test : (b : Bool) → cond b (Some 0) (option_map suc (place_of q xs)) ≡ None →
        (place_of q xs ≡ None → tasks_sum (is_named q) xs ≡ 0) → one b + tasks_sum (is_named q) xs ≡ 0
    by_test true g h = none_some (sym g)
    by_test false g h = let k = h (no_suc (place_of q xs) g) in omega (arith, k)

-- what is known of a task and of the one that is spelled for it
pub record Fact (ys us : List Task) (y u : Task) : Type 0 where
  pub alike : TaskAlike y u
  pub named : IsSome u.thread.who.path
  pub root_up : place_of y.thread.who.up ys ≡ None → u.thread.who.up ≡ []
  pub part_up : (p : ℕ) → place_of y.thread.who.up ys ≡ Some p → (v : Task) × (nth us p ≡ Some v) × (u.thread.who.up ≡ v.thread.who.path)

-- what is known of the name alone
record Called (ys us : List Task) (y : Task) (w : Who) : Type 0 where
  pub role : y.thread.who.role ≡ w.role
  pub named : IsSome w.path
  pub root_up : place_of y.thread.who.up ys ≡ None → w.up ≡ []
  pub part_up : (p : ℕ) → place_of y.thread.who.up ys ≡ Some p → (v : Task) × (nth us p ≡ Some v) × (w.up ≡ v.thread.who.path)

module _ (c : Code) (x : Kept) (z : Scene) (next : ℕ) (ys us : List Task) (names : Each Named ys) where
  abbrev Given : Task → Type 0
  Given y = TaskFine c z next y × Still y.thread × HasOwn ys y

  called : (fu rest : List Task) (y : Task) (n : ℕ) → us ≡ fu ++ rest → Named y → HasOwn ys y →
      ((p : ℕ) → place_of y.thread.who.up ys ≡ Some p → p < length fu) →
      Called ys us y (named (parent_in (whos fu) (place_of y.thread.who.up ys)) (entry_of y.thread.who.role) n)
  called fu rest y n e own has below = by_place (place_of y.thread.who.up ys) refl
    where
      no_both : (o : Option ℕ) (p : ℕ) → o ≡ None → o ≡ Some p → ⊥
      no_both None p e f = cc
      no_both (Some q) p e f = cc

      root_role : (q : Role) → RoleIs q y.thread.who → y.thread.who.role ≡ q → place_of y.thread.who.up ys ≡ None → q ≡ root (entry_of q)
      root_role (root entry) a g f = refl
      root_role part a g f = absurd (never (tasks_sum (is_named y.thread.who.up) ys) (has a.1) (unfound y.thread.who.up ys f))
        where
          never : (n : ℕ) → 1 ≤ n → n ≡ 0 → ⊥
          never n g h = omega (arith, g, h)

      part_role : (q : Role) → RoleIs q y.thread.who → (p : ℕ) → place_of y.thread.who.up ys ≡ Some p → q ≡ part
      part_role (root entry) a p f = absurd (no_both (place_of y.thread.who.up ys) p (ap (λ up. place_of up ys) a.0 ∙ no_place ys names) f)
      part_role part a p f = refl

      by_place : (o : Option ℕ) → place_of y.thread.who.up ys ≡ o →
          Called ys us y (named (parent_in (whos fu) o) (entry_of y.thread.who.role) n)
      by_place None f = record {
        role = root_role y.thread.who.role own refl f;
        named = tt;
        root_up = λ g. refl;
        part_up = λ p g. absurd (no_both (place_of y.thread.who.up ys) p f g);
      }
      by_place (Some p) f = let h = who_at fu p (below p f) in subst (λ o. Called ys us y (named o (entry_of y.thread.who.role) n))
          (sym h.2) (record {
            role = part_role y.thread.who.role own p f;
            named = some_end h.0.thread.who.path n;
            root_up = λ g. absurd (no_both (place_of y.thread.who.up ys) p g f);
            part_up = λ q g. (h.0, ap (nth us) (same_Some _ _ (sym g ∙ f)) ∙ (ap (λ l. nth l p) e ∙ nth_first fu rest p h.0 h.1), refl);
          })

  abbrev More : List Task → List Task → List Task
  More fu zs = tasks_from c x (whos fu) (map (kp.task ys) zs)

  -- each of a rest of the list, where these were spelled before
  facts : (fu zs : List Task) → us ≡ fu ++ More fu zs → Each Named zs → Each Given zs →
      EachAt ParentBefore (length fu) (map (kp.task ys) zs) → EachPair (Fact ys us) zs (More fu zs)
  facts fu [] e n g p = tt
  facts fu (y ∷ zs) e n g p = subst (EachPair (Fact ys us) (y ∷ zs)) (sym step) (
    fact,
    facts (fu ++ m.task ∷ []) zs (e ∙ (ap (λ l. fu ++ l) step ∙ append_one fu m.task
        (More (fu ++ m.task ∷ []) zs))) n.1 g.1
        (subst (λ i. EachAt ParentBefore i (map (kp.task ys) zs)) (sym (length_more fu m.task)) p.1),
  )
    where
      m : Made c x (length (whos fu)) (kp.task ys y) (map (kp.task ys) zs) (whos fu) y
      m = made c x z next ys y g.0.0 (all_rested y.thread.frame y.thread.below g.0.1.free) (length (whos fu)) (map (kp.task ys) zs)
          (whos fu)

      step : More fu (y ∷ zs) ≡ m.task ∷ More (fu ++ m.task ∷ []) zs
      step = ap (λ l. l ++ tasks_from c x (whos fu ++ sp.who c x (length (whos fu)) (kp.task ys y) (map (kp.task ys) zs) (whos fu) ∷ [])
          (map (kp.task ys) zs)) m.is ∙ ap (λ ws. m.task ∷ tasks_from c x ws (map (kp.task ys) zs))
          (ap (λ w. whos fu ++ w ∷ []) (sym m.who_is) ∙ sym (whos_end fu m.task))

      name : Called ys us y m.task.thread.who
      name = subst (Called ys us y) (sym m.who_is)
          (called fu (More fu (y ∷ zs)) y (number_at x (kp.task ys y ∷ map (kp.task ys) zs)) e n.0 g.0.2 p.0)

      fact : Fact ys us y m.task
      fact = record {
        alike = record { role = name.role; frame = m.frame; below = m.below; rest = m.rest };
        named = name.named;
        root_up = name.root_up;
        part_up = name.part_up;
      }

-- ---- pairs by their places

abbrev pub At : (ys us : List Task) → Task → Task → Type 0
At ys us y u = (i : ℕ) × (nth ys i ≡ Some y) × (nth us i ≡ Some u) × Fact ys us y u

placed_pairs : (ys us xs vs : List Task) (n : ℕ) → ((i : ℕ) (t : Task) → nth xs i ≡ Some t → nth ys (n + i) ≡ Some t) →
    ((i : ℕ) (t : Task) → nth vs i ≡ Some t → nth us (n + i) ≡ Some t) → EachPair (Fact ys us) xs vs → EachPair (At ys us) xs vs
placed_pairs ys us [] [] n f g a = tt
placed_pairs ys us [] (v ∷ vs) n f g a = absurd a
placed_pairs ys us (x ∷ xs) [] n f g a = absurd a
placed_pairs ys us (x ∷ xs) (v ∷ vs) n f g a = (
  (n + 0, f 0 x refl, g 0 v refl, a.0),
  placed_pairs ys us xs vs (suc n) (λ i t e. subst (λ j. nth ys j ≡ Some t) (sums n i) (f (suc i) t e))
      (λ i t e. subst (λ j. nth us j ≡ Some t) (sums n i) (g
      (suc i) t e)) a.1,
)
  where
    sums : (n i : ℕ) → n + suc i ≡ suc n + i
    sums n i = omega arith

module _ (ys us : List Task) (unique : (p : List ℕ) → tasks_sum (is_named p) ys ≤ 1)
    (apart : (p : List ℕ) → tasks_sum (is_named p) us ≤ 1) where
  empty_not : (p : List ℕ) → IsSome p → same_path [] p ≡ false
  empty_not [] s = absurd s
  empty_not (i ∷ p) s = refl

  -- the parents stand alike
  pub tests : (y u t v : Task) → At ys us y u → At ys us t v →
      same_path y.thread.who.up t.thread.who.path ≡ same_path u.thread.who.up v.thread.who.path
  tests y u t v a b = by_place (place_of y.thread.who.up ys) refl
    where
      by_place : (o : Option ℕ) → place_of y.thread.who.up ys ≡ o →
          same_path y.thread.who.up t.thread.who.path ≡ same_path u.thread.who.up v.thread.who.path
      by_place None e = not_same y.thread.who.up t.thread.who.path
          (λ f. none_some (sym e ∙ found y.thread.who.up ys b.0 t b.1 f (unique y.thread.who.up))) ∙
          sym (ap (λ up. same_path up v.thread.who.path) (a.3.root_up e) ∙ empty_not v.thread.who.path b.3.named)
      by_place (Some p) e = by_test (cases_Bool (same_path y.thread.who.up t.thread.who.path))
        where
          h : (w : Task) × (nth us p ≡ Some w) × (u.thread.who.up ≡ w.thread.who.path)
          h = a.3.part_up p e

          by_test : (same_path y.thread.who.up t.thread.who.path ≡ true) ⊎ (same_path y.thread.who.up t.thread.who.path ≡ false) →
              same_path y.thread.who.up t.thread.who.path ≡ same_path u.thread.who.up v.thread.who.path
          by_test (inl f) =
              let same = same_Some _ _ (sym e ∙ found y.thread.who.up ys b.0 t b.1 (same_is y.thread.who.up t.thread.who.path f)
              (unique y.thread.who.up)) in
              let task = same_Some _ _ (sym h.1 ∙ (ap (nth us) same ∙ b.2)) in
              f ∙ sym (is_same u.thread.who.up v.thread.who.path (h.2 ∙ ap (λ (w : Task). w.thread.who.path) task))
          by_test (inr f) = f ∙ sym (not_same u.thread.who.up v.thread.who.path
              (λ g. other (same_Some _ _ (sym (found w_path us p h.0 h.1 refl (apart w_path)) ∙
              found w_path us b.0 v b.2 (sym h.2 ∙ g) (apart w_path)))))
            where
              w_path : List ℕ
              w_path = h.0.thread.who.path

              other : p ≡ b.0 → ⊥
              other same = let q = placed y.thread.who.up ys p e in both (same_path y.thread.who.up t.thread.who.path)
                  (is_same y.thread.who.up t.thread.who.path
                  (q.2 ∙ ap (λ (w : Task). w.thread.who.path) (same_Some _ _ (sym q.1 ∙ (ap (nth ys) same ∙ b.1))))) f
                where
                  both : (b : Bool) → b ≡ true → b ≡ false → ⊥
                  both true e f = cc
                  both false e f = cc

-- ---- all

at_most : (i j k : ℕ) → i ≡ j → j ≤ k → i ≤ k
at_most i j k e f = omega (arith, e, f)

orderly_again : (left : ℕ) (tss ordered : Forest) → Reordered tss ordered → Orderly left tss → Orderly left ordered
orderly_again left tss ordered o a = record {
  lines = reordered_each (λ ts. Lined left (whos ts)) o a.lines;
  names = λ p. at_most _ _ _ (reordered_sum (is_named p) o) (a.names p);
  arms = λ b some n. reordered_each (λ ts. tasks_sum (awaits b n) ts ≤ tasks_sum (is_named (b ++ n ∷ [])) ts) o (a.arms b some n);
  younger = λ b some n k le. at_most _ _ _ (reordered_sum (weight (λ path. one (same_path (b ++ n ∷ []) path)) (skips b n k)) o)
      (a.younger b some n k le);
}

module _ (c : Code) (steps until : ℕ) (s : State) (tss ordered : Forest) (o : Reordered tss ordered) (a : Savable c steps until s tss)
    (b : Orderly s.clock.left tss) where
  abbrev pub all : List Task
  all = walk ordered

  abbrev pub spelled : List Task
  spelled = tasks_from c (kept s ordered) [] (map (kp.task (walk ordered)) (walk ordered))

  pub again : Orderly s.clock.left ordered
  again = orderly_again s.clock.left tss ordered o b

  pub still : Each (λ ts. Each (λ (t : Task). Still t.thread) ts) ordered
  still = reordered_each (λ ts. Each (λ (t : Task). Still t.thread) ts) o (trees_still s.clock.left tss a.rooted)

  pub rooted : Each (λ ts. Rooted s.clock.left (whos ts)) ordered
  rooted = reordered_each (λ ts. Rooted s.clock.left (whos ts)) o (each_rooted s.clock.left tss a.rooted)

  pub names : Each Named all
  names = walk_each Named ordered (trees_names s.clock.left ordered again.lines)

  pub unique : (p : List ℕ) → tasks_sum (is_named p) all ≤ 1
  unique p = at_most (tasks_sum (is_named p) all) (trees_sum (is_named p) ordered) 1 (walk_sum (is_named p) ordered)
      (further (trees_sum (is_named p) ordered) (one (ltn s.clock.left (suc (last p)))) (again.names p)
      (one_most (ltn s.clock.left (suc (last p)))))
    where
      further : (i j : ℕ) → i ≤ j → j ≤ 1 → i ≤ 1
      further i j e f = omega (arith, e, f)

  pub apart : (p : List ℕ) → tasks_sum (is_named p) spelled ≤ 1
  apart p = at_most (tasks_sum (is_named p) spelled) (r.tasks_sum (r.is_named p) spelled) 1 (sum_as p spelled)
      (names_apart c (kept s ordered) p)

  fine : Each (TaskFine c a.scene s.clock.next) all
  fine = walk_each (TaskFine c a.scene s.clock.next) ordered (reordered_each (λ ts. Each (TaskFine c a.scene s.clock.next) ts) o a.trees)

  pub given : Each (λ y. TaskFine c a.scene s.clock.next y × Still y.thread × HasOwn all y) all
  given = three all fine (walk_each (λ (t : Task). Still t.thread) ordered still)
      (parents_from [] all names (walk_well s.clock.left ordered rooted))
    where
      three : (zs : List Task) → Each (TaskFine c a.scene s.clock.next) zs → Each (λ (t : Task). Still t.thread) zs → Each (HasOwn all) zs →
          Each (λ y. TaskFine c a.scene s.clock.next y × Still y.thread × HasOwn all y) zs
      three [] f g h = tt
      three (y ∷ zs) f g h = ((f.0, g.0, h.0), three zs f.1 g.1 h.1)

  pub pairs : EachPair (At all spelled) all spelled
  pairs = placed_pairs all spelled all spelled 0 (λ i t e. subst (λ j. nth all j ≡ Some t) (none i) e)
      (λ i t e. subst (λ j. nth spelled j ≡ Some t) (none i) e)
      (facts c (kept s ordered) a.scene s.clock.next all spelled names [] all refl names given
      (parents_fit all names (walk_well s.clock.left ordered rooted)))
    where
      none : (i : ℕ) → i ≡ 0 + i
      none i = omega arith

  pub are_spelled : TreesAlike (filled ordered) (trees c (kept s ordered))
  are_spelled = subst (λ f. TreesAlike f (grown [] spelled))
      (trees_again s.clock.left ordered (rooted_trees s.clock.left ordered rooted still) again)
      (trees_alike (At all spelled) (tests all spelled unique apart) (λ y u k. k.3.alike.role) (λ y u k. k.3.alike) (grown [] all)
      (grown [] spelled) (grown_pair (At all spelled) (tests all spelled unique apart) (λ y u k. k.3.alike.role) all spelled [] [] pairs
      tt))

pub trees_are_spelled : TreesAreSpelled
trees_are_spelled c steps until s tss x a b y =
    subst (λ k. TreesAlike (filled y.ordered) (trees c k)) (sym y.is) (are_spelled c steps until s tss y.ordered y.reordered a b)
