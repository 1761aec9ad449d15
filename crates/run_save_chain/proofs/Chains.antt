-- A run that is saved and taken up any number of times is the one run.
use Rattle.std.proofs.Common.{◌≡◌, ℕ, zero, suc, ◌+◌, ◌*◌, ◌≤◌, ◌<◌, length, List, [], ◌∷◌, ◌++◌, refl, sym, subst, ap, ◌∙◌, arith, ◌⊎◌}
use Rattle.std.proofs.Common.{inl, inr, ℤ}
use Rattle.std.proofs.lemmas.Bool.{cases_lt}
use Rattle.std.proofs.lemmas.List.{append_assoc}
use Rattle.verse_code.specs.declared.codes.Code.{Code}
use Rattle.verse_code.specs.Validity.{Valid}
use Rattle.verse_value.specs.Runs.{Line, Run}
use Rattle.verse_value.specs.declared.runs.Ending.TheVariants as ending
use Rattle.verse_meaning_state.specs.State.{State}
use Rattle.verse_meaning_state.specs.Turns.{closed}
use Rattle.verse_code_machine.specs.Tasks.{Thread, Task}
use Rattle.verse_code_machine.specs.Runs.{Forest, mach}
use Rattle.verse_code_machine.specs.Laws.{IsOver}
use Rattle.verse_code_machine.specs.Goings.{gone_from, TasksAreFree, TreesAreFree, tasks_frames, trees_frames, CanGoOn, RunsEndFrom}
use Rattle.verse_code_machine.specs.Goings.{StaysOverFrom}
use Rattle.verse_code_machine_parents.specs.Parents.{AllStill, TreesRooted}
use Rattle.verse_code_machine_saved.specs.Horizons.{after_from, run_from}
use Rattle.verse_code_machine_saved.specs.Resuming.{behind}
use Rattle.run_save_shots.specs.Lists.{Each, Reordered}
use Rattle.run_save_shots.specs.Kept.{Kept}
use Rattle.run_save_shots.specs.Keeping.{Spells, kept}
use Rattle.run_save_shots.specs.Spelling.{state, trees}
use Rattle.run_save_shots.proofs.Lists.{all_as}
use Rattle.run_save_moves.specs.Fine.{TextsAreBytes}
use Rattle.run_save_fits.specs.Held.{TaskFine, Savable, tasks_sum, trees_sum}
use Rattle.run_save_fits.specs.Laws.{InputsFit}
use Rattle.run_save_fits.proofs.KeptAll.{reordered_each}
use Rattle.run_save_kept.specs.Growing.{filled}
use Rattle.run_save_kept.specs.Orders.{Orderly}
use Rattle.run_save_births.specs.Births.{births_of, NoChild, IsBorn, AreBorn}
use Rattle.run_save_groups.specs.Arms.{TaskIs}
use Rattle.run_save_same.specs.Alike.{TaskAlike, TreesAlike, TreesAreSpelled}
use Rattle.run_save_same.proofs.Pairs.{EachPair}
use Rattle.run_save_same.proofs.Spelled.{again}
use Rattle.run_save_orders.specs.Roots.{SameButRoots}
use Rattle.run_save_same.specs.Laws.{Held, SpelledTreesAreTheSame, StoppedRunIsHeld, KeptRunGoesOn, HeldGoesOn, HeldRunGoesOn}
use Rattle.run_save_chain.specs.Chains.{StopsAgain, Chain, first_save, next_save}
use Rattle.run_save_chain.specs.Chains.{HeldSpelled, ChainIsHeld, ChainKeepsSteps, ChainIsTheRun}
use Rattle.run_save_chain.proofs.Meeting as m
use Rattle.run_save_chain.proofs.Meeting.{pair_each, pair_both}
use Rattle.run_save_chain.proofs.Orderly.{orderly_met}
use Rattle.run_save_chain.proofs.Births.{Bare, born_met, arms_met, trees_each, each_trees}
use Rattle.run_save_orders.proofs.Ordered.{filled_each}
use Rattle.run_save_orders.proofs.Runs.{filled_sum}
use Rattle.run_save_chain.proofs.Savable.{trees_alike, task_fine, savable_again, scene}
use Rattle.run_save_same.proofs.Stopped.{can_go_on, tasks_count, tasks_free, trees_count, trees_free}
use Rattle.run_save_same.proofs.Same.{bare_frames}

at_most : {i j k : ℕ} → i ≡ j → j ≤ k → i ≤ k
at_most e f = omega (arith, e, f)

-- ---- the trees that were kept, without the empty ones

orderly_filled : (left : ℕ) (tss : Forest) → Orderly left tss → Orderly left (filled tss)
orderly_filled left tss h = record {
  lines = filled_each _ tss h.lines;
  names = λ p. at_most (filled_sum _ tss) (h.names p);
  arms = λ p some n. filled_each _ tss (h.arms p some n);
  younger = λ p some n k le. at_most (filled_sum _ tss) (h.younger p some n k le);
}

module _ (tss ordered : Forest) (o : Reordered tss ordered) where
  moved : (P : List Task → Type 0) → Each P tss → Each P (filled ordered)
  moved P a = filled_each P ordered (reordered_each P o a)

  moved_tasks : (P : Task → Type 0) → Each (Each P) tss → Each (Each P) (filled ordered)
  moved_tasks P a = moved (Each P) a

  born_so : (left : ℕ) (x : Thread) → IsBorn left tss x → IsBorn left (filled ordered) x
  born_so left x a = record {
    rises = a.rises;
    keeps = a.keeps;
    above = a.above;
    apart = all_as (NoChild tss x.who.path) (NoChild (filled ordered) x.who.path)
        (λ n b. moved_tasks (λ (t : Task). t.thread.who.path ≡ x.who.path ++ n ∷ [] → ⊥) b) (births_of x) a.apart;
  }

  are_born_so : (left : ℕ) → AreBorn left tss → AreBorn left (filled ordered)
  are_born_so left a = moved_tasks (λ (t : Task). IsBorn left (filled ordered) t.thread)
      (all_as (Each (λ (t : Task). IsBorn left tss t.thread)) (Each (λ (t : Task). IsBorn left (filled ordered) t.thread))
      (λ ts b. all_as (λ (t : Task). IsBorn left tss t.thread) (λ (t : Task). IsBorn left (filled ordered) t.thread)
      (λ t d. born_so left t.thread d) ts b) tss a)

-- ---- what holds of the state that is spelled

module _ (c : Code) (steps until : ℕ) (s : State) (tss : Forest) (h : Held c steps until s tss) (x : Kept) (y : Spells x s tss)
    (spelled : TreesAreSpelled) (same : SpelledTreesAreTheSame) where
  abbrev k : Kept
  k = kept s y.ordered

  abbrev own_trees : Forest
  own_trees = filled y.ordered

  abbrev uss : Forest
  uss = trees c k

  abbrev its : Spells k s tss
  its = record { ordered = y.ordered; reordered = y.reordered; is = refl }

  roots : SameButRoots (state k) own_trees uss
  roots = (same c steps until s tss k h its).1

  abbrev Meet : Task → Task → Type 0
  Meet = m.Meet (state k) roots.own roots.other roots.own_sorts roots.other_sorts

  pairs : EachPair (EachPair Meet) own_trees uss
  pairs = m.trees_met (state k) roots.own roots.other roots.own_sorts roots.other_sorts own_trees uss roots.meet

  alike : TreesAlike own_trees uss
  alike = spelled c steps until s tss k h.savable h.orderly its

  -- a task and the one that is spelled for it
  abbrev R : Task → Task → Type 0
  R t u = Meet t u × TaskAlike t u

  both_trees : (xss yss : Forest) → EachPair (EachPair Meet) xss yss → EachPair (EachPair TaskAlike) xss yss →
      EachPair (EachPair R) xss yss
  both_trees [] [] a b = tt
  both_trees [] (ys ∷ yss) a b = absurd a
  both_trees (xs ∷ xss) [] a b = absurd a
  both_trees (xs ∷ xss) (ys ∷ yss) a b = (pair_both Meet TaskAlike xs ys a.0 b.0, both_trees xss yss a.1 b.1)

  all_pairs : EachPair (EachPair R) own_trees uss
  all_pairs = both_trees own_trees uss pairs (trees_alike own_trees uss alike)

  -- what is known of a task gives what is asked of the other
  each_task : (P Q : Task → Type 0) → ((t u : Task) → R t u → P t → Q u) → Each (Each P) own_trees → Each (Each Q) uss
  each_task P Q f a = pair_each (EachPair R) (Each P) (Each Q) (λ ts us. pair_each R P Q f ts us) own_trees uss all_pairs a

  abbrev Fine : Task → Type 0
  Fine = TaskFine c h.savable.scene s.clock.next

  abbrev FineNow : Task → Type 0
  FineNow = TaskFine c (scene c steps until s tss y.ordered y.reordered h.savable alike (same c steps until s tss k h its).0) s.clock.next

  own_fine : Each (Each Fine) own_trees
  own_fine = moved_tasks tss y.ordered y.reordered Fine h.savable.trees

  fine_again : (t u : Task) → R t u → Fine t → FineNow u
  fine_again t u a b = task_fine c h.savable.scene _ s.clock.next t u a.1
      (m.who_met (state k) roots.own roots.other roots.own_sorts roots.other_sorts t u a.0 b.still.named) b

  bare : (u : Task) → FineNow u → Bare u.thread
  bare u b = (b.still.frame.handlers, bare_frames c _ u.thread.below b.still.below)

  savable : Savable c steps until (state k) uss
  savable = savable_again c steps until s tss y.ordered y.reordered h.savable alike (same c steps until s tss k h its).0
      (each_task Fine FineNow fine_again own_fine)

  orderly : Orderly s.clock.left uss
  orderly = orderly_met (state k) roots.own roots.other roots.own_sorts roots.other_sorts s.clock.left roots.own_fixed
      roots.other_fixed own_trees uss pairs (orderly_filled s.clock.left y.ordered
      (again c steps until s tss y.ordered y.reordered h.savable h.orderly))

  -- of a task that was kept
  abbrev Known : Task → Type 0
  Known t = Fine t × (IsBorn s.clock.left own_trees t.thread × TaskIs s.clock.left t)

  each_both : (P Q : Task → Type 0) (xss : Forest) → Each (Each P) xss → Each (Each Q) xss → Each (Each (λ t. P t × Q t)) xss
  each_both P Q [] a b = tt
  each_both P Q (ts ∷ xss) a b = (tasks ts a.0 b.0, each_both P Q xss a.1 b.1)
    where
      tasks : (ts : List Task) → Each P ts → Each Q ts → Each (λ t. P t × Q t) ts
      tasks [] a b = tt
      tasks (t ∷ ts) a b = ((a.0, b.0), tasks ts a.1 b.1)

  own_known : Each (Each Known) own_trees
  own_known = each_both Fine (λ t. IsBorn s.clock.left own_trees t.thread × TaskIs s.clock.left t) own_trees own_fine
      (each_both (λ (t : Task). IsBorn s.clock.left own_trees t.thread) (TaskIs s.clock.left) own_trees
      (are_born_so tss y.ordered y.reordered s.clock.left h.born)
      (moved_tasks tss y.ordered y.reordered (TaskIs s.clock.left) (trees_each s.clock.left tss h.arms)))

  born_again : (t u : Task) → R t u → Known t → IsBorn s.clock.left uss u.thread
  born_again t u a b = born_met (state k) roots.own roots.other roots.own_sorts roots.other_sorts s.clock.left roots.own_fixed
      roots.other_fixed own_trees uss pairs t u a.0 b.0.still.named (bare u (fine_again t u a b.0)) b.1.0

  arms_again : (t u : Task) → R t u → Known t → TaskIs s.clock.left u
  arms_again t u a b = arms_met (state k) roots.own roots.other roots.own_sorts roots.other_sorts s.clock.left roots.own_fixed
      roots.other_fixed own_trees uss pairs t u a.0 b.0.still.named (bare u (fine_again t u a b.0)) (born_again t u a b) b.1.1

  held_kept : Held c steps until (state k) uss
  held_kept = record {
    savable = savable;
    orderly = orderly;
    born = each_task Known (λ (t : Task). IsBorn s.clock.left uss t.thread) born_again own_known;
    arms = each_trees s.clock.left uss (each_task Known (TaskIs s.clock.left) arms_again own_known);
  }

  pub held_again : Held c steps until (state x) (trees c x)
  held_again = subst (λ z. Held c steps until (state z) (trees c z)) (sym y.is) held_kept

pub held_spelled : TreesAreSpelled → SpelledTreesAreTheSame → HeldSpelled
held_spelled spelled same c steps until s tss x h y = held_again c steps until s tss h x y spelled same

-- ---- a run goes on from what can be saved, and ends

-- a run that has ended after some turns ends so after all its turns
after_some : StaysOverFrom → (c : Code) (steps until k n : ℕ) (s t : State) (tss uss : Forest) →
    IsOver (gone_from c steps until n s tss) → gone_from c steps until k s tss ≡ closed ending.Until t uss →
    gone_from c steps until n s tss ≡ closed ending.Until t uss
after_some stays c steps until k n s t tss uss over e = by (cases_lt k n)
  where
    apart : (i j : ℕ) → i ≤ j → (d : ℕ) × (j ≡ i + d)
    apart zero j h = (j, omega arith)
    apart (suc i) zero h = absurd (omega (arith, h))
    apart (suc i) (suc j) h = let g = apart i j (omega (arith, h)) in let f = g.1 in (g.0, omega (arith, f))

    weak : {i j : ℕ} → i < j → i ≤ j
    weak h = omega (arith, h)

    by : (k < n) ⊎ (n ≤ k) → gone_from c steps until n s tss ≡ closed ending.Until t uss
    by (inl h) = let d = apart k n (weak h) in ap (λ i. gone_from c steps until i s tss) d.1 ∙
        (stays c steps until k d.0 s tss (subst IsOver (sym e) tt) ∙ e)
    by (inr h) = let d = apart n k h in sym (stays c steps until n d.0 s tss over) ∙
        (ap (λ i. gone_from c steps until i s tss) (sym d.1) ∙ e)

-- ---- the chain

module _ (c : Code) (ns : List ℤ) (steps : ℕ) (valid : Valid c) (bytes : TextsAreBytes c) (inputs : InputsFit ns)
    (ends : RunsEndFrom) (stays : StaysOverFrom) where
  -- the run that goes on from what is held stops after all its turns
  stopped_again : (u w : ℕ) (x : Kept) (t : State) (uss : Forest) → Held c steps u (state x) (trees c x) → StopsAgain c x w t uss →
      after_from c steps w (state x) (trees c x) ≡ closed ending.Until t uss
  stopped_again u w x t uss h e = after_some stays c steps w e.0 (suc steps) (state x) t (trees c x) uss
      (ends c steps w (state x) (trees c x) valid h.savable.sum (can_go_on c steps u (state x) (trees c x) h.savable)).over
      (subst (λ n. gone_from c n w e.0 (state x) (trees c x) ≡ closed ending.Until t uss) h.savable.sum e.1)

  module _ (held : HeldSpelled) (stopped : StoppedRunIsHeld) (goes : HeldGoesOn) where
    pub last_held : {u : ℕ} {lines : List Line} {x : Kept} → Chain c ns steps u lines x → Held c steps u (state x) (trees c x)
    last_held (first_save {u = u} {s = s} {tss = tss} {x = x} short e y) =
        held c steps u s tss x (stopped c ns steps u s tss valid bytes inputs short e) y
    last_held (next_save {u = u} {w = w} {x = x} {y = y} {s = t} {tss = uss} chain le short e z) =
        let h = last_held chain in
        held c steps w t uss y (goes c steps u w (state x) t (trees c x) uss valid bytes le short h (stopped_again u w x t uss h e)) z

  module _ (held : ChainIsHeld) (first : KeptRunGoesOn) (next : HeldRunGoesOn) where
    joined : (xs ys : List Line) (r : Run) → behind (xs ++ ys) r ≡ behind xs (behind ys r)
    joined xs ys r = ap (λ ls. record r { trace = ls }) (append_assoc xs ys r.trace)

    longer : {i j k : ℕ} → i ≤ j → j ≤ k → i ≤ k
    longer h g = omega (arith, h, g)

    pub goes_on : {u : ℕ} {lines : List Line} {x : Kept} (v : ℕ) → Chain c ns steps u lines x → u ≤ v →
        behind lines (run_from c steps v (state x) (trees c x)) ≡ mach c ns steps v
    goes_on v (first_save {u = u} {s = s} {tss = tss} {x = x} short e y) le =
        first c ns steps u v s tss x valid bytes inputs le short e y
    goes_on v (next_save {u = u} {w = w} {lines = lines} {x = x} {y = y} {s = t} {tss = uss} chain le short e z) more =
        let h = held c ns steps u lines x valid bytes inputs chain in
        joined lines t.memory.trace (run_from c steps v (state y) (trees c y)) ∙
        (ap (behind lines) (next c steps u w v (state x) t (trees c x) uss y valid bytes le short more h refl
        (stopped_again u w x t uss h e) z) ∙ goes_on v chain (longer le more))

pub chain_is_held : HeldSpelled → StoppedRunIsHeld → HeldGoesOn → RunsEndFrom → StaysOverFrom → ChainIsHeld
chain_is_held held stopped goes ends stays c ns steps u lines x valid bytes inputs chain =
    last_held c ns steps valid bytes inputs ends stays held stopped goes chain

pub chain_keeps_steps : ChainIsHeld → ChainKeepsSteps
chain_keeps_steps held c ns steps u lines x valid bytes inputs chain =
    (held c ns steps u lines x valid bytes inputs chain).savable.sum

pub chain_is_the_run : ChainIsHeld → KeptRunGoesOn → HeldRunGoesOn → RunsEndFrom → StaysOverFrom → ChainIsTheRun
chain_is_the_run held first next ends stays c ns steps u v lines x valid bytes inputs chain le =
    subst (λ n. behind lines (run_from c n v (state x) (trees c x)) ≡ mach c ns steps v)
    (sym (held c ns steps u lines x valid bytes inputs chain).savable.sum)
    (goes_on c ns steps valid bytes inputs ends stays held first next v chain le)
