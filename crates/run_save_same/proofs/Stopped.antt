-- A run that stopped at its horizon goes on from what is kept of it.
use Rattle.std.proofs.Common.{◌≡◌, ℕ, suc, ◌*◌, ◌≤◌, length, List, [], ◌∷◌, Option, Some, None, refl, sym, subst}
use Rattle.std.proofs.Common.{ap, ◌∙◌, arith}
use Rattle.verse_code.specs.declared.codes.Code.{Code}
use Rattle.verse_meaning_state.specs.State.{State, Given}
use Rattle.verse_code_machine.specs.Tasks.{Task}
use Rattle.verse_code_machine.specs.Runs.{Forest}
use Rattle.verse_code_machine.specs.Goings.{TasksAreFree, TreesAreFree, tasks_frames, trees_frames, CanGoOn}
use Rattle.verse_code_machine.specs.Goings.{RunsEndFrom}
use Rattle.verse_code_machine_saved.specs.Horizons as hz
use Rattle.verse_code_machine_saved.specs.Horizons.{run_from, NoResultLater, NoneNewer}
use Rattle.verse_code_machine_saved.specs.Resuming.{apart, behind, Within, RunResumed, RunResumedAgain}
use Rattle.run_save_shots.specs.Lists.{Each}
use Rattle.run_save_shots.specs.Spelling.{state, trees}
use Rattle.run_save_fits.specs.Held.{NoLater, Savable, tasks_sum, trees_sum}
use Rattle.run_save_fits.specs.Laws.{StageSavable, RunIsSavable, SavableGoesOn}
use Rattle.run_save_kept.specs.Laws.{StageOrderly, RunIsOrderly, OrderlyGoesOn}
use Rattle.run_save_kept.specs.Growing.{filled}
use Rattle.run_save_births.specs.Laws.{StageIsBorn, RunIsBorn, BirthsGoOn}
use Rattle.run_save_groups.specs.Laws.{StageIs, RunKeepsArms, ArmsGoOn}
use Rattle.run_save_orders.specs.Laws.{RunReordered}
use Rattle.run_save_orders.specs.Ordering.{KeptIsSameButOrder}
use Rattle.run_save_orders.proofs.Bare.{same_trees}
use Rattle.run_save_orders.specs.Roots.{RunSorted}
use Rattle.verse_code_machine_parents.specs.Parents.{AllStill, TreesRooted}
use Rattle.verse_code_machine_saved.specs.Pairing.{TablePairs}
use Rattle.run_save_same.specs.Laws.{SpelledTreesAreTheSame, SpelledRunIsTheSame, KeptRunGoesOn, HeldGoesOn}
use Rattle.run_save_same.specs.Laws.{StoppedRunIsHeld, HeldRunGoesOn}
use Rattle.run_save_same.proofs.Same.{own_trees_rooted}

pub spelled_run_is_the_same : TablePairs → SpelledTreesAreTheSame → KeptIsSameButOrder → RunReordered → RunSorted →
    SpelledRunIsTheSame
spelled_run_is_the_same pairs same order reordered sorted c steps until v s tss x valid bytes h y =
    let is : state x ≡ apart s = ap state y.is in
    let m = same c steps until s tss x h y in
    let own : TreesRooted x.left (filled y.ordered) =
    subst (λ k. TreesRooted k.left (filled y.ordered)) (sym y.is) (own_trees_rooted c steps until s tss y.ordered
    y.reordered h pairs) in
    sym (sorted c steps v (state x) (filled y.ordered) (trees c x) own m.0 m.1) ∙
    (ap (λ t. run_from c steps v t (filled y.ordered)) is ∙ sym (reordered c steps v
    (apart s) tss (filled y.ordered) valid bytes (record { rooted = h.savable.rooted; waits = h.savable.waits })
    (order s tss x y)))

pub stopped_run_is_held : RunIsSavable → RunIsOrderly → RunIsBorn → RunKeepsArms → StoppedRunIsHeld
stopped_run_is_held savable orderly born arms c ns steps u s tss valid bytes inputs short e = record {
  savable = subst (StageSavable c steps u) e (savable c ns steps u (suc steps) valid bytes inputs short);
  orderly = subst StageOrderly e (orderly c ns steps u (suc steps) valid bytes);
  born = subst StageIsBorn e (born c ns steps u (suc steps));
  arms = subst StageIs e (arms c ns steps u (suc steps));
}

pub kept_run_goes_on : StoppedRunIsHeld → RunResumed → SpelledRunIsTheSame → KeptRunGoesOn
kept_run_goes_on held resumed same c ns steps u v s tss x valid bytes inputs le short e y =
    let h = held c ns steps u s tss valid bytes inputs short e in
    ap (behind s.memory.trace) (same c steps u v s tss x valid bytes h y) ∙
    (resumed c ns steps u v s tss tss valid le e
    (same_trees c h.savable.scene s.clock.next s tss h.savable.trees)).1

pub held_goes_on : SavableGoesOn → OrderlyGoesOn → BirthsGoOn → ArmsGoOn → HeldGoesOn
held_goes_on savable orderly born arms c steps u w s t tss uss valid bytes le short h e = record {
  savable = subst (StageSavable c steps w) e (savable c steps u w (suc steps) s tss valid bytes le short h.savable);
  orderly = subst StageOrderly e (orderly c steps u w (suc steps) s tss valid bytes h.savable h.orderly);
  born = subst StageIsBorn e (born c steps w (suc steps) s tss h.born);
  arms = subst StageIs e (arms c steps w (suc steps) s tss h.arms);
}

-- ---- what a run can go on from

pub tasks_free : (ts : List Task) → AllStill ts → TasksAreFree ts
tasks_free [] a = tt
tasks_free (t ∷ ts) a = (a.0.free, tasks_free ts a.1)

pub trees_free : (left : ℕ) (tss : Forest) → TreesRooted left tss → TreesAreFree tss
trees_free left [] a = tt
trees_free left (ts ∷ tss) a = (tasks_free ts a.1, trees_free left tss a.2)

pub tasks_count : (ts : List Task) → tasks_frames ts ≡ tasks_sum (λ (t : Task). suc (length t.thread.below)) ts
tasks_count [] = refl
tasks_count (t ∷ ts) = let h = tasks_count ts in omega (arith, h)

pub trees_count : (tss : Forest) → trees_frames tss ≡ trees_sum (λ (t : Task). suc (length t.thread.below)) tss
trees_count [] = refl
trees_count (ts ∷ tss) = let h = trees_count tss in let g = tasks_count ts in omega (arith, h, g)

pub can_go_on : (c : Code) (steps until : ℕ) (s : State) (tss : Forest) → Savable c steps until s tss → CanGoOn s tss
can_go_on c steps until s tss a = record {
  are_free = trees_free s.clock.left tss a.rooted;
  few = twice (trees_frames tss) _ s.clock.spent (trees_count tss) a.few_frames;
}
  where
    twice : (n m k : ℕ) → n ≡ m → m ≤ k → n ≤ 2 * k
    twice n m k e h = omega (arith, e, h)

no_later : (u w : ℕ) (rs : List (Option Given)) → u ≤ w → Each (NoLater u) rs → NoResultLater w rs
no_later u w [] h a = tt
no_later u w (None ∷ rs) h a = no_later u w rs h a.1
no_later u w (Some g ∷ rs) h a = (further g.moment u w a.0 h, no_later u w rs h a.1)
  where
    further : (i j k : ℕ) → i ≤ j → j ≤ k → i ≤ k
    further i j k e f = omega (arith, e, f)

-- without a signal
within : (c : Code) (steps u w : ℕ) (s : State) (tss : Forest) → u ≤ w → Savable c steps u s tss →
    s.clock.signals ≡ [] →
    Within w s
within c steps u w s tss h a e = record {
  now = further s.clock.now u w a.state.now h;
  signals = subst (hz.NoLater w) (sym e) tt;
  results = no_later u w s.clock.results h a.state.results;
  newer = subst (NoneNewer s.clock.next) (sym e) tt;
}
  where
    further : (i j k : ℕ) → i ≤ j → j ≤ k → i ≤ k
    further i j k e f = omega (arith, e, f)

pub held_run_goes_on : RunsEndFrom → HeldGoesOn → RunResumedAgain → SpelledRunIsTheSame → HeldRunGoesOn
held_run_goes_on ends goes again same c steps u w v s t tss uss x valid bytes le short more h none e y =
    let a = goes c steps u w s t tss uss valid bytes le short h e in
    let over = (ends c steps v s tss valid h.savable.sum (can_go_on c steps u s tss h.savable)).over in
    ap (behind t.memory.trace) (same c steps w v t uss x valid bytes a y) ∙
    (again c steps w v s t tss uss uss more (within c steps u w s tss le h.savable none) over e
    (same_trees c a.savable.scene t.clock.next t uss a.savable.trees)).2
