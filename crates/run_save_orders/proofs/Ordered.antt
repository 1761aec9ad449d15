-- A run goes on from what is kept of it, in whatever order.
use Rattle.std.proofs.Common.{◌≡◌, ℕ, suc, List, [], ◌∷◌, ◌++◌, refl, sym, subst, ap, ◌∙◌}
use Rattle.verse_code_machine.specs.Tasks.{Thread, Task}
use Rattle.verse_code_machine.specs.Runs.{Forest}
use Rattle.verse_code_machine_saved.specs.Horizons.{run_from}
use Rattle.verse_code_machine_saved.specs.Numbers.{RunRenumbered}
use Rattle.verse_code_machine_saved.specs.Resuming.{apart, behind, SameTrees, RunResumed}
use Rattle.run_save_shots.specs.Lists.{Each, Reordered, no_elements, one_more}
use Rattle.run_save_shots.specs.Spelling.{state, trees}
use Rattle.run_save_shots.proofs.Lists.{all_as}
use Rattle.run_save_fits.specs.Laws.{StageSavable, RunIsSavable}
use Rattle.run_save_fits.proofs.KeptAll.{reordered_each}
use Rattle.run_save_kept.specs.Growing.{filled}
use Rattle.run_save_births.specs.Births.{births_of, NoChild, IsBorn, AreBorn}
use Rattle.run_save_births.specs.Laws.{StageIsBorn, RunIsBorn}
use Rattle.run_save_orders.specs.Laws.{RunReordered}
use Rattle.run_save_orders.proofs.Orders.{filled_join}
use Rattle.run_save_orders.specs.Ordering.{KeptIsSameButOrder, KeptIsBorn, KeptRunIsTheRun}
use Rattle.run_save_orders.proofs.Bare.{same_trees}

filled_again : (tss : Forest) → filled (filled tss) ≡ filled tss
filled_again [] = refl
filled_again ([] ∷ tss) = filled_again tss
filled_again ((t ∷ ts) ∷ tss) = ap (λ w. (t ∷ ts) ∷ w) (filled_again tss)

filled_reordered : {xs zs : Forest} → Reordered xs zs → Reordered (filled xs) (filled zs)
filled_reordered no_elements = no_elements
filled_reordered (one_more {x = x} {xs = xs} {zs = zs} front back e r) =
    by_tree x (subst (λ w. Reordered (filled xs) w) (filled_join front back) (filled_reordered r))
    (ap filled e ∙ filled_join front (x ∷ back))
  where
    by_tree : (x : List Task) → Reordered (filled xs) (filled front ++ filled back) → filled zs ≡ filled front ++ filled (x ∷ back) →
        Reordered (filled (x ∷ xs)) (filled zs)
    by_tree [] q f = subst (λ w. Reordered (filled xs) w) (sym f) q
    by_tree (t ∷ ts) q f = one_more (filled front) (filled back) f q

pub kept_is_same_but_order : KeptIsSameButOrder
kept_is_same_but_order s tss x y = subst (λ w. Reordered (filled tss) w) (sym (filled_again y.ordered)) (filled_reordered y.reordered)

-- ---- births

pub filled_each : (P : List Task → Type 0) (tss : Forest) → Each P tss → Each P (filled tss)
filled_each P [] a = tt
filled_each P ([] ∷ tss) a = filled_each P tss a.1
filled_each P ((t ∷ ts) ∷ tss) a = (a.0, filled_each P tss a.1)

module _ (left : ℕ) (tss ordered : Forest) (o : Reordered tss ordered) where
  moved : (P : List Task → Type 0) → Each P tss → Each P (filled ordered)
  moved P a = filled_each P ordered (reordered_each P o a)

  born_so : (x : Thread) → IsBorn left tss x → IsBorn left (filled ordered) x
  born_so x a = record {
    rises = a.rises;
    keeps = a.keeps;
    above = a.above;
    apart = all_as (NoChild tss x.who.path) (NoChild (filled ordered) x.who.path)
        (λ n b. moved (Each (λ (t : Task). t.thread.who.path ≡ x.who.path ++ n ∷ [] → ⊥)) b) (births_of x) a.apart;
  }

  are_born_so : AreBorn left tss → AreBorn left (filled ordered)
  are_born_so a = moved (Each (λ (t : Task). IsBorn left (filled ordered) t.thread))
      (all_as (Each (λ (t : Task). IsBorn left tss t.thread)) (Each (λ (t :
      Task). IsBorn left (filled ordered) t.thread))
      (λ ts b. all_as (λ (t : Task). IsBorn left tss t.thread) (λ (t : Task). IsBorn left (filled ordered)
      t.thread) (λ t d. born_so t.thread d) ts b) tss a)

pub kept_is_born : RunIsBorn → KeptIsBorn
kept_is_born law c ns steps u s tss x e y =
    are_born_so s.clock.left tss y.ordered y.reordered (subst StageIsBorn e (law c ns steps u (suc steps)))

pub kept_run_is_the_run : RunIsSavable → RunReordered → RunResumed → RunRenumbered → KeptRunIsTheRun
kept_run_is_the_run savable reordered resumed renumbered c ns steps u v s tss x valid bytes inputs le short e y m =
    let a = subst (StageSavable c steps u) e (savable c ns steps u (suc steps) valid bytes inputs short) in
    let o = kept_is_same_but_order s tss x y in
    let is : state x ≡ apart s = ap state y.is in
    let n : SameTrees (apart s) (filled y.ordered) (trees c x) = subst (λ t. SameTrees t (filled y.ordered) (trees c x)) is m in
    ap (behind s.memory.trace) (ap (λ t. run_from c steps v t (trees c x)) is ∙
    (sym (renumbered c steps v (apart s) (filled y.ordered) (trees c x) n.own n.other n.own_rises n.other_rises n.own_fixed n.other_fixed
    n.meet) ∙ sym (reordered c steps v (apart s) tss (filled y.ordered) valid bytes (record {
      rooted = a.rooted;
      waits = a.waits;
    }) o))) ∙ (resumed c ns steps u v s tss tss valid le e (same_trees c a.scene s.clock.next s tss a.trees)).1
