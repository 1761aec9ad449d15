-- What is kept of a run that stopped spells its trees and its waits again.
use Rattle.std.proofs.Common.{◌≡◌, suc, List, [], ◌∷◌, ◌++◌, refl, sym, subst, ◌∙◌}
use Rattle.verse_meaning_state.specs.Waits.{Wait}
use Rattle.verse_code_machine.specs.Tasks.{Rest, asleep, group, Task, waits_with, waits_of, tree_waits}
use Rattle.verse_code_machine.specs.Runs.{Forest}
use Rattle.run_save_shots.specs.Spelling.{trees}
use Rattle.run_save_fits.specs.Laws.{StageSavable, RunIsSavable}
use Rattle.run_save_kept.specs.Laws.{StageOrderly, RunIsOrderly}
use Rattle.run_save_kept.specs.Growing.{filled}
use Rattle.run_save_orders.proofs.Waits.{filled_waits}
use Rattle.run_save_same.specs.Alike.{RestAlike, TasksAlike, TreesAlike}
use Rattle.run_save_same.specs.Runs.{StoppedRunIsSpelled}
use Rattle.run_save_same.proofs.Spelled.{trees_are_spelled}

one_wait : (p q : Rest) (ws vs : List Wait) → RestAlike p q → ws ≡ vs → waits_with p ws ≡ waits_with q vs
one_wait (asleep w) (asleep v) ws vs a e = both a e
  where
    both : {w v : Wait} {ws vs : List Wait} → w ≡ v → ws ≡ vs → w ∷ ws ≡ v ∷ vs
    both e f = cc
one_wait (group k p gs) (group j q hs) ws vs a e = e
one_wait (asleep w) (group j q hs) ws vs a e = absurd a
one_wait (group k p gs) (asleep v) ws vs a e = absurd a

tasks_wait : (ts us : List Task) → TasksAlike ts us → waits_of ts ≡ waits_of us
tasks_wait [] [] a = refl
tasks_wait (t ∷ ts) (u ∷ us) a = one_wait t.rest u.rest (waits_of ts) (waits_of us) a.0.rest (tasks_wait ts us a.1)
tasks_wait [] (u ∷ us) a = absurd a
tasks_wait (t ∷ ts) [] a = absurd a

trees_wait : (tss uss : Forest) → TreesAlike tss uss → tree_waits tss ≡ tree_waits uss
trees_wait [] [] a = refl
trees_wait (ts ∷ tss) (us ∷ uss) a = both (tasks_wait ts us a.0) (trees_wait tss uss a.1)
  where
    both : {ws vs xs zs : List Wait} → ws ≡ vs → xs ≡ zs → ws ++ xs ≡ vs ++ zs
    both e f = cc
trees_wait [] (us ∷ uss) a = absurd a
trees_wait (ts ∷ tss) [] a = absurd a

pub stopped_run_is_spelled : RunIsSavable → RunIsOrderly → StoppedRunIsSpelled
stopped_run_is_spelled savable orderly c ns steps until s tss x valid bytes inputs short e y =
    let a = trees_are_spelled c steps until s tss x
    (subst (StageSavable c steps until) e (savable c ns steps until (suc steps) valid bytes inputs short))
    (subst StageOrderly e (orderly c ns steps until (suc steps) valid bytes)) y in
    record { alike = a; waits = sym (trees_wait (filled y.ordered) (trees c x) a) ∙ filled_waits y.ordered }
