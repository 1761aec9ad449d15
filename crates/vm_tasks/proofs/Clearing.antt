-- Children that are cancelled one after another.
use Rattle.std.proofs.Common.{◌≡◌, ℕ, Bool, ◌<◌, ◌≤◌, List, [], ◌∷◌, ◌++◌, length, refl, sym, subst, arith}
use Rattle.task_tree.specs.Tasks.{Task}
use Rattle.task_tree.specs.Nested.{IsTree, Under, itself}
use Rattle.task_tree.specs.Removing.{Parts, all_parted, one_goes, one_stays, Cancels, Visited}
use Rattle.task_tree.proofs.Standing.{found}
use Rattle.sim_clock.specs.declared.waits.Pending.{Pending}
use Rattle.vm_tasks_laws.specs.Cancelling.{none_younger, one_younger}
use Rattle.vm_tasks.specs.declared.slots.Slot.{Slot}
use Rattle.vm_tasks.specs.declared.gone.Gone.{Gone}
use Rattle.vm_tasks.specs.Gone.{IsYounger, NoYounger, Leaves, Cleared}

module _ {T : Type 0} (P : Task T → Type 0) where
  fewer : (old gone left : List (Task T)) → Parts P old gone left → length left ≤ length old
  fewer old gone left all_parted = omega arith
  fewer old gone left (one_goes {old = xs} {gone = ys} {left = zs} t p r) = omega (arith, fewer xs ys zs r)
  fewer old gone left (one_stays {old = xs} {gone = ys} {left = zs} t p r) = omega (arith, fewer xs ys zs r)

  pub shorter : (old gone left : List (Task T)) → Parts P old gone left → (front : List (Task T)) (u : Task T) (back : List (Task T)) →
      old ≡ front ++ u ∷ back → P u → length left < length old
  shorter old gone left all_parted [] u back e p = absurd (cc)
  shorter old gone left all_parted (x ∷ front) u back e p = absurd (cc)
  shorter old gone left (one_goes {old = xs} {gone = ys} {left = zs} t q r) front u back e p = omega (arith, fewer xs ys zs r)
  shorter old gone left (one_stays {old = xs} {gone = ys} {left = zs} t q r) [] u back e p = let same : t ≡ u = cc in
      absurd (q (subst P (sym same) p))
  shorter old gone left (one_stays {old = xs} {gone = ys} {left = zs} t q r) (x ∷ front) u back e p =
      let tails : xs ≡ front ++ u ∷ back = cc in omega (arith, shorter xs ys zs r front u back tails p)

module _ {F W : Type 0} (has_blocks : F → Bool) (pending : W → List Pending) where
  told_both : (a b : List (Task (Slot F))) (x y z : Gone F W) → Visited (Leaves has_blocks pending) x b y →
      Visited (Leaves has_blocks pending) y a z → Visited (Leaves has_blocks pending) x (a ++ b) z
  told_both [] b x y z v w = subst (λ g. Visited (Leaves has_blocks pending) x b g) (sym w) v
  told_both (t ∷ a) b x y z v w = (w.0, told_both a b x y w.0 v w.1, w.2)

  pub none_cleared : (ts : List (Task (Slot F))) (id bound : ℕ) (gone : Gone F W) → IsTree ts → NoYounger ts id bound →
      Cleared has_blocks pending id bound ts ts gone gone
  none_cleared ts id bound gone tree none = record { gone = []; cancels = λ frames. none_younger tree none; told = refl }

  pub one_cleared : (ts mid new : List (Task (Slot F))) (id bound child : ℕ) (x y z : Gone F W) (list : List (Task (Slot F))) → IsTree ts →
      IsYounger ts id bound child → Cancels child ts list mid →
      Visited (Leaves has_blocks pending) x list y → Cleared has_blocks pending id bound mid new y z →
      Cleared has_blocks pending id bound ts new x z
  one_cleared ts mid new id bound child x y z list tree young cancels told c = record {
    gone = c.gone ++ list;
    cancels = λ frames. one_younger child young.task list mid c.gone tree young.youngest_is young.at_it young.less cancels
        (c.cancels frames) refl;
    told = told_both c.gone list x y z told c.told;
  }

  pub falls : (ts list mid : List (Task (Slot F))) (id bound child : ℕ) → IsYounger ts id bound child → Cancels child ts list mid →
      length mid < length ts
  falls ts list mid id bound child young cancels =
      let a = found child ts young.task young.at_it in
      shorter (λ t. Under ts child t.number) ts list mid cancels a.front young.task a.back a.was
      (subst (λ n. Under ts child n) (sym a.number) itself)
