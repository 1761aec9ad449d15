-- The item of a task of the tree.
use Rattle.std.proofs.Common.{◌≡◌, ℕ, List, Option, Some, None, IsSome, option_map, refl, ap, ◌∙◌}
use Rattle.task_tree.specs.Tasks.{Task, task_at, IsLive}
use Rattle.task_tree.proofs.Standing.{inner}

module _ {T : Type 0} where
  pub not_live : (id : ℕ) (tree : List (Task T)) → IsLive id tree → None ≡ option_map (λ (t : Task T). t.item) (task_at id tree) → ⊥
  not_live id tree live e = go (task_at id tree) live e
    where
      go : (o : Option (Task T)) → IsSome o → None ≡ option_map (λ (t : Task T). t.item) o → ⊥
      go None l e = absurd (cc)
      go (Some t) l e = absurd (cc)

  pub item_is : (id : ℕ) (tree : List (Task T)) (s : T) (t : Task T) → Some s ≡ option_map (λ (t : Task T). t.item) (task_at id tree) →
      task_at id tree ≡ Some t → s ≡ t.item
  item_is id tree s t e at = inner (e ∙ ap (λ o. option_map (λ (t : Task T). t.item) o) at)

  pub part_is : {A : Type 0} (f : T → A) (id : ℕ) (tree : List (Task T)) (s : T) →
      Some s ≡ option_map (λ (t : Task T). t.item) (task_at id tree) → Some (f s) ≡ option_map (λ (t : Task T). f t.item) (task_at id tree)
  part_is f id tree s e = ap (λ o. option_map f o) e ∙ go (task_at id tree)
    where
      go : (o : Option (Task T)) → option_map f (option_map (λ (t : Task T). t.item) o) ≡ option_map (λ (t : Task T). f t.item) o
      go None = refl
      go (Some t) = refl
