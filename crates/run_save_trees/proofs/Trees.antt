-- A task more in a tree.
use Rattle.std.proofs.Common.{◌≡◌, ℕ, Bool, true, false, eqb, if◌then◌else◌, List, [], ◌∷◌, ◌++◌, Some, None, refl, sym, ap, ◌∙◌}
use Rattle.std.proofs.lemmas.Bool.{eqb-true, eq-eqb}
use Rattle.std.proofs.lemmas.List.{append-nil}
use Rattle.task_tree.specs.Tasks.{Task, task_at}
use Rattle.task_tree.specs.Removing.{Added}
use Rattle.vm_tasks.specs.declared.slots.Slot.{Slot}
use Rattle.vm_tasks.specs.Putting.{put_task, PutRoot}

module _ {T : Type 0} where
  at_tail : (x : Task T) (ts : List (Task T)) (n : ℕ) → task_at n (x ∷ ts) ≡ None → task_at n ts ≡ None
  at_tail x ts n e = by (eqb x.number n) e
    where
      by : (b : Bool) → (if b then Some x else task_at n ts) ≡ None → task_at n ts ≡ None
      by true e = absurd (cc)
      by false e = e

  at_between : (front : List (Task T)) (u : Task T) (back : List (Task T)) (i : ℕ) (v : Task T) → task_at u.number (front ++ back) ≡ None →
      task_at i (front ++ back) ≡ Some v → task_at i (front ++ u ∷ back) ≡ Some v
  at_between [] u back i v n e = by (eqb u.number i) refl
    where
      by : (b : Bool) → eqb u.number i ≡ b → (if b then Some u else task_at i back) ≡ Some v
      by true f = let none : task_at i back ≡ None = sym (ap (λ k. task_at k back) (eqb-true u.number i f)) ∙ n in absurd (cc)
      by false f = e
  at_between (x ∷ front) u back i v n e =
      by (eqb x.number i) e (at_between front u back i v (at_tail x (front ++ back) u.number n))
    where
      by : (b : Bool) → (if b then Some x else task_at i (front ++ back)) ≡ Some v →
          (task_at i (front ++ back) ≡ Some v → task_at i (front ++ u ∷ back) ≡ Some v) →
          (if b then Some x else task_at i (front ++ u ∷ back)) ≡ Some v
      by true e rest = e
      by false e rest = rest e

  at_new : (front : List (Task T)) (u : Task T) (back : List (Task T)) → task_at u.number (front ++ back) ≡ None →
      task_at u.number (front ++ u ∷ back) ≡ Some u
  at_new [] u back n = ap (λ b. if b then Some u else task_at u.number back) (eq-eqb u.number u.number refl)
  at_new (x ∷ front) u back n = by (eqb x.number u.number) n (at_new front u back)
    where
      by : (b : Bool) → (if b then Some x else task_at u.number (front ++ back)) ≡ None →
          (task_at u.number (front ++ back) ≡ None → task_at u.number (front ++ u ∷ back) ≡ Some u) →
          (if b then Some x else task_at u.number (front ++ u ∷ back)) ≡ Some u
      by true e rest = absurd (cc)
      by false e rest = rest e

  pub added_old : (old new : List (Task T)) (u : Task T) (i : ℕ) (v : Task T) → Added u old new → task_at u.number old ≡ None →
      task_at i old ≡ Some v → task_at i new ≡ Some v
  added_old old new u i v a n e =
      ap (task_at i) a.is ∙
      at_between a.front u a.back i v (sym (ap (task_at u.number) a.was) ∙ n) (sym (ap (task_at i) a.was) ∙ e)

  pub added_new : (old new : List (Task T)) (u : Task T) → Added u old new → task_at u.number old ≡ None →
      task_at u.number new ≡ Some u
  added_new old new u a n = ap (task_at u.number) a.is ∙ at_new a.front u a.back (sym (ap (task_at u.number) a.was) ∙ n)

  -- behind all others
  pub added_last : (old new : List (Task (Slot T))) (id : ℕ) (x : Slot T) → PutRoot old new id x → Added (put_task None id x) old new
  added_last old new id x p = record { front = old; back = []; was = sym (append-nil old); is = p.is; behind = refl }
