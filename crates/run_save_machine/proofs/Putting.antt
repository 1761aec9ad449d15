-- One task more, and all of them.
use Rattle.std.proofs.Common.{◌≡◌, ℕ, suc, ◌+◌, ◌<◌, List, [], ◌∷◌, ◌++◌, length, map, get_or, reverse, refl, sym, ap}
use Rattle.std.proofs.Common.{subst}
use Rattle.std.proofs.Common.{◌∙◌, arith}
use Rattle.std.proofs.lemmas.List.{length-append, length-map, get_or-map, reverse-append}
use Rattle.task_tree.specs.Nested.{IsTree}
use Rattle.sim_clock.specs.declared.waits.WaitKind.{WaitKind}
use Rattle.sim_clock.specs.declared.waits.WaitKind.TheVariants as kind
use Rattle.verse_code.specs.declared.codes.Code.{Code}
use Rattle.verse_code.specs.Validity.{Valid}
use Rattle.vm_frames.specs.Framed.{Framed}
use Rattle.vm_tasks.specs.declared.slots.Slot.{Slot}
use Rattle.vm_tasks.specs.declared.slots.Held.{Held}
use Rattle.vm_tasks.specs.Reading.{wait_at}
use Rattle.run_save_shots.specs.declared.shots.TaskShot.{TaskShot}
use Rattle.run_save_shots.specs.Kept.{KeptFrame, KeptRest, KeptTask, Kept}
use Rattle.run_save_shots.specs.View.{cause_of, task_of}
use Rattle.run_save_numbers.specs.declared.tables.TaskNumbers.{TaskNumbers}
use Rattle.run_save_numbers.specs.Numbers.{Numbers, numbers, numbers_from}
use Rattle.run_save_numbers.specs.View.{numbers_of}
use Rattle.run_save_slots.specs.Slots.{Waits, waits_asleep, waits_at_group, is_at_group, IsMade, Suits}
use Rattle.run_save_trees.specs.declared.tables.Restored.{Restored}
use Rattle.run_save_trees.specs.Restoring.{kind_of, waits_of, HasParent, IsPut, WithTask, IsEmpty}
use Rattle.run_save_trees.specs.Laws.{StandsFor}
use Rattle.run_save_trees.proofs.Suiting.{suits}
use Rattle.run_save_trees.proofs.Restoring.{Restoring, begins, has_parent, goes_on}
use Rattle.run_save_trees.proofs.Ends.{ends}
use Rattle.run_save_machine.specs.Putting.{waits_with, AreOf}

-- ---- one task

same_kind : (k : WaitKind) → kind_of (cause_of k) ≡ k
same_kind (kind.At moment) = refl
same_kind kind.Never = refl
same_kind (kind.Task entry) = refl
same_kind (kind.Event cell) = refl

its_waits : (c : Code) (frames : List KeptFrame) (n : Numbers) (r : KeptRest) (h : Held (List Framed)) (id : ℕ) → Waits c frames n r h →
    waits_with id (wait_at h) ≡ waits_of id r
its_waits c frames n r h id (waits_asleep {number = number} {kind = k} a) =
    ap (λ g. waits_with id (wait_at g)) a ∙ ap (λ q. record { number = number; task = id; kind = q } ∷ []) (sym (same_kind k))
its_waits c frames n r h id (waits_at_group {arms = arms} (is_at_group e f)) = refl

pub with_task : (c : Code) (t : KeptTask) (n : Numbers) (old new : Restored) (id : ℕ) (x : Slot (List Framed)) → IsTree old.tree →
    IsMade c t n x → IsPut t.parent old.ids.items old.tree new.tree id x → new.ids.items ≡ old.ids.items ++ id ∷ [] →
    new.waits.items ≡ old.waits.items ++ waits_with id (wait_at x.held) → WithTask c t n old new
with_task c t n old new id x nested made put ids waits = record {
  id = id;
  slot = x;
  nested = nested;
  made = made;
  put = put;
  ids = ids;
  waits = waits ∙ ap (λ ws. old.waits.items ++ ws) (its_waits c t.frames n t.rest x.held id made.held);
}

-- ---- places

module _ {A : Type 0} (all rest : List A) (t : A) (at n : ℕ) (is : all ≡ rest ++ t ∷ []) (long : at + length all ≡ n) where
  pub inside : at < n
  inside = omega (arith, long, ap length is, length-append rest (t ∷ []))

  pub one_fewer : at + 1 + length rest ≡ n
  one_fewer = omega (arith, long, ap length is, length-append rest (t ∷ []))

-- ---- numbers

numbers_long : (s : Kept) (n : ℕ) (ts : List KeptTask) → length (numbers_from s n ts) ≡ length ts
numbers_long s n [] = refl
numbers_long s n (t ∷ ts) = ap suc (numbers_long s (suc n) ts)

numbers_at : (s : Kept) (n : ℕ) (before : List KeptTask) (t : KeptTask) (ts : List KeptTask) (d : Numbers) (k : ℕ) → k ≡ n + length before →
    get_or (numbers_from s n (before ++ t ∷ ts)) (length before) d ≡ numbers s k t ts
numbers_at s n [] t ts d k e = let same : n ≡ k = omega (arith, e) in ap (λ i. numbers s i t ts) same
numbers_at s n (x ∷ before) t ts d k e = numbers_at s (suc n) before t ts d k (omega (arith, e))

module _ (c : Code) (all : List TaskShot) (ns : List TaskNumbers) where
  -- these are still to come, of whichever shot
  abbrev pub SoFar : List TaskShot → Restored → Type 0
  SoFar left r = (s : Kept) → AreOf c s (map task_of all) (map numbers_of ns) → Restoring c s (map task_of (reverse left)) r

  abbrev pub Some : Type 0
  Some = (s : Kept) × AreOf c s (map task_of all) (map numbers_of ns)

  pub long : Some → length all ≡ length ns
  long some =
      let a = some.1 in
      omega (
        arith,
        length-map all task_of,
        length-map ns numbers_of,
        ap length a.numbers,
        numbers_long some.0 0 (some.0).tasks,
        ap length a.tasks,
      )

  pub first : (r : Restored) → IsEmpty r → (left : List TaskShot) → reverse left ≡ all → SoFar left r
  first r e left f s a =
      subst (λ ts. Restoring c s ts r) (a.tasks ∙ ap (map task_of) (sym f)) (begins c s r a.fits e)

  module _ (left rest : List TaskShot) (t : TaskShot) (r : Restored) (is : left ≡ rest ++ t ∷ []) (so_far : SoFar left r) where
    turned : map task_of (reverse left) ≡ task_of t ∷ map task_of (reverse rest)
    turned = ap (λ ts. map task_of (reverse ts)) is ∙ ap (map task_of) (reverse-append rest (t ∷ []))

    now : (s : Kept) → AreOf c s (map task_of all) (map numbers_of ns) → Restoring c s (task_of t ∷ map task_of (reverse rest)) r
    now s a = subst (λ ts. Restoring c s ts r) turned (so_far s a)

    module _ (at : ℕ) (place : at ≡ length r.ids.items) (within : at < length ns) (n : TaskNumbers) (n_is : n ≡ get_or ns at n) where
      numbers_here : (s : Kept) (a : AreOf c s (map task_of all) (map numbers_of ns)) → (k : ℕ) → k ≡ at →
          numbers_of n ≡ numbers s k (task_of t) (map task_of (reverse rest))
      numbers_here s a k e =
          let q = now s a in
          let same : at ≡ length q.done = place ∙ q.ids in
          ap numbers_of n_is ∙ (sym (get_or-map numbers_of ns at n (numbers_of n) within) ∙
          (ap (λ ms. get_or ms at (numbers_of n)) (a.numbers ∙ ap (numbers_from s 0) q.all) ∙
          (ap (λ i. get_or (numbers_from s 0 (q.done ++ task_of t ∷ map task_of (reverse rest))) i (numbers_of n)) same ∙
          numbers_at s 0 q.done (task_of t) (map task_of (reverse rest)) (numbers_of n) k (omega (arith, e, same)))))

      pub its_suits : Some → Valid c → Suits (task_of t) (numbers_of n)
      its_suits some valid =
          let s = some.0 in
          let q = now s some.1 in
          subst (λ k. Suits (task_of t) k) (sym (numbers_here s some.1 (length q.done) (sym (place ∙ q.ids))))
          (suits c s q.done (task_of t) (map task_of (reverse rest)) valid some.1.fits q.all)

      pub its_parent : Some → HasParent t.parent r.ids.items r.tree
      its_parent some = has_parent c some.0 some.1.fits (task_of t) (map task_of (reverse rest)) r (now some.0 some.1)

      pub one_more : (new : Restored) → WithTask c (task_of t) (numbers_of n) r new → SoFar rest new
      one_more new w s a =
          goes_on c s a.fits (task_of t) (map task_of (reverse rest)) r (now s a) new
          (subst (λ k. WithTask c (task_of t) k r new) (numbers_here s a (length r.ids.items) (sym place)) w)

      pub next_place : (new : Restored) → WithTask c (task_of t) (numbers_of n) r new → at + 1 ≡ length new.ids.items
      next_place new w = omega (arith, place, ap length w.ids, length-append r.ids.items (w.id ∷ []))

  pub last : (left : List TaskShot) (r : Restored) → left ≡ [] → SoFar left r → (s : Kept) →
      AreOf c s (map task_of all) (map numbers_of ns) → StandsFor c s r
  last left r e so_far s a = ends c s r a.fits (subst (λ ts. Restoring c s (map task_of (reverse ts)) r) e (so_far s a))
