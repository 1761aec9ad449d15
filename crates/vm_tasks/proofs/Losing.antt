-- Where frames of cancelled tasks are lost.
use Rattle.std.proofs.Common.{◌≡◌, ◌≢◌, ◌≤◌, ◌⊎◌, inl, inr, ℕ, ◌+◌, Bool, true, false, List, [], ◌∷◌, length, refl, sym, ap, subst, ◌∙◌}
use Rattle.std.proofs.Common.{arith}
use Rattle.std.specs.Prelude.{vec_capacity}
use Rattle.std.proofs.lemmas.List.{length-append}
use Rattle.task_tree.specs.Tasks.{Task}
use Rattle.task_tree.specs.Removing.{Parts, all_parted, one_goes, one_stays, Visited}
use Rattle.sim_clock.specs.declared.waits.Pending.{Pending}
use Rattle.vm_tasks_laws.specs.Cancelling.{CancelsSince, none_younger, one_younger}
use Rattle.vm_tasks_laws.specs.Slots as table
use Rattle.vm_tasks.specs.declared.slots.Slot.{Slot}
use Rattle.vm_tasks.specs.declared.gone.Gone.{Gone}
use Rattle.vm_tasks.specs.Gone.{kept_in, In, first_in, later_in, Leaves, Cleared, LosesFew}
use Rattle.vm_tasks.proofs.Meaning.{told_frames}
use Rattle.vm_tasks.proofs.Keeping.{in_either, since_left, since_gone, no_frames}

module _ {F : Type 0} where
  parts_count : (R : Task (Slot F) → Type 0) (old gone left : List (Task (Slot F))) → Parts R old gone left →
      length old ≡ length gone + length left
  parts_count R old gone left all_parted = refl
  parts_count R old gone left (one_goes {old = xs} {gone = ys} {left = zs} u r q) = omega (arith, parts_count R xs ys zs q)
  parts_count R old gone left (one_stays {old = xs} {gone = ys} {left = zs} u r q) = omega (arith, parts_count R xs ys zs q)

  gone_is : (R : Task (Slot F) → Type 0) (old gone left : List (Task (Slot F))) (t : Task (Slot F)) → Parts R old gone left → In t gone →
      R t
  gone_is R old gone left t all_parted i = elim i [ ]
  gone_is R old gone left t (one_goes {old = xs} {gone = ys} {left = zs} u r q) first_in = r
  gone_is R old gone left t (one_goes {old = xs} {gone = ys} {left = zs} u r q) (later_in _ i) = gone_is R xs ys zs t q i
  gone_is R old gone left t (one_stays {old = xs} {gone = ys} {left = zs} u r q) i = gone_is R xs ys zs t q i

  left_not : (R : Task (Slot F) → Type 0) (old gone left : List (Task (Slot F))) (t : Task (Slot F)) → Parts R old gone left → In t left →
      R t → ⊥
  left_not R old gone left t all_parted i = elim i [ ]
  left_not R old gone left t (one_goes {old = xs} {gone = ys} {left = zs} u r q) i = left_not R xs ys zs t q i
  left_not R old gone left t (one_stays {old = xs} {gone = ys} {left = zs} u r q) first_in = r
  left_not R old gone left t (one_stays {old = xs} {gone = ys} {left = zs} u r q) (later_in _ i) = left_not R xs ys zs t q i

  since_count : (slot : Slot F → table.Slot) (id bound : ℕ) (ts gone new : List (Task (Slot F))) → CancelsSince slot id bound ts gone new →
      length ts ≡ length gone + length new
  since_count slot id bound ts gone new (none_younger tree none) = omega arith
  since_count slot id bound ts gone new (one_younger c u first mid later tree young at less cancels more is) =
      let here = parts_count _ ts first mid cancels in
      let rest = since_count slot id bound mid later new more in
      let both : length gone ≡ length later + length first = ap (λ (z : List (Task (Slot F))). length z) is ∙ length-append later first in
      omega (arith, here, rest, both)

  -- a task that is cancelled is not among those that are left
  since_apart : (slot : Slot F → table.Slot) (id bound : ℕ) (ts gone new : List (Task (Slot F))) (t : Task (Slot F)) →
      CancelsSince slot id bound ts gone new → In t gone → In t new → ⊥
  since_apart slot id bound ts gone new t (none_younger tree none) i j = elim i [ ]
  since_apart slot id bound ts gone new t (one_younger c u first mid later tree young at less cancels more is) i j =
      elim (in_either t later first (subst (λ z. In t z) is i)) [
        | inl k ↦ since_apart slot id bound mid later new t more k j
        | inr k ↦ left_not _ ts first mid t cancels (since_left slot id bound mid later new t more j) (gone_is _ ts first mid t cancels k)
      ]

same_bool : (b c : Bool) → (b ≡ true → c ≡ true) → (b ≡ false → c ≡ false) → b ≡ c
same_bool true c t f = sym (t refl)
same_bool false c t f = sym (f refl)

module _ {F W : Type 0} (has_blocks : F → Bool) (pending : W → List Pending) where
  -- what was kept of so many tasks fits
  record Fits (gone : List (Task (Slot F))) (x y : Gone F W) : Type 0 where
    few : length y.frames.items ≤ length x.frames.items + length gone
    room : vec_capacity x.frames ≤ vec_capacity y.frames
    none_lost : length x.frames.items + length gone ≤ vec_capacity x.frames → y.lost ≡ true → x.lost ≡ true

  fits : (gone : List (Task (Slot F))) (x y : Gone F W) → Visited (Leaves has_blocks pending) x gone y → Fits gone x y
  fits [] x y v = subst (λ z. Fits [] x z) (sym v) (record { few = omega arith; room = omega arith; none_lost = λ r l. l })
  fits (t ∷ ts) x y v =
      let r = fits ts x v.0 v.1 in
      record {
        few = omega (arith, r.few, v.2.few);
        room = omega (arith, r.room, v.2.room);
        none_lost = λ h l.
            elim (v.2.cause l) [
              | inl k ↦ r.none_lost (omega (arith, h)) k
              | inr k ↦ absurd (omega (arith, h, r.few, r.room, k.1))
            ];
      }

  some_lost : (gone : List (Task (Slot F))) (x y : Gone F W) → Visited (Leaves has_blocks pending) x gone y → y.lost ≡ true →
      (x.lost ≡ true) ⊎ ((t : Task (Slot F)) × In t gone × (kept_in has_blocks t.item.held ≢ []))
  some_lost [] x y v l = inl (ap (λ (z : Gone F W). z.lost) (sym v) ∙ l)
  some_lost (t ∷ ts) x y v l =
      elim (v.2.cause l) [
        | inl k ↦ elim (some_lost ts x v.0 v.1 k) [ inl m ↦ inl m | inr m ↦ inr (m.0, later_in t m.1, m.2) ]
        | inr k ↦ inr (t, first_in, k.0)
      ]

  -- where none of them has a deferred block no memory is taken
  none_kept : (gone : List (Task (Slot F))) (x y : Gone F W) → Visited (Leaves has_blocks pending) x gone y →
      ((t : Task (Slot F)) → In t gone → kept_in has_blocks t.item.held ≡ []) → (y.frames ≡ x.frames) × (y.lost ≡ x.lost)
  none_kept [] x y v none = (ap (λ (z : Gone F W). z.frames) v, ap (λ (z : Gone F W). z.lost) v)
  none_kept (t ∷ ts) x y v none =
      let r = none_kept ts x v.0 v.1 (λ u i. none u (later_in t i)) in
      let k = v.2.none (none t first_in) in
      (k.0 ∙ r.0, k.1 ∙ r.1)

  pub loses_few_so : (id bound : ℕ) (old new : List (Task (Slot F))) (before behind : Gone F W) →
      Cleared has_blocks pending id bound old new before behind → LosesFew has_blocks old new before behind
  loses_few_so id bound old new before behind c =
      let f = fits c.gone before behind c.told in
      let n = since_count _ id bound old c.gone new (c.cancels no_frames) in
      record {
        with_room = λ r. (
          same_bool behind.lost before.lost (f.none_lost (omega (arith, r, n)))
              (λ l. (told_frames has_blocks pending c.gone before behind c.told l).0),
          omega (arith, r, n, f.few, f.room),
        );
        cause = λ l.
            elim (some_lost c.gone before behind c.told l) [
              | inl k ↦ inl k
              | inr k ↦ inr (record {
                task = k.0;
                was = since_gone _ id bound old c.gone new k.0 (c.cancels no_frames) k.1;
                is_gone = λ j. since_apart _ id bound old c.gone new k.0 (c.cancels no_frames) k.1 j;
                some = k.2;
              })
            ];
        none = λ none. none_kept c.gone before behind c.told (λ t i. none t (since_gone _ id bound old c.gone new t (c.cancels no_frames) i)
            (λ j. since_apart _ id bound old c.gone new t (c.cancels no_frames) i j));
      }
