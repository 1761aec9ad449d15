-- Of which tasks those are that are left, and the frames that are kept, where some are cancelled.
use Rattle.std.proofs.Common.{◌⊎◌, inl, inr, ℕ, Bool, true, false, cond, List, [], ◌∷◌, ◌++◌, subst}
use Rattle.task_tree.specs.Tasks.{Task}
use Rattle.task_tree.specs.Removing.{Parts, all_parted, one_goes, one_stays}
use Rattle.verse_code_machine.specs.Tasks.{Frame}
use Rattle.sim_clock.specs.declared.waits.Pending.{Pending}
use Rattle.vm_tasks_laws.specs.Cancelling.{CancelsSince, none_younger, one_younger}
use Rattle.vm_tasks_laws.specs.Slots as table
use Rattle.vm_tasks.specs.declared.slots.Slot.{Slot}
use Rattle.vm_tasks.specs.declared.gone.Gone.{Gone}
use Rattle.vm_tasks.specs.declared.slots.Held.{Held}
use Rattle.vm_tasks.specs.declared.slots.Held.TheVariants.{ByMachine, Asleep, AtGroup}
use Rattle.vm_tasks.specs.Gone.{frames_in, kept_in, In, first_in, later_in, Cleared, KeepsEach}
use Rattle.vm_tasks.proofs.Meaning.{frames_back, told_frames}

pub in_either : {A : Type 0} (x : A) (a b : List A) → In x (a ++ b) → In x a ⊎ In x b
in_either x [] b i = inr i
in_either x (y ∷ a) b first_in = inl first_in
in_either x (y ∷ a) b (later_in _ i) = elim (in_either x a b i) [ inl k ↦ inl (later_in y k) | inr k ↦ inr k ]

module _ {F : Type 0} where
  parts_gone : (R : Task (Slot F) → Type 0) (old gone left : List (Task (Slot F))) (t : Task (Slot F)) → Parts R old gone left → In t gone →
      In t old
  parts_gone R old gone left t all_parted i = i
  parts_gone R old gone left t (one_goes {old = xs} {gone = ys} {left = zs} u r q) first_in = first_in
  parts_gone R old gone left t (one_goes {old = xs} {gone = ys} {left = zs} u r q) (later_in _ i) = later_in u (parts_gone R xs ys zs t q i)
  parts_gone R old gone left t (one_stays {old = xs} {gone = ys} {left = zs} u r q) i = later_in u (parts_gone R xs ys zs t q i)

  parts_left : (R : Task (Slot F) → Type 0) (old gone left : List (Task (Slot F))) (t : Task (Slot F)) → Parts R old gone left → In t left →
      In t old
  parts_left R old gone left t all_parted i = i
  parts_left R old gone left t (one_goes {old = xs} {gone = ys} {left = zs} u r q) i = later_in u (parts_left R xs ys zs t q i)
  parts_left R old gone left t (one_stays {old = xs} {gone = ys} {left = zs} u r q) first_in = first_in
  parts_left R old gone left t (one_stays {old = xs} {gone = ys} {left = zs} u r q) (later_in _ i) =
      later_in u (parts_left R xs ys zs t q i)

  pub since_left : (slot : Slot F → table.Slot) (id bound : ℕ) (ts gone new : List (Task (Slot F))) (t : Task (Slot F)) →
      CancelsSince slot id bound ts gone new → In t new → In t ts
  since_left slot id bound ts gone new t (none_younger tree none) i = i
  since_left slot id bound ts gone new t (one_younger c u first mid later tree young at less cancels more is) i =
      parts_left _ ts first mid t cancels (since_left slot id bound mid later new t more i)

  pub since_gone : (slot : Slot F → table.Slot) (id bound : ℕ) (ts gone new : List (Task (Slot F))) (t : Task (Slot F)) →
      CancelsSince slot id bound ts gone new → In t gone → In t ts
  since_gone slot id bound ts gone new t (none_younger tree none) i = elim i [ ]
  since_gone slot id bound ts gone new t (one_younger c u first mid later tree young at less cancels more is) i =
      elim (in_either t later first (subst (λ z. In t z) is i)) [
        | inl k ↦ parts_left _ ts first mid t cancels (since_gone slot id bound mid later new t more k)
        | inr k ↦ parts_gone _ ts first mid t cancels k
      ]

  of_kept : (has_blocks : F → Bool) (f g : F) (b : Bool) → In f (cond b (g ∷ []) []) → In f (g ∷ [])
  of_kept has_blocks f g true i = i
  of_kept has_blocks f g false i = elim i [ ]

  in_kept : (has_blocks : F → Bool) (f : F) (h : Held F) → In f (kept_in has_blocks h) → In f (frames_in h)
  in_kept has_blocks f ByMachine i = i
  in_kept has_blocks f (Asleep g n kind) i = of_kept has_blocks f g (has_blocks g) i
  in_kept has_blocks f (AtGroup g group) i = of_kept has_blocks f g (has_blocks g) i

  back_in : (has_blocks : F → Bool) (f : F) (ts : List (Task (Slot F))) → In f (frames_back has_blocks ts) →
      (t : Task (Slot F)) × In t ts × In f (frames_in t.item.held)
  back_in has_blocks f [] i = elim i [ ]
  back_in has_blocks f (t ∷ ts) i =
      elim (in_either f (frames_back has_blocks ts) (kept_in has_blocks t.item.held) i) [
        | inl k ↦ let r = back_in has_blocks f ts k in (r.0, later_in t r.1, r.2)
        | inr k ↦ (t, first_in, in_kept has_blocks f t.item.held k)
      ]

pub no_frames : {F : Type 0} → F → Frame × List Frame
no_frames f = (record { life = record { born = 0; defers = []; noted = [] }; locals = []; stack = []; place = 0; handlers = [] }, [])

module _ {F W : Type 0} (has_blocks : F → Bool) (pending : W → List Pending) where
  pub keeps_so : (id bound : ℕ) (old new : List (Task (Slot F))) (before behind : Gone F W) →
      Cleared has_blocks pending id bound old new before behind → KeepsEach old new before behind
  keeps_so id bound old new before behind c = record {
    tasks = λ t i. since_left _ id bound old c.gone new t (c.cancels no_frames) i;
    frames = λ l f i.
        elim (in_either f before.frames.items (frames_back has_blocks c.gone)
        (subst (λ z. In f z) (told_frames has_blocks pending c.gone before behind c.told l).1 i)) [
          | inl k ↦ inl k
          | inr k ↦ let r = back_in has_blocks f c.gone k in inr
              (r.0, since_gone _ id bound old c.gone new r.0 (c.cancels no_frames) r.1, r.2)
        ];
  }
