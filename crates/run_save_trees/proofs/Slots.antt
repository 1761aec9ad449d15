-- What the tree keeps of a task is what the task is that is spelled.
use Rattle.std.proofs.Common.{◌≡◌, ℕ, suc, ◌≤◌, List, [], ◌∷◌, length, Option, Some, None, refl, sym, ap, subst, ◌∙◌, arith}
use Rattle.sim_clock.specs.declared.waits.WaitKind.{WaitKind}
use Rattle.sim_clock.specs.declared.waits.WaitKind.TheVariants as kind
use Rattle.verse_code.specs.declared.codes.Code.{Code}
use Rattle.verse_value.specs.Val.{Val}
use Rattle.verse_meaning_state.specs.Waits.{nth}
use Rattle.verse_code_machine.specs.Tasks.{Frame, Who, did, runs, Rest, asleep}
use Rattle.vm_tasks_laws.specs.Slots.{by_itself}
use Rattle.vm_tasks_laws.specs.Clocks as clocks
use Rattle.vm_frames.specs.Framed.{Framed}
use Rattle.vm_tasks.specs.declared.slots.Slot.{Slot}
use Rattle.vm_tasks.specs.declared.slots.Held.{Held}
use Rattle.vm_tasks.specs.View.{role_of, held_of, slot_of}
use Rattle.vm_scheduler.specs.Frames.{parted, frames_in, Suspended}
use Rattle.vm_scheduler.specs.Standing.{HeldFine, Fine}
use Rattle.run_save_shots.specs.Kept.{KeptFrame, KeptRest, leaf, group, KeptTask, Kept}
use Rattle.run_save_shots.specs.Fitting.{arms_of, task_stand}
use Rattle.run_save_shots.specs.Naming.{number_at, arm_at, named, parent_in}
use Rattle.run_save_shots.specs.Spelling.{gathered, parts_from, rest}
use Rattle.run_save_shots.specs.View.{cause_of}
use Rattle.run_save_spelled.proofs.Sprouting.{Spelled, who_number}
use Rattle.run_save_numbers.specs.Numbers.{Numbers, numbers, borns_from, arms_from}
use Rattle.run_save_slots.specs.Stacking.{stacked}
use Rattle.run_save_slots.proofs.Spells.{spells}
use Rattle.run_save_slots.specs.Slots.{root_of, parts, rest_of_group, IsAsleep, IsAtGroup, is_at_group, Waits, waits_asleep, waits_at_group}
use Rattle.run_save_slots.specs.Slots.{IsMade}
use Rattle.run_save_trees.specs.Puts.{IsKept}
use Rattle.run_save_trees.proofs.Threads.{is_suspended}

pub same_cause : (k : WaitKind) → clocks.cause_of k ≡ cause_of k
same_cause (kind.At moment) = refl
same_cause kind.Never = refl
same_cause (kind.Task entry) = refl
same_cause (kind.Event cell) = refl

-- the parent of a part has a name
abbrev pub HasName : List Who → Option ℕ → Type 0
HasName ws q = (p : ℕ) → q ≡ Some p → (w : Who) × (nth ws p ≡ Some w)

same_role : (ws : List Who) (q e : Option ℕ) (n : ℕ) → HasName ws q → role_of (root_of q e) ≡ (named (parent_in ws q) e n).role
same_role ws None None n h = refl
same_role ws None (Some e) n h = refl
same_role ws (Some p) e n h = let w = h p refl in sym (ap (λ o. (named o e n).role) w.1)

module _ (c : Code) (s : Kept) (at : ℕ) (t : KeptTask) (ts : List KeptTask) where
  same_parts : (place : ℕ) (vs : List (Option Val)) → parts vs (arms_from s at place (length vs) ts) ≡ parts_from c s at t ts place vs
  same_parts place [] = refl
  same_parts place (Some v ∷ vs) = ap (λ gs. did v ∷ gs) (same_parts (suc place) vs)
  same_parts place (None ∷ vs) = ap (λ gs. runs (arm_at s at place ts) ∷ gs) (same_parts (suc place) vs)

  module _ (ws : List Who) (d : Spelled c s at t ts ws) where
    abbrev n : Numbers
    n = numbers s at t ts

    same_frames : (arms : ℕ) → length (arms_of t.rest) ≡ arms →
        frames_in (stacked arms n.borns t.frames []) ≡ (d.it.thread.frame, d.it.thread.below)
    same_frames arms e = ap parted (spells arms n.borns t.frames c s at t ts refl e refl ∙ sym d.frames)

    abbrev Same : Held (List Framed) → Type 0
    Same h = held_of frames_in h ≡ by_itself d.it.thread.frame d.it.thread.below d.it.rest

    with_rest : (r : Rest) (fs : Frame × List Frame) → fs ≡ (d.it.thread.frame, d.it.thread.below) → r ≡ d.it.rest →
        by_itself fs.0 fs.1 r ≡ by_itself d.it.thread.frame d.it.thread.below d.it.rest
    with_rest r fs e f = ap (λ (gs : Frame × List Frame). by_itself gs.0 gs.1 r) e ∙
        ap (λ q. by_itself d.it.thread.frame d.it.thread.below q) f

    slept : (number : ℕ) (k : WaitKind) (h : Held (List Framed)) → t.rest ≡ leaf number (cause_of k) →
        IsAsleep t.frames number k n h → Same h
    slept number k h e a =
        let its : rest c s at t ts t.rest ≡ asleep (record { number = number; cause = cause_of k }) = ap (rest c s at t ts) e in
        let one : asleep (record { number = number; cause = clocks.cause_of k }) ≡ d.it.rest =
        ap (λ x. asleep (record { number = number; cause = x })) (same_cause k) ∙ (sym its ∙ sym d.rest_is) in
        ap (held_of frames_in) a ∙
        with_rest (asleep (record { number = number; cause = clocks.cause_of k })) (frames_in (stacked 0 n.borns t.frames []))
        (same_frames 0 (ap (λ r. length (arms_of r)) e)) one

    grouped : (arms : List (Option Val)) (h : Held (List Framed)) → t.rest ≡ group arms → IsAtGroup c t.frames arms n h → Same h
    grouped arms h e (is_at_group {g = g} {fs = fs} f k) =
        let long : length (arms_of t.rest) ≡ length arms = ap (λ r. length (arms_of r)) e in
        let its : rest c s at t ts t.rest ≡ gathered c (task_stand c t) (parts_from c s at t ts 0 arms) = ap (rest c s at t ts) e in
        let own : parts arms n.arms ≡ parts_from c s at t ts 0 arms =
        ap (λ i. parts arms (arms_from s at 0 i ts)) long ∙ same_parts 0 arms in
        let one : rest_of_group g ≡ d.it.rest = k ∙ (ap (gathered c (task_stand c t)) own ∙ (sym its ∙ sym d.rest_is)) in
        with_rest (rest_of_group g) (frames_in fs) (ap frames_in f ∙ same_frames (length arms) long) one

    same_held : (r : KeptRest) (h : Held (List Framed)) → t.rest ≡ r → Waits c t.frames n r h → Same h
    same_held r h e (waits_asleep {number = number} {kind = k} a) = slept number k h e a
    same_held r h e (waits_at_group {arms = arms} a) = grouped arms h e a

    pub is_kept : (x : Slot (List Framed)) → HasName ws t.parent → IsMade c t n x → IsKept d.it (slot_of frames_in x)
    is_kept x names m = record {
      number = m.number ∙ (sym (who_number c s at t ts ws) ∙ sym (ap (λ (w : Who). w.number) d.who_is));
      role = ap role_of m.root ∙ (same_role ws t.parent t.root (number_at s (t ∷ ts)) names ∙ sym (ap (λ (w : Who). w.role) d.who_is));
      held = same_held t.rest x.held refl m.held;
    }

  -- ---- steps

  suspended : (arms : ℕ) (fs : List KeptFrame) → 1 ≤ length fs →
      Suspended (number_at s (t ∷ ts)) (stacked arms (borns_from s at 0 (length fs) (t ∷ ts) ts) fs [])
  suspended arms [] l = absurd (omega (arith, l))
  suspended arms (f ∷ fs) l = is_suspended arms (number_at s (t ∷ ts)) (borns_from s at 1 (length fs) (t ∷ ts) ts) f fs

  held_fine : (r : KeptRest) (h : Held (List Framed)) → 1 ≤ length t.frames → Waits c t.frames (numbers s at t ts) r h →
      HeldFine (number_at s (t ∷ ts)) h
  held_fine r h l (waits_asleep {number = number} {kind = k} a) =
      subst (λ k. HeldFine (number_at s (t ∷ ts)) k) (sym a) (suspended 0 t.frames l)
  held_fine r h l (waits_at_group {arms = arms} (is_at_group {g = g} {fs = fs} f k)) =
      subst (λ gs. Suspended (number_at s (t ∷ ts)) gs) (sym f) (suspended (length arms) t.frames l)

  pub is_fine : (x : Slot (List Framed)) → 1 ≤ length t.frames → IsMade c t (numbers s at t ts) x → Fine s.left x
  is_fine x l m = record {
    number = omega (arith, m.number);
    since = omega (arith, m.since);
    held = subst (λ k. HeldFine k x.held) (sym m.number) (held_fine t.rest x.held l m.held);
  }
