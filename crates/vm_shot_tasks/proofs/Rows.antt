-- What is kept of what a task holds, part by part.
use Rattle.std.proofs.Common.{◌≡◌, ◌≢◌, ◌+◌, ◌⊎◌, ℕ, zero, suc, List, [], ◌∷◌, length, map, Option, Some, None, Bool}
use Rattle.std.proofs.Common.{true, false, cond, refl, sym, ap, subst, ◌∙◌, arith}
use Rattle.std.proofs.Common.{nat_eq, option_map}
use Rattle.std.specs.Prelude.{eqb, slice_get, if◌then◌else◌, position}
use Rattle.std.specs.List.{position_from}
use Rattle.std.proofs.lemmas.Bool.{cases_eq, eq-eqb, ne_eqb}
use Rattle.std.proofs.lemmas.Iterator.Adapters.{position_from-zero}
use mathlib.Core.Logic.{inl, inr}
use Rattle.task_tree.specs.Tasks.{Task, task_at, parent_at}
use Rattle.task_tree.specs.declared.tasks.Role.{Role}
use Rattle.task_tree.specs.declared.tasks.Role.TheVariants.{Behind}
use Rattle.task_tree.proofs.Standing.{inner}
use Rattle.sim_clock.specs.declared.waits.WaitKind.{WaitKind}
use Rattle.sim_clock.specs.declared.waits.WaitKind.TheVariants as kind
use Rattle.verse_value.specs.declared.values.Value.{Value}
use Rattle.verse_meaning_state.specs.Waits.{eqn}
use Rattle.verse_meaning_state.proofs.Numbers.{eqn_same, eqn_not}
use Rattle.verse_code_machine.specs.Tasks.{Frame, Part, did, runs}
use Rattle.vm_tasks_laws.specs.Clocks as clocks
use Rattle.vm_frames.specs.Framed.{Framed}
use Rattle.vm_frames.specs.Machine.{frames_with}
use Rattle.vm_tasks.specs.declared.slots.Slot.{Slot}
use Rattle.vm_tasks.specs.declared.slots.Held.{Held}
use Rattle.vm_tasks.specs.declared.slots.Held.TheVariants.{ByMachine, Asleep, AtGroup}
use Rattle.vm_tasks.specs.declared.slots.Group.{Group}
use Rattle.vm_tasks.specs.declared.slots.Arm.{Arm}
use Rattle.vm_tasks.specs.declared.slots.Arm.TheVariants.{Did, Runs}
use Rattle.vm_tasks.specs.Reading.{place_from, arm_place}
use Rattle.vm_tasks.specs.View.{role_of, part_of, held_of, slot_of}
use Rattle.run_save_shots.specs.Kept as k
use Rattle.run_save_shots.specs.Kept.{KeptFrame, KeptRest, KeptTask}
use Rattle.run_save_shots.specs.Keeping.{arm_of, arm_or, entry_of}
use Rattle.run_save_shots.specs.View.{cause_of}
use Rattle.vm_shot_frames.specs.Frames.{kept_frames, depth_among}
use Rattle.vm_shot_laws.specs.Tree.{place_in, parent_place, held_frames, held_rest, role_under}
use Rattle.vm_shot_laws.specs.Tree.{role_beneath, held_by, kept_task}
use Rattle.vm_shot_tasks.specs.Holding.{AreFrames, HasFrames, AllHaveFrames, ids_of}
use Rattle.vm_shot_tasks.proofs.Standing.{numbers}

-- ---- arms

shifted : (b : ℕ) (o : Option ℕ) → option_map (λ k. suc b + k) o ≡ option_map (λ k. b + k) (option_map suc o)
shifted b None = refl
shifted b (Some k) = ap Some (more b k)
  where
    more : (b k : ℕ) → suc b + k ≡ b + suc k
    more b k = omega arith

same_test : (m n : ℕ) → nat_eq m n ≡ eqn n m
same_test m n = elim (cases_eq m n) [
  | inl e ↦ eq-eqb m n e ∙ sym (subst (λ i. eqn n i ≡ true) (sym e) (eqn_same n))
  | inr d ↦ ne_eqb m n d ∙ sym (eqn_not n m (λ e. d (sym e)))
]

arms_from : (n b : ℕ) (arms : List Arm) → place_from n b arms ≡ option_map (λ k. b + k) (arm_of n (map part_of arms))
arms_from n b [] = refl
arms_from n b (Did v ∷ arms) = arms_from n (suc b) arms ∙ shifted b (arm_of n (map part_of arms))
arms_from n b (Runs m ∷ arms) =
    ap (λ t. if t then Some b else place_from n (suc b) arms) (same_test m n) ∙
    two (eqn n m) (arms_from n (suc b) arms ∙ shifted b (arm_of n (map part_of arms)))
  where
    none : (b : ℕ) → b ≡ b + 0
    none b = omega arith

    two : (t : Bool) → place_from n (suc b) arms ≡ option_map (λ k. b + k) (option_map suc (arm_of n (map part_of arms))) →
        (if t then Some b else place_from n (suc b) arms) ≡ option_map (λ k. b + k) (cond t (Some 0) (option_map suc (arm_of n (map part_of
        arms))))
    two true h = ap Some (none b)
    two false h = h

-- the place of an arm is that in the definition
pub arms_are : (n : ℕ) (arms : List Arm) → arm_of n (map part_of arms) ≡ arm_place n arms
arms_are n arms = sym (arms_from n 0 arms ∙ itself (arm_of n (map part_of arms)))
  where
    itself : (o : Option ℕ) → option_map (λ k. 0 + k) o ≡ o
    itself None = refl
    itself (Some k) = ap Some (zero_more k)
      where
        zero_more : (k : ℕ) → 0 + k ≡ k
        zero_more k = omega arith

-- ---- what a task holds

pub has_frames : (id : ℕ) (ts : List (Task (Slot (List Framed)))) (t : Task (Slot (List Framed))) → AllHaveFrames ts →
    task_at id ts ≡ Some t → HasFrames t.item.held
has_frames id [] t a e = absurd (cc)
has_frames id (u ∷ ts) t a e = two (eqb u.number id) e (λ f. has_frames id ts t a.1 f)
  where
    two : (b : Bool) → (if b then Some u else task_at id ts) ≡ Some t → (task_at id ts ≡ Some t → HasFrames t.item.held) →
        HasFrames t.item.held
    two true f g = subst (λ (t : Task (Slot (List Framed))). HasFrames t.item.held) (inner f) a.0
    two false f g = g f

pub has_item : (id : ℕ) (ts : List (Task (Slot (List Framed)))) (item : Slot (List Framed)) → AllHaveFrames ts →
    option_map (λ (t : Task (Slot (List Framed))). t.item) (task_at id ts) ≡ Some item → HasFrames item.held
has_item id ts item a e = by_task (task_at id ts) refl e
  where
    by_task : (o : Option (Task (Slot (List Framed)))) → task_at id ts ≡ o →
        option_map (λ (t : Task (Slot (List Framed))). t.item) o ≡ Some item → HasFrames item.held
    by_task None f g = absurd (cc)
    by_task (Some t) f g = subst (λ (i : Slot (List Framed)). HasFrames i.held) (inner g) (has_frames id ts t a f)

same_length : (arms : List Arm) → length (map part_of arms) ≡ length arms
same_length [] = refl
same_length (a ∷ arms) = ap suc (same_length arms)

module _ (frames : List Framed → Frame × List Frame) (are : AreFrames frames) (fs : List Framed) (some : fs ≢ []) where
  pub frames_asleep : (n : ℕ) (w : WaitKind) (ks : List KeptFrame) → ks ≡ kept_frames 0 (frames_with fs []) →
      ks ≡ held_frames (held_of frames (Asleep fs n w))
  frames_asleep n w ks e = e ∙ ap (kept_frames 0) (sym (are fs some))

  pub frames_group : (g : Group) (ks : List KeptFrame) → ks ≡ kept_frames (length g.arms.items) (frames_with fs []) →
      ks ≡ held_frames (held_of frames (AtGroup fs g))
  frames_group g ks e =
      e ∙ (ap (kept_frames (length g.arms.items)) (sym (are fs some)) ∙
      ap (λ n. kept_frames n ((frames fs).0 ∷ (frames fs).1)) (sym (same_length g.arms.items)))

  pub role_asleep : (m : ℕ) (w : WaitKind) (n d : ℕ) → d ≡ depth_among n (frames_with fs []) →
      Behind d ≡ role_under (held_of frames (Asleep fs m w)) n
  role_asleep m w n d e = ap Behind (e ∙ ap (depth_among n) (sym (are fs some)))

  pub role_group : (g : Group) (n : ℕ) (r : Role) → r ≡ arm_or (arm_of n (map part_of g.arms.items)) (depth_among n (frames_with fs [])) →
      r ≡ role_under (held_of frames (AtGroup fs g)) n
  role_group g n r e = e ∙ ap (λ fs. arm_or (arm_of n (map part_of g.arms.items)) (depth_among n fs)) (sym (are fs some))

pub causes : (w : WaitKind) → cause_of w ≡ clocks.cause_of w
causes (kind.At moment) = refl
causes kind.Never = refl
causes (kind.Task entry) = refl
causes (kind.Event cell) = refl

-- ---- where a task stands

pub place_by : {T : Type 0} (n : ℕ) (ts : List (Task T)) → position (nat_eq n) (numbers ts) ≡ place_in n ts
place_by n ts = position_from-zero (nat_eq n) (numbers ts) ∙ (from n 0 ts ∙ itself (place_in n ts))
  where
    itself : (o : Option ℕ) → option_map (λ k. 0 + k) o ≡ o
    itself None = refl
    itself (Some k) = ap Some (zero_more k)
      where
        zero_more : (k : ℕ) → 0 + k ≡ k
        zero_more k = omega arith

    turned : (n m : ℕ) → nat_eq n m ≡ eqb m n
    turned n m = elim (cases_eq n m) [
      | inl e ↦ eq-eqb n m e ∙ sym (eq-eqb m n (sym e))
      | inr d ↦ ne_eqb n m d ∙ sym (ne_eqb m n (λ e. d (sym e)))
    ]

    from : {T : Type 0} (n i : ℕ) (ts : List (Task T)) → position_from (nat_eq n) i (numbers ts) ≡ option_map (λ k. i + k) (place_in n ts)
    from n i [] = refl
    from n i (t ∷ ts) =
        ap (λ b. cond b (Some i) (position_from (nat_eq n) (i + 1) (numbers ts))) (turned n t.number) ∙
        two (eqb t.number n) (ap (λ j. position_from (nat_eq n) j (numbers ts)) (next i) ∙ (from n (suc i) ts ∙ shifted i (place_in n ts)))
      where
        next : (i : ℕ) → i + 1 ≡ suc i
        next i = omega arith

        none : (i : ℕ) → i ≡ i + 0
        none i = omega arith

        two : (b : Bool) → position_from (nat_eq n) (i + 1) (numbers ts) ≡ option_map (λ k. i + k) (option_map suc (place_in n ts)) →
            cond b (Some i) (position_from (nat_eq n) (i + 1) (numbers ts)) ≡ option_map (λ k. i + k) (if b then Some 0 else option_map suc
            (place_in n ts))
        two true h = ap Some (none i)
        two false h = h

-- ---- one task

abbrev parent_of : Option (Task (Slot (List Framed))) → Option ℕ
parent_of None = None
parent_of (Some t) = t.parent

parent_is : (id : ℕ) (ts : List (Task (Slot (List Framed)))) → parent_at id ts ≡ parent_of (task_at id ts)
parent_is id ts = by_task (task_at id ts)
  where
    by_task : (o : Option (Task (Slot (List Framed)))) → elim o [ None ↦ None | Some t ↦ t.parent ] ≡ parent_of o
    by_task None = refl
    by_task (Some t) = refl

same_task : (a b : KeptTask) → a.parent ≡ b.parent → a.role ≡ b.role → a.root ≡ b.root → a.frames ≡ b.frames → a.rest ≡ b.rest → a ≡ b
same_task a b p q e f g =
    ap (λ (w : Option ℕ). record { parent = w; role = a.role; root = a.root; frames = a.frames; rest = a.rest }) p ∙
    (ap (λ (w : Role). record { parent = b.parent; role = w; root = a.root; frames = a.frames; rest = a.rest }) q ∙
    (ap (λ (w : Option ℕ). record { parent = b.parent; role = b.role; root = w; frames = a.frames; rest = a.rest }) e ∙
    (ap (λ (w : List KeptFrame). record { parent = b.parent; role = b.role; root = b.root; frames = w; rest = a.rest }) f ∙
    ap (λ (w : KeptRest). record { parent = b.parent; role = b.role; root = b.root; frames = b.frames; rest = w }) g)))

module _ (frames : List Framed → Frame × List Frame) (ts : List (Task (Slot (List Framed)))) (id : ℕ) (slot : Slot (List Framed))
    (parent : Option ℕ) (k : KeptTask) where
  pub task_made : option_map (λ (t : Task (Slot (List Framed))). t.item) (task_at id ts) ≡ Some slot → parent ≡ parent_at id ts →
      k.parent ≡ parent_place parent ts → k.role ≡ role_beneath (held_by (slot_of frames) parent ts) slot.number →
      k.root ≡ entry_of (role_of slot.root) → k.frames ≡ held_frames (held_of frames slot.held) →
      k.rest ≡ held_rest (held_of frames slot.held) → option_map (kept_task (slot_of frames) ts) (task_at id ts) ≡ Some k
  task_made e p a b c d f = by_task (task_at id ts) refl e
    where
      by_task : (o : Option (Task (Slot (List Framed)))) → task_at id ts ≡ o →
          option_map (λ (t : Task (Slot (List Framed))). t.item) o ≡ Some slot → option_map (kept_task (slot_of frames) ts) o ≡ Some k
      by_task None g h = absurd (cc)
      by_task (Some t) g h =
          let own : slot ≡ t.item = sym (inner h) in
          let q : parent ≡ t.parent = p ∙ (parent_is id ts ∙ ap (λ o. parent_of o) g) in
          ap Some (sym (same_task k (kept_task (slot_of frames) ts t)
          (a ∙ ap (λ p. parent_place p ts) q)
          (b ∙ (ap (λ p. role_beneath (held_by (slot_of frames) p ts) slot.number) q ∙
          ap (λ (s : Slot (List Framed)). role_beneath (held_by (slot_of frames) t.parent ts) s.number) own))
          (c ∙ ap (λ (s : Slot (List Framed)). entry_of (role_of s.root)) own)
          (d ∙ ap (λ (s : Slot (List Framed)). held_frames (held_of frames s.held)) own)
          (f ∙ ap (λ (s : Slot (List Framed)). held_rest (held_of frames s.held)) own)))
