-- Changes of the tree, told by the definition.
use Rattle.std.proofs.Common.{◌≡◌, ℕ, ◌<◌, ◌≤◌, Bool, true, false, cond, List, [], ◌∷◌, ◌++◌, map, Some, None, refl, sym, ap, subst, ◌∙◌}
use Rattle.std.proofs.Common.{append_assoc}
use Rattle.std.proofs.lemmas.List.{append-nil}
use Rattle.task_tree.specs.Tasks.{Task}
use Rattle.task_tree.specs.Nested.{IsTree}
use Rattle.task_tree.specs.Removing.{Visited}
use Rattle.task_tree.proofs.Standing.{inner}
use Rattle.verse_meaning_state.specs.Waits.{Wait}
use Rattle.verse_code_machine.specs.Tasks as m
use Rattle.verse_code_machine.specs.Tasks.{Frame, World, since, beneath_arms}
use Rattle.verse_code_machine.specs.Cancelling.{cancelled}
use Rattle.sim_clock.specs.declared.waits.Pending.{Pending}
use Rattle.vm_tasks_laws.specs.Slots as table
use Rattle.vm_tasks_laws.specs.Slots.{held, number_of}
use Rattle.vm_tasks_laws.specs.Standing.{Stands}
use Rattle.vm_tasks_laws.specs.Clocks.{sleeping, with_held, Timed, all_removed}
use Rattle.vm_tasks_laws.specs.Told.{AllPairs, IsTold, backwards}
use Rattle.vm_tasks_laws.specs.Together.{CancelledToo}
use Rattle.vm_tasks_laws.proofs.Lists.{Each}
use Rattle.vm_tasks_laws.proofs.Steps.{set_down, begins_group, branches, arm_begins}
use Rattle.vm_tasks_laws.proofs.Overs.{spawns_root, cancels_since, cancels_arms}
use Rattle.vm_tasks_laws.proofs.Wakings.{stretch_timed}
use Rattle.vm_tasks.specs.declared.slots.Slot.{Slot}
use Rattle.vm_tasks.specs.declared.slots.Held.{Held}
use Rattle.vm_tasks.specs.declared.slots.Held.TheVariants.{ByMachine, Asleep, AtGroup}
use Rattle.vm_tasks.specs.declared.slots.Root.TheVariants.{Part as APart, Spawned}
use Rattle.vm_tasks.specs.declared.gone.Gone.{Gone}
use Rattle.vm_tasks.specs.View.{held_of, slot_of}
use Rattle.vm_tasks.specs.Begun.{Begun, Reheld, Grouped}
use Rattle.vm_tasks.specs.Gone.{kept_of, kept_in, without_wait, Leaves, Cleared}
use Rattle.vm_tasks.specs.Deferring.{any_defers, task_defers, deferring, Agrees}
use Rattle.vm_tasks.specs.Standing.{AllEarlier, NoneLater, Branches, BeginsArm, Spawns, SetsDown, BeginsGroup, CancelsAs, CancelsScope}
use Rattle.vm_tasks.specs.Standing.{CancelsArms}

module _ {F : Type 0} where
  earlier : (frames : F → Frame × List Frame) (n : ℕ) (ts : List (Task (Slot F))) → AllEarlier n ts →
      Each (λ v. n < number_of (slot_of frames) v) ts
  earlier frames n [] a = tt
  earlier frames n (t ∷ ts) a = (a.0, earlier frames n ts a.1)

  none_later : (frames : F → Frame × List Frame) (n : ℕ) (ts : List (Task (Slot F))) → NoneLater n ts →
      Each (λ v. n ≤ number_of (slot_of frames) v) ts
  none_later frames n [] a = tt
  none_later frames n (t ∷ ts) a = (a.0, none_later frames n ts a.1)

  pub branches_so : (old new : List (Task (Slot F))) (i id n : ℕ) → IsTree old → Begun old new (Some i) id n APart → Branches old new i id n
  branches_so old new i id n tree b frames ids x o above s =
      branches (slot_of frames) old ids i x o s tree _ new b.added refl refl refl refl (earlier frames n old above)

  pub begins_arm_so : (old new : List (Task (Slot F))) (i id n : ℕ) → IsTree old → Begun old new (Some i) id n APart →
      BeginsArm old new i id n
  begins_arm_so old new i id n tree b frames ids x k p gs ls o above later s =
      arm_begins (slot_of frames) old ids i x k p gs ls o s tree _ new b.added refl refl refl refl (earlier frames n old above) later

  pub spawns_so : (old new : List (Task (Slot F))) (id n entry : ℕ) → Begun old new None id n (Spawned entry) → Spawns old new id n entry
  spawns_so old new id n entry b frames ids i x o s = spawns_root (slot_of frames) old ids i x entry o s _ new b.added refl refl refl refl

  pub sets_down_so : (old new : List (Task (Slot F))) (i : ℕ) (h : Held F) → IsTree old → Reheld old new i h → SetsDown old new i h
  sets_down_so old new i h tree e frames ids w arms o f bl r is armed s =
      subst (λ z. Stands (slot_of frames) z ids [] (m.world (record { thread = m.thread w f bl; rest = r } ∷ o.pre) o.post o.ups o.trees))
      (sym e.is)
      (set_down (slot_of frames) old ids i w arms o s tree f bl r (record e.task.item { held = h })
      (λ t at. ap (λ (z : Task (Slot F)). slot_of frames (record z.item { held = h })) (inner (sym e.at_it ∙ at)) ∙
      ap (λ z. record (slot_of frames t.item) { held = z }) is) armed)

  pub begins_group_so : (old new : List (Task (Slot F))) (i left : ℕ) → IsTree old → Grouped old new i left → BeginsGroup old new i left
  begins_group_so old new i left tree e frames ids w o above s =
      subst (λ z. Stands (slot_of frames) z ids (held i w (Some []) ∷ []) o) (sym e.is)
      (begins_group (slot_of frames) old ids i w o left s tree (record e.task.item { since = left })
      (λ t at. ap (λ (z : Task (Slot F)). slot_of frames (record z.item { since = left })) (inner (sym e.at_it ∙ at)))
      (none_later frames left old above))

-- of the last task first
abbrev pub frames_back : {F : Type 0} → (F → Bool) → List (Task (Slot F)) → List F
frames_back has_blocks [] = []
frames_back has_blocks (t ∷ ts) = frames_back has_blocks ts ++ kept_in has_blocks t.item.held

frames_append : {F : Type 0} (frames : F → Frame × List Frame) (a b : List F) → map frames (a ++ b) ≡ map frames a ++ map frames b
frames_append frames [] b = refl
frames_append frames (x ∷ a) b = ap (λ w. frames x ∷ w) (frames_append frames a b)

tasks_append : (of : m.Task → Frame × List Frame) (a b : List m.Task) → map of (a ++ b) ≡ map of a ++ map of b
tasks_append of [] b = refl
tasks_append of (x ∷ a) b = ap (λ w. of x ∷ w) (tasks_append of a b)

deferring_first : (y : m.Task) (ys : List m.Task) → deferring (y ∷ ys) ≡ deferring (y ∷ []) ++ deferring ys
deferring_first y ys = by_test (task_defers y)
  where
    by_test : (b : Bool) → cond b (y ∷ deferring ys) (deferring ys) ≡ cond b (y ∷ []) [] ++ deferring ys
    by_test true = refl
    by_test false = refl

module _ {F : Type 0} (has_blocks : F → Bool) (frames : F → Frame × List Frame) (agree : Agrees has_blocks frames) where
  abbrev of_task : m.Task → Frame × List Frame
  of_task y = (y.thread.frame, y.thread.below)

  both_kept : (f : F) (y : m.Task) (b c : Bool) → b ≡ c → frames f ≡ of_task y → map frames (cond b (f ∷ []) []) ≡ map of_task (cond c (y ∷
      []) [])
  both_kept f y true true e is = ap (λ z. z ∷ []) is
  both_kept f y true false e is = absurd (cc)
  both_kept f y false true e is = absurd (cc)
  both_kept f y false false e is = refl

  kept_told : (f : F) (y : m.Task) → y.thread.frame ≡ (frames f).0 → y.thread.below ≡ (frames f).1 →
      map frames (kept_of has_blocks f) ≡ map of_task (deferring (y ∷ []))
  kept_told f y top below =
      let is : frames f ≡ of_task y = ap (λ a. (a, (frames f).1)) (sym top) ∙ ap (λ b. (y.thread.frame, b)) (sym below) in
      both_kept f y (has_blocks f) (task_defers y) (agree f ∙ ap (λ (z : Frame × List Frame). any_defers (z.0 ∷ z.1)) is) is

  one_told : (t : Task (Slot F)) (y : m.Task) → IsTold (slot_of frames) t y →
      map frames (kept_in has_blocks t.item.held) ≡ map of_task (deferring (y ∷ []))
  one_told t y told = go t.item.held told
    where
      go : (h : Held F) → table.Shows t.number (held_of frames h) (table.slept y) →
          map frames (kept_in has_blocks h) ≡ map of_task (deferring (y ∷ []))
      go ByMachine s = absurd s
      go (Asleep f n kind) s = kept_told f y s.0 s.1
      go (AtGroup f g) s = kept_told f y s.0 s.1

  abbrev flat : List (Task (Slot F)) → List F
  flat [] = []
  flat (t ∷ ts) = kept_in has_blocks t.item.held ++ flat ts

  all_told : (ts : List (Task (Slot F))) (ys : List m.Task) → AllPairs (IsTold (slot_of frames)) ts ys →
      map frames (flat ts) ≡ map of_task (deferring ys)
  all_told [] [] p = refl
  all_told [] (y ∷ ys) p = absurd p
  all_told (t ∷ ts) [] p = absurd p
  all_told (t ∷ ts) (y ∷ ys) p =
      frames_append frames (kept_in has_blocks t.item.held) (flat ts) ∙
      (ap (λ w. w ++ map frames (flat ts)) (one_told t y p.0) ∙
      (ap (λ w. map of_task (deferring (y ∷ [])) ++ w) (all_told ts ys p.1) ∙
      (sym (tasks_append of_task (deferring (y ∷ [])) (deferring ys)) ∙ ap (λ z. map of_task z) (sym (deferring_first y ys)))))

  flat_append : (a b : List (Task (Slot F))) → flat (a ++ b) ≡ flat a ++ flat b
  flat_append [] b = refl
  flat_append (t ∷ a) b = ap (λ w. kept_in has_blocks t.item.held ++ w) (flat_append a b) ∙
      sym (append_assoc (kept_in has_blocks t.item.held) (flat a) (flat b))

  flat_back : (gone : List (Task (Slot F))) → flat (backwards gone) ≡ frames_back has_blocks gone
  flat_back [] = refl
  flat_back (t ∷ ts) = flat_append (backwards ts) (t ∷ []) ∙
      (ap (λ w. w ++ (kept_in has_blocks t.item.held ++ [])) (flat_back ts) ∙
      ap (λ w. frames_back has_blocks ts ++ w) (append-nil (kept_in has_blocks t.item.held)))

  pub frames_told : (gone : List (Task (Slot F))) (ys : List m.Task) → AllPairs (IsTold (slot_of frames)) (backwards gone) ys →
      map frames (frames_back has_blocks gone) ≡ map of_task (deferring ys)
  frames_told gone ys p = ap (λ w. map frames w) (sym (flat_back gone)) ∙ all_told (backwards gone) ys p

module _ {F W : Type 0} (has_blocks : F → Bool) (pending : W → List Pending) where
  no_wait : (frames : F → Frame × List Frame) (id : ℕ) (h : Held F) (xs : List (ℕ × Wait)) (ps : List Pending) →
      without_wait h (all_removed xs ps) ≡ all_removed (with_held id (held_of frames h) xs) ps
  no_wait frames id ByMachine xs ps = refl
  no_wait frames id (Asleep f n kind) xs ps = refl
  no_wait frames id (AtGroup f g) xs ps = refl

  told_waits : (frames : F → Frame × List Frame) (gone : List (Task (Slot F))) (x y : Gone F W) →
      Visited (Leaves has_blocks pending) x gone y → pending y.waits ≡ all_removed (sleeping (slot_of frames) gone) (pending x.waits)
  told_waits frames [] x y v = ap (λ (z : Gone F W). pending z.waits) v
  told_waits frames (t ∷ ts) x y v =
      v.2.waits ∙ (ap (λ ps. without_wait t.item.held ps) (told_waits frames ts x v.0 v.1) ∙
      no_wait frames t.number t.item.held (sleeping (slot_of frames) ts) (pending x.waits))

  pub told_frames : (gone : List (Task (Slot F))) (x y : Gone F W) → Visited (Leaves has_blocks pending) x gone y → y.lost ≡ false →
      (x.lost ≡ false) × (y.frames.items ≡ x.frames.items ++ frames_back has_blocks gone)
  told_frames [] x y v l = (
    ap (λ (z : Gone F W). z.lost) (sym v) ∙ l,
    ap (λ (z : Gone F W). z.frames.items) v ∙
        sym (append-nil x.frames.items),
  )
  told_frames (t ∷ ts) x y v l =
      let k = v.2.kept l in
      let r = told_frames ts x v.0 v.1 k.0 in (
        r.0,
        k.1 ∙ (ap (λ w. w ++ kept_in has_blocks t.item.held) r.1 ∙
            append_assoc x.frames.items (frames_back has_blocks ts) (kept_in has_blocks t.item.held)),
      )

  cancels_as : (frames : F → Frame × List Frame) (old gone new : List (Task (Slot F))) (before behind : Gone F W) (ids : List ℕ)
      (e : table.Entry) (o : World) (f : List ℕ → Bool) →
      Agrees has_blocks frames → Visited (Leaves has_blocks pending) before gone behind →
      CancelledToo (slot_of frames) old gone new ids e o f → CancelsAs has_blocks pending frames old new before behind ids e o f
  cancels_as frames old gone new before behind ids e o f agree v c = record {
    stands = c.stands;
    timed = λ s t. subst (λ ps. Timed (sleeping (slot_of frames) new) ps s) (sym (told_waits frames gone before behind v))
        (stretch_timed (slot_of frames) old new c.first gone c.last (pending before.waits) s c.were c.are t);
    kept = λ l. (
      frames_back has_blocks gone,
      (told_frames gone before behind v l).1,
      frames_told has_blocks frames agree gone (cancelled f o) c.told,
    );
  }

  pub scope_so : (id bound : ℕ) (old new : List (Task (Slot F))) (before behind : Gone F W) →
      Cleared has_blocks pending id bound old new before behind → CancelsScope has_blocks pending id bound old new before behind
  scope_so id bound old new before behind c frames ids w arms o agree s =
      cancels_as frames old c.gone new before behind ids (held id w arms) o (since w.path bound) agree c.told
      (cancels_since (slot_of frames) old c.gone new ids id w arms o bound s (c.cancels frames))

  pub arms_so : (id bound : ℕ) (old new : List (Task (Slot F))) (before behind : Gone F W) → IsTree old →
      Cleared has_blocks pending id bound old new before behind → CancelsArms has_blocks pending id bound old new before behind
  arms_so id bound old new before behind tree c frames ids w gs o agree is s =
      cancels_as frames old c.gone new before behind ids (held id w (Some gs)) o (beneath_arms w.path gs) agree c.told
      (cancels_arms (slot_of frames) old c.gone new ids id w gs o bound s tree is (c.cancels frames))
