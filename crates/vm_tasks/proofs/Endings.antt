-- Ends and wakings, told by the definition.
use Rattle.std.proofs.Common.{◌≡◌, ℕ, List, [], ◌∷◌, ◌++◌, Option, Some, None, option_map, refl, sym, ap}
use Rattle.std.proofs.Common.{subst, ◌∙◌, arith}
use Rattle.task_tree.specs.Tasks.{Task, task_at, with_item, without, HasNoChild}
use Rattle.task_tree.specs.Nested.{IsTree}
use Rattle.task_tree.proofs.Standing.{inner}
use Rattle.verse_meaning_state.specs.State.{State, drawn}
use Rattle.verse_meaning_state.specs.Waits.{Wait, Due}
use Rattle.verse_code_machine.specs.Tasks as m
use Rattle.verse_code_machine.specs.Tasks.{Frame, did, asleep, group, World}
use Rattle.verse_code_machine.specs.Ends.{resumes, woken_in}
use Rattle.sim_clock.specs.declared.waits.WaitKind.{WaitKind}
use Rattle.sim_clock.specs.declared.waits.WaitKind.TheVariants.{At, Never, Task as OnTask, Event}
use Rattle.sim_clock.specs.Pending.{added}
use Rattle.sim_clock.specs.declared.waits.Pending.{Pending}
use Rattle.sim_clock.specs.declared.waits.Due.{Due as ClockDue}
use Rattle.vm_tasks_laws.specs.Slots as table
use Rattle.vm_tasks_laws.specs.Standing.{Stands, Rests}
use Rattle.vm_tasks_laws.specs.Clocks.{cause_of, value_for, with_held, sleeping, Timed}
use Rattle.vm_tasks_laws.proofs.Overs.{has_none}
use Rattle.vm_tasks_laws.proofs.Endings.{arm_over, behind_over, joins, root_over, spawned_over}
use Rattle.vm_tasks_laws.proofs.Ticks.{IsNew, added_timed}
use Rattle.vm_tasks_laws.proofs.Steps.{running_spot, is_held, at_spot}
use Rattle.vm_tasks_laws.proofs.Wakings.{wakes, item_waits}
use Rattle.vm_tasks.specs.declared.slots.Slot.{Slot}
use Rattle.vm_tasks.specs.declared.slots.Held.{Held}
use Rattle.vm_tasks.specs.declared.slots.Held.TheVariants.{ByMachine, Asleep, AtGroup}
use Rattle.vm_tasks.specs.View.{held_of, slot_of}
use Rattle.vm_tasks.specs.Begun.{Reheld}
use Rattle.vm_tasks.specs.Gone.{NoYounger}
use Rattle.vm_tasks.specs.declared.gone.Gone.{Gone}
use Rattle.vm_tasks.specs.Ending.{IsAlone, Ended, Woken, Wakes, IsUntold, FallsAsleep}

abbrev asleep_part : table.Held → Option Wait
asleep_part table.by_machine = None
asleep_part (table.by_itself f bl (asleep w)) = Some w
asleep_part (table.by_itself f bl (group k p gs)) = None

is_new : (s : State) (k : WaitKind) → IsUntold s k → IsNew s k
is_new s (At moment) i = tt
is_new s Never i = tt
is_new s (OnTask entry) i = i
is_new s (Event cell) i = tt

module _ {F : Type 0} where
  pub alone_so : (tasks : List (Task (Slot F))) (id bound : ℕ) → IsTree tasks → NoYounger tasks id bound → IsAlone tasks id bound
  alone_so tasks id bound tree none frames ids w arms o le s =
      has_none (slot_of frames) tasks ids id w arms o s tree (λ c u y at. omega (arith, le, none c u y at))

  pub ended_so : (old new : List (Task (Slot F))) (id : ℕ) → IsTree old → IsTree new → new ≡ without id old → HasNoChild id old →
      Ended old new id
  ended_so old new id tree tree2 is none =
      let tree3 : IsTree (without id old) = subst (λ z. IsTree z) is tree2 in
      record {
        arm = λ frames j ids w x k p gs n ls us xs ys trees v s.
            subst (λ z. Stands (slot_of frames) z ids (table.held j x.who (Some (gs ++ did v ∷ [])) ∷ []) (m.world xs ys us trees)) (sym is)
            (arm_over (slot_of frames) old id j ids w x k p gs n ls us xs ys trees v s tree none);
        behind = λ frames j ids w x us xs ys trees s.
            subst (λ z. Stands (slot_of frames) z ids (table.held j x.who None ∷ []) (m.world xs ys us trees)) (sym is)
            (behind_over (slot_of frames) old id j ids w x us xs ys trees s tree none);
        later = λ frames ids w xs ys trees r s. joins (slot_of frames) old ids id w xs ys trees s tree tree3 none r;
        spawned = λ frames j ids w entry x number xs ys ps qs us trees r s.
            subst (λ z. Stands (slot_of frames) z ids (table.held j x.who None ∷ []) (m.world ps qs us trees)) (sym is)
            (spawned_over (slot_of frames) old id j ids w x entry number xs ys ps qs us trees s tree none r);
        alone = λ frames ids w entry xs ys trees r s. subst (λ z. Rests (slot_of frames) z (m.among (m.onto xs ys) trees)) (sym is)
            (root_over (slot_of frames) old ids id w entry xs ys trees s tree none r);
      }

  shaped : (frames : F → Frame × List Frame) (new : List (Task (Slot F))) (id : ℕ) (h : Held F) (tss : List (List m.Task))
      (ps : List Pending) (s : State) (d : Due) (e : ClockDue) (u : State)
      (it : m.Task) (other : World) (f : Frame) (bl : List Frame) (w : Wait) → held_of frames h ≡ table.by_itself f bl (asleep w) →
      w.number ≡ e.number → value_for s w.cause e.cause ≡ Some d.given.value →
      it.thread.frame ≡ f → it.thread.below ≡ bl → woken_in d.number d.given.value [] tss u ≡ resumes it.thread d.given.value other u →
      Stands (slot_of frames) new [] (table.held id it.thread.who None ∷ []) other → Woken frames new id h tss ps s d e u
  shaped frames new id ByMachine tss ps s d e u it other f bl w shape number value fr be goes st = absurd (cc)
  shaped frames new id (AtGroup g k) tss ps s d e u it other f bl w shape number value fr be goes st =
      let none : None ≡ Some w = ap asleep_part shape in absurd (cc)
  shaped frames new id (Asleep g i kind) tss ps s d e u it other f bl w shape number value fr be goes st =
      let waits : record { number = i; cause = cause_of kind } ≡ w = inner (ap asleep_part shape) in
      let top : (frames g).0 ≡ f = ap top_part shape in
      let low : (frames g).1 ≡ bl = ap low_part shape in
      record {
        it = it;
        other = other;
        it_frames = g;
        number = i;
        kind = kind;
        was = refl;
        own = ap (λ (z : Wait). z.number) waits ∙ number;
        frames_are = ap (λ z. (z, (frames g).1)) (top ∙ sym fr) ∙ ap (λ z. (it.thread.frame, z)) (low ∙ sym be);
        value = ap (λ (z : Wait). value_for s z.cause e.cause) waits ∙ value;
        goes_on = goes;
        stands = st;
      }
    where
      top_part : table.Held → Frame
      top_part table.by_machine = f
      top_part (table.by_itself x y r) = x

      low_part : table.Held → List Frame
      low_part table.by_machine = bl
      low_part (table.by_itself x y r) = y

  pub wakes_so : (old new : List (Task (Slot F))) (id : ℕ) (h : Held F) → IsTree old → Reheld old new id ByMachine →
      option_map (λ (t : Task (Slot F)). t.item.held) (task_at id old) ≡ Some h → Wakes old new id h
  wakes_so old new id h tree re value frames tss ps s d e u same r t n =
      let w = wakes (slot_of frames) old tss ps s d e u r tree t n in
      let at : task_at id old ≡ Some w.task = subst (λ k. task_at k old ≡ Some w.task) same w.at_it in
      let it : w.task ≡ re.task = inner (sym at ∙ re.at_it) in
      let own : w.task.item.held ≡ h = inner (sym (ap (λ o. option_map (λ (t : Task (Slot F)). t.item.held) o) at) ∙ value) in
      let shape : held_of frames h ≡ table.by_itself w.frame w.below (asleep w.wait) = ap (λ z. held_of frames z) (sym own) ∙ w.asleep_is in
      let still : Stands (slot_of frames) new [] (table.held id w.it.thread.who None ∷ []) w.other =
      subst (λ z. Stands (slot_of frames) z [] (table.held id w.it.thread.who None ∷ []) w.other)
      (ap (λ (z : Task (Slot F)). with_item id old (record z.item { held = ByMachine })) it ∙ sym re.is)
      (subst (λ k. Stands (slot_of frames) (with_item k old (record w.task.item { held = ByMachine })) []
      (table.held k w.it.thread.who None ∷ []) w.other) same (w.stands (record w.task.item { held = ByMachine }) refl)) in
      shaped frames new id h tss ps s d e u w.it w.other w.frame w.below w.wait shape
      (w.number ∙ (n.number ∙ sym n.its_number)) w.value w.frame_is w.below_is w.goes_on still

module _ {F W : Type 0} (pending : W → List Pending) where
  pub falls_asleep_so : (old new : List (Task (Slot F))) (before behind : Gone F W) (id n : ℕ) (kind : WaitKind) (f : F) → IsTree old →
      Reheld old new id (Asleep f n kind) →
      pending behind.waits ≡ added (pending before.waits) (record { number = n; task = id; kind = kind }) →
      FallsAsleep pending old new before behind id n kind
  falls_asleep_so old new before behind id n kind f tree re add frames ids w o s st number new_one t =
      let p = running_spot (slot_of frames) old ids (table.held id w None) o st in
      let h = is_held (slot_of frames) p.task.number id (slot_of frames p.task.item).held w None p.good.0.shows in
      let same : p.task ≡ re.task = inner (sym (ap (λ k. task_at k old) h.0 ∙ at_spot (slot_of frames) p tree) ∙ re.at_it) in
      let by : held_of frames re.task.item.held ≡ table.by_machine = ap (λ (z : Task (Slot F)). held_of frames z.item.held) (sym same) ∙
      h.1 in
      let iw = item_waits (slot_of frames) old id re.task tree re.at_it in
      let were : sleeping (slot_of frames) old ≡ iw.first ++ iw.last = iw.were ∙ ap (λ z. iw.first ++ with_held id z iw.last) by in
      let are : sleeping (slot_of frames) new ≡ iw.first ++ (id, record { number = n; cause = cause_of kind }) ∷ iw.last =
      ap (λ z. sleeping (slot_of frames) z) re.is ∙ iw.are (record re.task.item { held = Asleep f n kind }) in
      subst (λ ps. Timed (sleeping (slot_of frames) new) ps (drawn s)) (sym add)
      (added_timed (sleeping (slot_of frames) old) (sleeping (slot_of frames) new) (pending before.waits) s
      (record { number = n; task = id; kind = kind }) iw.first iw.last number (is_new s kind new_one) were are t)
