-- The tasks that were put so far, and one more.
use Rattle.std.proofs.Common.{◌≡◌, ℕ, suc, ◌+◌, ◌<◌, ◌≤◌, cond, List, [], ◌∷◌, ◌++◌, length, map, get_or}
use Rattle.std.proofs.Common.{Option, Some, None, refl, sym, ap, subst, ◌∙◌, arith, ◌⊎◌, inl, inr, append_assoc}
use Rattle.std.proofs.lemmas.Bool.{cases_lt}
use Rattle.std.proofs.lemmas.List.{length-append, get_or_push}
use Rattle.std.specs.Prelude.{is_some}
use Rattle.task_tree.specs.Tasks.{Task, task_at}
use Rattle.task_tree.specs.Removing.{Added}
use Rattle.verse_code.specs.declared.codes.Code.{Code}
use Rattle.verse_meaning_state.specs.Waits.{nth}
use Rattle.verse_code_machine.specs.Tasks as m
use Rattle.verse_code_machine.specs.Tasks.{Who, Rest, root_named, child_named}
use Rattle.verse_code_machine.specs.Runs.{Forest}
use Rattle.vm_tasks_laws.specs.Slots as table
use Rattle.vm_tasks_laws.specs.Slots.{Held, by_itself, number_of, arms_at, ArmedBy}
use Rattle.vm_tasks_laws.specs.Standing.{Deal, none_dealt, none_shown, Rests}
use Rattle.vm_tasks_laws.specs.Clocks.{with_rest, with_held, sleeping}
use Rattle.vm_tasks_laws.proofs.Deals.{sleeping_append}
use Rattle.vm_frames.specs.Framed.{Framed}
use Rattle.vm_tasks.specs.declared.slots.Slot.{Slot}
use Rattle.vm_tasks.specs.View.{slot_of}
use Rattle.vm_tasks.specs.Putting.{put_task}
use Rattle.vm_scheduler.specs.Frames.{frames_in}
use Rattle.vm_scheduler.specs.Standing.{Tree, Fine}
use Rattle.run_save_shots.specs.Lists.{Each, EachAt, count}
use Rattle.run_save_shots.specs.Kept.{KeptTask, Kept}
use Rattle.run_save_shots.specs.Fitting.{RestFits, TaskFits, ParentBefore, is_root, waits_in, task_stand, Fits}
use Rattle.run_save_shots.specs.Naming.{number_at, named, parent_in}
use Rattle.run_save_shots.specs.Spelling.{rest, who, tasks_from, planted, grown, trees}
use Rattle.run_save_spelled.specs.Growing.{In, first_in, later_in, Sprouts}
use Rattle.run_save_spelled.proofs.Growing.{Holds, none_held, part_held, one_held, planted_root, planted_part}
use Rattle.run_save_spelled.proofs.Sprouting.{Spelled, spelled, some, who_number, all_sprout}
use Rattle.run_save_spelled.proofs.Forests.{each_append, each_weaker}
use Rattle.run_save_trees.specs.Puts.{IsKept, Unlike}
use Rattle.run_save_trees.proofs.Puts.{added_each, unlike_more, root_put, part_put}
use Rattle.run_save_numbers.specs.Numbers.{numbers}
use Rattle.run_save_trees.specs.Arms.{above}
use Rattle.run_save_trees.proofs.Arms.{arms_youngest}
use Rattle.run_save_trees.proofs.Firsts.{each_at_here, next}
use Rattle.run_save_slots.specs.Started.{number_of as wait_number}
use Rattle.run_save_slots.specs.Slots.{IsMade}
use Rattle.run_save_trees.specs.declared.tables.Restored.{Restored}
use Rattle.run_save_trees.specs.Restoring.{waits_of, HasParent, IsPut, WithTask, IsEmpty}
use Rattle.run_save_trees.proofs.Lists.{nth_old, nth_new, get_old, each_here, count_between, count_last, later}
use Rattle.run_save_trees.proofs.Slots.{HasName, is_kept, is_fine}
use Rattle.run_save_trees.proofs.Trees.{added_old, added_new, added_last}
use Rattle.run_save_trees.proofs.Roots.{is_of, is_spawned, same_entry}
use Rattle.run_save_trees.proofs.Clocks.{pairs, WaitFits, dealt_more, wait_fits, numbers_more}

abbrev pub slot : Slot (List Framed) → table.Slot
slot = slot_of frames_in

-- the task at a place, what is spelled for it, and where it stands in the tree
pub record Spot (c : Code) (s : Kept) (ws : List Who) (before : List m.Task) (ids : List ℕ) (tree : Tree) (p : ℕ) : Type 0 where
  pub front : List KeptTask
  pub kept : KeptTask
  pub behind : List KeptTask
  pub all : s.tasks ≡ front ++ kept ∷ behind
  pub place : p ≡ length front
  pub it : m.Task
  pub known : In it before
  pub name : nth ws p ≡ Some it.thread.who
  pub rest_is : it.rest ≡ rest c s (length front) kept behind kept.rest
  pub task : Task (Slot (List Framed))
  pub at_it : task_at (get_or ids p 0) tree ≡ Some task
  pub number : task.item.number ≡ it.thread.who.number
  pub since : task.item.since ≡ suc (above s (length front) kept behind)

-- those before these are put
pub record Restoring (c : Code) (s : Kept) (ts : List KeptTask) (r : Restored) : Type 0 where
  pub done : List KeptTask
  pub all : s.tasks ≡ done ++ ts
  pub ws : List Who
  pub before : List m.Task
  pub tss : Forest
  pub names : length ws ≡ length done
  pub ids : length r.ids.items ≡ length done
  pub grows : grown tss (tasks_from c s ws ts) ≡ trees c s
  pub sprouts : Sprouts before (tasks_from c s ws ts)
  pub holds : Holds before tss
  pub rests : Rests slot r.tree tss
  pub unlike : Unlike slot r.tree
  pub above : Each (λ (v : Task (Slot (List Framed))). number_at s ts + s.spent < v.item.number) r.tree
  pub fine : Each (λ (v : Task (Slot (List Framed))). Fine s.left v.item) r.tree
  pub roots : (entry : ℕ) → count (is_spawned entry) r.tree ≡ count (is_root (Some entry)) done
  pub slept : Deal (sleeping slot r.tree) (pairs r.waits.items)
  pub waits : Each (WaitFits s) r.waits.items
  pub numbers : map wait_number r.waits.items ≡ waits_in done
  pub spots : (p : ℕ) → p < length done → Spot c s ws before r.ids.items r.tree p

pub begins : (c : Code) (s : Kept) (r : Restored) → Fits c s → IsEmpty r → Restoring c s s.tasks r
begins c s r fits e = record {
  done = [];
  all = refl;
  ws = [];
  before = [];
  tss = [];
  names = refl;
  ids = ap length e.ids;
  grows = refl;
  sprouts = all_sprout c s fits;
  holds = none_held;
  rests = record { trees = []; roots = []; dealt = none_dealt; tasks_are = e.tree; good = tt; trees_are = none_shown };
  unlike = subst (λ ts. Unlike slot ts) (sym e.tree) tt;
  above = subst (λ ts. Each (λ (v : Task (Slot (List Framed))). number_at s s.tasks + s.spent < v.item.number) ts) (sym e.tree) tt;
  fine = subst (λ ts. Each (λ (v : Task (Slot (List Framed))). Fine s.left v.item) ts) (sym e.tree) tt;
  roots = λ entry. ap (count (is_spawned entry)) e.tree;
  slept = subst (λ ts. Deal (sleeping slot ts) (pairs r.waits.items)) (sym e.tree)
      (subst (λ ws. Deal [] (pairs ws)) (sym e.waits) none_dealt);
  waits = subst (λ ws. Each (WaitFits s) ws) (sym e.waits) tt;
  numbers = ap (map wait_number) e.waits;
  spots = λ p l. absurd (omega (arith, l));
}

-- ---- where a task is put

abbrev pub parent_of : Option ℕ → List ℕ → Option ℕ
parent_of None ids = None
parent_of (Some p) ids = Some (get_or ids p 0)

abbrev Places : Option ℕ → List ℕ → Tree → Tree → ℕ → Slot (List Framed) → Type 0
Places q ids old new id x = (task_at id old ≡ None) × Added (put_task (parent_of q ids) id x) old new

is_placed : (q : Option ℕ) (ids : List ℕ) (old new : Tree) (id : ℕ) (x : Slot (List Framed)) → IsPut q ids old new id x →
    Places q ids old new id x
is_placed None ids old new id x p = (p.fresh, added_last old new id x p)
is_placed (Some p) ids old new id x k = (k.fresh, k.added)

module _ (c : Code) (s : Kept) (fits : Fits c s) (t : KeptTask) (ts : List KeptTask) (old : Restored) (r : Restoring c s (t ∷ ts) old) where
  its : TaskFits c s t
  its = each_here (TaskFits c s) r.done t ts (subst (λ xs. Each (TaskFits c s) xs) r.all fits.tasks)

  earlier : (p : ℕ) → t.parent ≡ Some p → p < length r.done
  earlier p e =
      each_at_here ParentBefore 0 r.done t ts (subst (λ xs. EachAt ParentBefore 0 xs) r.all fits.parents) (length r.done) (omega arith) p e

  pub has_parent : HasParent t.parent old.ids.items old.tree
  has_parent = by t.parent refl
    where
      by : (q : Option ℕ) → t.parent ≡ q → HasParent q old.ids.items old.tree
      by None e = tt
      by (Some p) e =
          let l = earlier p e in let spot = r.spots p l in
          (omega (arith, l, r.ids), ap is_some spot.at_it)

  has_name : HasName r.ws t.parent
  has_name p e = let spot = r.spots p (earlier p e) in (spot.it.thread.who, spot.name)

  module _ (new : Restored) (w : WithTask c t (numbers s (length old.ids.items) t ts) old new) where
    abbrev at : ℕ
    at = length r.ws

    made : IsMade c t (numbers s at t ts) w.slot
    made =
        let same : length old.ids.items ≡ at = r.ids ∙ sym r.names in
        subst (λ i. IsMade c t (numbers s i t ts) w.slot) same w.made

    abbrev d : Spelled c s at t ts r.ws
    d = spelled c s at t ts r.ws (some c s t.rest t.frames its.suit)

    abbrev y : m.Task
    y = d.it

    abbrev u : Task (Slot (List Framed))
    u = put_task (parent_of t.parent old.ids.items) w.id w.slot

    abbrev ws : List Who
    ws = r.ws ++ who c s at t ts r.ws ∷ []

    placed : Places t.parent old.ids.items old.tree new.tree w.id w.slot
    placed = is_placed t.parent old.ids.items old.tree new.tree w.id w.slot w.put

    kept : IsKept y (slot w.slot)
    kept = is_kept c s at t ts r.ws d w.slot has_name made

    number : y.thread.who.number ≡ number_at s (t ∷ ts)
    number = ap (λ (v : Who). v.number) d.who_is ∙ who_number c s at t ts r.ws

    own : w.slot.number ≡ number_at s (t ∷ ts)
    own = made.number

    less : Each (λ (v : Task (Slot (List Framed))). y.thread.who.number < number_of slot v) old.tree
    less = each_weaker (λ (v : Task (Slot (List Framed))). number_at s (t ∷ ts) + s.spent < v.item.number)
        (λ (v : Task (Slot (List Framed))). y.thread.who.number < number_of slot v) old.tree (λ v l. omega (arith, l, number)) r.above

    grows : Sprouts r.before (y ∷ tasks_from c s ws ts)
    grows = subst (λ ys. Sprouts r.before (ys ++ tasks_from c s ws ts)) d.is r.sprouts

    -- ---- the trees

    abbrev Rested : Type 0
    Rested = Rests slot new.tree (planted y.thread.who.role y r.tss)

    as_root : t.parent ≡ None → Rested
    as_root e =
        let name : y.thread.who ≡ root_named y.thread.who.number t.root =
        d.who_is ∙ (ap (λ q. named (parent_in r.ws q) t.root (number_at s (t ∷ ts))) e ∙
        ap (λ n. root_named n t.root) (sym number)) in
        subst (λ tss. Rests slot new.tree tss) (sym (planted_root r.tss y y.thread.who.number t.root name))
        (root_put slot old.tree new.tree r.tss (put_task None w.id w.slot) y t.root r.rests
        (subst (λ q. Added (put_task (parent_of q old.ids.items) w.id w.slot) old.tree new.tree) e placed.1) refl refl kept name)

    armed : (p : ℕ) → t.parent ≡ Some p → (spot : Spot c s r.ws r.before old.ids.items old.tree p) →
        ArmedBy spot.task.item.since (arms_at spot.it.rest) y.thread.who.number
    armed p e spot =
        let l = later spot.front spot.kept spot.behind r.done t ts (sym spot.all ∙ r.all) (omega (arith, earlier p e, spot.place)) in
        let kin = arms_youngest c s spot.front spot.kept l.mid t ts fits (record {
          all = spot.all ∙ ap (λ xs. spot.front ++ spot.kept ∷ xs) l.is;
          parent = e ∙ ap (λ k. Some k) spot.place;
        }) in
        let same : ArmedBy (suc (above s (length spot.front) spot.kept spot.behind))
        (arms_at (rest c s (length spot.front) spot.kept spot.behind spot.kept.rest)) (number_at s (t ∷ ts)) =
        subst (λ xs. ArmedBy (suc (above s (length spot.front) spot.kept xs))
        (arms_at (rest c s (length spot.front) spot.kept xs spot.kept.rest)) (number_at s (t ∷ ts))) (sym l.is) kin in
        subst (λ k. ArmedBy k (arms_at spot.it.rest) y.thread.who.number) (sym spot.since)
        (subst (λ q. ArmedBy (suc (above s (length spot.front) spot.kept spot.behind)) (arms_at q) y.thread.who.number) (sym spot.rest_is)
        (subst (λ n. ArmedBy (suc (above s (length spot.front) spot.kept spot.behind))
        (arms_at (rest c s (length spot.front) spot.kept spot.behind spot.kept.rest)) n) (sym number) same))

    as_part : (p : ℕ) → t.parent ≡ Some p → Rested
    as_part p e =
        let spot = r.spots p (earlier p e) in
        let name : y.thread.who ≡ child_named spot.it.thread.who y.thread.who.number =
        d.who_is ∙ (ap (λ q. named (parent_in r.ws q) t.root (number_at s (t ∷ ts))) e ∙
        (ap (λ v. named v t.root (number_at s (t ∷ ts))) spot.name ∙
        ap (λ n. child_named spot.it.thread.who n) (sym number))) in
        subst (λ tss. Rests slot new.tree tss) (sym (planted_part r.tss y spot.it.thread.who y.thread.who.number name))
        (part_put slot old.tree new.tree r.tss (put_task (Some (get_or old.ids.items p 0)) w.id w.slot) spot.task spot.it y
        (get_or old.ids.items p 0) r.rests w.nested r.unlike (part_held r.before r.tss spot.it y r.holds spot.known name) spot.at_it
        spot.number
        (subst (λ q. Added (put_task (parent_of q old.ids.items) w.id w.slot) old.tree new.tree) e placed.1) refl refl kept name less
        (armed p e spot))

    rested : Rested
    rested = by t.parent refl
      where
        by : (q : Option ℕ) → t.parent ≡ q → Rested
        by None e = as_root e
        by (Some p) e = as_part p e

    -- ---- the tree

    number_above : (v : Task (Slot (List Framed))) → number_at s (t ∷ ts) + s.spent < v.item.number →
        number_at s ts + s.spent < v.item.number
    number_above v l = omega (arith, l, next s t ts t ts)

    all_above : Each (λ (v : Task (Slot (List Framed))). number_at s ts + s.spent < v.item.number) new.tree
    all_above =
        added_each (λ (v : Task (Slot (List Framed))). number_at s ts + s.spent < v.item.number) old.tree new.tree u placed.1
        (omega (arith, own, next s t ts t ts))
        (each_weaker (λ (v : Task (Slot (List Framed))). number_at s (t ∷ ts) + s.spent < v.item.number)
        (λ (v : Task (Slot (List Framed))). number_at s ts + s.spent < v.item.number) old.tree number_above r.above)

    all_fine : Each (λ (v : Task (Slot (List Framed))). Fine s.left v.item) new.tree
    all_fine =
        added_each (λ (v : Task (Slot (List Framed))). Fine s.left v.item) old.tree new.tree u placed.1
        (is_fine c s at t ts w.slot (some c s t.rest t.frames its.suit) made) r.fine

    all_unlike : Unlike slot new.tree
    all_unlike = unlike_more slot old.tree new.tree u placed.1 r.unlike
        (each_weaker (λ (v : Task (Slot (List Framed))). y.thread.who.number < number_of slot v)
        (λ (v : Task (Slot (List Framed))). number_of slot u < number_of slot v) old.tree (λ v l. omega (arith, l, own, number)) less)

    all_roots : (entry : ℕ) → count (is_spawned entry) new.tree ≡ count (is_root (Some entry)) (r.done ++ t ∷ [])
    all_roots entry =
        let a = placed.1 in
        let here : is_spawned entry u ≡ is_root (Some entry) t = ap (is_of entry) made.root ∙ same_entry entry t.parent t.root in
        let before : count (is_spawned entry) (a.front ++ a.back) ≡ count (is_root (Some entry)) r.done =
        ap (count (is_spawned entry)) (sym a.was) ∙ r.roots entry in
        ap (count (is_spawned entry)) a.is ∙ (count_between (is_spawned entry) a.front u a.back ∙
        (ap (λ b. cond b (suc (count (is_spawned entry) (a.front ++ a.back))) (count (is_spawned entry) (a.front ++ a.back))) here ∙
        (ap (λ n. cond (is_root (Some entry) t) (suc n) n) before ∙ sym (count_last (is_root (Some entry)) r.done t))))

    -- ---- the waits

    all_slept : Deal (sleeping slot new.tree) (pairs new.waits.items)
    all_slept =
        let a = placed.1 in
        let was : Deal (sleeping slot a.front ++ sleeping slot a.back) (pairs old.waits.items) =
        subst (λ xs. Deal xs (pairs old.waits.items)) (ap (sleeping slot) a.was ∙ sleeping_append slot a.front a.back) r.slept in
        let more = dealt_more c s at t ts w.id y.rest d.rest_is (sleeping slot a.front) (sleeping slot a.back) old.waits.items was in
        let is : sleeping slot new.tree ≡ sleeping slot a.front ++ with_rest w.id y.rest (sleeping slot a.back) =
        ap (sleeping slot) a.is ∙ (sleeping_append slot a.front (u ∷ a.back) ∙
        ap (λ h. sleeping slot a.front ++ with_held w.id h (sleeping slot a.back)) kept.held) in
        subst (λ xs. Deal xs (pairs new.waits.items)) (sym is)
        (subst (λ vs. Deal (sleeping slot a.front ++ with_rest w.id y.rest (sleeping slot a.back)) (pairs vs)) (sym w.waits) more)

    all_waits : Each (WaitFits s) new.waits.items
    all_waits =
        subst (λ vs. Each (WaitFits s) vs) (sym w.waits) (each_append (WaitFits s) old.waits.items (waits_of w.id t.rest) r.waits
        (wait_fits s w.id t.rest (λ n cause e. subst (λ q. RestFits s (task_stand c t) q) e its.rest)))

    all_numbers : map wait_number new.waits.items ≡ waits_in (r.done ++ t ∷ [])
    all_numbers = ap (map wait_number) w.waits ∙ numbers_more old.waits.items r.done w.id t r.numbers

    -- ---- places

    abbrev SpotNow : ℕ → Type 0
    SpotNow p = Spot c s ws (y ∷ r.before) new.ids.items new.tree p

    old_spot : (p : ℕ) → p < length r.done → SpotNow p
    old_spot p l =
        let spot = r.spots p l in
        let id : get_or new.ids.items p 0 ≡ get_or old.ids.items p 0 =
        ap (λ xs. get_or xs p 0) w.ids ∙ get_old old.ids.items w.id 0 p (omega (arith, l, r.ids)) in
        record {
          front = spot.front;
          kept = spot.kept;
          behind = spot.behind;
          all = spot.all;
          place = spot.place;
          it = spot.it;
          known = later_in y spot.known;
          name = nth_old r.ws (who c s at t ts r.ws) p (omega (arith, l, r.names)) ∙ spot.name;
          rest_is = spot.rest_is;
          task = spot.task;
          at_it = ap (λ i. task_at i new.tree) id ∙
              added_old old.tree new.tree u (get_or old.ids.items p 0) spot.task placed.1 placed.0 spot.at_it;
          number = spot.number;
          since = spot.since;
        }

    new_spot : (p : ℕ) → p ≡ length r.done → SpotNow p
    new_spot p e =
        let id : get_or new.ids.items p 0 ≡ w.id =
        ap (λ xs. get_or xs p 0) w.ids ∙ get_or_push old.ids.items w.id 0 p (r.ids ∙ sym e) in
        let same : at ≡ length r.done = r.names in
        record {
          front = r.done;
          kept = t;
          behind = ts;
          all = r.all;
          place = e;
          it = y;
          known = first_in;
          name = ap (λ k. nth ws k) (e ∙ sym r.names) ∙ (nth_new r.ws (who c s at t ts r.ws) ∙ ap (λ v. Some v) (sym d.who_is));
          rest_is = d.rest_is ∙ ap (λ k. rest c s k t ts t.rest) same;
          task = u;
          at_it = ap (λ i. task_at i new.tree) id ∙ added_new old.tree new.tree u placed.1 placed.0;
          number = own ∙ sym number;
          since = made.since ∙ ap (λ k. suc (above s k t ts)) same;
        }

    spot_at : (p : ℕ) → p < length (r.done ++ t ∷ []) → SpotNow p
    spot_at p l = by (cases_lt p (length r.done))
      where
        by : (p < length r.done) ⊎ (length r.done ≤ p) → SpotNow p
        by (inl k) = old_spot p k
        by (inr k) = new_spot p (omega (arith, k, l, length-append r.done (t ∷ [])))

    pub goes_on : Restoring c s ts new
    goes_on = record {
      done = r.done ++ t ∷ [];
      all = r.all ∙ sym (append_assoc r.done (t ∷ []) ts);
      ws = ws;
      before = y ∷ r.before;
      tss = planted y.thread.who.role y r.tss;
      names = omega (arith, length-append r.ws (who c s at t ts r.ws ∷ []), length-append r.done (t ∷ []), r.names);
      ids = omega (arith, ap length w.ids, length-append old.ids.items (w.id ∷ []), length-append r.done (t ∷ []), r.ids);
      grows = subst (λ ys. grown r.tss (ys ++ tasks_from c s ws ts) ≡ trees c s) d.is r.grows;
      sprouts = grows.2;
      holds = one_held r.before r.tss y r.holds grows.0 grows.1;
      rests = rested;
      unlike = all_unlike;
      above = all_above;
      fine = all_fine;
      roots = all_roots;
      slept = all_slept;
      waits = all_waits;
      numbers = all_numbers;
      spots = spot_at;
    }
