-- A waking; and what each change of the tree leaves of waits and numbers.
use Rattle.std.proofs.Common.{◌≡◌, inl, inr, ℕ, Bool, true, false, cond, eqb, if◌then◌else◌, List, [], ◌∷◌, ◌++◌, map, Some, None, refl}
use Rattle.std.proofs.Common.{sym, ap, subst, ◌∙◌, append_assoc}
use Rattle.task_tree.specs.Tasks.{Task, task_at, with_item, without}
use Rattle.task_tree.specs.Nested.{IsTree, Distinct}
use Rattle.task_tree.specs.Removing.{Added}
use Rattle.task_tree.proofs.Standing.{found, beside, changed_here, without_at}
use Rattle.verse_meaning_state.specs.State.{State}
use Rattle.verse_meaning_state.specs.Waits.{Wait, eqn, has, Due}
use Rattle.verse_meaning_state.proofs.Numbers.{eqn_is, eqn_same}
use Rattle.verse_code_machine.specs.Tasks as m
use Rattle.verse_code_machine.specs.Tasks.{Frame, Who, Part, Rest, asleep, group, Thread, World, world, waits_of, tree_waits}
use Rattle.sim_clock.specs.declared.waits.Pending.{Pending}
use Rattle.sim_clock.specs.declared.waits.Due.{Due as ClockDue}
use Rattle.vm_tasks_laws.specs.Slots.{Slot, Held, by_machine, by_itself, Entry, slept, held, number_of, Shows}
use Rattle.vm_tasks_laws.specs.Roses.{Rose, empty, node, post, GoodTrees}
use Rattle.vm_tasks_laws.specs.Standing.{trees_entries, Deal, Shown, Planted, Stands, Rests}
use Rattle.vm_tasks_laws.specs.Clocks.{told, waits_told, with_held, sleeping, Timed, NextIs}
use Rattle.vm_tasks_laws.specs.Clocks.{all_removed}
use Rattle.vm_tasks_laws.specs.Together.{passed, Wakes}
use Rattle.vm_tasks_laws.proofs.Lists.{Each, each_append, each_parts, map_parts}
use Rattle.vm_tasks_laws.proofs.Trees.{move_back, good_append, good_parts}
use Rattle.vm_tasks_laws.proofs.Spots.{spot_of}
use Rattle.vm_tasks_laws.proofs.Changes.{Tops, reseated}
use Rattle.vm_tasks_laws.proofs.Climbing.{onto_passed, Woken, woken_found, shown_append, ShownCut, shown_cut}
use Rattle.vm_tasks_laws.proofs.Deals.{deal_has, sleeping_append}
use Rattle.vm_tasks_laws.proofs.Clocks.{live_waits, told_deal}
use Rattle.vm_tasks_laws.proofs.Ticks.{task_is, removed_timed}
use Rattle.vm_tasks_laws.proofs.Steps.{trees_append, at_spot}
use Rattle.vm_tasks_laws.proofs.Overs.{shown_head}

module _ {T : Type 0} (slot : T → Slot) where
  -- another item
  pub record ItemWaits (tasks : List (Task T)) (id : ℕ) (h : Held) : Type 0 where
    pub first : List (ℕ × Wait)
    pub last : List (ℕ × Wait)
    pub were : sleeping slot tasks ≡ first ++ with_held id h last
    pub are : (item : T) → sleeping slot (with_item id tasks item) ≡ first ++ with_held id (slot item).held last

  pub item_waits : (tasks : List (Task T)) (id : ℕ) (t : Task T) → IsTree tasks → task_at id tasks ≡ Some t →
      ItemWaits tasks id (slot t.item).held
  item_waits tasks id t tree at =
      let a = found id tasks t at in
      let alone = beside a.front a.back t (subst (λ ts. Distinct ts) a.was tree.distinct) in
      record {
        first = sleeping slot a.front;
        last = sleeping slot a.back;
        were = ap (λ ts. sleeping slot ts) a.was ∙
            (sleeping_append slot a.front (t ∷ a.back) ∙
            ap (λ n. sleeping slot a.front ++ with_held n (slot t.item).held (sleeping slot a.back)) a.number);
        are = λ item. ap (λ ts. sleeping slot ts) (ap (λ n. with_item n tasks item) (sym a.number) ∙
            (ap (λ ts. with_item t.number ts item) a.was ∙ changed_here a.front a.back t (λ u. record u { item = item }) alone.0)) ∙
            (sleeping_append slot a.front (record t { item = item } ∷ a.back) ∙
            ap (λ n. sleeping slot a.front ++ with_held n (slot item).held (sleeping slot a.back)) a.number);
      }

  pub added_waits : (tasks new : List (Task T)) (u : Task T) → Added u tasks new → (slot u.item).held ≡ by_machine →
      sleeping slot new ≡ sleeping slot tasks
  added_waits tasks new u a by =
      ap (λ ts. sleeping slot ts) a.is ∙ (sleeping_append slot a.front (u ∷ a.back) ∙
      (ap (λ h. sleeping slot a.front ++ with_held u.number h (sleeping slot a.back)) by ∙
      (sym (sleeping_append slot a.front a.back) ∙ ap (λ ts. sleeping slot ts) (sym a.was))))

  pub without_waits : (tasks : List (Task T)) (id : ℕ) (t : Task T) → IsTree tasks → task_at id tasks ≡ Some t →
      (slot t.item).held ≡ by_machine → sleeping slot (without id tasks) ≡ sleeping slot tasks
  without_waits tasks id t tree at by =
      let a = found id tasks t at in
      let alone = beside a.front a.back t (subst (λ ts. Distinct ts) a.was tree.distinct) in
      let gone : without id tasks ≡ a.front ++ a.back =
      ap (λ n. without n tasks) (sym a.number) ∙ (ap (λ ts. without t.number ts) a.was ∙ without_at a.front a.back t alone.0) in
      ap (λ ts. sleeping slot ts) gone ∙ (sleeping_append slot a.front a.back ∙
      (ap (λ h. sleeping slot a.front ++ with_held t.number h (sleeping slot a.back)) (sym by) ∙
      (sym (sleeping_append slot a.front (t ∷ a.back)) ∙ ap (λ ts. sleeping slot ts) (sym a.was))))

  stretch_gone : (f xs g : List (ℕ × Wait)) (ps : List Pending) (s : State) → Timed (f ++ (xs ++ g)) ps s →
      Timed (f ++ g) (all_removed xs ps) s
  stretch_gone f [] g ps s t = t
  stretch_gone f (x ∷ xs) g ps s t =
      let mid : Timed ((f ++ x ∷ []) ++ g) (all_removed xs ps) s =
      stretch_gone (f ++ x ∷ []) xs g ps s (subst (λ z. Timed z ps s) (sym (append_assoc f (x ∷ []) (xs ++ g))) t) in
      removed_timed ((f ++ x ∷ []) ++ g) (f ++ g) (all_removed xs ps) s x.0 x.1 f g (append_assoc f (x ∷ []) g) refl mid

  -- a stretch of tasks is gone, and their waits
  pub stretch_timed : (tasks new first gone last : List (Task T)) (ps : List Pending) (s : State) → tasks ≡ first ++ (gone ++ last) →
      new ≡ first ++ last → Timed (sleeping slot tasks) ps s →
      Timed (sleeping slot new) (all_removed (sleeping slot gone) ps) s
  stretch_timed tasks new first gone last ps s were are t =
      let a = sleeping slot first in
      let b = sleeping slot gone in
      let c = sleeping slot last in
      let before : sleeping slot tasks ≡ a ++ (b ++ c) =
      ap (λ ts. sleeping slot ts) were ∙ (sleeping_append slot first (gone ++ last) ∙ ap (λ w. a ++ w) (sleeping_append slot gone last))
      in
      let behind : sleeping slot new ≡ a ++ c = ap (λ ts. sleeping slot ts) are ∙ sleeping_append slot first last in
      subst (λ z. Timed z (all_removed b ps) s) (sym behind) (stretch_gone a b c ps s (subst (λ z. Timed z ps s) before t))

  -- what holds of each task's number
  pub item_each : (P : ℕ → Type 0) (tasks : List (Task T)) (id : ℕ) (t : Task T) (item : T) → IsTree tasks → task_at id tasks ≡ Some t →
      (slot item).number ≡ number_of slot t → Each (λ v. P (number_of slot v)) tasks →
      Each (λ v. P (number_of slot v)) (with_item id tasks item)
  item_each P tasks id t item tree at same e =
      let a = found id tasks t at in
      let alone = beside a.front a.back t (subst (λ ts. Distinct ts) a.was tree.distinct) in
      let parts = each_parts (λ v. P (number_of slot v)) a.front (t ∷ a.back) (subst (λ w. Each (λ v. P (number_of slot v)) w) a.was e) in
      let list : with_item id tasks item ≡ a.front ++ record t { item = item } ∷ a.back =
      ap (λ n. with_item n tasks item) (sym a.number) ∙
      (ap (λ ts. with_item t.number ts item) a.was ∙ changed_here a.front a.back t (λ u. record u { item = item }) alone.0) in
      subst (λ w. Each (λ v. P (number_of slot v)) w) (sym list)
      (each_append (λ v. P (number_of slot v)) a.front (record t { item = item } ∷ a.back) parts.0
      (subst P (sym same) parts.1.0, parts.1.1))

  pub added_each : (P : Task T → Type 0) (tasks new : List (Task T)) (u : Task T) → Added u tasks new → P u → Each P tasks → Each P new
  added_each P tasks new u a p e =
      let parts = each_parts P a.front a.back (subst (λ w. Each P w) a.was e) in
      subst (λ w. Each P w) (sym a.is) (each_append P a.front (u ∷ a.back) parts.0 (p, parts.1))

  pub stretch_each : (P : Task T → Type 0) (tasks new first gone last : List (Task T)) → tasks ≡ first ++ (gone ++ last) →
      new ≡ first ++ last → Each P tasks → Each P new
  stretch_each P tasks new first gone last were are e =
      let parts = each_parts P first (gone ++ last) (subst (λ w. Each P w) were e) in
      subst (λ w. Each P w) (sym are) (each_append P first last parts.0 (each_parts P gone last parts.1).1)

  pub without_each : (P : Task T → Type 0) (tasks : List (Task T)) (id : ℕ) → Each P tasks → Each P (without id tasks)
  without_each P [] id e = tt
  without_each P (t ∷ ts) id e = go (eqb t.number id) (without_each P ts id e.1)
    where
      go : (b : Bool) → Each P (without id ts) → Each P (if b then ts else t ∷ without id ts)
      go true h = e.1
      go false h = (e.0, h)

  is_asleep : (id : ℕ) (h : Held) (y : m.Task) (w : Wait) → Shows id h (slept y) → y.rest ≡ asleep w →
      (f : Frame) × (bl : List Frame) × (h ≡ by_itself f bl (asleep w)) × (y.thread.frame ≡ f) × (y.thread.below ≡ bl)
  is_asleep id by_machine y w s r = absurd s
  is_asleep id (by_itself f bl q) y w s r = (f, bl, ap (λ z. by_itself f bl z) (sym s.2 ∙ r), s.0, s.1)

  has_told : (f : List Pending) (p : Pending) (g : List Pending) → has p.wait.number (waits_told (told (f ++ p ∷ g))) ≡ true
  has_told [] p g = ap (λ b. cond b true (has p.wait.number (waits_told (told g)))) (eqn_same p.wait.number)
  has_told (q ∷ f) p g = ap (λ b. cond (eqn p.wait.number q.wait.number) true b) (has_told f p g) ∙ go (eqn p.wait.number q.wait.number)
    where
      go : (b : Bool) → cond b true true ≡ true
      go true = refl
      go false = refl

  all_tops : (k : Rose T) → Tops slot (λ n. Unit {0}) k
  all_tops empty = tt
  all_tops (node t e k r) = (tt, all_tops r)

  pub wakes : (tasks : List (Task T)) (tss : List (List m.Task)) (ps : List Pending) (s : State) (d : Due) (e : ClockDue) (u : State) →
      Rests slot tasks tss → IsTree tasks → Timed (sleeping slot tasks) ps s → NextIs s ps d e → Wakes slot tasks tss s d e u
  wakes tasks tss ps s d e u r tree t n = here (woken_found d.number d.given.value [] tss u there)
    where
      there : has d.number (tree_waits tss) ≡ true
      there =
          deal_has d.number (tree_waits tss) (waits_told (sleeping slot tasks)) (live_waits slot tasks tss r) ∙
          (deal_has d.number (waits_told (sleeping slot tasks)) (waits_told (told ps))
          (told_deal slot (sleeping slot tasks) (told ps) t.each) ∙
          (ap (λ k. has k (waits_told (told ps))) n.number ∙
          (ap (λ z. has n.wait.wait.number (waits_told (told z))) n.is ∙ has_told n.front n.wait n.back)))

      with_tree : (w : Woken d.number d.given.value [] tss u) →
          (parts : ShownCut r.trees (trees_entries w.before) (map slept (w.earlier ++ w.it ∷ w.later) ∷ trees_entries w.behind)) →
          ((c : Rose T) × (ds : List (Rose T)) × (parts.last ≡ c ∷ ds) × (post c ≡ map slept (w.earlier ++ w.it ∷ w.later)) ×
          Shown ds (trees_entries w.behind)) → Wakes slot tasks tss s d e u
      with_tree w parts k =
          let c = k.0 in
          let whole : r.trees ≡ parts.first ++ c ∷ k.1 = parts.is ∙ ap (λ z. parts.first ++ z) k.2 in
          let goods = good_parts slot parts.first (c ∷ k.1) (subst (λ z. GoodTrees slot z) whole r.good) in
          let planted : Planted slot tasks (parts.first ++ k.1) (map slept w.earlier ++ slept w.it ∷ map slept w.later) = record {
            current = c;
            roots = r.roots;
            dealt = move_back c parts.first k.1 r.roots (subst (λ z. Deal z r.roots) whole r.dealt);
            tasks_are = r.tasks_are;
            good = (goods.1.0, good_append slot parts.first k.1 goods.0 goods.1.1);
            current_is = k.3 ∙ map_parts w.earlier w.it w.later;
          } in
          let p = spot_of slot tasks (parts.first ++ k.1) (map slept w.earlier) (slept w.it) (map slept w.later) planted in
          let h = is_asleep p.task.number (slot p.task.item).held w.it w.wait p.good.0.shows w.asleep_is in
          let there = at_spot slot p tree in
          let iw = item_waits tasks p.task.number p.task tree there in
          let mine : sleeping slot tasks ≡ iw.first ++ (p.task.number, w.wait) ∷ iw.last =
          iw.were ∙ ap (λ z. iw.first ++ with_held p.task.number z iw.last) h.2 in
          let number : d.number ≡ w.wait.number = eqn_is d.number w.wait.number w.number in
          let same = task_is (sleeping slot tasks) ps s p.task.number w.wait iw.first iw.last d e mine t n number in
          let other : World = world (passed w.earlier []) w.later [] (record { before = w.before; behind = w.behind }) in
          record {
            task = p.task;
            frame = h.0;
            below = h.1;
            wait = w.wait;
            it = w.it;
            other = other;
            at_it = ap (λ k. task_at k tasks) same.0 ∙ there;
            asleep_is = h.2;
            number = sym number;
            value = same.1;
            frame_is = h.3;
            below_is = h.4;
            goes_on = w.goes_on;
            stands = λ item it.
                let up : Entry = held p.task.number w.it.thread.who None in
                let put : Planted slot (with_item p.task.number tasks item) (parts.first ++ k.1)
                (map slept w.earlier ++ up ∷ map slept w.later) =
                reseated slot p tree item up (λ n. Unit {0}) (ap (λ (z : Slot). z.number) it) (ap (λ (z : Slot). z.role) it) refl
                (subst (λ z. Shows p.task.number z up) (sym (ap (λ (z : Slot). z.held) it)) refl) (all_tops p.kids) (λ n x k. tt) in
                subst (λ n. Stands slot (with_item n tasks item) [] (held n w.it.thread.who None ∷ []) other) (sym same.0) (record {
                  others = parts.first ++ k.1;
                  planted = subst (λ es. Planted slot (with_item p.task.number tasks item) (parts.first ++ k.1) es)
                      (sym (onto_passed w.earlier [] (up ∷ map slept w.later))) put;
                  chain = (tt, tt);
                  others_are = shown_append parts.left k.4;
                });
          }

      here : Woken d.number d.given.value [] tss u → Wakes slot tasks tss s d e u
      here w =
          let shown : Shown r.trees (trees_entries w.before ++ map slept (w.earlier ++ w.it ∷ w.later) ∷ trees_entries w.behind) =
          subst (λ z. Shown r.trees z) (ap (λ z. trees_entries z) w.is ∙ trees_append w.before ((w.earlier ++ w.it ∷ w.later) ∷ w.behind))
          r.trees_are in
          let parts = shown_cut r.trees (trees_entries w.before) (map slept (w.earlier ++ w.it ∷ w.later) ∷ trees_entries w.behind) shown in
          elim (shown_head parts.last (map slept (w.earlier ++ w.it ∷ w.later)) (trees_entries w.behind) parts.right) [
            | inl k ↦ absurd (filled w.earlier w.it w.later k.0)
            | inr k ↦ with_tree w parts k
          ]
        where
          filled : (a : List m.Task) (y : m.Task) (b : List m.Task) → map slept (a ++ y ∷ b) ≡ [] → ⊥
          filled [] y b p = absurd (cc)
          filled (x ∷ a) y b p = absurd (cc)
