-- What the end of a task is in the definition, and a waking.
use Rattle.std.proofs.Common.{◌≡◌, inl, inr, ℕ, ◌<◌, true, false, List, [], ◌∷◌, ◌++◌, map, Option, Some, None, refl, sym, ap, subst, ◌∙◌}
use Rattle.std.proofs.Common.{append_assoc, arith}
use Rattle.std.proofs.lemmas.List.{append-nil}
use Rattle.task_tree.specs.Tasks.{Task, task_at, with_item, without, HasNoChild}
use Rattle.task_tree.specs.Nested.{IsTree}
use Rattle.task_tree.proofs.Standing.{inner}
use Rattle.verse_base.specs.declared.places.Place.{Place}
use Rattle.verse_value.specs.Val.{Val}
use Rattle.verse_meaning_state.specs.Waits.{ltn}
use Rattle.verse_meaning_state.specs.Turns.{Kind}
use Rattle.verse_code_machine.specs.Tasks as m
use Rattle.verse_code_machine.specs.Tasks.{Role, root, part, Who, Part, did, runs, Rest, asleep, group, Thread, Up, begins, branching}
use Rattle.verse_code_machine.specs.Tasks.{spawning}
use Rattle.verse_code_machine.specs.Tasks.{clearing, Trees, World, world, onto, among, planted, same_path}
use Rattle.verse_code_machine.specs.Ends.{is_run, with_did, climbs}
use Rattle.verse_code_machine.proofs.Paths.{same_self}
use Rattle.vm_tasks_laws.specs.Slots.{Slot, by_machine, Entry, slept, held, who_of, path_of, arms_of, Parent, no_parent, under, id_of}
use Rattle.vm_tasks_laws.specs.Slots.{path_under, number_of, ArmedBy, RoleFits, Shows}
use Rattle.vm_tasks_laws.specs.Roses.{Rose, empty, node, post, IsOne, Good, GoodTrees}
use Rattle.vm_tasks_laws.specs.Standing.{onto_entries, trees_entries, ups_entries, ups_trees, Deal, Shown, empty_shown, tree_shown, Planted}
use Rattle.vm_tasks_laws.specs.Standing.{Stands, Rests}
use Rattle.vm_tasks_laws.specs.Together.{passed, Joins}
use Rattle.vm_tasks_laws.proofs.Lists.{Each, each_weaker}
use Rattle.vm_tasks_laws.proofs.Paths.{same_beneath}
use Rattle.vm_tasks_laws.proofs.Holes.{Hole, top, beneath, behind, fill, after, parent_at, Below, all_below}
use Rattle.vm_tasks_laws.proofs.Trees.{move, good_append, good_parts}
use Rattle.vm_tasks_laws.proofs.Spots.{join, Spot}
use Rattle.vm_tasks_laws.proofs.Changes.{Tops, reseated, reentered, without_it, one_less, RootGone, root_gone}
use Rattle.vm_tasks_laws.proofs.Mirror.{onto_append}
use Rattle.vm_tasks_laws.proofs.Cancelled.{planted_of}
use Rattle.vm_tasks_laws.proofs.Climbing.{onto_passed, onto_slept, slept_cut, climbs_to, shown_append, shown_cut, siblings_tops, tops_join}
use Rattle.vm_tasks_laws.proofs.Climbing.{Over}
use Rattle.vm_tasks_laws.proofs.Climbing.{over, siblings_above, after_parent, above_gone}
use Rattle.vm_tasks_laws.proofs.Steps.{trees_append, is_run_more, is_run_did, is_run_with, at_spot, running_spot, is_held}
use Rattle.vm_tasks_laws.proofs.Overs.{shown_head, no_entries, no_kids, longer}

module _ {T : Type 0} (slot : T → Slot) where
  -- the children that are left when one has gone have other numbers
  others_differ : {tasks : List (Task T)} {others : List (Rose T)} {a : List Entry} {e : Entry} {b : List Entry}
      (s : Spot slot tasks others a e b) (t : Task T) (d : Entry) (o : Over s.hole t d) →
      Tops slot (λ c. c ≡ number_of slot s.task → ⊥) (join o.siblings s.rest)
  others_differ s t d o =
      let n = number_of slot s.task in
      let earlier : Tops slot (λ c. n < c) o.siblings =
      subst (λ w. Tops slot (λ c. n < c) w) (sym o.siblings_are)
      (siblings_tops slot (λ c. n < c) s.hole (siblings_above slot s.most n s.hole s.around s.good.1)) in
      tops_join slot (λ c. c ≡ n → ⊥) o.siblings s.rest
      (weaker (λ c. n < c) (λ c. c ≡ n → ⊥) o.siblings (λ c l p. omega (arith, l, p)) earlier)
      (less (parent_at s.hole) n s.rest s.good.3)
    where
      weaker : (P Q : ℕ → Type 0) (k : Rose T) → ((c : ℕ) → P c → Q c) → Tops slot P k → Tops slot Q k
      weaker P Q empty f h = tt
      weaker P Q (node t e k r) f h = (f (number_of slot t) h.0, weaker P Q r f h.1)

      less : (q : Parent T) (n : ℕ) (k : Rose T) → Good slot q n k → Tops slot (λ c. c ≡ n → ⊥) k
      less q n empty g = tt
      less q n (node t e k r) g = ((λ p. omega (arith, g.1, p)), weaker2 (number_of slot t) n g.1 q r g.3)
        where
          weaker2 : (i n : ℕ) → i < n → (q : Parent T) (k : Rose T) → Good slot q i k → Tops slot (λ c. c ≡ n → ⊥) k
          weaker2 i n l q empty g = tt
          weaker2 i n l q (node t e k r) g = ((λ p. omega (arith, g.1, l, p)), weaker2 (number_of slot t) n (omega (arith, g.1, l)) q r g.3)

  -- where the task that began it is the next that stands, it has no later sibling
  only_child : {tasks : List (Task T)} {others : List (Rose T)} {a : List Entry} {e : Entry} {d : Entry} {b : List Entry}
      (s : Spot slot tasks others a e (d ∷ b)) → (who_of e).up ≡ path_of d →
      (s.rest ≡ empty) × ((t : Task T) × (parent_at s.hole ≡ under t d))
  only_child {e = e} {d = d} {b = b} s up =
      go s.rest refl (all_below slot (parent_at s.hole) (number_of slot s.task) s.rest s.good.3) s.right
    where
      name : path_of d ≡ path_under (parent_at s.hole)
      name = sym up ∙ ap (λ (w : Who). w.up) s.good.0.who

      go : (k : Rose T) → s.rest ≡ k → Each (Below slot (parent_at s.hole) (number_of slot s.task)) (post k) →
          d ∷ b ≡ post s.rest ++ after s.hole → (s.rest ≡ empty) × ((t : Task T) × (parent_at s.hole ≡ under t d))
      go empty is l p = (is, after_parent slot s.hole d b (p ∙ ap (λ k. post k ++ after s.hole) is))
      go (node u x k r) is l p = absurd (first (post k) x (post r ++ after s.hole)
          (p ∙ (ap (λ w. post w ++ after s.hole) is ∙ append_assoc (post k) (x ∷ post r) (after s.hole)))
          (each_front (post k) x (post r) l))
        where
          each_front : (k : List Entry) (x : Entry) (r : List Entry) →
              Each (Below slot (parent_at s.hole) (number_of slot s.task)) (k ++ x ∷ r) →
              Each (Below slot (parent_at s.hole) (number_of slot s.task)) (k ++ x ∷ [])
          each_front [] x r l = (l.0, tt)
          each_front (y ∷ k) x r l = (l.0, each_front k x r l.1)

          apart : (y : Entry) → d ≡ y → Below slot (parent_at s.hole) (number_of slot s.task) y → ⊥
          apart y same l = longer (path_under (parent_at s.hole)) l.number l.more (sym name ∙ (ap (λ z. path_of z) same ∙ l.path))

          first : (k : List Entry) (x : Entry) (r : List Entry) → d ∷ b ≡ k ++ x ∷ r →
              Each (Below slot (parent_at s.hole) (number_of slot s.task)) (k ++ x ∷ []) → ⊥
          first [] x r p l = let same : d ≡ x = cc in apart x same l.0
          first (y ∷ k) x r p l = let same : d ≡ y = cc in apart y same l.0

  -- the part has gone, and the task that had begun it is seen
  part_left : {tasks : List (Task T)} {others : List (Rose T)} {a : List Entry} {e : Entry} {d : Entry} {b : List Entry}
      (s : Spot slot tasks others a e (d ∷ b)) → IsTree tasks → s.kids ≡ empty → (who_of e).up ≡ path_of d →
      (p : Spot slot (without s.task.number tasks) others a d b) × Tops slot (λ c. c ≡ number_of slot s.task → ⊥) p.kids
  part_left {tasks = tasks} {others = others} {a = a} {e = e} {d = d} {b = b} s tree none up =
      let c = only_child s up in
      let t = c.1.0 in
      let o = over s.hole t d c.1.1 in
      let inner : parent_at s.hole ≡ no_parent → ⊥ = λ h. absurd (not_under t d (sym c.1.1 ∙ h)) in
      let new = without s.task.number tasks in
      let one = one_less slot s tree s.hole (node s.task e s.kids s.rest) s.rest inner s.one in
      let p = above_gone slot s t d new none c.1.1 one (without_it slot s tree none) o in
      let left : a ++ post s.rest ≡ a = ap (λ k. a ++ post k) c.0 ∙ append-nil a in
      let both : d ∷ b ≡ d ∷ post o.rest ++ after o.hole = s.right ∙ (ap (λ k. post k ++ after s.hole) c.0 ∙ o.right) in
      let right : b ≡ post o.rest ++ after o.hole = cc in (
        record {
          most = p.most;
          hole = p.hole;
          task = p.task;
          kids = p.kids;
          rest = p.rest;
          first = p.first;
          last = p.last;
          one = p.one;
          around = p.around;
          good = p.good;
          good_others = p.good_others;
          dealt = p.dealt;
          left = sym left ∙ p.left;
          right = right;
          was = p.was;
        },
        others_differ s t d o,
      )
    where
      not_under : (t : Task T) (d : Entry) → under t d ≡ no_parent → ⊥
      not_under t d h = absurd (cc)

  all_tops : (k : Rose T) → Tops slot (λ n. Unit {0}) k
  all_tops empty = tt
  all_tops (node t e k r) = (tt, all_tops r)

  -- an arm is over as it began
  pub arm_over : (tasks : List (Task T)) (i j : ℕ) (ids : List ℕ) (w : Who) (x : Thread) (k : Kind) (place : Place) (gs : List Part) (n : ℕ)
      (ls : List ℕ) (us : List Up) (xs ys : List m.Task) (trees : Trees) (v : Val) →
      Stands slot tasks (j ∷ ids) (held i w None ∷ []) (world xs ys (begins x k place gs n ls ∷ us) trees) → IsTree tasks →
      HasNoChild i tasks →
      Stands slot (without i tasks) ids (held j x.who (Some (gs ++ did v ∷ [])) ∷ []) (world xs ys us trees)
  arm_over tasks i j ids w x k place gs n ls us xs ys trees v s tree none =
      let o = world xs ys (begins x k place gs n ls ∷ us) trees in
      let p = running_spot slot tasks (j ∷ ids) (held i w None) o s in
      let h = is_held slot p.task.number i (slot p.task.item).held w None p.good.0.shows in
      let l = part_left p tree (no_kids slot p tree i h.0 none) s.chain.0.0 in
      let g = is_held slot l.0.task.number j (slot l.0.task.item).held x.who (Some (gs ++ runs n ∷ [])) l.0.good.0.shows in
      let d : Entry = held j x.who (Some (gs ++ did v ∷ [])) in
      let b = ups_entries ids us ++ map slept ys in
      let number : number_of slot p.task ≡ n = sym (ap (λ (z : Who). z.number) p.good.0.who) ∙ s.chain.0.1 in
      let q = reentered slot l.0 d (λ c. c ≡ n → ⊥) refl (subst (λ z. Shows l.0.task.number z d) (sym g.1) g.0)
      (subst (λ z. Tops slot (λ c. c ≡ z → ⊥) l.0.kids) number l.1)
      (λ c u a. a ∙ (is_run_more c n gs u ∙ sym (is_run_did c v gs))) in
      record {
        others = s.others;
        planted = subst (λ z. Planted slot (without z tasks) s.others (onto_entries xs (d ∷ b))) (sym h.0)
            (subst (λ es. Planted slot (without p.task.number tasks) s.others es) (sym (onto_append xs [] (d ∷ b)))
            (planted_of slot (without p.task.number tasks) s.others (onto_entries xs []) d b q));
        chain = s.chain.1;
        others_are = s.others_are;
      }

  -- a task behind is over as it began
  pub behind_over : (tasks : List (Task T)) (i j : ℕ) (ids : List ℕ) (w : Who) (x : Thread) (us : List Up) (xs ys : List m.Task)
      (trees : Trees) →
      Stands slot tasks (j ∷ ids) (held i w None ∷ []) (world xs ys (branching x ∷ us) trees) → IsTree tasks → HasNoChild i tasks →
      Stands slot (without i tasks) ids (held j x.who None ∷ []) (world xs ys us trees)
  behind_over tasks i j ids w x us xs ys trees s tree none =
      let o = world xs ys (branching x ∷ us) trees in
      let p = running_spot slot tasks (j ∷ ids) (held i w None) o s in
      let h = is_held slot p.task.number i (slot p.task.item).held w None p.good.0.shows in
      let l = part_left p tree (no_kids slot p tree i h.0 none) s.chain.0 in
      let d : Entry = held j x.who None in
      let b = ups_entries ids us ++ map slept ys in
      record {
        others = s.others;
        planted = subst (λ z. Planted slot (without z tasks) s.others (onto_entries xs (d ∷ b))) (sym h.0)
            (subst (λ es. Planted slot (without p.task.number tasks) s.others es) (sym (onto_append xs [] (d ∷ b)))
            (planted_of slot (without p.task.number tasks) s.others (onto_entries xs []) d b l.0));
        chain = s.chain.1;
        others_are = s.others_are;
      }

  pub joins : (tasks : List (Task T)) (ids : List ℕ) (i : ℕ) (w : Who) (xs ys : List m.Task) (trees : Trees) →
      Stands slot tasks ids (held i w None ∷ []) (world xs ys [] trees) →
      IsTree tasks → IsTree (without i tasks) → HasNoChild i tasks → w.role ≡ part → Joins slot tasks i w xs ys trees
  joins tasks ids i w xs ys trees s tree tree2 none role =
      let o = world xs ys [] trees in
      let p = running_spot slot tasks ids (held i w None) o s in
      let h = is_held slot p.task.number i (slot p.task.item).held w None p.good.0.shows in
      at_parent p h.0 h.1 (parent_at p.hole) refl
    where
      at_parent : (p : Spot slot tasks s.others (onto_entries xs []) (held i w None) (map slept ys)) → i ≡ p.task.number →
          (slot p.task.item).held ≡ by_machine →
          (q : Parent T) → parent_at p.hole ≡ q → Joins slot tasks i w xs ys trees
      at_parent p same by no_parent is = absurd
          (subst (λ c. RoleFits None c) (sym (ap (λ (z : Who). z.role) p.good.0.who) ∙ role)
          (subst (λ q. RoleFits (id_of q) (slot p.task.item).role) is p.good.0.fits))
      at_parent p same by (under t d) is =
          let up = over p.hole t d is in
          let nokids = no_kids slot p tree i same none in
          let inner : parent_at p.hole ≡ no_parent → ⊥ = λ h. absurd (not_under t d (sym is ∙ h)) in
          let new = without p.task.number tasks in
          let one = one_less slot p tree p.hole (node p.task (held i w None) p.kids p.rest) p.rest inner p.one in
          let q = above_gone slot p t d new nokids is one (without_it slot p tree nokids) up in
          let right : map slept ys ≡ post p.rest ++ d ∷ (post up.rest ++ after up.hole) = p.right ∙ ap (λ w. post p.rest ++ w) up.right in
          let c = slept_cut ys (post p.rest) d (post up.rest ++ after up.hole) right in
          let above : w.up ≡ path_of d = ap (λ (z : Who). z.up) p.good.0.who ∙ ap (λ z. path_under z) is in
          let others : Each (λ x. same_path w.up (path_of x) ≡ false) (map slept c.earlier) =
          subst (λ w2. Each (λ x. same_path w.up (path_of x) ≡ false) w2) (sym c.left)
          (each_weaker (Below slot (parent_at p.hole) (number_of slot p.task)) (λ x. same_path w.up (path_of x) ≡ false) (post p.rest)
          (λ x b. ap (λ z. same_path w.up z) (b.path ∙ ap (λ z. z ++ b.number ∷ b.more) (sym (ap (λ (z : Who). z.up) p.good.0.who))) ∙
          same_beneath w.up b.number b.more)
          (all_below slot (parent_at p.hole) (number_of slot p.task) p.rest p.good.3)) in
          let mine : same_path w.up c.it.thread.who.path ≡ true = ap (λ z. same_path w.up z) (ap (λ z. path_of z) c.entry ∙ sym above) ∙
          same_self w.up in
          let differ = others_differ p t d up in
          let number : number_of slot p.task ≡ w.number = sym (ap (λ (z : Who). z.number) p.good.0.who) in
          let ts : without i tasks ≡ new = ap (λ n. without n tasks) same in
          let b2 = post up.rest ++ after up.hole in
          let flat : onto_entries (passed c.earlier xs) (slept c.it ∷ map slept c.later) ≡ (onto_entries xs [] ++ post p.rest) ++ d ∷ b2 =
          onto_passed c.earlier xs (slept c.it ∷ map slept c.later) ∙
          (onto_append xs [] (map slept c.earlier ++ slept c.it ∷ map slept c.later) ∙
          (ap (λ z. onto_entries xs [] ++ (z ++ slept c.it ∷ map slept c.later)) c.left ∙
          (ap (λ z. onto_entries xs [] ++ (post p.rest ++ z ∷ map slept c.later)) c.entry ∙
          (ap (λ z. onto_entries xs [] ++ (post p.rest ++ d ∷ z)) c.right ∙
          sym (append_assoc (onto_entries xs []) (post p.rest) (d ∷ b2)))))) in
          let still : Planted slot new s.others (onto_entries (passed c.earlier xs) (slept c.it ∷ map slept c.later)) =
          subst (λ es. Planted slot new s.others es) (sym flat) (planted_of slot new s.others (onto_entries xs [] ++ post p.rest) d b2 q) in
          record {
            id = t.number;
            task = t;
            earlier = c.earlier;
            parent = c.it;
            later = c.later;
            of_it = λ u at. ap (λ (z : Task T). z.parent) (inner_task u (sym at ∙ (ap (λ n. task_at n tasks) same ∙ at_spot slot p tree))) ∙
                (p.good.0.parent ∙ ap (λ z. id_of z) is);
            at_it = ap (λ z. task_at t.number z) ts ∙ at_spot slot q (subst (λ z. IsTree z) ts tree2);
            shows = subst (λ z. Shows t.number (slot t.item).held z) (sym c.entry) q.good.0.shows;
            found = λ v s. ap (λ z. climbs w.up w.number v xs z trees s) c.is ∙
                climbs_to w.up w.number v xs c.earlier c.it c.later trees s others mine;
            stays = rests (onto (passed c.earlier xs) (c.it ∷ c.later)) (without i tasks) s.others s.others_are
                (subst (λ z. Planted slot z s.others (map slept (onto (passed c.earlier xs) (c.it ∷ c.later)))) (sym ts)
                (subst (λ es. Planted slot new s.others es) (sym (onto_slept (passed c.earlier xs) (c.it ∷ c.later))) still));
            goes = λ item v gs it arms.
                let e : Entry = held t.number c.it.thread.who (Some (with_did w.number v gs)) in
                let up_it : Planted slot (with_item t.number new item) s.others ((onto_entries xs [] ++ post p.rest) ++ e ∷ b2) =
                reseated slot q (subst (λ z. IsTree z) ts tree2) item e (λ c. c ≡ number_of slot p.task →
                ⊥) (ap (λ (z : Slot). z.number) it) (ap (λ (z : Slot). z.role) it) (ap (λ z. who_of z) c.entry)
                (subst (λ z. Shows t.number z e) (sym (ap (λ (z : Slot). z.held) it)) refl) differ
                (λ k u a. ap (λ z. ltn k z) (ap (λ (z : Slot). z.since) it) ∙
                (armed_some k gs (ap (λ z. arms_of z) (sym c.entry) ∙ arms) a ∙
                sym (is_run_with k w.number v gs (λ z. u (z ∙ sym number))))) in
                let flat2 : onto_entries (passed c.earlier xs) (e ∷ map slept c.later) ≡ (onto_entries xs [] ++ post p.rest) ++ e ∷ b2 =
                onto_passed c.earlier xs (e ∷ map slept c.later) ∙ (onto_append xs [] (map slept c.earlier ++ e ∷ map slept c.later) ∙
                (ap (λ z. onto_entries xs [] ++ (z ++ e ∷ map slept c.later)) c.left ∙
                (ap (λ z. onto_entries xs [] ++ (post p.rest ++ e ∷ z)) c.right ∙
                sym (append_assoc (onto_entries xs []) (post p.rest) (e ∷ b2))))) in
                record {
                  others = s.others;
                  planted = subst (λ z. Planted slot (with_item t.number z item) s.others
                      (onto_entries (passed c.earlier xs) (e ∷ map slept c.later))) (sym ts)
                      (subst (λ es. Planted slot (with_item t.number new item) s.others es) (sym flat2) up_it);
                  chain = (tt, tt);
                  others_are = s.others_are;
                };
          }
        where
          armed_some : (k : ℕ) (gs : List Part) → arms_of d ≡ Some gs → ArmedBy (slot t.item).since (arms_of d) k →
              ltn k (slot t.item).since ≡ is_run k gs
          armed_some k gs e a = subst (λ z. ArmedBy (slot t.item).since z k) e a

          inner_task : (u : Task T) → Some u ≡ Some p.task → u ≡ p.task
          inner_task u e = inner e

          not_under : (t : Task T) (d : Entry) → under t d ≡ no_parent → ⊥
          not_under t d h = absurd (cc)

          rests : (ts : List m.Task) (new : List (Task T)) (others : List (Rose T)) →
              Shown others ([] ++ (trees_entries trees.before ++ trees_entries trees.behind)) → Planted slot new others (map slept ts) →
              Rests slot new (among ts trees)
          rests ts new others shown pl =
              let parts = shown_cut others (trees_entries trees.before) (trees_entries trees.behind) shown in
              let good : GoodTrees slot (pl.current ∷ (parts.first ++ parts.last)) =
              subst (λ w. GoodTrees slot (pl.current ∷ w)) parts.is pl.good in
              let both = good_parts slot parts.first parts.last good.1 in
              record {
                trees = parts.first ++ pl.current ∷ parts.last;
                roots = pl.roots;
                dealt = move pl.current parts.first parts.last pl.roots (subst (λ w. Deal (pl.current ∷ w) pl.roots) parts.is pl.dealt);
                tasks_are = pl.tasks_are;
                good = good_append slot parts.first (pl.current ∷ parts.last) both.0 (good.0, both.1);
                trees_are = subst (λ w. Shown (parts.first ++ pl.current ∷ parts.last) w)
                    (sym (trees_append trees.before (ts ∷ trees.behind))) (shown_append parts.left (tree_shown pl.current_is parts.right));
              }

  -- Main or a spawned task is over
  top_of : (h : Hole T) (t : Task T) (e : Entry) (k r : Rose T) → parent_at h ≡ no_parent → IsOne (fill h (node t e k r)) → h ≡ top
  top_of top t e k r p one = refl
  top_of (beneath h u d w) t e k r p one = absurd (cc)
  top_of (behind h u d l) t e k r p one = absurd
      (subst (λ z. IsOne (fill z (node u d l (node t e k r)))) (top_of h u d l (node t e k r) p one) one)

  root_spot : {tasks : List (Task T)} {others : List (Rose T)} {a : List Entry} {i : ℕ} {w : Who} {b : List Entry}
      (p : Spot slot tasks others a (held i w None) b) → (tree : IsTree tasks) → (entry : Option ℕ) → w.role ≡ root entry → p.kids ≡ empty →
      RootGone slot p tree
  root_spot p tree entry role none = go (parent_at p.hole) refl
    where
      go : (q : Parent T) → parent_at p.hole ≡ q → RootGone slot p tree
      go (under t d) is = absurd (subst (λ c. RoleFits (Some t.number) c) (sym (ap (λ (z : Who). z.role) p.good.0.who) ∙ role)
          (subst (λ q. RoleFits (id_of q) (slot p.task.item).role) is p.good.0.fits))
      go no_parent is = root_gone slot p tree none (top_of p.hole p.task _ p.kids p.rest is p.one)

  no_slept : (xs : List m.Task) → onto_entries xs [] ≡ [] → xs ≡ []
  no_slept [] p = refl
  no_slept (x ∷ xs) p = absurd (no_entries xs [] (slept x) [] p)

  none_slept : (ys : List m.Task) → map slept ys ≡ [] → ys ≡ []
  none_slept [] p = refl
  none_slept (y ∷ ys) p = absurd (cc)

  pub root_over : (tasks : List (Task T)) (ids : List ℕ) (i : ℕ) (w : Who) (entry : Option ℕ) (xs ys : List m.Task) (trees : Trees) →
      Stands slot tasks ids (held i w None ∷ []) (world xs ys [] trees) → IsTree tasks →
      HasNoChild i tasks → w.role ≡ root entry → Rests slot (without i tasks) (among (onto xs ys) trees)
  root_over tasks ids i w entry xs ys trees s tree none role =
      let o = world xs ys [] trees in
      let p = running_spot slot tasks ids (held i w None) o s in
      let h = is_held slot p.task.number i (slot p.task.item).held w None p.good.0.shows in
      let g = root_spot p tree entry role (no_kids slot p tree i h.0 none) in
      let xs0 = no_slept xs g.left in
      let ys0 = none_slept ys g.right in
      let parts = shown_cut s.others (trees_entries trees.before) (trees_entries trees.behind) s.others_are in
      subst (λ ts. Rests slot (without i tasks) (among ts trees)) (sym (ap (λ z. onto z ys) xs0 ∙ ap (λ z. onto [] z) ys0)) (record {
        trees = s.others;
        roots = g.roots;
        dealt = g.dealt;
        tasks_are = ap (λ n. without n tasks) h.0 ∙ g.tasks_are;
        good = g.good;
        trees_are = subst (λ w. Shown w (trees_entries (trees.before ++ [] ∷ trees.behind))) (sym parts.is)
            (subst (λ w. Shown (parts.first ++ parts.last) w) (sym (trees_append trees.before ([] ∷ trees.behind)))
            (shown_append parts.left (empty_shown parts.right)));
      })

  pub spawned_over : (tasks : List (Task T)) (i j : ℕ) (ids : List ℕ) (w : Who) (x : Thread) (entry : Option ℕ) (number : ℕ)
      (xs ys ps qs : List m.Task) (us : List Up) (trees : Trees) →
      Stands slot tasks (j ∷ ids) (held i w None ∷ []) (world xs ys (spawning x number ps qs ∷ us) trees) → IsTree tasks →
      HasNoChild i tasks → w.role ≡ root entry →
      Stands slot (without i tasks) ids (held j x.who None ∷ []) (world ps qs us trees)
  spawned_over tasks i j ids w x entry number xs ys ps qs us trees s tree none role =
      let o = world xs ys (spawning x number ps qs ∷ us) trees in
      let p = running_spot slot tasks (j ∷ ids) (held i w None) o s in
      let h = is_held slot p.task.number i (slot p.task.item).held w None p.good.0.shows in
      let g = root_spot p tree entry role (no_kids slot p tree i h.0 none) in
      let mine = onto_entries ps (held j x.who None ∷ (ups_entries ids us ++ map slept qs)) in
      elim (shown_head s.others mine (ups_trees ids us ++ (trees_entries trees.before ++ trees_entries trees.behind)) s.others_are) [
        | inl k ↦ absurd (no_entries ps [] (held j x.who None) (ups_entries ids us ++ map slept qs) k.0)
        | inr k ↦ record {
          others = k.1;
          planted = record {
            current = k.0;
            roots = g.roots;
            dealt = subst (λ z. Deal z g.roots) k.2 g.dealt;
            tasks_are = ap (λ n. without n tasks) h.0 ∙ g.tasks_are;
            good = subst (λ z. GoodTrees slot z) k.2 g.good;
            current_is = k.3;
          };
          chain = s.chain.1;
          others_are = k.4;
        }
      ]
