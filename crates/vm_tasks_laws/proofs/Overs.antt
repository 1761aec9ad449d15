-- What the end of a task, a turn or a cancelling is in the definition.
use Rattle.std.proofs.Common.{◌≡◌, ◌⊎◌, inl, inr, ℕ, ◌<◌, ◌≤◌, Bool, true, List, [], ◌∷◌, ◌++◌, map, Option, Some, None, refl, sym, ap}
use Rattle.std.proofs.Common.{subst, ◌∙◌, append_assoc, arith}
use Rattle.std.proofs.lemmas.List.{append-nil}
use Rattle.task_tree.specs.Tasks.{Task, suits, task_at, youngest, HasNoChild}
use Rattle.task_tree.specs.Nested.{IsTree}
use Rattle.task_tree.specs.Removing.{Added}
use Rattle.task_tree.proofs.Standing.{never}
use Rattle.verse_code_machine.specs.Tasks as m
use Rattle.verse_code_machine.specs.Tasks.{Role, root, part, Who, Part, did, runs, Rest, asleep, group, Thread, Up, begins, branching}
use Rattle.verse_code_machine.specs.Tasks.{spawning}
use Rattle.verse_code_machine.specs.Tasks.{clearing, Trees, World, world, root_named, child_named, onto, among, planted, since}
use Rattle.verse_code_machine.specs.Tasks.{beneath_arms}
use Rattle.verse_code_machine.specs.Tasks.{same_path}
use Rattle.verse_code_machine.specs.Cancelling.{world_without, cancelled}
use Rattle.verse_code_machine.specs.Cancelling as can
use Rattle.vm_tasks_laws.specs.Slots.{Slot, by_machine, Entry, slept, held, Parent, no_parent, under, number_of, Seen, RoleFits, Shows}
use Rattle.vm_tasks_laws.specs.Roses.{Rose, empty, node, pre, post, Good, GoodTrees}
use Rattle.vm_tasks_laws.specs.Standing.{onto_entries, trees_entries, ups_entries, ups_trees, Deal, Shown, none_shown, empty_shown}
use Rattle.vm_tasks_laws.specs.Standing.{tree_shown}
use Rattle.vm_tasks_laws.specs.Standing.{Planted, Stands, Rests}
use Rattle.vm_tasks_laws.specs.Cancelling.{CancelsSince, younger, older, back_entries}
use Rattle.vm_tasks_laws.specs.Together.{CancelledToo}
use Rattle.vm_tasks_laws.specs.Told.{AllPairs, IsTold, backwards}
use Rattle.vm_tasks_laws.proofs.Holes.{before}
use Rattle.vm_tasks_laws.proofs.Trees.{move, good_append, good_parts}
use Rattle.vm_tasks_laws.proofs.Spots.{join, pre_join, Spot, fronts, backs}
use Rattle.vm_tasks_laws.proofs.Changes.{childless, sown}
use Rattle.vm_tasks_laws.proofs.Younger.{LastKid, last_kid, youngest_kid, at_its_number, with_kids, since_kids, good_older, good_younger}
use Rattle.vm_tasks_laws.proofs.Younger.{older_younger}
use Rattle.vm_tasks_laws.proofs.Mirror.{onto_append}
use Rattle.vm_tasks_laws.proofs.Cancelled.{CancelledAs, planted_of, since_cancels, arms_cancel, back_tasks, told_back}
use Rattle.vm_tasks_laws.proofs.Climbing.{onto_slept, shown_append, shown_cut}
use Rattle.vm_tasks_laws.proofs.Steps.{trees_append, at_spot, running_spot, is_held}

module _ {T : Type 0} where
  pub shown_head : (cs : List (Rose T)) (es : List Entry) (ess : List (List Entry)) → Shown cs (es ∷ ess) →
      ((es ≡ []) × Shown cs ess) ⊎ ((c : Rose T) × (ds : List (Rose T)) × (cs ≡ c ∷ ds) × (post c ≡ es) × Shown ds ess)
  shown_head cs es ess (empty_shown s) = inl (refl, s)
  shown_head cs es ess (tree_shown {c = c} {cs = ds} p s) = inr (c, ds, refl, p, s)

  backwards_append : (a b : List (Task T)) → backwards (a ++ b) ≡ backwards b ++ backwards a
  backwards_append [] b = sym (append-nil (backwards b))
  backwards_append (x ∷ a) b = ap (λ w. w ++ x ∷ []) (backwards_append a b) ∙ append_assoc (backwards b) (backwards a) (x ∷ [])

pub no_entries : (xs : List m.Task) (a : List Entry) (e : Entry) (b : List Entry) → onto_entries xs (a ++ e ∷ b) ≡ [] → ⊥
no_entries [] [] e b p = absurd (cc)
no_entries [] (x ∷ a) e b p = absurd (cc)
no_entries (x ∷ xs) a e b p = no_entries xs (slept x ∷ a) e b p

pub longer : (a : List ℕ) (n : ℕ) (more : List ℕ) → a ≡ a ++ n ∷ more → ⊥
longer [] n more p = absurd (cc)
longer (x ∷ a) n more p = let tails : a ≡ a ++ n ∷ more = cc in longer a n more tails

module _ {T : Type 0} (slot : T → Slot) where
  back_is : (k : Rose T) → backwards (pre k) ≡ back_tasks slot k
  back_is empty = refl
  back_is (node t e k r) =
      ap (λ w. w ++ t ∷ []) (backwards_append (pre k) (pre r) ∙
      (ap (λ w. w ++ backwards (pre k)) (back_is r) ∙ ap (λ w. back_tasks slot r ++ w) (back_is k))) ∙
      append_assoc (back_tasks slot r) (back_tasks slot k) (t ∷ [])

  -- a task of its own begins
  pub spawns_root : (tasks : List (Task T)) (ids : List ℕ) (i : ℕ) (x : Thread) (entry : ℕ) (o : World) →
      Stands slot tasks ids (held i x.who None ∷ []) o →
      (u : Task T) (new : List (Task T)) → Added u tasks new → u.parent ≡ None → suits u.parent u.role ≡ true →
      (slot u.item).role ≡ root (Some entry) → (slot u.item).held ≡ by_machine →
      Stands slot new (i ∷ ids) (held u.number (root_named (number_of slot u) (Some entry)) None ∷ [])
      (world [] [] (spawning x entry o.pre o.post ∷ o.ups) o.trees)
  spawns_root tasks ids i x entry o s u new added parent suited role by =
      let d : Entry = held u.number (root_named (number_of slot u) (Some entry)) None in
      let seen : Seen slot no_parent u d = record {
        parent = parent;
        suited = suited;
        fits = subst (λ c. RoleFits None c) (sym role) tt;
        who = ap (λ c. record { path = number_of slot u ∷ []; up = []; number = number_of slot u; role = c }) (sym role);
        shows = subst (λ c. Shows u.number c d) (sym by) refl;
        armed = tt;
      } in
      let more = sown slot tasks s.others (onto_entries o.pre (held i x.who None ∷ (ups_entries ids o.ups ++ map slept o.post))) u d new
      s.planted added parent seen in
      record { others = more.0 ∷ s.others; planted = more.1; chain = (tt, s.chain); others_are = tree_shown more.2 s.others_are }

  -- the spawned task is suspended, and the one that spawned it goes on
  pub plants : (tasks : List (Task T)) (ids : List ℕ) (i : ℕ) (x : Thread) (entry : ℕ) (xs ys ps qs : List m.Task) (us : List Up)
      (trees : Trees) →
      Stands slot tasks (i ∷ ids) [] (world xs ys (spawning x entry ps qs ∷ us) trees) →
      Stands slot tasks ids (held i x.who None ∷ []) (world ps qs us (planted trees (onto xs ys)))
  plants tasks ids i x entry xs ys ps qs us trees s =
      let mine = onto_entries ps (held i x.who None ∷ (ups_entries ids us ++ map slept qs)) in
      elim (shown_head s.others mine (ups_trees ids us ++ (trees_entries trees.before ++ trees_entries trees.behind)) s.others_are) [
        | inl h ↦ absurd (no_entries ps [] (held i x.who None) (ups_entries ids us ++ map slept qs) h.0)
        | inr h ↦
            let c = s.planted.current in
            let two : Deal (c ∷ (h.0 ∷ h.1)) s.planted.roots = subst (λ w. Deal (c ∷ w) s.planted.roots) h.2 s.planted.dealt in
            let good : GoodTrees slot (c ∷ (h.0 ∷ h.1)) = subst (λ w. GoodTrees slot (c ∷ w)) h.2 s.planted.good in
            let ess = ups_trees ids us in
            let before = trees_entries trees.before in
            let behind = trees_entries trees.behind in
            let last : Shown (h.1 ++ c ∷ []) ((ess ++ (before ++ behind)) ++ map slept (onto xs ys) ∷ []) =
            shown_append h.4 (tree_shown (s.planted.current_is ∙ sym (onto_slept xs ys)) none_shown) in
            let regroup : (ess ++ (before ++ behind)) ++ map slept (onto xs ys) ∷ [] ≡ ess ++
            (before ++ (behind ++ map slept (onto xs ys) ∷ [])) = simp append_assoc in
            record {
              others = h.1 ++ c ∷ [];
              planted = record {
                current = h.0;
                roots = s.planted.roots;
                dealt = move c (h.0 ∷ h.1) [] s.planted.roots
                    (subst (λ w. Deal (c ∷ w) s.planted.roots) (sym (append-nil (h.0 ∷ h.1))) two);
                tasks_are = s.planted.tasks_are;
                good = (good.1.0, good_append slot h.1 (c ∷ []) good.1.1 (good.0, tt));
                current_is = h.3;
              };
              chain = s.chain;
              others_are = subst (λ w. Shown (h.1 ++ c ∷ []) w)
                  (regroup ∙ ap (λ w. ess ++ (before ++ w)) (sym (trees_append trees.behind (onto xs ys ∷ [])))) last;
            }
      ]

  -- the turn is over
  pub turn_over : (tasks : List (Task T)) (ids : List ℕ) (xs ys : List m.Task) (trees : Trees) →
      Stands slot tasks ids [] (world xs ys [] trees) → Rests slot tasks (among (onto xs ys) trees)
  turn_over tasks ids xs ys trees s =
      let c = s.planted.current in
      let parts = shown_cut s.others (trees_entries trees.before) (trees_entries trees.behind) s.others_are in
      let good : GoodTrees slot (c ∷ (parts.first ++ parts.last)) = subst (λ w. GoodTrees slot (c ∷ w)) parts.is s.planted.good in
      let both = good_parts slot parts.first parts.last good.1 in
      record {
        trees = parts.first ++ c ∷ parts.last;
        roots = s.planted.roots;
        dealt = move c parts.first parts.last s.planted.roots (subst (λ w. Deal (c ∷ w) s.planted.roots) parts.is s.planted.dealt);
        tasks_are = s.planted.tasks_are;
        good = good_append slot parts.first (c ∷ parts.last) both.0 (good.0, both.1);
        trees_are = subst (λ w. Shown (parts.first ++ c ∷ parts.last) w) (sym (trees_append trees.before (onto xs ys ∷ trees.behind)))
            (shown_append parts.left (tree_shown (s.planted.current_is ∙ sym (onto_slept xs ys)) parts.right));
      }

  cancels_too : (tasks gone new : List (Task T)) (ids : List ℕ) (i : ℕ) (w : Who) (arms : Option (List Part)) (o : World)
      (s : Stands slot tasks ids (held i w arms ∷ []) o) (bound : ℕ) (f : List ℕ → Bool) →
      CancelsSince slot i bound tasks gone new →
      CancelledAs f o (back_entries (younger slot bound (running_spot slot tasks ids (held i w arms) o s).kids))
      (before (running_spot slot tasks ids (held i w arms) o s).hole ++
      post (older slot bound (running_spot slot tasks ids (held i w arms) o s).kids)) →
      CancelledToo slot tasks gone new ids (held i w arms) o f
  cancels_too tasks gone new ids i w arms o s bound f c cs =
      let e : Entry = held i w arms in
      let p = running_spot slot tasks ids e o s in
      let h = is_held slot p.task.number i (slot p.task.item).held w arms p.good.0.shows in
      let b = ups_entries ids o.ups ++ map slept o.post in
      let lists = since_kids slot i bound tasks gone new c (onto_entries o.pre []) p (sym h.0) in
      let q = with_kids slot p (older slot bound p.kids) new
      (good_older slot (under p.task e) (number_of slot p.task) bound p.kids p.good.2) lists.1 in
      let put : Planted slot new s.others ((before p.hole ++ post (older slot bound p.kids)) ++ e ∷ b) =
      planted_of slot new s.others (before p.hole ++ post (older slot bound p.kids)) e b q in
      let kids : pre p.kids ≡ pre (older slot bound p.kids) ++ pre (younger slot bound p.kids) =
      ap (λ k. pre k) (older_younger slot bound p.kids) ∙ pre_join (older slot bound p.kids) (younger slot bound p.kids) in
      let rest = pre p.rest ++ backs slot p in
      let start = fronts slot p ++ p.task ∷ pre (older slot bound p.kids) in
      let e1 : fronts slot p ++ (p.task ∷ (pre (older slot bound p.kids) ++ pre (younger slot bound p.kids)) ++ rest) ≡ start ++
      (pre (younger slot bound p.kids) ++ rest) = simp append_assoc in
      let e2 : fronts slot p ++ (p.task ∷ pre (older slot bound p.kids) ++ rest) ≡ start ++ rest = simp append_assoc in
      record {
        stands = record {
          others = s.others;
          planted = subst (λ es. Planted slot new s.others es) (ap (λ w. w ++ e ∷ b) (sym cs.before_it) ∙
              (sym (onto_append (can.without f o.pre) [] (e ∷ b)) ∙
              ap (λ w. onto_entries (can.without f o.pre) (e ∷ (ups_entries ids o.ups ++ map slept w))) (sym cs.behind_it))) put;
          chain = s.chain;
          others_are = s.others_are;
        };
        told = subst (λ w. AllPairs (IsTold slot) w (cancelled f o))
            (sym (ap (λ w. backwards w) lists.0 ∙ back_is (younger slot bound p.kids)))
            (told_back slot (under p.task e) bound (younger slot bound p.kids) (cancelled f o)
            (good_younger slot (under p.task e) (number_of slot p.task) bound p.kids p.good.2) cs.listed);
        first = start;
        last = rest;
        were = p.was ∙ (ap (λ w. fronts slot p ++ (p.task ∷ w ++ rest)) kids ∙ (e1 ∙ ap (λ w. start ++ (w ++ rest)) (sym lists.0)));
        are = lists.1 ∙ e2;
      }

  -- what a task has begun since so many steps were left
  pub cancels_since : (tasks gone new : List (Task T)) (ids : List ℕ) (i : ℕ) (w : Who) (arms : Option (List Part)) (o : World)
      (bound : ℕ) → Stands slot tasks ids (held i w arms ∷ []) o →
      CancelsSince slot i bound tasks gone new → CancelledToo slot tasks gone new ids (held i w arms) o (since w.path bound)
  cancels_since tasks gone new ids i w arms o bound s c =
      cancels_too tasks gone new ids i w arms o s bound (since w.path bound) c
      (since_cancels slot (ups_entries ids o.ups) o (running_spot slot tasks ids (held i w arms) o s) bound)

  -- the arms of its group
  pub cancels_arms : (tasks gone new : List (Task T)) (ids : List ℕ) (i : ℕ) (w : Who) (gs : List Part) (o : World) (bound : ℕ) →
      Stands slot tasks ids (held i w (Some gs) ∷ []) o → IsTree tasks →
      ((t : Task T) → task_at i tasks ≡ Some t → (slot t.item).since ≡ bound) →
      CancelsSince slot i bound tasks gone new → CancelledToo slot tasks gone new ids (held i w (Some gs)) o (beneath_arms w.path gs)
  cancels_arms tasks gone new ids i w gs o bound s tree is c =
      let p = running_spot slot tasks ids (held i w (Some gs)) o s in
      let h = is_held slot p.task.number i (slot p.task.item).held w (Some gs) p.good.0.shows in
      let same : (slot p.task.item).since ≡ bound = is p.task (ap (λ n. task_at n tasks) h.0 ∙ at_spot slot p tree) in
      cancels_too tasks gone new ids i w (Some gs) o s bound (beneath_arms w.path gs) c
      (subst (λ n. CancelledAs (beneath_arms w.path gs) o (back_entries (younger slot n p.kids))
      (before p.hole ++ post (older slot n p.kids))) same (arms_cancel slot (ups_entries ids o.ups) o p gs refl))

  pub no_kids : {tasks : List (Task T)} {others : List (Rose T)} {a : List Entry} {e : Entry} {b : List Entry}
      (p : Spot slot tasks others a e b) → IsTree tasks → (i : ℕ) → i ≡ p.task.number → HasNoChild i tasks → p.kids ≡ empty
  no_kids {tasks = tasks} p tree i same none = elim (last_kid p.kids) [
    | inl h ↦ h
    | inr l ↦ absurd (never (sym (ap (λ n. youngest (Some n) tasks) (sym same) ∙ none) ∙ youngest_kid slot p tree l))
  ]

  pub has_none : (tasks : List (Task T)) (ids : List ℕ) (i : ℕ) (w : Who) (arms : Option (List Part)) (o : World) →
      Stands slot tasks ids (held i w arms ∷ []) o → IsTree tasks →
      ((c : ℕ) (u : Task T) → youngest (Some i) tasks ≡ Some c → task_at c tasks ≡ Some u → w.number ≤ number_of slot u) →
      HasNoChild i tasks
  has_none tasks ids i w arms o s tree f =
      let e : Entry = held i w arms in
      let p = running_spot slot tasks ids e o s in
      let h = is_held slot p.task.number i (slot p.task.item).held w arms p.good.0.shows in
      let number : w.number ≡ number_of slot p.task = ap (λ (x : Who). x.number) p.good.0.who in
      elim (last_kid p.kids) [
        | inl k ↦ subst (λ n. HasNoChild n tasks) (sym h.0) (childless slot p tree k)
        | inr l ↦
            let least = f l.task.number l.task (ap (λ n. youngest (Some n) tasks) h.0 ∙ youngest_kid slot p tree l) (at_child p tree l) in
            let less = last_less (under p.task e) (number_of slot p.task) l.others l.task l.entry l.kids
            (subst (λ k. Good slot (under p.task e) (number_of slot p.task) k) l.is p.good.2) in
            absurd (omega (arith, least, less, number))
      ]
    where
      last_less : (q : Parent T) (most : ℕ) (k : Rose T) (t : Task T) (d : Entry) (w : Rose T) →
          Good slot q most (join k (node t d w empty)) → number_of slot t < most
      last_less q most empty t d w g = g.1
      last_less q most (node u c k r) t d w g = omega (arith, g.1, last_less q (number_of slot u) r t d w g.3)

      at_child : {others : List (Rose T)} {a : List Entry} {e : Entry} {b : List Entry} (p : Spot slot tasks others a e b) → IsTree tasks →
          (l : LastKid p.kids) → task_at l.task.number tasks ≡ Some l.task
      at_child p tree l = at_its_number slot p tree l
