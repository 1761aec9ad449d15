-- A task more in a tree of tasks.
use Rattle.std.proofs.Common.{◌≡◌, inl, inr, ℕ, ◌+◌, ◌<◌, Bool, true, false, eqb, if◌then◌else◌, List, [], ◌∷◌, ◌++◌, map, Option, Some}
use Rattle.std.proofs.Common.{None, refl, sym, ap, subst, ◌∙◌, arith}
use Rattle.std.proofs.lemmas.Bool.{eqb-true}
use Rattle.std.proofs.lemmas.List.{append-nil}
use Rattle.task_tree.specs.Tasks.{Task, task_at, suits}
use Rattle.task_tree.specs.Nested.{IsTree}
use Rattle.task_tree.specs.Removing.{Added, IsEnd}
use Rattle.verse_code_machine.specs.Tasks as m
use Rattle.verse_code_machine.specs.Tasks.{Who, root, part, root_named, child_named}
use Rattle.verse_code_machine.specs.Runs.{Forest}
use Rattle.vm_tasks_laws.specs.Slots.{Slot, Entry, slept, Parent, no_parent, under, arms_at, number_of, named, RoleFits, Shows, ArmedBy}
use Rattle.vm_tasks_laws.specs.Slots.{Seen}
use Rattle.vm_tasks_laws.specs.Roses.{Rose, empty, node, post, pre_all, GoodTrees}
use Rattle.vm_tasks_laws.specs.Standing.{Deal, trees_entries, Shown, none_shown, tree_shown, Planted, Rests}
use Rattle.vm_tasks_laws.proofs.Lists as laws
use Rattle.vm_tasks_laws.proofs.Trees.{move, move_back, pre_all_append, good_append, good_parts}
use Rattle.vm_tasks_laws.proofs.Spots.{Spot, spot_of}
use Rattle.vm_tasks_laws.proofs.Changes.{grown}
use Rattle.vm_tasks_laws.proofs.Climbing.{shown_append, ShownCut, shown_cut}
use Rattle.vm_tasks_laws.proofs.Deals.{deal_append, deal_same}
use Rattle.vm_tasks_laws.proofs.Steps.{trees_append, at_spot}
use Rattle.vm_tasks_laws.proofs.Overs.{shown_head}
use Rattle.vm_tasks_laws.proofs.Lists.{map_parts}
use Rattle.run_save_shots.specs.Lists.{Each}
use Rattle.run_save_shots.specs.Spelling.{before_parent}
use Rattle.run_save_spelled.specs.Growing.{Inserted}
use Rattle.run_save_trees.specs.Puts.{IsKept, Unlike}

filled : (a : List m.Task) (y : m.Task) (b : List m.Task) → map slept (a ++ y ∷ b) ≡ [] → ⊥
filled [] y b e = absurd (cc)
filled (x ∷ a) y b e = absurd (cc)

module _ {T : Type 0} where
  same_each : (P : Task T → Type 0) (xs : List (Task T)) → Each P xs → laws.Each P xs
  same_each P [] e = tt
  same_each P (x ∷ xs) e = (e.0, same_each P xs e.1)

  each_parts : (P : Task T → Type 0) (xs ys : List (Task T)) → Each P (xs ++ ys) → Each P xs × Each P ys
  each_parts P [] ys e = (tt, e)
  each_parts P (x ∷ xs) ys e = let r = each_parts P xs ys e.1 in ((e.0, r.0), r.1)

  each_append : (P : Task T → Type 0) (xs ys : List (Task T)) → Each P xs → Each P ys → Each P (xs ++ ys)
  each_append P [] ys e f = f
  each_append P (x ∷ xs) ys e f = (e.0, each_append P xs ys e.1 f)

  pub added_each : (P : Task T → Type 0) (tasks new : List (Task T)) (u : Task T) → Added u tasks new → P u → Each P tasks → Each P new
  added_each P tasks new u a p e =
      let parts = each_parts P a.front a.back (subst (λ w. Each P w) a.was e) in
      subst (λ w. Each P w) (sym a.is) (each_append P a.front (u ∷ a.back) parts.0 (p, parts.1))

  pub each_at : (P : Task T → Type 0) (tasks : List (Task T)) (i : ℕ) (t : Task T) → Each P tasks → task_at i tasks ≡ Some t → P t
  each_at P [] i t e at = absurd (cc)
  each_at P (x ∷ xs) i t e at = by (eqb x.number i) (λ a. each_at P xs i t e.1 a) at
    where
      by : (b : Bool) → (task_at i xs ≡ Some t → P t) → (if b then Some x else task_at i xs) ≡ Some t → P t
      by true later f = let same : x ≡ t = cc in subst P same e.0
      by false later f = later f

module _ {T : Type 0} (slot : T → Slot) where
  -- ---- numbers

  pub same_task : (tasks : List (Task T)) (i j : ℕ) (t u : Task T) → Unlike slot tasks → task_at i tasks ≡ Some t →
      task_at j tasks ≡ Some u → number_of slot t ≡ number_of slot u → (i ≡ j) × (t ≡ u)
  same_task [] i j t u d a b e = absurd (cc)
  same_task (x ∷ xs) i j t u d a b e =
      by (eqb x.number i) refl (eqb x.number j) refl (λ f g. same_task xs i j t u d.1 f g e) a b
    where
      by : (p : Bool) → eqb x.number i ≡ p → (q : Bool) → eqb x.number j ≡ q →
          (task_at i xs ≡ Some t → task_at j xs ≡ Some u → (i ≡ j) × (t ≡ u)) → (if p then Some x else task_at i xs) ≡ Some t →
          (if q then Some x else task_at j xs) ≡ Some u → (i ≡ j) × (t ≡ u)
      by true f true g later a b =
          let one : x ≡ t = cc in let two : x ≡ u = cc in
          (sym (eqb-true x.number i f) ∙ eqb-true x.number j g, sym one ∙ two)
      by true f false g later a b =
          let one : x ≡ t = cc in
          absurd (each_at (λ (v : Task T). number_of slot v ≡ number_of slot x → ⊥) xs j u d.0 b
          (sym e ∙ ap (λ v. number_of slot v) (sym one)))
      by false f true g later a b =
          let two : x ≡ u = cc in
          absurd (each_at (λ (v : Task T). number_of slot v ≡ number_of slot x → ⊥) xs i t d.0 a
          (e ∙ ap (λ v. number_of slot v) (sym two)))
      by false f false g later a b = later a b

  pub unlike_more : (tasks new : List (Task T)) (u : Task T) → Added u tasks new → Unlike slot tasks →
      Each (λ (v : Task T). number_of slot u < number_of slot v) tasks → Unlike slot new
  unlike_more tasks new u a d less =
      subst (λ w. Unlike slot w) (sym a.is) (go a.front (subst (λ w. Unlike slot w) a.was d)
      (subst (λ w. Each (λ (v : Task T). number_of slot u < number_of slot v) w) a.was less))
    where
      other : (xs : List (Task T)) → Each (λ (v : Task T). number_of slot u < number_of slot v) xs →
          Each (λ (v : Task T). number_of slot v ≡ number_of slot u → ⊥) xs
      other [] l = tt
      other (x ∷ xs) l = ((λ e. omega (arith, e, l.0)), other xs l.1)

      go : (front : List (Task T)) → Unlike slot (front ++ a.back) → Each (λ (v : Task T). number_of slot u < number_of slot v)
          (front ++ a.back) → Unlike slot (front ++ u ∷ a.back)
      go [] d l = (other a.back l, d)
      go (x ∷ front) d l =
          let parts = each_parts (λ (v : Task T). number_of slot v ≡ number_of slot x → ⊥) front a.back d.0 in (
            each_append (λ (v : Task T). number_of slot v ≡ number_of slot x → ⊥) front (u ∷ a.back) parts.0
                ((λ e. omega (arith, e, l.0)), parts.1),
            go front d.1 l.1,
          )

  -- ---- a task of its own

  shows : (u : Task T) (y : m.Task) → IsKept y (slot u.item) → Shows u.number (slot u.item).held (slept y)
  shows u y k = subst (λ h. Shows u.number h (slept y)) (sym k.held) (refl, refl, refl)

  pub root_put : (tasks new : List (Task T)) (tss : Forest) (u : Task T) (y : m.Task) (entry : Option ℕ) → Rests slot tasks tss →
      Added u tasks new → u.parent ≡ None → suits u.parent u.role ≡ true → IsKept y (slot u.item) →
      y.thread.who ≡ root_named y.thread.who.number entry → Rests slot new (tss ++ (y ∷ []) ∷ [])
  root_put tasks new tss u y entry r added parent suited kept e =
      let nothing : added.back ≡ [] = subst (λ q. IsEnd q tasks added.front added.back) parent added.behind in
      let front : added.front ≡ tasks = sym (append-nil added.front) ∙ (ap (λ w. added.front ++ w) (sym nothing) ∙ sym added.was) in
      let role : (slot u.item).role ≡ root entry = kept.role ∙ ap (λ (w : Who). w.role) e in
      let seen : Seen slot no_parent u (slept y) = record {
        parent = parent;
        suited = suited;
        fits = subst (λ c. RoleFits None c) (sym role) tt;
        who = e ∙ (ap (λ n. record { path = n ∷ []; up = []; number = n; role = root entry }) (sym kept.number) ∙
            ap (λ c. record { path = number_of slot u ∷ []; up = []; number = number_of slot u; role = c }) (sym role));
        shows = shows u y kept;
        armed = tt;
      } in
      let c : Rose T = node u (slept y) empty empty in
      record {
        trees = r.trees ++ c ∷ [];
        roots = r.roots ++ c ∷ [];
        dealt = deal_append r.trees r.roots (c ∷ []) (c ∷ []) r.dealt (deal_same (c ∷ []));
        tasks_are = added.is ∙ (ap (λ w. w ++ u ∷ added.back) front ∙
            (ap (λ w. tasks ++ u ∷ w) nothing ∙ (ap (λ w. w ++ u ∷ []) r.tasks_are ∙ sym (pre_all_append r.roots (c ∷ [])))));
        good = good_append slot r.trees (c ∷ []) r.good
            (record { one = tt; most = number_of slot u + 1; good = (seen, omega arith, tt, tt) }, tt);
        trees_are = subst (λ w. Shown (r.trees ++ c ∷ []) w) (sym (trees_append tss ((y ∷ []) ∷ [])))
            (shown_append r.trees_are (tree_shown refl none_shown));
      }

  -- ---- a part

  pub part_put : (tasks new : List (Task T)) (tss : Forest) (u t : Task T) (x y : m.Task) (i : ℕ) → Rests slot tasks tss → IsTree tasks →
      Unlike slot tasks → Inserted x y tss → task_at i tasks ≡ Some t → number_of slot t ≡ x.thread.who.number →
      Added u tasks new → u.parent ≡ Some i → suits u.parent u.role ≡ true → IsKept y (slot u.item) →
      y.thread.who ≡ child_named x.thread.who y.thread.who.number →
      Each (λ (v : Task T). y.thread.who.number < number_of slot v) tasks →
      ArmedBy (slot t.item).since (arms_at x.rest) y.thread.who.number → Rests slot new (map (before_parent y) tss)
  part_put tasks new tss u t x y i r tree unlike s at number added parent suited kept e less armed =
      elim (shown_head parts.last (map slept (s.before ++ x ∷ s.behind)) (trees_entries s.back) parts.right) [
        | inl k ↦ absurd (filled s.before x s.behind k.0)
        | inr k ↦ with_tree k
      ]
    where
      shown : Shown r.trees (trees_entries s.front ++ map slept (s.before ++ x ∷ s.behind) ∷ trees_entries s.back)
      shown = subst (λ z. Shown r.trees z) (ap (λ z. trees_entries z) s.was ∙ trees_append s.front ((s.before ++ x ∷ s.behind) ∷ s.back))
          r.trees_are

      parts : ShownCut r.trees (trees_entries s.front) (map slept (s.before ++ x ∷ s.behind) ∷ trees_entries s.back)
      parts = shown_cut r.trees (trees_entries s.front) (map slept (s.before ++ x ∷ s.behind) ∷ trees_entries s.back) shown

      with_tree : ((c : Rose T) × (ds : List (Rose T)) × (parts.last ≡ c ∷ ds) × (post c ≡ map slept (s.before ++ x ∷ s.behind)) ×
          Shown ds (trees_entries s.back)) → Rests slot new (map (before_parent y) tss)
      with_tree k =
          let c = k.0 in
          let whole : r.trees ≡ parts.first ++ c ∷ k.1 = parts.is ∙ ap (λ z. parts.first ++ z) k.2 in
          let goods = good_parts slot parts.first (c ∷ k.1) (subst (λ z. GoodTrees slot z) whole r.good) in
          let planted : Planted slot tasks (parts.first ++ k.1) (map slept s.before ++ slept x ∷ map slept s.behind) = record {
            current = c;
            roots = r.roots;
            dealt = move_back c parts.first k.1 r.roots (subst (λ z. Deal z r.roots) whole r.dealt);
            tasks_are = r.tasks_are;
            good = (goods.1.0, good_append slot parts.first k.1 goods.0 goods.1.1);
            current_is = k.3 ∙ map_parts s.before x s.behind;
          } in
          let p = spot_of slot tasks (parts.first ++ k.1) (map slept s.before) (slept x) (map slept s.behind) planted in
          let there = at_spot slot p tree in
          let its : x.thread.who.number ≡ number_of slot p.task = ap (λ (w : Who). w.number) p.good.0.who in
          let same = same_task tasks i p.task.number t p.task unlike at there (number ∙ its) in
          let role : (slot u.item).role ≡ part = kept.role ∙ ap (λ (w : Who). w.role) e in
          let here : u.parent ≡ Some p.task.number = parent ∙ ap (λ n. Some n) same.0 in
          let seen : Seen slot (under p.task (slept x)) u (slept y) = record {
            parent = here;
            suited = suited;
            fits = subst (λ q. RoleFits (Some p.task.number) q) (sym role) tt;
            who = e ∙
                (ap (λ n. record { path = x.thread.who.path ++ n ∷ []; up = x.thread.who.path; number = n; role = part })
                (sym kept.number) ∙
                ap (λ q. record {
                  path = x.thread.who.path ++ number_of slot u ∷ [];
                  up = x.thread.who.path;
                  number = number_of slot u;
                  role = q;
                }) (sym role));
            shows = shows u y kept;
            armed = subst (λ n. ArmedBy (slot p.task.item).since (arms_at x.rest) n) (sym kept.number)
                (subst (λ (v : Task T). ArmedBy (slot v.item).since (arms_at x.rest) y.thread.who.number) same.1 armed);
          } in
          let q = grown slot p tree u (slept y) new added here seen
          (same_each (λ v. number_of slot u < number_of slot v) tasks (least tasks less))
          in
          record {
            trees = parts.first ++ q.current ∷ k.1;
            roots = q.roots;
            dealt = move q.current parts.first k.1 q.roots q.dealt;
            tasks_are = q.tasks_are;
            good = good_append slot parts.first (q.current ∷ k.1) goods.0 (q.good.0, goods.1.1);
            trees_are = subst (λ z. Shown (parts.first ++ q.current ∷ k.1) z)
                (sym (ap (λ z. trees_entries z) s.is ∙ trees_append s.front ((s.before ++ y ∷ x ∷ s.behind) ∷ s.back)))
                (shown_append parts.left (tree_shown (q.current_is ∙ sym (map_parts s.before y (x ∷ s.behind))) k.4));
          }
        where
          least : (vs : List (Task T)) → Each (λ (v : Task T). y.thread.who.number < number_of slot v) vs →
              Each (λ (v : Task T). number_of slot u < number_of slot v) vs
          least [] l = tt
          least (v ∷ vs) l = (subst (λ n. n < number_of slot v) (sym kept.number) l.0, least vs l.1)
