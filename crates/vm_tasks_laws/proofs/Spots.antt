-- A task of a tree, with all that stands around it.
use Rattle.std.proofs.Common.{◌≡◌, ℕ, List, ◌∷◌, ◌++◌, None, refl, sym, ap, subst, ◌∙◌, append_assoc}
use Rattle.std.proofs.lemmas.List.{append-nil}
use Rattle.task_tree.specs.Tasks.{Task, task_at}
use Rattle.task_tree.specs.Nested.{Forest, IsTree, Distinct}
use Rattle.task_tree.specs.Blocks.{Block}
use Rattle.task_tree.proofs.Forests.{forest_append}
use Rattle.task_tree.proofs.Standing.{beside}
use Rattle.vm_tasks_laws.specs.Slots.{Slot, Entry, no_parent, under, id_of, number_of}
use Rattle.vm_tasks_laws.specs.Roses.{Rose, empty, node, pre, post, IsOne, pre_all, Good, GoodTrees}
use Rattle.vm_tasks_laws.specs.Standing.{Deal, one_dealt, Planted}
use Rattle.vm_tasks_laws.proofs.Holes.{Hole, top, fill, front, back, before, after, pre_fill, post_fill, find, parent_at, most_at, GoodHole}
use Rattle.vm_tasks_laws.proofs.Holes.{good_in, good_out}
use Rattle.vm_tasks_laws.proofs.Trees.{pre_all_append, good_parts, good_dealt, forest_of, forest_hole, forest_all}

module _ {T : Type 0} where
  -- younger siblings are added
  abbrev pub join : Rose T → Rose T → Rose T
  join empty x = x
  join (node t e k r) x = node t e k (join r x)

  pub pre_join : (k x : Rose T) → pre (join k x) ≡ pre k ++ pre x
  pre_join empty x = refl
  pre_join (node t e k r) x = ap (λ w. t ∷ pre k ++ w) (pre_join r x) ∙ simp append_assoc

  pub post_join : (k x : Rose T) → post (join k x) ≡ post k ++ post x
  post_join empty x = refl
  post_join (node t e k r) x = ap (λ w. post k ++ e ∷ w) (post_join r x) ∙ simp append_assoc

  pub pre_split : (first last : List (Rose T)) (h : Hole T) (x : Rose T) →
      pre_all (first ++ fill h x ∷ last) ≡ (pre_all first ++ front h) ++ (pre x ++ (back h ++ pre_all last))
  pre_split first last h x =
      let e : pre_all first ++ ((front h ++ (pre x ++ back h)) ++ pre_all last) ≡ (pre_all first ++ front h) ++
      (pre x ++ (back h ++ pre_all last)) = simp append_assoc in
      pre_all_append first (fill h x ∷ last) ∙ (ap (λ w. pre_all first ++ (w ++ pre_all last)) (pre_fill h x) ∙ e)

module _ {T : Type 0} (slot : T → Slot) where
  pub record Spot (tasks : List (Task T)) (others : List (Rose T)) (a : List Entry) (e : Entry) (b : List Entry) : Type 0 where
    pub most : ℕ
    pub hole : Hole T
    pub task : Task T
    pub kids : Rose T
    pub rest : Rose T
    pub first : List (Rose T)
    pub last : List (Rose T)
    pub one : IsOne (fill hole (node task e kids rest))
    pub around : GoodHole slot most hole
    pub good : Good slot (parent_at hole) (most_at slot most hole) (node task e kids rest)
    pub good_others : GoodTrees slot others
    pub dealt : Deal others (first ++ last)
    pub left : a ≡ before hole ++ post kids
    pub right : b ≡ post rest ++ after hole
    pub was : tasks ≡ (pre_all first ++ front hole) ++ (task ∷ pre kids ++ (pre rest ++ (back hole ++ pre_all last)))

  pub spot_of : (tasks : List (Task T)) (others : List (Rose T)) (a : List Entry) (e : Entry) (b : List Entry) →
      Planted slot tasks others (a ++ e ∷ b) → Spot tasks others a e b
  spot_of tasks others a e b p = go p.roots p.dealt p.tasks_are
    where
      go : (roots : List (Rose T)) → Deal (p.current ∷ others) roots → tasks ≡ pre_all roots → Spot tasks others a e b
      go roots (one_dealt first last q d) is =
          let f = find top p.current a e b p.current_is in
          let inside = good_in slot p.good.0.most f.hole (node f.task e f.kids f.rest)
          (subst (λ c. Good slot no_parent p.good.0.most c) (sym f.is) p.good.0.good) in
          record {
            most = p.good.0.most;
            hole = f.hole;
            task = f.task;
            kids = f.kids;
            rest = f.rest;
            first = first;
            last = last;
            one = subst (λ c. IsOne c) (sym f.is) p.good.0.one;
            around = inside.0;
            good = inside.1;
            good_others = p.good.1;
            dealt = d;
            left = sym f.left;
            right = sym (f.right ∙ append-nil b);
            was = is ∙ (ap (λ w. pre_all w) q ∙ (ap (λ c. pre_all (first ++ c ∷ last)) (sym f.is) ∙
                (pre_split first last f.hole (node f.task e f.kids f.rest) ∙
                ap (λ w. (pre_all first ++ front f.hole) ++ w)
                (append_assoc (f.task ∷ pre f.kids) (pre f.rest) (back f.hole ++ pre_all last)))));
          }

  module _ {tasks : List (Task T)} {others : List (Rose T)} {a : List Entry} {e : Entry} {b : List Entry}
      (s : Spot tasks others a e b) where
    abbrev pub fronts : List (Task T)
    fronts = pre_all s.first ++ front s.hole

    abbrev pub backs : List (Task T)
    backs = back s.hole ++ pre_all s.last

    -- others in its place
    pub refill : (new : List (Task T)) (x : Rose T) → IsOne (fill s.hole x) → Good slot (parent_at s.hole) (most_at slot s.most s.hole) x →
        new ≡ fronts ++ (pre x ++ backs) →
        Planted slot new others (before s.hole ++ (post x ++ after s.hole))
    refill new x one g is = record {
      current = fill s.hole x;
      roots = s.first ++ fill s.hole x ∷ s.last;
      dealt = one_dealt s.first s.last refl s.dealt;
      tasks_are = is ∙ sym (pre_split s.first s.last s.hole x);
      good = (record { one = one; most = s.most; good = good_out slot s.most s.hole x s.around g }, s.good_others);
      current_is = post_fill s.hole x;
    }

    -- what it encloses stands right behind it in the list
    abbrev pub block : Block None tasks s.task.number
    block =
        let parts = good_parts slot s.first s.last (good_dealt slot others (s.first ++ s.last) s.dealt s.good_others) in
        record {
          front = fronts;
          task = s.task;
          kids = pre s.kids;
          back = pre s.rest ++ backs;
          was = s.was;
          number = refl;
          suited = s.good.0.suited;
          beneath = forest_of slot (under s.task e) (number_of slot s.task) s.kids s.good.2;
          around = λ xs f.
              let g : Forest (id_of (parent_at s.hole)) xs = subst (λ p. Forest p xs) s.good.0.parent f in
              let here : Forest None (front s.hole ++ ((xs ++ pre s.rest) ++ back s.hole)) =
              forest_hole slot s.most s.hole (xs ++ pre s.rest) s.around
              (forest_append xs (pre s.rest) g (forest_of slot (parent_at s.hole) (number_of slot s.task) s.rest s.good.3)) in
              let all : Forest None (pre_all s.first ++ ((front s.hole ++ ((xs ++ pre s.rest) ++ back s.hole)) ++ pre_all s.last)) =
              forest_append (pre_all s.first) ((front s.hole ++ ((xs ++ pre s.rest) ++ back s.hole)) ++ pre_all s.last)
              (forest_all slot s.first parts.0) (forest_append (front s.hole ++ ((xs ++ pre s.rest) ++ back s.hole))
              (pre_all s.last) here (forest_all slot s.last parts.1)) in
              subst (λ w. Forest None w) (simp append_assoc) all;
        }

    -- its number stands nowhere else
    pub alone : IsTree tasks → (task_at s.task.number fronts ≡ None) × (task_at s.task.number (pre s.kids ++ (pre s.rest ++ backs)) ≡ None)
    alone tree = beside fronts (pre s.kids ++ (pre s.rest ++ backs)) s.task (subst (λ ts. Distinct ts) s.was tree.distinct)
