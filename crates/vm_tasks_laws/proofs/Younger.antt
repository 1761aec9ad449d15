-- The youngest children of a task are cancelled.
use Rattle.std.proofs.Common.{◌≡◌, ◌⊎◌, inl, inr, ℕ, ◌<◌, ◌≤◌, Bool, true, false, cond, List, [], ◌∷◌, ◌++◌, Some, None, refl, sym, ap}
use Rattle.std.proofs.Common.{subst, ◌∙◌, append_assoc, arith}
use Rattle.std.proofs.lemmas.List.{append-nil}
use Rattle.task_tree.specs.Tasks.{Task, task_at, youngest, or_else}
use Rattle.task_tree.specs.Nested.{IsTree, Distinct, Under}
use Rattle.task_tree.specs.Removing.{Cancels}
use Rattle.task_tree.proofs.Standing.{here, inner, never, at_place, absent_parts, youngest_append, youngest_same}
use Rattle.task_tree.proofs.Forests.{outsiders}
use Rattle.task_tree.proofs.Ending.{block_children}
use Rattle.task_tree.proofs.Cancelling.{block_parts}
use Rattle.task_tree.proofs.Background.{parts_same}
use Rattle.verse_meaning_state.specs.Waits.{ltn}
use Rattle.verse_meaning_state.proofs.Numbers.{ltn_is, ltn_yes, ltn_no}
use Rattle.vm_tasks_laws.specs.Slots.{Slot, Entry, Parent, no_parent, under, number_of, Seen}
use Rattle.vm_tasks_laws.specs.Roses.{Rose, empty, node, pre, post, IsOne, pre_all, Good}
use Rattle.vm_tasks_laws.specs.Cancelling.{CancelsSince, none_younger, one_younger, younger, older}
use Rattle.vm_tasks_laws.proofs.Holes.{Hole, beneath, behind, fill, front, back, before, after, parent_at, good_in, good_out}
use Rattle.vm_tasks_laws.proofs.Trees.{forest_of}
use Rattle.vm_tasks_laws.proofs.Spots.{join, pre_join, Spot, fronts, backs, block, alone}
use Rattle.vm_tasks_laws.proofs.Changes.{one_node}

module _ {T : Type 0} where
  -- behind all of these siblings
  abbrev pub past : Hole T → Rose T → Hole T
  past h empty = h
  past h (node t e k r) = past (behind h t e k) r

  pub fill_past : (h : Hole T) (k x : Rose T) → fill (past h k) x ≡ fill h (join k x)
  fill_past h empty x = refl
  fill_past h (node t e k r) x = fill_past (behind h t e k) r x

  pub front_past : (h : Hole T) (k : Rose T) → front (past h k) ≡ front h ++ pre k
  front_past h empty = sym (append-nil (front h))
  front_past h (node t e k r) = front_past (behind h t e k) r ∙ append_assoc (front h) (t ∷ pre k) (pre r)

  pub back_past : (h : Hole T) (k : Rose T) → back (past h k) ≡ back h
  back_past h empty = refl
  back_past h (node t e k r) = back_past (behind h t e k) r

  pub parent_past : (h : Hole T) (k : Rose T) → parent_at (past h k) ≡ parent_at h
  parent_past h empty = refl
  parent_past h (node t e k r) = parent_past (behind h t e k) r

  pub record LastKid (k : Rose T) : Type 0 where
    pub others : Rose T
    pub task : Task T
    pub entry : Entry
    pub kids : Rose T
    pub is : k ≡ join others (node task entry kids empty)

  pub last_kid : (k : Rose T) → (k ≡ empty) ⊎ LastKid k
  last_kid empty = inl refl
  last_kid (node t e k r) = elim (last_kid r) [
    | inl p ↦ inr (record { others = empty; task = t; entry = e; kids = k; is = ap (λ w. node t e k w) p })
    | inr l ↦ inr (record { others = node t e k l.others; task = l.task; entry = l.entry; kids = l.kids; is = ap (λ w. node t e k w) l.is })
  ]

module _ {T : Type 0} (slot : T → Slot) where
  pub good_before : (q : Parent T) (m : ℕ) (k x : Rose T) → Good slot q m (join k x) → Good slot q m k
  good_before q m empty x g = tt
  good_before q m (node t e k r) x g = (g.0, g.1, g.2, good_before q (number_of slot t) r x g.3)

  pub good_younger : (q : Parent T) (m bound : ℕ) (k : Rose T) → Good slot q m k → Good slot q bound (younger slot bound k)
  good_younger q m bound empty g = tt
  good_younger q m bound (node t e k r) g = go (good_younger q (number_of slot t) bound r g.3) (ltn (number_of slot t) bound) refl
    where
      go : Good slot q bound (younger slot bound r) → (b : Bool) → ltn (number_of slot t) bound ≡ b →
          Good slot q bound (cond b (node t e k r) (younger slot bound r))
      go more true p = (g.0, ltn_is (number_of slot t) bound p, g.2, g.3)
      go more false p = more

  pub good_older : (q : Parent T) (m bound : ℕ) (k : Rose T) → Good slot q m k → Good slot q m (older slot bound k)
  good_older q m bound empty g = tt
  good_older q m bound (node t e k r) g = go (good_older q (number_of slot t) bound r g.3) (ltn (number_of slot t) bound)
    where
      go : Good slot q (number_of slot t) (older slot bound r) → (b : Bool) → Good slot q m (cond b empty (node t e k (older slot bound r)))
      go more true = tt
      go more false = (g.0, g.1, g.2, more)

  pub older_younger : (bound : ℕ) (k : Rose T) → k ≡ join (older slot bound k) (younger slot bound k)
  older_younger bound empty = refl
  older_younger bound (node t e k r) = go (older_younger bound r) (ltn (number_of slot t) bound)
    where
      go : r ≡ join (older slot bound r) (younger slot bound r) → (b : Bool) →
          node t e k r ≡ join (cond b empty (node t e k (older slot bound r))) (cond b (node t e k r) (younger slot bound r))
      go more true = refl
      go more false = ap (λ w. node t e k w) more

  -- the last one is among the younger
  older_with : (bound : ℕ) (k : Rose T) (t : Task T) (e : Entry) (l : Rose T) → number_of slot t < bound →
      older slot bound (join k (node t e l empty)) ≡ older slot bound k
  older_with bound empty t e l h = ap (λ b. cond b empty (node t e l empty)) (ltn_yes (number_of slot t) bound h)
  older_with bound (node u d k r) t e l h = ap (λ w. cond (ltn (number_of slot u) bound) empty (node u d k w)) (older_with bound r t e l h)

  younger_with : (bound : ℕ) (k : Rose T) (t : Task T) (e : Entry) (l : Rose T) → number_of slot t < bound →
      younger slot bound (join k (node t e l empty)) ≡ join (younger slot bound k) (node t e l empty)
  younger_with bound empty t e l h = ap (λ b. cond b (node t e l empty) empty) (ltn_yes (number_of slot t) bound h)
  younger_with bound (node u d k r) t e l h = go (younger_with bound r t e l h) (ltn (number_of slot u) bound)
    where
      go : younger slot bound (join r (node t e l empty)) ≡ join (younger slot bound r) (node t e l empty) → (b : Bool) →
          cond b (join (node u d k r) (node t e l empty)) (younger slot bound (join r (node t e l empty))) ≡
          join (cond b (node u d k r) (younger slot bound r)) (node t e l empty)
      go more true = refl
      go more false = more

  -- the last one is not, and so none is
  last_least : (q : Parent T) (m : ℕ) (k : Rose T) (t : Task T) (e : Entry) (l : Rose T) → Good slot q m (join k (node t e l empty)) →
      number_of slot t < m
  last_least q m empty t e l g = g.1
  last_least q m (node u d k r) t e l g = omega (arith, g.1, last_least q (number_of slot u) r t e l g.3)

  none_with : (q : Parent T) (m bound : ℕ) (k : Rose T) (t : Task T) (e : Entry) (l : Rose T) → Good slot q m (join k (node t e l empty)) →
      bound ≤ number_of slot t →
      (younger slot bound (join k (node t e l empty)) ≡ empty) × (older slot bound (join k (node t e l empty)) ≡ join k (node t e l empty))
  none_with q m bound empty t e l g h =
      let no = ltn_no (number_of slot t) bound h in
      (ap (λ b. cond b (node t e l empty) empty) no, ap (λ b. cond b empty (node t e l empty)) no)
  none_with q m bound (node u d k r) t e l g h =
      let no = ltn_no (number_of slot u) bound (omega (arith, h, last_least q (number_of slot u) r t e l g.3)) in
      let rest = none_with q (number_of slot u) bound r t e l g.3 h in (
        ap (λ b. cond b (join (node u d k r) (node t e l empty)) (younger slot bound (join r (node t e l empty)))) no ∙ rest.0,
        ap (λ b. cond b empty (node u d k (older slot bound (join r (node t e l empty))))) no ∙ ap (λ w. node u d k w) rest.1,
      )

  -- with other children
  abbrev pub with_kids : {tasks : List (Task T)} {others : List (Rose T)} {a : List Entry} {e : Entry} {b : List Entry}
      (s : Spot slot tasks others a e b) (k : Rose T) (new : List (Task T)) →
      Good slot (under s.task e) (number_of slot s.task) k → new ≡ fronts slot s ++ (s.task ∷ pre k ++ (pre s.rest ++ backs slot s)) →
      Spot slot new others (before s.hole ++ post k) e b
  with_kids {e = e} s k new g is = record {
    most = s.most;
    hole = s.hole;
    task = s.task;
    kids = k;
    rest = s.rest;
    first = s.first;
    last = s.last;
    one = one_node s.hole s.task s.task e e s.kids k s.rest s.one;
    around = s.around;
    good = (s.good.0, s.good.1, g, s.good.3);
    good_others = s.good_others;
    dealt = s.dealt;
    left = refl;
    right = s.right;
    was = is;
  }

  module _ {tasks : List (Task T)} {others : List (Rose T)} {a : List Entry} {e : Entry} {b : List Entry} (s : Spot slot tasks others a e b)
      (tree : IsTree tasks) (l : LastKid s.kids) where
    child_hole : Hole T
    child_hole = past (beneath s.hole s.task e s.rest) l.others

    -- the last child by itself
    pub child_fill : fill (past (beneath s.hole s.task e s.rest) l.others) (node l.task l.entry l.kids empty) ≡
        fill s.hole (node s.task e s.kids s.rest)
    child_fill = fill_past (beneath s.hole s.task e s.rest) l.others (node l.task l.entry l.kids empty) ∙
        ap (λ k. fill s.hole (node s.task e k s.rest)) (sym l.is)

    child_good : Good slot (under s.task e) (number_of slot s.task) (join l.others (node l.task l.entry l.kids empty))
    child_good = subst (λ k. Good slot (under s.task e) (number_of slot s.task) k) l.is s.good.2

    abbrev pub child_spot : (xs ys : List Entry) → xs ≡ before (past (beneath s.hole s.task e s.rest) l.others) ++ post l.kids →
        ys ≡ after (past (beneath s.hole s.task e s.rest) l.others) →
        Spot slot tasks others xs l.entry ys
    child_spot xs ys left right =
        let h = past (beneath s.hole s.task e s.rest) l.others in
        let x : Rose T = node l.task l.entry l.kids empty in
        let inside = good_in slot s.most h x (subst (λ c. Good slot no_parent s.most c) (sym child_fill)
        (good_out slot s.most s.hole (node s.task e s.kids s.rest) s.around s.good)) in
        let e1 : (pre_all s.first ++ front s.hole) ++
        (s.task ∷ (pre l.others ++ l.task ∷ pre l.kids) ++ (pre s.rest ++ (back s.hole ++ pre_all s.last))) ≡
        (pre_all s.first ++ ((front s.hole ++ s.task ∷ []) ++ pre l.others)) ++
        (l.task ∷ pre l.kids ++ ([] ++ ((pre s.rest ++ back s.hole) ++ pre_all s.last))) = simp append_assoc in
        record {
          most = s.most;
          hole = h;
          task = l.task;
          kids = l.kids;
          rest = empty;
          first = s.first;
          last = s.last;
          one = subst (λ c. IsOne c) (sym child_fill) s.one;
          around = inside.0;
          good = inside.1;
          good_others = s.good_others;
          dealt = s.dealt;
          left = left;
          right = right;
          was = s.was ∙ (ap (λ k. (pre_all s.first ++ front s.hole) ++ (s.task ∷ pre k ++ (pre s.rest ++ (back s.hole ++ pre_all s.last))))
              l.is ∙
              (ap (λ w. (pre_all s.first ++ front s.hole) ++ (s.task ∷ w ++ (pre s.rest ++ (back s.hole ++ pre_all s.last))))
              (pre_join l.others x ∙ ap (λ w. pre l.others ++ l.task ∷ w) (append-nil (pre l.kids))) ∙ (e1 ∙
              (ap (λ w. (pre_all s.first ++ w) ++ (l.task ∷ pre l.kids ++ ([] ++ ((pre s.rest ++ back s.hole) ++ pre_all s.last))))
              (sym (front_past (beneath s.hole s.task e s.rest) l.others)) ∙
              ap (λ w. (pre_all s.first ++ front h) ++ (l.task ∷ pre l.kids ++ ([] ++ (w ++ pre_all s.last))))
              (sym (back_past (beneath s.hole s.task e s.rest) l.others))))));
        }

    child_seen : Seen slot (under s.task e) l.task l.entry
    child_seen = last_seen (under s.task e) (number_of slot s.task) l.others l.task l.entry l.kids child_good
      where
        last_seen : (q : Parent T) (m : ℕ) (k : Rose T) (t : Task T) (d : Entry) (w : Rose T) → Good slot q m (join k (node t d w empty)) →
            Seen slot q t d
        last_seen q m empty t d w g = g.0
        last_seen q m (node u c k r) t d w g = last_seen q (number_of slot u) r t d w g.3

    kids_are : pre s.kids ≡ pre l.others ++ l.task ∷ pre l.kids
    kids_are = ap (λ k. pre k) l.is ∙ (pre_join l.others (node l.task l.entry l.kids empty) ∙
        ap (λ w. pre l.others ++ l.task ∷ w) (append-nil (pre l.kids)))

    pub youngest_kid : youngest (Some s.task.number) tasks ≡ Some l.task.number
    youngest_kid =
        let p = Some s.task.number in
        let absent : task_at s.task.number (pre s.kids) ≡ None =
        (absent_parts s.task.number (pre s.kids) (pre s.rest ++ backs slot s) (alone slot s tree).1).0 in
        let here = absent_parts s.task.number (pre l.others) (l.task ∷ pre l.kids) (sym (ap (λ w. task_at s.task.number w) kids_are) ∙
        absent) in
        let deeper = absent_parts s.task.number (l.task ∷ []) (pre l.kids) here.1 in
        let other : Some l.task.number ≡ p → ⊥ = λ h. never (sym deeper.0 ∙ found l.task s.task.number (inner h)) in
        let none : youngest p (pre l.kids) ≡ None =
        outsiders (Some l.task.number) (pre l.kids)
        (forest_of slot (under l.task l.entry) (number_of slot l.task) l.kids
        (last_kids (under s.task e) (number_of slot s.task) l.others l.task l.entry l.kids child_good)) p other
        (λ n h. subst (λ m. task_at m (pre l.kids) ≡ None) (inner h) deeper.1) in
        (block_children tasks s.task.number tree (block slot s)).2 ∙
        (ap (λ w. youngest p w) kids_are ∙ (youngest_append p (pre l.others) (l.task ∷ pre l.kids) ∙
        ap (λ o. or_else o (youngest p (pre l.others))) (youngest_same p l.task (pre l.kids) (sym child_seen.parent) ∙
        ap (λ o. or_else o (Some l.task.number)) none)))
      where
        found : (t : Task T) (n : ℕ) → t.number ≡ n → task_at n (t ∷ []) ≡ Some t
        found t n h = here n t [] h

        last_kids : (q : Parent T) (m : ℕ) (k : Rose T) (t : Task T) (d : Entry) (w : Rose T) → Good slot q m (join k (node t d w empty)) →
            Good slot (under t d) (number_of slot t) w
        last_kids q m empty t d w g = g.2
        last_kids q m (node u c k r) t d w g = last_kids q (number_of slot u) r t d w g.3

    pub at_its_number : task_at l.task.number tasks ≡ Some l.task
    at_its_number =
        let h = past (beneath s.hole s.task e s.rest) l.others in
        let c = child_spot (before h ++ post l.kids) (after h) refl refl in
        ap (λ ts. task_at l.task.number ts) c.was ∙ at_place (pre_all s.first ++ front h) (pre l.kids ++ (back h ++ pre_all s.last)) l.task
        (subst (λ ts. Distinct ts) c.was tree.distinct)

    child_cancels : Cancels l.task.number tasks (l.task ∷ pre l.kids)
        (fronts slot s ++ (s.task ∷ pre l.others ++ (pre s.rest ++ backs slot s)))
    child_cancels =
        let h = past (beneath s.hole s.task e s.rest) l.others in
        let c = child_spot (before h ++ post l.kids) (after h) refl refl in
        let e1 : (pre_all s.first ++ ((front s.hole ++ s.task ∷ []) ++ pre l.others)) ++ ((pre s.rest ++ back s.hole) ++ pre_all s.last) ≡
        (pre_all s.first ++ front s.hole) ++ (s.task ∷ pre l.others ++ (pre s.rest ++ (back s.hole ++ pre_all s.last))) =
        simp append_assoc in
        subst (λ w. Cancels l.task.number tasks (l.task ∷ pre l.kids) w)
        (ap (λ w. (pre_all s.first ++ w) ++ (back h ++ pre_all s.last)) (front_past (beneath s.hole s.task e s.rest) l.others) ∙
        (ap (λ w. (pre_all s.first ++ ((front s.hole ++ s.task ∷ []) ++ pre l.others)) ++ (w ++ pre_all s.last))
        (back_past (beneath s.hole s.task e s.rest) l.others) ∙ e1))
        (block_parts tasks l.task.number tree (block slot c))

  pub since_kids : {others : List (Rose T)} {e : Entry} {b : List Entry} (id bound : ℕ) (tasks gone new : List (Task T)) →
      CancelsSince slot id bound tasks gone new →
      (a : List Entry) (s : Spot slot tasks others a e b) → s.task.number ≡ id →
      (gone ≡ pre (younger slot bound s.kids)) ×
      (new ≡ fronts slot s ++ (s.task ∷ pre (older slot bound s.kids) ++ (pre s.rest ++ backs slot s)))
  since_kids {e = e} id bound tasks gone new (none_younger tree f) a s same =
      elim (last_kid s.kids) [
        | inl p ↦ (
          sym (ap (λ k. pre (younger slot bound k)) p),
          s.was ∙ ap (λ k. fronts slot s ++ (s.task ∷ pre k ++ (pre s.rest ++ backs slot s))) (p ∙ sym (ap (λ k. older slot bound k) p)),
        )
        | inr l ↦
            let y = youngest_kid s tree l in
            let at : task_at l.task.number tasks ≡ Some l.task = at_its_number s tree l in
            let least = f l.task.number l.task (subst (λ n. youngest (Some n) tasks ≡ Some l.task.number) same y) at in
            let n = none_with (under s.task e) (number_of slot s.task) bound l.others l.task l.entry l.kids (child_good s tree l) least in (
              sym (ap (λ k. pre (younger slot bound k)) l.is ∙ ap (λ k. pre k) n.0),
              s.was ∙ ap (λ k. fronts slot s ++ (s.task ∷ pre k ++ (pre s.rest ++ backs slot s)))
                  (l.is ∙ (sym n.1 ∙ sym (ap (λ k. older slot bound k) l.is))),
            )
      ]
  since_kids {e = e} id bound tasks gone new (one_younger c u g mid later tree yo at less cancels more all) a s same =
      elim (last_kid s.kids) [
        | inl p ↦ absurd (never (sym ((block_children tasks s.task.number tree (block slot s)).2 ∙
            ap (λ k. youngest (Some s.task.number) (pre k)) p) ∙ subst (λ n. youngest (Some n) tasks ≡ Some c) (sym same) yo))
        | inr l ↦
            let y = youngest_kid s tree l in
            let number : c ≡ l.task.number = inner (sym yo ∙ subst (λ n. youngest (Some n) tasks ≡ Some l.task.number) same y) in
            let it : u ≡ l.task = inner (sym at ∙ (ap (λ n. task_at n tasks) number ∙ at_its_number s tree l)) in
            let less2 : number_of slot l.task < bound = subst (λ t. number_of slot t < bound) it less in
            let both = parts_same (λ t. Under tasks l.task.number t.number) tasks g mid (l.task ∷ pre l.kids)
            (fronts slot s ++ (s.task ∷ pre l.others ++ (pre s.rest ++ backs slot s)))
            (subst (λ n. Cancels n tasks g mid) number cancels) (child_cancels s tree l) in
            let rec = since_kids id bound mid later new more (before s.hole ++ post l.others)
            (with_kids s l.others mid (good_before (under s.task e) (number_of slot s.task) l.others (node l.task l.entry l.kids empty)
            (child_good s tree l)) both.1) same in
            let young : younger slot bound s.kids ≡ join (younger slot bound l.others) (node l.task l.entry l.kids empty) =
            ap (λ k. younger slot bound k) l.is ∙ younger_with bound l.others l.task l.entry l.kids less2 in
            let old : older slot bound s.kids ≡ older slot bound l.others =
            ap (λ k. older slot bound k) l.is ∙ older_with bound l.others l.task l.entry l.kids less2 in (
              all ∙ (ap (λ w. w ++ g) rec.0 ∙ (ap (λ w. pre (younger slot bound l.others) ++ w) both.0 ∙
                  sym (ap (λ k. pre k) young ∙ (pre_join (younger slot bound l.others) (node l.task l.entry l.kids empty) ∙
                  ap (λ w. pre (younger slot bound l.others) ++ l.task ∷ w) (append-nil (pre l.kids)))))),
              rec.1 ∙ ap (λ k. fronts slot s ++ (s.task ∷ pre k ++ (pre s.rest ++ backs slot s))) (sym old),
            )
      ]
