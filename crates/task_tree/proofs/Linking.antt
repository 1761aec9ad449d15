-- What the nodes of tasks tell.
use Rattle.std.proofs.Common.{◌≡◌, inl, inr, ◌↔◌, ℕ, true, false, Bool, IsTrue, List, [], ◌∷◌, ◌++◌, length, Option, Some, None, IsSome}
use Rattle.std.proofs.Common.{is_some, option_map, refl, sym, ap, subst, ◌∙◌, append_assoc}
use Rattle.std.proofs.lemmas.Bool.{ne_eqb}
use Rattle.std.proofs.Common.{Bor, option_copied, count_by, slice_index_or}
use mathlib.Core.Bool.{false≢true}
use Rattle.slab.specs.Slab.{Slab, get, slab_len}
use Rattle.task_tree.specs.declared.nodes.Node.{Node}
use Rattle.task_tree.specs.declared.nodes.Links.{Links}
use Rattle.task_tree.specs.Tasks.{Task, task_at, youngest, after, first, or_else}
use Rattle.task_tree.specs.Nested.{no_tasks, Distinct, IsTree}
use Rattle.task_tree.specs.Links.{Linked, Whole, node_at, task_of, last}
use Rattle.task_tree.specs.View.{walk}
use Rattle.task_tree.proofs.Standing.{At, found, never, inner, absent_parts, absent_head, absent_then, beside, after_at, no_child_parts}
use Rattle.task_tree.proofs.Standing.{youngest_append, youngest_other, else_none}
use Rattle.task_tree.proofs.Forests.{Place, place, outsiders, no_split}

pub tested : {A : Type 0} (b : Bool) (o : Option A) → IsTrue b ↔ IsSome o → b ≡ is_some o
tested true None e = absurd (false≢true (e.0 refl))
tested true (Some a) e = refl
tested false None e = refl
tested false (Some a) e = e.1 refl

-- where a link leads
abbrev pub leads : (Links → Option ℕ) → Option Links → Option ℕ
leads link None = None
leads link (Some links) = link links

module _ {T : Type 0} where
  -- a number is that of a task with its node, or of neither
  pub data Reads (nodes : Slab (Node T)) (ts : List (Task T)) (n : ℕ) : Type 0 where
    not_live : task_at n ts ≡ None → get nodes n ≡ None → Reads nodes ts n
    is_live : (t : Task T) → task_at n ts ≡ Some t → (a : At n ts t) → get nodes n ≡ Some (node_at a.front t a.back) → Reads nodes ts n

  pub reads : (nodes : Slab (Node T)) (ts : List (Task T)) (n : ℕ) → Linked nodes ts → Reads nodes ts n
  reads nodes ts n linked = go (task_at n ts) refl
    where
      go : (o : Option (Task T)) → task_at n ts ≡ o → Reads nodes ts n
      go None e = not_live e (linked.others n e)
      go (Some t) e =
          let a = found n ts t e in
          is_live t e a (subst (λ m. get nodes m ≡ Some (node_at a.front t a.back)) a.number (linked.each a.front a.back t a.was))

  -- nodes and tasks are one map
  pub one_map : (nodes : Slab (Node T)) (ts : List (Task T)) (n : ℕ) → Linked nodes ts → option_map (task_of n) (get nodes n) ≡ task_at n ts
  one_map nodes ts n linked =
      elim (reads nodes ts n linked) [
        | not_live e g ↦ ap (option_map (task_of n)) g ∙ sym e
        | is_live t e a g ↦ ap (option_map (task_of n)) g ∙ (ap (λ m. Some (task_of m (node_at a.front t a.back))) (sym a.number) ∙ sym e)
      ]

  abbrev pub links_in : Option (Node T) → Option Links
  links_in = option_map (λ (n : Node T). n.links)

  after_absent : (n : ℕ) (ts : List (Task T)) → task_at n ts ≡ None → after n ts ≡ None
  after_absent n [] e = refl
  after_absent n (t ∷ ts) e =
      let h = absent_head n t ts e in further_after n t ts h.0 ∙ after_absent n ts h.1
    where
      further_after : (n : ℕ) (t : Task T) (ts : List (Task T)) → (t.number ≡ n → ⊥) → after n (t ∷ ts) ≡ after n ts
      further_after n t ts d = rw (ne_eqb t.number n d) refl

  pub after_is : (nodes : Slab (Node T)) (ts : List (Task T)) (n : ℕ) → Linked nodes ts →
      leads (λ l. l.behind) (links_in (get nodes n)) ≡ after n ts
  after_is nodes ts n linked =
      elim (reads nodes ts n linked) [
        | not_live e g ↦ ap (λ o. leads (λ l. l.behind) (links_in o)) g ∙ sym (after_absent n ts e)
        | is_live t e a g ↦
            let behind : after t.number (a.front ++ t ∷ a.back) ≡ first a.back =
            after_at a.front a.back t (subst (λ m. task_at m a.front ≡ None) (sym a.number) a.absent) in
            ap (λ o. leads (λ l. l.behind) (links_in o)) g ∙
            sym (ap (after n) a.was ∙ (ap (λ m. after m (a.front ++ t ∷ a.back)) (sym a.number) ∙ behind))
      ]

  -- no task is its own parent
  pub not_own : (ts front back : List (Task T)) (t : Task T) → IsTree ts → ts ≡ front ++ t ∷ back → Some t.number ≡ t.parent → ⊥
  not_own ts front back t tree was e =
      let p = place None ts front t back tree.forest tree.distinct (λ n h. absurd (never h)) was in
      let alone = beside front back t (subst Distinct was tree.distinct) in
      elim p.above [
        | inl none ↦ never (sym none ∙ sym e)
        | inr h ↦ never (sym (subst (λ n. task_at n front ≡ None) (inner (e ∙ h.1)) alone.0) ∙ h.2.1)
      ]

  -- a task's children stand beneath it
  pub children : (ts front : List (Task T)) (t : Task T) (back : List (Task T)) → IsTree ts → ts ≡ front ++ t ∷ back →
      (p : Place None front t back) →
      (youngest (Some t.number) front ≡ None) × (youngest (Some t.number) (p.younger ++ p.outer) ≡ None) ×
      (youngest (Some t.number) ts ≡ youngest (Some t.number) p.kids) ×
      (youngest (Some t.number) back ≡ youngest (Some t.number) p.kids)
  children ts front t back tree was p =
      let q = Some t.number in
      let rest = p.younger ++ p.outer in
      let alone = beside front back t (subst Distinct was tree.distinct) in
      let absent : task_at t.number rest ≡ None =
      (absent_parts t.number p.kids rest (subst (λ xs. task_at t.number xs ≡ None) p.was alone.1)).1 in
      let absent_all : task_at t.number (front ++ rest) ≡ None = absent_then t.number front rest alone.0 ∙ absent in
      let none = no_child_parts q front rest (outsiders None (front ++ rest) (p.around [] no_tasks) q (λ e. never e)
      (λ n e. subst (λ m. task_at m (front ++ rest) ≡ None) (inner e) absent_all)) in
      let in_back : youngest q back ≡ youngest q p.kids =
      ap (youngest q) p.was ∙ (youngest_append q p.kids rest ∙ ap (λ o. or_else o (youngest q p.kids)) none.1) in
      let in_all : youngest q ts ≡ youngest q p.kids =
      ap (youngest q) was ∙ (youngest_append q front (t ∷ back) ∙
      (ap (λ o. or_else (youngest q (t ∷ back)) o) none.0 ∙
      (else_none (youngest q (t ∷ back)) ∙ (youngest_other q t back (not_own ts front back t tree was) ∙ in_back)))) in
      (none.0, none.1, in_all, in_back)

  pub youngest_is : (nodes : Slab (Node T)) (ts : List (Task T)) (n : ℕ) → IsTree ts → Linked nodes ts →
      leads (λ l. l.youngest) (links_in (get nodes n)) ≡ youngest (Some n) ts
  youngest_is nodes ts n tree linked =
      elim (reads nodes ts n linked) [
        | not_live e g ↦ ap (λ o. leads (λ l. l.youngest) (links_in o)) g ∙
            sym (outsiders None ts tree.forest (Some n) (λ h. never h) (λ m h. subst (λ k. task_at k ts ≡ None) (inner h) e))
        | is_live t e a g ↦
            let p = place None ts a.front t a.back tree.forest tree.distinct (λ m h. absurd (never h)) a.was in
            let c = children ts a.front t a.back tree a.was p in
            let both : youngest (Some t.number) a.back ≡ youngest (Some t.number) ts = c.3 ∙ sym c.2 in
            ap (λ o. leads (λ l. l.youngest) (links_in o)) g ∙ (both ∙ ap (λ m. youngest (Some m) ts) a.number)
      ]

  -- a walk along the links gives the tasks
  pub walk_all : (nodes : Slab (Node T)) (ts done left : List (Task T)) → Linked nodes ts → ts ≡ done ++ left →
      walk (length left) nodes (first left) ≡ left
  walk_all nodes ts done [] linked e = refl
  walk_all nodes ts done (t ∷ left) linked e =
      let on : Option (Node T) → List (Task T) =
      λ o. elim o [ None ↦ [] | Some node ↦ task_of t.number node ∷ walk (length left) nodes node.links.behind ] in
      ap on (linked.each done left t e) ∙ ap (λ us. t ∷ us)
      (walk_all nodes ts (done ++ t ∷ []) left linked (e ∙ sym (append_assoc done (t ∷ []) left)))

  pub walk_is : (nodes : Slab (Node T)) (head tail : Option ℕ) (ts : List (Task T)) → Whole nodes head tail ts →
      walk (slab_len nodes) nodes head ≡ ts
  walk_is nodes head tail ts w =
      ap (λ n. walk n nodes head) w.linked.count ∙ (ap (λ h. walk (length ts) nodes h) w.head_is ∙ walk_all nodes ts [] ts w.linked refl)

  pub whole_walk : (nodes : Slab (Node T)) (head tail : Option ℕ) (ts : List (Task T)) → Whole nodes head tail ts →
      Whole nodes head tail (walk (slab_len nodes) nodes head)
  whole_walk nodes head tail ts w = subst (λ us. Whole nodes head tail us) (sym (walk_is nodes head tail ts w)) w

  pub seen : (nodes : Slab (Node T)) (ts now : List (Task T)) (n : ℕ) → Linked nodes ts → ts ≡ now → (o p : Option (Bor (Node T))) →
      option_copied o ≡ get nodes n → o ≡ p → option_map (task_of n) (option_copied p) ≡ task_at n now
  seen nodes ts now n linked view o p got is =
      sym (ap (λ q. option_map (task_of n) (option_copied q)) is) ∙
      (ap (option_map (task_of n)) got ∙ (one_map nodes ts n linked ∙ ap (task_at n) view))

  there_is : (m : Option (Node T)) (o : Option (Task T)) (n : ℕ) → option_map (task_of n) m ≡ o → is_some m ≡ is_some o
  there_is None o n e = ap is_some e
  there_is (Some node) o n e = ap is_some e

  pub live_is : (nodes : Slab (Node T)) (ts now : List (Task T)) (n : ℕ) → Linked nodes ts → ts ≡ now →
      is_some (get nodes n) ≡ is_some (task_at n now)
  live_is nodes ts now n linked view = there_is (get nodes n) (task_at n now) n (one_map nodes ts n linked ∙ ap (task_at n) view)

  abbrev pub parent_in : Option (Task T) → Option ℕ
  parent_in o = elim o [ None ↦ None | Some t ↦ t.parent ]

  pub not_some : (n : ℕ) (ts : List (Task T)) → IsSome (task_at n ts) → None ≡ task_at n ts → ⊥
  not_some n ts live e = false≢true (ap is_some e ∙ live)

  pub last_none : (front : List (Task T)) → last front ≡ None → front ≡ []
  last_none [] e = refl
  last_none (t ∷ []) e = absurd (never (sym e))
  last_none (t ∷ u ∷ ts) e = absurd (not_nil (last_none (u ∷ ts) e))
    where
      not_nil : u ∷ ts ≡ [] → ⊥
      not_nil h = absurd (cc)

  pub last_split : (front : List (Task T)) (n : ℕ) → last front ≡ Some n →
      (some : List (Task T)) × (t : Task T) × (front ≡ some ++ t ∷ []) × (t.number ≡ n)
  last_split [] n e = absurd (never e)
  last_split (t ∷ []) n e = ([], t, refl, inner e)
  last_split (t ∷ u ∷ ts) n e =
      let r = last_split (u ∷ ts) n e in
      (t ∷ r.0, r.1, ap (λ xs. t ∷ xs) r.2, r.3)

  pub behind_is : (nodes : Slab (Node T)) (ts now : List (Task T)) (n : ℕ) (o : Option ℕ) → Linked nodes ts → ts ≡ now → o ≡ Some n →
      (front back : List (Task T)) → now ≡ front ++ back → o ≡ last front → leads (λ l. l.behind) (links_in (get nodes n)) ≡ first back
  behind_is nodes ts now n o linked view is front back was end =
      let s = last_split front n (sym end ∙ is) in
      let place : ts ≡ s.0 ++ s.1 ∷ back = view ∙ (was ∙ (ap (λ xs. xs ++ back) s.2 ∙ append_assoc s.0 (s.1 ∷ []) back)) in
      let node = subst (λ m. get nodes m ≡ Some (node_at s.0 s.1 back)) s.3 (linked.each s.0 back s.1 place) in
      ap (λ o. leads (λ l. l.behind) (links_in o)) node

  pub head_is : (head o : Option ℕ) (ts now : List (Task T)) → head ≡ first ts → ts ≡ now → o ≡ None → (front back : List (Task T)) →
      now ≡ front ++ back → o ≡ last front → head ≡ first back
  head_is head o ts now h view is front back was end =
      h ∙ (ap first (view ∙ was) ∙ ap (λ xs. first (xs ++ back)) (last_none front (sym end ∙ is)))

  pub empty_whole : (nodes : Slab (Node T)) → nodes.slots ≡ [] → Whole nodes None None (walk (slab_len nodes) nodes None)
  empty_whole nodes e =
      let count : slab_len nodes ≡ 0 = ap (count_by is_some) e in
      let gone : (n : ℕ) → get nodes n ≡ None = λ n. ap (λ s. slice_index_or s n None) e ∙ refl in
      whole_walk nodes None None [] (record {
        tree = record { forest = no_tasks; distinct = tt };
        linked = record { each = λ front back t was. absurd (no_split front t back was); others = λ n absent. gone n; count = count };
        head_is = refl;
        tail_is = refl;
      })

  pub same_slots : (nodes next : Slab (Node T)) (head tail : Option ℕ) (ts : List (Task T)) → next.slots ≡ nodes.slots →
      Whole nodes head tail ts → Whole next head tail ts
  same_slots nodes next head tail ts e w =
      let at : (n : ℕ) → get next n ≡ get nodes n = λ n. ap (λ s. slice_index_or s n None) e in
      record {
        tree = w.tree;
        linked = record {
          each = λ front back t was. at t.number ∙ w.linked.each front back t was;
          others = λ n absent. at n ∙ w.linked.others n absent;
          count = ap (count_by is_some) e ∙ w.linked.count;
        };
        head_is = w.head_is;
        tail_is = w.tail_is;
      }

  pub fresh_is : (nodes : Slab (Node T)) (ts now : List (Task T)) (n : ℕ) → Linked nodes ts → ts ≡ now → get nodes n ≡ None →
      task_at n now ≡ None
  fresh_is nodes ts now n linked view e = sym (ap (task_at n) view) ∙ (sym (one_map nodes ts n linked) ∙ ap (option_map (task_of n)) e)
