-- A task without children that is taken out.
use Rattle.std.proofs.Common.{◌≡◌, ◌⊎◌, inl, inr, ℕ, ◌+◌, Bool, true, false, List, [], ◌∷◌, ◌++◌, length, Option, Some, None, option_map}
use Rattle.std.proofs.Common.{if◌then◌else◌, refl, sym, ap, subst, ◌∙◌, append_assoc, length-append, arith}
use Rattle.std.proofs.lemmas.Bool.{cases_eq, eq-eqb, ne_eqb}
use Rattle.std.proofs.lemmas.List.{append-nil}
use mathlib.Core.Bool.{false≢true}
use Rattle.slab.specs.Slab.{Slab, get, slab_len, Updates}
use Rattle.task_tree.specs.declared.nodes.Node.{Node}
use Rattle.task_tree.specs.declared.nodes.Change.{Change}
use Rattle.task_tree.specs.declared.nodes.Change.TheVariants.{Past}
use Rattle.task_tree.specs.Tasks.{Task, task_at, youngest, first, or_else, without, IsLive, HasNoChild}
use Rattle.task_tree.specs.Nested.{Forest, no_tasks, a_task, Distinct, IsTree}
use Rattle.task_tree.specs.Links.{Whole, node_at, last, Changes, changed, past, is_at}
use Rattle.task_tree.proofs.Standing.{found, without_at, never, inner, absent_parts, absent_head, absent_both, absent_other, distinct_drop}
use Rattle.task_tree.proofs.Standing.{beside, in_first, in_second, cut, youngest_append, youngest_other, youngest_same, some_child}
use Rattle.task_tree.proofs.Standing.{cases_parent, else_none, last_behind}
use Rattle.task_tree.proofs.Forests.{place, forest_empty}
use Rattle.task_tree.proofs.Linking.{children, not_own, not_some}

pub past_own : (k : ℕ) (next : Option ℕ) → past k next (Some k) ≡ next
past_own k next = ap (λ b. if b then next else Some k) (eq-eqb k k refl)

pub past_other : (k n : ℕ) (next : Option ℕ) → (n ≡ k → ⊥) → past k next (Some n) ≡ Some n
past_other k n next d = ap (λ b. if b then next else Some n) (ne_eqb n k d)

own_key : (n : ℕ) → is_at (Some n) n ≡ false → ⊥
own_key n e = false≢true (sym e ∙ eq-eqb n n refl)

module _ {T : Type 0} where
  past_first : (k : ℕ) (next : Option ℕ) (ts : List (Task T)) → task_at k ts ≡ None → past k next (first ts) ≡ first ts
  past_first k next [] e = refl
  past_first k next (t ∷ ts) e = past_other k t.number next (absent_head k t ts e).0

  past_last : (k : ℕ) (next : Option ℕ) (ts : List (Task T)) → task_at k ts ≡ None → past k next (last ts) ≡ last ts
  past_last k next [] e = refl
  past_last k next (t ∷ []) e = past_other k t.number next (absent_head k t [] e).0
  past_last k next (t ∷ u ∷ ts) e = past_last k next (u ∷ ts) (absent_head k t (u ∷ ts) e).1

  past_youngest : (k : ℕ) (next p : Option ℕ) (ts : List (Task T)) → task_at k ts ≡ None → past k next (youngest p ts) ≡ youngest p ts
  past_youngest k next p [] e = refl
  past_youngest k next p (t ∷ ts) e =
      let h = absent_head k t ts e in
      elim (cases_parent p t.parent) [
        | inl s ↦ ap (past k next) (youngest_same p t ts s) ∙
            (go (youngest p ts) (past_youngest k next p ts h.1) h.0 ∙ sym (youngest_same p t ts s))
        | inr d ↦ ap (past k next) (youngest_other p t ts d) ∙ (past_youngest k next p ts h.1 ∙ sym (youngest_other p t ts d))
      ]
    where
      go : (o : Option ℕ) → past k next o ≡ o → (t.number ≡ k → ⊥) → past k next (or_else o (Some t.number)) ≡ or_else o (Some t.number)
      go None e d = past_other k t.number next d
      go (Some n) e d = e

  pub drop_other : (p : Option ℕ) (a b : List (Task T)) (x : Task T) → (p ≡ x.parent → ⊥) → youngest p (a ++ x ∷ b) ≡ youngest p (a ++ b)
  drop_other p a b x d =
      youngest_append p a (x ∷ b) ∙ (ap (λ o. or_else o (youngest p a)) (youngest_other p x b d) ∙ sym (youngest_append p a b))

  pub with_same : (p : Option ℕ) (a b : List (Task T)) (x : Task T) → p ≡ x.parent →
      youngest p (a ++ x ∷ b) ≡ or_else (or_else (youngest p b) (Some x.number)) (youngest p a)
  with_same p a b x s = youngest_append p a (x ∷ b) ∙ ap (λ o. or_else o (youngest p a)) (youngest_same p x b s)

  -- the last child of a parent, where a task is gone
  youngest_past : (k : ℕ) (next p : Option ℕ) (a b : List (Task T)) (x : Task T) → x.number ≡ k → task_at k a ≡ None → task_at k b ≡ None →
      (p ≡ x.parent → next ≡ youngest p a) → past k next (youngest p (a ++ x ∷ b)) ≡ youngest p (a ++ b)
  youngest_past k next p a b x number ea eb own =
      elim (cases_parent p x.parent) [
        | inl s ↦ ap (past k next) (with_same p a b x s) ∙
            (go (youngest p b) (past_youngest k next p b eb) (own s) ∙ sym (youngest_append p a b))
        | inr d ↦ ap (past k next) (drop_other p a b x d) ∙ past_youngest k next p (a ++ b) (absent_both k a b ea eb)
      ]
    where
      go : (o : Option ℕ) → past k next o ≡ o → next ≡ youngest p a → past k next (or_else (or_else o (Some x.number)) (youngest p a)) ≡
          or_else o (youngest p a)
      go None e h = ap (λ n. past k next (Some n)) number ∙ (past_own k next ∙ h)
      go (Some n) e h = e

  first_past : (k : ℕ) (next : Option ℕ) (a b : List (Task T)) (x : Task T) → x.number ≡ k → task_at k a ≡ None → next ≡ first b →
      past k next (first (a ++ x ∷ b)) ≡ first (a ++ b)
  first_past k next [] b x number e own = ap (λ n. past k next (Some n)) number ∙ (past_own k next ∙ own)
  first_past k next (t ∷ ts) b x number e own = past_other k t.number next (absent_head k t ts e).0

  last_past : (k : ℕ) (next : Option ℕ) (a b : List (Task T)) (x : Task T) → x.number ≡ k → task_at k b ≡ None → next ≡ last a →
      past k next (last (a ++ x ∷ b)) ≡ last (a ++ b)
  last_past k next a [] x number e own =
      ap (past k next) (last_behind a x []) ∙ (ap (λ n. past k next (Some n)) number ∙
      (past_own k next ∙ (own ∙ ap last (sym (append-nil a)))))
  last_past k next a (t ∷ ts) x number e own =
      ap (past k next) (last_behind a x (t ∷ ts)) ∙ (past_last k next (t ∷ ts) e ∙ sym (last_behind a t ts))

  abbrev make : Task T → Option ℕ → Option ℕ → Option ℕ → Option ℕ → Node T
  make t y o b f = record {
    parent = t.parent;
    role = t.role;
    item = t.item;
    links =
        record { youngest = y; older = o; before = b; behind = f };
  }

  pub same_node : (t : Task T) {y1 y2 o1 o2 b1 b2 f1 f2 : Option ℕ} → y1 ≡ y2 → o1 ≡ o2 → b1 ≡ b2 → f1 ≡ f2 →
      record { parent = t.parent; role = t.role; item = t.item; links = record { youngest = y1; older = o1; before = b1; behind = f1 } } ≡
      make t y2 o2 b2 f2
  same_node t {y1} {y2} {o1} {o2} {b1} {b2} {f1} {f2} y o b f =
      ap (λ z. make t z o1 b1 f1) y ∙ (ap (λ z. make t y2 z b1 f1) o ∙ (ap (λ z. make t y2 o2 z f1) b ∙ ap (λ z. make t y2 o2 b2 z) f))

  -- a task that stands before the one that is gone
  module _ (ts front back : List (Task T)) (x : Task T) (tree : IsTree ts) (was : ts ≡ front ++ x ∷ back) where
    abbrev gone : Change
    gone = Past x.number (node_at front x back).links

    alone : (task_at x.number front ≡ None) × (task_at x.number back ≡ None)
    alone = beside front back x (subst Distinct was tree.distinct)

    settled : (a b : List (Task T)) (e : Task T) → task_at x.number a ≡ None → task_at x.number b ≡ None →
        changed gone (node_at a e b) ≡ node_at a e b
    settled a b e ha hb =
        let its = (node_at front x back).links in
        same_node e (past_youngest x.number its.older (Some e.number) b hb) (past_youngest x.number its.older e.parent a ha)
        (past_last x.number its.before a ha) (past_first x.number its.behind b hb)

    before_changes : (a m : List (Task T)) (e : Task T) → front ≡ a ++ e ∷ m →
        changed gone (node_at a e (m ++ x ∷ back)) ≡ node_at a e (m ++ back)
    before_changes a m e is =
        let its = (node_at front x back).links in
        let split = absent_parts x.number a (e ∷ m) (sym (ap (task_at x.number) is) ∙ alone.0) in
        let in_m = (absent_head x.number e m split.1).1 in
        let place_e : ts ≡ a ++ e ∷ (m ++ x ∷ back) = was ∙ (ap (λ xs. xs ++ x ∷ back) is ∙ append_assoc a (e ∷ m) (x ∷ back)) in
        let p = place None ts a e (m ++ x ∷ back) tree.forest tree.distinct (λ n h. absurd (never h)) place_e in
        let none_before : youngest (Some e.number) a ≡ None = (children ts a e (m ++ x ∷ back) tree place_e p).0 in
        let own : Some e.number ≡ x.parent → its.older ≡ youngest (Some e.number) m = λ s.
        ap (λ q. youngest q front) (sym s) ∙ (ap (youngest (Some e.number)) is ∙ (youngest_append (Some e.number) a (e ∷ m) ∙
        (ap (λ o. or_else (youngest (Some e.number) (e ∷ m)) o) none_before ∙
        (else_none (youngest (Some e.number) (e ∷ m)) ∙
        youngest_other (Some e.number) e m (not_own ts a (m ++ x ∷ back) e tree place_e))))) in
        same_node e
        (youngest_past x.number its.older (Some e.number) m back x refl in_m alone.1 own)
        (past_youngest x.number its.older e.parent a split.0)
        (past_last x.number its.before a split.0)
        (first_past x.number its.behind m back x refl in_m refl)

    before_same : (a m : List (Task T)) (e : Task T) → front ≡ a ++ e ∷ m → is_at (last front) e.number ≡ false →
        is_at x.parent e.number ≡ false → node_at a e (m ++ x ∷ back) ≡ node_at a e (m ++ back)
    before_same a m e is not_last not_parent =
        let other : Some e.number ≡ x.parent → ⊥ = λ s. own_key e.number (ap (λ p. is_at p e.number) s ∙ not_parent) in
        same_node e (drop_other (Some e.number) m back x other) refl refl (go m is)
      where
        go : (n : List (Task T)) → front ≡ a ++ e ∷ n → first (n ++ x ∷ back) ≡ first (n ++ back)
        go [] h = absurd (own_key e.number (ap (λ l. is_at l e.number) (sym (ap last h ∙ last_behind a e [])) ∙ not_last))
        go (t ∷ n) h = refl

    behind_changes : (m b : List (Task T)) (e : Task T) → back ≡ m ++ e ∷ b →
        changed gone (node_at (front ++ x ∷ m) e b) ≡ node_at (front ++ m) e b
    behind_changes m b e is =
        let its = (node_at front x back).links in
        let split = absent_parts x.number m (e ∷ b) (sym (ap (task_at x.number) is) ∙ alone.1) in
        let in_b = (absent_head x.number e b split.1).1 in
        same_node e
        (past_youngest x.number its.older (Some e.number) b in_b)
        (youngest_past x.number its.older e.parent front m x refl alone.0 split.0 (λ s. ap (λ q. youngest q front) (sym s)))
        (last_past x.number its.before front m x refl split.0 refl)
        (past_first x.number its.behind b in_b)

    -- the next sibling of a task without children stands right behind it
    next_sibling : youngest (Some x.number) ts ≡ None → (m b : List (Task T)) (e : Task T) → back ≡ m ++ e ∷ b →
        is_at (first back) e.number ≡ false → e.parent ≡ x.parent → youngest e.parent m ≡ None → ⊥
    next_sibling childless m b e is not_first same none =
        let p = place None ts front x back tree.forest tree.distinct (λ n h. absurd (never h)) was in
        let no_kids = forest_empty (Some x.number) p.kids p.beneath (sym (children ts front x back tree was p).2 ∙ childless) in
        let rest : back ≡ p.younger ++ p.outer = p.was ∙ ap (λ ks. ks ++ (p.younger ++ p.outer)) no_kids in
        go p.younger p.outer p.siblings rest p.no_more
      where
        first_is : (ms : List (Task T)) (y : Task T) (ys : List (Task T)) → youngest e.parent ms ≡ None → back ≡ ms ++ e ∷ b →
            back ≡ y ∷ ys → y.parent ≡ x.parent → ⊥
        first_is [] y ys nothing h g q = own_key e.number (ap (λ l. is_at l e.number) (sym (ap first h)) ∙ not_first)
        first_is (z ∷ zs) y ys nothing h g q =
            let is_y : z ≡ y = cc in
            some_child e.parent [] zs z (same ∙ (sym q ∙ ap (λ (w : Task T). w.parent) (sym is_y))) nothing

        go : (younger outer : List (Task T)) → Forest x.parent younger → back ≡ younger ++ outer → youngest x.parent outer ≡ None → ⊥
        go younger outer no_tasks h nothing = some_child x.parent m b e (sym same) (sym (ap (youngest x.parent) (sym h ∙ is)) ∙ nothing)
        go younger outer (a_task y kids others f parent role below more) h nothing =
            first_is m y ((kids ++ others) ++ outer) none is (h ∙ ap (λ us. us ++ outer) f) parent

    behind_same : youngest (Some x.number) ts ≡ None → (m b : List (Task T)) (e : Task T) → back ≡ m ++ e ∷ b →
        is_at (first back) e.number ≡ false → node_at (front ++ x ∷ m) e b ≡ node_at (front ++ m) e b
    behind_same childless m b e is not_first = same_node e refl (older (cases_parent e.parent x.parent)) (before m is) refl
      where
        before : (ms : List (Task T)) → back ≡ ms ++ e ∷ b → last (front ++ x ∷ ms) ≡ last (front ++ ms)
        before [] h = absurd (own_key e.number (ap (λ l. is_at l e.number) (sym (ap first h)) ∙ not_first))
        before (y ∷ ys) h = last_behind front x (y ∷ ys) ∙ sym (last_behind front y ys)

        pick : (o : Option ℕ) → youngest e.parent m ≡ o → e.parent ≡ x.parent →
            or_else (or_else o (Some x.number)) (youngest e.parent front) ≡ or_else o (youngest e.parent front)
        pick None h s = absurd (next_sibling childless m b e is not_first s h)
        pick (Some n) h s = refl

        older : (e.parent ≡ x.parent) ⊎ (e.parent ≡ x.parent → ⊥) → youngest e.parent (front ++ x ∷ m) ≡ youngest e.parent (front ++ m)
        older (inl s) = with_same e.parent front m x s ∙ (pick (youngest e.parent m) refl s ∙ sym (youngest_append e.parent front m))
        older (inr d) = drop_other e.parent front m x d

  abbrev step : Change → Bool → Option (Node T) → Option (Node T)
  step change b o = if b then option_map (changed change) o else o

  three : (change : Change) (b1 b2 b3 : Bool) (old new : Node T) → changed change old ≡ new → changed change new ≡ new →
      (b1 ≡ false → b2 ≡ false → b3 ≡ false → old ≡ new) → step change b3 (step change b2 (step change b1 (Some old))) ≡ Some new
  three change false false false old new e f h = ap (λ n. Some n) (h refl refl refl)
  three change false false true old new e f h = ap (λ n. Some n) e
  three change false true false old new e f h = ap (λ n. Some n) e
  three change true false false old new e f h = ap (λ n. Some n) e
  three change false true true old new e f h = ap (λ n. Some n) (ap (changed change) e ∙ f)
  three change true false true old new e f h = ap (λ n. Some n) (ap (changed change) e ∙ f)
  three change true true false old new e f h = ap (λ n. Some n) (ap (changed change) e ∙ f)
  three change true true true old new e f h = ap (λ n. Some n) (ap (changed change) (ap (changed change) e ∙ f) ∙ f)

  none_stays : (change : Change) (b : Bool) → step change b None ≡ None
  none_stays change true = refl
  none_stays change false = refl

  pub taken : (nodes n1 n2 n3 n4 : Slab (Node T)) (head tail : Option ℕ) (ts front back : List (Task T)) (x : Task T) →
      Whole nodes head tail ts → ts ≡ front ++ x ∷ back → youngest (Some x.number) ts ≡ None →
      get n1 x.number ≡ None → ((m : ℕ) → (m ≡ x.number → ⊥) → get n1 m ≡ get nodes m) → slab_len n1 + 1 ≡ slab_len nodes →
      Changes n1 n2 (last front) (Past x.number (node_at front x back).links) →
      Changes n2 n3 (first back) (Past x.number (node_at front x back).links) →
      Changes n3 n4 x.parent (Past x.number (node_at front x back).links) →
      Whole n4 (past x.number (first back) head) (past x.number (youngest x.parent front) tail) (front ++ back)
  taken nodes n1 n2 n3 n4 head tail ts front back x w was childless out others less c1 c2 c3 =
      let change : Change = Past x.number (node_at front x back).links in
      let alone = beside front back x (subst Distinct was w.tree.distinct) in
      let p = place None ts front x back w.tree.forest w.tree.distinct (λ n h. absurd (never h)) was in
      let no_kids = forest_empty (Some x.number) p.kids p.beneath (sym (children ts front x back w.tree was p).2 ∙ childless) in
      let rest : back ≡ p.younger ++ p.outer = p.was ∙ ap (λ ks. ks ++ (p.younger ++ p.outer)) no_kids in
      let chain : (m : ℕ) (o : Option (Node T)) → get n1 m ≡ o →
      get n4 m ≡ step change (is_at x.parent m) (step change (is_at (first back) m) (step change (is_at (last front) m) o)) = λ m o e.
      c3.nodes m ∙ ap (step change (is_at x.parent m))
      (c2.nodes m ∙ ap (step change (is_at (first back) m)) (c1.nodes m ∙ ap (step change (is_at (last front) m)) e)) in
      record {
        tree = record {
          forest = subst (λ xs. Forest None (front ++ xs)) (sym rest) (p.around [] no_tasks);
          distinct =
              distinct_drop front (x ∷ []) back (subst Distinct was w.tree.distinct);
        };
        linked = record {
          each = λ a b e is. elim (cut front back a e b is) [
            | in_first m g h ↦
                let split = absent_parts x.number a (e ∷ m) (sym (ap (task_at x.number) g) ∙ alone.0) in
                let e_head = absent_head x.number e m split.1 in
                let old : ts ≡ a ++ e ∷ (m ++ x ∷ back) = was ∙ (ap (λ xs. xs ++ x ∷ back) g ∙ append_assoc a (e ∷ m) (x ∷ back)) in
                let there : get n1 e.number ≡ Some (node_at a e (m ++ x ∷ back)) =
                others e.number e_head.0 ∙ w.linked.each a (m ++ x ∷ back) e old in
                chain e.number (Some (node_at a e (m ++ x ∷ back))) there ∙ (
                three change (is_at (last front) e.number) (is_at (first back) e.number) (is_at x.parent e.number)
                (node_at a e (m ++ x ∷ back)) (node_at a e (m ++ back))
                (before_changes ts front back x w.tree was a m e g)
                (settled ts front back x w.tree was a (m ++ back) e split.0 (absent_both x.number m back e_head.1 alone.1))
                (λ h1 h2 h3. before_same ts front back x w.tree was a m e g h1 h3)
                ∙ ap (λ xs. Some (node_at a e xs)) (sym h))
            | in_second m g h ↦
                let split = absent_parts x.number m (e ∷ b) (sym (ap (task_at x.number) g) ∙ alone.1) in
                let e_head = absent_head x.number e b split.1 in
                let old : ts ≡ (front ++ x ∷ m) ++ e ∷ b =
                was ∙ (ap (λ xs. front ++ x ∷ xs) g ∙ sym (append_assoc front (x ∷ m) (e ∷ b))) in
                let there : get n1 e.number ≡ Some (node_at (front ++ x ∷ m) e b) =
                others e.number e_head.0 ∙ w.linked.each (front ++ x ∷ m) b e old in
                chain e.number (Some (node_at (front ++ x ∷ m) e b)) there ∙ (
                three change (is_at (last front) e.number) (is_at (first back) e.number) (is_at x.parent e.number)
                (node_at (front ++ x ∷ m) e b) (node_at (front ++ m) e b)
                (behind_changes ts front back x w.tree was m b e g)
                (settled ts front back x w.tree was (front ++ m) b e (absent_both x.number front m alone.0 split.0) e_head.1)
                (λ h1 h2 h3. behind_same ts front back x w.tree was childless m b e g h2)
                ∙ ap (λ xs. Some (node_at xs e b)) (sym h))
          ];
          others = λ n absent.
              let split = absent_parts n front back absent in
              let at_n : (n ≡ x.number) ⊎ (n ≡ x.number → ⊥) → get n1 n ≡ None = λ d. elim d [
                | inl s ↦ ap (get n1) s ∙ out
                | inr d ↦ others n d ∙ w.linked.others n
                    (ap (task_at n) was ∙ absent_both n front (x ∷ back) split.0 (absent_other n x back (λ e. d (sym e)) split.1))
              ] in
              chain n None (at_n (cases_eq n x.number)) ∙
              (ap (λ o. step change (is_at x.parent n) (step change (is_at (first back) n) o))
              (none_stays change (is_at (last front) n)) ∙
              (ap (step change (is_at x.parent n)) (none_stays change (is_at (first back) n)) ∙ none_stays change (is_at x.parent n)));
          count = omega (
            arith,
            c1.count,
            c2.count,
            c3.count,
            less,
            w.linked.count,
            ap length was,
            length-append front (x ∷ back),
            length-append front back,
          );
        };
        head_is = ap (past x.number (first back)) (w.head_is ∙ ap first was) ∙
            first_past x.number (first back) front back x refl alone.0 refl;
        tail_is = ap (past x.number (youngest x.parent front)) (w.tail_is ∙ ap (youngest None) was) ∙
            youngest_past x.number (youngest x.parent front) None front back x refl alone.0 alone.1
            (λ s. ap (λ q. youngest q front) (sym s));
      }

  pub take_out : (nodes n1 n2 n3 n4 : Slab (Node T)) (head tail : Option ℕ) (ts now : List (Task T)) (id : ℕ) (node : Node T) →
      Whole nodes head tail ts → ts ≡ now → IsLive id now → HasNoChild id now → get nodes id ≡ Some node →
      Updates nodes n1 id None → slab_len n1 + 1 ≡ slab_len nodes → Changes n1 n2 node.links.before (Past id node.links) →
      Changes n2 n3 node.links.behind (Past id node.links) → Changes n3 n4 node.parent (Past id node.links) →
      Whole n4 (past id node.links.behind head) (past id node.links.older tail) (without id now)
  take_out nodes n1 n2 n3 n4 head tail ts now id node w view live childless got u less c1 c2 c3 = go (task_at id now) refl
    where
      go : (o : Option (Task T)) → task_at id now ≡ o →
          Whole n4 (past id node.links.behind head) (past id node.links.older tail) (without id now)
      go None e = absurd (not_some id now live (sym e))
      go (Some x) e =
          let a = found id now x e in
          let was : ts ≡ a.front ++ x ∷ a.back = view ∙ a.was in
          let node_is : node ≡ node_at a.front x a.back =
          inner (sym got ∙ (ap (get nodes) (sym a.number) ∙ w.linked.each a.front a.back x was)) in
          let absent : task_at x.number a.front ≡ None = subst (λ n. task_at n a.front ≡ None) (sym a.number) a.absent in
          let left : a.front ++ a.back ≡ without x.number now = sym (ap (without x.number) a.was ∙ without_at a.front a.back x absent) in
          let none : youngest (Some x.number) ts ≡ None =
          ap (λ n. youngest (Some n) ts) a.number ∙ (ap (youngest (Some id)) view ∙ childless) in
          let d1 = subst (λ m. Changes n1 n2 m.links.before (Past x.number m.links)) node_is
          (subst (λ k. Changes n1 n2 node.links.before (Past k node.links)) (sym a.number) c1) in
          let d2 = subst (λ m. Changes n2 n3 m.links.behind (Past x.number m.links)) node_is
          (subst (λ k. Changes n2 n3 node.links.behind (Past k node.links)) (sym a.number) c2) in
          let d3 = subst (λ m. Changes n3 n4 m.parent (Past x.number m.links)) node_is
          (subst (λ k. Changes n3 n4 node.parent (Past k node.links)) (sym a.number) c3) in
          let whole = taken nodes n1 n2 n3 n4 head tail ts a.front a.back x w was none (ap (get n1) a.number ∙ u.changed)
          (λ m d. u.others m (λ s. d (s ∙ sym a.number))) less d1 d2 d3 in
          subst (λ k. Whole n4 (past k node.links.behind head) (past k node.links.older tail) (without k now)) a.number
          (subst (λ (m : Node T). Whole n4 (past x.number m.links.behind head) (past x.number m.links.older tail) (without x.number now))
          (sym node_is)
          (subst (λ xs. Whole n4 (past x.number (first a.back) head) (past x.number (youngest x.parent a.front) tail) xs) left whole))
