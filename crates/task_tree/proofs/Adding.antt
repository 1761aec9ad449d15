-- A task that is added.
use Rattle.std.proofs.Common.{◌≡◌, inl, inr, ℕ, ◌+◌, Bool, true, false, List, [], ◌∷◌, ◌++◌, length, Option, Some, None, option_map}
use Rattle.std.proofs.Common.{if◌then◌else◌, refl, sym, ap, subst, ◌∙◌, append_assoc, length-append, arith}
use Rattle.std.proofs.lemmas.Bool.{eq-eqb, ne_eqb}
use Rattle.std.proofs.lemmas.List.{append-nil}
use Rattle.slab.specs.Slab.{Slab, get, slab_len, Updates}
use Rattle.task_tree.specs.declared.nodes.Node.{Node}
use Rattle.task_tree.specs.declared.nodes.Change.{Change}
use Rattle.task_tree.specs.declared.nodes.Change.TheVariants.{Youngest, Before, Behind}
use Rattle.task_tree.specs.Tasks.{Task, task_at, youngest, first, or_else, suits, IsPossible}
use Rattle.task_tree.specs.Nested.{Distinct}
use Rattle.task_tree.specs.Links.{Whole, node_at, last, Changes, changed, is_at, youngest_with}
use Rattle.task_tree.specs.Removing.{IsEnd}
use Rattle.task_tree.specs.Blocks.{EndsAt}
use Rattle.task_tree.proofs.Standing.{never, inner, absent_parts, absent_head, absent_both, distinct_put, distinct_parts, beside, at_place}
use Rattle.task_tree.proofs.Standing.{in_first, in_second, cut, youngest_append, some_child, no_child_parts, cases_parent, last_behind}
use Rattle.task_tree.proofs.Forests.{outsiders}
use Rattle.task_tree.proofs.Linking.{not_some, fresh_is}
use Rattle.task_tree.proofs.Taking.{drop_other, with_same, same_node}

by_false : (b : Bool) (x y z : Option ℕ) → b ≡ false → y ≡ z → (if b then x else y) ≡ z
by_false true x y z e f = absurd (cc)
by_false false x y z e f = f

by_true : (b : Bool) (x y z : Option ℕ) → b ≡ true → x ≡ z → (if b then x else y) ≡ z
by_true true x y z e f = f
by_true false x y z e f = absurd (cc)

parent_at_key : (p : Option ℕ) (n : ℕ) → (Some n ≡ p → ⊥) → is_at p n ≡ false
parent_at_key None n d = refl
parent_at_key (Some m) n d = ne_eqb m n (λ e. d (ap (λ k. Some k) (sym e)))

at_own : (p : Option ℕ) (n : ℕ) → Some n ≡ p → is_at p n ≡ true
at_own p n e = ap (λ q. is_at q n) (sym e) ∙ eq-eqb n n refl

module _ {T : Type 0} where
  -- a number that is not there is not that of the first or the last
  not_first : (n : ℕ) (ts : List (Task T)) → task_at n ts ≡ None → is_at (first ts) n ≡ false
  not_first n [] e = refl
  not_first n (t ∷ ts) e = ne_eqb t.number n (absent_head n t ts e).0

  not_last : (n : ℕ) (ts : List (Task T)) → task_at n ts ≡ None → is_at (last ts) n ≡ false
  not_last n [] e = refl
  not_last n (t ∷ []) e = ne_eqb t.number n (absent_head n t [] e).0
  not_last n (t ∷ u ∷ ts) e = not_last n (u ∷ ts) (absent_head n t (u ∷ ts) e).1

  abbrev step : Change → Bool → Option (Node T) → Option (Node T)
  step change b o = if b then option_map (changed change) o else o

  -- what three changes leave
  abbrev joined : ℕ → Bool → Bool → Bool → Node T → Node T
  joined k b1 b2 b3 n = record {
    parent = n.parent;
    role = n.role;
    item = n.item;
    links = record {
      youngest = if b3 then Some k else n.links.youngest;
      older = n.links.older;
      before = if b2 then Some k else n.links.before;
      behind = if b1 then Some k else n.links.behind;
    };
  }

  three : (k : ℕ) (b1 b2 b3 : Bool) (n : Node T) → step (Youngest k) b3 (step (Before k) b2 (step (Behind k) b1 (Some n))) ≡
      Some (joined k b1 b2 b3 n)
  three k false false false n = refl
  three k false false true n = refl
  three k false true false n = refl
  three k true false false n = refl
  three k false true true n = refl
  three k true false true n = refl
  three k true true false n = refl
  three k true true true n = refl

  three_none : (k : ℕ) (b1 b2 b3 : Bool) → step (Youngest k) b3 (step (Before k) b2 (step (Behind k) b1 None)) ≡ None
  three_none k false false false = refl
  three_none k false false true = refl
  three_none k false true false = refl
  three_none k true false false = refl
  three_none k false true true = refl
  three_none k true false true = refl
  three_none k true true false = refl
  three_none k true true true = refl

  module _ (front back : List (Task T)) (t : Task T) (none : youngest t.parent back ≡ None) where
    youngest_in_front : (m : List (Task T)) (e : Task T) →
        (if is_at t.parent e.number then Some t.number else youngest (Some e.number) (m ++ back)) ≡ youngest (Some e.number) (m ++ t ∷ back)
    youngest_in_front m e =
        let q = Some e.number in
        elim (cases_parent q t.parent) [
          | inl s ↦
              let nothing : youngest q back ≡ None = ap (λ p. youngest p back) s ∙ none in
              by_true (is_at t.parent e.number) (Some t.number) (youngest q (m ++ back)) (youngest q (m ++ t ∷ back))
              (at_own t.parent e.number s)
              (sym (with_same q m back t s ∙ ap (λ o. or_else (or_else o (Some t.number)) (youngest q m)) nothing))
          | inr d ↦ by_false (is_at t.parent e.number) (Some t.number) (youngest q (m ++ back)) (youngest q (m ++ t ∷ back))
              (parent_at_key t.parent e.number d) (sym (drop_other q m back t d))
        ]

    behind_in_front : (a m : List (Task T)) (e : Task T) → front ≡ a ++ e ∷ m → task_at e.number m ≡ None →
        (if is_at (last front) e.number then Some t.number else first (m ++ back)) ≡ first (m ++ t ∷ back)
    behind_in_front a [] e is out =
        by_true (is_at (last front) e.number) (Some t.number) (first back) (Some t.number)
        (at_own (last front) e.number (sym (ap last is ∙ last_behind a e []))) refl
    behind_in_front a (y ∷ m) e is out =
        let other : is_at (last front) e.number ≡ false = ap (λ l. is_at l e.number) (ap last is ∙ last_behind a e (y ∷ m)) ∙
        not_last e.number (y ∷ m) out in
        by_false (is_at (last front) e.number) (Some t.number) (Some y.number) (Some y.number) other refl

    before_in_back : (m b : List (Task T)) (e : Task T) → back ≡ m ++ e ∷ b → task_at e.number m ≡ None →
        (if is_at (first back) e.number then Some t.number else last (front ++ m)) ≡ last (front ++ t ∷ m)
    before_in_back [] b e is out =
        by_true (is_at (first back) e.number) (Some t.number) (last (front ++ [])) (last (front ++ t ∷ []))
        (at_own (first back) e.number (sym (ap first is))) (sym (last_behind front t []))
    before_in_back (y ∷ m) b e is out =
        let other : is_at (first back) e.number ≡ false =
        ap (λ l. is_at l e.number) (ap first is) ∙ ne_eqb y.number e.number (absent_head e.number y m out).0 in
        by_false (is_at (first back) e.number) (Some t.number) (last (front ++ y ∷ m)) (last (front ++ t ∷ y ∷ m)) other
        (last_behind front y m ∙ sym (last_behind front t (y ∷ m)))

    older_in_back : (m b : List (Task T)) (e : Task T) → back ≡ m ++ e ∷ b →
        youngest e.parent (front ++ m) ≡ youngest e.parent (front ++ t ∷ m)
    older_in_back m b e is =
        sym (drop_other e.parent front m t (λ s. some_child t.parent m b e (sym s) (sym (ap (youngest t.parent) is) ∙ none)))

  abbrev new_node : Task T → Option ℕ → Option ℕ → Option ℕ → Node T
  new_node t older before behind = record {
    parent = t.parent;
    role = t.role;
    item = t.item;
    links =
        record { youngest = None; older = older; before = before; behind = behind };
  }

  head_joined : (ts front back : List (Task T)) (t : Task T) (head : Option ℕ) → head ≡ first ts → ts ≡ front ++ back →
      (front ≡ [] → back ≡ []) → or_else head (Some t.number) ≡ first (front ++ t ∷ back)
  head_joined ts [] back t head h was empty = ap (λ o. or_else o (Some t.number)) (h ∙ (ap first was ∙ ap first (empty refl)))
  head_joined ts (u ∷ us) back t head h was empty = ap (λ o. or_else o (Some t.number)) (h ∙ ap first was)

  tail_is : (ts front back : List (Task T)) (t : Task T) (p tail : Option ℕ) → t.parent ≡ p → tail ≡ youngest None ts → ts ≡ front ++ back →
      youngest p back ≡ None → youngest_with p t.number tail ≡ youngest None (front ++ t ∷ back)
  tail_is ts front back t None tail parent h was none =
      sym (with_same None front back t (sym parent) ∙ ap (λ o. or_else (or_else o (Some t.number)) (youngest None front)) none)
  tail_is ts front back t (Some p) tail parent h was none =
      h ∙ (ap (youngest None) was ∙ sym (drop_other None front back t (λ s. never (s ∙ parent))))

  empty_end : (p : Option ℕ) (ts front back : List (Task T)) → IsEnd p ts front back → front ≡ [] → back ≡ []
  empty_end None ts front back e h = e
  empty_end (Some p) ts front back e h = absurd (no_more e.0.some e.0.last (sym h ∙ e.0.is))
    where
      no_more : (m : List (Task T)) (y : Task T) → [] ≡ m ++ y ∷ [] → ⊥
      no_more [] y k = absurd (cc)
      no_more (z ∷ zs) y k = absurd (cc)

  stranger : (ts : List (Task T)) (p : Option ℕ) (k : ℕ) → IsPossible p ts → task_at k ts ≡ None → Some k ≡ p → ⊥
  stranger ts None k possible fresh e = never (sym e)
  stranger ts (Some p) k possible fresh e = not_some p ts possible (sym (ap (λ n. task_at n ts) (sym (inner e)) ∙ fresh))

  pub joins : (nodes n1 n2 n3 n4 : Slab (Node T)) (head tail : Option ℕ) (ts : List (Task T)) (t : Task T)
      (older before behind : Option ℕ) → Whole nodes head tail ts → (e : EndsAt ts t.parent before) → IsPossible t.parent ts →
      suits t.parent t.role ≡ true →
      older ≡ youngest t.parent ts → behind ≡ first e.back → task_at t.number ts ≡ None →
      Updates nodes n1 t.number (Some (new_node t older before behind)) → slab_len n1 ≡ slab_len nodes + 1 →
      Changes n1 n2 before (Behind t.number) → Changes n2 n3 behind (Before t.number) → Changes n3 n4 t.parent (Youngest t.number) →
      Whole n4 (or_else head (Some t.number)) (youngest_with t.parent t.number tail) (e.front ++ t ∷ e.back)
  joins nodes n1 n2 n3 n4 head tail ts t older before behind w e possible suited older_is behind_is fresh u more c1 c2 c3 =
      let k = t.number in
      let front = e.front in
      let back = e.back in
      let was = e.was in
      let distinct : Distinct (front ++ back) = subst Distinct was w.tree.distinct in
      let out = absent_parts k front back (sym (ap (task_at k) was) ∙ fresh) in
      let chain : (m : ℕ) (o : Option (Node T)) → get n1 m ≡ o →
      get n4 m ≡ step (Youngest k) (is_at t.parent m)
      (step (Before k) (is_at (first back) m) (step (Behind k) (is_at (last front) m) o)) = λ m o h.
      c3.nodes m ∙ ap (step (Youngest k) (is_at t.parent m))
      (c2.nodes m ∙ (ap (λ b. if is_at b m then option_map (changed (Before k)) (get n2 m) else get n2 m) behind_is ∙
      ap (step (Before k) (is_at (first back) m))
      (c1.nodes m ∙ (ap (λ b. if is_at b m then option_map (changed (Behind k)) (get n1 m) else get n1 m) e.ends ∙
      ap (step (Behind k) (is_at (last front) m)) h)))) in
      let whole_node : (m : ℕ) (o : Node T) → get n1 m ≡ Some o →
      get n4 m ≡ Some (joined k (is_at (last front) m) (is_at (first back) m) (is_at t.parent m) o) = λ m o h.
      chain m (Some o) h ∙ three k (is_at (last front) m) (is_at (first back) m) (is_at t.parent m) o in
      let no_kids : youngest (Some k) ts ≡ None =
      outsiders None ts w.tree.forest (Some k) (λ h. never h) (λ m h. subst (λ j. task_at j ts ≡ None) (inner h) fresh) in
      let no_kids_back = (no_child_parts (Some k) front back (sym (ap (youngest (Some k)) was) ∙ no_kids)).1 in
      let older_front : older ≡ youngest t.parent front =
      older_is ∙ (ap (youngest t.parent) was ∙
      (youngest_append t.parent front back ∙ ap (λ o. or_else o (youngest t.parent front)) e.none)) in
      record {
        tree = record { forest = e.grows t refl suited; distinct = distinct_put front back t distinct (sym (ap (task_at k) was) ∙ fresh) };
        linked = record {
          each = λ a b x is. elim (cut front (t ∷ back) a x b is) [
            | in_first m g h ↦
                let split = absent_parts k a (x ∷ m) (sym (ap (task_at k) g) ∙ out.0) in
                let differs = (absent_head k x m split.1).0 in
                let old : ts ≡ a ++ x ∷ (m ++ back) = was ∙ (ap (λ xs. xs ++ back) g ∙ append_assoc a (x ∷ m) back) in
                let alone = absent_parts x.number m back (beside a (m ++ back) x (subst Distinct old w.tree.distinct)).1 in
                whole_node x.number (node_at a x (m ++ back)) (u.others x.number differs ∙ w.linked.each a (m ++ back) x old) ∙ (
                ap (λ n. Some n) (same_node x
                (youngest_in_front front back t e.none m x)
                refl
                (by_false (is_at (first back) x.number) (Some k) (last a) (last a) (not_first x.number back alone.1) refl)
                (behind_in_front front back t e.none a m x g alone.0))
                ∙ ap (λ xs. Some (node_at a x xs)) (sym h))
            | in_second [] g h ↦
                let is_t : t ≡ x = cc in
                let rest : back ≡ b = cc in
                let front_is : a ≡ front = h ∙ append-nil front in
                let apart_p : is_at t.parent k ≡ false = parent_at_key t.parent k (λ s. stranger ts t.parent k possible fresh s) in
                let here_is : get n4 k ≡ Some (node_at front t back) =
                whole_node k (new_node t older before behind) u.changed ∙ ap (λ n. Some n) (same_node t
                (by_false (is_at t.parent k) (Some k) None (youngest (Some k) back) apart_p (sym no_kids_back))
                older_front
                (by_false (is_at (first back) k) (Some k) before (last front) (not_first k back out.1) e.ends)
                (by_false (is_at (last front) k) (Some k) behind (first back) (not_last k front out.0) behind_is)) in
                subst (λ (y : Task T). get n4 y.number ≡ Some (node_at a y b)) is_t
                (here_is ∙ (ap (λ xs. Some (node_at front t xs)) rest ∙ ap (λ xs. Some (node_at xs t b)) (sym front_is)))
            | in_second (v ∷ m) g h ↦
                let is_t : t ≡ v = cc in
                let rest : back ≡ m ++ x ∷ b = cc in
                let front_is : a ≡ front ++ t ∷ m = h ∙ ap (λ y. front ++ y ∷ m) (sym is_t) in
                let split = absent_parts k m (x ∷ b) (sym (ap (task_at k) rest) ∙ out.1) in
                let differs = (absent_head k x b split.1).0 in
                let old : ts ≡ (front ++ m) ++ x ∷ b = was ∙ (ap (λ xs. front ++ xs) rest ∙ sym (append_assoc front m (x ∷ b))) in
                let alone = absent_parts x.number front m (beside (front ++ m) b x (subst Distinct old w.tree.distinct)).0 in
                let not_parent : is_at t.parent x.number ≡ false =
                parent_at_key t.parent x.number (λ s.
                never (sym (sym (ap (task_at x.number) rest) ∙ e.above x.number (sym s)) ∙
                at_place m b x (distinct_parts front (m ++ x ∷ b) (subst Distinct (ap (λ xs. front ++ xs) rest) distinct)).1)) in
                whole_node x.number (node_at (front ++ m) x b) (u.others x.number differs ∙ w.linked.each (front ++ m) b x old) ∙ (
                ap (λ n. Some n) (same_node x
                (by_false (is_at t.parent x.number) (Some k) (youngest (Some x.number) b) (youngest (Some x.number) b) not_parent refl)
                (older_in_back front back t e.none m b x rest)
                (before_in_back front back t e.none m b x rest alone.1)
                (by_false (is_at (last front) x.number) (Some k) (first b) (first b) (not_last x.number front alone.0) refl))
                ∙ ap (λ xs. Some (node_at xs x b)) (sym front_is))
          ];
          others = λ n absent.
              let split = absent_parts n front (t ∷ back) absent in
              let h = absent_head n t back split.1 in
              chain n None (u.others n (λ s. h.0 (sym s)) ∙ w.linked.others n (ap (task_at n) was ∙ absent_both n front back split.0 h.1)) ∙
              three_none k (is_at (last front) n) (is_at (first back) n) (is_at t.parent n);
          count = omega (
            arith,
            c1.count,
            c2.count,
            c3.count,
            more,
            w.linked.count,
            ap length was,
            length-append front back,
            length-append front (t ∷ back),
          );
        };
        head_is = head_joined ts front back t head w.head_is was (empty_end t.parent ts front back e.behind);
        tail_is = tail_is ts front back t t.parent tail refl w.tail_is was e.none;
      }

  pub is_added : (nodes n1 n2 n3 n4 : Slab (Node T)) (head tail head2 tail2 : Option ℕ) (ts now : List (Task T)) (t : Task T)
      (older before behind : Option ℕ) → Whole nodes head tail ts → ts ≡ now → (e : EndsAt now t.parent before) → IsPossible t.parent now →
      suits t.parent t.role ≡ true →
      older ≡ youngest t.parent now → ((front back : List (Task T)) → now ≡ front ++ back → before ≡ last front → behind ≡ first back) →
      get nodes t.number ≡ None → Updates nodes n1 t.number (Some (new_node t older before behind)) → slab_len n1 ≡ slab_len nodes + 1 →
      Changes n1 n2 before (Behind t.number) → Changes n2 n3 behind (Before t.number) → Changes n3 n4 t.parent (Youngest t.number) →
      head2 ≡ or_else head (Some t.number) → tail2 ≡ youngest_with t.parent t.number tail →
      Whole n4 head2 tail2 (e.front ++ t ∷ e.back)
  is_added nodes n1 n2 n3 n4 head tail head2 tail2 ts now t older before behind w view e possible suited older_is behind_is vacant u more c1
      c2 c3 h2 t2 =
      let whole = joins nodes n1 n2 n3 n4 head tail now t older before behind (subst (λ us. Whole nodes head tail us) view w) e possible
      suited older_is (behind_is e.front e.back e.was e.ends) (fresh_is nodes ts now t.number w.linked view vacant) u more c1 c2 c3 in
      subst (λ o. Whole n4 o tail2 (e.front ++ t ∷ e.back)) (sym h2)
      (subst (λ o. Whole n4 (or_else head (Some t.number)) o (e.front ++ t ∷ e.back)) (sym t2) whole)
