-- A task that is changed where it stands.
use Rattle.std.proofs.Common.{◌≡◌, ℕ, true, List, [], ◌∷◌, ◌++◌, length, Option, Some, None, option_map, if◌then◌else◌, refl, sym, ap}
use Rattle.std.proofs.Common.{subst, ◌∙◌, append_assoc, length-append, arith}
use Rattle.std.proofs.lemmas.Bool.{eq-eqb, ne_eqb}
use Rattle.std.proofs.lemmas.List.{append-nil}
use Rattle.std.proofs.Common.{◌<◌, cond, get_or, is_some}
use Rattle.std.proofs.lemmas.List.Sums.{sum_by-set}
use mathlib.Core.Bool.{false≢true}
use Rattle.slab.specs.Slab.{Slab, get, slab_len, with_value}
use Rattle.slab.proofs.SlabLemmas.{ContainsKey-within, Updates-with_value}
use Rattle.task_tree.specs.declared.tasks.Role.{Role}
use Rattle.task_tree.specs.declared.tasks.Role.TheVariants.{Root, Arm, Behind}
use Rattle.task_tree.specs.declared.nodes.Change.{Change}
use Rattle.task_tree.specs.declared.nodes.Change.TheVariants.{Becomes}
use Rattle.task_tree.specs.declared.nodes.Node.{Node}
use Rattle.task_tree.specs.Tasks.{Task, task_at, youngest, first, or_else, suits, is_child, is_arm, IsArm, with_role, with_item}
use Rattle.task_tree.specs.Nested.{Forest, Distinct}
use Rattle.task_tree.specs.Links.{Whole, node_at, last, Changes, changed}
use Rattle.task_tree.proofs.Standing.{never, inner, found, changed_here, absent_parts, absent_head, absent_both, absent_other}
use Rattle.task_tree.proofs.Standing.{distinct_drop, distinct_put, beside, in_first, in_second, cut, youngest_append, last_behind}
use Rattle.task_tree.proofs.Forests.{place, forest_one}

arm_suits : (p : Option ℕ) (r : Role) (depth : ℕ) → suits p r ≡ true → is_arm r ≡ true → suits p (Behind depth) ≡ true
arm_suits None Root depth s a = absurd (false≢true a)
arm_suits None (Arm i) depth s a = absurd (false≢true s)
arm_suits None (Behind d) depth s a = absurd (false≢true a)
arm_suits (Some p) Root depth s a = refl
arm_suits (Some p) (Arm i) depth s a = refl
arm_suits (Some p) (Behind d) depth s a = refl

module _ {T : Type 0} where
  -- two tasks that stand in the same way
  pub record Alike (t u : Task T) : Type 0 where
    pub number : u.number ≡ t.number
    pub parent : u.parent ≡ t.parent

  first_alike : (a b : List (Task T)) (t u : Task T) → Alike t u → first (a ++ u ∷ b) ≡ first (a ++ t ∷ b)
  first_alike [] b t u s = ap (λ n. Some n) s.number
  first_alike (v ∷ vs) b t u s = refl

  last_alike : (a b : List (Task T)) (t u : Task T) → Alike t u → last (a ++ u ∷ b) ≡ last (a ++ t ∷ b)
  last_alike a [] t u s = last_behind a u [] ∙ (ap (λ n. Some n) s.number ∙ sym (last_behind a t []))
  last_alike a (v ∷ vs) t u s = last_behind a u (v ∷ vs) ∙ sym (last_behind a t (v ∷ vs))

  youngest_alike : (p : Option ℕ) (a b : List (Task T)) (t u : Task T) → Alike t u → youngest p (a ++ u ∷ b) ≡ youngest p (a ++ t ∷ b)
  youngest_alike p a b t u s =
      let one : Option ℕ → ℕ → Option ℕ = λ q n. or_else (or_else (youngest p b) (if is_child p q then Some n else None)) (youngest p a) in
      youngest_append p a (u ∷ b) ∙ (ap (λ q. one q u.number) s.parent ∙
      (ap (λ n. one t.parent n) s.number ∙ sym (youngest_append p a (t ∷ b))))

  pub changed_one : (nodes next : Slab (Node T)) (head tail : Option ℕ) (ts front back : List (Task T)) (t u : Task T) →
      Whole nodes head tail ts → ts ≡ front ++ t ∷ back → Alike t u → suits u.parent u.role ≡ true →
      get next t.number ≡ Some (node_at front u back) → ((n : ℕ) → (n ≡ t.number → ⊥) → get next n ≡ get nodes n) →
      slab_len next ≡ slab_len nodes → Whole next head tail (front ++ u ∷ back)
  changed_one nodes next head tail ts front back t u w was same suited now others count =
      let d = subst Distinct was w.tree.distinct in
      let alone = beside front back t d in
      let p = place None ts front t back w.tree.forest w.tree.distinct (λ n h. absurd (never h)) was in
      let below : Forest (Some u.number) p.kids = subst (λ n. Forest (Some n) p.kids) (sym same.number) p.beneath in
      let forest : Forest None (front ++ (u ∷ p.kids ++ (p.younger ++ p.outer))) =
      p.around (u ∷ p.kids) (forest_one t.parent u p.kids same.parent (subst (λ q. suits q u.role ≡ true) same.parent suited) below) in
      let d_rest : Distinct (front ++ back) = distinct_drop front (t ∷ []) back d in
      let fresh : task_at u.number (front ++ back) ≡ None =
      subst (λ n. task_at n (front ++ back) ≡ None) (sym same.number) (absent_both t.number front back alone.0 alone.1) in
      record {
        tree = record {
          forest = subst (λ xs. Forest None (front ++ u ∷ xs)) (sym p.was) forest;
          distinct =
              distinct_put front back u d_rest fresh;
        };
        linked = record {
          each = λ a b x e. elim (cut front (u ∷ back) a x b e) [
            | in_first m g h ↦
                let old : ts ≡ a ++ x ∷ (m ++ t ∷ back) = was ∙ (ap (λ xs. xs ++ t ∷ back) g ∙ append_assoc a (x ∷ m) (t ∷ back)) in
                let differs : x.number ≡ t.number → ⊥ =
                λ s. (absent_head t.number x m (absent_parts t.number a (x ∷ m) (sym (ap (task_at t.number) g) ∙ alone.0)).1).0 s in
                others x.number differs ∙ (w.linked.each a (m ++ t ∷ back) x old ∙ (
                ap (λ f. Some (record {
                  parent = x.parent;
                  role = x.role;
                  item = x.item;
                  links =
                      record {
                        youngest = youngest (Some x.number) (m ++ t ∷ back);
                        older = youngest x.parent a;
                        before = last a;
                        behind =
                            f;
                      };
                })) (sym (first_alike m back t u same))
                ∙ ap (λ y. Some (record {
                  parent = x.parent;
                  role = x.role;
                  item = x.item;
                  links =
                      record { youngest = y; older = youngest x.parent a; before = last a; behind = first (m ++ u ∷ back) };
                }))
                (sym (youngest_alike (Some x.number) m back t u same))
                ∙ ap (λ xs. Some (node_at a x xs)) (sym h)))
            | in_second [] g h ↦
                let is : u ≡ x = cc in
                let rest : back ≡ b = cc in
                let front_is : a ≡ front = h ∙ append-nil front in
                subst (λ y. get next y.number ≡ Some (node_at a y b)) is
                (ap (get next) same.number ∙ (now ∙ (ap (λ xs. Some (node_at front u xs)) rest ∙
                ap (λ xs. Some (node_at xs u b)) (sym front_is))))
            | in_second (v ∷ m) g h ↦
                let is : u ≡ v = cc in
                let rest : back ≡ m ++ x ∷ b = cc in
                let old : ts ≡ (front ++ t ∷ m) ++ x ∷ b =
                was ∙ (ap (λ xs. front ++ t ∷ xs) rest ∙ sym (append_assoc front (t ∷ m) (x ∷ b))) in
                let differs : x.number ≡ t.number → ⊥ =
                λ s. (absent_head t.number x b (absent_parts t.number m (x ∷ b) (sym (ap (task_at t.number) rest) ∙ alone.1)).1).0 s in
                let front_is : a ≡ front ++ u ∷ m = h ∙ ap (λ y. front ++ y ∷ m) (sym is) in
                others x.number differs ∙ (w.linked.each (front ++ t ∷ m) b x old ∙ (
                ap (λ f. Some (record {
                  parent = x.parent;
                  role = x.role;
                  item = x.item;
                  links =
                      record {
                        youngest = youngest (Some x.number) b;
                        older = youngest x.parent (front ++ t ∷ m);
                        before = f;
                        behind =
                            first b;
                      };
                })) (sym (last_alike front m t u same))
                ∙ ap (λ y. Some (record {
                  parent = x.parent;
                  role = x.role;
                  item = x.item;
                  links =
                      record { youngest = youngest (Some x.number) b; older = y; before = last (front ++ u ∷ m); behind = first b };
                }))
                (sym (youngest_alike x.parent front m t u same))
                ∙ ap (λ xs. Some (node_at xs x b)) (sym front_is)))
          ];
          others = λ n absent.
              let split = absent_parts n front (u ∷ back) absent in
              let behind = absent_head n u back split.1 in
              let was_absent : task_at n ts ≡ None =
              ap (task_at n) was ∙ absent_both n front (t ∷ back) split.0
              (absent_other n t back (λ e. behind.0 (same.number ∙ e)) behind.1) in
              others n (λ e. behind.0 (same.number ∙ sym e)) ∙ w.linked.others n was_absent;
          count = count ∙ (w.linked.count ∙ (ap length was ∙
              omega (arith, length-append front (t ∷ back), length-append front (u ∷ back))));
        };
        head_is = w.head_is ∙ (ap first was ∙ sym (first_alike front back t u same));
        tail_is = w.tail_is ∙ (ap (youngest None) was ∙ sym (youngest_alike None front back t u same));
      }

  -- what a change at one key leaves there, and at the others
  pub at_key : (old new : Slab (Node T)) (k : ℕ) (change : Change) → Changes old new (Some k) change →
      get new k ≡ option_map (changed change) (get old k)
  at_key old new k change c =
      c.nodes k ∙ ap (λ b. if b then option_map (changed change) (get old k) else get old k) (eq-eqb k k refl)

  pub off_key : (old new : Slab (Node T)) (k n : ℕ) (change : Change) → Changes old new (Some k) change → (n ≡ k → ⊥) →
      get new n ≡ get old n
  off_key old new k n change c d =
      c.nodes n ∙ ap (λ b. if b then option_map (changed change) (get old n) else get old n) (ne_eqb k n (λ e. d (sym e)))

  pub role_changed : (nodes next : Slab (Node T)) (head tail : Option ℕ) (ts now : List (Task T)) (id depth : ℕ) →
      Whole nodes head tail ts → ts ≡ now → IsArm id now → Changes nodes next (Some id) (Becomes (Behind depth)) →
      Whole next head tail (with_role id (Behind depth) now)
  role_changed nodes next head tail ts now id depth w view arm c = go (task_at id now) refl
    where
      go : (o : Option (Task T)) → task_at id now ≡ o → Whole next head tail (with_role id (Behind depth) now)
      go None e = absurd (never (sym (ap (option_map (λ (t : Task T). is_arm t.role)) e) ∙ arm))
      go (Some t) e =
          let a = found id now t e in
          let was : ts ≡ a.front ++ t ∷ a.back = view ∙ a.was in
          let absent : task_at t.number a.front ≡ None = subst (λ n. task_at n a.front ≡ None) (sym a.number) a.absent in
          let u : Task T = record t { role = Behind depth } in
          let is : a.front ++ u ∷ a.back ≡ with_role id (Behind depth) now =
          sym (ap (with_role id (Behind depth)) a.was ∙
          (ap (λ n. with_role n (Behind depth) (a.front ++ t ∷ a.back)) (sym a.number) ∙
          changed_here a.front a.back t (λ v. record v { role = Behind depth }) absent)) in
          let p = place None ts a.front t a.back w.tree.forest w.tree.distinct (λ n h. absurd (never h)) was in
          let arm_here : is_arm t.role ≡ true = inner (sym (ap (option_map (λ (v : Task T). is_arm v.role)) e) ∙ arm) in
          let node : get next t.number ≡ Some (node_at a.front u a.back) =
          ap (get next) a.number ∙ (at_key nodes next id (Becomes (Behind depth)) c ∙
          (ap (λ n. option_map (changed (Becomes (Behind depth))) (get nodes n)) (sym a.number) ∙
          ap (option_map (changed (Becomes (Behind depth)))) (w.linked.each a.front a.back t was))) in
          subst (λ xs. Whole next head tail xs) is
          (changed_one nodes next head tail ts a.front a.back t u w was (record { number = refl; parent = refl })
          (arm_suits t.parent t.role depth p.suited arm_here) node
          (λ n d. off_key nodes next id n (Becomes (Behind depth)) c (λ e. d (e ∙ sym a.number))) c.count)

  len_with_value : (s : Slab (Node T)) (key : ℕ) (old value : Node T) → get s key ≡ Some old →
      slab_len (with_value s key value) ≡ slab_len s
  len_with_value s key old value e =
      let within : key < length s.slots = ContainsKey-within s key (ap is_some e) in
      let f : Option (Node T) → ℕ = λ o. cond (is_some o) 1 0 in
      let sums = sum_by-set f s.slots key (Some value) None within in
      let one : f (get_or s.slots key None) ≡ 1 = ap f e in
      omega (arith, sums, one)

  pub item_changed : (nodes : Slab (Node T)) (head tail : Option ℕ) (ts now : List (Task T)) (id : ℕ) (node : Node T) →
      Whole nodes head tail ts → ts ≡ now → get nodes id ≡ Some node → (item : T) →
      Whole (with_value nodes id (record node { item = item })) head tail (with_item id now item)
  item_changed nodes head tail ts now id node w view got item = go (task_at id now) refl
    where
      go : (o : Option (Task T)) → task_at id now ≡ o →
          Whole (with_value nodes id (record node { item = item })) head tail (with_item id now item)
      go None e = absurd (never (sym (w.linked.others id (ap (task_at id) view ∙ e)) ∙ got))
      go (Some t) e =
          let a = found id now t e in
          let was : ts ≡ a.front ++ t ∷ a.back = view ∙ a.was in
          let absent : task_at t.number a.front ≡ None = subst (λ n. task_at n a.front ≡ None) (sym a.number) a.absent in
          let u : Task T = record t { item = item } in
          let is : a.front ++ u ∷ a.back ≡ with_item id now item =
          sym (ap (λ xs. with_item id xs item) a.was ∙
          (ap (λ n. with_item n (a.front ++ t ∷ a.back) item) (sym a.number) ∙
          changed_here a.front a.back t (λ v. record v { item = item }) absent)) in
          let p = place None ts a.front t a.back w.tree.forest w.tree.distinct (λ n h. absurd (never h)) was in
          let same : node ≡ node_at a.front t a.back =
          inner (sym got ∙ (ap (get nodes) (sym a.number) ∙ w.linked.each a.front a.back t was)) in
          let next = with_value nodes id (record node { item = item }) in
          let updates = Updates-with_value nodes id (record node { item = item }) (ap is_some got) in
          let now_there : get next t.number ≡ Some (node_at a.front u a.back) =
          ap (get next) a.number ∙ (updates.changed ∙ ap (λ (m : Node T). Some (record m { item = item })) same) in
          subst (λ xs. Whole next head tail xs) is
          (changed_one nodes next head tail ts a.front a.back t u w was (record { number = refl; parent = refl }) p.suited now_there
          (λ n d. updates.others n (λ h. d (h ∙ sym a.number))) (len_with_value nodes id node (record node { item = item }) got))
