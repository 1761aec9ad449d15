-- The children in the background of one frame, removed from the last to the first.
use Rattle.std.proofs.Common.{◌≡◌, ◌⊎◌, inl, inr, ℕ, suc, ◌<◌, eqb, if◌then◌else◌, true, false, Bool, List, [], ◌∷◌, ◌++◌, length, Option}
use Rattle.std.proofs.Common.{Some, None, is_some, option_map, refl, sym, ap, subst, ◌∙◌, append_assoc, arith}
use Rattle.std.proofs.lemmas.Bool.{cases_eq, eq-eqb, ne_eqb, eqb-true}
use Rattle.std.proofs.lemmas.List.{append-nil}
use mathlib.Core.Bool.{false≢true}
use Rattle.task_tree.specs.declared.tasks.Role.{Role}
use Rattle.task_tree.specs.declared.tasks.Role.TheVariants.{Root, Arm, Behind}
use Rattle.task_tree.specs.Tasks.{Task, task_at, youngest, or_else, suits, is_behind, IsLive}
use Rattle.task_tree.specs.Nested.{Forest, no_tasks, Distinct, IsTree, Under, itself, beneath}
use Rattle.task_tree.specs.Removing.{Each, Parts, all_parted, one_goes, one_stays, Cancels, UnderBehind, CancelsBehind, Visited}
use Rattle.task_tree.specs.Blocks.{Block}
use Rattle.task_tree.proofs.Standing.{never, inner, found, here, further, absent_parts, absent_head, beside, at_place, distinct_parts}
use Rattle.task_tree.proofs.Standing.{distinct_drop, youngest_same, cases_parent, youngest_append, youngest_other, else_none}
use Rattle.task_tree.proofs.Forests.{IsThere, there_behind, place, forest_one, forest_append, forest_empty, last_of}
use Rattle.task_tree.proofs.Linking.{not_own}
use Rattle.task_tree.proofs.Ending.{block_of, block_children}
use Rattle.task_tree.proofs.Under.{each_weaker, block_under, not_under}
use Rattle.task_tree.proofs.Cancelling.{all_stay, all_go, rest_stays, block_parts}

is_behind_role : (depth : ℕ) (r : Role) → is_behind depth r ≡ true → r ≡ Behind depth
is_behind_role depth Root e = absurd (false≢true e)
is_behind_role depth (Arm i) e = absurd (false≢true e)
is_behind_role depth (Behind d) e = ap (λ k. Behind k) (eqb-true d depth e)

role_is_behind : (depth : ℕ) (r : Role) → r ≡ Behind depth → is_behind depth r ≡ true
role_is_behind depth r e = ap (is_behind depth) e ∙ eq-eqb depth depth refl

module _ {T : Type 0} where
  -- what is gone and what is left is determined
  pub parts_same : (P : Task T → Type 0) (old gone left gone2 left2 : List (Task T)) → Parts P old gone left → Parts P old gone2 left2 →
      (gone ≡ gone2) × (left ≡ left2)
  parts_same P old gone left gone2 left2 all_parted all_parted = (refl, refl)
  parts_same P old gone left gone2 left2 (one_goes t p ps) (one_goes _ q qs) = let r = parts_same P _ _ _ _ _ ps qs in
      (ap (λ us. t ∷ us) r.0, r.1)
  parts_same P old gone left gone2 left2 (one_goes t p ps) (one_stays _ q qs) = absurd (q p)
  parts_same P old gone left gone2 left2 (one_stays t p ps) (one_goes _ q qs) = absurd (p q)
  parts_same P old gone left gone2 left2 (one_stays t p ps) (one_stays _ q qs) = let r = parts_same P _ _ _ _ _ ps qs in
      (r.0, ap (λ us. t ∷ us) r.1)

  pub parts_append : (P : Task T → Type 0) (a gone left b gone2 left2 : List (Task T)) → Parts P a gone left → Parts P b gone2 left2 →
      Parts P (a ++ b) (gone ++ gone2) (left ++ left2)
  parts_append P a gone left b gone2 left2 all_parted q = q
  parts_append P a gone left b gone2 left2 (one_goes t p ps) q = one_goes t p (parts_append P _ _ _ b gone2 left2 ps q)
  parts_append P a gone left b gone2 left2 (one_stays t p ps) q = one_stays t p (parts_append P _ _ _ b gone2 left2 ps q)

  visited_append : {V : Type 0} (leaves : V → ℕ → T → V → Type 0) (xs ys : List (Task T)) (a m b : V) → Visited leaves a ys m →
      Visited leaves m xs b → Visited leaves a (xs ++ ys) b
  visited_append leaves [] ys a m b v w = subst (λ u. Visited leaves a ys u) (sym w) v
  visited_append leaves (t ∷ xs) ys a m b v w = (w.0, visited_append leaves xs ys a m w.0 v w.1, w.2)

  pub under_trans : (ts : List (Task T)) (a b m : ℕ) → Under ts a b → Under ts b m → Under ts a m
  under_trans ts a b m up itself = up
  under_trans ts a b m up (beneath _ p t is parent more) = beneath m p t is parent (under_trans ts a b p up more)

  -- of two tasks that both enclose a third one, one encloses the other
  comparable : (ts : List (Task T)) (a b m : ℕ) → Under ts a m → Under ts b m → Under ts a b ⊎ Under ts b a
  comparable ts a b m itself q = inr q
  comparable ts a b m (beneath _ p t is parent up) itself = inl (beneath m p t is parent up)
  comparable ts a b m (beneath _ p t is parent up) (beneath _ q u is2 parent2 up2) =
      let same : t ≡ u = inner (sym is ∙ is2) in
      let one : p ≡ q = inner (sym parent ∙ (ap (λ (v : Task T). v.parent) same ∙ parent2)) in
      comparable ts a b p up (subst (λ k. Under ts b k) (sym one) up2)

  each_there : (P : Task T → Type 0) (ts : List (Task T)) (n : ℕ) → Each P ts → (h : IsThere n ts) → P h.0
  each_there P [] n e h = absurd (never h.1)
  each_there P (t ∷ ts) n e h =
      elim (cases_eq t.number n) [
        | inl same ↦ subst P (inner (sym (here n t ts same) ∙ h.1)) e.0
        | inr differs ↦ each_there P ts n e.1 (h.0, sym (further n t ts differs) ∙ h.1)
      ]

  number_there : (ts : List (Task T)) (n : ℕ) (t : Task T) → task_at n ts ≡ Some t → t.number ≡ n
  number_there ts n t e = (found n ts t e).number

  -- no task encloses its parent
  parent_not_under : (ts : List (Task T)) (k id : ℕ) (t : Task T) → IsTree ts → task_at k ts ≡ Some t → t.parent ≡ Some id → Under ts k id →
      ⊥
  parent_not_under ts k id t tree is parent up =
      let a = found k ts t is in
      let p = place None ts a.front t a.back tree.forest tree.distinct (λ m h. absurd (never h)) a.was in
      let b : Block None ts k = record {
        front = a.front;
        task = t;
        kids = p.kids;
        back = p.younger ++ p.outer;
        was = a.was ∙ ap (λ xs. a.front ++ t ∷ xs) p.was;
        number = a.number;
        suited = p.suited;
        beneath = p.beneath;
        around = p.around;
      } in
      let out = (not_under ts k tree b).0 in
      elim p.above [
        | inl none ↦ never (sym none ∙ parent)
        | inr h ↦
            let same : h.0 ≡ id = inner (sym h.1 ∙ parent) in
            each_there (λ u. Under ts k u.number → ⊥) a.front h.0 out h.2
            (subst (λ j. Under ts k j) (sym same ∙ sym (number_there a.front h.0 h.2.0 h.2.1)) up)
      ]

  -- two children of one task do not enclose the same
  one_child : (ts : List (Task T)) (j k id m : ℕ) (t u : Task T) → IsTree ts → task_at j ts ≡ Some t → t.parent ≡ Some id →
      task_at k ts ≡ Some u → u.parent ≡ Some id → Under ts j m → Under ts k m → j ≡ k
  one_child ts j k id m t u tree is parent is2 parent2 up up2 =
      elim (comparable ts j k m up up2) [
        | inl h ↦ above j k t u is parent is2 parent2 h
        | inr h ↦ sym (above k j u t is2 parent2 is parent h)
      ]
    where
      above : (x y : ℕ) (v w : Task T) → task_at x ts ≡ Some v → v.parent ≡ Some id → task_at y ts ≡ Some w → w.parent ≡ Some id →
          Under ts x y → x ≡ y
      above x y v w e p f q itself = refl
      above x y v w e p f q (beneath _ r s g h more) =
          let same : s ≡ w = inner (sym g ∙ f) in
          let top : r ≡ id = inner (sym h ∙ (ap (λ (z : Task T). z.parent) same ∙ q)) in
          absurd (parent_not_under ts x id v tree e p (subst (λ z. Under ts x z) top more))

  abbrev pub index : ℕ → List (Task T) → ℕ
  index n [] = 0
  index n (t ∷ ts) = if eqb t.number n then 0 else suc (index n ts)

  -- how many children may still come
  abbrev pub to_come : Option ℕ → List (Task T) → ℕ
  to_come None ts = 0
  to_come (Some n) ts = suc (index n ts)

  index_at : (front rest : List (Task T)) (t : Task T) → task_at t.number front ≡ None → index t.number (front ++ t ∷ rest) ≡ length front
  index_at [] rest t e = ap (λ c. if c then 0 else suc (index t.number rest)) (eq-eqb t.number t.number refl)
  index_at (u ∷ us) rest t e =
      let h = absent_head t.number u us e in
      let r = index_at us rest t h.1 in
      ap (λ c. if c then 0 else suc (index t.number (us ++ t ∷ rest))) (ne_eqb u.number t.number h.0) ∙ omega (arith, r)

  index_within : (front rest : List (Task T)) (n : ℕ) (t : Task T) → task_at n front ≡ Some t → index n (front ++ rest) < length front
  index_within [] rest n t e = absurd (never e)
  index_within (u ∷ us) rest n t e =
      elim (cases_eq u.number n) [
        | inl same ↦ let z : index n (u ∷ us ++ rest) ≡ 0 =
            ap (λ c. if c then 0 else suc (index n (us ++ rest))) (eq-eqb u.number n same) in omega (arith, z)
        | inr differs ↦
            let z : index n (u ∷ us ++ rest) ≡ suc (index n (us ++ rest)) =
            ap (λ c. if c then 0 else suc (index n (us ++ rest))) (ne_eqb u.number n differs) in
            let r = index_within us rest n t (sym (further n u us differs) ∙ e) in
            omega (arith, z, r)
      ]

  youngest_there : (p : Option ℕ) (ts : List (Task T)) (n : ℕ) → youngest p ts ≡ Some n → IsThere n ts
  youngest_there p [] n e = absurd (never e)
  youngest_there p (t ∷ ts) n e =
      let later : youngest p ts ≡ Some n → IsThere n (t ∷ ts) = λ h. there_behind n (t ∷ []) ts (youngest_there p ts n h) in
      elim (cases_parent p t.parent) [
        | inl s ↦ go later (youngest p ts) refl (sym (youngest_same p t ts s) ∙ e)
        | inr d ↦ later (sym (youngest_other p t ts d) ∙ e)
      ]
    where
      go : (youngest p ts ≡ Some n → IsThere n (t ∷ ts)) → (o : Option ℕ) → youngest p ts ≡ o →
          or_else (youngest p ts) (Some t.number) ≡ Some n → IsThere n (t ∷ ts)
      go later None h f = (t, here n t ts (inner (sym (ap (λ o. or_else o (Some t.number)) h) ∙ f)))
      go later (Some m) h f = later (h ∙ (sym (ap (λ o. or_else o (Some t.number)) h) ∙ f))

  module _ {V : Type 0} (leaves : V → ℕ → T → V → Type 0) where
    -- the later children were looked at, and those in the background of the frame are gone
    pub record Clearing (old : List (Task T)) (id depth : ℕ) (before : V) (next : Option ℕ) (now : List (Task T)) (seen : V) : Type 0 where
      pub tree : IsTree old
      pub nested : IsTree now
      pub block : Block None old id
      pub todo : List (Task T)
      pub done : List (Task T)
      pub gone : List (Task T)
      pub left : List (Task T)
      pub kids : block.kids ≡ todo ++ done
      pub fore : Forest (Some block.task.number) todo
      pub rest : Forest (Some block.task.number) done
      pub rest_left : Forest (Some block.task.number) left
      pub is : now ≡ block.front ++ ((block.task ∷ (todo ++ left)) ++ block.back)
      pub at : next ≡ youngest (Some block.task.number) todo
      pub parts : Parts (λ t. UnderBehind old id depth t.number) done gone left
      pub visited : Visited leaves before gone seen

    pub begins : (old : List (Task T)) (id depth : ℕ) (next : Option ℕ) (seen : V) → IsTree old → IsLive id old →
        next ≡ youngest (Some id) old → Clearing old id depth seen next old seen
    begins old id depth next seen tree live e =
        let b = block_of old id tree live in
        record {
          tree = tree;
          nested = tree;
          block = b;
          todo = b.kids;
          done = [];
          gone = [];
          left = [];
          kids = sym (append-nil b.kids);
          fore = b.beneath;
          rest = no_tasks;
          rest_left = no_tasks;
          is = b.was ∙ ap (λ ks. b.front ++ ((b.task ∷ ks) ++ b.back)) (sym (append-nil b.kids));
          at = e ∙ (block_children old id tree b).2;
          parts = all_parted;
          visited = refl;
        }

    -- the child that is looked at, with all that it encloses
    record Turn (old now front todo done left back : List (Task T)) (task : Task T) (child : ℕ) : Type 0 where
      some : List (Task T)
      it : Task T
      kids : List (Task T)
      split : todo ≡ some ++ it ∷ kids
      number : it.number ≡ child
      parent : it.parent ≡ Some task.number
      fore : Forest (Some task.number) some
      own : Forest (Some task.number) (it ∷ kids)
      was : old ≡ (front ++ task ∷ some) ++ ((it ∷ kids) ++ (done ++ back))
      is : now ≡ (front ++ task ∷ some) ++ ((it ∷ kids) ++ (left ++ back))
      below : Forest (Some it.number) kids
      suited : suits (Some task.number) it.role ≡ true

    turn : (old : List (Task T)) (id depth : ℕ) (before : V) (next : Option ℕ) (now : List (Task T)) (seen : V) (child : ℕ) →
        (c : Clearing old id depth before next now seen) → next ≡ Some child →
        Turn old now c.block.front c.todo c.done c.left c.block.back c.block.task child
    turn old id depth before next now seen child c e =
        let b = c.block in
        let alone = beside b.front (b.kids ++ b.back) b.task (subst Distinct b.was c.tree.distinct) in
        let out_kids = (absent_parts b.task.number b.kids b.back alone.1).0 in
        let out = (absent_parts b.task.number c.todo c.done (sym (ap (task_at b.task.number) c.kids) ∙ out_kids)).0 in
        let d_kids = (distinct_parts b.kids b.back
        (distinct_parts b.front (b.task ∷ b.kids ++ b.back) (subst Distinct b.was c.tree.distinct)).1.1).0 in
        let d_todo = (distinct_parts c.todo c.done (subst Distinct c.kids d_kids)).0 in
        let l = last_of (Some b.task.number) c.todo child c.fore d_todo (λ n h. subst (λ m. task_at m c.todo ≡ None) (inner h) out)
        (sym c.at ∙ e) in
        record {
          some = l.front;
          it = l.task;
          kids = l.kids;
          split = l.was;
          number = l.number;
          parent = l.parent;
          fore = l.before;
          own = forest_one (Some b.task.number) l.task l.kids l.parent l.suited l.beneath;
          was = b.was ∙ (ap (λ ks. b.front ++ ((b.task ∷ ks) ++ b.back)) (c.kids ∙ ap (λ us. us ++ c.done) l.was) ∙ simp append_assoc);
          is = c.is ∙ (ap (λ us. b.front ++ ((b.task ∷ (us ++ c.left)) ++ b.back)) l.was ∙ simp append_assoc);
          below = l.beneath;
          suited = l.suited;
        }

    pub child_live : (old : List (Task T)) (id depth : ℕ) (before : V) (next : Option ℕ) (now : List (Task T)) (seen : V) (child : ℕ) →
        Clearing old id depth before next now seen → next ≡ Some child → IsLive child now
    child_live old id depth before next now seen child c e =
        let t = turn old id depth before next now seen child c e in
        let front = c.block.front ++ c.block.task ∷ t.some in
        ap is_some (ap (λ k. task_at k now) (sym t.number) ∙
        (ap (task_at t.it.number) t.is ∙ at_place front (t.kids ++ (c.left ++ c.block.back)) t.it
        (subst Distinct t.is c.nested.distinct)))

    next_is : (old : List (Task T)) (id depth : ℕ) (before : V) (next next2 : Option ℕ) (now : List (Task T)) (seen : V) (child : ℕ) →
        (c : Clearing old id depth before next now seen) →
        (t : Turn old now c.block.front c.todo c.done c.left c.block.back c.block.task child) →
        ((front back : List (Task T)) (u : Task T) → now ≡ front ++ u ∷ back → u.number ≡ child → next2 ≡ youngest u.parent front) →
        next2 ≡ youngest (Some c.block.task.number) t.some
    next_is old id depth before next next2 now seen child c t step =
        let b = c.block in
        let q = Some b.task.number in
        let none = (block_children old id c.tree b).0 in
        step (b.front ++ b.task ∷ t.some) (t.kids ++ (c.left ++ b.back)) t.it t.is t.number ∙
        (ap (λ p. youngest p (b.front ++ b.task ∷ t.some)) t.parent ∙
        (youngest_append q b.front (b.task ∷ t.some) ∙
        (ap (λ o. or_else (youngest q (b.task ∷ t.some)) o) none ∙ (else_none (youngest q (b.task ∷ t.some)) ∙
        youngest_other q b.task t.some (not_own old b.front (b.kids ++ b.back) b.task c.tree b.was)))))

    role_of : (old : List (Task T)) (id depth : ℕ) (before : V) (next : Option ℕ) (now : List (Task T)) (seen : V) (child : ℕ)
        (test : Bool) → (c : Clearing old id depth before next now seen) →
        (t : Turn old now c.block.front c.todo c.done c.left c.block.back c.block.task child) →
        option_map (λ (u : Task T). is_behind depth u.role) (task_at child now) ≡ Some test → is_behind depth t.it.role ≡ test
    role_of old id depth before next now seen child test c t e =
        let front = c.block.front ++ c.block.task ∷ t.some in
        let there : task_at child now ≡ Some t.it =
        ap (λ k. task_at k now) (sym t.number) ∙
        (ap (task_at t.it.number) t.is ∙ at_place front (t.kids ++ (c.left ++ c.block.back)) t.it
        (subst Distinct t.is c.nested.distinct)) in
        inner (sym (ap (option_map (λ (u : Task T). is_behind depth u.role)) there) ∙ e)

    -- the child's block among the old tasks
    old_block : (old : List (Task T)) (id depth : ℕ) (before : V) (next : Option ℕ) (now : List (Task T)) (seen : V) (child : ℕ) →
        (c : Clearing old id depth before next now seen) →
        (t : Turn old now c.block.front c.todo c.done c.left c.block.back c.block.task child) →
        Each (λ u. Under old t.it.number u.number) (t.it ∷ t.kids) × (task_at t.it.number old ≡ Some t.it)
    old_block old id depth before next now seen child c t =
        let b = c.block in
        let front = b.front ++ b.task ∷ t.some in
        let block : Block None old t.it.number = record {
          front = front;
          task = t.it;
          kids = t.kids;
          back = c.done ++ b.back;
          was = t.was;
          number = refl;
          suited = subst (λ p. suits p t.it.role ≡ true) (sym t.parent) t.suited;
          beneath = t.below;
          around = λ others f.
              let all : Forest (Some b.task.number) (t.some ++ (others ++ c.done)) =
              forest_append t.some (others ++ c.done) t.fore
              (forest_append others c.done (subst (λ p. Forest p others) t.parent f) c.rest) in
              let eq : b.front ++ ((b.task ∷ (t.some ++ (others ++ c.done))) ++ b.back) ≡ (b.front ++ b.task ∷ t.some) ++
              (others ++ (c.done ++ b.back)) = simp append_assoc in
              subst (λ us. Forest None us) eq (b.around (b.task ∷ (t.some ++ (others ++ c.done)))
              (forest_one b.task.parent b.task (t.some ++ (others ++ c.done)) refl b.suited all));
        } in (
          block_under old t.it.number c.tree block,
          ap (task_at t.it.number) t.was ∙
              at_place front (t.kids ++ (c.done ++ b.back)) t.it (subst Distinct t.was c.tree.distinct),
        )

    pub passes : (old : List (Task T)) (id depth : ℕ) (before : V) (next next2 : Option ℕ) (now : List (Task T)) (seen : V) (child : ℕ)
        (test : Bool) → Clearing old id depth before next now seen → next ≡ Some child →
        ((front back : List (Task T)) (u : Task T) → now ≡ front ++ u ∷ back → u.number ≡ child → next2 ≡ youngest u.parent front) →
        option_map (λ (u : Task T). is_behind depth u.role) (task_at child now) ≡ Some test → test ≡ false →
        Clearing old id depth before next2 now seen
    passes old id depth before next next2 now seen child test c e step role false_is =
        let b = c.block in
        let t = turn old id depth before next now seen child c e in
        let own = old_block old id depth before next now seen child c t in
        let parent : t.it.parent ≡ Some id = t.parent ∙ ap (λ k. Some k) b.number in
        let not_role : is_behind depth t.it.role ≡ false = role_of old id depth before next now seen child test c t role ∙ false_is in
        let away : (u : Task T) → Under old t.it.number u.number → UnderBehind old id depth u.number → ⊥ = λ u up h.
        let same = one_child old h.child t.it.number id u.number h.task t.it c.tree h.is_there h.parent own.1 parent h.under up in
        let task_same : h.task ≡ t.it = inner (sym h.is_there ∙ (ap (λ k. task_at k old) same ∙ own.1)) in
        false≢true (sym not_role ∙ role_is_behind depth t.it.role (ap (λ (v : Task T). v.role) (sym task_same) ∙ h.role)) in
        record {
          tree = c.tree;
          nested = c.nested;
          block = b;
          todo = t.some;
          done = (t.it ∷ t.kids) ++ c.done;
          gone = c.gone;
          left = (t.it ∷ t.kids) ++ c.left;
          kids = c.kids ∙ (ap (λ us. us ++ c.done) t.split ∙ append_assoc t.some (t.it ∷ t.kids) c.done);
          fore = t.fore;
          rest = forest_append (t.it ∷ t.kids) c.done t.own c.rest;
          rest_left = forest_append (t.it ∷ t.kids) c.left t.own c.rest_left;
          is = t.is ∙ simp append_assoc;
          at = next_is old id depth before next next2 now seen child c t step;
          parts = all_stay (λ u. UnderBehind old id depth u.number) (t.it ∷ t.kids) c.done c.gone c.left
              (each_weaker (λ u. Under old t.it.number u.number) (λ u. UnderBehind old id depth u.number → ⊥) (t.it ∷ t.kids) away own.0)
              c.parts;
          visited = c.visited;
        }

    -- where the child's block is gone
    left_now : (old : List (Task T)) (id depth : ℕ) (before : V) (next : Option ℕ) (now now2 : List (Task T)) (seen : V) (child : ℕ) →
        (c : Clearing old id depth before next now seen) →
        (t : Turn old now c.block.front c.todo c.done c.left c.block.back c.block.task child) →
        (gone : List (Task T)) → Cancels child now gone now2 →
        (gone ≡ t.it ∷ t.kids) × (now2 ≡ (c.block.front ++ c.block.task ∷ t.some) ++ (c.left ++ c.block.back))
    left_now old id depth before next now now2 seen child c t gone cancels =
        let b = c.block in
        let front = b.front ++ b.task ∷ t.some in
        let block : Block None now child = record {
          front = front;
          task = t.it;
          kids = t.kids;
          back = c.left ++ b.back;
          was = t.is;
          number = t.number;
          suited = subst (λ p. suits p t.it.role ≡ true) (sym t.parent) t.suited;
          beneath = t.below;
          around = λ others f.
              let all : Forest (Some b.task.number) (t.some ++ (others ++ c.left)) =
              forest_append t.some (others ++ c.left) t.fore
              (forest_append others c.left (subst (λ p. Forest p others) t.parent f) c.rest_left) in
              let eq : b.front ++ ((b.task ∷ (t.some ++ (others ++ c.left))) ++ b.back) ≡ (b.front ++ b.task ∷ t.some) ++
              (others ++ (c.left ++ b.back)) = simp append_assoc in
              subst (λ us. Forest None us) eq (b.around (b.task ∷ (t.some ++ (others ++ c.left)))
              (forest_one b.task.parent b.task (t.some ++ (others ++ c.left)) refl b.suited all));
        } in
        parts_same (λ u. Under now child u.number) now gone now2 (t.it ∷ t.kids) (front ++ (c.left ++ b.back)) cancels
        (block_parts now child c.nested block)

    pub clears : (old : List (Task T)) (id depth : ℕ) (before : V) (next next2 : Option ℕ) (now now2 : List (Task T)) (seen seen2 : V)
        (child : ℕ) (test : Bool) → Clearing old id depth before next now seen → next ≡ Some child →
        ((front back : List (Task T)) (u : Task T) → now ≡ front ++ u ∷ back → u.number ≡ child → next2 ≡ youngest u.parent front) →
        option_map (λ (u : Task T). is_behind depth u.role) (task_at child now) ≡ Some test → test ≡ true →
        (gone : List (Task T)) → Cancels child now gone now2 → Visited leaves seen gone seen2 →
        Clearing old id depth before next2 now2 seen2
    clears old id depth before next next2 now now2 seen seen2 child test c e step role true_is gone cancels told =
        let b = c.block in
        let t = turn old id depth before next now seen child c e in
        let own = old_block old id depth before next now seen child c t in
        let parent : t.it.parent ≡ Some id = t.parent ∙ ap (λ k. Some k) b.number in
        let the_role : t.it.role ≡ Behind depth =
        is_behind_role depth t.it.role (role_of old id depth before next now seen child test c t role ∙ true_is) in
        let inside : (u : Task T) → Under old t.it.number u.number → UnderBehind old id depth u.number =
        λ u up. record { child = t.it.number; task = t.it; is_there = own.1; parent = parent; role = the_role; under = up } in
        let l = left_now old id depth before next now now2 seen child c t gone cancels in
        let front = b.front ++ b.task ∷ t.some in
        let fewer : Forest (Some b.task.number) (t.some ++ c.left) = forest_append t.some c.left t.fore c.rest_left in
        let eq : b.front ++ ((b.task ∷ (t.some ++ c.left)) ++ b.back) ≡ front ++ (c.left ++ b.back) = simp append_assoc in
        let forest = b.around (b.task ∷ (t.some ++ c.left)) (forest_one b.task.parent b.task (t.some ++ c.left) refl b.suited fewer) in
        record {
          tree = c.tree;
          nested = record {
            forest = subst (λ us. Forest None us) (eq ∙ sym l.1) forest;
            distinct = subst Distinct (sym l.1) (distinct_drop front (t.it ∷ t.kids) (c.left ++ b.back)
                (subst Distinct t.is c.nested.distinct));
          };
          block = b;
          todo = t.some;
          done = (t.it ∷ t.kids) ++ c.done;
          gone = (t.it ∷ t.kids) ++ c.gone;
          left = c.left;
          kids = c.kids ∙ (ap (λ us. us ++ c.done) t.split ∙ append_assoc t.some (t.it ∷ t.kids) c.done);
          fore = t.fore;
          rest = forest_append (t.it ∷ t.kids) c.done t.own c.rest;
          rest_left = c.rest_left;
          is = l.1 ∙ sym eq;
          at = next_is old id depth before next next2 now seen child c t step;
          parts = all_go (λ u. UnderBehind old id depth u.number) (t.it ∷ t.kids) c.done c.gone c.left
              (each_weaker (λ u. Under old t.it.number u.number) (λ u. UnderBehind old id depth u.number) (t.it ∷ t.kids) inside own.0)
              c.parts;
          visited = visited_append leaves (t.it ∷ t.kids) c.gone before seen seen2 c.visited
              (subst (λ us. Visited leaves seen us seen2) l.0 told);
        }

    -- the children that may still come stand before this one
    fewer_come : (front rest behind : List (Task T)) (now now2 : List (Task T)) (t : Task T) (child : ℕ) (p next2 : Option ℕ)
        (a some : List (Task T)) → front ≡ a ++ some → t.number ≡ child → now ≡ front ++ t ∷ rest → task_at t.number front ≡ None →
        now2 ≡ front ++ behind → next2 ≡ youngest p some → to_come next2 now2 < to_come (Some child) now
    fewer_come front rest behind now now2 t child p next2 a some split number was absent is e = go next2 e
      where
        here_is : index child now ≡ length front
        here_is = ap (λ k. index k now) (sym number) ∙ (ap (index t.number) was ∙ index_at front rest t absent)

        go : (o : Option ℕ) → o ≡ youngest p some → to_come o now2 < suc (index child now)
        go None h = omega arith
        go (Some m) h =
            let w = there_behind m a some (youngest_there p some m (sym h)) in
            let r = index_within front behind m w.0 (ap (task_at m) split ∙ w.1) in
            let k : index m now2 ≡ index m (front ++ behind) = ap (index m) is in
            omega (arith, r, k, here_is)

    pub passes_fewer : (old : List (Task T)) (id depth : ℕ) (before : V) (next next2 : Option ℕ) (now : List (Task T)) (seen : V)
        (child : ℕ) → Clearing old id depth before next now seen → next ≡ Some child →
        ((front back : List (Task T)) (u : Task T) → now ≡ front ++ u ∷ back → u.number ≡ child → next2 ≡ youngest u.parent front) →
        to_come next2 now < to_come next now
    passes_fewer old id depth before next next2 now seen child c e step =
        let b = c.block in
        let t = turn old id depth before next now seen child c e in
        let front = b.front ++ b.task ∷ t.some in
        let alone = beside front (t.kids ++ (c.left ++ b.back)) t.it (subst Distinct t.is c.nested.distinct) in
        subst (λ o. to_come next2 now < to_come o now) (sym e)
        (fewer_come front (t.kids ++ (c.left ++ b.back)) (t.it ∷ (t.kids ++ (c.left ++ b.back))) now now t.it child
        (Some b.task.number) next2 (b.front ++ b.task ∷ []) t.some (simp append_assoc) t.number t.is alone.0 t.is
        (next_is old id depth before next next2 now seen child c t step))

    pub clears_fewer : (old : List (Task T)) (id depth : ℕ) (before : V) (next next2 : Option ℕ) (now now2 : List (Task T)) (seen : V)
        (child : ℕ) → Clearing old id depth before next now seen → next ≡ Some child →
        ((front back : List (Task T)) (u : Task T) → now ≡ front ++ u ∷ back → u.number ≡ child → next2 ≡ youngest u.parent front) →
        (gone : List (Task T)) → Cancels child now gone now2 → to_come next2 now2 < to_come next now
    clears_fewer old id depth before next next2 now now2 seen child c e step gone cancels =
        let b = c.block in
        let t = turn old id depth before next now seen child c e in
        let front = b.front ++ b.task ∷ t.some in
        let alone = beside front (t.kids ++ (c.left ++ b.back)) t.it (subst Distinct t.is c.nested.distinct) in
        let l = left_now old id depth before next now now2 seen child c t gone cancels in
        subst (λ o. to_come next2 now2 < to_come o now) (sym e)
        (fewer_come front (t.kids ++ (c.left ++ b.back)) (c.left ++ b.back) now now2 t.it child (Some b.task.number) next2
        (b.front ++ b.task ∷ []) t.some (simp append_assoc) t.number t.is alone.0 l.1
        (next_is old id depth before next next2 now seen child c t step))

    pub is_over : (old : List (Task T)) (id depth : ℕ) (before : V) (next : Option ℕ) (now : List (Task T)) (seen : V) →
        Clearing old id depth before next now seen → next ≡ None → (gone : List (Task T)) × CancelsBehind id depth old gone now ×
        Visited leaves before gone seen
    is_over old id depth before next now seen c e =
        let b = c.block in
        let P : Task T → Type 0 = λ u. UnderBehind old id depth u.number in
        let nothing = forest_empty (Some b.task.number) c.todo c.fore (sym c.at ∙ e) in
        let kids : b.kids ≡ c.done = c.kids ∙ ap (λ us. us ++ c.done) nothing in
        let out = not_under old id c.tree b in
        let down : (u : Task T) → UnderBehind old id depth u.number → Under old id u.number =
        λ u h. under_trans old id h.child u.number (beneath h.child id h.task h.is_there h.parent itself) h.under in
        let away : (u : Task T) → (Under old id u.number → ⊥) → P u → ⊥ = λ u f h. f (down u h) in
        let not_self : P b.task → ⊥ = λ h. parent_not_under old h.child id h.task c.tree h.is_there h.parent
        (subst (λ k. Under old h.child k) b.number h.under) in
        let front : Parts P b.front [] b.front =
        rest_stays P b.front (each_weaker (λ u. Under old id u.number → ⊥) (λ u. P u → ⊥) b.front away out.0) in
        let back : Parts P b.back [] b.back = rest_stays P b.back
        (each_weaker (λ u. Under old id u.number → ⊥) (λ u. P u → ⊥) b.back away out.1) in
        let tail : Parts P (c.done ++ b.back) (c.gone ++ []) (c.left ++ b.back) =
        parts_append P c.done c.gone c.left b.back [] b.back c.parts back in
        let all : Parts P (b.front ++ (b.task ∷ (c.done ++ b.back))) (c.gone ++ []) (b.front ++ (b.task ∷ (c.left ++ b.back))) =
        parts_append P b.front [] b.front (b.task ∷ (c.done ++ b.back)) (c.gone ++ []) (b.task ∷ (c.left ++ b.back)) front
        (one_stays b.task not_self tail) in
        let old_is : b.front ++ (b.task ∷ (c.done ++ b.back)) ≡ old = sym (b.was ∙ ap (λ ks. b.front ++ (b.task ∷ (ks ++ b.back))) kids) in
        let now_is : b.front ++ (b.task ∷ (c.left ++ b.back)) ≡ now =
        sym (c.is ∙ ap (λ us. b.front ++ ((b.task ∷ (us ++ c.left)) ++ b.back)) nothing) in (
          c.gone,
          subst (λ us. Parts P old us now) (append-nil c.gone)
              (subst (λ us. Parts P us (c.gone ++ []) now) old_is
              (subst (λ us. Parts P (b.front ++ (b.task ∷ (c.done ++ b.back))) (c.gone ++ []) us) now_is all)),
          c.visited,
        )
