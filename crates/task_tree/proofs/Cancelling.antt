-- A block of tasks that is removed from its end.
use Rattle.std.proofs.Common.{◌≡◌, ℕ, ◌<◌, eqb, if◌then◌else◌, List, [], ◌∷◌, ◌++◌, length, Option, Some, None, is_some, refl, sym, ap}
use Rattle.std.proofs.Common.{subst, ◌∙◌, append_assoc, length-append, arith}
use Rattle.std.proofs.lemmas.Bool.{eq-eqb, ne_eqb}
use Rattle.std.proofs.lemmas.List.{append-nil}
use Rattle.task_tree.specs.declared.nodes.Node.{Node}
use Rattle.task_tree.specs.Tasks.{Task, task_at, youngest, without, IsLive, HasNoChild}
use Rattle.task_tree.specs.Nested.{no_tasks, Distinct, IsTree, Under}
use Rattle.task_tree.specs.Links.{last, task_of}
use Rattle.task_tree.specs.Removing.{Each, Parts, all_parted, one_goes, one_stays, Cancels, Visited}
use Rattle.task_tree.specs.Blocks.{Block, EndsBelow}
use Rattle.task_tree.proofs.Standing.{never, inner, absent_parts, absent_head, absent_both, beside, at_place, without_at, no_child_parts}
use Rattle.task_tree.proofs.Standing.{last_behind}
use Rattle.task_tree.proofs.Forests.{place, outsiders}
use Rattle.task_tree.proofs.Linking.{children, last_none, last_split}
use Rattle.task_tree.proofs.Under.{block_under, not_under}

module _ {T : Type 0} where
  pub all_stay : (P : Task T → Type 0) (a old gone left : List (Task T)) → Each (λ t. P t → ⊥) a → Parts P old gone left →
      Parts P (a ++ old) gone (a ++ left)
  all_stay P [] old gone left e p = p
  all_stay P (t ∷ ts) old gone left e p = one_stays t e.0 (all_stay P ts old gone left e.1 p)

  pub all_go : (P : Task T → Type 0) (a old gone left : List (Task T)) → Each P a → Parts P old gone left →
      Parts P (a ++ old) (a ++ gone) left
  all_go P [] old gone left e p = p
  all_go P (t ∷ ts) old gone left e p = one_goes t e.0 (all_go P ts old gone left e.1 p)

  pub rest_stays : (P : Task T → Type 0) (a : List (Task T)) → Each (λ t. P t → ⊥) a → Parts P a [] a
  rest_stays P [] e = all_parted
  rest_stays P (t ∷ ts) e = one_stays t e.0 (rest_stays P ts e.1)

  pub block_parts : (ts : List (Task T)) (n : ℕ) → IsTree ts → (b : Block None ts n) → Cancels n ts (b.task ∷ b.kids) (b.front ++ b.back)
  block_parts ts n tree b =
      let P : Task T → Type 0 = λ t. Under ts n t.number in
      let out = not_under ts n tree b in
      let tail : Parts P ((b.task ∷ b.kids) ++ b.back) ((b.task ∷ b.kids) ++ []) b.back =
      all_go P (b.task ∷ b.kids) b.back [] b.back (block_under ts n tree b) (rest_stays P b.back out.1) in
      let all : Parts P (b.front ++ (b.task ∷ b.kids ++ b.back)) ((b.task ∷ b.kids) ++ []) (b.front ++ b.back) =
      all_stay P b.front ((b.task ∷ b.kids) ++ b.back) ((b.task ∷ b.kids) ++ []) b.back out.0 tail in
      subst (λ us. Parts P us (b.task ∷ b.kids) (b.front ++ b.back)) (sym b.was)
      (subst (λ us. Parts P (b.front ++ (b.task ∷ b.kids ++ b.back)) us (b.front ++ b.back)) (append-nil (b.task ∷ b.kids)) all)

  module _ {V : Type 0} (leaves : V → ℕ → T → V → Type 0) where
    -- so far the end of a block was removed, and the visitor was told of it
    pub record Cancelling (old : List (Task T)) (id : ℕ) (before : V) (next : Option ℕ) (now : List (Task T)) (seen : V) : Type 0 where
      pub tree : IsTree old
      pub nested : IsTree now
      pub block : Block None old id
      pub todo : List (Task T)
      pub gone : List (Task T)
      pub parts : block.task ∷ block.kids ≡ todo ++ gone
      pub is : now ≡ block.front ++ (todo ++ block.back)
      pub at : next ≡ last todo
      pub visited : Visited leaves before gone seen

    pub begins : (old : List (Task T)) (id end : ℕ) (seen : V) → IsTree old → EndsBelow old id end →
        Cancelling old id seen (Some end) old seen
    begins old id end seen tree e =
        let b = e.block in
        record {
          tree = tree;
          nested = tree;
          block = b;
          todo = b.task ∷ b.kids;
          gone = [];
          parts = sym (append-nil (b.task ∷ b.kids));
          is = b.was;
          at = sym (sym (last_behind b.front b.task b.kids) ∙ e.ends);
          visited = refl;
        }

    -- the next one, as it stands in the tasks that are left
    record Next (old : List (Task T)) (id at : ℕ) (b : Block None old id) (todo now : List (Task T)) : Type 0 where
      some : List (Task T)
      task : Task T
      split : todo ≡ some ++ task ∷ []
      number : task.number ≡ at
      place : now ≡ (b.front ++ some) ++ task ∷ b.back

    next_of : (old : List (Task T)) (id at : ℕ) (before : V) (next : Option ℕ) (now : List (Task T)) (seen : V) →
        (c : Cancelling old id before next now seen) → next ≡ Some at → Next old id at c.block c.todo now
    next_of old id at before next now seen c e =
        let s = last_split c.todo at (sym c.at ∙ e) in
        record {
          some = s.0;
          task = s.1;
          split = s.2;
          number = s.3;
          place = c.is ∙ (ap (λ us. c.block.front ++ (us ++ c.block.back)) s.2 ∙ simp append_assoc);
        }

    pub is_live : (old : List (Task T)) (id at : ℕ) (before : V) (next : Option ℕ) (now : List (Task T)) (seen : V) →
        (c : Cancelling old id before next now seen) → next ≡ Some at → IsLive at now
    is_live old id at before next now seen c e =
        let n = next_of old id at before next now seen c e in
        ap is_some (ap (λ k. task_at k now) (sym n.number) ∙
        (ap (task_at n.task.number) n.place ∙ at_place (c.block.front ++ n.some) c.block.back n.task
        (subst Distinct n.place c.nested.distinct)))

    pub is_childless : (old : List (Task T)) (id at : ℕ) (before : V) (next : Option ℕ) (now : List (Task T)) (seen : V) →
        (c : Cancelling old id before next now seen) → next ≡ Some at → HasNoChild at now
    is_childless old id at before next now seen c e =
        let n = next_of old id at before next now seen c e in
        let b = c.block in
        let k = n.task.number in
        let front = b.front ++ n.some in
        let alone = beside front b.back n.task (subst Distinct n.place c.nested.distinct) in
        let p = place None now front n.task b.back c.nested.forest c.nested.distinct (λ m h. absurd (never h)) n.place in
        let kids = children now front n.task b.back c.nested n.place p in
        let absent = absent_both k b.front b.back (absent_parts k b.front n.some alone.0).0 alone.1 in
        let none = (no_child_parts (Some k) b.front b.back
        (outsiders None (b.front ++ b.back) (b.around [] no_tasks) (Some k) (λ h. never h)
        (λ m h. subst (λ j. task_at j (b.front ++ b.back) ≡ None) (inner h) absent))).1 in
        ap (λ j. youngest (Some j) now) (sym n.number) ∙ (kids.2 ∙ (sym kids.3 ∙ none))

    next_is : (old : List (Task T)) (id at : ℕ) (b : Block None old id) (some gone : List (Task T)) (t : Task T) → IsTree old →
        b.task ∷ b.kids ≡ some ++ t ∷ gone → t.number ≡ at → (if eqb at id then None else last (b.front ++ some)) ≡ last some
    next_is old id at b [] gone t tree parts number =
        let same : b.task ≡ t = cc in
        ap (λ c. if c then None else last (b.front ++ []))
        (eq-eqb at id (sym number ∙ (ap (λ (u : Task T). u.number) (sym same) ∙ b.number)))
    next_is old id at b (y ∷ ys) gone t tree parts number =
        let same : b.task ≡ y = cc in
        let rest : b.kids ≡ ys ++ t ∷ gone = cc in
        let alone = (beside b.front (b.kids ++ b.back) b.task (subst Distinct b.was tree.distinct)).1 in
        let in_kids = (absent_parts b.task.number b.kids b.back alone).0 in
        let split = absent_parts b.task.number ys (t ∷ gone) (sym (ap (task_at b.task.number) rest) ∙ in_kids) in
        let differs = (absent_head b.task.number t gone split.1).0 in
        ap (λ c. if c then None else last (b.front ++ y ∷ ys)) (ne_eqb at id (λ e. differs (number ∙ (e ∙ sym b.number)))) ∙
        last_behind b.front y ys

    pub goes_on : (old : List (Task T)) (id at : ℕ) (before : V) (next next2 : Option ℕ) (now now2 : List (Task T)) (seen seen2 : V)
        (node : Node T) → (c : Cancelling old id before next now seen) → next ≡ Some at →
        ((front back : List (Task T)) (t : Task T) → now ≡ front ++ t ∷ back → t.number ≡ at →
        next2 ≡ (if eqb at id then None else last front)) →
        now2 ≡ without at now → IsTree now2 → Some (task_of at node) ≡ task_at at now → leaves seen at node.item seen2 →
        Cancelling old id before next2 now2 seen2
    goes_on old id at before next next2 now now2 seen seen2 node c e step left nested value told =
        let n = next_of old id at before next now seen c e in
        let b = c.block in
        let front = b.front ++ n.some in
        let distinct = subst Distinct n.place c.nested.distinct in
        let parts : b.task ∷ b.kids ≡ n.some ++ n.task ∷ c.gone =
        c.parts ∙ (ap (λ us. us ++ c.gone) n.split ∙ append_assoc n.some (n.task ∷ []) c.gone) in
        let there : task_at at now ≡ Some n.task =
        ap (λ k. task_at k now) (sym n.number) ∙ (ap (task_at n.task.number) n.place ∙ at_place front b.back n.task distinct) in
        let item : node.item ≡ n.task.item = ap (λ (t : Task T). t.item) (inner (value ∙ there)) in
        let left_is : without at now ≡ front ++ b.back =
        ap (λ k. without k now) (sym n.number) ∙
        (ap (without n.task.number) n.place ∙ without_at front b.back n.task (beside front b.back n.task distinct).0) in
        record {
          tree = c.tree;
          nested = nested;
          block = b;
          todo = n.some;
          gone = n.task ∷ c.gone;
          parts = parts;
          is = left ∙ (left_is ∙ append_assoc b.front n.some b.back);
          at = step front b.back n.task n.place n.number ∙ next_is old id at b n.some c.gone n.task c.tree parts n.number;
          visited = (
            seen,
            c.visited,
            subst (λ k. leaves seen k n.task.item seen2) (sym n.number)
                (subst (λ i. leaves seen at i seen2) item told),
          );
        }

    pub gets_shorter : (old : List (Task T)) (id at : ℕ) (before : V) (next : Option ℕ) (now now2 : List (Task T)) (seen : V) →
        (c : Cancelling old id before next now seen) → next ≡ Some at → now2 ≡ without at now → length now2 < length now
    gets_shorter old id at before next now now2 seen c e left =
        let n = next_of old id at before next now seen c e in
        let b = c.block in
        let front = b.front ++ n.some in
        let distinct = subst Distinct n.place c.nested.distinct in
        let left_is : without at now ≡ front ++ b.back =
        ap (λ k. without k now) (sym n.number) ∙
        (ap (without n.task.number) n.place ∙ without_at front b.back n.task (beside front b.back n.task distinct).0) in
        omega (arith, ap length n.place, ap length (left ∙ left_is), length-append front b.back, length-append front (n.task ∷ b.back))

    pub is_over : (old : List (Task T)) (id : ℕ) (before : V) (next : Option ℕ) (now : List (Task T)) (seen : V) →
        Cancelling old id before next now seen → next ≡ None →
        (gone : List (Task T)) × Cancels id old gone now × Visited leaves before gone seen
    is_over old id before next now seen c e =
        let nothing = last_none c.todo (sym c.at ∙ e) in
        let all : c.gone ≡ c.block.task ∷ c.block.kids = sym (c.parts ∙ ap (λ us. us ++ c.gone) nothing) in
        let left : now ≡ c.block.front ++ c.block.back = c.is ∙ ap (λ us. c.block.front ++ (us ++ c.block.back)) nothing in (
          c.gone,
          subst (λ us. Cancels id old us now) (sym all)
              (subst (λ us. Cancels id old (c.block.task ∷ c.block.kids) us) (sym left) (block_parts old id c.tree c.block)),
          c.visited,
        )
