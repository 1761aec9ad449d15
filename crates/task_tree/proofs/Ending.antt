-- Where the tasks that a task encloses end.
use Rattle.std.proofs.Common.{◌≡◌, ℕ, ◌<◌, if◌then◌else◌, true, List, [], ◌∷◌, ◌++◌, length, Option, Some, None, refl, sym, ap, subst, ◌∙◌}
use Rattle.std.proofs.Common.{append_assoc, length-append, arith}
use Rattle.std.proofs.lemmas.Bool.{eq-eqb, ne_eqb}
use Rattle.task_tree.specs.Tasks.{Task, task_at, youngest, or_else, suits, IsLive}
use Rattle.task_tree.specs.Nested.{Forest, no_tasks, Distinct, IsTree}
use Rattle.task_tree.specs.Links.{last}
use Rattle.task_tree.specs.Blocks.{Block, Down, EndsBelow, count_behind}
use Rattle.task_tree.proofs.Standing.{never, inner, found, absent_parts, absent_head, absent_then, beside, distinct_parts, youngest_append}
use Rattle.task_tree.proofs.Standing.{youngest_other, no_child_parts, else_none, last_behind}
use Rattle.task_tree.proofs.Forests.{place, outsiders, forest_one, forest_append, forest_empty, last_of}
use Rattle.task_tree.proofs.Linking.{not_own, not_some}

module _ {T : Type 0} where
  pub block_at : (ts front back : List (Task T)) (t : Task T) (n : ℕ) → IsTree ts → ts ≡ front ++ t ∷ back → t.number ≡ n → Block None ts n
  block_at ts front back t n tree was number =
      let p = place None ts front t back tree.forest tree.distinct (λ m h. absurd (never h)) was in
      record {
        front = front;
        task = t;
        kids = p.kids;
        back = p.younger ++ p.outer;
        was = was ∙ ap (λ xs. front ++ t ∷ xs) p.was;
        number = number;
        suited = p.suited;
        beneath = p.beneath;
        around = p.around;
      }

  pub block_of : (ts : List (Task T)) (n : ℕ) → IsTree ts → IsLive n ts → Block None ts n
  block_of ts n tree live = go (task_at n ts) refl
    where
      go : (o : Option (Task T)) → task_at n ts ≡ o → Block None ts n
      go None e = absurd (not_some n ts live (sym e))
      go (Some t) e = let a = found n ts t e in block_at ts a.front a.back t n tree a.was a.number

  -- a block's own children are all that its task has
  pub block_children : (ts : List (Task T)) (n : ℕ) → IsTree ts → (b : Block None ts n) →
      (youngest (Some b.task.number) b.front ≡ None) × (youngest (Some b.task.number) b.back ≡ None) ×
      (youngest (Some n) ts ≡ youngest (Some b.task.number) b.kids)
  block_children ts n tree b =
      let q = Some b.task.number in
      let alone = beside b.front (b.kids ++ b.back) b.task (subst Distinct b.was tree.distinct) in
      let absent : task_at b.task.number (b.front ++ b.back) ≡ None =
      absent_then b.task.number b.front b.back alone.0 ∙ (absent_parts b.task.number b.kids b.back alone.1).1 in
      let none = no_child_parts q b.front b.back
      (outsiders None (b.front ++ b.back) (b.around [] no_tasks) q (λ e. never e)
      (λ m e. subst (λ k. task_at k (b.front ++ b.back) ≡ None) (inner e) absent)) in
      let in_rest : youngest q (b.kids ++ b.back) ≡ youngest q b.kids =
      youngest_append q b.kids b.back ∙ ap (λ o. or_else o (youngest q b.kids)) none.1 in
      let in_all : youngest q ts ≡ youngest q b.kids =
      ap (youngest q) b.was ∙ (youngest_append q b.front (b.task ∷ b.kids ++ b.back) ∙
      (ap (λ o. or_else (youngest q (b.task ∷ b.kids ++ b.back)) o) none.0 ∙
      (else_none (youngest q (b.task ∷ b.kids ++ b.back)) ∙
      (youngest_other q b.task (b.kids ++ b.back) (not_own ts b.front (b.kids ++ b.back) b.task tree b.was) ∙ in_rest)))) in
      (none.0, none.1, ap (λ m. youngest (Some m) ts) (sym b.number) ∙ in_all)

  count_at : (front rest : List (Task T)) (t : Task T) → task_at t.number front ≡ None →
      count_behind t.number (front ++ t ∷ rest) ≡ length rest
  count_at [] rest t e = ap (λ b. if b then length rest else count_behind t.number rest) (eq-eqb t.number t.number refl)
  count_at (u ∷ us) rest t e =
      let h = absent_head t.number u us e in
      ap (λ b. if b then length (us ++ t ∷ rest) else count_behind t.number (us ++ t ∷ rest)) (ne_eqb u.number t.number h.0) ∙
      count_at us rest t h.1

  count_block : (ts : List (Task T)) (n : ℕ) → IsTree ts → (b : Block None ts n) → count_behind n ts ≡ length (b.kids ++ b.back)
  count_block ts n tree b =
      let alone = beside b.front (b.kids ++ b.back) b.task (subst Distinct b.was tree.distinct) in
      ap (λ m. count_behind m ts) (sym b.number) ∙
      (ap (count_behind b.task.number) b.was ∙ count_at b.front (b.kids ++ b.back) b.task alone.0)

  pub starts : (ts : List (Task T)) (n : ℕ) → IsTree ts → IsLive n ts → Down ts n n
  starts ts n tree live =
      let b = block_of ts n tree live in
      record { tree = tree; block = b; inner = b; same = refl }

  -- the block of the last child ends where that of its parent does
  last_child : (ts : List (Task T)) (at child : ℕ) → IsTree ts → (b : Block None ts at) → youngest (Some at) ts ≡ Some child →
      (c : Block None ts child) × (b.front ++ b.task ∷ b.kids ≡ c.front ++ c.task ∷ c.kids) ×
      (length (c.kids ++ c.back) < length (b.kids ++ b.back))
  last_child ts at child tree b e =
      let alone = beside b.front (b.kids ++ b.back) b.task (subst Distinct b.was tree.distinct) in
      let distinct = (distinct_parts b.kids b.back
      (distinct_parts b.front (b.task ∷ b.kids ++ b.back) (subst Distinct b.was tree.distinct)).1.1).0 in
      let out = (absent_parts b.task.number b.kids b.back alone.1).0 in
      let r = last_of (Some b.task.number) b.kids child b.beneath distinct (λ n h. subst (λ m. task_at m b.kids ≡ None) (inner h) out)
      (sym (block_children ts at tree b).2 ∙ e) in
      let c : Block None ts child = record {
        front = b.front ++ b.task ∷ r.front;
        task = r.task;
        kids = r.kids;
        back = b.back;
        was = b.was ∙ (ap (λ ks. b.front ++ b.task ∷ (ks ++ b.back)) r.was ∙ simp append_assoc);
        number = r.number;
        suited = subst (λ p. suits p r.task.role ≡ true) (sym r.parent) r.suited;
        beneath = r.beneath;
        around = λ others f.
            let more : Forest (Some b.task.number) (r.front ++ others) =
            forest_append r.front others r.before (subst (λ p. Forest p others) r.parent f) in
            let eq : b.front ++ (b.task ∷ (r.front ++ others) ++ b.back) ≡ (b.front ++ b.task ∷ r.front) ++ (others ++ b.back) =
            simp append_assoc in
            subst (λ xs. Forest None xs) eq (b.around (b.task ∷ (r.front ++ others))
            (forest_one b.task.parent b.task (r.front ++ others) refl b.suited more));
      } in (
        c,
        ap (λ ks. b.front ++ b.task ∷ ks) r.was ∙ simp append_assoc,
        omega (arith, length-append r.kids b.back, length-append b.kids b.back, ap length r.was, length-append r.front (r.task ∷ r.kids)),
      )

  pub goes_down : (ts : List (Task T)) (start at child : ℕ) → Down ts start at → youngest (Some at) ts ≡ Some child → Down ts start child
  goes_down ts start at child d e =
      let r = last_child ts at child d.tree d.inner e in
      record { tree = d.tree; block = d.block; inner = r.0; same = d.same ∙ r.1 }

  pub falls : (ts : List (Task T)) (start at child : ℕ) → Down ts start at → youngest (Some at) ts ≡ Some child →
      count_behind child ts < count_behind at ts
  falls ts start at child d e =
      let r = last_child ts at child d.tree d.inner e in
      omega (arith, r.2, count_block ts at d.tree d.inner, count_block ts child d.tree r.0)

  pub arrives : (ts : List (Task T)) (start at : ℕ) → Down ts start at → youngest (Some at) ts ≡ None → EndsBelow ts start at
  arrives ts start at d e =
      let none = forest_empty (Some d.inner.task.number) d.inner.kids d.inner.beneath (sym (block_children ts at d.tree d.inner).2 ∙ e) in
      record {
        block = d.block;
        ends = ap last d.same ∙ (last_behind d.inner.front d.inner.task d.inner.kids ∙
            (ap (λ ks. last (d.inner.task ∷ ks)) none ∙ ap (λ n. Some n) d.inner.number));
      }
