-- What a task encloses, by chains of parents.
use Rattle.std.proofs.Common.{◌≡◌, ℕ, true, List, [], ◌∷◌, ◌++◌, Option, Some, None, is_some, refl, sym, ap, subst, ◌∙◌, append_assoc}
use Rattle.std.proofs.lemmas.List.{append-nil}
use Rattle.task_tree.specs.Tasks.{Task, task_at, youngest, suits, IsLive}
use Rattle.task_tree.specs.Nested.{Forest, no_tasks, a_task, Distinct, IsTree, Under, itself, beneath}
use Rattle.task_tree.specs.Links.{last}
use Rattle.task_tree.specs.Removing.{Each, StandsTogether}
use Rattle.task_tree.specs.Blocks.{Block, EndsBelow, EndsAt}
use Rattle.task_tree.proofs.Standing.{never, inner, here, found, append_at, task_or, absent_parts, absent_head, absent_then, absent_both}
use Rattle.task_tree.proofs.Standing.{present_then, beside, at_place, apart, distinct_parts, in_first, in_second, cut, some_child}
use Rattle.task_tree.proofs.Forests.{IsThere, there_behind, outsiders, forest_one, forest_append, forest_empty, last_of}
use Rattle.task_tree.proofs.Linking.{last_split}
use Rattle.task_tree.proofs.Ending.{block_children, block_of}

module _ {T : Type 0} where
  pub each_append : (P : Task T → Type 0) (a b : List (Task T)) → Each P a → Each P b → Each P (a ++ b)
  each_append P [] b p q = q
  each_append P (t ∷ ts) b p q = (p.0, each_append P ts b p.1 q)

  pub each_parts : (P : Task T → Type 0) (a b : List (Task T)) → Each P (a ++ b) → Each P a × Each P b
  each_parts P [] b p = (tt, p)
  each_parts P (t ∷ ts) b p = let r = each_parts P ts b p.1 in ((p.0, r.0), r.1)

  pub each_weaker : (P Q : Task T → Type 0) (ts : List (Task T)) → ((t : Task T) → P t → Q t) → Each P ts → Each Q ts
  each_weaker P Q [] f p = tt
  each_weaker P Q (t ∷ ts) f p = (f t p.0, each_weaker P Q ts f p.1)

  own_from : (front back : List (Task T)) → Distinct (front ++ back) → Each (λ t. task_at t.number (front ++ back) ≡ Some t) back
  own_from front [] d = tt
  own_from front (t ∷ ts) d =
      let eq : (front ++ t ∷ []) ++ ts ≡ front ++ t ∷ ts = append_assoc front (t ∷ []) ts in
      let rest = own_from (front ++ t ∷ []) ts (subst Distinct (sym eq) d) in
      (at_place front ts t d, subst (λ us. Each (λ u. task_at u.number us ≡ Some u) ts) eq rest)

  pub own_numbers : (ts : List (Task T)) → Distinct ts → Each (λ t. task_at t.number ts ≡ Some t) ts
  own_numbers ts d = own_from [] ts d

  pub forest_under : (ts : List (Task T)) (n p : ℕ) (kids : List (Task T)) → Forest (Some p) kids → Under ts n p →
      Each (λ t. task_at t.number ts ≡ Some t) kids → Each (λ t. Under ts n t.number) kids
  forest_under ts n p kids no_tasks up own = tt
  forest_under ts n p kids (a_task t ks rest was parent role below more) up own =
      let all : Each (λ u. task_at u.number ts ≡ Some u) (t ∷ (ks ++ rest)) =
      subst (λ us. Each (λ u. task_at u.number ts ≡ Some u) us) was own in
      let parts = each_parts (λ u. task_at u.number ts ≡ Some u) ks rest all.1 in
      let this : Under ts n t.number = beneath t.number p t all.0 parent up in
      subst (λ us. Each (λ u. Under ts n u.number) us) (sym was) (
        this,
        each_append (λ u. Under ts n u.number) ks rest (forest_under ts n t.number ks below this parts.0)
            (forest_under ts n p rest more up parts.1),
      )

  pub block_under : (ts : List (Task T)) (n : ℕ) → IsTree ts → (b : Block None ts n) → Each (λ t. Under ts n t.number) (b.task ∷ b.kids)
  block_under ts n tree b =
      let own = subst (λ us. Each (λ t. task_at t.number ts ≡ Some t) us) b.was (own_numbers ts tree.distinct) in
      let own_kids = (each_parts (λ t. task_at t.number ts ≡ Some t) b.kids b.back
      (each_parts (λ t. task_at t.number ts ≡ Some t) b.front (b.task ∷ b.kids ++ b.back) own).1.1).0 in
      let top : Under ts n b.task.number = subst (λ m. Under ts n m) (sym b.number) itself in
      (top, forest_under ts n b.task.number b.kids b.beneath top own_kids)

  skip : (m : ℕ) (a b c : List (Task T)) → task_at m b ≡ None → task_at m (a ++ (b ++ c)) ≡ task_at m (a ++ c)
  skip m a b c e = append_at m a (b ++ c) ∙ (ap (task_or (task_at m a)) (absent_then m b c e) ∙ sym (append_at m a c))

  pub under_in_block : (ts : List (Task T)) (n : ℕ) → IsTree ts → (b : Block None ts n) → (m : ℕ) → Under ts n m →
      IsThere m (b.task ∷ b.kids)
  under_in_block ts n tree b m itself = (b.task, here n b.task b.kids b.number)
  under_in_block ts n tree b m (beneath _ p t is parent up) = go (under_in_block ts n tree b p up) (task_at m (b.task ∷ b.kids)) refl
    where
      go : IsThere p (b.task ∷ b.kids) → (o : Option (Task T)) → task_at m (b.task ∷ b.kids) ≡ o → IsThere m (b.task ∷ b.kids)
      go h (Some u) e = (u, e)
      go h None e =
          let out : task_at m (b.front ++ b.back) ≡ Some t = sym (ap (task_at m) b.was ∙ skip m b.front (b.task ∷ b.kids) b.back e) ∙ is in
          let distinct = subst Distinct b.was tree.distinct in
          let behind = apart (b.task ∷ b.kids) b.back p h.0 (distinct_parts b.front (b.task ∷ b.kids ++ b.back) distinct).1 h.1 in
          let before = not_before b.front (b.task ∷ b.kids ++ b.back) p distinct (h.0, present_then p (b.task ∷ b.kids) b.back h.0 h.1) in
          let none = outsiders None (b.front ++ b.back) (b.around [] no_tasks) (Some p) (λ s. never s)
          (λ k s. subst (λ j. task_at j (b.front ++ b.back) ≡ None) (inner s) (absent_both p b.front b.back before behind)) in
          let a = found m (b.front ++ b.back) t out in
          absurd (some_child (Some p) a.front a.back t (sym parent) (sym (ap (youngest (Some p)) a.was) ∙ none))
        where
          not_before : (xs ys : List (Task T)) (q : ℕ) → Distinct (xs ++ ys) → IsThere q ys → task_at q xs ≡ None
          not_before xs ys q d there = pick (task_at q xs) refl
            where
              pick : (o : Option (Task T)) → task_at q xs ≡ o → task_at q xs ≡ None
              pick None f = f
              pick (Some v) f = absurd (never (sym (apart xs ys q v d f) ∙ there.1))

  apart_each : (xs block : List (Task T)) → ((m : ℕ) → IsThere m xs → task_at m block ≡ None) → Each (λ t. task_at t.number block ≡ None) xs
  apart_each [] block f = tt
  apart_each (t ∷ ts) block f =
      (f t.number (t, here t.number t ts refl), apart_each ts block (λ m h. f m (there_behind m (t ∷ []) ts h)))

  pub not_under : (ts : List (Task T)) (n : ℕ) → IsTree ts → (b : Block None ts n) →
      Each (λ t. Under ts n t.number → ⊥) b.front × Each (λ t. Under ts n t.number → ⊥) b.back
  not_under ts n tree b =
      let distinct = subst Distinct b.was tree.distinct in
      let block = b.task ∷ b.kids in
      let away : (t : Task T) → task_at t.number block ≡ None → Under ts n t.number → ⊥ = λ t e up. let h =
      under_in_block ts n tree b t.number up in never (sym e ∙ h.1) in
      let before = apart_each b.front block (λ m h. (absent_parts m block b.back (apart b.front (block ++ b.back) m h.0 distinct h.1)).0) in
      let pick : (m : ℕ) (o : Option (Task T)) → task_at m block ≡ o → IsThere m b.back → task_at m block ≡ None =
      λ m o e h. elim o as (λ p. task_at m block ≡ p → task_at m block ≡ None) [
        | None ↦ λ f. f
        | Some u ↦ λ f. absurd (never (sym (apart block b.back m u (distinct_parts b.front (block ++ b.back) distinct).1 f) ∙ h.1))
      ] e in
      let behind = apart_each b.back block (λ m h. pick m (task_at m block) refl h) in (
        each_weaker (λ t. task_at t.number block ≡ None) (λ t. Under ts n t.number → ⊥) b.front away before,
        each_weaker (λ t. task_at t.number block ≡ None) (λ t. Under ts n t.number → ⊥) b.back away behind,
      )

  pub below_parent : (ts : List (Task T)) (p end : ℕ) → IsTree ts → EndsBelow ts p end → EndsAt ts (Some p) (Some end)
  below_parent ts p end tree e =
      let b = e.block in
      let front = b.front ++ b.task ∷ b.kids in
      let was : ts ≡ front ++ b.back = b.was ∙ sym (append_assoc b.front (b.task ∷ b.kids) b.back) in
      let s = last_split front end e.ends in
      let under = block_under ts p tree b in
      let last_under = last_of_each s.0 s.1 (b.front) (b.task) (b.kids) s.2 under in
      record {
        front = front;
        back = b.back;
        was = was;
        ends = sym e.ends;
        none = subst (λ k. youngest (Some k) b.back ≡ None) b.number (block_children ts p tree b).1;
        above = λ k h. subst (λ j. task_at j b.back ≡ None) (b.number ∙ inner h)
            (absent_parts b.task.number b.kids b.back (beside b.front (b.kids ++ b.back) b.task (subst Distinct b.was tree.distinct)).1).1;
        grows = λ t parent suited.
            let at_top : t.parent ≡ Some b.task.number = parent ∙ ap (λ k. Some k) (sym b.number) in
            let one = forest_one (Some b.task.number) t [] at_top (subst (λ q. suits q t.role ≡ true) at_top suited) no_tasks in
            let more = forest_one b.task.parent b.task (b.kids ++ t ∷ []) refl b.suited (forest_append b.kids (t ∷ []) b.beneath one) in
            let eq : b.front ++ (b.task ∷ (b.kids ++ t ∷ []) ++ b.back) ≡ (b.front ++ b.task ∷ b.kids) ++ t ∷ b.back = simp append_assoc in
            subst (λ xs. Forest None xs) eq (b.around (b.task ∷ (b.kids ++ t ∷ [])) more);
        behind = (record { some = s.0; last = s.1; is = s.2; under = last_under }, (not_under ts p tree b).1);
      }
    where
      last_of_each : (some : List (Task T)) (l : Task T) (xs : List (Task T)) (y : Task T) (ys : List (Task T)) →
          xs ++ y ∷ ys ≡ some ++ l ∷ [] → Each (λ t. Under ts p t.number) (y ∷ ys) → Under ts p l.number
      last_of_each some l xs y ys h each =
          elim (cut xs (y ∷ ys) some l [] h) [
            | in_first m g k ↦ absurd (no_more m y ys k)
            | in_second m g k ↦ (each_parts (λ t. Under ts p t.number) m (l ∷ [])
                (subst (λ us. Each (λ t. Under ts p t.number) us) g each)).1.0
          ]
        where
          no_more : (m : List (Task T)) (y : Task T) (ys : List (Task T)) → [] ≡ m ++ y ∷ ys → ⊥
          no_more [] y ys k = absurd (cc)
          no_more (z ∷ zs) y ys k = absurd (cc)

  same_place : (a b c d : List (Task T)) (t u : Task T) → Distinct (a ++ t ∷ b) → a ++ t ∷ b ≡ c ++ u ∷ d → t.number ≡ u.number →
      (a ≡ c) × (b ≡ d)
  same_place a b c d t u distinct e number =
      let alone = beside a b t distinct in
      elim (cut a (t ∷ b) c u d e) [
        | in_first m g h ↦ absurd (not_in c m (sym g) alone.0)
        | in_second m g h ↦ go m g h alone.1
      ]
    where
      not_in : (xs ys : List (Task T)) → {zs : List (Task T)} → xs ++ u ∷ ys ≡ zs → task_at t.number zs ≡ None → ⊥
      not_in xs ys {zs} g none =
          let split = absent_parts t.number xs (u ∷ ys) (ap (task_at t.number) g ∙ none) in
          (absent_head t.number u ys split.1).0 (sym number)

      go : (m : List (Task T)) → t ∷ b ≡ m ++ u ∷ d → c ≡ a ++ m → task_at t.number b ≡ None → (a ≡ c) × (b ≡ d)
      go [] g h none = let rest : b ≡ d = cc in (sym (h ∙ append-nil a), rest)
      go (v ∷ m) g h none = let rest : b ≡ m ++ u ∷ d = cc in absurd (not_in m d (sym rest) none)

  pub below_last : (ts : List (Task T)) (r end : ℕ) → IsTree ts → youngest None ts ≡ Some r → EndsBelow ts r end → EndsAt ts None (Some end)
  below_last ts r end tree e below =
      let b = below.block in
      let l = last_of None ts r tree.forest tree.distinct (λ n h. absurd (never h)) e in
      let distinct = subst Distinct b.was tree.distinct in
      let same = same_place b.front (b.kids ++ b.back) l.front l.kids b.task l.task distinct (sym b.was ∙ l.was)
      (b.number ∙ sym l.number) in
      let own = (each_parts (λ t. task_at t.number ts ≡ Some t) l.front (l.task ∷ l.kids)
      (subst (λ us. Each (λ t. task_at t.number ts ≡ Some t) us) l.was (own_numbers ts tree.distinct))).1.1 in
      let all = forest_under ts r l.task.number l.kids l.beneath (subst (λ m. Under ts r m) (sym l.number) itself) own in
      let under_back = (each_parts (λ t. Under ts r t.number) b.kids b.back
      (subst (λ us. Each (λ t. Under ts r t.number) us) (sym same.1) all)).1 in
      let nothing = both_nil b.back under_back (not_under ts r tree b).1 in
      let was : ts ≡ b.front ++ b.task ∷ b.kids =
      b.was ∙ (ap (λ us. b.front ++ b.task ∷ (b.kids ++ us)) nothing ∙ ap (λ us. b.front ++ b.task ∷ us) (append-nil b.kids)) in
      record {
        front = ts;
        back = [];
        was = sym (append-nil ts);
        ends = sym (ap last was ∙ below.ends);
        none = refl;
        above = λ n h. refl;
        grows = λ t parent suited. forest_append ts (t ∷ []) tree.forest
            (forest_one None t [] parent (subst (λ q. suits q t.role ≡ true) parent suited) no_tasks);
        behind = refl;
      }
    where
      both_nil : (us : List (Task T)) → Each (λ t. Under ts r t.number) us → Each (λ t. Under ts r t.number → ⊥) us → us ≡ []
      both_nil [] p q = refl
      both_nil (u ∷ us) p q = absurd (q.0 p.0)

  pub no_roots : (ts : List (Task T)) → IsTree ts → youngest None ts ≡ None → EndsAt ts None None
  no_roots ts tree e =
      let nothing = forest_empty None ts tree.forest e in
      record {
        front = [];
        back = [];
        was = nothing;
        ends = refl;
        none = refl;
        above = λ n h. refl;
        grows = λ t parent suited. forest_one None t [] parent (subst (λ q. suits q t.role ≡ true) parent suited) no_tasks;
        behind = refl;
      }

  pub root_live : (ts : List (Task T)) (r : ℕ) → IsTree ts → youngest None ts ≡ Some r → IsLive r ts
  root_live ts r tree e =
      let l = last_of None ts r tree.forest tree.distinct (λ n h. absurd (never h)) e in
      let is : task_at r ts ≡ Some l.task = ap (λ n. task_at n ts) (sym l.number) ∙
      (ap (task_at l.task.number) l.was ∙ at_place l.front l.kids l.task (subst Distinct l.was tree.distinct)) in
      ap is_some is

  pub stands_so : (ts : List (Task T)) (n : ℕ) → IsTree ts → IsLive n ts → StandsTogether ts n
  stands_so ts n tree live =
      let b = block_of ts n tree live in
      let out = not_under ts n tree b in
      record {
        front = b.front;
        task = b.task;
        enclosed = b.kids;
        back = b.back;
        is = b.was;
        number = b.number;
        under = block_under ts n tree b;
        not_before = out.0;
        not_behind = out.1;
      }
