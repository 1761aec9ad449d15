-- Forests, and where a task stands in one with all that it encloses.
use Rattle.std.proofs.Common.{◌≡◌, ◌⊎◌, inl, inr, ℕ, true, List, [], ◌∷◌, ◌++◌, Option, Some, None, refl, sym, ap, subst, ◌∙◌, append_assoc}
use Rattle.std.proofs.lemmas.List.{append-nil}
use Rattle.task_tree.specs.Tasks.{Task, task_at, youngest, suits, or_else}
use Rattle.task_tree.specs.Nested.{Forest, no_tasks, a_task, Distinct}
use Rattle.task_tree.proofs.Standing.{never, inner, here, append_at, task_or, absent_parts, absent_head, distinct_parts, apart, in_first}
use Rattle.task_tree.proofs.Standing.{in_second, cut, youngest_append, no_child_both, youngest_other, youngest_same, some_child, else_none}

abbrev pub IsThere : {T : Type 0} → ℕ → List (Task T) → Type 0
IsThere {T} n ts = (t : Task T) × (task_at n ts ≡ Some t)

-- the parent is none of these
abbrev pub Outside : {T : Type 0} → Option ℕ → List (Task T) → Type 0
Outside parent ts = (n : ℕ) → parent ≡ Some n → task_at n ts ≡ None

module _ {T : Type 0} where
  pub there_behind : (n : ℕ) (a b : List (Task T)) → IsThere n b → IsThere n (a ++ b)
  there_behind n a b h = go (task_at n a) refl
    where
      go : (o : Option (Task T)) → task_at n a ≡ o → IsThere n (a ++ b)
      go None e = (h.0, append_at n a b ∙ ap (λ o. task_or o (task_at n b)) e ∙ h.1)
      go (Some t) e = (t, append_at n a b ∙ ap (λ o. task_or o (task_at n b)) e)

  pub forest_append : {p : Option ℕ} (a b : List (Task T)) → Forest p a → Forest p b → Forest p (a ++ b)
  forest_append a b no_tasks g = g
  forest_append a b (a_task t kids rest was parent role below more) g =
      a_task t kids (rest ++ b) (ap (λ xs. xs ++ b) was ∙ append_assoc (t ∷ kids) rest b) parent role below (forest_append rest b more g)

  pub forest_one : (p : Option ℕ) (t : Task T) (kids : List (Task T)) → t.parent ≡ p → suits p t.role ≡ true → Forest (Some t.number) kids →
      Forest p (t ∷ kids)
  forest_one p t kids parent role below = a_task t kids [] (sym (append-nil (t ∷ kids))) parent role below no_tasks

  -- only tasks of a forest have children in it
  pub outsiders : (p : Option ℕ) (ts : List (Task T)) → Forest p ts → (q : Option ℕ) → (p ≡ q → ⊥) → Outside q ts → youngest q ts ≡ None
  outsiders p ts no_tasks q d out = refl
  outsiders p ts (a_task t kids rest was parent role below more) q d out =
      let absent : (n : ℕ) → q ≡ Some n → (t.number ≡ n → ⊥) × (task_at n (kids ++ rest) ≡ None) =
      λ n e. absent_head n t (kids ++ rest) (sym (ap (task_at n) was) ∙ out n e) in
      let in_kids : Outside q kids = λ n e. (absent_parts n kids rest (absent n e).1).0 in
      let in_rest : Outside q rest = λ n e. (absent_parts n kids rest (absent n e).1).1 in
      let none_kids = outsiders (Some t.number) kids below q (λ e. (absent t.number (sym e)).0 refl) in_kids in
      let none_rest = outsiders p rest more q d in_rest in
      ap (youngest q) was ∙ youngest_other q t (kids ++ rest) (λ e. d (sym (e ∙ parent))) ∙ no_child_both q kids rest none_kids none_rest

  pub no_split : (front : List (Task T)) (t : Task T) (back : List (Task T)) → [] ≡ front ++ t ∷ back → ⊥
  no_split [] t back e = absurd (cc)
  no_split (u ∷ us) t back e = absurd (cc)

  -- where a task of a forest stands: beneath it, its later siblings, and what is behind these
  pub record Place (top : Option ℕ) (front : List (Task T)) (t : Task T) (behind : List (Task T)) : Type 0 where
    pub kids : List (Task T)
    pub younger : List (Task T)
    pub outer : List (Task T)
    pub was : behind ≡ kids ++ (younger ++ outer)
    pub suited : suits t.parent t.role ≡ true
    pub beneath : Forest (Some t.number) kids
    pub siblings : Forest t.parent younger
    pub no_more : youngest t.parent outer ≡ None
    pub around : (others : List (Task T)) → Forest t.parent others → Forest top (front ++ (others ++ (younger ++ outer)))
    pub above : (t.parent ≡ top) ⊎ ((n : ℕ) × (t.parent ≡ Some n) × IsThere n front)

  pub place : (top : Option ℕ) (ts front : List (Task T)) (t : Task T) (behind : List (Task T)) → Forest top ts → Distinct ts →
      Outside top ts → ts ≡ front ++ t ∷ behind → Place top front t behind
  place top ts front t behind no_tasks d out e = absurd (no_split front t behind e)
  place top ts [] t behind (a_task u kids rest was parent role below more) d out e =
      let both : u ∷ (kids ++ rest) ≡ t ∷ behind = sym was ∙ e in
      let same : u ≡ t = cc in
      let tails : kids ++ rest ≡ behind = cc in
      let own : t.parent ≡ top = ap (λ (v : Task T). v.parent) (sym same) ∙ parent in
      record {
        kids = kids;
        younger = rest;
        outer = [];
        was = sym tails ∙ ap (λ xs. kids ++ xs) (sym (append-nil rest));
        suited = subst (λ p. suits p t.role ≡ true) (sym own) (subst (λ (v : Task T). suits top v.role ≡ true) same role);
        beneath = subst (λ (v : Task T). Forest (Some v.number) kids) same below;
        siblings = subst (λ p. Forest p rest) (sym own) more;
        no_more = refl;
        around = λ others f. forest_append others (rest ++ []) (subst (λ p. Forest p others) own f)
            (subst (λ xs. Forest top xs) (sym (append-nil rest)) more);
        above = inl own;
      }
  place top ts (v ∷ vs) t behind (a_task u kids rest was parent role below more) d out e =
      let both : u ∷ (kids ++ rest) ≡ v ∷ (vs ++ t ∷ behind) = sym was ∙ e in
      let same : u ≡ v = cc in
      let tails : kids ++ rest ≡ vs ++ t ∷ behind = cc in
      let distinct : Distinct (u ∷ (kids ++ rest)) = subst Distinct was d in
      let parts = distinct_parts kids rest distinct.1 in
      elim (cut kids rest vs t behind tails) [
        | in_first m p q ↦
            let r = place (Some u.number) kids vs t m below parts.0
            (λ n h. subst (λ k. task_at k kids ≡ None) (inner h) (absent_parts u.number kids rest distinct.0).0) p in
            let there : (n : ℕ) → IsThere n ts → top ≡ Some n → ⊥ = λ n h g. never (sym (out n g) ∙ h.1) in
            let up : (n : ℕ) × (t.parent ≡ Some n) × IsThere n (u ∷ vs) × (task_at n rest ≡ None) × IsThere n ts =
            elim r.above [
              | inl g ↦ (
                u.number,
                g,
                (u, here u.number u vs refl),
                (absent_parts u.number kids rest distinct.0).1,
                (u, ap (task_at u.number) was ∙ here u.number u (kids ++ rest) refl),
              )
              | inr h ↦
                  let k : IsThere h.0 kids = (
                    h.2.0,
                    ap (task_at h.0) p ∙
                        (append_at h.0 vs (t ∷ m) ∙ ap (λ o. task_or o (task_at h.0 (t ∷ m))) h.2.1),
                  ) in
                  let l : task_at h.0 (kids ++ rest) ≡ Some k.0 = append_at h.0 kids rest ∙ ap (λ o. task_or o (task_at h.0 rest)) k.1 in
                  let w = there_behind h.0 (u ∷ []) (kids ++ rest) (k.0, l) in
                  (h.0, h.1, there_behind h.0 (u ∷ []) vs h.2, apart kids rest h.0 k.0 distinct.1 k.1, (w.0, ap (task_at h.0) was ∙ w.1))
            ] in
            let none_rest : youngest t.parent rest ≡ None =
            outsiders top rest more t.parent (λ g. there up.0 up.4 (g ∙ up.1))
            (λ n h. subst (λ k. task_at k rest ≡ None) (inner (sym up.1 ∙ h)) up.3) in
            record {
              kids = r.kids;
              younger = r.younger;
              outer = r.outer ++ rest;
              was = q ∙ ap (λ xs. xs ++ rest) r.was ∙ simp append_assoc;
              suited = r.suited;
              beneath = r.beneath;
              siblings = r.siblings;
              no_more = no_child_both t.parent r.outer rest r.no_more none_rest;
              around = λ others f.
                  a_task u (vs ++ (others ++ (r.younger ++ r.outer))) rest
                  (ap (λ w. w ∷ (vs ++ (others ++ (r.younger ++ (r.outer ++ rest))))) (sym same) ∙ simp append_assoc) parent role
                  (r.around others f) more;
              above = inr (up.0, up.1, subst (λ w. IsThere up.0 (w ∷ vs)) same up.2);
            }
        | in_second m p q ↦
            let r = place top rest m t behind more parts.1
            (λ n h. (absent_parts n kids rest (absent_head n u (kids ++ rest) (sym (ap (task_at n) was) ∙ out n h)).1).1) p in
            record {
              kids = r.kids;
              younger = r.younger;
              outer = r.outer;
              was = r.was;
              suited = r.suited;
              beneath = r.beneath;
              siblings = r.siblings;
              no_more = r.no_more;
              around = λ others f.
                  a_task u kids (m ++ (others ++ (r.younger ++ r.outer)))
                  (ap (λ w. w ∷ (vs ++ (others ++ (r.younger ++ r.outer)))) (sym same) ∙
                  (ap (λ xs. u ∷ (xs ++ (others ++ (r.younger ++ r.outer)))) q ∙ simp append_assoc)) parent role below
                  (r.around others f);
              above = elim r.above [
                | inl g ↦ inl g
                | inr h ↦ inr (h.0, h.1, subst (λ xs. IsThere h.0 (v ∷ xs)) (sym q) (there_behind h.0 (v ∷ kids) m h.2))
              ];
            }
      ]

  pub forest_empty : (p : Option ℕ) (ts : List (Task T)) → Forest p ts → youngest p ts ≡ None → ts ≡ []
  forest_empty p ts no_tasks e = refl
  forest_empty p ts (a_task t kids rest was parent role below more) e =
      absurd (some_child p [] (kids ++ rest) t (sym parent) (sym (ap (youngest p) was) ∙ e))

  -- the last of these tasks, with all that it encloses
  pub record LastOf (p : Option ℕ) (ts : List (Task T)) (n : ℕ) : Type 0 where
    pub front : List (Task T)
    pub task : Task T
    pub kids : List (Task T)
    pub was : ts ≡ front ++ task ∷ kids
    pub number : task.number ≡ n
    pub parent : task.parent ≡ p
    pub suited : suits p task.role ≡ true
    pub beneath : Forest (Some task.number) kids
    pub before : Forest p front

  pub last_of : (p : Option ℕ) (ts : List (Task T)) (n : ℕ) → Forest p ts → Distinct ts → Outside p ts → youngest p ts ≡ Some n →
      LastOf p ts n
  last_of p ts n no_tasks d out e = absurd (never e)
  last_of p ts n (a_task u kids rest was parent role below more) d out e =
      let distinct : Distinct (u ∷ (kids ++ rest)) = subst Distinct was d in
      let parts = distinct_parts kids rest distinct.1 in
      let absent : (m : ℕ) → p ≡ Some m → (u.number ≡ m → ⊥) × (task_at m (kids ++ rest) ≡ None) =
      λ m h. absent_head m u (kids ++ rest) (sym (ap (task_at m) was) ∙ out m h) in
      let none_kids : youngest p kids ≡ None =
      outsiders (Some u.number) kids below p (λ g. (absent u.number (sym g)).0 refl)
      (λ m h. (absent_parts m kids rest (absent m h).1).0) in
      let whole : or_else (youngest p rest) (Some u.number) ≡ Some n =
      sym (ap (λ o. or_else o (Some u.number))
      (youngest_append p kids rest ∙ (ap (λ o. or_else (youngest p rest) o) none_kids ∙ else_none (youngest p rest)))) ∙
      (sym (youngest_same p u (kids ++ rest) (sym parent)) ∙ (sym (ap (youngest p) was) ∙ e)) in
      let later : (m : ℕ) → youngest p rest ≡ Some m → LastOf p ts n = λ m h.
      let r = last_of p rest m more parts.1 (λ k g. (absent_parts k kids rest (absent k g).1).1) h in
      let same : m ≡ n = inner (sym (ap (λ o. or_else o (Some u.number)) h) ∙ whole) in
      record {
        front = u ∷ (kids ++ r.front);
        task = r.task;
        kids = r.kids;
        was = was ∙ (ap (λ xs. u ∷ (kids ++ xs)) r.was ∙ simp append_assoc);
        number = r.number ∙ same;
        parent = r.parent;
        suited = r.suited;
        beneath = r.beneath;
        before = a_task u kids r.front refl parent role below r.before;
      } in
      let only : youngest p rest ≡ None → LastOf p ts n = λ h.
      let nothing = forest_empty p rest more h in
      record {
        front = [];
        task = u;
        kids = kids;
        was = was ∙ (ap (λ xs. u ∷ (kids ++ xs)) nothing ∙ append-nil (u ∷ kids));
        number = inner (sym (ap (λ o. or_else o (Some u.number)) h) ∙ whole);
        parent = parent;
        suited = role;
        beneath = below;
        before = no_tasks;
      } in
      pick (youngest p rest) refl later only
    where
      pick : (o : Option ℕ) → youngest p rest ≡ o → ((m : ℕ) → youngest p rest ≡ Some m → LastOf p ts n) →
          (youngest p rest ≡ None → LastOf p ts n) → LastOf p ts n
      pick None h later only = only h
      pick (Some m) h later only = later m h
