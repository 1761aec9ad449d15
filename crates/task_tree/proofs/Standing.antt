-- Where tasks stand in a list, and what stands next to them.
use Rattle.std.proofs.Common.{◌≡◌, ◌⊎◌, inl, inr, ℕ, eqb, Bool, true, false, if◌then◌else◌, List, [], ◌∷◌, ◌++◌, Option, Some, None, refl}
use Rattle.std.proofs.Common.{sym, ap, subst, ◌∙◌}
use Rattle.std.proofs.lemmas.Bool.{cases_eq, eq-eqb, ne_eqb}
use Rattle.std.proofs.lemmas.Option.{same_Some, none-some}
use Rattle.task_tree.specs.Tasks.{Task, task_at, first, after, is_child, or_else, youngest, without, changed_at}
use Rattle.task_tree.specs.Links.{last}
use Rattle.task_tree.specs.Nested.{Distinct}

pub else_none : (x : Option ℕ) → or_else x None ≡ x
else_none None = refl
else_none (Some n) = refl

pub else_else : (x y z : Option ℕ) → or_else (or_else x y) z ≡ or_else x (or_else y z)
else_else None y z = refl
else_else (Some n) y z = refl

pub inner : {A : Type 0} {a b : A} → Some a ≡ Some b → a ≡ b
inner {A} {a} {b} e = same_Some a b e

pub never : {A : Type 0} {a : A} → None ≡ Some a → ⊥
never {A} {a} e = none-some a e

pub else_absent : (x y : Option ℕ) → or_else x y ≡ None → (x ≡ None) × (y ≡ None)
else_absent None y e = (refl, e)
else_absent (Some n) y e = absurd (never (sym e))

pub child_same : (p q : Option ℕ) → p ≡ q → is_child p q ≡ true
child_same None None e = refl
child_same None (Some m) e = absurd (never e)
child_same (Some n) None e = absurd (never (sym e))
child_same (Some n) (Some m) e = eq-eqb n m (inner e)

pub child_other : (p q : Option ℕ) → (p ≡ q → ⊥) → is_child p q ≡ false
child_other None None d = absurd (d refl)
child_other None (Some m) d = refl
child_other (Some n) None d = refl
child_other (Some n) (Some m) d = ne_eqb n m (λ e. d (ap (λ k. Some k) e))

pub cases_parent : (p q : Option ℕ) → (p ≡ q) ⊎ (p ≡ q → ⊥)
cases_parent None None = inl refl
cases_parent None (Some m) = inr (λ e. never e)
cases_parent (Some n) None = inr (λ e. never (sym e))
cases_parent (Some n) (Some m) = elim (cases_eq n m) [ inl e ↦ inl (ap (λ k. Some k) e) | inr d ↦ inr (λ e. d (inner e)) ]

module _ {T : Type 0} where
  pub here : (n : ℕ) (t : Task T) (ts : List (Task T)) → t.number ≡ n → task_at n (t ∷ ts) ≡ Some t
  here n t ts e = rw (eq-eqb t.number n e) refl

  pub further : (n : ℕ) (t : Task T) (ts : List (Task T)) → (t.number ≡ n → ⊥) → task_at n (t ∷ ts) ≡ task_at n ts
  further n t ts d = rw (ne_eqb t.number n d) refl

  -- a task with this number, and what stands before it and behind it
  pub record At (n : ℕ) (ts : List (Task T)) (t : Task T) : Type 0 where
    pub front : List (Task T)
    pub back : List (Task T)
    pub was : ts ≡ front ++ t ∷ back
    pub number : t.number ≡ n
    pub absent : task_at n front ≡ None

  pub found : (n : ℕ) (ts : List (Task T)) (t : Task T) → task_at n ts ≡ Some t → At n ts t
  found n [] t e = absurd (never e)
  found n (u ∷ us) t e =
      elim (cases_eq u.number n) [
        | inl same ↦
            let it : u ≡ t = inner (sym (here n u us same) ∙ e) in
            record {
              front = [];
              back = us;
              was = ap (λ v. v ∷ us) it;
              number = ap (λ (v : Task T). v.number) (sym it) ∙ same;
              absent =
                  refl;
            }
        | inr differs ↦
            let a = found n us t (sym (further n u us differs) ∙ e) in
            record {
              front = u ∷ a.front;
              back = a.back;
              was = ap (λ vs. u ∷ vs) a.was;
              number = a.number;
              absent =
                  further n u a.front differs ∙ a.absent;
            }
      ]

  abbrev pub task_or : Option (Task T) → Option (Task T) → Option (Task T)
  task_or (Some t) other = Some t
  task_or None other = other

  pub append_at : (n : ℕ) (a b : List (Task T)) → task_at n (a ++ b) ≡ task_or (task_at n a) (task_at n b)
  append_at n [] b = refl
  append_at n (t ∷ ts) b = pick (eqb t.number n) (append_at n ts b)
    where
      pick : (c : Bool) → task_at n (ts ++ b) ≡ task_or (task_at n ts) (task_at n b) →
          (if c then Some t else task_at n (ts ++ b)) ≡ task_or (if c then Some t else task_at n ts) (task_at n b)
      pick true e = refl
      pick false e = e

  or_none : (x y : Option (Task T)) → task_or x y ≡ None → (x ≡ None) × (y ≡ None)
  or_none None y e = (refl, e)
  or_none (Some t) y e = absurd (never (sym e))

  pub absent_parts : (n : ℕ) (a b : List (Task T)) → task_at n (a ++ b) ≡ None → (task_at n a ≡ None) × (task_at n b ≡ None)
  absent_parts n a b e = or_none (task_at n a) (task_at n b) (sym (append_at n a b) ∙ e)

  pub absent_both : (n : ℕ) (a b : List (Task T)) → task_at n a ≡ None → task_at n b ≡ None → task_at n (a ++ b) ≡ None
  absent_both n a b e f = append_at n a b ∙ ap (λ o. task_or o (task_at n b)) e ∙ f

  pub absent_then : (n : ℕ) (a b : List (Task T)) → task_at n a ≡ None → task_at n (a ++ b) ≡ task_at n b
  absent_then n a b e = append_at n a b ∙ ap (λ o. task_or o (task_at n b)) e

  pub present_then : (n : ℕ) (a b : List (Task T)) (t : Task T) → task_at n a ≡ Some t → task_at n (a ++ b) ≡ Some t
  present_then n a b t e = append_at n a b ∙ ap (λ o. task_or o (task_at n b)) e

  -- a task has another number than one that is not there
  pub absent_head : (n : ℕ) (t : Task T) (ts : List (Task T)) → task_at n (t ∷ ts) ≡ None → (t.number ≡ n → ⊥) × (task_at n ts ≡ None)
  absent_head n t ts e =
      elim (cases_eq t.number n) [
        | inl same ↦ absurd (never (sym e ∙ here n t ts same))
        | inr differs ↦ (differs, sym (further n t ts differs) ∙ e)
      ]

  pub absent_other : (n : ℕ) (t : Task T) (ts : List (Task T)) → (t.number ≡ n → ⊥) → task_at n ts ≡ None → task_at n (t ∷ ts) ≡ None
  absent_other n t ts d e = further n t ts d ∙ e

  pub distinct_parts : (a b : List (Task T)) → Distinct (a ++ b) → Distinct a × Distinct b
  distinct_parts [] b d = (tt, d)
  distinct_parts (t ∷ ts) b d =
      let r = distinct_parts ts b d.1 in
      (((absent_parts t.number ts b d.0).0, r.0), r.1)

  pub apart : (a b : List (Task T)) (n : ℕ) (t : Task T) → Distinct (a ++ b) → task_at n a ≡ Some t → task_at n b ≡ None
  apart [] b n t d e = absurd (never e)
  apart (u ∷ us) b n t d e =
      elim (cases_eq u.number n) [
        | inl same ↦ subst (λ m. task_at m b ≡ None) same (absent_parts u.number us b d.0).1
        | inr differs ↦ apart us b n t d.1 (sym (further n u us differs) ∙ e)
      ]

  -- the numbers on both sides of a task differ from its own
  pub beside : (a b : List (Task T)) (t : Task T) → Distinct (a ++ t ∷ b) → (task_at t.number a ≡ None) × (task_at t.number b ≡ None)
  beside [] b t d = (refl, d.0)
  beside (u ∷ us) b t d =
      let r = beside us b t d.1 in
      let differs : u.number ≡ t.number → ⊥ = λ same. never (sym (absent_parts u.number us (t ∷ b) d.0).1 ∙ here u.number t b (sym same)) in
      (absent_other t.number u us differs r.0, r.1)

  pub at_place : (a b : List (Task T)) (t : Task T) → Distinct (a ++ t ∷ b) → task_at t.number (a ++ t ∷ b) ≡ Some t
  at_place a b t d = absent_then t.number a (t ∷ b) (beside a b t d).0 ∙ here t.number t b refl

  pub distinct_drop : (a x b : List (Task T)) → Distinct (a ++ (x ++ b)) → Distinct (a ++ b)
  distinct_drop [] x b d = (distinct_parts x b d).1
  distinct_drop (t ∷ ts) x b d =
      let p = absent_parts t.number ts (x ++ b) d.0 in
      (absent_both t.number ts b p.0 (absent_parts t.number x b p.1).1, distinct_drop ts x b d.1)

  pub distinct_put : (a b : List (Task T)) (t : Task T) → Distinct (a ++ b) → task_at t.number (a ++ b) ≡ None → Distinct (a ++ t ∷ b)
  distinct_put [] b t d e = (e, d)
  distinct_put (u ∷ us) b t d e =
      let h = absent_head t.number u (us ++ b) e in
      let p = absent_parts u.number us b d.0 in
      (absent_both u.number us (t ∷ b) p.0 (absent_other u.number t b (λ same. h.0 (sym same)) p.1), distinct_put us b t d.1 h.1)

  -- what stands before the first and behind the second of two lists
  pub data Cut (a b front : List (Task T)) (t : Task T) (back : List (Task T)) : Type 0 where
    in_first : (m : List (Task T)) → a ≡ front ++ t ∷ m → back ≡ m ++ b → Cut a b front t back
    in_second : (m : List (Task T)) → b ≡ m ++ t ∷ back → front ≡ a ++ m → Cut a b front t back

  pub cut : (a b front : List (Task T)) (t : Task T) (back : List (Task T)) → a ++ b ≡ front ++ t ∷ back → Cut a b front t back
  cut [] b front t back e = in_second front e refl
  cut (u ∷ us) b [] t back e =
      let same : u ≡ t = cc in
      let rest : us ++ b ≡ back = cc in
      in_first us (ap (λ v. v ∷ us) same) (sym rest)
  cut (u ∷ us) b (v ∷ vs) t back e =
      let same : u ≡ v = cc in
      let rest : us ++ b ≡ vs ++ t ∷ back = cc in
      elim (cut us b vs t back rest) [
        | in_first m p q ↦ in_first m (ap (λ w. w ∷ us) same ∙ ap (λ ws. v ∷ ws) p) q
        | in_second m p q ↦ in_second m p (ap (λ w. w ∷ vs) (sym same) ∙ ap (λ ws. u ∷ ws) q)
      ]

  pub without_at : (front back : List (Task T)) (t : Task T) → task_at t.number front ≡ None →
      without t.number (front ++ t ∷ back) ≡ front ++ back
  without_at [] back t e = rw (eq-eqb t.number t.number refl) refl
  without_at (u ∷ us) back t e =
      let h = absent_head t.number u us e in
      rw (ne_eqb u.number t.number h.0) (ap (λ vs. u ∷ vs) (without_at us back t h.1))

  pub after_at : (front back : List (Task T)) (t : Task T) → task_at t.number front ≡ None → after t.number (front ++ t ∷ back) ≡ first back
  after_at [] back t e = rw (eq-eqb t.number t.number refl) refl
  after_at (u ∷ us) back t e =
      let h = absent_head t.number u us e in
      rw (ne_eqb u.number t.number h.0) (after_at us back t h.1)

  pub changed_here : (front back : List (Task T)) (t : Task T) (f : Task T → Task T) → task_at t.number front ≡ None →
      changed_at t.number f (front ++ t ∷ back) ≡ front ++ f t ∷ back
  changed_here [] back t f e = rw (eq-eqb t.number t.number refl) refl
  changed_here (u ∷ us) back t f e =
      let h = absent_head t.number u us e in
      rw (ne_eqb u.number t.number h.0) (ap (λ vs. u ∷ vs) (changed_here us back t f h.1))

  pub youngest_append : (p : Option ℕ) (a b : List (Task T)) → youngest p (a ++ b) ≡ or_else (youngest p b) (youngest p a)
  youngest_append p [] b = sym (else_none (youngest p b))
  youngest_append p (t ∷ ts) b =
      let one = if is_child p t.parent then Some t.number else None in
      ap (λ o. or_else o one) (youngest_append p ts b) ∙ else_else (youngest p b) (youngest p ts) one

  pub no_child_parts : (p : Option ℕ) (a b : List (Task T)) → youngest p (a ++ b) ≡ None → (youngest p a ≡ None) × (youngest p b ≡ None)
  no_child_parts p a b e =
      let r = else_absent (youngest p b) (youngest p a) (sym (youngest_append p a b) ∙ e) in (r.1, r.0)

  pub no_child_both : (p : Option ℕ) (a b : List (Task T)) → youngest p a ≡ None → youngest p b ≡ None → youngest p (a ++ b) ≡ None
  no_child_both p a b e f = youngest_append p a b ∙ ap (λ o. or_else o (youngest p a)) f ∙ e

  pub youngest_other : (p : Option ℕ) (t : Task T) (ts : List (Task T)) → (p ≡ t.parent → ⊥) → youngest p (t ∷ ts) ≡ youngest p ts
  youngest_other p t ts d = ap (λ c. or_else (youngest p ts) (if c then Some t.number else None)) (child_other p t.parent d) ∙
      else_none (youngest p ts)

  pub youngest_same : (p : Option ℕ) (t : Task T) (ts : List (Task T)) → p ≡ t.parent →
      youngest p (t ∷ ts) ≡ or_else (youngest p ts) (Some t.number)
  youngest_same p t ts e = ap (λ c. or_else (youngest p ts) (if c then Some t.number else None)) (child_same p t.parent e)

  -- a child is no stranger
  pub some_child : (p : Option ℕ) (a b : List (Task T)) (t : Task T) → p ≡ t.parent → youngest p (a ++ t ∷ b) ≡ None → ⊥
  some_child p a b t e none =
      never (sym (else_absent (youngest p b) (Some t.number) (sym (youngest_same p t b e) ∙ (no_child_parts p a (t ∷ b) none).1)).1)

  pub last_behind : (a : List (Task T)) (t : Task T) (b : List (Task T)) → last (a ++ t ∷ b) ≡ last (t ∷ b)
  last_behind [] t b = refl
  last_behind (u ∷ []) t b = refl
  last_behind (u ∷ v ∷ vs) t b = last_behind (v ∷ vs) t b
