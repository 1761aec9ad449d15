-- Tasks of a tree, one after another.
use Rattle.std.proofs.Common.{◌≡◌, ◌<◌, ◌≤◌, ◌+◌, ℕ, zero, suc, List, [], ◌∷◌, ◌++◌, length, map, Option, Some, None}
use Rattle.std.proofs.Common.{Bool, true, false, refl, sym, ap, subst, ◌∙◌, arith}
use Rattle.std.proofs.Common.{nat_eq, rules, take}
use Rattle.std.specs.Prelude.{slice_get, option_map, eqb, IsSome, if◌then◌else◌, ◌||◌}
use Rattle.std.specs.List.{list_any, position}
use Rattle.std.proofs.lemmas.List.{map-append, length-append, length-map}
use Rattle.std.proofs.lemmas.Bool.{eq-eqb, ne_eqb}
use Rattle.verse_base.proofs.Facts.{get_mapped}
use Rattle.task_tree.specs.Tasks.{Task, task_at, first, after}
use Rattle.task_tree.specs.Nested.{Distinct, IsTree}
use Rattle.task_tree.proofs.Standing.{beside, at_place, after_at, absent_head}

abbrev pub numbers : {T : Type 0} → List (Task T) → List ℕ
numbers ts = map (λ t. t.number) ts

-- how many tasks there are from that of a number on
abbrev pub left_from : {T : Type 0} → Option ℕ → List (Task T) → ℕ
left_from None ts = 0
left_from (Some n) [] = 0
left_from (Some n) (t ∷ ts) = if eqb t.number n then suc (length ts) else left_from (Some n) ts

module _ {T : Type 0} where
  -- so far the walk has come
  pub record Walk (ts : List (Task T)) (next : Option ℕ) (ids : List ℕ) : Type 0 where
    pub front : List (Task T)
    pub back : List (Task T)
    pub is : ts ≡ front ++ back
    pub at : next ≡ first back
    pub so : ids ≡ numbers front

  left_at : (front back : List (Task T)) (t : Task T) → task_at t.number front ≡ None →
      left_from (Some t.number) (front ++ t ∷ back) ≡ suc (length back)
  left_at [] back t e = rw (eq-eqb t.number t.number refl) refl
  left_at (u ∷ us) back t e =
      let h = absent_head t.number u us e in
      rw (ne_eqb u.number t.number h.0) (left_at us back t h.1)

  turned : (front : List (Task T)) (t : Task T) (back : List (Task T)) → front ++ t ∷ back ≡ (front ++ t ∷ []) ++ back
  turned [] t back = refl
  turned (u ∷ us) t back = ap (λ w. u ∷ w) (turned us t back)

  left_behind : (front back : List (Task T)) → Distinct (front ++ back) → left_from (first back) (front ++ back) ≡ length back
  left_behind front [] d = refl
  left_behind front (t ∷ back) d = left_at front back t (beside front back t d).0

  -- the next task
  pub record Next (ts : List (Task T)) (id : ℕ) (ids : List ℕ) : Type 0 where
    pub front : List (Task T)
    pub task : Task T
    pub back : List (Task T)
    pub is : ts ≡ front ++ task ∷ back
    pub number : task.number ≡ id
    pub so : ids ≡ numbers front

  next_of : (ts : List (Task T)) (id : ℕ) (ids : List ℕ) → Walk ts (Some id) ids → Next ts id ids
  next_of ts id ids w = by_back w.back w.is w.at
    where
      by_back : (back : List (Task T)) → ts ≡ w.front ++ back → Some id ≡ first back → Next ts id ids
      by_back [] e f = absurd (cc)
      by_back (t ∷ back) e f = record { front = w.front; task = t; back = back; is = e; number = sym (own f); so = w.so }
        where
          own : {a b : ℕ} → Some a ≡ Some b → a ≡ b
          own e = cc

  none_in : (n : ℕ) (ts : List (Task T)) → task_at n ts ≡ None → list_any (nat_eq n) (numbers ts) ≡ false
  none_in n [] e = refl
  none_in n (t ∷ ts) e =
      let h = absent_head n t ts e in
      ap (λ b. b || list_any (nat_eq n) (numbers ts)) (other n t.number (λ f. h.0 (sym f))) ∙ none_in n ts h.1
    where
      other : (n m : ℕ) → (n ≡ m → ⊥) → nat_eq n m ≡ false
      other n m d = ne_eqb n m d

  module _ (ts : List (Task T)) (tree : IsTree ts) (id : ℕ) (ids : List ℕ) (w : Walk ts (Some id) ids) where
    here : Next ts id ids
    here = next_of ts id ids w

    alone : Distinct (here.front ++ here.task ∷ here.back)
    alone = subst Distinct here.is tree.distinct

    pub is_new : list_any (nat_eq id) ids ≡ false
    is_new =
        subst (λ n. list_any (nat_eq n) ids ≡ false) here.number
        (subst (λ k. list_any (nat_eq here.task.number) k ≡ false) (sym here.so)
        (none_in here.task.number here.front (beside here.front here.back here.task alone).0))

    behind : after id ts ≡ first here.back
    behind =
        subst (λ n. after n ts ≡ first here.back) here.number
        (ap (after here.task.number) here.is ∙ after_at here.front here.back here.task (beside here.front here.back here.task alone).0)

    pub goes_on : (more : List ℕ) → more ≡ ids ++ id ∷ [] → Walk ts (after id ts) more
    goes_on more e = record {
      front = here.front ++ here.task ∷ [];
      back = here.back;
      is = here.is ∙ turned here.front here.task here.back;
      at = behind;
      so = e ∙ (ap (λ w. w ++ id ∷ []) here.so ∙
          (ap (λ n. numbers here.front ++ n ∷ []) (sym here.number) ∙
          sym (map-append (λ (t : Task T). t.number) here.front (here.task ∷ []))));
    }

    pub falls : left_from (after id ts) ts < left_from (Some id) ts
    falls =
        let more : left_from (Some id) ts ≡ suc (length here.back) =
        subst (λ n. left_from (Some n) ts ≡ suc (length here.back)) here.number
        (ap (left_from (Some here.task.number)) here.is ∙ left_at here.front here.back here.task (beside here.front here.back here.task
        alone).0) in
        let less : left_from (after id ts) ts ≡ length here.back =
        ap (λ o. left_from o ts) behind ∙
        (ap (left_from (first here.back)) (here.is ∙ turned here.front here.task here.back) ∙
        left_behind (here.front ++ here.task ∷ []) here.back (subst Distinct (turned here.front here.task here.back) alone)) in
        omega (arith, more, less)

  pub walk_over : (ts : List (Task T)) (ids : List ℕ) → Walk ts None ids → ids ≡ numbers ts
  walk_over ts ids w = w.so ∙ sym (ap numbers (w.is ∙ none w.back w.at))
    where
      none : (back : List (Task T)) → None ≡ first back → w.front ++ back ≡ w.front
      none [] e = nil w.front
        where
          nil : (xs : List (Task T)) → xs ++ [] ≡ xs
          nil [] = refl
          nil (x ∷ xs) = ap (λ w. x ∷ w) (nil xs)
      none (t ∷ back) e = absurd (cc)

  -- ---- the task at a place

  pub record Placed (ts : List (Task T)) (n id : ℕ) : Type 0 where
    pub task : Task T
    pub there : slice_get ts n ≡ Some task
    pub found : task_at id ts ≡ Some task

  pub placed : (ts : List (Task T)) (n id : ℕ) → Distinct ts → slice_get (numbers ts) n ≡ Some id → Placed ts n id
  placed [] n id d e = absurd (cc)
  placed (t ∷ ts) zero id d e = record { task = t; there = refl; found = rw (eq-eqb t.number id (own e)) refl }
    where
      own : {a b : ℕ} → Some a ≡ Some b → a ≡ b
      own e = cc
  placed (t ∷ ts) (suc n) id d e =
      let r = placed ts n id d.1 e in
      record {
        task = r.task;
        there = r.there;
        found = rw (ne_eqb t.number id (λ f. never (sym (subst (λ k. task_at k ts ≡ None) f d.0) ∙
            r.found))) r.found;
      }
    where
      never : {a : Task T} → None ≡ Some a → ⊥
      never e = cc

  pub placed_live : (ts : List (Task T)) (n id : ℕ) → Distinct ts → slice_get (numbers ts) n ≡ Some id → IsSome (task_at id ts)
  placed_live ts n id d e = let r = placed ts n id d e in rw r.found (some r.task)
    where
      some : (t : Task T) → IsSome (Some t)
      some t = search rules

  pub none_placed : (ts : List (Task T)) (n : ℕ) → slice_get (numbers ts) n ≡ None → length ts ≤ n
  none_placed [] n e = omega arith
  none_placed (t ∷ ts) zero e = absurd (cc)
  none_placed (t ∷ ts) (suc n) e = let h = none_placed ts n e in omega (arith, h)

module _ {A : Type 0} where
  own_some : {a b : A} → Some a ≡ Some b → a ≡ b
  own_some e = cc

  take_next : (xs : List A) (n : ℕ) (x : A) → slice_get xs n ≡ Some x → take (n + 1) xs ≡ take n xs ++ x ∷ []
  take_next xs n x e = ap (λ k. take k xs) (next n) ∙ go xs n x e
    where
      next : (n : ℕ) → n + 1 ≡ suc n
      next n = omega arith

      go : (xs : List A) (n : ℕ) (x : A) → slice_get xs n ≡ Some x → take (suc n) xs ≡ take n xs ++ x ∷ []
      go [] n x e = absurd (cc)
      go (y ∷ ys) zero x e = ap (λ w. w ∷ []) (own_some e)
      go (y ∷ ys) (suc n) x e = ap (λ w. y ∷ w) (go ys n x e)

take_all : {K : Type 0} (ks : List K) (n : ℕ) → length ks ≤ n → take n ks ≡ ks
take_all [] zero h = refl
take_all [] (suc n) h = refl
take_all (k ∷ ks) zero h = absurd (omega (arith, h))
take_all (k ∷ ks) (suc n) h = ap (λ w. k ∷ w) (take_all ks n (omega (arith, h)))

module _ {T K X : Type 0} (kept : Task T → K) (seen : X → K) where
  -- one task more is kept
  pub one_kept : (ts : List (Task T)) (n id : ℕ) (xs ys : List X) (x : X) → Distinct ts → slice_get (numbers ts) n ≡ Some id →
      option_map kept (task_at id ts) ≡ Some (seen x) → ys ≡ xs ++ x ∷ [] → map seen xs ≡ take n (map kept ts) →
      map seen ys ≡ take (n + 1) (map kept ts)
  one_kept ts n id xs ys x d e f more so =
      let p = placed ts n id d e in
      let same : kept p.task ≡ seen x = own_some (sym (ap (option_map kept) p.found) ∙ f) in
      ap (map seen) more ∙
      (map-append seen xs (x ∷ []) ∙
      (ap (λ w. w ++ seen x ∷ []) so ∙
      (ap (λ k. take n (map kept ts) ++ k ∷ []) (sym same) ∙
      sym (take_next (map kept ts) n (kept p.task) (get_mapped kept ts n p.task p.there)))))

  pub all_kept : (ts : List (Task T)) (n : ℕ) (xs : List X) → length ts ≤ n → map seen xs ≡ take n (map kept ts) →
      map seen xs ≡ map kept ts
  all_kept ts n xs h so = let l = length-map ts kept in so ∙ take_all (map kept ts) n (omega (arith, h, l))
