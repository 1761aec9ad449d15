-- Trees among others, in two orders; and their tasks as a list of a tree of tasks.
use Rattle.std.proofs.Common.{◌≡◌, ℕ, true, List, [], ◌∷◌, ◌++◌, None, refl, sym, ap, subst, ◌∙◌, append_assoc}
use Rattle.std.proofs.lemmas.List.{append-nil}
use Rattle.task_tree.specs.Tasks.{Task, suits}
use Rattle.task_tree.specs.Nested.{Forest, no_tasks, a_task}
use Rattle.task_tree.proofs.Forests.{forest_append}
use Rattle.vm_tasks_laws.specs.Slots.{Slot, Parent, no_parent, under, id_of, number_of}
use Rattle.vm_tasks_laws.specs.Roses.{Rose, empty, node, pre, pre_all, Good, GoodTrees}
use Rattle.vm_tasks_laws.specs.Standing.{Deal, none_dealt, one_dealt}
use Rattle.vm_tasks_laws.proofs.Holes.{Hole, top, beneath, behind, front, back, parent_at, GoodHole}

module _ {A : Type 0} where
  -- an element of a list with another in it: the other one, or on one of its sides
  pub data Side (a b front : List A) (x : A) (back : List A) : Type 0 where
    on_left : (m : List A) → a ≡ front ++ x ∷ m → back ≡ m ++ b → Side a b front x back
    on_right : (m : List A) → front ≡ a ++ m → b ≡ m ++ x ∷ back → Side a b front x back

  pub side : (a b front : List A) (x : A) (back : List A) → a ++ b ≡ front ++ x ∷ back → Side a b front x back
  side [] b front x back e = on_right front refl e
  side (y ∷ ys) b [] x back e = let same : y ≡ x = cc in let tails : ys ++ b ≡ back = cc in on_left ys (ap (λ w. w ∷ ys) same) (sym tails)
  side (y ∷ ys) b (z ∷ zs) x back e =
      let same : y ≡ z = cc in
      let tails : ys ++ b ≡ zs ++ x ∷ back = cc in
      elim (side ys b zs x back tails) [
        | on_left m p q ↦ on_left m (ap (λ w. w ∷ ys) same ∙ ap (λ w. z ∷ w) p) q
        | on_right m p q ↦ on_right m (ap (λ w. z ∷ w) p ∙ ap (λ w. w ∷ (ys ++ m)) (sym same)) q
      ]

  -- the first two of a list may change places
  pub swap : (x y : A) (xs zs : List A) → Deal (x ∷ y ∷ xs) zs → Deal (y ∷ x ∷ xs) zs
  swap x y xs zs (one_dealt f b p (one_dealt g c q d)) =
      elim (side f b g y c q) [
        | on_left m r s ↦
            one_dealt g (m ++ x ∷ b) (p ∙ (ap (λ w. w ++ x ∷ b) r ∙ append_assoc g (y ∷ m) (x ∷ b)))
            (one_dealt (g ++ m) b (sym (append_assoc g m (x ∷ b)))
            (subst (λ w. Deal xs w) (ap (λ w. g ++ w) s ∙ sym (append_assoc g m b)) d))
        | on_right m r s ↦
            one_dealt (f ++ x ∷ m) c (p ∙ (ap (λ w. f ++ x ∷ w) s ∙ sym (append_assoc f (x ∷ m) (y ∷ c))))
            (one_dealt f (m ++ c) (append_assoc f (x ∷ m) c) (subst (λ w. Deal xs w) (ap (λ w. w ++ c) r ∙ append_assoc f m c) d))
      ]

  pub deal_first : (x : A) (xs zs : List A) → Deal xs zs → Deal (x ∷ xs) (zs ++ x ∷ [])
  deal_first x xs zs d = one_dealt zs [] refl (subst (λ w. Deal xs w) (sym (append-nil zs)) d)

  -- the first may stand anywhere
  pub move : (x : A) (a b zs : List A) → Deal (x ∷ (a ++ b)) zs → Deal (a ++ x ∷ b) zs
  move x [] b zs d = d
  move x (y ∷ a) b zs d = later (λ ws. move x a b ws) (swap x y (a ++ b) zs d)
    where
      later : ((ws : List A) → Deal (x ∷ (a ++ b)) ws → Deal (a ++ x ∷ b) ws) → Deal (y ∷ x ∷ (a ++ b)) zs → Deal (y ∷ (a ++ x ∷ b)) zs
      later go (one_dealt f g p e) = one_dealt f g p (go (f ++ g) e)

  pub move_back : (x : A) (a b zs : List A) → Deal (a ++ x ∷ b) zs → Deal (x ∷ (a ++ b)) zs
  move_back x [] b zs d = d
  move_back x (y ∷ a) b zs (one_dealt f g p e) = swap y x (a ++ b) zs (one_dealt f g p (move_back x a b (f ++ g) e))

module _ {T : Type 0} where
  pub pre_all_append : (a b : List (Rose T)) → pre_all (a ++ b) ≡ pre_all a ++ pre_all b
  pre_all_append [] b = refl
  pre_all_append (c ∷ a) b = ap (λ w. pre c ++ w) (pre_all_append a b) ∙ sym (append_assoc (pre c) (pre_all a) (pre_all b))

module _ {T : Type 0} (slot : T → Slot) where
  pub good_append : (a b : List (Rose T)) → GoodTrees slot a → GoodTrees slot b → GoodTrees slot (a ++ b)
  good_append [] b g h = h
  good_append (c ∷ a) b g h = (g.0, good_append a b g.1 h)

  pub good_parts : (a b : List (Rose T)) → GoodTrees slot (a ++ b) → GoodTrees slot a × GoodTrees slot b
  good_parts [] b g = (tt, g)
  good_parts (c ∷ a) b g = let r = good_parts a b g.1 in ((g.0, r.0), r.1)

  pub good_dealt : (xs zs : List (Rose T)) → Deal xs zs → GoodTrees slot xs → GoodTrees slot zs
  good_dealt xs zs none_dealt g = tt
  good_dealt xs zs (one_dealt {x = x} {xs = ys} f b p d) g =
      let r = good_parts f b (good_dealt ys (f ++ b) d g.1) in
      subst (λ w. GoodTrees slot w) (sym p) (good_append f (x ∷ b) r.0 (g.0, r.1))

  pub forest_of : (q : Parent T) (m : ℕ) (r : Rose T) → Good slot q m r → Forest (id_of q) (pre r)
  forest_of q m empty g = no_tasks
  forest_of q m (node t e k r) g =
      a_task t (pre k) (pre r) refl g.0.parent (subst (λ p. suits p t.role ≡ true) g.0.parent g.0.suited)
      (forest_of (under t e) (number_of slot t) k g.2)
      (forest_of q (number_of slot t) r g.3)

  pub forest_hole : (most : ℕ) (h : Hole T) (xs : List (Task T)) → GoodHole slot most h → Forest (id_of (parent_at h)) xs →
      Forest None (front h ++ (xs ++ back h))
  forest_hole most top xs g f = subst (λ w. Forest None w) (sym (append-nil xs)) f
  forest_hole most (beneath h t e r) xs g f =
      subst (λ w. Forest None w) (simp append_assoc) (forest_hole most h (t ∷ xs ++ pre r) g.0
      (a_task t xs (pre r) refl g.1.parent (subst (λ p. suits p t.role ≡ true) g.1.parent g.1.suited) f
      (forest_of (parent_at h) (number_of slot t) r g.3)))
  forest_hole most (behind h t e k) xs g f =
      subst (λ w. Forest None w) (simp append_assoc) (forest_hole most h (t ∷ pre k ++ xs) g.0
      (a_task t (pre k) xs refl g.1.parent (subst (λ p. suits p t.role ≡ true) g.1.parent g.1.suited)
      (forest_of (under t e) (number_of slot t) k g.3) f))

  pub forest_all : (cs : List (Rose T)) → GoodTrees slot cs → Forest None (pre_all cs)
  forest_all [] g = no_tasks
  forest_all (c ∷ cs) g = forest_append (pre c) (pre_all cs) (forest_of no_parent g.0.most c g.0.good) (forest_all cs g.1)
