-- The tasks that the definition cancels, in its order, are those of the tree.
use Rattle.std.proofs.Common.{◌≡◌, ℕ, ◌<◌, Bool, true, false, cond, List, [], ◌∷◌, ◌++◌, map, refl, sym, ap, subst, ◌∙◌, append_assoc}
use Rattle.std.proofs.Common.{arith}
use Rattle.std.proofs.lemmas.List.{append-nil}
use Rattle.verse_code_machine.specs.Tasks as m
use Rattle.verse_code_machine.specs.Tasks.{Who, Part, did, runs, World, starts, since, beneath_arms}
use Rattle.verse_code_machine.specs.Cancelling.{without, inserted, gone_before, gone_behind}
use Rattle.vm_tasks_laws.specs.Slots.{Slot, Entry, slept, path_of, Parent, under, path_under}
use Rattle.vm_tasks_laws.specs.Slots.{number_of}
use Rattle.vm_tasks_laws.specs.Roses.{Rose, empty, node, post, Good}
use Rattle.vm_tasks_laws.specs.Standing.{onto_entries}
use Rattle.vm_tasks_laws.specs.Cancelling.{back_entries}
use Rattle.vm_tasks_laws.proofs.Lists.{Each, each_append, each_parts, each_weaker}
use Rattle.vm_tasks_laws.proofs.Paths.{starts_front, starts_fork}
use Rattle.vm_tasks_laws.proofs.Holes.{Below, all_below, path_is}

-- the entries, the last of them first, stand before the others
abbrev pub Undoes : List Entry → List m.Task → List m.Task → Type 0
Undoes [] xs ys = xs ≡ ys
Undoes (e ∷ es) xs ys = (y : m.Task) × (e ≡ slept y) × Undoes es xs (y ∷ ys)

pub undo_parts : (a b : List Entry) (xs ys : List m.Task) → Undoes (a ++ b) xs ys → (zs : List m.Task) × Undoes b xs zs × Undoes a zs ys
undo_parts [] b xs ys u = (ys, u, refl)
undo_parts (e ∷ a) b xs ys u = let r = undo_parts a b xs (u.0 ∷ ys) u.2 in (r.0, r.1, (u.0, u.1, r.2))

pub undo_join : (a b : List Entry) (xs zs ys : List m.Task) → Undoes b xs zs → Undoes a zs ys → Undoes (a ++ b) xs ys
undo_join [] b xs zs ys u v = subst (λ w. Undoes b xs w) v u
undo_join (e ∷ a) b xs zs ys u v = (v.0, v.1, undo_join a b xs zs (v.0 ∷ ys) u v.2)

pub onto_append : (xs : List m.Task) (a b : List Entry) → onto_entries xs (a ++ b) ≡ onto_entries xs a ++ b
onto_append [] a b = refl
onto_append (x ∷ xs) a b = onto_append xs (slept x ∷ a) b

pub undo_onto : (xs : List m.Task) → Undoes (onto_entries xs []) xs []
undo_onto [] = refl
undo_onto (x ∷ xs) = subst (λ w. Undoes w (x ∷ xs) []) (sym (onto_append xs [] (slept x ∷ [])))
    (undo_join (onto_entries xs []) (slept x ∷ []) (x ∷ xs) xs [] (x, refl, refl) (undo_onto xs))

pub onto_undo : (a : List Entry) (xs ys : List m.Task) → Undoes a xs ys → onto_entries xs [] ≡ onto_entries ys [] ++ a
onto_undo [] xs ys u = ap (λ w. onto_entries w []) u ∙ sym (append-nil (onto_entries ys []))
onto_undo (e ∷ a) xs ys u =
    onto_undo a xs (u.0 ∷ ys) u.2 ∙ (ap (λ w. w ++ a) (onto_append ys [] (slept u.0 ∷ [])) ∙
    (append_assoc (onto_entries ys []) (slept u.0 ∷ []) a ∙ ap (λ w. onto_entries ys [] ++ w ∷ a) (sym u.1)))

module _ (f : List ℕ → Bool) where
  abbrev pub Stays : Entry → Type 0
  Stays x = f (path_of x) ≡ false

  abbrev pub Goes : Entry → Type 0
  Goes x = f (path_of x) ≡ true

  at_path : (e : Entry) (y : m.Task) (b : Bool) → e ≡ slept y → f (path_of e) ≡ b → f y.thread.who.path ≡ b
  at_path e y b p h = ap (λ x. f (path_of x)) (sym p) ∙ h

  pub none_before : (es : List Entry) (xs ys : List m.Task) → Undoes es xs ys → Each Stays es → gone_before f xs ≡ gone_before f ys
  none_before [] xs ys u h = ap (λ w. gone_before f w) u
  none_before (e ∷ es) xs ys u h =
      none_before es xs (u.0 ∷ ys) u.2 h.1 ∙ ap (λ b. cond b (inserted u.0 (gone_before f ys)) (gone_before f ys))
      (at_path e u.0 false u.1 h.0)

  pub stays_before : (es : List Entry) (xs ys : List m.Task) → Undoes es xs ys → Each Stays es → Undoes es (without f xs) (without f ys)
  stays_before [] xs ys u h = ap (λ w. without f w) u
  stays_before (e ∷ es) xs ys u h = (
    u.0,
    u.1,
    subst (λ w. Undoes es (without f xs) w)
        (ap (λ b. cond b (without f ys) (u.0 ∷ without f ys)) (at_path e u.0 false u.1 h.0)) (stays_before es xs (u.0 ∷ ys) u.2 h.1),
  )

  pub goes_before : (es : List Entry) (xs ys : List m.Task) → Undoes es xs ys → Each Goes es → without f xs ≡ without f ys
  goes_before [] xs ys u h = ap (λ w. without f w) u
  goes_before (e ∷ es) xs ys u h =
      goes_before es xs (u.0 ∷ ys) u.2 h.1 ∙ ap (λ b. cond b (without f ys) (u.0 ∷ without f ys)) (at_path e u.0 true u.1 h.0)

  pub none_behind : (xs : List m.Task) → Each Stays (map slept xs) → (gone_behind f xs ≡ []) × (without f xs ≡ xs)
  none_behind [] h = (refl, refl)
  none_behind (x ∷ xs) h =
      let r = none_behind xs h.1 in (
        ap (λ b. cond b (x ∷ gone_behind f xs) (gone_behind f xs)) h.0 ∙ r.0,
        ap (λ b. cond b (without f xs) (x ∷ without f xs)) h.0 ∙
            ap (λ w. x ∷ w) r.1,
      )

  pub inserted_behind : (y : m.Task) (xs : List m.Task) (a b : List Entry) → map slept xs ≡ a ++ b →
      Each (λ x. starts y.thread.who.path (path_of x) ≡ true) a →
      Each (λ x. starts y.thread.who.path (path_of x) ≡ false) b → map slept (inserted y xs) ≡ a ++ slept y ∷ b
  inserted_behind y [] [] b p h k = ap (λ w. slept y ∷ w) p
  inserted_behind y [] (e ∷ a) b p h k = absurd (cc)
  inserted_behind y (x ∷ xs) [] b p h k =
      let no : starts y.thread.who.path x.thread.who.path ≡ false =
      (subst (λ w. Each (λ z. starts y.thread.who.path (path_of z) ≡ false) w) (sym p) k).0 in
      ap (λ b. map slept (cond b (x ∷ inserted y xs) (y ∷ x ∷ xs))) no ∙ ap (λ w. slept y ∷ w) p
  inserted_behind y (x ∷ xs) (e ∷ a) b p h k =
      let same : slept x ≡ e = cc in let tails : map slept xs ≡ a ++ b = cc in
      let yes : starts y.thread.who.path x.thread.who.path ≡ true = ap (λ z. starts y.thread.who.path (path_of z)) same ∙ h.0 in
      ap (λ b. map slept (cond b (x ∷ inserted y xs) (y ∷ x ∷ xs))) yes ∙
      (ap (λ w. slept x ∷ w) (inserted_behind y xs a b tails h.1 k) ∙ ap (λ z. z ∷ (a ++ slept y ∷ b)) same)

module _ {T : Type 0} where
  pub back_each : (P : Entry → Type 0) (k : Rose T) → Each P (post k) → Each P (back_entries k)
  back_each P empty h = tt
  back_each P (node t e k r) h =
      let p = each_parts P (post k) (e ∷ post r) h in
      each_append P (back_entries r) (back_entries k ++ e ∷ []) (back_each P r p.1.1)
      (each_append P (back_entries k) (e ∷ []) (back_each P k p.0) (p.1.0, tt))

module _ {T : Type 0} (slot : T → Slot) (f : List ℕ → Bool) where
  -- none of these tasks is beneath a child that is younger than most
  abbrev pub Clear : Parent T → ℕ → Entry → Type 0
  Clear q most x = (n : ℕ) (more : List ℕ) → n < most → starts (path_under q ++ n ∷ more) (path_of x) ≡ false

  pub mirror : (q : Parent T) (most : ℕ) (k : Rose T) → Good slot q most k → (xs ys : List m.Task) → Undoes (post k) xs ys →
      Each (Goes f) (post k) →
      Each (Clear q most) (map slept (gone_before f ys)) → map slept (gone_before f xs) ≡ back_entries k ++ map slept (gone_before f ys)
  mirror q most empty g xs ys u h c = ap (λ w. map slept (gone_before f w)) u
  mirror q most (node t e k r) g xs ys u h c =
      let parts = undo_parts (post k) (e ∷ post r) xs ys u in
      let zs = parts.0 in
      let y = parts.1.0 in
      let goes = each_parts (Goes f) (post k) (e ∷ post r) h in
      let n = number_of slot t in
      let name : path_of e ≡ path_under q ++ n ∷ [] = path_is slot q t e g.0 in
      let own : y.thread.who.path ≡ path_under q ++ n ∷ [] = ap (λ x. path_of x) (sym parts.1.1) ∙ name in
      let yes : f y.thread.who.path ≡ true = ap (λ x. f (path_of x)) (sym parts.1.1) ∙ goes.1.0 in
      let below = all_below slot (under t e) n k g.2 in
      let inside : map slept (gone_before f zs) ≡ back_entries k ++ map slept (gone_before f ys) =
      mirror (under t e) n k g.2 zs ys parts.2 goes.0
      (each_weaker (Clear q most) (Clear (under t e) n) (map slept (gone_before f ys))
      (λ x c i more l. ap (λ w. starts w (path_of x)) (ap (λ w. w ++ i ∷ more) name ∙ append_assoc (path_under q) (n ∷ []) (i ∷ more)) ∙
      c n (i ∷ more) g.1) c) in
      let beneath : Each (λ x. starts y.thread.who.path (path_of x) ≡ true) (back_entries k) =
      back_each (λ x. starts y.thread.who.path (path_of x) ≡ true) k
      (each_weaker (Below slot (under t e) n) (λ x. starts y.thread.who.path (path_of x) ≡ true) (post k)
      (λ x b. ap (λ w. starts y.thread.who.path w) (b.path ∙ ap (λ w. w ++ b.number ∷ b.more) (ap (λ x. path_of x) parts.1.1)) ∙
      starts_front y.thread.who.path (b.number ∷ b.more)) below) in
      let others : Each (λ x. starts y.thread.who.path (path_of x) ≡ false) (map slept (gone_before f ys)) =
      each_weaker (Clear q most) (λ x. starts y.thread.who.path (path_of x) ≡ false) (map slept (gone_before f ys))
      (λ x c. ap (λ w. starts w (path_of x)) own ∙ c n [] g.1) c in
      let with_it : map slept (gone_before f (y ∷ zs)) ≡ back_entries k ++ slept y ∷ map slept (gone_before f ys) =
      ap (λ b. map slept (cond b (inserted y (gone_before f zs)) (gone_before f zs))) yes ∙
      inserted_behind f y (gone_before f zs) (back_entries k) (map slept (gone_before f ys)) inside beneath others in
      let clear : Each (Clear q n) (map slept (gone_before f (y ∷ zs))) =
      subst (λ w. Each (Clear q n) w) (sym with_it)
      (each_append (Clear q n) (back_entries k) (slept y ∷ map slept (gone_before f ys))
      (back_each (Clear q n) k (each_weaker (Below slot (under t e) n) (Clear q n) (post k)
      (λ x b i more l. ap (λ w. starts (path_under q ++ i ∷ more) w)
      (b.path ∙ (ap (λ w. w ++ b.number ∷ b.more) name ∙ append_assoc (path_under q) (n ∷ []) (b.number ∷ b.more))) ∙
      starts_fork (path_under q) i n more (b.number ∷ b.more) (λ p. omega (arith, l, p))) below)) (
        (λ i more l. ap (λ w. starts (path_under q ++ i ∷ more) w) own ∙ starts_fork (path_under q) i n more [] (λ p. omega (arith, l, p))),
        each_weaker (Clear q most) (Clear q n) (map slept (gone_before f ys)) (λ x c i more l. c i more (omega (arith, l, g.1))) c,
      )) in
      mirror q n r g.3 xs (y ∷ zs) parts.1.2 goes.1.1 clear ∙
      (ap (λ w. back_entries r ++ w) with_it ∙ regroup (back_entries r) (back_entries k) e y (map slept (gone_before f ys)) parts.1.1)
    where
      regroup : (a b : List Entry) (e : Entry) (y : m.Task) (c : List Entry) → e ≡ slept y →
          a ++ (b ++ slept y ∷ c) ≡ (a ++ (b ++ e ∷ [])) ++ c
      regroup a b e y c p = ap (λ z. a ++ (b ++ z ∷ c)) (sym p) ∙ simp append_assoc
