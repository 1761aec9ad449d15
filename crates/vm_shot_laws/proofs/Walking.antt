-- What is kept of the tasks of a tree, and of those that the definition has for them.
use Rattle.std.proofs.Common.{◌≡◌, ℕ, zero, suc, ◌+◌, ◌≤◌, List, [], ◌∷◌, ◌++◌, map, Option, Some, None, Bool, true}
use Rattle.std.proofs.Common.{false, cond, refl, sym, ap, subst}
use Rattle.std.proofs.Common.{◌∙◌, arith, option_map, ◌⊎◌}
use Rattle.std.specs.Prelude.{eqb, ◌≢◌, if◌then◌else◌, pred, reverse}
use mathlib.Core.Logic.{inl, inr}
use Rattle.std.proofs.lemmas.Bool.Decides.{eqb_tells}
use Rattle.task_tree.specs.Tasks.{Task, task_at}
use Rattle.task_tree.specs.Nested.{Distinct, IsTree}
use Rattle.task_tree.specs.declared.tasks.Role as r
use Rattle.verse_meaning_state.specs.Waits.{eqn, ltn}
use Rattle.verse_meaning_state.proofs.Numbers.{eqn_same}
use Rattle.verse_code_machine.specs.Tasks as m
use Rattle.verse_code_machine.specs.Tasks.{Frame, same_path}
use Rattle.verse_code_machine.specs.Runs.{Forest}
use Rattle.verse_code_machine.proofs.Paths.{same_self}
use Rattle.vm_tasks_laws.specs.Slots.{Slot, Held, by_machine, by_itself, slept, Parent, no_parent, under}
use Rattle.vm_tasks_laws.specs.Slots.{Shows}
use Rattle.vm_tasks_laws.specs.Roses.{Rose, node, pre, pre_all, Good, GoodTrees}
use Rattle.vm_tasks_laws.specs.Standing.{Rests}
use Rattle.vm_tasks_laws.specs.Told.{AllPairs}
use Rattle.vm_tasks_laws.proofs.Trees.{good_dealt}
use Rattle.run_save_shots.specs.Lists.{count, Reordered, no_elements, one_more}
use Rattle.run_save_shots.specs.Kept.{KeptFrame, KeptRest, KeptTask}
use Rattle.run_save_shots.specs.Keeping as kp
use Rattle.run_save_shots.specs.Keeping.{behind_parent, walked, walk, place_of, task_of, role_in, arm_in, arm_or}
use Rattle.run_save_shots.specs.Keeping.{depth_of}
use Rattle.vm_shot_laws.specs.Tree.{place_in, parent_place, role_beneath, role_under, held_by, held_frames, held_rest}
use Rattle.vm_shot_laws.specs.Tree.{kept_task, kept_tasks}
use Rattle.run_save_apart.specs.Numbers.{numbered, NumbersApart}
use Rattle.vm_shot_laws.specs.Laws.{Walks}
use Rattle.vm_shot_laws.proofs.Pairs.{Both, first_both, later_both, pairs_append, both_front, both_back, pair_of}
use Rattle.vm_shot_laws.proofs.Pairs.{Told, none_told, one_told}
use Rattle.vm_shot_laws.proofs.Pairs.{Arranged, none_arranged, empty_arranged, tree_arranged, arranged}
use Rattle.vm_shot_laws.proofs.Pairs.{in_order}
use Rattle.vm_shot_laws.proofs.Insertions.{walk_told}

-- ---- names

last_same : (a b : List ℕ) (i j : ℕ) → same_path (a ++ i ∷ []) (b ++ j ∷ []) ≡ true → i ≡ j
last_same [] [] i j e = two (eqn i j) refl e
  where
    two : (t : Bool) → eqn i j ≡ t → cond t true false ≡ true → i ≡ j
    two true f g = is i j f
      where
        is : (n k : ℕ) → eqn n k ≡ true → n ≡ k
        is zero zero e = refl
        is zero (suc k) e = absurd (cc)
        is (suc n) zero e = absurd (cc)
        is (suc n) (suc k) e = ap suc (is n k e)
    two false f g = absurd (cc)
last_same [] (x ∷ b) i j e = absurd (none (eqn i x) b e)
  where
    none : (t : Bool) (b : List ℕ) → cond t (same_path [] (b ++ j ∷ [])) false ≡ true → ⊥
    none true [] e = cc
    none true (y ∷ b) e = cc
    none false b e = cc
last_same (x ∷ a) [] i j e = absurd (none (eqn x j) a e)
  where
    none : (t : Bool) (a : List ℕ) → cond t (same_path (a ++ i ∷ []) []) false ≡ true → ⊥
    none true [] e = cc
    none true (y ∷ a) e = cc
    none false a e = cc
last_same (x ∷ a) (y ∷ b) i j e = two (eqn x y) e (λ f. last_same a b i j f)
  where
    two : (t : Bool) → cond t (same_path (a ++ i ∷ []) (b ++ j ∷ [])) false ≡ true →
        (same_path (a ++ i ∷ []) (b ++ j ∷ []) ≡ true → i ≡ j) → i ≡ j
    two true e g = g e
    two false e g = absurd (cc)

-- how many have a number
abbrev many : ℕ → List m.Task → ℕ
many n ys = count (λ (y : m.Task). eqn n y.thread.who.number) ys

same_task : (a b : KeptTask) → a.parent ≡ b.parent → a.role ≡ b.role → a.root ≡ b.root → a.frames ≡ b.frames → a.rest ≡ b.rest → a ≡ b
same_task a b p q e f g =
    ap (λ (w : Option ℕ). record { parent = w; role = a.role; root = a.root; frames = a.frames; rest = a.rest }) p ∙
    (ap (λ (w : r.Role). record { parent = b.parent; role = w; root = a.root; frames = a.frames; rest = a.rest }) q ∙
    (ap (λ (w : Option ℕ). record { parent = b.parent; role = b.role; root = w; frames = a.frames; rest = a.rest }) e ∙
    (ap (λ (w : List KeptFrame). record { parent = b.parent; role = b.role; root = b.root; frames = w; rest = a.rest }) f ∙
    ap (λ (w : KeptRest). record { parent = b.parent; role = b.role; root = b.root; frames = b.frames; rest = w }) g)))

no_end : (a : List ℕ) (i : ℕ) → same_path [] (a ++ i ∷ []) ≡ false
no_end [] i = refl
no_end (x ∷ a) i = refl

module _ {T : Type 0} (slot : T → Slot) where
  -- ---- a task of the tree, and that of the definition

  pub record Alike (t : Task T) (y : m.Task) : Type 0 where
    shows : Shows t.number (slot t.item).held (slept y)
    number : y.thread.who.number ≡ (slot t.item).number
    role : y.thread.who.role ≡ (slot t.item).role
    path : y.thread.who.path ≡ y.thread.who.up ++ y.thread.who.number ∷ []

  -- among all tasks
  pub data Beneath (ts : List (Task T)) (ys : List m.Task) (t : Task T) (y : m.Task) : Type 0 where
    alone : t.parent ≡ None → y.thread.who.up ≡ [] → Beneath ts ys t y
    child : (u : Task T) (z : m.Task) → Both u z ts ys → t.parent ≡ Some u.number → y.thread.who.up ≡ z.thread.who.path → Beneath ts ys t y

  named_alike : (q : Parent T) (t : Task T) (y : m.Task) (k r : Rose T) (most : ℕ) → Good slot q most (node t (slept y) k r) → Alike t y
  named_alike q t y k r most g = let w = g.0.who in record {
    shows = g.0.shows;
    number = ap (λ (w : m.Who). w.number) w;
    role = ap (λ (w : m.Who). w.role) w;
    path = ap (λ (w : m.Who). w.path) w ∙ sym (ap (λ (w : m.Who). w.up ++ w.number ∷ []) w);
  }

  alike_told : (q : Parent T) (most : ℕ) (c : Rose T) (ts ps : List m.Task) → Good slot q most c → Told c ts ps → AllPairs Alike (pre c) ps
  alike_told q most c ts ps g none_told = tt
  alike_told q most c ts ps g (one_told {t = t} {y = y} {k = k} {r = r} {ks = ks} {kp = kp} {rs = rs} {rp = rp} a b) = (
    named_alike q t y k r most g,
    pairs_append Alike (pre k) (pre r) kp rp (alike_told (under t (slept y)) _ k ks kp g.2 a) (alike_told q _ r rs rp g.3 b),
  )

  alike_all : (cs : List (Rose T)) (tss : Forest) (ps : List m.Task) → GoodTrees slot cs → Arranged cs tss ps →
      AllPairs Alike (pre_all cs) ps
  alike_all cs tss ps g none_arranged = tt
  alike_all cs tss ps g (empty_arranged {tss = uss} a) = alike_all cs uss ps g a
  alike_all cs tss ps g (tree_arranged {c = c} {cs = ds} {ts = ts} {qs = qs} {tss = uss} {ps = rs} t a) =
      pairs_append Alike (pre c) (pre_all ds) qs rs (alike_told no_parent g.0.most c ts qs g.0.good t) (alike_all ds uss rs g.1 a)

  module _ (all : List (Task T)) (ys : List m.Task) where
    -- where a parent stands
    data Stood : Parent T → Type 0 where
      none_stood : Stood no_parent
      one_stood : (u : Task T) (z : m.Task) → Both u z all ys → Stood (under u (slept z))

    beneath_one : (q : Parent T) (t : Task T) (y : m.Task) (k r : Rose T) (most : ℕ) → Good slot q most (node t (slept y) k r) → Stood q →
        Beneath all ys t y
    beneath_one q t y k r most g none_stood = alone g.0.parent (ap (λ (w : m.Who). w.up) g.0.who)
    beneath_one q t y k r most g (one_stood u z h) = child u z h g.0.parent (ap (λ (w : m.Who). w.up) g.0.who)

    beneath_told : (q : Parent T) (most : ℕ) (c : Rose T) (ts ps : List m.Task) → Good slot q most c → Stood q →
        ((u : Task T) (z : m.Task) → Both u z (pre c) ps → Both u z all ys) → Told c ts ps → AllPairs (Beneath all ys) (pre c) ps
    beneath_told q most c ts ps g s f none_told = tt
    beneath_told q most c ts ps g s f (one_told {t = t} {y = y} {k = k} {r = r} {ks = ks} {kp = kp} {rs = rs} {rp = rp} a b) = (
      beneath_one q t y k r most g s,
      pairs_append (Beneath all ys) (pre k) (pre r) kp rp
          (beneath_told (under t (slept y)) _ k ks kp g.2 (one_stood t y (f t y first_both))
          (λ u z h. f u z (later_both (both_front u z (pre k) (pre r) kp rp h))) a)
          (beneath_told q _ r rs rp g.3 s
          (λ u z h. f u z (later_both (both_back Alike u z (pre k) (pre r) kp rp (alike_told (under t (slept y)) _ k ks kp g.2 a) h))) b),
    )

    beneath_all : (cs : List (Rose T)) (tss : Forest) (ps : List m.Task) → GoodTrees slot cs →
        ((u : Task T) (z : m.Task) → Both u z (pre_all cs) ps → Both u z all ys) → Arranged cs tss ps →
        AllPairs (Beneath all ys) (pre_all cs) ps
    beneath_all cs tss ps g f none_arranged = tt
    beneath_all cs tss ps g f (empty_arranged {tss = uss} a) = beneath_all cs uss ps g f a
    beneath_all cs tss ps g f (tree_arranged {c = c} {cs = ds} {ts = ts} {qs = qs} {tss = uss} {ps = rs} t a) =
        pairs_append (Beneath all ys) (pre c) (pre_all ds) qs rs
        (beneath_told no_parent g.0.most c ts qs g.0.good none_stood (λ u z h. f u z (both_front u z (pre c) (pre_all ds) qs rs h)) t)
        (beneath_all ds uss rs g.1
        (λ u z h. f u z (both_back Alike u z (pre c) (pre_all ds) qs rs (alike_told no_parent g.0.most c ts qs g.0.good t) h)) a)

  -- ---- a task is found by its number and by its name

  some_many : (u : Task T) (z : m.Task) (ts : List (Task T)) (ys : List m.Task) → Both u z ts ys → 1 ≤ many z.thread.who.number ys
  some_many u z ts ys (first_both {ys = zs}) =
      subst (λ b. 1 ≤ cond b (suc (many z.thread.who.number zs)) (many z.thread.who.number zs)) (sym (eqn_same z.thread.who.number)) (omega
      arith)
  some_many u z ts ys (later_both {v = v} {xs = xs} {ys = zs} h) =
      two (eqn z.thread.who.number v.thread.who.number) (many z.thread.who.number zs) (some_many u z xs zs h)
    where
      two : (b : Bool) (n : ℕ) → 1 ≤ n → 1 ≤ cond b (suc n) n
      two true n h = omega arith
      two false n h = h

  fewer : (v : m.Task) (zs : List m.Task) → ((n : ℕ) → many n (v ∷ zs) ≤ 1) → (n : ℕ) → many n zs ≤ 1
  fewer v zs f n = two (eqn n v.thread.who.number) (many n zs) (f n)
    where
      two : (b : Bool) (n : ℕ) → cond b (suc n) n ≤ 1 → n ≤ 1
      two true n h = omega (arith, h)
      two false n h = h

  -- the name of a task in a rest of the list is none of an earlier one
  other_name : (u t : Task T) (z v : m.Task) (ts : List (Task T)) (zs : List m.Task) → Both u z ts zs → Alike u z → Alike t v →
      ((n : ℕ) → many n (v ∷ zs) ≤ 1) → same_path z.thread.who.path v.thread.who.path ≡ false
  other_name u t z v ts zs h a b f = two (same_path z.thread.who.path v.thread.who.path) refl
    where
      two : (c : Bool) → same_path z.thread.who.path v.thread.who.path ≡ c → c ≡ false
      two false e = refl
      two true e =
          let numbers : z.thread.who.number ≡ v.thread.who.number =
          last_same z.thread.who.up v.thread.who.up z.thread.who.number v.thread.who.number
          (ap (λ p. same_path p (v.thread.who.up ++ v.thread.who.number ∷ [])) (sym a.path) ∙
          (ap (λ p. same_path z.thread.who.path p) (sym b.path) ∙ e)) in
          let n = z.thread.who.number in
          let once : eqn n v.thread.who.number ≡ true = subst (λ k. eqn n k ≡ true) numbers (eqn_same n) in
          let most : suc (many n zs) ≤ 1 = subst (λ b. cond b (suc (many n zs)) (many n zs) ≤ 1) once (f n) in
          let some = some_many u z ts zs h in
          absurd (omega (arith, most, some))

  other_number : (u t : Task T) (z : m.Task) (ts : List (Task T)) (zs : List m.Task) → Both u z ts zs → task_at t.number ts ≡ None →
      eqb t.number u.number ≡ false
  other_number u t z ts zs h e = by_case (eqb_tells t.number u.number)
    where
      there : (n : ℕ) (ts : List (Task T)) (zs : List m.Task) → Both u z ts zs → n ≡ u.number → task_at n ts ≡ None → ⊥
      there n ts zs (first_both {xs = xs}) p e = same (eqb_tells u.number n)
        where
          same : ((eqb u.number n ≡ true) × (u.number ≡ n)) ⊎ ((eqb u.number n ≡ false) × (u.number ≢ n)) → ⊥
          same (inl h) = let f : Some u ≡ None = ap (λ b. if b then Some u else task_at n xs) (sym h.0) ∙ e in absurd (cc (f))
          same (inr h) = h.1 (sym p)
      there n ts zs (later_both {u = v} {xs = xs} {ys = ws} h) p e = two (eqb v.number n) e (λ f. there n xs ws h p f)
        where
          two : (b : Bool) → (if b then Some v else task_at n xs) ≡ None → (task_at n xs ≡ None → ⊥) → ⊥
          two true e g = cc
          two false e g = g e

      by_case : ((eqb t.number u.number ≡ true) × (t.number ≡ u.number)) ⊎ ((eqb t.number u.number ≡ false) × (t.number ≢ u.number)) →
          eqb t.number u.number ≡ false
      by_case (inl p) = absurd (there t.number ts zs h p.1 e)
      by_case (inr p) = p.0

  self_number : (n : ℕ) → eqb n n ≡ true
  self_number n = by_case (eqb_tells n n)
    where
      by_case : ((eqb n n ≡ true) × (n ≡ n)) ⊎ ((eqb n n ≡ false) × (n ≢ n)) → eqb n n ≡ true
      by_case (inl p) = p.0
      by_case (inr p) = absurd (p.1 refl)

  record Found (u : Task T) (z : m.Task) (ts : List (Task T)) (ys : List m.Task) : Type 0 where
    place : place_of z.thread.who.path ys ≡ place_in u.number ts
    there : task_of z.thread.who.path ys ≡ Some z
    own : task_at u.number ts ≡ Some u

  found : (u : Task T) (z : m.Task) (ts : List (Task T)) (ys : List m.Task) → Both u z ts ys → AllPairs Alike ts ys → Distinct ts →
      ((n : ℕ) → many n ys ≤ 1) → Found u z ts ys
  found u z ts ys (first_both {xs = xs} {ys = zs}) a d f =
      let path = z.thread.who.path in
      record {
        place = ap (λ b. cond b (Some 0) (option_map suc (place_of path zs))) (same_self path) ∙
            sym (ap (λ b. if b then Some 0 else option_map suc (place_in u.number xs)) (self_number u.number));
        there = ap (λ b. cond b (Some z) (task_of path zs)) (same_self path);
        own = ap (λ b. if b then Some u else task_at u.number xs) (self_number u.number);
      }
  found u z ts ys (later_both {u = t} {v = v} {xs = xs} {ys = zs} h) a d f =
      let path = z.thread.who.path in
      let k = found u z xs zs h a.1 d.1 (fewer v zs f) in
      let name = other_name u t z v xs zs h (pair_of Alike u z xs zs a.1 h) a.0 f in
      let number = other_number u t z xs zs h d.0 in
      record {
        place = ap (λ b. cond b (Some 0) (option_map suc (place_of path zs))) name ∙ (ap (option_map suc) k.place ∙ sym (ap (λ b. if b then
            Some 0 else option_map suc (place_in u.number xs)) number));
        there = ap (λ b. cond b (Some v) (task_of path zs)) name ∙ k.there;
        own = ap (λ b. if b then Some t else task_at u.number xs) number ∙ k.own;
      }

  no_place : (ts : List (Task T)) (ys : List m.Task) → AllPairs Alike ts ys → (place_of [] ys ≡ None) × (task_of [] ys ≡ None)
  no_place [] [] a = (refl, refl)
  no_place [] (y ∷ ys) a = absurd a
  no_place (t ∷ ts) [] a = absurd a
  no_place (t ∷ ts) (y ∷ ys) a =
      let k = no_place ts ys a.1 in
      let none : same_path [] y.thread.who.path ≡ false =
      ap (λ p. same_path [] p) a.0.path ∙ no_end y.thread.who.up y.thread.who.number in (
        ap (λ b. cond b (Some 0) (option_map suc (place_of [] ys))) none ∙ ap (option_map suc) k.0,
        ap (λ b. cond b (Some y) (task_of [] ys)) none ∙ k.1,
      )

  -- ---- one task

  role_shown : (n id : ℕ) (h : Held) (z : m.Task) → Shows id h (slept z) → role_under h n ≡ role_in (Some z) n
  role_shown n id by_machine z s = absurd s
  role_shown n id (by_itself f below r) z s =
      sym (ap (λ (r : m.Rest). arm_or (arm_in n r) (depth_of n z)) s.2 ∙
      (ap (λ (g : Frame). arm_or (arm_in n r) (pred (count (λ (f : Frame). ltn n f.life.born) (g ∷ z.thread.below)))) s.0 ∙
      ap (λ (b : List Frame). arm_or (arm_in n r) (pred (count (λ (f : Frame). ltn n f.life.born) (f ∷ b)))) s.1))

  kept_one : (all : List (Task T)) (ys : List m.Task) (t : Task T) (y : m.Task) → AllPairs Alike all ys → Distinct all →
      ((n : ℕ) → many n ys ≤ 1) → Alike t y → Beneath all ys t y → kept_task slot all t ≡ kp.task ys y
  kept_one all ys t y a d f k b = same_task (kept_task slot all t) (kp.task ys y) (parent_is b) (role_is b) (ap kp.entry_of (sym k.role))
      (frames_are (slot t.item).held k.shows) (rest_is (slot t.item).held k.shows)
    where
      parent_is : Beneath all ys t y → parent_place t.parent all ≡ place_of y.thread.who.up ys
      parent_is (alone e g) = ap (λ p. parent_place p all) e ∙ sym (ap (λ p. place_of p ys) g ∙ (no_place all ys a).0)
      parent_is (child u z h e g) =
          ap (λ p. parent_place p all) e ∙ sym (ap (λ p. place_of p ys) g ∙ (found u z all ys h a d f).place)

      role_is : Beneath all ys t y → role_beneath (held_by slot t.parent all) (slot t.item).number ≡ role_in (task_of y.thread.who.up ys)
          y.thread.who.number
      role_is (alone e g) =
          ap (λ p. role_beneath (held_by slot p all) (slot t.item).number) e ∙ sym (ap (λ p. role_in (task_of p ys) y.thread.who.number) g ∙
          ap (λ o. role_in o y.thread.who.number) (no_place all ys a).1)
      role_is (child u z h e g) =
          let k2 = found u z all ys h a d f in
          ap (λ p. role_beneath (held_by slot p all) (slot t.item).number) e ∙
          (ap (λ o. role_beneath (option_map (λ (t : Task T). (slot t.item).held) o) (slot t.item).number) k2.own ∙
          (role_shown (slot t.item).number u.number (slot u.item).held z (pair_of Alike u z all ys a h).shows ∙
          (ap (λ n. role_in (Some z) n) (sym k.number) ∙
          sym (ap (λ p. role_in (task_of p ys) y.thread.who.number) g ∙ ap (λ o. role_in o y.thread.who.number) k2.there))))

      frames_are : (h : Held) → Shows t.number h (slept y) → held_frames h ≡ (kp.task ys y).frames
      frames_are by_machine s = absurd s
      frames_are (by_itself g below r) s =
          sym (ap (λ (r : m.Rest). map (kp.frame 0) (reverse y.thread.below) ++ kp.frame (kp.arms_behind r) y.thread.frame ∷ []) s.2 ∙
          (ap (λ (g : Frame). map (kp.frame 0) (reverse y.thread.below) ++ kp.frame (kp.arms_behind r) g ∷ []) s.0 ∙
          ap (λ (b : List Frame). map (kp.frame 0) (reverse b) ++ kp.frame (kp.arms_behind r) g ∷ []) s.1))

      rest_is : (h : Held) → Shows t.number h (slept y) → held_rest h ≡ kp.rest y.rest
      rest_is by_machine s = absurd s
      rest_is (by_itself g below r) s = ap kp.rest (sym s.2)

  kept_all : (all : List (Task T)) (ys : List m.Task) → AllPairs Alike all ys → Distinct all → ((n : ℕ) → many n ys ≤ 1) →
      (ts : List (Task T)) (zs : List m.Task) → AllPairs Alike ts zs → AllPairs (Beneath all ys) ts zs →
      map (kept_task slot all) ts ≡ map (kp.task ys) zs
  kept_all all ys a d f [] [] p b = refl
  kept_all all ys a d f [] (z ∷ zs) p b = absurd p
  kept_all all ys a d f (t ∷ ts) [] p b = absurd p
  kept_all all ys a d f (t ∷ ts) (z ∷ zs) p b =
      ap (λ w. w ∷ map (kept_task slot all) ts) (kept_one all ys t z a d f p.0 b.0) ∙
      ap (λ w. kp.task ys z ∷ w) (kept_all all ys a d f ts zs p.1 b.1)

  -- ---- numbers do not depend on the order

  many_append : (n : ℕ) (a b : List m.Task) → many n (a ++ b) ≡ many n a + many n b
  many_append n [] b = omega arith
  many_append n (y ∷ a) b = two (eqn n y.thread.who.number) (many n (a ++ b)) (many n a) (many n b) (many_append n a b)
    where
      two : (c : Bool) (k i j : ℕ) → k ≡ i + j → cond c (suc k) k ≡ cond c (suc i) i + j
      two true k i j h = omega (arith, h)
      two false k i j h = h

  many_behind : (n : ℕ) (y : m.Task) (xs : List m.Task) → many n (behind_parent y xs) ≡ many n (y ∷ xs)
  many_behind n y [] = refl
  many_behind n y (x ∷ xs) = two (same_path y.thread.who.up x.thread.who.path) (many_behind n y xs)
    where
      turned : (b c : Bool) (k : ℕ) → cond b (suc (cond c (suc k) k)) (cond c (suc k) k) ≡
          cond c (suc (cond b (suc k) k)) (cond b (suc k) k)
      turned true true k = refl
      turned true false k = refl
      turned false true k = refl
      turned false false k = refl

      two : (b : Bool) → many n (behind_parent y xs) ≡ many n (y ∷ xs) →
          many n (cond b (x ∷ y ∷ xs) (x ∷ behind_parent y xs)) ≡ many n (y ∷ x ∷ xs)
      two true h = turned (eqn n x.thread.who.number) (eqn n y.thread.who.number) (many n xs)
      two false h =
          ap (λ k. cond (eqn n x.thread.who.number) (suc k) k) h ∙
          turned (eqn n x.thread.who.number) (eqn n y.thread.who.number) (many n xs)

  many_walked : (n : ℕ) (ts : List m.Task) → many n (walked ts) ≡ many n ts
  many_walked n [] = refl
  many_walked n (y ∷ ys) =
      many_behind n y (walked ys) ∙ ap (λ k. cond (eqn n y.thread.who.number) (suc k) k) (many_walked n ys)

  many_walk : (n : ℕ) (tss : Forest) → many n (walk tss) ≡ numbered n tss
  many_walk n [] = refl
  many_walk n (ts ∷ tss) =
      many_append n (walked ts) (walk tss) ∙
      (ap (λ k. k + many n (walk tss)) (many_walked n ts) ∙ ap (λ k. many n ts + k) (many_walk n tss))

  numbered_between : (n : ℕ) (a : Forest) (ts : List m.Task) (b : Forest) → numbered n (a ++ ts ∷ b) ≡ many n ts + numbered n (a ++ b)
  numbered_between n [] ts b = refl
  numbered_between n (us ∷ a) ts b =
      ap (λ k. many n us + k) (numbered_between n a ts b) ∙ turned (many n us) (many n ts) (numbered n (a ++ b))
    where
      turned : (i j k : ℕ) → i + (j + k) ≡ j + (i + k)
      turned i j k = omega arith

  numbered_same : (n : ℕ) (tss uss : Forest) → Reordered tss uss → numbered n tss ≡ numbered n uss
  numbered_same n tss uss no_elements = refl
  numbered_same n tss uss (one_more {x = ts} {xs = vss} front back e h) =
      ap (λ k. many n ts + k) (numbered_same n vss (front ++ back) h) ∙
      (sym (numbered_between n front ts back) ∙ ap (λ w. numbered n w) (sym e))

  -- ---- all

  pub tree_walked : (all : List (Task T)) (tss : Forest) → Rests slot all tss → IsTree all → NumbersApart tss → Walks slot all tss
  tree_walked all tss rests tree apart =
      let a = arranged rests.trees tss rests.trees_are in
      let o = in_order rests.trees rests.roots tss a.0 rests.dealt a.1 in
      let good = good_dealt slot rests.trees rests.roots rests.dealt rests.good in
      let ys = o.tasks in
      let tasks = pre_all rests.roots in
      let alike = alike_all rests.roots o.ordered ys good o.are in
      let beneath = beneath_all tasks ys rests.roots o.ordered ys good (λ u z h. h) o.are in
      let walk_is : walk o.ordered ≡ ys = walk_told slot rests.roots o.ordered ys good o.are in
      let few : (n : ℕ) → many n ys ≤ 1 = λ n. subst (λ k. k ≤ 1)
      (numbered_same n tss o.ordered o.reordered ∙ (sym (many_walk n o.ordered) ∙
      ap (many n) walk_is)) (apart n) in
      let distinct : Distinct tasks = subst Distinct rests.tasks_are tree.distinct in
      record {
        ordered = o.ordered;
        reordered = o.reordered;
        same = ap (λ w. kept_tasks slot w) rests.tasks_are ∙ (kept_all tasks ys alike distinct few tasks ys alike beneath ∙ ap (λ w.
            kp.tasks w) (sym walk_is));
      }
