-- No task in the background began later than an arm of its parent.
use Rattle.std.proofs.Common.{◌≡◌, ℕ, suc, ◌+◌, ◌≤◌, ◌<◌, List, [], ◌∷◌, ◌++◌, Bool, true, false, cond, refl, sym, subst, ap, ◌∙◌, arith}
use Rattle.std.proofs.Common.{◌⊎◌}
use mathlib.Core.Logic.{inl, inr}
use Rattle.std.proofs.lemmas.Bool.{cases_Bool}
use Rattle.verse_base.proofs.Facts.{clash}
use Rattle.verse_code.specs.declared.codes.Code.{Code}
use Rattle.verse_meaning_state.specs.Waits.{ltn}
use Rattle.verse_code_machine.specs.Tasks.{Part, did, runs, Rest, asleep, group, thread, Task, Up, begins, branching, spawning, clearing}
use Rattle.verse_code_machine.specs.Tasks.{Trees}
use Rattle.verse_code_machine.specs.Tasks.{world, child_named, same_path}
use Rattle.verse_meaning_state.specs.State.{stepped}
use Rattle.verse_meaning_state.proofs.Numbers.{ltn_is_not, ltn_is, ltn_no}
use Rattle.verse_code_machine.specs.Ends.{is_run, with_did}
use Rattle.verse_code_machine.proofs.Paths.{same_is}
use Rattle.run_save_moves.specs.Moves as m
use Rattle.run_save_moves.specs.Moves.{Point, Move}
use Rattle.run_save_fits.specs.Held.{IsSome, one}
use Rattle.run_save_fits.proofs.Counted.{one_most}
use Rattle.run_save_kept.specs.Orders.{last, skips, in_group, weight}
use Rattle.run_save_kept.proofs.Paths.{is_same, not_same, end_is, last_end, root_no_part}
use Rattle.run_save_kept.proofs.Paths.{run_end, run_new, run_did, run_more, with_other, with_run}
use Rattle.run_save_kept.proofs.Sums.{sums_most, trees_most}
use Rattle.run_save_kept.proofs.Rails.{Railed}
use Rattle.run_save_kept.proofs.Weights.{Special, spawned, branched, arm_begun, arm_ended, joined, of_ups, of_others, weigh, Grown, lessens}
use Rattle.run_save_kept.proofs.Weights.{special, grows}
use Rattle.run_save_kept.proofs.Named.{no_arms, has_path, room, Named}

module _ (a : List ℕ) (some : IsSome a) (n k : ℕ) (le : n ≤ k) where
  abbrev pub child : List ℕ
  child = a ++ n ∷ []

  abbrev pub Young : Point → Type 0
  Young x = weigh (has_path child) (skips a n k) x ≤ 1

  -- ---- what a group weighs

  abbrev by : (t u v : Bool) → ℕ
  by t u v = cond t (cond u (cond v 0 1) 0) 0

  by_none : (t v : Bool) → by t false v ≡ 0
  by_none true v = refl
  by_none false v = refl

  by_in : (t u : Bool) → by t u true ≡ 0
  by_in true true = refl
  by_in true false = refl
  by_in false u = refl

  by_most : (t u v : Bool) → by t u v ≤ one t
  by_most true true true = omega arith
  by_most true true false = omega arith
  by_most true false v = omega arith
  by_most false u v = omega arith

  by_less : (t u v w : Bool) → (u ≡ true → w ≡ true) → by t u v ≤ by t w v
  by_less true true v true h = omega arith
  by_less true true v false h = clash false (h refl) refl
  by_less true false v w h = omega arith
  by_less false u v w h = omega arith

  none : (path : List ℕ) → skips a n k path [] ≡ 0
  none path = by_none (same_path a path) (is_run n [])

  skips_most : (path : List ℕ) (gs : List Part) → skips a n k path gs ≤ one (same_path a path)
  skips_most path gs = by_most (same_path a path) (is_run k gs) (is_run n gs)

  skips_off : (path : List ℕ) (gs : List Part) → same_path a path ≡ false → skips a n k path gs ≡ 0
  skips_off path gs e = ap (λ t. by t (is_run k gs) (is_run n gs)) e

  skips_in : (path : List ℕ) (gs : List Part) → is_run n gs ≡ true → skips a n k path gs ≡ 0
  skips_in path gs e = ap (by (same_path a path) (is_run k gs)) e ∙ by_in (same_path a path) (is_run k gs)

  skips_less : (path : List ℕ) (gs hs : List Part) → is_run n hs ≡ is_run n gs → (is_run k gs ≡ true → is_run k hs ≡ true) →
      skips a n k path gs ≤ skips a n k path hs
  skips_less path gs hs e f = subst (λ v. by (same_path a path) (is_run k gs) v ≤ skips a n k path hs) e
      (by_less (same_path a path) (is_run k gs) (is_run n hs) (is_run k hs) f)

  -- ---- where no other has the path, no other weighs

  group_most : (path : List ℕ) (q : Rest) → in_group (skips a n k) path q ≤ one (same_path a path)
  group_most path (asleep w) = omega arith
  group_most path (group j p gs) = skips_most path gs

  task_most : (t : Task) → weight (has_path child) (skips a n k) t ≤ weight (has_path child) no_arms t + weight (has_path a) no_arms t
  task_most t = let h = group_most t.thread.who.path t.rest in omega (arith, h)

  ups_most : (us : List Up) → of_ups (has_path child) (skips a n k) us ≤ of_ups (has_path child) no_arms us + of_ups (has_path a) no_arms us
  ups_most [] = omega arith
  ups_most (begins x j p gs i ls ∷ us) = let h = skips_most x.who.path (gs ++ runs i ∷ []) in let g = ups_most us in omega (arith, h, g)
  ups_most (branching x ∷ us) = let g = ups_most us in omega (arith, g)
  ups_most (spawning x entry ps qs ∷ us) =
      let h = sums_most (weight (has_path child) (skips a n k)) (weight (has_path child) no_arms) (weight (has_path a) no_arms) task_most
      ps in
      let i = sums_most (weight (has_path child) (skips a n k)) (weight (has_path child) no_arms) (weight (has_path a) no_arms) task_most
      qs in
      let g = ups_most us in omega (arith, h, i, g)
  ups_most (clearing b ts ∷ us) =
      let h = sums_most (weight (has_path child) (skips a n k)) (weight (has_path child) no_arms) (weight (has_path a) no_arms) task_most
      ts in
      let g = ups_most us in omega (arith, h, g)

  most : (pre post : List Task) (us : List Up) (trees : Trees) → of_others (has_path child) (skips a n k) pre post us trees ≤
      of_others (has_path child) no_arms pre post us trees + of_others (has_path a) no_arms pre post us trees
  most pre post us trees =
      let d = sums_most (weight (has_path child) (skips a n k)) (weight (has_path child) no_arms) (weight (has_path a) no_arms) task_most
      pre in
      let e = sums_most (weight (has_path child) (skips a n k)) (weight (has_path child) no_arms) (weight (has_path a) no_arms) task_most
      post in
      let f = ups_most us in
      let g = trees_most (weight (has_path child) (skips a n k)) (weight (has_path child) no_arms) (weight (has_path a) no_arms) task_most
      trees.before in
      let h = trees_most (weight (has_path child) (skips a n k)) (weight (has_path child) no_arms) (weight (has_path a) no_arms) task_most
      trees.behind in
      omega (arith, d, e, f, g, h)

  -- ---- a task that begins

  -- no task has a number that is to come
  to_come : (l left : ℕ) → suc l ≡ left → n ≤ l → room child left ≡ 0
  to_come l left e h = ap one (ltn_no left (suc (last child)) (late n l left (last child) e h (last_end a n)))
    where
      late : (n l left i : ℕ) → suc l ≡ left → n ≤ l → i ≡ n → suc i ≤ left
      late n l left i e h f = omega (arith, e, h, f)

  room_most : (p : List ℕ) (left : ℕ) → room p left ≤ 1
  room_most p left = one_most (ltn left (suc (last p)))

  root_other : (l : ℕ) → has_path child (l ∷ []) ≡ 0
  root_other l = ap one (not_same child (l ∷ []) (λ e. root_no_part a n l some e))

  -- the place of the child is another
  other_parent : (x : List ℕ) (l : ℕ) → same_path a x ≡ false → has_path child (x ++ l ∷ []) ≡ 0
  other_parent x l e = ap one (not_same child (x ++ l ∷ []) (λ f. clash (same_path a x) (is_same a x (end_is a x n l f).0) e))

  other_number : (x : List ℕ) (l : ℕ) → (n ≡ l → ⊥) → has_path child (x ++ l ∷ []) ≡ 0
  other_number x l differ = ap one (not_same child (x ++ l ∷ []) (λ f. differ (end_is a x n l f).1))

  no_equal : (i j : ℕ) → j < i → i ≡ j → ⊥
  no_equal i j h e = omega (arith, h, e)

  by_special : {x y : Point} → Special x y → Railed x → ((p : List ℕ) → Named p x) → Young x → Young y
  by_special (spawned {l = l} e) r names b = let h = root_other l in omega (arith, h, b)
  by_special (branched {w = w} {o = o} {s = s} {f = f} {fs = fs} {l = l} {place = place} e) r names b =
      by_test (cases_Bool (same_path child (w.path ++ l ∷ [])))
    where
      by_test : (same_path child (w.path ++ l ∷ []) ≡ true) ⊎ (same_path child (w.path ++ l ∷ []) ≡ false) →
          Young (m.acts (m.at (child_named w l) (world o.pre o.post (branching (thread w f fs) ∷ o.ups) o.trees) (stepped l s)
          (m.begun l place f.locals) []))
      by_test (inl q) =
          let i = end_is a w.path n l (same_is child (w.path ++ l ∷ []) q) in
          let g = names child in let h = to_come l s.clock.left e (same_most n l i.1) in
          let j = names a in let t = ap one (is_same a w.path i.0) in let u = room_most a s.clock.left in
          let v = most o.pre o.post o.ups o.trees in let z = one_most (same_path child (w.path ++ l ∷ [])) in
          omega (arith, g, h, j, t, u, v, z)
        where
          same_most : (i j : ℕ) → i ≡ j → i ≤ j
          same_most i j e = omega (arith, e)
      by_test (inr q) = let h = ap one q in omega (arith, h, b)
  by_special (arm_begun {k = kind} {p = p} {gs = gs} {n = label} {l = l} {ls = ls} {x = x} {pre = pre} {post = post} {us = us}
      {trees = trees} {s = s} e) r names b = by_parent (cases_Bool (same_path a x.who.path))
    where
      by_child : same_path a x.who.path ≡ true → n ≤ l → (same_path child (x.who.path ++ l ∷ []) ≡ true) ⊎
          (same_path child (x.who.path ++ l ∷ []) ≡ false) →
          has_path child (x.who.path ++ l ∷ []) + skips a n k x.who.path (gs ++ runs l ∷ []) ≤ 1
      by_child q i (inl t) =
          let u = end_is a x.who.path n l (same_is child (x.who.path ++ l ∷ []) t) in
          let v = skips_in x.who.path (gs ++ runs l ∷ []) (subst (λ j. is_run j (gs ++ runs l ∷ []) ≡ true) (sym u.1) (run_new l gs)) in
          let z = one_most (same_path child (x.who.path ++ l ∷ [])) in omega (arith, v, z)
      by_child q i (inr t) = let u = ap one t in let v = skips_most x.who.path (gs ++ runs l ∷ []) in let z =
          one_most (same_path a x.who.path) in
          omega (arith, u, v, z)

      by_number : same_path a x.who.path ≡ true → (ltn l n ≡ true) ⊎ (ltn l n ≡ false) →
          Young (m.acts (m.at (child_named x.who l) (world pre post (begins x kind p gs l ls ∷ us) trees) (stepped l s)
          (m.begun l label x.frame.locals) []))
      by_number q (inl i) =
          let h = ltn_is l n i in
          let t = other_number x.who.path l (no_equal n l h) in
          let u = skips_less x.who.path (gs ++ runs l ∷ []) gs (sym (run_end n l gs (no_equal n l h)))
          (λ f. sym (run_end k l gs (no_equal k l (far l n k h
          le))) ∙ f) in
          omega (arith, t, u, b)
        where
          far : (l n k : ℕ) → l < n → n ≤ k → l < k
          far l n k h e = omega (arith, h, e)
      by_number q (inr i) =
          let g = names child in let h = to_come l s.clock.left e (ltn_is_not l n i) in
          let j = names a in let t = ap one q in let u = room_most a s.clock.left in
          let v = most pre post us trees in
          let z = by_child q (ltn_is_not l n i) (cases_Bool (same_path child (x.who.path ++ l ∷ []))) in
          omega (arith, g, h, j, t, u, v, z)

      by_parent : (same_path a x.who.path ≡ true) ⊎ (same_path a x.who.path ≡ false) →
          Young (m.acts (m.at (child_named x.who l) (world pre post (begins x kind p gs l ls ∷ us) trees) (stepped l s)
          (m.begun l label x.frame.locals) []))
      by_parent (inl q) = by_number q (cases_Bool (ltn l n))
      by_parent (inr q) =
          let t = other_parent x.who.path l q in let u = skips_off x.who.path (gs ++ runs l ∷ []) q in omega (arith, t, u, b)
  by_special (arm_ended {w = w} {v = v} {k = kind} {p = p} {gs = gs} {n = i} {ls = ls} {x = x} {pre = pre} {post = post} {us = us}
      {trees = trees} {s = s}) r names b = by_test (cases_Bool (same_path child w.path))
    where
      other : same_path child w.path ≡ false → same_path a x.who.path ≡ true → n ≡ i → ⊥
      other f g h = clash (same_path child w.path)
          (is_same child w.path (ap (λ j. a ++ j ∷ []) h ∙ (ap (λ path. path ++ i ∷ []) (same_is a x.who.path g) ∙ sym r.1.0))) f

      by_parent : same_path child w.path ≡ false → (same_path a x.who.path ≡ true) ⊎ (same_path a x.who.path ≡ false) →
          skips a n k x.who.path (gs ++ did v ∷ []) ≤ skips a n k x.who.path (gs ++ runs i ∷ [])
      by_parent f (inl g) = skips_less x.who.path (gs ++ did v ∷ []) (gs ++ runs i ∷ []) (run_end n i gs (other f g) ∙ sym (run_did n v gs))
          (λ e. run_more k i gs (sym (run_did k v gs) ∙ e))
      by_parent f (inr g) = let h = skips_off x.who.path (gs ++ did v ∷ []) g in omega (arith, h)

      by_test : (same_path child w.path ≡ true) ⊎ (same_path child w.path ≡ false) →
          Young (m.gathering kind p (gs ++ did v ∷ []) ls x pre post us trees s)
      by_test (inl f) = let h = ap one f in let g = skips_most x.who.path (gs ++ did v ∷ []) in let z =
          one_most (same_path a x.who.path) in
          omega (arith, h, g, z, b)
      by_test (inr f) = let h = by_parent f (cases_Bool (same_path a x.who.path)) in omega (arith, h, b)
  by_special (joined {up = up} {n = i} {v = v} {y = y} {k = kind} {p = p} {gs = gs} {pre = pre} {post = post} {trees = trees} {s = s} e q g)
      r names b = by_test (cases_Bool (same_path child (up ++ i ∷ [])))
    where
      rest : in_group (skips a n k) y.thread.who.path y.rest ≡ skips a n k y.thread.who.path gs
      rest = ap (in_group (skips a n k) y.thread.who.path) q

      other : same_path child (up ++ i ∷ []) ≡ false → same_path a y.thread.who.path ≡ true → n ≡ i → ⊥
      other f g h = clash (same_path child (up ++ i ∷ []))
          (is_same child (up ++ i ∷ []) (ap (λ j. a ++ j ∷ []) h ∙
          ap (λ path. path ++ i ∷ []) (same_is a y.thread.who.path g ∙ sym (same_is up y.thread.who.path e)))) f

      by_parent : same_path child (up ++ i ∷ []) ≡ false → (same_path a y.thread.who.path ≡ true) ⊎
          (same_path a y.thread.who.path ≡ false) → skips a n k y.thread.who.path (with_did i v gs) ≤ skips a n k y.thread.who.path gs
      by_parent f (inl h) = skips_less y.thread.who.path (with_did i v gs) gs (sym (with_other n i v gs (other f h))) (with_run k i v gs)
      by_parent f (inr h) = let j = skips_off y.thread.who.path (with_did i v gs) h in omega (arith, j)

      by_test : (same_path child (up ++ i ∷ []) ≡ true) ⊎ (same_path child (up ++ i ∷ []) ≡ false) →
          Young (m.gathering kind p (with_did i v gs) [] y.thread pre post [] trees s)
      by_test (inl f) = let h = ap one f in let j = skips_most y.thread.who.path (with_did i v gs) in let z =
          one_most (same_path a y.thread.who.path) in
          omega (arith, h, j, z, b)
      by_test (inr f) = let h = by_parent f (cases_Bool (same_path a y.thread.who.path)) in let j = rest in omega (arith, h, j, b)

  by_growth : {x y : Point} → Grown (has_path child) (skips a n k) x y → Railed x → ((p : List ℕ) → Named p x) → Young x → Young y
  by_growth (lessens e f) r names b = omega (arith, e, b)
  by_growth (special q) r names b = by_special q r names b

  pub young : {c : Code} {x y : Point} → Move c x y → Railed x → ((p : List ℕ) → Named p x) → Young x → Young y
  young v r names b = by_growth (grows (has_path child) (skips a n k) none v r) r names b
