-- What all tasks of a run weigh, where each weighs by its path and by its group.
use Rattle.std.proofs.Common.{◌≡◌, ℕ, suc, ◌+◌, ◌≤◌, length, List, [], ◌∷◌, ◌++◌, Option, Some, None, Bool, true, subst, ap}
use Rattle.std.proofs.Common.{arith}
use Rattle.verse_base.specs.declared.places.Place.{Place}
use Rattle.verse_code.specs.declared.codes.Code.{Code}
use Rattle.verse_value.specs.Val.{Val}
use Rattle.verse_meaning_state.specs.State.{State, stepped, with_result, with_entry}
use Rattle.verse_meaning_state.specs.Turns.{Kind}
use Rattle.verse_code_machine.specs.Tasks.{Frame, part, Who, Part, did, group, Thread, thread, Task, Up, begins}
use Rattle.verse_code_machine.specs.Tasks.{runs, branching, spawning, clearing, Trees, World, world, root_named, child_named, onto, since}
use Rattle.verse_code_machine.specs.Tasks.{beneath_arms, same_path}
use Rattle.verse_code_machine.specs.Cancelling.{without, cancelled}
use Rattle.verse_code_machine.specs.Ends.{is_run, with_did}
use Rattle.verse_code_machine.specs.Runs.{Forest}
use Rattle.run_save_moves.specs.Moves as m
use Rattle.run_save_moves.specs.Moves.{Point, Move, at, begun}
use Rattle.run_save_fits.specs.Held.{RoleIs, WhoIs, tasks_sum, trees_sum}
use Rattle.run_save_kept.specs.Orders.{weight}
use Rattle.run_save_kept.proofs.Sums.{onto_sum, among_sum, one_tree, cancelled_sum}
use Rattle.run_save_kept.proofs.Rails.{head, Railed}

-- how many steps are left
abbrev pub left_at : Point → ℕ
left_at (m.acts k) = k.state.clock.left
left_at (m.rests pre post us trees s) = s.clock.left
left_at (m.gathering k p gs ls x pre post us trees s) = s.clock.left
left_at (m.cancels a ts o s) = s.clock.left
left_at (m.going w fs o s) = s.clock.left
left_at (m.ended r w v o s) = s.clock.left
left_at (m.climbs up n v pre post trees s) = s.clock.left
left_at (m.wakes n v tss s) = s.clock.left
left_at (m.turns s tss) = s.clock.left

-- a task begins, or the arms of a group change
pub data Special : Point → Point → Type 0 where
  spawned : {w : Who} {o : World} {s : State} {f g : Frame} {fs : List Frame} {l place : ℕ} {ls : List Val} → suc l ≡ s.clock.left →
      Special (m.acts (at w o s f fs)) (m.acts (at (root_named l (Some (length s.clock.results)))
      (world [] [] (spawning (thread w g fs) (length s.clock.results) o.pre o.post ∷ o.ups) o.trees) (with_entry (stepped l s))
      (begun l place ls) []))
  branched : {w : Who} {o : World} {s : State} {f : Frame} {fs : List Frame} {l place : ℕ} → suc l ≡ s.clock.left →
      Special (m.acts (at w o s f fs)) (m.acts (at (child_named w l) (world o.pre o.post (branching (thread w f fs) ∷ o.ups) o.trees)
      (stepped l s) (begun l place f.locals) []))
  arm_begun : {k : Kind} {p : Place} {gs : List Part} {n l : ℕ} {ls : List ℕ} {x : Thread} {pre post : List Task} {us : List Up}
      {trees : Trees} {s : State} → suc l ≡ s.clock.left →
      Special (m.gathering k p gs (n ∷ ls) x pre post us trees s)
      (m.acts (at (child_named x.who l) (world pre post (begins x k p gs l ls ∷ us) trees) (stepped l s) (begun l n x.frame.locals) []))
  arm_ended : {w : Who} {v : Val} {k : Kind} {p : Place} {gs : List Part} {n : ℕ} {ls : List ℕ} {x : Thread} {pre post : List Task}
      {us : List Up} {trees : Trees} {s : State} →
      Special (m.ended part w v (world pre post (begins x k p gs n ls ∷ us) trees) s)
      (m.gathering k p (gs ++ did v ∷ []) ls x pre post us trees s)
  joined : {up : List ℕ} {n : ℕ} {v : Val} {y : Task} {k : Kind} {p : Place} {gs : List Part} {pre post : List Task} {trees : Trees}
      {s : State} → same_path up y.thread.who.path ≡ true → y.rest ≡ group k p gs → is_run n gs ≡ true →
      Special (m.climbs up n v pre (y ∷ post) trees s) (m.gathering k p (with_did n v gs) [] y.thread pre post [] trees s)

module _ (h : List ℕ → ℕ) (b : List ℕ → List Part → ℕ) where
  abbrev pub of_tasks : List Task → ℕ
  of_tasks ts = tasks_sum (weight h b) ts

  abbrev pub of_trees : Forest → ℕ
  of_trees tss = trees_sum (weight h b) tss

  abbrev pub of_up : Up → ℕ
  of_up (begins x k p gs n ls) = b x.who.path (gs ++ runs n ∷ []) + h x.who.path
  of_up (branching x) = h x.who.path
  of_up (spawning x entry ps qs) = h x.who.path + (of_tasks ps + of_tasks qs)
  of_up (clearing a ts) = h (head a).path + of_tasks ts

  abbrev pub of_ups : List Up → ℕ
  of_ups [] = 0
  of_ups (u ∷ us) = of_up u + of_ups us

  abbrev pub of_others : List Task → List Task → List Up → Trees → ℕ
  of_others pre post us trees = (of_tasks pre + of_tasks post) + (of_ups us + (of_trees trees.before + of_trees trees.behind))

  abbrev pub of_world : World → ℕ
  of_world o = of_others o.pre o.post o.ups o.trees

  -- what has ended weighs until it has left its parent
  abbrev pub weigh : Point → ℕ
  weigh (m.acts k) = h k.who.path + of_world k.world
  weigh (m.rests pre post us trees s) = of_others pre post us trees
  weigh (m.gathering k p gs ls x pre post us trees s) = (b x.who.path gs + h x.who.path) + of_others pre post us trees
  weigh (m.cancels a ts o s) = (h (head a).path + of_tasks ts) + of_world o
  weigh (m.going w fs o s) = h w.path + of_world o
  weigh (m.ended r w v o s) = h w.path + of_world o
  weigh (m.climbs up n v pre post trees s) = h (up ++ n ∷ []) + of_others pre post [] trees
  weigh (m.wakes n v tss s) = of_trees tss
  weigh (m.turns s tss) = of_trees tss

  pub data Grown (x y : Point) : Type 0 where
    lessens : weigh y ≤ weigh x → left_at y ≤ left_at x → Grown x y
    special : Special x y → Grown x y

  left_same : (entry : Option ℕ) (v : Val) (s : State) → (with_result entry v s).clock.left ≤ s.clock.left
  left_same None v s = omega arith
  left_same (Some e) v s = omega arith

  step_left : (l k : ℕ) → suc l ≡ k → l ≤ k
  step_left l k e = omega (arith, e)

  same : (n : ℕ) → n ≤ n
  same n = omega arith

  cancels_less : (f : List ℕ → Bool) (w : ℕ) (o : World) →
      (w + of_tasks (cancelled f o)) + of_others (without f o.pre) (without f o.post) o.ups o.trees ≤ w + of_world o
  cancels_less f w o = let e = cancelled_sum (weight h b) f o in omega (arith, e)

  part_path : (w : Who) → w.role ≡ part → WhoIs w → w.path ≡ w.up ++ w.number ∷ []
  part_path w e a = (subst (λ r. RoleIs r w) e a).0

  pub grows : (none : (path : List ℕ) → b path [] ≡ 0) → {c : Code} {x y : Point} → Move c x y → Railed x → Grown x y
  grows none (m.stays i) r = lessens (omega arith) i.ticks.left
  grows none m.drops r = lessens (omega arith) (omega arith)
  grows none (m.enters {s = s} {l = l} e i p v) r = lessens (omega arith) (step_left l s.clock.left e)
  grows none (m.suspends i p q) r = lessens (omega arith) (omega arith)
  grows none (m.spawns i e j v) r = special (spawned e)
  grows none (m.branches i e) r = special (branched e)
  grows none (m.begins_group {w = w} i p) r = let e = none w.path in lessens (omega (arith, e)) (omega arith)
  grows none (m.returns {w = w} {o = o} {f = f} v) r = lessens (cancels_less (since w.path f.life.born) (h w.path) o) (omega arith)
  grows none (m.finishes {w = w} {o = o} {f = f} i v) r = lessens (cancels_less (since w.path f.life.born) (h w.path) o) (omega arith)
  grows none (m.ends {w = w} {o = o} {f = f} i v) r = lessens (cancels_less (since w.path f.life.born) (h w.path) o) (omega arith)
  grows none (m.dies i) r = lessens (omega arith) (omega arith)
  grows none (m.arm_begins e) r = special (arm_begun e)
  grows none (m.stands n) r = lessens (omega arith) (omega arith)
  grows none (m.gathered v) r = lessens (omega arith) (omega arith)
  grows none (m.races {gs = gs} {x = x} {pre = pre} {post = post} {us = us} {trees = trees} v) r =
      let e = cancels_less (beneath_arms x.who.path gs) (h x.who.path) (world pre post us trees) in lessens (omega (arith, e)) (omega arith)
  grows none (m.rests_alone {pre = pre} {post = post} {trees = trees}) r =
      let d = among_sum (weight h b) (onto pre post) trees.before trees.behind in let e = onto_sum (weight h b) pre post in
      lessens (omega (arith, d, e)) (omega arith)
  grows none m.rests_arm r = lessens (omega arith) (omega arith)
  grows none m.rests_behind r = lessens (omega arith) (omega arith)
  grows none (m.rests_spawned {pre = pre} {post = post} {trees = trees}) r =
      let d = one_tree (weight h b) trees.behind (onto pre post) in let e = onto_sum (weight h b) pre post in
      lessens (omega (arith, d, e)) (omega arith)
  grows none m.resumes r = lessens (omega arith) (omega arith)
  grows none m.closes r = lessens (omega arith) (omega arith)
  grows none (m.gives_result {entry = entry} {v = v} {s = s}) r = lessens (omega arith) (left_same entry v s)
  grows none m.cancels_next r = lessens (omega arith) (omega arith)
  grows none m.all_gone r = lessens (omega arith) (omega arith)
  grows none m.frame_gone r = lessens (omega arith) (omega arith)
  grows none (m.frame_clears {s = s} {l = l} e d) r = lessens (omega arith) (step_left l s.clock.left e)
  grows none (m.ended_alone {w = w}) r = let e = ap h (part_path w r.0 r.1) in lessens (omega (arith, e)) (omega arith)
  grows none m.ended_arm r = special arm_ended
  grows none m.ended_behind r = lessens (omega arith) (omega arith)
  grows none (m.ended_root {pre = pre} {post = post} {trees = trees}) r =
      let d = among_sum (weight h b) (onto pre post) trees.before trees.behind in let e = onto_sum (weight h b) pre post in
      lessens (omega (arith, d, e)) (omega arith)
  grows none m.ended_spawned r = lessens (omega arith) (omega arith)
  grows none (m.climbs_on e) r = lessens (omega arith) (omega arith)
  grows none (m.joins_no_group {y = y} {pre = pre} {post = post} {trees = trees} e i) r =
      let d = among_sum (weight h b) (onto pre (y ∷ post)) trees.before trees.behind in let e = onto_sum (weight h b) pre (y ∷ post) in
      lessens (omega (arith, d, e)) (omega arith)
  grows none (m.joins e i j) r = special (joined e i j)
  grows none (m.woken {before = before} {behind = behind} {pre = pre} {post = post} {y = y} e i j) r =
      let f = ap of_trees e in let d = among_sum (weight h b) (onto pre (y ∷ post)) before behind in let g =
      onto_sum (weight h b) pre (y ∷ post) in
      lessens (omega (arith, f, d, g)) (omega arith)
