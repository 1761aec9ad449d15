-- A measure of the tasks of a run that no move lets grow past its bound.
use Rattle.std.proofs.Common.{◌≡◌, ℕ, zero, suc, ◌+◌, ◌≤◌, length, List, [], ◌∷◌, ◌++◌, Option, Some, None, Bool, true, false, cond, refl}
use Rattle.std.proofs.Common.{sym}
use Rattle.std.proofs.Common.{subst, ap, ◌∙◌, arith}
use Rattle.verse_base.specs.declared.places.Place.{Place}
use Rattle.verse_code.specs.declared.codes.Code.{Code}
use Rattle.verse_value.specs.Val.{Val}
use Rattle.verse_meaning_state.specs.State.{State, stepped, at_moment, with_result, drawn, with_entry}
use Rattle.verse_meaning_state.specs.Waits.{Cause, Wait, waiting}
use Rattle.verse_meaning_state.specs.Turns.{Kind}
use Rattle.verse_code_machine.specs.Tasks.{Frame, Role, root, part, Who, Part, Rest, asleep, group, Thread, thread, Task, After, resuming}
use Rattle.verse_code_machine.specs.Tasks.{closing}
use Rattle.verse_code_machine.specs.Tasks.{finishing, Up, begins, branching, spawning, clearing, Trees, World, world, Step, Next, Over}
use Rattle.verse_code_machine.specs.Tasks.{Turn}
use Rattle.verse_code_machine.specs.Tasks.{root_named, child_named, onto, starts, since, beneath_arms}
use Rattle.verse_code_machine.specs.Cancelling.{without, inserted, gone_before, gone_behind, cancelled, world_without}
use Rattle.verse_code_machine.specs.Runs.{Forest}
use Rattle.run_save_moves.specs.Fine.{Ticks}
use Rattle.run_save_fits.specs.Held.{tasks_sum}
use Rattle.run_save_fits.specs.Held.{trees_sum as all_sum}
use Rattle.run_save_moves.specs.Moves as m
use Rattle.run_save_moves.specs.Moves.{Point, Move, Leads, ends_run, acts_next, turns_next, then_leads}

-- what a task weighs with its frames where it runs or waits for one that runs, where it is being cancelled, and where it is suspended
pub record Measure : Type 0 where
  pub live : Who → ℕ → ℕ
  pub lost : Who → ℕ → ℕ
  pub task : Task → ℕ
  -- what a task of its own weighs until its result is known, what the end of another one leaves, and what a turn adds
  pub result : Option ℕ → ℕ
  pub passes : ℕ
  pub wake : ℕ
  pub bound : State → ℕ
  -- what is used of the bound
  pub used : State → ℕ
  pub fewer : (w : Who) (k : ℕ) → live w k ≤ live w (suc k)
  pub fewer_lost : (w : Who) (k : ℕ) → lost w k ≤ lost w (suc k)
  pub passed : (w : Who) (k : ℕ) → passes ≤ live w k
  pub ticks : (s u : State) → Ticks s.clock u.clock → bound s + used u ≤ bound u + used s
  pub enters : (w : Who) (k l : ℕ) (s : State) → suc l ≡ s.clock.left →
      live w (suc k) + (bound s + used (stepped l s)) ≤ live w k + (bound (stepped l s) + used s)
  pub begins : (w : Who) (l : ℕ) (s : State) → suc l ≡ s.clock.left →
      live (child_named w l) 1 + (bound s + used (stepped l s)) ≤ (bound (stepped l s) + used s)
  pub spawns : (l : ℕ) (s : State) → suc l ≡ s.clock.left →
      live (root_named l (Some (length s.clock.results))) 1 + (bound s + used (with_entry (stepped l s))) ≤
      (bound (with_entry (stepped l s)) + used s)
  pub draws : (w : Who) (f : Frame) (fs : List Frame) (cause : Cause) (s : State) →
      task (record { thread = thread w f fs; rest = asleep (waiting cause s) }) + (bound s + used (drawn s)) ≤ live w (suc (length fs)) +
      (bound (drawn s) + used s)
  pub stands : (x : Thread) (k : Kind) (p : Place) (gs : List Part) →
      task (record { thread = x; rest = group k p gs }) ≤ live x.who (suc (length x.below))
  pub woken : (y : Task) (w : Wait) → y.rest ≡ asleep w → live y.thread.who (suc (length y.thread.below)) ≤ task y + wake
  pub joins : (y : Task) (k : Kind) (p : Place) (gs : List Part) → y.rest ≡ group k p gs →
      live y.thread.who (suc (length y.thread.below)) ≤ task y + passes
  pub dies : (w : Who) (k : ℕ) → lost w k ≤ live w k
  pub gone : (t : Task) → lost t.thread.who (suc (length t.thread.below)) ≤ task t
  pub clears : (w : Who) (k l : ℕ) (s : State) → suc l ≡ s.clock.left →
      live w k + (bound s + used (stepped l s)) ≤ lost w k + (bound (stepped l s) + used s)
  pub finishes : (w : Who) (k : ℕ) (entry : Option ℕ) → w.role ≡ root entry → result entry ≤ live w k
  pub gives : (entry : Option ℕ) (v : Val) (s : State) →
      passes + (bound s + used (with_result entry v s)) ≤ result entry + (bound (with_result entry v s) + used s)
  pub turns : (l moment : ℕ) (s : State) → suc l ≡ s.clock.left →
      wake + (bound s + used (at_moment moment (stepped l s))) ≤ (bound (at_moment moment (stepped l s)) + used s)

module _ (w : Measure) where
  abbrev pub of_thread : Thread → ℕ
  of_thread x = w.live x.who (suc (length x.below))

  abbrev pub of_tasks : List Task → ℕ
  of_tasks ts = tasks_sum w.task ts

  abbrev pub of_trees : Forest → ℕ
  of_trees tss = all_sum w.task tss

  abbrev pub of_after : After → ℕ
  of_after (resuming x v) = of_thread x
  of_after (closing x v) = w.passes
  of_after (finishing x entry v) = w.result entry

  abbrev pub of_up : Up → ℕ
  of_up (begins x k p gs n ls) = of_thread x
  of_up (branching x) = of_thread x
  of_up (spawning x entry ps qs) = of_thread x + (of_tasks ps + of_tasks qs)
  of_up (clearing a ts) = of_after a + of_tasks ts

  abbrev pub of_ups : List Up → ℕ
  of_ups [] = 0
  of_ups (u ∷ us) = of_up u + of_ups us

  abbrev pub of_others : List Task → List Task → List Up → Trees → ℕ
  of_others pre post us trees = (of_tasks pre + of_tasks post) + (of_ups us + (of_trees trees.before + of_trees trees.behind))

  abbrev pub of_world : World → ℕ
  of_world o = of_others o.pre o.post o.ups o.trees

  abbrev pub Held : Point → Type 0
  Held (m.acts k) = (w.live k.who (suc (length k.below)) + of_world k.world) + w.used k.state ≤ w.bound k.state
  Held (m.rests pre post us trees s) = (of_others pre post us trees) + w.used s ≤ w.bound s
  Held (m.gathering k p gs ls x pre post us trees s) = (of_thread x + of_others pre post us trees) + w.used s ≤ w.bound s
  Held (m.cancels a ts o s) = ((of_after a + of_tasks ts) + of_world o) + w.used s ≤ w.bound s
  Held (m.going x fs o s) = (w.lost x (length fs) + of_world o) + w.used s ≤ w.bound s
  Held (m.ended r x v o s) = (w.passes + of_world o) + w.used s ≤ w.bound s
  Held (m.climbs up n v pre post trees s) = (w.passes + of_others pre post [] trees) + w.used s ≤ w.bound s
  Held (m.wakes n v tss s) = (w.wake + of_trees tss) + w.used s ≤ w.bound s
  Held (m.turns s tss) = (of_trees tss) + w.used s ≤ w.bound s

  onto_sum : (xs ts : List Task) → of_tasks (onto xs ts) ≡ of_tasks xs + of_tasks ts
  onto_sum [] ts = omega arith
  onto_sum (x ∷ xs) ts = let h = onto_sum xs (x ∷ ts) in omega (arith, h)

  joined_sum : (xs ts : List Task) → of_tasks (xs ++ ts) ≡ of_tasks xs + of_tasks ts
  joined_sum [] ts = omega arith
  joined_sum (x ∷ xs) ts = let h = joined_sum xs ts in omega (arith, h)

  trees_sum : (xs ts : Forest) → of_trees (xs ++ ts) ≡ of_trees xs + of_trees ts
  trees_sum [] ts = omega arith
  trees_sum (x ∷ xs) ts = let h = trees_sum xs ts in omega (arith, h)

  cond_is : (b : Bool) (xs ts : List Task) (n : ℕ) → (b ≡ true → of_tasks xs ≡ n) → (b ≡ false → of_tasks ts ≡ n) →
      of_tasks (cond b xs ts) ≡ n
  cond_is true xs ts n f g = f refl
  cond_is false xs ts n f g = g refl

  inserted_sum : (t : Task) (ts : List Task) → of_tasks (inserted t ts) ≡ w.task t + of_tasks ts
  inserted_sum t [] = refl
  inserted_sum t (x ∷ xs) = let h = inserted_sum t xs in cond_is (starts t.thread.who.path x.thread.who.path) (x ∷ inserted t xs)
      (t ∷ x ∷ xs) (w.task t + (w.task x + of_tasks xs)) (λ e. omega (arith, h)) (λ e. refl)

  -- of a list of which some are taken out
  split : (f : List ℕ → Bool) (t : Task) (ts xs : List Task) (all : ℕ) → of_tasks xs + of_tasks (without f ts) ≡ all →
      (ys : List Task) → of_tasks ys ≡ w.task t + of_tasks xs → (b : Bool) →
      of_tasks (cond b ys xs) + of_tasks (cond b (without f ts) (t ∷ without f ts)) ≡ w.task t + all
  split f t ts xs all e ys g true = omega (arith, e, g)
  split f t ts xs all e ys g false = omega (arith, e)

  before_sum : (f : List ℕ → Bool) (ts : List Task) → of_tasks (gone_before f ts) + of_tasks (without f ts) ≡ of_tasks ts
  before_sum f [] = refl
  before_sum f (t ∷ ts) = split f t ts (gone_before f ts) (of_tasks ts) (before_sum f ts) (inserted t (gone_before f ts)) (inserted_sum t
      (gone_before f ts)) (f t.thread.who.path)

  behind_sum : (f : List ℕ → Bool) (ts : List Task) → of_tasks (gone_behind f ts) + of_tasks (without f ts) ≡ of_tasks ts
  behind_sum f [] = refl
  behind_sum f (t ∷ ts) = split f t ts (gone_behind f ts) (of_tasks ts) (behind_sum f ts) (t ∷ gone_behind f ts) refl (f t.thread.who.path)

  cancelled_sum : (f : List ℕ → Bool) (o : World) → of_tasks (cancelled f o) + of_world (world_without f o) ≡ of_world o
  cancelled_sum f o =
      let a = joined_sum (gone_before f o.pre) (gone_behind f o.post) in
      let b = before_sum f o.pre in
      let d = behind_sum f o.post in
      sums (of_tasks (cancelled f o)) (of_tasks (gone_before f o.pre)) (of_tasks (gone_behind f o.post)) (of_tasks (without f o.pre))
      (of_tasks (without f o.post)) (of_tasks o.pre) (of_tasks o.post) (of_ups o.ups + (of_trees o.trees.before + of_trees o.trees.behind))
      a b d
    where
      sums : (c x y p q pre post k : ℕ) → c ≡ x + y → x + p ≡ pre → y + q ≡ post → c + ((p + q) + k) ≡ (pre + post) + k
      sums c x y p q pre post k e f g = omega (arith, e, f, g)

  among_sum : (ts : List Task) (before behind : Forest) →
      of_trees (before ++ ts ∷ behind) ≡ of_tasks ts + (of_trees before + of_trees behind)
  among_sum ts before behind = let h = trees_sum before (ts ∷ behind) in omega (arith, h)

  none_more : (tss : Forest) (ts : List Task) → of_trees (tss ++ ts ∷ []) ≡ of_trees tss + of_tasks ts
  none_more tss ts = let h = trees_sum tss (ts ∷ []) in omega (arith, h)

  pub held : {c : Code} {x y : Point} → Move c x y → Held x → Held y
  held (m.stays {s = s} {u = u} h) a = let t = w.ticks s u h.ticks in omega (arith, a, t)
  held (m.drops {w = y} {fs = fs}) a = let t = w.fewer y (suc (length fs)) in omega (arith, a, t)
  held (m.enters {w = y} {s = s} {fs = fs} {l = l} e h p v) a = let t = w.enters y (suc (length fs)) l s e in omega (arith, a, t)
  held (m.suspends {w = y} {s = s} {f = f} {fs = fs} {cause = cause} i p q) a = let t = w.draws y f fs cause s in omega (arith, a, t)
  held (m.spawns {s = s} {l = l} i e h v) a = let t = w.spawns l s e in omega (arith, a, t)
  held (m.branches {w = y} {s = s} {l = l} i e) a = let t = w.begins y l s e in omega (arith, a, t)
  held (m.begins_group i p) a = a
  held (m.returns {w = y} {o = o} {f = f} {fs = fs} v) a =
      let t = w.fewer y (suc (length fs)) in let d = cancelled_sum (since y.path f.life.born) o in
      omega (arith, a, t, d)
  held (m.finishes {w = y} {o = o} {f = f} {entry = entry} r v) a =
      let t = w.finishes y 1 entry r in let d = cancelled_sum (since y.path f.life.born) o in omega (arith, a, t, d)
  held (m.ends {w = y} {o = o} {f = f} r v) a =
      let t = w.passed y 1 in let d = cancelled_sum (since y.path f.life.born) o in omega (arith, a, t, d)
  held (m.dies {w = y} {fs = fs} h) a = let t = w.dies y (suc (length fs)) in omega (arith, a, t)
  held (m.arm_begins {l = l} {x = x} {s = s} e) a = let t = w.begins x.who l s e in omega (arith, a, t)
  held (m.stands {k = k} {p = p} {gs = gs} {x = x} n) a = let t = w.stands x k p gs in omega (arith, a, t)
  held (m.gathered v) a = a
  held (m.races {gs = gs} {x = x} {pre = pre} {post = post} {us = us} {trees = trees} v) a =
      let d = cancelled_sum (beneath_arms x.who.path gs) (world pre post us trees) in omega (arith, a, d)
  held (m.rests_alone {pre = pre} {post = post} {trees = trees}) a =
      let d = among_sum (onto pre post) trees.before trees.behind in let e = onto_sum pre post in omega (arith, a, d, e)
  held m.rests_arm a = omega (arith, a)
  held m.rests_behind a = omega (arith, a)
  held (m.rests_spawned {pre = pre} {post = post} {trees = trees}) a =
      let d = none_more trees.behind (onto pre post) in let e = onto_sum pre post in omega (arith, a, d, e)
  held m.resumes a = omega (arith, a)
  held m.closes a = omega (arith, a)
  held (m.gives_result {entry = entry} {v = v} {s = s}) a = let t = w.gives entry v s in omega (arith, a, t)
  held (m.cancels_next {t = t}) a = let d = w.gone t in omega (arith, a, d)
  held m.all_gone a = omega (arith, a)
  held (m.frame_gone {w = y} {fs = fs}) a = let t = w.fewer_lost y (length fs) in omega (arith, a, t)
  held (m.frame_clears {w = y} {s = s} {fs = fs} {l = l} e d) a = let t = w.clears y (suc (length fs)) l s e in omega (arith, a, t)
  held m.ended_alone a = a
  held m.ended_arm a = omega (arith, a)
  held m.ended_behind a = omega (arith, a)
  held (m.ended_root {pre = pre} {post = post} {trees = trees}) a =
      let d = among_sum (onto pre post) trees.before trees.behind in let e = onto_sum pre post in omega (arith, a, d, e)
  held m.ended_spawned a = omega (arith, a)
  held (m.climbs_on e) a = omega (arith, a)
  held (m.joins_no_group {y = y} {pre = pre} {post = post} {trees = trees} e i) a =
      let d = among_sum (onto pre (y ∷ post)) trees.before trees.behind in let f = onto_sum pre (y ∷ post) in omega (arith, a, d, f)
  held (m.joins {y = y} {k = k} {p = p} {gs = gs} e r i) a = let t = w.joins y k p gs r in omega (arith, a, t)
  held (m.woken {before = before} {behind = behind} {pre = pre} {post = post} {y = y} {wait = wait} e r i) a =
      let t = w.woken y wait r in let f = ap of_trees e in let d = among_sum (onto pre (y ∷ post)) before behind in let g =
      onto_sum pre (y ∷ post) in
      omega (arith, a, t, f, d, g)

  abbrev pub StepHeld : Step → Type 0
  StepHeld (Next k) = (w.live k.who (suc (length k.below)) + of_world k.world) + w.used k.state ≤ w.bound k.state
  StepHeld (Over e s) = Unit {0}
  StepHeld (Turn s tss) = (of_trees tss) + w.used s ≤ w.bound s

  pub leads_held : {c : Code} {x : Point} {q : Step} → Leads c x q → Held x → StepHeld q
  leads_held ends_run a = tt
  leads_held acts_next a = a
  leads_held turns_next a = a
  leads_held (then_leads v l) a = leads_held l (held v a)
