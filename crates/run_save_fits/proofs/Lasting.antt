-- An entry that runs has its task in every state of a run.
use Rattle.std.proofs.Common.{◌≡◌, ℕ, zero, suc, ◌+◌, ◌≤◌, length, List, [], ◌∷◌, ◌++◌, Option, Some, None, Bool, true, false, cond, refl}
use Rattle.std.proofs.Common.{sym, subst}
use Rattle.std.proofs.Common.{ap, ◌∙◌, arith, ◌⊎◌}
use mathlib.Core.Logic.{inl, inr}
use Rattle.verse_code.specs.declared.codes.Code.{Code}
use Rattle.verse_value.specs.Val.{Val}
use Rattle.verse_meaning_state.specs.State.{State, Given, with_result, set_at}
use Rattle.verse_meaning_state.specs.Waits.{waiting, eqn, nth}
use Rattle.verse_code_machine.specs.Tasks.{Frame, Role, root, part, Who, Part, did, runs, asleep, group, Thread, thread, Task, After}
use Rattle.verse_code_machine.specs.Tasks.{resuming, closing, finishing}
use Rattle.verse_code_machine.specs.Tasks.{Up, begins, branching, spawning, clearing, Trees, World, world, onto, starts, since}
use Rattle.verse_code_machine.specs.Tasks.{beneath_arms}
use Rattle.verse_code_machine.specs.Cancelling.{without, world_without}
use Rattle.verse_code_machine.specs.Runs.{Forest}
use Rattle.run_save_shots.specs.Lists.{Each}
use Rattle.verse_base.specs.declared.limits.TheConstants.{MOST_NOW}
use Rattle.run_save_moves.specs.Moves as m
use Rattle.run_save_moves.specs.Moves.{Point, Move}
use Rattle.run_save_fits.specs.Held as d
use Rattle.run_save_fits.specs.Held.{IsSome, RoleIs, WhoIs, is_task_of, unfinished, one, tasks_sum, trees_sum}
use Rattle.run_save_fits.proofs.Holding as h
use Rattle.run_save_fits.proofs.Holding.{role_some}

-- ---- a task of its own is never cancelled

pub none_starts : (a : List ℕ) (n : ℕ) → starts (a ++ n ∷ []) [] ≡ false
none_starts [] n = refl
none_starts (x ∷ a) n = refl

pub none_since : (a : List ℕ) (b : ℕ) → since a b [] ≡ false
none_since [] b = refl
none_since (x ∷ a) b = refl

cond_false : (b c : Bool) → c ≡ false → cond b c false ≡ false
cond_false true c e = e
cond_false false c e = refl

since_root : (a : List ℕ) (b n : ℕ) → IsSome a → since a b (n ∷ []) ≡ false
since_root [] b n s = absurd s
since_root (i ∷ a) b n s = cond_false (eqn i n) (since a b []) (none_since a b)

cond_rest : (b c : Bool) → b ≡ false → c ≡ false → cond b true c ≡ false
cond_rest true c e f = absurd (cc)
cond_rest false c e f = f

start_root : (a : List ℕ) (i n : ℕ) → IsSome a → starts (a ++ i ∷ []) (n ∷ []) ≡ false
start_root [] i n s = absurd s
start_root (j ∷ a) i n s = cond_false (eqn j n) (starts (a ++ i ∷ []) []) (none_starts a i)

arms_root : (a : List ℕ) (gs : List Part) (n : ℕ) → IsSome a → beneath_arms a gs (n ∷ []) ≡ false
arms_root a [] n s = refl
arms_root a (did v ∷ gs) n s = arms_root a gs n s
arms_root a (runs i ∷ gs) n s = cond_rest (starts (a ++ i ∷ []) (n ∷ [])) (beneath_arms a gs (n ∷ [])) (start_root a i n s)
    (arms_root a gs n s)

-- ---- results

given_less : (e d : ℕ) (rs : List (Option Given)) (g : Given) → (unfinished (nth (set_at rs d (Some g)) e) ≡ 0) ⊎
    ((unfinished (nth (set_at rs d (Some g)) e) ≡ unfinished (nth rs e)) × (one (eqn e d) ≡ 0))
given_less e d [] g = inl refl
given_less zero zero (r ∷ rs) g = inl refl
given_less (suc e) zero (r ∷ rs) g = inr (refl, refl)
given_less zero (suc d) (r ∷ rs) g = inr (refl, refl)
given_less (suc e) (suc d) (r ∷ rs) g = given_less e d rs g

entry_new : (e : ℕ) (rs : List (Option Given)) → unfinished (nth (rs ++ None ∷ []) e) ≤ one (eqn e (length rs)) + unfinished (nth rs e)
entry_new zero [] = omega arith
entry_new (suc e) [] = omega arith
entry_new zero (r ∷ rs) = omega arith
entry_new (suc e) (r ∷ rs) = entry_new e rs

module _ (e : ℕ) where
  abbrev pub own : Who → ℕ
  own w = is_task_of e w.role

  abbrev pub of_tasks : List Task → ℕ
  of_tasks ts = tasks_sum (λ (t : Task). is_task_of e t.thread.who.role) ts

  abbrev pub of_trees : Forest → ℕ
  of_trees tss = trees_sum (λ (t : Task). is_task_of e t.thread.who.role) tss

  -- of a task that runs; where it is being cancelled it counts no more
  abbrev pub now : Who → List Up → ℕ
  now w [] = own w
  now w (begins x k p gs n ls ∷ us) = own w
  now w (branching x ∷ us) = own w
  now w (spawning x i ps qs ∷ us) = own w
  now w (clearing a ts ∷ us) = 0

  abbrev pub of_after : After → List Up → ℕ
  of_after (resuming x v) us = now x.who us
  of_after (closing w v) us = 0
  of_after (finishing w entry v) us = is_task_of e (root entry)

  abbrev pub of_up : Up → List Up → ℕ
  of_up (begins x k p gs n ls) us = now x.who us
  of_up (branching x) us = now x.who us
  of_up (spawning x i ps qs) us = now x.who us + (of_tasks ps + of_tasks qs)
  of_up (clearing a ts) us = of_after a us

  abbrev pub of_ups : List Up → ℕ
  of_ups [] = 0
  of_ups (u ∷ us) = of_up u us + of_ups us

  abbrev pub of_others : List Task → List Task → List Up → Trees → ℕ
  of_others pre post us trees = (of_tasks pre + of_tasks post) + (of_ups us + (of_trees trees.before + of_trees trees.behind))

  abbrev pub of_world : World → ℕ
  of_world o = of_others o.pre o.post o.ups o.trees

  abbrev pub still_open : State → ℕ
  still_open s = unfinished (nth s.clock.results e)

  abbrev pub Lasts : Point → Type 0
  Lasts (m.acts k) = still_open k.state ≤ now k.who k.world.ups + of_world k.world
  Lasts (m.rests pre post us trees s) = still_open s ≤ of_others pre post us trees
  Lasts (m.gathering k p gs ls x pre post us trees s) = still_open s ≤ now x.who us + of_others pre post us trees
  Lasts (m.cancels a ts o s) = still_open s ≤ of_after a o.ups + of_world o
  Lasts (m.going x fs o s) = still_open s ≤ now x o.ups + of_world o
  Lasts (m.ended r x v o s) = still_open s ≤ of_world o
  Lasts (m.climbs up n v pre post trees s) = still_open s ≤ of_others pre post [] trees
  Lasts (m.wakes n v tss s) = still_open s ≤ of_trees tss
  Lasts (m.turns s tss) = still_open s ≤ of_trees tss

  -- ---- the trees of tasks that spawn

  -- what waits for a task, where an arm or a task behind is no task of its own
  abbrev pub Under : Who → List Up → Type 0
  Under w [] = Unit {0}
  Under w (begins x k p gs n ls ∷ us) = (own w ≡ 0) × Under x.who us
  Under w (branching x ∷ us) = (own w ≡ 0) × Under x.who us
  Under w (spawning x i ps qs ∷ us) = Under x.who us
  Under w (clearing (resuming x v) ts ∷ us) = Under x.who us
  Under w (clearing (closing y v) ts ∷ us) = Under y us
  Under w (clearing (finishing y entry v) ts ∷ us) = Under y us

  abbrev pub UnderAfter : After → List Up → Type 0
  UnderAfter (resuming x v) us = Under x.who us
  UnderAfter (closing y v) us = Under y us
  UnderAfter (finishing y entry v) us = Under y us

  abbrev pub UnderUps : List Up → Type 0
  UnderUps [] = Unit {0}
  UnderUps (begins x k p gs n ls ∷ us) = Under x.who us
  UnderUps (branching x ∷ us) = Under x.who us
  UnderUps (spawning x i ps qs ∷ us) = Under x.who us
  UnderUps (clearing a ts ∷ us) = UnderAfter a us

  -- beside a task that was spawned stands no task of its own
  abbrev pub Layers : List Task → List Task → List Up → Type 0
  Layers pre post [] = Unit {0}
  Layers pre post (begins x k p gs n ls ∷ us) = Layers pre post us
  Layers pre post (branching x ∷ us) = Layers pre post us
  Layers pre post (spawning x i ps qs ∷ us) = (of_tasks pre + of_tasks post ≡ 0) × Layers ps qs us
  Layers pre post (clearing a ts ∷ us) = Layers pre post us

  abbrev pub LayersBelow : List Task → List Task → List Up → Type 0
  LayersBelow pre post [] = Unit {0}
  LayersBelow pre post (begins x k p gs n ls ∷ us) = Layers pre post us
  LayersBelow pre post (branching x ∷ us) = Layers pre post us
  LayersBelow pre post (spawning x i ps qs ∷ us) = Layers ps qs us
  LayersBelow pre post (clearing a ts ∷ us) = Unit {0}

  abbrev pub Layered : Point → Type 0
  Layered (m.acts k) = Under k.who k.world.ups × Layers k.world.pre k.world.post k.world.ups
  Layered (m.rests pre post us trees s) = UnderUps us × LayersBelow pre post us
  Layered (m.gathering k p gs ls x pre post us trees s) = Under x.who us × Layers pre post us
  Layered (m.cancels a ts o s) = UnderAfter a o.ups × Layers o.pre o.post o.ups
  Layered (m.going x fs o s) = Under x o.ups × Layers o.pre o.post o.ups
  Layered (m.ended r x v o s) = Under x o.ups × Layers o.pre o.post o.ups
  Layered (m.climbs up n v pre post trees s) = Unit {0}
  Layered (m.wakes n v tss s) = Unit {0}
  Layered (m.turns s tss) = Unit {0}

  under_after : (a : After) (ts : List Task) (w : Who) (us : List Up) → Under w (clearing a ts ∷ us) → UnderAfter a us
  under_after (resuming x v) ts w us a = a
  under_after (closing y v) ts w us a = a
  under_after (finishing y entry v) ts w us a = a

  after_under : (a : After) (ts : List Task) (w : Who) (us : List Up) → UnderAfter a us → Under w (clearing a ts ∷ us)
  after_under (resuming x v) ts w us a = a
  after_under (closing y v) ts w us a = a
  after_under (finishing y entry v) ts w us a = a

  under_ups : (w : Who) (us : List Up) → Under w us → UnderUps us
  under_ups w [] a = tt
  under_ups w (begins x k p gs n ls ∷ us) a = a.1
  under_ups w (branching x ∷ us) a = a.1
  under_ups w (spawning x i ps qs ∷ us) a = a
  under_ups w (clearing b ts ∷ us) a = under_after b ts w us a

  layers_more : (t : Task) (pre post : List Task) (us : List Up) → is_task_of e t.thread.who.role ≡ 0 → Layers pre post us →
      Layers (t ∷ pre) post us
  layers_more t pre post [] z a = tt
  layers_more t pre post (begins x k p gs n ls ∷ us) z a = layers_more t pre post us z a
  layers_more t pre post (branching x ∷ us) z a = layers_more t pre post us z a
  layers_more t pre post (spawning x i ps qs ∷ us) z a = let b = a.0 in (omega (arith, b, z), a.1)
  layers_more t pre post (clearing b ts ∷ us) z a = layers_more t pre post us z a

  fewer : (f : List ℕ → Bool) (ts : List Task) → of_tasks (without f ts) ≤ of_tasks ts
  fewer f [] = omega arith
  fewer f (t ∷ ts) = two (f t.thread.who.path) (without f ts) (fewer f ts)
    where
      two : (b : Bool) (us : List Task) → of_tasks us ≤ of_tasks ts →
          of_tasks (cond b us (t ∷ us)) ≤ is_task_of e t.thread.who.role + of_tasks ts
      two true us h = omega (arith, h)
      two false us h = omega (arith, h)

  layers_without : (f : List ℕ → Bool) (pre post : List Task) (us : List Up) → Layers pre post us →
      Layers (without f pre) (without f post) us
  layers_without f pre post [] a = tt
  layers_without f pre post (begins x k p gs n ls ∷ us) a = layers_without f pre post us a
  layers_without f pre post (branching x ∷ us) a = layers_without f pre post us a
  layers_without f pre post (spawning x i ps qs ∷ us) a = let b = a.0 in let g = fewer f pre in let i =
      fewer f post in (omega (arith, b, g, i), a.1)
  layers_without f pre post (clearing b ts ∷ us) a = layers_without f pre post us a

  -- a task that ran, or began a group, stands among the others
  layers_stand : (t : Task) (pre post : List Task) (us : List Up) → Under t.thread.who us → Layers pre post us →
      LayersBelow (t ∷ pre) post us
  layers_stand t pre post [] u a = tt
  layers_stand t pre post (begins x k p gs n ls ∷ us) u a = layers_more t pre post us u.0 a
  layers_stand t pre post (branching x ∷ us) u a = layers_more t pre post us u.0 a
  layers_stand t pre post (spawning x i ps qs ∷ us) u a = a.1
  layers_stand t pre post (clearing b ts ∷ us) u a = tt

  pub layered : {c : Code} {x y : Point} → Move c x y → Layered x → Layered y
  layered (m.stays i) a = a
  layered m.drops a = a
  layered (m.enters i j p v) a = a
  layered (m.suspends {w = w} {o = o} {s = s} {f = f} {fs = fs} {cause = cause} i p q) a = (
    under_ups w o.ups a.0,
    layers_stand (record { thread = thread w f fs; rest = asleep (waiting cause s) }) o.pre o.post o.ups a.0 a.1,
  )
  layered (m.spawns i j g v) a = (a.0, (omega arith, a.1))
  layered (m.branches i j) a = ((refl, a.0), a.1)
  layered (m.begins_group i p) a = a
  layered (m.returns {w = w} {o = o} {f = f} v) a = (a.0, layers_without (since w.path f.life.born) o.pre o.post o.ups a.1)
  layered (m.finishes {w = w} {o = o} {f = f} r v) a = (a.0, layers_without (since w.path f.life.born) o.pre o.post o.ups a.1)
  layered (m.ends {w = w} {o = o} {f = f} r v) a = (a.0, layers_without (since w.path f.life.born) o.pre o.post o.ups a.1)
  layered (m.dies i) a = a
  layered (m.arm_begins i) a = ((refl, a.0), a.1)
  layered (m.stands {k = k} {p = p} {gs = gs} {x = x} {pre = pre} {post = post} {us = us} n) a =
      (under_ups x.who us a.0, layers_stand (record { thread = x; rest = group k p gs }) pre post us a.0 a.1)
  layered (m.gathered v) a = a
  layered (m.races {gs = gs} {x = x} {pre = pre} {post = post} {us = us} v) a =
      (a.0, layers_without (beneath_arms x.who.path gs) pre post us a.1)
  layered m.rests_alone a = tt
  layered m.rests_arm a = a
  layered m.rests_behind a = a
  layered m.rests_spawned a = a
  layered m.resumes a = a
  layered m.closes a = a
  layered m.gives_result a = a
  layered (m.cancels_next {a = b} {t = t} {ts = ts} {o = o}) a = (after_under b ts t.thread.who o.ups a.0, a.1)
  layered (m.all_gone {w = w} {a = b} {ts = ts} {us = us}) a = (under_after b ts w us a.0, a.1)
  layered m.frame_gone a = a
  layered (m.frame_clears i g) a = a
  layered m.ended_alone a = tt
  layered m.ended_arm a = (a.0.1, a.1)
  layered m.ended_behind a = (a.0.1, a.1)
  layered m.ended_root a = tt
  layered m.ended_spawned a = (a.0, a.1.1)
  layered (m.climbs_on i) a = tt
  layered (m.joins_no_group i j) a = tt
  layered (m.joins i r j) a = (tt, tt)
  layered (m.woken i r j) a = (tt, tt)

  now_own : (w : Who) (us : List Up) → now w us ≤ own w
  now_own w [] = omega arith
  now_own w (begins x k p gs n ls ∷ us) = omega arith
  now_own w (branching x ∷ us) = omega arith
  now_own w (spawning x i ps qs ∷ us) = omega arith
  now_own w (clearing a ts ∷ us) = omega arith

  onto_sum : (xs ts : List Task) → of_tasks (onto xs ts) ≡ of_tasks xs + of_tasks ts
  onto_sum [] ts = omega arith
  onto_sum (x ∷ xs) ts = let a = onto_sum xs (x ∷ ts) in omega (arith, a)

  trees_join : (xs ts : Forest) → of_trees (xs ++ ts) ≡ of_trees xs + of_trees ts
  trees_join [] ts = omega arith
  trees_join (x ∷ xs) ts = let a = trees_join xs ts in omega (arith, a)

  among_sum : (ts : List Task) (before behind : Forest) →
      of_trees (before ++ ts ∷ behind) ≡ of_tasks ts + (of_trees before + of_trees behind)
  among_sum ts before behind = let a = trees_join before (ts ∷ behind) in omega (arith, a)

  one_tree : (tss : Forest) (ts : List Task) → of_trees (tss ++ ts ∷ []) ≡ of_trees tss + of_tasks ts
  one_tree tss ts = let a = trees_join tss (ts ∷ []) in omega (arith, a)

  module _ (f : List ℕ → Bool) (roots : (n : ℕ) → f (n ∷ []) ≡ false) where
    light : (r : Role) (w : Who) → RoleIs r w → f w.path ≡ true → is_task_of e r ≡ 0
    light (root entry) w a g = absurd (no (f w.path) g (ap f a.1 ∙ roots w.number))
      where
        no : (b : Bool) → b ≡ true → b ≡ false → ⊥
        no true i j = cc
        no false i j = cc
    light part w a g = refl

    stays_sum : (b : Bool) (n : ℕ) (t : Task) (ts us : List Task) → (b ≡ true → is_task_of e t.thread.who.role ≡ 0) → of_tasks us ≡ n →
        of_tasks (cond b us (t ∷ us)) ≡ is_task_of e t.thread.who.role + n
    stays_sum true n t ts us g i = let a = g refl in omega (arith, a, i)
    stays_sum false n t ts us g i = omega (arith, i)

    without_sum : (ts : List Task) → Each (λ (t : Task). WhoIs t.thread.who) ts → of_tasks (without f ts) ≡ of_tasks ts
    without_sum [] a = refl
    without_sum (t ∷ ts) a = stays_sum (f t.thread.who.path) (of_tasks ts) t ts (without f ts) (light t.thread.who.role t.thread.who a.0)
        (without_sum ts a.1)

    world_sum : (o : World) → Each (λ (t : Task). WhoIs t.thread.who) o.pre → Each (λ (t : Task). WhoIs t.thread.who) o.post →
        of_world (world_without f o) ≡ of_world o
    world_sum o a b = let i = without_sum o.pre a in let j = without_sum o.post b in omega (arith, i, j)

  result_less : (entry : Option ℕ) (v : Val) (s : State) (n : ℕ) → still_open s ≤ is_task_of e (root entry) + n →
      still_open (with_result entry v s) ≤ n
  result_less None v s n a = omega (arith, a)
  result_less (Some i) v s n a = by_case (given_less e i s.clock.results (record { value = v; moment = s.clock.now }))
    where
      by_case : (unfinished (nth (set_at s.clock.results i (Some (record { value = v; moment = s.clock.now }))) e) ≡ 0) ⊎
          ((unfinished (nth (set_at s.clock.results i (Some (record { value = v; moment = s.clock.now }))) e) ≡
          unfinished (nth s.clock.results e)) × (one (eqn e i) ≡ 0)) →
          unfinished (nth (set_at s.clock.results i (Some (record { value = v; moment = s.clock.now }))) e) ≤ n
      by_case (inl b) = omega (arith, b)
      by_case (inr b) = let p = b.0 in let q = b.1 in omega (arith, p, q, a)

  module _ (c : Code) (until : ℕ) (short : until ≤ MOST_NOW) where
    names : (z : _) (n : ℕ) (ts : List Task) → d.TasksFine c z n ts → Each (λ (t : Task). WhoIs t.thread.who) ts
    names z n [] a = tt
    names z n (t ∷ ts) a = (a.0.still.named, names z n ts a.1)

    since_sum : (w : Who) (b : ℕ) (o : World) (z : _) (n : ℕ) → WhoIs w → d.WorldFine c z n o →
        of_world (world_without (since w.path b) o) ≡ of_world o
    since_sum w b o z n a i = world_sum (since w.path b) (λ j. since_root w.path b j (role_some w.role w a)) o (names z n o.pre i.pre_fine)
        (names z n o.post i.post_fine)

    pub lasts : {x y : Point} → Move c x y → h.Held c until short x → Layered x → Lasts x → Lasts y
    lasts (m.stays {w = w} {o = o} {s = s} {u = u} i) k lay a = let b =
        ap (λ rs. unfinished (nth rs e)) i.ticks.results in omega (arith, a, b)
    lasts m.drops k lay a = a
    lasts (m.enters i j p v) k lay a = a
    lasts (m.suspends {w = w} {o = o} i p q) k lay a = let b = now_own w o.ups in omega (arith, a, b)
    lasts (m.spawns {w = w} {o = o} {s = s} i j g v) k lay a = let b = entry_new e s.clock.results in omega (arith, a, b)
    lasts (m.branches i j) k lay a = omega (arith, a)
    lasts (m.begins_group i p) k lay a = a
    lasts (m.returns {w = w} {o = o} {s = s} {f = f} v) k lay a = let b =
        since_sum w f.life.born o k.0 s.clock.next k.1.1.named k.1.2 in omega (arith, a, b)
    lasts (m.finishes {w = w} {o = o} {s = s} {f = f} {entry = entry} r v) k lay a = let b =
        since_sum w f.life.born o k.0 s.clock.next k.1.1.named k.1.2 in
        let g = now_own w o.ups in let i = ap (is_task_of e) r in omega (arith, a, b, g, i)
    lasts (m.ends {w = w} {o = o} {s = s} {f = f} r v) k lay a = let b = since_sum w f.life.born o k.0 s.clock.next k.1.1.named k.1.2 in
        let g = now_own w o.ups in let i = ap (is_task_of e) r in omega (arith, a, b, g, i)
    lasts (m.dies i) k lay a = a
    lasts (m.arm_begins i) k lay a = omega (arith, a)
    lasts (m.stands {x = x} {us = us} n) k lay a = let b = now_own x.who us in omega (arith, a, b)
    lasts (m.gathered v) k lay a = a
    lasts (m.races {gs = gs} {x = x} {pre = pre} {post = post} {us = us} {trees = trees} {s = s} v) k lay a =
        let b = world_sum (beneath_arms x.who.path gs) (λ j. arms_root x.who.path gs j (role_some x.who.role x.who k.1.1.still.named))
        (world pre post us trees)
        (names k.0 s.clock.next pre k.1.2.pre_fine) (names k.0 s.clock.next post k.1.2.post_fine) in omega (arith, a, b)
    lasts (m.rests_alone {pre = pre} {post = post} {trees = trees}) k lay a =
        let b = among_sum (onto pre post) trees.before trees.behind in let i = onto_sum pre post in omega (arith, a, b, i)
    lasts m.rests_arm k lay a = omega (arith, a)
    lasts m.rests_behind k lay a = omega (arith, a)
    lasts (m.rests_spawned {pre = pre} {post = post} {trees = trees}) k lay a =
        let b = one_tree trees.behind (onto pre post) in let i = onto_sum pre post in omega (arith, a, b, i)
    lasts m.resumes k lay a = a
    lasts m.closes k lay a = omega (arith, a)
    lasts (m.gives_result {entry = entry} {v = v} {o = o} {s = s}) k lay a = result_less entry v s (of_world o) a
    lasts m.cancels_next k lay a = omega (arith, a)
    lasts m.all_gone k lay a = omega (arith, a)
    lasts m.frame_gone k lay a = a
    lasts (m.frame_clears i g) k lay a = a
    lasts m.ended_alone k lay a = a
    lasts m.ended_arm k lay a = omega (arith, a)
    lasts m.ended_behind k lay a = omega (arith, a)
    lasts (m.ended_root {pre = pre} {post = post} {trees = trees}) k lay a =
        let b = among_sum (onto pre post) trees.before trees.behind in let i = onto_sum pre post in omega (arith, a, b, i)
    lasts m.ended_spawned k lay a = let b = lay.1.0 in omega (arith, a, b)
    lasts (m.climbs_on i) k lay a = omega (arith, a)
    lasts (m.joins_no_group {y = y} {pre = pre} {post = post} {trees = trees} i j) k lay a =
        let b = among_sum (onto pre (y ∷ post)) trees.before trees.behind in let g = onto_sum pre (y ∷ post) in omega (arith, a, b, g)
    lasts (m.joins i r j) k lay a = omega (arith, a)
    lasts (m.woken {before = before} {behind = behind} {pre = pre} {post = post} {y = y} i r j) k lay a =
        let b = ap of_trees i in let g = among_sum (onto pre (y ∷ post)) before behind in let l =
        onto_sum pre (y ∷ post) in omega (arith, a, b, g, l)
