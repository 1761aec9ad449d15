-- The trees that are spelled are those that are kept, with other numbers in the same order.
use Rattle.std.proofs.Common.{◌≡◌, ℕ, zero, suc, ◌+◌, ◌≤◌, ◌<◌, length, map, List, [], ◌∷◌, ◌++◌, Option, Some, None}
use Rattle.std.proofs.Common.{Bool, true, false, cond, refl, sym, subst, ap, ◌∙◌}
use Rattle.std.proofs.Common.{arith, option_map, ◌*◌, append-nil}
use mathlib.Core.Logic.{inl, inr}
use Rattle.std.proofs.lemmas.Option.{same_Some}
use Rattle.task_tree.specs.Tasks.{is_child}
use Rattle.verse_code.specs.declared.codes.Code.{Code}
use Rattle.verse_meaning_state.specs.State.{State}
use Rattle.verse_meaning_state.specs.Waits.{nth}
use Rattle.verse_code_machine.specs.Tasks.{Frame, Part, did, runs, Rest, asleep, group, Task}
use Rattle.verse_code_machine.specs.Runs.{Forest}
use Rattle.verse_code_machine_parents.specs.Parents.{whos, Rooted, Still}
use Rattle.verse_code_machine_saved.specs.Numbers.{Pairs}
use Rattle.verse_code_machine_saved.specs.Pairing.{Entry, pairs_at, path_at, AreDistinct, IsPair, PathsPaired}
use Rattle.verse_code_machine_saved.specs.Pairing.{WhoPaired, FramePaired, FramesPaired}
use Rattle.verse_code_machine_saved.specs.Pairing.{PartsPaired, RestPaired, TaskPaired, TasksPaired, TreesPaired}
use Rattle.verse_code_machine_saved.specs.Pairing.{TablePairs}
use Rattle.run_save_shots.specs.Lists.{Each, EachAt, EachTwo, Reordered, count, from}
use Rattle.run_save_shots.specs.Kept.{KeptTask, Kept}
use Rattle.run_save_shots.specs.Fitting as fit
use Rattle.run_save_shots.specs.Fitting.{Stand, gathers, task_stand, is_arm_of, ArmsRun, ParentBefore, unfinished}
use Rattle.run_save_shots.specs.Keeping as kp
use Rattle.run_save_shots.specs.Keeping.{walk, kept, place_of}
use Rattle.run_save_shots.specs.Naming.{arm_at}
use Rattle.run_save_shots.specs.Spelling as sp
use Rattle.run_save_shots.specs.Spelling.{state, trees, grown, parts_from, gathered}
use Rattle.run_save_fits.specs.Held.{IsSome, LowerStill, TaskFine, tasks_sum, trees_sum}
use Rattle.run_save_fits.proofs.KeptOrder.{walk_well, parents_fit}
use Rattle.run_save_kept.specs.Orders.{is_named, awaits, Orderly}
use Rattle.run_save_kept.specs.Growing.{filled}
use Rattle.run_save_kept.proofs.Siblings.{Older, Named, HasOwn, trees_names, walk_each, walk_sum, walk_older}
use Rattle.run_save_kept.proofs.Arms.{placed, found, arms_fit, member_at}
use Rattle.run_save_kept.proofs.Grown.{trees_again}
use Rattle.run_save_births.specs.Births.{births, births_of, NoChild, IsBorn}
use Rattle.run_save_groups.specs.Arms as arms
use Rattle.run_save_groups.specs.Arms.{TaskIs}
use Rattle.run_save_same.specs.Alike.{FrameAlike, FramesAlike, RestAlike}
use Rattle.run_save_same.proofs.Pairs.{EachPair, grown_pair}
use Rattle.run_save_same.proofs.Spelled.{Fact, At, tests, spelled, again, names, unique, apart, given, pairs, rooted}
use Rattle.run_save_same.proofs.Spelled.{rooted_trees, still}
use Rattle.run_save_fits.proofs.KeptTasks.{no_place}
use Rattle.run_save_fits.specs.Held.{RoleIs}
use Rattle.run_save_kept.specs.Orders.{last}
use Rattle.run_save_orders.specs.Roots.{AreApart, SameButRoots, TableSorts}
use Rattle.verse_code_machine.specs.Tasks.{Role, root, part, Who}
use Rattle.verse_code_machine_parents.specs.Parents.{TreesRooted}
use Rattle.verse_code_machine_saved.specs.Numbers.{NoneBelow}
use Rattle.run_save_fits.proofs.KeptAll.{reordered_each, reordered_sum}
use Rattle.run_save_same.specs.Laws.{Held, SpelledTreesAreTheSame}
use Rattle.run_save_same.proofs.Sorting.{In, has_in, sorted_in, in_front, in_back, none_below}
use Rattle.run_save_same.proofs.Spelt.{kept_of, number_of, number_is, Spelt, all_spelt}
use Rattle.run_save_same.proofs.Depths.{lowest, frames_of}
use Rattle.run_save_same.proofs.Aligning.{from_map, is_its, zipped, children, Kid, children_apart, children_from}
use Rattle.run_save_same.proofs.Aligning.{made_last, number_falls}
use Rattle.run_save_same.proofs.Table.{is_own, pairs_of, entries, table, table_distinct, names_apart, AllFacts}
use Rattle.run_save_same.proofs.Table.{entries_ordered, Here, here_at}
use Rattle.run_save_same.proofs.Table.{child_in, first_in}
use Rattle.run_save_same.proofs.Known.{none_some, each_of, weighs, kept_at, who_path, Low}
use Rattle.run_save_same.proofs.Known.{rooted_low, its_place, place_its, no_up}
use Rattle.run_save_same.proofs.Known.{falls_of, roots_differ, kid_of, arm_its, arm_runs, some_path}
use Rattle.run_save_same.proofs.Rooted.{lowest_last, still_alike, Matched, Over, trees_rooted_pair}

-- ---- pairs by their places

pair_at : (P : Task → Task → Type 0) (xs vs : List Task) (i : ℕ) (y u : Task) → EachPair P xs vs → nth xs i ≡ Some y →
    nth vs i ≡ Some u → P y u
pair_at P [] [] i y u a e f = none_some e
pair_at P [] (v ∷ vs) i y u a e f = none_some e
pair_at P (x ∷ xs) [] i y u a e f = none_some f
pair_at P (x ∷ xs) (v ∷ vs) zero y u a e f = subst (λ t. P t u) (same_Some _ _ e) (subst (P x) (same_Some _ _ f) a.0)
pair_at P (x ∷ xs) (v ∷ vs) (suc i) y u a e f = pair_at P xs vs i y u a.1 e f

pairs_as : (P Q : Task → Task → Type 0) → ((y u : Task) → P y u → Q y u) → (xs vs : List Task) → EachPair P xs vs →
    EachPair Q xs vs
pairs_as P Q f [] [] a = tt
pairs_as P Q f [] (v ∷ vs) a = absurd a
pairs_as P Q f (x ∷ xs) [] a = absurd a
pairs_as P Q f (x ∷ xs) (v ∷ vs) a = (f x v a.0, pairs_as P Q f xs vs a.1)

-- ---- paths

app_more : (a : List ℕ) (n : ℕ) (x : List ℕ) → a ++ n ∷ x ≡ (a ++ n ∷ []) ++ x
app_more [] n x = refl
app_more (b ∷ a) n x = ap (λ y. b ∷ y) (app_more a n x)

module _ (f : List ℕ → Pairs) (first : List ℕ → List ℕ) where
  -- one number more
  paths_end : (a b x y : List ℕ) (n m : ℕ) → PathsPaired f first a b x y → IsPair f first (a ++ x) (b ++ y) n m →
      PathsPaired f first a b (x ++ n ∷ []) (y ++ m ∷ [])
  paths_end a b [] [] n m h p = (
    subst (λ c. IsPair f first c b n m) (append-nil a) (subst (λ d. IsPair f first (a ++ []) d n m) (append-nil b) p),
    tt,
  )
  paths_end a b [] (j ∷ y) n m h p = absurd h
  paths_end a b (i ∷ x) [] n m h p = absurd h
  paths_end a b (i ∷ x) (j ∷ y) n m h p = (
    h.0,
    paths_end (a ++ i ∷ []) (b ++ j ∷ []) x y n m h.1
        (subst (λ c. IsPair f first c ((b ++ j ∷ []) ++ y) n m) (app_more a i x) (subst (λ d. IsPair f first
        (a ++ i ∷ x) d n m) (app_more b j y) p)),
  )

  -- frames of a suspended task
  frame_paired : (a b : List ℕ) (g h : Frame) → FrameAlike g h → g.handlers ≡ [] →
      IsPair f first a b g.life.born h.life.born → FramePaired f first a b g h
  frame_paired a b g h l e p = record {
    born = p;
    defers = l.defers;
    noted = l.noted;
    locals = l.locals;
    stack = l.stack;
    place = l.place;
    bare = e;
    other_bare = sym l.handlers ∙ e;
  }

  frames_paired : (a b : List ℕ) (gs hs : List Frame) → FramesAlike gs hs → Each (λ (g : Frame). g.handlers ≡ []) gs →
      ((p : ℕ × ℕ) → In p (zipped (births gs) (births hs)) → IsPair f first a b p.0 p.1) →
      FramesPaired f first a b gs hs
  frames_paired a b [] [] l e p = tt
  frames_paired a b [] (h ∷ hs) l e p = absurd l
  frames_paired a b (g ∷ gs) [] l e p = absurd l
  frames_paired a b (g ∷ gs) (h ∷ hs) l e p = (
    frame_paired a b g h l.0 e.0 (p (g.life.born, h.life.born) (inl refl)),
    frames_paired a b gs hs l.1 e.1 (λ q i. p q (inr i)),
  )

-- ---- the arms of a group

pub bare_frames : (c : Code) (n : ℕ) (fs : List Frame) → Each (LowerStill c n) fs → Each (λ (g : Frame). g.handlers ≡ []) fs
bare_frames c n [] a = tt
bare_frames c n (f ∷ fs) a = (a.0.0.handlers, bare_frames c n fs a.1)

parts_are : (c : Code) (o : Stand) (j : _) (q : _) (hs gs : List Part) → group j q hs ≡ gathered c o gs → hs ≡ gs
parts_are c (gathers k m p) j q hs gs e = cc
parts_are c fit.calls j q hs gs e = cc
parts_are c fit.sleeps j q hs gs e = cc
parts_are c fit.stays j q hs gs e = cc
parts_are c fit.awaits_task j q hs gs e = cc
parts_are c fit.awaits_event j q hs gs e = cc
parts_are c fit.goes_on j q hs gs e = cc

module _ (c : Code) (x : Kept) (at : ℕ) (t : KeptTask) (ts : List KeptTask) (f : List ℕ → Pairs)
    (first : List ℕ → List ℕ) (a b :
    List ℕ) where
  parts_paired : (place : ℕ) (gs : List Part) →
      ((i n : ℕ) → nth gs i ≡ Some (runs n) → IsPair f first a b n (arm_at x at (place + i) ts)) →
      PartsPaired f first a b gs (parts_from c x at t ts place (map kp.arm gs))
  parts_paired place [] p = tt
  parts_paired place (did v ∷ gs) p = (
    refl,
    parts_paired (suc place) gs (λ i n e. subst (λ k. IsPair f first a b n (arm_at x at k ts)) (sums place i) (p
        (suc i) n e)),
  )
    where
      sums : (i j : ℕ) → i + suc j ≡ suc i + j
      sums i j = omega arith
  parts_paired place (runs m ∷ gs) p = (
    subst (λ k. IsPair f first a b m (arm_at x at k ts)) (none place) (p 0 m refl),
    parts_paired (suc place) gs
        (λ i n e. subst (λ k. IsPair f first a b n (arm_at x at k ts)) (sums place i) (p (suc i) n e)),
  )
    where
      none : (i : ℕ) → i + 0 ≡ i
      none i = omega arith

      sums : (i j : ℕ) → i + suc j ≡ suc i + j
      sums i j = omega arith

  rest_paired : (q r : Rest) → RestAlike q r → r ≡ sp.rest c x at t ts (kp.rest q) →
      ((k : _) (p : _) (gs : List Part) → q ≡ group k p gs → (i n : ℕ) → nth gs i ≡ Some (runs n) →
      IsPair f first a b n (arm_at x at i ts)) →
      RestPaired f first a b q r
  rest_paired (asleep w) (asleep v) l e p = l
  rest_paired (asleep w) (group j q hs) l e p = absurd l
  rest_paired (group k q gs) (asleep v) l e p = absurd l
  rest_paired (group k q gs) (group j r hs) l e p = (
    l.0,
    l.1,
    subst (PartsPaired f first a b gs)
        (sym (parts_are c (task_stand c t) j r hs (parts_from c x at t ts 0 (map kp.arm gs)) e)) (parts_paired 0 gs
        (λ i n d. subst (λ m. IsPair f first a b n (arm_at x at m ts)) (none i) (p k q gs refl i n d))),
  )
    where
      none : (i : ℕ) → i ≡ 0 + i
      none i = omega arith

-- how many pass, by one that does
count_some : (test : KeptTask → Bool) (f : Task → KeptTask) (xs : List Task) → 1 ≤ count test (map f xs) →
    (j : ℕ) × (z : Task) × (nth xs j ≡ Some z) ×
    (test (f z) ≡ true)
count_some test f [] h = absurd (omega (arith, h))
count_some test f (x ∷ xs) h = by_test (test (f x)) refl h (count_some test f xs)
  where
    by_test : (b : Bool) → test (f x) ≡ b → 1 ≤ cond b (suc (count test (map f xs))) (count test (map f xs)) →
        (1 ≤ count test (map f xs) → (j : ℕ) × (z :
        Task) × (nth xs j ≡ Some z) × (test (f z) ≡ true)) →
        (j : ℕ) × (z : Task) × (nth (x ∷ xs) j ≡ Some z) × (test (f z) ≡ true)
    by_test true e h g = (0, x, refl, e)
    by_test false e h g = let a = g h in (suc a.0, a.1, a.2, a.3)

nth_map : {A B : Type 0} (f : A → B) (xs : List A) (i : ℕ) (a : A) → nth xs i ≡ Some a → nth (map f xs) i ≡ Some (f a)
nth_map f [] i a e = none_some e
nth_map f (x ∷ xs) zero a e = ap (option_map f) e
nth_map f (x ∷ xs) (suc i) a e = nth_map f xs i a e

-- ---- all

module _ (c : Code) (steps until : ℕ) (s : State) (tss ordered : Forest) (o : Reordered tss ordered)
    (h : Held c steps until s tss) (law : TablePairs) where
  abbrev ys : List Task
  ys = walk ordered

  abbrev x : Kept
  x = kept s ordered

  abbrev us : List Task
  us = spelled c steps until s tss ordered o h.savable h.orderly

  own_names : Each Named ys
  own_names = names c steps until s tss ordered o h.savable h.orderly

  own_given : Each (λ y. TaskFine c h.savable.scene s.clock.next y × Still y.thread × HasOwn ys y) ys
  own_given = given c steps until s tss ordered o h.savable h.orderly

  two_given : (zs : List Task) → Each (λ y. TaskFine c h.savable.scene s.clock.next y × Still y.thread × HasOwn ys y)
      zs →
      Each (λ y. TaskFine c h.savable.scene s.clock.next y × Still y.thread) zs
  two_given [] a = tt
  two_given (z ∷ zs) a = ((a.0.0, a.0.1), two_given zs a.1)

  own_parents : (zs : List Task) →
      Each (λ y. TaskFine c h.savable.scene s.clock.next y × Still y.thread × HasOwn ys y) zs → Each (HasOwn ys) zs
  own_parents [] a = tt
  own_parents (z ∷ zs) a = (a.0.2, own_parents zs a.1)

  spelt : Spelt c x ys 0 ys us
  spelt = all_spelt c x ys h.savable.scene s.clock.next ys (two_given ys own_given)

  own_pairs : EachPair (At ys us) ys us
  own_pairs = pairs c steps until s tss ordered o h.savable h.orderly

  own_rooted : Each (λ ts. Rooted s.clock.left (whos ts)) ordered
  own_rooted = rooted c steps until s tss ordered o h.savable h.orderly

  own_unique : (p : List ℕ) → tasks_sum (is_named p) ys ≤ 1
  own_unique = unique c steps until s tss ordered o h.savable h.orderly

  own_again : Orderly s.clock.left ordered
  own_again = again c steps until s tss ordered o h.savable h.orderly

  lows : Each (Low s.clock.left) ys
  lows = walk_each (Low s.clock.left) ordered
      (both ordered (trees_names s.clock.left ordered own_again.lines) own_rooted)
    where
      both : (uss : Forest) → Each (λ ts. Each Named ts) uss → Each (λ ts. Rooted s.clock.left (whos ts)) uss →
          Each (λ ts. Each (Low s.clock.left) ts) uss
      both [] a b = tt
      both (ts ∷ uss) a b = (rooted_low s.clock.left ts a.0 b.0, both uss a.1 b.1)

  borns : Each (λ (t : Task). IsBorn s.clock.left tss t.thread) ys
  borns = walk_each (λ (t : Task). IsBorn s.clock.left tss t.thread) ordered
      (reordered_each (λ ts. Each (λ (t : Task). IsBorn s.clock.left tss t.thread) ts) o h.born)

  later_arms : Each (TaskIs s.clock.left) ys
  later_arms = walk_each (TaskIs s.clock.left) ordered
      (reordered_each (λ ts. Each (TaskIs s.clock.left) ts) o (trees_each tss h.arms))
    where
      tasks_each : (ts : List Task) → arms.TasksAre s.clock.left ts → Each (TaskIs s.clock.left) ts
      tasks_each [] a = tt
      tasks_each (t ∷ ts) a = (a.0, tasks_each ts a.1)

      trees_each : (uss : Forest) → arms.TreesAre s.clock.left uss → Each (λ ts. Each (TaskIs s.clock.left) ts) uss
      trees_each [] a = tt
      trees_each (ts ∷ uss) a = (tasks_each ts a.0, trees_each uss a.1)

  -- no task that is kept is the child of such a number
  away : (path : List ℕ) (n : ℕ) (j : ℕ) (z : Task) → nth ys j ≡ Some z → NoChild tss path n →
      z.thread.who.path ≡ path ++ n ∷ [] → ⊥
  away path n j z e a =
      member_at (λ (t : Task). t.thread.who.path ≡ path ++ n ∷ [] → ⊥) ys j z
      (walk_each (λ (t : Task). t.thread.who.path ≡ path ++ n ∷ []
      → ⊥) ordered (reordered_each (λ ts. Each (λ (t : Task). t.thread.who.path ≡ path ++ n ∷ [] → ⊥) ts) o a)) e

  older : EachTwo Older ys
  older = walk_older s.clock.left ordered own_rooted own_again.lines own_unique

  few_frames : (i : ℕ) (y : Task) → nth ys i ≡ Some y → length (frames_of y) ≤ s.clock.spent
  few_frames i y e = further _ _ _ _ (weighs (λ (t : Task). suc (length t.thread.below)) ys i y e)
      (walk_sum (λ (t : Task). suc (length t.thread.below))
      ordered) (reordered_sum (λ (t : Task). suc (length t.thread.below)) o) h.savable.few_frames
    where
      further : (a b d e : ℕ) {m : ℕ} → a ≤ b → b ≡ d → d ≡ e → e ≤ m → a ≤ m
      further a b d e h g i j = omega (arith, h, g, i, j)

  facts_from : (at : ℕ) (zs : List Task) →
      ((k j : ℕ) (z : Task) → j ≡ at + k → nth zs k ≡ Some z → nth ys j ≡ Some z) → EachTwo Older zs →
      AllFacts c x ys at zs
  facts_from at [] f a = tt
  facts_from at (y ∷ zs) f a = (
    record {
      rises = (member_at (λ (t : Task). IsBorn s.clock.left tss t.thread) ys at y borns here).rises;
      few = few_frames at y here;
      kids = each_of (Kid c x ys at (frames_of y)) zs
          (λ k z e t. kid_of ys own_names s.clock.left tss at y z here (member_at Named ys (suc (at + k)) z own_names
          (there k z e)) (member_at (λ y. TaskFine c h.savable.scene s.clock.next y × Still y.thread × HasOwn ys y) ys
          at y own_given here).1 (member_at (λ (t :
          Task). IsBorn s.clock.left tss t.thread) ys at y borns here)
          (member_at (TaskIs s.clock.left) ys at y later_arms here) (member_at (Low s.clock.left) ys
          (suc (at + k)) z lows (there k z e)) (λ n b. away y.thread.who.path n (suc (at + k)) z (there k z e) b) t);
      falls = falls_of ys own_names at y zs here a.1;
      above = each_of (λ (z : Task). s.clock.left ≤ z.thread.who.number) zs
          (λ k z e. (member_at (Low s.clock.left) ys (suc (at + k)) z lows (there k z e)).0);
    },
    facts_from (suc at) zs (λ k j z d e. f (suc k) j z (d ∙ sums at k) e) a.1,
  )
    where
      none : (i : ℕ) → i ≡ i + 0
      none i = omega arith

      more : (i k : ℕ) → suc (i + k) ≡ i + suc k
      more i k = omega arith

      sums : (i k : ℕ) → suc i + k ≡ i + suc k
      sums i k = omega arith

      here : nth ys at ≡ Some y
      here = f 0 at y (none at) refl

      there : (k : ℕ) (z : Task) → nth zs k ≡ Some z → nth ys (suc (at + k)) ≡ Some z
      there k z e = f (suc k) (suc (at + k)) z (more at k) e

  facts : AllFacts c x ys 0 ys
  facts = facts_from 0 ys (λ k j z d e. subst (λ i. nth ys i ≡ Some z) (sym (same k j d)) e) older
    where
      same : (k j : ℕ) → j ≡ 0 + k → j ≡ k
      same k j e = omega (arith, e)

  abbrev es : List Entry
  es = table ys us

  abbrev F : List ℕ → Pairs
  F = pairs_at es

  abbrev G : List ℕ → List ℕ
  G = path_at es

  us_paths : (zs vs : List Task) → EachPair (At ys us) zs vs → Each (λ (v : Task). IsSome v.thread.who.path) vs
  us_paths [] [] a = tt
  us_paths [] (v ∷ vs) a = absurd a
  us_paths (z ∷ zs) [] a = absurd a
  us_paths (z ∷ zs) (v ∷ vs) a = (a.0.3.named, us_paths zs vs a.1)

  distinct : AreDistinct es
  distinct = table_distinct ys us own_unique (apart c steps until s tss ordered o h.savable h.orderly)
      (each_of (λ (z : Task). IsSome z.thread.who.path) ys
      (λ k z e. some_path ys own_names k z e)) (us_paths ys us own_pairs)

  -- ---- pairs

  pair_of : (i : ℕ) (e : Entry) (n m : ℕ) → nth es i ≡ Some e → In (n, m) e.pairs → IsPair F G e.path e.other n m
  pair_of i e n m d a = let g = has_in (n, m) e.pairs a in law es i e g.front g.back n m distinct d g.is

  abbrev Place : ℕ → Task → Task → Type 0
  Place i y u = Here c x ys 0 i y u ys us

  place : (i : ℕ) (y u : Task) → nth ys i ≡ Some y → nth us i ≡ Some u → Place i y u
  place i y u e d = here_at c x ys 0 i ys us spelt y u e d

  is_place : {i p : ℕ} → p ≡ 0 + i → p ≡ i
  is_place e = omega (arith, e)

  -- among the pairs beneath a task
  task_pair : (i : ℕ) (y u : Task) (q : Place i y u) (n m : ℕ) → In (n, m) (pairs_of ys q.place y q.behind u q.others) →
      IsPair F G y.thread.who.path u.thread.who.path n m
  task_pair i y u q n m a = pair_of (suc i) _ n m q.is (sorted_in (n, m) (pairs_of ys q.place y q.behind u q.others) a)

  before : (p j : ℕ) → p < j → (k : ℕ) × (j ≡ suc (p + k))
  before p zero h = absurd (omega (arith, h))
  before zero (suc j) h = (j, omega arith)
  before (suc p) (suc j) h = let g = before p j (omega (arith, h)) in let i = g.1 in (g.0, omega (arith, i))

  child_pair : (p j : ℕ) (y u z v : Task) → nth ys p ≡ Some y → nth us p ≡ Some u → nth ys j ≡ Some z →
      nth us j ≡ Some v → p < j →
      place_of z.thread.who.up ys ≡ Some p →
      IsPair F G y.thread.who.path u.thread.who.path z.thread.who.number v.thread.who.number
  child_pair p j y u z v ey eu ez ev l d =
      let q = place p y u ey eu in
      let k = before p j l in
      task_pair p y u q z.thread.who.number v.thread.who.number
      (in_back _ (zipped (births_of y.thread) (births_of u.thread)) (children (is_its ys q.place)
      q.behind q.others) (child_in c x ys (is_its ys q.place) q.behind q.others k.0 z v (q.own k.0 j z k.1 ez)
      (q.their k.0 j v k.1 ev) (place_its ys own_names
      q.place z (d ∙ ap Some (sym (is_place q.place_is))))))

  root_pair : (j : ℕ) (z v : Task) → nth ys j ≡ Some z → nth us j ≡ Some v → place_of z.thread.who.up ys ≡ None →
      IsPair F G [] [] z.thread.who.number v.thread.who.number
  root_pair j z v ez ev d = pair_of 0 _ z.thread.who.number v.thread.who.number refl
      (child_in c x ys (is_own ys) ys us j z v ez ev (ap (is_child None) d))

  fact : (j : ℕ) (z v : Task) → nth ys j ≡ Some z → nth us j ≡ Some v → Fact ys us z v
  fact j z v ez ev = (pair_at (At ys us) ys us j z v own_pairs ez ev).3

  parents : EachAt ParentBefore 0 (map (kp.task ys) ys)
  parents = parents_fit ys own_names (walk_well s.clock.left ordered own_rooted)

  parent_before : (j p : ℕ) (z : Task) → nth ys j ≡ Some z → place_of z.thread.who.up ys ≡ Some p → p < j
  parent_before j p z e d = kept_at ParentBefore (kp.task ys) 0 ys j j z (same j) parents e p d
    where
      same : (i : ℕ) → i ≡ 0 + i
      same i = omega arith

  has_own : (j : ℕ) (z : Task) → nth ys j ≡ Some z → HasOwn ys z
  has_own j z e = member_at (HasOwn ys) ys j z (own_parents ys own_given) e

  -- the parent, and the one that is spelled for it
  record Parent (p : ℕ) (z v : Task) : Type 0 where
    task : Task
    other : Task
    is : nth ys p ≡ Some task
    other_is : nth us p ≡ Some other
    up : z.thread.who.up ≡ task.thread.who.path
    other_up : v.thread.who.up ≡ other.thread.who.path

  parent : (j p : ℕ) (z v : Task) → nth ys j ≡ Some z → nth us j ≡ Some v → place_of z.thread.who.up ys ≡ Some p →
      Parent p z v
  parent j p z v ez ev d = let a = placed z.thread.who.up ys p d in let b = (fact j z v ez ev).part_up p d in
      record { task = a.0; other = b.0; is = a.1; other_is = b.1; up = a.2; other_up = b.2 }

  number_pair : (j : ℕ) (z v : Task) → nth ys j ≡ Some z → nth us j ≡ Some v →
      IsPair F G z.thread.who.up v.thread.who.up z.thread.who.number v.thread.who.number
  number_pair j z v ez ev = by_place (place_of z.thread.who.up ys) refl
    where
      by_place : (a : Option ℕ) → place_of z.thread.who.up ys ≡ a →
          IsPair F G z.thread.who.up v.thread.who.up z.thread.who.number v.thread.who.number
      by_place None d = subst (λ a. IsPair F G a v.thread.who.up z.thread.who.number v.thread.who.number)
          (sym (no_up ys own_names z (has_own j z ez) d)) (subst
          (λ b. IsPair F G [] b z.thread.who.number v.thread.who.number) (sym ((fact j z v ez ev).root_up d))
          (root_pair j z v ez ev d))
      by_place (Some p) d = let q =
          parent j p z v ez ev d in subst (λ a. IsPair F G a v.thread.who.up z.thread.who.number v.thread.who.number)
          (sym q.up)
          (subst (λ b. IsPair F G q.task.thread.who.path b z.thread.who.number v.thread.who.number) (sym q.other_up)
          (child_pair p j q.task q.other z v q.is
          q.other_is ez ev (parent_before j p z ez d) d))

  own_path : (j : ℕ) (z : Task) → nth ys j ≡ Some z → z.thread.who.path ≡ z.thread.who.up ++ z.thread.who.number ∷ []
  own_path j z e = who_path z.thread.who.role z.thread.who (member_at Named ys j z own_names e)

  path_pair : (j : ℕ) (z v : Task) → nth ys j ≡ Some z → nth us j ≡ Some v →
      PathsPaired F G [] [] z.thread.who.up v.thread.who.up → PathsPaired F G [] []
      z.thread.who.path v.thread.who.path
  path_pair j z v ez ev a = subst (λ p. PathsPaired F G [] [] p v.thread.who.path) (sym (own_path j z ez))
      (subst (PathsPaired F G [] [] (z.thread.who.up ++
      z.thread.who.number ∷ [])) (sym (place j z v ez ev).here.path)
      (paths_end F G [] [] z.thread.who.up v.thread.who.up z.thread.who.number
      v.thread.who.number a (number_pair j z v ez ev)))

  up_pair : (n j : ℕ) (z v : Task) → j < n → nth ys j ≡ Some z → nth us j ≡ Some v →
      PathsPaired F G [] [] z.thread.who.up v.thread.who.up
  up_pair zero j z v l ez ev = absurd (omega (arith, l))
  up_pair (suc n) j z v l ez ev =
      by_place (place_of z.thread.who.up ys) refl (λ p a b i d e. path_pair p a b d e (up_pair n p a b i d e))
    where
      within : (p j n : ℕ) → p < j → j < suc n → p < n
      within p j n h g = omega (arith, h, g)

      by_place : (a : Option ℕ) → place_of z.thread.who.up ys ≡ a →
          ((p : ℕ) (a b : Task) → p < n → nth ys p ≡ Some a → nth us p ≡ Some b → PathsPaired F G []
          [] a.thread.who.path b.thread.who.path) → PathsPaired F G [] [] z.thread.who.up v.thread.who.up
      by_place None d f = subst (λ a. PathsPaired F G [] [] a v.thread.who.up)
          (sym (no_up ys own_names z (has_own j z ez) d)) (subst (PathsPaired F G [] [] [])
          (sym ((fact j z v ez ev).root_up d)) tt)
      by_place (Some p) d f = let q = parent j p z v ez ev d in subst (λ a. PathsPaired F G [] [] a v.thread.who.up)
          (sym q.up) (subst (PathsPaired F G [] []
          q.task.thread.who.path) (sym q.other_up)
          (f p q.task q.other (within p j n (parent_before j p z ez d) l) q.is q.other_is))

  who_pair : (j : ℕ) (z v : Task) → nth ys j ≡ Some z → nth us j ≡ Some v → WhoPaired F G z.thread.who v.thread.who
  who_pair j z v ez ev = let up = up_pair (suc j) j z v (omega arith) ez ev in record {
    path = path_pair j z v ez ev up;
    up = up;
    number = number_pair j z v ez ev;
    role = (fact j z v ez ev).alike.role;
  }

  -- ---- frames

  frames_pair : (j : ℕ) (z v : Task) (ez : nth ys j ≡ Some z) (ev : nth us j ≡ Some v) →
      FramesPaired F G z.thread.who.path v.thread.who.path (frames_of z)
      (frames_of v)
  frames_pair j z v ez ev =
      let a = (fact j z v ez ev).alike in
      let fine = (member_at (λ y. TaskFine c h.savable.scene s.clock.next y × Still y.thread × HasOwn ys y) ys j z
      own_given ez).0 in
      let q = place j z v ez ev in
      frames_paired F G z.thread.who.path v.thread.who.path (frames_of z) (frames_of v) (a.frame, a.below) (
        fine.still.frame.handlers,
        bare_frames c
            h.savable.scene.entries z.thread.below fine.still.below,
      ) (λ p i. task_pair j z v q p.0 p.1 (in_front _ (zipped (births_of z.thread) (births_of
      v.thread)) (children (is_its ys q.place) q.behind q.others) i))

  -- ---- arms

  there : (b : List ℕ) → IsSome b → (n : ℕ) → tasks_sum (awaits b n) ys ≤ tasks_sum (is_named (b ++ n ∷ [])) ys
  there b some n = between _ _ _ _ (walk_sum (awaits b n) ordered) (walk_sum (is_named (b ++ n ∷ [])) ordered)
      (trees_less (awaits b n) (is_named (b ++ n ∷
      [])) ordered (own_again.arms b some n))
    where
      between : (i j k l : ℕ) → i ≡ j → k ≡ l → j ≤ l → i ≤ k
      between i j k l e f g = omega (arith, e, f, g)

      trees_less : (f g : Task → ℕ) (uss : Forest) → Each (λ ts. tasks_sum f ts ≤ tasks_sum g ts) uss →
          trees_sum f uss ≤ trees_sum g uss
      trees_less f g [] a = omega arith
      trees_less f g (ts ∷ uss) a = both (tasks_sum f ts) (tasks_sum g ts) (trees_sum f uss) (trees_sum g uss) a.0
          (trees_less f g uss a.1)
        where
          both : (i j k l : ℕ) → i ≤ j → k ≤ l → i + k ≤ j + l
          both i j k l e f = omega (arith, e, f)

  arm_pair : (p : ℕ) (y u : Task) (ey : nth ys p ≡ Some y) (eu : nth us p ≡ Some u) (q : Place p y u) (k : _) (at : _)
      (gs : List Part) → y.rest ≡ group k at gs →
      (i n : ℕ) → nth gs i ≡ Some (runs n) →
      IsPair F G y.thread.who.path u.thread.who.path n (arm_at x q.place i (kept_of c x ys q.behind))
  arm_pair p y u ey eu q k at gs e i n d =
      subst (λ m. IsPair F G y.thread.who.path u.thread.who.path n m) (sym level)
      (subst (λ m. IsPair F G y.thread.who.path u.thread.who.path m (number_of c x
      ys (length (from (λ (z : Task). is_arm_of q.place i (kp.task ys z)) q.behind)))) same
      (task_pair p y u q w.0.thread.who.number _ (in_back _ (zipped
      (births_of y.thread) (births_of u.thread)) (children (is_its ys q.place) q.behind q.others) w.2)))
    where
      same_place : q.place ≡ p
      same_place = is_place q.place_is

      one : count (is_arm_of q.place i) (map (kp.task ys) ys) ≡ 1
      one = kept_at (ArmsRun (map (kp.task ys) ys)) (kp.task ys) 0 ys p q.place y q_place
          (arms_fit ys own_names own_unique there) ey i ∙
          (ap (λ r. unfinished (nth (fit.arms_of (kp.rest r)) i)) e ∙ ap unfinished (nth_map kp.arm gs i (runs n) d))
        where
          q_place : q.place ≡ 0 + p
          q_place = q.place_is

      found_arm : (j : ℕ) × (z : Task) × (nth ys j ≡ Some z) × (is_arm_of q.place i (kp.task ys z) ≡ true)
      found_arm = count_some (is_arm_of q.place i) (kp.task ys) ys (reaches one)
        where
          reaches : {m : ℕ} → m ≡ 1 → 1 ≤ m
          reaches e = omega (arith, e)

      behind : (l : ℕ) × (found_arm.0 ≡ suc (p + l))
      behind = before p found_arm.0
          (subst (λ b. b < found_arm.0) same_place
          (parent_before found_arm.0 q.place found_arm.1 found_arm.2 (its_place ys own_names q.place found_arm.1
          (arm_its ys own_names q.place i found_arm.1 found_arm.3))))

      w : (z : Task) × (is_arm_of q.place i (kp.task ys z) ≡ true) × In (
        z.thread.who.number,
        number_of c x ys (length (from (λ (z : Task). is_arm_of q.place i
            (kp.task ys z)) q.behind)),
      ) (children (is_its ys q.place) q.behind q.others)
      w = first_in c x ys (λ (z : Task). is_arm_of q.place i (kp.task ys z)) (is_its ys q.place)
          (λ z. arm_its ys own_names q.place i z) (suc q.place) q.behind
          q.others q.rest behind.0 found_arm.1 (q.own behind.0 found_arm.0 found_arm.1 behind.1 found_arm.2) found_arm.3

      same : w.0.thread.who.number ≡ n
      same = number (same_Some _ _
          (sym (arm_runs ys own_names q.place i y w.0 gs (subst (λ j. nth ys j ≡ Some y) (sym same_place) ey)
          (λ m. ap (kp.arm_in m) e) w.1) ∙ d))
        where
          number : {a b : ℕ} → runs a ≡ runs b → a ≡ b
          number e = cc

      level : arm_at x q.place i (kept_of c x ys q.behind) ≡ number_of c x ys
          (length (from (λ (z : Task). is_arm_of q.place i (kp.task ys z)) q.behind))
      level = number_is c x ys (from (is_arm_of q.place i) (kept_of c x ys q.behind)) _
          (from_map (kp.task ys) (is_arm_of q.place i) q.behind)

  task_pairs : (j : ℕ) (z v : Task) → nth ys j ≡ Some z → nth us j ≡ Some v → TaskPaired F G z v
  task_pairs j z v ez ev =
      let fs = frames_pair j z v ez ev in
      let q = place j z v ez ev in
      record {
        thread = record { who = who_pair j z v ez ev; frame = fs.0; below = fs.1 };
        rest = rest_paired c x q.place (kp.task ys z) (kept_of c x ys q.behind) F G z.thread.who.path
            v.thread.who.path z.rest v.rest (fact j z v ez
            ev).alike.rest q.here.rest (λ k at gs e i n d. arm_pair j z v ez ev q k at gs e i n d);
      }

  -- ---- trees

  abbrev R : Task → Task → Type 0
  R y u = At ys us y u × TaskPaired F G y u

  all_pairs : EachPair R ys us
  all_pairs = pairs_as (At ys us) R (λ y u a. (a, task_pairs a.0 y u a.1 a.2)) ys us own_pairs

  tasks_paired : (ts vs : List Task) → EachPair R ts vs → TasksPaired F G ts vs
  tasks_paired [] [] a = tt
  tasks_paired [] (v ∷ vs) a = absurd a
  tasks_paired (t ∷ ts) [] a = absurd a
  tasks_paired (t ∷ ts) (v ∷ vs) a = (a.0.1, tasks_paired ts vs a.1)

  trees_paired : (uss vss : Forest) → EachPair (EachPair R) uss vss → TreesPaired F G uss vss
  trees_paired [] [] a = tt
  trees_paired [] (vs ∷ vss) a = absurd a
  trees_paired (ts ∷ uss) [] a = absurd a
  trees_paired (ts ∷ uss) (vs ∷ vss) a = (tasks_paired ts vs a.0, trees_paired uss vss a.1)

  pairs_grown : EachPair (EachPair R) (grown [] ys) (grown [] us)
  pairs_grown = grown_pair R (λ y u t v a b. tests ys us own_unique (apart c steps until s tss ordered o h.savable
      h.orderly) y u t v a.0 b.0) (λ y u a. a.0.3.alike.role) ys us [] [] all_pairs tt

  kept_rooted : TreesRooted s.clock.left ordered
  kept_rooted = rooted_trees s.clock.left ordered own_rooted (still c steps until s tss ordered o h.savable h.orderly)

  kept_again : grown [] ys ≡ filled ordered
  kept_again = trees_again s.clock.left ordered kept_rooted own_again

  all_grown : EachPair (EachPair R) (filled ordered) (grown [] us)
  all_grown = subst (λ w. EachPair (EachPair R) w (grown [] us)) kept_again pairs_grown

  roots_apart : AreApart (children (is_own ys) ys us)
  roots_apart = children_apart c x ys (is_own ys) 0 ys us spelt
      (roots_differ ys own_names ys own_names (own_parents ys own_given) (names_apart ys own_unique))

  roots_above : NoneBelow s.clock.left (children (is_own ys) ys us)
  roots_above = none_below s.clock.left (children (is_own ys) ys us)
      (children_from c x ys (is_own ys) 0 s.clock.left ys us (omega arith) spelt (each_of
      (λ (z : Task). s.clock.left ≤ z.thread.who.number) ys (λ k z e. (member_at (Low s.clock.left) ys k z lows e).0)))

  pub same_trees : TableSorts → SameButRoots (state x) (filled ordered) (trees c x)
  same_trees sorts = sorts (children (is_own ys) ys us) (entries ys 0 ys us) (state x) (filled ordered) (trees c x)
      roots_apart roots_above (entries_ordered c
      x ys 0 ys us facts spelt) (trees_paired (filled ordered) (grown [] us) all_grown)

  -- ---- parents

  lowest_number : (j : ℕ) (z v : Task) → nth ys j ≡ Some z → nth us j ≡ Some v →
      lowest (frames_of v) ≡ v.thread.who.number
  lowest_number j z v ez ev = let q = place j z v ez ev in lowest_last (frames_of v) ∙
      (ap last q.here.births ∙ (made_last c x ys q.place z q.behind 1 (length
      z.thread.below) ∙ sym q.here.number))

  stand : (y u : Task) → R y u → Matched s.clock.left y u
  stand y u a = record {
    role = a.0.3.alike.role;
    path = (place a.0.0 y u a.0.1 a.0.2).here.path;
    alone = λ entry e. a.0.3.root_up
        (ap (λ up. place_of up ys)
        (role_up y.thread.who.role y.thread.who entry (member_at Named ys a.0.0 y own_names a.0.1) e) ∙
        no_place ys own_names);
    above = above (place a.0.0 y u a.0.1 a.0.2);
    still = still_alike y u a.0.3.alike.frame a.0.3.alike.below
        (member_at (λ y. TaskFine c h.savable.scene s.clock.next y × Still y.thread × HasOwn ys y) ys
        a.0.0 y own_given a.0.1).1 (lowest_number a.0.0 y u a.0.1 a.0.2);
  }
    where
      role_up : (r : Role) (w : Who) (entry : Option ℕ) → RoleIs r w → r ≡ root entry → w.up ≡ []
      role_up (root e) w entry b f = b.0
      role_up part w entry b f = absurd (cc)

      above : Place a.0.0 y u → s.clock.left ≤ u.thread.who.number
      above q = more (suc (length q.behind)) q.here.number
        where
          more : (n : ℕ) → u.thread.who.number ≡ number_of c x ys n → s.clock.left ≤ u.thread.who.number
          more n e = further s.clock.left (suc s.clock.spent * n) u.thread.who.number e
            where
              further : (i j m : ℕ) → m ≡ i + j → i ≤ m
              further i j m e = omega (arith, e)

  over : (y u t v : Task) → R y u → R t v → t.thread.who.path ≡ y.thread.who.up → Over t v y u
  over y u t v a b e = record {
    path = sym (g.2 ∙ ap (λ (w : Task). w.thread.who.path) (same_Some _ _ (sym g.1 ∙ b.0.2)));
    number = fall (place a.0.0 y u a.0.1 a.0.2) (place b.0.0 t v b.0.1 b.0.2);
  }
    where
      there : place_of y.thread.who.up ys ≡ Some b.0.0
      there = found y.thread.who.up ys b.0.0 t b.0.1 (sym e) (own_unique y.thread.who.up)

      g : (w : Task) × (nth us b.0.0 ≡ Some w) × (u.thread.who.up ≡ w.thread.who.path)
      g = a.0.3.part_up b.0.0 there

      fall : Place a.0.0 y u → Place b.0.0 t v → u.thread.who.number < v.thread.who.number
      fall p q = less (number_falls c x ys (suc (length p.behind)) (suc (length q.behind))
          (sizes a.0.0 b.0.0 (length p.behind) (length q.behind) (length ys) (parent_before a.0.0 b.0.0 y a.0.1 there)
          p.size q.size))
          p.here.number q.here.number
        where
          sizes : (i j m n k : ℕ) → j < i → i + suc m ≡ k → j + suc n ≡ k → suc (suc m) ≤ suc n
          sizes i j m n k l e f = omega (arith, l, e, f)

          less : {i j m n : ℕ} → i < j → m ≡ i → n ≡ j → m < n
          less l e f = omega (arith, l, e, f)

  filled_rooted : (uss : Forest) → TreesRooted s.clock.left uss → TreesRooted s.clock.left (filled uss)
  filled_rooted [] r = tt
  filled_rooted ([] ∷ uss) r = filled_rooted uss r.2
  filled_rooted ((t ∷ ts) ∷ uss) r = (r.0, r.1, filled_rooted uss r.2)

  pub own_trees_rooted : TreesRooted s.clock.left (filled ordered)
  own_trees_rooted = filled_rooted ordered kept_rooted

  pub spelled_rooted : TreesRooted s.clock.left (trees c x)
  spelled_rooted = trees_rooted_pair s.clock.left R stand over (filled ordered) (grown [] us) all_grown own_trees_rooted

pub spelled_trees_are_the_same : TablePairs → TableSorts → SpelledTreesAreTheSame
spelled_trees_are_the_same law sorts c steps until s tss x h y =
    subst (λ k. TreesRooted k.left (trees c k) × SameButRoots (state k) (filled y.ordered) (trees c
    k)) (sym y.is) (
      spelled_rooted c steps until s tss y.ordered y.reordered h law,
      same_trees c steps until s tss
          y.ordered y.reordered h law sorts,
    )
