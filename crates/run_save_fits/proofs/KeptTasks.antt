-- What is kept of a task fits its code.
use Rattle.std.proofs.Common.{◌≡◌, ℕ, zero, suc, ◌+◌, ◌-◌, ◌≤◌, ◌<◌, length, map, reverse, List, [], ◌∷◌, ◌++◌, Option, Some, None, Bool}
use Rattle.std.proofs.Common.{true}
use Rattle.std.proofs.Common.{false, cond, refl, sym, subst, ap, ◌∙◌, arith, option_map, ◌⊎◌}
use Rattle.std.specs.Prelude.{pred, slice_get}
use mathlib.Core.Logic.{inl, inr}
use mathlib.Core.List.{reverse-cons}
use Rattle.std.proofs.lemmas.List.{length-append, length-reverse, length-map}
use Rattle.task_tree.specs.Tasks.{suits}
use Rattle.task_tree.specs.declared.tasks.Role as r
use Rattle.task_tree.specs.declared.tasks.Role.TheVariants.{Root, Arm, Behind}
use Rattle.verse_base.specs.declared.places.Place.{Place}
use Rattle.verse_code.specs.declared.codes.Code.{Code}
use Rattle.verse_value.specs.Val.{Val}
use Rattle.verse_meaning_state.specs.State.{State, Given}
use Rattle.verse_meaning_state.specs.Waits.{Cause, till, never, done, heard, Wait, nth, given_by, due_of}
use Rattle.verse_meaning_state.specs.Turns.{Kind, sync}
use Rattle.verse_code_machine.specs.Tasks.{Frame, Role, root, part, Who, Part, did, runs, Rest, asleep, group, Task, same_path}
use Rattle.verse_code_machine.specs.Frames.{behind}
use Rattle.verse_code_machine.specs.Ends.{all_did, first_did}
use Rattle.verse_code_machine.specs.Acts.{kind_of}
use Rattle.verse_code_machine.specs.Runs.{Forest}
use Rattle.run_save_shots.specs.Lists.{Each, count}
use Rattle.run_save_shots.specs.Kept as k
use Rattle.run_save_shots.specs.Kept.{KeptFrame, KeptRest, KeptTask, Kept}
use Rattle.run_save_shots.specs.Fitting.{ValueFits, ArmFits, IsBlock, FrameFits, FramesSuit, RestSuits, Stand, calls, gathers, stand_at}
use Rattle.run_save_shots.specs.Fitting.{CauseFits}
use Rattle.run_save_shots.specs.Fitting.{is_running, GroupStands, RestFits, RootFits, TaskFits}
use Rattle.run_save_shots.specs.Keeping as kp
use Rattle.run_save_shots.specs.Keeping.{kept, place_of, task_of, role_in, arm_or, entry_of}
use Rattle.verse_base.specs.declared.limits.TheConstants.{MOST_NOW}
use Rattle.verse_meaning_state.proofs.Numbers.{eqn_same}
use Rattle.run_save_shots.proofs.Lists.{each_join}
use Rattle.run_save_shots.proofs.Steps.{top_is}
use Rattle.run_save_moves.specs.Fine.{Scene, IsEvent}
use Rattle.run_save_moves.specs.Moves.{BehindCall, BehindWait, BehindGroup, NotYet, PartFits}
use Rattle.run_save_fits.specs.Held.{Has, IsSome, RoleIs, WhoIs, NoLater, FrameStill, LowerStill, CauseFine, RestFine, TaskFine, StateHeld}
use Rattle.run_save_fits.specs.Held.{is_task_of, unfinished, one}
use Rattle.run_save_fits.proofs.Holding.{role_some}

-- ---- lists

pub each_reverse : {A : Type 0} (P : A → Type 0) (xs : List A) → Each P xs → Each P (reverse xs)
each_reverse P [] a = tt
each_reverse P (x ∷ xs) a = subst (Each P) (sym (reverse-cons x xs)) (each_join P (reverse xs) (x ∷ []) (each_reverse P xs a.1) (a.0, tt))

pub each_map : {A B : Type 0} (P : B → Type 0) (f : A → B) (xs : List A) → Each (λ x. P (f x)) xs → Each P (map f xs)
each_map P f [] a = tt
each_map P f (x ∷ xs) a = (a.0, each_map P f xs a.1)

cond_no : {A : Type 0} (b : Bool) (x y : A) → b ≡ false → cond b x y ≡ y
cond_no true x y e = absurd (cc)
cond_no false x y e = refl

-- ---- its role, and the entry

arm_suits : (p : ℕ) (o : Option ℕ) (d : ℕ) → suits (Some p) (arm_or o d) ≡ true
arm_suits p None d = refl
arm_suits p (Some place) d = refl

suits_later : (o : Option ℕ) (q : r.Role) → suits o q ≡ true → suits (option_map suc o) q ≡ true
suits_later None q e = e
suits_later (Some p) Root e = absurd (cc)
suits_later (Some p) (Arm place) e = refl
suits_later (Some p) (Behind d) e = refl

pub role_suits : (up : List ℕ) (ys : List Task) (n : ℕ) → suits (place_of up ys) (role_in (task_of up ys) n) ≡ true
role_suits up [] n = refl
role_suits up (y ∷ ys) n = two (same_path up y.thread.who.path) (role_suits up ys n)
  where
    two : (b : Bool) → suits (place_of up ys) (role_in (task_of up ys) n) ≡ true →
        suits (cond b (Some 0) (option_map suc (place_of up ys))) (role_in (cond b (Some y) (task_of up ys)) n) ≡ true
    two true e = arm_suits 0 (kp.arm_in n y.rest) (kp.depth_of n y)
    two false e = suits_later (place_of up ys) (role_in (task_of up ys) n) e

not_empty : (path : List ℕ) → IsSome path → same_path [] path ≡ false
not_empty [] a = absurd a
not_empty (x ∷ xs) a = refl

pub no_place : (ys : List Task) → Each (λ (y : Task). WhoIs y.thread.who) ys → place_of [] ys ≡ None
no_place [] a = refl
no_place (y ∷ ys) a = cond_no (same_path [] y.thread.who.path) (Some 0) (option_map suc (place_of [] ys))
    (not_empty y.thread.who.path (role_some y.thread.who.role y.thread.who a.0)) ∙ ap (option_map suc) (no_place ys a.1)

running_below : (rs : List (Option Given)) (e : ℕ) → 1 ≤ unfinished (nth rs e) → e < length rs
running_below [] e h = absurd (omega (arith, h))
running_below (r ∷ rs) zero h = omega arith
running_below (r ∷ rs) (suc e) h = let a = running_below rs e h in omega (arith, a)

abbrev pub RootRuns : List (Option Given) → Task → Type 0
RootRuns rs y = (e : ℕ) → is_task_of e y.thread.who.role ≤ unfinished (nth rs e)

-- of the role of a task
root_fits : (rs : List (Option Given)) (ys : List Task) (w : Who) (q : Role) → RoleIs q w →
    ((e : ℕ) → is_task_of e q ≤ unfinished (nth rs e)) → Each (λ (y : Task). WhoIs y.thread.who) ys →
    RootFits (length rs) (place_of w.up ys) (entry_of q)
root_fits rs ys w (root None) a h b = tt
root_fits rs ys w (root (Some e)) a h b = subst (λ o. RootFits (length rs) o (Some e)) (sym (ap (λ up. place_of up ys) a.0 ∙ no_place ys b))
    (running_below rs e (below (is_task_of e (root (Some e))) (unfinished (nth rs e)) (ap one (eqn_same e)) (h e)))
  where
    below : (i j : ℕ) → i ≡ 1 → i ≤ j → 1 ≤ j
    below i j e f = omega (arith, e, f)
root_fits rs ys w part a h b = tt

-- at a horizon its wait is due behind it, or never
abbrev pub Behind_ : ℕ → Option Given → Type 0
Behind_ m None = Unit {0}
Behind_ m (Some g) = m < g.moment

abbrev pub RestLate : ℕ → State → Rest → Type 0
RestLate m s (asleep w) = Behind_ m (due_of s w.number w.cause)
RestLate m s (group k p gs) = Unit {0}

-- ---- its frames

pub less : (q p n : ℕ) → q ≡ suc p + n → pred (q - n) ≡ p
less q p n e = ap pred (minus q p n e)
  where
    minus : (q p n : ℕ) → q ≡ suc p + n → q - n ≡ suc p
    minus q p n e = omega (arith, e)

pub none_more : (q p : ℕ) → q ≡ suc p → q ≡ suc p + 0
none_more q p e = omega (arith, e)

module _ (c : Code) where
  frame_fits : (n arms : ℕ) (f : Frame) → FrameStill c n f → FrameFits c n (kp.frame arms f)
  frame_fits n arms f a = record {
    locals = a.locals;
    stack = each_reverse (ValueFits n) f.stack a.stack;
    defers = each_reverse (IsBlock c) f.life.defers a.defers;
  }

  at_call : (f : Frame) → BehindCall c f.place → stand_at c (kp.frame 0 f).place ≡ calls
  at_call f a = ap (stand_at c) (less f.place a.0 0 (none_more f.place a.0 a.1)) ∙ a.2

  suit_above : (rest : KeptRest) (xs : List KeptFrame) (f : KeptFrame) → Each (λ (x : KeptFrame). stand_at c x.place ≡ calls) xs →
      RestSuits (stand_at c f.place) rest → FramesSuit c rest (xs ++ f ∷ [])
  suit_above rest [] f a b = b
  suit_above rest (x ∷ []) f a b = (a.0, b)
  suit_above rest (x ∷ y ∷ xs) f a b = (a.0, suit_above rest (y ∷ xs) f a.1 b)

  pub frames_number : (y : Task) → length (kp.task [] y).frames ≡ suc (length y.thread.below)
  frames_number y = length-append (map (kp.frame 0) (reverse y.thread.below)) (kp.frame (kp.arms_behind y.rest) y.thread.frame ∷ []) ∙
      sums _ _ (length-map (reverse y.thread.below) (kp.frame 0) ∙ length-reverse y.thread.below)
    where
      sums : (n m : ℕ) → n ≡ m → n + 1 ≡ suc m
      sums n m e = omega (arith, e)

  -- ---- what it waits for

  behind_none : (v : Val) (o : Option (List Val)) → behind v o ≡ None → o ≡ None
  behind_none v None e = refl
  behind_none v (Some vs) e = absurd (cc)

  one_runs : (gs : List Part) → all_did gs ≡ None → 1 ≤ count is_running (map kp.arm gs)
  one_runs [] e = absurd (cc)
  one_runs (did v ∷ gs) e = one_runs gs (behind_none v (all_did gs) e)
  one_runs (runs n ∷ gs) e = omega arith

  all_run : (gs : List Part) → first_did gs ≡ None → count is_running (map kp.arm gs) ≡ length (map kp.arm gs)
  all_run [] e = refl
  all_run (did v ∷ gs) e = absurd (cc)
  all_run (runs n ∷ gs) e = ap suc (all_run gs e)

  first_runs : (gs : List Part) → first_did gs ≡ None → 1 ≤ length gs → 1 ≤ count is_running (map kp.arm gs)
  first_runs gs e h = subst (λ n. 1 ≤ n) (sym (all_run gs e ∙ length-map gs kp.arm)) h

  group_stands : (n m p : ℕ) (gs : List Part) → NotYet (kind_of n) gs → 1 ≤ length gs → GroupStands (gathers n m p) (map kp.arm gs)
  group_stands zero m p gs e h = (one_runs gs e, inl refl)
  group_stands (suc zero) m p gs e h = (first_runs gs e h, inr (all_run gs e))
  group_stands (suc (suc n)) m p gs e h = (first_runs gs e h, inr (all_run gs e))

  arms_fit : (n : ℕ) (gs : List Part) → Each (PartFits n) gs → Each (ArmFits n) (map kp.arm gs)
  arms_fit n [] a = tt
  arms_fit n (did v ∷ gs) a = (a.0, arms_fit n gs a.1)
  arms_fit n (runs i ∷ gs) a = (tt, arms_fit n gs a.1)

  has_event : (s : State) (es : List ℕ) (e : ℕ) → Each (IsEvent s.memory.store) es → Has e es → IsEvent s.memory.store e
  has_event s [] e a h = absurd h
  has_event s (x ∷ es) e a (inl h) = subst (IsEvent s.memory.store) (sym h) a.0
  has_event s (x ∷ es) e a (inr h) = has_event s es e a.1 h

  still_runs : (m : ℕ) (rs : List (Option Given)) (e : ℕ) → Each (NoLater m) rs → e < length rs → Behind_ m (given_by (nth rs e)) →
      nth rs e ≡ Some None
  still_runs m [] e a h b = absurd (omega (arith, h))
  still_runs m (None ∷ rs) zero a h b = refl
  still_runs m (Some g ∷ rs) zero a h b = let d = a.0 in absurd (omega (arith, b, d))
  still_runs m (x ∷ rs) (suc e) a h b = still_runs m rs e a.1 (omega (arith, h)) b

  module _ (until : ℕ) (z : Scene) (s : State) (held : StateHeld c until z s) (ordered : Forest) where
    cause_fits : (n : ℕ) (q : Cause) → CauseFine c z q → Behind_ until (due_of s n q) → CauseFits (kept s ordered) q
    cause_fits n (till moment) a b = (early s.clock.now until moment held.now b, a)
      where
        early : (now until moment : ℕ) → now ≤ until → until < moment → now ≤ moment
        early now until moment e f = omega (arith, e, f)
    cause_fits n never a b = tt
    cause_fits n (done e) a b = still_runs until s.clock.results e held.results (subst (λ n. e < n) (sym held.fine.entries) a) b
    cause_fits n (heard d) a b = has_event s z.events d held.fine.memory.events a

    rest_suits : (place : ℕ) (q : Rest) → RestFine c z s.clock.next place q →
        RestSuits (stand_at c (pred (place - kp.arms_behind q))) (kp.rest q)
    rest_suits place (asleep w) a = let b = a.1 in
        subst (λ i. RestSuits (stand_at c i) (k.leaf w.number w.cause)) (sym (less place b.0 0 (none_more place b.0 b.1))) (b.2 w.number)
    rest_suits place (group j p gs) a = let b = a.0 in
        subst (λ i. RestSuits (stand_at c i) (k.group (map kp.arm gs))) (sym (less place b.index (length gs) b.is_behind))
        (subst (λ t. RestSuits t (k.group (map kp.arm gs))) (sym b.stand) (length-map gs kp.arm))

    rest_fits : (place : ℕ) (q : Rest) → RestFine c z s.clock.next place q → RestLate until s q →
        RestFits (kept s ordered) (stand_at c (pred (place - kp.arms_behind q))) (kp.rest q)
    rest_fits place (asleep w) a b = (a.0, cause_fits w.number w.cause a.2 b)
    rest_fits place (group j p gs) a b = let d = a.0 in (
      arms_fit (length s.clock.results) gs (subst (λ n. Each (PartFits n) gs) (sym held.fine.entries) a.2),
      subst (λ i. GroupStands (stand_at c i) (map kp.arm gs)) (sym (less place d.index (length gs) d.is_behind))
          (subst (λ t. GroupStands t (map
          kp.arm gs)) (sym d.stand) (group_stands d.number (length gs) d.where_at gs (subst (λ k. NotYet k gs) d.is_kind a.1) a.3)),
    )

    pub task_fits : (ys : List Task) (y : Task) → Each (λ (y : Task). WhoIs y.thread.who) ys → TaskFine c z s.clock.next y →
        RootRuns s.clock.results y → RestLate until s y.rest → suc (length y.thread.below) ≤ s.clock.spent →
        TaskFits c (kept s ordered) (kp.task ys y)
    task_fits ys y names a h b few = record {
      role = role_suits y.thread.who.up ys y.thread.who.number;
      root = root_fits s.clock.results ys y.thread.who y.thread.who.role a.still.named h names;
      few = subst (λ n. n ≤ s.clock.spent) (sym (frames_number y)) few;
      suit = suit_above (kp.rest y.rest) (map (kp.frame 0) (reverse y.thread.below)) (kp.frame (kp.arms_behind y.rest) y.thread.frame)
          (each_map (λ (x : KeptFrame). stand_at c x.place ≡ calls) (kp.frame 0) (reverse y.thread.below)
          (each_reverse (λ (f : Frame). stand_at c (kp.frame 0 f).place ≡ calls) y.thread.below (lower_calls y.thread.below a.still.below)))
          (rest_suits y.thread.frame.place y.rest a.rest);
      frames = subst (λ n. Each (FrameFits c n) (kp.task ys y).frames) (sym held.fine.entries)
          (each_join (FrameFits c z.entries) (map (kp.frame 0) (reverse y.thread.below))
          (kp.frame (kp.arms_behind y.rest) y.thread.frame ∷ [])
          (each_map (FrameFits c z.entries) (kp.frame 0) (reverse y.thread.below)
          (each_reverse (λ (f : Frame). FrameFits c z.entries (kp.frame 0 f)) y.thread.below (lower_fits y.thread.below a.still.below)))
          (frame_fits z.entries (kp.arms_behind y.rest) y.thread.frame a.still.frame, tt));
      rest = subst (λ i. RestFits (kept s ordered) (stand_at c i) (kp.rest y.rest))
          (sym (top_is (map (kp.frame 0) (reverse y.thread.below)) (kp.frame (kp.arms_behind y.rest) y.thread.frame)))
          (rest_fits y.thread.frame.place y.rest a.rest b);
    }
      where
        lower_calls : (fs : List Frame) → Each (LowerStill c z.entries) fs →
            Each (λ (f : Frame). stand_at c (kp.frame 0 f).place ≡ calls) fs
        lower_calls [] a = tt
        lower_calls (f ∷ fs) a = (at_call f a.0.1, lower_calls fs a.1)

        lower_fits : (fs : List Frame) → Each (LowerStill c z.entries) fs → Each (λ (f : Frame). FrameFits c z.entries (kp.frame 0 f)) fs
        lower_fits [] a = tt
        lower_fits (f ∷ fs) a = (frame_fits z.entries 0 f a.0.0, lower_fits fs a.1)
