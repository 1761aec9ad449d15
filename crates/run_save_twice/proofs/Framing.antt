-- The tasks that a fitting shot spells hold what the tasks of a run do between two turns.
use Rattle.std.proofs.Common.{◌≡◌, ℕ, zero, suc, ◌+◌, ◌≤◌, ◌⊎◌, inl, inr, List, [], ◌∷◌, ◌++◌, length, Option, Some}
use Rattle.std.proofs.Common.{None}
use Rattle.std.proofs.Common.{refl, sym, ap, subst, ◌∙◌, arith}
use Rattle.verse_code.specs.declared.codes.Code.{Code}
use Rattle.verse_code.specs.Validity.{Valid}
use Rattle.verse_value.specs.Val.{Val}
use Rattle.verse_meaning_state.specs.Waits.{Cause, till, never, done, heard}
use Rattle.verse_meaning_state.proofs.Numbers.{nth_within}
use Rattle.verse_code_machine.specs.Tasks.{Frame, group, Task}
use Rattle.verse_code_machine.specs.Ends.{all_did, first_did}
use Rattle.verse_code_machine.specs.Frames.{behind}
use Rattle.verse_code_machine.specs.Acts.{kind_of, place_at}
use Rattle.verse_code_machine_parents.specs.Parents.{Born}
use Rattle.run_save_shots.specs.Lists.{Each, count}
use Rattle.run_save_shots.specs.Kept as k
use Rattle.run_save_shots.specs.Kept.{KeptFrame, KeptRest, KeptTask, Kept}
use Rattle.run_save_shots.specs.Fitting.{ValueFits, ArmFits, IsBlock, FrameFits, FramesSuit, RestSuits, Stand, calls, sleeps, stays}
use Rattle.run_save_shots.specs.Fitting.{awaits_task}
use Rattle.run_save_shots.specs.Fitting.{awaits_event, gathers, goes_on, stand_at, CauseFits, is_running, GroupStands, RestFits, top_place}
use Rattle.run_save_shots.specs.Fitting.{TaskFits}
use Rattle.run_save_shots.specs.Fitting.{task_stand, arms_of}
use Rattle.run_save_shots.specs.Naming.{number_at}
use Rattle.run_save_shots.specs.Spelling.{frame, frames_from, parts_from, rest, or_nowhere, gathered}
use Rattle.run_save_moves.specs.Fine.{Scene, IsEvent}
use Rattle.run_save_moves.specs.Moves.{NotYet, PartFits}
use Rattle.run_save_fits.specs.Held.{Has, WhoIs, FrameStill, LowerStill, CauseFine, RestFine, TaskFine}
use Rattle.run_save_fits.proofs.KeptTasks.{each_reverse}
use Rattle.run_save_twice.proofs.Gathered.{source_there}
use Rattle.run_save_twice.proofs.Linked.{IsOf}

-- ---- the events that are waited for

abbrev event_before : KeptRest → List ℕ → List ℕ
event_before (k.leaf number (till moment)) es = es
event_before (k.leaf number never) es = es
event_before (k.leaf number (done entry)) es = es
event_before (k.leaf number (heard event)) es = event ∷ es
event_before (k.group arms) es = es

abbrev pub events_in : List KeptTask → List ℕ
events_in [] = []
events_in (t ∷ ts) = event_before t.rest (events_in ts)

has_more : (r : KeptRest) (e : ℕ) (es : List ℕ) → Has e es → Has e (event_before r es)
has_more (k.leaf number (till moment)) e es h = h
has_more (k.leaf number never) e es h = h
has_more (k.leaf number (done entry)) e es h = h
has_more (k.leaf number (heard event)) e es h = inr h
has_more (k.group arms) e es h = h

has_event : (before : List KeptTask) (t : KeptTask) (ts : List KeptTask) (number event : ℕ) → t.rest ≡ k.leaf number (heard event) →
    Has event (events_in (before ++ t ∷ ts))
has_event [] t ts number event e = subst (λ r. Has event (event_before r (events_in ts))) (sym e) (inl refl)
has_event (x ∷ before) t ts number event e =
    has_more x.rest event (events_in (before ++ t ∷ ts)) (has_event before t ts number event e)

-- ---- the scene

abbrev pub scene : Kept → Scene
scene s = record { entries = length s.spawned; bytes = s.bytes; events = events_in s.tasks }

module _ (c : Code) (s : Kept) where
  one_event : (st : Stand) (r : KeptRest) (es : List ℕ) → RestFits s st r → Each (IsEvent s.cells) es →
      Each (IsEvent s.cells) (event_before r es)
  one_event st (k.leaf number (till moment)) es f a = a
  one_event st (k.leaf number never) es f a = a
  one_event st (k.leaf number (done entry)) es f a = a
  one_event st (k.leaf number (heard event)) es f a = (f.1, a)
  one_event st (k.group arms) es f a = a

  pub events_fit : (ts : List KeptTask) → Each (TaskFits c s) ts → Each (IsEvent s.cells) (events_in ts)
  events_fit [] a = tt
  events_fit (t ∷ ts) a = one_event (task_stand c t) t.rest (events_in ts) a.0.rest (events_fit ts a.1)

  -- ---- frames

  still_frame : (n b arms : ℕ) (f : KeptFrame) → FrameFits c n f → FrameStill c n (frame b arms f)
  still_frame n b arms f a = record {
    locals = a.locals;
    stack = each_reverse (ValueFits n) f.stack a.stack;
    defers = each_reverse (IsBlock c) f.defers a.defers;
    handlers = refl;
  }

  -- the top one stands at the place, and the others behind calls
  abbrev Stands : (n place : ℕ) → List Frame → Type 0
  Stands n place [] = ⊥
  Stands n place (f ∷ fs) = FrameStill c n f × ((f.place ≡ place) × Each (LowerStill c n) fs)

  stands : (n at : ℕ) (t : KeptTask) (ts : List KeptTask) (r : KeptRest) (depth : ℕ) (fs : List KeptFrame) (below : List Frame) →
      FramesSuit c r fs → Each (FrameFits c n) fs → Each (LowerStill c n) below →
      Stands n (suc (top_place fs) + length (arms_of t.rest)) (frames_from c s at t ts depth fs below)
  stands n at t ts r depth [] below suit fit lower = absurd suit
  stands n at t ts r depth (f ∷ []) below suit fit lower = (still_frame n _ _ f fit.0, (refl, lower))
  stands n at t ts r depth (f ∷ g ∷ fs) below suit fit lower =
      stands n at t ts r (suc depth) (g ∷ fs) _ suit.1 fit.1 ((still_frame n _ _ f fit.0, (f.place, no_arms f.place, suit.0)), lower)
    where
      no_arms : (place : ℕ) → suc place + 0 ≡ suc place
      no_arms place = omega arith

  -- the lowest one is as old as the task
  abbrev pub FramesBorn : ℕ → List Frame → Type 0
  FramesBorn n [] = ⊥
  FramesBorn n (f ∷ fs) = Born n f.life f.handlers fs

  born_on : (n at : ℕ) (t : KeptTask) (ts : List KeptTask) (depth : ℕ) (fs : List KeptFrame) (below : List Frame) → FramesBorn n below →
      FramesBorn n (frames_from c s at t ts depth fs below)
  born_on n at t ts depth [] below b = b
  born_on n at t ts depth (f ∷ fs) [] b = absurd b
  born_on n at t ts depth (f ∷ fs) (g ∷ below) b = born_on n at t ts (suc depth) fs _ b

  frames_born : (at : ℕ) (t : KeptTask) (ts : List KeptTask) (r : KeptRest) (fs : List KeptFrame) → FramesSuit c r fs →
      FramesBorn (number_at s (t ∷ ts)) (frames_from c s at t ts 0 fs [])
  frames_born at t ts r [] suit = absurd suit
  frames_born at t ts r (f ∷ fs) suit = born_on (number_at s (t ∷ ts)) at t ts 1 fs _ (refl, tt)

  -- ---- what it waits for

  suits_top : (r : KeptRest) (fs : List KeptFrame) → FramesSuit c r fs → RestSuits (stand_at c (top_place fs)) r
  suits_top r [] suit = absurd suit
  suits_top r (f ∷ []) suit = suit
  suits_top r (f ∷ g ∷ fs) suit = suits_top r (g ∷ fs) suit.1

  -- whatever its number
  suits_any : (st : Stand) (n m : ℕ) (q : Cause) → RestSuits st (k.leaf n q) → RestSuits st (k.leaf m q)
  suits_any calls n m q h = absurd h
  suits_any sleeps n m (till moment) h = tt
  suits_any sleeps n m never h = absurd h
  suits_any sleeps n m (done entry) h = absurd h
  suits_any sleeps n m (heard event) h = absurd h
  suits_any stays n m (till moment) h = absurd h
  suits_any stays n m never h = tt
  suits_any stays n m (done entry) h = absurd h
  suits_any stays n m (heard event) h = absurd h
  suits_any awaits_task n m (till moment) h = absurd h
  suits_any awaits_task n m never h = absurd h
  suits_any awaits_task n m (done entry) h = tt
  suits_any awaits_task n m (heard event) h = absurd h
  suits_any awaits_event n m (till moment) h = absurd h
  suits_any awaits_event n m never h = absurd h
  suits_any awaits_event n m (done entry) h = absurd h
  suits_any awaits_event n m (heard event) h = tt
  suits_any (gathers i j p) n m q h = absurd h
  suits_any goes_on n m q h = absurd h

  cause_fine : (before : List KeptTask) (t : KeptTask) (ts : List KeptTask) (number : ℕ) (q : Cause) → s.tasks ≡ before ++ t ∷ ts →
      t.rest ≡ k.leaf number q → CauseFits s q → CauseFine c (scene s) q
  cause_fine before t ts number (till moment) all e f = f.1
  cause_fine before t ts number never all e f = tt
  cause_fine before t ts number (done entry) all e f = nth_within s.spawned entry None f
  cause_fine before t ts number (heard event) all e f =
      subst (λ xs. Has event (events_in xs)) (sym all) (has_event before t ts number event e)

  module _ (at : ℕ) (t : KeptTask) (ts : List KeptTask) where
    pub parts_long : (place : ℕ) (vs : List (Option Val)) → length (parts_from c s at t ts place vs) ≡ length vs
    parts_long place [] = refl
    parts_long place (Some v ∷ vs) = ap suc (parts_long (suc place) vs)
    parts_long place (None ∷ vs) = ap suc (parts_long (suc place) vs)

    parts_fit : (n place : ℕ) (vs : List (Option Val)) → Each (ArmFits n) vs → Each (PartFits n) (parts_from c s at t ts place vs)
    parts_fit n place [] a = tt
    parts_fit n place (Some v ∷ vs) a = (a.0, parts_fit n (suc place) vs a.1)
    parts_fit n place (None ∷ vs) a = (tt, parts_fit n (suc place) vs a.1)

    not_all : (place : ℕ) (vs : List (Option Val)) → 1 ≤ count is_running vs → all_did (parts_from c s at t ts place vs) ≡ None
    not_all place [] l = absurd (omega (arith, l))
    not_all place (Some v ∷ vs) l = ap (λ o. behind v o) (not_all (suc place) vs l)
    not_all place (None ∷ vs) l = refl

    counted : (vs : List (Option Val)) → count is_running vs ≤ length vs
    counted [] = omega arith
    counted (Some v ∷ vs) = let l = counted vs in omega (arith, l)
    counted (None ∷ vs) = let l = counted vs in omega (arith, l)

    none_did : (place : ℕ) (vs : List (Option Val)) → count is_running vs ≡ length vs → first_did (parts_from c s at t ts place vs) ≡ None
    none_did place [] e = refl
    none_did place (Some v ∷ vs) e = let l = counted vs in absurd (omega (arith, e, l))
    none_did place (None ∷ vs) e = none_did (suc place) vs (omega (arith, e))

    not_yet : (i : ℕ) (vs : List (Option Val)) → 1 ≤ count is_running vs → (i ≡ 0) ⊎ (count is_running vs ≡ length vs) →
        NotYet (kind_of i) (parts_from c s at t ts 0 vs)
    not_yet zero vs l e = not_all 0 vs l
    not_yet (suc zero) vs l (inl e) = absurd (omega (arith, e))
    not_yet (suc zero) vs l (inr e) = none_did 0 vs e
    not_yet (suc (suc i)) vs l (inl e) = absurd (omega (arith, e))
    not_yet (suc (suc i)) vs l (inr e) = none_did 0 vs e

    group_fine : (place i m p : ℕ) (vs : List (Option Val)) → Valid c → stand_at c (top_place t.frames) ≡ gathers i m p → length vs ≡ m →
        Each (ArmFits (length s.spawned)) vs → GroupStands (gathers i m p) vs → place ≡ suc (top_place t.frames) + length vs →
        RestFine c (scene s) s.next place (group (kind_of i) (or_nowhere (place_at c p)) (parts_from c s at t ts 0 vs))
    group_fine place i m p vs valid stand long fit g e = (
      record {
        index = top_place t.frames;
        number = i;
        where_at = p;
        is_behind = e ∙ ap (λ n. suc (top_place t.frames) + n) (sym (parts_long 0 vs));
        stand = stand ∙ ap (λ n. gathers i n p) (sym (parts_long 0 vs ∙ long));
        is_kind = refl;
        is_source = source_there c (top_place t.frames) i m p valid stand;
      },
      not_yet i vs g.0 g.1,
      parts_fit (length s.spawned) 0 vs fit,
      some (length vs) (length (parts_from c s at t ts 0 vs)) (count is_running vs) (parts_long 0 vs) g.0 (counted vs),
    )
      where
        some : (n m k : ℕ) → m ≡ n → 1 ≤ k → k ≤ n → 1 ≤ m
        some n m k e f g = omega (arith, e, f, g)

  rest_fine : (before : List KeptTask) (t : KeptTask) (ts : List KeptTask) (place : ℕ) → Valid c → s.tasks ≡ before ++ t ∷ ts →
      TaskFits c s t →
      place ≡ suc (top_place t.frames) + length (arms_of t.rest) → RestFine c (scene s) s.next place (rest c s (length before) t ts t.rest)
  rest_fine before t ts place valid all fit e =
      of t.rest refl (suits_top t.rest t.frames fit.suit) fit.rest e
    where
      at_group : (vs : List (Option Val)) (st : Stand) → task_stand c t ≡ st → RestSuits st (k.group vs) → RestFits s st (k.group vs) →
          place ≡ suc (top_place t.frames) + length vs →
          RestFine c (scene s) s.next place (gathered c st (parts_from c s (length before) t ts 0 vs))
      at_group vs calls f suit fits e = absurd suit
      at_group vs sleeps f suit fits e = absurd suit
      at_group vs stays f suit fits e = absurd suit
      at_group vs awaits_task f suit fits e = absurd suit
      at_group vs awaits_event f suit fits e = absurd suit
      at_group vs (gathers i m p) f suit fits e = group_fine (length before) t ts place i m p vs valid f suit fits.0 fits.1 e
      at_group vs goes_on f suit fits e = absurd suit

      of : (r : KeptRest) → t.rest ≡ r → RestSuits (stand_at c (top_place t.frames)) r → RestFits s (task_stand c t) r →
          place ≡ suc (top_place t.frames) + length (arms_of r) → RestFine c (scene s) s.next place (rest c s (length before) t ts r)
      of (k.leaf number q) f suit fits e = (
        fits.0,
        (top_place t.frames, plain (top_place t.frames) e, (λ n. suits_any (stand_at c (top_place t.frames)) number n q suit)),
        cause_fine before t ts number q all f fits.1,
      )
        where
          plain : (n : ℕ) → place ≡ suc n + 0 → place ≡ suc n
          plain n h = omega (arith, h)
      of (k.group arms) f suit fits e = at_group arms (task_stand c t) refl suit fits e

  -- ---- a task

  task_fine : (before : List KeptTask) (t : KeptTask) (ts : List KeptTask) (y : Task) → Valid c → s.tasks ≡ before ++ t ∷ ts →
      TaskFits c s t →
      WhoIs y.thread.who → y.rest ≡ rest c s (length before) t ts t.rest →
      y.thread.frame ∷ y.thread.below ≡ frames_from c s (length before) t ts 0 t.frames [] → TaskFine c (scene s) s.next y
  task_fine before t ts y valid all fit named rest_is frames =
      let a : Stands (length s.spawned) (suc (top_place t.frames) + length (arms_of t.rest)) (y.thread.frame ∷ y.thread.below) =
      subst (λ fs. Stands (length s.spawned) (suc (top_place t.frames) + length (arms_of t.rest)) fs) (sym frames)
      (stands (length s.spawned) (length before) t ts t.rest 0 t.frames [] fit.suit fit.frames tt) in
      record {
        still = record { named = named; frame = a.0; below = a.1.1 };
        rest = subst (λ r. RestFine c (scene s) s.next y.thread.frame.place r) (sym rest_is)
            (rest_fine before t ts y.thread.frame.place valid all fit a.1.0);
      }

  pub of_fine : (ys : List Task) (before : List KeptTask) (t : KeptTask) (ts : List KeptTask) (y : Task) → Valid c → TaskFits c s t →
      WhoIs y.thread.who → IsOf c s ys before t ts y → TaskFine c (scene s) s.next y
  of_fine ys before t ts y valid fit named of = task_fine before t ts y valid of.all fit named of.rest_is of.frames

  -- its lowest frame began with it
  pub of_born : (ys : List Task) (before : List KeptTask) (t : KeptTask) (ts : List KeptTask) (y : Task) → TaskFits c s t →
      IsOf c s ys before t ts y → y.thread.who.number ≡ number_at s (t ∷ ts) →
      Born y.thread.who.number y.thread.frame.life y.thread.frame.handlers y.thread.below
  of_born ys before t ts y fit of e =
      subst (λ n. Born n y.thread.frame.life y.thread.frame.handlers y.thread.below) (sym e)
      (subst (λ fs. FramesBorn (number_at s (t ∷ ts)) fs) (sym of.frames) (frames_born (length before) t ts t.rest t.frames fit.suit))
