-- Tasks that fit are read.
use Rattle.std.proofs.Common.{◌≡◌, ◌≢◌, ℕ, zero, suc, ◌-◌, ◌<◌, ◌≤◌, Bool, true, false, cond, ltb, eqb, List, [], ◌∷◌, ◌++◌}
use Rattle.std.proofs.Common.{length, Option, Some, None, slice_get, Ok, refl, sym, ap, subst, ◌∙◌}
use Rattle.std.proofs.Common.{arith, append_assoc, eq-eqb}
use Rattle.std.specs.Prelude.{option_map}
use Rattle.std.proofs.lemmas.Bool.{lt-ltb, eqb-true}
use Rattle.task_tree.specs.declared.tasks.Role.{Role}
use Rattle.task_tree.specs.declared.tasks.Role.TheVariants.{Root, Arm, Behind}
use Rattle.task_tree.specs.Tasks.{suits}
use Rattle.verse_image.specs.Format.{byte, number, each}
use Rattle.verse_image.specs.Reading.{◌>>=◌}
use Rattle.verse_code.specs.declared.codes.Code.{Code}
use Rattle.verse_value.specs.Val.{Val}
use Rattle.verse_value.specs.Store.{Cell}
use Rattle.verse_value.specs.declared.runs.CellKind.{CellKind}
use Rattle.verse_value.specs.declared.runs.CellKind.TheVariants as cell
use Rattle.verse_meaning_state.specs.State.{Given}
use Rattle.verse_meaning_state.specs.Waits.{Cause, till, never, done, heard, nth}
use Rattle.verse_base.specs.declared.limits.TheConstants.{MOST_MOMENT}
use Rattle.verse_meaning_state.proofs.Numbers.{nth_is}
use Rattle.run_save_shots.specs.Lists.{Each, AreDistinct}
use Rattle.run_save_shots.specs.Kept.{KeptFrame, KeptRest, leaf, group, KeptTask, Kept}
use Rattle.run_save_shots.specs.Fitting.{ArmFits, CauseFits, FrameFits, FramesSuit, IsBlock, RestFits, RestSuits, RootFits, Stand, TaskFits}
use Rattle.run_save_shots.specs.Fitting.{ValueFits, calls, sleeps, stays, awaits_task, awaits_event, gathers, goes_on, stand_at}
use Rattle.run_save_shots.specs.Fitting.{top_place, waits_in}
use Rattle.run_save_format.specs.declared.weights.Numbers.{Numbers}
use Rattle.run_save_format.specs.Format.{wide, list, maybe, value, standing, frame, cause, rest_field, task_field}
use Rattle.run_save_format.specs.Values.{small_where}
use Rattle.run_save_format.specs.Reading.{Known, cause_form, cause_of, contains, defers_at, form_at, frame_at, frames_at, frames_from}
use Rattle.run_save_format.specs.Reading.{free_value_at, group_at, is_block, is_call, is_entry}
use Rattle.run_save_format.specs.Reading.{is_event, is_running, leaf_at, maybe_at, may_stand, noted_at, place_at, rest_at, root_at}
use Rattle.run_save_format.specs.Reading.{standing_at, suspends, task_at, tasks_at, wait_at}
use Rattle.run_save_format.proofs.Lefts.{IfThere}
use Rattle.run_save_restores.proofs.Numbers.{Gives, GivesNext, Noted, gives_byte, gives_each, gives_flag, gives_in, gives_many}
use Rattle.run_save_restores.proofs.Numbers.{gives_maybe, gives_most, gives_noted, gives_optional, gives_small, gives_where, gives_wide}
use Rattle.run_save_restores.proofs.Values.{gives_free, gives_frees}
use Rattle.run_save_restores.proofs.Stores.{GivesAll}

-- ---- a number of one form

gives_form : (forms form : ℕ) → form ≤ forms - 1 → form < 128 → Gives (byte form) (form_at forms form) form
unfolding form_at
gives_form forms form few low bytes rest h =
    let same : eqb form form ≡ true = eq-eqb form form refl in
    rw (gives_in 4 0 (forms - 1) form (gives_byte form low) (omega arith) few bytes rest h, same) refl

-- ---- places

block_is : (c : Code) (n : ℕ) → IsBlock c n → is_block c n ≡ true
block_is c zero p = absurd p
block_is c (suc n) p = p

call_is : (s : Stand) → s ≡ calls → is_call s ≡ true
call_is s e = ap is_call e

-- a task waits where its top frame stands
suspends_is : (s : Stand) (rest : KeptRest) → RestSuits s rest → suspends s ≡ true
suspends_is sleeps rest p = refl
suspends_is stays rest p = refl
suspends_is awaits_task rest p = refl
suspends_is awaits_event rest p = refl
suspends_is (gathers k m at) rest p = refl
suspends_is calls rest p = absurd p
suspends_is goes_on rest p = absurd p

running_is : (spawned : List (Option Given)) (n : ℕ) → nth spawned n ≡ Some None → is_running (slice_get spawned n) ≡ true
running_is spawned n e = ap is_running (sym (nth_is spawned n) ∙ e)

event_is : (o : Option Cell) → option_map (λ (c : Cell). c.kind) o ≡ Some cell.Event → is_event o ≡ true
event_is None e = absurd (cc)
event_is (Some c) e = kind c.kind (let same : c.kind ≡ cell.Event = cc in same)
  where
    kind : (k : CellKind) → k ≡ cell.Event → is_event (Some (record { kind = k; slots = c.slots })) ≡ true
    kind k f = rw f refl

-- ---- waits that are none of those before

none_last : (n m : ℕ) (ms ns : List ℕ) → Each (λ k. m ≢ k) (ms ++ n ∷ ns) → m ≢ n
none_last n m [] ns p = p.0
none_last n m (k ∷ ms) ns p = none_last n m ms ns p.1

not_there : (n : ℕ) (ws ns : List ℕ) → AreDistinct (ws ++ n ∷ ns) → contains n ws ≡ false
not_there n [] ns p = refl
not_there n (m ∷ ws) ns p = two (eqb n m) refl (not_there n ws ns p.1)
  where
    two : (t : Bool) → eqb n m ≡ t → contains n ws ≡ false → cond t true (contains n ws) ≡ false
    two true e f = absurd (none_last n m ws ns p.0 (sym (eqb-true n m e)))
    two false e f = f

-- ---- one task

abbrev pub numbers_of : Kept → Numbers
numbers_of s = record { left = s.left; spent = s.spent; now = s.now; next = s.next; bytes = s.bytes; lines = s.lines }

module _ (c : Code) (s : Kept) where
  -- against what its tasks are read
  abbrev pub known : Known
  known = record { code = c; numbers = numbers_of s; cells = s.cells; spawned = s.spawned }

  abbrev entries : ℕ
  entries = length s.spawned

  gives_defers : (ds : List ℕ) → Each (IsBlock c) ds → Gives (list number ds) (defers_at known) ds
  unfolding defers_at
  gives_defers ds fit bytes rest h =
      rw (
        gives_wide (length ds) bytes h.0 h.1,
        gives_many number (small_where (is_block c)) (IsBlock c) (λ d p. gives_where (is_block c) d (block_is c d p)) ds fit h.0 rest h.2,
      ) refl

  gives_frame : (above : ℕ) (f : KeptFrame) → may_stand above (stand_at c f.place) ≡ true → FrameFits c entries f →
      Gives (frame f) (frame_at known above) f
  unfolding frame_at place_at
  gives_frame above f stands fit bytes rest h =
      rw (
        gives_where (λ n. may_stand above (stand_at c n)) f.place stands bytes h.1.1.0 h.1.1.1,
        gives_frees entries f.locals fit.locals h.1.1.0 h.1.0 h.1.1.2,
        gives_frees entries f.stack fit.stack h.1.0 h.0 h.1.2,
        gives_defers f.defers fit.defers h.0 rest h.2,
      ) refl

  gives_frames_from : (fs : List KeptFrame) (r : KeptRest) → FramesSuit c r fs → Each (FrameFits c entries) fs →
      Gives (each frame fs) (frames_from known (length fs)) fs
  unfolding frames_from
  gives_frames_from [] r suit fit bytes rest h = absurd suit
  gives_frames_from (f ∷ []) r suit fit bytes rest h =
      rw (gives_frame 0 f (suspends_is (stand_at c f.place) r suit) fit.0 bytes h.0 h.1) (ap (λ w. Ok (f ∷ [], w)) h.2)
  gives_frames_from (f ∷ g ∷ fs) r suit fit bytes rest h =
      rw (
        gives_frame (length (g ∷ fs)) f (call_is (stand_at c f.place) suit.0) fit.0 bytes h.0 h.1,
        gives_frames_from (g ∷ fs) r suit.1 fit.1 h.0 rest h.2,
      ) refl

  some_frames : (fs : List KeptFrame) (r : KeptRest) → FramesSuit c r fs → 1 ≤ length fs
  some_frames [] r suit = absurd suit
  some_frames (f ∷ fs) r suit = omega arith

  top_suits : (fs : List KeptFrame) (r : KeptRest) → FramesSuit c r fs → RestSuits (stand_at c (top_place fs)) r
  top_suits [] r suit = absurd suit
  top_suits (f ∷ []) r suit = suit
  top_suits (f ∷ g ∷ fs) r suit = top_suits (g ∷ fs) r suit.1

  gives_frames : (fs : List KeptFrame) (r : KeptRest) → FramesSuit c r fs → Each (FrameFits c entries) fs → length fs ≤ s.spent →
      Gives (list frame fs) (frames_at known) fs
  unfolding frames_at
  gives_frames fs r suit fit few bytes rest h =
      rw (
        gives_in 5 1 s.spent (length fs) (gives_wide (length fs)) (some_frames fs r suit) few bytes h.0 h.1,
        gives_frames_from fs r suit fit h.0 rest h.2,
      ) refl

  -- ---- what is waited for

  record GivesCause (stand : Stand) (cs : Cause) (bytes rest : List ℕ) : Type 0 where
    behind : List ℕ
    form : form_at 4 (cause_form stand) bytes ≡ Ok (cause_form stand, behind)
    read : cause_of known stand behind ≡ Ok (cs, rest)

  gives_cause : (stand : Stand) (n : ℕ) (cs : Cause) (bytes rest : List ℕ) → RestSuits stand (leaf n cs) → CauseFits s cs →
      cause cs bytes rest → GivesCause stand cs bytes rest
  unfolding cause_of
  gives_cause sleeps n (till moment) bytes rest suit fit h =
      record {
        behind = h.0;
        form = gives_form 4 0 (omega arith) (omega arith) bytes h.0 h.1;
        read = rw (gives_in 5 s.now MOST_MOMENT moment (gives_wide moment) fit.0 fit.1 h.0 rest h.2) refl;
      }
  gives_cause stays n never bytes rest suit fit h =
      record { behind = rest; form = gives_form 4 1 (omega arith) (omega arith) bytes rest h; read = refl }
  gives_cause awaits_task n (done entry) bytes rest suit fit h =
      record {
        behind = h.0;
        form = gives_form 4 2 (omega arith) (omega arith) bytes h.0 h.1;
        read =
            rw (gives_where (λ e. is_running (slice_get s.spawned e)) entry (running_is s.spawned entry fit) h.0 rest h.2) refl;
      }
  gives_cause awaits_event n (heard event) bytes rest suit fit h =
      record {
        behind = h.0;
        form = gives_form 4 3 (omega arith) (omega arith) bytes h.0 h.1;
        read = rw (gives_where (λ e. is_event (slice_get s.cells e)) event (event_is (slice_get s.cells event) fit) h.0 rest h.2) refl;
      }
  gives_cause sleeps n never bytes rest suit fit h = absurd suit
  gives_cause sleeps n (done entry) bytes rest suit fit h = absurd suit
  gives_cause sleeps n (heard event) bytes rest suit fit h = absurd suit
  gives_cause stays n (till moment) bytes rest suit fit h = absurd suit
  gives_cause stays n (done entry) bytes rest suit fit h = absurd suit
  gives_cause stays n (heard event) bytes rest suit fit h = absurd suit
  gives_cause awaits_task n (till moment) bytes rest suit fit h = absurd suit
  gives_cause awaits_task n never bytes rest suit fit h = absurd suit
  gives_cause awaits_task n (heard event) bytes rest suit fit h = absurd suit
  gives_cause awaits_event n (till moment) bytes rest suit fit h = absurd suit
  gives_cause awaits_event n never bytes rest suit fit h = absurd suit
  gives_cause awaits_event n (done entry) bytes rest suit fit h = absurd suit
  gives_cause calls n cs bytes rest suit fit h = absurd suit
  gives_cause goes_on n cs bytes rest suit fit h = absurd suit
  gives_cause (gathers k m at) n cs bytes rest suit fit h = absurd suit

  gives_wait : (ws : List ℕ) (n : ℕ) → n < s.next → contains n ws ≡ false → Gives (wide n) (wait_at known ws) n
  unfolding wait_at
  gives_wait ws n low new bytes rest h =
      let one : ltb n s.next ≡ true = lt-ltb _ _ low in
      rw (gives_wide n bytes rest h, one, new) refl

  gives_leaf : (stand : Stand) (ws : List ℕ) (n : ℕ) (cs : Cause) (bytes behind rest : List ℕ) → RestSuits stand (leaf n cs) →
      n < s.next → CauseFits s cs → contains n ws ≡ false → wide n bytes behind → cause cs behind rest →
      leaf_at known stand ws bytes ≡ Ok ((leaf n cs, ws ++ n ∷ []), rest)
  unfolding leaf_at
  gives_leaf stand ws n cs bytes behind rest suit low fit new h k =
      let caused = gives_cause stand n cs behind rest suit fit k in
      rw (gives_wait ws n low new bytes behind h, caused.form, caused.read) refl

  if_arm : (arms : List (Option Val)) → Each (ArmFits entries) arms → Each (IfThere (ValueFits entries)) arms
  if_arm [] fit = tt
  if_arm (None ∷ arms) fit = (tt, if_arm arms fit.1)
  if_arm (Some v ∷ arms) fit = (fit.0, if_arm arms fit.1)

  gives_group : (ws : List ℕ) (m : ℕ) (arms : List (Option Val)) → length arms ≡ m → Each (ArmFits entries) arms →
      Gives (list (maybe value) arms) (group_at known m ws) (group arms, ws)
  unfolding group_at
  gives_group ws m arms long fit bytes rest h =
      rw (
        gives_in 5 m m (length arms) (gives_wide (length arms)) (omega arith) (omega arith) bytes h.0 h.1,
        gives_many (maybe value) (maybe_at (free_value_at entries)) (IfThere (ValueFits entries))
            (gives_maybe value (free_value_at entries) (ValueFits entries) (gives_free entries)) arms (if_arm arms fit) h.0 rest h.2,
      ) refl

  -- its wait's number is none of these, and with it
  abbrev NewWait : List ℕ → KeptRest → Type 0
  NewWait ws (leaf n cs) = contains n ws ≡ false
  NewWait ws (group arms) = Unit {0}

  abbrev waits_with : List ℕ → KeptRest → List ℕ
  waits_with ws (leaf n cs) = ws ++ n ∷ []
  waits_with ws (group arms) = ws

  as_leaf : (stand : Stand) (ws : List ℕ) (n : ℕ) (cs : Cause) (bytes : List ℕ) → RestSuits stand (leaf n cs) →
      rest_at known stand ws bytes ≡ (form_at 2 0 bytes >>= λ form. leaf_at known stand ws form.1)
  unfolding rest_at
  as_leaf sleeps ws n cs bytes suit = refl
  as_leaf stays ws n cs bytes suit = refl
  as_leaf awaits_task ws n cs bytes suit = refl
  as_leaf awaits_event ws n cs bytes suit = refl
  as_leaf calls ws n cs bytes suit = refl
  as_leaf goes_on ws n cs bytes suit = refl
  as_leaf (gathers k m at) ws n cs bytes suit = absurd suit

  gives_rest : (stand : Stand) (ws : List ℕ) (r : KeptRest) → RestSuits stand r → RestFits s stand r → NewWait ws r →
      Gives (rest_field r) (rest_at known stand ws) (r, waits_with ws r)
  unfolding rest_at
  gives_rest stand ws (leaf n cs) suit fit new bytes rest h =
      as_leaf stand ws n cs bytes suit ∙ rw (
        gives_form 2 0 (omega arith) (omega arith) bytes h.1.0 h.1.1,
        gives_leaf stand ws n cs h.1.0 h.0 rest suit fit.0 fit.1 new h.1.2 h.2,
      ) refl
  gives_rest (gathers k m at) ws (group arms) suit fit new bytes rest h =
      rw (gives_form 2 1 (omega arith) (omega arith) bytes h.0 h.1) (gives_group ws m arms suit fit.0 h.0 rest h.2)
  gives_rest sleeps ws (group arms) suit fit new bytes rest h = absurd suit
  gives_rest stays ws (group arms) suit fit new bytes rest h = absurd suit
  gives_rest awaits_task ws (group arms) suit fit new bytes rest h = absurd suit
  gives_rest awaits_event ws (group arms) suit fit new bytes rest h = absurd suit
  gives_rest calls ws (group arms) suit fit new bytes rest h = absurd suit
  gives_rest goes_on ws (group arms) suit fit new bytes rest h = absurd suit

  -- ---- how it stands to its parent

  entry_is : (root : Option ℕ) → RootFits entries None root → is_entry known root ≡ true
  entry_is None fit = refl
  entry_is (Some entry) fit = lt-ltb _ _ fit

  gives_standing : (parent : Option ℕ) (role : Role) (root : Option ℕ) → suits parent role ≡ true → RootFits entries parent root →
      Gives (standing parent role root) (standing_at known parent) (role, root)
  unfolding standing_at root_at
  gives_standing None Root root suit fit bytes rest h = rw (gives_optional root bytes rest h, entry_is root fit) refl
  gives_standing None (Arm place) root suit fit bytes rest h = absurd (cc)
  gives_standing None (Behind depth) root suit fit bytes rest h = absurd (cc)
  gives_standing (Some p) Root root suit fit bytes rest h = absurd (cc)
  gives_standing (Some p) (Arm place) None suit fit bytes rest h =
      rw (gives_flag 0 (omega arith) bytes h.0 h.1, gives_small place h.0 rest h.2) refl
  gives_standing (Some p) (Behind depth) None suit fit bytes rest h =
      rw (gives_flag 1 (omega arith) bytes h.0 h.1, gives_small depth h.0 rest h.2) refl
  gives_standing (Some p) (Arm place) (Some entry) suit fit bytes rest h = absurd fit
  gives_standing (Some p) (Behind depth) (Some entry) suit fit bytes rest h = absurd fit

  -- ---- all of it

  gives_task : (ws : List ℕ) (t : KeptTask) → TaskFits c s t → NewWait ws t.rest →
      Gives (task_field t) (task_at known ws) (t, waits_with ws t.rest)
  unfolding task_at
  gives_task ws t fit new bytes rest h =
      rw (
        gives_optional t.parent bytes h.1.1.0 h.1.1.1,
        gives_standing t.parent t.role t.root fit.role fit.root h.1.1.0 h.1.0 h.1.1.2,
        gives_frames t.frames t.rest fit.suit fit.frames fit.few h.1.0 h.0 h.1.2,
        gives_rest (stand_at c (top_place t.frames)) ws t.rest (top_suits t.frames t.rest fit.suit) fit.rest new h.0 rest h.2,
      ) refl

  new_wait : (ws : List ℕ) (r : KeptRest) (t : KeptTask) (ts : List KeptTask) → t.rest ≡ r → AreDistinct (ws ++ waits_in (t ∷ ts)) →
      NewWait ws r
  new_wait ws (leaf n cs) t ts e p =
      not_there n ws (waits_in ts) (subst (λ l. AreDistinct (ws ++ l)) (the_waits e) p)
    where
      the_waits : t.rest ≡ leaf n cs → waits_in (t ∷ ts) ≡ n ∷ waits_in ts
      the_waits f = rw f refl
  new_wait ws (group arms) t ts e p = tt

  joined : (ws : List ℕ) (r : KeptRest) (t : KeptTask) (ts : List KeptTask) → t.rest ≡ r →
      waits_with ws r ++ waits_in ts ≡ ws ++ waits_in (t ∷ ts)
  joined ws (leaf n cs) t ts e = append_assoc ws (n ∷ []) (waits_in ts) ∙ ap (λ l. ws ++ l) (rw e refl)
  joined ws (group arms) t ts e = ap (λ l. ws ++ l) (rw e refl)

  abbrev TasksFit : List ℕ → List KeptTask → Type 0
  TasksFit ws ts = Each (TaskFits c s) ts × AreDistinct (ws ++ waits_in ts)

  gives_next_task : GivesNext task_field (task_at known) TasksFit
  gives_next_task ws t ts bytes rest fit h =
      record {
        after = waits_with ws t.rest;
        holds = (fit.0.1, subst AreDistinct (sym (joined ws t.rest t ts refl)) fit.1);
        read = gives_task ws t fit.0.0 (new_wait ws t.rest t ts refl fit.1) bytes rest h;
      }

  pub gives_tasks : (ts : List KeptTask) (bytes rest : List ℕ) → length ts ≤ s.spent → Each (TaskFits c s) ts →
      AreDistinct (waits_in ts) → list task_field ts bytes rest → GivesAll (tasks_at known bytes) ts rest
  unfolding tasks_at
  gives_tasks ts bytes rest few fit apart h =
      let n = length ts in
      let all = gives_each task_field (noted_at (task_at known)) (Noted TasksFit n)
      (gives_noted task_field (task_at known) TasksFit gives_next_task n) ts ([], []) h.0 rest ((fit, apart), omega arith) h.2 in
      let sum = all.holds.1 in
      record {
        lefts = all.after.1;
        count = omega arith;
        read = rw (gives_most s.spent n few bytes h.0 h.1, all.read) refl;
      }
