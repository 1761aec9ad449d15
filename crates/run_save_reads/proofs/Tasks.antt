-- Tasks that are read.
use Rattle.std.proofs.Common.{◌≡◌, ◌≢◌, ℕ, zero, suc, ◌+◌, ◌-◌, ◌<◌, ◌≤◌, Bool, true, false, cond, ltb, eqb, not, ◌&&◌, List, [], ◌∷◌, ◌++◌}
use Rattle.std.proofs.Common.{length, Option, Some, None, slice_get, Result, Ok, Err, refl, sym, ap, subst, ◌∙◌}
use Rattle.std.proofs.Common.{arith, append_assoc, append-nil}
use Rattle.std.specs.Prelude.{option_map}
use Rattle.std.proofs.lemmas.Bool.{ltb-true, eqb-true, eqb-false}
use Rattle.task_tree.specs.declared.tasks.Role.{Role}
use Rattle.task_tree.specs.declared.tasks.Role.TheVariants.{Root, Arm, Behind}
use Rattle.task_tree.specs.Tasks.{suits}
use Rattle.verse_image.specs.declared.faults.Flaw.{Flaw}
use Rattle.verse_image.specs.Numbers.{IsBytes}
use Rattle.verse_image.specs.Reading.{◌>>=◌, Reader, flaw}
use Rattle.verse_code.specs.declared.codes.Code.{Code}
use Rattle.verse_value.specs.Val.{Val}
use Rattle.verse_value.specs.Store.{Cell}
use Rattle.verse_value.specs.declared.runs.CellKind.{CellKind}
use Rattle.verse_value.specs.declared.runs.CellKind.TheVariants as cell
use Rattle.verse_meaning_state.specs.State.{Given}
use Rattle.verse_meaning_state.specs.Waits.{Cause, till, never, done, heard, nth}
use Rattle.verse_base.specs.declared.limits.TheConstants.{MOST_MOMENT}
use Rattle.verse_base.proofs.Facts.{alone}
use Rattle.verse_meaning_state.proofs.Numbers.{nth_is}
use Rattle.run_save_shots.specs.Lists.{Each, EachTwo, AreDistinct}
use Rattle.run_save_shots.specs.Kept.{KeptFrame, KeptRest, leaf, group, KeptTask}
use Rattle.run_save_shots.specs.Fitting.{ArmFits, FrameFits, FramesSuit, IsBlock, RestSuits, RootFits, Stand}
use Rattle.run_save_shots.specs.Fitting.{ValueFits, ValuesFit, calls, sleeps}
use Rattle.run_save_shots.specs.Fitting.{stays, awaits_task, awaits_event, gathers, goes_on, stand_at, top_place, waits_in}
use Rattle.run_save_format.specs.Values.{flag_at, number_in, optional_at, small_at, small_where, wide_at}
use Rattle.run_save_format.specs.Reading.{Known, cause_form, cause_of, contains, defers_at, form_at, frame_at, frames_at, frames_from}
use Rattle.run_save_format.specs.Reading.{free_value_at, free_values_at, group_at, is_block, is_call, is_entry}
use Rattle.run_save_format.specs.Reading.{is_event, is_running, leaf_at}
use Rattle.run_save_format.specs.Reading.{many_at, maybe_at, may_stand, place_at, rest_at, root_at, standing_at, suspends, task_at, wait_at}
use Rattle.run_save_format.proofs.Lefts.{IfThere}
use Rattle.run_save_reads.proofs.Meeting.{Meets, meets_then, meets_if, meets_as, And, Reads, ReadsFrom, Steps, Every}
use Rattle.run_save_reads.proofs.Meeting.{reads_flag, reads_in}
use Rattle.run_save_reads.proofs.Meeting.{reads_many, reads_optional, reads_small, reads_where, reads_wide}
use Rattle.run_save_reads.proofs.Stores.{reads_free, reads_free_all, reads_maybe}

each_of : {A : Type 0} (P Q : A → Type 0) (xs : List A) → ((x : A) → P x → Q x) → Every P xs → Each Q xs
each_of P Q [] h p = tt
each_of P Q (x ∷ xs) h p = (h x p.0, each_of P Q xs h p.1)

-- ---- a number of one form

reads_form : (forms form : ℕ) → Reads (λ n. (n ≤ forms - 1) × (n ≡ form)) (form_at forms form)
unfolding form_at
reads_form forms form bytes b =
    meets_then (And (λ n. (0 ≤ n) × (n ≤ forms - 1))) (And (λ n. (n ≤ forms - 1) × (n ≡ form))) (number_in 4 0 (forms - 1) bytes)
    (λ n. cond (eqb n.0 form) (Ok n) (Err (flaw 5 (length bytes)))) (reads_in 4 0 (forms - 1) bytes b)
    (λ n p. meets_if (And (λ n. (n ≤ forms - 1) × (n ≡ form))) (eqb n.0 form) (Ok n) (flaw 5 (length bytes))
    (λ t. ((p.0.1, eqb-true _ _ t), p.1)))

-- ---- a wait that is none of those before

not_first : (n m : ℕ) (ms : List ℕ) → contains n (m ∷ ms) ≡ false → (m ≢ n) × (contains n ms ≡ false)
not_first n m ms e = two (eqb n m) refl e
  where
    two : (t : Bool) → eqb n m ≡ t → cond t true (contains n ms) ≡ false → (m ≢ n) × (contains n ms ≡ false)
    two true f g = absurd (cc)
    two false f g = ((λ same. eqb-false n m f (sym same)), g)

none_same : (n : ℕ) (ms : List ℕ) → contains n ms ≡ false → Each (λ m. m ≢ n) ms
none_same n [] e = tt
none_same n (m ∷ ms) e = let p = not_first n m ms e in (p.0, none_same n ms p.1)

each_last : (m n : ℕ) (ms : List ℕ) → Each (λ k. m ≢ k) ms → m ≢ n → Each (λ k. m ≢ k) (ms ++ n ∷ [])
each_last m n [] a b = (b, tt)
each_last m n (k ∷ ms) a b = (a.0, each_last m n ms a.1 b)

distinct_last : (n : ℕ) (ms : List ℕ) → AreDistinct ms → Each (λ m. m ≢ n) ms → AreDistinct (ms ++ n ∷ [])
distinct_last n [] a b = (tt, tt)
distinct_last n (m ∷ ms) a b = (each_last m n ms a.0 b.0, distinct_last n ms a.1 b.1)

-- ---- places

call_is : (s : Stand) → is_call s ≡ true → s ≡ calls
call_is calls e = refl
call_is sleeps e = absurd (cc)
call_is stays e = absurd (cc)
call_is awaits_task e = absurd (cc)
call_is awaits_event e = absurd (cc)
call_is (gathers k m p) e = absurd (cc)
call_is goes_on e = absurd (cc)

block_is : (c : Code) (n : ℕ) → is_block c n ≡ true → IsBlock c n
block_is c zero e = absurd (cc)
block_is c (suc n) e = e

running_is : (spawned : List (Option Given)) (n : ℕ) → is_running (slice_get spawned n) ≡ true → nth spawned n ≡ Some None
running_is spawned n e = nth_is spawned n ∙ there (slice_get spawned n) e
  where
    there : (o : Option (Option Given)) → is_running o ≡ true → o ≡ Some None
    there None f = absurd (cc)
    there (Some None) f = refl
    there (Some (Some g)) f = absurd (cc)

event_is : (o : Option Cell) → is_event o ≡ true → option_map (λ (c : Cell). c.kind) o ≡ Some cell.Event
event_is None e = absurd (cc)
event_is (Some c) e = kind c.kind e
  where
    kind : (k : CellKind) → is_event (Some (record { kind = k; slots = c.slots })) ≡ true → Some k ≡ Some cell.Event
    kind cell.Var f = absurd (cc)
    kind cell.Event f = refl
    kind (cell.Object class) f = absurd (cc)

-- ---- one task

module _ (x : Known) where
  abbrev pub entries : ℕ
  entries = length x.spawned

  abbrev pub FrameRead : ℕ → KeptFrame → Type 0
  FrameRead above f = (may_stand above (stand_at x.code f.place) ≡ true) × FrameFits x.code entries f

  reads_defers : Reads (λ ds. Each (IsBlock x.code) ds) (defers_at x)
  unfolding defers_at
  reads_defers bytes b =
      meets_then (And (λ (n : ℕ). Unit {0})) (And (λ ds. Each (IsBlock x.code) ds)) (wide_at bytes)
      (λ n. many_at (small_where (is_block x.code)) n.0 n.1) (reads_wide bytes b)
      (λ n p. meets_as (And (λ ds. (length ds ≡ n.0) × Every (λ d. is_block x.code d ≡ true) ds)) (And (λ ds. Each (IsBlock x.code) ds))
      (many_at (small_where (is_block x.code)) n.0 n.1)
      (λ ds q. (each_of (λ d. is_block x.code d ≡ true) (IsBlock x.code) ds.0 (block_is x.code) q.0.1, q.1))
      (reads_many (λ d. is_block x.code d ≡ true) (small_where (is_block x.code)) (reads_where (is_block x.code)) n.0 n.1 p.1))

  reads_frame : (above : ℕ) → Reads (FrameRead above) (frame_at x above)
  unfolding frame_at place_at
  reads_frame above bytes b =
      meets_then (And (λ n. may_stand above (stand_at x.code n) ≡ true)) (And (FrameRead above)) (place_at x above bytes)
      (λ place. free_values_at (length x.spawned) place.1 >>= λ locals. free_values_at (length x.spawned) locals.1 >>= λ stack.
      defers_at x stack.1 >>= λ defers.
      Ok (record { place = place.0; locals = locals.0; stack = stack.0; defers = defers.0 }, defers.1))
      (reads_where (λ n. may_stand above (stand_at x.code n)) bytes b)
      (λ place p. meets_then (And (ValuesFit entries)) (And (FrameRead above)) (free_values_at (length x.spawned) place.1)
      (λ locals. free_values_at (length x.spawned) locals.1 >>= λ stack. defers_at x stack.1 >>= λ defers.
      Ok (record { place = place.0; locals = locals.0; stack = stack.0; defers = defers.0 }, defers.1)) (reads_free_all entries place.1 p.1)
      (λ locals q. meets_then (And (ValuesFit entries)) (And (FrameRead above)) (free_values_at (length x.spawned) locals.1)
      (λ stack. defers_at x stack.1 >>= λ defers.
      Ok (record { place = place.0; locals = locals.0; stack = stack.0; defers = defers.0 }, defers.1))
      (reads_free_all entries locals.1 q.1)
      (λ stack r. meets_then (And (λ ds. Each (IsBlock x.code) ds)) (And (FrameRead above)) (defers_at x stack.1)
      (λ defers. Ok (record { place = place.0; locals = locals.0; stack = stack.0; defers = defers.0 }, defers.1))
      (reads_defers stack.1 r.1)
      (λ defers z. ((p.0, record { locals = q.0; stack = r.0; defers = z.0 }), z.1)))))

  -- the lowest first, above which there are so many
  abbrev pub FramesRead : ℕ → List KeptFrame → Type 0
  FramesRead zero [] = Unit {0}
  FramesRead zero (f ∷ fs) = ⊥
  FramesRead (suc n) [] = ⊥
  FramesRead (suc n) (f ∷ fs) = FrameRead n f × FramesRead n fs

  reads_frames_from : (n : ℕ) → Reads (FramesRead n) (frames_from x n)
  unfolding frames_from
  reads_frames_from zero bytes b = (tt, b)
  reads_frames_from (suc n) bytes b =
      meets_then (And (FrameRead n)) (And (FramesRead (suc n))) (frame_at x n bytes)
      (λ lowest. frames_from x n lowest.1 >>= λ others. Ok (lowest.0 ∷ others.0, others.1)) (reads_frame n bytes b)
      (λ lowest p. meets_then (And (FramesRead n)) (And (FramesRead (suc n))) (frames_from x n lowest.1)
      (λ others. Ok (lowest.0 ∷ others.0, others.1)) (reads_frames_from n lowest.1 p.1) (λ others q. ((p.0, q.0), q.1)))

  long_frames : (n : ℕ) (fs : List KeptFrame) → FramesRead n fs → length fs ≡ n
  long_frames zero [] p = refl
  long_frames zero (f ∷ fs) p = absurd p
  long_frames (suc n) [] p = absurd p
  long_frames (suc n) (f ∷ fs) p = ap suc (long_frames n fs p.1)

  frames_fit : (n : ℕ) (fs : List KeptFrame) → FramesRead n fs → Each (FrameFits x.code entries) fs
  frames_fit zero [] p = tt
  frames_fit zero (f ∷ fs) p = absurd p
  frames_fit (suc n) [] p = absurd p
  frames_fit (suc n) (f ∷ fs) p = (p.0.1, frames_fit n fs p.1)

  frames_suit : (n : ℕ) (fs : List KeptFrame) (rest : KeptRest) → FramesRead (suc n) fs →
      RestSuits (stand_at x.code (top_place fs)) rest → FramesSuit x.code rest fs
  frames_suit n [] rest p r = absurd p
  frames_suit zero (f ∷ []) rest p r = r
  frames_suit zero (f ∷ g ∷ fs) rest p r = absurd p.1
  frames_suit (suc n) (f ∷ []) rest p r = absurd p.1
  frames_suit (suc n) (f ∷ g ∷ fs) rest p r = (call_is (stand_at x.code f.place) p.0.0, frames_suit n (g ∷ fs) rest p.1 r)

  pub record TopFrames (fs : List KeptFrame) : Type 0 where
    pub below : ℕ
    pub frames : FramesRead (suc below) fs
    pub few : length fs ≤ x.numbers.spent

  top_frames : (n : ℕ) (fs : List KeptFrame) → 1 ≤ n → n ≤ x.numbers.spent → FramesRead n fs → TopFrames fs
  top_frames zero fs a b p = absurd (omega arith)
  top_frames (suc n) fs a b p = let long = long_frames (suc n) fs p in record { below = n; frames = p; few = omega arith }

  reads_frames : Reads TopFrames (frames_at x)
  unfolding frames_at
  reads_frames bytes b =
      meets_then (And (λ n. (1 ≤ n) × (n ≤ x.numbers.spent))) (And TopFrames) (number_in 5 1 x.numbers.spent bytes)
      (λ n. frames_from x n.0 n.1) (reads_in 5 1 x.numbers.spent bytes b)
      (λ n p. meets_as (And (FramesRead n.0)) (And TopFrames) (frames_from x n.0 n.1)
      (λ fs q. (top_frames n.0 fs.0 p.0.0 p.0.1 q.0, q.1)) (reads_frames_from n.0 n.1 p.1))

  -- ---- what is waited for

  abbrev pub CauseRead : Cause → Type 0
  CauseRead (till moment) = (x.numbers.now ≤ moment) × (moment ≤ MOST_MOMENT)
  CauseRead never = Unit {0}
  CauseRead (done entry) = nth x.spawned entry ≡ Some None
  CauseRead (heard event) = option_map (λ (c : Cell). c.kind) (slice_get x.cells event) ≡ Some cell.Event

  -- of a task that is suspended there
  abbrev pub LeafRead : Stand → ℕ → Cause → Type 0
  LeafRead s n c = RestSuits s (leaf n c) × CauseRead c

  reads_cause : (s : Stand) (n : ℕ) → cause_form s ≤ 3 → Reads (LeafRead s n) (cause_of x s)
  unfolding cause_of
  reads_cause sleeps n low bytes b =
      meets_then (And (λ m. (x.numbers.now ≤ m) × (m ≤ MOST_MOMENT))) (And (LeafRead sleeps n))
      (number_in 5 x.numbers.now MOST_MOMENT bytes)
      (λ m. Ok (till m.0, m.1)) (reads_in 5 x.numbers.now MOST_MOMENT bytes b) (λ m p. ((tt, p.0), p.1))
  reads_cause stays n low bytes b = ((tt, tt), b)
  reads_cause awaits_task n low bytes b =
      meets_then (And (λ e. is_running (slice_get x.spawned e) ≡ true)) (And (LeafRead awaits_task n))
      (small_where (λ e. is_running (slice_get x.spawned e)) bytes) (λ e. Ok (done e.0, e.1))
      (reads_where (λ e. is_running (slice_get x.spawned e)) bytes b) (λ e p. ((tt, running_is x.spawned e.0 p.0), p.1))
  reads_cause awaits_event n low bytes b =
      meets_then (And (λ e. is_event (slice_get x.cells e) ≡ true)) (And (LeafRead awaits_event n))
      (small_where (λ e. is_event (slice_get x.cells e)) bytes) (λ e. Ok (heard e.0, e.1))
      (reads_where (λ e. is_event (slice_get x.cells e)) bytes b) (λ e p. ((tt, event_is (slice_get x.cells e.0) p.0), p.1))
  reads_cause calls n low bytes b = absurd (omega arith)
  reads_cause goes_on n low bytes b = absurd (omega arith)
  reads_cause (gathers k m p) n low bytes b = absurd (omega arith)

  -- the numbers of the waits so far, and with its own
  abbrev pub waits_with : List ℕ → KeptRest → List ℕ
  waits_with ws (leaf n c) = ws ++ n ∷ []
  waits_with ws (group arms) = ws

  abbrev pub RestFound : Stand → List ℕ → KeptRest → Type 0
  RestFound s ws (leaf n c) = (n < x.numbers.next) × CauseRead c × (contains n ws ≡ false)
  RestFound s ws (group arms) = Each (ArmFits entries) arms

  abbrev pub RestRead : Stand → List ℕ → KeptRest → List ℕ → Type 0
  RestRead s ws r vs = RestSuits s r × RestFound s ws r × (vs ≡ waits_with ws r)

  abbrev pub WaitRead : List ℕ → ℕ → Type 0
  WaitRead ws n = (n < x.numbers.next) × (contains n ws ≡ false)

  reads_wait : (ws : List ℕ) → Reads (WaitRead ws) (wait_at x ws)
  unfolding wait_at
  reads_wait ws bytes b =
      meets_then (And (λ (n : ℕ). Unit {0})) (And (WaitRead ws)) (wide_at bytes)
      (λ n. cond (ltb n.0 x.numbers.next && not (contains n.0 ws)) (Ok n) (Err (flaw 5 (length bytes)))) (reads_wide bytes b)
      (λ n p. meets_if (And (WaitRead ws)) (ltb n.0 x.numbers.next && not (contains n.0 ws)) (Ok n) (flaw 5 (length bytes))
      (λ t. (let q = alone (ltb n.0 x.numbers.next) (contains n.0 ws) t in ((ltb-true _ _ q.0, q.1), p.1))))

  reads_leaf : (s : Stand) (ws : List ℕ) → ReadsFrom (RestRead s) ws (leaf_at x s ws)
  unfolding leaf_at
  reads_leaf s ws bytes b =
      meets_then (And (WaitRead ws)) (And (λ y. RestRead s ws y.0 y.1)) (wait_at x ws bytes)
      (λ number. form_at 4 (cause_form s) number.1 >>= λ form. cause_of x s form.1 >>= λ cause.
      Ok ((leaf number.0 cause.0, ws ++ number.0 ∷ []), cause.1)) (reads_wait ws bytes b)
      (λ number p. meets_then (And (λ n. (n ≤ 4 - 1) × (n ≡ cause_form s))) (And (λ y. RestRead s ws y.0 y.1))
      (form_at 4 (cause_form s) number.1)
      (λ form. cause_of x s form.1 >>= λ cause. Ok ((leaf number.0 cause.0, ws ++ number.0 ∷ []), cause.1))
      (reads_form 4 (cause_form s) number.1 p.1)
      (λ form q. meets_then (And (LeafRead s number.0)) (And (λ y. RestRead s ws y.0 y.1)) (cause_of x s form.1)
      (λ cause. Ok ((leaf number.0 cause.0, ws ++ number.0 ∷ []), cause.1))
      (reads_cause s number.0 (subst (λ k. k ≤ 3) q.0.1 q.0.0) form.1 q.1)
      (λ cause r. ((r.0.0, (p.0.0, r.0.1, p.0.1), refl), r.1))))

  arms_fit : (arms : List (Option Val)) → Every (IfThere (ValueFits entries)) arms → Each (ArmFits entries) arms
  arms_fit [] p = tt
  arms_fit (None ∷ arms) p = (tt, arms_fit arms p.1)
  arms_fit (Some v ∷ arms) p = (p.0, arms_fit arms p.1)

  reads_group : (k m place : ℕ) (ws : List ℕ) → ReadsFrom (RestRead (gathers k m place)) ws (group_at x m ws)
  unfolding group_at
  reads_group k m place ws bytes b =
      meets_then (And (λ n. (m ≤ n) × (n ≤ m))) (And (λ y. RestRead (gathers k m place) ws y.0 y.1)) (number_in 5 m m bytes)
      (λ n. many_at (maybe_at (free_value_at (length x.spawned))) n.0 n.1 >>= λ values. Ok ((group values.0, ws), values.1))
      (reads_in 5 m m bytes b)
      (λ n p. meets_then (And (λ vs. (length vs ≡ n.0) × Every (IfThere (ValueFits entries)) vs))
      (And (λ y. RestRead (gathers k m place) ws y.0 y.1)) (many_at (maybe_at (free_value_at (length x.spawned))) n.0 n.1)
      (λ values. Ok ((group values.0, ws), values.1))
      (reads_many (IfThere (ValueFits entries)) (maybe_at (free_value_at (length x.spawned)))
      (reads_maybe (ValueFits entries) (free_value_at (length x.spawned)) (reads_free entries)) n.0 n.1 p.1)
      (λ values q. (let low = p.0.0 in let high = p.0.1 in let long = q.0.0 in
      ((omega arith, arms_fit values.0 q.0.1, refl), q.1))))

  reads_plain : (s : Stand) (ws : List ℕ) (bytes : List ℕ) → IsBytes bytes →
      Meets (And (λ y. RestRead s ws y.0 y.1)) (form_at 2 0 bytes >>= λ n. leaf_at x s ws n.1)
  reads_plain s ws bytes b =
      meets_then (And (λ n. (n ≤ 2 - 1) × (n ≡ 0))) (And (λ y. RestRead s ws y.0 y.1)) (form_at 2 0 bytes) (λ n. leaf_at x s ws n.1)
      (reads_form 2 0 bytes b) (λ n p. reads_leaf s ws n.1 p.1)

  reads_rest : (s : Stand) (ws : List ℕ) → ReadsFrom (RestRead s) ws (rest_at x s ws)
  unfolding rest_at
  reads_rest (gathers k m place) ws bytes b =
      meets_then (And (λ n. (n ≤ 2 - 1) × (n ≡ 1))) (And (λ y. RestRead (gathers k m place) ws y.0 y.1)) (form_at 2 1 bytes)
      (λ n. group_at x m ws n.1) (reads_form 2 1 bytes b) (λ n p. reads_group k m place ws n.1 p.1)
  reads_rest calls ws bytes b = reads_plain calls ws bytes b
  reads_rest sleeps ws bytes b = reads_plain sleeps ws bytes b
  reads_rest stays ws bytes b = reads_plain stays ws bytes b
  reads_rest awaits_task ws bytes b = reads_plain awaits_task ws bytes b
  reads_rest awaits_event ws bytes b = reads_plain awaits_event ws bytes b
  reads_rest goes_on ws bytes b = reads_plain goes_on ws bytes b

  -- ---- how it stands to its parent

  abbrev pub StandingRead : Option ℕ → Role × Option ℕ → Type 0
  StandingRead parent y = (suits parent y.0 ≡ true) × RootFits entries parent y.1

  root_fits : (root : Option ℕ) → is_entry x root ≡ true → RootFits entries None root
  root_fits None e = tt
  root_fits (Some entry) e = ltb-true _ _ e

  reads_root : Reads (λ root. is_entry x root ≡ true) (root_at x)
  unfolding root_at
  reads_root bytes b =
      meets_then (And (λ (n : Option ℕ). Unit {0})) (And (λ root. is_entry x root ≡ true)) (optional_at bytes)
      (λ root. cond (is_entry x root.0) (Ok root) (Err (flaw 5 (length bytes)))) (reads_optional bytes b)
      (λ root p. meets_if (And (λ root. is_entry x root ≡ true)) (is_entry x root.0) (Ok root) (flaw 5 (length bytes)) (λ t. (t, p.1)))

  some_suits : (p n : ℕ) (t : Bool) → suits (Some p) (cond t (Arm n) (Behind n)) ≡ true
  some_suits p n true = refl
  some_suits p n false = refl

  reads_standing : (parent : Option ℕ) → Reads (StandingRead parent) (standing_at x parent)
  unfolding standing_at
  reads_standing None bytes b =
      meets_then (And (λ root. is_entry x root ≡ true)) (And (StandingRead None)) (root_at x bytes) (λ root. Ok ((Root, root.0), root.1))
      (reads_root bytes b) (λ root p. ((refl, root_fits root.0 p.0), p.1))
  reads_standing (Some q) bytes b =
      meets_then (And (λ n. (0 ≤ n) × (n ≤ 1))) (And (StandingRead (Some q))) (flag_at bytes)
      (λ form. small_at form.1 >>= λ n. Ok ((cond (eqb form.0 0) (Arm n.0) (Behind n.0), None), n.1)) (reads_flag bytes b)
      (λ form p. meets_then (And (λ n. (0 ≤ n) × (n ≤ 4294967295))) (And (StandingRead (Some q))) (small_at form.1)
      (λ n. Ok ((cond (eqb form.0 0) (Arm n.0) (Behind n.0), None), n.1)) (reads_small form.1 p.1)
      (λ n r. ((some_suits q n.0 (eqb form.0 0), tt), r.1)))

  -- ---- all of it

  pub record TaskRead (ws : List ℕ) (t : KeptTask) (vs : List ℕ) : Type 0 where
    pub role : suits t.parent t.role ≡ true
    pub root : RootFits entries t.parent t.root
    pub few : length t.frames ≤ x.numbers.spent
    pub suit : FramesSuit x.code t.rest t.frames
    pub frames : Each (FrameFits x.code entries) t.frames
    pub rest : RestFound (stand_at x.code (top_place t.frames)) ws t.rest
    pub waits : vs ≡ waits_with ws t.rest

  pub reads_task : (ws : List ℕ) → ReadsFrom TaskRead ws (task_at x ws)
  unfolding task_at
  reads_task ws bytes b =
      meets_then (And (λ (n : Option ℕ). Unit {0})) (And (λ y. TaskRead ws y.0 y.1)) (optional_at bytes)
      (λ parent. standing_at x parent.0 parent.1 >>= λ standing. frames_at x standing.1 >>= λ frames.
      rest_at x (stand_at x.code (top_place frames.0)) ws frames.1 >>= λ rest.
      Ok ((record { parent = parent.0; role = standing.0.0; root = standing.0.1; frames = frames.0; rest = rest.0.0 }, rest.0.1), rest.1))
      (reads_optional bytes b)
      (λ parent p. meets_then (And (StandingRead parent.0)) (And (λ y. TaskRead ws y.0 y.1)) (standing_at x parent.0 parent.1)
      (λ standing. frames_at x standing.1 >>= λ frames. rest_at x (stand_at x.code (top_place frames.0)) ws frames.1 >>= λ rest.
      Ok ((record { parent = parent.0; role = standing.0.0; root = standing.0.1; frames = frames.0; rest = rest.0.0 }, rest.0.1), rest.1))
      (reads_standing parent.0 parent.1 p.1)
      (λ standing q. meets_then (And TopFrames) (And (λ y. TaskRead ws y.0 y.1)) (frames_at x standing.1)
      (λ frames. rest_at x (stand_at x.code (top_place frames.0)) ws frames.1 >>= λ rest.
      Ok ((record { parent = parent.0; role = standing.0.0; root = standing.0.1; frames = frames.0; rest = rest.0.0 }, rest.0.1), rest.1))
      (reads_frames standing.1 q.1)
      (λ frames r. meets_then (And (λ y. RestRead (stand_at x.code (top_place frames.0)) ws y.0 y.1)) (And (λ y. TaskRead ws y.0 y.1))
      (rest_at x (stand_at x.code (top_place frames.0)) ws frames.1)
      (λ rest.
      Ok ((record { parent = parent.0; role = standing.0.0; root = standing.0.1; frames = frames.0; rest = rest.0.0 }, rest.0.1), rest.1))
      (reads_rest (stand_at x.code (top_place frames.0)) ws frames.1 r.1)
      (λ rest z. (
        record {
          role = q.0.0;
          root = q.0.1;
          few = r.0.few;
          suit = frames_suit r.0.below frames.0 rest.0.0 r.0.frames z.0.0;
          frames = frames_fit (suc r.0.below) frames.0 r.0.frames;
          rest = z.0.1;
          waits = z.0.2;
        },
        z.1,
      )))))

  -- ---- the waits of all tasks are different

  fresh : (s : Stand) (ws : List ℕ) (r : KeptRest) → AreDistinct ws → RestFound s ws r → AreDistinct (waits_with ws r)
  fresh s ws (leaf n c) a p = distinct_last n ws a (none_same n ws p.2)
  fresh s ws (group arms) a p = a

  joined : (ws : List ℕ) (r : KeptRest) (t : KeptTask) (ts : List KeptTask) → t.rest ≡ r →
      waits_with ws r ++ waits_in ts ≡ ws ++ waits_in (t ∷ ts)
  joined ws (leaf n c) t ts e = append_assoc ws (n ∷ []) (waits_in ts) ∙ ap (λ l. ws ++ l) (rw e refl)
  joined ws (group arms) t ts e = ap (λ l. ws ++ l) (rw e refl)

  pub waits_apart : (ts : List KeptTask) (ws vs : List ℕ) → AreDistinct ws → Steps TaskRead ws ts vs → AreDistinct (ws ++ waits_in ts)
  waits_apart [] ws vs a e = subst AreDistinct (sym (append-nil ws)) a
  waits_apart (t ∷ ts) ws vs a (us, p, q) =
      let now = fresh (stand_at x.code (top_place t.frames)) ws t.rest a p.rest in
      let all = waits_apart ts us vs (subst AreDistinct (sym p.waits) now) q in
      subst AreDistinct (ap (λ l. l ++ waits_in ts) p.waits ∙ joined ws t.rest t ts refl) all
