-- Tasks that are read are spelled by their bytes.
use Rattle.std.proofs.Common.{◌≡◌, ℕ, zero, suc, ◌-◌, ◌≤◌, cond, ltb, eqb, not, ◌&&◌, List, [], ◌∷◌, length, Option, Some, None}
use Rattle.std.proofs.Common.{slice_get, refl, sym, ap, subst, ◌∙◌, arith}
use Rattle.std.proofs.lemmas.Bool.{eqb-true}
use Rattle.task_tree.specs.declared.tasks.Role.{Role}
use Rattle.task_tree.specs.declared.tasks.Role.TheVariants.{Arm, Behind}
use Rattle.verse_image.specs.Format.{Field, byte, number, each}
use Rattle.verse_image.specs.Reading.{◌>>=◌}
use Rattle.verse_base.specs.declared.limits.TheConstants.{MOST_MOMENT}
use Rattle.run_save_shots.specs.Fitting.{Stand, calls, sleeps, stays, awaits_task, awaits_event, gathers, goes_on, stand_at, top_place}
use Rattle.run_save_format.specs.Format.{wide, optional, list, maybe, value, standing, frame, cause, rest_field, task_field}
use Rattle.run_save_format.specs.Values.{small_where}
use Rattle.run_save_format.specs.Reading.{Known, cause_form, cause_of, contains, defers_at, form_at, frame_at, frames_at, frames_from}
use Rattle.run_save_format.specs.Reading.{free_value_at, group_at, is_block, is_entry, is_event, is_running, leaf_at, maybe_at}
use Rattle.run_save_format.specs.Reading.{may_stand, noted_at, place_at, rest_at, root_at, standing_at, task_at, tasks_at, wait_at}
use Rattle.run_save_format.proofs.Lefts.{AllLeft, Noted}
use Rattle.run_save_told.proofs.Telling.{Tells, tells, fails, tells_then, tells_if, tells_as, Within, Told, TellsField, With}
use Rattle.run_save_told.proofs.Numbers.{tells_wide, tells_in, tells_most, tells_small, tells_where, byte_is, tells_flag}
use Rattle.run_save_told.proofs.Numbers.{tells_optional, tells_each, tells_many, tells_maybe}
use Rattle.run_save_told.proofs.Values.{Free, tells_free, tells_frees}
use Rattle.run_save_told.proofs.Stores.{tells_noted}

-- this form, of so many
abbrev OneForm : (forms form : ℕ) → ℕ → List ℕ → List ℕ → Type 0
OneForm forms form n bytes rest = wide n bytes rest × (n ≤ forms - 1) × (n ≡ form)

tells_form : {most : ℕ} (forms form : ℕ) → TellsField most (OneForm forms form) (form_at forms form)
unfolding form_at
tells_form forms form bytes b =
    tells_then _ (tells_in 4 0 (forms - 1) bytes b)
    (λ n p. tells_if _ _ _ (λ t. tells ((p.0.0, p.0.2, eqb-true _ _ t), p.1)) (λ t. fails b.few))

-- which is one byte
form_byte : (forms form n : ℕ) (bytes rest : List ℕ) → forms ≤ 128 → OneForm forms form n bytes rest → byte form bytes rest
form_byte forms form n bytes rest few h = let low = h.1 in byte_is (omega arith) h.0.1 ∙ ap (λ k. k ∷ rest) h.2

abbrev Standing : Option ℕ → Role × Option ℕ → Field
Standing parent y = standing parent y.0 y.1

placed : (p form n : ℕ) (bytes between rest : List ℕ) → byte form bytes between → form ≤ 1 → number n between rest →
    Standing (Some p) (cond (eqb form 0) (Arm n) (Behind n), None) bytes rest
placed p zero n bytes between rest e low h = (between, e, h)
placed p (suc zero) n bytes between rest e low h = (between, e, h)
placed p (suc (suc form)) n bytes between rest e low h = absurd (omega arith)

module _ {most : ℕ} (x : Known) where
  -- ---- frames

  tells_defers : TellsField most (list number) (defers_at x)
  unfolding defers_at
  tells_defers bytes b =
      tells_then _ (tells_wide bytes b)
      (λ n p. tells_as (λ ds q. ((n.1, subst (λ m. wide m bytes n.1) (sym q.0.1) p.0, q.0.0), q.1))
      (tells_many number (small_where (is_block x.code)) (tells_where (is_block x.code)) n.0 n.1 p.1))

  tells_frame : (above : ℕ) → TellsField most frame (frame_at x above)
  unfolding frame_at place_at
  tells_frame above bytes b =
      tells_then _ (tells_where (λ n. may_stand above (stand_at x.code n)) bytes b)
      (λ place p. tells_then _ (tells_frees (length x.spawned) place.1 p.1)
      (λ locals q. tells_then _ (tells_frees (length x.spawned) locals.1 q.1)
      (λ stack r. tells_then _ (tells_defers stack.1 r.1)
      (λ defers u. tells ((stack.1, (locals.1, (place.1, p.0, q.0), r.0), u.0), u.1)))))

  tells_frames_from : (n : ℕ) → TellsField most (λ fs bytes rest. each frame fs bytes rest × (length fs ≡ n)) (frames_from x n)
  unfolding frames_from
  tells_frames_from zero bytes b = tells ((refl, refl), b)
  tells_frames_from (suc n) bytes b =
      tells_then _ (tells_frame n bytes b)
      (λ lowest p. tells_then _ (tells_frames_from n lowest.1 p.1)
      (λ others q. tells (((lowest.1, p.0, q.0.0), ap suc q.0.1), q.1)))

  tells_frames : TellsField most (list frame) (frames_at x)
  unfolding frames_at
  tells_frames bytes b =
      tells_then _ (tells_in 5 1 x.numbers.spent bytes b)
      (λ n p. tells_as (λ fs q. ((n.1, subst (λ m. wide m bytes n.1) (sym q.0.1) p.0.0, q.0.0), q.1)) (tells_frames_from n.0 n.1 p.1))

  -- ---- what is waited for

  -- behind the number of its form
  tells_cause : (s : Stand) (before bytes : List ℕ) → cause_form s ≤ 3 → byte (cause_form s) before bytes → Within most bytes →
      Tells most (Told most cause before) (cause_of x s bytes)
  unfolding cause_of
  tells_cause sleeps before bytes low e b =
      tells_then _ (tells_in 5 x.numbers.now MOST_MOMENT bytes b) (λ n p. tells ((bytes, e, p.0.0), p.1))
  tells_cause stays before bytes low e b = tells (e, b)
  tells_cause awaits_task before bytes low e b =
      tells_then _ (tells_where (λ n. is_running (slice_get x.spawned n)) bytes b) (λ n p. tells ((bytes, e, p.0), p.1))
  tells_cause awaits_event before bytes low e b =
      tells_then _ (tells_where (λ n. is_event (slice_get x.cells n)) bytes b) (λ n p. tells ((bytes, e, p.0), p.1))
  tells_cause calls before bytes low e b = absurd (omega arith)
  tells_cause goes_on before bytes low e b = absurd (omega arith)
  tells_cause (gathers k m p) before bytes low e b = absurd (omega arith)

  tells_wait : (waits : List ℕ) → TellsField most wide (wait_at x waits)
  unfolding wait_at
  tells_wait waits bytes b = tells_then _ (tells_wide bytes b)
      (λ n p. tells_if (ltb n.0 x.numbers.next && not (contains n.0 waits)) _ _ (λ t. tells p) (λ t. fails b.few))

  -- behind the number of its form
  tells_leaf : (s : Stand) (waits before bytes : List ℕ) → byte 0 before bytes → Within most bytes →
      Tells most (Told most (Free rest_field) before) (leaf_at x s waits bytes)
  unfolding leaf_at
  tells_leaf s waits before bytes e b =
      tells_then _ (tells_wait waits bytes b)
      (λ n p. tells_then _ (tells_form 4 (cause_form s) n.1 p.1)
      (λ form q. (let low : cause_form s ≤ 3 = subst (λ k. k ≤ 3) q.0.2 q.0.1 in
      tells_then _ (tells_cause s n.1 form.1 low (form_byte 4 (cause_form s) form.0 n.1 form.1 (omega arith) q.0) q.1)
      (λ c r. tells ((n.1, (bytes, e, p.0), r.0), r.1)))))

  tells_group : (arms : ℕ) (waits before bytes : List ℕ) → byte 1 before bytes → Within most bytes →
      Tells most (Told most (Free rest_field) before) (group_at x arms waits bytes)
  unfolding group_at
  tells_group arms waits before bytes e b =
      tells_then _ (tells_in 5 arms arms bytes b)
      (λ n p. tells_then _
      (tells_many (maybe value) (maybe_at (free_value_at (length x.spawned)))
      (tells_maybe value (free_value_at (length x.spawned)) (tells_free (length x.spawned))) n.0 n.1 p.1)
      (λ vs q. tells ((bytes, e, (n.1, subst (λ m. wide m bytes n.1) (sym q.0.1) p.0.0, q.0.0)), q.1)))

  tells_plain : (s : Stand) (waits : List ℕ) (bytes : List ℕ) → Within most bytes →
      Tells most (Told most (Free rest_field) bytes) (form_at 2 0 bytes >>= λ n. leaf_at x s waits n.1)
  tells_plain s waits bytes b =
      tells_then _ (tells_form 2 0 bytes b)
      (λ n p. tells_leaf s waits bytes n.1 (form_byte 2 0 n.0 bytes n.1 (omega arith) p.0) p.1)

  tells_rest : (s : Stand) (waits : List ℕ) → TellsField most (Free rest_field) (rest_at x s waits)
  unfolding rest_at
  tells_rest (gathers k m place) waits bytes b =
      tells_then _ (tells_form 2 1 bytes b)
      (λ n p. tells_group m waits bytes n.1 (form_byte 2 1 n.0 bytes n.1 (omega arith) p.0) p.1)
  tells_rest calls waits bytes b = tells_plain calls waits bytes b
  tells_rest sleeps waits bytes b = tells_plain sleeps waits bytes b
  tells_rest stays waits bytes b = tells_plain stays waits bytes b
  tells_rest awaits_task waits bytes b = tells_plain awaits_task waits bytes b
  tells_rest awaits_event waits bytes b = tells_plain awaits_event waits bytes b
  tells_rest goes_on waits bytes b = tells_plain goes_on waits bytes b

  -- ---- how it stands to its parent

  tells_root : TellsField most optional (root_at x)
  unfolding root_at
  tells_root bytes b = tells_then _ (tells_optional bytes b) (λ root p. tells_if (is_entry x root.0) _ _ (λ t. tells p) (λ t. fails b.few))

  tells_standing : (parent : Option ℕ) → TellsField most (Standing parent) (standing_at x parent)
  unfolding standing_at
  tells_standing None bytes b = tells_then _ (tells_root bytes b) (λ root p. tells p)
  tells_standing (Some q) bytes b =
      tells_then _ (tells_flag bytes b)
      (λ form p. tells_then _ (tells_small form.1 p.1)
      (λ n r. tells (placed q form.0 n.0 bytes form.1 n.1 p.0.0 p.0.1 r.0, r.1)))

  -- ---- all of it

  tells_task : (waits : List ℕ) → TellsField most (Free task_field) (task_at x waits)
  unfolding task_at
  tells_task waits bytes b =
      tells_then _ (tells_optional bytes b)
      (λ parent p. tells_then _ (tells_standing parent.0 parent.1 p.1)
      (λ stand q. tells_then _ (tells_frames stand.1 q.1)
      (λ frames r. tells_then _ (tells_rest (stand_at x.code (top_place frames.0)) waits frames.1 r.1)
      (λ rest u. tells ((frames.1, (stand.1, (parent.1, p.0, q.0), r.0), u.0), u.1)))))

  pub tells_tasks : TellsField most (With (list task_field) (AllLeft most)) (tasks_at x)
  unfolding tasks_at
  tells_tasks bytes b =
      tells_then _ (tells_most x.numbers.spent bytes b)
      (λ n p. tells_then _
      (tells_each task_field (Noted most) (noted_at (task_at x)) (tells_noted task_field (task_at x) tells_task) n.0 ([], []) tt n.1 p.1)
      (λ tasks q. tells (((n.1, subst (λ m. wide m bytes n.1) (sym q.0.0.1) p.0.0, q.0.0.0), q.0.1), q.1)))
