-- Tasks of a front.
use Rattle.std.proofs.Common.{ℕ, zero, suc, ◌-◌, ltb, eqb, not, ◌&&◌, List, [], length, Option, Some, None, slice_get}
use Rattle.verse_image.specs.Reading.{◌>>=◌}
use Rattle.verse_base.specs.declared.limits.TheConstants.{MOST_MOMENT}
use Rattle.run_save_shots.specs.Fitting.{Stand, calls, sleeps, stays, awaits_task, awaits_event, gathers, goes_on, stand_at, top_place}
use Rattle.run_save_format.specs.Values.{small_where}
use Rattle.run_save_format.specs.Reading.{Known, cause_form, cause_of, contains, defers_at, form_at, frame_at, frames_at, frames_from}
use Rattle.run_save_format.specs.Reading.{free_value_at, group_at, is_block, is_entry, is_event, is_running, leaf_at, maybe_at}
use Rattle.run_save_format.specs.Reading.{may_stand, noted_at, place_at, rest_at, root_at, standing_at, task_at, tasks_at, wait_at}
use Rattle.run_save_format.proofs.Lefts.{AllLeft, Noted}
use Rattle.run_save_fronts.proofs.Staying.{reads, fails, stays_then, stays_if, Local, first_then}
use Rattle.run_save_fronts.proofs.Numbers.{BothWith, wide_first, wide_stays, in_first, in_stays, most_stays, small_stays, flag_stays}
use Rattle.run_save_fronts.proofs.Numbers.{where_stays, optional_first, optional_stays, each_with, many_stays, maybe_stays}
use Rattle.run_save_fronts.proofs.Values.{free_stays, frees_stay}
use Rattle.run_save_fronts.proofs.Stores.{further, noted_further, noted_stays}

module _ {more : List ℕ} {most : ℕ} where
  form_stays : (forms form : ℕ) → Local more most (form_at forms form)
  unfolding form_at
  form_stays forms form bytes few =
      first_then _ _ (in_first 4 0 (forms - 1)) bytes few (in_stays 4 0 (forms - 1) bytes few)
      (λ n at less. stays_if (eqb n.0 form) (reads less) (fails at))

  module _ (x : Known) where
    -- ---- frames

    defers_stay : Local more most (defers_at x)
    unfolding defers_at
    defers_stay bytes few =
        stays_then _ _ (wide_stays bytes few)
        (λ n less. many_stays (small_where (is_block x.code)) (where_stays (is_block x.code)) n.0 n.1 less)

    frame_stays : (above : ℕ) → Local more most (frame_at x above)
    unfolding frame_at place_at
    frame_stays above bytes few =
        stays_then _ _ (where_stays (λ n. may_stand above (stand_at x.code n)) bytes few)
        (λ place less. stays_then _ _ (frees_stay (length x.spawned) place.1 less)
        (λ locals less. stays_then _ _ (frees_stay (length x.spawned) locals.1 less)
        (λ stack less. stays_then _ _ (defers_stay stack.1 less) (λ defers less. reads less))))

    frames_from_stay : (n : ℕ) → Local more most (frames_from x n)
    unfolding frames_from
    frames_from_stay zero bytes few = reads few
    frames_from_stay (suc n) bytes few =
        stays_then _ _ (frame_stays n bytes few)
        (λ lowest less. stays_then _ _ (frames_from_stay n lowest.1 less) (λ others less. reads less))

    frames_stay : Local more most (frames_at x)
    unfolding frames_at
    frames_stay bytes few =
        stays_then _ _ (in_stays 5 1 x.numbers.spent bytes few) (λ n less. frames_from_stay n.0 n.1 less)

    -- ---- what is waited for

    cause_stays : (stand : Stand) → Local more most (cause_of x stand)
    unfolding cause_of
    cause_stays sleeps bytes few =
        stays_then _ _ (in_stays 5 x.numbers.now MOST_MOMENT bytes few) (λ n less. reads less)
    cause_stays stays bytes few = reads few
    cause_stays awaits_task bytes few =
        stays_then _ _ (where_stays (λ n. is_running (slice_get x.spawned n)) bytes few) (λ n less. reads less)
    cause_stays awaits_event bytes few =
        stays_then _ _ (where_stays (λ n. is_event (slice_get x.cells n)) bytes few) (λ n less. reads less)
    cause_stays calls bytes few = reads few
    cause_stays goes_on bytes few = reads few
    cause_stays (gathers k m p) bytes few = reads few

    wait_stays : (waits : List ℕ) → Local more most (wait_at x waits)
    unfolding wait_at
    wait_stays waits bytes few =
        first_then _ _ wide_first bytes few (wide_stays bytes few)
        (λ n at less. stays_if (ltb n.0 x.numbers.next && not (contains n.0 waits)) (reads less) (fails at))

    leaf_stays : (stand : Stand) (waits : List ℕ) → Local more most (leaf_at x stand waits)
    unfolding leaf_at
    leaf_stays stand waits bytes few =
        stays_then _ _ (wait_stays waits bytes few)
        (λ number less. stays_then _ _ (form_stays 4 (cause_form stand) number.1 less)
        (λ form less. stays_then _ _ (cause_stays stand form.1 less) (λ cause less. reads less)))

    group_stays : (arms : ℕ) (waits : List ℕ) → Local more most (group_at x arms waits)
    unfolding group_at
    group_stays arms waits bytes few =
        stays_then _ _ (in_stays 5 arms arms bytes few)
        (λ n less. stays_then _ _
        (many_stays (maybe_at (free_value_at (length x.spawned)))
        (maybe_stays (free_value_at (length x.spawned)) (free_stays (length x.spawned))) n.0 n.1 less)
        (λ values less. reads less))

    plain_stays : (stand : Stand) (waits : List ℕ) → Local more most (λ bytes. form_at 2 0 bytes >>= λ n. leaf_at x stand waits n.1)
    plain_stays stand waits bytes few =
        stays_then _ _ (form_stays 2 0 bytes few) (λ n less. leaf_stays stand waits n.1 less)

    rest_stays : (stand : Stand) (waits : List ℕ) → Local more most (rest_at x stand waits)
    unfolding rest_at
    rest_stays (gathers k m place) waits bytes few =
        stays_then _ _ (form_stays 2 1 bytes few) (λ n less. group_stays m waits n.1 less)
    rest_stays calls waits bytes few = plain_stays calls waits bytes few
    rest_stays sleeps waits bytes few = plain_stays sleeps waits bytes few
    rest_stays stays waits bytes few = plain_stays stays waits bytes few
    rest_stays awaits_task waits bytes few = plain_stays awaits_task waits bytes few
    rest_stays awaits_event waits bytes few = plain_stays awaits_event waits bytes few
    rest_stays goes_on waits bytes few = plain_stays goes_on waits bytes few

    -- ---- how it stands to its parent

    root_stays : Local more most (root_at x)
    unfolding root_at
    root_stays bytes few =
        first_then _ _ optional_first bytes few (optional_stays bytes few)
        (λ root at less. stays_if (is_entry x root.0) (reads less) (fails at))

    standing_stays : (parent : Option ℕ) → Local more most (standing_at x parent)
    unfolding standing_at
    standing_stays None bytes few = stays_then _ _ (root_stays bytes few) (λ root less. reads less)
    standing_stays (Some parent) bytes few =
        stays_then _ _ (flag_stays bytes few)
        (λ form less. stays_then _ _ (small_stays form.1 less) (λ n less. reads less))

    -- ---- all of it

    task_stays : (waits : List ℕ) → Local more most (task_at x waits)
    unfolding task_at
    task_stays waits bytes few =
        stays_then _ _ (optional_stays bytes few)
        (λ parent less. stays_then _ _ (standing_stays parent.0 parent.1 less)
        (λ stand less. stays_then _ _ (frames_stay stand.1 less)
        (λ frames less. stays_then _ _ (rest_stays (stand_at x.code (top_place frames.0)) waits frames.1 less)
        (λ rest less. reads less))))

    pub tasks_stay : BothWith more most (AllLeft most) (further more) (tasks_at x) (tasks_at x)
    unfolding tasks_at
    tasks_stay bytes few =
        stays_then _ _ (most_stays x.numbers.spent bytes few)
        (λ n less. stays_then _ _
        (each_with (Noted most) (noted_further more) (noted_at (task_at x)) (noted_at (task_at x)) (noted_stays (task_at x) task_stays)
        n.0 ([], []) tt n.1 less)
        (λ tasks p. reads p))
