-- The Arms behind a Group, operation by operation.
use Rattle.std.specs.Prelude.{ℕ, zero, suc, ◌+◌, List, [], ◌∷◌, Option, Some, None, Bool, true}
use Rattle.std.specs.Prelude.{false, not, ◌&&◌}
use Rattle.std.specs.Prelude.{slice_get}
use Rattle.verse_meaning_state.specs.Waits.{eqn}
use Rattle.verse_code_machine.specs.Acts.{label_of}
use Rattle.verse_sorts.specs.Sorts.{Sort, Sorts, no_sorts, more_sorts}
use Rattle.verse_verify_faults.specs.Fitting.{fit}
use Rattle.verse_verify_faults.specs.Spots.{spot_at}
use Rattle.verse_verify_faults.specs.Stepping as t
use Rattle.verse_verify_faults.specs.Stepping.{Goes, arm_labels, with_label, arm_of, arm_results}
use Rattle.verse_verify_faults.specs.Stepping.{arms_at, grouped, to}
use Rattle.verse_verify_faults.specs.Faults.{is_none}
use Rattle.verse_verify_notes.specs.declared.sorts.Sort.{Sort as Kept}
use Rattle.verse_verify_parts.specs.declared.heres.Here.{Here}
use Rattle.verse_verify_parts.specs.Heres.{code_in, table_in, classes_in, spot_in, operands, suited}

-- of so many numbers from one on
abbrev pub all_from : (ℕ → Bool) → ℕ → ℕ → Bool
all_from test a zero = true
all_from test a (suc m) = test a && all_from test (suc a) m

-- of as many numbers from one on as there are sorts, each with its own
abbrev pub each_from : (ℕ → Sort → Bool) → ℕ → Sorts → Bool
each_from test a no_sorts = true
each_from test a (more_sorts b ys) = test a b && each_from test (suc a) ys

abbrev pub size : Sorts → ℕ
size no_sorts = 0
size (more_sorts b ys) = suc (size ys)

abbrev pub on_arm : Option Sort → (Sort → Bool) → Bool
on_arm None go = false
on_arm (Some a) go = go a

module _ (h : Here) where
  abbrev pub label_at : ℕ → Option ℕ
  label_at a = label_of (slice_get (code_in h).ops a)

  abbrev pub is_arm : ℕ → Bool
  is_arm a = not (is_none (label_at a))

  -- where an operation is an Arm, it may begin at its label
  abbrev pub label_suits : Option ℕ → Bool
  label_suits None = true
  label_suits (Some l) = suited h (t.arm_at (code_in h) (table_in h) (spot_in h) h.index l ∷ [])

  abbrev pub may_begin : ℕ → Bool
  may_begin a = label_suits (label_at a)

  -- what an Arm gives
  abbrev pub sort_there : Option ℕ → Option Sort
  sort_there None = None
  sort_there (Some l) = arm_of (spot_at (table_in h) l)

  abbrev pub arm_fits : ℕ → Sort → Bool
  arm_fits a b = on_arm (sort_there (label_at a)) (λ x. fit (classes_in h) x b)

  -- of so many operations behind this one
  abbrev pub are_arms : ℕ → Bool
  are_arms m = all_from is_arm (suc h.index) m

  abbrev pub do_begin : ℕ → Bool
  do_begin m = all_from may_begin (suc h.index) m

  abbrev pub do_fit : ℕ → Sort → Bool
  do_fit m b = all_from (λ a. arm_fits a b) (suc h.index) m

  abbrev pub do_fill : ℕ → Sorts → Bool
  do_fill m ys = eqn (size ys) m && each_from arm_fits (suc h.index) ys

  -- what they give together
  abbrev pub labels_in : ℕ → List ℕ
  labels_in m = arm_labels (code_in h).ops (suc h.index) m

  abbrev pub grouped_in : ℕ → ℕ → t.Made
  grouped_in kind m = grouped kind (arm_results (table_in h) m (labels_in m))

  -- to where a Group leads behind its arms, and to where it leads
  abbrev pub group_ends : ℕ → ℕ → List Kept → Goes
  group_ends kind m st = to (code_in h) (table_in h) (spot_in h) h.index (suc h.index + m)
      (grouped_in kind m ∷ []) (operands st)

  abbrev pub group_goes : ℕ → ℕ → List Kept → List Goes
  group_goes kind m st = arms_at (code_in h) (table_in h) (spot_in h) h.index (labels_in m)
      (group_ends kind m st ∷ [])
