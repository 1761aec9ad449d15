-- Cells and spawned entries of a front.
use Rattle.std.proofs.Common.{◌≡◌, ℕ, ◌+◌, List, [], ◌∷◌, ◌++◌, length, Option, Some, None, slice_get, Ok, refl, sym, ap, subst}
use Rattle.std.proofs.Common.{length-append}
use Rattle.verse_image.specs.Reading.{Reader, digits_at}
use Rattle.verse_code.specs.declared.codes.Class.{Class}
use Rattle.run_save_format.specs.declared.forms.CellForm.{CellForm}
use Rattle.run_save_format.specs.declared.forms.CellForm.TheVariants as of_cell
use Rattle.run_save_format.specs.declared.weights.Where.TheVariants as place
use Rattle.run_save_format.specs.Values.{wide_at, choice_at, value_at}
use Rattle.run_save_format.specs.Reading.{cell_at, cell_forms, cells_at, entry_at, given_at, kind_at, kind_form_at, noted_at, object_of}
use Rattle.run_save_format.specs.Reading.{spawned_at}
use Rattle.run_save_format.proofs.Lefts.{AllLeft, Noted, one_more_left}
use Rattle.run_save_fronts.proofs.Staying.{Place, Stays, reads, fails, stays_then, Both, Local, HasByte, first_then}
use Rattle.run_save_fronts.proofs.Numbers.{FewWith, with_other, BothWith, wide_stays, in_first, in_stays, most_stays, small_stays}
use Rattle.run_save_fronts.proofs.Numbers.{choice_stays, each_with, each_stays, maybe_stays}
use Rattle.run_save_fronts.proofs.Values.{in_cell, weighed_stays, value_stays, free_stays}

-- ---- how many bytes were left at each

-- with more bytes behind them
abbrev pub further : List ℕ → List ℕ → List ℕ
further more [] = []
further more (left ∷ lefts) = (left + length more) ∷ further more lefts

one_further : (more bytes lefts : List ℕ) →
    further more lefts ++ length (bytes ++ more) ∷ [] ≡ further more (lefts ++ length bytes ∷ [])
one_further more bytes [] = ap (λ n. n ∷ []) (length-append bytes more)
one_further more bytes (left ∷ lefts) = ap (λ ls. (left + length more) ∷ ls) (one_further more bytes lefts)

abbrev pub noted_further : {S : Type 0} → List ℕ → S × List ℕ → S × List ℕ
noted_further more s = (s.0, further more s.1)

kind_first : (classes : List Class) → HasByte (kind_at classes)
unfolding kind_at choice_at wide_at digits_at
kind_first classes = record { none = refl }

module _ {more : List ℕ} {most : ℕ} where
  pub noted_stays : {A S : Type 0} (one : S → Reader (A × S)) → ((s : S) → Local more most (one s)) → (s : S × List ℕ) → Noted most s →
      BothWith more most (Noted most) (noted_further more) (noted_at one s) (noted_at one (noted_further more s))
  unfolding noted_at
  noted_stays one h s all bytes few =
      stays_then _ _ (h s.0 bytes few)
      (λ x less. subst
      (λ (lefts : List ℕ). Stays more most (FewWith most (Noted most)) (with_other more (noted_further more))
      (Ok ((x.0.0, (x.0.1, s.1 ++ length bytes ∷ [])), x.1)) (Ok ((x.0.0, (x.0.1, lefts)), x.1 ++ more)))
      (sym (one_further more bytes s.1))
      (reads (one_more_left most (length bytes) s.1 all few, less)))

  -- ---- cells

  object_stays : {left all : ℕ} (class : ℕ) (o : Option Class) → Place more most left all →
      Both more most (object_of left class o) (object_of all class o)
  object_stays class None at bytes few = fails at
  object_stays class (Some c) at bytes few = reads few

  kind_form_stays : (classes : List Class) (form : CellForm) → Local more most (kind_form_at classes form)
  unfolding kind_form_at
  kind_form_stays classes of_cell.Var bytes few = reads few
  kind_form_stays classes of_cell.Event bytes few = reads few
  kind_form_stays classes of_cell.Object bytes few =
      first_then _ _ (in_first 4 0 4294967295) bytes few (small_stays bytes few)
      (λ n at less. object_stays n.0 (slice_get classes n.0) at n.1 less)

  kind_stays : (classes : List Class) → Local more most (kind_at classes)
  unfolding kind_at
  kind_stays classes bytes few =
      stays_then _ _ (choice_stays cell_forms bytes few) (λ form less. kind_form_stays classes form.0 form.1 less)

  cell_stays : (classes : List Class) (cells : ℕ) → Local more most (cell_at classes cells)
  unfolding cell_at
  cell_stays classes cells bytes few =
      first_then _ _ (kind_first classes) bytes few (kind_stays classes bytes few)
      (λ kind at less. stays_then _ _ (weighed_stays 1 (record { value = 0; cells = cells }) (in_cell at) at)
      (λ load free. stays_then _ _ (in_stays 5 kind.0.1 kind.0.1 kind.1 less)
      (λ n less. stays_then _ _
      (each_stays (value_at (place.Cell (length bytes))) (value_at (place.Cell (length (bytes ++ more)))) (value_stays (in_cell at))
      n.0 load.cells n.1 less)
      (λ slots less. reads less))))

  pub cells_stay : (classes : List Class) → BothWith more most (AllLeft most) (further more) (cells_at classes) (cells_at classes)
  unfolding cells_at
  cells_stay classes bytes few =
      stays_then _ _ (wide_stays bytes few)
      (λ n less. stays_then _ _
      (each_with (Noted most) (noted_further more) (noted_at (cell_at classes)) (noted_at (cell_at classes))
      (noted_stays (cell_at classes) (cell_stays classes)) n.0 (0, []) tt n.1 less)
      (λ cells p. reads p))

  -- ---- spawned entries

  given_stays : (entries : ℕ) → Local more most (given_at entries)
  unfolding given_at
  given_stays entries bytes few =
      stays_then _ _ (free_stays entries bytes few)
      (λ v less. stays_then _ _ (wide_stays v.1 less) (λ moment less. reads less))

  entry_stays : (entries : ℕ) (lefts : List ℕ) → AllLeft most lefts →
      BothWith more most (AllLeft most) (further more) (entry_at entries lefts) (entry_at entries (further more lefts))
  unfolding entry_at
  entry_stays entries lefts all bytes few =
      stays_then _ _ (maybe_stays (given_at entries) (given_stays entries) bytes few)
      (λ g less. subst
      (λ (others : List ℕ). Stays more most (FewWith most (AllLeft most)) (with_other more (further more))
      (Ok ((g.0, lefts ++ length bytes ∷ []), g.1)) (Ok ((g.0, others), g.1 ++ more)))
      (sym (one_further more bytes lefts))
      (reads (one_more_left most (length bytes) lefts all few, less)))

  pub spawned_stays : (spent : ℕ) → BothWith more most (AllLeft most) (further more) (spawned_at spent) (spawned_at spent)
  unfolding spawned_at
  spawned_stays spent bytes few =
      stays_then _ _ (most_stays spent bytes few)
      (λ n less. each_with (AllLeft most) (further more) (entry_at n.0) (entry_at n.0) (entry_stays n.0) n.0 [] tt n.1 less)
