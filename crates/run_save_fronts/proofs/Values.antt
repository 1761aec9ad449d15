-- Keys and values of a front.
use Rattle.std.proofs.Common.{ℕ, zero, suc, ◌+◌, ◌≤◌, ltb, eqb, List, length, Option, Some, None, Ok, refl, arith}
use Rattle.verse_image.specs.Reading.{digits_at}
use Rattle.verse_value.specs.Val.{Val, Pairs, no_pairs}
use Rattle.verse_value.specs.declared.keys.Key.{Key}
use Rattle.verse_value.specs.declared.keys.Key.TheVariants as key
use Rattle.verse_value.specs.Entries.{key_place}
use Rattle.verse_value.specs.Parts.{keys_in}
use Rattle.verse_value.specs.declared.sizes.TheConstants.{MOST_LEVELS, MOST_STORE_WEIGHT, MOST_WEIGHT}
use Rattle.run_save_format.specs.declared.forms.KeyForm.{KeyForm}
use Rattle.run_save_format.specs.declared.forms.KeyForm.TheVariants as of_key
use Rattle.run_save_format.specs.declared.forms.ValueForm.{ValueForm}
use Rattle.run_save_format.specs.declared.forms.ValueForm.TheVariants as of_value
use Rattle.run_save_format.specs.declared.weights.Where.{Where}
use Rattle.run_save_format.specs.declared.weights.Where.TheVariants.{Cell, Among}
use Rattle.run_save_format.specs.declared.weights.Load.{Load}
use Rattle.run_save_format.specs.Values.{wide_at, small_where, choice_at, Parts, weighed, part_at}
use Rattle.run_save_format.specs.Values.{key_forms, text_key_at, enum_key_at, key_form_at, key_at, value_forms, int_at, char_at, enum_at}
use Rattle.run_save_format.specs.Values.{object_at, event_at, may_name, task_at, parts_at, option_at, array_at, tuple_at, pair_with}
use Rattle.run_save_format.specs.Values.{pair_at, pairs_from, pairs_at, map_at, value_form_at, part_value_at, value_at, values_at}
use Rattle.run_save_format.specs.Reading.{free_value_at, free_values_at}
use Rattle.run_save_fronts.proofs.Staying.{Place, Stays, reads, fails, stays_then, stays_if, Both, Local, HasByte, first_then}
use Rattle.run_save_fronts.proofs.Numbers.{wide_stays, integer_stays, in_first, in_stays, small_stays, flag_stays}
use Rattle.run_save_fronts.proofs.Numbers.{choice_first, choice_stays, each_stays, piece_stays}

-- a value stands in one cell, of a front and of all, or among the same entries
pub data InPlace (more : List ℕ) (most : ℕ) : Where → Where → Type 0 where
  in_cell : {left all : ℕ} → Place more most left all → InPlace more most (Cell left) (Cell all)
  among : {entries : ℕ} → InPlace more most (Among entries) (Among entries)

-- ---- where no byte is there

part_first : {A : Type 0} (forms : List A) (w : Where) (s : Load) → HasByte (part_at forms w s)
unfolding part_at choice_at wide_at digits_at
part_first forms w s = record { none = refl }

key_first : (w : Where) (levels : ℕ) (s : Load) → HasByte (key_at w levels s)
unfolding key_at part_at choice_at wide_at digits_at
key_first w levels s = record { none = refl }

module _ {more : List ℕ} {most : ℕ} where
  -- ---- weights

  pub weighed_stays : {w v : Where} {left all : ℕ} (n : ℕ) (s : Load) → InPlace more most w v → Place more most left all →
      Stays more most (λ (t : Load). Unit {0}) (λ (t : Load). Ok t) (weighed w left n s) (weighed v all n s)
  weighed_stays n s (in_cell cell) at =
      stays_if (ltb MOST_STORE_WEIGHT (s.cells + n)) (fails cell) (stays_if (ltb MOST_WEIGHT (s.value + n)) (fails at) (reads tt))
  weighed_stays n s among at = stays_if (ltb MOST_WEIGHT (s.value + n)) (fails at) (reads tt)

  part_stays : {A : Type 0} {w v : Where} (forms : List A) (s : Load) → InPlace more most w v →
      Both more most (part_at forms w s) (part_at forms v s)
  unfolding part_at
  part_stays forms s place bytes few =
      first_then _ _ (choice_first forms) bytes few (choice_stays forms bytes few)
      (λ form at less. stays_then _ _ (weighed_stays 1 s place at) (λ load free. reads less))

  -- ---- keys

  text_key_stays : {w v : Where} {left all : ℕ} (s : Load) → InPlace more most w v → Place more most left all →
      Both more most (text_key_at w left s) (text_key_at v all s)
  unfolding text_key_at
  text_key_stays s place at bytes few =
      stays_then _ _ (wide_stays bytes few)
      (λ n less. stays_then _ _ (weighed_stays n.0 s place at)
      (λ load free. piece_stays n.0 n.1
      (λ text behind. Ok ((key.Text text, load), behind)) (λ text behind. Ok ((key.Text text, load), behind))
      (λ text behind within. (let low : length behind ≤ most = omega arith in reads low))))

  key_form_stays : {w v : Where} {left all : ℕ} (form : KeyForm) (s : Load) → InPlace more most w v → Place more most left all →
      Both more most (key_form_at w left form s) (key_form_at v all form s)
  unfolding key_form_at enum_key_at
  key_form_stays of_key.Int s place at bytes few = stays_then _ _ (integer_stays bytes few) (λ n less. reads less)
  key_form_stays of_key.Logic s place at bytes few = stays_then _ _ (flag_stays bytes few) (λ n less. reads less)
  key_form_stays of_key.Char s place at bytes few = stays_then _ _ (in_stays 5 0 255 bytes few) (λ n less. reads less)
  key_form_stays of_key.Enum s place at bytes few =
      stays_then _ _ (small_stays bytes few) (λ of less. stays_then _ _ (small_stays of.1 less) (λ at less. reads less))
  key_form_stays of_key.Text s place at bytes few = text_key_stays s place at bytes few

  key_stays : {w v : Where} (levels : ℕ) (s : Load) → InPlace more most w v → Both more most (key_at w levels s) (key_at v levels s)
  unfolding key_at
  key_stays {w} {v} levels s place bytes few =
      first_then _ _ (part_first key_forms w s) bytes few (part_stays key_forms s place bytes few)
      (λ part at less. stays_if (eqb levels 0) (fails at) (key_form_stays part.0.0 part.0.1 place at part.1 less))

  -- ---- parts of a value

  named_stays : {w v : Where} → InPlace more most w v → Both more most (small_where (may_name w)) (small_where (may_name v))
  unfolding small_where
  named_stays (in_cell cell) bytes few =
      first_then _ _ (in_first 4 0 4294967295) bytes few (small_stays bytes few) (λ n at less. reads less)
  named_stays (among {entries = entries}) bytes few =
      first_then _ _ (in_first 4 0 4294967295) bytes few (small_stays bytes few)
      (λ n at less. stays_if (ltb n.0 entries) (reads less) (fails at))

  module _ {w v : Where} (place : InPlace more most w v) where
    module _ (levels : ℕ) (part whole : Parts Val) (h : (s : Load) → Both more most (part s) (whole s)) where
      parts_stay : (s : Load) → Both more most (parts_at part s) (parts_at whole s)
      unfolding parts_at
      parts_stay s bytes few = stays_then _ _ (wide_stays bytes few) (λ n less. each_stays part whole h n.0 s n.1 less)

      pair_with_stays : (before : Pairs) {left all : ℕ} (k : Key) (o : Option ℕ) (s : Load) → Place more most left all →
          Both more most (pair_with part before left k o s) (pair_with whole before all k o s)
      pair_with_stays before k (Some other) s at bytes few = fails at
      pair_with_stays before k None s at bytes few = stays_then _ _ (h s bytes few) (λ v less. reads less)

      pair_stays : (before : Pairs) (s : Load) → Both more most (pair_at w levels part before s) (pair_at v levels whole before s)
      unfolding pair_at
      pair_stays before s bytes few =
          first_then _ _ (key_first w levels s) bytes few (key_stays levels s place bytes few)
          (λ k at less. pair_with_stays before k.0.0 (key_place k.0.0 (keys_in before)) k.0.1 at k.1 less)

      pairs_from_stay : (n : ℕ) (before : Pairs) (s : Load) →
          Both more most (pairs_from w levels part n before s) (pairs_from v levels whole n before s)
      unfolding pairs_from
      pairs_from_stay zero before s bytes few = reads few
      pairs_from_stay (suc n) before s bytes few =
          stays_then _ _ (pair_stays before s bytes few) (λ others less. pairs_from_stay n others.0.0 others.0.1 others.1 less)

      pairs_stay : (s : Load) → Both more most (pairs_at w levels part s) (pairs_at v levels whole s)
      unfolding pairs_at
      pairs_stay s bytes few = stays_then _ _ (wide_stays bytes few) (λ n less. pairs_from_stay n.0 no_pairs s n.1 less)

      form_stays : (form : ValueForm) (s : Load) → Both more most (value_form_at w levels part form s) (value_form_at v levels whole form s)
      unfolding value_form_at int_at char_at enum_at object_at event_at task_at option_at array_at map_at tuple_at
      form_stays of_value.Unit s bytes few = reads few
      form_stays of_value.False s bytes few = reads few
      form_stays of_value.True s bytes few = reads few
      form_stays of_value.Int s bytes few = stays_then _ _ (integer_stays bytes few) (λ n less. reads less)
      form_stays of_value.Char s bytes few = stays_then _ _ (in_stays 5 0 255 bytes few) (λ n less. reads less)
      form_stays of_value.Enum s bytes few =
          stays_then _ _ (small_stays bytes few) (λ of less. stays_then _ _ (small_stays of.1 less) (λ at less. reads less))
      form_stays of_value.Object s bytes few = stays_then _ _ (small_stays bytes few) (λ n less. reads less)
      form_stays of_value.Event s bytes few = stays_then _ _ (small_stays bytes few) (λ n less. reads less)
      form_stays of_value.Task s bytes few = stays_then _ _ (named_stays place bytes few) (λ n less. reads less)
      form_stays of_value.Option s bytes few = stays_then _ _ (h s bytes few) (λ v less. reads less)
      form_stays of_value.Array s bytes few = stays_then _ _ (parts_stay s bytes few) (λ vs less. reads less)
      form_stays of_value.Map s bytes few = stays_then _ _ (pairs_stay s bytes few) (λ ps less. reads less)
      form_stays of_value.Tuple s bytes few = stays_then _ _ (parts_stay s bytes few) (λ vs less. reads less)

    -- ---- values

    part_value_stays : (levels : ℕ) (s : Load) → Both more most (part_value_at w levels s) (part_value_at v levels s)
    unfolding part_value_at
    part_value_stays zero s bytes few =
        first_then _ _ (part_first value_forms w s) bytes few (part_stays value_forms s place bytes few) (λ part at less. fails at)
    part_value_stays (suc levels) s bytes few =
        stays_then _ _ (part_stays value_forms s place bytes few)
        (λ part less. form_stays levels (part_value_at w levels) (part_value_at v levels) (part_value_stays levels) part.0.0 part.0.1
        part.1 less)

    pub value_stays : (cells : ℕ) → Both more most (value_at w cells) (value_at v cells)
    unfolding value_at
    value_stays cells bytes few =
        stays_then _ _ (part_value_stays MOST_LEVELS (record { value = 0; cells = cells }) bytes few) (λ x less. reads less)

    pub values_stay : (cells : ℕ) → Both more most (values_at w cells) (values_at v cells)
    unfolding values_at
    values_stay cells bytes few =
        stays_then _ _ (wide_stays bytes few) (λ n less. each_stays (value_at w) (value_at v) value_stays n.0 cells n.1 less)

  -- ---- values outside of cells

  pub free_stays : (entries : ℕ) → Local more most (free_value_at entries)
  unfolding free_value_at
  free_stays entries bytes few = stays_then _ _ (value_stays among 0 bytes few) (λ x less. reads less)

  pub frees_stay : (entries : ℕ) → Local more most (free_values_at entries)
  unfolding free_values_at
  frees_stay entries bytes few = stays_then _ _ (values_stay among 0 bytes few) (λ x less. reads less)
