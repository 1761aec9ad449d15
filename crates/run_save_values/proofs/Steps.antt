-- Steps of the readers of values.
use Rattle.std.proofs.Common.{◌≡◌, ℕ, zero, suc, ◌+◌, ◌-◌, ◌<◌, ◌≤◌, List, [], length, Some, Result, Ok, Err, refl, sym, ap, ◌∙◌}
use Rattle.std.proofs.Common.{arith}
use Rattle.verse_image.specs.declared.faults.Flaw.{Flaw}
use Rattle.verse_image.specs.declared.faults.ReadFault.{ReadFault}
use Rattle.verse_image.specs.declared.faults.ReadFault.TheVariants as faults
use Rattle.verse_image.specs.Reading.{Fails, flaw}
use Rattle.verse_value.specs.Val.{Val, Pairs, no_pairs}
use Rattle.run_save_format.specs.declared.forms.ValueForm.{ValueForm}
use Rattle.run_save_format.specs.declared.weights.Where.{Where}
use Rattle.run_save_format.specs.declared.weights.Load.{Load}
use Rattle.run_save_format.specs.Values.{wide_at, none_or, each_at, part_at, value_forms, value_form_at, part_value_at, Parts, parts_at}
use Rattle.run_save_format.specs.Values.{pair_at, pairs_from, pairs_at}
use Rattle.run_save_values.proofs.ListSteps.{fails_then, after_front, each_begins}

pub some_of : (n : ℕ) → 0 < n → none_or n ≡ Some (n - 1)
some_of n lt = let e : n ≡ suc (n - 1) = omega arith in ap none_or e

-- ---- levels

pub no_level : (w : Where) (levels : ℕ) (load : Load) (bytes : List ℕ) (left : ℕ) (form : ValueForm) (more : Load) (rest : List ℕ) →
    left ≡ length bytes → levels ≡ 0 → part_at value_forms w load bytes ≡ Ok ((form, more), rest) →
    part_value_at w levels load bytes ≡ Err (flaw 5 left)
unfolding part_value_at
no_level w levels load bytes left form more rest d e h = rw (d, e, h) refl

pub a_level : (w : Where) (levels : ℕ) (load : Load) (bytes : List ℕ) (form : ValueForm) (more : Load) (rest : List ℕ) → 0 < levels →
    part_at value_forms w load bytes ≡ Ok ((form, more), rest) →
    part_value_at w levels load bytes ≡ value_form_at w (levels - 1) (part_value_at w (levels - 1)) form more rest
unfolding part_value_at
a_level w levels load bytes form more rest lt h =
    let e : levels ≡ suc (levels - 1) = omega arith in
    ap (λ k. part_value_at w k load bytes) e ∙ rw h refl

pub no_form : (w : Where) (levels : ℕ) (load : Load) (bytes : List ℕ) (e : ReadFault) → Fails e (part_at value_forms w load bytes) →
    Fails e (part_value_at w levels load bytes)
unfolding part_value_at
no_form w zero load bytes e h = fails_then e (part_at value_forms w load bytes) (λ part. Err (flaw 5 (length bytes))) h
no_form w (suc levels) load bytes e h =
    fails_then e (part_at value_forms w load bytes)
    (λ part. value_form_at w levels (part_value_at w levels) part.0.0 part.0.1 part.1) h

-- ---- parts

pub parts_begin : (part : Parts Val) (load : Load) (bytes : List ℕ) (count : ℕ) (rest : List ℕ) → wide_at bytes ≡ Ok (count, rest) →
    after_front [] (each_at part (count - 0) load rest) ≡ parts_at part load bytes
unfolding parts_at
parts_begin part load bytes count rest e = rw e (each_begins part count load rest)

pub parts_fail : (part : Parts Val) (load : Load) (bytes : List ℕ) (e : ReadFault) → Fails e (wide_at bytes) →
    Fails e (parts_at part load bytes)
unfolding parts_at
parts_fail part load bytes e h = fails_then e (wide_at bytes) (λ n. each_at part n.0 load n.1) h

-- ---- pairs

pub pairs_begin : (w : Where) (levels : ℕ) (part : Parts Val) (load : Load) (bytes : List ℕ) (count : ℕ) (rest : List ℕ) →
    wide_at bytes ≡ Ok (count, rest) → pairs_from w levels part (count - 0) no_pairs load rest ≡ pairs_at w levels part load bytes
unfolding pairs_at
pairs_begin w levels part load bytes count rest e = let k : count - 0 ≡ count = omega arith in rw (k, e) refl

pub pairs_fail : (w : Where) (levels : ℕ) (part : Parts Val) (load : Load) (bytes : List ℕ) (e : ReadFault) → Fails e (wide_at bytes) →
    Fails e (pairs_at w levels part load bytes)
unfolding pairs_at
pairs_fail w levels part load bytes e h = fails_then e (wide_at bytes) (λ n. pairs_from w levels part n.0 no_pairs load n.1) h

pub pairs_go_on : (w : Where) (levels : ℕ) (part : Parts Val) (count i : ℕ) (before : Pairs) (load : Load) (bytes : List ℕ) (more : Pairs)
    (weights : Load) (after : List ℕ) (total : Result ((Pairs × Load) × List ℕ) Flaw) → i < count →
    pair_at w levels part before load bytes ≡ Ok ((more, weights), after) →
    pairs_from w levels part (count - i) before load bytes ≡ total → pairs_from w levels part (count - (i + 1)) more weights after ≡ total
unfolding pairs_from
pairs_go_on w levels part count i before load bytes more weights after total lt h so_far =
    let k : count - i ≡ suc (count - (i + 1)) = omega arith in
    let step : pairs_from w levels part (count - i) before load bytes ≡ pairs_from w levels part (count - (i + 1)) more weights after =
    rw (k, h) refl in
    sym step ∙ so_far

pub pairs_end : (w : Where) (levels : ℕ) (part : Parts Val) (e : ReadFault) (count i : ℕ) (before : Pairs) (load : Load) (bytes : List ℕ)
    (total : Result ((Pairs × Load) × List ℕ) Flaw) → i < count → Fails e (pair_at w levels part before load bytes) →
    pairs_from w levels part (count - i) before load bytes ≡ total → Fails e total
unfolding pairs_from
pairs_end w levels part faults.Memory count i before load bytes total lt h so_far = tt
pairs_end w levels part (faults.Bad f) count i before load bytes total lt h so_far =
    let k : count - i ≡ suc (count - (i + 1)) = omega arith in
    let step : pairs_from w levels part (count - i) before load bytes ≡ Err f = rw (k, h) refl in
    sym so_far ∙ step

pub pairs_are_done : (w : Where) (levels : ℕ) (part : Parts Val) (count i : ℕ) (before : Pairs) (load : Load) (bytes : List ℕ)
    (total : Result ((Pairs × Load) × List ℕ) Flaw) → count ≤ i → pairs_from w levels part (count - i) before load bytes ≡ total →
    total ≡ Ok ((before, load), bytes)
unfolding pairs_from
pairs_are_done w levels part count i before load bytes total le so_far =
    let k : count - i ≡ 0 = omega arith in
    let step : pairs_from w levels part (count - i) before load bytes ≡ Ok ((before, load), bytes) = rw k refl in
    sym so_far ∙ step
