use Rattle.std.proofs.Common.{◌≡◌, ◌+◌, drop, false, true, sym, ap, ◌∙◌, arith}
use Rattle.std.specs.Prelude.{◌&&◌, get_or}
use Rattle.verse_verify_faults.specs.Faults.{same_numbers}
use Rattle.verse_verify_notes.specs.View.{spot_of}
use Rattle.verse_verify_parts.specs.Heres.{names_of, is_at}
use Rattle.verse_verify_parts.proofs.Naming.{met, past_names, end_no}
use Rattle.verse_verify_parts.proofs.names.are_names_from.Goals as goal

pub returns-then-not-is_name : goal.returns-then-not-is_name
returns-then-not-is_name c =
    let ns = names_of (spot_of c.args.spot.now) in
    let xs = c.args.numbers.now in
    let k = c.numbers.number-index in
    let i = c.numbers.at in
    let other : is_at ns i (get_or xs k 0) ≡ false = sym c.is_name.ensures ∙ c.if-not-is_name.true in
    sym (met xs ns k i (omega (arith, c.numbers-test.true)) ∙ ap (λ b. b && same_numbers (drop (k + 1) xs) (drop (i + 1) ns)) other) ∙
    c.numbers.invariant.0

pub numbers-preserved : goal.numbers-preserved
numbers-preserved c =
    let ns = names_of (spot_of c.args.spot.now) in
    let xs = c.args.numbers.now in
    let k = c.numbers.number-index in
    let i = c.numbers.at in
    let this : is_at ns i (get_or xs k 0) ≡ true = sym c.is_name.ensures ∙ c.if-not-is_name.false in (
      sym (met xs ns k i (omega (arith, c.numbers-test.true)) ∙ ap (λ b. b && same_numbers (drop (k + 1) xs) (drop (i + 1) ns)) this) ∙
          c.numbers.invariant.0,
      omega (arith, c.numbers.invariant.1),
    )

pub returns : goal.returns
returns c =
    let ns = names_of (spot_of c.args.spot.now) in
    sym (ap (λ ys. same_numbers ys (drop c.numbers.at ns)) (past_names c.args.numbers.now c.numbers.number-index (omega (
      arith,
      c.numbers-test.false,
    ))) ∙ end_no ns c.numbers.at (omega (arith, c.if-at-names_count.false, c.names_count.ensures))) ∙
    c.numbers.invariant.0
