-- The bytes by now, and those of the digits that are left.
use Rattle.std.proofs.Common.{◌≡◌, None, Some, get_or, inl, inr, arith, rules, refl}
use Rattle.verse_listing_lines.specs.Lines.{digit_of}
use Rattle.verse_listing_lines.proofs.BytesSteps.{bytes_on, bytes_stop, bytes_end, bytes_odd}
use Rattle.verse_listing_lines.proofs.texts.bytes_of.Goals as goal
use Rattle.verse_listing_lines.proofs.texts.bytes_of.Goals.{in_default-2-via-in-Some+in_default, in_default-2-via-in_default}

pub returns-in_default-2 : goal.returns-in_default-2
returns-in_default-2 c = elim c.in_default-2.branch [
  | in_default-2-via-in-Some+in_default w ↦
      let none : digit_of (get_or c.digits.left.now 1 0) ≡ None = search rules in
      bytes_stop c.digits.all c.digits.left.now _ (omega arith) (inr none) c.digits.invariant
  | in_default-2-via-in_default w ↦
      let none : digit_of (get_or c.digits.left.now 0 0) ≡ None = search rules in
      bytes_stop c.digits.all c.digits.left.now _ (omega arith) (inl none) c.digits.invariant
]

pub digits-preserved : goal.digits-preserved
digits-preserved c =
    let high : digit_of (get_or c.digits.left.now 0 0) ≡ Some c.in-Some-Some.high = search rules in
    let low : digit_of (get_or c.digits.left.now 1 0) ≡ Some c.in-Some-Some.low = search rules in
    bytes_on c.digits.all c.push.new.self c.digits.left.now _ c.in-Some-Some.high c.in-Some-Some.low _ (omega arith) high low
    (search rules) refl c.digits.invariant

pub returns-then-is_empty : goal.returns-then-is_empty
returns-then-is_empty c = bytes_end c.digits.all c.digits.left.now _ (search rules) c.digits.invariant

pub returns-else-is_empty : goal.returns-else-is_empty
returns-else-is_empty c = bytes_odd c.digits.all c.digits.left.now _ (search rules) (omega arith) c.digits.invariant
