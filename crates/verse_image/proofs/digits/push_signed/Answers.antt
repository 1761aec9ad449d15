use Rattle.std.proofs.Common.{ℕ, ◌/◌, ◌+◌, List, sym, subst, ap, arith}
use Rattle.verse_image.specs.Format.{SignedSpelled}
use Rattle.verse_image.specs.Writing.{Writes}
use Rattle.verse_image.proofs.WritingLemmas.{writes_signed_last, writes_signed_more}
use Rattle.verse_image.proofs.digits.push_signed.Goals as goal

pub digits-preserved : goal.digits-preserved
digits-preserved c = λ new w.
    c.digits.invariant new (writes_signed_more c.args.negative c.digits.left _ c.digits.out.items new (omega arith)
    (ap (λ (n : ℕ). 128 + n) c.seven_bits.ensures)
    (subst (λ (a : List ℕ). Writes (SignedSpelled c.args.negative (c.digits.left / 128)) a new) c.in_ok-push.ensures.items w))

pub returns : goal.returns
returns c =
    c.digits.invariant _ (subst (λ (new : List ℕ). Writes (SignedSpelled c.args.negative c.digits.left) c.digits.out.items new)
    (sym c.in_ok-push-2.ensures.items)
    (writes_signed_last c.args.negative c.digits.left _ c.digits.out.items (omega arith) c.seven_bits-2.ensures))
