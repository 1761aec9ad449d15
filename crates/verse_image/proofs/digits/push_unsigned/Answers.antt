use Rattle.std.proofs.Common.{ℕ, ◌/◌, List, sym, subst, refl, arith}
use Rattle.verse_image.specs.Format.{Spelled}
use Rattle.verse_image.specs.Writing.{Writes}
use Rattle.verse_image.proofs.WritingLemmas.{writes_last, writes_more}
use Rattle.verse_image.proofs.digits.push_unsigned.Goals as goal

pub digits-preserved : goal.digits-preserved
digits-preserved c = λ new w.
    c.digits.invariant new (writes_more c.digits.left _ c.digits.out.items new (omega arith) refl
    (subst (λ (a : List ℕ). Writes (Spelled (c.digits.left / 128)) a new) c.in_ok-push.ensures.items w))

pub returns : goal.returns
returns c =
    c.digits.invariant _ (subst (λ (new : List ℕ). Writes (Spelled c.digits.left) c.digits.out.items new) (sym c.in_ok-push-2.ensures.items)
    (writes_last c.digits.left c.digits.out.items (omega arith)))
