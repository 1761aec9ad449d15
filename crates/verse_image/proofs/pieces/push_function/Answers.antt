use Rattle.std.proofs.Common.{ℕ, subst}
use Rattle.verse_image.specs.Format.{number, flag}
use Rattle.verse_image.specs.Writing.{Writes}
use Rattle.verse_image.proofs.WritingLemmas.{writes_four}
use Rattle.verse_image.proofs.pieces.push_function.Goals as goal

pub returns : goal.returns
returns c =
    writes_four (number c.args.value.params) (number c.args.value.locals) (number c.args.value.entry)
    (number (flag c.args.value.suspends)) _ _ _ _ _
    c.in_ok-push_number.ensures c.in_ok-push_number-2.ensures c.in_ok-push_number-3.ensures
    (subst (λ (n : ℕ). Writes (number n) c.push_number-3.new.out.items c.push_number-4.new.out.items) c.flag.ensures
    c.in_ok-push_number-4.ensures)
