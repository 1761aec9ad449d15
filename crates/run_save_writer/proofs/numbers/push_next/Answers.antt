use Rattle.std.proofs.Common.{◌≡◌, ℕ, suc, ◌+◌, Some, subst, arith}
use Rattle.verse_image.specs.Format.{Spelled}
use Rattle.verse_image.specs.Writing.{Writes}
use Rattle.verse_image.proofs.WritingLemmas.{writes_as}
use Rattle.run_save_format.specs.Format.{optional}
use Rattle.run_save_writer.proofs.numbers.push_next.Goals as goal

pub returns : goal.returns
returns c =
    let more : c.args.value + 1 ≡ suc c.args.value = omega arith in
    writes_as (Spelled (suc c.args.value)) (optional (Some c.args.value)) _ _ (λ x z h. (omega arith, h))
    (subst (λ (n : ℕ). Writes (Spelled n) c.args.out.now.items c.push_unsigned.new.out.items) more c.in_ok-push_unsigned.ensures)
