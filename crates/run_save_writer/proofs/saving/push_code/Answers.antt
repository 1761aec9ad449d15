use Rattle.std.proofs.Common.{ℕ, List, length, subst}
use Rattle.verse_image.specs.Format.{plain}
use Rattle.verse_image.specs.Writing.{Writes}
use Rattle.run_save_format.specs.Format.{wide}
use Rattle.run_save_writer.proofs.WholeRuns.{writes_image}
use Rattle.run_save_writer.proofs.saving.push_code.Goals as goal

pub returns : goal.returns
returns c =
    writes_image c.args.code.now c.in_ok-image.image.items _ _ _ c.in_ok-image.ensures
    (subst (λ (bytes : List ℕ). Writes (wide (length bytes)) c.args.out.now.items c.push_count.new.out.items)
    c.as_slice-bytes.ensures.value
    c.in_ok-push_count.ensures)
    (subst (λ (bytes : List ℕ). Writes (plain bytes) c.push_count.new.out.items c.push_bytes.new.out.items) c.as_slice-bytes.ensures.value
    c.in_ok-push_bytes.ensures)
