use Rattle.std.proofs.Common.{ℕ, subst}
use Rattle.verse_base.proofs.Facts.{as_long}
use Rattle.verse_image.specs.Writing.{Writes}
use Rattle.verse_value.specs.View.{val_of, vals_of}
use Rattle.run_save_format.specs.Format.{wide, value}
use Rattle.run_save_writer.proofs.Writing.{writes_many}
use Rattle.run_save_writer.proofs.values.push_values.Goals as goal

pub returns : goal.returns
returns c =
    writes_many value (vals_of c.args.parts.now) _ _ _
    (subst (λ (n : ℕ). Writes (wide n) c.args.out.now.items c.push_count.new.out.items) (as_long val_of c.args.parts.now)
    c.in_ok-push_count.ensures)
    c.in_ok-push_each.ensures
