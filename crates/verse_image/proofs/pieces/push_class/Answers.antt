use Rattle.std.proofs.Common.{ℕ, List, subst}
use Rattle.verse_image.specs.Format.{number, table}
use Rattle.verse_image.specs.Writing.{Writes}
use Rattle.verse_image.proofs.WritingLemmas.{writes_then}
use Rattle.verse_image.proofs.pieces.push_class.Goals as goal

pub returns : goal.returns
returns c =
    writes_then (number c.args.value.now.slots) (table number c.args.value.now.methods) _ _ _ c.in_ok-push_number.ensures
    (subst (λ (methods : List ℕ). Writes (table number methods) c.push_number.new.out.items c.push_methods.new.out.items) c.as_slice.ensures
    c.in_ok-push_methods.ensures)
