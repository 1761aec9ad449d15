use Rattle.std.proofs.Common.{ℕ, List, length, arith, subst}
use Rattle.verse_image.specs.Format.{number, each, text}
use Rattle.verse_image.specs.Writing.{Writes}
use Rattle.verse_image.proofs.WritingLemmas.{writes_then, writes_entry, writes_end}
use Rattle.verse_image.proofs.encoding.push_texts.Goals as goal

pub entries-init : goal.entries-init
entries-init c = λ new w. writes_then (number (length c.args.texts.now)) (each text c.args.texts.now) _ _ _ c.in_ok-push_count.ensures w

pub entries-preserved : goal.entries-preserved
entries-preserved c = λ new w.
    c.entries.invariant new (writes_entry text c.args.texts.now c.entries.text-index _ _ _ _ _ (omega arith) c.text-item.is
    (subst (λ (bytes : List ℕ). Writes (text bytes) c.entries.out.items c.push_text.new.out.items) c.as_slice.ensures
    c.in_ok-push_text.ensures) w)

pub returns : goal.returns
returns c = c.entries.invariant _ (writes_end text c.args.texts.now c.entries.text-index _ (omega arith))
