use Rattle.std.proofs.Common.{ℕ, List, ◌++◌, map, refl, ap, ◌∙◌}
use Rattle.std.specs.Global.{Vec}
use Rattle.verse_verify_bytes.specs.Bytes.{number, each, counted, sort, open_try}
use Rattle.verse_verify_notes.specs.declared.sorts.Sort.{Sort}
use Rattle.verse_verify_notes.specs.declared.notes.Mark.{Mark}
use Rattle.verse_verify_notes.specs.View.{sorts_of, mark_of, spot_of}
use Rattle.verse_verify_writer.proofs.Pieces.{bare_written}
use Rattle.verse_verify_writer.proofs.spots.push_bare.Goals as goal

pub returns : goal.returns
returns c =
    let p = c.args.state.now in
    let func = c.in_ok-push_number.ensures ∙ ap (λ (n : ℕ). c.args.out.now.items ++ number n) c.from.ensures in
    let locals =
    c.in_ok-push_sorts.ensures ∙ ap (λ (xs : List Sort). c.push_maybe.new.out.items ++ each sort (sorts_of xs))
    (c.as_slice.ensures.value ∙ ap (λ (v : Vec Sort). v.items) c.deref.ensures) in
    let stack =
    c.in_ok-push_counted.ensures ∙
    ap (λ (xs : List Sort). c.push_sorts.new.out.items ++ counted sort (sorts_of xs)) c.as_slice-2.ensures.value in
    let tries =
    c.in_ok-push_marks.ensures ∙
    ap (λ (ms : List Mark). c.push_counted.new.out.items ++ counted open_try (map mark_of ms)) c.as_slice-3.ensures.value in
    bare_written (spot_of p) (sorts_of p.stack.items) (map mark_of p.tries.items) _ _ _ _ _ _ refl refl func
    c.in_ok-push_maybe.ensures locals stack tries
