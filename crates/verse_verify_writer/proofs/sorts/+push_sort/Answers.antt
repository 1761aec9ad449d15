use Rattle.std.proofs.Common.{◌≡◌, ap, ◌∙◌}
use Rattle.std.specs.Global.{Vec}
use Rattle.verse_sorts.specs.Sorts.{tuple}
use Rattle.verse_verify_kept.specs.Rules.{sorts}
use Rattle.verse_verify_notes.specs.declared.sorts.Sort.{Sort as Made}
use Rattle.verse_verify_notes.specs.View.{sort_of, sorts_of}
use Rattle.verse_verify_writer.specs.Tags.{tag_of}
use Rattle.verse_verify_writer.proofs.Pieces.{is_tuple, tuple_written}
use Rattle.verse_verify_writer.proofs.sorts.+push_sort.Goals as goal

pub push_sort-returns-in_ok-push_parts-in-Tuple : goal.push_sort-returns-in_ok-push_parts-in-Tuple
push_sort-returns-in_ok-push_parts-in-Tuple t c =
    let seen : sort_of c.args.value.now ≡ tuple (sorts (sorts_of c.in-Tuple.parts.value.items)) =
    is_tuple c.args.value.now c.in-Tuple.parts c.in-Tuple.is in
    let parts = c.as_slice.ensures.value ∙ ap (λ (v : Vec Made). v.items) c.deref-in-Tuple-2.ensures in
    let many = c.len.ensures ∙ ap (λ (v : Vec Made). v.len) c.deref-in-Tuple.ensures ∙ c.in-Tuple.parts.value.ok.0 in
    rw seen (tuple_written c.as_slice.result.now c.in-Tuple.parts.value.items c.tag.result c.len.result _ _ _ _
    parts (c.tag.ensures ∙ ap tag_of seen) many c.in_ok-push_byte.ensures
    c.in_ok-push_count-in-Tuple.ensures c.in_ok-push_parts-in-Tuple.ensures)
