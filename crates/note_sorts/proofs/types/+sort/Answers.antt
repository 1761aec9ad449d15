use Rattle.std.proofs.Common.{◌≡◌, map, rules, ap, ◌∙◌}
use Rattle.std.specs.Global.{Vec}
use Rattle.verse_sorts.specs.Sorts as s
use Rattle.verse_verify_kept.specs.Rules.{sorts}
use Rattle.verse_verify_notes.specs.declared.sorts.Sort as seen
use Rattle.verse_verify_notes.specs.declared.sorts.Sort.{Sort as Seen, the_lemmas}
use Rattle.verse_verify_notes.specs.View.{sort_of, sorts_of}
use Rattle.note_sorts.specs.Tabled.{made_sort}
use Rattle.note_sorts.proofs.Typing.{tuple_sort}
use Rattle.note_sorts.proofs.types.+sort.Goals as goal

pub sort_of-returns-in_ok-new-in-Tuple : goal.sort_of-returns-in_ok-new-in-Tuple
sort_of-returns-in_ok-new-in-Tuple t c =
    let parts = c.in_ok-new-in-Tuple.field-0.value.items in
    let told : sort_of (seen.Tuple c.in_ok-new-in-Tuple.field-0) ≡ s.tuple (sorts (sorts_of parts)) = search (rules, the_lemmas) in
    let made : sorts_of parts ≡ map made_sort c.as_slice.result.now =
    ap (λ (v : Vec Seen). sorts_of v.items) c.in_ok-new-in-Tuple.ensures.ok ∙ c.in_ok-sorts_of-in-Tuple.ensures in
    tuple_sort _ parts c.args.ty.now c.in-Tuple.parts c.as_slice.result.now told c.in-Tuple.is c.as_slice.ensures made
