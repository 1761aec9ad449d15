use Rattle.std.proofs.Common.{◌-◌, List, length, take, ◌++◌, drop, codes, arith, ap, ◌∙◌}
use Rattle.verse_value.specs.declared.values.Value.{Value}
use Rattle.verse_value.specs.View.{vals_of}
use Rattle.verse_value.specs.Val.{Pairs, vals}
use Rattle.verse_value.specs.Bulk.{bulks}
use Rattle.verse_value.specs.Texts.{pairs_text}
use Rattle.verse_value.proofs.Seen.{item_bulk, bulks_in, rest_all, rest_bulks, as_many, zipped}
use Rattle.verse_top_texts.proofs.Joined.{three_parts}
use Rattle.verse_top_texts.proofs.printing.+append.Goals as goal

pub append_entries-append_entry-requires-in-entries : goal.append_entries-append_entry-requires-in-entries
append_entries-append_entry-requires-in-entries t c =
    (omega (arith, item_bulk c.args.values.now c.entries.i c.index-values-i.result c.entries-test.true c.index-values-i.is), tt)

pub append_list-append-requires-in-parts : goal.append_list-append-requires-in-parts
append_list-append-requires-in-parts t c =
    let rest : List Value = take (length c.args.parts.now - 1) (drop 1 c.args.parts.now) in (
      omega (
        arith,
        item_bulk rest c.parts.part-index c.part-item.result c.parts-test.true c.part-item.is,
        ap (λ (l : List Value). bulks (vals (vals_of l))) (rest_all 1 c.args.parts.now),
        rest_bulks c.args.parts.now,
      ),
      tt,
    )

pub append_map-append_entries-requires : goal.append_map-append_entries-requires
append_map-append_entries-requires t c = (
  omega (arith, ap bulks c.values.ensures, bulks_in c.args.entries.now),
  as_many c.keys.result.now c.values.result.now c.args.entries.now c.keys.ensures c.values.ensures,
)

pub append_map-returns : goal.append_map-returns
append_map-returns t c =
    three_parts c.args.out.now.items (codes "map{") (pairs_text c.args.entries.now)
    (codes "}") c.append_bytes.new.out.items c.append_entries.new.out.items c.append_bytes-2.new.out.items
    c.in_ok-append_bytes.ensures
    (c.in_ok-append_entries.ensures ∙ ap (λ (ps : Pairs). c.append_bytes.new.out.items ++ pairs_text ps)
    (zipped c.keys.result.now c.values.result.now c.args.entries.now c.keys.ensures c.values.ensures))
    c.in_ok-append_bytes-2.ensures
