use mir.Val.{to_z, of_z}
use mir.Syntax.{w64}
use Rattle.std.proofs.Common.{◌≡◌, ℤ, get_or, length, OnOk, arith, rules, ap, subst}
use Rattle.verse_image.specs.Format.{◌⨾◌, byte, integer}
use Rattle.verse_image.specs.Writing.{Writes}
use Rattle.verse_image.proofs.WritingLemmas.{writes_entry, writes_end}
use Rattle.verse_value.specs.declared.values.Value.{Value}
use Rattle.verse_value.specs.Val.{Val, Vals, Pairs, some, mapping, list_of}
use Rattle.verse_value.specs.View.{val_of}
use Rattle.verse_value.specs.Bulk.{bulks}
use Rattle.verse_value.proofs.Seen.{item_bulk, bulks_in, as_many}
use Rattle.run_save_format.specs.Format.{wide, value, values}
use Rattle.run_save_writer.proofs.Writing.{writes_seen}
use Rattle.run_save_writer.proofs.Parts.{writes_parts, writes_map, writes_pair, writes_no_pairs}
use Rattle.run_save_writer.proofs.values.+push_value.Goals as goal

pub push_value-returns-in-Int : goal.push_value-returns-in-Int
push_value-returns-in-Int t c =
    let here : to_z w64 (of_z w64 c.in-Int.n) ≡ c.in-Int.n = search rules in
    rw c.in-Int.is (subst (λ (n : ℤ). OnOk c.push_int.result (Writes (byte 3 ⨾ integer n) c.args.out.now.items c.push_int.new.out.items))
    here c.push_int.ensures)

pub push_value-returns-in-Enum : goal.push_value-returns-in-Enum
push_value-returns-in-Enum t c = rw c.in-Enum.is c.push_enum.ensures

pub push_value-returns-in-Some : goal.push_value-returns-in-Some
push_value-returns-in-Some t c =
    rw c.in-Some.is (subst (λ (v : Val). OnOk c.push_option.result (Writes (value (some v)) c.args.out.now.items
    c.push_option.new.out.items)) c.deref.ensures c.push_option.ensures)

pub push_value-returns-in-Array : goal.push_value-returns-in-Array
push_value-returns-in-Array t c =
    rw c.in-Array.is (subst (λ (vs : Vals). OnOk c.push_parts.result (Writes
    (byte 10 ⨾ wide (length (list_of vs)) ⨾ values vs) c.args.out.now.items c.push_parts.new.out.items))
    c.deref-in-Array.ensures c.push_parts.ensures)

pub push_value-returns-in-Map : goal.push_value-returns-in-Map
push_value-returns-in-Map t c =
    rw c.in-Map.is (subst (λ (ps : Pairs). OnOk c.push_map.result (Writes (value (mapping ps)) c.args.out.now.items
    c.push_map.new.out.items)) c.deref-in-Map.ensures c.push_map.ensures)

pub push_value-returns-in-Tuple : goal.push_value-returns-in-Tuple
push_value-returns-in-Tuple t c =
    rw c.in-Tuple.is (subst (λ (vs : Vals). OnOk c.push_parts-in-Tuple.result (Writes
    (byte 12 ⨾ wide (length (list_of vs)) ⨾ values vs) c.args.out.now.items c.push_parts-in-Tuple.new.out.items))
    c.deref-in-Tuple.ensures c.push_parts-in-Tuple.ensures)

pub push_parts-returns : goal.push_parts-returns
push_parts-returns t c =
    writes_parts c.args.form c.as_slice-parts.result.now c.args.parts.now _ _ _ _ c.as_slice-parts.ensures c.in_ok-push_byte.ensures
    c.in_ok-push_count.ensures c.in_ok-push_each.ensures

pub push_each-push_value-requires : goal.push_each-push_value-requires
push_each-push_value-requires t c = (
  omega (
    arith,
    item_bulk c.args.parts.now c.entries.entry-index c.entry-item.result c.entries-test.true c.entry-item.is,
  ),
  tt,
)

pub push_each-entries-init : goal.push_each-entries-init
push_each-entries-init t c = λ new w. writes_seen value val_of c.args.parts.now _ _ w

pub push_each-entries-preserved : goal.push_each-entries-preserved
push_each-entries-preserved t c = λ new w.
    c.entries.invariant new (writes_entry (λ (x : Value). value (val_of x)) c.args.parts.now c.entries.entry-index _ _ _ _ _
    (omega arith) c.entry-item.is c.in_ok-push_value.ensures w)

pub push_each-returns : goal.push_each-returns
push_each-returns t c =
    c.entries.invariant _ (writes_end (λ (x : Value). value (val_of x)) c.args.parts.now c.entries.entry-index _ (omega arith))

pub push_map-push_entries-requires : goal.push_map-push_entries-requires
push_map-push_entries-requires t c = (
  omega (arith, ap bulks c.values.ensures, bulks_in c.args.map.now),
  as_many c.keys-keys.result.now c.values.result.now c.args.map.now c.keys-keys.ensures c.values.ensures,
)

pub push_map-returns : goal.push_map-returns
push_map-returns t c =
    writes_map c.keys-keys.result.now c.values.result.now c.args.map.now _ _ _ _ c.keys-keys.ensures c.values.ensures
    c.in_ok-push_byte.ensures c.in_ok-push_count.ensures c.in_ok-push_entries.ensures

pub push_entries-push_value-requires : goal.push_entries-push_value-requires
push_entries-push_value-requires t c =
    let here : c.index-parts-i.result ≡ get_or c.args.parts.now c.entries.i c.index-parts-i.result = search rules in
    (omega (arith, item_bulk c.args.parts.now c.entries.i c.index-parts-i.result (omega arith) here), tt)

pub push_entries-entries-init : goal.push_entries-entries-init
push_entries-entries-init t c = λ new w. w

pub push_entries-entries-preserved : goal.push_entries-entries-preserved
push_entries-entries-preserved t c = λ new w.
    let key_here : c.index-keys-i.result ≡ get_or c.args.keys.now c.entries.i c.index-keys-i.result = search rules in
    let here : c.index-parts-i.result ≡ get_or c.args.parts.now c.entries.i c.index-parts-i.result = search rules in
    c.entries.invariant new (writes_pair c.args.keys.now c.args.parts.now c.entries.i c.index-keys-i.result _
    c.index-parts-i.result _ _ _ _ _
    (omega arith) (omega arith) key_here here c.in_ok-push_key.ensures c.in_ok-push_value.ensures w)

pub push_entries-returns : goal.push_entries-returns
push_entries-returns t c =
    c.entries.invariant _ (writes_no_pairs c.args.keys.now c.args.parts.now c.entries.i _ (omega arith))
