use Rattle.std.proofs.Common.{List, ◌∷◌, ◌++◌, [], zip, arith, sym, ap, ◌∙◌}
use Rattle.verse_value.specs.declared.keys.Key.{Key}
use Rattle.verse_value.specs.Entries.{key_place}
use Rattle.verse_value.specs.Val.{pairs}
use Rattle.verse_value.specs.View.{val_of, vals_of}
use Rattle.verse_value.specs.Places.{with_last}
use Rattle.verse_value.specs.Parts.{keys_in}
use Rattle.verse_value.proofs.Seen.{keys_seen, push_seen}
use Rattle.verse_value.proofs.Sums.{map_push_kept, counted}
use Rattle.verse_value.proofs.values.Entries.push.Goals as goal

pub add_key-requires-clause-absent : goal.add_key-requires-clause-absent
add_key-requires-clause-absent c =
    ap (key_place c.args.key) (c.make_room.ensures.keys ∙
    sym (keys_seen c.self.inside.keys.keys c.self.inside.values.items c.self.invariant.0) ∙ ap keys_in c.self.view_is) ∙ c.requires

pub invariant_of-self-2 : goal.invariant_of-self-2
invariant_of-self-2 c =
    map_push_kept c.self.inside.keys.keys c.self.inside.values.items c.self.inside.size c.nothing.result c.entry_size-after.result
    c.resized_map-self-inside.result c.self.invariant
    c.add_key.new.keys.keys c.push.new.self.items c.args.key c.args.value
    (c.add_key.ensures ∙ ap (λ (ks : List Key). ks ++ c.args.key ∷ []) c.make_room.ensures.keys) c.in_ok-push.ensures.items
    c.nothing.ensures
    (record {
      exact = omega (arith, c.entry_size-after.ensures.weight, c.size.ensures.exact);
      bound =
          omega (arith, c.entry_size-after.ensures.levels, c.size.ensures.bound);
    })
    (counted c.self.inside.size c.nothing.result c.entry_size-after.result c.resized_map-self-inside.result c.as_slice.result.now
    c.add_key.new.keys.keys c.as_slice-2.result.now c.push.new.self.items c.as_slice.ensures.keys c.as_slice-2.ensures.value
    c.resized_map-self-inside.ensures)

pub returns-clause-ok : goal.returns-clause-ok
returns-clause-ok c =
    (λ i. pairs (zip ((c.add_key.ensures ∙ ap (λ (ks : List Key). ks ++ c.args.key ∷ []) c.make_room.ensures.keys) i)
    (vals_of (c.in_ok-push.ensures.items i)))) ∙
    push_seen c.self.inside.keys.keys c.self.inside.values.items c.args.key c.args.value c.self.invariant.0 ∙
    ap (λ ps. with_last ps c.args.key (val_of c.args.value)) c.self.view_is
