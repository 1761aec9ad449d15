use Rattle.std.proofs.Common.{◌≡◌, ◌<◌, length, length-set, slice_set, Some, arith, sym, ap, ◌∙◌}
use Rattle.verse_value.specs.declared.values.Value.{Value}
use Rattle.verse_value.specs.Val.{vals}
use Rattle.verse_value.specs.View.{val_of, vals_of}
use Rattle.verse_value.specs.Places.{nth}
use Rattle.verse_value.specs.Parts.{keys_in, vals_in, pair_set}
use Rattle.verse_value.proofs.Seen.{nth_here, keys_seen, vals_seen, key_count_in, pair_set_seen}
use Rattle.verse_value.proofs.Sums.{map_set_kept, counted}
use Rattle.verse_value.proofs.values.Entries.replace.Goals as goal

pub index_mut-requires : goal.index_mut-requires
index_mut-requires c =
    omega (
      arith,
      c.requires,
      c.self.invariant.0,
      ap length (keys_seen c.self.inside.keys.keys c.self.inside.values.items c.self.invariant.0),
      ap (λ ps. length (keys_in ps)) c.self.view_is,
      key_count_in c.args.self.now,
    )

pub invariant_of-self : goal.invariant_of-self
invariant_of-self c =
    let within : c.args.at < length c.self.inside.values.items =
    omega (
      arith,
      c.requires,
      c.self.invariant.0,
      ap length (keys_seen c.self.inside.keys.keys c.self.inside.values.items c.self.invariant.0),
      ap (λ ps. length (keys_in ps)) c.self.view_is,
      key_count_in c.args.self.now,
    ) in
    let here : Some (val_of c.replace-old.result) ≡ nth (vals (vals_of c.self.inside.values.items)) c.args.at =
    ap (λ (v : Value). Some (val_of v)) c.replace-old.ensures.value ∙
    nth_here c.self.inside.values.items c.args.at c.index_mut.result.now within c.index_mut.ensures.value in
    let long : length (slice_set c.self.inside.values.items c.args.at c.replace-old.new.dest) ≡ length c.self.inside.keys.keys =
    length-set c.self.inside.values.items c.args.at c.replace-old.new.dest ∙ c.self.invariant.0 in
    map_set_kept c.self.inside.keys.keys c.self.inside.values.items c.self.inside.size c.size.result c.size-after.result
    c.resized_map-self-inside.result c.self.invariant
    (slice_set c.self.inside.values.items c.args.at c.replace-old.new.dest) c.args.at c.replace-old.result c.args.value
    (ap (λ (v : Value). slice_set c.self.inside.values.items c.args.at v) c.replace-old.ensures.after) long here c.size.ensures
    c.size-after.ensures
    (counted c.self.inside.size c.size.result c.size-after.result c.resized_map-self-inside.result c.as_slice.result.now
    c.self.inside.keys.keys c.as_slice-2.result.now (slice_set c.self.inside.values.items c.args.at c.replace-old.new.dest)
    c.as_slice.ensures.keys c.as_slice-2.ensures.value c.resized_map-self-inside.ensures)

pub returns-clause-old : goal.returns-clause-old
returns-clause-old c =
    let within : c.args.at < length c.self.inside.values.items =
    omega (
      arith,
      c.requires,
      c.self.invariant.0,
      ap length (keys_seen c.self.inside.keys.keys c.self.inside.values.items c.self.invariant.0),
      ap (λ ps. length (keys_in ps)) c.self.view_is,
      key_count_in c.args.self.now,
    ) in
    sym (ap (λ (v : Value). Some (val_of v)) c.replace-old.ensures.value ∙
    nth_here c.self.inside.values.items c.args.at c.index_mut.result.now within c.index_mut.ensures.value ∙
    ap (λ vs. nth vs c.args.at) (sym (vals_seen c.self.inside.keys.keys c.self.inside.values.items c.self.invariant.0) ∙
    ap vals_in c.self.view_is))

pub returns-clause-new : goal.returns-clause-new
returns-clause-new c =
    pair_set_seen c.self.inside.keys.keys c.self.inside.values.items c.args.at c.replace-old.new.dest c.self.invariant.0 ∙
    (λ i. pair_set (c.self.view_is i) c.args.at (val_of (c.replace-old.ensures.after i)))
