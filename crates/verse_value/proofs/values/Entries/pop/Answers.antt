use Rattle.std.proofs.Common.{◌≡◌, ◌∷◌, [], length, length-append, zip, arith, sym, ap, ◌∙◌}
use Rattle.verse_value.specs.Val.{pairs}
use Rattle.verse_value.specs.View.{val_of, vals_of}
use Rattle.verse_value.specs.Places.{without_last}
use Rattle.verse_value.proofs.Seen.{push_seen, without_with}
use Rattle.verse_value.proofs.Sums.{map_pop_kept, counted}
use Rattle.verse_value.proofs.values.Entries.pop.Goals as goal

pub invariant_of-self : goal.invariant_of-self
invariant_of-self c =
    map_pop_kept c.self.inside.keys.keys c.self.inside.values.items c.self.inside.size c.in-Some.before c.nothing.result
    c.resized_map-self-inside.result c.self.invariant
    c.pop_last.new.keys.keys c.pop_last.new.values.items c.in-Some.ensures.key c.in-Some.ensures.value c.in-Some.ensures.keys
    c.in-Some.ensures.values c.in-Some.ensures.measures c.nothing.ensures
    (counted c.self.inside.size c.in-Some.before c.nothing.result c.resized_map-self-inside.result c.as_slice.result.now
    c.pop_last.new.keys.keys c.as_slice-in-Some.result.now c.pop_last.new.values.items c.as_slice.ensures.keys
    c.as_slice-in-Some.ensures.value c.resized_map-self-inside.ensures)

pub returns-in-Some : goal.returns-in-Some
returns-in-Some c =
    let k = c.in-Some.ensures.key in
    let v = c.in-Some.ensures.value in
    let long : length c.pop_last.new.values.items ≡ length c.pop_last.new.keys.keys =
    omega (
      arith,
      c.self.invariant.0,
      ap length c.in-Some.ensures.keys,
      ap length c.in-Some.ensures.values,
      length-append c.pop_last.new.keys.keys (k ∷ []),
      length-append c.pop_last.new.values.items (v ∷ []),
    ) in
    sym (ap without_last (sym c.self.view_is ∙ (λ i. pairs (zip (c.in-Some.ensures.keys i) (vals_of (c.in-Some.ensures.values i)))) ∙
    push_seen c.pop_last.new.keys.keys c.pop_last.new.values.items k v long) ∙
    without_with (pairs (zip c.pop_last.new.keys.keys (vals_of c.pop_last.new.values.items))) k (val_of v))
