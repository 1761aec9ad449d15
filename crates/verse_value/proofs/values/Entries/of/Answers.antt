use Rattle.std.proofs.Common.{◌≡◌, List, arith, ap}
use Rattle.verse_value.specs.declared.values.Value.{Value}
use Rattle.verse_value.specs.Val.{vals}
use Rattle.verse_value.specs.View.{vals_of}
use Rattle.verse_value.specs.Sizes.{keys_weight, weights, most_levels}
use Rattle.verse_value.proofs.Seen.{keys_seen, vals_seen}
use Rattle.verse_value.proofs.Sums.{from_counts}
use Rattle.verse_value.proofs.values.Entries.of.Goals as goal

pub invariant_of-result : goal.invariant_of-result
invariant_of-result c =
    let keys : keys_weight c.as_slice.result.now ≡ keys_weight c.args.keys.keys = ap keys_weight c.as_slice.ensures.keys in
    let values : weights (vals (vals_of c.as_slice-2.result.now)) ≡ weights (vals (vals_of c.args.values.items)) =
    ap (λ (l : List Value). weights (vals (vals_of l))) c.as_slice-2.ensures.value in
    let levels : most_levels (vals (vals_of c.as_slice-2.result.now)) ≡ most_levels (vals (vals_of c.args.values.items)) =
    ap (λ (l : List Value). most_levels (vals (vals_of l))) c.as_slice-2.ensures.value in
    from_counts c.args.keys.keys c.args.values.items c.above-size.result c.requires (record {
      exact = omega (arith, c.above-size.ensures.weight, c.size_of_entries.ensures.exact, keys, values);
      bound = omega (arith, c.above-size.ensures.levels, c.size_of_entries.ensures.bound, levels);
    })

pub returns-clause-keys : goal.returns-clause-keys
returns-clause-keys c = keys_seen c.args.keys.keys c.args.values.items c.requires

pub returns-clause-values : goal.returns-clause-values
returns-clause-values c = vals_seen c.args.keys.keys c.args.values.items c.requires
