-- The parts of a value are less bulky than the value.
use Rattle.std.specs.Prelude.{◌≡◌, ◌+◌, ◌≤◌, max, List, [], ◌∷◌, length, zip}
use Rattle.std.proofs.Common.{arith}
use denote.Param.Weighed.{most}
use Rattle.verse_value.specs.Val.{vals, pairs}
use Rattle.verse_value.specs.View.{val_of, vals_of}
use Rattle.verse_value.specs.Bulk.{bulk, bulks, pair_bulks}
use Rattle.verse_value.specs.declared.keys.Key.{Key}
use Rattle.verse_value.specs.declared.values.Value.{Value}
use Rattle.verse_value.specs.declared.values.Value.TheVariants as value
use Rattle.verse_value.specs.declared.values.Entries.TheDeep.{deep-Value}

falls : (v : Value) → 1 + deep-Value v ≤ bulk (val_of v)
falls value.Unit = omega arith
falls value.False = omega arith
falls value.True = omega arith
falls (value.Int n) = omega arith
falls (value.Char c) = omega arith
falls (value.Enum of at) = omega arith
falls (value.Obj cell) = omega arith
falls (value.Event cell) = omega arith
falls (value.Task n) = omega arith
falls (value.Some held) = omega arith
falls (value.Array parts) = omega arith
falls (value.Map entries) = omega arith
falls (value.Tuple parts) = omega arith

pub held_falls : (v : Value) → max (deep-Value v) 0 ≤ bulk (val_of v)
held_falls v = omega (arith, falls v)

pub parts_fall : (items : List Value) → max (most deep-Value items) 0 ≤ bulks (vals (vals_of items))
parts_fall [] = omega arith
parts_fall (v ∷ vs) = omega (arith, falls v, parts_fall vs)

pub entries_fall : (ks : List Key) (vs : List Value) → length vs ≡ length ks →
    max (most deep-Value vs) 0 ≤ pair_bulks (pairs (zip ks (vals_of vs)))
entries_fall [] [] long = omega arith
entries_fall [] (v ∷ vs) long = absurd (omega arith)
entries_fall (k ∷ ks) [] long = absurd (omega arith)
entries_fall (k ∷ ks) (v ∷ vs) long = omega (arith, falls v, entries_fall ks vs (omega arith))
