-- The entries of a map by their places.
use Rattle.std.proofs.Common.{◌≡◌, ℕ, zero, suc, ◌<◌, Some, None, length, get_or, refl, arith}
use Rattle.verse_value.specs.Val.{Val, Pairs, no_pairs, more_pairs}
use Rattle.verse_value.specs.Keys.{key_val}
use Rattle.verse_value.specs.Parts.{keys_in, vals_in}
use Rattle.verse_value.specs.Places.{nth}
use Rattle.verse_value.specs.Operations.{nth_entry}
use Rattle.verse_value.specs.declared.keys.Key.{Key}

pub no_entry : (ps : Pairs) (i : ℕ) → nth (vals_in ps) i ≡ None → nth_entry ps i ≡ None
no_entry no_pairs i e = refl
no_entry (more_pairs l w ps) zero e = absurd (cc)
no_entry (more_pairs l w ps) (suc i) e = no_entry ps i e

pub key_place : (ps : Pairs) (i : ℕ) (v : Val) → nth (vals_in ps) i ≡ Some v → i < length (keys_in ps)
key_place no_pairs i v e = absurd (cc)
key_place (more_pairs l w ps) zero v e = omega arith
key_place (more_pairs l w ps) (suc i) v e = omega (arith, key_place ps i v e)

pub entry_is : (ps : Pairs) (i : ℕ) (k : Key) (v : Val) → nth (vals_in ps) i ≡ Some v → k ≡ get_or (keys_in ps) i k →
    nth_entry ps i ≡ Some (v, key_val k)
entry_is no_pairs i k v e d = absurd (cc)
entry_is (more_pairs l w ps) zero k v e d = let same : w ≡ v = cc in rw (same, d) refl
entry_is (more_pairs l w ps) (suc i) k v e d = entry_is ps i k v e d
