-- Parts of a value by their places, and a map as its keys beside its values.
use Rattle.std.specs.Prelude.{ℕ, zero, suc, List, [], ◌∷◌}
use Rattle.verse_value.specs.Val.{Val, Vals, no_vals, more_vals, Pairs, no_pairs, more_pairs}
use Rattle.verse_value.specs.declared.keys.Key.{Key}

-- parts behind other ones
abbrev pub joined : Vals → Vals → Vals
joined no_vals ws = ws
joined (more_vals v vs) ws = more_vals v (joined vs ws)

-- the first so many parts
abbrev pub first : ℕ → Vals → Vals
first zero vs = no_vals
first (suc n) no_vals = no_vals
first (suc n) (more_vals v vs) = more_vals v (first n vs)

abbrev pub keys_in : Pairs → List Key
keys_in no_pairs = []
keys_in (more_pairs k v ps) = k ∷ keys_in ps

abbrev pub vals_in : Pairs → Vals
vals_in no_pairs = no_vals
vals_in (more_pairs k v ps) = more_vals v (vals_in ps)

-- with another value at a place
abbrev pub pair_set : Pairs → ℕ → Val → Pairs
pair_set no_pairs i v = no_pairs
pair_set (more_pairs k w ps) zero v = more_pairs k v ps
pair_set (more_pairs k w ps) (suc i) v = more_pairs k w (pair_set ps i v)
