-- A number that is greater for a value than for each of its parts.
use Rattle.std.specs.Prelude.{ℕ, ◌+◌}
use Rattle.verse_value.specs.Val.{Val, some, array, mapping, tuple, Vals, no_vals, more_vals, Pairs}
use Rattle.verse_value.specs.Val.{no_pairs, more_pairs}

abbrev mutual
  pub bulk : Val → ℕ
  bulk (some v) = 3 + bulk v
  bulk (array vs) = 3 + bulks vs
  bulk (mapping ps) = 3 + pair_bulks ps
  bulk (tuple vs) = 3 + bulks vs
  bulk v = 1

  pub bulks : Vals → ℕ
  bulks no_vals = 1
  bulks (more_vals v vs) = 1 + bulk v + bulks vs

  pub pair_bulks : Pairs → ℕ
  pair_bulks no_pairs = 1
  pair_bulks (more_pairs k v ps) = 1 + bulk v + pair_bulks ps
