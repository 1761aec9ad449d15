-- What the values of a map name.
use Rattle.std.proofs.Common.{◌≡◌, ℕ, ◌||◌, refl, ap}
use Rattle.verse_value.specs.Val.{Pairs, no_pairs, more_pairs}
use Rattle.verse_value.specs.Parts.{vals_in}
use Rattle.run_save_format.specs.Whole.{names_none, name_none, pairs_name_none}

pub pairs_in : (entries : ℕ) (ps : Pairs) → name_none entries (vals_in ps) ≡ pairs_name_none entries ps
pairs_in entries no_pairs = refl
pairs_in entries (more_pairs k v ps) = ap (λ b. names_none entries v || b) (pairs_in entries ps)
