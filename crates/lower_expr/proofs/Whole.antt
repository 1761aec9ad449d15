-- What a whole code has, where no jump is left that leaves a loop.
use Rattle.std.proofs.Common.{◌≡◌, ℕ, suc, List, [], ◌∷◌, map, refl, ap}
use Rattle.lower_code.specs.Pieces.{Item, sure, leaving}
use Rattle.lower_code.specs.Programs.{item_op}
use Rattle.lower_expr.specs.Building.{raw, opened}

pub raw_is_item_op : (is : List Item) (a : ℕ) → opened is a ≡ [] → map raw is ≡ map item_op is
raw_is_item_op [] a e = refl
raw_is_item_op (sure op ∷ is) a e = ap (λ k. op ∷ k) (raw_is_item_op is (suc a) e)
raw_is_item_op (leaving n ∷ is) a e = absurd (cc (e))
