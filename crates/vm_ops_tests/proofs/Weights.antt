-- One value more.
use Rattle.std.proofs.Common.{◌≡◌, ◌+◌, List, [], ◌∷◌, ◌++◌, arith}
use Rattle.verse_value.specs.declared.values.Value.{Value}
use Rattle.verse_value.specs.View.{val_of, vals_of}
use Rattle.verse_value.specs.Val.{vals}
use Rattle.verse_value.specs.Sizes.{weight_of, weights}

pub one_more : (xs : List Value) (x : Value) → weights (vals (vals_of (xs ++ x ∷ []))) ≡ weights (vals (vals_of xs)) + weight_of (val_of x)
one_more [] x = omega arith
one_more (y ∷ ys) x = omega (arith, one_more ys x)
