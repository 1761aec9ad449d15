-- Equality of values as a test.
use Rattle.std.specs.Prelude.{◌≡◌, ◌↔◌, Bool, true, false, ◌&&◌, ◌==◌}
use Rattle.std.specs.Ordering.{int_eq}
use Rattle.verse_value.specs.Val.{Val, unit, falsity, truth, int, char, enum, object, event, task}
use Rattle.verse_value.specs.Val.{some, array, mapping, tuple, Vals}
use Rattle.verse_value.specs.Val.{no_vals, more_vals, Pairs, no_pairs, more_pairs}
use Rattle.verse_value.specs.Keys.{key_eq}

-- values of two kinds are unequal; objects, events and tasks are compared by number
abbrev mutual
  pub val_eq : Val → Val → Bool
  val_eq unit unit = true
  val_eq falsity falsity = true
  val_eq truth truth = true
  val_eq (int a) (int b) = int_eq a b
  val_eq (char a) (char b) = a == b
  val_eq (enum of at) (enum of' at') = (of == of') && (at == at')
  val_eq (object a) (object b) = a == b
  val_eq (event a) (event b) = a == b
  val_eq (task a) (task b) = a == b
  val_eq (some a) (some b) = val_eq a b
  val_eq (array vs) (array ws) = vals_eq vs ws
  val_eq (mapping ps) (mapping qs) = pairs_eq ps qs
  val_eq (tuple vs) (tuple ws) = vals_eq vs ws
  val_eq a b = false

  pub vals_eq : Vals → Vals → Bool
  vals_eq no_vals no_vals = true
  vals_eq (more_vals v vs) (more_vals w ws) = val_eq v w && vals_eq vs ws
  vals_eq vs ws = false

  -- equal keys in the same order with equal values
  pub pairs_eq : Pairs → Pairs → Bool
  pairs_eq no_pairs no_pairs = true
  pairs_eq (more_pairs k v ps) (more_pairs l w qs) = (key_eq k l && val_eq v w) && pairs_eq ps qs
  pairs_eq ps qs = false

-- the test answers true of equal values, and of no others
abbrev pub EqualityIsTested : Type 0
EqualityIsTested = (a b : Val) → (val_eq a b ≡ true) ↔ (a ≡ b)
