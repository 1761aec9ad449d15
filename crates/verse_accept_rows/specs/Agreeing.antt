-- Two states of the pass over types that have found the same below a number.
use Rattle.std.specs.Prelude.{◌≡◌, ℕ, ◌<◌, Option, Some, None, slice_get}
use Rattle.verse_tree.specs.declared.tables.Ref.{Ref}
use Rattle.verse_tree.specs.declared.tables.Ref.TheVariants as ref
use Rattle.verse_check_typing.specs.Refs.{ref_at}
use Rattle.verse_check_typing.specs.Sets.{has_number}
use Rattle.verse_check_typing.specs.Facts.{World}
use Rattle.verse_check_typing.specs.Steps.{Sight}

-- a local name stands for a node with a number below n
abbrev pub RefBelow : ℕ → Ref → Type 0
RefBelow n (ref.Local m) = m < n
RefBelow n (ref.Key m) = m < n
RefBelow n r = Unit {0}

abbrev pub LowRef : ℕ → Option Ref → Type 0
LowRef n None = Unit {0}
LowRef n (Some r) = RefBelow n r

pub record Agree (k : World) (n : ℕ) (x y : Sight) : Type 0 where
  pub types : (m : ℕ) → m < n → slice_get x.types m ≡ slice_get y.types m
  pub refs : (m : ℕ) → m < n → slice_get x.refs m ≡ slice_get y.refs m
  pub vars : (m : ℕ) → m < n → slice_get x.vars m ≡ slice_get y.vars m
  -- whether the loop n is left
  pub left : has_number n x.left ≡ has_number n y.left
  -- local names stand for nodes with lesser numbers
  pub low : (m : ℕ) → m < n → LowRef m (ref_at y.refs m)
  pub named : LowRef n (ref_at k.names.refs n)
