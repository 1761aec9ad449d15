-- The heads that places and lists of each kind make.
use Rattle.std.specs.Prelude.{◌≡◌, List, length, reverse}
use Rattle.fiber_stacks.specs.Heads.{Head, heads}
use Rattle.fiber_stacks.specs.declared.heads.Heads.TheInside.{Inside}

abbrev pub heads_of : {T : Type 0} → Inside T → List (Head T)
heads_of h = heads (reverse h.places.items) h.locals.lists h.bounds.lists

-- as many lists of each kind
pub record AreHead {T : Type 0} (h : Inside T) : Type 0 where
  pub locals : length h.locals.lists ≡ length h.places.items
  pub bounds : length h.bounds.lists ≡ length h.places.items
