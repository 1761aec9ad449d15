-- The lists that stand one on another.
use Rattle.std.specs.Prelude.{IsTrue, reverse, length, vec_capacity}
use Rattle.fiber_stacks.specs.Layers.{Layered, layers, are_layered}
use Rattle.fiber_stacks.specs.declared.layers.Layers.TheInside.{Inside}

abbrev pub layers_of : {T : Type 0} → Inside T → Layered T
layers_of l = record {
  lists = layers (reverse l.bases.items) l.items.items;
  room =
      vec_capacity l.items;
}

abbrev pub AreLayered : {T : Type 0} → Inside T → Type 0
AreLayered l = IsTrue (are_layered (reverse l.bases.items) (length l.items.items))
