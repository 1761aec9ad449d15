-- What a tree over items stands for.
use Rattle.std.specs.Prelude.{List, [], ◌∷◌, ◌++◌, ◌<◌, length}
use Rattle.shared_list.specs.declared.Top.{Top}
use Rattle.shared_list.specs.declared.Top.TheVariants as t

abbrev pub items : {T : Type 0} → Top T → List T
items t.Nothing = []
items (t.One x) = x.value ∷ []
items (t.Two l r) = l.value ++ r.value

-- both halves have items
abbrev pub AreHeld : {T : Type 0} → Top T → Type 0
AreHeld t.Nothing = Unit {0}
AreHeld (t.One x) = Unit {0}
AreHeld (t.Two l r) = (0 < length l.value) × (0 < length r.value)
