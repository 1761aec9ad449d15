-- What may or may not be written in a leaf has no part.
use Rattle.std.proofs.Common.{◌≡◌, ℕ, Option, Some, None, refl}
use Rattle.verse_tree.specs.Numbering.{shape_nodes, shape_numbered}
use Rattle.verse_tree.specs.Sizes.{shape_fields}
use Rattle.verse_tree.specs.View.{event_shape, sleep_shape}
use Rattle.verse_tree.specs.declared.types.TyExpr.{TyExpr}

pub sleep_nodes : (time : Option ℕ) → shape_nodes (sleep_shape time) ≡ 0
sleep_nodes None = refl
sleep_nodes (Some n) = refl

pub sleep_numbered : (time : Option ℕ) (next : ℕ) → shape_numbered (sleep_shape time) next ≡ sleep_shape time
sleep_numbered None next = refl
sleep_numbered (Some n) next = refl

pub sleep_fields : (fields : ℕ → ℕ) (number : ℕ) (time : Option ℕ) → shape_fields fields number (sleep_shape time) ≡ 0
sleep_fields fields number None = refl
sleep_fields fields number (Some n) = refl

pub event_fields : (fields : ℕ → ℕ) (number : ℕ) (ty : Option TyExpr) → shape_fields fields number (event_shape ty) ≡ 0
event_fields fields number None = refl
event_fields fields number (Some w) = refl
