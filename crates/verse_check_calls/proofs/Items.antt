-- The element of a tuple at a place.
use Rattle.std.proofs.Common.{◌≡◌, ℕ, zero, suc, List, [], ◌∷◌, Option, map, refl}
use Rattle.std.specs.Prelude.{Some, None, slice_get}
use Rattle.std.specs.Option.{option_map}
use Rattle.verse_tree.specs.declared.tables.Ty.{Ty as Made}
use Rattle.verse_rules_types.specs.Types.{tys, ty_of}
use Rattle.verse_check_typing.specs.Calls.{ty_at}

pub get_ty : (ts : List Made) (i : ℕ) → ty_at (tys (map ty_of ts)) i ≡ option_map ty_of (slice_get ts i)
get_ty [] i = refl
get_ty (t ∷ ts) zero = refl
get_ty (t ∷ ts) (suc i) = get_ty ts i
