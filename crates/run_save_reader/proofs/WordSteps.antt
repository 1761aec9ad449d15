-- Whether bytes begin with a word.
use Rattle.std.proofs.Common.{◌≡◌, ℕ, ◌&&◌, List, [], ◌∷◌, nat_eq, refl, ap}
use Rattle.std.specs.List.{starts_with}
use Rattle.run_save_format.specs.Whole.{behind_word}

pub begins_with : (word bytes : List ℕ) → starts_with nat_eq bytes word ≡ behind_word word bytes
begins_with [] bytes = refl
begins_with (w ∷ ws) [] = refl
begins_with (w ∷ ws) (b ∷ bs) = ap (λ t. nat_eq w b && t) (begins_with ws bs)
