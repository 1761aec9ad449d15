-- The nearest one stands last.
use Rattle.std.proofs.Common.{◌≡◌, List, [], ◌∷◌, ◌++◌, reverse, ap, ◌∙◌}
use Rattle.std.proofs.lemmas.List.{reverse-append}

pub last_first : {A : Type 0} (old new : List A) (x : A) → new ≡ old ++ x ∷ [] → reverse new ≡ x ∷ reverse old
last_first old new x e = ap (λ z. reverse z) e ∙ reverse-append old (x ∷ [])
