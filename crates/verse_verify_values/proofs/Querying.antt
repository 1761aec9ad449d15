-- What a query gives, and what the definitions pass on.
use Rattle.std.proofs.Common.{◌≡◌, ℕ, List, [], ◌∷◌, refl}
use Rattle.std.specs.Prelude.{Option, Some, None, option_map}
use Rattle.verse_code.specs.declared.codes.Code.{Code}
use Rattle.verse_sorts.specs.Sorts.{Sort}
use Rattle.verse_verify_faults.specs.Spots.{Spot, Table}
use Rattle.verse_verify_faults.specs.Stepping.{is, on_there, goes_on}

pub queried_by : (c : Code) (t : Table) (p : Spot) (i : ℕ) (st : List Sort) (q : Option Sort) →
    on_there 5 q (λ r. goes_on c t p i (is r ∷ []) st) ≡ on_there 5 (option_map is q) (λ m. goes_on c t p i (m ∷ []) st)
queried_by c t p i st None = refl
queried_by c t p i st (Some a) = refl
