-- What slots are after a write through a value that they lent.
use Rattle.std.specs.Prelude.{ℕ, List, slice_set}
use Rattle.std.specs.Borrow.{Lends, MutBor, Fml}
use denote.RattleType.{RattleType}
use Rattle.verse_cells.specs.contracts.lists.Slots as slots

abbrev pub LendsPart : (V : RattleType) → MutBor (List V.Denot) → ℕ → MutBor V.Denot → Fml
LendsPart V lender at part = Lends (slots.the_row V) V lender part (λ w. slice_set lender.now at w)
