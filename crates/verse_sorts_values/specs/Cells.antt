-- When the cells of a store are of their sorts. `slots` are the fields of a class, the root's
-- first.
use Rattle.std.specs.Prelude.{ℕ, List, [], ◌∷◌, Option}
use Rattle.verse_value.specs.Val.{Val}
use Rattle.verse_value.specs.Store.{Store, Cell}
use Rattle.verse_value.specs.declared.runs.CellKind.{CellKind}
use Rattle.verse_value.specs.declared.runs.CellKind.TheVariants as cell
use Rattle.verse_sorts.specs.Sorts as s
use Rattle.verse_sorts.specs.Sorts.{Sort}
use Rattle.verse_sorts.specs.Typing.{Typing, Is, Are}

module _ (up : ℕ → Option ℕ) (slots : ℕ → List Sort) where
  pub data CellIs (t : Typing) : CellKind → List Val → Sort → Type 0 where
    var_is : {w : Val} {a : Sort} → Is up t w a → CellIs t cell.Var (w ∷ []) (s.var a)
    object_is : {class : ℕ} {ws : List Val} → Are up t ws (slots class) →
        CellIs t (cell.Object class) ws (s.obj class)
    event_is : {a : Sort} → CellIs t cell.Event [] (s.event a)

  pub data CellsAre (t : Typing) : List Cell → List Sort → Type 0 where
    cells_no : CellsAre t [] []
    cells_so : {x : Cell} {xs : List Cell} {a : Sort} {ys : List Sort} → CellIs t x.kind x.slots a →
        CellsAre t xs ys → CellsAre t (x ∷ xs) (a ∷ ys)

  abbrev pub StoreIs : Typing → Store → Type 0
  StoreIs t store = CellsAre t store t.cells
