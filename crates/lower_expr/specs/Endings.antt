-- The code that an ending stands for.
use Rattle.std.specs.Prelude.{ℕ}
use Rattle.verse_code.specs.declared.operations.Op.{Op}
use Rattle.verse_code.specs.declared.operations.Op.TheVariants as o
use Rattle.lower_code.specs.Pieces.{Maker, nothing, one, placed, numbering, put_away, kept, stuck}
use Rattle.lower_code.specs.Pieces.{when_else, ◌then◌}
use Rattle.lower_code.specs.Arounds.{returning, breaking}
use Rattle.lower_code.specs.Applied.{storing, dropping}
use Rattle.lower_expr.specs.declared.endings.Ending.{Ending}
use Rattle.lower_expr.specs.declared.endings.Ending.TheVariants as ending
use Rattle.lower_expr.specs.declared.endings.Storing.{Storing}

-- the operation with the number of its place
abbrev pub numbered : Op → ℕ → Op
numbered (o.Add p) n = o.Add n
numbered (o.Sub p) n = o.Sub n
numbered (o.Mul p) n = o.Mul n
numbered (o.Neg p) n = o.Neg n
numbered (o.Floor p) n = o.Floor n
numbered (o.Ceil p) n = o.Ceil n
numbered (o.Concat p) n = o.Concat n
numbered (o.Join k p) n = o.Join k n
numbered (o.Array k p) n = o.Array k n
numbered (o.Map k p) n = o.Map k n
numbered (o.Tuple k p) n = o.Tuple k n
numbered (o.Some p) n = o.Some n
numbered (o.New p) n = o.New n
numbered (o.Object c p) n = o.Object c n
numbered (o.Event p) n = o.Event n
numbered (o.Append l p) n = o.Append l n
numbered (o.Print p) n = o.Print n
numbered op n = op

abbrev pub stores : Storing → Maker
stores s = numbering s.place (λ m. storing (o.Store s.slot s.indices s.mode m) s.keeps s.local)

abbrev pub store_code : Storing → Maker
store_code s = when_else s.there (stores s)

abbrev pub ending_code : Ending → Maker
ending_code ending.Stuck = stuck
ending_code ending.Nothing = nothing
ending_code (ending.One op) = one op
ending_code (ending.Two op next) = one op then one next
ending_code (ending.Dropping n op) = dropping n (one op)
ending_code (ending.Placed pl op) = placed pl (numbered op)
ending_code (ending.Put l) = put_away l
ending_code (ending.Keep l) = kept l
ending_code (ending.Vary pl l) = placed pl o.New then kept l then one (o.Load 0)
ending_code (ending.Store s) = store_code s
ending_code (ending.Return a) = returning a
ending_code (ending.Break a) = breaking a
