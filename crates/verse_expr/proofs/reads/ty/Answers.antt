use Rattle.std.proofs.Common.{◌-◌, drop, length}
use Rattle.verse_expr.proofs.Ends.{type_stops, type_none}
use Rattle.verse_expr.proofs.reads.ty.Goals as goal

pub returns-clause-stops : goal.returns-clause-stops
returns-clause-stops c = λ index rule bad.
    let w = c.type_from.ensures.within index rule bad in
    type_stops c.args.toks.now c.args.at index w.0 w.1 (c.type_from.ensures.stuck index rule bad)

pub returns-clause-none : goal.returns-clause-none
returns-clause-none c = λ index rule bad v rest r.
    type_none c.args.bytes.now (drop c.args.at c.args.toks.now) (length c.args.toks.now - index)
    (c.type_from.ensures.stuck index rule bad) v rest r
