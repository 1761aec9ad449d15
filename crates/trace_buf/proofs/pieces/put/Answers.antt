use Rattle.std.proofs.Common.{◌∷◌, []}
use Rattle.trace_buf.proofs.Passes.{on_err, stopped_held}
use Rattle.trace_buf.proofs.pieces.put.Goals as goal

pub returns-in_err-flush-clause-stopped : goal.returns-in_err-flush-clause-stopped
returns-in_err-flush-clause-stopped g c = on_err c.from_residual.result (stopped_held c.in_err-flush.ensures.part (c.args.byte ∷ []))
