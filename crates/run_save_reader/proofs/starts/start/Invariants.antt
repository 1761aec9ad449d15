use Rattle.std.proofs.Common.{◌≡◌, true, false, length}
use Rattle.run_save_format.specs.Whole.{start_at}
use Rattle.run_save_reader.proofs.starts.start.Given as goal

abbrev pub invariant-bytes : goal.invariant-bytes
invariant-bytes l = start_at l.line_begins l.is_saved l.rest ≡ start_at true false l.file

abbrev pub decreases-bytes : goal.decreases-bytes
decreases-bytes l = length l.rest
