use Rattle.std.proofs.Common.{arith}
use Rattle.verse_verify_writer.proofs.Pieces.{written_number}
use Rattle.verse_verify_writer.proofs.numbers.push_number.Goals as goal

pub returns : goal.returns
returns c = written_number c.args.value _ _ (omega arith) c.in_ok-push_unsigned.ensures
