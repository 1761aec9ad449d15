use Rattle.verse_verify_reader.proofs.Joining.{a_table}
use Rattle.verse_verify_reader.proofs.wholes.tables.Goals as goal

pub returns : goal.returns
returns c =
    rw (a_table c.args.code.now c.args.bytes.now _ _ _ _ _ _ c.in_ok-classes.ensures c.in_ok-functions.ensures c.in_ok-spots.ensures)
    (c.ended.ensures c.args.code.now)
