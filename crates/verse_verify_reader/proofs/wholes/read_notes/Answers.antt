use Rattle.std.proofs.lemmas.Result.{err_from_is_err_and}
use Rattle.verse_verify_reader.proofs.Steps.{no_mark, a_mark}
use Rattle.verse_verify_reader.proofs.wholes.read_notes.Goals as goal

pub returns-in_err-rest : goal.returns-in_err-rest
returns-in_err-rest c =
    let p = err_from_is_err_and c.from_residual.result c.from_residual.ensures.1 in
    rw (p.1, p.2) (no_mark c.args.code.now c.args.bytes.now c.in_err-rest.field-0.0 c.in_err-rest.ensures)

pub returns : goal.returns
returns c = rw (a_mark c.args.code.now c.args.bytes.now c.in_ok-rest.rest.now c.in_ok-rest.ensures) c.tables.ensures
