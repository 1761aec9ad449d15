use Rattle.std.proofs.Common.{arith}
use Rattle.verse_verify_faults.specs.Reading.{verdict}
use Rattle.verse_verify.proofs.Safe.{if_none}
use Rattle.verse_verify.proofs.verifying.verify.Goals as goal

pub returns-clause-safe : goal.returns-clause-safe
returns-clause-safe c = if_none c.judge.result (verdict c.args.code.now c.args.notes.now) c.judge.ensures (λ e. c.notes_that_pass.ensures
    c.args.code.now c.args.notes.now c.requires.valid e)

pub judge-requires : goal.judge-requires
judge-requires c = omega (arith, c.requires.valid.counts.ops.1)
