-- What decoding the bytes gives.
use Rattle.verse_verify_tests.proofs.answers.answer.Goals as goal

pub verify-requires : goal.verify-requires
verify-requires c = record { valid = c.in-Ok.ensures.found.1.valid }

pub returns-in-Ok : goal.returns-in-Ok
returns-in-Ok c =
    let found = c.in-Ok.ensures.found in
    (found.0, c.in-Ok.code, found.1, c.verify.ensures.exact)
