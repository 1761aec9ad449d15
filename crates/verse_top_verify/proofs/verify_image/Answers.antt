-- What decoding the bytes gives, and then the notes.
use Rattle.std.proofs.Common.{Err, subst}
use Rattle.verse_image.specs.Reading.{Tells, image_at}
use Rattle.verse_top_verify.proofs.Once.{verifies_broken, verifies_fault, verifies_passed}
use Rattle.verse_top_verify.proofs.verify_image.Goals as goal

pub verify-requires : goal.verify-requires
verify-requires c = record { valid = c.in-Ok.ensures.found.1.valid }

pub returns-in-Err-Bad : goal.returns-in-Err-Bad
returns-in-Err-Bad c =
    let bytes = c.args.bytes.now in
    let told = subst (λ e. Tells bytes (Err e) (image_at bytes)) c.in-Err-Bad.field-0-is c.in-Err-Bad.ensures.exact in
    verifies_fault bytes c.args.notes.now c.in-Err-Bad.rule c.in-Err-Bad.at told.0 c.in_ok-text-in-Err-Bad.text.items told.1 told.2
    c.in_ok-text-in-Err-Bad.ensures

pub returns-in-Ok-verify : goal.returns-in-Ok-verify
returns-in-Ok-verify c =
    let found = c.in-Ok.ensures.found in
    verifies_passed c.args.bytes.now c.args.notes.now found.0 c.in-Ok.code c.in_ok-text-in-Ok-verify.text.items found.1
    c.in-Ok-verify.ensures.exact c.in_ok-text-in-Ok-verify.ensures

pub returns-in-Err-Bad-verify : goal.returns-in-Err-Bad-verify
returns-in-Err-Bad-verify c =
    let found = c.in-Ok.ensures.found in
    verifies_broken c.args.bytes.now c.args.notes.now found.0 c.in-Ok.code c.in_ok-text-in-Err-Bad-verify.text.items found.1
    c.in-Err-Bad-verify.field-0 c.in-Err-Bad-verify.rule c.in-Err-Bad-verify.at c.in-Err-Bad-verify.field-0-is
    c.in-Err-Bad-verify.ensures.exact c.in_ok-text-in-Err-Bad-verify.ensures
