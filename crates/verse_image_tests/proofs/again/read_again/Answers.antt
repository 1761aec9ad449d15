-- Bytes are the image of one code at most.
use Rattle.std.proofs.Common.{subst, sym}
use Rattle.std.proofs.lemmas.Result.{IfOk-weaker}
use Rattle.verse_image.specs.Format.{Image, version_of}
use Rattle.verse_image.proofs.ImageLaws.{one_code}
use Rattle.verse_image_tests.proofs.again.read_again.Goals as goal

pub returns-in-Ok : goal.returns-in-Ok
returns-in-Ok c =
    let code = c.args.code.now in
    let image = subst (λ bytes. Image (version_of code) code bytes) (sym c.as_slice.ensures.value) c.in-Ok.ensures in
    IfOk-weaker c.decode.result _ _ (λ read told. one_code c.as_slice.result.now told.0 (version_of code) read code told.1 image)
    c.decode.ensures.found
