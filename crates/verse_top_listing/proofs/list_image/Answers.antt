-- What decoding the bytes gives.
use Rattle.std.proofs.Common.{Err, subst}
use Rattle.verse_image.specs.Reading.{Tells, image_at}
use Rattle.verse_top_listing.specs.Listings.{listed}
use Rattle.verse_top_listing.proofs.Once.{lists_fault}
use Rattle.verse_top_listing.proofs.list_image.Goals as goal

pub returns-in_ok-text-in-Ok : goal.returns-in_ok-text-in-Ok
returns-in_ok-text-in-Ok c =
    let found = c.in-Ok.ensures.found in
    listed found.0 c.in-Ok.code c.in_ok-text-in-Ok.text.items found.1 c.in_ok-text-in-Ok.ensures

pub returns-in_ok-text-in-Err-Bad : goal.returns-in_ok-text-in-Err-Bad
returns-in_ok-text-in-Err-Bad c =
    let bytes = c.args.bytes.now in
    let told = subst (λ e. Tells bytes (Err e) (image_at bytes)) c.in-Err-Bad.field-0-is c.in-Err-Bad.ensures.exact in
    lists_fault bytes c.in-Err-Bad.rule c.in-Err-Bad.at told.0 c.in_ok-text-in-Err-Bad.text.items told.1 told.2
    c.in_ok-text-in-Err-Bad.ensures
