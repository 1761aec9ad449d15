-- What assembling the bytes gives.
use Rattle.std.proofs.Common.{Err, subst}
use Rattle.verse_listing.specs.Answers.{Tells}
use Rattle.verse_listing.specs.Reading.{listing_at}
use Rattle.verse_top_listing.specs.Listings.{assembled}
use Rattle.verse_top_listing.proofs.Once.{assembles_fault}
use Rattle.verse_top_listing.proofs.assemble_listing.Goals as goal

pub returns-in_ok-text-in-Ok : goal.returns-in_ok-text-in-Ok
returns-in_ok-text-in-Ok c =
    assembled c.in-Ok.code c.in_ok-text-in-Ok.text.items c.in-Ok.ensures.found c.in_ok-text-in-Ok.ensures

pub returns-in_ok-text-in-Err-Bad : goal.returns-in_ok-text-in-Err-Bad
returns-in_ok-text-in-Err-Bad c =
    let bytes = c.args.bytes.now in
    let told = subst (λ e. Tells (Err e) (listing_at bytes)) c.in-Err-Bad.field-0-is c.in-Err-Bad.ensures.exact in
    assembles_fault bytes c.in-Err-Bad.rule c.in-Err-Bad.line c.in_ok-text-in-Err-Bad.text.items told c.in_ok-text-in-Err-Bad.ensures
