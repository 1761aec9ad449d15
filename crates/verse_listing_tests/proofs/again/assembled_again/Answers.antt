-- Bytes are the listing of one code at most.
use Rattle.std.proofs.Common.{◌≡◌, List, ℕ, subst, sym}
use Rattle.std.proofs.lemmas.Result.{IfOk-weaker}
use Rattle.verse_code.specs.declared.codes.Code.{Code}
use Rattle.verse_listing_format.specs.Format.{Listing}
use Rattle.verse_listing.proofs.StageAgain.{listing_again}
use Rattle.verse_listing_tests.proofs.again.assembled_again.Goals as goal

one_code : (bytes : List ℕ) (c d : Code) → Listing c bytes → Listing d bytes → c ≡ d
one_code bytes c d p q = let a = listing_again c bytes p in let b = listing_again d bytes q in cc (a, b)

pub returns-in-Ok : goal.returns-in-Ok
returns-in-Ok c =
    let code = c.args.code.now in
    let listing = subst (λ bytes. Listing code bytes) (sym c.as_slice.ensures.value) c.in-Ok.ensures in
    IfOk-weaker c.assemble.result _ _ (λ read told. one_code c.as_slice.result.now read code told listing) c.assemble.ensures.found
