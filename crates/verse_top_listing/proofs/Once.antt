-- Bytes have one answer, and what is listed is assembled to what was listed.
use Rattle.std.proofs.Common.{◌≡◌, ℕ, ◌-◌, List, length, Ok, Err, refl, sym, ap, subst, ◌∙◌}
use Rattle.verse_code.specs.declared.codes.Code.{Code}
use Rattle.verse_image.specs.Format.{Image, version_of}
use Rattle.verse_image.specs.Reading.{flaw, image_at}
use Rattle.verse_image.specs.declared.faults.Flaw.{Flaw}
use Rattle.verse_image.proofs.ImageLaws.{image_again, image_once, one_code}
use Rattle.verse_listing_format.specs.Format.{Listing}
use Rattle.verse_listing.specs.Reading.{listing_at}
use Rattle.verse_listing.specs.Reading as line
use Rattle.verse_listing.specs.declared.faults.Flaw.{Flaw as LineFlaw}
use Rattle.verse_listing.proofs.StageAgain.{listing_again}
use Rattle.verse_top_texts.specs.Images.{image_line}
use Rattle.verse_top_texts.specs.Listings.{listing_line}
use Rattle.verse_top_listing.specs.Listings.{Assembles, AssembledOnce, ListedIsAssembled, ListedOnce, Lists, assembled, listed, no_image}
use Rattle.verse_top_listing.specs.Listings.{no_listing}

one_listing_code : (bytes : List ℕ) (c d : Code) → Listing c bytes → Listing d bytes → c ≡ d
one_listing_code bytes c d p q = let a = listing_again c bytes p in let b = listing_again d bytes q in cc (a, b)

one_listing : (c d : Code) (x y : List ℕ) → c ≡ d → Listing c x → Listing d y → x ≡ y
one_listing c d x y e p q = let j : Listing c y = subst (λ (k : Code). Listing k y) (sym e) q in p.spelled ∙ sym j.spelled

one_image : (c d : Code) (x y : List ℕ) → c ≡ d → Image (version_of c) c x → Image (version_of d) d y → x ≡ y
one_image c d x y e p q = image_once (version_of c) c x y p (subst (λ (k : Code). Image (version_of k) k y) (sym e) q)

pub lists_once : ListedOnce
lists_once bytes s t x y (listed v c _ i l) (listed w d _ j m) = (refl, one_listing c d x y (one_code bytes v w c d i j) l m)
lists_once bytes s t x y (listed v c _ i l) (no_image rule left e) = let a = image_again v c bytes i in absurd (cc (a, e))
lists_once bytes s t x y (no_image rule left e) (listed w d _ j m) = let a = image_again w d bytes j in absurd (cc (a, e))
lists_once bytes s t x y (no_image rule left e) (no_image role less f) =
    let same : flaw rule left ≡ flaw role less = cc (e, f) in
    (refl, ap (λ (k : Flaw). image_line k.rule (length bytes - k.left)) same)

pub assembles_once : AssembledOnce
assembles_once bytes s t x y (assembled c _ l i) (assembled d _ m j) = (refl, one_image c d x y (one_listing_code bytes c d l m) i j)
assembles_once bytes s t x y (assembled c _ l i) (no_listing rule at e) = let a = listing_again c bytes l in absurd (cc (a, e))
assembles_once bytes s t x y (no_listing rule at e) (assembled d _ m j) = let a = listing_again d bytes m in absurd (cc (a, e))
assembles_once bytes s t x y (no_listing rule at e) (no_listing role to f) =
    let same : line.flaw rule at ≡ line.flaw role to = cc (e, f) in
    (refl, ap (λ (k : LineFlaw). listing_line k.rule k.line) same)

image_of : (c d : Code) (image : List ℕ) → c ≡ d → Image (version_of d) d image → Image (version_of c) c image
image_of c d image e i = subst (λ (k : Code). Image (version_of k) k image) (sym e) i

pub listed_assembled : ListedIsAssembled
listed_assembled bytes text image status c v i (listed w d _ j l) (assembled e _ m k) =
    (refl, image_of c e image (one_code bytes v w c d i j ∙ one_listing_code text d e l m) k)
listed_assembled bytes text image status c v i (listed w d _ j l) (no_listing rule at e) =
    let a = listing_again d text l in absurd (cc (a, e))

-- a fault that is told is that of the bytes

pub lists_fault : (bytes : List ℕ) (rule at left : ℕ) (t : List ℕ) → image_at bytes ≡ Err (flaw rule left) → at ≡ length bytes - left →
    t ≡ image_line rule at → Lists bytes 1 t
lists_fault bytes rule at left t e f g =
    let text : t ≡ image_line rule (length bytes - left) = g ∙ ap (image_line rule) f in
    rw text (no_image rule left e)

pub assembles_fault : (bytes : List ℕ) (rule at : ℕ) (t : List ℕ) → listing_at bytes ≡ Err (line.flaw rule at) → t ≡ listing_line rule at →
    Assembles bytes 1 t
assembles_fault bytes rule at t e g = rw g (no_listing rule at e)
