-- Lines and words: what was joined is cut again, and what was cut joins.
use Rattle.std.proofs.Common.{◌≡◌, ◌≢◌, ℕ, zero, suc, ◌+◌, ◌/◌, ◌%◌, ◌^◌, ◌≤◌, ◌<◌, ℤ, pos, negsuc, Bool, true, false, cond, ◌&&◌, eqb, ltb}
use Rattle.std.proofs.Common.{leb}
use Rattle.std.proofs.Common.{List, [], ◌∷◌, ◌++◌, map, decimal, refl, sym, ap, ◌∙◌, arith}
use Rattle.std.specs.Fmt.{signed_decimal}
use Rattle.std.specs.Prelude.{slice_get, unwrap_or}
use Rattle.std.proofs.lemmas.Bool.{and_parts, eqb-true, leb-true, ltb-true}
use Rattle.std.proofs.lemmas.Fmt.{digits_decimal}
use Rattle.verse_code.specs.declared.operations.Op.{Op}
use Rattle.verse_code.specs.Operations.{code_of}
use Rattle.verse_listing_format.specs.Names.{names, name_of}
use Rattle.verse_listing_format.specs.Numbers.{is_digit, are_digits, Fits}
use Rattle.verse_listing_format.specs.Format.{Word, Line, hex, hex_digit, spaced, spelled}
use Rattle.verse_listing_format.proofs.NumberWords.{numerals}
use Rattle.verse_listing_lines.specs.Lines.{Pieces, pieces, with_byte, words}
use Rattle.verse_listing_lines.specs.Answers.{with_piece}
use Rattle.verse_listing_lines.proofs.Cuts.{Free, cut_one, cut_none}

-- ---- what was cut joins

abbrev glue : ℕ → List (List ℕ) → List ℕ → List ℕ
glue end [] last = last
glue end (piece ∷ others) last = piece ++ end ∷ glue end others last

glue_byte : (end b : ℕ) (x : Pieces) → glue end (with_byte b x).0 (with_byte b x).1 ≡ b ∷ glue end x.0 x.1
glue_byte end b ([], last) = refl
glue_byte end b (piece ∷ others, last) = refl

glue_step : (end b : ℕ) (bytes : List ℕ) (t : Bool) (x : Pieces) → eqb b end ≡ t → glue end x.0 x.1 ≡ bytes →
    glue end (cond t ([] ∷ x.0, x.1) (with_byte b x)).0 (cond t ([] ∷ x.0, x.1) (with_byte b x)).1 ≡ b ∷ bytes
glue_step end b bytes true x e h = ap (λ k. end ∷ k) h ∙ ap (λ k. k ∷ bytes) (sym (eqb-true b end e))
glue_step end b bytes false x e h = glue_byte end b x ∙ ap (λ k. b ∷ k) h

pub glued : (end : ℕ) (bytes : List ℕ) → glue end (pieces end bytes).0 (pieces end bytes).1 ≡ bytes
unfolding pieces
glued end [] = refl
glued end (b ∷ bytes) = glue_step end b bytes (eqb b end) (pieces end bytes) refl (glued end bytes)

spaced_glue : (ws : List Word) (last : Word) → spaced (ws ++ last ∷ []) ≡ glue 32 ws last
spaced_glue [] last = refl
spaced_glue (w ∷ []) last = refl
spaced_glue (w ∷ v ∷ ws) last = ap (λ k. w ++ 32 ∷ k) (spaced_glue (v ∷ ws) last)

-- a line is its words with spaces between
pub spaced_words : (line : List ℕ) → spaced (words line) ≡ line
spaced_words line = spaced_glue (pieces 32 line).0 (pieces 32 line).1 ∙ glued 32 line

pub spelled_glue : (ls : List Line) → spelled ls ≡ glue 10 (map spaced ls) []
spelled_glue [] = refl
spelled_glue (l ∷ ls) = ap (λ k. spaced l ++ 10 ∷ k) (spelled_glue ls)

-- bytes whose last line feed ends them are the text of their lines
pub spelled_lines : (bytes : List ℕ) (ls : List Line) → (pieces 10 bytes).0 ≡ map spaced ls → (pieces 10 bytes).1 ≡ [] → bytes ≡ spelled ls
spelled_lines bytes ls e f = sym (glued 10 bytes) ∙ ap (λ k. glue 10 k (pieces 10 bytes).1) e ∙ ap (glue 10 (map spaced ls)) f ∙
    sym (spelled_glue ls)

-- ---- what was joined is cut again

-- no byte is a space or below it
abbrev pub Solid : Word → Type 0
Solid [] = Unit {0}
Solid (b ∷ bytes) = (32 < b) × Solid bytes

abbrev pub AreSolid : List Word → Type 0
AreSolid [] = Unit {0}
AreSolid (w ∷ ws) = Solid w × AreSolid ws

free_solid : (end : ℕ) (w : Word) → end ≤ 32 → Solid w → Free end w
free_solid end [] le s = tt
free_solid end (b ∷ bytes) le s = let high = s.0 in ((λ e. omega arith), free_solid end bytes le s.1)

free_append : (end b : ℕ) (xs ys : List ℕ) → end ≢ b → Free end xs → Free end ys → Free end (xs ++ b ∷ ys)
free_append end b [] ys n f g = ((λ e. n (sym e)), g)
free_append end b (x ∷ xs) ys n f g = (f.0, free_append end b xs ys n f.1 g)

free_spaced : (ws : List Word) → AreSolid ws → Free 10 (spaced ws)
free_spaced [] s = tt
free_spaced (w ∷ []) s = free_solid 10 w (omega arith) s.0
free_spaced (w ∷ v ∷ ws) s = free_append 10 32 w (spaced (v ∷ ws)) (λ e. omega arith) (free_solid 10 w (omega arith) s.0)
    (free_spaced (v ∷ ws) s.1)

pub words_spaced : (w : Word) (ws : List Word) → AreSolid (w ∷ ws) → words (spaced (w ∷ ws)) ≡ w ∷ ws
words_spaced w [] s = ap (λ (x : Pieces). x.0 ++ x.1 ∷ []) (cut_none 32 w (free_solid 32 w (omega arith) s.0))
words_spaced w (v ∷ ws) s =
    ap (λ (x : Pieces). x.0 ++ x.1 ∷ []) (cut_one 32 w (spaced (v ∷ ws)) (free_solid 32 w (omega arith) s.0)) ∙
    ap (λ k. w ∷ k) (words_spaced v ws s.1)

abbrev pub SolidLines : List Line → Type 0
SolidLines [] = Unit {0}
SolidLines (l ∷ ls) = AreSolid l × SolidLines ls

pub lines_cut : (ls : List Line) → SolidLines ls → pieces 10 (spelled ls) ≡ (map spaced ls, [])
unfolding pieces
lines_cut [] s = refl
lines_cut (l ∷ ls) s = cut_one 10 (spaced l) (spelled ls) (free_spaced l s.0) ∙ ap (with_piece (spaced l)) (lines_cut ls s.1)

-- ---- the words of a listing are solid

solid_digits : (ds : List ℕ) → are_digits ds ≡ true → Solid ds
solid_digits [] e = tt
solid_digits (d ∷ ds) e =
    let k = and_parts (is_digit d) (are_digits ds) e in
    let low : 48 ≤ d = leb-true 48 d (and_parts (leb 48 d) (leb d 57) k.0).0 in
    (omega arith, solid_digits ds k.1)

pub solid_decimal : (n : ℕ) → n < 2 ^ 64 → Solid (decimal n)
solid_decimal n h = solid_digits (decimal n) (digits_decimal numerals n h)

pub solid_signed : (n : ℤ) → Fits n → Solid (signed_decimal n)
solid_signed (pos n) h = solid_decimal n (omega arith)
solid_signed (negsuc n) h = (omega arith, solid_decimal (suc n) (omega arith))

abbrev pub AllFit : List ℤ → Type 0
AllFit [] = Unit {0}
AllFit (n ∷ ns) = Fits n × AllFit ns

abbrev pub number_words : List ℤ → List Word
number_words [] = []
number_words (n ∷ ns) = signed_decimal n ∷ number_words ns

pub solid_numbers : (ns : List ℤ) → AllFit ns → AreSolid (number_words ns)
solid_numbers [] h = tt
solid_numbers (n ∷ ns) h = (solid_signed n h.0, solid_numbers ns h.1)

solid_digit : (d : ℕ) → 32 < hex_digit d
solid_digit d = by_test (ltb d 10)
  where
    by_test : (t : Bool) → 32 < cond t (48 + d) (87 + d)
    by_test true = omega arith
    by_test false = omega arith

pub solid_hex : (bytes : List ℕ) → Solid (hex bytes)
solid_hex [] = tt
solid_hex (b ∷ bytes) = (solid_digit (b / 16), (solid_digit (b % 16), solid_hex bytes))

abbrev pub is_solid : Word → Bool
is_solid [] = true
is_solid (b ∷ bytes) = ltb 32 b && is_solid bytes

pub solid_by_test : (w : Word) → is_solid w ≡ true → Solid w
solid_by_test [] e = tt
solid_by_test (b ∷ bytes) e = let k = and_parts (ltb 32 b) (is_solid bytes) e in (ltb-true 32 b k.0, solid_by_test bytes k.1)

abbrev all_solid : List Word → Bool
all_solid [] = true
all_solid (w ∷ ws) = is_solid w && all_solid ws

solid_at : (ws : List Word) (i : ℕ) → all_solid ws ≡ true → Solid (unwrap_or (slice_get ws i) [])
solid_at [] i e = tt
solid_at (w ∷ ws) zero e = solid_by_test w (and_parts (is_solid w) (all_solid ws) e).0
solid_at (w ∷ ws) (suc i) e = solid_at ws i (and_parts (is_solid w) (all_solid ws) e).1

names_solid : all_solid names ≡ true
unfolding names
names_solid = refl

pub solid_name : (op : Op) → Solid (name_of op)
solid_name op = solid_at names (code_of op) names_solid
