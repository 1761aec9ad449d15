-- Each piece is the longest that is spelled at its place.
use Rattle.std.proofs.Common.{◌≡◌, ℕ, suc, ◌+◌, ◌≤◌, ◌==◌, ◌&&◌, ◌||◌, Bool, true, false, List, [], ◌∷◌, ◌++◌, Option, Some, None, length}
use Rattle.std.proofs.Common.{take, drop, if◌then◌else◌, refl, sym, ◌∙◌, ap, arith, subst, append_assoc, length-append, add-one}
use Rattle.std.specs.Prelude.{◌^◌, pos, slice_get, nat_le, nat_lt}
use Rattle.std.proofs.lemmas.Bool.Decides.{nat_tests}
use Rattle.std.proofs.lemmas.List.Sums.{take_while-cons}
use Rattle.std.proofs.lemmas.Bool.{and_parts, not-true}
use Rattle.verse_lex.specs.Bytes.{is_letter, is_digit, is_hex_digit, is_blank, in_name, in_line, is_at, letter_at, passes, run}
use Rattle.verse_lex.specs.Marks.{doubles, singles}
use Rattle.verse_lex.specs.Texts.{text_chars, further}
use Rattle.verse_lex.specs.Comments.{closing, beyond}
use Rattle.verse_lex.specs.Pieces.{piece_at, common, name, number, mark, mark_next, double_mark, comment, comment_next, is_lone_at}
use Rattle.verse_lex.specs.Pieces.{is_hexadecimal, has_fraction, hexadecimal_number, fractional_number, integer, ended, duration}
use Rattle.verse_lex.specs.Numbers.{decimal, hexadecimal, thousandths}
use Rattle.verse_lex_laws.specs.Spelling as s
use Rattle.verse_lex_laws.specs.Spelling.{all_pass, Body, Chars, Literal, Number, Piece, Spells, Reaches, NoneLonger}
use Rattle.verse_lex.specs.declared.rules.TheConstants.{UNEXPECTED, INTEGER, DURATION}
use Rattle.verse_base.specs.declared.refusals.Rule.{Rule}
use Rattle.verse_lex.specs.declared.tokens.Mark.{Mark}
use Rattle.verse_lex.specs.declared.tokens.Mark.TheVariants as m
use Rattle.verse_lex.specs.declared.tokens.TokenKind.{TokenKind}
use Rattle.verse_lex.specs.declared.tokens.TokenKind.TheVariants as k
use Rattle.verse_lex.specs.declared.texts.Ending.{Ending}
use Rattle.verse_lex.specs.declared.texts.Ending.TheVariants as e
use Rattle.verse_lex.specs.declared.comments.Close.{Close}
use Rattle.verse_lex.specs.declared.comments.Close.TheVariants as close
use Rattle.verse_lex.specs.declared.pieces.Next.{Next}
use Rattle.verse_lex.specs.declared.pieces.Next.TheVariants as n
use Rattle.verse_lex_laws.proofs.Runs.{equal, other_byte, digit_no_letter, run_reach, run_stops, at_end, behind_end, drop_end}
use Rattle.verse_lex_laws.proofs.Runs.{AllRows, in_table}

if_reaches : (v : Bool) (x y : Next) (len : ℕ) → Reaches x len → Reaches y len → Reaches (if v then x else y) len
if_reaches true x y len h g = h
if_reaches false x y len h g = g

-- a byte that begins neither a line end, a comment, a text nor the end of a hole
pub at_common : (within : Bool) (b : ℕ) (bs : List ℕ) → (b == 10) ≡ false → (b == 13) ≡ false → (b == 35) ≡ false → (b == 60) ≡ false →
    (b == 34) ≡ false → (b == 123) ≡ false → (b == 125) ≡ false →
    piece_at within (b ∷ bs) ≡ common (b ∷ bs)
at_common false b bs h1 h2 h3 h4 h5 h6 h7 = rw (h1, h2, h3, h4, h5) refl
at_common true b bs h1 h2 h3 h4 h5 h6 h7 = rw (h7, h2, h1, h3, h5, h6, h4) refl

pub at_class : (p : ℕ → Bool) (within : Bool) (b : ℕ) (bs : List ℕ) → p b ≡ true → p 10 ≡ false → p 13 ≡ false → p 35 ≡ false →
    p 60 ≡ false → p 34 ≡ false → p 123 ≡ false → p 125 ≡ false →
    piece_at within (b ∷ bs) ≡ common (b ∷ bs)
at_class p within b bs h h1 h2 h3 h4 h5 h6 h7 =
    at_common within b bs (other_byte p b 10 h h1) (other_byte p b 13 h h2) (other_byte p b 35 h h3) (other_byte p b 60 h h4)
    (other_byte p b 34 h h5) (other_byte p b 123 h h6) (other_byte p b 125 h h7)

letter_no_blank : (b : ℕ) → is_letter b ≡ true → is_blank b ≡ false
letter_no_blank b h = grind (arith, nat_tests)

digit_no_blank : (b : ℕ) → is_digit b ≡ true → is_blank b ≡ false
digit_no_blank b h = grind (arith, nat_tests)

pub at_letter : (within : Bool) (b : ℕ) (bs : List ℕ) → is_letter b ≡ true → piece_at within (b ∷ bs) ≡ name (b ∷ bs)
at_letter within b bs h = at_class is_letter within b bs h refl refl refl refl refl refl refl ∙ (rw (letter_no_blank b h, h) refl)

pub at_digit : (within : Bool) (b : ℕ) (bs : List ℕ) → is_digit b ≡ true → piece_at within (b ∷ bs) ≡ number (b ∷ bs)
at_digit within b bs h = at_class is_digit within b bs h refl refl refl refl refl refl refl ∙
    (rw (digit_no_blank b h, digit_no_letter b h, h) refl)

pub at_blank : (within : Bool) (b : ℕ) (bs : List ℕ) → is_blank b ≡ true → piece_at within (b ∷ bs) ≡ n.Separator 1
at_blank within b bs h = at_class is_blank within b bs h refl refl refl refl refl refl refl ∙ (rw h refl)

reaches_along : (x y : Next) (len : ℕ) → x ≡ y → Reaches y len → Reaches x len
reaches_along x y len h r = subst (λ z. Reaches z len) (sym h) r

name_longest : (within : Bool) (b : ℕ) (cs ds : List ℕ) → is_letter b ≡ true → all_pass in_name cs ≡ true →
    Reaches (piece_at within (b ∷ (cs ++ ds))) (length (b ∷ cs))
name_longest within b cs ds h all =
    let first : all_pass in_name (b ∷ cs) ≡ true = rw (h, all) refl in
    reaches_along _ _ _ (at_letter within b (cs ++ ds) h) (run_reach in_name (b ∷ cs) ds first)

-- how many bytes a number has
abbrev pub number_len : List ℕ → ℕ
number_len bs =
    let m = run is_digit bs in
    if is_hexadecimal bs then run is_hex_digit (drop 2 bs) + 2
    else (if has_fraction bs m then m + 1 + run is_digit (drop (m + 1) bs)
    else m)

if_least : (v : Bool) (x y len : ℕ) → (v ≡ true → len ≤ x) → (v ≡ false → len ≤ y) → len ≤ (if v then x else y)
if_least true x y len h g = h refl
if_least false x y len h g = g refl

-- `0x` is no run of digits
hex_run : (bs : List ℕ) → is_hexadecimal bs ≡ true → run is_digit bs ≤ 2
hex_run [] h = omega arith
hex_run (b ∷ []) h = by_digit (is_digit b) refl
  where
    by_digit : (v : Bool) → is_digit b ≡ v → run is_digit (b ∷ []) ≤ 2
    by_digit true g = rw (take_while-cons is_digit b [], g) (omega arith)
    by_digit false g = rw (take_while-cons is_digit b [], g) (omega arith)
hex_run (b ∷ c ∷ bs) h =
    let x : (c == 120) ≡ true = (and_parts _ _ (and_parts _ _ h).1).0 in
    let same : 120 ≡ c = sym (equal c 120 x) in
    by_digit (is_digit b) refl (subst (λ y. is_digit y ≡ false) same refl)
  where
    by_digit : (v : Bool) → is_digit b ≡ v → is_digit c ≡ false → run is_digit (b ∷ c ∷ bs) ≤ 2
    by_digit true g f = rw (take_while-cons is_digit b (c ∷ bs), g, take_while-cons is_digit c bs, f) (omega arith)
    by_digit false g f = rw (take_while-cons is_digit b (c ∷ bs), g) (omega arith)

digits_reach : (bs : List ℕ) (len : ℕ) → len ≤ run is_digit bs → len ≤ number_len bs
digits_reach bs len h =
    if_least (is_hexadecimal bs) _ _ len (λ t. omega (arith, hex_run bs t, h))
    (λ f. if_least (has_fraction bs (run is_digit bs)) _ _ len (λ t. omega (arith, h)) (λ t. h))

apart : (v : Bool) → v ≡ true → v ≡ false → ⊥
apart true h g = cc
apart false h g = cc

hex_len : (d : ℕ) (ds es : List ℕ) → is_hex_digit d ≡ true → all_pass is_hex_digit ds ≡ true →
    length (48 ∷ 120 ∷ d ∷ ds) ≤ number_len (48 ∷ 120 ∷ d ∷ (ds ++ es))
hex_len d ds es h all =
    let first : all_pass is_hex_digit (d ∷ ds) ≡ true = rw (h, all) refl in
    let reach = run_reach is_hex_digit (d ∷ ds) es first in
    let test : is_hexadecimal (48 ∷ 120 ∷ d ∷ (ds ++ es)) ≡ true = rw h refl in
    if_least (is_hexadecimal (48 ∷ 120 ∷ d ∷ (ds ++ es))) _ _ _ (λ t. omega (arith, reach)) (λ f. absurd (apart _ test f))

second_no_x : (b c : ℕ) (cs : List ℕ) → (c == 120) ≡ false → is_hexadecimal (b ∷ c ∷ cs) ≡ false
second_no_x b c cs h = by_first (b == 48)
  where
    by_first : (v : Bool) → (v && ((c == 120) && passes is_hex_digit (slice_get cs 0))) ≡ false
    by_first true = rw h refl
    by_first false = refl

-- digits and then a point begin no hexadecimal number
pub point_no_hex : (c : ℕ) (cs ds : List ℕ) → all_pass is_digit cs ≡ true → is_hexadecimal (c ∷ (cs ++ 46 ∷ ds)) ≡ false
point_no_hex c [] ds h = second_no_x c 46 ds refl
point_no_hex c (d ∷ cs) ds h = second_no_x c d (cs ++ 46 ∷ ds)
    (other_byte is_digit d 120 (and_parts (is_digit d) (all_pass is_digit cs) h).0 refl)

fraction_len : (c d : ℕ) (cs ds es : List ℕ) → is_digit c ≡ true → all_pass is_digit cs ≡ true → is_digit d ≡ true →
    all_pass is_digit ds ≡ true →
    length ((c ∷ cs) ++ 46 ∷ d ∷ ds) ≤ number_len ((c ∷ cs) ++ 46 ∷ d ∷ (ds ++ es))
fraction_len c d cs ds es h all g each =
    let front : all_pass is_digit (c ∷ cs) ≡ true = rw (h, all) refl in
    let behind : all_pass is_digit (d ∷ ds) ≡ true = rw (g, each) refl in
    let count : run is_digit ((c ∷ cs) ++ 46 ∷ d ∷ (ds ++ es)) ≡ length (c ∷ cs) =
    run_stops is_digit (c ∷ cs) 46 (d ∷ (ds ++ es)) front refl in
    let reach = run_reach is_digit (d ∷ ds) es behind in
    let hex = point_no_hex c cs (d ∷ (ds ++ es)) all in
    let test : has_fraction ((c ∷ cs) ++ 46 ∷ d ∷ (ds ++ es)) (length (c ∷ cs)) ≡ true =
    rw (at_end (c ∷ cs) 46 (d ∷ (ds ++ es)), add-one, behind_end (c ∷ cs) 46 d (ds ++ es), g) refl in
    rw (hex, count, test, add-one, drop_end (c ∷ cs) 46 (d ∷ (ds ++ es))) (omega (arith, reach, length-append (c ∷ cs) (46 ∷ d ∷ ds)))

pub number_reach : (cs ds : List ℕ) (kind : TokenKind) (rule : Option Rule) → Number cs kind rule → length cs ≤ number_len (cs ++ ds)
number_reach cs ds kind rule (s.digits b bs h all) =
    let first : all_pass is_digit (b ∷ bs) ≡ true = rw (h, all) refl in
    digits_reach ((b ∷ bs) ++ ds) (length (b ∷ bs)) (run_reach is_digit (b ∷ bs) ds first)
number_reach cs ds kind rule (s.hex_digits b bs h all) = hex_len b bs ds h all
number_reach cs ds kind rule (s.fraction b c bs es h all g each) =
    subst (λ x. length ((b ∷ bs) ++ 46 ∷ c ∷ es) ≤ number_len x) (sym (append_assoc (b ∷ bs) (46 ∷ c ∷ es) ds))
    (fraction_len b c bs es ds h all g each)

ended_reaches : (bs : List ℕ) (kind : TokenKind) (count len : ℕ) → len ≤ count → Reaches (ended bs kind count) len
ended_reaches bs kind count len h = if_reaches (letter_at bs count) (n.Bad UNEXPECTED count) (n.Token kind count) len tt h

integer_reaches : (bs : List ℕ) (value count len : ℕ) → len ≤ count → Reaches (integer bs value count) len
integer_reaches bs value count len h = if_reaches (nat_le (2 ^ 63) value) (n.Bad INTEGER 0) _ len tt
    (ended_reaches bs (k.Int (pos value)) count len h)

duration_reaches : (bs whole fraction : List ℕ) (count len : ℕ) → len ≤ count → Reaches (duration bs whole fraction count) len
duration_reaches bs whole fraction count len h =
    if_reaches (nat_lt 3 (length fraction) || nat_lt 1000000000 (thousandths whole fraction)) (n.Bad DURATION 0) _ len tt
    (ended_reaches bs (k.Dec (thousandths whole fraction)) count len h)

-- the number at a digit has all of its bytes
number_piece : (bs : List ℕ) (len : ℕ) → len ≤ number_len bs → Reaches (number bs) len
number_piece bs len h = by_form (is_hexadecimal bs) (has_fraction bs (run is_digit bs)) h
  where
    by_form : (u v : Bool) → len ≤ (if u then run is_hex_digit (drop 2 bs) + 2 else
        (if v then run is_digit bs + 1 + run is_digit (drop (run is_digit bs + 1) bs) else run is_digit bs)) →
        Reaches (if u then hexadecimal_number bs else
        (if v then fractional_number bs (run is_digit bs) else integer bs (decimal (take (run is_digit bs) bs)) (run is_digit bs))) len
    by_form true v g = integer_reaches bs (hexadecimal (take (run is_hex_digit (drop 2 bs)) (drop 2 bs)))
        (run is_hex_digit (drop 2 bs) + 2) len g
    by_form false true g =
        duration_reaches bs (take (run is_digit bs) bs)
        (take (run is_digit (drop (run is_digit bs + 1) bs)) (drop (run is_digit bs + 1) bs))
        (run is_digit bs + 1 + run is_digit (drop (run is_digit bs + 1) bs)) len g
    by_form false false g = integer_reaches bs (decimal (take (run is_digit bs) bs)) (run is_digit bs) len g

pub number_first : (cs : List ℕ) (kind : TokenKind) (rule : Option Rule) (ds : List ℕ) (within : Bool) → Number cs kind rule →
    piece_at within (cs ++ ds) ≡ number (cs ++ ds)
number_first cs kind rule ds within (s.digits b bs h all) = at_digit within b (bs ++ ds) h
number_first cs kind rule ds within (s.hex_digits b bs h all) = at_digit within 48 (120 ∷ b ∷ (bs ++ ds)) refl
number_first cs kind rule ds within (s.fraction b c bs es h all g each) = at_digit within b ((bs ++ 46 ∷ c ∷ es) ++ ds) h

-- the characters of a text go on to what ends them
further_further : (m l : ℕ) (x : Ending) → further m (further l x) ≡ further (m + l) x
further_further m l (e.Quote i) = ap e.Quote (omega arith)
further_further m l (e.Brace i) = ap e.Brace (omega arith)
further_further m l (e.Broken rule i) = ap (e.Broken rule) (omega arith)
further_further m l e.Line = refl

further_none : (x : Ending) → x ≡ further 0 x
further_none (e.Quote i) = ap e.Quote (omega arith)
further_none (e.Brace i) = ap e.Brace (omega arith)
further_none (e.Broken rule i) = ap (e.Broken rule) (omega arith)
further_none e.Line = refl

plain_char : (b : ℕ) (bs : List ℕ) → s.is_plain b ≡ true → text_chars (b ∷ bs) ≡ further 1 (text_chars bs)
plain_char b bs h =
    let h1 = and_parts _ _ h in
    let h2 = and_parts _ _ h1.1 in
    let h3 = and_parts _ _ h2.1 in
    let h4 = and_parts _ _ h3.1 in
    let h5 = and_parts _ _ h4.1 in
    rw (
      not-true (b == 34) h1.0,
      not-true (b == 123) h2.0,
      not-true (b == 125) h3.0,
      not-true (b == 10) h4.0,
      not-true (b == 13) h5.0,
      not-true (b == 92) h5.1,
    ) refl

pub chars_end : (cs ms ds : List ℕ) → Chars cs ms → text_chars (cs ++ ds) ≡ further (length cs) (text_chars ds)
chars_end cs ms ds s.no_chars = further_none (text_chars ds)
chars_end cs ms ds (s.plain {b = b} {cs = bs} {ms = os} h r) =
    plain_char b (bs ++ ds) h ∙ (ap (further 1) (chars_end bs os ds r) ∙
    (further_further 1 (length bs) (text_chars ds) ∙ ap (λ i. further i (text_chars ds)) (omega arith)))
chars_end cs ms ds (s.escaped {b = b} {cs = bs} {ms = os} h r) =
    rw h (ap (further 2) (chars_end bs os ds r) ∙
    (further_further 2 (length bs) (text_chars ds) ∙ ap (λ i. further i (text_chars ds)) (omega arith)))

-- the body of a comment closes one comment
beyond_beyond : (m l : ℕ) (x : Close) → beyond m (beyond l x) ≡ beyond (m + l) x
beyond_beyond m l (close.Closed i) = ap close.Closed (omega arith)
beyond_beyond m l (close.Lone i) = ap close.Lone (omega arith)
beyond_beyond m l close.Never = refl

pub body_closes : (cs : List ℕ) (depth : ℕ) (ds : List ℕ) → Body cs → closing (suc depth) (cs ++ ds) ≡ beyond (length cs) (closing depth ds)
body_closes cs depth ds s.ends = refl
body_closes cs depth ds (s.nested {cs = bs} {ds = es} r q) =
    let again = ap (λ x. closing (suc (suc depth)) x) (append_assoc bs es ds) ∙
    (body_closes bs (suc depth) (es ++ ds) r ∙ ap (beyond (length bs)) (body_closes es depth ds q)) in
    ap (beyond 2) (again ∙ beyond_beyond (length bs) (length es) (closing depth ds)) ∙
    (beyond_beyond 2 (length bs + length es) (closing depth ds) ∙
    ap (λ i. beyond i (closing depth ds)) (omega (arith, length-append bs es)))
body_closes cs depth ds (s.more {b = b} {c = c} {cs = bs} h g l r) =
    rw (h, g, l) (ap (beyond 1) (body_closes (c ∷ bs) depth ds r) ∙
    (beyond_beyond 1 (length (c ∷ bs)) (closing depth ds) ∙ ap (λ i. beyond i (closing depth ds)) (omega arith)))

-- texts, up to their end or a hole
text_end : (cs ms ds : List ℕ) → Chars cs ms → Reaches (piece_at false (34 ∷ ((cs ++ 34 ∷ []) ++ ds))) (length (34 ∷ (cs ++ 34 ∷ [])))
text_end cs ms ds r =
    let ended : text_chars ((cs ++ 34 ∷ []) ++ ds) ≡ e.Quote (length cs + 1) =
    ap text_chars (append_assoc cs (34 ∷ []) ds) ∙ chars_end cs ms (34 ∷ ds) r in
    rw ended (omega (arith, length-append cs (34 ∷ [])))

text_hole : (cs ms ds : List ℕ) → Chars cs ms → Reaches (piece_at false (34 ∷ ((cs ++ 123 ∷ []) ++ ds))) (length (34 ∷ (cs ++ 123 ∷ [])))
text_hole cs ms ds r =
    let ended : text_chars ((cs ++ 123 ∷ []) ++ ds) ≡ e.Brace (length cs + 1) =
    ap text_chars (append_assoc cs (123 ∷ []) ds) ∙ chars_end cs ms (123 ∷ ds) r in
    rw ended (omega (arith, length-append cs (123 ∷ [])))

part_end : (cs ms ds : List ℕ) → Chars cs ms → Reaches (piece_at true (125 ∷ ((cs ++ 34 ∷ []) ++ ds))) (length (125 ∷ (cs ++ 34 ∷ [])))
part_end cs ms ds r =
    let ended : text_chars ((cs ++ 34 ∷ []) ++ ds) ≡ e.Quote (length cs + 1) =
    ap text_chars (append_assoc cs (34 ∷ []) ds) ∙ chars_end cs ms (34 ∷ ds) r in
    rw ended (omega (arith, length-append cs (34 ∷ [])))

part_hole : (cs ms ds : List ℕ) → Chars cs ms → Reaches (piece_at true (125 ∷ ((cs ++ 123 ∷ []) ++ ds))) (length (125 ∷ (cs ++ 123 ∷ [])))
part_hole cs ms ds r =
    let ended : text_chars ((cs ++ 123 ∷ []) ++ ds) ≡ e.Brace (length cs + 1) =
    ap text_chars (append_assoc cs (123 ∷ []) ds) ∙ chars_end cs ms (123 ∷ ds) r in
    rw ended (omega (arith, length-append cs (123 ∷ [])))

comment_longest : (cs ds : List ℕ) → Body cs → is_at cs 0 62 ≡ false →
    Reaches (piece_at false (60 ∷ 35 ∷ (cs ++ ds))) (length (60 ∷ 35 ∷ cs))
comment_longest cs ds r h =
    let closed : closing 1 (cs ++ ds) ≡ close.Closed (length cs + 0) = body_closes cs 0 ds r in
    if_reaches (is_at (cs ++ ds) 0 62) _ _ _ tt (rw closed (omega arith))

line_longest : (cs ds : List ℕ) → all_pass in_line cs ≡ true → Reaches (piece_at false (35 ∷ (cs ++ ds))) (length (35 ∷ cs))
line_longest cs ds all =
    if_reaches (is_lone_at (35 ∷ (cs ++ ds)) (run in_line (35 ∷ (cs ++ ds)))) _ _ _ tt (run_reach in_line (35 ∷ cs) ds all)

literal_longest : (within : Bool) (cs ds : List ℕ) (c : ℕ) → Literal cs c → Reaches (piece_at within (cs ++ ds)) (length cs)
literal_longest within cs ds c (s.literal_plain {b = b} h g) =
    reaches_along (piece_at within (39 ∷ b ∷ 39 ∷ ds)) (n.Token (k.Char b) 3) 3
    (at_common within 39 (b ∷ 39 ∷ ds) refl refl refl refl refl refl refl ∙ (rw (g, h) refl)) (omega arith)
literal_longest within cs ds c (s.literal_escaped {b = b} h) =
    reaches_along (piece_at within (39 ∷ 92 ∷ b ∷ 39 ∷ ds)) (n.Token (k.Char c) 4) 4
    (at_common within 39 (92 ∷ b ∷ 39 ∷ ds) refl refl refl refl refl refl refl ∙ (rw h refl)) (omega arith)

-- marks
double_rows : (within : Bool) (ds : List ℕ) → AllRows (λ cs. Reaches (piece_at within (cs ++ ds)) (length cs)) doubles
double_rows false ds = (
  omega arith,
  (
    omega arith,
    (omega arith, (omega arith, (omega arith, (omega arith, (omega arith, (omega arith, (omega arith, (omega arith, tt)))))))),
  ),
)
double_rows true ds = (
  omega arith,
  (
    omega arith,
    (omega arith, (omega arith, (omega arith, (omega arith, (omega arith, (omega arith, (omega arith, (omega arith, tt)))))))),
  ),
)

single_reaches : (x : Option Mark) (m : Mark) → Reaches (mark_next x (Some m)) 1
single_reaches None m = omega arith
single_reaches (Some o) m = omega arith

close_reaches : (x : Close) → Reaches (comment_next x) 1
close_reaches (close.Closed i) = omega arith
close_reaches (close.Lone i) = tt
close_reaches close.Never = tt

-- `<` is a mark unless it begins a comment
below_reaches : (ds : List ℕ) → Reaches (piece_at false (60 ∷ ds)) 1
below_reaches ds =
    if_reaches (is_at (60 ∷ ds) 1 35) (comment (60 ∷ ds)) (mark (60 ∷ ds)) 1
    (if_reaches (is_at (60 ∷ ds) 2 62) _ (comment_next (closing 1 (drop 2 (60 ∷ ds)))) 1 tt (close_reaches (closing 1 (drop 2 (60 ∷ ds)))))
    (single_reaches (double_mark (60 ∷ ds)) m.Below)

below_in_hole : (ds : List ℕ) → Reaches (piece_at true (60 ∷ ds)) 1
below_in_hole ds = if_reaches (is_at (60 ∷ ds) 1 35) n.HoleEnd (mark (60 ∷ ds)) 1 tt (single_reaches (double_mark (60 ∷ ds)) m.Below)

single_rows : (ds : List ℕ) → AllRows (λ cs. Reaches (piece_at false (cs ++ ds)) (length cs)) singles
single_rows ds = (
  single_reaches (double_mark (58 ∷ ds)) m.Colon,
  (
    single_reaches (double_mark (61 ∷ ds)) m.Equals,
    (
      below_reaches ds,
      (
        single_reaches (double_mark (62 ∷ ds)) m.Above,
        (
          single_reaches (double_mark (43 ∷ ds)) m.Plus,
          (
            single_reaches (double_mark (45 ∷ ds)) m.Minus,
            (
              single_reaches (double_mark (42 ∷ ds)) m.Times,
              (
                single_reaches (double_mark (47 ∷ ds)) m.Slash,
                (
                  single_reaches (double_mark (46 ∷ ds)) m.Dot,
                  (
                    single_reaches (double_mark (44 ∷ ds)) m.Comma,
                    (
                      single_reaches (double_mark (59 ∷ ds)) m.Semicolon,
                      (
                        single_reaches (double_mark (40 ∷ ds)) m.RoundOpen,
                        (
                          single_reaches (double_mark (41 ∷ ds)) m.RoundClose,
                          (
                            single_reaches (double_mark (91 ∷ ds)) m.SquareOpen,
                            (
                              single_reaches (double_mark (93 ∷ ds)) m.SquareClose,
                              (
                                single_reaches (double_mark (123 ∷ ds)) m.BraceOpen,
                                (
                                  single_reaches (double_mark (125 ∷ ds)) m.BraceClose,
                                  (
                                    single_reaches (double_mark (63 ∷ ds)) m.Question,
                                    tt,
                                  ),
                                ),
                              ),
                            ),
                          ),
                        ),
                      ),
                    ),
                  ),
                ),
              ),
            ),
          ),
        ),
      ),
    ),
  ),
)

single_rows_in_hole : (ds : List ℕ) → AllRows (λ cs. is_at cs 0 123 ≡ false → is_at cs 0 125 ≡ false →
    Reaches (piece_at true (cs ++ ds)) (length cs)) singles
single_rows_in_hole ds = (
  λ g h. single_reaches (double_mark (58 ∷ ds)) m.Colon,
  (
    λ g h. single_reaches (double_mark (61 ∷ ds)) m.Equals,
    (
      λ g h. below_in_hole ds,
      (
        λ g h. single_reaches (double_mark (62 ∷ ds)) m.Above,
        (
          λ g h. single_reaches (double_mark (43 ∷ ds)) m.Plus,
          (
            λ g h. single_reaches (double_mark (45 ∷ ds)) m.Minus,
            (
              λ g h. single_reaches (double_mark (42 ∷ ds)) m.Times,
              (
                λ g h. single_reaches (double_mark (47 ∷ ds)) m.Slash,
                (
                  λ g h. single_reaches (double_mark (46 ∷ ds)) m.Dot,
                  (
                    λ g h. single_reaches (double_mark (44 ∷ ds)) m.Comma,
                    (
                      λ g h. single_reaches (double_mark (59 ∷ ds)) m.Semicolon,
                      (
                        λ g h. single_reaches (double_mark (40 ∷ ds)) m.RoundOpen,
                        (
                          λ g h. single_reaches (double_mark (41 ∷ ds)) m.RoundClose,
                          (
                            λ g h. single_reaches (double_mark (91 ∷ ds)) m.SquareOpen,
                            (
                              λ g h. single_reaches (double_mark (93 ∷ ds)) m.SquareClose,
                              (
                                λ g h. absurd (cc),
                                (
                                  λ g h. absurd (cc),
                                  (
                                    λ g h. single_reaches (double_mark (63 ∷ ds)) m.Question,
                                    tt,
                                  ),
                                ),
                              ),
                            ),
                          ),
                        ),
                      ),
                    ),
                  ),
                ),
              ),
            ),
          ),
        ),
      ),
    ),
  ),
)

pub none_longer : NoneLonger
none_longer within cs ds piece (s.blank {b = b} h) =
    reaches_along (piece_at within (b ∷ ds)) (n.Separator 1) 1 (at_blank within b ds h) (omega arith)
none_longer within cs ds piece s.line_feed = omega arith
none_longer within cs ds piece s.return_feed = omega arith
none_longer within cs ds piece (s.line_comment {cs = bs} h) = line_longest bs ds h
none_longer within cs ds piece (s.comment {cs = bs} r h) = comment_longest bs ds r h
none_longer within cs ds piece (s.name {b = b} {cs = bs} h all) = name_longest within b bs ds h all
none_longer within cs ds piece (s.number {kind = kind} h) =
    reaches_along (piece_at within (cs ++ ds)) (number (cs ++ ds)) (length cs) (number_first cs kind None ds within h)
    (number_piece (cs ++ ds) (length cs) (number_reach cs ds kind None h))
none_longer within cs ds piece (s.literal {c = c} h) = literal_longest within cs ds c h
none_longer within cs ds piece (s.text {cs = bs} {ms = ms} r) = text_end bs ms ds r
none_longer within cs ds piece (s.text_open {cs = bs} {ms = ms} r) = text_hole bs ms ds r
none_longer within cs ds piece (s.text_mid {cs = bs} {ms = ms} r) = part_hole bs ms ds r
none_longer within cs ds piece (s.text_close {cs = bs} {ms = ms} r) = part_end bs ms ds r
none_longer within cs ds piece (s.double {mark = mark} h) =
    in_table (λ bs. Reaches (piece_at within (bs ++ ds)) (length bs)) doubles cs mark (double_rows within ds) h
none_longer within cs ds piece (s.single {mark = mark} h) =
    in_table (λ bs. Reaches (piece_at false (bs ++ ds)) (length bs)) singles cs mark (single_rows ds) h
none_longer within cs ds piece (s.single_in_hole {mark = mark} h g f) =
    in_table (λ bs. is_at bs 0 123 ≡ false → is_at bs 0 125 ≡ false → Reaches (piece_at true (bs ++ ds)) (length bs)) singles cs mark
    (single_rows_in_hole ds) h g f
