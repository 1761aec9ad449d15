-- What begins at a place.
use Rattle.std.specs.Prelude.{ℕ, ◌+◌, ◌<◌, ◌^◌, Bool, ◌==◌, ◌&&◌, ◌||◌, ◌≤◌, not, if◌then◌else◌}
use Rattle.std.specs.Prelude.{List, [], ◌∷◌, length, take, drop, Option}
use Rattle.std.specs.Prelude.{Some, None, nat_le, nat_lt, pos, slice_get}
use Rattle.verse_lex.specs.Bytes.{in_name, in_line, is_digit, is_hex_digit, is_blank, letter_at}
use Rattle.verse_lex.specs.Bytes.{digit_at, hex_digit_at, is_letter, is_at}
use Rattle.verse_lex.specs.Bytes.{run}
use Rattle.verse_lex.specs.Words.{name_kind, look_up}
use Rattle.verse_lex.specs.Marks.{doubles, singles}
use Rattle.verse_lex.specs.Numbers.{decimal, hexadecimal, thousandths}
use Rattle.verse_lex.specs.Texts.{escape, text_chars}
use Rattle.verse_lex.specs.Comments.{closing}
use Rattle.verse_lex.specs.declared.numbers.TheConstants.{MOST_DURATION}
use Rattle.verse_lex.specs.declared.tokens.Mark.{Mark}
use Rattle.verse_lex.specs.declared.tokens.TokenKind.{TokenKind}
use Rattle.verse_lex.specs.declared.tokens.TokenKind.TheVariants as k
use Rattle.verse_lex.specs.declared.pieces.Next.{Next}
use Rattle.verse_lex.specs.declared.pieces.Next.TheVariants.{End, Separator, LineEnd, Token, Bad}
use Rattle.verse_lex.specs.declared.pieces.Next.TheVariants.{HoleEnd}
use Rattle.verse_lex.specs.declared.texts.Ending.{Ending}
use Rattle.verse_lex.specs.declared.texts.Ending.TheVariants as e
use Rattle.verse_lex.specs.declared.comments.Close.{Close}
use Rattle.verse_lex.specs.declared.comments.Close.TheVariants as c
use Rattle.verse_lex.specs.declared.rules.TheConstants.{UNEXPECTED, TEXT_END, COMMENT_END, ESCAPE}
use Rattle.verse_lex.specs.declared.rules.TheConstants.{INTEGER, DURATION, CHARACTER}

-- Marks: the longest.
abbrev pub mark_next : Option Mark → Option Mark → Next
mark_next (Some mark) other = Token (k.Mark mark) 2
mark_next None (Some mark) = Token (k.Mark mark) 1
mark_next None None = Bad UNEXPECTED 0

abbrev pub double_mark : List ℕ → Option Mark
double_mark (b ∷ c ∷ bs) = look_up doubles (b ∷ c ∷ [])
double_mark _ = None

abbrev pub mark : List ℕ → Next
mark bs = mark_next (double_mark bs) (look_up singles (take 1 bs))

-- Names and words: all letters and digits that follow each other.
abbrev pub name : List ℕ → Next
name bs = let n = run in_name bs in Token (name_kind (take n bs)) n

-- Numbers: no letter follows one.
abbrev pub ended : List ℕ → TokenKind → ℕ → Next
ended bs kind n = if letter_at bs n then Bad UNEXPECTED n else Token kind n

abbrev pub integer : List ℕ → ℕ → ℕ → Next
integer bs value n = if nat_le (2 ^ 63) value then Bad INTEGER 0 else ended bs (k.Int (pos value)) n

-- the digits before the point, and those behind it
abbrev pub duration : List ℕ → List ℕ → List ℕ → ℕ → Next
duration bs whole fraction n =
    if nat_lt 3 (length fraction) ||
    nat_lt MOST_DURATION (thousandths whole fraction) then Bad DURATION 0 else ended bs
    (k.Dec (thousandths whole fraction)) n

-- `0x` and a hexadecimal digit
abbrev pub is_hexadecimal : List ℕ → Bool
is_hexadecimal bs = is_at bs 0 48 && (is_at bs 1 120 && hex_digit_at bs 2)

-- behind n digits, a point and a digit
abbrev pub has_fraction : List ℕ → ℕ → Bool
has_fraction bs n = is_at bs n 46 && digit_at bs (n + 1)

abbrev pub hexadecimal_number : List ℕ → Next
hexadecimal_number bs =
    let ds = drop 2 bs in
    let n = run is_hex_digit ds in
    integer bs (hexadecimal (take n ds)) (n + 2)

abbrev pub fractional_number : List ℕ → ℕ → Next
fractional_number bs n =
    let ds = drop (n + 1) bs in
    let m = run is_digit ds in
    duration bs (take n bs) (take m ds) (n + 1 + m)

abbrev pub number : List ℕ → Next
number bs =
    let n = run is_digit bs in
    if is_hexadecimal bs then hexadecimal_number bs
    else (if has_fraction bs n then fractional_number bs n
    else integer bs (decimal (take n bs)) n)

-- Character literals: a quote, a character, a quote.
abbrev pub literal_end : List ℕ → ℕ → ℕ → Next
literal_end bs c n = if is_at bs n 39 then Token (k.Char c) (n + 1) else Bad CHARACTER 0

abbrev pub literal_escape : List ℕ → Option ℕ → Next
literal_escape bs (Some c) = literal_end bs c 3
literal_escape bs None = Bad ESCAPE 1

-- what the byte behind the backslash stands for
abbrev pub escape_of : Option ℕ → Option ℕ
escape_of (Some b) = escape b
escape_of None = None

-- 0x20 to 0x7E, but no quote
abbrev pub in_literal : ℕ → Bool
in_literal b = nat_le 32 b && (nat_le b 126 && not (b == 39))

abbrev pub literal : List ℕ → Next
literal [] = Bad CHARACTER 0
literal (b ∷ []) = Bad CHARACTER 0
literal (b ∷ c ∷ bs) =
    if c == 92 then literal_escape (b ∷ c ∷ bs) (escape_of (slice_get bs 0))
    else (if in_literal c then literal_end (b ∷ c ∷ bs) c 2
    else Bad CHARACTER 0)

-- Texts, up to their end or their first hole.
abbrev pub text_next : Next → TokenKind → TokenKind → Ending → Next
text_next unended closed opened (e.Quote n) = Token closed (n + 1)
text_next unended closed opened (e.Brace n) = Token opened (n + 1)
text_next unended closed opened (e.Broken rule n) = Bad rule (n + 1)
text_next unended closed opened e.Line = unended

abbrev pub text : List ℕ → Next
text bs = text_next (Bad TEXT_END 0) k.Text k.TextOpen (text_chars (drop 1 bs))

-- behind a hole, up to the text's end or its next hole
abbrev pub text_on : List ℕ → Next
text_on bs = text_next HoleEnd k.TextClose k.TextMid (text_chars (drop 1 bs))

-- Comments.
abbrev pub comment_next : Close → Next
comment_next (c.Closed n) = Separator (n + 2)
comment_next (c.Lone n) = Bad UNEXPECTED (n + 2)
comment_next c.Never = Bad COMMENT_END 0

-- `<#`, and no `<#>`
abbrev pub comment : List ℕ → Next
comment bs = if is_at bs 2 62 then Bad UNEXPECTED 0 else comment_next (closing 1 (drop 2 bs))

abbrev pub begins_comment : List ℕ → Bool
begins_comment bs = is_at bs 0 60 && is_at bs 1 35

-- a carriage return with no line feed behind it
abbrev pub is_lone_at : List ℕ → ℕ → Bool
is_lone_at bs n = is_at bs n 13 && not (is_at bs (n + 1) 10)

-- up to the line's end
abbrev pub line_comment : List ℕ → Next
line_comment bs = let n = run in_line bs in if is_lone_at bs n then Bad UNEXPECTED n else Separator
    n

-- What stands in holes too.
abbrev pub common : List ℕ → Next
common [] = End
common (b ∷ bs) =
    if is_blank b then Separator 1
    else (if is_letter b then name (b ∷ bs)
    else (if is_digit b then number (b ∷ bs)
    else (if b == 39 then literal (b ∷ bs)
    else mark (b ∷ bs))))

-- a carriage return before these bytes
abbrev pub carriage_return : List ℕ → Next
carriage_return bs = if is_at bs 0 10 then LineEnd 2 else Bad UNEXPECTED 0

abbrev pub next_plain : List ℕ → Next
next_plain [] = End
next_plain (b ∷ bs) =
    if b == 10 then LineEnd 1
    else (if b == 13 then carriage_return bs
    else (if b == 35 then line_comment (b ∷ bs)
    else (if begins_comment (b ∷ bs) then comment (b ∷ bs)
    else (if b == 34 then text (b ∷ bs)
    else common (b ∷ bs)))))

-- a line end, `#`, a quote, `{` or a comment in a hole
abbrev pub breaks_hole : List ℕ → Bool
breaks_hole bs = is_at bs 0 10 || is_at bs 0 13 || is_at bs 0 35 || is_at bs 0 34 ||
    is_at bs 0 123 || begins_comment bs

abbrev pub next_hole : List ℕ → Next
next_hole [] = HoleEnd
next_hole (b ∷ bs) =
    if b == 125 then text_on (b ∷ bs)
    else (if is_lone_at (b ∷ bs) 0 then Bad UNEXPECTED 0
    else (if breaks_hole (b ∷ bs) then HoleEnd
    else common (b ∷ bs)))

-- what begins here, in a hole or outside
abbrev pub piece_at : Bool → List ℕ → Next
piece_at hole bs = if hole then next_hole bs else next_plain bs

-- a piece has bytes, and no more than there are
abbrev pub Within : Next → ℕ → Type 0
Within End len = Unit {0}
Within (Separator n) len = (0 < n) × (n ≤ len)
Within (LineEnd n) len = (0 < n) × (n ≤ len)
Within (Token kind n) len = (0 < n) × (n ≤ len)
Within (Bad rule n) len = n ≤ len
Within HoleEnd len = Unit {0}
