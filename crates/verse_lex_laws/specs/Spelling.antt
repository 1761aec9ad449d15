-- How the pieces are spelled, whatever follows them, and what breaks each rule.
use Rattle.std.specs.Prelude.{◌≡◌, ℕ, ◌+◌, ◌≤◌, ◌^◌, Bool, true, false, not, ◌==◌, ◌&&◌, ◌||◌}
use Rattle.std.specs.Prelude.{if◌then◌else◌, nat_le, nat_lt, List, [], ◌∷◌}
use Rattle.std.specs.Prelude.{◌++◌, length, Option, Some, None, pos, slice_get}
use Rattle.verse_base.specs.declared.refusals.Rule.{Rule}
use Rattle.verse_lex.specs.Bytes.{is_letter, is_digit, is_hex_digit, in_name, is_blank, in_line}
use Rattle.verse_lex.specs.Bytes.{is_at, letter_at}
use Rattle.verse_lex.specs.Words.{look_up, name_kind}
use Rattle.verse_lex.specs.Marks.{doubles, singles}
use Rattle.verse_lex.specs.Numbers.{decimal, hexadecimal, thousandths}
use Rattle.verse_lex.specs.Texts.{escape}
use Rattle.verse_lex.specs.Comments.{closes, opens, is_lone}
use Rattle.verse_lex.specs.Pieces.{escape_of, in_literal, is_lone_at, breaks_hole, piece_at}
use Rattle.verse_lex.specs.Contents.{token_text}
use Rattle.verse_lex.specs.Cut.{mark_len, first_place, after, AreTokens}
use Rattle.verse_lex.specs.declared.numbers.TheConstants.{MOST_DURATION}
use Rattle.verse_lex.specs.declared.tokens.Token.{Token}
use Rattle.verse_lex.specs.declared.rules.TheConstants.{UNEXPECTED, TEXT_END, COMMENT_END, ESCAPE}
use Rattle.verse_lex.specs.declared.rules.TheConstants.{INTEGER, DURATION, CHARACTER}
use Rattle.verse_lex.specs.declared.texts.Ending.{Ending}
use Rattle.verse_lex.specs.declared.texts.Ending.TheVariants as e
use Rattle.verse_lex.specs.declared.tokens.Mark.{Mark}
use Rattle.verse_lex.specs.declared.tokens.TokenKind.{TokenKind}
use Rattle.verse_lex.specs.declared.tokens.TokenKind.TheVariants as k
use Rattle.verse_lex.specs.declared.pieces.Next.{Next}
use Rattle.verse_lex.specs.declared.pieces.Next.TheVariants as n

abbrev pub all_pass : (ℕ → Bool) → List ℕ → Bool
all_pass p [] = true
all_pass p (b ∷ bs) = p b && all_pass p bs

-- what stands behind the `<#` of a comment: its end, or a nested comment or a byte before the rest
pub data Body : List ℕ → Type 0 where
  ends : Body (35 ∷ 62 ∷ [])
  nested : {cs ds : List ℕ} → Body cs → Body ds → Body (60 ∷ 35 ∷ (cs ++ ds))
  more : {b c : ℕ} {cs : List ℕ} → closes b c ≡ false → opens b c ≡ false → is_lone b c ≡ false →
      Body (c ∷ cs) → Body (b ∷ c ∷ cs)

-- no quote, brace, backslash, line feed or carriage return
abbrev pub is_plain : ℕ → Bool
is_plain b = not (b == 34) && (not (b == 123) &&
    (not (b == 125) && (not (b == 10) && (not (b == 13) && not (b == 92)))))

-- the characters of a text, and the bytes that they stand for
pub data Chars : List ℕ → List ℕ → Type 0 where
  no_chars : Chars [] []
  plain : {b : ℕ} {cs ms : List ℕ} → is_plain b ≡ true → Chars cs ms → Chars (b ∷ cs) (b ∷ ms)
  escaped : {b c : ℕ} {cs ms : List ℕ} → escape b ≡ Some c → Chars cs ms →
      Chars (92 ∷ b ∷ cs) (c ∷ ms)

-- a character literal, and the byte that it stands for
pub data Literal : List ℕ → ℕ → Type 0 where
  literal_plain : {b : ℕ} → in_literal b ≡ true → (b == 92) ≡ false → Literal (39 ∷ b ∷ 39 ∷ []) b
  literal_escaped : {b c : ℕ} → escape b ≡ Some c → Literal (39 ∷ 92 ∷ b ∷ 39 ∷ []) c

-- the rule that an integer breaks
abbrev pub integer_rule : ℕ → Option Rule
integer_rule value = if nat_le (2 ^ 63) value then Some INTEGER else None

-- the rule that a duration breaks, of these digits behind the point
abbrev pub duration_rule : List ℕ → ℕ → Option Rule
duration_rule fraction value =
    if nat_lt 3 (length fraction) || nat_lt MOST_DURATION value then Some DURATION else None

-- a number, and the rule that it breaks if it breaks one
pub data Number : List ℕ → TokenKind → Option Rule → Type 0 where
  digits : (d : ℕ) (ds : List ℕ) → is_digit d ≡ true → all_pass is_digit ds ≡ true →
      Number (d ∷ ds) (k.Int (pos (decimal (d ∷ ds)))) (integer_rule (decimal (d ∷ ds)))
  hex_digits : (d : ℕ) (ds : List ℕ) → is_hex_digit d ≡ true → all_pass is_hex_digit ds ≡ true →
      Number (48 ∷ 120 ∷ d ∷ ds) (k.Int (pos (hexadecimal (d ∷ ds))))
      (integer_rule (hexadecimal (d ∷ ds)))
  fraction : (c d : ℕ) (cs ds : List ℕ) → is_digit c ≡ true → all_pass is_digit cs ≡ true →
      is_digit d ≡ true → all_pass is_digit ds ≡ true →
      Number ((c ∷ cs) ++ 46 ∷ d ∷ ds) (k.Dec (thousandths (c ∷ cs) (d ∷ ds)))
      (duration_rule (d ∷ ds) (thousandths (c ∷ cs) (d ∷ ds)))

pub data Piece : Type 0 where
  separates : Piece
  ends_line : Piece
  is_token : TokenKind → Piece

-- The pieces, in a hole and outside. A brace in a hole is no mark.
pub data Spells : Bool → List ℕ → Piece → Type 0 where
  blank : {hole : Bool} {b : ℕ} → is_blank b ≡ true → Spells hole (b ∷ []) separates
  line_feed : Spells false (10 ∷ []) ends_line
  return_feed : Spells false (13 ∷ 10 ∷ []) ends_line
  line_comment : {cs : List ℕ} → all_pass in_line cs ≡ true → Spells false (35 ∷ cs) separates
  comment : {cs : List ℕ} → Body cs → is_at cs 0 62 ≡ false → Spells false (60 ∷ 35 ∷ cs) separates
  name : {hole : Bool} {b : ℕ} {cs : List ℕ} → is_letter b ≡ true → all_pass in_name cs ≡ true →
      Spells hole (b ∷ cs) (is_token (name_kind (b ∷ cs)))
  number : {hole : Bool} {cs : List ℕ} {kind : TokenKind} → Number cs kind None →
      Spells hole cs (is_token kind)
  literal : {hole : Bool} {cs : List ℕ} {c : ℕ} → Literal cs c →
      Spells hole cs (is_token (k.Char c))
  text : {cs ms : List ℕ} → Chars cs ms → Spells false (34 ∷ (cs ++ 34 ∷ [])) (is_token k.Text)
  text_open : {cs ms : List ℕ} → Chars cs ms →
      Spells false (34 ∷ (cs ++ 123 ∷ [])) (is_token k.TextOpen)
  text_mid : {cs ms : List ℕ} → Chars cs ms →
      Spells true (125 ∷ (cs ++ 123 ∷ [])) (is_token k.TextMid)
  text_close : {cs ms : List ℕ} → Chars cs ms →
      Spells true (125 ∷ (cs ++ 34 ∷ [])) (is_token k.TextClose)
  double : {hole : Bool} {b c : ℕ} {mark : Mark} → look_up doubles (b ∷ c ∷ []) ≡ Some mark →
      Spells hole (b ∷ c ∷ []) (is_token (k.Mark mark))
  single : {b : ℕ} {mark : Mark} → look_up singles (b ∷ []) ≡ Some mark →
      Spells false (b ∷ []) (is_token (k.Mark mark))
  single_in_hole : {b : ℕ} {mark : Mark} → look_up singles (b ∷ []) ≡ Some mark →
      (b == 123) ≡ false → (b == 125) ≡ false → Spells true (b ∷ []) (is_token (k.Mark mark))

-- what stands behind the characters of a text, and how that ends them
pub data Stops : List ℕ → Ending → Type 0 where
  quote : {ds : List ℕ} → Stops (34 ∷ ds) (e.Quote 1)
  hole : {ds : List ℕ} → Stops (123 ∷ ds) (e.Brace 1)
  brace : {ds : List ℕ} → Stops (125 ∷ ds) (e.Broken UNEXPECTED 0)
  lone : {ds : List ℕ} → is_lone_at ds 0 ≡ true → Stops ds (e.Broken UNEXPECTED 0)
  no_escape : {ds : List ℕ} → escape_of (slice_get ds 0) ≡ None →
      Stops (92 ∷ ds) (e.Broken ESCAPE 0)
  file_end : Stops [] e.Line
  line_end : {ds : List ℕ} → Stops (10 ∷ ds) e.Line
  return_end : {ds : List ℕ} → Stops (13 ∷ 10 ∷ ds) e.Line

-- no front of these bytes is the body of a comment
abbrev pub NoBody : List ℕ → Type 0
NoBody bs = (cs ds : List ℕ) → bs ≡ cs ++ ds → Body cs → ⊥

-- A carriage return with no line feed behind it stands behind so many of these bytes, in a comment
-- that is open there.
pub data MeetsLone : List ℕ → ℕ → Type 0 where
  lone_here : {bs : List ℕ} → is_lone_at bs 0 ≡ true → MeetsLone bs 0
  in_nested : {bs : List ℕ} {count : ℕ} → MeetsLone bs count → MeetsLone (60 ∷ 35 ∷ bs) (2 + count)
  past_nested : {cs ds : List ℕ} {count : ℕ} → Body cs → MeetsLone ds count →
      MeetsLone (60 ∷ 35 ∷ (cs ++ ds)) (2 + length cs + count)
  past_byte : {b c : ℕ} {bs : List ℕ} {count : ℕ} → closes b c ≡ false → opens b c ≡ false →
      is_lone b c ≡ false → MeetsLone (c ∷ bs) count →
      MeetsLone (b ∷ c ∷ bs) (1 + count)

-- these bytes begin with a backslash that begins no escape
pub record NoEscape (bs : List ℕ) : Type 0 where
  pub behind : List ℕ
  pub whole : bs ≡ 92 ∷ behind
  pub none : escape_of (slice_get behind 0) ≡ None

-- no front of these bytes is a character literal
abbrev pub NoLiteral : List ℕ → Type 0
NoLiteral bs = (cs ds : List ℕ) (c : ℕ) → bs ≡ cs ++ ds → Literal cs c → ⊥

-- no number that begins here is longer
abbrev pub LongestNumber : List ℕ → ℕ → Type 0
LongestNumber bs len = (cs ds : List ℕ) (kind : TokenKind) (rule : Option Rule) → bs ≡ cs ++ ds →
    Number cs kind rule → length cs ≤ len

-- a byte with which nothing begins
pub record IsStray (b : ℕ) : Type 0 where
  pub blank : is_blank b ≡ false
  pub letter : is_letter b ≡ false
  pub digit : is_digit b ≡ false
  pub quote : (b == 39) ≡ false
  pub text : (b == 34) ≡ false
  pub comment : (b == 35) ≡ false
  pub line_feed : (b == 10) ≡ false
  pub carriage_return : (b == 13) ≡ false
  pub mark : look_up singles (b ∷ []) ≡ None

-- What breaks each rule, and how many bytes on.
pub data Breaks : Bool → List ℕ → Rule → ℕ → Type 0 where
  stray : {within : Bool} {b : ℕ} {bs : List ℕ} → IsStray b → Breaks within (b ∷ bs) UNEXPECTED 0
  lone_return : {within : Bool} {bs : List ℕ} → is_lone_at bs 0 ≡ true →
      Breaks within bs UNEXPECTED 0
  lone_in_line : (cs ds : List ℕ) → all_pass in_line cs ≡ true → is_lone_at ds 0 ≡ true →
      Breaks false (35 ∷ (cs ++ ds)) UNEXPECTED (1 + length cs)
  lone_in_comment : {bs : List ℕ} {count : ℕ} → is_at bs 0 62 ≡ false → MeetsLone bs count →
      Breaks false (60 ∷ 35 ∷ bs) UNEXPECTED (count + 2)
  no_comment : {bs : List ℕ} → Breaks false (60 ∷ 35 ∷ 62 ∷ bs) UNEXPECTED 0
  letter_behind : {within : Bool} {cs : List ℕ} (ds : List ℕ) {kind : TokenKind} →
      Number cs kind None → LongestNumber (cs ++ ds) (length cs) → letter_at ds 0 ≡ true →
      Breaks within (cs ++ ds) UNEXPECTED (length cs)
  broken_number : {within : Bool} {cs : List ℕ} (ds : List ℕ) {kind : TokenKind} {rule : Rule} →
      Number cs kind (Some rule) → LongestNumber (cs ++ ds) (length cs) →
      Breaks within (cs ++ ds) rule 0
  no_literal : {within : Bool} {bs : List ℕ} → NoLiteral (39 ∷ bs) → (NoEscape bs → ⊥) →
      Breaks within (39 ∷ bs) CHARACTER 0
  literal_escape : {within : Bool} {bs : List ℕ} → escape_of (slice_get bs 0) ≡ None →
      Breaks within (39 ∷ 92 ∷ bs) ESCAPE 1
  broken_text : {cs ms ds : List ℕ} {rule : Rule} → Chars cs ms → Stops ds (e.Broken rule 0) →
      Breaks false (34 ∷ (cs ++ ds)) rule (1 + length cs)
  broken_part : {cs ms ds : List ℕ} {rule : Rule} → Chars cs ms → Stops ds (e.Broken rule 0) →
      Breaks true (125 ∷ (cs ++ ds)) rule (1 + length cs)
  unended_text : {cs ms ds : List ℕ} → Chars cs ms → Stops ds e.Line →
      Breaks false (34 ∷ (cs ++ ds)) TEXT_END 0
  unended_comment : {bs : List ℕ} → is_at bs 0 62 ≡ false → NoBody bs →
      ((count : ℕ) → MeetsLone bs count → ⊥) → Breaks false (60 ∷ 35 ∷ bs) COMMENT_END 0

-- where the text round a hole does not end
pub data Unended : List ℕ → Type 0 where
  no_more : Unended []
  broken_hole : {bs : List ℕ} → is_lone_at bs 0 ≡ false → breaks_hole bs ≡ true → Unended bs
  unended_part : {cs ms ds : List ℕ} → Chars cs ms → Stops ds e.Line → Unended (125 ∷ (cs ++ ds))

-- the piece, if no rule is broken, has at least so many bytes
abbrev pub Reaches : Next → ℕ → Type 0
Reaches n.End len = ⊥
Reaches (n.Separator count) len = len ≤ count
Reaches (n.LineEnd count) len = len ≤ count
Reaches (n.Token kind count) len = len ≤ count
Reaches (n.Bad rule count) len = Unit {0}
Reaches n.HoleEnd len = Unit {0}

-- the bytes begin with this piece of so many bytes
pub record BeginsWith (within : Bool) (bs : List ℕ) (piece : Piece) (count : ℕ) : Type 0 where
  pub front : List ℕ
  pub behind : List ℕ
  pub whole : bs ≡ front ++ behind
  pub len : length front ≡ count
  pub spelled : Spells within front piece

-- what is spelled at a place is never longer than the piece there
abbrev pub NoneLonger : Type 0
NoneLonger = (within : Bool) (cs ds : List ℕ) (piece : Piece) → Spells within cs piece →
    Reaches (piece_at within (cs ++ ds)) (length cs)

-- what begins here is spelled, or breaks a rule
abbrev pub Explains : Bool → List ℕ → Next → Type 0
Explains within bs n.End = (within ≡ false) × (bs ≡ [])
Explains within bs (n.Separator count) = BeginsWith within bs separates count
Explains within bs (n.LineEnd count) = BeginsWith within bs ends_line count
Explains within bs (n.Token kind count) = BeginsWith within bs (is_token kind) count
Explains within bs (n.Bad rule count) = Breaks within bs rule count
Explains within bs n.HoleEnd = (within ≡ true) × Unended bs

abbrev pub EachExplained : Type 0
EachExplained = (within : Bool) (bs : List ℕ) → Explains within bs (piece_at within bs)

-- where a rule is broken, no piece goes on, and that rule is answered there
abbrev pub EachBroken : Type 0
EachBroken = (within : Bool) (bs : List ℕ) (rule : Rule) (count : ℕ) → Breaks within bs rule count →
    piece_at within bs ≡ n.Bad rule count

-- where the text round a hole does not end, that is answered
abbrev pub EachUnended : Type 0
EachUnended = (bs : List ℕ) → Unended bs → piece_at true bs ≡ n.HoleEnd

-- at a place at most one rule is broken, at one offset, and none where the text round a hole does
-- not end
pub record OneBreak : Type 0 where
  pub one : (within : Bool) (bs : List ℕ) (rule other : Rule) (count offset : ℕ) →
      Breaks within bs rule count → Breaks within bs other offset →
      (rule ≡ other) × (count ≡ offset)
  pub apart : (bs : List ℕ) (rule : Rule) (count : ℕ) → Breaks true bs rule count → Unended bs → ⊥

-- this piece of so many bytes
abbrev pub next_of : Piece → ℕ → Next
next_of separates count = n.Separator count
next_of ends_line count = n.LineEnd count
next_of (is_token kind) count = n.Token kind count

-- each spelling, by itself, is read as what it spells
abbrev pub SpelledAlone : Type 0
SpelledAlone = (within : Bool) (cs : List ℕ) (piece : Piece) → Spells within cs piece →
    piece_at within cs ≡ next_of piece (length cs)

-- no bytes spell two pieces
abbrev pub OnePiece : Type 0
OnePiece = (within : Bool) (cs : List ℕ) (p q : Piece) → Spells within cs p → Spells within cs q →
    p ≡ q

-- The file is cut round this token: a byte-order mark, the bytes before it, its own, those behind.
pub record IsSpelled (file : ℕ) (bs : List ℕ) (t : Token) : Type 0 where
  pub within : Bool
  pub mark : List ℕ
  pub before : List ℕ
  pub front : List ℕ
  pub behind : List ℕ
  pub whole : bs ≡ mark ++ (before ++ (front ++ behind))
  pub marked : length mark ≡ mark_len bs
  pub start : t.start ≡ length mark + length before
  pub stop : t.end ≡ length mark + length before + length front
  pub place : t.place ≡ after (first_place file) before
  pub spelled : Spells within front (is_token t.kind)

abbrev pub EachSpelled : ℕ → List ℕ → List Token → Type 0
EachSpelled file bs [] = Unit {0}
EachSpelled file bs (t ∷ ts) = IsSpelled file bs t × EachSpelled file bs ts

-- the tokens of a file are spelled by the bytes of their spans, and stand at their places
abbrev pub TokensSpelled : Type 0
TokensSpelled = (file : ℕ) (bs : List ℕ) (ts : List Token) → AreTokens file bs ts →
    EachSpelled file bs ts

-- the bytes of a text token are what its characters stand for
abbrev pub TextsMean : Type 0
TextsMean = (before behind cs ms : List ℕ) (q r : ℕ) (t : Token) → t.start ≡ length before →
    t.end ≡ length before + length (q ∷ (cs ++ r ∷ [])) → Chars cs ms →
    token_text (before ++ ((q ∷ (cs ++ r ∷ [])) ++ behind)) t ≡ ms
