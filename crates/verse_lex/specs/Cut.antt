-- A file's bytes are cut into pieces.
use Rattle.std.specs.Prelude.{◌≡◌, ℕ, ◌+◌, ◌-◌, ◌≤◌, ◌<◌, Bool, ◌==◌, ◌&&◌, if◌then◌else◌, List, []}
use Rattle.std.specs.Prelude.{◌∷◌, length, take, drop, Option, Some}
use Rattle.std.specs.Prelude.{None, is_some}
use Rattle.std.specs.Str.{IsUtf8, IsValidUpTo}
use Rattle.verse_base.specs.declared.places.Place.{Place}
use Rattle.verse_base.specs.declared.refusals.Refusal.{Refusal}
use Rattle.verse_lex.specs.Bytes.{is_at, is_blank, run}
use Rattle.verse_lex.specs.Pieces.{piece_at}
use Rattle.verse_lex.specs.declared.tokens.TokenKind.{TokenKind}
use Rattle.verse_lex.specs.declared.tokens.TokenKind.TheVariants as k
use Rattle.verse_lex.specs.declared.tokens.Token.{Token}
use Rattle.verse_lex.specs.declared.pieces.Next.{Next}
use Rattle.verse_lex.specs.declared.pieces.Next.TheVariants as n
use Rattle.verse_lex.specs.declared.cursors.Cursor.{Cursor}
use Rattle.verse_lex.specs.declared.rules.TheConstants.{NOT_UTF8, TEXT_END}

-- a line feed begins a line, and each other byte is one column
abbrev pub next_place : Place → ℕ → Place
next_place p b =
    if b == 10 then record { file = p.file; line = p.line + 1; col = 1 }
    else record { file = p.file; line = p.line; col = p.col + 1 }

-- the place behind these bytes
abbrev pub after : Place → List ℕ → Place
after p [] = p
after p (b ∷ bs) = after (next_place p b) bs

-- the byte-order mark, where the file begins with it
abbrev pub mark_len : List ℕ → ℕ
mark_len bs = if is_at bs 0 0xEF && (is_at bs 1 0xBB && is_at bs 2 0xBF) then 3 else 0

-- the file behind its byte-order mark
abbrev pub body : List ℕ → List ℕ
body bs = drop (mark_len bs) bs

abbrev pub first_place : ℕ → Place
first_place file = record { file = file; line = 1; col = 1 }

-- the place of the byte at this offset
abbrev pub place_at : ℕ → List ℕ → ℕ → Place
place_at file bs offset = after (first_place file) (take (offset - mark_len bs) (body bs))

-- the span of the spaces and tabs at the beginning of the line that begins at this offset
abbrev pub indentation : ℕ → List ℕ → ℕ × ℕ
indentation offset bs = (offset, offset + run is_blank bs)

-- where the first piece ends
abbrev pub past : Cursor → ℕ → List ℕ → Cursor
past here count bs = record here { at = here.at + count; place = after here.place (take count bs) }

-- behind a line end no token of the line was met yet
abbrev pub past_line : Cursor → ℕ → List ℕ → Cursor
past_line here count bs = record (past here count bs)
    { line = Some (indentation (here.at + count) (drop count bs)) }

-- a text that opens a hole is the one round it, and the end of a text leaves it
abbrev pub hole_after : Option Place → Place → TokenKind → Option Place
hole_after hole place k.TextOpen = Some place
hole_after hole place k.TextClose = None
hole_after hole place other = hole

abbrev pub past_token : Cursor → TokenKind → ℕ → List ℕ → Cursor
past_token here kind count bs =
    record (past here count bs) { hole = hole_after here.hole here.place kind; line = None }

-- a token here; the first of a line has the line's indentation
abbrev pub token : Cursor → TokenKind → ℕ → Token
token here kind count = record {
  kind = kind;
  start = here.at;
  end = here.at + count;
  place =
      here.place;
  indent = here.line;
}

abbrev pub in_hole : Cursor → Bool
in_hole here = is_some here.hole

-- The bytes here are cut into pieces, with these tokens among them, up to the bytes there.
pub data Cuts : Cursor → List ℕ → List Token → Cursor → List ℕ → Type 0 where
  cuts_none : {here : Cursor} {bs : List ℕ} → Cuts here bs [] here bs
  cuts_separator : {here there : Cursor} {bs cs : List ℕ} {ts : List Token} {count : ℕ} →
      piece_at (in_hole here) bs ≡ n.Separator count →
      Cuts (past here count bs) (drop count bs) ts there cs → Cuts here bs ts there cs
  cuts_line : {here there : Cursor} {bs cs : List ℕ} {ts : List Token} {count : ℕ} →
      piece_at (in_hole here) bs ≡ n.LineEnd count →
      Cuts (past_line here count bs) (drop count bs) ts there cs → Cuts here bs ts there cs
  cuts_token : {here there : Cursor} {bs cs : List ℕ} {ts : List Token} {kind : TokenKind}
      {count : ℕ} → piece_at (in_hole here) bs ≡ n.Token kind count →
      Cuts (past_token here kind count bs) (drop count bs) ts there cs →
      Cuts here bs (token here kind count ∷ ts) there cs

-- the file's first byte behind the byte-order mark, where its first line begins
abbrev pub start : ℕ → List ℕ → Cursor
start file bs = record {
  at = mark_len bs;
  place = first_place file;
  hole = None;
  line = Some (indentation (mark_len bs) (body bs));
}

-- the file is UTF-8, and the whole of it is cut into pieces with these tokens among them
pub record AreTokens (file : ℕ) (bs : List ℕ) (ts : List Token) : Type 0 where
  pub text : IsUtf8 bs
  pub there : Cursor
  pub behind : List ℕ
  pub cut : Cuts (start file bs) (body bs) ts there behind
  pub ended : piece_at (in_hole there) behind ≡ n.End

-- the place of the text round the hole
abbrev pub opening : Cursor → Option Place → Place
opening here (Some place) = place
opening here None = here.place

-- the rule that is broken where no piece goes on
abbrev pub refusal_of : Cursor → List ℕ → Next → Option Refusal
refusal_of here bs n.End = None
refusal_of here bs (n.Separator count) = None
refusal_of here bs (n.LineEnd count) = None
refusal_of here bs (n.Token kind count) = None
refusal_of here bs (n.Bad rule count) =
    Some (record { rule = rule; place = (past here count bs).place })
refusal_of here bs n.HoleEnd = Some (record { rule = TEXT_END; place = opening here here.hole })

-- a byte begins no character, or else the first place where no piece goes on breaks a rule
pub data IsRefused (file : ℕ) (bs : List ℕ) (refusal : Refusal) : Type 0 where
  no_text : {offset : ℕ} → IsValidUpTo bs offset →
      refusal ≡ record { rule = NOT_UTF8; place = place_at file bs offset } →
      IsRefused file bs refusal
  no_piece : {before : List Token} {there : Cursor} {behind : List ℕ} →
      IsUtf8 bs → Cuts (start file bs) (body bs) before there behind →
      refusal_of there behind (piece_at (in_hole there) behind) ≡ Some refusal →
      IsRefused file bs refusal

-- spans follow each other from here on, and end there
abbrev pub Rise : ℕ → List Token → ℕ → Type 0
Rise from [] to = from ≤ to
Rise from (t ∷ ts) to = (from ≤ t.start) × (t.start < t.end) × Rise t.end ts to

-- q is at most n bytes on from p
pub record IsNear (p : Place) (n : ℕ) (q : Place) : Type 0 where
  pub first : 1 ≤ q.col
  pub line : q.line ≤ p.line + n
  pub col : q.col ≤ p.col + n

-- so far in a file no offset, line or column passes the file's length
pub record IsBounded (here : Cursor) (bs : List ℕ) (len : ℕ) : Type 0 where
  pub at : here.at + length bs ≤ len
  pub first : 1 ≤ here.place.col
  pub line : here.place.line ≤ here.at + 1
  pub col : here.place.col ≤ here.at + 1

-- there is at most one answer
abbrev pub OneCut : Type 0
OneCut = (file : ℕ) (bs : List ℕ) (ts us : List Token) → AreTokens file bs ts →
    AreTokens file bs us → ts ≡ us

abbrev pub OneRefusal : Type 0
OneRefusal = (file : ℕ) (bs : List ℕ) (r s : Refusal) → IsRefused file bs r → IsRefused file bs s →
    r ≡ s

abbrev pub CutOrRefused : Type 0
CutOrRefused = (file : ℕ) (bs : List ℕ) (ts : List Token) (r : Refusal) → AreTokens file bs ts →
    IsRefused file bs r → ⊥
