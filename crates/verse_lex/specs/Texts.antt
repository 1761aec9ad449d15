-- The characters of a text.
use Rattle.std.specs.Prelude.{ℕ, ◌+◌, ◌≤◌, Bool, ◌==◌, ◌||◌, if◌then◌else◌, List, [], ◌∷◌, Option}
use Rattle.std.specs.Prelude.{Some, None}
use Rattle.verse_lex.specs.Bytes.{is_at}
use Rattle.verse_lex.specs.declared.texts.Ending.{Ending}
use Rattle.verse_lex.specs.declared.texts.Ending.TheVariants as e
use Rattle.verse_lex.specs.declared.rules.TheConstants.{UNEXPECTED, ESCAPE}

-- a character that stands for itself behind a backslash: \ " ' { } < > & # ~
abbrev pub is_quoted : ℕ → Bool
is_quoted b = (b == 92) || (b == 34) || (b == 39) || (b == 123) || (b == 125) || (b == 60) ||
    (b == 62) || (b == 38) || (b == 35) || (b == 126)

-- what this byte stands for behind a backslash, if they are an escape
abbrev pub escape : ℕ → Option ℕ
escape b =
    if b == 110 then Some 10  -- n
    else (if b == 114 then Some 13  -- r
    else (if b == 116 then Some 9  -- t
    else (if is_quoted b then Some b
    else None)))

-- so many bytes further on
abbrev pub further : ℕ → Ending → Ending
further n (e.Quote m) = e.Quote (n + m)
further n (e.Brace m) = e.Brace (n + m)
further n (e.Broken rule m) = e.Broken rule (n + m)
further n e.Line = e.Line

abbrev pub if_escape : Option ℕ → Ending → Ending
if_escape (Some c) ending = ending
if_escape None ending = e.Broken ESCAPE 0

-- how the characters of a text end
abbrev mutual
  pub text_chars : List ℕ → Ending
  text_chars [] = e.Line
  text_chars (b ∷ bs) =
      if b == 34 then e.Quote 1
      else (if b == 123 then e.Brace 1
      else (if b == 125 then e.Broken UNEXPECTED 0
      else (if b == 10 then e.Line
      else (if b == 13 then (if is_at bs 0 10 then e.Line else e.Broken UNEXPECTED 0)
      else (if b == 92 then behind_backslash bs
      else further 1 (text_chars bs))))))

  pub behind_backslash : List ℕ → Ending
  behind_backslash [] = e.Broken ESCAPE 0
  behind_backslash (b ∷ bs) = if_escape (escape b) (further 2 (text_chars bs))

-- an ending is no further on than there are bytes
abbrev pub EndsWithin : Ending → ℕ → Type 0
EndsWithin (e.Quote n) len = n ≤ len
EndsWithin (e.Brace n) len = n ≤ len
EndsWithin (e.Broken rule n) len = n ≤ len
EndsWithin e.Line len = Unit {0}
