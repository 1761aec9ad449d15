-- What the characters of a text stand for.
use Rattle.std.specs.Prelude.{ℕ, ◌+◌, ◌-◌, ◌==◌, if◌then◌else◌, List, [], ◌∷◌, take, drop}
use Rattle.std.specs.Prelude.{unwrap_or}
use Rattle.verse_lex.specs.Texts.{escape}
use Rattle.verse_lex.specs.declared.tokens.Token.{Token}

-- each character itself, and for an escape the byte that it stands for
abbrev mutual
  pub unescaped : List ℕ → List ℕ
  unescaped [] = []
  unescaped (b ∷ bs) = if b == 92 then replaced bs else b ∷ unescaped bs

  -- behind a backslash
  pub replaced : List ℕ → List ℕ
  replaced [] = []
  replaced (b ∷ bs) = unwrap_or (escape b) b ∷ unescaped bs

-- what stands between the first and the last byte of a span
abbrev pub between : List ℕ → ℕ → ℕ → List ℕ
between bs start end = take (end - start - 2) (drop (start + 1) bs)

-- the bytes of a text token
abbrev pub token_text : List ℕ → Token → List ℕ
token_text bs token = unescaped (between bs token.start token.end)
