-- Which tokens are the first of a line, and the line's indentation.
use Rattle.std.specs.Prelude.{◌≡◌, ℕ, ◌+◌, ◌-◌, List, [], ◌∷◌, ◌++◌, length, take, drop, Option}
use Rattle.std.specs.Prelude.{Some, None, option_map, Bool}
use Rattle.verse_lex.specs.Bytes.{is_blank, run}
use Rattle.verse_lex.specs.Cut.{mark_len, AreTokens}
use Rattle.verse_lex.specs.declared.tokens.Token.{Token}
use Rattle.verse_lex_laws.specs.Spelling.{Spells, separates, ends_line}

-- Separators and line ends from this offset on, and where the last of the lines begins that begin
-- in them.
pub data LinesIn : Bool → ℕ → List ℕ → Option ℕ → Type 0 where
  no_bytes : {within : Bool} {at : ℕ} → LinesIn within at [] None
  separator : {within : Bool} {at : ℕ} {cs ds : List ℕ} {line : Option ℕ} →
      Spells within cs separates → LinesIn within (at + length cs) ds line →
      LinesIn within at (cs ++ ds) line
  last_end : {within : Bool} {at : ℕ} {cs ds : List ℕ} → Spells within cs ends_line →
      LinesIn within (at + length cs) ds None → LinesIn within at (cs ++ ds) (Some (at + length cs))
  earlier_end : {within : Bool} {at : ℕ} {cs ds : List ℕ} {line : ℕ} → Spells within cs ends_line →
      LinesIn within (at + length cs) ds (Some line) → LinesIn within at (cs ++ ds) (Some line)

-- the span of the spaces and tabs at the beginning of the line that begins at this offset of the
-- file
abbrev pub indent_at : List ℕ → ℕ → ℕ × ℕ
indent_at bs line = (line, line + run is_blank (drop line bs))

abbrev pub either : Option ℕ → Option ℕ → Option ℕ
either (Some line) other = Some line
either None other = other

-- The first token behind this offset has an indentation exactly where a line begins between them,
-- or began there with the offset: that of the last such line.
pub record IsIndented (bs : List ℕ) (from : ℕ) (began : Option ℕ) (t : Token) : Type 0 where
  pub within : Bool
  pub line : Option ℕ
  pub lines : LinesIn within from (take (t.start - from) (drop from bs)) line
  pub indent : t.indent ≡ option_map (indent_at bs) (either line began)

abbrev pub AllIndented : List ℕ → ℕ → Option ℕ → List Token → Type 0
AllIndented bs from began [] = Unit {0}
AllIndented bs from began (t ∷ ts) = IsIndented bs from began t × AllIndented bs t.end None ts

-- so it is for the tokens of a file, whose first line begins behind the byte-order mark
abbrev pub TokensIndented : Type 0
TokensIndented = (file : ℕ) (bs : List ℕ) (ts : List Token) → AreTokens file bs ts →
    AllIndented bs (mark_len bs) (Some (mark_len bs)) ts
