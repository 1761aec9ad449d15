-- The layout of a file's tokens, and the laws of it.
use Rattle.std.specs.Prelude.{◌≡◌, ◌≤◌, All, ℕ, List, [], ◌∷◌, length}
use Rattle.verse_lex.specs.declared.tokens.Token.{Token}
use Rattle.verse_layout.specs.declared.toks.Tok.{Tok}
use Rattle.verse_layout.specs.Loads.{Counts, load, after_tok, at_start}
use Rattle.verse_lex.specs.Cut.{AreTokens, Rise, place_at}
use Rattle.verse_base.specs.declared.limits.TheConstants.{MOST_LOAD}
use Rattle.verse_layout.specs.Cells.{Lies, cells_of}
use Rattle.verse_layout.specs.declared.frames.Spot.{Spot}
use Rattle.verse_layout.specs.Written.{Written, Spaced}
use Rattle.verse_layout.specs.Blocks.{IsFile}

-- the number of the tokens' file; a file with no token has no refusal and no tok
abbrev pub file_of : List Token → ℕ
file_of [] = 0
file_of (t ∷ ts) = t.place.file

-- the file's end
abbrev pub end_of : List ℕ → List Token → Spot
end_of bytes tokens = record {
  at = length bytes;
  place =
      place_at (file_of tokens) bytes (length bytes);
}

-- no tok brings the load above its bound
abbrev pub IsWithin : Counts → List Tok → Type 0
IsWithin s [] = Unit {0}
IsWithin s (k ∷ ks) = (load (after_tok k s) ≤ MOST_LOAD) × IsWithin (after_tok k s) ks

-- The tokens are a block, the toks are that block written out, with a Sep only where one stands,
-- and within the load.
pub record IsLayout (bytes : List ℕ) (tokens : List Token) (toks : List Tok) : Type 0 where
  pub written : List Written
  pub block : IsFile (end_of bytes tokens) (cells_of bytes tokens) written
  pub written_out : Spaced written toks
  pub within : IsWithin at_start toks

-- there is at most one list of toks
abbrev pub OneLayout : Type 0
OneLayout = (bytes : List ℕ) (tokens : List Token) (ks js : List Tok) → IsLayout bytes tokens ks →
    IsLayout bytes tokens js → ks ≡ js

abbrev pub HasLayout : List ℕ → List Token → Type 0
HasLayout bytes tokens = (ks : List Tok) × IsLayout bytes tokens ks

-- the tokens of a file have their indentations within its bytes
abbrev pub LexedLie : Type 0
LexedLie = (file : ℕ) (bytes : List ℕ) (tokens : List Token) → AreTokens file bytes tokens →
    Rise 0 tokens (length bytes) → All (Lies bytes) tokens
