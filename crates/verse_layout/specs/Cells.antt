-- A file's tokens with its lines: each token knows the indentation of the line that it begins.
use Rattle.std.specs.Prelude.{ℕ, ◌≤◌, Bool, true, ◌&&◌, nat_eq, nat_lt, List, [], ◌∷◌, map, length}
use Rattle.std.specs.Prelude.{Option, IfSome, option_map, is_some}
use Rattle.std.specs.Prelude.{slice_range}
use Rattle.std.specs.List.{starts_with}
use Rattle.std.specs.Cmp.Lexicographic.{pointwise}
use Rattle.verse_lex.specs.declared.tokens.Token.{Token}
use Rattle.verse_layout.specs.declared.frames.Spot.{Spot}
use Rattle.verse_layout.specs.declared.toks.Tok.{Tok}
use Rattle.verse_layout.specs.declared.toks.TokKind.{TokKind}
use Rattle.verse_layout.specs.declared.toks.TokKind.TheVariants as t

-- a token, and the indentation of the line that it begins
pub record Cell : Type 0 where
  pub token : Token
  pub line : Option (List ℕ)

abbrev pub indentation_of : List ℕ → ℕ × ℕ → List ℕ
indentation_of bytes span = slice_range bytes span.0 span.1

abbrev pub cell_of : List ℕ → Token → Cell
cell_of bytes token = record {
  token = token;
  line =
      option_map (indentation_of bytes) token.indent;
}

-- the token's indentation lies within the bytes
abbrev pub Lies : List ℕ → Token → Type 0
Lies bytes token = IfSome token.indent (λ span. (span.0 ≤ span.1) × (span.1 ≤ length bytes))

abbrev pub cells_of : List ℕ → List Token → List Cell
cells_of bytes tokens = map (cell_of bytes) tokens

-- the next token begins a line, or there is none
abbrev pub ends_line : List Cell → Bool
ends_line [] = true
ends_line (c ∷ cs) = is_some c.line

abbrev pub is_same : List ℕ → List ℕ → Bool
is_same a b = pointwise nat_eq a b

-- the text begins with the front
abbrev pub is_front : List ℕ → List ℕ → Bool
is_front front text = starts_with nat_eq text front

abbrev pub is_proper : List ℕ → List ℕ → Bool
is_proper front text = nat_lt (length front) (length text) && is_front front text

abbrev pub spot_of : Token → Spot
spot_of token = record { at = token.start; place = token.place }

-- where the first of these tokens stands, or the file's end
abbrev pub spot_at : Spot → List Cell → Spot
spot_at end [] = end
spot_at end (c ∷ cs) = spot_of c.token

-- a mark of this kind that no byte spells
abbrev pub mark_at : TokKind → Spot → Tok
mark_at kind s = record { kind = kind; start = s.at; end = s.at; place = s.place }

-- a token as a tok of this kind
abbrev pub tok_as : TokKind → Token → Tok
tok_as kind token = record {
  kind = kind;
  start = token.start;
  end = token.end;
  place =
      token.place;
}

abbrev pub passed : Token → Tok
passed token = tok_as (t.Plain token.kind) token
