-- One token of a walk.
use Rattle.std.proofs.Common.{◌≡◌, ◌∙◌, List, ◌∷◌, ℕ, refl, ap, false, Some, None, option_map, if◌then◌else◌}
use Rattle.verse_lex.specs.declared.tokens.Token.{Token}
use Rattle.verse_layout.specs.declared.frames.Spot.{Spot}
use Rattle.verse_layout.specs.Cells.{cell_of, cells_of, ends_line, indentation_of}
use Rattle.verse_layout.specs.Frames.{Open, Context, step, walk, begins_none, line_start}

pub turn : (end : Spot) (h : Context) (bytes : List ℕ) (rest : List Token) (token : Token) (behind : List Token) → rest ≡ token ∷ behind →
    walk end h (cells_of bytes rest) ≡ step h (cell_of bytes token) (ends_line (cells_of bytes behind))
    (λ g. walk end g (cells_of bytes behind))
turn end h bytes rest token behind e = rw e refl

pub line_there : (fs : List Open) (bytes : List ℕ) (token : Token) (from to : ℕ) → begins_none fs token ≡ false →
    token.indent ≡ Some (from, to) → line_start fs (cell_of bytes token) ≡ Some (indentation_of bytes (from, to))
line_there fs bytes token from to e f = ap (λ b. if b then None else option_map (indentation_of bytes) token.indent) e ∙
    ap (λ o. option_map (indentation_of bytes) o) f
