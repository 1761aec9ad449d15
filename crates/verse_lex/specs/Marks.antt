-- Marks.
use Rattle.std.specs.Prelude.{ℕ, List, [], ◌∷◌, codes}
use Rattle.verse_lex.specs.declared.tokens.Mark.{Mark}
use Rattle.verse_lex.specs.declared.tokens.Mark.TheVariants as m

-- the marks of two bytes
abbrev pub doubles : List (List ℕ × Mark)
doubles =
    (codes ":=", m.Define) ∷
    (codes "=>", m.FatArrow) ∷
    (codes "<>", m.Differs) ∷
    (codes "<=", m.AtMost) ∷
    (codes ">=", m.AtLeast) ∷
    (codes "+=", m.PlusEquals) ∷
    (codes "-=", m.MinusEquals) ∷
    (codes "->", m.Arrow) ∷
    (codes "*=", m.TimesEquals) ∷
    (codes "..", m.DotDot) ∷
    []

-- the marks of one byte
abbrev pub singles : List (List ℕ × Mark)
singles =
    (codes ":", m.Colon) ∷
    (codes "=", m.Equals) ∷
    (codes "<", m.Below) ∷
    (codes ">", m.Above) ∷
    (codes "+", m.Plus) ∷
    (codes "-", m.Minus) ∷
    (codes "*", m.Times) ∷
    (codes "/", m.Slash) ∷
    (codes ".", m.Dot) ∷
    (codes ",", m.Comma) ∷
    (codes ";", m.Semicolon) ∷
    (codes "(", m.RoundOpen) ∷
    (codes ")", m.RoundClose) ∷
    (codes "[", m.SquareOpen) ∷
    (codes "]", m.SquareClose) ∷
    (codes "{", m.BraceOpen) ∷
    (codes "}", m.BraceClose) ∷
    (codes "?", m.Question) ∷
    []
