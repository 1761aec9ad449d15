-- What tokens mean for lines, blocks and brackets.
use Rattle.std.specs.Prelude.{Bool, true, false, not}
use Rattle.verse_lex.specs.declared.tokens.TokenKind.{TokenKind}
use Rattle.verse_lex.specs.declared.tokens.TokenKind.TheVariants as k
use Rattle.verse_lex.specs.declared.tokens.Mark.{Mark}
use Rattle.verse_lex.specs.declared.tokens.Mark.TheVariants as m
use Rattle.verse_lex.specs.declared.tokens.Word.{Word}
use Rattle.verse_lex.specs.declared.tokens.Word.TheVariants as w
use Rattle.verse_layout.specs.declared.roles.Role.{Role}
use Rattle.verse_layout.specs.declared.roles.Role.TheVariants as role
use Rattle.verse_layout.specs.declared.roles.Region.{Region}
use Rattle.verse_layout.specs.declared.roles.Region.TheVariants as region

abbrev pub mark_role : Mark → Role
mark_role m.RoundOpen = role.Opens region.Round
mark_role m.RoundClose = role.Closes region.Round
mark_role m.SquareOpen = role.Opens region.Square
mark_role m.SquareClose = role.Closes region.Square
mark_role m.BraceOpen = role.Opens region.Brace
mark_role m.BraceClose = role.Closes region.Brace
mark_role m.Semicolon = role.Semicolon
mark_role m.Comma = role.Comma
mark_role m.Colon = role.Colon
mark_role m.Equals = role.Equals
mark_role m.FatArrow = role.Equals
mark_role _ = role.Other

abbrev pub role_of : TokenKind → Role
role_of k.TextOpen = role.Opens region.Hole
role_of k.TextClose = role.Closes region.Hole
role_of (k.Mark m) = mark_role m
role_of _ = role.Other

abbrev pub is_else_word : Word → Bool
is_else_word w.Else = true
is_else_word _ = false

abbrev pub is_else : TokenKind → Bool
is_else (k.Word w) = is_else_word w
is_else _ = false

-- a line end means something there
abbrev pub has_lines : Region → Bool
has_lines region.File = true
has_lines region.Block = true
has_lines region.BraceBlock = true
has_lines region.Brace = true
has_lines region.Round = false
has_lines region.Square = false
has_lines region.Hole = false

-- the innermost bracket is a brace, and line ends mean something there
abbrev pub in_braces : Region → Bool
in_braces region.File = false
in_braces region.Block = false
in_braces region.BraceBlock = true
in_braces region.Brace = true
in_braces region.Round = false
in_braces region.Square = false
in_braces region.Hole = false

abbrev pub is_same_region : Region → Region → Bool
is_same_region region.File region.File = true
is_same_region region.Block region.Block = true
is_same_region region.BraceBlock region.BraceBlock = true
is_same_region region.Brace region.Brace = true
is_same_region region.Round region.Round = true
is_same_region region.Square region.Square = true
is_same_region region.Hole region.Hole = true
is_same_region _ _ = false

abbrev pub is_brace_close : Role → Bool
is_brace_close (role.Closes r) = is_same_region r region.Brace
is_brace_close _ = false

abbrev pub is_bracket_close : Role → Bool
is_bracket_close (role.Closes r) = not (is_same_region r region.Brace)
is_bracket_close _ = false
