-- Where no list of toks goes on, and which rule is broken there.
use Rattle.std.specs.Prelude.{◌≡◌, ◌<◌, ℕ, true, false, List, [], ◌∷◌, ◌++◌}
use Rattle.verse_base.specs.declared.limits.TheConstants.{MOST_LOAD}
use Rattle.verse_base.specs.declared.refusals.Refusal.{Refusal}
use Rattle.verse_base.specs.declared.refusals.Rule.{Rule}
use Rattle.verse_lex.specs.declared.tokens.Token.{Token}
use Rattle.verse_lex.specs.declared.tokens.TokenKind.TheVariants as k
use Rattle.verse_layout.specs.declared.toks.Tok.{Tok}
use Rattle.verse_layout.specs.declared.frames.Spot.{Spot}
use Rattle.verse_layout.specs.declared.roles.Region.{Region}
use Rattle.verse_layout.specs.declared.roles.Region.TheVariants as region
use Rattle.verse_layout.specs.declared.roles.Role.TheVariants as role
use Rattle.verse_layout.specs.declared.rules.TheConstants.{BRACKET, INDENTATION, NESTING}
use Rattle.verse_layout.specs.Roles.{role_of, has_lines, is_brace_close}
use Rattle.verse_layout.specs.Loads.{Counts, load, after_tok, at_start}
use Rattle.verse_layout.specs.Cells.{Cell, cells_of, ends_line}
use Rattle.verse_layout.specs.Written.{Written, Spaced, refusal}
use Rattle.verse_layout.specs.Blocks.{is_no_bracket, is_opener, IsFile}
use Rattle.verse_layout.specs.Layouts.{IsWithin, end_of}

-- these tokens begin a file that is a block
pub record BeginsFile (cs : List Cell) : Type 0 where
  pub end : Spot
  pub rest : List Cell
  pub written : List Written
  pub block : IsFile end (cs ++ rest) written

-- each opening bracket has its own closing one
pub data Balanced : List Cell → Type 0 where
  balanced_none : Balanced []
  balanced_token : {c : Cell} {cs : List Cell} → is_no_bracket (role_of c.token.kind) ≡ true →
      Balanced cs → Balanced (c ∷ cs)
  balanced_pair : {r : Region} {o : Cell} (c : Cell) {cs ds : List Cell} →
      role_of o.token.kind ≡ role.Opens r → Balanced cs → role_of c.token.kind ≡ role.Closes r →
      Balanced ds → Balanced (o ∷ (cs ++ c ∷ ds))

-- this opening bracket is the innermost one that is open behind the tokens
pub record IsInnermost (cs : List Cell) (o : Cell) (r : Region) : Type 0 where
  pub before : List Cell
  pub inside : List Cell
  pub split : cs ≡ before ++ o ∷ inside
  pub opens : role_of o.token.kind ≡ role.Opens r
  pub balanced : Balanced inside

-- a name where this token is
abbrev pub as_name : Cell → Cell
as_name c = record { token = record c.token { kind = k.Name }; line = c.line }

-- The rule that is broken by a token with which the tokens before it begin no file. A line's
-- indentation comes before a bracket, and a bracket before the block that an opener wants.
pub data BreaksAt (before : List Cell) (c : Cell) : Rule → Type 0 where
  -- a `}` closes no braces
  wrong_brace : role_of c.token.kind ≡ role.Closes region.Brace →
      ((o : Cell) → IsInnermost before o region.Brace → ⊥) → BreaksAt before c BRACKET
  -- another closing bracket closes none of its own, though another token might stand there
  wrong_bracket : {r : Region} → role_of c.token.kind ≡ role.Closes r → has_lines r ≡ false →
      ((o : Cell) → IsInnermost before o r → ⊥) → BeginsFile (before ++ as_name c ∷ []) →
      BreaksAt before c BRACKET
  -- no token might stand there
  wrong_line : is_brace_close (role_of c.token.kind) ≡ false →
      (BeginsFile (before ++ as_name c ∷ []) → ⊥) → BreaksAt before c INDENTATION
  -- a `}` closes its braces where an opener wants a block
  no_block : role_of c.token.kind ≡ role.Closes region.Brace → (o : Cell) →
      IsInnermost before o region.Brace → BreaksAt before c INDENTATION

-- What is wrong at the file's end: a bracket is open, or else the last token is an opener.
pub data BreaksEnd (end : Spot) (cs : List Cell) : Refusal → Type 0 where
  open_bracket : (o : Cell) (r : Region) → IsInnermost cs o r → BreaksEnd end cs (refusal BRACKET o.token.place)
  no_block_behind : (before : List Cell) (c : Cell) → cs ≡ before ++ c ∷ [] →
      is_opener (role_of c.token.kind) ≡ true → Balanced cs →
      BreaksEnd end cs (refusal INDENTATION end.place)

-- the first toks of these are those
abbrev pub IsFront : List Tok → List Tok → Type 0
IsFront ks js = (ls : List Tok) × (js ≡ ks ++ ls)

-- behind these tokens the rest begins a line where the others do
abbrev pub SameLine : List Cell → List Cell → List Cell → Type 0
SameLine [] rest others = Unit {0}
SameLine (c ∷ cs) rest others = ends_line rest ≡ ends_line others

-- Some file begins with these tokens and goes on in the same line, or in the next, as the others
-- do.
pub record GoesOn (cs others : List Cell) : Type 0 where
  pub end : Spot
  pub rest : List Cell
  pub written : List Written
  pub line : SameLine cs rest others
  pub block : IsFile end (cs ++ rest) written

-- every such file has these first toks
abbrev pub Shares : List Cell → List Cell → List Tok → Type 0
Shares cs others ks = (end : Spot) (rest : List Cell) (ws : List Written) (js : List Tok) →
    SameLine cs rest others → IsFile end (cs ++ rest) ws → Spaced ws js → IsFront ks js

-- no tok of these brings the load above its bound
abbrev pub AllWithin : List Cell → List Cell → Type 0
AllWithin cs others = (ks : List Tok) → Shares cs others ks → IsWithin at_start ks

-- the counts of the frames that are open behind these toks
abbrev pub loaded : Counts → List Tok → Counts
loaded s [] = s
loaded s (k ∷ ks) = loaded (after_tok k s) ks

-- the refusal stands at the first tok that brings the load above its bound
pub record IsTooDeep (s : Counts) (toks : List Tok) (r : Refusal) : Type 0 where
  pub before : List Tok
  pub tok : Tok
  pub behind : List Tok
  pub split : toks ≡ before ++ tok ∷ behind
  pub within : IsWithin s before
  pub above : MOST_LOAD < load (after_tok tok (loaded s before))
  pub refused : r ≡ refusal NESTING tok.place

-- The refusal stands at the first token with which the tokens begin no file, or at the end of a
-- file that must go on, or before that at the first tok that brings the load above its bound.
pub data Refuses (end : Spot) (cs : List Cell) (r : Refusal) : Type 0 where
  at_token : (before behind : List Cell) (c : Cell) (rule : Rule) → cs ≡ before ++ c ∷ behind →
      BeginsFile before → (BeginsFile (before ++ c ∷ []) → ⊥) → AllWithin before (c ∷ behind) →
      BreaksAt before c rule → r ≡ refusal rule c.token.place → Refuses end cs r
  at_file_end : BeginsFile cs → ((ws : List Written) → IsFile end cs ws → ⊥) → AllWithin cs [] →
      BreaksEnd end cs r → Refuses end cs r
  too_deep : (front behind : List Cell) (ks : List Tok) → cs ≡ front ++ behind →
      GoesOn front behind → Shares front behind ks → IsTooDeep at_start ks r → Refuses end cs r

-- the refusal of a file
abbrev pub IsRefused : List ℕ → List Token → Refusal → Type 0
IsRefused bytes tokens r = Refuses (end_of bytes tokens) (cells_of bytes tokens) r
