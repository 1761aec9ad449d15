-- Layout: a file's lines are a block, and a block is written out with Open, Sep and Close.
use Rattle.std.specs.Prelude.{◌≡◌, Bool, true, false, not, if◌then◌else◌, List, [], ◌∷◌, ◌++◌}
use Rattle.std.specs.Prelude.{Option, Some, None, ℕ}
use Rattle.verse_lex.specs.declared.tokens.Token.{Token}
use Rattle.verse_layout.specs.declared.toks.TokKind.TheVariants as t
use Rattle.verse_layout.specs.declared.frames.Spot.{Spot}
use Rattle.verse_layout.specs.declared.roles.Role.{Role}
use Rattle.verse_layout.specs.declared.roles.Role.TheVariants as role
use Rattle.verse_layout.specs.declared.roles.Region.{Region}
use Rattle.verse_layout.specs.declared.roles.Region.TheVariants as region
use Rattle.verse_layout.specs.Roles.{role_of, is_else, has_lines, is_brace_close}
use Rattle.verse_layout.specs.Cells.{Cell, spot_of, spot_at, mark_at, tok_as, passed, ends_line}
use Rattle.verse_layout.specs.Cells.{is_front, is_proper}
use Rattle.verse_layout.specs.Written.{Written, tok, sep, no_sep}

-- neither an opening nor a closing bracket
abbrev pub is_no_bracket : Role → Bool
is_no_bracket (role.Opens r) = false
is_no_bracket (role.Closes r) = false
is_no_bracket _ = true

-- Where lines mean something, a `;` separates, and in braces a `,` too.
abbrev pub separates : Bool → Role → Bool
separates in_braces role.Semicolon = true
separates in_braces role.Comma = in_braces
separates in_braces _ = false

-- a `:`, `=` or `=>`, which opens a block where it ends a line
abbrev pub is_opener : Role → Bool
is_opener role.Colon = true
is_opener role.Equals = true
is_opener _ = false

-- a token that is passed on as it is
abbrev pub stays : Bool → Bool → Role → Bool
stays in_braces ends role.Comma = not in_braces
stays in_braces ends role.Colon = not ends
stays in_braces ends role.Equals = not ends
stays in_braces ends role.Other = true
stays in_braces ends _ = false

-- the `:` is replaced by the Open of its block, and the others are passed on before it
abbrev pub opener : Role → Token → List Written
opener role.Equals token = tok (passed token) ∷ []
opener _ token = []

-- the Sep before a line; before an `else` there is none
abbrev pub line_sep : Token → Written
line_sep token = if is_else token.kind then no_sep else sep (mark_at t.Sep (spot_of token))

abbrev pub open_at : Spot → Written
open_at s = tok (mark_at t.Open s)

abbrev pub close_at : Spot → Written
close_at s = tok (mark_at t.Close s)

abbrev pub leaves : List ℕ → Option (List ℕ) → Bool
leaves i None = false
leaves i (Some j) = not (is_front i j)

-- A block of this indentation ends at the file's end, in braces at their `}`, and before a line
-- whose indentation does not begin with the block's.
abbrev pub ends_block : Bool → List ℕ → List Cell → Bool
ends_block in_braces i [] = not in_braces
ends_block in_braces i (c ∷ cs) =
    if is_brace_close (role_of c.token.kind) then in_braces else leaves i c.line

-- Each of these stands at the front of the first tokens, up to the second ones, and is written out
-- so. `end` is the file's end, and `h` the indentation of the last line that began in the innermost
-- bracket or, where none did, round it.
mutual
  -- what stands in round and square brackets and in a hole, where line ends mean nothing
  pub data Inside : Spot → List ℕ → List Cell → List Written → List Cell → Type 0 where
    inside_end : {end : Spot} {h : List ℕ} {cs : List Cell} → Inside end h cs [] cs
    inside_token : {end : Spot} {h : List ℕ} {c : Cell} {cs ds : List Cell} {ws : List Written} →
        is_no_bracket (role_of c.token.kind) ≡ true → Inside end h cs ws ds →
        Inside end h (c ∷ cs) (tok (passed c.token) ∷ ws) ds
    inside_bracket : {end : Spot} {h : List ℕ} {cs ds es : List Cell} {ws vs : List Written} →
        Bracket end h cs ws ds → Inside end h ds vs es → Inside end h cs (ws ++ vs) es

  -- a bracket with what stands in it
  pub data Bracket : Spot → List ℕ → List Cell → List Written → List Cell → Type 0 where
    round : {end : Spot} {h : List ℕ} {r : Region} {o c : Cell} {cs ds : List Cell}
        {ws : List Written} → role_of o.token.kind ≡ role.Opens r → has_lines r ≡ false →
        Inside end h cs ws (c ∷ ds) → role_of c.token.kind ≡ role.Closes r →
        Bracket end h (o ∷ cs) (tok (passed o.token) ∷ (ws ++ tok (passed c.token) ∷ [])) ds
    braces : {end : Spot} {h : List ℕ} {o c : Cell} {cs ds es : List Cell} {ws vs : List Written} →
        role_of o.token.kind ≡ role.Opens region.Brace → Rest end true h cs ws ds →
        Lines end ds vs (c ∷ es) → role_of c.token.kind ≡ role.Closes region.Brace →
        Bracket end h (o ∷ cs) (tok (tok_as t.Open o.token) ∷
        (ws ++ (vs ++ tok (tok_as t.Close c.token) ∷ []))) es

  -- a token of a line, or a bracket in it
  pub data Part : Spot → Bool → List ℕ → List Cell → List Written → List Cell → Type 0 where
    part_token : {end : Spot} {b : Bool} {h : List ℕ} {c : Cell} {cs : List Cell} →
        stays b (ends_line cs) (role_of c.token.kind) ≡ true →
        Part end b h (c ∷ cs) (tok (passed c.token) ∷ []) cs
    part_sep : {end : Spot} {b : Bool} {h : List ℕ} {c : Cell} {cs : List Cell} →
        separates b (role_of c.token.kind) ≡ true →
        Part end b h (c ∷ cs) (sep (tok_as t.Sep c.token) ∷ []) cs
    part_bracket : {end : Spot} {b : Bool} {h : List ℕ} {cs ds : List Cell} {ws : List Written} →
        Bracket end h cs ws ds → Part end b h cs ws ds

  -- a line's tokens from one on, with the block that the last of them opens
  pub data Body : Spot → Bool → List ℕ → List Cell → List Written → List Cell → Type 0 where
    body_part : {end : Spot} {b : Bool} {h : List ℕ} {cs ds es : List Cell} {ws vs : List Written} →
        Part end b h cs ws ds → Rest end b h ds vs es → Body end b h cs (ws ++ vs) es
    body_block : {end : Spot} {b : Bool} {h j : List ℕ} {c : Cell} {cs ds : List Cell}
        {ws : List Written} → is_opener (role_of c.token.kind) ≡ true → ends_line cs ≡ true →
        is_proper h j ≡ true → Block end b j cs ws ds →
        Body end b h (c ∷ cs) (opener (role_of c.token.kind) c.token ++ open_at (spot_at end cs) ∷
        (ws ++ close_at (spot_at end ds) ∷ [])) ds

  -- the further tokens of a line, which begin none
  pub data Rest : Spot → Bool → List ℕ → List Cell → List Written → List Cell → Type 0 where
    rest_end : {end : Spot} {b : Bool} {h : List ℕ} {cs : List Cell} → Rest end b h cs [] cs
    rest_more : {end : Spot} {b : Bool} {h : List ℕ} {c : Cell} {cs ds : List Cell}
        {ws : List Written} → c.line ≡ None → Body end b h (c ∷ cs) ws ds →
        Rest end b h (c ∷ cs) ws ds

  -- a line of this indentation
  pub data Line : Spot → Bool → List ℕ → List Cell → List Written → List Cell → Type 0 where
    line : {end : Spot} {b : Bool} {i : List ℕ} {c : Cell} {cs ds : List Cell} {ws : List Written} →
        c.line ≡ Some i → Body end b i (c ∷ cs) ws ds →
        Line end b i (c ∷ cs) (line_sep c.token ∷ ws) ds

  -- lines of one indentation
  pub data Block : Spot → Bool → List ℕ → List Cell → List Written → List Cell → Type 0 where
    block_last : {end : Spot} {b : Bool} {i : List ℕ} {cs ds : List Cell} {ws : List Written} →
        Line end b i cs ws ds → ends_block b i ds ≡ true → Block end b i cs ws ds
    block_more : {end : Spot} {b : Bool} {i : List ℕ} {cs ds es : List Cell}
        {ws vs : List Written} → Line end b i cs ws ds → Block end b i ds vs es →
        Block end b i cs (ws ++ vs) es

  -- lines directly in braces, of any indentations
  pub data Lines : Spot → List Cell → List Written → List Cell → Type 0 where
    lines_end : {end : Spot} {cs : List Cell} → Lines end cs [] cs
    lines_more : {end : Spot} {i : List ℕ} {cs ds es : List Cell} {ws vs : List Written} →
        Line end true i cs ws ds → Lines end ds vs es → Lines end cs (ws ++ vs) es

-- a file is a block, or has no token
pub data IsFile : Spot → List Cell → List Written → Type 0 where
  no_tokens : {end : Spot} → IsFile end [] []
  one_block : {end : Spot} {i : List ℕ} {cs : List Cell} {ws : List Written} →
      Block end false i cs ws [] → IsFile end cs ws
