-- Layout token by token, over the brackets and blocks that are open: a form between the blocks and
-- the code.
use Rattle.std.specs.Prelude.{ℕ, Bool, true, false, not, ◌&&◌, ◌||◌, if◌then◌else◌, List, [], ◌∷◌}
use Rattle.std.specs.Prelude.{Option, Some, None}
use Rattle.verse_base.specs.declared.places.Place.{Place}
use Rattle.verse_base.specs.declared.refusals.Refusal.{Refusal}
use Rattle.verse_base.specs.declared.refusals.Rule.{Rule}
use Rattle.verse_layout.specs.declared.rules.TheConstants.{BRACKET, INDENTATION}
use Rattle.verse_lex.specs.declared.tokens.Token.{Token}
use Rattle.verse_layout.specs.declared.toks.Tok.{Tok}
use Rattle.verse_layout.specs.declared.toks.TokKind.TheVariants as t
use Rattle.verse_layout.specs.declared.roles.Role.{Role}
use Rattle.verse_layout.specs.declared.roles.Role.TheVariants as role
use Rattle.verse_layout.specs.declared.roles.Region.{Region}
use Rattle.verse_layout.specs.declared.roles.Region.TheVariants as region
use Rattle.verse_layout.specs.Roles.{role_of, has_lines, in_braces, is_same_region, is_brace_close}
use Rattle.verse_layout.specs.Roles.{is_bracket_close}
use Rattle.verse_layout.specs.declared.frames.Spot.{Spot}
use Rattle.verse_layout.specs.Cells.{Cell, spot_of, mark_at, tok_as, passed, ends_line, is_same}
use Rattle.verse_layout.specs.Cells.{is_front, is_proper}
use Rattle.verse_layout.specs.Loads.{at_start}
use Rattle.verse_layout.specs.Blocks.{line_sep, close_at}
use Rattle.verse_layout.specs.Written.{Written, tok, sep, refusal}
use Rattle.verse_layout.specs.Answers.{Answer, spaced, bounded}

-- a bracket or block that is open; a bracket has the indentation of the last line that began round
-- it
pub record Open : Type 0 where
  pub region : Region
  pub text : List ℕ
  pub place : Place

-- between two tokens: whether the token before opens a block, the indentation of the last line that
-- began, what is open
pub record Context : Type 0 where
  pub opened : Bool
  pub line : List ℕ
  pub frames : List Open

-- what is written, and why it ends, if not at the file's end
pub record Walk : Type 0 where
  pub written : List Written
  pub stop : Option Refusal

abbrev pub write : Written → Walk → Walk
write w x = record { written = w ∷ x.written; stop = x.stop }

abbrev pub refuse : Rule → Place → Walk
refuse rule place = record { written = []; stop = Some (refusal rule place) }

abbrev pub region_at : List Open → Region
region_at [] = region.File
region_at (f ∷ fs) = f.region

abbrev pub is_block : Region → Bool
is_block region.Block = true
is_block region.BraceBlock = true
is_block _ = false

abbrev pub block_in : Region → Region
block_in r = if in_braces r then region.BraceBlock else region.Block

-- the indentation of the line that a token begins
abbrev pub begins_none : List Open → Token → Bool
begins_none fs token = not (has_lines (region_at fs)) || is_brace_close (role_of token.kind)

abbrev pub line_start : List Open → Cell → Option (List ℕ)
line_start fs c = if begins_none fs c.token then None else c.line

-- a line of this indentation closes the blocks that it leaves
abbrev pub leave : List Open → Token → List ℕ → (List Open → Walk) → Walk
leave [] token text go = go (record { region = region.File; text = text; place = token.place } ∷ [])
leave (f ∷ fs) token text go =
    if is_same_region f.region region.Brace || is_same f.text text then go (f ∷ fs)
    else (if is_block f.region && not (is_front f.text text) then write (close_at (spot_of token))
    (leave fs token text go) else refuse INDENTATION token.place)

-- a token begins a block of this indentation
abbrev pub begin_block : Context → Token → List ℕ → (Context → Walk) → Walk
begin_block h token text go =
    write (tok (mark_at t.Open (spot_of token)))
    (write (line_sep token) (go (record {
      opened = false;
      line = text;
      frames =
          record { region = block_in (region_at h.frames); text = text; place = token.place } ∷
          h.frames;
    })))

-- a line behind an opener is the first of its block
abbrev pub indent : Context → Token → List ℕ → (Context → Walk) → Walk
indent h token text go =
    if is_proper h.line text then (if is_bracket_close (role_of token.kind) then refuse BRACKET
    token.place else begin_block h token text go)
    else refuse INDENTATION token.place

-- what stands before a token that begins a line
abbrev pub lead : Context → Token → List ℕ → (Context → Walk) → Walk
lead h token text go =
    if h.opened then indent h token text go
    else leave h.frames token text
    (λ fs. write (line_sep token) (go (record { opened = false; line = text; frames = fs })))

abbrev pub is_none : List Open → Bool
is_none [] = true
is_none (f ∷ fs) = false

-- what stands before a token that begins none: behind an opener it is a `}`
abbrev pub follow : Context → Token → (Context → Walk) → Walk
follow h token go =
    if h.opened || is_none h.frames then
    refuse (if is_brace_close (role_of token.kind) &&
    not (in_braces (region_at h.frames)) then BRACKET else INDENTATION) token.place else go h

abbrev pub before_token : Option (List ℕ) → Context → Token → (Context → Walk) → Walk
before_token None h token go = follow h token go
before_token (Some text) h token go = lead h token text go

abbrev pub opened_as : Region → Token → Tok
opened_as r token = if is_same_region r region.Brace then tok_as t.Open token else passed token

abbrev pub closed_as : Region → Token → Tok
closed_as r token = if is_same_region r region.Brace then tok_as t.Close token else passed token

-- a closing bracket closes its own opening one, and a `}` first the blocks in its braces
abbrev pub close : Region → List Open → Token → (Context → Walk) → Walk
close r [] token go = refuse BRACKET token.place
close r (f ∷ fs) token go =
    if is_same_region f.region r then write (tok (closed_as r token))
    (go (record { opened = false; line = f.text; frames = fs }))
    else (if is_same_region r region.Brace &&
    is_same_region f.region region.BraceBlock then write (close_at (spot_of token))
    (close r fs token go) else refuse BRACKET token.place)

abbrev pub stay : Bool → Context → Context
stay opened h = record { opened = opened; line = h.line; frames = h.frames }

abbrev pub open_bracket : Region → Context → Token → (Context → Walk) → Walk
open_bracket r h token go =
    write (tok (opened_as r token)) (go (record {
      opened = false;
      line = h.line;
      frames =
          record { region = r; text = h.line; place = token.place } ∷ h.frames;
    }))

abbrev pub divided : Bool → Token → Written
divided divides token = if divides then sep (tok_as t.Sep token) else tok (passed token)

abbrev pub after_colon : Bool → Token → Walk → Walk
after_colon opens token x = if opens then x else write (tok (passed token)) x

abbrev pub on_role : Role → Bool → Context → Token → (Context → Walk) → Walk
on_role (role.Opens r) ends h token go = open_bracket r h token go
on_role (role.Closes r) ends h token go = close r h.frames token go
on_role role.Semicolon ends h token go =
    write (divided (has_lines (region_at h.frames)) token) (go (stay false h))
on_role role.Comma ends h token go =
    write (divided (in_braces (region_at h.frames)) token) (go (stay false h))
on_role role.Colon ends h token go =
    let opens = has_lines (region_at h.frames) &&
    ends in after_colon opens token (go (stay opens h))
on_role role.Equals ends h token go =
    write (tok (passed token)) (go (stay (has_lines (region_at h.frames) && ends) h))
on_role role.Other ends h token go = write (tok (passed token)) (go (stay false h))

-- the token itself; `ends` says whether it is the last of its line
abbrev pub on_token : Bool → Context → Token → (Context → Walk) → Walk
on_token ends h token go = on_role (role_of token.kind) ends h token go

-- where the innermost bracket was opened
abbrev pub innermost : List Open → Option Place
innermost [] = None
innermost (f ∷ fs) = if is_same_region f.region region.File then None
    else (if is_block f.region then innermost fs else Some f.place)

abbrev pub no_more : Walk
no_more = record { written = []; stop = None }

-- at the file's end each block but the file's closes
abbrev pub closes : Spot → List Open → Walk
closes end [] = no_more
closes end (f ∷ fs) = if is_block f.region then write (close_at end) (closes end fs) else no_more

abbrev pub at_end : Option Place → Spot → Context → Walk
at_end (Some place) end h = refuse BRACKET place
at_end None end h = if h.opened then refuse INDENTATION end.place else closes end h.frames

-- one token, with what stands before it
abbrev pub step : Context → Cell → Bool → (Context → Walk) → Walk
step h c ends go = before_token (line_start h.frames c) h c.token (λ g. on_token ends g c.token go)

abbrev pub walk : Spot → Context → List Cell → Walk
walk end h [] = at_end (innermost h.frames) end h
walk end h (c ∷ cs) = step h c (ends_line cs) (λ g. walk end g cs)

abbrev pub file_start : Context
file_start = record { opened = false; line = []; frames = [] }

abbrev pub walk_answer : Spot → List Cell → Answer
walk_answer end cs = let x = walk end file_start cs in bounded at_start
    (spaced false None x.written) x.stop
