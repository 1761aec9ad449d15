-- How many tokens and toks a file has, by how many bytes it has.
use Rattle.std.proofs.Common.{◌≡◌, ℕ, zero, suc, ◌+◌, ◌*◌, ◌<◌, ◌≤◌, ◌||◌, Bool, true, false, if◌then◌else◌, List, [], ◌∷◌, ◌++◌, length}
use Rattle.std.proofs.Common.{arith, length-append, refl}
use Rattle.std.proofs.lemmas.List.{length-map}
use Rattle.verse_lex.specs.declared.tokens.Token.{Token}
use Rattle.verse_lex.specs.declared.cursors.Cursor.{Cursor}
use Rattle.verse_lex.specs.Cut.{Cuts, cuts_none, cuts_separator, cuts_line, cuts_token, AreTokens}
use Rattle.verse_layout.specs.declared.toks.Tok.{Tok}
use Rattle.verse_layout.specs.declared.toks.TokKind.TheVariants as t
use Rattle.verse_layout.specs.declared.frames.Spot.{Spot}
use Rattle.verse_layout.specs.declared.roles.Role.{Role}
use Rattle.verse_layout.specs.declared.roles.Role.TheVariants as role
use Rattle.verse_layout.specs.Roles.{role_of}
use Rattle.verse_layout.specs.Cells.{Cell, cell_of, passed, tok_as, spot_at}
use Rattle.verse_layout.specs.Written.{Written, tok, sep, no_sep, is_open, is_close, has_no_sep, gap_sep, sep_between, SpacedBehind, Spaced}
use Rattle.verse_layout.specs.Written as w
use Rattle.verse_layout.specs.Blocks.{opener, open_at, close_at, Inside, Bracket, Part, Body, Rest, Line, Block, Lines, IsFile}
use Rattle.verse_layout.specs.Blocks as b
use Rattle.verse_layout.specs.Layouts.{IsLayout}
use Rattle.lower_bounds.proofs.Lists.{Each}
use Rattle.verse_accept_nodes.proofs.Tokens.{TokenFits}

-- ---- each token has a byte

module _ (files : ℕ) (bytes : List ℕ) where
  before_one : (t : Token) (ts : List Token) (at : ℕ) → t.start ≡ at → TokenFits files bytes t →
      (0 < length ts → length ts + t.end ≤ length bytes) → length (t ∷ ts) + at ≤ length bytes
  before_one t [] at e f h = omega (arith, e, f.some, f.within)
  before_one t (u ∷ ts) at e f h = omega (arith, e, f.some, h (omega arith))

  cuts_many : {here there : Cursor} {bs cs : List ℕ} {ts : List Token} → Cuts here bs ts there cs → Each (TokenFits files bytes) ts →
      0 < length ts → length ts + here.at ≤ length bytes
  cuts_many cuts_none f h = absurd (omega (arith, h))
  cuts_many (cuts_separator p c) f h = omega (arith, cuts_many c f h)
  cuts_many (cuts_line p c) f h = omega (arith, cuts_many c f h)
  cuts_many (cuts_token {here = here} {ts = ts} p c) f h = before_one _ ts here.at refl f.0 (λ g. cuts_many c f.1 g)

  tokens_many : (file : ℕ) (ts : List Token) → AreTokens file bytes ts → Each (TokenFits files bytes) ts → length ts ≤ length bytes
  tokens_many file [] a f = omega arith
  tokens_many file (t ∷ ts) a f = omega (arith, cuts_many a.cut f (omega arith))

-- ---- at most four toks are written for a token

opener_many : (r : Role) (t : Token) → length (opener r t) ≤ 1
opener_many role.Equals t = omega arith
opener_many _ t = omega arith

module _ {end : Spot} where
  mutual
    inside_many : {h : List ℕ} {cs ds : List Cell} {ws : List Written} → Inside end h cs ws ds →
        length ws + 4 * length ds ≤ 4 * length cs
    inside_many b.Inside.inside_end = omega arith
    inside_many (b.Inside.inside_token e d) = omega (arith, inside_many d)
    inside_many (b.Inside.inside_bracket {ws = ws} {vs = vs} d e) =
        omega (arith, bracket_many d, inside_many e, length-append ws vs)

    bracket_many : {h : List ℕ} {cs ds : List Cell} {ws : List Written} → Bracket end h cs ws ds →
        length ws + 1 + 4 * length ds ≤ 4 * length cs
    bracket_many (b.Bracket.round {c = c} {ws = ws} h e d g) = omega (arith, inside_many d, length-append ws (tok (passed c.token) ∷ []))
    bracket_many (b.Bracket.braces {c = c} {ws = ws} {vs = vs} h d e g) =
        let last : Written = tok (tok_as t.Close c.token) in
        omega (arith, rest_many d, lines_many e, length-append ws (vs ++ last ∷ []), length-append vs (last ∷ []))

    part_many : {i : Bool} {h : List ℕ} {cs ds : List Cell} {ws : List Written} → Part end i h cs ws ds →
        length ws + 1 + 4 * length ds ≤ 4 * length cs
    part_many (b.Part.part_token e) = omega arith
    part_many (b.Part.part_sep e) = omega arith
    part_many (b.Part.part_bracket d) = bracket_many d

    body_many : {i : Bool} {h : List ℕ} {cs ds : List Cell} {ws : List Written} → Body end i h cs ws ds →
        length ws + 1 + 4 * length ds ≤ 4 * length cs
    body_many (b.Body.body_part {ws = ws} {vs = vs} d e) = omega (arith, part_many d, rest_many e, length-append ws vs)
    body_many (b.Body.body_block {c = c} {cs = cs} {ds = ds} {ws = ws} e g h d) =
        let last : Written = close_at (spot_at end ds) in
        omega (
          arith,
          block_many d,
          opener_many (role_of c.token.kind) c.token,
          length-append (opener (role_of c.token.kind) c.token) (open_at (spot_at end cs) ∷ (ws ++ last ∷ [])),
          length-append ws (last ∷ []),
        )

    rest_many : {i : Bool} {h : List ℕ} {cs ds : List Cell} {ws : List Written} → Rest end i h cs ws ds →
        length ws + 4 * length ds ≤ 4 * length cs
    rest_many b.Rest.rest_end = omega arith
    rest_many (b.Rest.rest_more e d) = omega (arith, body_many d)

    line_many : {i : Bool} {h : List ℕ} {cs ds : List Cell} {ws : List Written} → Line end i h cs ws ds →
        length ws + 4 * length ds ≤ 4 * length cs
    line_many (b.Line.line e d) = omega (arith, body_many d)

    block_many : {i : Bool} {h : List ℕ} {cs ds : List Cell} {ws : List Written} → Block end i h cs ws ds →
        length ws + 4 * length ds ≤ 4 * length cs
    block_many (b.Block.block_last d e) = line_many d
    block_many (b.Block.block_more {ws = ws} {vs = vs} d e) = omega (arith, line_many d, block_many e, length-append ws vs)

    lines_many : {cs ds : List Cell} {ws : List Written} → Lines end cs ws ds → length ws + 4 * length ds ≤ 4 * length cs
    lines_many b.Lines.lines_end = omega arith
    lines_many (b.Lines.lines_more {ws = ws} {vs = vs} d e) = omega (arith, line_many d, lines_many e, length-append ws vs)

  file_many : {cs : List Cell} {ws : List Written} → IsFile end cs ws → length ws ≤ 4 * length cs
  file_many b.IsFile.no_tokens = omega arith
  file_many (b.IsFile.one_block d) = omega (arith, block_many d)

-- ---- the toks that it becomes

if_sep_many : (v : Bool) (k : Tok) (ks : List Tok) (n : ℕ) → length ks ≤ n → length (if v then ks else k ∷ []) ≤ suc n
if_sep_many true k ks n h = omega (arith, h)
if_sep_many false k ks n h = omega arith

gap_many : (ws : List Written) → length (gap_sep ws) ≤ length ws
gap_many [] = omega arith
gap_many (tok k ∷ ws) = omega (arith, gap_many ws)
gap_many (sep k ∷ ws) = if_sep_many (has_no_sep ws) k (gap_sep ws) (length ws) (gap_many ws)
gap_many (no_sep ∷ ws) = omega (arith, gap_many ws)

if_none_many : (v : Bool) (ks : List Tok) → length (if v then [] else ks) ≤ length ks
if_none_many true ks = omega arith
if_none_many false ks = omega arith

behind_many : {j : Tok} {ws : List Written} {ks : List Tok} → SpacedBehind j ws ks → length ks ≤ length ws
behind_many (w.SpacedBehind.last_gap e) = omega arith
behind_many (w.SpacedBehind.next_tok {j = j} {k = k} gap {ws = ws} {ks = ks} e d) =
    omega (
      arith,
      behind_many d,
      gap_many gap,
      if_none_many (is_open j.kind || is_close k.kind) (gap_sep gap),
      length-append (sep_between j gap k) (k ∷ ks),
      length-append gap (tok k ∷ ws),
    )

spaced_many : {ws : List Written} {ks : List Tok} → Spaced ws ks → length ks ≤ length ws
spaced_many (w.Spaced.only_gap e) = omega arith
spaced_many (w.Spaced.first_tok {k = k} gap {ws = ws} e d) = omega (arith, behind_many d, length-append gap (tok k ∷ ws))

pub toks_many : (files file : ℕ) (bytes : List ℕ) (ts : List Token) (ks : List Tok) → AreTokens file bytes ts →
    Each (TokenFits files bytes) ts → IsLayout bytes ts ks → length ks ≤ 4 * length bytes
toks_many files file bytes ts ks a f d =
    omega (arith, tokens_many files bytes file ts a f, file_many d.block, spaced_many d.written_out, length-map ts (cell_of bytes))
