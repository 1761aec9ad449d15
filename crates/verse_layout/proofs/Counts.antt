-- A list of tokens has at most four toks for each token.
use Rattle.std.proofs.Common.{◌≡◌, ◌≤◌, ◌+◌, ◌*◌, Bool, true, false, not, ◌&&◌, List, [], ◌∷◌, ◌++◌, length, ℕ, Option, Some, None, refl}
use Rattle.std.proofs.Common.{ap, arith, length-append}
use Rattle.std.proofs.lemmas.List.{length-map}
use Rattle.verse_lex.specs.declared.tokens.Token.{Token}
use Rattle.verse_layout.specs.declared.toks.Tok.{Tok}
use Rattle.verse_layout.specs.declared.frames.Spot.{Spot}
use Rattle.verse_layout.specs.declared.roles.Role.{Role}
use Rattle.verse_layout.specs.declared.roles.Role.TheVariants as role
use Rattle.verse_layout.specs.Roles.{role_of}
use Rattle.verse_layout.specs.Cells.{Cell, cell_of, spot_at, passed, tok_as}
use Rattle.verse_layout.specs.declared.toks.TokKind.TheVariants as t
use Rattle.verse_layout.specs.Written.{Written, tok, sep, no_sep, is_close, is_open}
use Rattle.verse_layout.specs.Answers.{spaced, first_sep, kept_sep}
use Rattle.verse_layout.proofs.Spacing.{spaced_is}
use Rattle.verse_layout.specs.Blocks.{opener, open_at, close_at, Inside, inside_end, inside_token, inside_bracket, Bracket, round, braces}
use Rattle.verse_layout.specs.Blocks.{Part, part_token, part_sep, part_bracket, Body, body_part, body_block, Rest, rest_end, rest_more}
use Rattle.verse_layout.specs.Blocks.{Line, line, Block, block_last, block_more, Lines, lines_end, lines_more, IsFile, no_tokens, one_block}
use Rattle.verse_layout.specs.Layouts.{IsLayout}

abbrev waits : Option Tok → ℕ
waits None = 0
waits (Some s) = 1

kept_few : (b : Bool) (w : Option Tok) → length (kept_sep b w) ≤ waits w
kept_few true None = omega arith
kept_few true (Some s) = omega arith
kept_few false None = omega arith
kept_few false (Some s) = omega arith

first_few : (w : Option Tok) (s : Tok) → waits (first_sep w s) ≡ 1
first_few None s = refl
first_few (Some r) s = refl

spaced_few : (can : Bool) (w : Option Tok) (ws : List Written) → length (spaced can w ws) ≤ length ws + waits w
spaced_few can w [] = omega arith
spaced_few can w (sep s ∷ ws) = let h = spaced_few can (first_sep w s) ws in let g = first_few w s in omega arith
spaced_few can w (no_sep ∷ ws) = let h = spaced_few can None ws in omega arith
spaced_few can w (tok k ∷ ws) =
    let h = spaced_few (not (is_open k.kind)) None ws in
    let g = kept_few (can && not (is_close k.kind)) w in
    let e = length-append (kept_sep (can && not (is_close k.kind)) w) (k ∷ spaced (not (is_open k.kind)) None ws) in
    omega arith

opener_few : (r : Role) (k : Token) → length (opener r k) ≤ 1
opener_few role.Equals k = omega arith
opener_few (role.Opens r) k = omega arith
opener_few (role.Closes r) k = omega arith
opener_few role.Semicolon k = omega arith
opener_few role.Comma k = omega arith
opener_few role.Colon k = omega arith
opener_few role.Other k = omega arith

mutual
  inside_few : {end : Spot} {h : List ℕ} {cs ds : List Cell} {ws : List Written} → Inside end h cs ws ds →
      length ws + 4 * length ds ≤ 4 * length cs
  inside_few inside_end = omega arith
  inside_few (inside_token p i) = let x = inside_few i in omega arith
  inside_few (inside_bracket {ws = ws} {vs = vs} k i) = let x = bracket_few k in let y = inside_few i in let e = length-append ws vs in
      omega arith

  bracket_few : {end : Spot} {h : List ℕ} {cs ds : List Cell} {ws : List Written} → Bracket end h cs ws ds →
      length ws + 1 + 4 * length ds ≤ 4 * length cs
  bracket_few (round {c = c} {ws = ws} p q i s) = let x = inside_few i in let e = length-append ws (tok (passed c.token) ∷ []) in
      omega arith
  bracket_few (braces {c = c} {ws = ws} {vs = vs} p r l s) =
      let x = rest_few r in let y = lines_few l in let e = length-append ws (vs ++ tok (tok_as t.Close c.token) ∷ []) in let f =
      length-append vs (tok (tok_as t.Close c.token) ∷ []) in omega arith

  part_few : {end : Spot} {b : Bool} {h : List ℕ} {cs ds : List Cell} {ws : List Written} → Part end b h cs ws ds →
      length ws + 1 + 4 * length ds ≤ 4 * length cs
  part_few (part_token p) = omega arith
  part_few (part_sep p) = omega arith
  part_few (part_bracket k) = bracket_few k

  body_few : {end : Spot} {b : Bool} {h : List ℕ} {cs ds : List Cell} {ws : List Written} → Body end b h cs ws ds →
      length ws + 1 + 4 * length ds ≤ 4 * length cs
  body_few (body_part {ws = ws} {vs = vs} p r) = let x = part_few p in let y = rest_few r in let e = length-append ws vs in omega arith
  body_few (body_block {end = end} {c = c} {cs = cs} {ds = ds} {ws = ws} p q s k) =
      let x = block_few k in
      let o = opener_few (role_of c.token.kind) c.token in
      let e = length-append (opener (role_of c.token.kind) c.token) (open_at (spot_at end cs) ∷ (ws ++ close_at (spot_at end ds) ∷ [])) in
      let f = length-append ws (close_at (spot_at end ds) ∷ []) in
      omega arith

  rest_few : {end : Spot} {b : Bool} {h : List ℕ} {cs ds : List Cell} {ws : List Written} → Rest end b h cs ws ds →
      length ws + 4 * length ds ≤ 4 * length cs
  rest_few rest_end = omega arith
  rest_few (rest_more e k) = let x = body_few k in omega arith

  line_few : {end : Spot} {b : Bool} {i : List ℕ} {cs ds : List Cell} {ws : List Written} → Line end b i cs ws ds →
      length ws + 4 * length ds ≤ 4 * length cs
  line_few (line e k) = let x = body_few k in omega arith

  block_few : {end : Spot} {b : Bool} {i : List ℕ} {cs ds : List Cell} {ws : List Written} → Block end b i cs ws ds →
      length ws + 4 * length ds ≤ 4 * length cs
  block_few (block_last l e) = line_few l
  block_few (block_more {ws = ws} {vs = vs} l k) = let x = line_few l in let y = block_few k in let e = length-append ws vs in omega arith

  lines_few : {end : Spot} {cs ds : List Cell} {ws : List Written} → Lines end cs ws ds → length ws + 4 * length ds ≤ 4 * length cs
  lines_few lines_end = omega arith
  lines_few (lines_more {ws = ws} {vs = vs} l m) = let x = line_few l in let y = lines_few m in let e = length-append ws vs in omega arith

file_few : {end : Spot} {cs : List Cell} {ws : List Written} → IsFile end cs ws → length ws ≤ 4 * length cs
file_few no_tokens = omega arith
file_few (one_block k) = let x = block_few k in omega arith

pub few_toks : (bytes : List ℕ) (tokens : List Token) (ks : List Tok) → IsLayout bytes tokens ks → length ks ≤ 4 * length tokens
few_toks bytes tokens ks l =
    let x = file_few l.block in
    let y = spaced_few false None l.written in
    let z = ap length (spaced_is l.written_out) in
    let e = length-map tokens (cell_of bytes) in
    omega arith
