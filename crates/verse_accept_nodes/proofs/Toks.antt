-- The toks of a file stand in it, and their characters and pauses are within the limits of a code.
use Rattle.std.proofs.Common.{◌≡◌, ℕ, ◌<◌, ◌||◌, Bool, true, false, if◌then◌else◌, List, [], ◌∷◌, ◌++◌, length}
use Rattle.verse_lex.specs.declared.tokens.Token.{Token}
use Rattle.verse_lex.specs.declared.tokens.TokenKind.{TokenKind}
use Rattle.verse_lex.specs.Cut.{body, mark_len}
use Rattle.std.specs.Prelude.{take, ◌-◌}
use Rattle.verse_layout.specs.declared.toks.Tok.{Tok}
use Rattle.verse_layout.specs.declared.toks.TokKind.{TokKind}
use Rattle.verse_layout.specs.declared.toks.TokKind.TheVariants as t
use Rattle.verse_layout.specs.declared.frames.Spot.{Spot}
use Rattle.verse_layout.specs.declared.roles.Role.{Role}
use Rattle.verse_layout.specs.declared.roles.Role.TheVariants as role
use Rattle.verse_layout.specs.Roles.{role_of, is_else}
use Rattle.verse_layout.specs.Cells.{Cell, cells_of, spot_at}
use Rattle.verse_layout.specs.Written.{Written, tok, sep, no_sep, is_open, is_close, has_no_sep, gap_sep, sep_between, SpacedBehind, Spaced}
use Rattle.verse_layout.specs.Written as w
use Rattle.verse_layout.specs.Blocks.{opener, line_sep, Inside, Bracket, Part, Body, Rest, Line, Block, Lines, IsFile}
use Rattle.verse_layout.specs.Blocks as b
use Rattle.verse_layout.specs.Layouts.{file_of, end_of, IsLayout}
use Rattle.verse_grammar.specs.Toks.{name, name_at}
use Rattle.verse_code.specs.Validity.{IsPlace}
use Rattle.lower_bounds.proofs.Lists.{Each, each_first, each_rest, each_joined}
use Rattle.verse_accept_nodes.specs.Laws.{IsNew}
use Rattle.verse_accept_nodes.proofs.Tokens.{KindFits, TokenFits, stands_behind}

abbrev pub TokKindFits : TokKind → Type 0
TokKindFits (t.Plain kind) = KindFits kind
TokKindFits kind = Unit {0}

-- a tok of a file with these bytes
pub record TokFits (files : ℕ) (bytes : List ℕ) (k : Tok) : Type 0 where
  pub place : IsPlace files k.place
  pub kind : TokKindFits k.kind
  -- a name is not that of `Self`
  pub named : k.kind ≡ name → IsNew (name_at bytes k)

same_plain : {x y : TokenKind} → t.Plain x ≡ t.Plain y → x ≡ y
same_plain e = cc

module _ (files : ℕ) (bytes : List ℕ) where
  abbrev CellFits : Cell → Type 0
  CellFits c = TokenFits files bytes c.token

  abbrev SpotFits : Spot → Type 0
  SpotFits s = IsPlace files s.place

  abbrev WrittenFits : Written → Type 0
  WrittenFits (tok k) = TokFits files bytes k
  WrittenFits (sep k) = TokFits files bytes k
  WrittenFits no_sep = Unit {0}

  cells_fit : (ts : List Token) → Each (TokenFits files bytes) ts → Each CellFits (cells_of bytes ts)
  cells_fit [] h = tt
  cells_fit (k ∷ ts) h = (h.0, cells_fit ts h.1)

  spot_fits : (end : Spot) (cs : List Cell) → SpotFits end → Each CellFits cs → SpotFits (spot_at end cs)
  spot_fits end [] h g = h
  spot_fits end (c ∷ cs) h g = g.0.place

  -- ---- a block written out

  sep_fits : (k : Token) (v : Bool) → TokenFits files bytes k →
      WrittenFits (if v then no_sep else sep (record { kind = t.Sep; start = k.start; end = k.start; place = k.place }))
  sep_fits k true h = tt
  sep_fits k false h = record { place = h.place; kind = tt; named = λ e. cc }

  opener_fits : (r : Role) (k : Token) → TokenFits files bytes k → Each WrittenFits (opener r k)
  opener_fits role.Equals k h = (record { place = h.place; kind = h.kind; named = λ e. h.named (same_plain e) }, tt)
  opener_fits _ k h = tt

  -- what is written of cells that fit, and the cells behind it
  abbrev Fitting : List Written → List Cell → Type 0
  Fitting ws ds = Each WrittenFits ws × Each CellFits ds

  both_fit : (ws vs : List Written) (ds es : List Cell) → Each WrittenFits ws → Fitting vs es → Fitting (ws ++ vs) es
  both_fit ws vs ds es h g = (each_joined WrittenFits ws vs h g.0, g.1)

  module _ (end : Spot) (ended : SpotFits end) where
    mutual
      inside_fits : {h : List ℕ} {cs ds : List Cell} {ws : List Written} → Inside end h cs ws ds → Each CellFits cs → Fitting ws ds
      inside_fits b.Inside.inside_end f = (tt, f)
      inside_fits (b.Inside.inside_token e d) f =
          let r = inside_fits d f.1 in ((record { place = f.0.place; kind = f.0.kind; named = λ e. f.0.named (same_plain e) }, r.0), r.1)
      inside_fits (b.Inside.inside_bracket {ws = ws} {vs = vs} d e) f =
          let r = bracket_fits d f in let q = inside_fits e r.1 in (each_joined WrittenFits ws vs r.0 q.0, q.1)

      bracket_fits : {h : List ℕ} {cs ds : List Cell} {ws : List Written} → Bracket end h cs ws ds → Each CellFits cs → Fitting ws ds
      bracket_fits (b.Bracket.round {c = c} {ws = ws} h g d e) f =
          let r = inside_fits d f.1 in (
            (
              record { place = f.0.place; kind = f.0.kind; named = λ e. f.0.named (same_plain e) },
              each_joined WrittenFits ws _ r.0 (
                record { place = r.1.0.place; kind = r.1.0.kind; named = λ e. r.1.0.named (same_plain e) },
                tt,
              ),
            ),
            r.1.1,
          )
      bracket_fits (b.Bracket.braces {ws = ws} {vs = vs} h d e g) f =
          let r = rest_fits d f.1 in
          let q = lines_fits e r.1 in (
            (
              record { place = f.0.place; kind = tt; named = λ e. cc },
              each_joined WrittenFits ws _ r.0 (each_joined WrittenFits vs _ q.0
                  (record { place = q.1.0.place; kind = tt; named = λ e. cc }, tt)),
            ),
            q.1.1,
          )

      part_fits : {i : Bool} {h : List ℕ} {cs ds : List Cell} {ws : List Written} → Part end i h cs ws ds → Each CellFits cs → Fitting ws ds
      part_fits (b.Part.part_token e) f = ((record { place = f.0.place; kind = f.0.kind; named = λ e. f.0.named (same_plain e) }, tt), f.1)
      part_fits (b.Part.part_sep e) f = ((record { place = f.0.place; kind = tt; named = λ e. cc }, tt), f.1)
      part_fits (b.Part.part_bracket d) f = bracket_fits d f

      body_fits : {i : Bool} {h : List ℕ} {cs ds : List Cell} {ws : List Written} → Body end i h cs ws ds → Each CellFits cs → Fitting ws ds
      body_fits (b.Body.body_part {ws = ws} {vs = vs} d e) f =
          let r = part_fits d f in let q = rest_fits e r.1 in (each_joined WrittenFits ws vs r.0 q.0, q.1)
      body_fits (b.Body.body_block {c = c} {cs = cs} {ds = ds} {ws = ws} e g h d) f =
          let r = block_fits d f.1 in (
            each_joined WrittenFits (opener (role_of c.token.kind) c.token) _ (opener_fits (role_of c.token.kind) c.token f.0) (
              record { place = spot_fits end cs ended f.1; kind = tt; named = λ e. cc },
              each_joined WrittenFits ws _ r.0 (record { place = spot_fits end ds ended r.1; kind = tt; named = λ e. cc }, tt),
            ),
            r.1,
          )

      rest_fits : {i : Bool} {h : List ℕ} {cs ds : List Cell} {ws : List Written} → Rest end i h cs ws ds → Each CellFits cs → Fitting ws ds
      rest_fits b.Rest.rest_end f = (tt, f)
      rest_fits (b.Rest.rest_more e d) f = body_fits d f

      line_fits : {i : Bool} {h : List ℕ} {cs ds : List Cell} {ws : List Written} → Line end i h cs ws ds → Each CellFits cs → Fitting ws ds
      line_fits (b.Line.line {c = c} e d) f =
          let r = body_fits d f in ((sep_fits c.token (is_else c.token.kind) f.0, r.0), r.1)

      block_fits : {i : Bool} {h : List ℕ} {cs ds : List Cell} {ws : List Written} → Block end i h cs ws ds → Each CellFits cs →
          Fitting ws ds
      block_fits (b.Block.block_last d e) f = line_fits d f
      block_fits (b.Block.block_more {ws = ws} {vs = vs} d e) f =
          let r = line_fits d f in let q = block_fits e r.1 in (each_joined WrittenFits ws vs r.0 q.0, q.1)

      lines_fits : {cs ds : List Cell} {ws : List Written} → Lines end cs ws ds → Each CellFits cs → Fitting ws ds
      lines_fits b.Lines.lines_end f = (tt, f)
      lines_fits (b.Lines.lines_more {ws = ws} {vs = vs} d e) f =
          let r = line_fits d f in let q = lines_fits e r.1 in (each_joined WrittenFits ws vs r.0 q.0, q.1)

    file_fits : {cs : List Cell} {ws : List Written} → IsFile end cs ws → Each CellFits cs → Each WrittenFits ws
    file_fits b.IsFile.no_tokens f = tt
    file_fits (b.IsFile.one_block d) f = (block_fits d f).0

  -- ---- the toks that it becomes

  if_sep : (v : Bool) (k : Tok) (ks : List Tok) → TokFits files bytes k → Each (TokFits files bytes) ks →
      Each (TokFits files bytes) (if v then ks else k ∷ [])
  if_sep true k ks h g = g
  if_sep false k ks h g = (h, tt)

  gap_fits : (ws : List Written) → Each WrittenFits ws → Each (TokFits files bytes) (gap_sep ws)
  gap_fits [] h = tt
  gap_fits (tok k ∷ ws) h = gap_fits ws h.1
  gap_fits (sep k ∷ ws) h = if_sep (has_no_sep ws) k (gap_sep ws) h.0 (gap_fits ws h.1)
  gap_fits (no_sep ∷ ws) h = gap_fits ws h.1

  if_none : (v : Bool) (ks : List Tok) → Each (TokFits files bytes) ks → Each (TokFits files bytes) (if v then [] else ks)
  if_none true ks h = tt
  if_none false ks h = h

  behind_fits : {j : Tok} {ws : List Written} {ks : List Tok} → SpacedBehind j ws ks → Each WrittenFits ws → Each (TokFits files bytes) ks
  behind_fits (w.SpacedBehind.last_gap e) f = tt
  behind_fits (w.SpacedBehind.next_tok {j = j} {k = k} gap {ws = ws} {ks = ks} e d) f =
      let r = each_rest WrittenFits gap (tok k ∷ ws) f in
      each_joined (TokFits files bytes) (sep_between j gap k) (k ∷ ks)
      (if_none (is_open j.kind || is_close k.kind) (gap_sep gap) (gap_fits gap (each_first WrittenFits gap (tok k ∷ ws) f)))
      (r.0, behind_fits d r.1)

  spaced_fits : {ws : List Written} {ks : List Tok} → Spaced ws ks → Each WrittenFits ws → Each (TokFits files bytes) ks
  spaced_fits (w.Spaced.only_gap e) f = tt
  spaced_fits (w.Spaced.first_tok {k = k} gap {ws = ws} e d) f =
      let r = each_rest WrittenFits gap (tok k ∷ ws) f in (r.0, behind_fits d r.1)

  file_low : (ts : List Token) → 0 < files → Each (TokenFits files bytes) ts → file_of ts < files
  file_low [] h f = h
  file_low (k ∷ ts) h f = f.0.place.file

  pub toks_fit : (ts : List Token) (ks : List Tok) → 0 < files → Each (TokenFits files bytes) ts → IsLayout bytes ts ks →
      Each (TokFits files bytes) ks
  toks_fit ts ks h f d =
      let ended = stands_behind files (file_of ts) (take (length bytes - mark_len bytes) (body bytes)) (file_low ts h f) in
      spaced_fits d.written_out (file_fits (end_of bytes ts) ended d.block (cells_fit ts f))
