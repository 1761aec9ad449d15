-- What the frames that are open still want, where a walk goes on to the file's end.
use Rattle.std.proofs.Common.{◌≡◌, Bool, true, false, List, [], ◌∷◌, ◌++◌, ℕ, refl, sym, ◌∙◌, ap, subst, append_assoc, append-nil}
use Rattle.verse_lex.specs.declared.tokens.TokenKind.{TokenKind}
use Rattle.verse_lex.specs.declared.tokens.TokenKind.TheVariants as k
use Rattle.verse_lex.specs.declared.tokens.Mark.{Mark}
use Rattle.verse_lex.specs.declared.tokens.Mark.TheVariants as m
use Rattle.verse_layout.specs.declared.frames.Spot.{Spot}
use Rattle.verse_layout.specs.declared.toks.TokKind.TheVariants as t
use Rattle.verse_layout.specs.declared.roles.Role.{Role}
use Rattle.verse_layout.specs.declared.roles.Role.TheVariants as role
use Rattle.verse_layout.specs.declared.roles.Region.{Region}
use Rattle.verse_layout.specs.declared.roles.Region.TheVariants as region
use Rattle.verse_layout.specs.Roles.{mark_role, role_of, has_lines, in_braces, is_same_region}
use Rattle.verse_layout.specs.Cells.{Cell, spot_at, tok_as, passed, is_proper}
use Rattle.verse_layout.specs.Written.{Written, tok}
use Rattle.verse_layout.specs.Blocks.{open_at, close_at, ends_block, Inside, inside_bracket, Bracket, Part, part_bracket, Body, body_part}
use Rattle.verse_layout.specs.Blocks.{Rest, Line, Block, block_last, block_more, Lines}
use Rattle.verse_layout.specs.Frames.{Open, is_block, region_at}

-- the lines of a block behind one of its lines
pub data Tail : Spot → Bool → List ℕ → List Cell → List Written → List Cell → Type 0 where
  tail_end : {end : Spot} {b : Bool} {i : List ℕ} {cs : List Cell} → ends_block b i cs ≡ true → Tail end b i cs [] cs
  tail_more : {end : Spot} {b : Bool} {i : List ℕ} {cs ds : List Cell} {ws : List Written} → Block end b i cs ws ds → Tail end b i cs ws ds

pub line_tail : {end : Spot} {b : Bool} {i : List ℕ} {cs ds es : List Cell} {ws vs : List Written} → Line end b i cs ws ds →
    Tail end b i ds vs es → Block end b i cs (ws ++ vs) es
line_tail {end = end} {b = b} {i = i} {cs = cs} {ds = ds} {ws = ws} l (tail_end e) =
    subst (λ us. Block end b i cs us ds) (sym (append-nil ws)) (block_last l e)
line_tail l (tail_more k) = block_more l k

mutual
  -- from here on: the rest of the innermost bracket or line, and what stands round it
  pub data Nest : Spot → List ℕ → List Open → List Cell → List Written → Type 0 where
    nest_line : {end : Spot} {h : List ℕ} {f : Open} {fs : List Open} {cs ds : List Cell} {ws vs us : List Written} →
        has_lines f.region ≡ true → Rest end (in_braces f.region) h cs vs ds → Out end (f ∷ fs) ds us → ws ≡ vs ++ us →
        Nest end h (f ∷ fs) cs ws
    nest_round : {end : Spot} {h : List ℕ} {f : Open} {fs : List Open} {c : Cell} {cs ds : List Cell} {ws vs us : List Written} →
        has_lines f.region ≡ false → Inside end h cs vs (c ∷ ds) → role_of c.token.kind ≡ role.Closes f.region → Nest end f.text fs ds us →
        ws ≡ vs ++ tok (passed c.token) ∷ us → Nest end h (f ∷ fs) cs ws

  -- from a line's end on
  pub data Out : Spot → List Open → List Cell → List Written → Type 0 where
    out_file : {end : Spot} {f : Open} {fs : List Open} {cs : List Cell} {ws : List Written} →
        f.region ≡ region.File → Tail end false f.text cs ws [] → Out end (f ∷ fs) cs ws
    out_block : {end : Spot} {f : Open} {fs : List Open} {cs ds : List Cell} {ws vs us : List Written} →
        is_block f.region ≡ true → Tail end (in_braces f.region) f.text cs vs ds → Out end fs ds us →
        ws ≡ vs ++ close_at (spot_at end ds) ∷ us → Out end (f ∷ fs) cs ws
    out_brace : {end : Spot} {f : Open} {fs : List Open} {c : Cell} {cs ds : List Cell} {ws vs us : List Written} →
        f.region ≡ region.Brace → Lines end cs vs (c ∷ ds) → role_of c.token.kind ≡ role.Closes region.Brace → Nest end f.text fs ds us →
        ws ≡ vs ++ tok (tok_as t.Close c.token) ∷ us → Out end (f ∷ fs) cs ws

-- the same, where the first token is met already
pub data Start : Spot → List ℕ → List Open → List Cell → List Written → Type 0 where
  start_line : {end : Spot} {h : List ℕ} {f : Open} {fs : List Open} {cs ds : List Cell} {ws vs us : List Written} →
      has_lines f.region ≡ true → Body end (in_braces f.region) h cs vs ds → Out end (f ∷ fs) ds us → ws ≡ vs ++ us →
      Start end h (f ∷ fs) cs ws
  start_round : {end : Spot} {h : List ℕ} {f : Open} {fs : List Open} {c : Cell} {cs ds : List Cell} {ws vs us : List Written} →
      has_lines f.region ≡ false → Inside end h cs vs (c ∷ ds) → role_of c.token.kind ≡ role.Closes f.region → Nest end f.text fs ds us →
      ws ≡ vs ++ tok (passed c.token) ∷ us → Start end h (f ∷ fs) cs ws
  start_brace : {end : Spot} {h : List ℕ} {f : Open} {fs : List Open} {c : Cell} {cs : List Cell} {ws : List Written} →
      role_of c.token.kind ≡ role.Closes region.Brace → Out end (f ∷ fs) (c ∷ cs) ws → Start end h (f ∷ fs) (c ∷ cs) ws

-- behind an opener: its block, and what stands round it
pub record Opened (end : Spot) (h : List ℕ) (fs : List Open) (cs : List Cell) (ws : List Written) : Type 0 where
  pub j : List ℕ
  pub ds : List Cell
  pub vs : List Written
  pub us : List Written
  pub proper : is_proper h j ≡ true
  pub block : Block end (in_braces (region_at fs)) j cs vs ds
  pub out : Out end fs ds us
  pub toks : ws ≡ open_at (spot_at end cs) ∷ (vs ++ close_at (spot_at end ds) ∷ us)

-- frames as they come to state in each other
pub data Nested : List Open → Type 0 where
  nested_file : {f : Open} → f.region ≡ region.File → Nested (f ∷ [])
  nested_block : {f : Open} {fs : List Open} → is_block f.region ≡ true → has_lines (region_at fs) ≡ true →
      in_braces f.region ≡ in_braces (region_at fs) → Nested fs → Nested (f ∷ fs)
  nested_bracket : {f : Open} {fs : List Open} → is_block f.region ≡ false → is_same_region f.region region.File ≡ false → Nested fs →
      Nested (f ∷ fs)

pub add_part : {end : Spot} {h : List ℕ} {f : Open} {fs : List Open} {cs ds : List Cell} {ws : List Written} (w : Written) →
    (has_lines f.region ≡ true → Part end (in_braces f.region) h cs (w ∷ []) ds) →
    (has_lines f.region ≡ false → (vs : List Written) (es : List Cell) → Inside end h ds vs es → Inside end h cs (w ∷ vs) es) →
    Nest end h (f ∷ fs) ds ws → Start end h (f ∷ fs) cs (w ∷ ws)
add_part w p q (nest_line e r o g) = start_line e (body_part (p e) r) o (ap (λ us. w ∷ us) g)
add_part w p q (nest_round e i s n g) = start_round e (q e _ _ i) s n (ap (λ us. w ∷ us) g)

pub add_bracket : {end : Spot} {h : List ℕ} {f : Open} {fs : List Open} {cs ds : List Cell} {ws ps : List Written} →
    Bracket end h cs ps ds → Nest end h (f ∷ fs) ds ws → Start end h (f ∷ fs) cs (ps ++ ws)
add_bracket {ps = ps} k (nest_line {vs = vs} {us = us} e r o g) =
    start_line e (body_part (part_bracket k) r) o (ap (λ x. ps ++ x) g ∙ sym (append_assoc ps vs us))
add_bracket {ps = ps} k (nest_round {c = c} {vs = vs} {us = us} e i s n g) =
    start_round e (inside_bracket k i) s n (ap (λ x. ps ++ x) g ∙ sym (append_assoc ps vs (tok (passed c.token) ∷ us)))

-- brackets alone are opened and closed by tokens
abbrev pub is_bracket : Region → Bool
is_bracket region.Round = true
is_bracket region.Square = true
is_bracket region.Hole = true
is_bracket region.Brace = true
is_bracket _ = false

abbrev pub brackets_alone : Role → Bool
brackets_alone (role.Opens r) = is_bracket r
brackets_alone (role.Closes r) = is_bracket r
brackets_alone _ = true

mark_brackets : (x : Mark) → brackets_alone (mark_role x) ≡ true
mark_brackets m.RoundOpen = refl
mark_brackets _ = refl

token_brackets : (x : TokenKind) → brackets_alone (role_of x) ≡ true
token_brackets (k.Mark x) = mark_brackets x
token_brackets k.TextOpen = refl
token_brackets _ = refl

pub no_opens : (x : TokenKind) (r : Region) → is_bracket r ≡ false → role_of x ≡ role.Opens r → ⊥
no_opens x r e p = let f = token_brackets x in let g = ap brackets_alone p in cc

pub no_closes : (x : TokenKind) (r : Region) → is_bracket r ≡ false → role_of x ≡ role.Closes r → ⊥
no_closes x r e p = let f = token_brackets x in let g = ap brackets_alone p in cc

pub out_lines : {end : Spot} {f : Open} {fs : List Open} {cs : List Cell} {ws : List Written} → Out end (f ∷ fs) cs ws →
    has_lines f.region ≡ true
out_lines (out_file e t) = ap has_lines e
out_lines (out_block {f = f} e t o g) = block_lines f.region e
  where
    block_lines : (r : Region) → is_block r ≡ true → has_lines r ≡ true
    block_lines region.Block p = refl
    block_lines region.BraceBlock p = refl
    block_lines r p = absurd (cc)
out_lines (out_brace e l s n g) = ap has_lines e
