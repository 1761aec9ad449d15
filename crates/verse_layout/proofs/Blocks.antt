-- The walk of a file that is a block writes the block out: the induction.
use Rattle.std.proofs.Common.{◌≡◌, Bool, true, false, List, [], ◌∷◌, ℕ, None, refl, ◌∙◌, ap, append-nil}
use Rattle.verse_layout.specs.declared.frames.Spot.{Spot}
use Rattle.verse_layout.specs.declared.toks.TokKind.TheVariants as t
use Rattle.verse_layout.specs.declared.roles.Role.TheVariants as role
use Rattle.verse_layout.specs.declared.roles.Region.TheVariants as region
use Rattle.verse_layout.specs.Roles.{role_of, has_lines, in_braces, is_same_region}
use Rattle.verse_layout.specs.Cells.{Cell, spot_at, tok_as, passed, ends_line}
use Rattle.verse_layout.specs.Written.{Written, tok}
use Rattle.verse_layout.specs.Blocks.{opener, line_sep, open_at, close_at, ends_block, Inside, inside_end, inside_token, inside_bracket}
use Rattle.verse_layout.specs.Blocks.{Bracket, round, braces, Part, part_token, part_sep, part_bracket, Body, body_part, body_block, Rest}
use Rattle.verse_layout.specs.Blocks.{rest_end, rest_more, Line, line, Block, block_last, block_more, Lines, lines_end, lines_more, IsFile}
use Rattle.verse_layout.specs.Blocks.{no_tokens, one_block}
use Rattle.verse_layout.specs.Frames.{Open, Walk, write, walk, on_role, block_in, innermost, file_start}
use Rattle.verse_layout.proofs.Walks.{at_line, go, go_token, front, front_front, if_false, no_start, brace_start, go_on}
use Rattle.verse_layout.proofs.Complete.{around, around_two, behind, no_brace, inner_role, stays_role, separates_role, opener_role}
use Rattle.verse_layout.proofs.Complete.{opens_token, closes_token, go_inner, is_brace, brace_free, no_line, led, Heads, line_heads}
use Rattle.verse_layout.proofs.Complete.{block_heads, block_lines, block_braces, block_is, block_no_file, go_again, go_braces, go_indent}
use Rattle.verse_layout.proofs.Complete.{go_close}

-- the blocks round a line outside braces are in no bracket
abbrev Free : Bool → List Open → Type 0
Free b fs = b ≡ false → innermost fs ≡ None

-- a file's first line begins its block
first_line : (end : Spot) (i : List ℕ) (cs : List Cell) (x : Heads i cs) →
    walk end file_start cs ≡ led end i (record { region = region.File; text = i; place = x.first.token.place } ∷ []) cs
first_line end i cs x = rw (x.cs_are, x.brace, x.line_is) refl

mutual
  inside_go : {end : Spot} {h : List ℕ} {cs ds : List Cell} {ws : List Written} → Inside end h cs ws ds → (f : Open) (fs : List Open) →
      has_lines f.region ≡ false →
      go end h (f ∷ fs) cs ≡ front ws (go end h (f ∷ fs) ds)
  inside_go inside_end f fs e = refl
  inside_go (inside_token {end = end} {h = h} {c = c} {cs = cs} p i) f fs e =
      go_on end h f fs c cs (no_start f fs c e) ∙ inner_role _ (ends_line cs) h f fs c.token (λ g. walk end g cs) e p ∙
      ap (write (tok (passed c.token))) (inside_go i f fs e)
  inside_go (inside_bracket {end = end} {h = h} {cs = cs} {es = es} {ws = ws} {vs = vs} k i) f fs e =
      go_inner end h f fs cs e ∙ bracket_go k f fs ∙ ap (front ws) (inside_go i f fs e) ∙ front_front ws vs (go end h (f ∷ fs) es)

  bracket_go : {end : Spot} {h : List ℕ} {cs ds : List Cell} {ws : List Written} → Bracket end h cs ws ds → (f : Open) (fs : List Open) →
      go_token end h (f ∷ fs) cs ≡ front ws (go end h (f ∷ fs) ds)
  bracket_go (round {end = end} {h = h} {r = r} {o = o} {c = c} {cs = cs} {ds = ds} {ws = ws} p q i s) f fs =
      let g : Open = record { region = r; text = h; place = o.token.place } in
      let open_is = if_false (is_same_region r region.Brace) (tok_as t.Open o.token) (passed o.token) (no_brace r q) in
      let close_is = if_false (is_same_region r region.Brace) (tok_as t.Close c.token) (passed c.token) (no_brace r q) in
      let last : go end h (g ∷ f ∷ fs) (c ∷ ds) ≡ write (tok (passed c.token)) (go end h (f ∷ fs) ds) =
      go_on end h g (f ∷ fs) c ds (no_start g (f ∷ fs) c q) ∙ closes_token end h g f fs c ds s ∙
      ap (λ k. write (tok k) (go end h (f ∷ fs) ds)) close_is in
      opens_token end h (f ∷ fs) r o cs p ∙ ap (λ k. write (tok k) (go end h (g ∷ f ∷ fs) cs)) open_is
      ∙ ap (write (tok (passed o.token))) (inside_go i g (f ∷ fs) q ∙ ap (front ws) last)
      ∙ around (tok (passed o.token)) (tok (passed c.token)) ws (go end h (f ∷ fs) ds)
  bracket_go (braces {end = end} {h = h} {o = o} {c = c} {cs = cs} {ds = ds} {es = es} {ws = ws} {vs = vs} p r l s) f fs =
      let g : Open = record { region = region.Brace; text = h; place = o.token.place } in
      let free : Free true (g ∷ f ∷ fs) = λ e. absurd (cc) in
      let last : go end h (g ∷ f ∷ fs) (c ∷ es) ≡ write (tok (tok_as t.Close c.token)) (go end h (f ∷ fs) es) =
      go_on end h g (f ∷ fs) c es (brace_start (g ∷ f ∷ fs) c (is_brace _ s)) ∙ closes_token end h g f fs c es s in
      opens_token end h (f ∷ fs) region.Brace o cs p
      ∙ ap (write (tok (tok_as t.Open o.token))) (rest_go r g (f ∷ fs) refl refl free ∙
      ap (front ws) (lines_go l g (f ∷ fs) h h refl c es refl s ∙ ap (front vs) last))
      ∙ around_two (tok (tok_as t.Open o.token)) (tok (tok_as t.Close c.token)) ws vs (go end h (f ∷ fs) es)

  part_go : {end : Spot} {b : Bool} {h : List ℕ} {cs ds : List Cell} {ws : List Written} → Part end b h cs ws ds →
      (f : Open) (fs : List Open) → has_lines f.region ≡ true → in_braces f.region ≡ b →
      go_token end h (f ∷ fs) cs ≡ front ws (go end h (f ∷ fs) ds)
  part_go (part_token {end = end} {b = b} {h = h} {c = c} {cs = cs} p) f fs e g =
      stays_role _ b (ends_line cs) h f fs c.token (λ k. walk end k cs) e g p
  part_go (part_sep {end = end} {b = b} {h = h} {c = c} {cs = cs} p) f fs e g =
      separates_role _ b (ends_line cs) h f fs c.token (λ k. walk end k cs) e g p
  part_go (part_bracket k) f fs e g = bracket_go k f fs

  body_go : {end : Spot} {b : Bool} {h : List ℕ} {cs ds : List Cell} {ws : List Written} → Body end b h cs ws ds →
      (f : Open) (fs : List Open) → has_lines f.region ≡ true → in_braces f.region ≡ b → Free b (f ∷ fs) →
      go_token end h (f ∷ fs) cs ≡ front ws (go end h (f ∷ fs) ds)
  body_go (body_part {end = end} {h = h} {es = es} {ws = ws} {vs = vs} p r) f fs e g n =
      part_go p f fs e g ∙ ap (front ws) (rest_go r f fs e g n) ∙ front_front ws vs (go end h (f ∷ fs) es)
  body_go (body_block {end = end} {b = b} {h = h} {j = j} {c = c} {cs = cs} {ds = ds} {ws = ws} p q s k) f fs e g n =
      let x = block_heads k in
      let inner : Open = record { region = block_in f.region; text = j; place = x.first.token.place } in
      let free : Free b (inner ∷ f ∷ fs) = λ v. rw (block_no_file f.region, block_is f.region) (n v) in
      let block = block_go k inner (f ∷ fs) (block_lines f.region) (block_braces f.region b g) free refl in
      ap (λ v. on_role (role_of c.token.kind) v (at_line false h (f ∷ fs)) c.token (λ y. walk end y cs)) q
      ∙ opener_role _ h f fs c.token (λ y. walk end y cs) e p
      ∙ ap (front (opener (role_of c.token.kind) c.token))
      (go_indent end h j f fs cs e s x ∙ ap (write (open_at (spot_at end cs)))
      (block.0 ∙ ap (front ws) (go_close end j j h b f fs x.first.token.place ds e g n block.1)))
      ∙ behind (opener (role_of c.token.kind) c.token) (open_at (spot_at end cs)) (close_at (spot_at end ds)) ws (go end h (f ∷ fs) ds)

  rest_go : {end : Spot} {b : Bool} {h : List ℕ} {cs ds : List Cell} {ws : List Written} → Rest end b h cs ws ds →
      (f : Open) (fs : List Open) → has_lines f.region ≡ true → in_braces f.region ≡ b → Free b (f ∷ fs) →
      go end h (f ∷ fs) cs ≡ front ws (go end h (f ∷ fs) ds)
  rest_go rest_end f fs e g n = refl
  rest_go (rest_more {end = end} {h = h} {c = c} {cs = cs} p k) f fs e g n =
      go_on end h f fs c cs (no_line (f ∷ fs) c p) ∙ body_go k f fs e g n

  line_go : {end : Spot} {b : Bool} {i : List ℕ} {cs ds : List Cell} {ws : List Written} → Line end b i cs ws ds →
      (f : Open) (fs : List Open) → has_lines f.region ≡ true → in_braces f.region ≡ b → Free b (f ∷ fs) →
      led end i (f ∷ fs) cs ≡ front ws (go end i (f ∷ fs) ds)
  line_go (line {c = c} p k) f fs e g n = ap (write (line_sep c.token)) (body_go k f fs e g n)

  block_go : {end : Spot} {b : Bool} {i : List ℕ} {cs ds : List Cell} {ws : List Written} → Block end b i cs ws ds →
      (f : Open) (fs : List Open) → has_lines f.region ≡ true → in_braces f.region ≡ b → Free b (f ∷ fs) → f.text ≡ i →
      (led end i (f ∷ fs) cs ≡ front ws (go end i (f ∷ fs) ds)) × (ends_block b i ds ≡ true)
  block_go (block_last l s) f fs e g n t = (line_go l f fs e g n, s)
  block_go (block_more {end = end} {i = i} {ds = ds} {es = es} {ws = ws} {vs = vs} l k) f fs e g n t =
      let more = block_go k f fs e g n t in (
        line_go l f fs e g n ∙ ap (front ws) (go_again end i f fs i ds e t (block_heads k) ∙ more.0) ∙
            front_front ws vs (go end i (f ∷ fs) es),
        more.1,
      )

  lines_go : {end : Spot} {cs ds : List Cell} {ws : List Written} → Lines end cs ws ds → (f : Open) (fs : List Open) (k h : List ℕ) →
      f.region ≡ region.Brace → (c : Cell) (es : List Cell) → ds ≡ c ∷ es → role_of c.token.kind ≡ role.Closes region.Brace →
      go end k (f ∷ fs) cs ≡ front ws (go end h (f ∷ fs) (c ∷ es))
  lines_go (lines_end {end = end}) f fs k h e c es p q = ap (go end k (f ∷ fs)) p ∙ brace_free end k h f fs c es q
  lines_go (lines_more {end = end} {i = i} {cs = cs} {ws = ws} {vs = vs} l m) f fs k h e c es p q =
      go_braces end k f fs i cs e (line_heads l)
      ∙ line_go l f fs (ap has_lines e) (ap in_braces e) (λ v. absurd (let w : in_braces f.region ≡ true = ap in_braces e in cc))
      ∙ ap (front ws) (lines_go m f fs i h e c es p q)
      ∙ front_front ws vs (go end h (f ∷ fs) (c ∷ es))

-- a file's walk is its block written out
pub file_walk : {end : Spot} {cs : List Cell} {ws : List Written} → IsFile end cs ws →
    walk end file_start cs ≡ record { written = ws; stop = None }
file_walk no_tokens = refl
file_walk (one_block {end = end} {i = i} {cs = cs} {ws = ws} k) =
    let x = block_heads k in
    let f : Open = record { region = region.File; text = i; place = x.first.token.place } in
    let free : Free false (f ∷ []) = λ e. refl in
    first_line end i cs x ∙ (block_go k f [] refl refl free refl).0 ∙ ap (λ us. let w : Walk = record { written = us; stop = None } in
    w) (append-nil ws)
