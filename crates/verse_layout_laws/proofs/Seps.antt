-- Where the Seps of a layout stand.
use Rattle.std.proofs.Common.{◌≡◌, Bool, true, false, ◌||◌, List, [], ◌∷◌, ◌++◌, ℕ, refl, sym, ◌∙◌, ap, subst, if◌then◌else◌}
use Rattle.verse_lex.specs.declared.tokens.Token.{Token}
use Rattle.verse_layout.specs.declared.toks.Tok.{Tok}
use Rattle.verse_layout.specs.declared.toks.TokKind.{TokKind}
use Rattle.verse_layout.specs.declared.toks.TokKind.TheVariants as t
use Rattle.verse_layout.specs.declared.frames.Spot.{Spot}
use Rattle.verse_layout.specs.declared.roles.Role.{Role}
use Rattle.verse_layout.specs.declared.roles.Role.TheVariants as role
use Rattle.verse_layout.specs.Roles.{role_of, is_else}
use Rattle.verse_layout.specs.Cells.{Cell, spot_of, mark_at}
use Rattle.verse_layout.specs.Written.{Written, tok, sep, no_sep, is_open, is_close, is_gap, has_no_sep, gap_sep, sep_between, SpacedBehind}
use Rattle.verse_layout.specs.Written.{last_gap, next_tok, Spaced, only_gap, first_tok}
use Rattle.verse_layout.specs.Blocks.{opener, line_sep, Inside, inside_end, inside_token, inside_bracket, Bracket, round, braces, Part}
use Rattle.verse_layout.specs.Blocks.{part_token, part_sep, part_bracket, Body, body_part, body_block, Rest, rest_end, rest_more, Line}
use Rattle.verse_layout.specs.Blocks.{line, Block, block_last, block_more, Lines, lines_end, lines_more, IsFile, no_tokens, one_block}
use Rattle.verse_layout.specs.Layouts.{IsLayout}
use Rattle.verse_layout_laws.specs.Laws.{is_sep, Separates, SepsStand}

-- no tok that is written as it is is a Sep
abbrev NoSeps : List Written → Type 0
NoSeps [] = Unit {0}
NoSeps (tok k ∷ ws) = (is_sep k.kind ≡ false) × NoSeps ws
NoSeps (sep s ∷ ws) = NoSeps ws
NoSeps (no_sep ∷ ws) = NoSeps ws

seps_append : (ws vs : List Written) → NoSeps ws → NoSeps vs → NoSeps (ws ++ vs)
seps_append [] vs a b = b
seps_append (tok k ∷ ws) vs a b = (a.0, seps_append ws vs a.1 b)
seps_append (sep s ∷ ws) vs a b = seps_append ws vs a b
seps_append (no_sep ∷ ws) vs a b = seps_append ws vs a b

opener_seps : (r : Role) (token : Token) → NoSeps (opener r token)
opener_seps role.Equals token = (refl, tt)
opener_seps role.Colon token = tt
opener_seps (role.Opens r) token = tt
opener_seps (role.Closes r) token = tt
opener_seps role.Semicolon token = tt
opener_seps role.Comma token = tt
opener_seps role.Other token = tt

line_seps : (token : Token) (ws : List Written) → NoSeps ws → NoSeps (line_sep token ∷ ws)
line_seps token ws a = by_else (is_else token.kind)
  where
    by_else : (b : Bool) → NoSeps ((if b then no_sep else sep (mark_at t.Sep (spot_of token))) ∷ ws)
    by_else true = a
    by_else false = a

mutual
  inside_seps : {end : Spot} {h : List ℕ} {cs ds : List Cell} {ws : List Written} → Inside end h cs ws ds → NoSeps ws
  inside_seps inside_end = tt
  inside_seps (inside_token p i) = (refl, inside_seps i)
  inside_seps (inside_bracket {ws = ws} {vs = vs} k i) = seps_append ws vs (bracket_seps k) (inside_seps i)

  bracket_seps : {end : Spot} {h : List ℕ} {cs ds : List Cell} {ws : List Written} → Bracket end h cs ws ds → NoSeps ws
  bracket_seps (round {ws = ws} p q i s) = (refl, seps_append ws _ (inside_seps i) (refl, tt))
  bracket_seps (braces {ws = ws} {vs = vs} p r l s) = (refl, seps_append ws _ (rest_seps r) (seps_append vs _ (lines_seps l) (refl, tt)))

  part_seps : {end : Spot} {b : Bool} {h : List ℕ} {cs ds : List Cell} {ws : List Written} → Part end b h cs ws ds → NoSeps ws
  part_seps (part_token p) = (refl, tt)
  part_seps (part_sep p) = tt
  part_seps (part_bracket k) = bracket_seps k

  body_seps : {end : Spot} {b : Bool} {h : List ℕ} {cs ds : List Cell} {ws : List Written} → Body end b h cs ws ds → NoSeps ws
  body_seps (body_part {ws = ws} {vs = vs} p r) = seps_append ws vs (part_seps p) (rest_seps r)
  body_seps (body_block {c = c} {ws = ws} p q s k) =
      seps_append (opener (role_of c.token.kind) c.token) _ (opener_seps (role_of c.token.kind) c.token)
      (refl, seps_append ws _ (block_seps k) (refl, tt))

  rest_seps : {end : Spot} {b : Bool} {h : List ℕ} {cs ds : List Cell} {ws : List Written} → Rest end b h cs ws ds → NoSeps ws
  rest_seps rest_end = tt
  rest_seps (rest_more p k) = body_seps k

  one_line_seps : {end : Spot} {b : Bool} {i : List ℕ} {cs ds : List Cell} {ws : List Written} → Line end b i cs ws ds → NoSeps ws
  one_line_seps (line {c = c} {ws = ws} p k) = line_seps c.token ws (body_seps k)

  block_seps : {end : Spot} {b : Bool} {i : List ℕ} {cs ds : List Cell} {ws : List Written} → Block end b i cs ws ds → NoSeps ws
  block_seps (block_last l e) = one_line_seps l
  block_seps (block_more {ws = ws} {vs = vs} l k) = seps_append ws vs (one_line_seps l) (block_seps k)

  lines_seps : {end : Spot} {cs ds : List Cell} {ws : List Written} → Lines end cs ws ds → NoSeps ws
  lines_seps lines_end = tt
  lines_seps (lines_more {ws = ws} {vs = vs} l m) = seps_append ws vs (one_line_seps l) (lines_seps m)

file_seps : {end : Spot} {cs : List Cell} {ws : List Written} → IsFile end cs ws → NoSeps ws
file_seps no_tokens = tt
file_seps (one_block k) = block_seps k

-- what stands between two toks is nothing or one Sep, and no Sep behind an Open or before a Close
data Middle (j k : Tok) (ms : List Tok) : Type 0 where
  nothing : ms ≡ [] → Middle j k ms
  one_sep : (s : Tok) → ms ≡ s ∷ [] → is_open j.kind ≡ false → is_close k.kind ≡ false → Middle j k ms

data AtMostOne (ms : List Tok) : Type 0 where
  none : ms ≡ [] → AtMostOne ms
  one : (s : Tok) → ms ≡ s ∷ [] → AtMostOne ms

one_of_gap : (gap : List Written) → AtMostOne (gap_sep gap)
one_of_gap [] = none refl
one_of_gap (tok k ∷ ws) = one_of_gap ws
one_of_gap (no_sep ∷ ws) = one_of_gap ws
one_of_gap (sep s ∷ ws) = by_else (has_no_sep ws) (one_of_gap ws)
  where
    by_else : (b : Bool) → AtMostOne (gap_sep ws) → AtMostOne (if b then gap_sep ws else s ∷ [])
    by_else true x = x
    by_else false x = one s refl

middle : (j k : Tok) (gap : List Written) → Middle j k (sep_between j gap k)
middle j k gap = by_kinds (is_open j.kind) (is_close k.kind) refl refl (one_of_gap gap)
  where
    by_kinds : (o c : Bool) → is_open j.kind ≡ o → is_close k.kind ≡ c → AtMostOne (gap_sep gap) →
        Middle j k (if o || c then [] else gap_sep gap)
    by_kinds true c p q x = nothing refl
    by_kinds false true p q x = nothing refl
    by_kinds false false p q (none e) = nothing e
    by_kinds false false p q (one s e) = one_sep s e p q

more_separates : (j : Tok) (before behind : List Tok) → Separates before behind → Separates (j ∷ before) behind
more_separates j before behind s = record {
  first = j ∷ s.first;
  left = s.left;
  right = s.right;
  last = s.last;
  before_is = ap (λ xs. j ∷ xs) s.before_is;
  behind_is = s.behind_is;
  no_open = s.no_open;
  no_close = s.no_close;
  no_sep_before = s.no_sep_before;
  no_sep_behind = s.no_sep_behind;
}

abbrev Stand : List Tok → Type 0
Stand ks = (before behind : List Tok) (s : Tok) → ks ≡ before ++ s ∷ behind → s.kind ≡ t.Sep → Separates before behind

tok_seps : (gap : List Written) (k : Tok) (ws : List Written) → NoSeps (gap ++ tok k ∷ ws) → (is_sep k.kind ≡ false) × NoSeps ws
tok_seps [] k ws a = a
tok_seps (tok j ∷ gap) k ws a = tok_seps gap k ws a.1
tok_seps (sep s ∷ gap) k ws a = tok_seps gap k ws a
tok_seps (no_sep ∷ gap) k ws a = tok_seps gap k ws a

no_such : (j s : Tok) → j ≡ s → is_sep j.kind ≡ false → s.kind ≡ t.Sep → ⊥
no_such j s e p q = let x = ap is_sep q in let y = ap (λ (z : Tok). is_sep z.kind) e in cc

stand_more : (j k : Tok) (ms ks : List Tok) → Middle j k ms → is_sep j.kind ≡ false → is_sep k.kind ≡ false → Stand (k ∷ ks) →
    Stand (j ∷ (ms ++ k ∷ ks))
stand_more j k ms ks m p q more [] behind s e x = absurd (no_such j s (cc) p x)
stand_more j k ms ks (nothing z) p q more (b ∷ before) behind s e x =
    let tail : ms ++ k ∷ ks ≡ before ++ s ∷ behind = cc in
    more_separates b before behind (more before behind s (ap (λ xs. xs ++ k ∷ ks) (sym z) ∙ tail) x)
stand_more j k ms ks (one_sep r z o c) p q more (b ∷ []) behind s e x =
    let tail : ms ++ k ∷ ks ≡ s ∷ behind = cc in
    let here : r ∷ k ∷ ks ≡ s ∷ behind = ap (λ xs. xs ++ k ∷ ks) (sym z) ∙ tail in
    let first : j ≡ b = cc in
    let rest : behind ≡ k ∷ ks = cc in
    record {
      first = [];
      left = b;
      right = k;
      last = ks;
      before_is = refl;
      behind_is = rest;
      no_open = subst (λ (y : Tok). is_open y.kind ≡ false) first o;
      no_close = c;
      no_sep_before = subst (λ (y : Tok). is_sep y.kind ≡ false) first p;
      no_sep_behind = q;
    }
stand_more j k ms ks (one_sep r z o c) p q more (b ∷ d ∷ before) behind s e x =
    let tail : ms ++ k ∷ ks ≡ d ∷ (before ++ s ∷ behind) = cc in
    let here : r ∷ k ∷ ks ≡ d ∷ (before ++ s ∷ behind) = ap (λ xs. xs ++ k ∷ ks) (sym z) ∙ tail in
    let rest : k ∷ ks ≡ before ++ s ∷ behind = cc in
    more_separates b (d ∷ before) behind (more_separates d before behind (more before behind s rest x))

one_stands : (j : Tok) → is_sep j.kind ≡ false → Stand (j ∷ [])
one_stands j p [] behind s e x = absurd (no_such j s (cc) p x)
one_stands j p (b ∷ []) behind s e x = absurd (cc)
one_stands j p (b ∷ c ∷ before) behind s e x = absurd (cc)

none_stands : Stand []
none_stands [] behind s e x = absurd (cc)
none_stands (b ∷ before) behind s e x = absurd (cc)

behind_stand : {j : Tok} {ws : List Written} {ks : List Tok} → SpacedBehind j ws ks → is_sep j.kind ≡ false → NoSeps ws → Stand (j ∷ ks)
behind_stand {j = j} (last_gap g) p a = one_stands j p
behind_stand {j = j} (next_tok {k = k} gap {ws = ws} {ks = ks} g r) p a =
    let n = tok_seps gap k ws a in
    stand_more j k (sep_between j gap k) ks (middle j k gap) p n.0 (behind_stand r n.0 n.1)

spaced_stand : {ws : List Written} {ks : List Tok} → Spaced ws ks → NoSeps ws → Stand ks
spaced_stand (only_gap g) a = none_stands
spaced_stand (first_tok {k = k} gap {ws = ws} g r) a = let n = tok_seps gap k ws a in behind_stand r n.0 n.1

pub seps_stand : SepsStand
seps_stand bytes tokens before behind s l x = spaced_stand l.written_out (file_seps l.block) before behind s refl x
