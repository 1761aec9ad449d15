-- What a walk writes to the file's end is a block: lines, and the whole file.
use Rattle.std.proofs.Common.{◌≡◌, Bool, true, false, not, ◌&&◌, ◌||◌, ◌⊎◌, inl, inr, List, [], ◌∷◌, ◌++◌, ℕ, Option, Some, None, refl, sym}
use Rattle.std.proofs.Common.{◌∙◌, ap, subst, append_assoc}
use Rattle.std.specs.Cmp.Lexicographic.{same_text}
use Rattle.std.proofs.lemmas.Bool.{or_cases}
use Rattle.verse_base.specs.declared.places.Place.{Place}
use Rattle.verse_base.proofs.Facts.{alone}
use Rattle.verse_layout.specs.declared.frames.Spot.{Spot}
use Rattle.verse_layout.specs.declared.roles.Region.{Region}
use Rattle.verse_layout.specs.declared.roles.Region.TheVariants as region
use Rattle.verse_layout.specs.Roles.{role_of, has_lines, in_braces, is_same_region, is_brace_close, is_bracket_close}
use Rattle.verse_layout.specs.Cells.{Cell, spot_of, spot_at, ends_line, is_same, is_front, is_proper}
use Rattle.verse_layout.specs.Written.{Written}
use Rattle.verse_layout.specs.Blocks.{line_sep, open_at, close_at, leaves, ends_block, rest_end, rest_more, Line, line, Block, lines_more}
use Rattle.verse_layout.specs.Blocks.{IsFile, no_tokens, one_block}
use Rattle.verse_layout.specs.Frames.{Open, Walk, write, walk, on_token, before_token, line_start, region_at, leave, lead, indent, block_in}
use Rattle.verse_layout.specs.Frames.{is_block, innermost, at_end, closes, file_start}
use Rattle.verse_layout.proofs.Walks.{at_line, go_token, if_true, if_false, same_region, line_begins, brace_start, no_start}
use Rattle.verse_layout.proofs.Complete.{block_lines, block_braces, block_is, block_no_file, block_no_brace, body_begins, is_brace}
use Rattle.verse_layout.proofs.Nests.{Tail, tail_end, tail_more, line_tail, Nest, nest_line, nest_round, Out, out_file, out_block}
use Rattle.verse_layout.proofs.Nests.{out_brace, Start, start_line, start_round, start_brace, Opened, Nested, nested_file, nested_block}
use Rattle.verse_layout.proofs.Nests.{nested_bracket, out_lines}
use Rattle.verse_layout.proofs.Sound.{by_if, State, Sound, Outs, token_sound}

-- a line stands before the lines of its block, or in braces before the further lines
add_line : {end : Spot} {i : List ℕ} {f : Open} {fs : List Open} {cs ds : List Cell} {vs us : List Written} →
    (f.region ≡ region.Brace) ⊎ (f.text ≡ i) → Line end (in_braces f.region) i cs vs ds → Out end (f ∷ fs) ds us →
    Out end (f ∷ fs) cs (vs ++ us)
add_line {end = end} {cs = cs} {ds = ds} {vs = vs} (inl r) l (out_file e x) = absurd (cc)
add_line {end = end} {i = i} {f = f} {cs = cs} {ds = ds} {vs = vs} (inr q) l (out_file e x) =
    let here : Line end false f.text cs vs ds =
    subst (λ j. Line end false j cs vs ds) (sym q) (subst (λ b. Line end b i cs vs ds) (ap in_braces e) l) in
    out_file e (tail_more (line_tail here x))
add_line (inl r) l (out_block e x o g) = absurd (let y = ap is_block r in cc)
add_line {end = end} {f = f} {cs = cs} {ds = ds} {vs = vs} (inr q) l (out_block {ds = es} {vs = ls} {us = us} e x o g) =
    let here : Line end (in_braces f.region) f.text cs vs ds = subst (λ j. Line end (in_braces f.region) j cs vs ds) (sym q) l in
    out_block e (tail_more (line_tail here x)) o (ap (λ y. vs ++ y) g ∙ sym (append_assoc vs ls (close_at (spot_at end es) ∷ us)))
add_line {end = end} {i = i} {cs = cs} {ds = ds} {vs = vs} a l (out_brace {vs = ls} e x s n g) =
    let here : Line end true i cs vs ds = subst (λ b. Line end b i cs vs ds) (ap in_braces e) l in
    out_brace e (lines_more here x) s n (ap (λ y. vs ++ y) g ∙ sym (append_assoc vs ls _))

-- a line that is met is a line of its block
start_out : (end : Spot) (i : List ℕ) (f : Open) (fs : List Open) (c : Cell) (cs : List Cell) (ws : List Written) → c.line ≡ Some i →
    is_brace_close (role_of c.token.kind) ≡ false → has_lines f.region ≡ true →
    (f.region ≡ region.Brace) ⊎ (f.text ≡ i) → Start end i (f ∷ fs) (c ∷ cs) ws → Out end (f ∷ fs) (c ∷ cs) (line_sep c.token ∷ ws)
start_out end i f fs c cs ws l p e a (start_line {vs = vs} {us = us} g body o q) =
    subst (λ y. Out end (f ∷ fs) (c ∷ cs) (line_sep c.token ∷ y)) (sym q) (add_line a (line l body) o)
start_out end i f fs c cs ws l p e a (start_round g x s n q) = absurd (cc)
start_out end i f fs c cs ws l p e a (start_brace s o) = absurd (let x = is_brace _ s in cc)

nested_block_lines : (f : Open) (fs : List Open) → is_block f.region ≡ true → Nested (f ∷ fs) →
    (has_lines (region_at fs) ≡ true) × Nested fs
nested_block_lines f fs e (nested_file g) = absurd (let x = ap is_block g in cc)
nested_block_lines f fs e (nested_block g l b n) = (l, n)
nested_block_lines f fs e (nested_bracket a b n) = absurd (cc)

leave_end : (b : Bool) (i j : List ℕ) (c : Cell) (cs : List Cell) → c.line ≡ Some i → is_brace_close (role_of c.token.kind) ≡ false →
    is_front j i ≡ false → ends_block b j (c ∷ cs) ≡ true
leave_end b i j c cs l p e = if_false (is_brace_close (role_of c.token.kind)) b _ p ∙ ap (leaves j) l ∙ ap not e

-- a line that leaves blocks
leave_sound : (end : Spot) (i : List ℕ) (fs : List Open) (c : Cell) (cs : List Cell) → Sound end cs → Nested fs →
    has_lines (region_at fs) ≡ true → c.line ≡ Some i → is_brace_close (role_of c.token.kind) ≡ false →
    Outs end fs (c ∷ cs) (leave fs c.token i (λ gs. write (line_sep c.token) (go_token end i gs (c ∷ cs))))
leave_sound end i [] c cs ih n e l p = absurd (no_frames n)
  where
    no_frames : Nested [] → ⊥
    no_frames x = elim x [ ]
leave_sound end i (f ∷ fs) c cs ih n e l p =
    by_if (Outs end (f ∷ fs) (c ∷ cs)) (is_same_region f.region region.Brace || is_same f.text i) _ _
    (λ a. λ s. start_out end i f fs c cs _ l p e (here (or_cases (is_same_region f.region region.Brace) (is_same f.text i) a))
    (token_sound end i f fs c cs ih n s))
    (λ a. by_if (Outs end (f ∷ fs) (c ∷ cs)) (is_block f.region && not (is_front f.text i)) _ _
    (λ b. λ s.
    let x = alone (is_block f.region) (is_front f.text i) b in
    let y = nested_block_lines f fs x.0 n in
    out_block x.0 (tail_end (leave_end _ i f.text c cs l p x.1)) (leave_sound end i fs c cs ih y.1 y.0 l p s) refl)
    (λ b s. absurd (cc)))
  where
    here : (is_same_region f.region region.Brace ≡ true) ⊎ (is_same f.text i ≡ true) → (f.region ≡ region.Brace) ⊎ (f.text ≡ i)
    here (inl q) = inl (same_region f.region region.Brace q)
    here (inr q) = inr (same_text f.text i (sym q))

-- the first line of a block
block_out : (end : Spot) (i : List ℕ) (g : Open) (f : Open) (fs : List Open) (c : Cell) (cs ds : List Cell) (h : List ℕ)
    (ws us : List Written) → g.region ≡ block_in f.region → g.text ≡ i → is_proper h i ≡ true →
    Line end (in_braces g.region) i (c ∷ cs) ws ds → Out end (g ∷ f ∷ fs) ds us →
    Opened end h (f ∷ fs) (c ∷ cs) (open_at (spot_of c.token) ∷ (ws ++ us))
block_out end i g f fs c cs ds h ws us r t p l (out_file e x) =
    absurd (let y = block_no_file f.region in let z = ap (λ v. is_same_region v region.File) (sym r ∙ e) in cc)
block_out end i g f fs c cs ds h ws us r t p l (out_brace e x s n q) =
    absurd (let y = block_no_brace f.region in let z = ap (λ v. is_same_region v region.Brace) (sym r ∙ e) in cc)
block_out end i g f fs c cs ds h ws us r t p l (out_block {ds = es} {vs = vs} {us = xs} e x o q) =
    let inside : in_braces g.region ≡ in_braces f.region = ap in_braces r ∙ block_braces f.region (in_braces f.region) refl in
    let tail : Tail end (in_braces g.region) i ds vs es = subst (λ j. Tail end (in_braces g.region) j ds vs es) t x in
    record {
      j = i;
      ds = es;
      vs = ws ++ vs;
      us = xs;
      proper = p;
      block = subst (λ b. Block end b i (c ∷ cs) (ws ++ vs) es) inside (line_tail l tail);
      out = o;
      toks = ap (λ y. open_at (spot_of c.token) ∷ y) (ap (λ y. ws ++ y) q ∙ sym (append_assoc ws vs (close_at (spot_at end es) ∷ xs)));
    }

open_start : (end : Spot) (i h : List ℕ) (g f : Open) (fs : List Open) (c : Cell) (cs : List Cell) (ws : List Written) →
    g.region ≡ block_in f.region → g.text ≡ i → is_proper h i ≡ true → c.line ≡ Some i → is_brace_close (role_of c.token.kind) ≡ false →
    Start end i (g ∷ f ∷ fs) (c ∷ cs) ws → Opened end h (f ∷ fs) (c ∷ cs) (open_at (spot_of c.token) ∷ line_sep c.token ∷ ws)
open_start end i h g f fs c cs ws r t p l q (start_line {ds = ds} {vs = vs} {us = us} e body o x) =
    subst (λ y. Opened end h (f ∷ fs) (c ∷ cs) (open_at (spot_of c.token) ∷ line_sep c.token ∷ y)) (sym x)
    (block_out end i g f fs c cs ds h _ us r t p (line l body) o)
open_start end i h g f fs c cs ws r t p l q (start_round e x s n y) = absurd (let v = block_lines f.region in let w = ap has_lines r in cc)
open_start end i h g f fs c cs ws r t p l q (start_brace s o) = absurd (let x = is_brace _ s in cc)

indent_sound : (end : Spot) (h i : List ℕ) (f : Open) (fs : List Open) (c : Cell) (cs : List Cell) → Sound end cs → Nested (f ∷ fs) →
    has_lines f.region ≡ true → c.line ≡ Some i → is_brace_close (role_of c.token.kind) ≡ false →
    (indent (at_line true h (f ∷ fs)) c.token i (λ g. on_token (ends_line cs) g c.token (λ k. walk end k cs))).stop ≡ None →
    Opened end h (f ∷ fs) (c ∷ cs) ((indent (at_line true h (f ∷ fs)) c.token i
    (λ g. on_token (ends_line cs) g c.token (λ k. walk end k cs))).written)
indent_sound end h i f fs c cs ih n e l p =
    let P : Walk → Type 0 = λ x. x.stop ≡ None → Opened end h (f ∷ fs) (c ∷ cs) x.written in
    let g : Open = record { region = block_in f.region; text = i; place = c.token.place } in
    let nested : Nested (g ∷ f ∷ fs) = nested_block (block_is f.region) e (block_braces f.region (in_braces f.region) refl) n in
    by_if P (is_proper h i) _ _
    (λ q. by_if P (is_bracket_close (role_of c.token.kind)) _ _
    (λ a s. absurd (cc))
    (λ a. λ s. open_start end i h g f fs c cs _ refl refl q l p (token_sound end i g (f ∷ fs) c cs ih nested s)))
    (λ q s. absurd (cc))

block_no_file_is : (r : Region) → is_block r ≡ true → is_same_region r region.File ≡ false
block_no_file_is region.Block p = refl
block_no_file_is region.BraceBlock p = refl
block_no_file_is r p = absurd (cc)

block_inner : (f : Open) (fs : List Open) → is_block f.region ≡ true → innermost (f ∷ fs) ≡ None → innermost fs ≡ None
block_inner f fs g e = sym (if_true (is_block f.region) (innermost fs) (Some f.place) g) ∙
    sym (if_false (is_same_region f.region region.File) None _ (block_no_file_is f.region g)) ∙ e

-- the file's end
no_braces_left : (fs : List Open) → Nested fs → innermost fs ≡ None → (has_lines (region_at fs) ≡ true) × (in_braces (region_at fs) ≡ false)
no_braces_left [] n e = absurd (elim n [ ])
no_braces_left (f ∷ fs) (nested_file g) e = (ap has_lines g, ap in_braces g)
no_braces_left (f ∷ fs) (nested_block g l b n) e =
    let lines : has_lines f.region ≡ true = by_block f.region g in
    (lines, b ∙ (no_braces_left fs n (block_inner f fs g e)).1)
  where
    by_block : (r : Region) → is_block r ≡ true → has_lines r ≡ true
    by_block region.Block p = refl
    by_block region.BraceBlock p = refl
    by_block r p = absurd (cc)
no_braces_left (f ∷ fs) (nested_bracket a b n) e =
    let x : Some f.place ≡ None = sym (if_false (is_block f.region) (innermost fs) (Some f.place) a) ∙
    sym (if_false (is_same_region f.region region.File) None _ b) ∙ e in
    absurd (cc)

end_out : (end : Spot) (fs : List Open) → Nested fs → innermost fs ≡ None → Outs end fs [] (closes end fs)
end_out end [] n e = absurd (elim n [ ])
end_out end (f ∷ fs) (nested_file g) e =
    by_if (Outs end (f ∷ []) []) (is_block f.region) _ _ (λ b. absurd (let x = ap is_block g in cc)) (λ b s. out_file g (tail_end refl))
end_out end (f ∷ fs) (nested_bracket a b n) e =
    absurd (let x = no_braces_left (f ∷ fs) (nested_bracket a b n) e in let y : Some f.place ≡ None =
    sym (if_false (is_block f.region) (innermost fs) (Some f.place) a) ∙ sym (if_false (is_same_region f.region region.File) None _ b) ∙
    e in cc)
end_out end (f ∷ fs) (nested_block g l b n) e =
    let x = no_braces_left (f ∷ fs) (nested_block g l b n) e in
    by_if (Outs end (f ∷ fs) []) (is_block f.region) _ _
    (λ y. λ s. out_block g (tail_end (ap not x.1)) (end_out end fs n (block_inner f fs g e) s) refl)
    (λ y. absurd (cc))

end_sound : (end : Spot) (o : Bool) (h : List ℕ) (fs : List Open) (p : Option Place) → Nested fs → innermost fs ≡ p →
    (at_end p end (at_line o h fs)).stop ≡ None → State o end h fs [] ((at_end p end (at_line o h fs)).written)
end_sound end o h fs (Some place) n e s = absurd (cc)
end_sound end true h fs None n e s = absurd (cc)
end_sound end false h [] None n e s = absurd (elim n [ ])
end_sound end false h (f ∷ fs) None n e s = nest_line (no_braces_left (f ∷ fs) n e).0 rest_end (end_out end (f ∷ fs) n e s) refl

-- a token that begins no line goes on
start_nest : (end : Spot) (h : List ℕ) (f : Open) (fs : List Open) (c : Cell) (cs : List Cell) (ws : List Written) →
    (has_lines f.region ≡ true → is_brace_close (role_of c.token.kind) ≡ false → c.line ≡ None) → Start end h (f ∷ fs) (c ∷ cs) ws →
    Nest end h (f ∷ fs) (c ∷ cs) ws
start_nest end h f fs c cs ws q (start_line e body o g) = nest_line e (rest_more (q e (body_begins body c cs refl).brace) body) o g
start_nest end h f fs c cs ws q (start_round e i s n g) = nest_round e i s n g
start_nest end h f fs c cs ws q (start_brace s o) = nest_line (out_lines o) rest_end o refl

-- what stands before a token
before_sound : (end : Spot) (o : Bool) (h : List ℕ) (f : Open) (fs : List Open) (c : Cell) (cs : List Cell) → Sound end cs →
    Nested (f ∷ fs) → (l : Option (List ℕ)) → line_start (f ∷ fs) c ≡ l →
    (before_token l (at_line o h (f ∷ fs)) c.token (λ g. on_token (ends_line cs) g c.token (λ k. walk end k cs))).stop ≡ None →
    State o end h (f ∷ fs) (c ∷ cs) ((before_token l (at_line o h (f ∷ fs)) c.token
    (λ g. on_token (ends_line cs) g c.token (λ k. walk end k cs))).written)
before_sound end true h f fs c cs ih n None e s = absurd (cc)
before_sound end false h f fs c cs ih n None e s =
    start_nest end h f fs c cs _ (λ l p. sym (line_begins f fs c l p) ∙ e) (token_sound end h f fs c cs ih n s)
before_sound end o h f fs c cs ih n (Some i) e s = by_start (has_lines f.region) (is_brace_close (role_of c.token.kind)) refl refl o s
  where
    by_start : (a b : Bool) → has_lines f.region ≡ a → is_brace_close (role_of c.token.kind) ≡ b → (v : Bool) →
        (lead (at_line v h (f ∷ fs)) c.token i (λ g. on_token (ends_line cs) g c.token (λ k. walk end k cs))).stop ≡ None →
        State v end h (f ∷ fs) (c ∷ cs) ((lead (at_line v h (f ∷ fs)) c.token i
        (λ g. on_token (ends_line cs) g c.token (λ k. walk end k cs))).written)
    by_start false b x y v z = absurd (let w = no_start f fs c x in cc)
    by_start true true x y v z = absurd (let w = brace_start (f ∷ fs) c y in cc)
    by_start true false x y true z = indent_sound end h i f fs c cs ih n x (sym (line_begins f fs c x y) ∙ e) y z
    by_start true false x y false z = nest_line x rest_end (leave_sound end i (f ∷ fs) c cs ih n x (sym (line_begins f fs c x y) ∙ e) y z)
        refl

sound : (end : Spot) (cs : List Cell) → Sound end cs
sound end [] o h fs n s = end_sound end o h fs (innermost fs) n refl s
sound end (c ∷ cs) o h [] n s = absurd (elim n [ ])
sound end (c ∷ cs) o h (f ∷ fs) n s = before_sound end o h f fs c cs (sound end cs) n (line_start (f ∷ fs) c) refl s

file_out : (end : Spot) (i : List ℕ) (f : Open) (cs : List Cell) (ws : List Written) → f.region ≡ region.File → Out end (f ∷ []) cs ws →
    Tail end false f.text cs ws []
file_out end i f cs ws r (out_file e x) = x
file_out end i f cs ws r (out_block e x o g) = absurd (elim o [ ])
file_out end i f cs ws r (out_brace e x s n g) = absurd (cc)

whole_sound : (end : Spot) (i : List ℕ) (c : Cell) (cs : List Cell) (ws : List Written) → c.line ≡ Some i →
    is_brace_close (role_of c.token.kind) ≡ false →
    Start end i (record { region = region.File; text = i; place = c.token.place } ∷ []) (c ∷ cs) ws →
    IsFile end (c ∷ cs) (line_sep c.token ∷ ws)
whole_sound end i c cs ws l p (start_line {ds = ds} {vs = vs} {us = us} e body o g) =
    subst (λ y. IsFile end (c ∷ cs) (line_sep c.token ∷ y)) (sym g) (one_block (line_tail (line l body) (file_out end i _ ds us refl o)))
whole_sound end i c cs ws l p (start_round e x s n g) = absurd (cc)
whole_sound end i c cs ws l p (start_brace s o) = absurd (let x = is_brace _ s in cc)

-- a walk that is not refused writes out the file's block
pub file_sound : (end : Spot) (cs : List Cell) → (walk end file_start cs).stop ≡ None → IsFile end cs ((walk end file_start cs).written)
file_sound end [] s = no_tokens
file_sound end (c ∷ cs) s = by_start (is_brace_close (role_of c.token.kind)) refl c.line refl (line_start [] c) refl s
  where
    by_start : (b : Bool) → is_brace_close (role_of c.token.kind) ≡ b → (l : Option (List ℕ)) → c.line ≡ l → (k : Option (List ℕ)) →
        line_start [] c ≡ k →
        (before_token k file_start c.token (λ g. on_token (ends_line cs) g c.token (λ k. walk end k cs))).stop ≡ None →
        IsFile end (c ∷ cs) ((before_token k file_start c.token (λ g. on_token (ends_line cs) g c.token (λ k. walk end k cs))).written)
    by_start b p l q None r x = absurd (cc)
    by_start true p l q (Some i) r x = absurd (let w = brace_start [] c p in cc)
    by_start false p l q (Some i) r x =
        let here : c.line ≡ Some i = sym (if_false (is_brace_close (role_of c.token.kind)) None c.line p) ∙ r in
        whole_sound end i c cs _ here p (token_sound end i (record { region = region.File; text = i; place = c.token.place }) [] c cs
        (sound end cs) (nested_file refl) x)
