-- What a walk writes to the file's end is a block: one token.
use Rattle.std.proofs.Common.{◌≡◌, Bool, true, false, not, ◌&&◌, ◌⊎◌, inl, inr, List, [], ◌∷◌, ◌++◌, ℕ, None, refl, sym, ◌∙◌, ap, subst}
use Rattle.std.proofs.Common.{append_assoc, if◌then◌else◌}
use Rattle.std.proofs.lemmas.Bool.{and_parts}
use Rattle.verse_base.proofs.Facts.{not_second}
use Rattle.verse_layout.specs.declared.frames.Spot.{Spot}
use Rattle.verse_layout.specs.declared.toks.TokKind.TheVariants as t
use Rattle.verse_layout.specs.declared.roles.Role.{Role}
use Rattle.verse_layout.specs.declared.roles.Role.TheVariants as role
use Rattle.verse_layout.specs.declared.roles.Region.{Region}
use Rattle.verse_layout.specs.declared.roles.Region.TheVariants as region
use Rattle.verse_layout.specs.Roles.{role_of, has_lines, in_braces, is_same_region, is_brace_close}
use Rattle.verse_layout.specs.Cells.{Cell, spot_at, tok_as, passed, ends_line}
use Rattle.verse_layout.specs.Written.{Written, tok}
use Rattle.verse_layout.specs.Blocks.{is_no_bracket, separates, stays, opener, open_at, close_at, ends_block, Inside, inside_end}
use Rattle.verse_layout.specs.Blocks.{inside_token, round, braces, Part, part_token, part_sep, body_block, lines_end, Rest, is_opener}
use Rattle.verse_layout.specs.Frames.{Open, Walk, write, walk, on_role, is_block, divided, after_colon, close}
use Rattle.verse_layout.proofs.Walks.{at_line, go_token, if_true, if_false, same_region}
use Rattle.verse_layout.proofs.Complete.{no_braces, no_brace, is_brace}
use Rattle.verse_layout.proofs.Nests.{tail_end, Nest, nest_line, nest_round, Out, out_file, out_block, out_brace, Start, start_line}
use Rattle.verse_layout.proofs.Nests.{start_round, start_brace, Opened, Nested, nested_file, nested_block, nested_bracket, add_part}
use Rattle.verse_layout.proofs.Nests.{add_bracket, no_opens, no_closes}

pub by_if : (P : Walk → Type 0) (b : Bool) (x y : Walk) → (b ≡ true → P x) → (b ≡ false → P y) → P (if b then x else y)
by_if P true x y p q = p refl
by_if P false x y p q = q refl

abbrev pub State : Bool → Spot → List ℕ → List Open → List Cell → List Written → Type 0
State true end h fs cs ws = Opened end h fs cs ws
State false end h fs cs ws = Nest end h fs cs ws

-- every walk over these tokens that is not refused is sound
abbrev pub Sound : Spot → List Cell → Type 0
Sound end cs = (o : Bool) (h : List ℕ) (fs : List Open) → Nested fs → (walk end (at_line o h fs) cs).stop ≡ None →
    State o end h fs cs ((walk end (at_line o h fs) cs).written)

abbrev pub Starts : Spot → List ℕ → List Open → List Cell → Walk → Type 0
Starts end h fs cs x = x.stop ≡ None → Start end h fs cs x.written

abbrev pub Outs : Spot → List Open → List Cell → Walk → Type 0
Outs end fs cs x = x.stop ≡ None → Out end fs cs x.written

-- a token that is no bracket, in a bracket
inside_any : {end : Spot} {h : List ℕ} (c : Cell) (cs : List Cell) → is_no_bracket (role_of c.token.kind) ≡ true →
    (vs : List Written) (es : List Cell) → Inside end h cs vs es → Inside end h (c ∷ cs) (tok (passed c.token) ∷ vs) es
inside_any c cs p vs es i = inside_token p i

no_bracket : (r s : Role) → r ≡ s → is_no_bracket s ≡ true → is_no_bracket r ≡ true
no_bracket r s e p = ap is_no_bracket e ∙ p

semicolon_part : (end : Spot) (h : List ℕ) (b v : Bool) (c : Cell) (cs : List Cell) → role_of c.token.kind ≡ role.Semicolon → v ≡ true →
    Part end b h (c ∷ cs) (divided v c.token ∷ []) cs
semicolon_part end h b v c cs p e = subst (λ x. Part end b h (c ∷ cs) (divided x c.token ∷ []) cs) (sym e) (part_sep (ap (separates b) p))

comma_part : (end : Spot) (h : List ℕ) (b : Bool) (c : Cell) (cs : List Cell) → role_of c.token.kind ≡ role.Comma →
    Part end b h (c ∷ cs) (divided b c.token ∷ []) cs
comma_part end h true c cs p = part_sep (ap (separates true) p)
comma_part end h false c cs p = part_token (ap (stays false (ends_line cs)) p)

divided_inside : {end : Spot} {h : List ℕ} (v : Bool) (c : Cell) (cs : List Cell) → v ≡ false →
    is_no_bracket (role_of c.token.kind) ≡ true → (vs : List Written) (es : List Cell) → Inside end h cs vs es →
    Inside end h (c ∷ cs) (divided v c.token ∷ vs) es
divided_inside {end = end} {h = h} v c cs e p vs es i =
    subst (λ x. Inside end h (c ∷ cs) (divided x c.token ∷ vs) es) (sym e) (inside_token p i)

-- the block behind an opener is a part of its line
opened_start : (end : Spot) (h : List ℕ) (f : Open) (fs : List Open) (c : Cell) (cs : List Cell) (ws : List Written) (r : Role) →
    role_of c.token.kind ≡ r → (r ≡ role.Colon) ⊎ (r ≡ role.Equals) → has_lines f.region ≡ true → ends_line cs ≡ true →
    Opened end h (f ∷ fs) cs ws → Start end h (f ∷ fs) (c ∷ cs) (opener r c.token ++ ws)
opened_start end h f fs c cs ws r p q e g x =
    let body = body_block {end = end} {b = in_braces f.region} {h = h} {j = x.j} {c = c} {cs = cs} {ds = x.ds} {ws = x.vs}
    (opens p q) g x.proper x.block in
    start_line e body x.out
    (ap (λ us. opener r c.token ++ us) x.toks ∙ ap (λ y. opener r c.token ++ (open_at (spot_at end cs) ∷ y))
    (sym (append_assoc x.vs (close_at (spot_at end x.ds) ∷ []) x.us))
    ∙ sym (append_assoc (opener r c.token) (open_at (spot_at end cs) ∷ (x.vs ++ close_at (spot_at end x.ds) ∷ [])) x.us)
    ∙ ap (λ y. (opener y c.token ++ open_at (spot_at end cs) ∷ (x.vs ++ close_at (spot_at end x.ds) ∷ [])) ++ x.us) (sym p))
  where
    opens : role_of c.token.kind ≡ r → (r ≡ role.Colon) ⊎ (r ≡ role.Equals) → is_opener (role_of c.token.kind) ≡ true
    opens a (inl b) = ap is_opener (a ∙ b)
    opens a (inr b) = ap is_opener (a ∙ b)

not_is : (b : Bool) → b ≡ false → not b ≡ true
not_is b e = ap not e

colon_sound : (end : Spot) (h : List ℕ) (f : Open) (fs : List Open) (c : Cell) (cs : List Cell) → Sound end cs → Nested (f ∷ fs) →
    role_of c.token.kind ≡ role.Colon → (v : Bool) → (has_lines f.region && ends_line cs) ≡ v →
    Starts end h (f ∷ fs) (c ∷ cs) (after_colon v c.token (walk end (at_line v h (f ∷ fs)) cs))
colon_sound end h f fs c cs ih n p true e = λ s. let x = and_parts _ _ e in
    opened_start end h f fs c cs _ role.Colon p (inl refl) x.0 x.1 (ih true h (f ∷ fs) n s)
colon_sound end h f fs c cs ih n p false e = λ s.
    add_part (tok (passed c.token)) (λ l. part_token (ap (stays (in_braces f.region) (ends_line cs)) p ∙ not_is _ (not_second _ _ e l)))
    (λ l. inside_any c cs (no_bracket _ _ p refl)) (ih false h (f ∷ fs) n s)

equals_sound : (end : Spot) (h : List ℕ) (f : Open) (fs : List Open) (c : Cell) (cs : List Cell) → Sound end cs → Nested (f ∷ fs) →
    role_of c.token.kind ≡ role.Equals → (v : Bool) → (has_lines f.region && ends_line cs) ≡ v →
    Starts end h (f ∷ fs) (c ∷ cs) (write (tok (passed c.token)) (walk end (at_line v h (f ∷ fs)) cs))
equals_sound end h f fs c cs ih n p true e = λ s. let x = and_parts _ _ e in
    opened_start end h f fs c cs _ role.Equals p (inr refl) x.0 x.1 (ih true h (f ∷ fs) n s)
equals_sound end h f fs c cs ih n p false e = λ s.
    add_part (tok (passed c.token)) (λ l. part_token (ap (stays (in_braces f.region) (ends_line cs)) p ∙ not_is _ (not_second _ _ e l)))
    (λ l. inside_any c cs (no_bracket _ _ p refl)) (ih false h (f ∷ fs) n s)

-- an opening bracket
round_sound : (end : Spot) (h : List ℕ) (r : Region) (f : Open) (fs : List Open) (c : Cell) (cs : List Cell) (ws : List Written) →
    role_of c.token.kind ≡ role.Opens r → has_lines r ≡ false →
    Nest end h (record { region = r; text = h; place = c.token.place } ∷ f ∷ fs) cs ws →
    Start end h (f ∷ fs) (c ∷ cs) (tok (passed c.token) ∷ ws)
round_sound end h r f fs c cs ws p e (nest_line l x o g) = absurd (cc)
round_sound end h r f fs c cs ws p e (nest_round {c = d} {vs = vs} {us = us} l i s n g) =
    let start = add_bracket (round p e i s) n in
    subst (Start end h (f ∷ fs) (c ∷ cs)) (ap (λ x. tok (passed c.token) ∷ x) (append_assoc vs (tok (passed d.token) ∷ []) us ∙ sym g))
    start

brace_out : (end : Spot) (h : List ℕ) (f : Open) (fs : List Open) (c : Cell) (cs ds : List Cell) (ws vs us : List Written) →
    role_of c.token.kind ≡ role.Opens region.Brace → Rest end true h cs vs ds →
    ws ≡ vs ++ us → Out end (record { region = region.Brace; text = h; place = c.token.place } ∷ f ∷ fs) ds us →
    Start end h (f ∷ fs) (c ∷ cs) (tok (tok_as t.Open c.token) ∷ ws)
brace_out end h f fs c cs ds ws vs us p r g (out_file e x) = absurd (cc)
brace_out end h f fs c cs ds ws vs us p r g (out_block e x o q) = absurd (cc)
brace_out end h f fs c cs ds ws vs us p r g (out_brace {c = d} {vs = ls} {us = xs} e l s n q) =
    let start = add_bracket (braces p r l s) n in
    let shape : (vs ++ (ls ++ tok (tok_as t.Close d.token) ∷ [])) ++ xs ≡ ws =
    append_assoc vs (ls ++ tok (tok_as t.Close d.token) ∷ []) xs ∙
    ap (λ x. vs ++ x) (append_assoc ls (tok (tok_as t.Close d.token) ∷ []) xs ∙ sym q) ∙ sym g in
    subst (Start end h (f ∷ fs) (c ∷ cs)) (ap (λ x. tok (tok_as t.Open c.token) ∷ x) shape) start

brace_sound : (end : Spot) (h : List ℕ) (f : Open) (fs : List Open) (c : Cell) (cs : List Cell) (ws : List Written) →
    role_of c.token.kind ≡ role.Opens region.Brace →
    Nest end h (record { region = region.Brace; text = h; place = c.token.place } ∷ f ∷ fs) cs ws →
    Start end h (f ∷ fs) (c ∷ cs) (tok (tok_as t.Open c.token) ∷ ws)
brace_sound end h f fs c cs ws p (nest_line l x o g) = brace_out end h f fs c cs _ ws _ _ p x g o
brace_sound end h f fs c cs ws p (nest_round l i s n g) = absurd (cc)

-- a closing bracket
abbrev Closing : (end : Spot) (h : List ℕ) (r : Region) (f : Open) (fs : List Open) (c : Cell) (cs : List Cell) → Type 0
Closing end h r f fs c cs = Starts end h (f ∷ fs) (c ∷ cs) (close r (f ∷ fs) c.token (λ g. walk end g cs))

nested_behind : (f : Open) (fs : List Open) → has_lines f.region ≡ false → Nested (f ∷ fs) → Nested fs
nested_behind f fs e (nested_file g) = absurd (let x = ap has_lines g in cc)
nested_behind f fs e (nested_block g l b n) = n
nested_behind f fs e (nested_bracket a b n) = n

-- a round or square one, or the end of a hole
round_close : (end : Spot) (h : List ℕ) (r : Region) (f : Open) (fs : List Open) (c : Cell) (cs : List Cell) → Sound end cs →
    Nested (f ∷ fs) → has_lines r ≡ false → role_of c.token.kind ≡ role.Closes r → Closing end h r f fs c cs
round_close end h r f fs c cs ih n e p =
    by_if (Starts end h (f ∷ fs) (c ∷ cs)) (is_same_region f.region r) _ _
    (λ same. λ s.
    let q : f.region ≡ r = same_region f.region r same in
    let l : has_lines f.region ≡ false = ap has_lines q ∙ e in
    let start : Start end h (f ∷ fs) (c ∷ cs) (tok (passed c.token) ∷ (walk end (at_line false f.text fs) cs).written) =
    start_round l inside_end (p ∙ ap role.Closes (sym q)) (ih false f.text fs (nested_behind f fs l n) s) refl in
    subst (λ k. Start end h (f ∷ fs) (c ∷ cs) (tok k ∷ (walk end (at_line false f.text fs) cs).written))
    (sym (if_false (is_same_region r region.Brace) (tok_as t.Close c.token) (passed c.token) (no_brace r e))) start)
    (λ other. by_if (Starts end h (f ∷ fs) (c ∷ cs)) (is_same_region r region.Brace && is_same_region f.region region.BraceBlock) _ _
    (λ b. let x = and_parts (is_same_region r region.Brace) (is_same_region f.region region.BraceBlock) b in let y = no_brace r e in
    absurd (cc))
    (λ b s. absurd (cc)))

block_end : (b : Bool) (i : List ℕ) (c : Cell) (cs : List Cell) → role_of c.token.kind ≡ role.Closes region.Brace → b ≡ true →
    ends_block b i (c ∷ cs) ≡ true
block_end b i c cs p e = if_true (is_brace_close (role_of c.token.kind)) b _ (is_brace _ p) ∙ e

region_brace_block : (f : Open) → f.region ≡ region.BraceBlock → (is_block f.region ≡ true) × (in_braces f.region ≡ true)
region_brace_block f e = (ap is_block e, ap in_braces e)

nested_inner : (f : Open) (fs : List Open) → is_block f.region ≡ true → Nested (f ∷ fs) → Nested fs
nested_inner f fs e (nested_file g) = absurd (let x = ap is_block g in cc)
nested_inner f fs e (nested_block g l b n) = n
nested_inner f fs e (nested_bracket a b n) = n

nested_brace : (f : Open) (fs : List Open) → f.region ≡ region.Brace → Nested (f ∷ fs) → Nested fs
nested_brace f fs e (nested_file g) = absurd (cc)
nested_brace f fs e (nested_block g l b n) = n
nested_brace f fs e (nested_bracket a b n) = n

-- a `}`, which closes the blocks in its braces first
brace_close : (end : Spot) (fs : List Open) (c : Cell) (cs : List Cell) → Sound end cs → Nested fs →
    role_of c.token.kind ≡ role.Closes region.Brace →
    Outs end fs (c ∷ cs) (close region.Brace fs c.token (λ g. walk end g cs))
brace_close end [] c cs ih n p = λ s. absurd (cc)
brace_close end (f ∷ fs) c cs ih n p =
    by_if (Outs end (f ∷ fs) (c ∷ cs)) (is_same_region f.region region.Brace) _ _
    (λ same. λ s. let q = same_region f.region region.Brace same in
    out_brace q lines_end p (ih false f.text fs (nested_brace f fs q n) s) refl)
    (λ other. by_if (Outs end (f ∷ fs) (c ∷ cs)) (is_same_region f.region region.BraceBlock) _ _
    (λ same. λ s.
    let q = region_brace_block f (same_region f.region region.BraceBlock same) in
    out_block q.0 (tail_end (block_end _ f.text c cs p q.1)) (brace_close end fs c cs ih (nested_inner f fs q.0 n) p s) refl)
    (λ b s. absurd (cc)))

-- the token itself
role_sound : (end : Spot) (h : List ℕ) (f : Open) (fs : List Open) (c : Cell) (cs : List Cell) → Sound end cs → Nested (f ∷ fs) →
    (r : Role) → role_of c.token.kind ≡ r →
    Starts end h (f ∷ fs) (c ∷ cs) (on_role r (ends_line cs) (at_line false h (f ∷ fs)) c.token (λ g. walk end g cs))
role_sound end h f fs c cs ih n (role.Opens region.Brace) p =
    λ s. brace_sound end h f fs c cs _ p (ih false h _ (nested_bracket refl refl n) s)
role_sound end h f fs c cs ih n (role.Opens region.Round) p =
    λ s. round_sound end h region.Round f fs c cs _ p refl (ih false h _ (nested_bracket refl refl n) s)
role_sound end h f fs c cs ih n (role.Opens region.Square) p =
    λ s. round_sound end h region.Square f fs c cs _ p refl (ih false h _ (nested_bracket refl refl n) s)
role_sound end h f fs c cs ih n (role.Opens region.Hole) p =
    λ s. round_sound end h region.Hole f fs c cs _ p refl (ih false h _ (nested_bracket refl refl n) s)
role_sound end h f fs c cs ih n (role.Opens region.File) p = absurd (no_opens c.token.kind region.File refl p)
role_sound end h f fs c cs ih n (role.Opens region.Block) p = absurd (no_opens c.token.kind region.Block refl p)
role_sound end h f fs c cs ih n (role.Opens region.BraceBlock) p = absurd (no_opens c.token.kind region.BraceBlock refl p)
role_sound end h f fs c cs ih n (role.Closes region.Brace) p = λ s. start_brace p (brace_close end (f ∷ fs) c cs ih n p s)
role_sound end h f fs c cs ih n (role.Closes region.Round) p = round_close end h region.Round f fs c cs ih n refl p
role_sound end h f fs c cs ih n (role.Closes region.Square) p = round_close end h region.Square f fs c cs ih n refl p
role_sound end h f fs c cs ih n (role.Closes region.Hole) p = round_close end h region.Hole f fs c cs ih n refl p
role_sound end h f fs c cs ih n (role.Closes region.File) p = absurd (no_closes c.token.kind region.File refl p)
role_sound end h f fs c cs ih n (role.Closes region.Block) p = absurd (no_closes c.token.kind region.Block refl p)
role_sound end h f fs c cs ih n (role.Closes region.BraceBlock) p = absurd (no_closes c.token.kind region.BraceBlock refl p)
role_sound end h f fs c cs ih n role.Semicolon p = λ s.
    add_part (divided (has_lines f.region) c.token) (λ l. semicolon_part end h _ _ c cs p l)
    (λ l. divided_inside _ c cs l (no_bracket _ _ p refl)) (ih false h (f ∷ fs) n s)
role_sound end h f fs c cs ih n role.Comma p = λ s.
    add_part (divided (in_braces f.region) c.token) (λ l. comma_part end h _ c cs p)
    (λ l. divided_inside _ c cs (no_braces f.region l) (no_bracket _ _ p refl)) (ih false h (f ∷ fs) n s)
role_sound end h f fs c cs ih n role.Colon p = colon_sound end h f fs c cs ih n p _ refl
role_sound end h f fs c cs ih n role.Equals p = equals_sound end h f fs c cs ih n p _ refl
role_sound end h f fs c cs ih n role.Other p = λ s.
    add_part (tok (passed c.token)) (λ l. part_token (ap (stays (in_braces f.region) (ends_line cs)) p))
    (λ l. inside_any c cs (no_bracket _ _ p refl)) (ih false h (f ∷ fs) n s)

pub token_sound : (end : Spot) (h : List ℕ) (f : Open) (fs : List Open) (c : Cell) (cs : List Cell) → Sound end cs → Nested (f ∷ fs) →
    Starts end h (f ∷ fs) (c ∷ cs) (go_token end h (f ∷ fs) (c ∷ cs))
token_sound end h f fs c cs ih n = role_sound end h f fs c cs ih n (role_of c.token.kind) refl
