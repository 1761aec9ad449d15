-- The walk of a file that is a block writes the block out.
use Rattle.std.proofs.Common.{◌≡◌, Bool, true, false, ◌||◌, List, [], ◌∷◌, ◌++◌, ℕ, Option, Some, None, refl, sym, ◌∙◌, ap, subst}
use Rattle.std.proofs.Common.{append_assoc, if◌then◌else◌}
use Rattle.std.specs.Cmp.Lexicographic.{same_text}
use Rattle.std.proofs.Math.Seq.{take-length}
use Rattle.std.proofs.lemmas.Bool.{not-true}
use Rattle.verse_base.specs.declared.places.Place.{Place}
use Rattle.verse_lex.specs.declared.tokens.Token.{Token}
use Rattle.verse_layout.specs.declared.frames.Spot.{Spot}
use Rattle.verse_layout.specs.declared.toks.TokKind.TheVariants as t
use Rattle.verse_layout.specs.declared.roles.Role.{Role}
use Rattle.verse_layout.specs.declared.roles.Role.TheVariants as role
use Rattle.verse_layout.specs.declared.roles.Region.{Region}
use Rattle.verse_layout.specs.declared.roles.Region.TheVariants as region
use Rattle.verse_layout.specs.Roles.{role_of, has_lines, in_braces, is_same_region, is_brace_close, is_bracket_close}
use Rattle.verse_layout.specs.Cells.{Cell, spot_of, spot_at, tok_as, passed, ends_line, is_same, is_front, is_proper}
use Rattle.verse_layout.specs.Written.{Written, tok, sep}
use Rattle.verse_layout.specs.Blocks.{is_no_bracket, separates, is_opener, stays, opener, line_sep, open_at, close_at, leaves, ends_block}
use Rattle.verse_layout.specs.Blocks.{Bracket, round, braces, Part, part_token, part_sep, part_bracket, Body, body_part, body_block, Line}
use Rattle.verse_layout.specs.Blocks.{line, Block, block_last, block_more}
use Rattle.verse_layout.specs.Frames.{Open, Context, Walk, write, walk, on_role, line_start, begins_none, opened_as, closed_as, close}
use Rattle.verse_layout.specs.Frames.{leave, block_in, is_block, innermost}
use Rattle.verse_layout.proofs.Walks.{at_line, go, go_open, go_token, front, front_front, if_true, if_false, same_self, same_region}
use Rattle.verse_layout.proofs.Walks.{region_self, no_start, brace_start, line_begins, go_on}

-- around and after what is written
pub around : (a b : Written) (ws : List Written) (x : Walk) → write a (front ws (write b x)) ≡ front (a ∷ (ws ++ b ∷ [])) x
around a b ws x = ap (λ us. let w : Walk = record { written = a ∷ us; stop = x.stop } in w) (sym (append_assoc ws (b ∷ []) x.written))

pub around_two : (a b : Written) (ws vs : List Written) (x : Walk) →
    write a (front ws (front vs (write b x))) ≡ front (a ∷ (ws ++ (vs ++ b ∷ []))) x
around_two a b ws vs x =
    ap (λ us. let w : Walk = record { written = a ∷ us; stop = x.stop } in w)
    (ap (λ us. ws ++ us) (sym (append_assoc vs (b ∷ []) x.written)) ∙ sym (append_assoc ws (vs ++ b ∷ []) x.written))

pub behind : (os : List Written) (a b : Written) (ws : List Written) (x : Walk) →
    front os (write a (front ws (write b x))) ≡ front (os ++ a ∷ (ws ++ b ∷ [])) x
behind os a b ws x = ap (front os) (around a b ws x) ∙ front_front os (a ∷ (ws ++ b ∷ [])) x

pub no_braces : (r : Region) → has_lines r ≡ false → in_braces r ≡ false
no_braces region.Round e = refl
no_braces region.Square e = refl
no_braces region.Hole e = refl
no_braces r e = absurd (cc)

pub no_brace : (r : Region) → has_lines r ≡ false → is_same_region r region.Brace ≡ false
no_brace region.Round e = refl
no_brace region.Square e = refl
no_brace region.Hole e = refl
no_brace r e = absurd (cc)

-- a token in a bracket where line ends mean nothing
pub inner_role : (r : Role) (ends : Bool) (h : List ℕ) (f : Open) (fs : List Open) (token : Token) (k : Context → Walk) →
    has_lines f.region ≡ false → is_no_bracket r ≡ true →
    on_role r ends (at_line false h (f ∷ fs)) token k ≡ write (tok (passed token)) (k (at_line false h (f ∷ fs)))
inner_role (role.Opens r) ends h f fs token k e p = absurd (cc)
inner_role (role.Closes r) ends h f fs token k e p = absurd (cc)
inner_role role.Semicolon ends h f fs token k e p = rw e refl
inner_role role.Comma ends h f fs token k e p = rw (no_braces f.region e) refl
inner_role role.Colon ends h f fs token k e p = rw e refl
inner_role role.Equals ends h f fs token k e p = rw e refl
inner_role role.Other ends h f fs token k e p = refl

-- a token that is passed on in a line
pub stays_role : (r : Role) (b ends : Bool) (h : List ℕ) (f : Open) (fs : List Open) (token : Token) (k : Context → Walk) →
    has_lines f.region ≡ true → in_braces f.region ≡ b → stays b ends r ≡ true →
    on_role r ends (at_line false h (f ∷ fs)) token k ≡ write (tok (passed token)) (k (at_line false h (f ∷ fs)))
stays_role (role.Opens r) b ends h f fs token k e g p = absurd (cc)
stays_role (role.Closes r) b ends h f fs token k e g p = absurd (cc)
stays_role role.Semicolon b ends h f fs token k e g p = absurd (cc)
stays_role role.Comma true ends h f fs token k e g p = absurd (cc)
stays_role role.Comma false ends h f fs token k e g p = rw g refl
stays_role role.Colon b true h f fs token k e g p = absurd (cc)
stays_role role.Colon b false h f fs token k e g p = rw e refl
stays_role role.Equals b true h f fs token k e g p = absurd (cc)
stays_role role.Equals b false h f fs token k e g p = rw e refl
stays_role role.Other b ends h f fs token k e g p = refl

pub separates_role : (r : Role) (b ends : Bool) (h : List ℕ) (f : Open) (fs : List Open) (token : Token) (k : Context → Walk) →
    has_lines f.region ≡ true → in_braces f.region ≡ b → separates b r ≡ true →
    on_role r ends (at_line false h (f ∷ fs)) token k ≡ write (sep (tok_as t.Sep token)) (k (at_line false h (f ∷ fs)))
separates_role (role.Opens r) b ends h f fs token k e g p = absurd (cc)
separates_role (role.Closes r) b ends h f fs token k e g p = absurd (cc)
separates_role role.Semicolon b ends h f fs token k e g p = rw e refl
separates_role role.Comma true ends h f fs token k e g p = rw g refl
separates_role role.Comma false ends h f fs token k e g p = absurd (cc)
separates_role role.Colon b ends h f fs token k e g p = absurd (cc)
separates_role role.Equals b ends h f fs token k e g p = absurd (cc)
separates_role role.Other b ends h f fs token k e g p = absurd (cc)

pub opener_role : (r : Role) (h : List ℕ) (f : Open) (fs : List Open) (token : Token) (k : Context → Walk) → has_lines f.region ≡ true →
    is_opener r ≡ true →
    on_role r true (at_line false h (f ∷ fs)) token k ≡ front (opener r token) (k (at_line true h (f ∷ fs)))
opener_role (role.Opens r) h f fs token k e p = absurd (cc)
opener_role (role.Closes r) h f fs token k e p = absurd (cc)
opener_role role.Semicolon h f fs token k e p = absurd (cc)
opener_role role.Comma h f fs token k e p = absurd (cc)
opener_role role.Colon h f fs token k e p = rw e refl
opener_role role.Equals h f fs token k e p = rw e refl
opener_role role.Other h f fs token k e p = absurd (cc)

-- brackets
pub opens_token : (end : Spot) (h : List ℕ) (fs : List Open) (r : Region) (o : Cell) (cs : List Cell) →
    role_of o.token.kind ≡ role.Opens r →
    go_token end h fs (o ∷ cs) ≡ write (tok (opened_as r o.token))
    (go end h (record { region = r; text = h; place = o.token.place } ∷ fs) cs)
opens_token end h fs r o cs p = ap (λ x. on_role x (ends_line cs) (at_line false h fs) o.token (λ g. walk end g cs)) p

pub closes_token : (end : Spot) (h : List ℕ) (g f : Open) (fs : List Open) (c : Cell) (cs : List Cell) →
    role_of c.token.kind ≡ role.Closes g.region →
    go_token end h (g ∷ f ∷ fs) (c ∷ cs) ≡ write (tok (closed_as g.region c.token)) (go end g.text (f ∷ fs) cs)
closes_token end h g f fs c cs p =
    ap (λ x. on_role x (ends_line cs) (at_line false h (g ∷ f ∷ fs)) c.token (λ k. walk end k cs)) p
    ∙ if_true (is_same_region g.region g.region) _ _ (region_self g.region)

pub go_inner : (end : Spot) (h : List ℕ) (f : Open) (fs : List Open) (cs : List Cell) → has_lines f.region ≡ false →
    go end h (f ∷ fs) cs ≡ go_token end h (f ∷ fs) cs
go_inner end h f fs [] e = refl
go_inner end h f fs (c ∷ cs) e = go_on end h f fs c cs (no_start f fs c e)

pub is_brace : (r : Role) → r ≡ role.Closes region.Brace → is_brace_close r ≡ true
is_brace r e = ap is_brace_close e

-- a `}` does not look at the line before it
pub brace_free : (end : Spot) (h k : List ℕ) (f : Open) (fs : List Open) (c : Cell) (cs : List Cell) →
    role_of c.token.kind ≡ role.Closes region.Brace →
    go end h (f ∷ fs) (c ∷ cs) ≡ go end k (f ∷ fs) (c ∷ cs)
brace_free end h k f fs c cs e =
    let s = brace_start (f ∷ fs) c (is_brace _ e) in
    go_on end h f fs c cs s
    ∙ ap (λ x. on_role x (ends_line cs) (at_line false h (f ∷ fs)) c.token (λ g. walk end g cs)) e
    ∙ sym (ap (λ x. on_role x (ends_line cs) (at_line false k (f ∷ fs)) c.token (λ g. walk end g cs)) e)
    ∙ sym (go_on end k f fs c cs s)

-- lines
pub no_line : (fs : List Open) (c : Cell) → c.line ≡ None → line_start fs c ≡ None
no_line fs c e = ap (λ o. if begins_none fs c.token then None else o) e ∙ by_test (begins_none fs c.token)
  where
    by_test : (b : Bool) → (let o : Option (List ℕ) = None in if b then o else o) ≡ None
    by_test true = refl
    by_test false = refl

-- a line that is led already
abbrev pub led : Spot → List ℕ → List Open → List Cell → Walk
led end i fs [] = go end i fs []
led end i fs (c ∷ cs) = write (line_sep c.token) (go_token end i fs (c ∷ cs))

-- the first token begins a line of this indentation and is no closing bracket
pub record Heads (i : List ℕ) (cs : List Cell) : Type 0 where
  pub first : Cell
  pub rest : List Cell
  pub cs_are : cs ≡ first ∷ rest
  pub line_is : first.line ≡ Some i
  pub brace : is_brace_close (role_of first.token.kind) ≡ false
  pub bracket : is_bracket_close (role_of first.token.kind) ≡ false

pub record Begins (c : Cell) : Type 0 where
  pub brace : is_brace_close (role_of c.token.kind) ≡ false
  pub bracket : is_bracket_close (role_of c.token.kind) ≡ false

pub begins_by : (c : Cell) (r : Role) → role_of c.token.kind ≡ r → is_brace_close r ≡ false → is_bracket_close r ≡ false → Begins c
begins_by c r e p q = record { brace = ap is_brace_close e ∙ p; bracket = ap is_bracket_close e ∙ q }

pub stays_begins : (r : Role) (b ends : Bool) → stays b ends r ≡ true → (is_brace_close r ≡ false) × (is_bracket_close r ≡ false)
stays_begins (role.Closes r) b ends e = absurd (cc)
stays_begins _ b ends e = (refl, refl)

pub separates_begins : (r : Role) (b : Bool) → separates b r ≡ true → (is_brace_close r ≡ false) × (is_bracket_close r ≡ false)
separates_begins (role.Closes r) b e = absurd (cc)
separates_begins _ b e = (refl, refl)

pub opener_begins : (r : Role) → is_opener r ≡ true → (is_brace_close r ≡ false) × (is_bracket_close r ≡ false)
opener_begins (role.Closes r) e = absurd (cc)
opener_begins _ e = (refl, refl)

pub begins_pair : (c : Cell) → (is_brace_close (role_of c.token.kind) ≡ false) × (is_bracket_close (role_of c.token.kind) ≡ false) →
    Begins c
begins_pair c p = record { brace = p.0; bracket = p.1 }

pub bracket_begins : {end : Spot} {h : List ℕ} {cs ds : List Cell} {ws : List Written} → Bracket end h cs ws ds →
    (c : Cell) (es : List Cell) → cs ≡ c ∷ es → Begins c
bracket_begins (round {r = r} {o = o} p q i s) c es e = let f : o ≡ c = cc in subst Begins f (begins_by o (role.Opens r) p refl refl)
bracket_begins (braces {o = o} p r l s) c es e = let f : o ≡ c = cc in subst Begins f (begins_by o (role.Opens region.Brace) p refl refl)

pub part_begins : {end : Spot} {b : Bool} {h : List ℕ} {cs ds : List Cell} {ws : List Written} → Part end b h cs ws ds →
    (c : Cell) (es : List Cell) → cs ≡ c ∷ es → Begins c
part_begins (part_token {b = b} {c = o} {cs = cs} p) c es e = let f : o ≡ c = cc in
    subst Begins f (begins_pair o (stays_begins _ b (ends_line cs) p))
part_begins (part_sep {b = b} {c = o} p) c es e = let f : o ≡ c = cc in subst Begins f (begins_pair o (separates_begins _ b p))
part_begins (part_bracket p) c es e = bracket_begins p c es e

pub body_begins : {end : Spot} {b : Bool} {h : List ℕ} {cs ds : List Cell} {ws : List Written} → Body end b h cs ws ds →
    (c : Cell) (es : List Cell) → cs ≡ c ∷ es → Begins c
body_begins (body_part p r) c es e = part_begins p c es e
body_begins (body_block {c = o} p q s k) c es e = let f : o ≡ c = cc in subst Begins f (begins_pair o (opener_begins _ p))

pub line_heads : {end : Spot} {b : Bool} {i : List ℕ} {cs ds : List Cell} {ws : List Written} → Line end b i cs ws ds → Heads i cs
line_heads (line {c = c} {cs = cs} e body) =
    let x = body_begins body c cs refl in
    record { first = c; rest = cs; cs_are = refl; line_is = e; brace = x.brace; bracket = x.bracket }

pub block_heads : {end : Spot} {b : Bool} {i : List ℕ} {cs ds : List Cell} {ws : List Written} → Block end b i cs ws ds → Heads i cs
block_heads (block_last l e) = line_heads l
block_heads (block_more l k) = line_heads l

pub front_self : (i : List ℕ) → is_front i i ≡ true
front_self i = ap (λ x. is_same i x) (take-length i) ∙ same_self i

pub not_same : (i j : List ℕ) → is_front i j ≡ false → is_same i j ≡ false
not_same i j e = by_test (is_same i j) refl
  where
    by_test : (v : Bool) → is_same i j ≡ v → is_same i j ≡ false
    by_test false h = h
    by_test true h = let f : is_front i i ≡ false = subst (λ k. is_front i k ≡ false) (sym (same_text i j (sym h))) e in
        absurd (let g = front_self i in cc)

-- the frame of an indented block
pub block_lines : (r : Region) → has_lines (block_in r) ≡ true
block_lines r = by_test (in_braces r)
  where
    by_test : (b : Bool) → has_lines (if b then region.BraceBlock else region.Block) ≡ true
    by_test true = refl
    by_test false = refl

pub block_braces : (r : Region) (b : Bool) → in_braces r ≡ b → in_braces (block_in r) ≡ b
block_braces r true e = rw e refl
block_braces r false e = rw e refl

pub block_is : (r : Region) → is_block (block_in r) ≡ true
block_is r = by_test (in_braces r)
  where
    by_test : (b : Bool) → is_block (if b then region.BraceBlock else region.Block) ≡ true
    by_test true = refl
    by_test false = refl

pub block_no_brace : (r : Region) → is_same_region (block_in r) region.Brace ≡ false
block_no_brace r = by_test (in_braces r)
  where
    by_test : (b : Bool) → is_same_region (if b then region.BraceBlock else region.Block) region.Brace ≡ false
    by_test true = refl
    by_test false = refl

pub block_no_file : (r : Region) → is_same_region (block_in r) region.File ≡ false
block_no_file r = by_test (in_braces r)
  where
    by_test : (b : Bool) → is_same_region (if b then region.BraceBlock else region.Block) region.File ≡ false
    by_test true = refl
    by_test false = refl

pub closes_brace : (r : Role) → is_brace_close r ≡ true → r ≡ role.Closes region.Brace
closes_brace (role.Closes r) e = ap role.Closes (same_region r region.Brace e)
closes_brace (role.Opens r) e = absurd (cc)
closes_brace role.Semicolon e = absurd (cc)
closes_brace role.Comma e = absurd (cc)
closes_brace role.Colon e = absurd (cc)
closes_brace role.Equals e = absurd (cc)
closes_brace role.Other e = absurd (cc)

-- a line that begins where no block is opened
pub go_line : (end : Spot) (h : List ℕ) (f : Open) (fs : List Open) (c : Cell) (cs : List Cell) (i : List ℕ) → has_lines f.region ≡ true →
    is_brace_close (role_of c.token.kind) ≡ false → c.line ≡ Some i →
    go end h (f ∷ fs) (c ∷ cs) ≡ leave (f ∷ fs) c.token i (λ gs. write (line_sep c.token) (go_token end i gs (c ∷ cs)))
go_line end h f fs c cs i e p q =
    let s : line_start (f ∷ fs) c ≡ Some i = line_begins f fs c e p ∙ q in
    rw s refl

-- a line of the block's indentation goes on in it
pub go_again : (end : Spot) (h : List ℕ) (f : Open) (fs : List Open) (i : List ℕ) (cs : List Cell) → has_lines f.region ≡ true →
    f.text ≡ i → Heads i cs → go end h (f ∷ fs) cs ≡ led end i (f ∷ fs) cs
go_again end h f fs i cs e t x =
    let same : is_same f.text i ≡ true = ap (λ j. is_same j i) t ∙ same_self i in
    let stay : (is_same_region f.region region.Brace || is_same f.text i) ≡ true =
    ap (λ b. is_same_region f.region region.Brace || b) same ∙ or_true (is_same_region f.region region.Brace) in
    rw x.cs_are (go_line end h f fs x.first x.rest i e x.brace x.line_is ∙ if_true _ _ _ stay)
  where
    or_true : (b : Bool) → (b || true) ≡ true
    or_true true = refl
    or_true false = refl

-- a line directly in braces
pub go_braces : (end : Spot) (h : List ℕ) (f : Open) (fs : List Open) (i : List ℕ) (cs : List Cell) → f.region ≡ region.Brace → Heads i cs →
    go end h (f ∷ fs) cs ≡ led end i (f ∷ fs) cs
go_braces end h f fs i cs e x =
    let lines : has_lines f.region ≡ true = ap has_lines e in
    let stay : (is_same_region f.region region.Brace || is_same f.text i) ≡ true =
    ap (λ r. is_same_region r region.Brace || is_same f.text i) e in
    rw x.cs_are (go_line end h f fs x.first x.rest i lines x.brace x.line_is ∙ if_true _ _ _ stay)

-- the first line behind an opener
pub go_indent : (end : Spot) (h j : List ℕ) (f : Open) (fs : List Open) (cs : List Cell) → has_lines f.region ≡ true →
    is_proper h j ≡ true → (x : Heads j cs) →
    go_open end h (f ∷ fs) cs ≡ write (open_at (spot_at end cs))
    (led end j (record { region = block_in f.region; text = j; place = x.first.token.place } ∷ f ∷ fs) cs)
go_indent end h j f fs cs e p x =
    let s : line_start (f ∷ fs) x.first ≡ Some j = line_begins f fs x.first e x.brace ∙ x.line_is in
    rw x.cs_are (rw s (if_true _ _ _ p ∙ if_false _ _ _ x.bracket))

-- a block that ends closes
pub go_close : (end : Spot) (j m h : List ℕ) (b : Bool) (f : Open) (fs : List Open) (place : Place) (cs : List Cell) →
    has_lines f.region ≡ true → in_braces f.region ≡ b →
    (b ≡ false → innermost (f ∷ fs) ≡ None) → ends_block b j cs ≡ true →
    go end m (record { region = block_in f.region; text = j; place = place } ∷ f ∷ fs) cs ≡
    write (close_at (spot_at end cs)) (go end h (f ∷ fs) cs)
go_close end j m h true f fs place [] e g n p = absurd (cc)
go_close end j m h false f fs place [] e g n p =
    let out : innermost (f ∷ fs) ≡ None = n refl in
    rw (block_no_file f.region, block_is f.region, out, block_is f.region) refl
go_close end j m h b f fs place (c ∷ cs) e g n p = by_test (is_brace_close (role_of c.token.kind)) refl
  where
    at_brace : role_of c.token.kind ≡ role.Closes region.Brace → b ≡ true →
        go end m (record { region = block_in f.region; text = j; place = place } ∷ f ∷ fs) (c ∷ cs) ≡
        write (close_at (spot_of c.token)) (go end h (f ∷ fs) (c ∷ cs))
    at_brace r v =
        let k : Context → Walk = λ x. walk end x cs in
        let i : Open = record { region = block_in f.region; text = j; place = place } in
        let inside : block_in f.region ≡ region.BraceBlock = ap (λ x. if x then region.BraceBlock else region.Block) (g ∙ v) in
        let left : go end m (i ∷ f ∷ fs) (c ∷ cs) ≡ close region.Brace (i ∷ f ∷ fs) c.token k =
        go_on end m i (f ∷ fs) c cs (brace_start (i ∷ f ∷ fs) c (is_brace _ r)) ∙
        ap (λ x. on_role x (ends_line cs) (at_line false m (i ∷ f ∷ fs)) c.token k) r in
        let right : go end h (f ∷ fs) (c ∷ cs) ≡ close region.Brace (f ∷ fs) c.token k =
        go_on end h f fs c cs (brace_start (f ∷ fs) c (is_brace _ r)) ∙
        ap (λ x. on_role x (ends_line cs) (at_line false h (f ∷ fs)) c.token k) r in
        left ∙ ap (λ x. close region.Brace (record { region = x; text = j; place = place } ∷ f ∷ fs) c.token k) inside ∙
        sym (ap (write (close_at (spot_of c.token))) right)

    at_line_start : is_brace_close (role_of c.token.kind) ≡ false → (o : Option (List ℕ)) → c.line ≡ o → leaves j o ≡ true →
        go end m (record { region = block_in f.region; text = j; place = place } ∷ f ∷ fs) (c ∷ cs) ≡
        write (close_at (spot_of c.token)) (go end h (f ∷ fs) (c ∷ cs))
    at_line_start r None l v = absurd (cc)
    at_line_start r (Some i) l v =
        let k : List Open → Walk = λ gs. write (line_sep c.token) (go_token end i gs (c ∷ cs)) in
        let x : Open = record { region = block_in f.region; text = j; place = place } in
        let off : is_front j i ≡ false = not-true (is_front j i) v in
        let left : go end m (x ∷ f ∷ fs) (c ∷ cs) ≡ leave (x ∷ f ∷ fs) c.token i k =
        go_line end m x (f ∷ fs) c cs i (block_lines f.region) r l in
        let right : go end h (f ∷ fs) (c ∷ cs) ≡ leave (f ∷ fs) c.token i k = go_line end h f fs c cs i e r l in
        let moves : leave (x ∷ f ∷ fs) c.token i k ≡ write (close_at (spot_of c.token)) (leave (f ∷ fs) c.token i k) =
        rw (block_no_brace f.region, not_same j i off, block_is f.region, off) refl in
        left ∙ moves ∙ sym (ap (write (close_at (spot_of c.token))) right)

    by_test : (v : Bool) → is_brace_close (role_of c.token.kind) ≡ v →
        go end m (record { region = block_in f.region; text = j; place = place } ∷ f ∷ fs) (c ∷ cs) ≡
        write (close_at (spot_of c.token)) (go end h (f ∷ fs) (c ∷ cs))
    by_test true r = at_brace (closes_brace _ r) (sym (if_true _ b (leaves j c.line) r) ∙ p)
    by_test false r = at_line_start r c.line refl (sym (if_false _ b (leaves j c.line) r) ∙ p)
