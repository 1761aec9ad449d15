-- Each step of a walk passes on to a place, or stops with a refusal and its reason, whatever follows it.
use Rattle.std.proofs.Common.{◌≡◌, Bool, true, false, not, ◌&&◌, ◌||◌, ◌⊎◌, inl, inr, List, [], ◌∷◌, ◌++◌, ℕ, Option, Some, None, refl, sym}
use Rattle.std.proofs.Common.{◌∙◌, ap, subst, if◌then◌else◌}
use Rattle.std.proofs.lemmas.Bool.{and_parts, not-true}
use Rattle.verse_base.specs.declared.refusals.Rule.{Rule}
use Rattle.verse_lex.specs.declared.tokens.Token.{Token}
use Rattle.verse_layout.specs.declared.toks.TokKind.TheVariants as t
use Rattle.verse_layout.specs.declared.roles.Role.{Role}
use Rattle.verse_layout.specs.declared.roles.Role.TheVariants as role
use Rattle.verse_layout.specs.declared.roles.Region.{Region}
use Rattle.verse_layout.specs.declared.roles.Region.TheVariants as region
use Rattle.verse_layout.specs.declared.rules.TheConstants.{BRACKET, INDENTATION}
use Rattle.verse_layout.specs.Roles.{role_of, has_lines, in_braces, is_same_region, is_brace_close, is_bracket_close, is_else}
use Rattle.verse_layout.specs.Cells.{Cell, spot_of, passed, tok_as, mark_at, is_same, is_front, is_proper}
use Rattle.verse_layout.specs.Written.{Written, tok, sep, no_sep, is_close}
use Rattle.verse_layout.specs.Blocks.{line_sep, close_at, is_no_bracket, is_opener}
use Rattle.verse_layout.specs.Frames.{Open, Context, Walk, write, refuse, step, on_role, on_token, before_token, line_start, begins_none}
use Rattle.verse_layout.specs.Frames.{region_at, leave, lead, indent, follow, close, closed_as, opened_as, divided, stay, after_colon}
use Rattle.verse_layout.specs.Frames.{is_block, is_none, block_in}
use Rattle.verse_layout.proofs.Walks.{at_line, front, front_front, same_region, if_true, if_false}
use Rattle.verse_layout.proofs.OpenBrackets.{Moves, moves_none, moves_open, moves_close}
use Rattle.verse_layout.proofs.Complete.{block_is, block_braces, closes_brace}
use Rattle.verse_layout.proofs.Nests.{Nested, nested_file, nested_block, nested_bracket, is_bracket, no_opens, no_closes}

-- the frames of brackets
abbrev pub brackets : List Open → List Open
brackets [] = []
brackets (f ∷ fs) = if is_bracket f.region then f ∷ brackets fs else brackets fs

-- the region of the first of these frames, or the file's
abbrev pub inner : List Open → Region
inner [] = region.File
inner (f ∷ fs) = f.region

-- the frames stand in each other, and only where line ends mean something a block is opened
pub record Fine (h : Context) : Type 0 where
  pub nested : Nested h.frames
  pub lines : h.opened ≡ true → has_lines (region_at h.frames) ≡ true

-- a line of this indentation leaves blocks and is then a line of one
abbrev pub leaves_well : List Open → List ℕ → Bool
leaves_well [] text = true
leaves_well (f ∷ fs) text =
    if is_same_region f.region region.Brace || is_same f.text text then true
    else (if is_block f.region && not (is_front f.text text) then leaves_well fs text else false)

-- a token may stand there, as far as lines say
abbrev pub fits : Option (List ℕ) → Context → Bool
fits None h = not (h.opened || is_none h.frames)
fits (Some text) h = if h.opened then is_proper h.line text else leaves_well h.frames text

-- why a token is refused
pub data Reason (ok : Bool) (bs : List Open) (token : Token) : Rule → Type 0 where
  bad_line : is_brace_close (role_of token.kind) ≡ false → ok ≡ false → Reason ok bs token INDENTATION
  bad_brace : role_of token.kind ≡ role.Closes region.Brace → is_same_region (inner bs) region.Brace ≡ false → Reason ok bs token BRACKET
  bad_block : role_of token.kind ≡ role.Closes region.Brace → is_same_region (inner bs) region.Brace ≡ true → Reason ok bs token INDENTATION
  bad_bracket : (r : Region) → role_of token.kind ≡ role.Closes r → has_lines r ≡ false → is_same_region (inner bs) r ≡ false → ok ≡ true →
      Reason ok bs token BRACKET

-- what is written has no tok but a Close
abbrev pub Ending : List Written → Type 0
Ending [] = Unit {0}
Ending (tok k ∷ ws) = (is_close k.kind ≡ true) × Ending ws
Ending (sep s ∷ ws) = Ending ws
Ending (no_sep ∷ ws) = Ending ws

-- what is written stands at this offset, and its Seps are Seps
abbrev pub WrittenAt : ℕ → Written → Type 0
WrittenAt n (tok k) = k.start ≡ n
WrittenAt n (sep s) = (s.start ≡ n) × (s.kind ≡ t.Sep)
WrittenAt n no_sep = Unit {0}

abbrev pub AllAt : ℕ → List Written → Type 0
AllAt n [] = Unit {0}
AllAt n (w ∷ ws) = WrittenAt n w × AllAt n ws

pub at_append : (n : ℕ) (ws vs : List Written) → AllAt n ws → AllAt n vs → AllAt n (ws ++ vs)
at_append n [] vs a b = b
at_append n (w ∷ ws) vs a b = (a.0, at_append n ws vs a.1 b)

pub ending_append : (ws vs : List Written) → Ending ws → Ending vs → Ending (ws ++ vs)
ending_append [] vs a b = b
ending_append (tok k ∷ ws) vs a b = (a.0, ending_append ws vs a.1 b)
ending_append (sep s ∷ ws) vs a b = ending_append ws vs a b
ending_append (no_sep ∷ ws) vs a b = ending_append ws vs a b

line_sep_at : (token : Token) → WrittenAt token.start (line_sep token)
line_sep_at token = by_else (is_else token.kind)
  where
    by_else : (b : Bool) → WrittenAt token.start (if b then no_sep else sep (mark_at t.Sep (spot_of token)))
    by_else true = tt
    by_else false = (refl, refl)

line_sep_ending : (token : Token) → Ending (line_sep token ∷ [])
line_sep_ending token = by_else (is_else token.kind)
  where
    by_else : (b : Bool) → Ending ((if b then no_sep else sep (mark_at t.Sep (spot_of token))) ∷ [])
    by_else true = tt
    by_else false = tt

-- a step passes, and something holds of the place there, or it stops for a reason
pub data Outcome (token : Token) (ends : Type 0) (why : Rule → Type 0) (there : Context → Type 0) (F : (Context → Walk) → Walk) :
    Type 0 where
  passes : (g : Context) (ws : List Written) → Fine g → g.opened ≡ false → there g → AllAt token.start ws → (ends → Ending ws) →
      ((go : Context → Walk) → F go ≡ front ws (go g)) → Outcome token ends why there F
  stops : (rule : Rule) (ws : List Written) → why rule → AllAt token.start ws → Ending ws →
      ((go : Context → Walk) → F go ≡ front ws (refuse rule token.place)) → Outcome token ends why there F

outcome_if : {token : Token} {ends : Type 0} {why : Rule → Type 0} {there : Context → Type 0} {F G : (Context → Walk) → Walk} (b : Bool) →
    (b ≡ true → Outcome token ends why there F) → (b ≡ false → Outcome token ends why there G) →
    Outcome token ends why there (λ go. if b then F go else G go)
outcome_if true f g = f refl
outcome_if false f g = g refl

outcome_map : {token : Token} {ends : Type 0} {why why' : Rule → Type 0} {there there' : Context → Type 0} {F : (Context → Walk) → Walk} →
    ((rule : Rule) → why rule → why' rule) → ((g : Context) → there g → there' g) →
    Outcome token ends why there F → Outcome token ends why' there' F
outcome_map p q (passes g ws f o x a e w) = passes g ws f o (q g x) a e w
outcome_map p q (stops rule ws x a e w) = stops rule ws (p rule x) a e w

-- something written first
after : {token : Token} {ends : Type 0} {why : Rule → Type 0} {there : Context → Type 0} {F : (Context → Walk) → Walk} (w : Written) →
    WrittenAt token.start w → Ending (w ∷ []) → Outcome token ends why there F → Outcome token ends why there (λ go. write w (F go))
after w p q (passes g ws f o x a e z) = passes g (w ∷ ws) f o x (p, a) (λ c. ending_append (w ∷ []) ws q (e c)) (λ go. ap (write w) (z go))
after w p q (stops rule ws x a e z) = stops rule (w ∷ ws) x (p, a) (ending_append (w ∷ []) ws q e) (λ go. ap (write w) (z go))

here : {token : Token} {ends : Type 0} {why : Rule → Type 0} {there : Context → Type 0} (g : Context) → Fine g → g.opened ≡ false →
    there g → Outcome token ends why there (λ go. go g)
here g f o x = passes g [] f o x tt (λ c. tt) (λ go. refl)

no : {token : Token} {ends : Type 0} {why : Rule → Type 0} {there : Context → Type 0} (rule : Rule) → why rule →
    Outcome token ends why there (λ go. refuse rule token.place)
no rule x = stops rule [] x tt tt (λ go. refl)

nested_some : Nested [] → ⊥
nested_some n = elim n [ ]

nested_tail : (f : Open) (fs : List Open) → is_same_region f.region region.File ≡ false → Nested (f ∷ fs) → Nested fs
nested_tail f fs e (nested_file g) = absurd (let x = ap (λ r. is_same_region r region.File) g in cc)
nested_tail f fs e (nested_block g l b n) = n
nested_tail f fs e (nested_bracket a b n) = n

fine_shut : (h : List ℕ) (fs : List Open) → Nested fs → Fine (at_line false h fs)
fine_shut h fs n = record { nested = n; lines = λ e. absurd (cc) }

bracket_no_file : (r : Region) → is_bracket r ≡ true → is_same_region r region.File ≡ false
bracket_no_file region.File e = absurd (cc)
bracket_no_file _ e = refl

bracket_no_block : (r : Region) → is_bracket r ≡ true → is_block r ≡ false
bracket_no_block region.Block e = absurd (cc)
bracket_no_block region.BraceBlock e = absurd (cc)
bracket_no_block _ e = refl

pub block_no_bracket : (r : Region) → is_block r ≡ true → is_bracket r ≡ false
block_no_bracket region.Block e = refl
block_no_bracket region.BraceBlock e = refl
block_no_bracket r e = absurd (cc)

pub is_a_bracket : (r : Region) → is_block r ≡ false → is_same_region r region.File ≡ false → is_bracket r ≡ true
is_a_bracket region.Round e g = refl
is_a_bracket region.Square e g = refl
is_a_bracket region.Hole e g = refl
is_a_bracket region.Brace e g = refl
is_a_bracket r e g = absurd (cc)

block_no_file : (r : Region) → is_block r ≡ true → is_same_region r region.File ≡ false
block_no_file region.File e = absurd (cc)
block_no_file _ e = refl

pub bracket_first : (f : Open) (fs : List Open) → is_bracket f.region ≡ true → brackets (f ∷ fs) ≡ f ∷ brackets fs
bracket_first f fs e = if_true (is_bracket f.region) (f ∷ brackets fs) (brackets fs) e

pub block_first : (f : Open) (fs : List Open) → is_bracket f.region ≡ false → brackets (f ∷ fs) ≡ brackets fs
block_first f fs e = if_false (is_bracket f.region) (f ∷ brackets fs) (brackets fs) e

pub file_first : (f : Open) (fs : List Open) → f.region ≡ region.File → brackets (f ∷ fs) ≡ brackets fs
file_first f fs e = block_first f fs (ap is_bracket e)

brace_braces : (r : Region) → is_bracket r ≡ true → is_same_region r region.Brace ≡ in_braces r
brace_braces region.Round e = refl
brace_braces region.Square e = refl
brace_braces region.Hole e = refl
brace_braces region.Brace e = refl
brace_braces r e = absurd (cc)

-- the innermost bracket is a brace exactly in braces
inner_brace : (fs : List Open) → Nested fs → is_same_region (inner (brackets fs)) region.Brace ≡ in_braces (region_at fs)
inner_brace [] n = absurd (nested_some n)
inner_brace (f ∷ fs) (nested_file x) = ap (λ bs. is_same_region (inner bs) region.Brace) (file_first f [] x) ∙ sym (ap in_braces x)
inner_brace (f ∷ fs) (nested_block x l b n) =
    ap (λ bs. is_same_region (inner bs) region.Brace) (block_first f fs (block_no_bracket f.region x)) ∙ inner_brace fs n ∙ sym b
inner_brace (f ∷ fs) (nested_bracket x y n) =
    let is = is_a_bracket f.region x y in
    ap (λ bs. is_same_region (inner bs) region.Brace) (bracket_first f fs is) ∙ brace_braces f.region is

file_not : (r : Region) → has_lines r ≡ false → is_same_region region.File r ≡ false
file_not region.File e = absurd (cc)
file_not _ e = refl

lines_not : (r s : Region) → has_lines r ≡ true → has_lines s ≡ false → is_same_region r s ≡ false
lines_not r s e g = by_same (is_same_region r s) refl
  where
    by_same : (b : Bool) → is_same_region r s ≡ b → is_same_region r s ≡ false
    by_same false x = x
    by_same true x = absurd (let same = ap has_lines (same_region r s x) in cc)

-- where line ends mean something, the innermost bracket is none in which they do not
inner_lines : (fs : List Open) (r : Region) → Nested fs → has_lines (region_at fs) ≡ true → has_lines r ≡ false →
    is_same_region (inner (brackets fs)) r ≡ false
inner_lines [] r n l e = absurd (nested_some n)
inner_lines (f ∷ fs) r (nested_file x) l e = ap (λ bs. is_same_region (inner bs) r) (file_first f [] x) ∙ file_not r e
inner_lines (f ∷ fs) r (nested_block x m b n) l e =
    ap (λ bs. is_same_region (inner bs) r) (block_first f fs (block_no_bracket f.region x)) ∙ inner_lines fs r n m e
inner_lines (f ∷ fs) r (nested_bracket x y n) l e =
    ap (λ bs. is_same_region (inner bs) r) (bracket_first f fs (is_a_bracket f.region x y)) ∙ lines_not f.region r l e

-- the first frame is no bracket of this region, nor is the innermost one
other_inner : (r : Region) (f : Open) (fs : List Open) → is_bracket r ≡ true → Nested (f ∷ fs) → is_same_region f.region r ≡ false →
    (is_same_region r region.Brace && is_same_region f.region region.BraceBlock) ≡ false →
    is_same_region (inner (brackets (f ∷ fs))) r ≡ false
other_inner r f fs b (nested_bracket x y n) e g = ap (λ bs. is_same_region (inner bs) r) (bracket_first f fs (is_a_bracket f.region x y)) ∙
    e
other_inner r f fs b (nested_file x) e g = ap (λ bs. is_same_region (inner bs) r) (file_first f [] x) ∙ file_is r b
  where
    file_is : (s : Region) → is_bracket s ≡ true → is_same_region region.File s ≡ false
    file_is region.File p = absurd (cc)
    file_is _ p = refl
other_inner r f fs b (nested_block x l i n) e g = by_lines (has_lines r) refl
  where
    in_block : (s : Region) → is_block s ≡ true → is_same_region s region.BraceBlock ≡ false → in_braces s ≡ false
    in_block region.Block p q = refl
    in_block region.BraceBlock p q = absurd (cc)
    in_block s p q = absurd (cc)

    a_brace : (s : Region) → is_bracket s ≡ true → has_lines s ≡ true → s ≡ region.Brace
    a_brace region.Brace p q = refl
    a_brace s p q = absurd (cc)

    by_lines : (v : Bool) → has_lines r ≡ v → is_same_region (inner (brackets (f ∷ fs))) r ≡ false
    by_lines false v = inner_lines (f ∷ fs) r (nested_block x l i n) (block_lines f.region x) v
      where
        block_lines : (s : Region) → is_block s ≡ true → has_lines s ≡ true
        block_lines region.Block p = refl
        block_lines region.BraceBlock p = refl
        block_lines s p = absurd (cc)
    by_lines true v =
        let brace = a_brace r b v in
        let no_brace_block : is_same_region f.region region.BraceBlock ≡ false =
        sym (ap (λ s. is_same_region s region.Brace && is_same_region f.region region.BraceBlock) brace) ∙ g in
        ap (is_same_region (inner (brackets (f ∷ fs)))) brace ∙ inner_brace (f ∷ fs) (nested_block x l i n) ∙
        in_block f.region x no_brace_block

-- a bracket is closed
pub record Closed (r : Region) (bs : List Open) (g : Context) : Type 0 where
  pub frame : Open
  pub first : bs ≡ frame ∷ brackets g.frames
  pub region_is : frame.region ≡ r

-- why a closing bracket closes none
abbrev Unmatched : Region → List Open → Rule → Type 0
Unmatched r bs rule = (rule ≡ BRACKET) × (is_same_region (inner bs) r ≡ false)

close_at_ending : (token : Token) → Ending (close_at (spot_of token) ∷ [])
close_at_ending token = (refl, tt)

closed_at : (r : Region) (token : Token) → WrittenAt token.start (tok (closed_as r token))
closed_at r token = by_brace (is_same_region r region.Brace)
  where
    by_brace : (b : Bool) → WrittenAt token.start (tok (if b then tok_as t.Close token else passed token))
    by_brace true = refl
    by_brace false = refl

close_outcome : (r : Region) (fs : List Open) (token : Token) → is_bracket r ≡ true → Nested fs →
    Outcome token ⊥ (Unmatched r (brackets fs)) (Closed r (brackets fs)) (λ go. close r fs token go)
close_outcome r [] token b n = absurd (nested_some n)
close_outcome r (f ∷ fs) token b n =
    outcome_if (is_same_region f.region r)
    (λ same.
    let is : f.region ≡ r = same_region f.region r same in
    let first = bracket_first f fs (ap is_bracket is ∙ b) in
    passes (at_line false f.text fs) (tok (closed_as r token) ∷ [])
    (fine_shut f.text fs (nested_tail f fs (ap (λ x. is_same_region x region.File) is ∙ bracket_no_file r b) n)) refl
    (record { frame = f; first = first; region_is = is }) (closed_at r token, tt) (λ x. absurd x) (λ go. refl))
    (λ other. outcome_if (is_same_region r region.Brace && is_same_region f.region region.BraceBlock)
    (λ both.
    let x = and_parts (is_same_region r region.Brace) (is_same_region f.region region.BraceBlock) both in
    let is : f.region ≡ region.BraceBlock = same_region f.region region.BraceBlock x.1 in
    let first = block_first f fs (ap is_bracket is) in
    after (close_at (spot_of token)) refl (close_at_ending token)
    (subst (λ bs. Outcome token ⊥ (Unmatched r bs) (Closed r bs) (λ go. close r fs token go)) (sym first)
    (close_outcome r fs token b (nested_tail f fs (ap (λ x. is_same_region x region.File) is) n))))
    (λ x. no BRACKET (refl, other_inner r f fs b n other x)))

-- the token closes a bracket
abbrev pub Closing : Token → Type 0
Closing token = (r : Region) × (role_of token.kind ≡ role.Closes r)

-- before the token itself: no bracket was opened or closed, and lines say that it may stand there
pub record Stood (h : Context) (ok : Bool) (g : Context) : Type 0 where
  pub same : brackets g.frames ≡ brackets h.frames
  pub well : ok ≡ true

abbrev Left : List Open → List ℕ → Rule → Type 0
Left fs text rule = (rule ≡ INDENTATION) × (leaves_well fs text ≡ false)

record Within (fs : List Open) (text : List ℕ) (g : Context) : Type 0 where
  same : brackets g.frames ≡ brackets fs
  well : leaves_well fs text ≡ true

leave_outcome : (fs : List Open) (token : Token) (text : List ℕ) → Nested fs →
    Outcome token (Closing token) (Left fs text) (Within fs text)
    (λ go. leave fs token text (λ gs. write (line_sep token) (go (at_line false text gs))))
leave_outcome [] token text n = absurd (nested_some n)
leave_outcome (f ∷ fs) token text n =
    let stays = is_same_region f.region region.Brace || is_same f.text text in
    let leaves = is_block f.region && not (is_front f.text text) in
    outcome_if stays
    (λ same. after (line_sep token) (line_sep_at token) (line_sep_ending token)
    (here (at_line false text (f ∷ fs)) (fine_shut text (f ∷ fs) n) refl (record { same = refl; well = if_true stays true _ same })))
    (λ other. outcome_if leaves
    (λ both.
    let block = (and_parts (is_block f.region) (not (is_front f.text text)) both).0 in
    let wider : leaves_well (f ∷ fs) text ≡ leaves_well fs text =
    if_false stays true _ other ∙ if_true leaves (leaves_well fs text) false both in
    let first = block_first f fs (block_no_bracket f.region block) in
    after (close_at (spot_of token)) refl (close_at_ending token)
    (outcome_map (λ rule x. (x.0, wider ∙ x.1)) (λ g x. record { same = x.same ∙ sym first; well = wider ∙ x.well })
    (leave_outcome fs token text (nested_tail f fs (block_no_file f.region block) n))))
    (λ x. no INDENTATION (refl, if_false stays true _ other ∙ if_false leaves (leaves_well fs text) false x)))

-- a round or square closing bracket, or the end of a text
record RoundClose (token : Token) : Type 0 where
  region : Region
  closes : role_of token.kind ≡ role.Closes region
  lines : has_lines region ≡ false

bracket_of : (token : Token) (r : Region) → (role_of token.kind ≡ role.Opens r) ⊎ (role_of token.kind ≡ role.Closes r) → is_bracket r ≡ true
bracket_of token r e = by_test (is_bracket r) refl e
  where
    by_test : (b : Bool) → is_bracket r ≡ b → (role_of token.kind ≡ role.Opens r) ⊎ (role_of token.kind ≡ role.Closes r) →
        is_bracket r ≡ true
    by_test true p q = p
    by_test false p (inl q) = absurd (no_opens token.kind r p q)
    by_test false p (inr q) = absurd (no_closes token.kind r p q)

bracket_lines : (r : Region) → is_bracket r ≡ true → is_same_region r region.Brace ≡ false → has_lines r ≡ false
bracket_lines region.Round p q = refl
bracket_lines region.Square p q = refl
bracket_lines region.Hole p q = refl
bracket_lines r p q = absurd (cc)

round_close : (token : Token) (r : Role) → role_of token.kind ≡ r → is_bracket_close r ≡ true → RoundClose token
round_close token (role.Closes r) e p = record {
  region = r;
  closes = e;
  lines =
      bracket_lines r (bracket_of token r (inr e)) (not-true (is_same_region r region.Brace) p);
}
round_close token (role.Opens r) e p = absurd (cc)
round_close token role.Semicolon e p = absurd (cc)
round_close token role.Comma e p = absurd (cc)
round_close token role.Colon e p = absurd (cc)
round_close token role.Equals e p = absurd (cc)
round_close token role.Other e p = absurd (cc)

no_close : (token : Token) → is_brace_close (role_of token.kind) ≡ false → is_bracket_close (role_of token.kind) ≡ false → Closing token → ⊥
no_close token p q (r, e) = by_brace (is_same_region r region.Brace) refl
  where
    by_brace : (b : Bool) → is_same_region r region.Brace ≡ b → ⊥
    by_brace true x = let f : true ≡ false = sym (ap is_brace_close e ∙ x) ∙ p in cc
    by_brace false x = let f : true ≡ false = sym (ap is_bracket_close e ∙ ap not x) ∙ q in cc

abbrev Wrong : Bool → Context → Token → Rule → Type 0
Wrong ok h token rule = Reason ok (brackets h.frames) token rule

line_reason : (ok : Bool) (h : Context) (token : Token) (rule : Rule) → rule ≡ INDENTATION → is_brace_close (role_of token.kind) ≡ false →
    ok ≡ false → Wrong ok h token rule
line_reason ok h token rule e p q = subst (Wrong ok h token) (sym e) (bad_line p q)

indent_outcome : (ok : Bool) (h : Context) (token : Token) (text : List ℕ) → Nested h.frames → has_lines (region_at h.frames) ≡ true →
    is_brace_close (role_of token.kind) ≡ false → ok ≡ is_proper h.line text →
    Outcome token (Closing token) (Wrong ok h token) (Stood h ok) (λ go. indent h token text go)
indent_outcome ok h token text n e p is =
    outcome_if (is_proper h.line text)
    (λ deeper. outcome_if (is_bracket_close (role_of token.kind))
    (λ b. let x = round_close token (role_of token.kind) refl b in
    no BRACKET (bad_bracket x.region x.closes x.lines (inner_lines h.frames x.region n e x.lines) (is ∙ deeper)))
    (λ b.
    let block : Open = record { region = block_in (region_at h.frames); text = text; place = token.place } in
    let nested : Nested (block ∷ h.frames) =
    nested_block (block_is (region_at h.frames)) e (block_braces (region_at h.frames) (in_braces (region_at h.frames)) refl) n in
    passes (at_line false text (block ∷ h.frames)) (tok (mark_at t.Open (spot_of token)) ∷ line_sep token ∷ [])
    (fine_shut text (block ∷ h.frames) nested) refl
    (record { same = block_first block h.frames (block_no_bracket block.region (block_is (region_at h.frames))); well = is ∙ deeper })
    (refl, (line_sep_at token, tt)) (λ c. absurd (no_close token p b c)) (λ go. refl)))
    (λ flat. no INDENTATION (bad_line p (is ∙ flat)))

lead_outcome : (h : Context) (token : Token) (text : List ℕ) → Fine h → is_brace_close (role_of token.kind) ≡ false →
    Outcome token (Closing token) (Wrong (fits (Some text) h) h token) (Stood h (fits (Some text) h)) (λ go. lead h token text go)
lead_outcome h token text f p =
    outcome_if h.opened
    (λ o. indent_outcome (fits (Some text) h) h token text f.nested (f.lines o) p
    (if_true h.opened (is_proper h.line text) (leaves_well h.frames text) o))
    (λ o.
    let is = if_false h.opened (is_proper h.line text) (leaves_well h.frames text) o in
    outcome_map (λ rule x. line_reason _ h token rule x.0 p (is ∙ x.1)) (λ g x. record { same = x.same; well = is ∙ x.well })
    (leave_outcome h.frames token text f.nested))

shut : (a b : Bool) → (a || b) ≡ false → a ≡ false
shut true b e = absurd (cc)
shut false b e = refl

-- a place in a file, or before its first token
pub data AnyPlace (h : Context) : Type 0 where
  in_file : Fine h → AnyPlace h
  before_file : h.frames ≡ [] → AnyPlace h

place_brace : (h : Context) → AnyPlace h → is_same_region (inner (brackets h.frames)) region.Brace ≡ in_braces (region_at h.frames)
place_brace h (in_file f) = inner_brace h.frames f.nested
place_brace h (before_file e) = ap (λ fs. is_same_region (inner (brackets fs)) region.Brace) e ∙ sym (ap (λ fs. in_braces (region_at fs)) e)

follow_no : (h : Context) (token : Token) → AnyPlace h → (h.opened || is_none h.frames) ≡ true → (b v : Bool) →
    is_brace_close (role_of token.kind) ≡ b → in_braces (region_at h.frames) ≡ v →
    Wrong (fits None h) h token (if b && not v then BRACKET else INDENTATION)
follow_no h token a o false v p q = bad_line p (ap not o)
follow_no h token a o true false p q = bad_brace (closes_brace _ p) (place_brace h a ∙ q)
follow_no h token a o true true p q = bad_block (closes_brace _ p) (place_brace h a ∙ q)

fine_here : (h : Context) → AnyPlace h → (h.opened || is_none h.frames) ≡ false → Fine h
fine_here h (in_file f) o = f
fine_here h (before_file e) o = absurd (or_true h.opened (ap (λ fs. h.opened || is_none fs) (sym e) ∙ o))
  where
    or_true : (b : Bool) → (b || true) ≡ false → ⊥
    or_true true x = cc
    or_true false x = cc

follow_outcome : (h : Context) (token : Token) → AnyPlace h →
    Outcome token (Closing token) (Wrong (fits None h) h token) (Stood h (fits None h)) (λ go. follow h token go)
follow_outcome h token a =
    outcome_if (h.opened || is_none h.frames)
    (λ o. no _ (follow_no h token a o (is_brace_close (role_of token.kind)) (in_braces (region_at h.frames)) refl refl))
    (λ o. here h (fine_here h a o) (shut h.opened (is_none h.frames) o) (record { same = refl; well = ap not o }))

before_outcome : (l : Option (List ℕ)) (h : Context) (token : Token) → Fine h →
    ((text : List ℕ) → l ≡ Some text → is_brace_close (role_of token.kind) ≡ false) →
    Outcome token (Closing token) (Wrong (fits l h) h token) (Stood h (fits l h)) (λ go. before_token l h token go)
before_outcome None h token f p = follow_outcome h token (in_file f)
before_outcome (Some text) h token f p = lead_outcome h token text f (p text refl)

-- what the token itself does, as it ends its line or not
pub record Passes (ends : Bool) (c : Cell) (ok : Bool) (h : Context) (F : (Context → Walk) → Walk) : Type 0 where
  pub there : Context
  pub ws : List Written
  pub fine : Fine there
  pub opens : there.opened ≡ true → (ends ≡ true) × (is_opener (role_of c.token.kind) ≡ true)
  pub moves : Moves c (brackets h.frames) (brackets there.frames)
  pub well : ok ≡ true
  pub at : AllAt c.token.start ws
  pub walks : (go : Context → Walk) → F go ≡ front ws (go there)

pub data Both (c : Cell) (ok : Bool) (h : Context) (F : Bool → (Context → Walk) → Walk) : Type 0 where
  pass_both : ((ends : Bool) → Passes ends c ok h (F ends)) → Both c ok h F
  stop_both : (rule : Rule) (ws : List Written) → Wrong ok h c.token rule → Ending ws → AllAt c.token.start ws →
      ((ends : Bool) (go : Context → Walk) → F ends go ≡ front ws (refuse rule c.token.place)) → Both c ok h F

fine_stay : (h : Context) → Fine h → Fine (stay false h)
fine_stay h f = record { nested = f.nested; lines = λ e. absurd (cc) }

fine_opens : (h : Context) (v ends : Bool) → Fine h → (has_lines (region_at h.frames) && ends) ≡ v → Fine (stay v h)
fine_opens h v ends f e = record { nested = f.nested; lines = λ o. (and_parts (has_lines (region_at h.frames)) ends (e ∙ o)).0 }

-- a token that is no bracket
plain : {ends ok : Bool} (c : Cell) (w : Written) (v : Bool) (h : Context) → Fine (stay v h) →
    (v ≡ true → (ends ≡ true) × (is_opener (role_of c.token.kind) ≡ true)) → is_no_bracket (role_of c.token.kind) ≡ true → ok ≡ true →
    WrittenAt c.token.start w →
    Passes ends c ok h (λ go. write w (go (stay v h)))
plain c w v h f o p k a = record {
  there = stay v h;
  ws = w ∷ [];
  fine = f;
  opens = o;
  moves = moves_none p;
  well = k;
  at = (a, tt);
  walks =
      λ go. refl;
}

never : {P : Type 0} → false ≡ true → P
never e = absurd (cc)

opener_both : (ends : Bool) (h : Context) (c : Cell) → is_opener (role_of c.token.kind) ≡ true → (v : Bool) →
    (has_lines (region_at h.frames) && ends) ≡ v → v ≡ true → (ends ≡ true) × (is_opener (role_of c.token.kind) ≡ true)
opener_both ends h c p v e o = ((and_parts (has_lines (region_at h.frames)) ends (e ∙ o)).1, p)

colon_passes : (h : Context) (c : Cell) (ok v ends : Bool) → Fine h → role_of c.token.kind ≡ role.Colon → ok ≡ true →
    (has_lines (region_at h.frames) && ends) ≡ v → Passes ends c ok h (λ go. after_colon v c.token (go (stay v h)))
colon_passes h c ok true ends f p k e = record {
  there = stay true h;
  ws = [];
  fine = fine_opens h true ends f e;
  opens = opener_both ends h c (ap is_opener p) true e;
  moves = moves_none (ap is_no_bracket p);
  well = k;
  at = tt;
  walks = λ go. refl;
}
colon_passes h c ok false ends f p k e = plain c (tok (passed c.token)) false h (fine_stay h f) never (ap is_no_bracket p) k refl

opened_at : (r : Region) (token : Token) → WrittenAt token.start (tok (opened_as r token))
opened_at r token = by_brace (is_same_region r region.Brace)
  where
    by_brace : (b : Bool) → WrittenAt token.start (tok (if b then tok_as t.Open token else passed token))
    by_brace true = refl
    by_brace false = refl

opens_passes : (h : Context) (c : Cell) (ok : Bool) (r : Region) → role_of c.token.kind ≡ role.Opens r → ok ≡ true → Fine h →
    Both c ok h (λ ends go. on_role (role.Opens r) ends h c.token go)
opens_passes h c ok r e k f =
    let b = bracket_of c.token r (inl e) in
    let frame : Open = record { region = r; text = h.line; place = c.token.place } in
    pass_both (λ ends. record {
      there = at_line false h.line (frame ∷ h.frames);
      ws = tok (opened_as r c.token) ∷ [];
      fine = fine_shut h.line (frame ∷ h.frames) (nested_bracket (bracket_no_block r b) (bracket_no_file r b) f.nested);
      opens = never;
      moves = subst (Moves c (brackets h.frames)) (sym (bracket_first frame h.frames b)) (moves_open frame e refl);
      well = k;
      at = (opened_at r c.token, tt);
      walks = λ go. refl;
    })

divided_at : (v : Bool) (token : Token) → WrittenAt token.start (divided v token)
divided_at true token = (refl, refl)
divided_at false token = refl

closes_reason : (h : Context) (c : Cell) (ok : Bool) (r : Region) (rule : Rule) → role_of c.token.kind ≡ role.Closes r →
    is_bracket r ≡ true → ok ≡ true → Unmatched r (brackets h.frames) rule → Wrong ok h c.token rule
closes_reason h c ok r rule e b k x = subst (Wrong ok h c.token) (sym x.0) (by_brace (is_same_region r region.Brace) refl)
  where
    by_brace : (v : Bool) → is_same_region r region.Brace ≡ v → Wrong ok h c.token BRACKET
    by_brace true v = let same = same_region r region.Brace v in
        bad_brace (e ∙ ap role.Closes same) (ap (is_same_region (inner (brackets h.frames))) (sym same) ∙ x.1)
    by_brace false v = bad_bracket r e (bracket_lines r b v) x.1 k

closes_both : (h : Context) (c : Cell) (ok : Bool) (r : Region) → role_of c.token.kind ≡ role.Closes r → ok ≡ true → Fine h →
    Both c ok h (λ ends go. on_role (role.Closes r) ends h c.token go)
closes_both h c ok r e k f = by_outcome (close_outcome r h.frames c.token b f.nested)
  where
    b : is_bracket r ≡ true
    b = bracket_of c.token r (inr e)

    by_outcome : Outcome c.token ⊥ (Unmatched r (brackets h.frames)) (Closed r (brackets h.frames)) (λ go. close r h.frames c.token go) →
        Both c ok h (λ ends go. on_role (role.Closes r) ends h c.token go)
    by_outcome (passes g ws x o y a z w) = pass_both (λ ends. record {
      there = g;
      ws = ws;
      fine = x;
      opens = λ q. absurd (let p : false ≡ true = sym o ∙ q in cc);
      moves = moves_close y.frame (brackets g.frames) y.first (e ∙ ap role.Closes (sym y.region_is));
      well = k;
      at = a;
      walks = w;
    })
    by_outcome (stops rule ws x a z w) = stop_both rule ws (closes_reason h c ok r rule e b k x) z a (λ ends. w)

role_both : (h : Context) (c : Cell) (ok : Bool) (r : Role) → role_of c.token.kind ≡ r → ok ≡ true → Fine h →
    Both c ok h (λ ends go. on_role r ends h c.token go)
role_both h c ok (role.Opens r) e k f = opens_passes h c ok r e k f
role_both h c ok (role.Closes r) e k f = closes_both h c ok r e k f
role_both h c ok role.Semicolon e k f = pass_both
    (λ ends. plain c _ false h (fine_stay h f) never (ap is_no_bracket e) k (divided_at _ c.token))
role_both h c ok role.Comma e k f = pass_both
    (λ ends. plain c _ false h (fine_stay h f) never (ap is_no_bracket e) k (divided_at _ c.token))
role_both h c ok role.Colon e k f = pass_both (λ ends. colon_passes h c ok _ ends f e k refl)
role_both h c ok role.Equals e k f = pass_both
    (λ ends. plain c (tok (passed c.token)) _ h (fine_opens h _ ends f refl) (opener_both ends h c (ap is_opener e) _ refl)
    (ap is_no_bracket e) k refl)
role_both h c ok role.Other e k f = pass_both
    (λ ends. plain c (tok (passed c.token)) false h (fine_stay h f) never (ap is_no_bracket e) k refl)

-- one step after the other
and_then : {c : Cell} {ok : Bool} {h : Context} {F : (Context → Walk) → Walk} →
    Outcome c.token (Closing c.token) (Wrong ok h c.token) (Stood h ok) F →
    Both c ok h (λ ends go. F (λ g. on_token ends g c.token go))
and_then {c = c} {ok = ok} {h = h} {F = F} (passes g ws f o x a z e) = join (role_both g c ok (role_of c.token.kind) refl x.well f)
  where
    closing : (rule : Rule) → Wrong ok g c.token rule → rule ≡ rule → (is_brace_close (role_of c.token.kind) ≡ false → ok ≡ false → ⊥) →
        Closing c.token
    closing rule (bad_line p q) s no_line = absurd (no_line p q)
    closing rule (bad_brace p q) s no_line = (region.Brace, p)
    closing rule (bad_block p q) s no_line = (region.Brace, p)
    closing rule (bad_bracket r p q u v) s no_line = (r, p)

    join : Both c ok g (λ ends go. on_role (role_of c.token.kind) ends g c.token go) →
        Both c ok h (λ ends go. F (λ k. on_token ends k c.token go))
    join (pass_both p) = pass_both (λ ends. record {
      there = (p ends).there;
      ws = ws ++ (p ends).ws;
      fine = (p ends).fine;
      opens = (p ends).opens;
      moves = subst (λ bs. Moves c bs (brackets ((p ends).there).frames)) x.same (p ends).moves;
      well = x.well;
      at = at_append c.token.start ws (p ends).ws a (p ends).at;
      walks = λ go. e (λ k. on_token ends k c.token go) ∙ ap (front ws) ((p ends).walks go) ∙
          front_front ws (p ends).ws (go (p ends).there);
    })
    join (stop_both rule vs r u b d) =
        stop_both rule (ws ++ vs) (subst (λ bs. Reason ok bs c.token rule) x.same r)
        (ending_append ws vs (z (closing rule r refl (λ p q. let y : true ≡ false = sym x.well ∙ q in cc))) u)
        (at_append c.token.start ws vs a b)
        (λ ends go. e (λ k. on_token ends k c.token go) ∙ ap (front ws) (d ends go) ∙ front_front ws vs (refuse rule c.token.place))
and_then {c = c} {F = F} (stops rule ws r a z e) = stop_both rule ws r z a (λ ends go. e (λ k. on_token ends k c.token go))

line_no_brace : (fs : List Open) (c : Cell) (text : List ℕ) → line_start fs c ≡ Some text → is_brace_close (role_of c.token.kind) ≡ false
line_no_brace fs c text e = by_brace (is_brace_close (role_of c.token.kind)) refl
  where
    or_true : (b : Bool) → (b || true) ≡ true
    or_true true = refl
    or_true false = refl

    by_brace : (b : Bool) → is_brace_close (role_of c.token.kind) ≡ b → is_brace_close (role_of c.token.kind) ≡ false
    by_brace false p = p
    by_brace true p =
        let none : begins_none fs c.token ≡ true =
        ap (λ b. not (has_lines (region_at fs)) || b) p ∙ or_true (not (has_lines (region_at fs))) in
        let x : line_start fs c ≡ None = if_true (begins_none fs c.token) None c.line none in
        absurd (let y : None ≡ Some text = sym x ∙ e in cc)

-- as far as lines say, the token may stand there
abbrev pub stands : Context → Cell → Bool
stands h c = fits (line_start h.frames c) h

pub step_both : (h : Context) (c : Cell) → Fine h → Both c (stands h c) h (λ ends go. step h c ends go)
step_both h c f = and_then (before_outcome (line_start h.frames c) h c.token f (line_no_brace h.frames c))

-- the first token of a file
first_line : (c : Cell) (l : Option (List ℕ)) →
    Outcome c.token (Closing c.token) (Wrong (fits l (at_line false [] [])) (at_line false [] []) c.token)
    (Stood (at_line false [] []) (fits l (at_line false [] []))) (λ go. before_token l (at_line false [] []) c.token go)
first_line c None = follow_outcome (at_line false [] []) c.token (before_file refl)
first_line c (Some text) =
    after (line_sep c.token) (line_sep_at c.token) (line_sep_ending c.token)
    (here _ (fine_shut text _ (nested_file refl)) refl (record { same = refl; well = refl }))

pub first_both : (c : Cell) → Both c (stands (at_line false [] []) c) (at_line false [] [])
    (λ ends go. step (at_line false [] []) c ends go)
first_both c = and_then (first_line c (line_start [] c))
