-- Words about walks: what is written before one, and where a walk stands.
use Rattle.std.proofs.Common.{◌≡◌, Bool, true, false, not, ◌||◌, List, [], ◌∷◌, ◌++◌, ℕ, None, refl, sym, ◌∙◌, ap, append_assoc}
use Rattle.std.proofs.Common.{if◌then◌else◌}
use Rattle.std.specs.Cmp.Lexicographic.{other_text}
use Rattle.verse_layout.specs.declared.frames.Spot.{Spot}
use Rattle.verse_layout.specs.declared.roles.Region.{Region}
use Rattle.verse_layout.specs.declared.roles.Region.TheVariants as region
use Rattle.verse_layout.specs.Roles.{role_of, has_lines, is_same_region, is_brace_close}
use Rattle.verse_layout.specs.Cells.{Cell, ends_line, is_same}
use Rattle.verse_layout.specs.Written.{Written}
use Rattle.verse_layout.specs.Frames.{Open, Context, Walk, walk, on_token, line_start, region_at}

abbrev pub at_line : Bool → List ℕ → List Open → Context
at_line o h fs = record { opened = o; line = h; frames = fs }

-- the walk from here on
abbrev pub go : Spot → List ℕ → List Open → List Cell → Walk
go end h fs cs = walk end (at_line false h fs) cs

-- the walk behind an opener
abbrev pub go_open : Spot → List ℕ → List Open → List Cell → Walk
go_open end h fs cs = walk end (at_line true h fs) cs

-- the walk whose first token is met without what stands before it
abbrev pub go_token : Spot → List ℕ → List Open → List Cell → Walk
go_token end h fs [] = go end h fs []
go_token end h fs (c ∷ cs) = on_token (ends_line cs) (at_line false h fs) c.token (λ g. walk end g cs)

abbrev pub front : List Written → Walk → Walk
front ws x = record { written = ws ++ x.written; stop = x.stop }

pub front_front : (ws vs : List Written) (x : Walk) → front ws (front vs x) ≡ front (ws ++ vs) x
front_front ws vs x = ap (λ us. let w : Walk = record { written = us; stop = x.stop } in w) (sym (append_assoc ws vs x.written))

pub if_true : {A : Type 0} (b : Bool) (x y : A) → b ≡ true → (if b then x else y) ≡ x
if_true b x y e = rw e refl

pub if_false : {A : Type 0} (b : Bool) (x y : A) → b ≡ false → (if b then x else y) ≡ y
if_false b x y e = rw e refl

pub same_self : (i : List ℕ) → is_same i i ≡ true
same_self i = by_test (is_same i i) refl
  where
    by_test : (v : Bool) → is_same i i ≡ v → is_same i i ≡ true
    by_test true e = e
    by_test false e = absurd (other_text i i (sym e) refl)

pub same_region : (r s : Region) → is_same_region r s ≡ true → r ≡ s
same_region region.File region.File e = refl
same_region region.Block region.Block e = refl
same_region region.BraceBlock region.BraceBlock e = refl
same_region region.Brace region.Brace e = refl
same_region region.Round region.Round e = refl
same_region region.Square region.Square e = refl
same_region region.Hole region.Hole e = refl
same_region r s e = absurd (cc)

pub region_self : (r : Region) → is_same_region r r ≡ true
region_self region.File = refl
region_self region.Block = refl
region_self region.BraceBlock = refl
region_self region.Brace = refl
region_self region.Round = refl
region_self region.Square = refl
region_self region.Hole = refl

-- no line begins where line ends mean nothing
pub no_start : (f : Open) (fs : List Open) (c : Cell) → has_lines f.region ≡ false → line_start (f ∷ fs) c ≡ None
no_start f fs c e = ap (λ b. if not b || is_brace_close (role_of c.token.kind) then None else c.line) e

-- nor at a `}`
pub brace_start : (fs : List Open) (c : Cell) → is_brace_close (role_of c.token.kind) ≡ true → line_start fs c ≡ None
brace_start fs c e = ap (λ b. if not (has_lines (region_at fs)) || b then None else c.line) e ∙ by_test (has_lines (region_at fs))
  where
    by_test : (b : Bool) → (if not b || true then None else c.line) ≡ None
    by_test true = refl
    by_test false = refl

pub line_begins : (f : Open) (fs : List Open) (c : Cell) → has_lines f.region ≡ true → is_brace_close (role_of c.token.kind) ≡ false →
    line_start (f ∷ fs) c ≡ c.line
line_begins f fs c e g = ap (λ b. if not b || is_brace_close (role_of c.token.kind) then None else c.line) e ∙
    ap (λ b. if b then None else c.line) g

-- a token that begins no line
pub go_on : (end : Spot) (h : List ℕ) (f : Open) (fs : List Open) (c : Cell) (cs : List Cell) → line_start (f ∷ fs) c ≡ None →
    go end h (f ∷ fs) (c ∷ cs) ≡ go_token end h (f ∷ fs) (c ∷ cs)
go_on end h f fs c cs e = rw e refl
