-- Loops over parts of primary forms, by equations: the tok that ends a turn is known by one.
use Rattle.std.proofs.Common.{◌≡◌, ◌≢◌, ℕ, List, [], ◌∷◌, ◌++◌, Some}
use Rattle.verse_lex.specs.declared.tokens.TokenKind.TheVariants as token
use Rattle.verse_layout.specs.declared.toks.TokKind.TheVariants as tok
use Rattle.verse_layout.specs.declared.toks.Tok.{Tok}
use Rattle.verse_tree.specs.Tree.{Bytes, Tree}
use Rattle.verse_grammar.specs.Toks.{ahead, text_at}
use Rattle.verse_grammar.specs.Starts.{primary_start}
use Rattle.verse_grammar.specs.Exprs.{Reads, GivenRow, GivensUntil, some_givens, HoleRow, more_holes, AreHoles, last_hole}
use Rattle.verse_grammar.specs.Symbols.{phrase, given, givens_until, givens_tail, hole_rest}
use Rattle.verse_grammar.specs.Reading.{EatsRule, SticksRule}
use Rattle.verse_grammar.specs.Loops.{Goes}
use Rattle.verse_grammar.specs.declared.phrases.Phrase.TheVariants as p
use Rattle.verse_grammar.specs.declared.starts.PrimaryStart.TheVariants as primary
use Rattle.verse_grammar.proofs.Going.{goes_givens_tail_at, goes_hole_rest_at}
use Rattle.verse_expr_primary.specs.Parts.{IsGiven}
use Rattle.verse_expr_primary.proofs.Parts.{given_row_more, givens_eaten, holes_eaten, givens_stuck_between, holes_stuck_between}

pub given_row_more_by : {b : List ℕ} {k : Tok} {ks mid ls rest : List Tok} {gs : List (Bytes × Tree)} {g : Bytes × Tree} →
    GivenRow b ks gs mid → mid ≡ k ∷ ls → k.kind ≡ tok.Sep → IsGiven b ls g rest → GivenRow b ks (gs ++ g ∷ []) rest
given_row_more_by row q s i = given_row_more (rw q at row) s i

pub some_givens_by : {b : List ℕ} {c : Tok} {ks mid rest : List Tok} {gs : List (Bytes × Tree)} → GivenRow b ks gs mid → mid ≡ c ∷ rest →
    c.kind ≡ tok.Close → GivensUntil b ks gs rest
some_givens_by row q h = some_givens (rw q at row) h

pub goes_givens_by : (k : Tok) (ks0 mid ks1 rest : List Tok) → Goes givens_tail ks0 mid → mid ≡ k ∷ ks1 → k.kind ≡ tok.Sep →
    EatsRule given ks1 rest → Goes givens_tail ks0 rest
goes_givens_by k ks0 mid ks1 rest g q h e = goes_givens_tail_at k ks0 ks1 rest (rw q at g) h e

pub givens_eaten_by : (k : Tok) (ks mid at rest : List Tok) → ahead ks ≢ Some tok.Close → EatsRule given ks mid → Goes givens_tail mid at →
    ahead at ≢ Some tok.Sep → at ≡ k ∷ rest → k.kind ≡ tok.Close → EatsRule givens_until ks rest
givens_eaten_by k ks mid at rest o e g n q h = givens_eaten k ks mid rest o e (rw q at g) (rw q at n) h

pub givens_stuck_between_by : (left : ℕ) (k : Tok) (ks mid at0 at : List Tok) → ahead ks ≢ Some tok.Close → EatsRule given ks mid →
    Goes givens_tail mid at0 → at0 ≡ k ∷ at → k.kind ≡ tok.Sep → SticksRule given at left → SticksRule givens_until ks left
givens_stuck_between_by left k ks mid at0 at o e g q h x = givens_stuck_between left k ks mid at o e (rw q at g) h x

pub more_holes_by : {b : List ℕ} {k : Tok} {ks ls mid rest : List Tok} {e : Tree} {hs : List (Tree × Bytes)} → HoleRow b ks hs ls →
    Reads b p.Expr ls e mid → mid ≡ k ∷ rest → k.kind ≡ tok.Plain token.TextMid → HoleRow b ks (hs ++ (e, text_at b k) ∷ []) rest
more_holes_by row r q h = more_holes row (rw q at r) h

pub last_hole_by : {b : List ℕ} {k : Tok} {ks ls mid rest : List Tok} {e : Tree} {hs : List (Tree × Bytes)} → HoleRow b ks hs ls →
    Reads b p.Expr ls e mid → mid ≡ k ∷ rest → k.kind ≡ tok.Plain token.TextClose → AreHoles b ks (hs ++ (e, text_at b k) ∷ []) rest
last_hole_by row r q h = last_hole row (rw q at r) h

pub goes_holes_by : (k : Tok) (ks0 mid ks1 rest : List Tok) → Goes hole_rest ks0 mid → mid ≡ k ∷ ks1 → k.kind ≡ tok.Plain token.TextMid →
    EatsRule (phrase p.Expr) ks1 rest → Goes hole_rest ks0 rest
goes_holes_by k ks0 mid ks1 rest g q h e = goes_hole_rest_at k ks0 ks1 rest (rw q at g) h e

pub holes_eaten_by : (k c : Tok) (ks mid at rest : List Tok) → primary_start k.kind ≡ Some primary.TextOpen →
    EatsRule (phrase p.Expr) ks mid → Goes hole_rest mid at → ahead at ≢ Some (tok.Plain token.TextMid) → at ≡ c ∷ rest →
    c.kind ≡ tok.Plain token.TextClose → EatsRule (phrase p.Primary) (k ∷ ks) rest
holes_eaten_by k c ks mid at rest s e g n q h = holes_eaten k c ks mid rest s e (rw q at g) (rw q at n) h

pub holes_stuck_between_by : (left : ℕ) (k c : Tok) (ks mid at0 at : List Tok) → primary_start k.kind ≡ Some primary.TextOpen →
    EatsRule (phrase p.Expr) ks mid → Goes hole_rest mid at0 → at0 ≡ c ∷ at → c.kind ≡ tok.Plain token.TextMid →
    SticksRule (phrase p.Expr) at left → SticksRule (phrase p.Primary) (k ∷ ks) left
holes_stuck_between_by left k c ks mid at0 at s e g q h x = holes_stuck_between left k c ks mid at s e (rw q at g) h x
