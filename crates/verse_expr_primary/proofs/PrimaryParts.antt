-- Names, instances, texts with holes and arms: one part more, and where they do not go on, by equations.
use Rattle.std.proofs.Common.{◌≡◌, ℕ, List, [], ◌∷◌, ◌++◌, Option, Some}
use Rattle.verse_lex.specs.declared.tokens.TokenKind.TheVariants as token
use Rattle.verse_layout.specs.declared.toks.TokKind.TheVariants as tok
use Rattle.verse_layout.specs.declared.toks.Tok.{Tok}
use Rattle.verse_tree.specs.Tree.{Bytes, Tree}
use Rattle.verse_grammar.specs.Toks.{text_at}
use Rattle.verse_grammar.specs.Starts.{primary_start}
use Rattle.verse_grammar.specs.Exprs.{Reads, GivenRow, HoleRow, no_holes, AreHoles, brackets, tuple}
use Rattle.verse_grammar.specs.declared.phrases.Phrase.TheVariants as p
use Rattle.verse_grammar.specs.declared.starts.PrimaryStart.TheVariants as primary
use Rattle.verse_expr_primary.specs.Parts.{IsGiven}
use Rattle.verse_expr_primary.specs.HoleReads.{HoleRead, hole_read}
use Rattle.verse_expr_primary.specs.Rounds.{RoundRest, only_one, several, rounded}
use Rattle.verse_expr_primary.proofs.Repeats.{given_row_more_by, more_holes_by, last_hole_by}

-- one more field of an instance
pub givens_next : (b : List ℕ) (k : Tok) (ks ls ms rest : List Tok) (gs hs : List (Bytes × Tree)) (g : Bytes × Tree) → GivenRow b ks gs ls →
    ls ≡ k ∷ ms → k.kind ≡ tok.Sep →
    IsGiven b ms g rest → hs ≡ gs ++ g ∷ [] → GivenRow b ks hs rest
givens_next b k ks ls ms rest gs hs g row same h x f = rw f (given_row_more_by row same h x)

-- the holes of a text
pub holes_begun : {b : List ℕ} {ks rest : List Tok} {e : Tree} → Reads b p.Expr ks e rest → HoleRead b ks [] e rest
holes_begun r = hole_read no_holes r

holes_more : {b : List ℕ} {k : Tok} {ks mid rest : List Tok} {hs : List (Tree × Bytes)} {e : Tree} → HoleRead b ks hs e mid →
    mid ≡ k ∷ rest → k.kind ≡ tok.Plain token.TextMid → HoleRow b ks (hs ++ (e, text_at b k) ∷ []) rest
holes_more (hole_read row r) same h = more_holes_by row r same h

holes_done : {b : List ℕ} {k : Tok} {ks mid rest : List Tok} {hs : List (Tree × Bytes)} {e : Tree} → HoleRead b ks hs e mid →
    mid ≡ k ∷ rest → k.kind ≡ tok.Plain token.TextClose → AreHoles b ks (hs ++ (e, text_at b k) ∷ []) rest
holes_done (hole_read row r) same h = last_hole_by row r same h

pub holes_next : (b : List ℕ) (k : Tok) (ks mid ms rest : List Tok) (gs hs : List (Tree × Bytes)) (e f : Tree) (text : Bytes) →
    HoleRead b ks gs e mid → mid ≡ k ∷ ms → k.kind ≡ tok.Plain token.TextMid →
    text ≡ text_at b k → hs ≡ gs ++ (e, text) ∷ [] → Reads b p.Expr ms f rest → HoleRead b ks hs f rest
holes_next b k ks mid ms rest gs hs e f text r same h made all s = hole_read (rw (all, made) (holes_more r same h)) s

pub holes_last : (b : List ℕ) (k : Tok) (ks mid rest : List Tok) (gs hs : List (Tree × Bytes)) (e : Tree) (text : Bytes) →
    HoleRead b ks gs e mid → mid ≡ k ∷ rest → k.kind ≡ tok.Plain token.TextClose →
    text ≡ text_at b k → hs ≡ gs ++ (e, text) ∷ [] → AreHoles b ks hs rest
holes_last b k ks mid rest gs hs e text r same h made all = rw (all, made) (holes_done r same h)

-- round brackets
pub round_reads : {b : List ℕ} {k : Tok} {ks mid rest : List Tok} {e x : Tree} {more : Option (List Tree)} →
    primary_start k.kind ≡ Some primary.Round → Reads b p.Expr ks e mid → RoundRest b mid more rest → x ≡ rounded k.place e more →
    Reads b p.Primary (k ∷ ks) x rest
round_reads s r (only_one h) made = rw made (brackets s r h)
round_reads s r (several h c) made = rw made (tuple s r h c)
