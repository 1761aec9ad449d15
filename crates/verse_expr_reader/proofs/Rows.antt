-- One phrase or more, with a separator between them, up to a closing tok.
use Rattle.std.proofs.Common.{◌≡◌, ◌≢◌, ◌<◌, ◌≤◌, ℕ, List, [], ◌∷◌, ◌++◌, Some, length, map, arith}
use Rattle.std.proofs.lemmas.List.{map-append}
use Rattle.verse_tree.specs.View.{tree_of}
use Rattle.verse_tree.specs.declared.exprs.Expr.{Expr}
use Rattle.verse_grammar.specs.Exprs.{Reads, Row, row_more}
use Rattle.verse_layout.specs.declared.toks.Tok.{Tok}
use Rattle.verse_layout.specs.declared.toks.TokKind.{TokKind}
use Rattle.verse_grammar.specs.Toks.{ahead}
use Rattle.verse_grammar.specs.Symbols.{phrase, closed, row_tail}
use Rattle.verse_grammar.specs.Reading.{EatsRule, SticksRule}
use Rattle.verse_grammar.specs.Loops.{Goes}
use Rattle.verse_grammar.specs.declared.phrases.Phrase.{Phrase}
use Rattle.verse_grammar.proofs.Eating.{eats_closed, eats_row_tail_other}
use Rattle.verse_grammar.proofs.StickingParts.{sticks_closed_2, sticks_closed_3}
use Rattle.verse_grammar.proofs.Going.{goes_row_tail_at, stuck_row_tail_at_1}

pub closed_eaten : (q : Phrase) (s c : TokKind) (k : Tok) (ks mid rest : List Tok) → EatsRule (phrase q) ks mid →
    Goes (row_tail q s) mid (k ∷ rest) → ahead (k ∷ rest) ≢ Some s → k.kind ≡ c →
    EatsRule (closed q s c) ks rest
closed_eaten q s c k ks mid rest e g n h = eats_closed q s c k ks mid rest e (g.eats (k ∷ rest) (eats_row_tail_other q s (k ∷ rest) n)) h

pub closed_stuck_at_end : (q : Phrase) (s c : TokKind) (ks mid at : List Tok) → EatsRule (phrase q) ks mid → Goes (row_tail q s) mid at →
    ahead at ≢ Some s → ahead at ≢ Some c →
    SticksRule (closed q s c) ks (length at)
closed_stuck_at_end q s c ks mid at e g n x = sticks_closed_3 q s c ks mid at e (g.eats at (eats_row_tail_other q s at n)) x

pub closed_stuck_between : (q : Phrase) (s c : TokKind) (left : ℕ) (k : Tok) (ks mid at : List Tok) → EatsRule (phrase q) ks mid →
    Goes (row_tail q s) mid (k ∷ at) → k.kind ≡ s → SticksRule (phrase q) at left →
    SticksRule (closed q s c) ks left
closed_stuck_between q s c left k ks mid at e g h x = sticks_closed_2 q s c left ks mid e (stuck_row_tail_at_1 q s left k mid at g h x)

-- one more phrase behind a separator
pub row_next : (b : List ℕ) (q : Phrase) (s : TokKind) (k : Tok) (ks ls ms rest : List Tok) (es fs : List Expr) (e : Expr) →
    Row b q s ks (map tree_of es) ls → ls ≡ k ∷ ms → k.kind ≡ s →
    Reads b q ms (tree_of e) rest → fs ≡ es ++ e ∷ [] → Row b q s ks (map tree_of fs) rest
row_next b q s k ks ls ms rest es fs e r same h x f = rw (f, map-append) (row_more (rw same at r) h x)

pub goes_next : (q : Phrase) (s : TokKind) (k : Tok) (ks ls ms rest : List Tok) → Goes (row_tail q s) ks ls → ls ≡ k ∷ ms → k.kind ≡ s →
    EatsRule (phrase q) ms rest → Goes (row_tail q s) ks rest
goes_next q s k ks ls ms rest g same h e = goes_row_tail_at q s k ks ms rest (rw same at g) h e

pub shorter_next : {A : Type 0} (k : A) (ks ls ms rest : List A) → ls ≡ k ∷ ms → length rest < length ms → length ls ≤ length ks →
    length rest ≤ length ks
shorter_next k ks ls ms rest same a b = omega (arith, a, rw same at b)

pub no_longer_next : {A : Type 0} (k : A) (ks ls ms rest : List A) → ls ≡ k ∷ ms → length rest ≤ length ms → length ls ≤ length ks →
    length rest ≤ length ks
no_longer_next k ks ls ms rest same a b = omega (arith, a, rw same at b)
