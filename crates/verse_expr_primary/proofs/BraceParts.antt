-- Forms in braces and the parts of a `for`, by what the code knows: an equation says which tok stands ahead, and what is made.
use Rattle.std.proofs.Common.{◌≡◌, ℕ, List, [], ◌∷◌, ◌++◌, Some}
use Rattle.verse_layout.specs.declared.toks.TokKind.TheVariants as tok
use Rattle.verse_layout.specs.declared.toks.Tok.{Tok}
use Rattle.verse_tree.specs.Tree.{Tree, tree}
use Rattle.verse_tree.specs.Tree as t
use Rattle.verse_grammar.specs.Starts.{primary_start}
use Rattle.verse_grammar.specs.Exprs.{Reads, PairRow}
use Rattle.verse_grammar.specs.Symbols.{phrase, pair, pairs_tail}
use Rattle.verse_grammar.specs.Reading.{EatsRule}
use Rattle.verse_grammar.specs.Loops.{Goes}
use Rattle.verse_grammar.specs.declared.phrases.Phrase.TheVariants as p
use Rattle.verse_grammar.specs.declared.starts.PrimaryStart.TheVariants as primary
use Rattle.verse_grammar.proofs.Going.{goes_pairs_tail_at}
use Rattle.verse_expr_primary.specs.Parts.{IsPair}
use Rattle.verse_expr_primary.proofs.Parts.{pair_row_more, spawn_by, eats_spawn_by}

pub pairs_next : (b : List ℕ) (k : Tok) (ks ls ms rest : List Tok) (es fs : List (Tree × Tree)) (e : Tree × Tree) → PairRow b ks es ls →
    ls ≡ k ∷ ms → k.kind ≡ tok.Sep → IsPair b ms e rest → fs ≡ es ++ e ∷ [] → PairRow b ks fs rest
pairs_next b k ks ls ms rest es fs e r same h x f = rw f (pair_row_more (rw same at r) h x)

pub goes_pairs_next : (k : Tok) (ks ls ms rest : List Tok) → Goes pairs_tail ks ls → ls ≡ k ∷ ms → k.kind ≡ tok.Sep →
    EatsRule pair ms rest → Goes pairs_tail ks rest
goes_pairs_next k ks ls ms rest g same h e = goes_pairs_tail_at k ks ms rest (rw same at g) h e

pub spawn_made : {b : List ℕ} {k o c : Tok} {all ks mid rest : List Tok} {e made : Tree} → primary_start k.kind ≡ Some primary.Spawn →
    all ≡ o ∷ ks → o.kind ≡ tok.Open → Reads b p.Expr ks e mid → mid ≡ c ∷ rest → c.kind ≡ tok.Close →
    made ≡ tree 0 k.place (t.Shape.spawn e) → Reads b p.Primary (k ∷ all) made rest
spawn_made s a h r q i t = rw (a, t) (spawn_by s h r q i)

pub spawn_eaten : (k o c : Tok) (all ks mid rest : List Tok) → primary_start k.kind ≡ Some primary.Spawn → all ≡ o ∷ ks →
    o.kind ≡ tok.Open → EatsRule (phrase p.Expr) ks mid → mid ≡ c ∷ rest → c.kind ≡ tok.Close →
    EatsRule (phrase p.Primary) (k ∷ all) rest
spawn_eaten k o c all ks mid rest s a h e q i = rw a (eats_spawn_by k o c ks mid rest s h e q i)
