-- One operand more in a chain.
use Rattle.std.proofs.Common.{◌≡◌, ℕ, List, ◌∷◌, Some}
use Rattle.verse_layout.specs.declared.toks.Tok.{Tok}
use Rattle.verse_tree.specs.Tree.{Tree}
use Rattle.verse_tree.specs.Tree as t
use Rattle.verse_tree.specs.declared.exprs.Operator.{Operator}
use Rattle.verse_grammar.specs.Exprs.{Reads, Chain, chain_more, chain_operator, operand, at}
use Rattle.verse_grammar.specs.Symbols.{phrase, chain_tail}
use Rattle.verse_grammar.specs.Reading.{EatsRule, SticksRule}
use Rattle.verse_grammar.specs.Loops.{Goes}
use Rattle.verse_grammar.specs.declared.phrases.Phrase.{Phrase}
use Rattle.verse_grammar.proofs.Going.{goes_chain_tail_at, stuck_chain_tail_at_1}

pub chain_next : (b : List ℕ) (q : Phrase) (o : Operator) (k : Tok) (ks ls ms rest : List Tok) (e f g x : Tree) → Chain b q e ks f ls →
    ls ≡ k ∷ ms → chain_operator q k.kind ≡ Some o →
    Reads b (operand q) ms g rest → x ≡ at k (t.Shape.chained o f g) → Chain b q e ks x rest
chain_next b q o k ks ls ms rest e f g x c same h r made = rw made (chain_more (rw same at c) h r)

pub goes_chain : (q : Phrase) (o : Operator) (k : Tok) (ks ls ms rest : List Tok) → Goes (chain_tail q) ks ls → ls ≡ k ∷ ms →
    chain_operator q k.kind ≡ Some o → EatsRule (phrase (operand q)) ms rest →
    Goes (chain_tail q) ks rest
goes_chain q o k ks ls ms rest g same h e = goes_chain_tail_at q o k ks ms rest (rw same at g) h e

pub stuck_chain : (q : Phrase) (o : Operator) (k : Tok) (ks ls ms : List Tok) (left : ℕ) → Goes (chain_tail q) ks ls → ls ≡ k ∷ ms →
    chain_operator q k.kind ≡ Some o → SticksRule (phrase (operand q)) ms left →
    SticksRule (chain_tail q) ks left
stuck_chain q o k ks ls ms left g same h x = stuck_chain_tail_at_1 q o left k ks ms (rw same at g) h x
