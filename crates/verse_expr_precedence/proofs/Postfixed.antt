-- One postfix more.
use Rattle.std.proofs.Common.{◌≡◌, ℕ, List, ◌∷◌, Some}
use Rattle.verse_layout.specs.declared.toks.Tok.{Tok}
use Rattle.verse_tree.specs.Tree.{Tree}
use Rattle.verse_grammar.specs.Starts.{postfix_start}
use Rattle.verse_grammar.specs.Exprs.{Postfixes, postfix_call, postfix_index, postfix_member, postfix_query}
use Rattle.verse_grammar.specs.Symbols.{postfix_tail}
use Rattle.verse_grammar.specs.Reading.{SticksRule}
use Rattle.verse_grammar.specs.Loops.{Goes}
use Rattle.verse_grammar.specs.declared.starts.PostfixStart.{PostfixStart}
use Rattle.verse_grammar.proofs.Going.{goes_postfix_tail_round, goes_postfix_tail_square, goes_postfix_tail_dot, goes_postfix_tail_question}
use Rattle.verse_grammar.proofs.Going.{stuck_postfix_tail_round_1, stuck_postfix_tail_square_1, stuck_postfix_tail_dot_1}
use Rattle.verse_expr_precedence.specs.declared.postfixes.Suffix.{Suffix}
use Rattle.verse_expr_precedence.specs.Postfixing.{joined, OnePostfix, one_call, one_index, one_member, one_query, PostfixEats, eats_call}
use Rattle.verse_expr_precedence.specs.Postfixing.{eats_index, eats_member, eats_query, PostfixSticks, sticks_call, sticks_index}
use Rattle.verse_expr_precedence.specs.Postfixing.{sticks_member}

more : {b : List ℕ} {s : PostfixStart} {k : Tok} {ks ls rest : List Tok} {e f : Tree} {x : Suffix} → postfix_start k.kind ≡ Some s →
    Postfixes b e ks f (k ∷ ls) → OnePostfix b s ls x rest →
    Postfixes b e ks (joined k.place f x) rest
more h r (one_call u) = postfix_call r h u
more h r (one_index u) = postfix_index r h u
more h r (one_member n) = postfix_member r h n
more h r one_query = postfix_query r h

pub postfix_next : (b : List ℕ) (s : PostfixStart) (k : Tok) (ks ls ms rest : List Tok) (e f g : Tree) (x : Suffix) →
    Postfixes b e ks f ls → ls ≡ k ∷ ms → postfix_start k.kind ≡ Some s →
    OnePostfix b s ms x rest → g ≡ joined k.place f x → Postfixes b e ks g rest
postfix_next b s k ks ls ms rest e f g x r same h o made = rw made (more h (rw same at r) o)

goes_on : {s : PostfixStart} {k : Tok} {ks ls rest : List Tok} → postfix_start k.kind ≡ Some s → Goes postfix_tail ks (k ∷ ls) →
    PostfixEats s ls rest → Goes postfix_tail ks rest
goes_on {k = k} {ks = ks} {ls = ls} {rest = rest} h g (eats_call e) = goes_postfix_tail_round k ks ls rest g h e
goes_on {k = k} {ks = ks} {ls = ls} {rest = rest} h g (eats_index e) = goes_postfix_tail_square k ks ls rest g h e
goes_on {k = k} {ks = ks} {rest = rest} h g (eats_member {n = n} e) = goes_postfix_tail_dot k n ks rest g h e
goes_on {k = k} {ks = ks} {rest = rest} h g eats_query = goes_postfix_tail_question k ks rest g h

pub goes_postfix : (s : PostfixStart) (k : Tok) (ks ls ms rest : List Tok) → Goes postfix_tail ks ls → ls ≡ k ∷ ms →
    postfix_start k.kind ≡ Some s → PostfixEats s ms rest → Goes postfix_tail ks rest
goes_postfix s k ks ls ms rest g same h e = goes_on h (rw same at g) e

stuck_on : {s : PostfixStart} {k : Tok} {ks ls : List Tok} {left : ℕ} → postfix_start k.kind ≡ Some s → Goes postfix_tail ks (k ∷ ls) →
    PostfixSticks s ls left → SticksRule postfix_tail ks left
stuck_on {k = k} {ks = ks} {ls = ls} {left = left} h g (sticks_call x) = stuck_postfix_tail_round_1 left k ks ls g h x
stuck_on {k = k} {ks = ks} {ls = ls} {left = left} h g (sticks_index x) = stuck_postfix_tail_square_1 left k ks ls g h x
stuck_on {k = k} {ks = ks} {ls = ls} h g (sticks_member x) = stuck_postfix_tail_dot_1 k ks ls g h x

pub stuck_postfix : (s : PostfixStart) (k : Tok) (ks ls ms : List Tok) (left : ℕ) → Goes postfix_tail ks ls → ls ≡ k ∷ ms →
    postfix_start k.kind ≡ Some s → PostfixSticks s ms left → SticksRule postfix_tail ks left
stuck_postfix s k ks ls ms left g same h x = stuck_on h (rw same at g) x
