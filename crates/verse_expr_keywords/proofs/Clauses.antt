-- What stands in the brackets of a `for`.
use Rattle.std.proofs.Common.{◌≡◌, ◌≢◌, ℕ, List, [], ◌∷◌, ◌++◌, Some, length, map}
use Rattle.verse_lex.specs.declared.tokens.Mark.TheVariants as m
use Rattle.verse_layout.specs.declared.toks.TokKind.TheVariants as tok
use Rattle.verse_layout.specs.declared.toks.Tok.{Tok}
use Rattle.verse_tree.specs.View.{tree_of}
use Rattle.verse_grammar.specs.Toks.{ahead, mark}
use Rattle.verse_grammar.specs.Exprs.{Reads, ClauseRow, more_clauses}
use Rattle.verse_grammar.specs.Symbols.{case_rest, phrase, clauses, row_tail}
use Rattle.verse_grammar.specs.Reading.{EatsRule, SticksRule}
use Rattle.verse_grammar.specs.Loops.{Goes}
use Rattle.verse_grammar.specs.declared.phrases.Phrase.TheVariants as p
use Rattle.verse_grammar.proofs.Eating.{eats_clauses, eats_row_tail_other}
use Rattle.verse_grammar.proofs.StickingParts.{sticks_clauses_2, sticks_clauses_3, sticks_case_rest_3, sticks_case_rest_4}
use Rattle.verse_grammar.proofs.Going.{stuck_row_tail_at_1, goes_row_tail_at}
use Rattle.verse_expr_keywords.specs.Between.{SticksBetween, before_first, before_second}
use Rattle.std.proofs.lemmas.List.{map-append}
use Rattle.verse_tree.specs.declared.exprs.Expr.{Expr}

pub clauses_eaten : (k : Tok) (ks mid rest : List Tok) → EatsRule (phrase p.Generator) ks mid →
    Goes (row_tail p.Clause (mark m.Comma)) mid (k ∷ rest) → ahead (k ∷ rest) ≢ Some (mark m.Comma) → k.kind ≡ mark m.RoundClose →
    EatsRule clauses ks rest
clauses_eaten k ks mid rest e g n h = eats_clauses k ks mid rest e
    (g.eats (k ∷ rest) (eats_row_tail_other p.Clause (mark m.Comma) (k ∷ rest) n)) h

pub clauses_stuck_at_end : (ks mid at : List Tok) → EatsRule (phrase p.Generator) ks mid → Goes (row_tail p.Clause (mark m.Comma)) mid at →
    ahead at ≢ Some (mark m.Comma) → ahead at ≢ Some (mark m.RoundClose) →
    SticksRule clauses ks (length at)
clauses_stuck_at_end ks mid at e g n x = sticks_clauses_3 ks mid at e (g.eats at (eats_row_tail_other p.Clause (mark m.Comma) at n)) x

pub clauses_stuck_between : (left : ℕ) (k : Tok) (ks mid at : List Tok) → EatsRule (phrase p.Generator) ks mid →
    Goes (row_tail p.Clause (mark m.Comma)) mid (k ∷ at) → k.kind ≡ mark m.Comma → SticksRule (phrase p.Clause) at left →
    SticksRule clauses ks left
clauses_stuck_between left k ks mid at e g h x =
    sticks_clauses_2 left ks mid e (stuck_row_tail_at_1 p.Clause (mark m.Comma) left k mid at g h x)

pub case_stuck_behind : {left : ℕ} {o : Tok} {ks at : List Tok} → o.kind ≡ mark m.RoundOpen → EatsRule (phrase p.Expr) ks at →
    SticksBetween (mark m.RoundClose) tok.Open at left → SticksRule case_rest (o ∷ ks) left
case_stuck_behind h e (before_first q n) = rw q (sticks_case_rest_3 _ _ _ h e n)
case_stuck_behind h e (before_second a i q n) = rw q (sticks_case_rest_4 _ _ _ _ h (rw a at e) i n)

pub clauses_next : (b : List ℕ) (k : Tok) (ks ls ms rest : List Tok) (es fs : List Expr) (e : Expr) → ClauseRow b ks (map tree_of es) ls →
    ls ≡ k ∷ ms → k.kind ≡ mark m.Comma → Reads b p.Clause ms (tree_of e) rest → fs ≡ es ++ e ∷ [] → ClauseRow b ks (map tree_of fs) rest
clauses_next b k ks ls ms rest es fs e r same h x f = rw (f, map-append) (more_clauses (rw same at r) h x)

pub goes_clauses_next : (k : Tok) (ks ls ms rest : List Tok) → Goes (row_tail p.Clause (mark m.Comma)) ks ls → ls ≡ k ∷ ms →
    k.kind ≡ mark m.Comma → EatsRule (phrase p.Clause) ms rest → Goes (row_tail p.Clause (mark m.Comma)) ks rest
goes_clauses_next k ks ls ms rest g same h e = goes_row_tail_at p.Clause (mark m.Comma) k ks ms rest (rw same at g) h e
