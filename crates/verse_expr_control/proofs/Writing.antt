-- What begins with `set`.
use Rattle.std.proofs.Common.{◌≡◌, ℕ, List, ◌∷◌, Some, refl}
use Rattle.verse_layout.specs.declared.toks.Tok.{Tok}
use Rattle.verse_tree.specs.Tree.{Tree}
use Rattle.verse_tree.specs.Tree as t
use Rattle.verse_tree.specs.declared.exprs.Assign.{Assign}
use Rattle.verse_grammar.specs.Exprs.{Reads, Control, assignment, at}
use Rattle.verse_grammar.specs.Starts.{stmt_start}
use Rattle.verse_grammar.specs.declared.phrases.Phrase.TheVariants as p
use Rattle.verse_grammar.specs.declared.starts.StmtStart.TheVariants as stmt
use Rattle.verse_grammar.specs.Symbols.{rule, phrase, assign, set_rest}
use Rattle.verse_grammar.specs.Reading.{Eats, EatsRule, Sticks, SticksRule, eats_none, eats_rule, eats_becomes, sticks_in_rule}
use Rattle.verse_grammar.specs.Reading.{sticks_behind_rule, sticks_becomes}
use Rattle.verse_expr_control.specs.Writing.{Writes, writes, write_symbols}
use Rattle.verse_expr_control.proofs.Starting.{set_start}

-- `set`
pub set_by : (b : List ℕ) (k : Tok) (ks ls rest : List Tok) (x : Assign) (e f : Tree) → stmt_start k.kind ≡ Some stmt.Set →
    Reads b p.Postfix ks e ls → Writes b ls x f rest →
    Control b (k ∷ ks) (at k (t.Shape.assignment x e f)) rest
set_by b k ks ls rest x e f h r (writes j s) = assignment (set_start k.kind h) r j s

pub eats_writes : (ks ls rest : List Tok) → EatsRule assign ks ls → EatsRule (phrase p.Expr) ls rest → Eats write_symbols ks rest
eats_writes ks ls rest e f = eats_rule e (eats_rule f eats_none)

pub sticks_writes_1 : (left : ℕ) (ks : List Tok) → SticksRule assign ks left → Sticks write_symbols ks left
sticks_writes_1 left ks s = sticks_in_rule s

pub sticks_writes_2 : (left : ℕ) (ks ls : List Tok) → EatsRule assign ks ls → SticksRule (phrase p.Expr) ls left →
    Sticks write_symbols ks left
sticks_writes_2 left ks ls e s = sticks_behind_rule e (sticks_in_rule s)

pub eats_set_by : (ks ls rest : List Tok) → EatsRule (phrase p.Postfix) ks ls → Eats write_symbols ls rest → EatsRule set_rest ks rest
eats_set_by ks ls rest e f = eats_becomes {r = set_rest} {Ys = rule (phrase p.Postfix) ∷ write_symbols} refl (eats_rule e f)

pub sticks_set_by : (left : ℕ) (ks ls : List Tok) → EatsRule (phrase p.Postfix) ks ls → Sticks write_symbols ls left →
    SticksRule set_rest ks left
sticks_set_by left ks ls e s = sticks_becomes {r = set_rest} {Ys = rule (phrase p.Postfix) ∷ write_symbols} refl (sticks_behind_rule e s)
