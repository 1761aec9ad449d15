-- What clauses that begin with a name read.
use Rattle.std.proofs.Common.{◌≡◌, ◌≢◌, ℕ, List, [], ◌∷◌, Some, length, refl}
use Rattle.std.proofs.lemmas.Option.{same_Some}
use Rattle.verse_lex.specs.declared.tokens.Word.TheVariants as w
use Rattle.verse_lex.specs.declared.tokens.Mark.TheVariants as m
use Rattle.verse_layout.specs.declared.toks.Tok.{Tok}
use Rattle.verse_tree.specs.Tree.{Tree}
use Rattle.verse_tree.specs.Tree as t
use Rattle.verse_grammar.specs.Toks.{word, mark, name, name_at, ahead}
use Rattle.verse_grammar.specs.Exprs.{Reads, range, at}
use Rattle.verse_grammar.specs.Starts.{stmt_start}
use Rattle.verse_grammar.specs.declared.phrases.Phrase.TheVariants as p
use Rattle.verse_grammar.specs.declared.starts.StmtStart.TheVariants as stmt
use Rattle.verse_grammar.specs.Symbols.{rule, phrase, generator_rest, entries_rest, clause_value}
use Rattle.verse_grammar.specs.Reading.{Eats, EatsRule, Sticks, SticksRule, eats_none, eats_tok, eats_rule, eats_takes, sticks_here}
use Rattle.verse_grammar.specs.Reading.{sticks_behind_tok, sticks_in_rule, sticks_behind_rule, sticks_takes}
use Rattle.verse_grammar.proofs.Eating.{eats_clause_name, eats_clause_name_at1, eats_clause_name_at2, eats_clause_name_at3}
use Rattle.verse_grammar.proofs.Eating.{eats_clause_value_at2}
use Rattle.verse_grammar.proofs.Sticking.{sticks_clause_name_1}
use Rattle.verse_grammar.proofs.StickingParts.{sticks_clause_name_at1_1, sticks_clause_name_at2_1}
use Rattle.verse_grammar.proofs.StickingParts.{sticks_clause_name_at3_1, sticks_clause_value_at2_1}
use Rattle.verse_expr_generators.specs.Behind.{EndsRange, ends, end_symbols}

pub eats_clause_elements : (k o : Tok) (ks rest : List Tok) → stmt_start k.kind ≡ Some stmt.Name → o.kind ≡ mark m.Colon →
    EatsRule (phrase p.Sum) ks rest → EatsRule (phrase p.Clause) (k ∷ (o ∷ ks)) rest
eats_clause_elements k o ks rest h e x = eats_clause_name k (o ∷ ks) rest h (eats_clause_name_at1 o ks rest e x)

pub sticks_clause_elements : (left : ℕ) (k o : Tok) (ls : List Tok) → stmt_start k.kind ≡ Some stmt.Name → o.kind ≡ mark m.Colon →
    SticksRule (phrase p.Sum) ls left → SticksRule (phrase p.Clause) (k ∷ (o ∷ ls)) left
sticks_clause_elements left k o ls h e x = sticks_clause_name_1 left k (o ∷ ls) h (sticks_clause_name_at1_1 left o ls e x)

pub eats_clause_entries : (k o : Tok) (ks rest : List Tok) → stmt_start k.kind ≡ Some stmt.Name → o.kind ≡ mark m.Arrow →
    EatsRule entries_rest ks rest → EatsRule (phrase p.Clause) (k ∷ (o ∷ ks)) rest
eats_clause_entries k o ks rest h e x = eats_clause_name k (o ∷ ks) rest h (eats_clause_name_at2 o ks rest e x)

pub sticks_clause_entries : (left : ℕ) (k o : Tok) (ls : List Tok) → stmt_start k.kind ≡ Some stmt.Name → o.kind ≡ mark m.Arrow →
    SticksRule entries_rest ls left → SticksRule (phrase p.Clause) (k ∷ (o ∷ ls)) left
sticks_clause_entries left k o ls h e x = sticks_clause_name_1 left k (o ∷ ls) h (sticks_clause_name_at2_1 left o ls e x)

pub eats_clause_defined : (k o : Tok) (ks rest : List Tok) → stmt_start k.kind ≡ Some stmt.Name → o.kind ≡ mark m.Define →
    EatsRule clause_value ks rest → EatsRule (phrase p.Clause) (k ∷ (o ∷ ks)) rest
eats_clause_defined k o ks rest h e x = eats_clause_name k (o ∷ ks) rest h (eats_clause_name_at3 o ks rest e x)

pub sticks_clause_defined : (left : ℕ) (k o : Tok) (ls : List Tok) → stmt_start k.kind ≡ Some stmt.Name → o.kind ≡ mark m.Define →
    SticksRule clause_value ls left → SticksRule (phrase p.Clause) (k ∷ (o ∷ ls)) left
sticks_clause_defined left k o ls h e x = sticks_clause_name_1 left k (o ∷ ls) h (sticks_clause_name_at3_1 left o ls e x)

pub eats_value_not : (ks rest : List Tok) → ahead ks ≡ Some (word w.Not) → EatsRule (phrase p.Or) ks rest → EatsRule clause_value ks rest
eats_value_not [] rest h x = absurd (cc)
eats_value_not (k ∷ ks) rest h x = eats_clause_value_at2 k ks rest (same_Some k.kind (word w.Not) h) x

pub sticks_value_not : (left : ℕ) (ls : List Tok) → ahead ls ≡ Some (word w.Not) → SticksRule (phrase p.Or) ls left →
    SticksRule clause_value ls left
sticks_value_not left [] h x = absurd (cc)
sticks_value_not left (k ∷ ks) h x = sticks_clause_value_at2_1 left k ks (same_Some k.kind (word w.Not) h) x

-- a range
pub range_by : (b : List ℕ) (k o : Tok) (ks ls rest : List Tok) (e f : Tree) → k.kind ≡ name → o.kind ≡ mark m.Define →
    Reads b p.Sum ks e ls → EndsRange b ls f rest →
    Reads b p.Generator (k ∷ (o ∷ ks)) (at k (t.Shape.range (name_at b k) e f)) rest
range_by b k o ks ls rest e f h i r (ends j s) = range h i r j s

pub eats_ends : (d : Tok) (ks rest : List Tok) → d.kind ≡ mark m.DotDot → EatsRule (phrase p.Sum) ks rest → Eats end_symbols (d ∷ ks) rest
eats_ends d ks rest h e = eats_tok h (eats_rule e eats_none)

pub sticks_ends_1 : (ks : List Tok) → ahead ks ≢ Some (mark m.DotDot) → Sticks end_symbols ks (length ks)
sticks_ends_1 ks h = sticks_here h

pub sticks_ends_2 : (left : ℕ) (d : Tok) (ks : List Tok) → d.kind ≡ mark m.DotDot → SticksRule (phrase p.Sum) ks left →
    Sticks end_symbols (d ∷ ks) left
sticks_ends_2 left d ks h s = sticks_behind_tok h (sticks_in_rule s)

pub eats_range_by : (o : Tok) (ks ls rest : List Tok) → o.kind ≡ mark m.Define → EatsRule (phrase p.Sum) ks ls → Eats end_symbols ls rest →
    EatsRule generator_rest (o ∷ ks) rest
eats_range_by o ks ls rest h e f = eats_takes {r = generator_rest} {Ys = rule (phrase p.Sum) ∷ end_symbols} (rw h refl) (eats_rule e f)

pub sticks_range_by : (left : ℕ) (o : Tok) (ks ls : List Tok) → o.kind ≡ mark m.Define → EatsRule (phrase p.Sum) ks ls →
    Sticks end_symbols ls left → SticksRule generator_rest (o ∷ ks) left
sticks_range_by left o ks ls h e s = sticks_takes {r = generator_rest} {Ys = rule (phrase p.Sum) ∷ end_symbols} (rw h refl)
    (sticks_behind_rule e s)
