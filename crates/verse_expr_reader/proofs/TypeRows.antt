-- Types with commas between them.
use Rattle.std.proofs.Common.{◌≡◌, ◌≢◌, ◌<◌, ◌≤◌, ℕ, List, [], ◌∷◌, ◌++◌, Some, length, map, arith}
use Rattle.std.proofs.lemmas.List.{map-append}
use Rattle.verse_tree.specs.View.{written_of}
use Rattle.verse_tree.specs.declared.types.TyExpr.{TyExpr}
use Rattle.verse_grammar.specs.Starts.{type_start}
use Rattle.verse_grammar.specs.Types.{IsType, AreTypes, more_types}
use Rattle.verse_grammar.specs.declared.starts.TypeStart.TheVariants as type
use Rattle.verse_lex.specs.declared.tokens.Mark.TheVariants as m
use Rattle.verse_layout.specs.declared.toks.Tok.{Tok}
use Rattle.verse_grammar.specs.Toks.{ahead, mark}
use Rattle.verse_grammar.specs.Symbols.{a_type, types, types_tail}
use Rattle.verse_grammar.specs.Reading.{EatsRule, SticksRule}
use Rattle.verse_grammar.specs.Loops.{Goes}
use Rattle.verse_grammar.proofs.Eating.{eats_types, eats_types_tail_other}
use Rattle.verse_grammar.proofs.Sticking.{sticks_types_2, sticks_a_type_bracket_1, sticks_bracket_rest_other_2}
use Rattle.verse_grammar.proofs.Going.{goes_types_tail_at, stuck_types_tail_at_1}

pub types_eaten : (ks mid rest : List Tok) → EatsRule a_type ks mid → Goes types_tail mid rest → ahead rest ≢ Some (mark m.Comma) →
    EatsRule types ks rest
types_eaten ks mid rest e g n = eats_types ks mid rest e (g.eats rest (eats_types_tail_other rest n))

pub types_stuck : (left : ℕ) (k : Tok) (ks mid at : List Tok) → EatsRule a_type ks mid → Goes types_tail mid (k ∷ at) →
    k.kind ≡ mark m.Comma → SticksRule a_type at left → SticksRule types ks left
types_stuck left k ks mid at e g h x = sticks_types_2 left ks mid e (stuck_types_tail_at_1 left k mid at g h x)

pub types_next : (b : List ℕ) (k : Tok) (ks ls ms rest : List Tok) (es fs : List TyExpr) (e : TyExpr) →
    AreTypes b ks (map written_of es) ls → ls ≡ k ∷ ms → k.kind ≡ mark m.Comma →
    IsType b ms (written_of e) rest → fs ≡ es ++ e ∷ [] → AreTypes b ks (map written_of fs) rest
types_next b k ks ls ms rest es fs e r same h x f = rw (f, map-append) (more_types (rw same at r) h x)

pub goes_types_next : (k : Tok) (ks ls ms rest : List Tok) → Goes types_tail ks ls → ls ≡ k ∷ ms → k.kind ≡ mark m.Comma →
    EatsRule a_type ms rest → Goes types_tail ks rest
goes_types_next k ks ls ms rest g same h e = goes_types_tail_at k ks ms rest (rw same at g) h e

-- a key type without the bracket behind it
pub map_missing : (k : Tok) (ks ls : List Tok) → type_start k.kind ≡ Some type.Bracket → ahead ks ≢ Some (mark m.SquareClose) →
    EatsRule a_type ks ls → ahead ls ≢ Some (mark m.SquareClose) →
    SticksRule a_type (k ∷ ks) (length ls)
map_missing k ks ls h n e x = sticks_a_type_bracket_1 (length ls) k ks h (sticks_bracket_rest_other_2 ks ls n e x)

pub shorter_next : {A : Type 0} (k : A) (ks ls ms rest : List A) → ls ≡ k ∷ ms → length rest < length ms → length ls ≤ length ks →
    length rest ≤ length ks
shorter_next k ks ls ms rest same a b = omega (arith, a, rw same at b)
