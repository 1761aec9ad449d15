-- What the rules of types do is right, and each can be read.
use Rattle.std.proofs.Common.{◌≡◌, ℕ, List, [], ◌∷◌, Option, Some, None, refl}
use Rattle.verse_lex.specs.declared.tokens.Mark.TheVariants as m
use Rattle.verse_layout.specs.declared.toks.Tok.{Tok}
use Rattle.verse_tree.specs.Tree.{Written}
use Rattle.verse_grammar.specs.Toks.{mark, name}
use Rattle.verse_grammar.specs.Symbols as s
use Rattle.verse_grammar.specs.Symbols.{predict}
use Rattle.verse_grammar.proofs.CompletingMeanings.{Sound, sees_sound, Readable, a_tok}
use Rattle.verse_grammar.specs.Starts.{type_start}
use Rattle.verse_grammar.specs.declared.starts.TypeStart.{TypeStart}
use Rattle.verse_grammar.specs.declared.starts.TypeStart.TheVariants as type
use Rattle.verse_grammar.specs.Types.{IsType, type_int, type_logic, type_char, type_string, type_void, type_name, type_option, type_array}
use Rattle.verse_grammar.specs.Types.{type_map, type_tuple, type_task, type_event, type_bare_event, one_type, more_types}
use Rattle.verse_grammar.specs.Exprs.{BracketType, bracket_type, no_bracket_type}
use Rattle.verse_grammar.specs.Symbols.{by_a_type}

event_type : {b : List ℕ} {k : Tok} {ks rest : List Tok} {u : Option Written} → type_start k.kind ≡ Some type.Event →
    BracketType b ks u rest → (v : Written) × IsType b (k ∷ ks) v rest
event_type h (bracket_type o x c) = (_, type_event h o x c)
event_type h (no_bracket_type o c) = (_, type_bare_event h o c)

a_type_case : (b : List ℕ) (k : Tok) (ks : List Tok) (o : Option TypeStart) → type_start k.kind ≡ o →
    Sound b s.a_type (k ∷ ks) (by_a_type o)
a_type_case b k ks None h = tt
a_type_case b k ks (Some type.Int) h = λ rest. (_, type_int h)
a_type_case b k ks (Some type.Logic) h = λ rest. (_, type_logic h)
a_type_case b k ks (Some type.Char) h = λ rest. (_, type_char h)
a_type_case b k ks (Some type.String) h = λ rest. (_, type_string h)
a_type_case b k ks (Some type.Void) h = λ rest. (_, type_void h)
a_type_case b k ks (Some type.Name) h = λ rest. (_, type_name h)
a_type_case b k ks (Some type.Option) h = λ rest ms x. (_, type_option h x.1)
a_type_case b k ks (Some type.Bracket) h = λ rest ms x. x k h
a_type_case b k ks (Some type.Tuple) h = λ rest ms x. x k h
a_type_case b k ks (Some type.Task) h = λ rest c hc ms x o ho. (_, type_task h ho x.1 hc)
a_type_case b k ks (Some type.Event) h = λ rest ms x. event_type h x.1

pub a_type_sound : (b : List ℕ) (ks : List Tok) → Sound b s.a_type ks (predict s.a_type ks)
a_type_sound b [] = tt
a_type_sound b (k ∷ ks) = a_type_case b k ks (type_start k.kind) refl

pub bracket_rest_sound : (b : List ℕ) (ks : List Tok) → Sound b s.bracket_rest ks (predict s.bracket_rest ks)
bracket_rest_sound b ks = sees_sound b s.bracket_rest ks (mark m.SquareClose) _ _ (λ c hc rest ms x k h. (_, type_array h hc x.1))
    (λ rest ns y c hc ms x k h. (_, type_map h x.1 hc y.1))

pub tuple_rest_sound : (b : List ℕ) (ks : List Tok) → Sound b s.tuple_rest ks (predict s.tuple_rest ks)
tuple_rest_sound b ks = λ rest c hc ns y d hd ms x o ho k h. (_, type_tuple h ho x.1 hd y.1 hc)

pub types_sound : (b : List ℕ) (ks : List Tok) → Sound b s.types ks (predict s.types ks)
types_sound b ks = λ rest ns t ms x. t ms _ (one_type x.1)

pub types_tail_sound : (b : List ℕ) (ks : List Tok) → Sound b s.types_tail ks (predict s.types_tail ks)
types_tail_sound b ks = sees_sound b s.types_tail ks (mark m.Comma) _ _ (λ d hd rest ns t ms x js us r. t js _ (more_types r hd x.1))
    (λ rest js us r. (us, r))

pub bracket_type_sound : (b : List ℕ) (ks : List Tok) → Sound b s.bracket_type ks (predict s.bracket_type ks)
bracket_type_sound b ks = λ rest ms x o ho. x o ho

pub bracket_type_rest_sound : (b : List ℕ) (ks : List Tok) → Sound b s.bracket_type_rest ks (predict s.bracket_type_rest ks)
bracket_type_rest_sound b ks = sees_sound b s.bracket_type_rest ks (mark m.RoundClose) _ _ (λ c hc rest o ho. (None, no_bracket_type ho hc))
    (λ rest c hc ms x o ho. (_, bracket_type ho x.1 hc))

pub read_a_type : (b : List ℕ) → Readable b s.a_type
read_a_type b = λ rest. (a_tok name ∷ rest, (_, type_name refl))

pub read_bracket_rest : (b : List ℕ) → Readable b s.bracket_rest
read_bracket_rest b = λ rest. (a_tok (mark m.SquareClose) ∷ a_tok name ∷ rest, λ k h. (_, type_array h refl (type_name refl)))

pub read_tuple_rest : (b : List ℕ) → Readable b s.tuple_rest
read_tuple_rest b = λ rest. (
  a_tok (mark m.RoundOpen) ∷ a_tok name ∷ a_tok (mark m.Comma) ∷ a_tok name ∷ a_tok (mark m.RoundClose) ∷ rest,
  λ k h. (_, type_tuple h refl (type_name refl) refl (one_type (type_name refl)) refl),
)

pub read_types : (b : List ℕ) → Readable b s.types
read_types b = λ rest. (a_tok name ∷ rest, (_, one_type (type_name refl)))

pub read_types_tail : (b : List ℕ) → Readable b s.types_tail
read_types_tail b = λ rest. (rest, λ js us r. (us, r))

pub read_bracket_type : (b : List ℕ) → Readable b s.bracket_type
read_bracket_type b = λ rest. (a_tok (mark m.RoundOpen) ∷ a_tok (mark m.RoundClose) ∷ rest, (None, no_bracket_type refl refl))

pub read_bracket_type_rest : (b : List ℕ) → Readable b s.bracket_type_rest
read_bracket_type_rest b = λ rest. (a_tok (mark m.RoundClose) ∷ rest, λ o ho. (None, no_bracket_type ho refl))
