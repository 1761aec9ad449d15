-- A type that is spelled is read, with its value.
use Rattle.std.proofs.Common.{◌≡◌, ◌≢◌, ℕ, List, [], ◌∷◌, ◌++◌, Option, Some, None, refl, sym, ap, subst, append_assoc, append-nil}
use Rattle.verse_lex.specs.declared.tokens.Mark.TheVariants as m
use Rattle.verse_layout.specs.declared.toks.TokKind.{TokKind}
use Rattle.verse_layout.specs.declared.toks.Tok.{Tok}
use Rattle.verse_tree.specs.Tree.{Written}
use Rattle.verse_tree.specs.View.{writtens}
use Rattle.verse_grammar.specs.Toks.{mark, ahead}
use Rattle.verse_grammar.specs.Starts.{type_start}
use Rattle.verse_grammar.specs.declared.starts.TypeStart.{TypeStart}
use Rattle.verse_grammar.specs.declared.starts.TypeStart.TheVariants as type
use Rattle.verse_grammar.specs.Types.{IsType, AreTypes, type_int, type_logic, type_char, type_string, type_void, type_name, type_option}
use Rattle.verse_grammar.specs.Types.{type_array, type_map, type_tuple, type_task, type_event, type_bare_event, one_type, more_types}
use Rattle.verse_grammar.specs.Exprs.{BracketType}
use Rattle.verse_grammar.specs.Exprs as x
use Rattle.verse_grammar.specs.Symbols.{Rule, a, rule, a_type, bracket_rest, tuple_rest, types, types_tail, bracket_type, bracket_type_rest}
use Rattle.verse_grammar.proofs.Sights.{unseen}
use Rattle.verse_grammar.proofs.SpelledRanks.{type_no_close}
use Rattle.verse_grammar.proofs.SpelledValues.{Val, v_type, v_types, v_maybe_type, event_value, Gives, gives_none, gives_tok, gives_rule}
use Rattle.verse_grammar.proofs.SpelledValues.{gives_takes, gives_becomes}

pub revalued : {b : List ℕ} {r : Rule} {ks rest : List Tok} {v u : Val} → v ≡ u → Gives b r ks v rest → Gives b r ks u rest
revalued {b = b} {r = r} {ks = ks} {rest = rest} h g = subst (λ (x : Val). Gives b r ks x rest) h g

no_close_at : (y : TokKind) (o : TypeStart) → type_start y ≡ Some o →
    (Some y ≢ Some (mark m.SquareClose)) × (Some y ≢ Some (mark m.RoundClose))
no_close_at y o h =
    let d = type_no_close y o h in (λ e. let s : y ≡ mark m.SquareClose = cc in d.0 s, λ e. let s : y ≡ mark m.RoundClose = cc in d.1 s)

-- no type begins with a closing bracket
type_opens : {b : List ℕ} {ks rest : List Tok} {u : Written} → IsType b ks u rest →
    (ahead ks ≢ Some (mark m.SquareClose)) × (ahead ks ≢ Some (mark m.RoundClose))
type_opens (type_int h) = no_close_at _ _ h
type_opens (type_logic h) = no_close_at _ _ h
type_opens (type_char h) = no_close_at _ _ h
type_opens (type_string h) = no_close_at _ _ h
type_opens (type_void h) = no_close_at _ _ h
type_opens (type_name h) = no_close_at _ _ h
type_opens (type_option h d) = no_close_at _ _ h
type_opens (type_array h hc d) = no_close_at _ _ h
type_opens (type_map h d hc e) = no_close_at _ _ h
type_opens (type_tuple h ho d hs ds hc) = no_close_at _ _ h
type_opens (type_task h ho d hc) = no_close_at _ _ h
type_opens (type_event h ho d hc) = no_close_at _ _ h
type_opens (type_bare_event h ho hc) = no_close_at _ _ h

case_option : {b : List ℕ} {k : Tok} {ks rest : List Tok} {u : Written} → type_start k.kind ≡ Some type.Option →
    Gives b a_type ks (v_type u) rest →
    Gives b a_type (k ∷ ks) (v_type (Written.option u)) rest
case_option h d = gives_takes {r = a_type} {Ys = rule a_type ∷ []} (rw h refl) (gives_rule d gives_none) (rw h refl)

case_array : {b : List ℕ} {k c : Tok} {ks rest : List Tok} {u : Written} → type_start k.kind ≡ Some type.Bracket →
    c.kind ≡ mark m.SquareClose → Gives b a_type ks (v_type u) rest →
    Gives b a_type (k ∷ c ∷ ks) (v_type (Written.array u)) rest
case_array h hc d = gives_takes {r = a_type} {Ys = rule bracket_rest ∷ []} (rw h refl)
    (gives_rule (gives_takes {r = bracket_rest} {Ys = rule a_type ∷ []} (rw hc refl) (gives_rule d gives_none) refl) gives_none) (rw h refl)

case_map : {b : List ℕ} {k c : Tok} {ks ls rest : List Tok} {u v : Written} → type_start k.kind ≡ Some type.Bracket →
    ahead ks ≢ Some (mark m.SquareClose) → Gives b a_type ks (v_type u) (c ∷ ls) →
    c.kind ≡ mark m.SquareClose → Gives b a_type ls (v_type v) rest → Gives b a_type (k ∷ ks) (v_type (Written.map u v)) rest
case_map {ks = ks} h n d hc e = gives_takes {r = a_type} {Ys = rule bracket_rest ∷ []} (rw h refl)
    (gives_rule (gives_becomes {r = bracket_rest} {Ys = rule a_type ∷ a (mark m.SquareClose) ∷ rule a_type ∷ []}
    (rw (unseen (mark m.SquareClose) ks n) refl) (gives_rule d (gives_tok hc (gives_rule e gives_none))) refl) gives_none) (rw h refl)

case_tuple : {b : List ℕ} {k o s c : Tok} {ks ls rest : List Tok} {u : Written} {us : List Written} → type_start k.kind ≡ Some type.Tuple →
    o.kind ≡ mark m.RoundOpen → Gives b a_type ks (v_type u) (s ∷ ls) →
    s.kind ≡ mark m.Comma → Gives b types ls (v_types us) (c ∷ rest) → c.kind ≡ mark m.RoundClose →
    Gives b a_type (k ∷ o ∷ ks) (v_type (Written.tuple (writtens (u ∷ us)))) rest
case_tuple h ho d hs ds hc = gives_takes {r = a_type} {Ys = rule tuple_rest ∷ []} (rw h refl)
    (gives_rule (gives_becomes {r = tuple_rest}
    {Ys = a (mark m.RoundOpen) ∷ rule a_type ∷ a (mark m.Comma) ∷ rule types ∷ a (mark m.RoundClose) ∷ []} refl
    (gives_tok ho (gives_rule d (gives_tok hs (gives_rule ds (gives_tok hc gives_none))))) refl) gives_none) (rw h refl)

case_task : {b : List ℕ} {k o c : Tok} {ks rest : List Tok} {u : Written} → type_start k.kind ≡ Some type.Task → o.kind ≡ mark m.RoundOpen →
    Gives b a_type ks (v_type u) (c ∷ rest) → c.kind ≡ mark m.RoundClose →
    Gives b a_type (k ∷ o ∷ ks) (v_type (Written.task u)) rest
case_task h ho d hc = gives_takes {r = a_type} {Ys = a (mark m.RoundOpen) ∷ rule a_type ∷ a (mark m.RoundClose) ∷ []} (rw h refl)
    (gives_tok ho (gives_rule d (gives_tok hc gives_none))) (rw h refl)

pub case_bracket_type : {b : List ℕ} {o c : Tok} {ks rest : List Tok} {u : Written} → o.kind ≡ mark m.RoundOpen →
    ahead ks ≢ Some (mark m.RoundClose) → Gives b a_type ks (v_type u) (c ∷ rest) → c.kind ≡ mark m.RoundClose →
    Gives b bracket_type (o ∷ ks) (v_maybe_type (Some u)) rest
case_bracket_type {ks = ks} ho n d hc = gives_becomes {r = bracket_type} {Ys = a (mark m.RoundOpen) ∷ rule bracket_type_rest ∷ []} refl
    (gives_tok ho
    (gives_rule (gives_becomes {r = bracket_type_rest} {Ys = rule a_type ∷ a (mark m.RoundClose) ∷ []}
    (rw (unseen (mark m.RoundClose) ks n) refl) (gives_rule d (gives_tok hc gives_none)) refl) gives_none)) refl

pub case_no_bracket_type : {b : List ℕ} {o c : Tok} {rest : List Tok} → o.kind ≡ mark m.RoundOpen → c.kind ≡ mark m.RoundClose →
    Gives b bracket_type (o ∷ c ∷ rest) (v_maybe_type None) rest
case_no_bracket_type ho hc = gives_becomes {r = bracket_type} {Ys = a (mark m.RoundOpen) ∷ rule bracket_type_rest ∷ []} refl (gives_tok ho
    (gives_rule (gives_takes {r = bracket_type_rest} {Ys = []} (rw hc refl) gives_none refl) gives_none)) refl

case_event : {b : List ℕ} {k : Tok} {ks rest : List Tok} {u : Option Written} → type_start k.kind ≡ Some type.Event →
    Gives b bracket_type ks (v_maybe_type u) rest →
    Gives b a_type (k ∷ ks) (v_type (event_value u)) rest
case_event h d = gives_takes {r = a_type} {Ys = rule bracket_type ∷ []} (rw h refl) (gives_rule d gives_none) (rw h refl)

case_types : {b : List ℕ} {ks ls rest : List Tok} {u : Written} {us : List Written} → Gives b a_type ks (v_type u) ls →
    Gives b types_tail ls (v_types us) rest → Gives b types ks (v_types (u ∷ us)) rest
case_types d ds = gives_becomes {r = types} {Ys = rule a_type ∷ rule types_tail ∷ []} refl (gives_rule d (gives_rule ds gives_none)) refl

case_types_tail : {b : List ℕ} {s : Tok} {ks ls rest : List Tok} {u : Written} {us : List Written} → s.kind ≡ mark m.Comma →
    Gives b a_type ks (v_type u) ls → Gives b types_tail ls (v_types us) rest →
    Gives b types_tail (s ∷ ks) (v_types (u ∷ us)) rest
case_types_tail hs d ds = gives_takes {r = types_tail} {Ys = rule a_type ∷ rule types_tail ∷ []} (rw hs refl)
    (gives_rule d (gives_rule ds gives_none)) refl

case_types_end : {b : List ℕ} {c : Tok} {rest : List Tok} → c.kind ≡ mark m.RoundClose →
    Gives b types_tail (c ∷ rest) (v_types []) (c ∷ rest)
case_types_end hc = gives_becomes {r = types_tail} {Ys = []} (rw hc refl) gives_none refl

mutual
  pub spelled_type : {b : List ℕ} {ks rest : List Tok} {u : Written} → IsType b ks u rest → Gives b a_type ks (v_type u) rest
  spelled_type (type_int h) = gives_takes {r = a_type} {Ys = []} (rw h refl) gives_none (rw h refl)
  spelled_type (type_logic h) = gives_takes {r = a_type} {Ys = []} (rw h refl) gives_none (rw h refl)
  spelled_type (type_char h) = gives_takes {r = a_type} {Ys = []} (rw h refl) gives_none (rw h refl)
  spelled_type (type_string h) = gives_takes {r = a_type} {Ys = []} (rw h refl) gives_none (rw h refl)
  spelled_type (type_void h) = gives_takes {r = a_type} {Ys = []} (rw h refl) gives_none (rw h refl)
  spelled_type (type_name h) = gives_takes {r = a_type} {Ys = []} (rw h refl) gives_none (rw h refl)
  spelled_type (type_option h d) = case_option h (spelled_type d)
  spelled_type (type_array h hc d) = case_array h hc (spelled_type d)
  spelled_type (type_map h d hc e) = case_map h (type_opens d).0 (spelled_type d) hc (spelled_type e)
  spelled_type (type_tuple {ws = ws} h ho d hs ds hc) =
      case_tuple h ho (spelled_type d) hs (revalued (ap v_types (append-nil ws)) (spelled_types ds [] _ (case_types_end hc))) hc
  spelled_type (type_task h ho d hc) = case_task h ho (spelled_type d) hc
  spelled_type (type_event h ho d hc) = case_event h (case_bracket_type ho (type_opens d).1 (spelled_type d) hc)
  spelled_type (type_bare_event h ho hc) = case_event h (case_no_bracket_type ho hc)

  spelled_types : {b : List ℕ} {ks ls : List Tok} {us : List Written} → AreTypes b ks us ls → (ws : List Written) (rest : List Tok) →
      Gives b types_tail ls (v_types ws) rest →
      Gives b types ks (v_types (us ++ ws)) rest
  spelled_types (one_type d) ws rest g = case_types (spelled_type d) g
  spelled_types (more_types {ws = us} {w = u} r hs d) ws rest g =
      revalued (ap v_types (sym (append_assoc us (u ∷ []) ws))) (spelled_types r (u ∷ ws) rest (case_types_tail hs (spelled_type d) g))

pub spelled_bracket_type : {b : List ℕ} {ks rest : List Tok} {u : Option Written} → BracketType b ks u rest →
    Gives b bracket_type ks (v_maybe_type u) rest
spelled_bracket_type (x.bracket_type ho d hc) = case_bracket_type ho (type_opens d).1 (spelled_type d) hc
spelled_bracket_type (x.no_bracket_type ho hc) = case_no_bracket_type ho hc
