-- Primary forms in brackets, by equations: the tok that ends a part is known by one.
use Rattle.std.proofs.Common.{◌≡◌, ◌≢◌, ℕ, List, ◌∷◌, Option, Some, length}
use Rattle.std.specs.Option.{option_map}
use Rattle.verse_lex.specs.declared.tokens.Mark.TheVariants as m
use Rattle.verse_layout.specs.declared.toks.TokKind.TheVariants as tok
use Rattle.verse_layout.specs.declared.toks.Tok.{Tok}
use Rattle.verse_tree.specs.declared.types.TyExpr.{TyExpr}
use Rattle.verse_tree.specs.Tree.{tree}
use Rattle.verse_tree.specs.View.{written_of, event_shape}
use Rattle.verse_grammar.specs.Toks.{ahead, mark}
use Rattle.verse_grammar.specs.Starts.{primary_start, duration_at}
use Rattle.verse_grammar.specs.Exprs.{Reads, BracketType}
use Rattle.verse_grammar.specs.Symbols.{phrase, bracket_type}
use Rattle.verse_grammar.specs.Reading.{EatsRule, SticksRule}
use Rattle.verse_grammar.specs.declared.phrases.Phrase.TheVariants as p
use Rattle.verse_grammar.specs.declared.starts.Duration.{Duration}
use Rattle.verse_grammar.specs.declared.starts.PrimaryStart.TheVariants as primary
use Rattle.verse_grammar.proofs.Eating.{eats_primary_event, eats_primary_sleep, eats_duration_at}
use Rattle.verse_grammar.proofs.Sticking.{sticks_primary_event_3, sticks_primary_sleep_3}
use Rattle.verse_expr_primary.proofs.Parts.{event_reads}

-- events

pub event_by : {b : List ℕ} {k o c : Tok} {ks mid after rest : List Tok} (ty : Option TyExpr) → primary_start k.kind ≡ Some primary.Event →
    BracketType b ks (option_map written_of ty) mid → mid ≡ o ∷ after → o.kind ≡ tok.Open → after ≡ c ∷ rest → c.kind ≡ tok.Close →
    Reads b p.Primary (k ∷ ks) (tree 0 k.place (event_shape ty)) rest
event_by ty s r q h u i = event_reads ty s (rw u at (rw q at r)) h i

pub eats_event_by : (k o c : Tok) (ks mid after rest : List Tok) → primary_start k.kind ≡ Some primary.Event →
    EatsRule bracket_type ks mid → mid ≡ o ∷ after → o.kind ≡ tok.Open → after ≡ c ∷ rest → c.kind ≡ tok.Close →
    EatsRule (phrase p.Primary) (k ∷ ks) rest
eats_event_by k o c ks mid after rest s e q h u i = eats_primary_event k o c ks rest s (rw u at (rw q at e)) h i

pub sticks_event_by : (k o : Tok) (ks mid at : List Tok) → primary_start k.kind ≡ Some primary.Event → EatsRule bracket_type ks mid →
    mid ≡ o ∷ at → o.kind ≡ tok.Open → ahead at ≢ Some tok.Close → SticksRule (phrase p.Primary) (k ∷ ks) (length at)
sticks_event_by k o ks mid at s e q h n = sticks_primary_event_3 k o ks at s (rw q at e) h n

-- `Sleep`

pub eats_sleep_by : (l : Duration) (k o d c : Tok) (mid after rest : List Tok) → primary_start k.kind ≡ Some primary.Sleep →
    o.kind ≡ mark m.RoundOpen → mid ≡ d ∷ after → duration_at d.kind ≡ Some l → after ≡ c ∷ rest → c.kind ≡ mark m.RoundClose →
    EatsRule (phrase p.Primary) (k ∷ (o ∷ mid)) rest
eats_sleep_by l k o d c mid after rest s h q i u j =
    rw (q, u) (eats_primary_sleep k o c (d ∷ (c ∷ rest)) rest s h (eats_duration_at l d (c ∷ rest) i) j)

pub sticks_sleep_by : (l : Duration) (k o d : Tok) (mid at : List Tok) → primary_start k.kind ≡ Some primary.Sleep →
    o.kind ≡ mark m.RoundOpen → mid ≡ d ∷ at → duration_at d.kind ≡ Some l → ahead at ≢ Some (mark m.RoundClose) →
    SticksRule (phrase p.Primary) (k ∷ (o ∷ mid)) (length at)
sticks_sleep_by l k o d mid at s h q i n = rw q (sticks_primary_sleep_3 k o (d ∷ at) at s h (eats_duration_at l d at i) n)

-- `case`
