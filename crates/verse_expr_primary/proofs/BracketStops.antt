-- Events and `Sleep` by equations of what is left and what was made.
use Rattle.std.proofs.Common.{◌≡◌, ◌≢◌, ℕ, List, ◌∷◌, Option, Some, length}
use Rattle.std.specs.Option.{option_map}
use Rattle.verse_lex.specs.declared.tokens.Mark.TheVariants as m
use Rattle.verse_layout.specs.declared.toks.TokKind.TheVariants as tok
use Rattle.verse_layout.specs.declared.toks.Tok.{Tok}
use Rattle.verse_tree.specs.declared.types.TyExpr.{TyExpr}
use Rattle.verse_tree.specs.Tree.{Tree, tree}
use Rattle.verse_tree.specs.View.{written_of, event_shape}
use Rattle.verse_grammar.specs.Toks.{ahead, mark}
use Rattle.verse_grammar.specs.Starts.{primary_start, duration_at}
use Rattle.verse_grammar.specs.Exprs.{Reads, BracketType}
use Rattle.verse_grammar.specs.Symbols.{phrase, bracket_type}
use Rattle.verse_grammar.specs.Reading.{EatsRule, SticksRule}
use Rattle.verse_grammar.specs.declared.phrases.Phrase.TheVariants as p
use Rattle.verse_grammar.specs.declared.starts.Duration.{Duration}
use Rattle.verse_grammar.specs.declared.starts.PrimaryStart.TheVariants as primary
use Rattle.verse_expr_primary.proofs.BracketEnds.{event_by, sticks_event_by, eats_sleep_by, sticks_sleep_by}

pub event_made : {b : List ℕ} {k o c : Tok} {ks mid after rest : List Tok} {x : Tree} (ty : Option TyExpr) →
    primary_start k.kind ≡ Some primary.Event → BracketType b ks (option_map written_of ty) mid → mid ≡ o ∷ after → o.kind ≡ tok.Open →
    after ≡ c ∷ rest → c.kind ≡ tok.Close → x ≡ tree 0 k.place (event_shape ty) → Reads b p.Primary (k ∷ ks) x rest
event_made ty s r q h u i made = rw made (event_by ty s r q h u i)

pub event_stuck : (left : ℕ) (k o : Tok) (ks mid at : List Tok) → primary_start k.kind ≡ Some primary.Event → EatsRule bracket_type ks mid →
    mid ≡ o ∷ at → o.kind ≡ tok.Open → left ≡ length at → ahead at ≢ Some tok.Close →
    SticksRule (phrase p.Primary) (k ∷ ks) left
event_stuck left k o ks mid at s e q h n x = rw n (sticks_event_by k o ks mid at s e q h x)

pub sleep_eaten : (l : Duration) (k o d c : Tok) (ks mid after rest : List Tok) → primary_start k.kind ≡ Some primary.Sleep → ks ≡ o ∷ mid →
    o.kind ≡ mark m.RoundOpen → mid ≡ d ∷ after → duration_at d.kind ≡ Some l →
    after ≡ c ∷ rest → c.kind ≡ mark m.RoundClose → EatsRule (phrase p.Primary) (k ∷ ks) rest
sleep_eaten l k o d c ks mid after rest s q h r i u j = rw q (eats_sleep_by l k o d c mid after rest s h r i u j)

pub sleep_stuck : (l : Duration) (left : ℕ) (k o d : Tok) (ks mid at : List Tok) → primary_start k.kind ≡ Some primary.Sleep →
    ks ≡ o ∷ mid → o.kind ≡ mark m.RoundOpen → mid ≡ d ∷ at → duration_at d.kind ≡ Some l →
    left ≡ length at → ahead at ≢ Some (mark m.RoundClose) → SticksRule (phrase p.Primary) (k ∷ ks) left
sleep_stuck l left k o d ks mid at s q h r i n x = rw (q, n) (sticks_sleep_by l k o d mid at s h r i x)
