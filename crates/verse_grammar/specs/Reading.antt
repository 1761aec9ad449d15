-- Predictive reading: what symbols read from a list of toks, and where they cannot go on.
use Rattle.std.specs.Prelude.{◌≡◌, ◌≢◌, ℕ, List, [], ◌∷◌, Some, length}
use Rattle.verse_layout.specs.declared.toks.TokKind.{TokKind}
use Rattle.verse_layout.specs.declared.toks.Tok.{Tok}
use Rattle.verse_grammar.specs.Toks.{ahead}
use Rattle.verse_grammar.specs.Symbols.{Rule, Symbol, a, rule, predict, takes, becomes, refuses}

mutual
  -- these symbols, one after the other, read the toks up to the rest
  pub data Eats : List Symbol → List Tok → List Tok → Type 0 where
    eats_none : {ks : List Tok} → Eats [] ks ks
    eats_tok : {kind : TokKind} {Xs : List Symbol} {k : Tok} {ks rest : List Tok} → k.kind ≡ kind →
        Eats Xs ks rest → Eats (a kind ∷ Xs) (k ∷ ks) rest
    eats_rule : {r : Rule} {Xs : List Symbol} {ks ls rest : List Tok} → EatsRule r ks ls →
        Eats Xs ls rest → Eats (rule r ∷ Xs) ks rest

  pub data EatsRule : Rule → List Tok → List Tok → Type 0 where
    eats_takes : {r : Rule} {Ys : List Symbol} {k : Tok} {ks rest : List Tok} →
        predict r (k ∷ ks) ≡ takes Ys → Eats Ys ks rest → EatsRule r (k ∷ ks) rest
    eats_becomes : {r : Rule} {Ys : List Symbol} {ks rest : List Tok} → predict r ks ≡ becomes Ys →
        Eats Ys ks rest → EatsRule r ks rest

mutual
  -- these symbols read on until so many toks are left, with the first of which, or the end, they do
  -- not go on
  pub data Sticks : List Symbol → List Tok → ℕ → Type 0 where
    sticks_here : {kind : TokKind} {Xs : List Symbol} {ks : List Tok} → ahead ks ≢ Some kind →
        Sticks (a kind ∷ Xs) ks (length ks)
    sticks_behind_tok : {kind : TokKind} {Xs : List Symbol} {k : Tok} {ks : List Tok} {left : ℕ} →
        k.kind ≡ kind → Sticks Xs ks left → Sticks (a kind ∷ Xs) (k ∷ ks) left
    sticks_in_rule : {r : Rule} {Xs : List Symbol} {ks : List Tok} {left : ℕ} →
        SticksRule r ks left → Sticks (rule r ∷ Xs) ks left
    sticks_behind_rule : {r : Rule} {Xs : List Symbol} {ks ls : List Tok} {left : ℕ} →
        EatsRule r ks ls → Sticks Xs ls left → Sticks (rule r ∷ Xs) ks left

  pub data SticksRule : Rule → List Tok → ℕ → Type 0 where
    sticks_refused : {r : Rule} {ks : List Tok} → predict r ks ≡ refuses →
        SticksRule r ks (length ks)
    sticks_takes : {r : Rule} {Ys : List Symbol} {k : Tok} {ks : List Tok} {left : ℕ} →
        predict r (k ∷ ks) ≡ takes Ys → Sticks Ys ks left → SticksRule r (k ∷ ks) left
    sticks_becomes : {r : Rule} {Ys : List Symbol} {ks : List Tok} {left : ℕ} →
        predict r ks ≡ becomes Ys → Sticks Ys ks left → SticksRule r ks left
