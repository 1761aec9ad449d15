-- Steps of the readers of lists that note where each element stands.
use Rattle.std.proofs.Common.{◌≡◌, ℕ, List, [], ◌∷◌, ◌++◌, length, Option, Ok, refl}
use Rattle.verse_image.specs.declared.faults.ReadFault.{ReadFault}
use Rattle.verse_image.specs.Reading.{Fails, Reader}
use Rattle.verse_meaning_state.specs.State.{Given}
use Rattle.run_save_format.specs.Reading.{noted_at, maybe_at, given_at, entry_at}
use Rattle.run_save_values.proofs.ListSteps.{fails_then}

pub noted : {A S : Type 0} (one : S → Reader (A × S)) (s t : S) (lefts bytes : List ℕ) (x : A) (after : List ℕ) →
    one s bytes ≡ Ok ((x, t), after) → noted_at one (s, lefts) bytes ≡ Ok ((x, (t, lefts ++ length bytes ∷ [])), after)
unfolding noted_at
noted one s t lefts bytes x after h = rw h refl

pub noted_fails : {A S : Type 0} (one : S → Reader (A × S)) (e : ReadFault) (s : S) (lefts bytes : List ℕ) → Fails e (one s bytes) →
    Fails e (noted_at one (s, lefts) bytes)
unfolding noted_at
noted_fails one e s lefts bytes h = fails_then e (one s bytes) (λ x. Ok ((x.0.0, (x.0.1, lefts ++ length bytes ∷ [])), x.1)) h

pub entry_noted : (entries : ℕ) (lefts bytes : List ℕ) (given : Option Given) (after : List ℕ) →
    maybe_at (given_at entries) bytes ≡ Ok (given, after) →
    entry_at entries lefts bytes ≡ Ok ((given, lefts ++ length bytes ∷ []), after)
unfolding entry_at
entry_noted entries lefts bytes given after h = rw h refl

pub entry_fails : (entries : ℕ) (e : ReadFault) (lefts bytes : List ℕ) → Fails e (maybe_at (given_at entries) bytes) →
    Fails e (entry_at entries lefts bytes)
unfolding entry_at
entry_fails entries e lefts bytes h =
    fails_then e (maybe_at (given_at entries) bytes) (λ g. Ok ((g.0, lefts ++ length bytes ∷ []), g.1)) h
