-- Steps of the readers of lists.
use Rattle.std.proofs.Common.{◌≡◌, ℕ, suc, ◌+◌, ◌-◌, ◌<◌, ◌≤◌, List, [], ◌∷◌, ◌++◌, map, Result, Ok, Err, refl, sym, ap, ◌∙◌, append_assoc}
use Rattle.std.proofs.Common.{arith}
use Rattle.std.proofs.lemmas.List.{append-nil, map-append}
use Rattle.verse_image.specs.declared.faults.Flaw.{Flaw}
use Rattle.verse_image.specs.declared.faults.ReadFault.{ReadFault}
use Rattle.verse_image.specs.declared.faults.ReadFault.TheVariants as faults
use Rattle.verse_image.specs.Reading.{◌>>=◌, Fails, Reader}
use Rattle.run_save_format.specs.Values.{each_at}

-- a step that fails ends all
pub fails_then : {A B : Type 0} (e : ReadFault) (read : Result A Flaw) (f : A → Result B Flaw) → Fails e read → Fails e (read >>= f)
fails_then faults.Memory read f h = tt
fails_then (faults.Bad d) read f h = rw h refl

-- what was read before, and what is still read
abbrev pub after_front : {A S : Type 0} → List A → Result ((List A × S) × List ℕ) Flaw → Result ((List A × S) × List ℕ) Flaw
after_front front read = read >>= λ x. Ok ((front ++ x.0.0, x.0.1), x.1)

regroup : {A S : Type 0} (front : List A) (n : A) (read : Result ((List A × S) × List ℕ) Flaw) →
    after_front front (read >>= λ x. Ok ((n ∷ x.0.0, x.0.1), x.1)) ≡ after_front (front ++ n ∷ []) read
regroup front n (Ok x) = ap (λ ns. Ok ((ns, x.0.1), x.1)) (sym (append_assoc front (n ∷ []) x.0.0))
regroup front n (Err f) = refl

no_front : {A S : Type 0} (read : Result ((List A × S) × List ℕ) Flaw) → after_front [] read ≡ read
no_front (Ok x) = refl
no_front (Err f) = refl

pub each_begins : {A S : Type 0} (one : S → Reader (A × S)) (count : ℕ) (s : S) (bytes : List ℕ) →
    after_front [] (each_at one (count - 0) s bytes) ≡ each_at one count s bytes
each_begins one count s bytes = let k : count - 0 ≡ count = omega arith in rw k (no_front (each_at one count s bytes))

-- the elements are seen by view
pub each_goes_on : {A B S : Type 0} (view : B → A) (one : S → Reader (A × S)) (front : List B) (count i : ℕ) (s : S) (bytes : List ℕ)
    (x : B) (t : S) (after : List ℕ) (total : Result ((List A × S) × List ℕ) Flaw) → i < count → one s bytes ≡ Ok ((view x, t), after) →
    after_front (map view front) (each_at one (count - i) s bytes) ≡ total →
    after_front (map view (front ++ x ∷ [])) (each_at one (count - (i + 1)) t after) ≡ total
unfolding each_at
each_goes_on view one front count i s bytes x t after total lt h so_far =
    let k : count - i ≡ suc (count - (i + 1)) = omega arith in
    let step : after_front (map view front) (each_at one (count - i) s bytes) ≡
    after_front (map view front ++ view x ∷ []) (each_at one (count - (i + 1)) t after) =
    rw (k, h) (regroup (map view front) (view x) (each_at one (count - (i + 1)) t after)) in
    rw (map-append view front (x ∷ [])) (sym step ∙ so_far)

pub each_ends : {A S : Type 0} (one : S → Reader (A × S)) (e : ReadFault) (front : List A) (count i : ℕ) (s : S) (bytes : List ℕ)
    (total : Result ((List A × S) × List ℕ) Flaw) → i < count → Fails e (one s bytes) →
    after_front front (each_at one (count - i) s bytes) ≡ total → Fails e total
unfolding each_at
each_ends one faults.Memory front count i s bytes total lt h so_far = tt
each_ends one (faults.Bad f) front count i s bytes total lt h so_far =
    let k : count - i ≡ suc (count - (i + 1)) = omega arith in
    let step : after_front front (each_at one (count - i) s bytes) ≡ Err f = rw (k, h) refl in
    sym so_far ∙ step

pub each_is_done : {A S : Type 0} (one : S → Reader (A × S)) (front : List A) (count i : ℕ) (s : S) (bytes : List ℕ)
    (total : Result ((List A × S) × List ℕ) Flaw) → count ≤ i → after_front front (each_at one (count - i) s bytes) ≡ total →
    total ≡ Ok ((front, s), bytes)
unfolding each_at
each_is_done one front count i s bytes total le so_far =
    let k : count - i ≡ 0 = omega arith in
    let step : after_front front (each_at one (count - i) s bytes) ≡ Ok ((front, s), bytes) =
    rw k (ap (λ ns. Ok ((ns, s), bytes)) (append-nil front)) in
    sym so_far ∙ step
