-- Steps of the readers of lists.
use Rattle.std.proofs.Common.{◌≡◌, ℕ, ◌+◌, ◌-◌, ◌<◌, ◌≤◌, List, [], ◌∷◌, ◌++◌, length, drop, get_or, map, Result, Ok, Err, refl, sym}
use Rattle.std.proofs.Common.{ap, ◌∙◌, append_assoc, arith}
use Rattle.std.proofs.lemmas.List.{append-nil, map-append, drop_more}
use Rattle.std.proofs.Math.ListN.{drop_of_length-le}
use Rattle.verse_code.specs.declared.codes.Code.{Code}
use Rattle.verse_image.specs.declared.faults.Flaw.{Flaw}
use Rattle.verse_image.specs.declared.faults.ReadFault.{ReadFault}
use Rattle.verse_image.specs.declared.faults.ReadFault.TheVariants as faults
use Rattle.verse_image.specs.Reading.{Fails, Reader, many_at, number_at}
use Rattle.verse_image.proofs.ReadingSteps.{with_front, no_front, goes_on}
use Rattle.verse_verify_faults.specs.Reading.{after, answers, list_at, each_at}

-- ---- so many

pub many_begins : {A : Type 0} (one : Reader A) (count : ℕ) (bytes : List ℕ) →
    with_front [] (many_at one (count - 0) bytes) ≡ many_at one count bytes
many_begins one count bytes =
    let k : count - 0 ≡ count = omega arith in
    rw k (no_front (many_at one count bytes))

-- the elements are seen by view
pub many_goes_on : {A B : Type 0} (view : B → A) (one : Reader A) (front : List B) (count i : ℕ) (bytes : List ℕ) (x : B)
    (after : List ℕ) (total : Result (List A × List ℕ) Flaw) → i < count → one bytes ≡ Ok (view x, after) →
    with_front (map view front) (many_at one (count - i) bytes) ≡ total →
    with_front (map view (front ++ x ∷ [])) (many_at one (count - (i + 1)) after) ≡ total
many_goes_on view one front count i bytes x after total lt h so_far =
    rw (map-append view front (x ∷ [])) (goes_on one (map view front) count i bytes (view x) after total lt h so_far)

-- ---- how many, and then each

pub list_begins : {A : Type 0} (one : Reader A) (bytes : List ℕ) (count : ℕ) (rest : List ℕ) → number_at bytes ≡ Ok (count, rest) →
    with_front [] (many_at one (count - 0) rest) ≡ list_at one bytes
list_begins one bytes count rest e = rw e (many_begins one count rest)

pub list_fails : {A : Type 0} (one : Reader A) (e : ReadFault) (bytes : List ℕ) → Fails e (number_at bytes) → Fails e (list_at one bytes)
list_fails one faults.Memory bytes h = tt
list_fails one (faults.Bad f) bytes h = rw h refl

-- ---- one for each of a list

module _ (c : Code) where
  regroup : {A : Type 0} (front : List A) (n : A) (read : Result (List A × List ℕ) Flaw) →
      with_front front (after read (λ ys. answers (n ∷ ys))) ≡ with_front (front ++ n ∷ []) read
  regroup front n (Ok x) = ap (λ ns. Ok (ns, x.1)) (sym (append_assoc front (n ∷ []) x.0))
  regroup front n (Err f) = refl

  pub each_goes_on : {A B K : Type 0} (view : B → A) (one : K → Reader A) (front : List B) (xs : List K) (i : ℕ) (a d : K)
      (bytes : List ℕ) (x : B) (rest : List ℕ) (total : Result (List A × List ℕ) Flaw) → i < length xs → a ≡ get_or xs i d →
      one a bytes ≡ Ok (view x, rest) → with_front (map view front) (each_at c one (drop i xs) bytes) ≡ total →
      with_front (map view (front ++ x ∷ [])) (each_at c one (drop (i + 1) xs) rest) ≡ total
  each_goes_on view one front xs i a d bytes x rest total lt e h so_far =
      let left : drop i xs ≡ a ∷ drop (i + 1) xs = drop_more xs i d lt ∙ ap (λ b. b ∷ drop (i + 1) xs) (sym e) in
      let step : with_front (map view front) (each_at c one (drop i xs) bytes) ≡
      with_front (map view front ++ view x ∷ []) (each_at c one (drop (i + 1) xs) rest) =
      rw (left, h) (regroup (map view front) (view x) (each_at c one (drop (i + 1) xs) rest)) in
      rw (map-append view front (x ∷ [])) (sym step ∙ so_far)

  pub each_ends : {A K : Type 0} (one : K → Reader A) (e : ReadFault) (front : List A) (xs : List K) (i : ℕ) (a d : K)
      (bytes : List ℕ) (total : Result (List A × List ℕ) Flaw) → i < length xs → a ≡ get_or xs i d → Fails e (one a bytes) →
      with_front front (each_at c one (drop i xs) bytes) ≡ total → Fails e total
  each_ends one faults.Memory front xs i a d bytes total lt k h so_far = tt
  each_ends one (faults.Bad f) front xs i a d bytes total lt k h so_far =
      let left : drop i xs ≡ a ∷ drop (i + 1) xs = drop_more xs i d lt ∙ ap (λ b. b ∷ drop (i + 1) xs) (sym k) in
      let step : with_front front (each_at c one (drop i xs) bytes) ≡ Err f = rw (left, h) refl in
      sym so_far ∙ step

  pub each_is_done : {A K : Type 0} (one : K → Reader A) (front : List A) (xs : List K) (i : ℕ) (bytes : List ℕ)
      (total : Result (List A × List ℕ) Flaw) → length xs ≤ i → with_front front (each_at c one (drop i xs) bytes) ≡ total →
      total ≡ Ok (front, bytes)
  each_is_done one front xs i bytes total le so_far =
      let left : drop i xs ≡ [] = drop_of_length-le xs le in
      let step : with_front front (each_at c one (drop i xs) bytes) ≡ Ok (front, bytes) =
      rw left (ap (λ ns. Ok (ns, bytes)) (append-nil front)) in
      sym so_far ∙ step

  pub each_begins : {A K : Type 0} (one : K → Reader A) (xs : List K) (bytes : List ℕ) →
      with_front [] (each_at c one (drop 0 xs) bytes) ≡ each_at c one xs bytes
  each_begins one xs bytes = no_front (each_at c one xs bytes)
