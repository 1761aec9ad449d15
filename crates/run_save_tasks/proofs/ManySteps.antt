-- Steps of the readers of lists.
use Rattle.std.proofs.Common.{◌≡◌, ℕ, suc, ◌+◌, ◌-◌, ◌<◌, ◌≤◌, List, [], ◌∷◌, ◌++◌, map, Result, Ok, Err, refl, sym, ap, ◌∙◌}
use Rattle.std.proofs.Common.{arith}
use Rattle.std.proofs.lemmas.List.{append-nil, map-append}
use Rattle.verse_image.specs.declared.faults.Flaw.{Flaw}
use Rattle.verse_image.specs.declared.faults.ReadFault.{ReadFault}
use Rattle.verse_image.specs.declared.faults.ReadFault.TheVariants as faults
use Rattle.verse_image.specs.Reading.{Fails, Reader}
use Rattle.verse_image.proofs.ReadingSteps.{with_front, no_front, regroup}
use Rattle.run_save_shots.specs.Kept.{KeptFrame}
use Rattle.run_save_format.specs.Reading.{many_at, Known, frame_at, frames_from}

-- ---- one reader over and over

pub many_begin : {A : Type 0} (one : Reader A) (count : ℕ) (bytes : List ℕ) →
    with_front [] (many_at one (count - 0) bytes) ≡ many_at one count bytes
many_begin one count bytes = let k : count - 0 ≡ count = omega arith in rw k (no_front (many_at one count bytes))

pub many_add : {A : Type 0} (one : Reader A) (front : List A) (count i : ℕ) (bytes : List ℕ) (x : A) (after : List ℕ)
    (total : Result (List A × List ℕ) Flaw) → i < count → one bytes ≡ Ok (x, after) →
    with_front front (many_at one (count - i) bytes) ≡ total → with_front (front ++ x ∷ []) (many_at one (count - (i + 1)) after) ≡ total
unfolding many_at
many_add one front count i bytes x after total lt h so_far =
    let k : count - i ≡ suc (count - (i + 1)) = omega arith in
    let step : with_front front (many_at one (count - i) bytes) ≡ with_front (front ++ x ∷ []) (many_at one (count - (i + 1)) after) =
    rw (k, h) (regroup front x (many_at one (count - (i + 1)) after)) in
    sym step ∙ so_far

-- the elements are seen by view
pub many_go_on : {A B : Type 0} (view : B → A) (one : Reader A) (front : List B) (count i : ℕ) (bytes : List ℕ) (x : B) (after : List ℕ)
    (total : Result (List A × List ℕ) Flaw) → i < count → one bytes ≡ Ok (view x, after) →
    with_front (map view front) (many_at one (count - i) bytes) ≡ total →
    with_front (map view (front ++ x ∷ [])) (many_at one (count - (i + 1)) after) ≡ total
many_go_on view one front count i bytes x after total lt h so_far =
    rw (map-append view front (x ∷ [])) (many_add one (map view front) count i bytes (view x) after total lt h so_far)

pub many_end : {A : Type 0} (one : Reader A) (e : ReadFault) (front : List A) (count i : ℕ) (bytes : List ℕ)
    (total : Result (List A × List ℕ) Flaw) → i < count → Fails e (one bytes) → with_front front (many_at one (count - i) bytes) ≡ total →
    Fails e total
unfolding many_at
many_end one faults.Memory front count i bytes total lt h so_far = tt
many_end one (faults.Bad f) front count i bytes total lt h so_far =
    let k : count - i ≡ suc (count - (i + 1)) = omega arith in
    let step : with_front front (many_at one (count - i) bytes) ≡ Err f = rw (k, h) refl in
    sym so_far ∙ step

pub many_are_done : {A : Type 0} (one : Reader A) (front : List A) (count i : ℕ) (bytes : List ℕ) (total : Result (List A × List ℕ) Flaw) →
    count ≤ i → with_front front (many_at one (count - i) bytes) ≡ total → total ≡ Ok (front, bytes)
unfolding many_at
many_are_done one front count i bytes total le so_far =
    let k : count - i ≡ 0 = omega arith in
    let step : with_front front (many_at one (count - i) bytes) ≡ Ok (front, bytes) =
    rw k (ap (λ ns. Ok (ns, bytes)) (append-nil front)) in
    sym so_far ∙ step

-- ---- frames

pub frames_begin : (x : Known) (count : ℕ) (bytes : List ℕ) →
    with_front [] (frames_from x (count - 0) bytes) ≡ frames_from x count bytes
frames_begin x count bytes = let k : count - 0 ≡ count = omega arith in rw k (no_front (frames_from x count bytes))

pub frames_go_on : {B : Type 0} (view : B → KeptFrame) (x : Known) (front : List B) (count i above : ℕ) (bytes : List ℕ) (f : B)
    (after : List ℕ) (total : Result (List KeptFrame × List ℕ) Flaw) → i < count → above ≡ count - 1 - i →
    frame_at x above bytes ≡ Ok (view f, after) → with_front (map view front) (frames_from x (count - i) bytes) ≡ total →
    with_front (map view (front ++ f ∷ [])) (frames_from x (count - (i + 1)) after) ≡ total
unfolding frames_from
frames_go_on view x front count i above bytes f after total lt e h so_far =
    let k : count - i ≡ suc (count - (i + 1)) = omega arith in
    let j : count - (i + 1) ≡ above = omega (arith, e) in
    let step : with_front (map view front) (frames_from x (count - i) bytes) ≡
    with_front (map view front ++ view f ∷ []) (frames_from x (count - (i + 1)) after) =
    rw (k, j, h) (regroup (map view front) (view f) (frames_from x above after)) in
    rw (map-append view front (f ∷ [])) (sym step ∙ so_far)

pub frames_end : (x : Known) (e : ReadFault) (front : List KeptFrame) (count i above : ℕ) (bytes : List ℕ)
    (total : Result (List KeptFrame × List ℕ) Flaw) → i < count → above ≡ count - 1 - i → Fails e (frame_at x above bytes) →
    with_front front (frames_from x (count - i) bytes) ≡ total → Fails e total
unfolding frames_from
frames_end x faults.Memory front count i above bytes total lt d h so_far = tt
frames_end x (faults.Bad f) front count i above bytes total lt d h so_far =
    let k : count - i ≡ suc above = omega (arith, d) in
    let step : with_front front (frames_from x (count - i) bytes) ≡ Err f = rw (k, h) refl in
    sym so_far ∙ step

pub frames_are_done : (x : Known) (front : List KeptFrame) (count i : ℕ) (bytes : List ℕ) (total : Result (List KeptFrame × List ℕ) Flaw) →
    count ≤ i → with_front front (frames_from x (count - i) bytes) ≡ total → total ≡ Ok (front, bytes)
unfolding frames_from
frames_are_done x front count i bytes total le so_far =
    let k : count - i ≡ 0 = omega arith in
    let step : with_front front (frames_from x (count - i) bytes) ≡ Ok (front, bytes) =
    rw k (ap (λ ns. Ok (ns, bytes)) (append-nil front)) in
    sym so_far ∙ step
