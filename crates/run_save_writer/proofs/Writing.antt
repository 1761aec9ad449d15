-- Writing one list after another.
use Rattle.std.proofs.Common.{ℕ, List, [], ◌∷◌, length, map, subst}
use Rattle.verse_base.proofs.Facts.{as_long}
use Rattle.verse_image.specs.Format.{Field, each}
use Rattle.verse_image.specs.Writing.{Writes}
use Rattle.verse_image.proofs.WritingLemmas.{writes_then, writes_as}
use Rattle.run_save_format.specs.Format.{wide, list}

pub each_seen : {A B : Type 0} (f : B → Field) (view : A → B) (xs : List A) (bytes rest : List ℕ) →
    each (λ x. f (view x)) xs bytes rest → each f (map view xs) bytes rest
each_seen f view [] bytes rest h = h
each_seen f view (x ∷ xs) bytes rest h = (h.0, h.1, each_seen f view xs h.0 rest h.2)

-- each as it is seen
pub writes_seen : {A B : Type 0} (f : B → Field) (view : A → B) (xs : List A) (a b : List ℕ) → Writes (each (λ x. f (view x)) xs) a b →
    Writes (each f (map view xs)) a b
writes_seen f view xs a b p = writes_as (each (λ x. f (view x)) xs) (each f (map view xs)) a b (each_seen f view xs) p

-- how many, and then each
pub writes_many : {A : Type 0} (f : A → Field) (xs : List A) (a b c : List ℕ) → Writes (wide (length xs)) a b → Writes (each f xs) b c →
    Writes (list f xs) a c
writes_many f xs a b c p q = writes_then (wide (length xs)) (each f xs) a b c p q

pub writes_list : {A B : Type 0} (f : B → Field) (view : A → B) (xs : List A) (a b c : List ℕ) → Writes (wide (length xs)) a b →
    Writes (each (λ x. f (view x)) xs) b c → Writes (list f (map view xs)) a c
writes_list f view xs a b c p q =
    writes_many f (map view xs) a b c (subst (λ (n : ℕ). Writes (wide n) a b) (as_long view xs) p) (writes_seen f view xs b c q)
