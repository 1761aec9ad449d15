-- Where a key stands among keys.
use Rattle.std.proofs.Common.{◌≡◌, ℕ, zero, suc, ◌+◌, ◌<◌, Bool, true, false, List, [], ◌∷◌, ◌++◌, length, get_or, take, Option, Some, None}
use Rattle.std.proofs.Common.{option_map, position, arith, refl, sym, ap, ◌∙◌}
use Rattle.std.specs.List.{list_any, position_from, IsDistinct, AllByRecursion}
use Rattle.std.proofs.lemmas.Iterator.Adapters.{position_from-zero}
use Rattle.std.proofs.lemmas.List.{take_more}
use Rattle.std.proofs.lemmas.Map.Keys.{IsDistinct-head, IsDistinct-tail}
use Rattle.indexmap.specs.IndexSet.{insert_key}
use Rattle.verse_base.proofs.Facts.{none_of_next, place_of_next}
use Rattle.verse_value.specs.declared.keys.Key.{Key}
use Rattle.verse_value.specs.Keys.{key_eq}
use Rattle.verse_value.specs.Entries.{key_place}
use Rattle.verse_value.specs.Val.{Val, Pairs, no_pairs, more_pairs}
use Rattle.verse_value.specs.Places.{with_last}
use Rattle.verse_value.specs.Parts.{keys_in, pair_set}
use Rattle.verse_value.specs.Operations.{with_entry}
use Rattle.verse_value.proofs.Steps.{not_first}

-- the place by counting
from_place_cases : (k l : Key) (ks : List Key) (i : ℕ) (b : Bool) → key_eq k l ≡ b →
    position_from (key_eq k) (i + 1) ks ≡ option_map (λ j. (i + 1) + j) (key_place k ks)
    → position_from (key_eq k) i (l ∷ ks) ≡ option_map (λ j. i + j) (key_place k (l ∷ ks))
from_place_cases k l ks i true h rest = rw h (ap (λ n. Some n) (omega arith))
from_place_cases k l ks i false h rest = rw h (rest ∙ shift (key_place k ks))
  where
    shift : (o : Option ℕ) → option_map (λ j. (i + 1) + j) o ≡ option_map (λ j. i + j) (option_map suc o)
    shift None = refl
    shift (Some j) = ap (λ n. Some n) (omega arith)

from_place : (k : Key) (ks : List Key) (i : ℕ) → position_from (key_eq k) i ks ≡ option_map (λ j. i + j) (key_place k ks)
from_place k [] i = refl
from_place k (l ∷ ks) i = from_place_cases k l ks i (key_eq k l) refl (from_place k ks (i + 1))

pub position_place : (k : Key) (ks : List Key) → position (key_eq k) ks ≡ key_place k ks
position_place k ks = position_from-zero (key_eq k) ks ∙ from_place k ks 0 ∙ same (key_place k ks)
  where
    same : (o : Option ℕ) → option_map (λ j. 0 + j) o ≡ o
    same None = refl
    same (Some j) = ap (λ n. Some n) (omega arith)

lacks_cases : (k l : Key) (ks : List Key) (b : Bool) → key_eq k l ≡ b → (key_place k ks ≡ None → list_any (key_eq k) ks ≡ false) →
    key_place k (l ∷ ks) ≡ None → list_any (key_eq k) (l ∷ ks) ≡ false
lacks_cases k l ks true h rest f = absurd (let g : Some zero ≡ None = rw h at f in cc)
lacks_cases k l ks false h rest f = rw h (rest (none_of_next (key_place k ks) (rw h at f)))

lacks : (k : Key) (ks : List Key) → key_place k ks ≡ None → list_any (key_eq k) ks ≡ false
lacks k [] e = refl
lacks k (l ∷ ks) e = lacks_cases k l ks (key_eq k l) refl (lacks k ks) e

-- a key that is absent goes last
pub new_key_last : (ks : List Key) (k : Key) → key_place k ks ≡ None → insert_key key_eq ks k ≡ ks ++ k ∷ []
new_key_last ks k absent = rw (lacks k ks absent) refl

held_at : {K : Type 0} (P : K → Type 0) (xs : List K) (i : ℕ) (d : K) → AllByRecursion P xs → i < length xs → P (get_or xs i d)
held_at P [] i d a h = absurd (omega arith)
held_at P (x ∷ xs) zero d a h = a.0
held_at P (x ∷ xs) (suc i) d a h = held_at P xs i d a.1 (omega arith)

-- where each key stands once, the next one is none of those before it
none_before : {K : Type 0} (same : K → K → Bool) → ((x y : K) → same x y ≡ same y x) → (xs : List K) (i : ℕ) (d : K) → IsDistinct same xs →
    i < length xs → list_any (same (get_or xs i d)) (take i xs) ≡ false
none_before same turns [] i d u h = absurd (omega arith)
none_before same turns (x ∷ xs) zero d u h = refl
none_before same turns (x ∷ xs) (suc i) d u h =
    let first : same (get_or xs i d) x ≡ false =
    turns (get_or xs i d) x ∙ held_at (λ y. same x y ≡ false) xs i d (IsDistinct-head same x xs u) (omega arith) in
    let rest : list_any (same (get_or xs i d)) (take i xs) ≡ false =
    none_before same turns xs i d (IsDistinct-tail same x xs u) (omega arith) in
    rw first rest

pub one_more_key : {K : Type 0} (same : K → K → Bool) → ((x y : K) → same x y ≡ same y x) → (xs ks ls : List K) (i : ℕ) (k d : K) →
    IsDistinct same xs → i < length xs
    → ks ≡ take i xs → k ≡ d → d ≡ get_or xs i d → ls ≡ insert_key same ks k → ls ≡ take (i + 1) xs
one_more_key same turns xs ks ls i k d u h before equal here made =
    let new : list_any (same k) (take i xs) ≡ false = rw (equal, here) (none_before same turns xs i d u h) in
    made ∙ rw (before, new, equal) (sym (take_more xs i d h ∙ ap (λ x. take i xs ++ x ∷ []) (sym here)))

within_cases : (k l : Key) (ks : List Key) (b : Bool) (j : ℕ) → key_eq k l ≡ b → ((i : ℕ) → key_place k ks ≡ Some i → i < length ks) →
    key_place k (l ∷ ks) ≡ Some j → j < suc (length ks)
within_cases k l ks true zero h rest f = omega arith
within_cases k l ks true (suc j) h rest f = absurd (let g : Some zero ≡ Some (suc j) = rw h at f in cc)
within_cases k l ks false zero h rest f = absurd (not_first (key_place k ks) (rw h at f))
within_cases k l ks false (suc j) h rest f = omega (arith, rest j (place_of_next (key_place k ks) j (rw h at f)))

pub place_within : (ks : List Key) (k : Key) (i : ℕ) → key_place k ks ≡ Some i → i < length ks
place_within [] k i e = absurd (cc)
place_within (l ∷ ks) k i e = within_cases k l ks (key_eq k l) i refl (place_within ks k) e

module _ (k l : Key) (w : Val) (ps : Pairs) (v : Val) where
  present_cases : (b : Bool) (i : ℕ) → key_eq k l ≡ b →
      ((j : ℕ) → key_place k (keys_in ps) ≡ Some j → with_entry ps k v ≡ pair_set ps j v) → key_place k (l ∷ keys_in ps) ≡ Some i →
      with_entry (more_pairs l w ps) k v ≡ pair_set (more_pairs l w ps) i v
  present_cases true zero h rest e = rw h refl
  present_cases true (suc i) h rest e = absurd (let g : Some zero ≡ Some (suc i) = rw h at e in cc)
  present_cases false zero h rest e = absurd (not_first (key_place k (keys_in ps)) (rw h at e))
  present_cases false (suc i) h rest e = rw h (ap (more_pairs l w) (rest i (place_of_next (key_place k (keys_in ps)) i (rw h at e))))

  absent_cases : (b : Bool) → key_eq k l ≡ b → (key_place k (keys_in ps) ≡ None → with_entry ps k v ≡ with_last ps k v) →
      key_place k (l ∷ keys_in ps) ≡ None → with_entry (more_pairs l w ps) k v ≡ more_pairs l w (with_last ps k v)
  absent_cases true h rest e = absurd (let g : Some zero ≡ None = rw h at e in cc)
  absent_cases false h rest e = rw h (ap (more_pairs l w) (rest (none_of_next (key_place k (keys_in ps)) (rw h at e))))

-- a value at a key: a present key keeps its place, a new one goes last
pub with_entry_present : (ps : Pairs) (k : Key) (v : Val) (i : ℕ) → key_place k (keys_in ps) ≡ Some i → with_entry ps k v ≡ pair_set ps i v
with_entry_present no_pairs k v i e = absurd (cc)
with_entry_present (more_pairs l w ps) k v i e = present_cases k l w ps v (key_eq k l) i refl (with_entry_present ps k v) e

pub with_entry_absent : (ps : Pairs) (k : Key) (v : Val) → key_place k (keys_in ps) ≡ None → with_entry ps k v ≡ with_last ps k v
with_entry_absent no_pairs k v e = refl
with_entry_absent (more_pairs l w ps) k v e = absent_cases k l w ps v (key_eq k l) refl (with_entry_absent ps k v) e
