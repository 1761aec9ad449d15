-- Lists and options that are written are read.
use Rattle.std.proofs.Common.{◌≡◌, ℕ, List, [], ◌∷◌, ◌++◌, length, All, Ok, refl, subst, append_assoc, arith}
use Rattle.std.proofs.lemmas.List.{reverse-append}
use Rattle.std.proofs.lemmas.List.Elements.{All-nil, All-cons, All-head, All-tail, All-same, All-append}
use Rattle.std.specs.Prelude.{Option, Some, None, IfSome, reverse}
use Rattle.std.specs.List.{AllZip}
use Rattle.verse_code.specs.declared.codes.Code.{Code}
use Rattle.verse_image.specs.Reading.{Reader, many_at}
use Rattle.verse_verify_faults.specs.Reading.{list_at, option_at, each_at}
use Rattle.verse_verify_bytes.specs.Bytes as b
use Rattle.verse_verify_bytes.specs.Bytes.{number, each, counted}
use Rattle.verse_verify_bytes.specs.Suits.{IsNumber}
use Rattle.verse_verify_bytes.proofs.Numbers.{number_back, byte_back}

-- what is written of a thing is read as it, whatever stands behind
abbrev pub Back : {A : Type 0} → Reader A → (A → List ℕ) → A → Type 0
Back one f a = (rest : List ℕ) → one (f a ++ rest) ≡ Ok (a, rest)

pub many_back : {A : Type 0} (one : Reader A) (f : A → List ℕ) (xs : List A) (rest : List ℕ) → All (Back one f) xs →
    many_at one (length xs) (each f xs ++ rest) ≡ Ok (xs, rest)
unfolding many_at
many_back one f [] rest h = refl
many_back one f (x ∷ xs) rest h =
    rw (
      append_assoc (f x) (each f xs) rest,
      All-head (Back one f) x xs h (each f xs ++ rest),
      many_back one f xs rest (All-tail (Back one f) x xs h),
    ) refl

pub so_many_back : {A : Type 0} (one : Reader A) (f : A → List ℕ) (n : ℕ) (xs : List A) (rest : List ℕ) → length xs ≡ n →
    All (Back one f) xs → many_at one n (each f xs ++ rest) ≡ Ok (xs, rest)
so_many_back one f n xs rest e h = subst (λ (k : ℕ). many_at one k (each f xs ++ rest) ≡ Ok (xs, rest)) e (many_back one f xs rest h)

pub list_back : {A : Type 0} (one : Reader A) (f : A → List ℕ) (xs : List A) (rest : List ℕ) → IsNumber (length xs) →
    All (Back one f) xs → list_at one (counted f xs ++ rest) ≡ Ok (xs, rest)
list_back one f xs rest n h =
    rw (append_assoc (number (length xs)) (each f xs) rest, number_back (length xs) (each f xs ++ rest) n, many_back one f xs rest h)
    refl

pub option_back : {A : Type 0} (one : Reader A) (f : A → List ℕ) (o : Option A) (rest : List ℕ) → IfSome o (Back one f) →
    option_at one (b.option f o ++ rest) ≡ Ok (o, rest)
option_back one f None rest h = rw (byte_back 2 0 rest (omega arith) (omega arith)) refl
option_back one f (Some a) rest h = rw (byte_back 2 1 (f a ++ rest) (omega arith) (omega arith), h rest) refl

pub all_reversed : {A : Type 0} (P : A → Type 0) (xs : List A) → All P xs → All P (reverse xs)
all_reversed P [] h = h
all_reversed P (x ∷ xs) h =
    All-same P (reverse (x ∷ xs)) (reverse xs ++ x ∷ []) (reverse-append (x ∷ []) xs)
    (All-append P (reverse xs) (x ∷ []) (all_reversed P xs (All-tail P x xs h)) (All-cons P x [] (All-head P x xs h) (All-nil P)))

-- as many as of another one
pub alike : {A K : Type 0} (P : A → Type 0) (ks : List K) (xs : List A) → length xs ≡ length ks → All P xs → AllZip (λ k x. P x) ks xs
alike P [] [] e h = tt
alike P [] (x ∷ xs) e h = absurd cc
alike P (k ∷ ks) [] e h = absurd cc
alike P (k ∷ ks) (x ∷ xs) e h = (All-head P x xs h, alike P ks xs (omega (arith, e)) (All-tail P x xs h))

module _ (c : Code) where
  -- one for each of a list
  pub each_back : {A K : Type 0} (one : K → Reader A) (f : A → List ℕ) (ks : List K) (xs : List A) (rest : List ℕ) →
      AllZip (λ k x. Back (one k) f x) ks xs → each_at c one ks (each f xs ++ rest) ≡ Ok (xs, rest)
  each_back one f [] [] rest h = refl
  each_back one f [] (x ∷ xs) rest h = elim h [ ]
  each_back one f (k ∷ ks) [] rest h = elim h [ ]
  each_back one f (k ∷ ks) (x ∷ xs) rest h =
      rw (append_assoc (f x) (each f xs) rest, h.0 (each f xs ++ rest), each_back one f ks xs rest h.1) refl
