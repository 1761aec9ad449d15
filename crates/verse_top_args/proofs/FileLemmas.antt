-- The words that name files, and those behind them, are parted in one way.
use Rattle.std.proofs.Common.{◌≡◌, ◌≢◌, ◌↔◌, ℕ, List, [], ◌∷◌, ◌++◌, refl, subst, sym, ◌≤◌, length, IsTrue, not, nat_eq, slice_index_or}
use Rattle.std.proofs.Common.{arith, zero, suc, ◌<◌, ◌+◌, take, drop, map, Bool, false}
use Rattle.verse_top_args.specs.Words.{EachIsFile, Given, Gives, IsFile, name, none_left, steps, until, inputs, heap}
use Rattle.verse_top_args.specs.Requests.{BeginsWithNoFile}

pub file_byte : {b : ℕ} {bs : List ℕ} → IsFile (b ∷ bs) → b ≢ 45
file_byte (name other) = other

pub file_test : (word : List ℕ) → 1 ≤ length word → IsTrue (not (nat_eq (slice_index_or word 0 0) 45)) ↔ IsFile word
file_test [] low = absurd (omega arith)
file_test (b ∷ bs) low = (
  λ (t : IsTrue (not (nat_eq b 45))). name (λ (e : b ≡ 45). (let f = rw e at t in cc)),
  λ (f : IsFile (b ∷ bs)). (let other = file_byte f in grind arith),
)

dash : {bs : List ℕ} → ¬ (IsFile (45 ∷ bs))
dash f = file_byte f refl

-- an option is no file's name
pub options_begin : {g h : Given} {words : List (List ℕ)} → Gives g words h → BeginsWithNoFile words
options_begin none_left = tt
options_begin (steps n fresh number on) = dash
options_begin (until n fresh number on) = dash
options_begin (inputs fresh on) = dash
options_begin (heap fresh on) = dash

pub record Same (files names options words : List (List ℕ)) : Type 0 where
  pub files_are : files ≡ names
  pub words_are : options ≡ words

pub parted_once : (files names options words : List (List ℕ)) → EachIsFile files → EachIsFile names → BeginsWithNoFile options →
    BeginsWithNoFile words →
    files ++ options ≡ names ++ words → Same files names options words
parted_once [] [] options words f g x y e = record { files_are = refl; words_are = e }
parted_once [] (n ∷ ns) [] words f g x y e = cc
parted_once [] (n ∷ ns) (o ∷ options) words f g x y e = let same : o ≡ n = cc in absurd (x (subst IsFile (sym same) g.0))
parted_once (n ∷ ns) [] options [] f g x y e = cc
parted_once (n ∷ ns) [] options (w ∷ words) f g x y e = let same : n ≡ w = cc in absurd (y (subst IsFile same f.0))
parted_once (m ∷ ms) (n ∷ ns) options words f g x y e =
    let rest = parted_once ms ns options words f.1 g.1 x y (cc) in
    let first : m ≡ n = cc in
    record { files_are = cc (rest.files_are, first); words_are = rest.words_are }

one_further : {A : Type 0} (text : A → List ℕ) (words : List A) (n : ℕ) (d : A) → n < length words → EachIsFile (map text (take n words)) →
    IsFile (text (slice_index_or words n d)) → EachIsFile (map text (take (suc n) words))
one_further text [] n d low each f = absurd (omega arith)
one_further text (w ∷ ws) zero d low each f = (f, tt)
one_further text (w ∷ ws) (suc n) d low each f = (each.0, one_further text ws n d (omega arith) each.1 f)

-- one word more names a file
pub one_more : {A : Type 0} (text : A → List ℕ) (words : List A) (n : ℕ) (d : A) → n < length words → EachIsFile (map text (take n words)) →
    IsFile (text (slice_index_or words n d)) → EachIsFile (map text (take (n + 1) words))
one_more text words n d low each f =
    let e : suc n ≡ n + 1 = omega arith in subst (λ m. EachIsFile (map text (take m words))) e (one_further text words n d low each f)

-- the word at which they end names none
pub ends_before : {A : Type 0} (text : A → List ℕ) (words : List A) (n : ℕ) (d : A) → n < length words →
    ¬ (IsFile (text (slice_index_or words n d))) →
    BeginsWithNoFile (map text (drop n words))
ends_before text [] n d low f = absurd (omega arith)
ends_before text (w ∷ ws) zero d low f = f
ends_before text (w ∷ ws) (suc n) d low f = ends_before text ws n d (omega arith) f

pub none_behind : {A : Type 0} (text : A → List ℕ) (words : List A) (n : ℕ) → length words ≤ n → BeginsWithNoFile (map text (drop n words))
none_behind text [] zero low = tt
none_behind text [] (suc n) low = tt
none_behind text (w ∷ ws) zero low = absurd (omega arith)
none_behind text (w ∷ ws) (suc n) low = none_behind text ws n (omega arith)

pub no_words : {A : Type 0} (text : A → List ℕ) (words : List A) → length words ≡ 0 → map text words ≡ []
no_words text [] e = refl
no_words text (w ∷ ws) e = cc

pub some_words : {A : Type 0} (text : A → List ℕ) (words : List A) → length words ≢ 0 → map text words ≢ []
some_words text [] e f = e refl
some_words text (w ∷ ws) e f = cc

-- there is a second one
pub more_than_one : (n : ℕ) (is : Bool) → IsTrue is ↔ (n ≤ 1) → is ≡ false → 1 < n
more_than_one zero is one low = let yes : IsTrue is = one.1 (omega arith) in absurd (cc)
more_than_one (suc zero) is one low = let yes : IsTrue is = one.1 (omega arith) in absurd (cc)
more_than_one (suc (suc n)) is one low = omega arith
