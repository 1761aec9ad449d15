-- What a field of numbers spells is read, and so are so many parts.
use Rattle.std.proofs.Common.{◌≡◌, ℕ, suc, ◌+◌, ◌<◌, ◌≤◌, Bool, true, false, ltb, leb, List, [], ◌∷◌, ◌++◌, length}
use Rattle.std.proofs.Common.{Option, Some, None, slice_get, Result, Ok, refl, ap, ◌∙◌, arith, take, drop}
use Rattle.std.proofs.lemmas.Bool.{le-leb, le-ltb}
use Rattle.std.proofs.lemmas.List.{take_at, drop_at, length-append}
use Rattle.verse_image.specs.declared.faults.Flaw.{Flaw}
use Rattle.verse_image.specs.Format.{Field, Spelled, one_byte, byte, plain, number, each}
use Rattle.verse_image.specs.Reading.{Reader}
use Rattle.verse_image.proofs.NumberLaws.{spelled_is_read}
use Rattle.run_save_shots.specs.Lists.{Each}
use Rattle.run_save_format.specs.Format.{wide, optional, maybe}
use Rattle.run_save_format.specs.Values.{wide_at, number_in, flag_at, small_at, small_where, optional_at, choice_at, each_at}
use Rattle.run_save_format.specs.Reading.{at_most, many_at, noted_at, maybe_at}
use Rattle.run_save_format.proofs.Lefts.{IfThere}

-- what the field spells is read
abbrev pub Gives : {A : Type 0} → Field → Reader A → A → Type 0
Gives f read x = (bytes rest : List ℕ) → f bytes rest → read bytes ≡ Ok (x, rest)

-- ---- numbers

gives_spelled : (n : ℕ) → n ≤ 18446744073709551615 → Gives (Spelled n) wide_at n
unfolding wide_at
gives_spelled n most bytes rest h = spelled_is_read 9 18446744073709551616 n bytes rest (omega arith, h) (omega arith)

pub gives_wide : (n : ℕ) → Gives (wide n) wide_at n
gives_wide n bytes rest h = gives_spelled n h.0 bytes rest h.1

pub gives_byte : (b : ℕ) → b < 128 → Gives (byte b) wide_at b
gives_byte b low bytes rest h = rw h (gives_spelled b (omega arith) (b ∷ rest) rest (one_byte low))

pub gives_in : {f : Field} (rule least most n : ℕ) → Gives f wide_at n → least ≤ n → n ≤ most → Gives f (number_in rule least most) n
unfolding number_in
gives_in rule least most n given low high bytes rest h =
    let one : leb least n ≡ true = le-leb _ _ low in
    let two : leb n most ≡ true = le-leb _ _ high in
    rw (given bytes rest h, one, two) refl

pub gives_most : (most n : ℕ) → n ≤ most → Gives (wide n) (at_most most) n
gives_most most n low = gives_in 5 0 most n (gives_wide n) (omega arith) low

pub gives_small : (n : ℕ) → Gives (number n) small_at n
gives_small n bytes rest h = gives_in 4 0 4294967295 n (gives_spelled n (omega (arith, h.0))) (omega arith) h.0 bytes rest h.1

pub gives_flag : (b : ℕ) → b ≤ 1 → Gives (byte b) flag_at b
gives_flag b low = gives_in 4 0 1 b (gives_byte b (omega arith)) (omega arith) low

pub gives_where : (test : ℕ → Bool) (n : ℕ) → test n ≡ true → Gives (number n) (small_where test) n
unfolding small_where
gives_where test n passed bytes rest h = rw (gives_small n bytes rest h, passed) refl

pub gives_optional : (o : Option ℕ) → Gives (optional o) optional_at o
unfolding optional_at
gives_optional None bytes rest h = rw (gives_in 4 0 4294967296 0 (gives_byte 0 (omega arith)) (omega arith) (omega arith) bytes rest h) refl
gives_optional (Some n) bytes rest h =
    let low = h.0 in
    rw (gives_in 4 0 4294967296 (suc n) (gives_spelled (suc n) (omega arith)) (omega arith) (omega arith) bytes rest h.1) refl

pub gives_choice : {A : Type 0} (forms : List A) (form : ℕ) (x : A) → form < 128 → slice_get forms form ≡ Some x →
    Gives (byte form) (choice_at forms) x
unfolding choice_at
gives_choice forms form x low there bytes rest h = rw (gives_byte form low bytes rest h, there) refl

-- ---- a text

-- a text stands first among the bytes, which are long enough and are cut behind it
pub record StandsFirst (text bytes rest : List ℕ) : Type 0 where
  pub long : ltb (length bytes) (length text) ≡ false
  pub front : take (length text) bytes ≡ text
  pub back : drop (length text) bytes ≡ rest

pub stands_first : (text bytes rest : List ℕ) → plain text bytes rest → StandsFirst text bytes rest
stands_first text bytes rest h =
    let sum : length bytes ≡ length text + length rest = ap length h ∙ length-append text rest in
    record {
      long = le-ltb _ _ (omega arith);
      front = ap (take (length text)) h ∙ take_at text rest (length text) refl;
      back = ap (drop (length text)) h ∙ drop_at text rest (length text) refl;
    }

-- ---- so many

pub gives_many : {A : Type 0} (f : A → Field) (one : Reader A) (P : A → Type 0) → ((x : A) → P x → Gives (f x) one x) → (xs : List A) →
    Each P xs → Gives (each f xs) (many_at one (length xs)) xs
unfolding many_at
gives_many f one P given [] p bytes rest h = ap (λ w. Ok ([], w)) h
gives_many f one P given (x ∷ xs) p bytes rest h =
    rw (given x p.0 bytes h.0 h.1, gives_many f one P given xs p.1 h.0 rest h.2) refl

pub gives_maybe : {A : Type 0} (f : A → Field) (one : Reader A) (P : A → Type 0) → ((x : A) → P x → Gives (f x) one x) → (o : Option A) →
    IfThere P o → Gives (maybe f o) (maybe_at one) o
unfolding maybe_at
gives_maybe f one P given None p bytes rest h = rw (gives_flag 0 (omega arith) bytes rest h) refl
gives_maybe f one P given (Some x) p bytes rest h = rw (gives_flag 1 (omega arith) bytes h.0 h.1, given x p h.0 rest h.2) refl

-- ---- so many, each from a state

-- it is read, and a state comes of which this holds
pub record GivesTo {A S : Type 0} (P : S → Type 0) (found : Result ((A × S) × List ℕ) Flaw) (x : A) (rest : List ℕ) : Type 0 where
  pub after : S
  pub holds : P after
  pub read : found ≡ Ok ((x, after), rest)

-- what holds of a state and of those that are left
abbrev pub GivesNext : {A S : Type 0} → (A → Field) → (S → Reader (A × S)) → (S → List A → Type 0) → Type 0
GivesNext {A} {S} f one Fits = (s : S) (x : A) (xs : List A) (bytes rest : List ℕ) → Fits s (x ∷ xs) → f x bytes rest →
    GivesTo (λ t. Fits t xs) (one s bytes) x rest

pub gives_each : {A S : Type 0} (f : A → Field) (one : S → Reader (A × S)) (Fits : S → List A → Type 0) → GivesNext f one Fits →
    (xs : List A) (s : S) (bytes rest : List ℕ) → Fits s xs → each f xs bytes rest →
    GivesTo (λ t. Fits t []) (each_at one (length xs) s bytes) xs rest
unfolding each_at
gives_each f one Fits given [] s bytes rest p h = record { after = s; holds = p; read = ap (λ w. Ok (([], s), w)) h }
gives_each f one Fits given (x ∷ xs) s bytes rest p h =
    let first = given s x xs bytes h.0 p h.1 in
    let others = gives_each f one Fits given xs first.after h.0 rest first.holds h.2 in
    record { after = others.after; holds = others.holds; read = rw (first.read, others.read) refl }

-- with how many bytes are left at each, of which there are so many in the end
abbrev pub Noted : {A S : Type 0} → (S → List A → Type 0) → (all : ℕ) → S × List ℕ → List A → Type 0
Noted Fits all s xs = Fits s.0 xs × (length s.1 + length xs ≡ all)

pub gives_noted : {A S : Type 0} (f : A → Field) (one : S → Reader (A × S)) (Fits : S → List A → Type 0) → GivesNext f one Fits →
    (all : ℕ) → GivesNext f (noted_at one) (Noted Fits all)
unfolding noted_at
gives_noted f one Fits given all s x xs bytes rest p h =
    let first = given s.0 x xs bytes rest p.0 h in
    let sum = p.1 in
    let long = length-append s.1 (length bytes ∷ []) in
    record {
      after = (first.after, s.1 ++ length bytes ∷ []);
      holds = (first.holds, omega arith);
      read = rw first.read refl;
    }
