-- Numbers that are read are spelled by their bytes, and so are so many parts.
use Rattle.std.proofs.Common.{◌≡◌, ℕ, zero, suc, ◌+◌, ◌-◌, ◌*◌, ◌<◌, ◌≤◌, ℤ, pos, negsuc, Bool, false, ltb, leb, eqb, ◌&&◌, List, [], ◌∷◌}
use Rattle.std.proofs.Common.{length, Option, Some, None, slice_get, refl, ap, ◌∙◌, arith}
use Rattle.std.proofs.lemmas.Bool.{and_parts, eqb-true, leb-true}
use Rattle.verse_image.specs.Format.{Field, Spelled, one_byte, more_bytes, SignedSpelled, one_signed, more_signed}
use Rattle.verse_image.specs.Format.{byte, number, integer, each}
use Rattle.verse_image.specs.Reading.{Reader, digits_at, seven_bits, signed_digits_at, integer_at}
use Rattle.verse_image.proofs.NumberLaws.{digits_take, integer_take}
use Rattle.run_save_format.specs.Format.{wide, optional, maybe}
use Rattle.run_save_format.specs.Values.{wide_at, number_in, flag_at, small_at, small_where, optional_at, none_or, chosen, choice_at}
use Rattle.run_save_format.specs.Values.{each_at}
use Rattle.run_save_format.specs.Reading.{at_most, many_at, maybe_at}
use Rattle.run_save_told.proofs.Telling.{Tells, tells, fails, tells_then, tells_if, tells_as, tells_of, TellsField, With}

-- ---- digits

spelled_few : {n : ℕ} {bytes rest : List ℕ} → Spelled n bytes rest → length rest ≤ length bytes
spelled_few (one_byte low) = omega arith
spelled_few (more_bytes high e s) = let few = spelled_few s in omega arith

signed_few : {negative : Bool} {size : ℕ} {bytes rest : List ℕ} → SignedSpelled negative size bytes rest → length rest ≤ length bytes
signed_few (one_signed low e) = omega arith
signed_few (more_signed high e s) = let few = signed_few s in omega arith

integer_few : (n : ℤ) (bytes rest : List ℕ) → integer n bytes rest → length rest ≤ length bytes
integer_few (pos n) bytes rest h = signed_few h.1
integer_few (negsuc n) bytes rest h = signed_few h.1

-- a place fails at the number, or at the end
digits_fail : (most end left : ℕ) (bytes : List ℕ) → Tells left (λ (x : ℕ × List ℕ). Unit {0}) (digits_at most end left bytes)
unfolding digits_at
digits_fail zero end left bytes = fails (omega arith)
digits_fail (suc most) end left [] = fails (omega arith)
digits_fail (suc most) end left (b ∷ bytes) =
    let own : left ≤ left = omega arith in
    tells_if (ltb b 128) _ _ (λ t. tells tt)
    (λ t. tells_then _ (digits_fail most end left bytes)
    (λ high p. tells_if (ltb 0 high.0 && ltb (b - 128 + 128 * high.0) end) _ _ (λ u. tells tt) (λ u. fails own)))

signed_fail : (most end left : ℕ) (bytes : List ℕ) →
    Tells left (λ (x : (Bool × ℕ) × List ℕ). Unit {0}) (signed_digits_at most end left bytes)
unfolding signed_digits_at
signed_fail zero end left bytes = fails (omega arith)
signed_fail (suc most) end left [] = fails (omega arith)
signed_fail (suc most) end left (b ∷ bytes) =
    let own : left ≤ left = omega arith in
    tells_if (ltb b 64) _ _ (λ t. tells tt)
    (λ t. tells_if (ltb b 128) _ _ (λ u. tells tt)
    (λ u. tells_then _ (signed_fail most end left bytes)
    (λ high p. (let size = high.0.1 * 128 + seven_bits high.0.0 (b - 128) in
    tells_if (leb 64 size && ltb size end) _ _ (λ v. tells tt) (λ v. fails own)))))

integer_fail : (bytes : List ℕ) → Tells (length bytes) (λ (x : ℤ × List ℕ). Unit {0}) (integer_at bytes)
unfolding integer_at
integer_fail bytes = tells_then _ (signed_fail 10 9223372036854775808 (length bytes) bytes) (λ n p. tells tt)

-- ---- numbers

pub tells_wide : {most : ℕ} → TellsField most wide wide_at
unfolding wide_at
tells_wide bytes b =
    tells_of (digits_fail 10 18446744073709551616 (length bytes) bytes) b.few
    (λ x e. (let p = digits_take 10 18446744073709551616 (length bytes) bytes x (omega arith) b.fits e in
    let few = spelled_few p.spelled.1 in
    let all = b.few in
    ((omega (arith, p.spelled.0), p.spelled.1), record { fits = p.fits; few = omega arith })))

pub tells_integer : {most : ℕ} → TellsField most integer integer_at
tells_integer bytes b =
    tells_of (integer_fail bytes) b.few
    (λ x e. (let p = integer_take bytes x b.fits e in
    let few = integer_few x.0 bytes x.1 p.spelled in
    let all = b.few in
    (p.spelled, record { fits = p.fits; few = omega arith })))

-- a number from the least to the greatest
abbrev pub ranged : (least greatest : ℕ) → ℕ → Field
ranged least greatest n bytes rest = wide n bytes rest × (least ≤ n) × (n ≤ greatest)

pub tells_in : {most : ℕ} (rule least greatest : ℕ) → TellsField most (ranged least greatest) (number_in rule least greatest)
unfolding number_in
tells_in rule least greatest bytes b =
    tells_then _ (tells_wide bytes b)
    (λ n p. tells_if _ _ _
    (λ t. (let both = and_parts _ _ t in tells ((p.0, leb-true _ _ both.0, leb-true _ _ both.1), p.1))) (λ t. fails b.few))

pub tells_most : {most : ℕ} (greatest : ℕ) → TellsField most (ranged 0 greatest) (at_most greatest)
tells_most greatest = tells_in 5 0 greatest

pub tells_small : {most : ℕ} → TellsField most number small_at
tells_small bytes b = tells_as (λ n p. ((p.0.2, p.0.0.1), p.1)) (tells_in 4 0 4294967295 bytes b)

pub tells_where : {most : ℕ} (test : ℕ → Bool) → TellsField most number (small_where test)
unfolding small_where
tells_where test bytes b =
    tells_then _ (tells_small bytes b) (λ n p. tells_if (test n.0) _ _ (λ t. tells p) (λ t. fails b.few))

-- a small number is one byte
pub byte_is : {n : ℕ} {bytes rest : List ℕ} → n < 128 → Spelled n bytes rest → bytes ≡ n ∷ rest
byte_is low (one_byte small) = refl
byte_is low (more_bytes high e s) = absurd (omega arith)

-- 0 or 1
abbrev pub bit : ℕ → Field
bit n bytes rest = byte n bytes rest × (n ≤ 1)

pub tells_flag : {most : ℕ} → TellsField most bit flag_at
tells_flag bytes b = tells_as (λ n p. (let low = p.0.2 in ((byte_is (omega arith) p.0.0.1, low), p.1))) (tells_in 4 0 1 bytes b)

pub bit_not_none : (n : ℕ) → n ≤ 1 → eqb n 0 ≡ false → n ≡ 1
bit_not_none zero low e = absurd (cc)
bit_not_none (suc n) low e = omega arith

optional_is : (n : ℕ) (bytes rest : List ℕ) → n ≤ 4294967296 → Spelled n bytes rest → optional (none_or n) bytes rest
optional_is zero bytes rest low s = byte_is (omega arith) s
optional_is (suc n) bytes rest low s = (omega arith, s)

pub tells_optional : {most : ℕ} → TellsField most optional optional_at
unfolding optional_at
tells_optional bytes b =
    tells_then _ (tells_in 4 0 4294967296 bytes b) (λ n p. tells (optional_is n.0 bytes n.1 p.0.2 p.0.0.1, p.1))

-- ---- forms

-- each form stands at its number, from a number on
abbrev pub Numbered : {A : Type 0} → (A → ℕ) → ℕ → List A → Type 0
Numbered number at [] = Unit {0}
Numbered number at (x ∷ xs) = (number x ≡ at) × Numbered number (suc at) xs

form_is : {A : Type 0} (form : A → ℕ) (at n : ℕ) (forms : List A) (x : A) → Numbered form at forms → slice_get forms n ≡ Some x →
    (form x ≡ at + n) × (n < length forms)
form_is form at n [] x p e = absurd (cc)
form_is form at zero (y ∷ ys) x p e =
    let same : y ≡ x = cc in
    let own : form y ≡ form x = ap form same in
    let first = p.0 in
    (omega arith, omega arith)
form_is form at (suc n) (y ∷ ys) x p e =
    let others = form_is form (suc at) n ys x p.1 e in
    let own = others.0 in
    let low = others.1 in
    (omega arith, omega arith)

tells_chosen : {most : ℕ} {A : Type 0} (left : ℕ) (o : Option A) → left ≤ most → Tells most (λ x. o ≡ Some x) (chosen left o)
tells_chosen left None low = fails low
tells_chosen left (Some x) low = tells refl

pub tells_choice : {most : ℕ} {A : Type 0} (form : A → ℕ) (forms : List A) → Numbered form 0 forms → length forms ≤ 128 →
    TellsField most (λ x. byte (form x)) (choice_at forms)
unfolding choice_at
tells_choice form forms numbered few bytes b =
    tells_then _ (tells_wide bytes b)
    (λ n p. tells_then _ (tells_chosen (length bytes) (slice_get forms n.0) b.few)
    (λ x e. (let found = form_is form 0 n.0 forms x numbered e in
    let own = found.0 in
    let low = found.1 in
    let same : n.0 ≡ form x = omega arith in
    tells (byte_is (omega arith) p.0.1 ∙ ap (λ k. k ∷ n.1) same, p.1))))

-- ---- so many

pub tells_each : {most : ℕ} {A S : Type 0} (f : A → Field) (K : S → Type 0) (one : S → Reader (A × S)) →
    ((s : S) → K s → TellsField most (With f K) (one s)) → (n : ℕ) (s : S) → K s →
    TellsField most (With (λ xs bytes rest. each f xs bytes rest × (length xs ≡ n)) K) (each_at one n s)
unfolding each_at
tells_each f K one h zero s k bytes b = tells (((refl, refl), k), b)
tells_each f K one h (suc n) s k bytes b =
    tells_then _ (h s k bytes b)
    (λ first p. tells_then _ (tells_each f K one h n first.0.1 p.0.1 first.1 p.1)
    (λ others q. tells ((((first.1, p.0.0, q.0.0.0), ap suc q.0.0.1), q.0.1), q.1)))

pub tells_many : {most : ℕ} {A : Type 0} (f : A → Field) (one : Reader A) → TellsField most f one → (n : ℕ) →
    TellsField most (λ xs bytes rest. each f xs bytes rest × (length xs ≡ n)) (many_at one n)
unfolding many_at
tells_many f one h zero bytes b = tells ((refl, refl), b)
tells_many f one h (suc n) bytes b =
    tells_then _ (h bytes b)
    (λ first p. tells_then _ (tells_many f one h n first.1 p.1)
    (λ others q. tells (((first.1, p.0, q.0.0), ap suc q.0.1), q.1)))

pub tells_maybe : {most : ℕ} {A : Type 0} (f : A → Field) (one : Reader A) → TellsField most f one →
    TellsField most (maybe f) (maybe_at one)
unfolding maybe_at
tells_maybe f one h bytes b =
    tells_then _ (tells_flag bytes b)
    (λ n p. tells_if _ _ _ (λ t. tells (p.0.0 ∙ ap (λ k. k ∷ n.1) (eqb-true n.0 0 t), p.1))
    (λ t. tells_then _ (h n.1 p.1)
    (λ x q. tells ((n.1, p.0.0 ∙ ap (λ k. k ∷ n.1) (bit_not_none n.0 p.0.1 t), q.0), q.1))))
