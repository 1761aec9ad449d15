-- A number is written as one word, which reads as this number.
use Rattle.std.proofs.Common.{◌≡◌, ◌≢◌, ℕ, zero, suc, ◌-◌, ◌^◌, ◌≤◌, ◌<◌, ℤ, pos, negsuc, Bool, true, false, ◌&&◌, eqb, ltb, leb}
use Rattle.std.proofs.Common.{List, [], ◌∷◌, length, get_or, Some, None, decimal, refl, sym, ap, ◌∙◌, subst, arith}
use Rattle.std.specs.Fmt.{signed_decimal}
use Rattle.std.specs.Prelude.{if◌then◌else◌}
use Rattle.std.proofs.lemmas.Bool.{and_from, and_parts as both, lt-ltb, le-leb, leb-true, ltb-true, eqb-true, ne_eqb}
use Rattle.std.proofs.lemmas.Fmt.{digits_decimal, digits_value-decimal, decimal_nonempty, first_decimal, decimal_digit}
use Rattle.std.proofs.lemmas.Fmt.{decimal-digits_value}
use Rattle.std.proofs.lemmas.Str.Parse.{IsDigitsTest, IsNumeralModel, numerals_by_fold}
use Rattle.verse_listing_format.specs.Numbers.{is_digit, are_digits, begins_well, is_natural, value_on, value, plain, negated, Fits}
use Rattle.verse_listing_format.specs.Numbers.{number_of}
use Rattle.verse_listing_format.specs.Laws.{WrittenIsRead, ReadIsWritten}

tells : IsDigitsTest (λ ds. are_digits ds ≡ true)
tells = record {
  empty = refl;
  parts = λ c cs e.
      (let k = both (is_digit c) (are_digits cs) e in
      let m = both (leb 48 c) (leb c 57) k.0 in
      ((leb-true 48 c m.0, leb-true c 57 m.1), k.1));
  more = λ c cs k e. and_from (is_digit c) (are_digits cs) (and_from (leb 48 c) (leb c 57) (le-leb 48 c k.0) (le-leb c 57 k.1)) e;
}

pub numerals : IsNumeralModel (λ ds. are_digits ds ≡ true) value
numerals = numerals_by_fold _ tells value_on (record { empty = λ n. refl; more = λ n c cs k. refl })

-- ---- natural numbers

begins : (ds : List ℕ) → 0 < length ds → (get_or ds 0 0 ≡ 48 → length ds ≡ 1) → begins_well ds ≡ true
begins [] some lead = absurd (omega arith)
begins (d ∷ []) some lead = refl
begins (d ∷ e ∷ ds) some lead =
    let other : d ≢ 48 = λ k. omega (arith, lead k) in
    let test : eqb d 48 ≡ false = ne_eqb d 48 other in
    rw test refl

begun : (ds : List ℕ) → begins_well ds ≡ true → (0 < length ds) × (get_or ds 0 0 ≡ 48 → length ds ≡ 1)
begun [] e = absurd cc
begun (d ∷ []) e = (omega arith, λ k. refl)
begun (d ∷ f ∷ ds) e = (omega arith, λ k. absurd (not_zero k))
  where
    not_zero : d ≡ 48 → ⊥
    not_zero k = let same : eqb d 48 ≡ true = rw k refl in cc

lead_decimal : (n : ℕ) → n < 2 ^ 64 → get_or (decimal n) 0 0 ≡ 48 → length (decimal n) ≡ 1
lead_decimal zero h e = ap length (decimal_digit 0 (omega arith))
lead_decimal (suc n) h e = absurd (omega (arith, first_decimal (suc n) (omega arith) h))

natural_decimal : (n : ℕ) → n < 2 ^ 64 → is_natural (decimal n) ≡ true
natural_decimal n h = and_from _ _ (begins (decimal n) (decimal_nonempty n h) (lead_decimal n h)) (digits_decimal numerals n h)

value_decimal : (n : ℕ) → n < 2 ^ 64 → value (decimal n) ≡ n
value_decimal n h = digits_value-decimal numerals n h

-- a natural word is the text of its value
decimal_value : (word : List ℕ) → is_natural word ≡ true → value word < 2 ^ 64 → decimal (value word) ≡ word
decimal_value word e h =
    let k = both (begins_well word) (are_digits word) e in
    let b = begun word k.0 in
    decimal-digits_value numerals word k.1 b.0 b.1 h

-- ---- numbers with a sign

-- digits that begin with no sign
unsigned : (ds : List ℕ) → is_natural ds ≡ true → number_of ds ≡ Some (plain (value ds))
unsigned [] e = absurd cc
unsigned (d ∷ ds) e =
    let k = (numerals.to (d ∷ ds) (both (begins_well (d ∷ ds)) (are_digits (d ∷ ds)) e).1) in
    let r = (tells.parts d ds (both (begins_well (d ∷ ds)) (are_digits (d ∷ ds)) e).1).0 in
    let low = r.0 in
    let test : eqb d 45 ≡ false = ne_eqb d 45 (λ i. omega arith) in
    rw (test, e) refl

pub number_written : WrittenIsRead
number_written (pos n) h =
    let wide : n < 2 ^ 64 = omega arith in
    let test : ltb n 9223372036854775808 ≡ true = lt-ltb n _ (omega arith) in
    unsigned (decimal n) (natural_decimal n wide) ∙ ap (λ k. Some (plain k)) (value_decimal n wide) ∙ rw test refl
number_written (negsuc n) h =
    let wide : suc n < 2 ^ 64 = omega arith in
    let one : is_natural (decimal (suc n)) ≡ true = natural_decimal (suc n) wide in
    let two : value (decimal (suc n)) ≡ suc n = value_decimal (suc n) wide in
    let three : ltb 0 (suc n) ≡ true = lt-ltb 0 (suc n) (omega arith) in
    let four : leb (suc n) 9223372036854775808 ≡ true = le-leb (suc n) _ (omega arith) in
    let less : suc n - 1 ≡ n = omega arith in
    rw (one, two, three, four, less) refl

-- ---- what is read

-- digits that were read
of_plain : (word : List ℕ) (n : ℤ) (t : Bool) → ltb (value word) 9223372036854775808 ≡ t → is_natural word ≡ true →
    Some (if t then Some (pos (value word)) else None) ≡ Some (Some n) → Fits n × (word ≡ signed_decimal n)
of_plain word n true e k h =
    let same : pos (value word) ≡ n = cc in
    let low : value word < 9223372036854775808 = ltb-true _ _ e in
    (subst Fits same low, sym (decimal_value word k (omega arith)) ∙ ap signed_decimal same)
of_plain word n false e k h = absurd cc

-- digits that were read behind `-`
of_negated : (ds : List ℕ) (n : ℤ) (t : Bool) → leb (value ds) 9223372036854775808 ≡ t → is_natural ds ≡ true → 0 < value ds →
    Some (if t then Some (negsuc (value ds - 1)) else None) ≡ Some (Some n) → Fits n × (45 ∷ ds ≡ signed_decimal n)
of_negated ds n true e k some h =
    let same : negsuc (value ds - 1) ≡ n = cc in
    let low : value ds ≤ 9223372036854775808 = leb-true _ _ e in
    let less : suc (value ds - 1) ≡ value ds = omega arith in
    let below : value ds - 1 < 9223372036854775808 = omega arith in (
      subst Fits same below,
      ap (λ (w : List ℕ). 45 ∷ w) (sym (decimal_value ds k (omega arith)) ∙ ap decimal (sym less)) ∙ ap signed_decimal same,
    )
of_negated ds n false e k some h = absurd cc

of_minus : (ds : List ℕ) (n : ℤ) (t : Bool) → (is_natural ds && ltb 0 (value ds)) ≡ t →
    (if t then Some (negated (value ds)) else None) ≡ Some (Some n) → Fits n × (45 ∷ ds ≡ signed_decimal n)
of_minus ds n true e h =
    let k = both (is_natural ds) (ltb 0 (value ds)) e in
    of_negated ds n (leb (value ds) 9223372036854775808) refl k.0 (ltb-true _ _ k.1) h
of_minus ds n false e h = absurd cc

of_digits : (word : List ℕ) (n : ℤ) (t : Bool) → is_natural word ≡ t → (if t then Some (plain (value word)) else None) ≡ Some (Some n) →
    Fits n × (word ≡ signed_decimal n)
of_digits word n true e h = of_plain word n (ltb (value word) 9223372036854775808) refl e h
of_digits word n false e h = absurd cc

of_word : (b : ℕ) (bytes : List ℕ) (n : ℤ) (t : Bool) → eqb b 45 ≡ t →
    (if t then (if is_natural bytes && ltb 0 (value bytes) then Some (negated (value bytes)) else None) else
    (if is_natural (b ∷ bytes) then Some (plain (value (b ∷ bytes))) else None)) ≡ Some (Some n) →
    Fits n × (b ∷ bytes ≡ signed_decimal n)
of_word b bytes n true e h =
    let minus : b ≡ 45 = eqb-true b 45 e in
    let r = of_minus bytes n (is_natural bytes && ltb 0 (value bytes)) refl h in
    (r.0, ap (λ k. k ∷ bytes) minus ∙ r.1)
of_word b bytes n false e h = of_digits (b ∷ bytes) n (is_natural (b ∷ bytes)) refl h

pub number_read : ReadIsWritten
number_read [] n h = absurd cc
number_read (b ∷ bytes) n h = of_word b bytes n (eqb b 45) refl h
