-- Numbers as they are read.
use Rattle.std.proofs.Common.{◌≡◌, ℕ, ◌+◌, ◌-◌, ◌*◌, ◌≤◌, ◌<◌, min, true, false, ◌&&◌, List, [], ◌∷◌, length, drop, get_or, Some, None}
use Rattle.std.proofs.Common.{refl, sym, ap, ◌∙◌, arith}
use Rattle.std.proofs.lemmas.List.{at_drop_more, at_drop_all}
use Rattle.std.proofs.lemmas.Bool.{and_right}
use Rattle.verse_listing_format.specs.Numbers.{is_digit, are_digits, begins_well, is_natural, value_on, value, natural_of, MOST}

pub value_ge : (ds : List ℕ) (n : ℕ) → n ≤ value_on n ds
value_ge [] n = omega arith
value_ge (d ∷ ds) n = omega (arith, value_ge ds (n * 10 + (d - 48)))

-- counting no further than MOST changes nothing that is below it
pub capped : (ds : List ℕ) (m n : ℕ) → min m MOST ≡ min n MOST → min (value_on m ds) MOST ≡ min (value_on n ds) MOST
capped [] m n e = e
capped (d ∷ ds) m n e = capped ds (m * 10 + (d - 48)) (n * 10 + (d - 48)) (omega arith)

-- what is counted by now, and what is left, are the number
pub record Counts (word : List ℕ) (i n : ℕ) : Type 0 where
  pub digits : are_digits (drop i word) ≡ are_digits word
  pub value : min (value_on n (drop i word)) MOST ≡ min (value word) MOST
  pub most : n ≤ MOST

pub counts_on : (word : List ℕ) (i d n m : ℕ) → i < length word → get_or word i 0 ≡ d → is_digit d ≡ true →
    m ≡ min (n * 10 + (d - 48)) MOST → Counts word i n → Counts word (i + 1) m
counts_on word i d n m lt e t is c =
    let here : are_digits (drop i word) ≡ (is_digit (get_or word i 0) && are_digits (drop (i + 1) word)) =
    at_drop_more are_digits word i 0 lt in
    let digits : are_digits (drop (i + 1) word) ≡ are_digits (drop i word) = sym (here ∙ rw (e, t) refl) in
    let next : value_on n (drop i word) ≡ value_on (n * 10 + (d - 48)) (drop (i + 1) word) =
    at_drop_more (value_on n) word i 0 lt ∙ ap (λ (k : ℕ). value_on (n * 10 + (k - 48)) (drop (i + 1) word)) e in
    let same : min m MOST ≡ min (n * 10 + (d - 48)) MOST = omega arith in
    record {
      digits = digits ∙ c.digits;
      value = capped (drop (i + 1) word) m (n * 10 + (d - 48)) same ∙ ap (λ (k : ℕ). min k MOST) (sym next) ∙ c.value;
      most = omega arith;
    }

pub counts_end : (word : List ℕ) (i n : ℕ) → length word ≤ i → begins_well word ≡ true → Counts word i n →
    natural_of word ≡ Some n
counts_end word i n le t c =
    let most = c.most in
    let digits : are_digits word ≡ true = sym c.digits ∙ at_drop_all are_digits word i le in
    let number : min (value word) MOST ≡ n = sym c.value ∙ ap (λ (k : ℕ). min k MOST) (at_drop_all (value_on n) word i le) ∙ omega arith in
    rw (t, digits, number) refl

pub counts_stop : (word : List ℕ) (i d n : ℕ) → i < length word → get_or word i 0 ≡ d → is_digit d ≡ false → Counts word i n →
    natural_of word ≡ None
counts_stop word i d n lt e t c =
    let here : are_digits (drop i word) ≡ (is_digit (get_or word i 0) && are_digits (drop (i + 1) word)) =
    at_drop_more are_digits word i 0 lt in
    let digits : are_digits word ≡ false = sym c.digits ∙ here ∙ rw (e, t) refl in
    let whole : is_natural word ≡ false = and_right _ _ digits in
    rw whole refl
