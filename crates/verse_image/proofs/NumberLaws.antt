-- A number that is read is spelled so, and what is spelled so is read.
use Rattle.std.proofs.Common.{◌≡◌, ℕ, zero, suc, ◌+◌, ◌-◌, ◌*◌, ◌/◌, ◌%◌, ◌<◌, ◌≤◌, ℤ, pos, negsuc, Bool, true, false, cond, ltb, leb, ◌&&◌}
use Rattle.std.proofs.Common.{inl, inr, List, [], ◌∷◌, length, get_or, Result, Ok, Err, refl, sym, ap, subst, ◌∙◌, arith}
use Rattle.std.proofs.lemmas.Bool.{cases_lt, ltb-true, leb-true, lt-ltb, le-ltb, le-leb, and_parts}
use Rattle.verse_image.specs.declared.faults.Flaw.{Flaw}
use Rattle.verse_image.specs.Format.{Field, Spelled, one_byte, more_bytes, SignedSpelled, one_signed, more_signed, below, number, integer}
use Rattle.verse_image.specs.Format as format
use Rattle.verse_image.specs.Numbers.{IsBytes, room, signed_room, ReadIsSpelled, SpelledIsRead, SignedIsSpelled, SignedIsRead}
use Rattle.verse_image.specs.Reading.{◌>>=◌, flaw, digits_at, with_high, number_at, within_at, seven_bits, signed_digits_at}
use Rattle.verse_image.specs.Reading.{signed_with_high, with_sign, integer_at}

pub rest_bytes : (b : ℕ) (bytes : List ℕ) → IsBytes (b ∷ bytes) → IsBytes bytes
rest_bytes b bytes h i = h (suc i)

-- the value of a step that did not fail
pub bind_ok : {A B : Type 0} (r : Result A Flaw) (f : A → Result B Flaw) (y : B) → (r >>= f) ≡ Ok y → (x : A) × (r ≡ Ok x) × (f x ≡ Ok y)
bind_ok (Ok x) f y e = (x, refl, e)
bind_ok (Err d) f y e = absurd cc

-- a test that did not fail
pub test_ok : {A : Type 0} (b : Bool) (d : Flaw) (x y : A) → cond b (Ok x) (Err d) ≡ Ok y → (b ≡ true) × (x ≡ y)
test_ok true d x y e = (refl, cc)
test_ok false d x y e = absurd cc

abbrev done : {A : Type 0} → A → Result A Flaw
done x = Ok x

pub ok_is : {A : Type 0} (x y : A) → done x ≡ done y → x ≡ y
ok_is x y e = cc

-- what a field leaves
pub record Takes (P : Field) (bytes rest : List ℕ) : Type 0 where
  pub spelled : P bytes rest
  pub fits : IsBytes rest

-- ---- numbers

digits_more : (most end left b : ℕ) (tail : List ℕ) → 128 ≤ b →
    digits_at (suc most) end left (b ∷ tail) ≡ (digits_at most end left tail >>= with_high end left b)
unfolding digits_at
digits_more most end left b tail le = let e : ltb b 128 ≡ false = le-ltb b 128 le in rw e refl

digits_one : (most end left b : ℕ) (tail : List ℕ) → b < 128 → digits_at (suc most) end left (b ∷ tail) ≡ Ok (b, tail)
unfolding digits_at
digits_one most end left b tail lt = let e : ltb b 128 ≡ true = lt-ltb b 128 lt in rw e refl

abbrev Digits : ℕ → List ℕ → ℕ × List ℕ → Type 0
Digits end bytes x = Takes (below end x.0) bytes x.1

digits_joined : (end left b : ℕ) (tail : List ℕ) (high : ℕ × List ℕ) (x : ℕ × List ℕ) → IsBytes (b ∷ tail) → 128 ≤ b →
    Digits end tail high → with_high end left b high ≡ Ok x → Digits end (b ∷ tail) x
digits_joined end left b tail high x fits le ih e =
    let g = test_ok (ltb 0 high.0 && ltb (b - 128 + 128 * high.0) end) (flaw 4 left) (b - 128 + 128 * high.0, high.1) x e in
    let parts = and_parts _ _ g.0 in
    let some : 0 < high.0 = ltb-true _ _ parts.0 in
    let small : b - 128 + 128 * high.0 < end = ltb-true _ _ parts.1 in
    let byte : b < 256 = fits 0 in
    let n = b - 128 + 128 * high.0 in
    let low : b ≡ 128 + n % 128 = omega arith in
    let up : high.0 ≡ n / 128 = omega arith in
    let whole : Spelled n (b ∷ tail) high.1 = more_bytes (omega arith) low (subst (λ (k : ℕ). Spelled k tail high.1) up ih.spelled.1) in
    subst (Digits end (b ∷ tail)) g.1 (record { spelled = (omega arith, whole); fits = ih.fits })

pub digits_take : (most end left : ℕ) (bytes : List ℕ) (x : ℕ × List ℕ) → 128 ≤ end → IsBytes bytes → digits_at most end left bytes ≡ Ok x →
    Digits end bytes x
unfolding digits_at
digits_take zero end left bytes x from fits e = absurd cc
digits_take (suc most) end left [] x from fits e = absurd cc
digits_take (suc most) end left (b ∷ tail) x from fits e =
    elim (cases_lt b 128) [
      | inl lt ↦ subst (Digits end (b ∷ tail)) (ok_is (b, tail) x (sym (digits_one most end left b tail lt) ∙ e))
          (record { spelled = (omega arith, one_byte lt); fits = rest_bytes b tail fits })
      | inr le ↦
          let p = bind_ok (digits_at most end left tail) (with_high end left b) x (sym (digits_more most end left b tail le) ∙ e) in
          digits_joined end left b tail p.0 x fits le (digits_take most end left tail p.0 from (rest_bytes b tail fits) p.1) p.2
    ]

digits_again : (k end left : ℕ) {n : ℕ} {bytes rest : List ℕ} → Spelled n bytes rest → n < room k → n < end →
    digits_at (suc k) end left bytes ≡ Ok (n, rest)
digits_again k end left (one_byte {n = n} {rest = rest} lt) small fits = digits_one k end left n rest lt
digits_again zero end left (more_bytes le e s) small fits = absurd (omega arith)
digits_again (suc k) end left (more_bytes {n = n} {b = b} {bytes = bytes} {rest = rest} le e s) small fits =
    let ih : digits_at (suc k) end left bytes ≡ Ok (n / 128, rest) = digits_again k end left s (omega arith) (omega arith) in
    let value : b - 128 + 128 * (n / 128) ≡ n = omega arith in
    let one : ltb 0 (n / 128) ≡ true = lt-ltb _ _ (omega arith) in
    let two : ltb n end ≡ true = lt-ltb _ _ (omega arith) in
    digits_more (suc k) end left b bytes (omega arith) ∙ rw (ih, value, one, two) refl

pub number_take : (bytes : List ℕ) (x : ℕ × List ℕ) → IsBytes bytes → number_at bytes ≡ Ok x → Takes (number x.0) bytes x.1
unfolding number_at
number_take bytes x fits e =
    let p = digits_take 5 4294967296 (length bytes) bytes x (omega arith) fits e in
    record { spelled = (omega (arith, p.spelled.0), p.spelled.1); fits = p.fits }

pub number_again : (n : ℕ) (bytes rest : List ℕ) → number n bytes rest → number_at bytes ≡ Ok (n, rest)
unfolding number_at
number_again n bytes rest h = digits_again 4 4294967296 (length bytes) h.1 (omega (arith, h.0)) (omega (arith, h.0))

pub within_take : (least end : ℕ) (bytes : List ℕ) (x : ℕ × List ℕ) → IsBytes bytes → within_at least end bytes ≡ Ok x →
    Takes (number x.0) bytes x.1 × (least ≤ x.0) × (x.0 < end)
unfolding within_at
within_take least end bytes x fits e =
    let p = bind_ok (number_at bytes) (λ n. cond (leb least n.0 && ltb n.0 end) (Ok n) (Err (flaw 5 (length bytes)))) x e in
    let g = test_ok (leb least p.0.0 && ltb p.0.0 end) (flaw 5 (length bytes)) p.0 x p.2 in
    let parts = and_parts _ _ g.0 in
    subst (λ (y : ℕ × List ℕ). Takes (number y.0) bytes y.1 × (least ≤ y.0) × (y.0 < end)) g.1
    (number_take bytes p.0 fits p.1, leb-true _ _ parts.0, ltb-true _ _ parts.1)

pub within_again : (least end n : ℕ) (bytes rest : List ℕ) → number n bytes rest → least ≤ n → n < end →
    within_at least end bytes ≡ Ok (n, rest)
unfolding within_at
within_again least end n bytes rest h low high =
    let one : leb least n ≡ true = le-leb _ _ low in
    let two : ltb n end ≡ true = lt-ltb _ _ high in
    rw (number_again n bytes rest h, one, two) refl

pub spelled_once : {n : ℕ} {a b rest : List ℕ} → Spelled n a rest → Spelled n b rest → a ≡ b
spelled_once (one_byte lt) (one_byte lt') = refl
spelled_once (one_byte lt) (more_bytes le e s) = absurd (omega arith)
spelled_once (more_bytes le e s) (one_byte lt) = absurd (omega arith)
spelled_once (more_bytes le e s) (more_bytes le' e' s') = let tails = spelled_once s s' in cc

-- ---- numbers with a sign

seven_same : (negative : Bool) (bits : ℕ) → seven_bits negative bits ≡ format.seven_bits negative bits
seven_same false bits = refl
seven_same true bits = refl

turned_back : (negative : Bool) (bits : ℕ) → bits ≤ 127 → format.seven_bits negative (format.seven_bits negative bits) ≡ bits
turned_back false bits le = refl
turned_back true bits le = omega arith

turned_bound : (negative : Bool) (bits : ℕ) → bits ≤ 127 → format.seven_bits negative bits ≤ 127
turned_bound false bits le = le
turned_bound true bits le = omega arith

signed_one : (most end left b : ℕ) (tail : List ℕ) → b < 64 → signed_digits_at (suc most) end left (b ∷ tail) ≡ Ok ((false, b), tail)
unfolding signed_digits_at
signed_one most end left b tail lt = let e : ltb b 64 ≡ true = lt-ltb b 64 lt in rw e refl

signed_two : (most end left b : ℕ) (tail : List ℕ) → 64 ≤ b → b < 128 →
    signed_digits_at (suc most) end left (b ∷ tail) ≡ Ok ((true, 127 - b), tail)
unfolding signed_digits_at
signed_two most end left b tail le lt =
    let d : ltb b 64 ≡ false = le-ltb b 64 le in
    let e : ltb b 128 ≡ true = lt-ltb b 128 lt in
    rw (d, e) refl

signed_rest : (most end left b : ℕ) (tail : List ℕ) → 128 ≤ b →
    signed_digits_at (suc most) end left (b ∷ tail) ≡ (signed_digits_at most end left tail >>= signed_with_high end left b)
unfolding signed_digits_at
signed_rest most end left b tail le =
    let d : ltb b 64 ≡ false = le-ltb b 64 (omega arith) in
    let e : ltb b 128 ≡ false = le-ltb b 128 le in
    rw (d, e) refl

pub record SignedTakes (end : ℕ) (bytes : List ℕ) (x : (Bool × ℕ) × List ℕ) : Type 0 where
  pub spelled : SignedSpelled x.0.0 x.0.1 bytes x.1
  pub size : x.0.1 < end
  pub fits : IsBytes x.1

signed_joined : (end left b : ℕ) (tail : List ℕ) (negative : Bool) (high : ℕ) (rest : List ℕ) (x : (Bool × ℕ) × List ℕ) →
    IsBytes (b ∷ tail) → 128 ≤ b → SignedTakes end tail ((negative, high), rest) → signed_with_high end left b ((negative, high), rest) ≡
    Ok x → SignedTakes end (b ∷ tail) x
signed_joined end left b tail negative high rest x fits le ih e =
    let bits = seven_bits negative (b - 128) in
    let size = high * 128 + bits in
    let g = test_ok (leb 64 size && ltb size end) (flaw 4 left) ((negative, size), rest) x e in
    let parts = and_parts _ _ g.0 in
    let some : 64 ≤ size = leb-true _ _ parts.0 in
    let small : size < end = ltb-true _ _ parts.1 in
    let byte : b < 256 = fits 0 in
    let bits_is : bits ≡ format.seven_bits negative (b - 128) = seven_same negative (b - 128) in
    let bits_most : format.seven_bits negative (b - 128) ≤ 127 = turned_bound negative (b - 128) (omega arith) in
    let low : size % 128 ≡ bits = omega arith in
    let up : high ≡ size / 128 = omega arith in
    let back : format.seven_bits negative (size % 128) ≡ b - 128 =
    ap (format.seven_bits negative) (low ∙ bits_is) ∙ turned_back negative (b - 128) (omega arith) in
    let whole : SignedSpelled negative size (b ∷ tail) rest =
    more_signed some (omega arith) (subst (λ (k : ℕ). SignedSpelled negative k tail rest) up ih.spelled) in
    subst (SignedTakes end (b ∷ tail)) g.1 (record { spelled = whole; size = small; fits = ih.fits })

pub signed_take : (most end left : ℕ) (bytes : List ℕ) (x : (Bool × ℕ) × List ℕ) → 64 ≤ end → IsBytes bytes →
    signed_digits_at most end left bytes ≡ Ok x → SignedTakes end bytes x
unfolding signed_digits_at
signed_take zero end left bytes x from fits e = absurd cc
signed_take (suc most) end left [] x from fits e = absurd cc
signed_take (suc most) end left (b ∷ tail) x from fits e =
    elim (cases_lt b 64) [
      | inl lt ↦ subst (SignedTakes end (b ∷ tail)) (ok_is ((false, b), tail) x (sym (signed_one most end left b tail lt) ∙ e))
          (record { spelled = one_signed lt refl; size = omega arith; fits = rest_bytes b tail fits })
      | inr ge ↦ elim (cases_lt b 128) [
        | inl lt ↦ subst (SignedTakes end (b ∷ tail)) (ok_is ((true, 127 - b), tail) x (sym (signed_two most end left b tail ge lt) ∙ e))
            (record { spelled = one_signed (omega arith) (omega arith); size = omega arith; fits = rest_bytes b tail fits })
        | inr le ↦
            let p = bind_ok (signed_digits_at most end left tail) (signed_with_high end left b) x
            (sym (signed_rest most end left b tail le) ∙ e) in
            signed_joined end left b tail p.0.0.0 p.0.0.1 p.0.1 x fits le
            (signed_take most end left tail p.0 from (rest_bytes b tail fits) p.1) p.2
      ]
    ]

signed_last_again : (k end left : ℕ) (negative : Bool) (size b : ℕ) (rest : List ℕ) → size < 64 → b ≡ format.seven_bits negative size →
    signed_digits_at (suc k) end left (b ∷ rest) ≡ Ok ((negative, size), rest)
signed_last_again k end left false size b rest lt e = rw e (signed_one k end left size rest lt)
signed_last_again k end left true size b rest lt e =
    let back : 127 - b ≡ size = omega arith in
    signed_two k end left b rest (omega arith) (omega arith) ∙ rw back refl

signed_again : (k end left : ℕ) {negative : Bool} {size : ℕ} {bytes rest : List ℕ} → SignedSpelled negative size bytes rest →
    size < signed_room k → size < end → signed_digits_at (suc k) end left bytes ≡ Ok ((negative, size), rest)
signed_again k end left (one_signed {negative = negative} {size = size} {b = b} {rest = rest} lt e) small fits =
    signed_last_again k end left negative size b rest lt e
signed_again zero end left (more_signed le e s) small fits = absurd (omega arith)
signed_again (suc k) end left (more_signed {negative = negative} {size = size} {b = b} {bytes = bytes} {rest = rest} le e s) small fits =
    let ih : signed_digits_at (suc k) end left bytes ≡ Ok ((negative, size / 128), rest) =
    signed_again k end left s (omega arith) (omega arith) in
    let most : format.seven_bits negative (size % 128) ≤ 127 = turned_bound negative (size % 128) (omega arith) in
    let bits : b - 128 ≡ format.seven_bits negative (size % 128) = omega arith in
    let low : seven_bits negative (b - 128) ≡ size % 128 = seven_same negative (b - 128) ∙ ap (format.seven_bits negative) bits ∙
    turned_back negative (size % 128) (omega arith) in
    let value : size / 128 * 128 + seven_bits negative (b - 128) ≡ size = omega arith in
    let one : leb 64 size ≡ true = le-leb _ _ le in
    let two : ltb size end ≡ true = lt-ltb _ _ fits in
    signed_rest (suc k) end left b bytes (omega arith) ∙ rw (ih, value, one, two) refl

pub integer_take : (bytes : List ℕ) (x : ℤ × List ℕ) → IsBytes bytes → integer_at bytes ≡ Ok x → Takes (integer x.0) bytes x.1
unfolding integer_at
integer_take bytes x fits e =
    let p = bind_ok (signed_digits_at 10 9223372036854775808 (length bytes) bytes) (λ n. Ok (with_sign n.0.0 n.0.1, n.1)) x e in
    subst (λ (y : ℤ × List ℕ). Takes (integer y.0) bytes y.1) (ok_is _ x p.2)
    (integer_from bytes p.0.0.0 p.0.0.1 p.0.1 (signed_take 10 9223372036854775808 (length bytes) bytes p.0 (omega arith) fits p.1))
  where
    integer_from : (bytes : List ℕ) (negative : Bool) (size : ℕ) (rest : List ℕ) →
        SignedTakes 9223372036854775808 bytes ((negative, size), rest) → Takes (integer (with_sign negative size)) bytes rest
    integer_from bytes false size rest t = record { spelled = (omega (arith, t.size), t.spelled); fits = t.fits }
    integer_from bytes true size rest t = record { spelled = (omega (arith, t.size), t.spelled); fits = t.fits }

pub integer_again : (n : ℤ) (bytes rest : List ℕ) → integer n bytes rest → integer_at bytes ≡ Ok (n, rest)
unfolding integer_at
integer_again (pos n) bytes rest h = rw (signed_again 9 9223372036854775808 (length bytes) h.1 (omega (arith, h.0)) (omega (arith, h.0)))
    refl
integer_again (negsuc n) bytes rest h = rw (signed_again 9 9223372036854775808 (length bytes) h.1 (omega (arith, h.0)) (omega (arith, h.0)))
    refl

pub signed_once : {negative : Bool} {size : ℕ} {a b rest : List ℕ} → SignedSpelled negative size a rest →
    SignedSpelled negative size b rest → a ≡ b
signed_once (one_signed lt e) (one_signed lt' e') = cc
signed_once (one_signed lt e) (more_signed le e' s) = absurd (omega arith)
signed_once (more_signed le e s) (one_signed lt e') = absurd (omega arith)
signed_once (more_signed le e s) (more_signed le' e' s') = let tails = signed_once s s' in cc

-- ---- for every bound

pub read_is_spelled : ReadIsSpelled
read_is_spelled most end bytes x from fits e = (digits_take most end (length bytes) bytes x from fits e).spelled

pub spelled_is_read : SpelledIsRead
spelled_is_read more end n bytes rest h small = digits_again more end (length bytes) h.1 small h.0

pub signed_is_spelled : SignedIsSpelled
signed_is_spelled most end bytes x from fits e =
    let t = signed_take most end (length bytes) bytes x from fits e in
    (t.size, t.spelled)

pub signed_is_read : SignedIsRead
signed_is_read more end negative size bytes rest s below small = signed_again more end (length bytes) s small below
