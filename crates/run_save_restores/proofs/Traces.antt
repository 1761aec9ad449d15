-- A line of a trace begins with a digit, and has one line feed, at its end.
use Rattle.std.proofs.Common.{◌≡◌, ◌≢◌, ℕ, zero, suc, ◌+◌, ◌/◌, ◌%◌, ◌≤◌, Bool, true, false, cond, eqb, ltb, List, [], ◌∷◌, ◌++◌, All}
use Rattle.std.proofs.Common.{decimal, refl, sym, ap, subst, ◌∙◌, arith, append_assoc}
use Rattle.std.proofs.lemmas.Bool.{eqb-false, lt-ltb}
use Rattle.std.proofs.lemmas.List.Elements.{All-append, All-cons, All-head, All-nil, All-weaker}
use Rattle.std.specs.Fmt.{digits, digits_onto, digit_glyph}
use Rattle.verse_base.specs.TraceLine.{escaped, escaped_byte, line_bytes}
use Rattle.verse_value.specs.Runs.{Line}
use Rattle.verse_meaning_state.specs.Effects.{printed}
use Rattle.run_save_format.specs.Format.{IsLine, Begins, saved_word, StandsBehind, this_line, later_line}
use Rattle.run_save_restores.specs.Unbroken.{TraceStandsBehind}
use Rattle.run_save_restores.proofs.Files.{line_on}

-- ---- moments

abbrev IsDigit : ℕ → Type 0
IsDigit b = (48 ≤ b) × (b ≤ 57)

-- digits, and not none
record AreDigits (bytes : List ℕ) : Type 0 where
  each : All IsDigit bytes
  some : bytes ≢ []

cons_some : (b : ℕ) (bytes : List ℕ) → b ∷ bytes ≢ []
cons_some b bytes e = cc

last_digit : (n : ℕ) → IsDigit (digit_glyph false (n % 10))
last_digit n = subst IsDigit (sym plain) (omega arith, omega arith)
  where
    plain : digit_glyph false (n % 10) ≡ 48 + n % 10
    plain = let low : ltb (n % 10) 10 ≡ true = lt-ltb (n % 10) 10 (omega arith) in rw low refl

either : (b : Bool) (xs ys : List ℕ) → AreDigits xs → AreDigits ys → AreDigits (cond b xs ys)
either true xs ys p q = p
either false xs ys p q = q

-- the last digits of a number, before digits
onto_digits : (k n b : ℕ) (bytes : List ℕ) → All IsDigit (b ∷ bytes) → AreDigits (digits_onto k 10 false n (b ∷ bytes))
onto_digits zero n b bytes p = record { each = p; some = cons_some b bytes }
onto_digits (suc k) n b bytes p =
    let d = digit_glyph false (n % 10) in
    let more : All IsDigit (d ∷ b ∷ bytes) = All-cons IsDigit d (b ∷ bytes) (last_digit n) p in
    either (eqb (n / 10) 0) (d ∷ b ∷ bytes) (digits_onto k 10 false (n / 10) (d ∷ b ∷ bytes))
    (record { each = more; some = cons_some d (b ∷ bytes) }) (onto_digits k (n / 10) d (b ∷ bytes) more)

-- of whatever size the number is
decimal_digits : (n : ℕ) → AreDigits (decimal n)
unfolding digits
decimal_digits n =
    let d = digit_glyph false (n % 10) in
    let one : All IsDigit (d ∷ []) = All-cons IsDigit d [] (last_digit n) (All-nil IsDigit) in
    either (eqb (n / 10) 0) (d ∷ []) (digits_onto 63 10 false (n / 10) (d ∷ []))
    (record { each = one; some = cons_some d [] }) (onto_digits 63 (n / 10) d [] one)

pub decimal_is_line : (n : ℕ) → IsLine (decimal n)
decimal_is_line n =
    All-weaker IsDigit (λ b. b ≢ 10) (λ b p. (λ e. omega (arith, p.0, e))) (decimal n) (decimal_digits n).each

-- ---- texts

byte_is_line : (b : ℕ) → IsLine (escaped_byte b)
byte_is_line b = two (eqb b 92) (eqb b 10) refl
  where
    one : (c : ℕ) → c ≢ 10 → IsLine (c ∷ [])
    one c e = line_on c [] e (All-nil (λ b. b ≢ 10))

    pair : (c d : ℕ) → c ≢ 10 → d ≢ 10 → IsLine (c ∷ d ∷ [])
    pair c d e f = line_on c (d ∷ []) e (one d f)

    two : (x y : Bool) → eqb b 10 ≡ y → IsLine (cond x (92 ∷ 92 ∷ []) (cond y (92 ∷ 110 ∷ []) (b ∷ [])))
    two true y e = pair 92 92 (omega arith) (omega arith)
    two false true e = pair 92 110 (omega arith) (omega arith)
    two false false e = one b (eqb-false b 10 e)

escaped_is_line : (text : List ℕ) → IsLine (escaped text)
escaped_is_line [] = All-nil (λ b. b ≢ 10)
escaped_is_line (b ∷ text) = All-append (λ b. b ≢ 10) (escaped_byte b) (escaped text) (byte_is_line b) (escaped_is_line text)

-- ---- lines

-- a line of a trace without its line feed
abbrev told : Line → List ℕ
told l = decimal l.moment ++ 32 ∷ escaped l.bytes

told_is_line : (l : Line) → IsLine (told l)
told_is_line l =
    All-append (λ b. b ≢ 10) (decimal l.moment) (32 ∷ escaped l.bytes) (decimal_is_line l.moment)
    (line_on 32 (escaped l.bytes) (omega arith) (escaped_is_line l.bytes))

-- digits do not begin as the word does
no_word : (front behind : List ℕ) → AreDigits front → Begins saved_word (front ++ behind) → ⊥
no_word [] behind p begins = p.some refl
no_word (b ∷ front) behind p begins =
    let digit = All-head IsDigit b front p.each in
    let same : b ≡ 61 = cc begins.1 in
    omega (arith, digit.1, same)

-- with its line feed, before what follows
line_then : (l : Line) (rest : List ℕ) → line_bytes l.moment l.bytes ++ rest ≡ told l ++ 10 ∷ rest
line_then l rest =
    append_assoc (decimal l.moment) (32 ∷ (escaped l.bytes ++ 10 ∷ [])) rest
    ∙ ap (λ bytes. decimal l.moment ++ 32 ∷ bytes) (append_assoc (escaped l.bytes) (10 ∷ []) rest)
    ∙ sym (append_assoc (decimal l.moment) (32 ∷ escaped l.bytes) (10 ∷ rest))

behind_trace : (lines : List Line) (line bytes : List ℕ) → IsLine line → Begins saved_word line →
    StandsBehind (printed lines ++ (line ++ 10 ∷ bytes)) bytes
behind_trace [] line bytes p begins = this_line p begins
behind_trace (l ∷ lines) line bytes p begins =
    subst (λ file. StandsBehind file bytes) (sym whole)
    (later_line (told_is_line l) (no_word (decimal l.moment) (32 ∷ escaped l.bytes) (decimal_digits l.moment))
    (behind_trace lines line bytes p begins))
  where
    tail : List ℕ
    tail = line ++ 10 ∷ bytes

    whole : printed (l ∷ lines) ++ tail ≡ told l ++ 10 ∷ (printed lines ++ tail)
    whole = append_assoc (line_bytes l.moment l.bytes) (printed lines) tail ∙ line_then l (printed lines ++ tail)

pub trace_stands_behind : TraceStandsBehind
trace_stands_behind = behind_trace
