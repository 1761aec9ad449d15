-- Each spelling, by itself, is read as what it spells.
use Rattle.std.proofs.Common.{◌≡◌, ℕ, suc, ◌+◌, ◌==◌, ◌&&◌, ◌||◌, Bool, true, false, List, [], ◌∷◌, ◌++◌, Option, Some, None, length, take}
use Rattle.std.proofs.Common.{drop, if◌then◌else◌, refl, sym, ◌∙◌, not, ap, arith, subst, append-nil, length-append}
use Rattle.std.specs.Prelude.{◌^◌, pos, slice_get, nat_le, nat_lt, nat_eq}
use Rattle.std.specs.Cmp.Lexicographic.{pointwise}
use Rattle.std.proofs.Math.Seq.{take-length, take-append_seam}
use Rattle.std.proofs.lemmas.List.Sums.{take_while-cons}
use Rattle.std.proofs.lemmas.Bool.{and_parts}
use Rattle.verse_lex.specs.Bytes.{is_letter, is_digit, is_hex_digit, in_name, in_line, is_at, is_byte, letter_at, digit_at, passes, run}
use Rattle.verse_lex.specs.Words.{look_up, name_kind}
use Rattle.verse_lex.specs.Marks.{doubles, singles}
use Rattle.verse_lex.specs.Numbers.{decimal, hexadecimal, thousandths}
use Rattle.verse_lex.specs.Texts.{text_chars}
use Rattle.verse_lex.specs.Comments.{closing}
use Rattle.verse_lex.specs.Pieces.{piece_at, number, hexadecimal_number, fractional_number, integer, ended, duration, is_lone_at}
use Rattle.verse_lex.specs.Pieces.{is_hexadecimal, has_fraction}
use Rattle.verse_lex_laws.specs.Spelling as s
use Rattle.verse_lex_laws.specs.Spelling.{all_pass, Body, Chars, Number, Piece, Spells, next_of, SpelledAlone, OnePiece}
use Rattle.verse_base.specs.declared.refusals.Rule.{Rule}
use Rattle.verse_lex.specs.declared.rules.TheConstants.{UNEXPECTED, INTEGER, DURATION}
use Rattle.verse_lex.specs.declared.tokens.TokenKind.{TokenKind}
use Rattle.verse_lex.specs.declared.tokens.TokenKind.TheVariants as k
use Rattle.verse_lex.specs.declared.texts.Ending.TheVariants as e
use Rattle.verse_lex.specs.declared.comments.Close.TheVariants as close
use Rattle.verse_lex.specs.declared.pieces.Next.{Next}
use Rattle.verse_lex.specs.declared.pieces.Next.TheVariants as n
use Rattle.verse_lex_laws.proofs.Runs.{other_byte, run_stops, at_end, behind_end, drop_end, pointwise_equal}
use Rattle.verse_lex_laws.proofs.Spelled.{outcome}
use Rattle.verse_lex_laws.proofs.Longest.{at_common, at_letter, at_digit, at_blank, point_no_hex, chars_end, body_closes}

run_all : (p : ℕ → Bool) (cs : List ℕ) → all_pass p cs ≡ true → run p cs ≡ length cs
run_all p [] h = refl
run_all p (c ∷ cs) h =
    let f = and_parts (p c) (all_pass p cs) h in
    let more = run_all p cs f.1 in
    rw (take_while-cons p c cs, f.0) (omega (arith, more))

-- nothing stands behind the end
get_end : (cs : List ℕ) → slice_get cs (length cs) ≡ None
get_end [] = refl
get_end (c ∷ cs) = get_end cs

if_false : (v : Bool) (x y : Next) → v ≡ false → (if v then x else y) ≡ y
if_false true x y h = absurd (cc)
if_false false x y h = refl

no_letter_end : (cs : List ℕ) → letter_at cs (length cs) ≡ false
no_letter_end cs = ap (passes is_letter) (get_end cs)

not_at_end : (cs : List ℕ) (b : ℕ) → is_at cs (length cs) b ≡ false
not_at_end cs b = ap (λ x. is_byte x b) (get_end cs)

ended_alone : (cs : List ℕ) (kind : TokenKind) → ended cs kind (length cs) ≡ n.Token kind (length cs)
ended_alone cs kind = if_false (letter_at cs (length cs)) (n.Bad UNEXPECTED (length cs)) (n.Token kind (length cs)) (no_letter_end cs)

integer_alone : (cs : List ℕ) (value : ℕ) →
    integer cs value (length cs) ≡ outcome (s.integer_rule value) (k.Int (pos value)) false (length cs)
integer_alone cs value = by_rule (nat_le (2 ^ 63) value)
  where
    by_rule : (v : Bool) → (if v then n.Bad INTEGER 0 else ended cs (k.Int (pos value)) (length cs)) ≡
        outcome (if v then Some INTEGER else None) (k.Int (pos value)) false (length cs)
    by_rule true = refl
    by_rule false = ended_alone cs (k.Int (pos value))

duration_alone : (cs whole decimals : List ℕ) →
    duration cs whole decimals (length cs) ≡ outcome (s.duration_rule decimals (thousandths whole decimals))
    (k.Dec (thousandths whole decimals)) false (length cs)
duration_alone cs whole decimals = by_rule (nat_lt 3 (length decimals) || nat_lt 1000000000 (thousandths whole decimals))
  where
    by_rule : (v : Bool) → (if v then n.Bad DURATION 0 else ended cs (k.Dec (thousandths whole decimals)) (length cs)) ≡
        outcome (if v then Some DURATION else None) (k.Dec (thousandths whole decimals)) false (length cs)
    by_rule true = refl
    by_rule false = ended_alone cs (k.Dec (thousandths whole decimals))

name_alone : (within : Bool) (b : ℕ) (cs : List ℕ) → is_letter b ≡ true → all_pass in_name cs ≡ true →
    piece_at within (b ∷ cs) ≡ n.Token (name_kind (b ∷ cs)) (length (b ∷ cs))
name_alone within b cs h all =
    let first : all_pass in_name (b ∷ cs) ≡ true = rw (h, all) refl in
    at_letter within b cs h ∙ (ap (λ i. n.Token (name_kind (take i (b ∷ cs))) i) (run_all in_name (b ∷ cs) first) ∙
    ap (λ x. n.Token (name_kind x) (length (b ∷ cs))) (take-length (b ∷ cs)))

-- numbers
second_no_hex : (b c : ℕ) (cs : List ℕ) → (c == 120) ≡ false → is_hexadecimal (b ∷ c ∷ cs) ≡ false
second_no_hex b c cs h = by_first (b == 48)
  where
    by_first : (v : Bool) → (v && ((c == 120) && passes is_hex_digit (slice_get cs 0))) ≡ false
    by_first true = rw h refl
    by_first false = refl

digits_no_hex : (b : ℕ) (cs : List ℕ) → all_pass is_digit cs ≡ true → is_hexadecimal (b ∷ cs) ≡ false
digits_no_hex b [] h = by_first (b == 48)
  where
    by_first : (v : Bool) → (v && false) ≡ false
    by_first true = refl
    by_first false = refl
digits_no_hex b (c ∷ cs) h = second_no_hex b c cs (other_byte is_digit c 120 (and_parts (is_digit c) (all_pass is_digit cs) h).0 refl)

digits_alone : (within : Bool) (b : ℕ) (cs : List ℕ) → is_digit b ≡ true → all_pass is_digit cs ≡ true →
    piece_at within (b ∷ cs) ≡ outcome (s.integer_rule (decimal (b ∷ cs))) (k.Int (pos (decimal (b ∷ cs)))) false (length (b ∷ cs))
digits_alone within b cs h all =
    let first : all_pass is_digit (b ∷ cs) ≡ true = rw (h, all) refl in
    let count : run is_digit (b ∷ cs) ≡ length (b ∷ cs) = run_all is_digit (b ∷ cs) first in
    let here : number (b ∷ cs) ≡ (if has_fraction (b ∷ cs) (run is_digit (b ∷ cs)) then fractional_number (b ∷ cs)
    (run is_digit (b ∷ cs)) else integer (b ∷ cs) (decimal (take (run is_digit (b ∷ cs)) (b ∷ cs))) (run is_digit (b ∷ cs))) =
    if_false (is_hexadecimal (b ∷ cs)) (hexadecimal_number (b ∷ cs)) _ (digits_no_hex b cs all) in
    let next : number (b ∷ cs) ≡ (if has_fraction (b ∷ cs) (length (b ∷ cs)) then fractional_number (b ∷ cs) (length (b ∷ cs)) else integer
    (b ∷ cs) (decimal (take (length (b ∷ cs)) (b ∷ cs))) (length (b ∷ cs))) =
    here ∙ ap (λ i. if has_fraction (b ∷ cs) i then fractional_number (b ∷ cs) i else integer (b ∷ cs) (decimal (take i (b ∷ cs))) i) count
    in
    let pointless : has_fraction (b ∷ cs) (length (b ∷ cs)) ≡ false =
    ap (λ v. v && digit_at (b ∷ cs) (length (b ∷ cs) + 1)) (not_at_end (b ∷ cs) 46) in
    at_digit within b cs h ∙ (next ∙ (if_false (has_fraction (b ∷ cs) (length (b ∷ cs)))
    (fractional_number (b ∷ cs) (length (b ∷ cs))) _ pointless ∙
    (ap (λ x. integer (b ∷ cs) (decimal x) (length (b ∷ cs))) (take-length (b ∷ cs)) ∙ integer_alone (b ∷ cs) (decimal (b ∷ cs)))))

if_true : (v : Bool) (x y : Next) → v ≡ true → (if v then x else y) ≡ x
if_true true x y h = refl
if_true false x y h = absurd (cc)

hex_alone : (within : Bool) (d : ℕ) (ds : List ℕ) → is_hex_digit d ≡ true → all_pass is_hex_digit ds ≡ true →
    piece_at within (48 ∷ 120 ∷ d ∷ ds) ≡ outcome (s.integer_rule (hexadecimal (d ∷ ds))) (k.Int (pos (hexadecimal (d ∷ ds)))) false
    (length (48 ∷ 120 ∷ d ∷ ds))
hex_alone within d ds h all =
    let first : all_pass is_hex_digit (d ∷ ds) ≡ true = rw (h, all) refl in
    let short : run is_hex_digit (d ∷ ds) ≡ length (d ∷ ds) = run_all is_hex_digit (d ∷ ds) first in
    let count : length (d ∷ ds) + 2 ≡ length (48 ∷ 120 ∷ d ∷ ds) = omega arith in
    let here : number (48 ∷ 120 ∷ d ∷ ds) ≡ hexadecimal_number (48 ∷ 120 ∷ d ∷ ds) =
    if_true (is_hexadecimal (48 ∷ 120 ∷ d ∷ ds)) (hexadecimal_number (48 ∷ 120 ∷ d ∷ ds)) _ h in
    at_digit within 48 (120 ∷ d ∷ ds) refl ∙ (here ∙
    (ap (λ i. integer (48 ∷ 120 ∷ d ∷ ds) (hexadecimal (take i (d ∷ ds))) (i + 2)) short ∙
    (ap (λ x. integer (48 ∷ 120 ∷ d ∷ ds) (hexadecimal x) (length (d ∷ ds) + 2)) (take-length (d ∷ ds)) ∙
    (ap (integer (48 ∷ 120 ∷ d ∷ ds) (hexadecimal (d ∷ ds))) count ∙ integer_alone (48 ∷ 120 ∷ d ∷ ds) (hexadecimal (d ∷ ds))))))

fraction_alone : (within : Bool) (c d : ℕ) (cs ds : List ℕ) → is_digit c ≡ true → all_pass is_digit cs ≡ true → is_digit d ≡ true →
    all_pass is_digit ds ≡ true →
    piece_at within ((c ∷ cs) ++ 46 ∷ d ∷ ds) ≡ outcome (s.duration_rule (d ∷ ds) (thousandths (c ∷ cs) (d ∷ ds)))
    (k.Dec (thousandths (c ∷ cs) (d ∷ ds))) false (length ((c ∷ cs) ++ 46 ∷ d ∷ ds))
fraction_alone within c d cs ds h all g each =
    let bs : List ℕ = (c ∷ cs) ++ 46 ∷ d ∷ ds in
    let front : all_pass is_digit (c ∷ cs) ≡ true = rw (h, all) refl in
    let behind : all_pass is_digit (d ∷ ds) ≡ true = rw (g, each) refl in
    let count : run is_digit ((c ∷ cs) ++ 46 ∷ d ∷ ds) ≡ length (c ∷ cs) = run_stops is_digit (c ∷ cs) 46 (d ∷ ds) front refl in
    let short : run is_digit (d ∷ ds) ≡ length (d ∷ ds) = run_all is_digit (d ∷ ds) behind in
    let e : length (c ∷ cs) + 1 ≡ suc (length (c ∷ cs)) = omega arith in
    let pointed : is_at ((c ∷ cs) ++ 46 ∷ d ∷ ds) (length (c ∷ cs)) 46 ≡ true = ap (λ x. is_byte x 46) (at_end (c ∷ cs) 46 (d ∷ ds)) in
    let digit : digit_at ((c ∷ cs) ++ 46 ∷ d ∷ ds) (length (c ∷ cs) + 1) ≡ true =
    ap (λ i. digit_at ((c ∷ cs) ++ 46 ∷ d ∷ ds) i) e ∙ (ap (passes is_digit) (behind_end (c ∷ cs) 46 d ds) ∙ g) in
    let test : has_fraction ((c ∷ cs) ++ 46 ∷ d ∷ ds) (length (c ∷ cs)) ≡ true =
    ap (λ v. v && digit_at ((c ∷ cs) ++ 46 ∷ d ∷ ds) (length (c ∷ cs) + 1)) pointed ∙ digit in
    let dropped : drop (length (c ∷ cs) + 1) ((c ∷ cs) ++ 46 ∷ d ∷ ds) ≡ d ∷ ds =
    ap (λ i. drop i ((c ∷ cs) ++ 46 ∷ d ∷ ds)) e ∙ drop_end (c ∷ cs) 46 (d ∷ ds) in
    let before : take (length (c ∷ cs)) ((c ∷ cs) ++ 46 ∷ d ∷ ds) ≡ c ∷ cs = take-append_seam (c ∷ cs) (46 ∷ d ∷ ds) in
    let len : length (c ∷ cs) + 1 + length (d ∷ ds) ≡ length ((c ∷ cs) ++ 46 ∷ d ∷ ds) =
    omega (arith, length-append (c ∷ cs) (46 ∷ d ∷ ds)) in
    let other : Next = integer bs (decimal (take (length (c ∷ cs)) bs)) (length (c ∷ cs)) in
    let one : number bs ≡ (if has_fraction bs (run is_digit bs) then fractional_number bs (run is_digit bs) else integer bs
    (decimal (take (run is_digit bs) bs)) (run is_digit bs)) =
    if_false (is_hexadecimal bs) (hexadecimal_number bs) _ (point_no_hex c cs (d ∷ ds) all) in
    let two : number bs ≡ fractional_number bs (length (c ∷ cs)) =
    one ∙ (ap (λ i. if has_fraction bs i then fractional_number bs i else integer bs (decimal (take i bs)) i) count ∙
    if_true (has_fraction bs (length (c ∷ cs))) (fractional_number bs (length (c ∷ cs))) other test) in
    let three : fractional_number bs (length (c ∷ cs)) ≡ duration bs (c ∷ cs) (d ∷ ds) (length bs) =
    ap (λ x. duration bs (take (length (c ∷ cs)) bs) (take (run is_digit x) x) (length (c ∷ cs) + 1 + run is_digit x)) dropped ∙
    (ap (λ w. duration bs w (take (run is_digit (d ∷ ds)) (d ∷ ds)) (length (c ∷ cs) + 1 + run is_digit (d ∷ ds))) before ∙
    (ap (λ i. duration bs (c ∷ cs) (take i (d ∷ ds)) (length (c ∷ cs) + 1 + i)) short ∙
    (ap (λ x. duration bs (c ∷ cs) x (length (c ∷ cs) + 1 + length (d ∷ ds))) (take-length (d ∷ ds)) ∙
    ap (duration bs (c ∷ cs) (d ∷ ds)) len))) in
    at_digit within c (cs ++ 46 ∷ d ∷ ds) h ∙ (two ∙ (three ∙ duration_alone bs (c ∷ cs) (d ∷ ds)))

-- texts
text_alone : (cs ms : List ℕ) → Chars cs ms → piece_at false (34 ∷ (cs ++ 34 ∷ [])) ≡ n.Token k.Text (length (34 ∷ (cs ++ 34 ∷ [])))
text_alone cs ms r =
    let ended : text_chars (cs ++ 34 ∷ []) ≡ e.Quote (length cs + 1) = chars_end cs ms (34 ∷ []) r in
    let len : length cs + 1 + 1 ≡ length (34 ∷ (cs ++ 34 ∷ [])) = omega (arith, length-append cs (34 ∷ [])) in
    rw ended (ap (n.Token k.Text) len)

open_alone : (cs ms : List ℕ) → Chars cs ms → piece_at false (34 ∷ (cs ++ 123 ∷ [])) ≡ n.Token k.TextOpen (length (34 ∷ (cs ++ 123 ∷ [])))
open_alone cs ms r =
    let ended : text_chars (cs ++ 123 ∷ []) ≡ e.Brace (length cs + 1) = chars_end cs ms (123 ∷ []) r in
    let len : length cs + 1 + 1 ≡ length (34 ∷ (cs ++ 123 ∷ [])) = omega (arith, length-append cs (123 ∷ [])) in
    rw ended (ap (n.Token k.TextOpen) len)

close_alone : (cs ms : List ℕ) → Chars cs ms → piece_at true (125 ∷ (cs ++ 34 ∷ [])) ≡ n.Token k.TextClose (length (125 ∷ (cs ++ 34 ∷ [])))
close_alone cs ms r =
    let ended : text_chars (cs ++ 34 ∷ []) ≡ e.Quote (length cs + 1) = chars_end cs ms (34 ∷ []) r in
    let len : length cs + 1 + 1 ≡ length (125 ∷ (cs ++ 34 ∷ [])) = omega (arith, length-append cs (34 ∷ [])) in
    rw ended (ap (n.Token k.TextClose) len)

mid_alone : (cs ms : List ℕ) → Chars cs ms → piece_at true (125 ∷ (cs ++ 123 ∷ [])) ≡ n.Token k.TextMid (length (125 ∷ (cs ++ 123 ∷ [])))
mid_alone cs ms r =
    let ended : text_chars (cs ++ 123 ∷ []) ≡ e.Brace (length cs + 1) = chars_end cs ms (123 ∷ []) r in
    let len : length cs + 1 + 1 ≡ length (125 ∷ (cs ++ 123 ∷ [])) = omega (arith, length-append cs (123 ∷ [])) in
    rw ended (ap (n.Token k.TextMid) len)

-- comments
comment_alone : (cs : List ℕ) → Body cs → is_at cs 0 62 ≡ false → piece_at false (60 ∷ 35 ∷ cs) ≡ n.Separator (length (60 ∷ 35 ∷ cs))
comment_alone cs r h =
    let closed : closing 1 cs ≡ close.Closed (length cs + 0) = ap (closing 1) (sym (append-nil cs)) ∙ body_closes cs 0 [] r in
    let len : length cs + 0 + 2 ≡ length (60 ∷ 35 ∷ cs) = omega arith in
    rw (h, closed) (ap n.Separator len)

line_alone : (cs : List ℕ) → all_pass in_line cs ≡ true → piece_at false (35 ∷ cs) ≡ n.Separator (length (35 ∷ cs))
line_alone cs all =
    let count : run in_line (35 ∷ cs) ≡ length (35 ∷ cs) = run_all in_line (35 ∷ cs) all in
    let lone : is_lone_at (35 ∷ cs) (length (35 ∷ cs)) ≡ false =
    ap (λ v. v && not (is_at (35 ∷ cs) (length (35 ∷ cs) + 1) 10)) (not_at_end (35 ∷ cs) 13) in
    ap (λ i. if is_lone_at (35 ∷ cs) i then n.Bad UNEXPECTED i else n.Separator i) count ∙
    if_false (is_lone_at (35 ∷ cs) (length (35 ∷ cs))) (n.Bad UNEXPECTED (length (35 ∷ cs))) (n.Separator (length (35 ∷ cs))) lone

-- marks: what is spelled as a row of a table says has what its row has
abbrev RowsHave : {A : Type 0} → (List ℕ → A → Type 0) → List (List ℕ × A) → Type 0
RowsHave P [] = Unit {0}
RowsHave P (row ∷ rows) = P row.0 row.1 × RowsHave P rows

found_row : {A : Type 0} (P : List ℕ → A → Type 0) (v : Bool) (x a : A) (more : Option A) (cs row : List ℕ) →
    (v ≡ true → row ≡ cs) → (more ≡ Some a → P cs a) → P row x → (if v then Some x else more) ≡ Some a → P cs a
found_row P true x a more cs row same behind p h = let e : x ≡ a = cc in subst (P cs) e (subst (λ y. P y x) (same refl) p)
found_row P false x a more cs row same behind p h = behind h

found : {A : Type 0} (P : List ℕ → A → Type 0) (rows : List (List ℕ × A)) (cs : List ℕ) (a : A) → RowsHave P rows →
    look_up rows cs ≡ Some a → P cs a
found P [] cs a all h = absurd (cc)
found P (row ∷ rows) cs a all h =
    found_row P (pointwise nat_eq cs row.0) row.1 a (look_up rows cs) cs row.0 (λ e. sym (pointwise_equal cs row.0 e))
    (λ e. found P rows cs a all.1 e) all.0 h

doubles_alone : (within : Bool) → RowsHave (λ cs m. piece_at within cs ≡ n.Token (k.Mark m) 2) doubles
doubles_alone false = (refl, (refl, (refl, (refl, (refl, (refl, (refl, (refl, (refl, (refl, tt))))))))))
doubles_alone true = (refl, (refl, (refl, (refl, (refl, (refl, (refl, (refl, (refl, (refl, tt))))))))))

singles_alone : RowsHave (λ cs m. piece_at false cs ≡ n.Token (k.Mark m) 1) singles
singles_alone = (
  refl,
  (
    refl,
    (
      refl,
      (
        refl,
        (refl, (refl, (refl, (refl, (refl, (refl, (refl, (refl, (refl, (refl, (refl, (refl, (refl, (refl, tt)))))))))))))),
      ),
    ),
  ),
)

singles_in_hole : RowsHave (λ cs m. is_at cs 0 123 ≡ false → is_at cs 0 125 ≡ false → piece_at true cs ≡ n.Token (k.Mark m) 1) singles
singles_in_hole = (
  λ g h. refl,
  (
    λ g h. refl,
    (
      λ g h. refl,
      (
        λ g h. refl,
        (
          λ g h. refl,
          (
            λ g h. refl,
            (
              λ g h. refl,
              (
                λ g h. refl,
                (
                  λ g h. refl,
                  (
                    λ g h. refl,
                    (
                      λ g h. refl,
                      (
                        λ g h. refl,
                        (λ g h. refl, (λ g h. refl, (λ g h. refl, (λ g h. absurd (cc), (λ g h. absurd (cc), (λ g h. refl, tt)))))),
                      ),
                    ),
                  ),
                ),
              ),
            ),
          ),
        ),
      ),
    ),
  ),
)

pub number_alone : (within : Bool) (cs : List ℕ) (kind : TokenKind) (rule : Option Rule) → Number cs kind rule →
    piece_at within cs ≡ outcome rule kind false (length cs)
number_alone within cs kind rule (s.digits b bs h all) = digits_alone within b bs h all
number_alone within cs kind rule (s.hex_digits b bs h all) = hex_alone within b bs h all
number_alone within cs kind rule (s.fraction b c bs es h all g each) = fraction_alone within b c bs es h all g each

pub spelled_alone : SpelledAlone
spelled_alone within cs piece (s.blank {b = b} h) = at_blank within b [] h
spelled_alone within cs piece s.line_feed = refl
spelled_alone within cs piece s.return_feed = refl
spelled_alone within cs piece (s.line_comment {cs = bs} h) = line_alone bs h
spelled_alone within cs piece (s.comment {cs = bs} r h) = comment_alone bs r h
spelled_alone within cs piece (s.name {b = b} {cs = bs} h all) = name_alone within b bs h all
spelled_alone within cs piece (s.number {kind = kind} h) = number_alone within cs kind None h
spelled_alone within cs piece (s.literal {c = c} (s.literal_plain {b = b} h g)) =
    at_common within 39 (b ∷ 39 ∷ []) refl refl refl refl refl refl refl ∙ (rw (g, h) refl)
spelled_alone within cs piece (s.literal {c = c} (s.literal_escaped {b = b} h)) =
    at_common within 39 (92 ∷ b ∷ 39 ∷ []) refl refl refl refl refl refl refl ∙ (rw h refl)
spelled_alone within cs piece (s.text {cs = bs} {ms = ms} r) = text_alone bs ms r
spelled_alone within cs piece (s.text_open {cs = bs} {ms = ms} r) = open_alone bs ms r
spelled_alone within cs piece (s.text_mid {cs = bs} {ms = ms} r) = mid_alone bs ms r
spelled_alone within cs piece (s.text_close {cs = bs} {ms = ms} r) = close_alone bs ms r
spelled_alone within cs piece (s.double {mark = mark} h) =
    found (λ bs m. piece_at within bs ≡ n.Token (k.Mark m) 2) doubles cs mark (doubles_alone within) h
spelled_alone within cs piece (s.single {mark = mark} h) =
    found (λ bs m. piece_at false bs ≡ n.Token (k.Mark m) 1) singles cs mark singles_alone h
spelled_alone within cs piece (s.single_in_hole {mark = mark} h g f) =
    found (λ bs m. is_at bs 0 123 ≡ false → is_at bs 0 125 ≡ false →
    piece_at true bs ≡ n.Token (k.Mark m) 1) singles cs mark singles_in_hole h g f

same_piece : (p q : Piece) (i : ℕ) → next_of p i ≡ next_of q i → p ≡ q
same_piece s.separates s.separates i h = refl
same_piece s.separates s.ends_line i h = absurd (cc)
same_piece s.separates (s.is_token kind) i h = absurd (cc)
same_piece s.ends_line s.separates i h = absurd (cc)
same_piece s.ends_line s.ends_line i h = refl
same_piece s.ends_line (s.is_token kind) i h = absurd (cc)
same_piece (s.is_token kind) s.separates i h = absurd (cc)
same_piece (s.is_token kind) s.ends_line i h = absurd (cc)
same_piece (s.is_token kind) (s.is_token other) i h = let e : kind ≡ other = cc in ap s.is_token e

pub one_piece : OnePiece
one_piece within cs p q h g = same_piece p q (length cs) (sym (spelled_alone within cs p h) ∙ spelled_alone within cs q g)
