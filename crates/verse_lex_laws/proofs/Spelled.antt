-- What begins at a place is spelled, or breaks a rule.
use Rattle.std.proofs.Common.{◌≡◌, ℕ, suc, ◌+◌, ◌≤◌, ◌==◌, ◌&&◌, ◌||◌, Bool, true, false, List, [], ◌∷◌, ◌++◌, Option, Some, None, length}
use Rattle.std.proofs.Common.{take, drop, if◌then◌else◌, refl, sym, ◌∙◌, not, ap, arith, subst, append_assoc, length-append, add-zero}
use Rattle.std.specs.Prelude.{◌^◌, pos, slice_get, nat_le, nat_lt}
use Rattle.std.proofs.lemmas.Bool.{and_parts, or_parts}
use Rattle.std.proofs.Math.Seq.{take-append_seam}
use Rattle.verse_lex.specs.Bytes.{is_letter, is_digit, is_hex_digit, is_blank, in_name, in_line, is_at, is_byte, letter_at, digit_at}
use Rattle.verse_lex.specs.Bytes.{passes, run}
use Rattle.verse_lex.specs.Words.{look_up, name_kind}
use Rattle.verse_lex.specs.Marks.{doubles, singles}
use Rattle.verse_lex.specs.Numbers.{decimal, hexadecimal, thousandths}
use Rattle.verse_lex.specs.Texts.{escape, further}
use Rattle.verse_lex.specs.Comments.{closing}
use Rattle.verse_lex.specs.Pieces.{next_plain, next_hole, common, name, number, hexadecimal_number, fractional_number, integer, ended}
use Rattle.verse_lex.specs.Pieces.{duration, mark, mark_next, comment, comment_next, begins_comment, in_literal, literal, literal_escape}
use Rattle.verse_lex.specs.Pieces.{literal_end, text_next, text, text_on, line_comment, is_lone_at, is_hexadecimal, has_fraction, escape_of}
use Rattle.verse_lex.specs.Pieces.{breaks_hole, carriage_return}
use Rattle.verse_lex_laws.specs.Spelling as s
use Rattle.verse_lex_laws.specs.Spelling.{all_pass, is_plain, Body, Chars, Literal, Number, Piece, Spells, Stops, NoBody, NoLiteral}
use Rattle.verse_lex_laws.specs.Spelling.{LongestNumber, NoEscape, IsStray, Breaks, Unended, BeginsWith, Explains, EachExplained}
use Rattle.verse_base.specs.declared.refusals.Rule.{Rule}
use Rattle.verse_base.proofs.Facts.{clash}
use Rattle.verse_lex.specs.declared.rules.TheConstants.{UNEXPECTED, TEXT_END, ESCAPE, INTEGER, DURATION, CHARACTER}
use Rattle.verse_lex.specs.declared.tokens.Mark.{Mark}
use Rattle.verse_lex.specs.declared.tokens.TokenKind.{TokenKind}
use Rattle.verse_lex.specs.declared.tokens.TokenKind.TheVariants as k
use Rattle.verse_lex.specs.declared.texts.Ending.{Ending}
use Rattle.verse_lex.specs.declared.texts.Ending.TheVariants as e
use Rattle.verse_lex.specs.declared.comments.Close.{Close}
use Rattle.verse_lex.specs.declared.comments.Close.TheVariants as close
use Rattle.verse_lex.specs.declared.pieces.Next.{Next}
use Rattle.verse_lex.specs.declared.pieces.Next.TheVariants as n
use Rattle.verse_lex_laws.proofs.Runs.{equal, drop_end}
use Rattle.verse_lex_laws.proofs.Longest.{number_len, number_reach}
use Rattle.verse_lex_laws.proofs.Parts.{run_parts, run_more, run_take, get_behind, text_parts, comment_body, comment_lone}
use Rattle.verse_lex_laws.proofs.Parts.{meets_lone, no_body}

if_explains : (within : Bool) (bs : List ℕ) (v : Bool) (x y : Next) → (v ≡ true → Explains within bs x) →
    (v ≡ false → Explains within bs y) → Explains within bs (if v then x else y)
if_explains within bs true x y h g = h refl
if_explains within bs false x y h g = g refl

-- names
name_explained : (within : Bool) (b : ℕ) (bs : List ℕ) → is_letter b ≡ true → Explains within (b ∷ bs) (name (b ∷ bs))
name_explained within b bs h =
    let r = run_parts in_name bs in
    let passed : in_name b ≡ true = rw h refl in
    let count : run in_name (b ∷ bs) ≡ suc (run in_name bs) = run_more in_name b bs passed in
    let taken : take (run in_name (b ∷ bs)) (b ∷ bs) ≡ b ∷ r.front =
    ap (λ i. take i (b ∷ bs)) count ∙ ap (λ x. b ∷ x) (run_take in_name bs r) in
    record {
      front = b ∷ r.front;
      behind = r.behind;
      whole = ap (λ x. b ∷ x) r.whole;
      len = sym (count ∙ ap suc r.count);
      spelled = subst (λ x. Spells within (b ∷ r.front) (s.is_token (name_kind x))) (sym taken) (s.name h r.all);
    }

-- numbers
longest_here : (bs : List ℕ) → LongestNumber bs (number_len bs)
longest_here bs cs ds kind rule e h = subst (λ x. length cs ≤ number_len x) (sym e) (number_reach cs ds kind rule h)

-- what a number at a place is, by the rule that it breaks and whether a letter follows it
abbrev pub outcome : Option Rule → TokenKind → Bool → ℕ → Next
outcome (Some rule) kind letter count = n.Bad rule 0
outcome None kind true count = n.Bad UNEXPECTED count
outcome None kind false count = n.Token kind count

-- the longest number here, and what it comes to
pub record NumberAt (bs : List ℕ) (x : Next) : Type 0 where
  pub front : List ℕ
  pub behind : List ℕ
  pub kind : TokenKind
  pub rule : Option Rule
  pub whole : bs ≡ front ++ behind
  pub spelled : Number front kind rule
  pub longest : LongestNumber bs (length front)
  pub is : x ≡ outcome rule kind (letter_at behind 0) (length front)

letter_there : (cs ds : List ℕ) → letter_at (cs ++ ds) (length cs) ≡ letter_at ds 0
letter_there cs ds = ap (passes is_letter) (ap (slice_get (cs ++ ds)) (sym (add-zero (length cs))) ∙ get_behind cs ds 0)

ended_is : (l v : Bool) (kind : TokenKind) (count : ℕ) → l ≡ v → (if l then n.Bad UNEXPECTED count else n.Token kind count) ≡
    outcome None kind v count
ended_is true true kind count e = refl
ended_is false false kind count e = refl
ended_is true false kind count e = absurd (cc)
ended_is false true kind count e = absurd (cc)

ruled_is : (t v : Bool) (rule : Rule) (kind : TokenKind) (count : ℕ) (x : Next) → x ≡ outcome None kind v count →
    (if t then n.Bad rule 0 else x) ≡ outcome (if t then Some rule else None) kind v count
ruled_is true v rule kind count x e = refl
ruled_is false v rule kind count x e = e

integer_number : (cs ds : List ℕ) (value : ℕ) → Number cs (k.Int (pos value)) (s.integer_rule value) →
    LongestNumber (cs ++ ds) (length cs) → NumberAt (cs ++ ds) (integer (cs ++ ds) value (length cs))
integer_number cs ds value h longest = record {
  front = cs;
  behind = ds;
  kind = k.Int (pos value);
  rule = s.integer_rule value;
  whole = refl;
  spelled = h;
  longest = longest;
  is = ruled_is (nat_le (2 ^ 63) value) (letter_at ds 0) INTEGER (k.Int (pos value)) (length cs) _
      (ended_is _ (letter_at ds 0) (k.Int (pos value)) (length cs) (letter_there cs ds));
}

duration_number : (cs ds whole decimals : List ℕ) →
    Number cs (k.Dec (thousandths whole decimals)) (s.duration_rule decimals (thousandths whole decimals)) →
    LongestNumber (cs ++ ds) (length cs) →
    NumberAt (cs ++ ds) (duration (cs ++ ds) whole decimals (length cs))
duration_number cs ds whole decimals h longest =
    let value = thousandths whole decimals in
    record {
      front = cs;
      behind = ds;
      kind = k.Dec value;
      rule = s.duration_rule decimals value;
      whole = refl;
      spelled = h;
      longest = longest;
      is = ruled_is (nat_lt 3 (length decimals) || nat_lt 1000000000 value) (letter_at ds 0) DURATION (k.Dec value) (length cs) _
          (ended_is _ (letter_at ds 0) (k.Dec value) (length cs) (letter_there cs ds));
    }

-- decimal digits alone
digits_number : (b : ℕ) (bs : List ℕ) → is_digit b ≡ true → LongestNumber (b ∷ bs) (run is_digit (b ∷ bs)) →
    NumberAt (b ∷ bs) (integer (b ∷ bs) (decimal (take (run is_digit (b ∷ bs)) (b ∷ bs))) (run is_digit (b ∷ bs)))
digits_number b bs h longest =
    let r = run_parts is_digit bs in
    let front : List ℕ = b ∷ r.front in
    let count : run is_digit (b ∷ bs) ≡ length (b ∷ r.front) = run_more is_digit b bs h ∙ ap suc r.count in
    let whole : b ∷ bs ≡ (b ∷ r.front) ++ r.behind = ap (λ x. b ∷ x) r.whole in
    let taken : take (run is_digit (b ∷ bs)) (b ∷ bs) ≡ b ∷ r.front =
    ap (λ i. take i (b ∷ bs)) count ∙ (ap (take (length (b ∷ r.front))) whole ∙ take-append_seam (b ∷ r.front) r.behind) in
    let same : integer ((b ∷ r.front) ++ r.behind) (decimal (b ∷ r.front)) (length (b ∷ r.front)) ≡
    integer (b ∷ bs) (decimal (take (run is_digit (b ∷ bs)) (b ∷ bs))) (run is_digit (b ∷ bs)) =
    sym (ap (λ x. integer x (decimal (take (run is_digit (b ∷ bs)) (b ∷ bs))) (run is_digit (b ∷ bs))) whole ∙
    (ap (λ x. integer ((b ∷ r.front) ++ r.behind) (decimal x) (run is_digit (b ∷ bs))) taken ∙
    ap (integer ((b ∷ r.front) ++ r.behind) (decimal (b ∷ r.front))) count)) in
    let far : LongestNumber ((b ∷ r.front) ++ r.behind) (length (b ∷ r.front)) =
    subst (λ x. LongestNumber x (length (b ∷ r.front))) whole (subst (LongestNumber (b ∷ bs)) count longest) in
    let made = integer_number (b ∷ r.front) r.behind (decimal (b ∷ r.front)) (s.digits b r.front h r.all) far in
    subst (λ x. NumberAt x (integer (b ∷ bs) (decimal (take (run is_digit (b ∷ bs)) (b ∷ bs))) (run is_digit (b ∷ bs)))) (sym whole)
    (subst (NumberAt ((b ∷ r.front) ++ r.behind)) same made)

-- `0x` and hexadecimal digits
hex_number : (d : ℕ) (bs : List ℕ) → is_hex_digit d ≡ true → LongestNumber (48 ∷ 120 ∷ d ∷ bs) (run is_hex_digit (d ∷ bs) + 2) →
    NumberAt (48 ∷ 120 ∷ d ∷ bs) (integer (48 ∷ 120 ∷ d ∷ bs) (hexadecimal (take (run is_hex_digit (d ∷ bs)) (d ∷ bs)))
    (run is_hex_digit (d ∷ bs) + 2))
hex_number d bs h longest =
    let r = run_parts is_hex_digit bs in
    let cs : List ℕ = 48 ∷ 120 ∷ d ∷ r.front in
    let short : run is_hex_digit (d ∷ bs) ≡ length (d ∷ r.front) = run_more is_hex_digit d bs h ∙ ap suc r.count in
    let count : run is_hex_digit (d ∷ bs) + 2 ≡ length (48 ∷ 120 ∷ d ∷ r.front) = omega (arith, short) in
    let whole : d ∷ bs ≡ (d ∷ r.front) ++ r.behind = ap (λ x. d ∷ x) r.whole in
    let taken : take (run is_hex_digit (d ∷ bs)) (d ∷ bs) ≡ d ∷ r.front =
    ap (λ i. take i (d ∷ bs)) short ∙ (ap (take (length (d ∷ r.front))) whole ∙ take-append_seam (d ∷ r.front) r.behind) in
    let far : LongestNumber (48 ∷ 120 ∷ d ∷ bs) (length (48 ∷ 120 ∷ d ∷ r.front)) =
    subst (LongestNumber (48 ∷ 120 ∷ d ∷ bs)) count longest in
    let made = integer_number (48 ∷ 120 ∷ d ∷ r.front) r.behind (hexadecimal (d ∷ r.front)) (s.hex_digits d r.front h r.all)
    (subst (λ x. LongestNumber (48 ∷ 120 ∷ x) (length (48 ∷ 120 ∷ d ∷ r.front))) whole far) in
    let back = subst (λ x. NumberAt (48 ∷ 120 ∷ x) (integer (48 ∷ 120 ∷ x) (hexadecimal (d ∷ r.front)) (length (48 ∷ 120 ∷ d ∷ r.front))))
    (sym whole) made in
    subst (λ i. NumberAt (48 ∷ 120 ∷ d ∷ bs) (integer (48 ∷ 120 ∷ d ∷ bs) (hexadecimal (take (run is_hex_digit (d ∷ bs)) (d ∷ bs))) i))
    (sym count)
    (subst (λ x. NumberAt (48 ∷ 120 ∷ d ∷ bs) (integer (48 ∷ 120 ∷ d ∷ bs) (hexadecimal x) (length (48 ∷ 120 ∷ d ∷ r.front))))
    (sym taken) back)

-- digits, a point and digits: the point and the digit behind the digits
record Point (bs : List ℕ) : Type 0 where
  digit : ℕ
  rest : List ℕ
  whole : bs ≡ 46 ∷ digit ∷ rest
  passed : is_digit digit ≡ true

point_of : (bs : List ℕ) → is_at bs 0 46 ≡ true → digit_at bs 1 ≡ true → Point bs
point_of [] h g = absurd (cc)
point_of (b ∷ []) h g = absurd (cc)
point_of (b ∷ c ∷ bs) h g = record { digit = c; rest = bs; whole = ap (λ x. x ∷ c ∷ bs) (equal b 46 h); passed = g }

-- behind the digits stands the point
point_behind : (cs ds : List ℕ) → has_fraction (cs ++ ds) (length cs) ≡ true → Point ds
point_behind cs ds h =
    let g = and_parts (is_at (cs ++ ds) (length cs) 46) (digit_at (cs ++ ds) (length cs + 1)) h in
    let here : is_at ds 0 46 ≡ is_at (cs ++ ds) (length cs) 46 =
    ap (λ x. is_byte x 46) (sym (ap (slice_get (cs ++ ds)) (sym (add-zero (length cs))) ∙ get_behind cs ds 0)) in
    let next : digit_at ds 1 ≡ digit_at (cs ++ ds) (length cs + 1) = ap (passes is_digit) (sym (get_behind cs ds 1)) in
    point_of ds (here ∙ g.0) (next ∙ g.1)

point_number : (c d : ℕ) (cs rest : List ℕ) → is_digit c ≡ true → all_pass is_digit cs ≡ true → is_digit d ≡ true →
    LongestNumber ((c ∷ cs) ++ 46 ∷ d ∷ rest) (length (c ∷ cs) + 1 + run is_digit (d ∷ rest)) →
    NumberAt ((c ∷ cs) ++ 46 ∷ d ∷ rest) (fractional_number ((c ∷ cs) ++ 46 ∷ d ∷ rest) (length (c ∷ cs)))
point_number c d cs rest h all g longest =
    let r = run_parts is_digit rest in
    let bs : List ℕ = (c ∷ cs) ++ 46 ∷ d ∷ rest in
    let n : ℕ = length (c ∷ cs) in
    let front : List ℕ = (c ∷ cs) ++ 46 ∷ d ∷ r.front in
    let short : run is_digit (d ∷ rest) ≡ length (d ∷ r.front) = run_more is_digit d rest g ∙ ap suc r.count in
    let tail : d ∷ rest ≡ (d ∷ r.front) ++ r.behind = ap (λ x. d ∷ x) r.whole in
    let taken : take (run is_digit (d ∷ rest)) (d ∷ rest) ≡ d ∷ r.front =
    ap (λ i. take i (d ∷ rest)) short ∙ (ap (take (length (d ∷ r.front))) tail ∙ take-append_seam (d ∷ r.front) r.behind) in
    let dropped : drop (length (c ∷ cs) + 1) ((c ∷ cs) ++ 46 ∷ d ∷ rest) ≡ d ∷ rest = let e : length (c ∷ cs) + 1 ≡ suc (length (c ∷ cs)) =
    omega arith in ap (λ i. drop i ((c ∷ cs) ++ 46 ∷ d ∷ rest)) e ∙ drop_end (c ∷ cs) 46 (d ∷ rest) in
    let before : take (length (c ∷ cs)) ((c ∷ cs) ++ 46 ∷ d ∷ rest) ≡ c ∷ cs = take-append_seam (c ∷ cs) (46 ∷ d ∷ rest) in
    let count : length (c ∷ cs) + 1 + run is_digit (d ∷ rest) ≡ length ((c ∷ cs) ++ 46 ∷ d ∷ r.front) =
    omega (arith, short, length-append (c ∷ cs) (46 ∷ d ∷ r.front)) in
    let whole : (c ∷ cs) ++ 46 ∷ d ∷ rest ≡ ((c ∷ cs) ++ 46 ∷ d ∷ r.front) ++ r.behind =
    ap (λ x. (c ∷ cs) ++ 46 ∷ d ∷ x) r.whole ∙ sym (append_assoc (c ∷ cs) (46 ∷ d ∷ r.front) r.behind) in
    let one : fractional_number bs n ≡ duration bs (take n bs) (take (run is_digit (d ∷ rest)) (d ∷ rest))
    (n + 1 + run is_digit (d ∷ rest)) =
    ap (λ x. duration bs (take n bs) (take (run is_digit x) x) (n + 1 + run is_digit x)) dropped in
    let two : duration bs (take n bs) (take (run is_digit (d ∷ rest)) (d ∷ rest)) (n + 1 + run is_digit (d ∷ rest)) ≡
    duration bs (c ∷ cs) (d ∷ r.front) (length front) =
    ap (λ w. duration bs w (take (run is_digit (d ∷ rest)) (d ∷ rest)) (n + 1 + run is_digit (d ∷ rest))) before ∙
    (ap (λ x. duration bs (c ∷ cs) x (n + 1 + run is_digit (d ∷ rest))) taken ∙ ap (duration bs (c ∷ cs) (d ∷ r.front)) count) in
    let far : LongestNumber (front ++ r.behind) (length front) =
    subst (λ x. LongestNumber x (length front)) whole (subst (LongestNumber bs) count longest) in
    let made = duration_number front r.behind (c ∷ cs) (d ∷ r.front) (s.fraction c d cs r.front h all g r.all) far in
    subst (NumberAt bs) (sym (one ∙ two)) (subst (λ x. NumberAt x (duration x (c ∷ cs) (d ∷ r.front) (length front))) (sym whole) made)

fraction_number : (b : ℕ) (bs : List ℕ) → is_digit b ≡ true → has_fraction (b ∷ bs) (run is_digit (b ∷ bs)) ≡ true →
    LongestNumber (b ∷ bs) (run is_digit (b ∷ bs) + 1 + run is_digit (drop (run is_digit (b ∷ bs) + 1) (b ∷ bs))) →
    NumberAt (b ∷ bs) (fractional_number (b ∷ bs) (run is_digit (b ∷ bs)))
fraction_number b bs h g longest =
    let r = run_parts is_digit bs in
    let count : run is_digit (b ∷ bs) ≡ length (b ∷ r.front) = run_more is_digit b bs h ∙ ap suc r.count in
    let whole : b ∷ bs ≡ (b ∷ r.front) ++ r.behind = ap (λ x. b ∷ x) r.whole in
    let pointed : has_fraction ((b ∷ r.front) ++ r.behind) (length (b ∷ r.front)) ≡ true =
    subst (λ x. has_fraction x (length (b ∷ r.front)) ≡ true) whole (subst (λ i. has_fraction (b ∷ bs) i ≡ true) count g) in
    let p = point_behind (b ∷ r.front) r.behind pointed in
    let all : b ∷ bs ≡ (b ∷ r.front) ++ 46 ∷ p.digit ∷ p.rest = whole ∙ ap (λ x. (b ∷ r.front) ++ x) p.whole in
    let far : LongestNumber ((b ∷ r.front) ++ 46 ∷ p.digit ∷ p.rest)
    (length (b ∷ r.front) + 1 + run is_digit (drop (length (b ∷ r.front) + 1) ((b ∷ r.front) ++ 46 ∷ p.digit ∷ p.rest))) =
    subst (λ x. LongestNumber x (length (b ∷ r.front) + 1 + run is_digit (drop (length (b ∷ r.front) + 1) x))) all
    (subst (λ i. LongestNumber (b ∷ bs) (i + 1 + run is_digit (drop (i + 1) (b ∷ bs)))) count longest) in
    let dropped : drop (length (b ∷ r.front) + 1) ((b ∷ r.front) ++ 46 ∷ p.digit ∷ p.rest) ≡ p.digit ∷ p.rest =
    let e : length (b ∷ r.front) + 1 ≡ suc (length (b ∷ r.front)) = omega arith in
    ap (λ i. drop i ((b ∷ r.front) ++ 46 ∷ p.digit ∷ p.rest)) e ∙ drop_end (b ∷ r.front) 46 (p.digit ∷ p.rest) in
    let made = point_number b p.digit r.front p.rest h r.all p.passed
    (subst (λ x. LongestNumber ((b ∷ r.front) ++ 46 ∷ p.digit ∷ p.rest) (length (b ∷ r.front) + 1 + run is_digit x)) dropped far) in
    subst (λ i. NumberAt (b ∷ bs) (fractional_number (b ∷ bs) i)) (sym count)
    (subst (λ x. NumberAt x (fractional_number x (length (b ∷ r.front)))) (sym all) made)

record Hex (bs : List ℕ) : Type 0 where
  digit : ℕ
  rest : List ℕ
  whole : bs ≡ 48 ∷ 120 ∷ digit ∷ rest
  passed : is_hex_digit digit ≡ true

hex_of : (bs : List ℕ) → is_hexadecimal bs ≡ true → Hex bs
hex_of [] h = absurd (cc)
hex_of (b ∷ []) h = let g : false ≡ true = (and_parts (b == 48) false h).1 in absurd (cc)
hex_of (b ∷ c ∷ []) h = let g : false ≡ true = (and_parts (c == 120) false (and_parts (b == 48) ((c == 120) && false) h).1).1 in absurd (cc)
hex_of (b ∷ c ∷ d ∷ bs) h =
    let g = and_parts (b == 48) ((c == 120) && is_hex_digit d) h in
    let f = and_parts (c == 120) (is_hex_digit d) g.1 in
    record {
      digit = d;
      rest = bs;
      whole = ap (λ x. x ∷ c ∷ d ∷ bs) (equal b 48 g.0) ∙ ap (λ x. 48 ∷ x ∷ d ∷ bs) (equal c 120 f.0);
      passed =
          f.1;
    }

hexadecimal_here : (bs : List ℕ) → is_hexadecimal bs ≡ true → LongestNumber bs (run is_hex_digit (drop 2 bs) + 2) →
    NumberAt bs (hexadecimal_number bs)
hexadecimal_here bs h longest =
    let x = hex_of bs h in
    subst (λ y. NumberAt y (hexadecimal_number y)) (sym x.whole)
    (hex_number x.digit x.rest x.passed (subst (λ y. LongestNumber y (run is_hex_digit (drop 2 y) + 2)) x.whole longest))

pub number_here : (b : ℕ) (bs : List ℕ) → is_digit b ≡ true → NumberAt (b ∷ bs) (number (b ∷ bs))
number_here b bs h = by_form (is_hexadecimal (b ∷ bs)) (has_fraction (b ∷ bs) (run is_digit (b ∷ bs))) refl refl (longest_here (b ∷ bs))
  where
    by_form : (u v : Bool) → is_hexadecimal (b ∷ bs) ≡ u → has_fraction (b ∷ bs) (run is_digit (b ∷ bs)) ≡ v →
        LongestNumber (b ∷ bs) (if u then run is_hex_digit (drop 2 (b ∷ bs)) + 2 else
        (if v then run is_digit (b ∷ bs) + 1 + run is_digit (drop (run is_digit (b ∷ bs) + 1) (b ∷ bs)) else run is_digit (b ∷ bs))) →
        NumberAt (b ∷ bs) (if u then hexadecimal_number (b ∷ bs) else
        (if v then fractional_number (b ∷ bs) (run is_digit (b ∷ bs)) else integer (b ∷ bs)
        (decimal (take (run is_digit (b ∷ bs)) (b ∷ bs))) (run is_digit (b ∷ bs))))
    by_form true v e f l = hexadecimal_here (b ∷ bs) e l
    by_form false true e f l = fraction_number b bs h f l
    by_form false false e f l = digits_number b bs h l

number_explained : (within : Bool) (b : ℕ) (bs : List ℕ) → is_digit b ≡ true → Explains within (b ∷ bs) (number (b ∷ bs))
number_explained within b bs h =
    let x = number_here b bs h in
    subst (Explains within (b ∷ bs)) (sym x.is)
    (subst (λ y. Explains within y (outcome x.rule x.kind (letter_at x.behind 0) (length x.front))) (sym x.whole)
    (by_rule x.front x.behind x.kind x.rule x.spelled (subst (λ y. LongestNumber y (length x.front)) x.whole x.longest)
    (letter_at x.behind 0) refl))
  where
    by_rule : (front behind : List ℕ) (kind : TokenKind) (rule : Option Rule) → Number front kind rule →
        LongestNumber (front ++ behind) (length front) → (v : Bool) → letter_at behind 0 ≡ v →
        Explains within (front ++ behind) (outcome rule kind v (length front))
    by_rule front behind kind (Some rule) q longest v e = s.broken_number behind q longest
    by_rule front behind kind None q longest true e = s.letter_behind behind q longest e
    by_rule front behind kind None q longest false e =
        record { front = front; behind = behind; whole = refl; len = refl; spelled = s.number q }

-- character literals
no_plain : (b c : ℕ) (bs : List ℕ) → (in_literal b ≡ true → (b == 92) ≡ false → is_at bs 0 39 ≡ true → ⊥) → (b == 92) ≡ false →
    NoLiteral (39 ∷ b ∷ bs)
no_plain b c bs h g cs ds x e (s.literal_plain {b = d} f i) =
    let same : d ≡ b = cc in
    let rest : bs ≡ 39 ∷ ds = cc in
    h (subst (λ y. in_literal y ≡ true) same f) g (subst (λ y. is_at y 0 39 ≡ true) (sym rest) refl)
no_plain b c bs h g cs ds x e (s.literal_escaped {b = d} f) =
    let same : b ≡ 92 = cc in
    clash (b == 92) (subst (λ y. (y == 92) ≡ true) (sym same) refl) g

no_backslash : (b : ℕ) (bs : List ℕ) → (b == 92) ≡ false → NoEscape (b ∷ bs) → ⊥
no_backslash b bs g x =
    let e = x.whole in
    let same : b ≡ 92 = cc in
    clash (b == 92) (subst (λ y. (y == 92) ≡ true) (sym same) refl) g

good_escape : (b c : ℕ) (bs : List ℕ) → escape b ≡ Some c → NoEscape (92 ∷ b ∷ bs) → ⊥
good_escape b c bs h x =
    let e = x.whole in
    let rest : x.behind ≡ b ∷ bs = cc in
    let none : escape b ≡ None = ap (λ y. escape_of (slice_get y 0)) (sym rest) ∙ x.none in
    let f : Some c ≡ None = sym h ∙ none in cc

plain_explained : (within : Bool) (b : ℕ) (bs : List ℕ) → (b == 92) ≡ false → in_literal b ≡ true →
    Explains within (39 ∷ b ∷ bs) (literal_end (39 ∷ b ∷ bs) b 2)
plain_explained within b [] g h = s.no_literal (no_plain b 0 [] (λ f i j. cc) g) (no_backslash b [] g)
plain_explained within b (c ∷ bs) g h =
    if_explains within (39 ∷ b ∷ c ∷ bs) (c == 39) (n.Token (k.Char b) 3) (n.Bad CHARACTER 0)
    (λ t. record {
      front = 39 ∷ b ∷ 39 ∷ [];
      behind = bs;
      whole = ap (λ x. 39 ∷ b ∷ x ∷ bs) (equal c 39 t);
      len = refl;
      spelled =
          s.literal (s.literal_plain h g);
    })
    (λ t. s.no_literal (no_plain b 0 (c ∷ bs) (λ f i j. clash (c == 39) j t) g) (no_backslash b (c ∷ bs) g))

no_escaped : (b x : ℕ) (bs : List ℕ) → is_at bs 0 39 ≡ false → NoLiteral (39 ∷ 92 ∷ b ∷ bs)
no_escaped b x bs h cs ds y e (s.literal_plain {b = d} f i) =
    let same : d ≡ 92 = cc in
    clash (d == 92) (subst (λ z. (z == 92) ≡ true) (sym same) refl) i
no_escaped b x bs h cs ds y e (s.literal_escaped {b = d} f) =
    let rest : bs ≡ 39 ∷ ds = cc in
    clash (is_at bs 0 39) (subst (λ z. is_at z 0 39 ≡ true) (sym rest) refl) h

escaped_explained : (within : Bool) (b x : ℕ) (bs : List ℕ) → escape b ≡ Some x →
    Explains within (39 ∷ 92 ∷ b ∷ bs) (literal_end (39 ∷ 92 ∷ b ∷ bs) x 3)
escaped_explained within b x [] h = s.no_literal (no_escaped b x [] refl) (good_escape b x [] h)
escaped_explained within b x (c ∷ bs) h =
    if_explains within (39 ∷ 92 ∷ b ∷ c ∷ bs) (c == 39) (n.Token (k.Char x) 4) (n.Bad CHARACTER 0)
    (λ t. record {
      front = 39 ∷ 92 ∷ b ∷ 39 ∷ [];
      behind = bs;
      whole = ap (λ y. 39 ∷ 92 ∷ b ∷ y ∷ bs) (equal c 39 t);
      len = refl;
      spelled =
          s.literal (s.literal_escaped h);
    })
    (λ t. s.no_literal (no_escaped b x (c ∷ bs) t) (good_escape b x (c ∷ bs) h))

backslash_explained : (within : Bool) (bs : List ℕ) (o : Option ℕ) → escape_of (slice_get bs 0) ≡ o →
    Explains within (39 ∷ 92 ∷ bs) (literal_escape (39 ∷ 92 ∷ bs) o)
backslash_explained within bs None h = s.literal_escape h
backslash_explained within [] (Some x) h = absurd (cc)
backslash_explained within (b ∷ bs) (Some x) h = escaped_explained within b x bs h

literal_explained : (within : Bool) (bs : List ℕ) → Explains within (39 ∷ bs) (literal (39 ∷ bs))
literal_explained within [] = s.no_literal none_here (λ x. let e = x.whole in cc)
  where
    none_here : NoLiteral (39 ∷ [])
    none_here cs ds c e (s.literal_plain h g) = absurd (cc)
    none_here cs ds c e (s.literal_escaped h) = absurd (cc)
literal_explained within (b ∷ bs) =
    if_explains within (39 ∷ b ∷ bs) (b == 92) _ _
    (λ t. subst (λ x. Explains within (39 ∷ x ∷ bs) (literal_escape (39 ∷ x ∷ bs) (escape_of (slice_get bs 0)))) (sym (equal b 92 t))
    (backslash_explained within bs (escape_of (slice_get bs 0)) refl))
    (λ g. if_explains within (39 ∷ b ∷ bs) (in_literal b) _ _ (plain_explained within b bs g)
    (λ f. s.no_literal (no_plain b 0 bs (λ h i j. clash (in_literal b) h f) g) (no_backslash b bs g)))

-- marks
-- a byte that begins neither a line end, a comment nor a text, and in a hole no brace
record IsOther (within : Bool) (b : ℕ) : Type 0 where
  text : (b == 34) ≡ false
  comment : (b == 35) ≡ false
  line_feed : (b == 10) ≡ false
  carriage_return : (b == 13) ≡ false
  no_open : within ≡ true → (b == 123) ≡ false
  no_close : within ≡ true → (b == 125) ≡ false

-- and no blank, name, number or character literal
record IsMark (within : Bool) (b : ℕ) : Type 0 where
  other : IsOther within b
  blank : is_blank b ≡ false
  letter : is_letter b ≡ false
  digit : is_digit b ≡ false
  quote : (b == 39) ≡ false

single_explained : (within : Bool) (b : ℕ) (bs : List ℕ) (o : Option Mark) → look_up singles (b ∷ []) ≡ o → IsMark within b →
    Explains within (b ∷ bs) (mark_next None o)
single_explained within b bs None h x = s.stray (record {
  blank = x.blank;
  letter = x.letter;
  digit = x.digit;
  quote = x.quote;
  text = (x.other).text;
  comment = (x.other).comment;
  line_feed = (x.other).line_feed;
  carriage_return = (x.other).carriage_return;
  mark = h;
})
single_explained true b bs (Some m) h x =
    record {
      front = b ∷ [];
      behind = bs;
      whole = refl;
      len = refl;
      spelled =
          s.single_in_hole h ((x.other).no_open refl) ((x.other).no_close refl);
    }
single_explained false b bs (Some m) h x = record { front = b ∷ []; behind = bs; whole = refl; len = refl; spelled = s.single h }

mark_two : (within : Bool) (b c : ℕ) (bs : List ℕ) (o : Option Mark) → look_up doubles (b ∷ c ∷ []) ≡ o → IsMark within b →
    Explains within (b ∷ c ∷ bs) (mark_next o (look_up singles (b ∷ [])))
mark_two within b c bs (Some m) h x = record { front = b ∷ c ∷ []; behind = bs; whole = refl; len = refl; spelled = s.double h }
mark_two within b c bs None h x = single_explained within b (c ∷ bs) (look_up singles (b ∷ [])) refl x

mark_explained : (within : Bool) (b : ℕ) (bs : List ℕ) → IsMark within b → Explains within (b ∷ bs) (mark (b ∷ bs))
mark_explained within b [] x = single_explained within b [] (look_up singles (b ∷ [])) refl x
mark_explained within b (c ∷ bs) x = mark_two within b c bs (look_up doubles (b ∷ c ∷ [])) refl x

-- what stands in holes too
common_explained : (within : Bool) (b : ℕ) (bs : List ℕ) → IsOther within b → Explains within (b ∷ bs) (common (b ∷ bs))
common_explained within b bs x =
    if_explains within (b ∷ bs) (is_blank b) _ _
    (λ t. record { front = b ∷ []; behind = bs; whole = refl; len = refl; spelled = s.blank t }) (λ e1.
    if_explains within (b ∷ bs) (is_letter b) _ _ (λ t. name_explained within b bs t) (λ e2.
    if_explains within (b ∷ bs) (is_digit b) _ _ (λ t. number_explained within b bs t) (λ e3.
    if_explains within (b ∷ bs) (b == 39) _ _
    (λ t. subst (λ x. Explains within (x ∷ bs) (literal (x ∷ bs))) (sym (equal b 39 t)) (literal_explained within bs)) (λ e4.
    mark_explained within b bs (record { other = x; blank = e1; letter = e2; digit = e3; quote = e4 })))))

-- texts
text_broken : (cs ms ds : List ℕ) (rule : Rule) → Chars cs ms → Stops ds (e.Broken rule 0) →
    Explains false (34 ∷ (cs ++ ds)) (text_next (n.Bad TEXT_END 0) k.Text k.TextOpen (further (length cs) (e.Broken rule 0)))
text_broken cs ms ds rule r h =
    let count : 1 + length cs ≡ length cs + 0 + 1 = omega arith in
    subst (Breaks false (34 ∷ (cs ++ ds)) rule) count (s.broken_text r h)

text_stops : (cs ms ds : List ℕ) (ending : Ending) → Chars cs ms → Stops ds ending →
    Explains false (34 ∷ (cs ++ ds)) (text_next (n.Bad TEXT_END 0) k.Text k.TextOpen (further (length cs) ending))
text_stops cs ms ds ending r (s.quote {ds = es}) = record {
  front = 34 ∷ (cs ++ 34 ∷ []);
  behind = es;
  whole = ap (λ y. 34 ∷ y) (sym (append_assoc cs (34 ∷ []) es));
  len = omega (arith, length-append cs (34 ∷ []));
  spelled = s.text r;
}
text_stops cs ms ds ending r (s.hole {ds = es}) = record {
  front = 34 ∷ (cs ++ 123 ∷ []);
  behind = es;
  whole = ap (λ y. 34 ∷ y) (sym (append_assoc cs (123 ∷ []) es));
  len = omega (arith, length-append cs (123 ∷ []));
  spelled = s.text_open r;
}
text_stops cs ms ds ending r s.brace = text_broken cs ms ds UNEXPECTED r s.brace
text_stops cs ms ds ending r (s.lone h) = text_broken cs ms ds UNEXPECTED r (s.lone h)
text_stops cs ms ds ending r (s.no_escape h) = text_broken cs ms ds ESCAPE r (s.no_escape h)
text_stops cs ms ds ending r s.file_end = s.unended_text r s.file_end
text_stops cs ms ds ending r s.line_end = s.unended_text r s.line_end
text_stops cs ms ds ending r s.return_end = s.unended_text r s.return_end

text_explained : (bs : List ℕ) → Explains false (34 ∷ bs) (text (34 ∷ bs))
text_explained bs =
    let p = text_parts bs in
    subst (λ x. Explains false (34 ∷ bs) (text_next (n.Bad TEXT_END 0) k.Text k.TextOpen x)) (sym p.is)
    (subst (λ x. Explains false (34 ∷ x) (text_next (n.Bad TEXT_END 0) k.Text k.TextOpen (further (length p.cs) p.ending))) (sym p.whole)
    (text_stops p.cs p.ms p.ds p.ending p.chars p.stops))

-- texts behind a hole
part_broken : (cs ms ds : List ℕ) (rule : Rule) → Chars cs ms → Stops ds (e.Broken rule 0) →
    Explains true (125 ∷ (cs ++ ds)) (text_next n.HoleEnd k.TextClose k.TextMid (further (length cs) (e.Broken rule 0)))
part_broken cs ms ds rule r h =
    let count : 1 + length cs ≡ length cs + 0 + 1 = omega arith in
    subst (Breaks true (125 ∷ (cs ++ ds)) rule) count (s.broken_part r h)

part_stops : (cs ms ds : List ℕ) (ending : Ending) → Chars cs ms → Stops ds ending →
    Explains true (125 ∷ (cs ++ ds)) (text_next n.HoleEnd k.TextClose k.TextMid (further (length cs) ending))
part_stops cs ms ds ending r (s.quote {ds = es}) = record {
  front = 125 ∷ (cs ++ 34 ∷ []);
  behind = es;
  whole = ap (λ y. 125 ∷ y) (sym (append_assoc cs (34 ∷ []) es));
  len = omega (arith, length-append cs (34 ∷ []));
  spelled = s.text_close r;
}
part_stops cs ms ds ending r (s.hole {ds = es}) = record {
  front = 125 ∷ (cs ++ 123 ∷ []);
  behind = es;
  whole = ap (λ y. 125 ∷ y) (sym (append_assoc cs (123 ∷ []) es));
  len = omega (arith, length-append cs (123 ∷ []));
  spelled = s.text_mid r;
}
part_stops cs ms ds ending r s.brace = part_broken cs ms ds UNEXPECTED r s.brace
part_stops cs ms ds ending r (s.lone h) = part_broken cs ms ds UNEXPECTED r (s.lone h)
part_stops cs ms ds ending r (s.no_escape h) = part_broken cs ms ds ESCAPE r (s.no_escape h)
part_stops cs ms ds ending r s.file_end = (refl, s.unended_part r s.file_end)
part_stops cs ms ds ending r s.line_end = (refl, s.unended_part r s.line_end)
part_stops cs ms ds ending r s.return_end = (refl, s.unended_part r s.return_end)

part_explained : (bs : List ℕ) → Explains true (125 ∷ bs) (text_on (125 ∷ bs))
part_explained bs =
    let p = text_parts bs in
    subst (λ x. Explains true (125 ∷ bs) (text_next n.HoleEnd k.TextClose k.TextMid x)) (sym p.is)
    (subst (λ x. Explains true (125 ∷ x) (text_next n.HoleEnd k.TextClose k.TextMid (further (length p.cs) p.ending))) (sym p.whole)
    (part_stops p.cs p.ms p.ds p.ending p.chars p.stops))

-- comments
-- a body has a first byte
front_at : (bs cs ds : List ℕ) → bs ≡ cs ++ ds → Body cs → is_at bs 0 62 ≡ false → is_at cs 0 62 ≡ false
front_at bs cs ds e s.ends h = refl
front_at bs cs ds e (s.nested r q) h = refl
front_at bs cs ds e (s.more {b = b} {c = c} {cs = xs} f g l r) h = subst (λ x. is_at x 0 62 ≡ false) e h

closing_explained : (bs : List ℕ) (x : Close) → closing 1 bs ≡ x → is_at bs 0 62 ≡ false → Explains false (60 ∷ 35 ∷ bs) (comment_next x)
closing_explained bs (close.Closed count) h g =
    let b = comment_body bs count h in
    record {
      front = 60 ∷ 35 ∷ b.front;
      behind = b.behind;
      whole = ap (λ y. 60 ∷ 35 ∷ y) b.whole;
      len = omega (arith, b.len);
      spelled = s.comment b.body (front_at bs b.front b.behind b.whole b.body g);
    }
closing_explained bs (close.Lone count) h g = s.lone_in_comment g (comment_lone bs count h)
closing_explained bs close.Never h g = s.unended_comment g (no_body bs (λ i e. cc)) (λ i m. let e = meets_lone m 0 in cc)

above_first : (bs : List ℕ) (v : Bool) → is_at bs 0 62 ≡ v →
    Explains false (60 ∷ 35 ∷ bs) (if v then n.Bad UNEXPECTED 0 else comment_next (closing 1 bs))
above_first [] true h = absurd (cc)
above_first (b ∷ bs) true h = subst (λ x. Breaks false (60 ∷ 35 ∷ x ∷ bs) UNEXPECTED 0) (sym (equal b 62 h)) s.no_comment
above_first bs false h = closing_explained bs (closing 1 bs) refl h

comment_explained : (bs : List ℕ) → Explains false (60 ∷ 35 ∷ bs) (comment (60 ∷ 35 ∷ bs))
comment_explained bs = above_first bs (is_at bs 0 62) refl

pub lone_shift : (cs ds : List ℕ) → is_lone_at (cs ++ ds) (length cs) ≡ is_lone_at ds 0
lone_shift cs ds =
    let here : slice_get (cs ++ ds) (length cs) ≡ slice_get ds 0 = ap (slice_get (cs ++ ds)) (sym (add-zero (length cs))) ∙
    get_behind cs ds 0 in
    ap (λ x. is_byte x 13 && not (is_at (cs ++ ds) (length cs + 1) 10)) here ∙ ap (λ x. is_byte (slice_get ds 0) 13 && not (is_byte x 10))
    (get_behind cs ds 1)

line_explained : (bs : List ℕ) → Explains false (35 ∷ bs) (line_comment (35 ∷ bs))
line_explained bs =
    let r = run_parts in_line bs in
    let count : run in_line (35 ∷ bs) ≡ length (35 ∷ r.front) = run_more in_line 35 bs refl ∙ ap suc r.count in
    let whole : 35 ∷ bs ≡ (35 ∷ r.front) ++ r.behind = ap (λ x. 35 ∷ x) r.whole in
    let one : is_lone_at (35 ∷ bs) (run in_line (35 ∷ bs)) ≡ is_lone_at ((35 ∷ r.front) ++ r.behind) (length (35 ∷ r.front)) =
    ap (is_lone_at (35 ∷ bs)) count ∙ ap (λ x. is_lone_at x (length (35 ∷ r.front))) whole in
    let here : is_lone_at (35 ∷ bs) (run in_line (35 ∷ bs)) ≡ is_lone_at r.behind 0 = one ∙ lone_shift (35 ∷ r.front) r.behind in
    let counted : 1 + length r.front ≡ run in_line (35 ∷ bs) = omega (arith, count) in
    if_explains false (35 ∷ bs) (is_lone_at (35 ∷ bs) (run in_line (35 ∷ bs))) _ _
    (λ t. subst (λ x. Breaks false x UNEXPECTED (run in_line (35 ∷ bs))) (sym whole)
    (subst (Breaks false ((35 ∷ r.front) ++ r.behind) UNEXPECTED) counted (s.lone_in_line r.front r.behind r.all (sym here ∙ t))))
    (λ t. record { front = 35 ∷ r.front; behind = r.behind; whole = whole; len = sym count; spelled = s.line_comment r.all })

return_explained : (bs : List ℕ) (v : Bool) → is_at bs 0 10 ≡ v → Explains false (13 ∷ bs) (if v then n.LineEnd 2 else n.Bad UNEXPECTED 0)
return_explained [] true h = absurd (cc)
return_explained (b ∷ bs) true h = record {
  front = 13 ∷ 10 ∷ [];
  behind = bs;
  whole = ap (λ x. 13 ∷ x ∷ bs) (equal b 10 h);
  len =
      refl;
  spelled = s.return_feed;
}
return_explained bs false h = s.lone_return (rw h refl)

feed_explained : (bs : List ℕ) → Explains false (10 ∷ bs) (n.LineEnd 1)
feed_explained bs = record { front = 10 ∷ []; behind = bs; whole = refl; len = refl; spelled = s.line_feed }

comment_at : (b : ℕ) (bs : List ℕ) → begins_comment (b ∷ bs) ≡ true → Explains false (b ∷ bs) (comment (b ∷ bs))
comment_at b [] h = let g : false ≡ true = (and_parts (b == 60) false h).1 in absurd (cc)
comment_at b (c ∷ bs) h =
    let g = and_parts (b == 60) (c == 35) h in
    subst (λ x. Explains false (x ∷ c ∷ bs) (comment (x ∷ c ∷ bs))) (sym (equal b 60 g.0))
    (subst (λ x. Explains false (60 ∷ x ∷ bs) (comment (60 ∷ x ∷ bs))) (sym (equal c 35 g.1)) (comment_explained bs))

plain_piece : (bs : List ℕ) → Explains false bs (next_plain bs)
plain_piece [] = (refl, refl)
plain_piece (b ∷ bs) =
    if_explains false (b ∷ bs) (b == 10) _ _
    (λ t. subst (λ x. Explains false (x ∷ bs) (n.LineEnd 1)) (sym (equal b 10 t)) (feed_explained bs)) (λ e1.
    if_explains false (b ∷ bs) (b == 13) _ _
    (λ t. subst (λ x. Explains false (x ∷ bs) (carriage_return bs)) (sym (equal b 13 t)) (return_explained bs (is_at bs 0 10) refl))
    (λ e2.
    if_explains false (b ∷ bs) (b == 35) _ _
    (λ t. subst (λ x. Explains false (x ∷ bs) (line_comment (x ∷ bs))) (sym (equal b 35 t)) (line_explained bs)) (λ e3.
    if_explains false (b ∷ bs) (begins_comment (b ∷ bs)) _ _ (λ t. comment_at b bs t) (λ e4.
    if_explains false (b ∷ bs) (b == 34) _ _
    (λ t. subst (λ x. Explains false (x ∷ bs) (text (x ∷ bs))) (sym (equal b 34 t)) (text_explained bs)) (λ e5.
    common_explained false b bs (record {
      text = e5;
      comment = e3;
      line_feed = e1;
      carriage_return = e2;
      no_open =
          λ e. absurd (cc);
      no_close = λ e. absurd (cc);
    }))))))

-- breaks_hole is a chain of six tests
hole_other : (b : ℕ) (bs : List ℕ) → (b == 125) ≡ false → breaks_hole (b ∷ bs) ≡ false → IsOther true b
hole_other b bs e h =
    let five = (or_parts _ _ h).0 in
    let four = (or_parts _ _ five).0 in
    let three = (or_parts _ _ four).0 in
    let two = (or_parts _ _ three).0 in
    let one = (or_parts _ _ two).0 in
    record {
      text = (or_parts _ _ four).1;
      comment = (or_parts _ _ three).1;
      line_feed = one;
      carriage_return = (or_parts _ _ two).1;
      no_open = λ x. (or_parts _ _ five).1;
      no_close = λ x. e;
    }

hole_piece : (bs : List ℕ) → Explains true bs (next_hole bs)
hole_piece [] = (refl, s.no_more)
hole_piece (b ∷ bs) =
    if_explains true (b ∷ bs) (b == 125) _ _
    (λ t. subst (λ x. Explains true (x ∷ bs) (text_on (x ∷ bs))) (sym (equal b 125 t)) (part_explained bs)) (λ e1.
    if_explains true (b ∷ bs) (is_lone_at (b ∷ bs) 0) _ _ (λ t. s.lone_return t) (λ e2.
    if_explains true (b ∷ bs) (breaks_hole (b ∷ bs)) _ _ (λ t. (refl, s.broken_hole e2 t))
    (λ e3. common_explained true b bs (hole_other b bs e1 e3))))

pub each_explained : EachExplained
each_explained false bs = plain_piece bs
each_explained true bs = hole_piece bs
