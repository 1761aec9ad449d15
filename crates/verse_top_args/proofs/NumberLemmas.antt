-- Numbers and lists of ints, as texts: each text has one reading.
use Rattle.std.proofs.Common.{◌≡◌, ◌≢◌, ℕ, suc, ◌<◌, ◌≤◌, ◌^◌, ◌↔◌, ℤ, pos, negsuc, List, [], ◌∷◌, ◌++◌, length, get_or, refl, sym, ◌∙◌, ap}
use Rattle.std.proofs.Common.{subst, arith, Result, Ok, FitsSigned, decimal, rules, Option, Some, None, MatchOption, IsTrue, is_some, true}
use Rattle.std.proofs.Common.{false, append_assoc}
use Rattle.std.specs.Fmt.{signed_decimal}
use Rattle.std.specs.Int.{w64}
use Rattle.std.specs.Str.Parse.{AllDigits, digits_value, ParsesUnsigned, ParsesSigned}
use Rattle.std.proofs.lemmas.Fmt.{parse-decimal, parse-signed_decimal, decimal_injective, signed_decimal_injective, digits_decimal}
use Rattle.std.proofs.lemmas.Str.Parse.{IsNumeralModel, numerals_by_value, tells_digits, not_in_digits}
use Rattle.std.proofs.lemmas.Str.Pattern.{IsSplitOnceResult, split_parts}
use lib.Signed.{mag}
use denote.Ref.{Bor}
use Rattle.verse_top_args.specs.Words.{IsNumber, IsInt, IsIntList, last, more}

-- a word that spells a number reads as that number
pub number_reads : {E : Type 0} (most : ℕ) (word : List ℕ) (r : Result ℕ E) → most < 2 ^ 64 → ParsesUnsigned 64 10 word r → (n : ℕ) →
    IsNumber most word n → r ≡ Ok n
number_reads most word r small h n s = let low : n < 2 ^ 64 = omega arith in parse-decimal 64 n word r low low s.spelled h

pub number_once : (most : ℕ) (word : List ℕ) (m n : ℕ) → most < 2 ^ 64 → IsNumber most word m → IsNumber most word n → m ≡ n
number_once most word m n small s t = decimal_injective m n (omega arith) (omega arith) (sym s.spelled ∙ t.spelled)

mag_fits : (n : ℤ) → FitsSigned w64 n → mag n < 2 ^ 63
mag_fits n h = search rules

pub int_reads : {E : Type 0} (word : List ℕ) (r : Result ℤ E) → ParsesSigned w64 10 word r → (n : ℤ) → IsInt word n → r ≡ Ok n
int_reads word r h n s = parse-signed_decimal w64 n word r s.within (mag_fits n s.within) s.spelled h

pub int_once : (word : List ℕ) (m n : ℤ) → IsInt word m → IsInt word n → m ≡ n
int_once word m n s t = signed_decimal_injective m n (mag_fits m s.within) (mag_fits n t.within) (sym s.spelled ∙ t.spelled)

-- no comma is in the text
abbrev pub NoComma : List ℕ → Type 0
NoComma [] = Unit {0}
NoComma (b ∷ bs) = (b ≢ 44) × NoComma bs

pub no_comma_by_index : (bs : List ℕ) → ((i : ℕ) → i < length bs → get_or bs i 0 ≢ 44) → NoComma bs
no_comma_by_index [] h = tt
no_comma_by_index (b ∷ bs) h = (h 0 (omega arith), no_comma_by_index bs (λ i l. h (suc i) (omega arith)))

digits : IsNumeralModel (AllDigits 10) (digits_value 10)
digits = numerals_by_value _ tells_digits

no_comma_decimal : (n : ℕ) → n < 2 ^ 64 → NoComma (decimal n)
no_comma_decimal n h = no_comma_by_index (decimal n) (not_in_digits digits (decimal n) 44 (digits_decimal digits n h) (λ r. omega arith))

no_comma_signed : (n : ℤ) → mag n < 2 ^ 63 → NoComma (signed_decimal n)
no_comma_signed (pos n) h = no_comma_decimal n (omega arith)
no_comma_signed (negsuc n) h = (omega arith, no_comma_decimal (suc n) (omega arith))

pub no_comma_int : (word : List ℕ) (n : ℤ) → IsInt word n → NoComma word
no_comma_int word n s = subst NoComma (sym s.spelled) (no_comma_signed n (mag_fits n s.within))

no_cut : (word first rest : List ℕ) → NoComma word → word ≡ first ++ 44 ∷ rest → ⊥
no_cut [] [] rest p e = cc
no_cut [] (u ∷ us) rest p e = cc
no_cut (b ∷ bs) [] rest p e = p.0 cc
no_cut (b ∷ bs) (u ∷ us) rest p e = no_cut bs us rest p.1 cc

-- the first comma cuts a text in one way
cut_once : (first front rest behind : List ℕ) → NoComma first → NoComma front → first ++ 44 ∷ rest ≡ front ++ 44 ∷ behind →
    (first ≡ front) × (rest ≡ behind)
cut_once [] [] rest behind p q e = (refl, cc)
cut_once [] (u ∷ us) rest behind p q e = absurd (q.0 cc)
cut_once (b ∷ bs) [] rest behind p q e = absurd (p.0 cc)
cut_once (b ∷ bs) (u ∷ us) rest behind p q e = let r : (bs ≡ us) × (rest ≡ behind) = cut_once bs us rest behind p.1 q.1 cc in (cc, r.1)

pub record Alone (word : List ℕ) (ns : List ℤ) : Type 0 where
  pub int : ℤ
  pub spelled : IsInt word int
  pub only : ns ≡ int ∷ []

pub record Cut (first rest : List ℕ) (ns : List ℤ) : Type 0 where
  pub int : ℤ
  pub ints : List ℤ
  pub spelled : IsInt first int
  pub listed : IsIntList rest ints
  pub whole : ns ≡ int ∷ ints

pub list_alone : {word : List ℕ} {ns : List ℤ} → IsIntList word ns → NoComma word → Alone word ns
list_alone (last {n} s) p = record { int = n; spelled = s; only = refl }
list_alone (more {n} {ns} {first} {rest} s l) p = absurd (no_cut (first ++ 44 ∷ rest) first rest p refl)

pub list_cut : {word : List ℕ} {ns : List ℤ} → IsIntList word ns → (first rest : List ℕ) → word ≡ first ++ 44 ∷ rest → NoComma first →
    Cut first rest ns
list_cut (last {n} {word} s) first rest e p = absurd (no_cut word first rest (no_comma_int word n s) e)
list_cut (more {n = n} {ns = ns} {first = front} {rest = behind} s l) first rest e p =
    let same : (front ≡ first) × (behind ≡ rest) = cut_once front first behind rest (no_comma_int front n s) p e in
    record { int = n; ints = ns; spelled = subst (λ w. IsInt w n) same.0 s; listed = subst (λ w. IsIntList w ns) same.1 l; whole = refl }

pub list_once : {word : List ℕ} {ns ms : List ℤ} → IsIntList word ns → IsIntList word ms → ns ≡ ms
list_once (last {n} {word} s) m =
    let other = list_alone m (no_comma_int word n s) in
    let same : n ≡ other.int = int_once word n other.int s other.spelled in
    ap (λ k. k ∷ []) same ∙ sym other.only
list_once (more {n} {ns} {first} {rest} s l) m =
    let other = list_cut m first rest refl (no_comma_int first n s) in
    let same : n ≡ other.int = int_once first n other.int s other.spelled in
    let ints : ns ≡ other.ints = list_once l other.listed in
    ap (λ k. k ∷ ns) same ∙ ap (λ ks. other.int ∷ ks) ints ∙ sym other.whole

parted : (word : List ℕ) (r : Option (Bor (List ℕ) × Bor (List ℕ))) →
    MatchOption r ((i : ℕ) → i < length word → get_or word i 0 ≢ 44) (λ x. (word ≡ x.0.now ++ 44 ∷ x.1.now) ×
    ((i : ℕ) → i < length x.0.now → get_or x.0.now i 0 ≢ 44)) →
    MatchOption r (NoComma word) (λ x. (word ≡ x.0.now ++ 44 ∷ x.1.now) × NoComma x.0.now)
parted word None h = no_comma_by_index word h
parted word (Some x) h = (h.0, no_comma_by_index x.0.now h.1)

-- what `split_once` says of the first comma
pub cut_at : (word : List ℕ) (r : Option (Bor (List ℕ) × Bor (List ℕ))) → IsSplitOnceResult 44 word r →
    MatchOption r (NoComma word) (λ x. (word ≡ x.0.now ++ 44 ∷ x.1.now) × NoComma x.0.now)
cut_at word r h = parted word r (split_parts 44 word r h (omega arith))

-- the word lists ints, at most this many
abbrev pub Lists : ℕ → List ℕ → Type 0
Lists most word = (ns : List ℤ) × IsIntList word ns × (length ns ≤ most)

lists_first : (most less : ℕ) → most ≡ suc less → (word first rest : List ℕ) → word ≡ first ++ 44 ∷ rest → NoComma first → (n : ℤ) →
    IsInt first n → Lists most word ↔ Lists less rest
lists_first most less e word first rest split p n s = (
  λ (f : Lists most word). (
      let c = list_cut f.1 first rest split p in
      let count : length f.0 ≡ suc (length c.ints) = ap length c.whole in
      let few = f.2 in
      (c.ints, c.listed, omega arith)),
  λ (f : Lists less rest). (
      let few = f.2 in
      (n ∷ f.0, subst (λ w. IsIntList w (n ∷ f.0)) (sym split) (more s f.1), omega arith)),
)

-- a turn of the loop: the first int is taken
pub lists_on : (most less : ℕ) → most ≡ suc less → (whole word first rest : List ℕ) → word ≡ first ++ 44 ∷ rest → NoComma first → (n : ℤ) →
    IsInt first n → Lists most word ↔ Lists 1000 whole → Lists less rest ↔ Lists 1000 whole
lists_on most less e whole word first rest split p n s same = let on = lists_first most less e word first rest split p n s in
    (λ (f : Lists less rest). same.0 (on.1 f), λ (f : Lists 1000 whole). on.0 (same.1 f))

pub lists_stop : (most : ℕ) (whole word first rest : List ℕ) → word ≡ first ++ 44 ∷ rest → NoComma first → ((n : ℤ) → ¬ (IsInt first n)) →
    Lists most word ↔ Lists 1000 whole → ¬ (Lists 1000 whole)
lists_stop most whole word first rest split p none same f = let g = same.1 f in let c = list_cut g.1 first rest split p in
    none c.int c.spelled

-- the last int, behind which is no comma
pub lists_end : (most : ℕ) (whole word : List ℕ) (r : Option ℤ) → 1 ≤ most → NoComma word →
    MatchOption r ((n : ℤ) → ¬ (IsInt word n)) (λ n. IsInt word n) → Lists most word ↔ Lists 1000 whole →
    IsTrue (is_some r) ↔ Lists 1000 whole
lists_end most whole word None low p h same =
    (λ t. cc, λ (f : Lists 1000 whole). (let g = same.1 f in let a = list_alone g.1 p in absurd (h a.int a.spelled)))
lists_end most whole word (Some n) low p h same = (λ t. same.0 (n ∷ [], last h, omega arith), λ f. refl)

pub none_read : (word : List ℕ) (r : Option ℤ) → MatchOption r ((n : ℤ) → ¬ (IsInt word n)) (λ n. IsInt word n) → is_some r ≡ false →
    (n : ℤ) → ¬ (IsInt word n)
none_read word None h e = h
none_read word (Some n) h e = absurd (cc)

pub one_read : (word : List ℕ) (r : Option ℤ) → MatchOption r ((n : ℤ) → ¬ (IsInt word n)) (λ n. IsInt word n) → is_some r ≡ true →
    (n : ℤ) × IsInt word n
one_read word None h e = absurd (cc)
one_read word (Some n) h e = (n, h)

-- what is left lists the ints that are missing
abbrev pub Missing : List ℕ → List ℤ → List ℕ → Type 0
Missing whole before rest = (ns : List ℤ) × IsIntList rest ns × IsIntList whole (before ++ ns)

pub missing_first : (whole word first rest : List ℕ) (before : List ℤ) → word ≡ first ++ 44 ∷ rest → NoComma first →
    Missing whole before word → (n : ℤ) × IsInt first n
missing_first whole word first rest before split p m = let c = list_cut m.1 first rest split p in (c.int, c.spelled)

pub missing_on : (whole word first rest : List ℕ) (before now : List ℤ) (n : ℤ) → word ≡ first ++ 44 ∷ rest → NoComma first →
    IsInt first n → now ≡ before ++ n ∷ [] → Missing whole before word → Missing whole now rest
missing_on whole word first rest before now n split p s e m =
    let c = list_cut m.1 first rest split p in
    let same : c.int ≡ n = int_once first c.int n c.spelled s in
    let all : before ++ m.0 ≡ now ++ c.ints = ap (λ ks. before ++ ks) (c.whole ∙ ap (λ k. k ∷ c.ints) same) ∙
    sym (append_assoc before (n ∷ []) c.ints) ∙ ap (λ ks. ks ++ c.ints) (sym e) in
    (c.ints, c.listed, subst (λ ks. IsIntList whole ks) all m.2)

pub missing_last : (whole word : List ℕ) (before : List ℤ) → NoComma word → Missing whole before word → (n : ℤ) × IsInt word n
missing_last whole word before p m = let a = list_alone m.1 p in (a.int, a.spelled)

pub missing_end : (whole word : List ℕ) (before now : List ℤ) (n : ℤ) → NoComma word → IsInt word n → now ≡ before ++ n ∷ [] →
    Missing whole before word → IsIntList whole now
missing_end whole word before now n p s e m =
    let a = list_alone m.1 p in
    let same : a.int ≡ n = int_once word a.int n a.spelled s in
    let all : before ++ m.0 ≡ now = ap (λ ks. before ++ ks) (a.only ∙ ap (λ k. k ∷ []) same) ∙ sym e in
    subst (λ ks. IsIntList whole ks) all m.2
