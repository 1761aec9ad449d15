-- Tests of bytes, runs of bytes, and tables.
use Rattle.std.proofs.Common.{◌≡◌, ℕ, suc, ◌≤◌, ◌==◌, Bool, true, false, List, [], ◌∷◌, ◌++◌, Option, Some, length, drop}
use Rattle.std.proofs.Common.{if◌then◌else◌, refl, sym, arith, subst}
use Rattle.std.specs.Prelude.{nat_eq, slice_get}
use Rattle.std.specs.Cmp.Lexicographic.{pointwise}
use Rattle.std.proofs.lemmas.List.Sums.{take_while-cons}
use Rattle.std.proofs.lemmas.Bool.{eqb-true, and_parts}
use Rattle.std.proofs.lemmas.Bool.Decides.{nat_tests}
use Rattle.verse_lex.specs.Bytes.{is_letter, is_digit, run}
use Rattle.verse_lex.specs.Words.{look_up}
use Rattle.verse_lex_laws.specs.Spelling.{all_pass}

pub equal : (b c : ℕ) → (b == c) ≡ true → b ≡ c
equal b c h = eqb-true b c h

pub other_byte : (p : ℕ → Bool) (b c : ℕ) → p b ≡ true → p c ≡ false → (b == c) ≡ false
other_byte p b c h g = by_test (b == c) refl
  where
    by_test : (v : Bool) → (b == c) ≡ v → (b == c) ≡ false
    by_test false e = e
    by_test true e = let same = equal b c e in let f : p c ≡ true = subst (λ x. p x ≡ true) same h in absurd (cc)

pub digit_no_letter : (b : ℕ) → is_digit b ≡ true → is_letter b ≡ false
digit_no_letter b h = grind (arith, nat_tests)

pub run_reach : (p : ℕ → Bool) (cs ds : List ℕ) → all_pass p cs ≡ true → length cs ≤ run p (cs ++ ds)
run_reach p [] ds h = omega arith
run_reach p (b ∷ cs) ds h =
    let f = and_parts (p b) (all_pass p cs) h in
    let e = run_reach p cs ds f.1 in
    rw (take_while-cons p b (cs ++ ds), f.0) (omega (arith, e))

-- a run ends where a byte does not pass
pub run_stops : (p : ℕ → Bool) (cs : List ℕ) (b : ℕ) (ds : List ℕ) → all_pass p cs ≡ true → p b ≡ false → run p (cs ++ b ∷ ds) ≡ length cs
run_stops p [] b ds h g = rw (take_while-cons p b ds, g) refl
run_stops p (c ∷ cs) b ds h g =
    let f = and_parts (p c) (all_pass p cs) h in
    let e = run_stops p cs b ds f.1 g in
    rw (take_while-cons p c (cs ++ b ∷ ds), f.0) (omega (arith, e))

pub at_end : (cs : List ℕ) (b : ℕ) (ds : List ℕ) → slice_get (cs ++ b ∷ ds) (length cs) ≡ Some b
at_end [] b ds = refl
at_end (c ∷ cs) b ds = at_end cs b ds

-- the byte behind that one
pub behind_end : (cs : List ℕ) (b c : ℕ) (ds : List ℕ) → slice_get (cs ++ b ∷ c ∷ ds) (suc (length cs)) ≡ Some c
behind_end [] b c ds = refl
behind_end (d ∷ cs) b c ds = behind_end cs b c ds

pub drop_end : (cs : List ℕ) (b : ℕ) (ds : List ℕ) → drop (suc (length cs)) (cs ++ b ∷ ds) ≡ ds
drop_end [] b ds = refl
drop_end (c ∷ cs) b ds = drop_end cs b ds

-- what is spelled as a row of a table says has what all rows have
abbrev pub AllRows : {A : Type 0} → (List ℕ → Type 0) → List (List ℕ × A) → Type 0
AllRows P [] = Unit {0}
AllRows P (row ∷ rows) = P row.0 × AllRows P rows

pub pointwise_equal : (xs ys : List ℕ) → pointwise nat_eq xs ys ≡ true → xs ≡ ys
pointwise_equal [] [] h = refl
pointwise_equal [] (y ∷ ys) h = absurd (cc)
pointwise_equal (x ∷ xs) [] h = absurd (cc)
pointwise_equal (x ∷ xs) (y ∷ ys) h =
    let f = and_parts (x == y) (pointwise nat_eq xs ys) h in
    let e = pointwise_equal xs ys f.1 in
    let g = equal x y f.0 in
    cc

row_case : {A : Type 0} (P : List ℕ → Type 0) (v : Bool) (x a : A) (more : Option A) (s row : List ℕ) →
    (v ≡ true → row ≡ s) → (more ≡ Some a → P s) → P row → (if v then Some x else more) ≡ Some a → P s
row_case P true x a more s row same behind p h = subst P (same refl) p
row_case P false x a more s row same behind p h = behind h

pub in_table : {A : Type 0} (P : List ℕ → Type 0) (rows : List (List ℕ × A)) (s : List ℕ) (a : A) → AllRows P rows →
    look_up rows s ≡ Some a → P s
in_table P [] s a all h = absurd (cc)
in_table P (row ∷ rows) s a all h =
    row_case P (pointwise nat_eq s row.0) row.1 a (look_up rows s) s row.0 (λ e. sym (pointwise_equal s row.0 e))
    (λ e. in_table P rows s a all.1 e) all.0 h
