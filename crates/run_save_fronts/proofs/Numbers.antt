-- Numbers, choices and lists of a front.
use Rattle.std.proofs.Common.{◌≡◌, ℕ, zero, suc, ◌+◌, ◌-◌, ◌*◌, ◌≤◌, Bool, false, true, ltb, leb, eqb, ◌&&◌, inl, inr, List, [], ◌∷◌, ◌++◌}
use Rattle.std.proofs.Common.{length, take, drop, if◌then◌else◌, Option, Some, None, slice_get, Result, Ok, Err, refl, arith}
use Rattle.std.proofs.Common.{length-append, length-drop}
use Rattle.std.proofs.lemmas.Bool.{cases_lt, lt-ltb, le-ltb}
use Rattle.std.proofs.lemmas.List.{take-append-le, drop-append-le}
use Rattle.verse_image.specs.declared.faults.Flaw.{Flaw}
use Rattle.verse_image.specs.Reading.{Reader, flaw, digits_at, signed_digits_at, seven_bits, integer_at}
use Rattle.run_save_format.specs.Values.{wide_at, number_in, flag_at, small_at, small_where, optional_at, chosen, choice_at, each_at}
use Rattle.run_save_format.specs.Reading.{at_most, many_at, maybe_at}
use Rattle.run_save_fronts.proofs.Staying.{Place, at_first, Stays, reads, ends, fails, stays_then, stays_if}
use Rattle.run_save_fronts.proofs.Staying.{Both, Local, HasByte, first_then}

-- ---- where no byte is there

pub wide_first : HasByte wide_at
unfolding wide_at digits_at
wide_first = record { none = refl }

pub in_first : (rule least greatest : ℕ) → HasByte (number_in rule least greatest)
unfolding number_in wide_at digits_at
in_first rule least greatest = record { none = refl }

pub optional_first : HasByte optional_at
unfolding optional_at number_in wide_at digits_at
optional_first = record { none = refl }

pub choice_first : {A : Type 0} (forms : List A) → HasByte (choice_at forms)
unfolding choice_at wide_at digits_at
choice_first forms = record { none = refl }

-- ---- states

-- with a state that goes from one to the next, of which K holds, and which is another where all are read
abbrev pub FewWith : {A S : Type 0} → ℕ → (S → Type 0) → (A × S) × List ℕ → Type 0
FewWith most K x = K x.0.1 × (length x.1 ≤ most)

abbrev pub with_other : {A S : Type 0} → List ℕ → (S → S) → (A × S) × List ℕ → Result ((A × S) × List ℕ) Flaw
with_other more other x = Ok ((x.0.0, other x.0.1), x.1 ++ more)

abbrev pub BothWith : {A S : Type 0} → List ℕ → ℕ → (S → Type 0) → (S → S) → Reader (A × S) → Reader (A × S) → Type 0
BothWith more most K other one all = (bytes : List ℕ) → length bytes ≤ most →
    Stays more most (FewWith most K) (with_other more other) (one bytes) (all (bytes ++ more))

-- ---- a front

module _ {more : List ℕ} {most : ℕ} where
  -- ---- digits

  digits_stay : (longest end : ℕ) {left all : ℕ} → Place more most left all →
      Both more most (digits_at longest end left) (digits_at longest end all)
  unfolding digits_at
  digits_stay zero end at bytes few = fails at
  digits_stay (suc longest) end at [] few = ends
  digits_stay (suc longest) end at (b ∷ rest) few =
      let less : length rest ≤ most = omega arith in
      stays_if (ltb b 128) (reads less)
      (stays_then _ _ (digits_stay longest end at rest less)
      (λ high less. stays_if (ltb 0 high.0 && ltb (b - 128 + 128 * high.0) end) (reads less) (fails at)))

  signed_stay : (longest end : ℕ) {left all : ℕ} → Place more most left all →
      Both more most (signed_digits_at longest end left) (signed_digits_at longest end all)
  unfolding signed_digits_at
  signed_stay zero end at bytes few = fails at
  signed_stay (suc longest) end at [] few = ends
  signed_stay (suc longest) end at (b ∷ rest) few =
      let less : length rest ≤ most = omega arith in
      stays_if (ltb b 64) (reads less)
      (stays_if (ltb b 128) (reads less)
      (stays_then _ _ (signed_stay longest end at rest less)
      (λ high less. (let size = high.0.1 * 128 + seven_bits high.0.0 (b - 128) in
      stays_if (leb 64 size && ltb size end) (reads less) (fails at)))))

  -- ---- numbers

  pub wide_stays : Local more most wide_at
  unfolding wide_at digits_at
  wide_stays [] few = ends
  wide_stays (b ∷ rest) few =
      digits_stay 10 18446744073709551616 (at_first (b ∷ rest) (omega arith) few) (b ∷ rest) few

  pub integer_stays : Local more most integer_at
  unfolding integer_at signed_digits_at
  integer_stays [] few = ends
  integer_stays (b ∷ rest) few =
      stays_then _ _ (signed_stay 10 9223372036854775808 (at_first (b ∷ rest) (omega arith) few) (b ∷ rest) few)
      (λ n less. reads less)

  pub in_stays : (rule least greatest : ℕ) → Local more most (number_in rule least greatest)
  unfolding number_in
  in_stays rule least greatest bytes few =
      first_then _ _ wide_first bytes few (wide_stays bytes few)
      (λ n at less. stays_if (leb least n.0 && leb n.0 greatest) (reads less) (fails at))

  pub most_stays : (greatest : ℕ) → Local more most (at_most greatest)
  most_stays greatest = in_stays 5 0 greatest

  pub small_stays : Local more most small_at
  small_stays = in_stays 4 0 4294967295

  pub flag_stays : Local more most flag_at
  flag_stays = in_stays 4 0 1

  pub where_stays : (test : ℕ → Bool) → Local more most (small_where test)
  unfolding small_where
  where_stays test bytes few =
      first_then _ _ (in_first 4 0 4294967295) bytes few (small_stays bytes few) (λ n at less. stays_if (test n.0) (reads less) (fails at))

  pub optional_stays : Local more most optional_at
  unfolding optional_at
  optional_stays bytes few = stays_then _ _ (in_stays 4 0 4294967296 bytes few) (λ n less. reads less)

  -- ---- forms

  chosen_stays : {A : Type 0} {left all : ℕ} (o : Option A) → Place more most left all →
      Stays more most (λ (x : A). Unit {0}) (λ (x : A). Ok x) (chosen left o) (chosen all o)
  chosen_stays None at = fails at
  chosen_stays (Some x) at = reads tt

  pub choice_stays : {A : Type 0} (forms : List A) → Local more most (choice_at forms)
  unfolding choice_at
  choice_stays forms bytes few =
      first_then _ _ wide_first bytes few (wide_stays bytes few)
      (λ n at less. stays_then _ _ (chosen_stays (slice_get forms n.0) at) (λ form free. reads less))

  -- ---- so many

  pub each_with : {A S : Type 0} (K : S → Type 0) (other : S → S) (one all : S → Reader (A × S)) →
      ((s : S) → K s → BothWith more most K other (one s) (all (other s))) → (n : ℕ) (s : S) → K s →
      BothWith more most K other (each_at one n s) (each_at all n (other s))
  unfolding each_at
  each_with K other one all h zero s k bytes few = reads (k, few)
  each_with K other one all h (suc n) s k bytes few =
      stays_then _ _ (h s k bytes few)
      (λ first p. stays_then _ _ (each_with K other one all h n first.0.1 p.0 first.1 p.1) (λ others q. reads q))

  pub each_stays : {A S : Type 0} (one all : S → Reader (A × S)) → ((s : S) → Both more most (one s) (all s)) → (n : ℕ) (s : S) →
      Both more most (each_at one n s) (each_at all n s)
  unfolding each_at
  each_stays one all h zero s bytes few = reads few
  each_stays one all h (suc n) s bytes few =
      stays_then _ _ (h s bytes few)
      (λ first less. stays_then _ _ (each_stays one all h n first.0.1 first.1 less) (λ others less. reads less))

  pub many_stays : {A : Type 0} (one : Reader A) → Local more most one → (n : ℕ) → Local more most (many_at one n)
  unfolding many_at
  many_stays one h zero bytes few = reads few
  many_stays one h (suc n) bytes few =
      stays_then _ _ (h bytes few) (λ first less. stays_then _ _ (many_stays one h n first.1 less) (λ others less. reads less))

  pub maybe_stays : {A : Type 0} (one : Reader A) → Local more most one → Local more most (maybe_at one)
  unfolding maybe_at
  maybe_stays one h bytes few =
      stays_then _ _ (flag_stays bytes few)
      (λ n less. stays_if (eqb n.0 0) (reads less) (stays_then _ _ (h n.1 less) (λ x less. reads less)))

  -- ---- so many bytes

  pub piece_stays : {A B : Type 0} {P : A → Type 0} {h : A → Result B Flaw} (n : ℕ) (rest : List ℕ) (f : List ℕ → List ℕ → Result A Flaw)
      (g : List ℕ → List ℕ → Result B Flaw) →
      ((text behind : List ℕ) → length behind ≤ length rest → Stays more most P h (f text behind) (g text (behind ++ more))) →
      Stays more most P h (if ltb (length rest) n then Err (flaw 3 0) else f (take n rest) (drop n rest))
      (if ltb (length (rest ++ more)) n then Err (flaw 3 0) else g (take n (rest ++ more)) (drop n (rest ++ more)))
  piece_stays n rest f g q =
      elim (cases_lt (length rest) n) [
        | inl less ↦ let t : ltb (length rest) n ≡ true = lt-ltb _ _ less in rw t ends
        | inr enough ↦
            let t : ltb (length rest) n ≡ false = le-ltb _ _ enough in
            let u : ltb (length (rest ++ more)) n ≡ false = le-ltb _ _ (omega (arith, length-append rest more)) in
            rw (t, u, take-append-le n rest more enough, drop-append-le n rest more enough)
            (q (take n rest) (drop n rest) (omega (arith, length-drop n rest)))
      ]
