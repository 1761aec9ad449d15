-- Steps of the readers.
use Rattle.std.proofs.Common.{◌≡◌, ℕ, zero, suc, ◌-◌, ◌<◌, ◌≤◌, List, [], ◌∷◌, length, Bool, true, false, Result, Ok, Err, refl, ap}
use Rattle.std.proofs.Common.{◌∙◌, arith}
use Rattle.std.specs.Prelude.{slice_get, cond, ◌==◌, Some, None}
use Rattle.std.proofs.Common.{ltb, leb, ◌&&◌}
use Rattle.std.proofs.lemmas.Bool.{lt-ltb, le-ltb, le-leb, and_right}
use Rattle.std.proofs.lemmas.Option.{slice_get_past}
use Rattle.verse_code.specs.declared.codes.Code.{Code}
use Rattle.verse_image.specs.declared.faults.Flaw.{Flaw}
use Rattle.verse_image.specs.declared.faults.ReadFault.{ReadFault}
use Rattle.verse_image.specs.declared.faults.ReadFault.TheVariants as faults
use Rattle.verse_image.specs.Reading.{◌>>=◌, Fails, Reader, flaw, number_at, within_at}
use Rattle.verse_sorts.specs.Sorts.{Sort, tuple}
use Rattle.verse_verify_kept.specs.Rules.{sorts}
use Rattle.verse_verify_faults.specs.Reading.{after, answers, list_at, plain_sorts, sort_with, sort_of_parts, sort_in, parent_from, marked}
use Rattle.verse_verify_faults.specs.Reading.{mark, whole, each_at, class_at, func_at, spots_at, notes_at}
use Rattle.verse_verify_faults.specs.Spots.{Table}
use Rattle.verse_verify_reader.specs.Wholes.{letter_at, behind_mark, tables_at}

-- a step that fails ends all
pub after_fails : {A B : Type 0} (e : ReadFault) (read : Result (A × List ℕ) Flaw) (go : A → Reader B) → Fails e read →
    Fails e (after read go)
after_fails faults.Memory read go h = tt
after_fails (faults.Bad f) read go h = rw h refl

-- ---- a number up to another

pub up_to : (end : ℕ) (bytes : List ℕ) (n : ℕ) (rest : List ℕ) → number_at bytes ≡ Ok (n, rest) → n ≤ end →
    within_at 0 (suc end) bytes ≡ Ok (n, rest)
unfolding within_at
up_to end bytes n rest h le =
    let one : leb 0 n ≡ true = le-leb 0 n (omega arith) in
    let two : ltb n (suc end) ≡ true = lt-ltb n (suc end) (omega (arith, le)) in
    rw (h, one, two) refl

pub past_end : (end : ℕ) (bytes : List ℕ) (n : ℕ) (rest : List ℕ) → number_at bytes ≡ Ok (n, rest) → end < n →
    within_at 0 (suc end) bytes ≡ Err (flaw 5 (length bytes))
unfolding within_at
past_end end bytes n rest h lt =
    let two : (leb 0 n && ltb n (suc end)) ≡ false = and_right _ _ (le-ltb n (suc end) (omega (arith, lt))) in
    rw (h, two) refl

pub no_number : (end : ℕ) (bytes : List ℕ) (e : ReadFault) → Fails e (number_at bytes) → Fails e (within_at 0 end bytes)
unfolding within_at
no_number end bytes faults.Memory h = tt
no_number end bytes (faults.Bad f) h = rw h refl

module _ (c : Code) where
  pub no_level : (levels : ℕ) (bytes : List ℕ) (left tag : ℕ) (rest : List ℕ) → left ≡ length bytes → levels ≡ 0 →
      within_at 0 18 bytes ≡ Ok (tag, rest) → sort_in c levels bytes ≡ Err (flaw 1 left)
  no_level levels bytes left tag rest d e h = rw (d, e, h) refl

  pub a_level : (levels : ℕ) (bytes : List ℕ) (tag : ℕ) (rest : List ℕ) → 0 < levels → within_at 0 18 bytes ≡ Ok (tag, rest) →
      sort_in c levels bytes ≡ sort_with c (slice_get (plain_sorts c) tag) tag (sort_in c (levels - 1)) rest
  a_level levels bytes tag rest lt h =
      let e : levels ≡ suc (levels - 1) = omega arith in
      ap (λ k. sort_in c k bytes) e ∙ rw h refl

  pub no_tag : (levels : ℕ) (bytes : List ℕ) (e : ReadFault) → Fails e (within_at 0 18 bytes) → Fails e (sort_in c levels bytes)
  no_tag zero bytes e h = after_fails e (within_at 0 18 bytes) (λ tag rest. Err (flaw 1 (length bytes))) h
  no_tag (suc levels) bytes e h =
      after_fails e (within_at 0 18 bytes) (λ tag rest. sort_with c (slice_get (plain_sorts c) tag) tag (sort_in c levels) rest) h

  -- the greatest tag
  pub of_tuple : (tag : ℕ) (one : Reader Sort) (bytes : List ℕ) → 17 ≤ tag →
      sort_with c (slice_get (plain_sorts c) tag) tag one bytes ≡ after (list_at one bytes) (λ xs. answers (tuple (sorts xs)))
  of_tuple tag one bytes le =
      let past : 9 ≤ tag = omega (arith, le) in
      let none : slice_get (plain_sorts c) tag ≡ None = slice_get_past (plain_sorts c) tag past in
      let e : tag - 9 ≡ suc (suc (suc (suc (suc (suc (suc (suc (tag - 17)))))))) = omega (arith, le) in
      ap (λ s. sort_with c s tag one bytes) none ∙ ap (λ n. sort_of_parts c n one bytes) e

  pub a_parent : (n : ℕ) → 0 < n → parent_from c n ≡ Some (n - 1)
  a_parent n lt = let e : n ≡ suc (n - 1) = omega arith in ap (parent_from c) e

  pub no_parent : (n : ℕ) → n ≡ 0 → parent_from c n ≡ None
  no_parent n e = ap (parent_from c) e

  one_letter : (m : ℕ) (ms : List ℕ) (left : ℕ) (bytes : List ℕ) → marked c (m ∷ ms) left bytes ≡
      (letter_at m left bytes >>= λ rest. marked c ms left rest)
  unfolding letter_at
  one_letter m ms left [] = refl
  one_letter m ms left (b ∷ bytes) = by_letter (b == m)
    where
      by_letter : (t : Bool) → cond t (marked c ms left bytes) (Err (flaw 1 left)) ≡
          (cond t (Ok bytes) (Err (flaw 1 left)) >>= λ rest. marked c ms left rest)
      by_letter true = refl
      by_letter false = refl

  -- the mark is read letter by letter
  pub by_letters : (left : ℕ) (bytes : List ℕ) → marked c (mark c) left bytes ≡ (behind_mark left bytes >>= λ rest. Ok ([], rest))
  by_letters left bytes = one_letter 86 (83 ∷ 78 ∷ 84 ∷ []) left bytes ∙ first (letter_at 86 left bytes)
    where
      last : (read : Result (List ℕ) Flaw) → (read >>= λ rest. marked c [] left rest) ≡ (read >>= λ rest. Ok ([], rest))
      last (Ok x) = refl
      last (Err f) = refl

      third : (read : Result (List ℕ) Flaw) → (read >>= λ rest. marked c (84 ∷ []) left rest) ≡
          ((read >>= letter_at 84 left) >>= λ rest. Ok ([], rest))
      third (Ok x) = one_letter 84 [] left x ∙ last (letter_at 84 left x)
      third (Err f) = refl

      second : (read : Result (List ℕ) Flaw) → (read >>= λ rest. marked c (78 ∷ 84 ∷ []) left rest) ≡
          ((read >>= letter_at 78 left >>= letter_at 84 left) >>= λ rest. Ok ([], rest))
      second (Ok x) = one_letter 78 (84 ∷ []) left x ∙ third (letter_at 78 left x)
      second (Err f) = refl

      first : (read : Result (List ℕ) Flaw) → (read >>= λ rest. marked c (83 ∷ 78 ∷ 84 ∷ []) left rest) ≡
          ((read >>= letter_at 83 left >>= letter_at 78 left >>= letter_at 84 left) >>= λ rest. Ok ([], rest))
      first (Ok x) = one_letter 83 (78 ∷ 84 ∷ []) left x ∙ second (letter_at 83 left x)
      first (Err f) = refl

  abbrev noted : Result (List ℕ × List ℕ) Flaw → Result Table Flaw
  noted read = whole c (after read (λ m rest. after (each_at c (class_at c) c.classes rest) (λ cs rest. after (each_at c (func_at c)
      c.functions rest) (λ fs rest. after (spots_at c c.ops rest) (λ ps. answers (record {
        classes = cs;
        functions = fs;
        spots = ps;
      }))))))

  by_mark : (read : Result (List ℕ) Flaw) → noted (read >>= λ rest. Ok ([], rest)) ≡ (read >>= tables_at c)
  by_mark (Ok x) = refl
  by_mark (Err f) = refl

  -- and behind it the rest
  pub behind : (bytes : List ℕ) → notes_at c bytes ≡ (behind_mark (length bytes) bytes >>= tables_at c)
  behind bytes = ap noted (by_letters (length bytes) bytes) ∙ by_mark (behind_mark (length bytes) bytes)

  pub no_mark : (bytes : List ℕ) (e : ReadFault) → Fails e (behind_mark (length bytes) bytes) → Fails e (notes_at c bytes)
  no_mark bytes faults.Memory h = tt
  no_mark bytes (faults.Bad f) h = behind bytes ∙ rw h refl

  pub a_mark : (bytes rest : List ℕ) → behind_mark (length bytes) bytes ≡ Ok rest → notes_at c bytes ≡ tables_at c rest
  a_mark bytes rest h = behind bytes ∙ rw h refl
