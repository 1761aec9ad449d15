-- Sorts that are written are read.
use Rattle.std.proofs.Common.{◌≡◌, ℕ, zero, suc, List, [], ◌∷◌, ◌++◌, length, Ok, refl, ap, append_assoc, arith, ◌≤◌}
use Rattle.verse_code.specs.declared.codes.Code.{Code}
use Rattle.verse_code.specs.Validity.{Valid}
use Rattle.verse_image.specs.Reading.{many_at, within_at}
use Rattle.verse_sorts.specs.Sorts as s
use Rattle.verse_sorts.specs.Sorts.{Sort, Sorts}
use Rattle.verse_verify_kept.specs.Rules as rules
use Rattle.verse_verify_faults.specs.Reading.{sort_in}
use Rattle.verse_verify_bytes.specs.Bytes.{number, each, counted, how_many, sort, sorts}
use Rattle.verse_verify_bytes.specs.Suits.{IsSort, AreSorts}
use Rattle.verse_verify_bytes.proofs.Numbers.{number_back, below_back, byte_back}
use Rattle.verse_verify_bytes.proofs.Lists.{Back}

abbrev list_of : Sorts → List Sort
list_of s.no_sorts = []
list_of (s.more_sorts a xs) = a ∷ list_of xs

same_sorts : (xs : Sorts) → rules.sorts (list_of xs) ≡ xs
same_sorts s.no_sorts = refl
same_sorts (s.more_sorts a xs) = ap (s.more_sorts a) (same_sorts xs)

long : (xs : List Sort) → how_many (rules.sorts xs) ≡ length xs
long [] = refl
long (x ∷ xs) = ap suc (long xs)

each_of_them : (xs : List Sort) → sorts (rules.sorts xs) ≡ each sort xs
each_of_them [] = refl
each_of_them (x ∷ xs) = ap (λ (w : List ℕ). sort x ++ w) (each_of_them xs)

-- the parts of a tuple are a list
pub parts_counted : (xs : List Sort) → number (how_many (rules.sorts xs)) ++ sorts (rules.sorts xs) ≡ counted sort xs
parts_counted xs = rw (long xs, each_of_them xs) refl

module _ (c : Code) (valid : Valid c) where
  tag_back : (tag : ℕ) (rest : List ℕ) → suc tag ≤ 18 → within_at 0 18 (tag ∷ rest) ≡ Ok (tag, rest)
  tag_back tag rest lt = byte_back 18 tag rest (omega (arith, lt)) (omega (arith, lt))

  mutual
    unfolding many_at

    pub sort_back : (n : ℕ) (a : Sort) → IsSort c n a → Back (sort_in c n) sort a
    sort_back zero a h rest = elim h [ ]
    sort_back (suc n) s.none h rest = rw (tag_back 0 rest (omega arith)) refl
    sort_back (suc n) s.any h rest = rw (tag_back 1 rest (omega arith)) refl
    sort_back (suc n) s.never h rest = rw (tag_back 2 rest (omega arith)) refl
    sort_back (suc n) s.unit h rest = rw (tag_back 3 rest (omega arith)) refl
    sort_back (suc n) s.nil h rest = rw (tag_back 4 rest (omega arith)) refl
    sort_back (suc n) s.int h rest = rw (tag_back 5 rest (omega arith)) refl
    sort_back (suc n) s.logic h rest = rw (tag_back 6 rest (omega arith)) refl
    sort_back (suc n) s.char h rest = rw (tag_back 7 rest (omega arith)) refl
    sort_back (suc n) s.span h rest = rw (tag_back 8 rest (omega arith)) refl
    sort_back (suc n) (s.enum e) h rest = rw (tag_back 9 (number e ++ rest) (omega arith), number_back e rest h) refl
    sort_back (suc n) (s.obj k) h rest =
        rw (tag_back 10 (number k ++ rest) (omega arith), below_back _ k rest (omega (arith, h, valid.counts.classes)) h) refl
    sort_back (suc n) (s.var a) h rest = rw (tag_back 11 (sort a ++ rest) (omega arith), sort_back n a h rest) refl
    sort_back (suc n) (s.event a) h rest = rw (tag_back 12 (sort a ++ rest) (omega arith), sort_back n a h rest) refl
    sort_back (suc n) (s.task a) h rest = rw (tag_back 13 (sort a ++ rest) (omega arith), sort_back n a h rest) refl
    sort_back (suc n) (s.opt a) h rest = rw (tag_back 14 (sort a ++ rest) (omega arith), sort_back n a h rest) refl
    sort_back (suc n) (s.list a) h rest = rw (tag_back 15 (sort a ++ rest) (omega arith), sort_back n a h rest) refl
    sort_back (suc n) (s.map k a) h rest =
        rw (
          tag_back 16 ((sort k ++ sort a) ++ rest) (omega arith),
          append_assoc (sort k) (sort a) rest,
          sort_back n k h.0 (sort a ++ rest),
          sort_back n a h.1 rest,
        ) refl
    sort_back (suc n) (s.tuple xs) h rest =
        rw (
          tag_back 17 ((number (how_many xs) ++ sorts xs) ++ rest) (omega arith),
          append_assoc (number (how_many xs)) (sorts xs) rest,
          number_back (how_many xs) (sorts xs ++ rest) h.0,
          sorts_back n xs h.1 rest,
          same_sorts xs,
        ) refl

    sorts_back : (n : ℕ) (xs : Sorts) → AreSorts c n xs → (rest : List ℕ) →
        many_at (sort_in c n) (how_many xs) (sorts xs ++ rest) ≡ Ok (list_of xs, rest)
    sorts_back n s.no_sorts h rest = refl
    sorts_back n (s.more_sorts a xs) h rest =
        rw (append_assoc (sort a) (sorts xs) rest, sort_back n a h.0 (sorts xs ++ rest), sorts_back n xs h.1 rest) refl
