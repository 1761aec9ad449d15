-- What is said of a class, and all notes, from their parts.
use Rattle.std.proofs.Common.{◌≡◌, ℕ, suc, List, length, Ok, refl}
use Rattle.std.specs.Prelude.{Option}
use Rattle.verse_code.specs.declared.codes.Class.{Class}
use Rattle.verse_code.specs.declared.codes.Code.{Code}
use Rattle.verse_image.specs.Reading.{many_at, within_at}
use Rattle.verse_sorts.specs.Sorts.{Sort}
use Rattle.verse_verify_kept.specs.Notes.{ClassNote, FuncNote}
use Rattle.verse_verify_faults.specs.Spots.{Spot}
use Rattle.verse_verify_faults.specs.Reading.{each_at, class_at, func_at, spots_at, sort_at, parent_from, ends}
use Rattle.verse_verify_reader.specs.Wholes.{tables_at}

module _ (c : Code) where
  pub a_class : (k : Class) (bytes : List ℕ) (n : ℕ) (rest : List ℕ) (xs : List Sort) (more : List ℕ) (p : Option ℕ) →
      within_at 0 (suc (length c.classes)) bytes ≡ Ok (n, rest) → many_at (sort_at c) k.slots rest ≡ Ok (xs, more) →
      p ≡ parent_from c n → class_at c k bytes ≡ Ok (record { parent = p; slots = xs }, more)
  a_class k bytes n rest xs more p h i e = rw (h, i, e) refl

  pub a_table : (bytes one two three : List ℕ) (cs : List ClassNote) (fs : List FuncNote) (ps : List (Option Spot)) →
      each_at c (class_at c) c.classes bytes ≡ Ok (cs, one) → each_at c (func_at c) c.functions one ≡ Ok (fs, two) →
      spots_at c c.ops two ≡ Ok (ps, three) → tables_at c bytes ≡ ends c (record { classes = cs; functions = fs; spots = ps }) three
  a_table bytes one two three cs fs ps h i j = rw (h, i, j) refl
