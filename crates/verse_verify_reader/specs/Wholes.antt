-- The parts of notes: their mark, letter by letter, a state outside of deferred blocks, and all
-- that stands behind the mark.
use Rattle.std.specs.Prelude.{ℕ, ◌==◌, List, [], ◌∷◌, reverse, cond, Option, None, Result, Ok, Err}
use Rattle.verse_code.specs.declared.codes.Code.{Code}
use Rattle.verse_image.specs.declared.faults.Flaw.{Flaw}
use Rattle.verse_image.specs.Reading.{◌>>=◌, flaw}
use Rattle.verse_sorts.specs.Sorts.{Sort}
use Rattle.verse_verify_faults.specs.Spots.{Mark, Spot, Table}
use Rattle.verse_verify_faults.specs.Reading.{after, answers, class_at, each_at, func_at, spots_at}
use Rattle.verse_verify_faults.specs.Reading.{whole}

-- the bytes behind a letter of the mark; left is how many there are from the mark on
unfoldable pub letter_at : (letter left : ℕ) → List ℕ → Result (List ℕ) Flaw
letter_at letter left [] = Err (flaw 1 0)
letter_at letter left (b ∷ bytes) = cond (b == letter) (Ok bytes) (Err (flaw 1 left))

-- the bytes behind VSNT
abbrev pub behind_mark : (left : ℕ) → List ℕ → Result (List ℕ) Flaw
behind_mark left bytes = letter_at 86 left bytes >>= letter_at 83 left >>= letter_at 78 left >>=
    letter_at 84 left

-- the lists of operands and of Trys as they are read, the top last
abbrev pub bare_spot : ℕ → Option Sort → (locals stack : List Sort) → List Mark → Spot
bare_spot f arm ls st ms = record {
  func = f;
  arm = arm;
  locals = ls;
  stack = reverse st;
  tries = reverse ms;
  block = None;
  outer = [];
  under = 0;
  defers = [];
}

-- all that stands behind the mark
abbrev pub tables_at : Code → List ℕ → Result Table Flaw
tables_at c bytes = whole c (after (each_at c (class_at c) c.classes bytes)
    (λ cs rest. after (each_at c (func_at c) c.functions rest)
    (λ fs rest. after (spots_at c c.ops rest)
    (λ ps. answers (record { classes = cs; functions = fs; spots = ps })))))
