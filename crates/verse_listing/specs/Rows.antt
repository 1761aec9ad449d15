-- A small listing, and what is told where a line of it is spoilt.
use Rattle.std.specs.Prelude.{◌≡◌, false, List, [], ◌∷◌, codes, Ok, Err}
use Rattle.verse_code.specs.declared.operations.Op.TheVariants as o
use Rattle.verse_code.specs.declared.codes.Code.{Code}
use Rattle.verse_listing_format.specs.Format.{Line, spelled}
use Rattle.verse_listing.specs.Reading.{flaw, listing_at}

abbrev pub small : Code
small = record {
  files = 1;
  texts = [];
  places = [];
  functions = record { params = 0; locals = 0; entry = 0; suspends = false } ∷ [];
  classes = [];
  main = 0;
  ops = o.Unit ∷ o.Return ∷ [];
}

-- the lines before the operations, and these behind them
abbrev pub rows : List Line → List Line
rows behind =
    (codes "files" ∷ codes "1" ∷ []) ∷
    (codes "ops" ∷ codes "2" ∷ []) ∷
    (codes "func" ∷ codes "0" ∷ codes "0" ∷ codes "0" ∷ codes "0" ∷ []) ∷
    (codes "main" ∷ codes "0" ∷ []) ∷ behind

abbrev pub unit : Line
unit = codes "0" ∷ codes "Unit" ∷ []

abbrev pub return : Line
return = codes "1" ∷ codes "Return" ∷ []

pub record Rows : Type 0 where
  pub listed : listing_at (spelled (rows (unit ∷ return ∷ []))) ≡ Ok small
  pub unknown_name : listing_at (spelled (rows ((codes "0" ∷ codes "Unti" ∷ []) ∷ return ∷ []))) ≡
      Err (flaw 2 5)
  pub wrong_operand : listing_at
      (spelled (rows ((codes "0" ∷ codes "Jump" ∷ codes "0" ∷ []) ∷ return ∷ []))) ≡ Err (flaw 3 5)
  pub wrong_index : listing_at (spelled (rows (unit ∷ (codes "2" ∷ codes "Return" ∷ []) ∷ []))) ≡
      Err (flaw 4 6)
  pub missing_line : listing_at (spelled (rows (unit ∷ []))) ≡ Err (flaw 1 6)
