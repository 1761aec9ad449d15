-- What functions answer, where the definitions read.
use Rattle.std.specs.Prelude.{◌≡◌, ℕ, List, [], ◌∷◌, Option, Some, None, Result, Ok, Err}
use Rattle.verse_listing_format.specs.Format.{Word}
use Rattle.verse_listing_lines.specs.declared.faults.LineFault.{LineFault}
use Rattle.verse_listing_lines.specs.declared.faults.LineFault.TheVariants as lines
use Rattle.verse_listing_lines.specs.Lines.{Pieces, words}

-- a piece more before others
abbrev pub with_piece : List ℕ → Pieces → Pieces
with_piece piece others = (piece ∷ others.0, others.1)

-- the words of what is left of a line
abbrev pub words_left : Option (List ℕ) → List Word
words_left None = []
words_left (Some line) = words line

-- a line breaks this rule, unless memory ran out
abbrev pub Breaks : {Y : Type 0} → LineFault → Result Y ℕ → Type 0
Breaks lines.Memory read = Unit {0}
Breaks (lines.Broken rule) read = read ≡ Err rule

-- what a function returned, seen by view, is what reading gives
abbrev pub Gives : {X Y : Type 0} → (X → Y) → Result X LineFault → Result Y ℕ → Type 0
Gives view (Ok x) read = read ≡ Ok (view x)
Gives view (Err e) read = Breaks e read
