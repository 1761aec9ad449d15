-- The text of one line of a trace.
use Rattle.std.specs.Prelude.{ℕ, List, [], ◌∷◌, ◌++◌, if◌then◌else◌, ◌==◌, decimal}
use Rattle.std.specs.List.{flat_map}

-- a backslash is `\\` and a line feed `\n`; every other byte stands as it is
abbrev pub escaped_byte : ℕ → List ℕ
escaped_byte b = if b == 92 then 92 ∷ 92 ∷ [] else (if b == 10 then 92 ∷ 110 ∷ [] else b ∷ [])

abbrev pub escaped : List ℕ → List ℕ
escaped text = flat_map escaped_byte text

-- the moment in milliseconds, a blank, the text, a line feed
abbrev pub line_bytes : ℕ → List ℕ → List ℕ
line_bytes now text = decimal now ++ 32 ∷ (escaped text ++ 10 ∷ [])
