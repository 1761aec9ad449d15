-- The line that tells why bytes are no image.
use Rattle.std.specs.Prelude.{ℕ, List, ◌++◌, codes, decimal}

-- the rule that fails, and its offset
abbrev pub image_line : (rule offset : ℕ) → List ℕ
image_line rule offset = codes "= image I" ++
    (decimal rule ++ (codes " " ++ (decimal offset ++ codes "\n")))
