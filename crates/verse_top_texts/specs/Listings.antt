-- The line that tells why a text is no listing.
use Rattle.std.specs.Prelude.{ℕ, List, ◌++◌, codes, decimal}

-- the rule that fails, and the line in which it does
abbrev pub listing_line : (rule line : ℕ) → List ℕ
listing_line rule line = codes "= listing L" ++
    (decimal rule ++ (codes " " ++ (decimal line ++ codes "\n")))
