-- The line that tells that nothing is wrong, and the one that tells what notes break.
use Rattle.std.specs.Prelude.{ℕ, List, ◌++◌, codes, decimal}

abbrev pub ok_line : List ℕ
ok_line = codes "= ok\n"

-- the rule, and the offset, number or operation at which it is broken
abbrev pub notes_line : (rule at : ℕ) → List ℕ
notes_line rule at =
    codes "= notes V" ++ (decimal rule ++ (codes " " ++ (decimal at ++ codes "\n")))
