-- The program of the generated load, line by line, and what is told of its run.
use Rattle.std.specs.Prelude.{ℕ, zero, suc, ◌/◌, ◌%◌, ◌+◌, List, [], ◌∷◌, ◌++◌, codes, decimal}

-- ---- the functions F1, F2 ..

-- a number below 1000 in three digits
abbrev pub three_digits : ℕ → List ℕ
three_digits n = (48 + n / 100) ∷ (48 + n / 10 % 10) ∷ (48 + n % 10) ∷ []

abbrev pub head_line : ℕ → List ℕ
head_line i = codes "F" ++ (decimal i ++ codes "()<suspends>:void =\n")

abbrev pub variable_line : List ℕ
variable_line = codes "    var S:int = 0\n"

abbrev pub for_line : List ℕ
for_line = codes "    for (I := 1..4, set S += I, Mod[I, 2] = 0):\n"

abbrev pub inner_print_line : List ℕ
inner_print_line = codes "        Print(\"{S}\")\n"

abbrev pub race_line : List ℕ
race_line = codes "    race:\n"

abbrev pub long_pause_line : List ℕ
long_pause_line = codes "        Sleep(2.0)\n"

-- as many milliseconds as the last three digits of the number say
abbrev pub pause_line : ℕ → List ℕ
pause_line i = codes "        Sleep(0." ++ (three_digits (i % 1000) ++ codes ")\n")

abbrev pub print_line : List ℕ
print_line = codes "    Print(\"{S}\")\n"

abbrev pub function_text : ℕ → List ℕ
function_text i =
    head_line i ++ (variable_line ++
    (for_line ++ (inner_print_line ++
    (race_line ++ (long_pause_line ++ (pause_line i ++ print_line))))))

-- ---- Main, which waits for all of them

abbrev pub main_lines : List ℕ
main_lines = codes "Main()<suspends>:void =\n" ++ codes "    sync:\n"

abbrev pub call_line : ℕ → List ℕ
call_line i = codes "        F" ++ (decimal i ++ codes "()\n")

-- ---- the program, and the line on its trace

-- the text of each number, for so many numbers from the first on
abbrev pub each_from : (ℕ → List ℕ) → (first count : ℕ) → List ℕ
each_from text first zero = []
each_from text first (suc count) = text first ++ each_from text (first + 1) count

-- for each number from 1 to n a function, and the call of it
abbrev pub load_text_of : ℕ → List ℕ
load_text_of n = each_from function_text 1 n ++ (main_lines ++ each_from call_line 1 n)

-- how many lines the trace has
abbrev pub lines_line : ℕ → List ℕ
lines_line k = codes "= lines " ++ (decimal k ++ codes "\n")
