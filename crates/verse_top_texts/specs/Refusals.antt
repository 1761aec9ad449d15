-- The line that tells a refusal.
use Rattle.std.specs.Prelude.{ℕ, List, [], ◌∷◌, ◌++◌, length, cond, nat_le, slice_get, codes}
use Rattle.std.specs.Prelude.{decimal, unwrap_or}
use Rattle.verse_base.specs.RuleText.{rule_text_of}
use Rattle.verse_base.specs.declared.places.Place.{Place}
use Rattle.verse_base.specs.declared.refusals.Refusal.{Refusal}

abbrev pub line_and_column : Place → List ℕ
line_and_column place = decimal place.line ++ 58 ∷ decimal place.col

-- the name of the file, where there are several
abbrev pub file_before : List (List ℕ) → ℕ → List ℕ
file_before names file = cond (nat_le 2 (length names))
    (unwrap_or (slice_get names file) [] ++ codes ":") []

-- a rule's number is printed in three digits
abbrev pub rule_code : ℕ → List ℕ
rule_code rule = codes "E0" ++ cond (nat_le 10 rule) (decimal rule) (codes "0" ++ decimal rule)

-- its file and place, the rule and the rule's text
abbrev pub refusal_line : List (List ℕ) → Refusal → List ℕ
refusal_line names r =
    file_before names r.place.file ++ (line_and_column r.place ++
    (codes " " ++ (rule_code r.rule.0 ++ (codes " " ++ (unwrap_or (rule_text_of r.rule.0) []
    ++ 10 ∷ [])))))
