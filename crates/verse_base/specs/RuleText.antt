-- The text that is printed for a rule, by its number.
use Rattle.std.specs.Prelude.{ℕ, List, [], ◌∷◌, Option, ◌==◌, codes}
use Rattle.std.specs.Map.{lookup}

abbrev pub rule_table : List (ℕ × List ℕ)
rule_table =
    (1, codes "not UTF-8") ∷
    (2, codes "file too large") ∷
    (10, codes "unexpected character") ∷
    (11, codes "text not closed") ∷
    (12, codes "comment not closed") ∷
    (13, codes "unknown escape") ∷
    (14, codes "integer too large") ∷
    (15, codes "duration out of range") ∷
    (16, codes "bad character literal") ∷
    (20, codes "bad indentation") ∷
    (21, codes "bracket not matched") ∷
    (22, codes "nested too deeply") ∷
    (30, codes "unexpected token") ∷
    (40, codes "name already defined") ∷
    (41, codes "unknown name") ∷
    (42, codes "class inherits from itself") ∷
    (43, codes "no Main") ∷
    (44, codes "Main has the wrong shape") ∷
    (45, codes "override does not fit") ∷
    (50, codes "types do not match") ∷
    (51, codes "cannot be called") ∷
    (52, codes "wrong number of arguments") ∷
    (53, codes "cannot be compared") ∷
    (54, codes "cannot be set") ∷
    (55, codes "field without a value") ∷
    (56, codes "no such member") ∷
    (57, codes "needs two expressions") ∷
    (58, codes "case not covered") ∷
    (59, codes "quotient outside Floor or Ceil") ∷
    (60, codes "can fail outside a failure context") ∷
    (61, codes "cannot be undone here") ∷
    (62, codes "suspends outside an async context") ∷
    (63, codes "suspends in a failure context") ∷
    (64, codes "specifiers do not fit") ∷
    (65, codes "effect not allowed in computes") ∷
    (66, codes "leaves a failure context or an arm") ∷
    (67, codes "wrong kind of brackets") ∷
    (68, codes "rush or branch in a loop") ∷
    (69, codes "not part of this profile") ∷
    (70, codes "type nested too deeply") ∷
    (98, codes "program too large") ∷
    (99, codes "not built yet") ∷
    []

-- the text of a rule, if it is listed
abbrev pub rule_text_of : ℕ → Option (List ℕ)
rule_text_of n = lookup (λ k. k == n) rule_table
