-- What is found of types and of expressions, and the least of several codes.
use Rattle.std.specs.Prelude.{ℕ, nat_lt, Bool, cond, Option, Some, None}
use Rattle.verse_base.specs.declared.rules.TheConstants.{INCOMPARABLE, TYPE_TOO_DEEP, UNSETTABLE}
use Rattle.verse_tree.specs.Tree.{Shape}
use Rattle.verse_rules_types.specs.Types.{Ty}
use Rattle.verse_rules_least.specs.Least.{first_true}
use Rattle.verse_rules_walk.specs.Around.{Used, Around}
use Rattle.verse_check_typing.specs.Facts.{Facts}
use Rattle.verse_check_typing.specs.Judgement.{Judgement}
use Rattle.verse_check_typing.specs.Rows.{row}
use Rattle.verse_check_typing.specs.TypeRules.{is_keyless, is_too_deep}
use Rattle.verse_check_typing.specs.Steps.{type_rules, expression_rules, cut, serves, served}

abbrev pub type_code : Ty → Option ℕ
type_code t = first_true (type_rules t)

-- what breaks at most the rules of its type
abbrev pub of_type : Ty → Judgement
of_type t = cut t (type_code t)

-- the least of a form's code, E053 and E070, where the last two are broken
abbrev pub least_code : Option ℕ → Bool → Bool → Option ℕ
least_code (Some c) keyless deep = Some (cond (nat_lt c UNSETTABLE) c (cond keyless INCOMPARABLE c))
least_code None keyless deep =
    cond keyless (Some INCOMPARABLE) (cond deep (Some TYPE_TOO_DEEP) None)

-- the least code of a form and its type
abbrev pub code_with : Option ℕ → Ty → Option ℕ
code_with o t = least_code o (is_keyless t) (is_too_deep t)

-- a form by itself
abbrev pub of_form : Facts → Around → ℕ → Shape → Judgement
of_form f w n x = cut (row f n x) (first_true (expression_rules f w n x))

-- a form that is used so
abbrev pub of_used : Facts → Used → Judgement → Judgement
of_used f u j = served (serves f u j.ty) j

-- an expression with this number
abbrev pub of_expression : Facts → Around → ℕ → Shape → Judgement
of_expression f w n x = of_used f w.used (of_form f w n x)
