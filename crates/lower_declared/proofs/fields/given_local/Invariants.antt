use Rattle.std.proofs.Common.{◌≡◌, drop, map}
use Rattle.verse_tree.specs.View.{given_of, givens}
use Rattle.lower_code.specs.Lowering.{given_local}
use Rattle.lower_declared.proofs.fields.given_local.Given as goal

-- what is done and what is left are all
abbrev pub invariant-parts : goal.invariant-parts
invariant-parts l = given_local l.name (givens (map given_of (drop l.part-index l.parts))) l.at ≡
    given_local l.name (givens (map given_of l.parts)) l.first
