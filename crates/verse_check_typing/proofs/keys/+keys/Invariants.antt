use Rattle.std.proofs.Common.{◌≡◌, drop, map}
use Rattle.verse_rules_types.specs.Types.{ty_of, tys}
use Rattle.verse_check_typing.specs.Keys.{all_have_keys}
use Rattle.verse_check_typing.proofs.keys.+keys.Given as goal

-- what is left gives the answer
abbrev pub invariant-all_have_keys-types : goal.invariant-all_have_keys-types
invariant-all_have_keys-types l = all_have_keys (tys (map ty_of (drop l.ty-index l.types))) ≡ all_have_keys (tys (map ty_of l.types))
