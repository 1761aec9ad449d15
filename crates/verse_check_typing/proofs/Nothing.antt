-- The type of nothing.
use Rattle.std.proofs.Common.{◌≡◌, true, refl}
use Rattle.verse_rules_types.specs.Types.{Ty, never, nil, void, int, logic, char, enum, class, option, array, task, event, mapping, tuple}
use Rattle.verse_check_typing.specs.Parts.{is_never}

pub never_of : (t : Ty) → is_never t ≡ true → t ≡ never
never_of never e = refl
never_of nil e = cc
never_of void e = cc
never_of int e = cc
never_of logic e = cc
never_of char e = cc
never_of (enum c) e = cc
never_of (class c) e = cc
never_of (option t) e = cc
never_of (array t) e = cc
never_of (task t) e = cc
never_of (event t) e = cc
never_of (mapping k t) e = cc
never_of (tuple ts) e = cc
