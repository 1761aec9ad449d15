-- Types whose maps have keys that can be keys.
use Rattle.std.specs.Prelude.{Bool, true, ◌&&◌}
use Rattle.verse_rules_types.specs.Types.{Ty, Tys, option, array, task, event, mapping, tuple}
use Rattle.verse_rules_types.specs.Types.{no_tys, more_tys}
use Rattle.verse_rules_types.specs.Kinds.{is_key}

abbrev mutual
  pub has_keys : Ty → Bool
  has_keys (option t) = has_keys t
  has_keys (array t) = has_keys t
  has_keys (task t) = has_keys t
  has_keys (event t) = has_keys t
  has_keys (mapping k t) = is_key k && has_keys t
  has_keys (tuple ts) = all_have_keys ts
  has_keys t = true

  pub all_have_keys : Tys → Bool
  all_have_keys no_tys = true
  all_have_keys (more_tys t ts) = has_keys t && all_have_keys ts
