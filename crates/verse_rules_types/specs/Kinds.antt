-- Which types are keys of maps, which have equality, and how deep a type nests.
use Rattle.std.specs.Prelude.{ℕ, suc, max, Bool, true, false, ◌&&◌, List, length, Option, Some}
use Rattle.std.specs.Prelude.{None, is_some, slice_get}
use Rattle.verse_rules_types.specs.Types.{Ty, Tys, never, nil, int, logic, char, enum, class}
use Rattle.verse_rules_types.specs.Types.{option, array, task, event, mapping, tuple, no_tys}
use Rattle.verse_rules_types.specs.Types.{more_tys, Class}
use Rattle.verse_rules_types.specs.Fitting.{first_above}

abbrev pub is_char : Ty → Bool
is_char char = true
is_char t = false

-- a key of a map: what is written in it is compared by value
abbrev pub is_key : Ty → Bool
is_key never = true
is_key nil = true
is_key int = true
is_key logic = true
is_key char = true
is_key (enum e) = true
is_key (array t) = is_char t
is_key t = false

abbrev pub unique_in : Option Class → Bool
unique_in None = false
unique_in (Some c) = c.is_unique

-- the class itself is unique
abbrev pub unique_at : List Class → ℕ → Bool
unique_at cs c = unique_in (slice_get cs c)

-- a class or an ancestor of it is unique
abbrev pub is_unique : List Class → ℕ → Bool
is_unique cs c = is_some (first_above cs (unique_at cs) (length cs) c)

abbrev mutual
  -- values of the type can be compared with `=`
  pub is_comparable : List Class → Ty → Bool
  is_comparable cs never = true
  is_comparable cs nil = true
  is_comparable cs int = true
  is_comparable cs logic = true
  is_comparable cs char = true
  is_comparable cs (enum e) = true
  is_comparable cs (class c) = is_unique cs c
  is_comparable cs (option t) = is_comparable cs t
  is_comparable cs (array t) = is_comparable cs t
  is_comparable cs (mapping k t) = is_comparable cs k && is_comparable cs t
  is_comparable cs (tuple ts) = all_comparable cs ts
  is_comparable cs t = false

  pub all_comparable : List Class → Tys → Bool
  all_comparable cs no_tys = true
  all_comparable cs (more_tys t ts) = is_comparable cs t && all_comparable cs ts

abbrev mutual
  -- a type without parts has one level, every other one more than the deepest of its parts
  pub levels : Ty → ℕ
  levels (option t) = suc (levels t)
  levels (array t) = suc (levels t)
  levels (task t) = suc (levels t)
  levels (event t) = suc (levels t)
  levels (mapping k t) = suc (max (levels k) (levels t))
  levels (tuple ts) = suc (most_levels ts)
  levels t = 1

  pub most_levels : Tys → ℕ
  most_levels no_tys = 0
  most_levels (more_tys t ts) = max (levels t) (most_levels ts)
