-- Which types fit which, and what two types join to.
use Rattle.std.specs.Prelude.{ℕ, zero, suc, Bool, true, false, cond, nat_eq, ◌&&◌, List, length}
use Rattle.std.specs.Prelude.{Option, Some, None, is_some, slice_get}
use Rattle.verse_rules_types.specs.Types.{Ty, Tys, never, nil, void, int, logic, char, enum, class}
use Rattle.verse_rules_types.specs.Types.{option, array, task, event, mapping, tuple}
use Rattle.verse_rules_types.specs.Types.{no_tys, more_tys, Class}

abbrev pub parent_in : Option Class → Option ℕ
parent_in None = None
parent_in (Some c) = c.parent

-- the class from which a class inherits
abbrev pub parent_of : List Class → ℕ → Option ℕ
parent_of cs c = parent_in (slice_get cs c)

abbrev pub above : Option ℕ → (ℕ → Option ℕ) → Option ℕ
above None f = None
above (Some c) f = f c

-- the first of a class and its ancestors that passes a test, fewer than n steps up; as many steps
-- as there are classes lead to all
abbrev pub first_above : List Class → (ℕ → Bool) → ℕ → ℕ → Option ℕ
first_above cs test zero c = None
first_above cs test (suc n) c =
    cond (test c) (Some c) (above (parent_of cs c) (first_above cs test n))

-- a class is another one or inherits from it
abbrev pub inherits : List Class → ℕ → ℕ → Bool
inherits cs c d = is_some (first_above cs (nat_eq d) (length cs) c)

-- the nearest common ancestor of two classes
abbrev pub common : List Class → ℕ → ℕ → Option ℕ
common cs c d = first_above cs (inherits cs d) (length cs) c

abbrev mutual
  pub is_same : Ty → Ty → Bool
  is_same never never = true
  is_same nil nil = true
  is_same void void = true
  is_same int int = true
  is_same logic logic = true
  is_same char char = true
  is_same (enum e) (enum f) = nat_eq e f
  is_same (class c) (class d) = nat_eq c d
  is_same (option t) (option u) = is_same t u
  is_same (array t) (array u) = is_same t u
  is_same (task t) (task u) = is_same t u
  is_same (event t) (event u) = is_same t u
  is_same (mapping k t) (mapping l u) = is_same k l && is_same t u
  is_same (tuple ts) (tuple us) = all_same ts us
  is_same t u = false

  pub all_same : Tys → Tys → Bool
  all_same no_tys no_tys = true
  all_same (more_tys t ts) (more_tys u us) = is_same t u && all_same ts us
  all_same ts us = false

-- what fits only itself and void
abbrev pub alone_fits : Ty → Ty → Bool
alone_fits t void = true
alone_fits t u = is_same t u

abbrev pub nil_fits : Ty → Bool
nil_fits nil = true
nil_fits logic = true
nil_fits (option u) = true
nil_fits void = true
nil_fits u = false

abbrev pub class_fits : List Class → ℕ → Ty → Bool
class_fits cs c (class d) = inherits cs c d
class_fits cs c void = true
class_fits cs c u = false

abbrev mutual
  -- a value of the first type may stand where one of the second is wanted
  pub fits : List Class → Ty → Ty → Bool
  fits cs never u = true
  fits cs nil u = nil_fits u
  fits cs void u = alone_fits void u
  fits cs int u = alone_fits int u
  fits cs logic u = alone_fits logic u
  fits cs char u = alone_fits char u
  fits cs (enum e) u = alone_fits (enum e) u
  fits cs (event t) u = alone_fits (event t) u
  fits cs (class c) u = class_fits cs c u
  fits cs (option t) (option u) = fits cs t u
  fits cs (option t) void = true
  fits cs (option t) u = false
  fits cs (array t) (array u) = fits cs t u
  fits cs (array t) void = true
  fits cs (array t) u = false
  fits cs (task t) (task u) = fits cs t u
  fits cs (task t) void = true
  fits cs (task t) u = false
  fits cs (mapping k t) (mapping l u) = fits cs k l && fits cs t u
  fits cs (mapping k t) void = true
  fits cs (mapping k t) u = false
  fits cs (tuple ts) (tuple us) = all_fit cs ts us
  fits cs (tuple ts) void = true
  fits cs (tuple ts) u = false

  -- part by part, where they are as many
  pub all_fit : List Class → Tys → Tys → Bool
  all_fit cs no_tys no_tys = true
  all_fit cs (more_tys t ts) (more_tys u us) = fits cs t u && all_fit cs ts us
  all_fit cs ts us = false

abbrev pub class_or_void : Option ℕ → Ty
class_or_void None = void
class_or_void (Some c) = class c

-- of two types the one that the other fits, or else w
abbrev pub pick : List Class → Ty → Ty → Ty → Ty
pick cs t u w = cond (fits cs t u) u (cond (fits cs u t) t w)

abbrev pub tuple_or_void : Option Tys → Ty
tuple_or_void None = void
tuple_or_void (Some ts) = tuple ts

abbrev pub one_more : Ty → Option Tys → Option Tys
one_more t None = None
one_more t (Some ts) = Some (more_tys t ts)

abbrev mutual
  -- two types of which neither fits the other
  pub joined : List Class → Ty → Ty → Ty
  joined cs (class c) (class d) = class_or_void (common cs c d)
  joined cs (option t) (option u) = option (pick cs t u (joined cs t u))
  joined cs (array t) (array u) = array (pick cs t u (joined cs t u))
  joined cs (task t) (task u) = task (pick cs t u (joined cs t u))
  joined cs (mapping k t) (mapping l u) =
      mapping (pick cs k l (joined cs k l)) (pick cs t u (joined cs t u))
  joined cs (tuple ts) (tuple us) = tuple_or_void (all_joined cs ts us)
  joined cs t u = void

  -- part by part, where they are as many
  pub all_joined : List Class → Tys → Tys → Option Tys
  all_joined cs no_tys no_tys = Some no_tys
  all_joined cs (more_tys t ts) (more_tys u us) =
      one_more (pick cs t u (joined cs t u)) (all_joined cs ts us)
  all_joined cs ts us = None

-- the least type that both fit
abbrev pub join : List Class → Ty → Ty → Ty
join cs t u = pick cs t u (joined cs t u)
