-- Where a path leads in a value, and the value with a change at the end of the path.
use Rattle.std.specs.Prelude.{ℕ, zero, suc, ℤ, pos, negsuc, List, [], ◌∷◌, Option, Some, None}
use Rattle.std.specs.Prelude.{if◌then◌else◌, ◌≡◌, nat_lt}
use Rattle.verse_value.specs.Val.{Val, int, array, mapping, Vals, no_vals, more_vals, Pairs}
use Rattle.verse_value.specs.Val.{no_pairs, more_pairs}
use Rattle.verse_value.specs.Parts.{joined, first}
use Rattle.verse_value.specs.Keys.{key_eq, key_of, at_key}
use Rattle.verse_value.specs.declared.keys.Key.{Key}

-- what an index leads to in a value: a part, no part of an array, a key that a map lacks, or it
-- does not go with the value
pub data Step : Type 0 where
  part : Val → Step
  outside : Step
  absent : Step
  misfit : Step

abbrev pub int_of : Val → Option ℤ
int_of (int n) = Some n
int_of v = None

-- where an int leads in that many parts
abbrev pub place_in : ℕ → ℤ → Option ℕ
place_in n (pos i) = if nat_lt i n then Some i else None
place_in n (negsuc i) = None

abbrev pub nth : Vals → ℕ → Option Val
nth no_vals i = None
nth (more_vals v vs) zero = Some v
nth (more_vals v vs) (suc i) = nth vs i

abbrev pub part_or : Step → Option Val → Step
part_or other None = other
part_or other (Some v) = part v

abbrev pub in_array : Vals → Val → Step
in_array vs (int (pos n)) = part_or outside (nth vs n)
in_array vs (int (negsuc n)) = outside
in_array vs index = misfit

abbrev pub in_map : Pairs → Option Key → Step
in_map ps (Some k) = part_or absent (at_key ps k)
in_map ps None = misfit

-- an array takes an int, a map a key
abbrev pub step_in : Val → Val → Step
step_in (array vs) index = in_array vs index
step_in (mapping ps) index = in_map ps (key_of index)
step_in v index = misfit

-- the part, where the index leads to one
abbrev pub found : Step → Option Val
found (part v) = Some v
found other = None

-- where a path leads: to a value that is there, to a key that the last map lacks, nowhere, or it
-- does not go with the value
pub data End : Type 0 where
  there : Val → End
  new_key : End
  nowhere : End
  unfit : End

-- only a key that is the last index may be absent
abbrev pub at_absent : List Val → End
at_absent [] = new_key
at_absent (i ∷ path) = nowhere

abbrev pub end_from : Step → List Val → (Val → End) → End
end_from (part v) path rest = rest v
end_from outside path rest = nowhere
end_from absent path rest = at_absent path
end_from misfit path rest = unfit

-- followed from the left
abbrev pub end_of : List Val → Val → End
end_of [] v = there v
end_of (i ∷ path) v = end_from (step_in v i) path (end_of path)

-- with the part at a place changed
abbrev pub with_nth : Vals → ℕ → (Val → Val) → Vals
with_nth no_vals i f = no_vals
with_nth (more_vals v vs) zero f = more_vals (f v) vs
with_nth (more_vals v vs) (suc i) f = more_vals v (with_nth vs i f)

-- with the value at a key changed
abbrev pub with_key : Pairs → Key → (Val → Val) → Pairs
with_key no_pairs k f = no_pairs
with_key (more_pairs l v ps) k f =
    if key_eq k l then more_pairs l (f v) ps else more_pairs l v (with_key ps k f)

abbrev pub array_with : Vals → Val → (Val → Val) → Vals
array_with vs (int (pos n)) f = with_nth vs n f
array_with vs index f = vs

abbrev pub map_with : Pairs → Option Key → (Val → Val) → Pairs
map_with ps (Some k) f = with_key ps k f
map_with ps None f = ps

-- with the part that an index leads to changed
abbrev pub changed : Val → Val → (Val → Val) → Val
changed (array vs) index f = array (array_with vs index f)
changed (mapping ps) index f = mapping (map_with ps (key_of index) f)
changed v index f = v

-- another value in a value's place; a new key at the end of a map, or a map's last key taken off;
-- parts at the end of an array, or all but its first parts taken off
pub data Change : Type 0 where
  put : Val → Change
  push : Key → Val → Change
  pop : Change
  extend : Vals → Change
  shorten : ℕ → Change

abbrev pub with_last : Pairs → Key → Val → Pairs
with_last no_pairs k v = more_pairs k v no_pairs
with_last (more_pairs l w ps) k v = more_pairs l w (with_last ps k v)

abbrev pub without_last : Pairs → Pairs
without_last no_pairs = no_pairs
without_last (more_pairs k v no_pairs) = no_pairs
without_last (more_pairs k v (more_pairs l w ps)) =
    more_pairs k v (without_last (more_pairs l w ps))

abbrev pub pushed : Key → Val → Val → Val
pushed k new (mapping ps) = mapping (with_last ps k new)
pushed k new v = v

abbrev pub popped : Val → Val
popped (mapping ps) = mapping (without_last ps)
popped v = v

abbrev pub extended : Vals → Val → Val
extended ws (array vs) = array (joined vs ws)
extended ws v = v

abbrev pub shortened : ℕ → Val → Val
shortened n (array vs) = array (first n vs)
shortened n v = v

abbrev pub changed_here : Change → Val → Val
changed_here (put new) v = new
changed_here (push k new) v = pushed k new v
changed_here pop v = popped v
changed_here (extend ws) v = extended ws v
changed_here (shorten n) v = shortened n v

-- a slot's value with a change at the end of a path
abbrev pub applied : List Val → Change → Val → Val
applied [] change v = changed_here change v
applied (i ∷ path) change v = changed v i (applied path change)

abbrev pub LacksKey : Key → Val → Type 0
LacksKey k (mapping ps) = at_key ps k ≡ None
LacksKey k v = ⊥

abbrev pub HasKeys : Val → Type 0
HasKeys (mapping (more_pairs k v ps)) = Unit {0}
HasKeys v = ⊥

abbrev pub IsArray : Val → Type 0
IsArray (array vs) = Unit {0}
IsArray v = ⊥

-- a change can be made where its path leads
abbrev pub Allows : End → Change → Type 0
Allows (there v) (put new) = Unit {0}
Allows (there v) (push k new) = LacksKey k v
Allows (there v) pop = HasKeys v
Allows (there v) (extend ws) = IsArray v
Allows (there v) (shorten n) = IsArray v
Allows end change = ⊥

-- without its last index
abbrev pub path_to_map : List Val → List Val
path_to_map [] = []
path_to_map (i ∷ []) = []
path_to_map (i ∷ (j ∷ path)) = i ∷ path_to_map (j ∷ path)

-- the key that its last index is
abbrev pub last_key : List Val → Option Key
last_key [] = None
last_key (i ∷ []) = key_of i
last_key (i ∷ (j ∷ path)) = last_key (j ∷ path)
