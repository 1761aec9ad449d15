-- The locals of a frame, and what reads them.
use Rattle.std.specs.Prelude.{ℕ, List, [], ◌∷◌, length, Bool, true, false, cond}
use Rattle.verse_tree.specs.Tree.{Bytes}
use Rattle.verse_code.specs.declared.operations.Op.TheVariants as o
use Rattle.verse_meaning.specs.Programs.{same_name}
use Rattle.verse_meaning.specs.Forms.{this_name}
use Rattle.lower_code.specs.Pieces.{Maker, one, stuck, ◌then◌}

-- A local of the frame: a constant or a variable's cell with its name, or what no name stands for.
-- The number of a slot's local is the number of slots behind it.
pub data Slot : Type 0 where
  constant_at : Bytes → Slot
  variable_at : Bytes → Slot
  hidden : Slot

-- the innermost first, as in the environments of the meaning
abbrev pub Scope : Type 0
Scope = List Slot

-- what a name stands for: the local that holds its value, or the cell of a variable
pub data Found : Type 0 where
  fixed : (local : ℕ) → Found
  varies : (local : ℕ) → Found
  absent : Found

abbrev pub find : Bytes → Scope → Found
find x [] = absent
find x (constant_at y ∷ sc) = cond (same_name x y) (fixed (length sc)) (find x sc)
find x (variable_at y ∷ sc) = cond (same_name x y) (varies (length sc)) (find x sc)
find x (hidden ∷ sc) = find x sc

-- the value of a name that is no field
abbrev pub read_found : Found → Maker
read_found (fixed l) = one (o.Get l)
read_found (varies l) = one (o.Get l) then one (o.Load 0)
read_found absent = stuck

-- the object of the method, where there is one
abbrev pub read_this : Found → Maker
read_this (fixed l) = one (o.Get l)
read_this (varies l) = stuck
read_this absent = stuck

abbrev pub field_of_this : Found → (slot : ℕ) → Maker
field_of_this (fixed l) n = one (o.Get l) then one (o.Load n)
field_of_this (varies l) n = stuck
field_of_this absent n = stuck

abbrev pub is_fixed : Found → Bool
is_fixed (fixed l) = true
is_fixed (varies l) = false
is_fixed absent = false

abbrev pub is_varies : Found → Bool
is_varies (fixed l) = false
is_varies (varies l) = true
is_varies absent = false

abbrev pub this_found : Scope → Found
this_found sc = find this_name sc

-- a local that something follows which needs it, and which is stuck where it is not there
abbrev pub push_fixed : Found → Maker
push_fixed (fixed l) = one (o.Get l)
push_fixed (varies l) = one o.Unit
push_fixed absent = one o.Unit

abbrev pub push_varies : Found → Maker
push_varies (fixed l) = one o.Unit
push_varies (varies l) = one (o.Get l)
push_varies absent = one o.Unit
