-- The scope that the locals of a frame are, and what a name stands for in it.
use Rattle.std.specs.Prelude.{ℕ, ◌-◌, List, [], ◌∷◌, length, drop, Option, Some, None, cond}
use Rattle.verse_tree.specs.Tree.{Bytes}
use Rattle.verse_meaning.specs.Programs.{same_name}
use Rattle.lower_code.specs.Scopes as s
use Rattle.lower_code.specs.Scopes.{Scope}
use Rattle.lower_expr.specs.declared.scopes.Slot.{Slot}
use Rattle.lower_expr.specs.declared.scopes.Slot.TheVariants as slot
use Rattle.lower_expr.specs.declared.scopes.Scopes.{Scopes}
use Rattle.lower_expr.specs.declared.scopes.Found.{Found}
use Rattle.lower_expr.specs.declared.scopes.Found.TheVariants as found

abbrev pub slot_of : Slot → s.Slot
slot_of (slot.Constant x) = s.constant_at x.now
slot_of (slot.Variable x) = s.variable_at x.now
slot_of slot.Hidden = s.hidden

-- the oldest first
abbrev pub scope_from : List Slot → Scope → Scope
scope_from [] sc = sc
scope_from (x ∷ xs) sc = scope_from xs (slot_of x ∷ sc)

abbrev pub scope_of : Scopes → Scope
scope_of s = scope_from s.slots.items []

abbrev pub found_of : Found → s.Found
found_of (found.Fixed l) = s.fixed l
found_of (found.Varies l) = s.varies l
found_of found.Absent = s.absent

-- the outermost n
abbrev pub cut_to : (n : ℕ) → Scope → Scope
cut_to n sc = drop (length sc - n) sc

-- what a name stands for where this slot is in local l, and it stands for that
abbrev pub found_in : Bytes → s.Slot → (l : ℕ) → Option s.Found
found_in x (s.constant_at y) l = cond (same_name x y) (Some (s.fixed l)) None
found_in x (s.variable_at y) l = cond (same_name x y) (Some (s.varies l)) None
found_in x s.hidden l = None
