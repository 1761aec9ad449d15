-- The law of groups and their arms, in words of a code.
use Rattle.std.specs.Prelude.{◌≡◌, ◌+◌, ◌<◌, ◌≤◌, ℕ, Bool, List, Some, All, slice_get}
use Rattle.verse_tree.specs.PostOrder.{items_order}
use Rattle.verse_code.specs.declared.operations.Op.{Op}
use Rattle.verse_code.specs.declared.operations.Op.TheVariants as o
use Rattle.verse_meaning.specs.Programs.{Program}
use Rattle.verse_sound_rules.specs.Programs.{FineProgram}
use Rattle.lower_code.specs.Programs.{code_of}
use Rattle.lower_simulation_runs.specs.Programs.{NodeStands}
use Rattle.lower_sound.specs.Programs.{ItemsFound}

-- the operation at i is that of an arm
abbrev pub IsArm : List Op → (i : ℕ) → Type 0
IsArm ops i = (label : ℕ) × (slice_get ops i ≡ Some (o.Arm label))

-- a group of m arms begins at j
pub record GroupAt (ops : List Op) (j m : ℕ) : Type 0 where
  pub kind : ℕ
  pub place : ℕ
  pub there : slice_get ops j ≡ Some (o.Group kind m place)

-- i is one of the m places behind j
abbrev pub IsBehind : (j m i : ℕ) → Type 0
IsBehind j m i = (j < i) × (i ≤ j + m)

-- the group to which an arm belongs
pub record GroupOf (ops : List Op) (i : ℕ) : Type 0 where
  pub begin : ℕ
  pub arms : ℕ
  pub group : GroupAt ops begin arms
  pub behind : IsBehind begin arms i

-- Behind each group stand its arms, and no arm stands elsewhere. An operation on which the machine
-- is stuck by construction is an arm of no group, so a code that has this has none.
pub record ArmsStand (ops : List Op) : Type 0 where
  pub arms : (j m i : ℕ) → GroupAt ops j m → IsBehind j m i → IsArm ops i
  pub groups : (i : ℕ) → IsArm ops i → GroupOf ops i

-- Of a fine program, where the tables find each body, and patterns stand for values.
abbrev pub FineArmsStand : Type 0
FineArmsStand = (p : Program) (fine : FineProgram p) → ItemsFound p fine.found p.items →
    All (NodeStands p) (items_order p.items) →
    (differ : ℕ → ℕ → Bool) (files : ℕ) → ArmsStand (code_of p differ files).ops
