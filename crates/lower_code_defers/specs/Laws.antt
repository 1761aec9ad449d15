-- The law of `defer` and the operations of deferred blocks.
use Rattle.std.specs.Prelude.{◌≡◌, ℕ, ◌<◌, ◌≤◌, Bool, List, Some, All, slice_get}
use Rattle.verse_tree.specs.PostOrder.{items_order}
use Rattle.verse_code.specs.declared.operations.Op.{Op}
use Rattle.verse_code.specs.Operations as operations
use Rattle.verse_meaning.specs.Programs.{Program}
use Rattle.verse_sound_rules.specs.Found.{Found}
use Rattle.lower_code.specs.Programs.{all_bodies, code_of}
use Rattle.lower_code_defers.specs.Counts.{begins, ends, how_many, defers_in}
use Rattle.lower_code_defers.specs.Programs.{BodyIsFine, NodeShows}

-- how many `defer`s the program has, wherever they stand
abbrev pub defers_of : Program → ℕ
defers_of p = defers_in (items_order p.items)

-- an operation with this code is among these
pub record HasCode (ops : List Op) (code : ℕ) : Type 0 where
  pub at : ℕ
  pub op : Op
  pub there : slice_get ops at ≡ Some op
  pub coded : operations.code_of op ≡ code

-- of a code with these operations, and the program that it is of
pub record DefersHaveCode (p : Program) (ops : List Op) : Type 0 where
  -- each `defer` has one Defer and one DeferEnd, and no other stands in the code
  pub begin : how_many begins ops ≡ defers_of p
  pub end : how_many ends ops ≡ defers_of p
  -- where there is a `defer` there are Defer, Leave and DeferEnd, the codes from 64 to 66
  pub there : 0 < defers_of p → (code : ℕ) → 64 ≤ code → code ≤ 66 → HasCode ops code
  -- and where one of these is, there is a `defer`
  pub only : (code : ℕ) → 64 ≤ code → HasCode ops code → 0 < defers_of p

-- of a program whose bodies are fine, in which no `defer` is in a part without code
abbrev pub FineDefersShow : Type 0
FineDefersShow = (p : Program) (f : Found) → All (BodyIsFine p f) (all_bodies p.items) →
    All (NodeShows p) (items_order p.items) →
    (differ : ℕ → ℕ → Bool) (files : ℕ) → DefersHaveCode p (code_of p differ files).ops
