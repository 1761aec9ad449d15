-- Laws of the code of a program: it is small and valid, and it has what its program has.
use Rattle.std.specs.Prelude.{◌≡◌, ℕ, ◌<◌, ◌≤◌, Bool, length, slice_get, Some, All}
use Rattle.verse_tree.specs.Tree.{Shape}
use Rattle.verse_tree.specs.Tree as t
use Rattle.verse_tree.specs.Sizes as sizes
use Rattle.verse_tree.specs.declared.programs.Program.{Program as Made}
use Rattle.verse_tree.specs.PostOrder.{Node, expression, items_order}
use Rattle.verse_code.specs.declared.codes.Code.{Code}
use Rattle.verse_code.specs.declared.operations.Op.{Op}
use Rattle.verse_code.specs.Operations as operations
use Rattle.verse_code.specs.Validity.{Valid}
use Rattle.verse_meaning.specs.Programs.{Program, program_of}
use Rattle.lower_code.specs.Programs.{code_of}
use Rattle.lower_bounds.specs.Programs.{size_of, FieldsAgree, CanBeLowered}

-- the size that a program is measured by is the size that the checker measures
abbrev pub SizeStands : Type 0
SizeStands = (made : Made) → size_of (program_of made) ≡ sizes.size_of made

-- neither its operations nor its tables of places and texts are more
pub record IsWithin (size : ℕ) (code : Code) : Type 0 where
  pub ops : length code.ops ≤ size
  pub places : length code.places ≤ size
  pub texts : length code.texts ≤ size

abbrev pub CodeIsSmall : Type 0
CodeIsSmall = (p : Program) (differ : ℕ → ℕ → Bool) (files : ℕ) → FieldsAgree p →
    IsWithin (size_of p) (code_of p differ files)

abbrev pub CodeIsValid : Type 0
CodeIsValid = (p : Program) (differ : ℕ → ℕ → Bool) (files : ℕ) → CanBeLowered p files →
    Valid (code_of p differ files)

abbrev pub FilesStand : Type 0
FilesStand = (p : Program) (differ : ℕ → ℕ → Bool) (files : ℕ) →
    (code_of p differ files).files ≡ files

-- a node that is no `defer`
abbrev pub IsNoDefer : Shape → Type 0
IsNoDefer (t.Shape.defer a) = ⊥
IsNoDefer s = Unit {0}

abbrev pub HasNoDefer : Node → Type 0
HasNoDefer v = (s : Shape) → v.what ≡ expression s → IsNoDefer s

-- Defer, Leave and DeferEnd have the codes from 64 on
abbrev pub DefersShow : Type 0
DefersShow = (p : Program) (differ : ℕ → ℕ → Bool) (files : ℕ) →
    All HasNoDefer (items_order p.items) →
    (at : ℕ) (op : Op) → slice_get (code_of p differ files).ops at ≡ Some op →
    operations.code_of op < 64
