-- Marks that are closed.
use Rattle.std.specs.Prelude.{◌≡◌, []}
use Rattle.vm_running.specs.Views.{View}

-- no mark is open, and all else is as it was
pub record Closes (v u : View) : Type 0 where
  pub cells : u.heap.cells ≡ v.heap.cells
  pub copies : u.heap.copies ≡ []
  pub kept : u.trace.kept ≡ v.trace.kept
  pub marks : u.trace.marks ≡ []
  pub spent : u.spent ≡ v.spent
  pub moment : u.moment ≡ v.moment
