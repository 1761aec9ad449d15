-- What notes that are right say of the flow of their code.
use Rattle.std.specs.Prelude.{◌≡◌, ◌≢◌, ℕ, Some, slice_get}
use Rattle.verse_code.specs.declared.operations.Op.TheVariants as o
use Rattle.verse_code.specs.declared.codes.Func.{Func}
use Rattle.verse_code.specs.declared.codes.Code.{Code}
use Rattle.verse_code_flow.specs.Flow.{Flows}
use Rattle.verse_verify_kept.specs.Notes.{Point, Notes, point_at}
use Rattle.verse_verify_kept.specs.Rules.{AnyNever, Verified}

-- there may be values for all operands and locals
pub record HasValues (p : Point) : Type 0 where
  pub operands : ¬ (AnyNever p.stack)
  pub locals : ¬ (AnyNever p.locals)

-- the places that are reached by way of such states
pub data Comes (c : Code) (n : Notes) : ℕ → Type 0 where
  comes_entry : (k : ℕ) {f : Func} → slice_get c.functions k ≡ Some f → Comes c n f.entry
  comes_by : {i j : ℕ} {p : Point} → Comes c n i → point_at n i ≡ Some p → HasValues p →
      Flows c.ops i j → Comes c n j

-- each of them has a state
abbrev pub ReachedAreLive : Type 0
ReachedAreLive = (c : Code) (n : Notes) → Verified c n → (i : ℕ) → Comes c n i →
    (p : Point) × (point_at n i ≡ Some p)

-- The machine is stuck at an Arm, whichever it is: a group goes past those of its arms. So no
-- operation to which values come is stuck by construction.
abbrev pub VerifiedFlowGoes : Type 0
VerifiedFlowGoes = (c : Code) (n : Notes) → Verified c n → (i : ℕ) (p : Point) → Comes c n i →
    point_at n i ≡ Some p → HasValues p → (label : ℕ) → slice_get c.ops i ≢ Some (o.Arm label)
