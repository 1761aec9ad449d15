-- What a table has that the tests look at and the rules do not tell.
use Rattle.std.specs.Prelude.{◌≡◌, ℕ, List, [], ◌∷◌, ◌≤◌, ◌<◌, length, Some, None, true, slice_get}
use Rattle.verse_code.specs.declared.operations.Op.TheVariants as o
use Rattle.verse_code.specs.declared.codes.Code.{Code}
use Rattle.verse_code.specs.Validity.{Valid}
use Rattle.verse_sorts.specs.Sorts.{Sort}
use Rattle.verse_verify_kept.specs.Notes.{FuncNote, parent_in}
use Rattle.verse_verify_kept.specs.Rules.{Verified}
use Rattle.verse_verify_faults.specs.Spots.{Mark, Spot, Table, spot_at, even, notes_of}
use Rattle.verse_verify_faults.specs.Faults.{tries_of, notes_fault}
use Rattle.verse_verify_laws.specs.Laws.{Formed}

-- classes stand at heights, each above its parent
pub record Falling (t : Table) : Type 0 where
  pub rank : ℕ → ℕ
  pub falls : (k b : ℕ) → parent_in (slice_get t.classes k) ≡ Some b → rank b < rank k
  pub most : (k : ℕ) → rank k ≤ length t.classes

-- each of these operations is reached
pub data Reached (t : Table) : List ℕ → Type 0 where
  reached_no : Reached t []
  reached_so : {j : ℕ} {q : Spot} {js : List ℕ} → spot_at t j ≡ Some q → Reached t js →
      Reached t (j ∷ js)

-- a function whose task may wait
pub record Lasts (t : Table) (k : ℕ) : Type 0 where
  pub func : FuncNote
  pub noted : slice_get t.functions k ≡ Some func
  pub waits : func.may_wait ≡ true

-- a state in the deferred block e, whose first operation has this one
pub record Within (p : Spot) (e : ℕ) (q : Spot) : Type 0 where
  pub func : p.func ≡ q.func
  pub arm : p.arm ≡ q.arm
  pub block : q.block ≡ Some e
  pub outer : p.outer ≡ q.outer
  pub under : p.under ≡ q.under
  pub stack : q.stack ≡ []
  pub tries : q.tries ≡ []
  pub defers : q.defers ≡ []

pub record Told (c : Code) (t : Table) : Type 0 where
  pub falling : Falling t
  -- the heights of open Trys are heights of the stack
  pub even : (i : ℕ) (p : Spot) → spot_at t i ≡ Some p →
      even (length p.stack) p.tries ≡ true
  -- a Try that is open is reached, and so is its label
  pub opened : (i : ℕ) (p : Spot) → spot_at t i ≡ Some p → Reached t (tries_of c t p)
  pub labels : (i : ℕ) (p : Spot) (m : Mark) (ms : List Mark) (l : ℕ) →
      spot_at t i ≡ Some p → p.tries ≡ m ∷ ms → slice_get c.ops m.index ≡ Some (o.Try l) →
      (q : Spot) × (spot_at t l ≡ Some q)
  -- the function of an arm may wait
  pub arms : (i : ℕ) (p : Spot) (a : Sort) → spot_at t i ≡ Some p → p.arm ≡ Some a →
      Lasts t p.func
  -- the deferred block in which a state stands
  pub blocks : (i : ℕ) (p : Spot) (e : ℕ) (q : Spot) → spot_at t i ≡ Some p →
      p.block ≡ Some e → spot_at t e ≡ Some q → Within p e q

-- notes that fulfil the rules break none of V2 to V9
abbrev pub VerifiedNotes : Type 0
VerifiedNotes = (c : Code) (t : Table) → Valid c → Formed c t → Told c t →
    Verified c (notes_of t) → notes_fault c t ≡ None
