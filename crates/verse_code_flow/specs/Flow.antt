-- Where the flow of a code leads: from each operation to those that may come next, whatever the
-- values are.
use Rattle.std.specs.Prelude.{◌≡◌, ◌≢◌, ◌+◌, ◌<◌, ◌≤◌, ℕ, suc, List, Bool, true, false, Option}
use Rattle.std.specs.Prelude.{Some, None, slice_get}
use Rattle.verse_code.specs.declared.operations.Op.{Op}
use Rattle.verse_code.specs.declared.operations.Op.TheVariants as o
use Rattle.verse_code.specs.declared.codes.Func.{Func}
use Rattle.verse_code.specs.declared.codes.Code.{Code}

-- whether the operation behind may come next
abbrev pub goes_on : Op → Bool
goes_on (o.Jump l) = false
goes_on (o.Again l) = false
goes_on o.Fail = false
goes_on o.Return = false
goes_on (o.Group kind m place) = false
goes_on (o.Arm l) = false
goes_on o.ArmEnd = false
goes_on o.DeferEnd = false
goes_on op = true

-- the label at which it may go on: a Try's is taken where what it tries fails, and a Defer goes on
-- at its label, while its block begins behind it
abbrev pub leads_to : Op → Option ℕ
leads_to (o.Jump l) = Some l
leads_to (o.Again l) = Some l
leads_to (o.Same l) = Some l
leads_to (o.Try l) = Some l
leads_to (o.Branch l) = Some l
leads_to (o.Defer l) = Some l
leads_to (o.Take domain value l) = Some l
leads_to op = None

pub data Flows (ops : List Op) : (from to : ℕ) → Type 0 where
  flows_on : {i : ℕ} {op : Op} → slice_get ops i ≡ Some op → goes_on op ≡ true → Flows ops i (suc i)
  flows_to : {i l : ℕ} {op : Op} → slice_get ops i ≡ Some op → leads_to op ≡ Some l → Flows ops i l
  -- a group's task goes on behind its arms, each of which begins at the label of its Arm
  flows_past : {i kind m place : ℕ} → slice_get ops i ≡ Some (o.Group kind m place) →
      Flows ops i (suc i + m)
  flows_in : {i j l kind m place : ℕ} → slice_get ops i ≡ Some (o.Group kind m place) → i < j →
      j ≤ i + m → slice_get ops j ≡ Some (o.Arm l) → Flows ops i l

-- the places that are reached: functions begin at their entries
pub data Reached (c : Code) : ℕ → Type 0 where
  reached_entry : (k : ℕ) {f : Func} → slice_get c.functions k ≡ Some f → Reached c f.entry
  reached_by : {i j : ℕ} → Reached c i → Flows c.ops i j → Reached c j

-- The machine is stuck at an Arm, whichever it is: a group goes past those of its arms. So this is
-- a code whose flow comes to nothing on which the machine is stuck by construction.
abbrev pub FlowGoes : Code → Type 0
FlowGoes c = (i : ℕ) → Reached c i → (label : ℕ) → slice_get c.ops i ≢ Some (o.Arm label)
