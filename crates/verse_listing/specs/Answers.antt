-- What functions answer, where the definitions read.
use Rattle.std.specs.Prelude.{◌≡◌, ℕ, ◌+◌, ◌<◌, List, length, Result, Ok, Err}
use Rattle.verse_code.specs.declared.codes.Code.{Code}
use Rattle.verse_listing_lines.specs.declared.faults.LineFault.{LineFault}
use Rattle.verse_listing_lines.specs.declared.faults.LineFault.TheVariants as lines
use Rattle.verse_listing.specs.declared.faults.Flaw.{Flaw}
use Rattle.verse_listing.specs.declared.faults.ReadFault.{ReadFault}
use Rattle.verse_listing.specs.declared.faults.ReadFault.TheVariants as reading
use Rattle.verse_listing.specs.declared.faults.ListFault.{ListFault}
use Rattle.verse_listing.specs.declared.faults.ListFault.TheVariants as faults
use Rattle.verse_listing.specs.declared.assembling.Left.{Left}
use Rattle.verse_listing.specs.Reading.{flaw, Stage, among_operations, step, on_line, read_on}
use denote.Ref.{Bor}

-- reading stops at this line, unless memory ran out
abbrev pub Stops : ReadFault → Result Code Flaw → Type 0
Stops reading.Memory read = Unit {0}
Stops (reading.Bad f) read = read ≡ Err f

-- the fault of the line of this number
abbrev pub fault_at : ℕ → LineFault → ReadFault
fault_at line lines.Memory = reading.Memory
fault_at line (lines.Broken rule) = reading.Bad (flaw rule line)

-- what was read leads to the answer of going on from there
abbrev pub Leads : {X : Type 0} → (X → Result Code Flaw) → Result X ReadFault → Result Code Flaw →
    Type 0
Leads go (Ok x) read = read ≡ go x
Leads go (Err e) read = Stops e read

-- the lines that are left can be counted
abbrev pub IsCounted : Left → Type 0
IsCounted left = left.line + length left.bytes.now < 18446744073709551616

-- what is left gives, from a stage on
abbrev pub left_gives : Stage → Left → Result Code Flaw
left_gives stage left = read_on stage left.line left.bytes.now

-- a line more may stand
abbrev pub IsOpen : Stage → Type 0
IsOpen (among_operations files ops t main done) = length done < ops
IsOpen stage = Unit {0}

-- a line was cut off, and each stage goes on behind it; or none is there
abbrev pub IsCut : Left → Result (Bor (List ℕ) × Left) ReadFault → Type 0
IsCut left (Ok x) = (stage : Stage) →
    left_gives stage left ≡ on_line left.line (step stage x.0.now) (λ next. left_gives next x.1)
IsCut left (Err e) = (stage : Stage) → IsOpen stage → Stops e (left_gives stage left)

-- an answer tells what reading the bytes gives, unless memory ran out
abbrev pub Tells : Result Code ListFault → Result Code Flaw → Type 0
Tells (Ok code) read = read ≡ Ok code
Tells (Err faults.Memory) read = Unit {0}
Tells (Err (faults.Bad rule line)) read = read ≡ Err (flaw rule line)
