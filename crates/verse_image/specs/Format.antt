-- The format of an image, field by field.
use Rattle.std.specs.Prelude.{◌≡◌, ℕ, ◌+◌, ◌-◌, ◌/◌, ◌%◌, ◌<◌, ◌≤◌, ℤ, pos, negsuc, Bool, true}
use Rattle.std.specs.Prelude.{false, ◌⊎◌, List, [], ◌∷◌, ◌++◌, length}
use Rattle.std.specs.Prelude.{All, nat_le, if◌then◌else◌}
use Rattle.verse_base.specs.declared.places.Place.{Place}
use Rattle.verse_code.specs.declared.operands.Operand.{Operand}
use Rattle.verse_code.specs.declared.operands.Operands.{Operands}
use Rattle.verse_code.specs.declared.operands.Operands.TheVariants.{Bare, Integer, One, Two, Three}
use Rattle.verse_code.specs.declared.operands.Operands.TheVariants.{Four}
use Rattle.verse_code.specs.declared.operations.Op.{Op}
use Rattle.verse_code.specs.declared.codes.Func.{Func}
use Rattle.verse_code.specs.declared.codes.Class.{Class}
use Rattle.verse_code.specs.declared.codes.Code.{Code}
use Rattle.verse_code.specs.Operations.{code_of, operands_of}
use Rattle.verse_code.specs.Validity.{Valid}

-- ---- numbers

-- A number below 128 is one byte. Any other is a byte with its low seven bits and 128 more, and
-- then the number without them: unsigned LEB128, in its one shortest spelling.
pub data Spelled : ℕ → List ℕ → List ℕ → Type 0 where
  one_byte : {n : ℕ} {rest : List ℕ} → n < 128 → Spelled n (n ∷ rest) rest
  more_bytes : {n b : ℕ} {bytes rest : List ℕ} → 128 ≤ n → b ≡ 128 + n % 128 →
      Spelled (n / 128) bytes rest → Spelled n (b ∷ bytes) rest

-- seven bits as they stand, or each of them turned over
abbrev pub seven_bits : Bool → ℕ → ℕ
seven_bits false bits = bits
seven_bits true bits = 127 - bits

-- A size below 64 is one byte. Any other is a byte with its low seven bits and 128 more, and then
-- the size without them. The bits of a negative number are turned over.
pub data SignedSpelled : Bool → ℕ → List ℕ → List ℕ → Type 0 where
  one_signed : {negative : Bool} {size b : ℕ} {rest : List ℕ} → size < 64 →
      b ≡ seven_bits negative size → SignedSpelled negative size (b ∷ rest) rest
  more_signed : {negative : Bool} {size b : ℕ} {bytes rest : List ℕ} → 64 ≤ size →
      b ≡ 128 + seven_bits negative (size % 128) → SignedSpelled negative (size / 128) bytes rest →
      SignedSpelled negative size (b ∷ bytes) rest

-- ---- fields

-- a field stands between the bytes from its beginning on and those behind it
abbrev pub Field : Type 1
Field = List ℕ → List ℕ → Type 0

-- a field, and then another
infixl 6 ◌⨾◌
abbrev pub ◌⨾◌ : Field → Field → Field
(P ⨾ Q) bytes rest = (between : List ℕ) × P bytes between × Q between rest

abbrev pub nothing : Field
nothing bytes rest = bytes ≡ rest

abbrev pub byte : ℕ → Field
byte b bytes rest = bytes ≡ b ∷ rest

abbrev pub plain : List ℕ → Field
plain text bytes rest = bytes ≡ text ++ rest

-- a number below an end
abbrev pub below : ℕ → ℕ → Field
below end n bytes rest = (n < end) × Spelled n bytes rest

-- a number of 32 bits
abbrev pub number : ℕ → Field
number n bytes rest = (n ≤ 4294967295) × Spelled n bytes rest

-- a number of 64 bits with a sign: signed LEB128, the size of a negative n being -1 - n
abbrev pub integer : ℤ → Field
integer (pos n) bytes rest = (n ≤ 9223372036854775807) × SignedSpelled false n bytes rest
integer (negsuc n) bytes rest = (n ≤ 9223372036854775807) × SignedSpelled true n bytes rest

-- one after the other
abbrev pub each : {A : Type 0} → (A → Field) → List A → Field
each f [] = nothing
each f (a ∷ others) = f a ⨾ each f others

-- how many, and then each
abbrev pub table : {A : Type 0} → (A → Field) → List A → Field
table f entries = number (length entries) ⨾ each f entries

-- ---- the parts of a code

abbrev pub text : List ℕ → Field
text bytes = number (length bytes) ⨾ plain bytes

abbrev pub place : Place → Field
place p = number p.file ⨾ number p.line ⨾ number p.col

abbrev pub flag : Bool → ℕ
flag false = 0
flag true = 1

abbrev pub function : Func → Field
function f = number f.params ⨾ number f.locals ⨾ number f.entry ⨾ number (flag f.suspends)

abbrev pub class : Class → Field
class c = number c.slots ⨾ table number c.methods

abbrev pub operand : Operand → Field
operand a = number a.1

abbrev pub operands : Operands → Field
operands Bare = nothing
operands (Integer n) = integer n
operands (One a) = operand a
operands (Two a b) = operand a ⨾ operand b
operands (Three a b c) = operand a ⨾ operand b ⨾ operand c
operands (Four a b c d) = operand a ⨾ operand b ⨾ operand c ⨾ operand d

-- an operation is its code, and then its operands in their order
abbrev pub operation : Op → Field
operation op = byte (code_of op) ⨾ operands (operands_of op)

-- ---- the image

-- VSIM
abbrev pub mark : List ℕ
mark = 86 ∷ 83 ∷ 73 ∷ 77 ∷ []

-- the mark, the version, and the counts of files and of operations
abbrev pub head : ℕ → ℕ → ℕ → Field
head version files ops = plain mark ⨾ byte version ⨾ number files ⨾ number ops

-- the tables, and the function that a run begins with
abbrev pub tables : Code → Field
tables code =
    table text code.texts ⨾ table place code.places ⨾ table function code.functions ⨾ table class
    code.classes ⨾ number code.main

-- the fields of an image of this version, in their order
abbrev pub fields : ℕ → Code → Field
fields version code = head version code.files (length code.ops) ⨾ tables code ⨾ each operation
    code.ops

-- version 1 has the operations up to 63, and version 2 all
abbrev pub IsVersion : ℕ → Code → Type 0
IsVersion version code = ((version ≡ 1) × All (λ op. code_of op ≤ 63) code.ops) ⊎ (version ≡ 2)

-- the bytes are the image of the code, in this version
pub record Image (version : ℕ) (code : Code) (bytes : List ℕ) : Type 0 where
  pub valid : Valid code
  pub versioned : IsVersion version code
  pub spelled : fields version code bytes []

-- the version that is written: the first that has all of these operations
abbrev pub version_for : List Op → ℕ
version_for [] = 1
version_for (op ∷ ops) = if nat_le (code_of op) 63 then version_for ops else 2

abbrev pub version_of : Code → ℕ
version_of code = version_for code.ops
