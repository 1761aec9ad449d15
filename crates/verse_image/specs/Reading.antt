-- Reading an image from left to right, up to the first failing place.
use Rattle.std.specs.Prelude.{◌≡◌, ℕ, zero, suc, ◌+◌, ◌-◌, ◌*◌, ℤ, pos, negsuc, Bool, true, false}
use Rattle.std.specs.Prelude.{◌&&◌, ◌||◌, nat_lt, nat_le, ◌==◌, List}
use Rattle.std.specs.Prelude.{[], ◌∷◌, length, take, drop, Option, Some, None, slice_get, Result}
use Rattle.std.specs.Prelude.{Ok, Err, if◌then◌else◌}
use Rattle.verse_base.specs.declared.places.Place.{Place}
use Rattle.verse_code.specs.declared.operands.OperandKind.{OperandKind}
use Rattle.verse_code.specs.declared.operations.Op.{Op}
use Rattle.verse_code.specs.declared.shapes.Shape.{Shape}
use Rattle.verse_code.specs.declared.shapes.Shape.TheVariants as s
use Rattle.verse_code.specs.declared.shapes.Parts.{Parts}
use Rattle.verse_code.specs.declared.codes.Func.{Func}
use Rattle.verse_code.specs.declared.codes.Class.{Class}
use Rattle.verse_code.specs.declared.codes.Code.{Code}
use Rattle.verse_code.specs.declared.validity.Sizes.{Sizes}
use Rattle.verse_image.specs.declared.numbers.TheConstants.{NUMBER_END, FILES_END, OPERATIONS_END}
use Rattle.verse_image.specs.declared.numbers.TheConstants.{TEXT_END}
use Rattle.verse_code.specs.Forms.{Form, forms, shape_of, made}
use Rattle.verse_code.specs.Validity.{suits_kind}
use Rattle.verse_image.specs.declared.tables.Tables.{Tables}
use Rattle.verse_image.specs.declared.faults.Flaw.{Flaw}
use Rattle.verse_image.specs.declared.faults.ReadFault.{ReadFault}
use Rattle.verse_image.specs.declared.faults.ReadFault.TheVariants as faults
use Rattle.verse_image.specs.declared.faults.ImageFault.{ImageFault}
use Rattle.verse_image.specs.declared.faults.ImageFault.TheVariants as images
use Rattle.verse_image.specs.Format.{mark}

infixl 10 ◌>>=◌
abbrev pub ◌>>=◌ : {A B : Type 0} → Result A Flaw → (A → Result B Flaw) → Result B Flaw
(Ok x) >>= f = f x
(Err e) >>= f = Err e

-- what a function returned, seen by view, is what reading gives, unless memory ran out
abbrev pub Fails : {Y : Type 0} → ReadFault → Result Y Flaw → Type 0
Fails faults.Memory read = Unit {0}
Fails (faults.Bad f) read = read ≡ Err f

abbrev pub Gives : {X Y : Type 0} → (X → Y) → Result X ReadFault → Result Y Flaw → Type 0
Gives view (Ok x) read = read ≡ Ok (view x)
Gives view (Err e) read = Fails e read

-- from the bytes on: a value and the bytes behind it, or the rule that fails and how many bytes are
-- left from the failing place on
abbrev pub Reader : Type 0 → Type 0
Reader A = List ℕ → Result (A × List ℕ) Flaw

abbrev pub flaw : ℕ → ℕ → Flaw
flaw rule left = record { rule = rule; left = left }

abbrev pub byte_at : Reader ℕ
byte_at [] = Err (flaw 3 0)
byte_at (b ∷ rest) = Ok (b, rest)

-- ---- numbers

-- a byte that goes on, and the number that the bytes after it spell
abbrev pub with_high : ℕ → ℕ → ℕ → ℕ × List ℕ → Result (ℕ × List ℕ) Flaw
with_high end left b high =
    if nat_lt 0 high.0 && nat_lt (b - 128 + 128 * high.0) end then Ok
    (b - 128 + 128 * high.0, high.1) else Err (flaw 4 left)

-- a number of at most so many bytes, below end
unfoldable pub digits_at : ℕ → ℕ → ℕ → Reader ℕ
digits_at zero end left bytes = Err (flaw 4 left)
digits_at (suc most) end left bytes = byte_at bytes >>= λ b.
    if nat_lt b.0 128 then Ok b else (digits_at most end left b.1 >>= with_high end left b.0)

unfoldable pub number_at : Reader ℕ
number_at bytes = digits_at 5 4294967296 (length bytes) bytes

-- a table's number, from least on and below end
unfoldable pub within_at : ℕ → ℕ → Reader ℕ
within_at least end bytes = number_at bytes >>= λ n. if nat_le least n.0 &&
    nat_lt n.0 end then Ok n else Err (flaw 5 (length bytes))

abbrev pub seven_bits : Bool → ℕ → ℕ
seven_bits negative bits = if negative then 127 - bits else bits

abbrev pub signed_with_high : ℕ → ℕ → ℕ → (Bool × ℕ) × List ℕ → Result ((Bool × ℕ) × List ℕ) Flaw
signed_with_high end left b high =
    let size = high.0.1 * 128 + seven_bits high.0.0 (b - 128) in
    if nat_le 64 size && nat_lt size end then Ok ((high.0.0, size), high.1) else Err (flaw 4 left)

-- whether the number is negative, and its size below end
unfoldable pub signed_digits_at : ℕ → ℕ → ℕ → Reader (Bool × ℕ)
signed_digits_at zero end left bytes = Err (flaw 4 left)
signed_digits_at (suc most) end left bytes =
    byte_at bytes >>= λ b.
    if nat_lt b.0 64 then Ok ((false, b.0), b.1) else
    if nat_lt b.0 128 then Ok ((true, 127 - b.0), b.1)
    else (signed_digits_at most end left b.1 >>= signed_with_high end left b.0)

abbrev pub with_sign : Bool → ℕ → ℤ
with_sign false size = pos size
with_sign true size = negsuc size

unfoldable pub integer_at : Reader ℤ
integer_at bytes = signed_digits_at 10 9223372036854775808 (length bytes) bytes >>= λ n. Ok
    (with_sign n.0.0 n.0.1, n.1)

-- ---- tables

-- so many, one after the other
unfoldable pub many_at : {A : Type 0} → Reader A → ℕ → Reader (List A)
many_at one zero bytes = Ok ([], bytes)
many_at one (suc n) bytes = do
  first ← one bytes
  others ← many_at one n first.1
  Ok (first.0 ∷ others.0, others.1)

unfoldable pub table_at : {A : Type 0} → Reader A → Reader (List A)
table_at one bytes = do
  n ← number_at bytes
  many_at one n.0 n.1

unfoldable pub text_at : Reader (List ℕ)
text_at bytes = do
  n ← within_at 0 TEXT_END bytes
  if nat_lt (length n.1) n.0 then Err (flaw 3 0) else Ok (take n.0 n.1, drop n.0 n.1)

unfoldable pub place_at : ℕ → Reader Place
place_at files bytes = do
  file ← within_at 0 files bytes
  line ← within_at 1 NUMBER_END file.1
  col ← within_at 1 NUMBER_END line.1
  Ok (record { file = file.0; line = line.0; col = col.0 }, col.1)

unfoldable pub function_at : ℕ → Reader Func
function_at ops bytes = do
  params ← number_at bytes
  locals ← within_at params.0 OPERATIONS_END params.1
  entry ← within_at 0 ops locals.1
  suspends ← within_at 0 2 entry.1
  Ok (
    record { params = params.0; locals = locals.0; entry = entry.0; suspends = suspends.0 == 1 },
    suspends.1,
  )

unfoldable pub class_at : ℕ → Reader Class
class_at functions bytes = do
  slots ← number_at bytes
  methods ← table_at (within_at 0 functions) slots.1
  Ok (record { slots = slots.0; methods = methods.0 }, methods.1)

-- a run may begin with a function that is there, and takes nothing or the inputs
abbrev pub may_begin : Option Func → Bool
may_begin None = false
may_begin (Some f) = nat_le f.params 1

unfoldable pub main_at : List Func → Reader ℕ
main_at functions bytes = number_at bytes >>= λ n. if may_begin (slice_get functions n.0) then Ok n
    else Err (flaw 5 (length bytes))

-- ---- operations

-- an operand of a kind, in the operation of index at
unfoldable pub operand_at : Sizes → ℕ → OperandKind → Reader ℕ
operand_at sizes at kind bytes = number_at bytes >>= λ n. if suits_kind sizes at kind n.0 then Ok n else Err (flaw 6 (length bytes))

abbrev pub parts : ℤ → ℕ → ℕ → ℕ → ℕ → Parts
parts integer a b c d = record { integer = integer; a = a; b = b; c = c; d = d }

unfoldable pub parts_at : Sizes → ℕ → Shape → Reader Parts
parts_at sizes at s.Bare bytes = Ok (parts (pos 0) 0 0 0 0, bytes)
parts_at sizes at s.Integer bytes = do
  n ← integer_at bytes
  Ok (parts n.0 0 0 0 0, n.1)
parts_at sizes at (s.One k) bytes = do
  a ← operand_at sizes at k bytes
  Ok (parts (pos 0) a.0 0 0 0, a.1)
parts_at sizes at (s.Two k l) bytes = do
  a ← operand_at sizes at k bytes
  b ← operand_at sizes at l a.1
  Ok (parts (pos 0) a.0 b.0 0 0, b.1)
parts_at sizes at (s.Three k l m) bytes = do
  a ← operand_at sizes at k bytes
  b ← operand_at sizes at l a.1
  c ← operand_at sizes at m b.1
  Ok (parts (pos 0) a.0 b.0 c.0 0, c.1)
parts_at sizes at (s.Four k l m n) bytes = do
  a ← operand_at sizes at k bytes
  b ← operand_at sizes at l a.1
  c ← operand_at sizes at m b.1
  d ← operand_at sizes at n c.1
  Ok (parts (pos 0) a.0 b.0 c.0 d.0, d.1)

-- the operation of a form; no form is there where the code is that of no operation
unfoldable pub form_at : Sizes → ℕ → ℕ → Option Form → Reader Op
form_at sizes at left None bytes = Err (flaw 6 left)
form_at sizes at left (Some form) bytes = do
  p ← parts_at sizes at (shape_of form) bytes
  Ok (made p.0 form, p.1)

-- the operation of index at, whose code is at most top
unfoldable pub op_at : Sizes → ℕ → ℕ → Reader Op
op_at sizes top at bytes = do
  code ← byte_at bytes
  if nat_lt top code.0 then Err (flaw 6 (length bytes)) else form_at sizes at (length bytes)
      (slice_get forms code.0) code.1

-- so many operations, from index at on
unfoldable pub ops_at : Sizes → ℕ → ℕ → ℕ → Reader (List Op)
ops_at sizes top at zero bytes = Ok ([], bytes)
ops_at sizes top at (suc n) bytes = do
  first ← op_at sizes top at bytes
  others ← ops_at sizes top (suc at) n first.1
  Ok (first.0 ∷ others.0, others.1)

-- ---- the image

-- the bytes behind a letter of the mark; left is how many there are from the mark on
unfoldable pub letter_at : ℕ → ℕ → List ℕ → Result (List ℕ) Flaw
letter_at letter left bytes = byte_at bytes >>= λ b. if b.0 == letter then Ok b.1 else Err
    (flaw 1 left)

-- the bytes behind the mark
abbrev pub mark_at : List ℕ → ℕ → List ℕ → Result (List ℕ) Flaw
mark_at [] left bytes = Ok bytes
mark_at (letter ∷ letters) left bytes = letter_at letter left bytes >>= mark_at letters left

unfoldable pub version_at : Reader ℕ
version_at bytes = byte_at bytes >>= λ b. if b.0 == 1 ||
    b.0 == 2 then Ok b else Err (flaw 2 (length bytes))

-- the greatest code of an operation
abbrev pub top_of : ℕ → ℕ
top_of version = if version == 1 then 63 else 66

-- the counts of files and of operations
unfoldable pub head_at : Reader (ℕ × ℕ × ℕ)
head_at bytes = do
  behind ← mark_at mark (length bytes) bytes
  version ← version_at behind
  files ← within_at 1 FILES_END version.1
  ops ← within_at 1 OPERATIONS_END files.1
  Ok ((version.0, files.0, ops.0), ops.1)

unfoldable pub tables_at : ℕ → ℕ → Reader Tables
tables_at files ops bytes = do
  texts ← table_at text_at bytes
  places ← table_at (place_at files) texts.1
  functions ← table_at (function_at ops) places.1
  classes ← table_at (class_at (length functions.0)) functions.1
  main ← main_at functions.0 classes.1
  Ok (
    record {
      texts = texts.0;
      places = places.0;
      functions = functions.0;
      classes = classes.0;
      main = main.0;
    },
    main.1,
  )

abbrev pub sizes_with : ℕ → Tables → Sizes
sizes_with ops tables = record {
  ops = ops;
  texts = length tables.texts;
  places = length tables.places;
  functions = length tables.functions;
  classes = length tables.classes;
}

abbrev pub code_with : ℕ → Tables → List Op → Code
code_with files tables ops = record {
  files = files;
  texts = tables.texts;
  places = tables.places;
  functions = tables.functions;
  classes = tables.classes;
  main = tables.main;
  ops = ops;
}

-- no bytes are left
abbrev pub ended : Code → List ℕ → Result Code Flaw
ended code [] = Ok code
ended code (b ∷ bytes) = Err (flaw 7 (length (b ∷ bytes)))

-- the code that the bytes spell, or the first failing place
unfoldable pub image_at : List ℕ → Result Code Flaw
image_at bytes = do
  head ← head_at bytes
  tables ← tables_at head.0.1 head.0.2 head.1
  ops ← ops_at (sizes_with head.0.2 tables.0) (top_of head.0.0) 0 head.0.2 tables.1
  ended (code_with head.0.1 tables.0 ops.0) ops.1

-- an answer tells what reading the bytes gives, unless memory ran out: a failing place by its
-- offset
abbrev pub Tells : List ℕ → Result Code ImageFault → Result Code Flaw → Type 0
Tells bytes (Ok code) read = read ≡ Ok code
Tells bytes (Err images.Memory) read = Unit {0}
Tells bytes (Err (images.Bad rule at)) read = (left : ℕ) × (read ≡ Err (flaw rule left)) ×
    (at ≡ length bytes - left)
