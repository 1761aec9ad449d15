-- What the lines of a listing give, and which rule a line breaks.
use Rattle.std.specs.Prelude.{ℕ, ◌+◌, ◌-◌, ◌*◌, ℤ, pos, Bool, true, false, not, ◌&&◌, ◌||◌, nat_lt}
use Rattle.std.specs.Prelude.{nat_le, ◌==◌, List, [], ◌∷◌}
use Rattle.std.specs.Prelude.{◌++◌, length, Option, Some, None, slice_get, Result, Ok, Err}
use Rattle.std.specs.Prelude.{if◌then◌else◌, codes}
use Rattle.verse_base.specs.declared.places.Place.{Place}
use Rattle.verse_code.specs.declared.operands.OperandKind.{OperandKind}
use Rattle.verse_code.specs.declared.operations.Op.{Op}
use Rattle.verse_code.specs.declared.shapes.Shape.{Shape}
use Rattle.verse_code.specs.declared.shapes.Shape.TheVariants as s
use Rattle.verse_code.specs.declared.shapes.Parts.{Parts}
use Rattle.verse_code.specs.declared.codes.Func.{Func}
use Rattle.verse_code.specs.declared.codes.Class.{Class}
use Rattle.verse_code.specs.declared.validity.Sizes.{Sizes}
use Rattle.verse_code.specs.Forms.{Form, forms, shape_of, made}
use Rattle.verse_code.specs.Validity.{suits_kind}
use Rattle.verse_listing_format.specs.Names.{is_same, code_named}
use Rattle.verse_listing_format.specs.Numbers.{Number, number_of}
use Rattle.verse_listing_format.specs.Format.{Word, Line}
use Rattle.verse_listing_lines.specs.declared.fields.TheConstants.{NUMBER_END, FILES_END}
use Rattle.verse_listing_lines.specs.declared.fields.TheConstants.{OPERATIONS_END, TEXT_END}
use Rattle.verse_listing_lines.specs.declared.tables.Tables.{Tables}
use Rattle.verse_listing_lines.specs.declared.tables.Keyword.{Keyword}
use Rattle.verse_listing_lines.specs.declared.tables.Keyword.TheVariants as k

-- what a line gives, or the rule that it breaks: 1 for L1, 2 for L2, 3 for L3, 4 for L4
infixl 10 ◌>>=◌
abbrev pub ◌>>=◌ : {A B : Type 0} → Result A ℕ → (A → Result B ℕ) → Result B ℕ
(Ok x) >>= f = f x
(Err rule) >>= f = Err rule

-- ---- lines and words

-- the pieces that end with this byte, and what stands behind the last of them
abbrev pub Pieces : Type 0
Pieces = List (List ℕ) × List ℕ

abbrev pub with_byte : ℕ → Pieces → Pieces
with_byte b ([], last) = ([], b ∷ last)
with_byte b (piece ∷ others, last) = ((b ∷ piece) ∷ others, last)

unfoldable pub pieces : ℕ → List ℕ → Pieces
pieces end [] = ([], [])
pieces end (b ∷ bytes) = if b == end then ([] ∷ (pieces end bytes).0, (pieces end bytes).1)
    else with_byte b (pieces end bytes)

-- the words of a line, with spaces between
abbrev pub words : List ℕ → Line
words line = (pieces 32 line).0 ++ (pieces 32 line).1 ∷ []

-- ---- fields

abbrev pub given : {A : Type 0} → ℕ → Option A → Result A ℕ
given rule None = Err rule
given rule (Some a) = Ok a

-- numbers, or L1 where a word is none
unfoldable pub numbers : List Word → Result (List Number) ℕ
numbers [] = Ok []
numbers (word ∷ others) = do
  first ← given 1 (number_of word)
  behind ← numbers others
  Ok (first ∷ behind)

-- a number from least on and below end
abbrev pub field : ℕ → ℕ → Number → Result ℕ ℕ
field least end (Some (pos n)) = if nat_le least n && nat_lt n end then Ok n else Err 3
field least end n = Err 3

abbrev pub only_field : ℕ → ℕ → List Number → Result ℕ ℕ
only_field least end (n ∷ []) = field least end n
only_field least end ns = Err 1

-- each is below end
unfoldable pub fields : ℕ → List Number → Result (List ℕ) ℕ
fields end [] = Ok []
fields end (n ∷ ns) = do
  first ← field 0 end n
  others ← fields end ns
  Ok (first ∷ others)

-- the numbers of a line that begins with this word
unfoldable pub numbers_behind : List ℕ → Line → Result (List Number) ℕ
numbers_behind keyword [] = Err 1
numbers_behind keyword (word ∷ others) = if is_same word keyword then numbers others else Err 1

-- ---- the first two lines

unfoldable pub files_of : Line → Result ℕ ℕ
files_of line = numbers_behind (codes "files") line >>= only_field 1 FILES_END

unfoldable pub ops_of : Line → Result ℕ ℕ
ops_of line = numbers_behind (codes "ops") line >>= only_field 1 OPERATIONS_END

-- ---- the lines of tables

-- what a lower hexadecimal digit is worth
abbrev pub digit_of : ℕ → Option ℕ
digit_of b =
    if nat_le 48 b && nat_le b 57 then Some (b - 48)
    else (if nat_le 97 b && nat_le b 102 then Some (b - 87) else None)

-- two digits for each byte
unfoldable pub bytes_of : Word → Result (List ℕ) ℕ
bytes_of [] = Ok []
bytes_of (high ∷ []) = Err 1
bytes_of (high ∷ low ∷ digits) = do
  h ← given 1 (digit_of high)
  l ← given 1 (digit_of low)
  bytes ← bytes_of digits
  Ok ((h * 16 + l) ∷ bytes)

abbrev pub short_text : List ℕ → Result (List ℕ) ℕ
short_text bytes = if nat_lt (length bytes) TEXT_END then Ok bytes else Err 3

-- an empty text has no word
unfoldable pub text_of : List Word → Result (List ℕ) ℕ
text_of [] = Ok []
text_of ([] ∷ others) = Err 1
text_of ((b ∷ digits) ∷ []) = bytes_of (b ∷ digits) >>= short_text
text_of ((b ∷ digits) ∷ next ∷ others) = Err 1

unfoldable pub place_of : ℕ → List Number → Result Place ℕ
place_of files (f ∷ l ∷ c ∷ []) = do
  file ← field 0 files f
  line ← field 1 NUMBER_END l
  col ← field 1 NUMBER_END c
  Ok (record { file = file; line = line; col = col })
place_of files ns = Err 1

unfoldable pub function_of : ℕ → List Number → Result Func ℕ
function_of ops (p ∷ l ∷ e ∷ s ∷ []) = do
  params ← field 0 NUMBER_END p
  locals ← field params OPERATIONS_END l
  entry ← field 0 ops e
  suspends ← field 0 2 s
  Ok (record { params = params; locals = locals; entry = entry; suspends = suspends == 1 })
function_of ops ns = Err 1

unfoldable pub class_of : ℕ → List Number → Result Class ℕ
class_of functions [] = Err 1
class_of functions (s ∷ ms) = do
  slots ← field 0 NUMBER_END s
  methods ← fields functions ms
  if nat_lt (length methods) NUMBER_END then Ok (record { slots = slots; methods = methods })
      else Err 3

-- a run may begin with a function that is there, and takes nothing or the inputs
abbrev pub may_begin : Option Func → Bool
may_begin None = false
may_begin (Some f) = nat_le f.params 1

unfoldable pub main_of : List Func → List Number → Result ℕ ℕ
main_of functions ns = only_field 0 NUMBER_END ns >>= λ n. if may_begin (slice_get functions n)
    then Ok n else Err 3

-- ---- the lines of operations

abbrev pub is_letter : ℕ → Bool
is_letter b = (nat_le 65 b && nat_le b 90) || (nat_le 97 b && nat_le b 122)

abbrev pub are_letters : Word → Bool
are_letters [] = true
are_letters (b ∷ bytes) = is_letter b && are_letters bytes

-- one letter or more
abbrev pub is_name : Word → Bool
is_name [] = false
is_name (b ∷ bytes) = are_letters (b ∷ bytes)

-- an operand of a kind, in the operation of index at, and the numbers behind it
unfoldable pub operand_at : Sizes → ℕ → OperandKind → List Number → Result (ℕ × List Number) ℕ
operand_at sizes at kind [] = Err 3
operand_at sizes at kind (n ∷ ns) =
    field 0 NUMBER_END n >>= λ a. if suits_kind sizes at kind a then Ok (a, ns) else Err 3

abbrev pub integer_at : List Number → Result (ℤ × List Number) ℕ
integer_at (Some n ∷ ns) = Ok (n, ns)
integer_at ns = Err 3

abbrev pub parts : ℤ → ℕ → ℕ → ℕ → ℕ → Parts
parts integer a b c d = record { integer = integer; a = a; b = b; c = c; d = d }

unfoldable pub parts_at : Sizes → ℕ → Shape → List Number → Result (Parts × List Number) ℕ
parts_at sizes at s.Bare ns = Ok (parts (pos 0) 0 0 0 0, ns)
parts_at sizes at s.Integer ns = do
  n ← integer_at ns
  Ok (parts n.0 0 0 0 0, n.1)
parts_at sizes at (s.One k) ns = do
  a ← operand_at sizes at k ns
  Ok (parts (pos 0) a.0 0 0 0, a.1)
parts_at sizes at (s.Two k l) ns = do
  a ← operand_at sizes at k ns
  b ← operand_at sizes at l a.1
  Ok (parts (pos 0) a.0 b.0 0 0, b.1)
parts_at sizes at (s.Three k l m) ns = do
  a ← operand_at sizes at k ns
  b ← operand_at sizes at l a.1
  c ← operand_at sizes at m b.1
  Ok (parts (pos 0) a.0 b.0 c.0 0, c.1)
parts_at sizes at (s.Four k l m n) ns = do
  a ← operand_at sizes at k ns
  b ← operand_at sizes at l a.1
  c ← operand_at sizes at m b.1
  d ← operand_at sizes at n c.1
  Ok (parts (pos 0) a.0 b.0 c.0 d.0, d.1)

-- no operand is left
abbrev pub all_taken : Parts × List Number → Result Parts ℕ
all_taken (p, []) = Ok p
all_taken (p, n ∷ ns) = Err 3

-- the operation of a form
unfoldable pub formed : Sizes → ℕ → Option Form → List Number → Result Op ℕ
formed sizes at None ns = Err 2
formed sizes at (Some form) ns = do
  taken ← parts_at sizes at (shape_of form) ns
  p ← all_taken taken
  Ok (made p form)

-- the operation of a code; no code is there where no operation has the name
unfoldable pub named : Sizes → ℕ → Option ℕ → List Number → Result Op ℕ
named sizes at None ns = Err 2
named sizes at (Some code) ns = formed sizes at (slice_get forms code) ns

abbrev pub is_index : ℕ → Number → Bool
is_index at (Some (pos n)) = n == at
is_index at n = false

-- the operation of index at: L1, then L4, L2 and L3
unfoldable pub op_of : Sizes → ℕ → Line → Result Op ℕ
op_of sizes at [] = Err 1
op_of sizes at (index ∷ []) = Err 1
op_of sizes at (index ∷ name ∷ operands) = do
  i ← given 1 (number_of index)
  ns ← numbers operands
  if not (is_name name) then Err 1
      else (if is_index at i then named sizes at (code_named name) ns else Err 4)

abbrev pub sizes_with : ℕ → Tables → Sizes
sizes_with ops t = record {
  ops = ops;
  texts = length t.texts;
  places = length t.places;
  functions = length t.functions;
  classes = length t.classes;
}

-- ---- the lines before the operations

abbrev pub no_tables : Tables
no_tables = record { texts = []; places = []; functions = []; classes = [] }

-- no table behind the texts has begun, behind the places, behind the functions
abbrev pub in_texts : Tables → Bool
in_texts t = length t.places == 0 && length t.functions == 0 && length t.classes == 0

abbrev pub in_places : Tables → Bool
in_places t = length t.functions == 0 && length t.classes == 0

abbrev pub in_functions : Tables → Bool
in_functions t = length t.classes == 0

-- an entry for which a table has room: the count of a table has 32 bits
abbrev pub with_room : {A B : Type 0} → List A → B → Result B ℕ
with_room entries entry = if nat_lt (length entries) 4294967295 then Ok entry else Err 3

unfoldable pub text_told : Tables → List Word → Result (List ℕ) ℕ
text_told t words = if in_texts t then (text_of words >>= with_room t.texts) else Err 1

unfoldable pub place_told : ℕ → Tables → List Word → Result Place ℕ
place_told files t words = if in_places t
    then (numbers words >>= place_of files >>= with_room t.places) else Err 1

unfoldable pub function_told : ℕ → Tables → List Word → Result Func ℕ
function_told ops t words = if in_functions t
    then (numbers words >>= function_of ops >>= with_room t.functions) else Err 1

unfoldable pub class_told : Tables → List Word → Result Class ℕ
class_told t words = numbers words >>= class_of (length t.functions) >>= with_room t.classes

unfoldable pub main_told : Tables → List Word → Result ℕ ℕ
main_told t words = numbers words >>= main_of t.functions

-- the tables, and the number of Main once it is told
abbrev pub Told : Type 0
Told = Tables × Option ℕ

abbrev pub with_text : Tables → List ℕ → Told
with_text t text = (record t { texts = t.texts ++ text ∷ [] }, None)

abbrev pub with_place : Tables → Place → Told
with_place t place = (record t { places = t.places ++ place ∷ [] }, None)

abbrev pub with_function : Tables → Func → Told
with_function t function = (record t { functions = t.functions ++ function ∷ [] }, None)

abbrev pub with_class : Tables → Class → Told
with_class t class = (record t { classes = t.classes ++ class ∷ [] }, None)

-- what a line tells, by its keyword
unfoldable pub told : ℕ → ℕ → Tables → Option Keyword → List Word → Result Told ℕ
told files ops t None words = Err 1
told files ops t (Some k.Text) words = text_told t words >>= λ text. Ok (with_text t text)
told files ops t (Some k.Place) words =
    place_told files t words >>= λ place. Ok (with_place t place)
told files ops t (Some k.Func) words =
    function_told ops t words >>= λ function. Ok (with_function t function)
told files ops t (Some k.Class) words = class_told t words >>= λ class. Ok (with_class t class)
told files ops t (Some k.Main) words = main_told t words >>= λ main. Ok (t, Some main)

abbrev pub keyword_of : Word → Option Keyword
keyword_of word =
    if is_same word (codes "text") then Some k.Text else
    (if is_same word (codes "place") then Some k.Place else
    (if is_same word (codes "func") then Some k.Func else
    (if is_same word (codes "class") then Some k.Class else
    (if is_same word (codes "main") then Some k.Main else None))))

abbrev pub table_line_of : ℕ → ℕ → Tables → Line → Result Told ℕ
table_line_of files ops t [] = Err 1
table_line_of files ops t (word ∷ others) = told files ops t (keyword_of word) others
