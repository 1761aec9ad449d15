-- The format of a listing, line by line.
use Rattle.std.specs.Prelude.{◌≡◌, ℕ, ◌≤◌, suc, ◌+◌, ◌/◌, ◌%◌, nat_lt, if◌then◌else◌, Bool, true}
use Rattle.std.specs.Prelude.{false, List, [], ◌∷◌, ◌++◌, length, map}
use Rattle.std.specs.Prelude.{All, codes, decimal}
use Rattle.std.specs.Fmt.{signed_decimal}
use Rattle.verse_base.specs.declared.places.Place.{Place}
use Rattle.verse_code.specs.declared.operands.Operand.{Operand}
use Rattle.verse_code.specs.declared.operands.Operands.{Operands}
use Rattle.verse_code.specs.declared.operands.Operands.TheVariants.{Bare, Integer, One, Two, Three}
use Rattle.verse_code.specs.declared.operands.Operands.TheVariants.{Four}
use Rattle.verse_code.specs.declared.operations.Op.{Op}
use Rattle.verse_code.specs.declared.codes.Func.{Func}
use Rattle.verse_code.specs.declared.codes.Class.{Class}
use Rattle.verse_code.specs.declared.codes.Code.{Code}
use Rattle.verse_code.specs.Operations.{operands_of}
use Rattle.verse_code.specs.Validity.{Valid}
use Rattle.verse_listing_format.specs.Names.{name_of}
use Rattle.verse_listing_format.specs.Numbers.{Fits}

-- ---- words

abbrev pub Word : Type 0
Word = List ℕ

-- 0 to 9, and then a to f
abbrev pub hex_digit : ℕ → ℕ
hex_digit d = if nat_lt d 10 then 48 + d else 87 + d

-- two lower hexadecimal digits for each byte
abbrev pub hex : List ℕ → Word
hex [] = []
hex (b ∷ bytes) = hex_digit (b / 16) ∷ hex_digit (b % 16) ∷ hex bytes

-- ---- lines, each by its words

abbrev pub Line : Type 0
Line = List Word

abbrev pub files_line : ℕ → Line
files_line n = codes "files" ∷ decimal n ∷ []

abbrev pub ops_line : ℕ → Line
ops_line n = codes "ops" ∷ decimal n ∷ []

abbrev pub text_line : List ℕ → Line
text_line [] = codes "text" ∷ []
text_line (b ∷ bytes) = codes "text" ∷ hex (b ∷ bytes) ∷ []

abbrev pub place_line : Place → Line
place_line p = codes "place" ∷ decimal p.file ∷ decimal p.line ∷ decimal p.col ∷ []

abbrev pub flag : Bool → ℕ
flag false = 0
flag true = 1

abbrev pub function_line : Func → Line
function_line f = codes "func" ∷ decimal f.params ∷ decimal f.locals ∷ decimal f.entry ∷
    decimal (flag f.suspends) ∷ []

abbrev pub class_line : Class → Line
class_line c = codes "class" ∷ decimal c.slots ∷ map decimal c.methods

abbrev pub main_line : ℕ → Line
main_line f = codes "main" ∷ decimal f ∷ []

abbrev pub operand : Operand → Word
operand a = decimal a.1

abbrev pub operands : Operands → List Word
operands Bare = []
operands (Integer n) = signed_decimal n ∷ []
operands (One a) = operand a ∷ []
operands (Two a b) = operand a ∷ operand b ∷ []
operands (Three a b c) = operand a ∷ operand b ∷ operand c ∷ []
operands (Four a b c d) = operand a ∷ operand b ∷ operand c ∷ operand d ∷ []

-- an operation by its index, its name, and its operands in their order
abbrev pub op_line : ℕ → Op → Line
op_line at op = decimal at ∷ name_of op ∷ operands (operands_of op)

-- ---- all lines

-- the lines of operations, of which the first has this index
abbrev pub op_lines : ℕ → List Op → List Line
op_lines at [] = []
op_lines at (op ∷ ops) = op_line at op ∷ op_lines (suc at) ops

abbrev pub table_lines : List (List ℕ) → List Place → List Func → List Class → List Line
table_lines texts places functions classes =
    map text_line texts ++ (map place_line places ++
    (map function_line functions ++ map class_line classes))

abbrev pub lines : Code → List Line
lines code =
    files_line code.files ∷ ops_line (length code.ops) ∷
    (table_lines code.texts code.places code.functions code.classes ++ main_line code.main ∷
    op_lines 0 code.ops)

-- ---- their text

-- one space separates words
abbrev pub spaced : Line → List ℕ
spaced [] = []
spaced (word ∷ []) = word
spaced (word ∷ next ∷ words) = word ++ 32 ∷ spaced (next ∷ words)

-- each line ends with a line feed
abbrev pub spelled : List Line → List ℕ
spelled [] = []
spelled (line ∷ others) = spaced line ++ 10 ∷ spelled others

-- ---- sizes

-- a number has 32 bits
abbrev pub IsNumber : ℕ → Type 0
IsNumber n = n ≤ 4294967295

abbrev pub AreBytes : List ℕ → Type 0
AreBytes text = All (λ b. b ≤ 255) text

abbrev pub IsSizedPlace : Place → Type 0
IsSizedPlace p = IsNumber p.line × IsNumber p.col

-- the number of Int has 64 bits
abbrev pub AreSized : Operands → Type 0
AreSized Bare = Unit {0}
AreSized (Integer n) = Fits n
AreSized (One a) = IsNumber a.1
AreSized (Two a b) = IsNumber a.1 × IsNumber b.1
AreSized (Three a b c) = IsNumber a.1 × IsNumber b.1 × IsNumber c.1
AreSized (Four a b c d) = IsNumber a.1 × IsNumber b.1 × IsNumber c.1 × IsNumber d.1

-- the numbers that validity does not bound have the bits of their fields
pub record IsSized (code : Code) : Type 0 where
  pub texts : All AreBytes code.texts
  pub places : All IsSizedPlace code.places
  pub classes : All (λ c. IsNumber c.slots) code.classes
  pub operations : All (λ op. AreSized (operands_of op)) code.ops

-- ---- the listing

-- the bytes are the listing of the code
pub record Listing (code : Code) (bytes : List ℕ) : Type 0 where
  pub valid : Valid code
  pub sized : IsSized code
  pub spelled : bytes ≡ spelled (lines code)
