-- The text of a value.
use Rattle.std.specs.Prelude.{◌≡◌, ℕ, ◌+◌, ◌/◌, ◌%◌, Bool, ◌&&◌, not, nat_lt, nat_le, ◌==◌, List}
use Rattle.std.specs.Prelude.{[], ◌∷◌, ◌++◌, flat_map, codes, decimal}
use Rattle.std.specs.Prelude.{Option, Some, if◌then◌else◌}
use Rattle.std.specs.Fmt.{signed_decimal}
use Rattle.verse_value.specs.Val.{Val, unit, falsity, truth, int, char, enum, object, event, task}
use Rattle.verse_value.specs.Val.{some, array, mapping, tuple, Vals}
use Rattle.verse_value.specs.Val.{no_vals, more_vals, Pairs, no_pairs, more_pairs}
use Rattle.verse_value.specs.Keys.{bytes_of, key_of, key_val}
use Rattle.verse_value.specs.declared.keys.Key.{Key}
use Rattle.verse_value.specs.declared.keys.Key.TheVariants as key

abbrev pub hex_digit : ℕ → ℕ
hex_digit d = if nat_lt d 10 then 48 + d else 87 + d

abbrev pub hex_pair : ℕ → List ℕ
hex_pair b = hex_digit (b / 16) ∷ hex_digit (b % 16) ∷ []

-- printable, and neither a quote nor a backslash
abbrev pub plain : ℕ → Bool
plain b = nat_le 32 b && nat_le b 126 && not (b == 34) && not (b == 92)

abbrev pub escaped : ℕ → List ℕ
escaped b = if plain b then b ∷ [] else 92 ∷ 120 ∷ hex_pair b

abbrev pub quoted : List ℕ → List ℕ
quoted bytes = 34 ∷ (flat_map escaped bytes ++ 34 ∷ [])

-- an array of chars alone goes in quotes, but for the empty one
abbrev pub array_text : Option (List ℕ) → List ℕ → List ℕ
array_text (Some (b ∷ bytes)) parts = quoted (b ∷ bytes)
array_text other parts = codes "array{" ++ (parts ++ codes "}")

abbrev pub logic_text : Bool → List ℕ
logic_text b = if b then codes "true" else codes "false"

abbrev pub enum_text : ℕ → ℕ → List ℕ
enum_text of at = codes "#" ++ (decimal of ++ (codes "." ++ decimal at))

abbrev pub char_text : ℕ → List ℕ
char_text c = codes "0o" ++ hex_pair c

abbrev pub key_text : Key → List ℕ
key_text (key.Int n) = signed_decimal n
key_text (key.Logic b) = logic_text b
key_text (key.Char c) = char_text c
key_text (key.Enum of at) = enum_text of at
key_text (key.Text bytes) = array_text (Some bytes) []

abbrev pub entry_text : Key → List ℕ → List ℕ
entry_text k value = key_text k ++ (codes " => " ++ value)

abbrev mutual
  pub text_of : Val → List ℕ
  text_of unit = codes "()"
  text_of falsity = codes "false"
  text_of truth = codes "true"
  text_of (int n) = signed_decimal n
  text_of (char c) = char_text c
  text_of (enum of at) = enum_text of at
  text_of (object cell) = codes "@" ++ decimal cell
  text_of (event cell) = codes "!" ++ decimal cell
  text_of (task number) = codes "~" ++ decimal number
  text_of (some v) = codes "option{" ++ (text_of v ++ codes "}")
  text_of (array vs) = array_text (bytes_of vs) (list_text vs)
  text_of (mapping ps) = codes "map{" ++ (pairs_text ps ++ codes "}")
  text_of (tuple vs) = codes "(" ++ (list_text vs ++ codes ")")

  -- with commas between
  pub list_text : Vals → List ℕ
  list_text no_vals = []
  list_text (more_vals v vs) = text_of v ++ rest_text vs

  pub rest_text : Vals → List ℕ
  rest_text no_vals = []
  rest_text (more_vals v vs) = codes ", " ++ (text_of v ++ rest_text vs)

  pub pairs_text : Pairs → List ℕ
  pairs_text no_pairs = []
  pairs_text (more_pairs k v ps) = entry_text k (text_of v) ++ rest_pairs_text ps

  pub rest_pairs_text : Pairs → List ℕ
  rest_pairs_text no_pairs = []
  rest_pairs_text (more_pairs k v ps) =
      codes ", " ++ (entry_text k (text_of v) ++ rest_pairs_text ps)

abbrev pub map_text : Pairs → List ℕ
map_text ps = codes "map{" ++ (pairs_text ps ++ codes "}")

-- a key is the value that it stands for, and is printed as that value
pub record KeysAreValues : Type 0 where
  pub key : (k : Key) → key_of (key_val k) ≡ Some k
  pub text : (k : Key) → key_text k ≡ text_of (key_val k)
