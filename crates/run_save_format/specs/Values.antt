-- Reading values of a saved run, up to the first failing place.
use Rattle.std.specs.Prelude.{ℕ, zero, suc, ◌+◌, ◌==◌, nat_lt, nat_le, Bool, true, ◌&&◌, List, []}
use Rattle.std.specs.Prelude.{◌∷◌, length, take, drop}
use Rattle.std.specs.Prelude.{Option, Some, None, slice_get, Result, Ok, Err, if◌then◌else◌}
use Rattle.verse_image.specs.declared.faults.Flaw.{Flaw}
use Rattle.verse_image.specs.Reading.{◌>>=◌, Reader, flaw, digits_at, integer_at}
use Rattle.verse_value.specs.Val.{Val, unit, falsity, truth, int, char, enum, object, event, task}
use Rattle.verse_value.specs.Val.{some, array, mapping, tuple, vals}
use Rattle.verse_value.specs.Val.{Pairs, no_pairs}
use Rattle.verse_value.specs.declared.keys.Key.{Key}
use Rattle.verse_value.specs.declared.keys.Key.TheVariants as key
use Rattle.verse_value.specs.Entries.{key_place}
use Rattle.verse_value.specs.Parts.{keys_in}
use Rattle.verse_value.specs.Places.{with_last}
use Rattle.verse_value.specs.declared.sizes.TheConstants.{MOST_WEIGHT, MOST_LEVELS}
use Rattle.verse_value.specs.declared.sizes.TheConstants.{MOST_STORE_WEIGHT}
use Rattle.run_save_format.specs.declared.forms.KeyForm.{KeyForm}
use Rattle.run_save_format.specs.declared.forms.KeyForm.TheVariants as of_key
use Rattle.run_save_format.specs.declared.forms.ValueForm.{ValueForm}
use Rattle.run_save_format.specs.declared.forms.ValueForm.TheVariants as of_value
use Rattle.run_save_format.specs.declared.weights.Where.{Where}
use Rattle.run_save_format.specs.declared.weights.Where.TheVariants.{Cell, Among}
use Rattle.run_save_format.specs.declared.weights.Load.{Load}

-- ---- numbers

unfoldable pub wide_at : Reader ℕ
wide_at bytes = digits_at 10 18446744073709551616 (length bytes) bytes

-- a number from the least to the most; with any other the rule fails at the number
unfoldable pub number_in : (rule least most : ℕ) → Reader ℕ
number_in rule least most bytes =
    wide_at bytes >>= λ n. if nat_le least n.0 &&
    nat_le n.0 most then Ok n else Err (flaw rule (length bytes))

-- 0 or 1
abbrev pub flag_at : Reader ℕ
flag_at = number_in 4 0 1

-- a number of 32 bits
abbrev pub small_at : Reader ℕ
small_at = number_in 4 0 4294967295

-- and one that a test lets through
unfoldable pub small_where : (ℕ → Bool) → Reader ℕ
small_where test bytes = small_at bytes >>= λ n. if test n.0 then Ok n else Err
    (flaw 5 (length bytes))

abbrev pub none_or : ℕ → Option ℕ
none_or zero = None
none_or (suc n) = Some n

-- none, or a number of 32 bits
unfoldable pub optional_at : Reader (Option ℕ)
optional_at bytes = number_in 4 0 4294967296 bytes >>= λ n. Ok (none_or n.0, n.1)

abbrev pub chosen : {A : Type 0} → (left : ℕ) → Option A → Result A Flaw
chosen left None = Err (flaw 4 left)
chosen left (Some x) = Ok x

-- one of these forms, by its number
unfoldable pub choice_at : {A : Type 0} → List A → Reader A
choice_at forms bytes = do
  n ← wide_at bytes
  form ← chosen (length bytes) (slice_get forms n.0)
  Ok (form, n.1)

-- ---- lists

-- so many, each from what was read before it; what is read last stands last
unfoldable pub each_at : {A S : Type 0} → (S → Reader (A × S)) → ℕ → S → Reader (List A × S)
each_at one zero s bytes = Ok (([], s), bytes)
each_at one (suc n) s bytes = do
  first ← one s bytes
  others ← each_at one n first.0.1 first.1
  Ok ((first.0.0 ∷ others.0.0, others.0.1), others.1)

-- ---- weights

-- a part of this weight more: past the limit of all cells it fails at the cell, past that of a
-- value at the part
abbrev pub weighed : Where → (left weight : ℕ) → Load → Result Load Flaw
weighed (Cell cell) left weight load =
    if nat_lt MOST_STORE_WEIGHT (load.cells + weight) then Err (flaw 5 cell) else
    if nat_lt MOST_WEIGHT (load.value + weight) then Err (flaw 5 left) else
    Ok (record { value = load.value + weight; cells = load.cells + weight })
weighed (Among entries) left weight load =
    if nat_lt MOST_WEIGHT (load.value + weight) then Err (flaw 5 left) else
    Ok (record { value = load.value + weight; cells = load.cells })

-- the form of a part, which weighs 1
unfoldable pub part_at : {A : Type 0} → List A → Where → Load → Reader (A × Load)
part_at forms w load bytes = do
  form ← choice_at forms bytes
  more ← weighed w (length bytes) 1 load
  Ok ((form.0, more), form.1)

-- from the weight so far on
abbrev pub Parts : Type 0 → Type 0
Parts A = Load → Reader (A × Load)

-- ---- keys

abbrev pub key_forms : List KeyForm
key_forms = of_key.Int ∷ of_key.Logic ∷ of_key.Char ∷ of_key.Enum ∷ of_key.Text ∷ []

-- a text, whose key begins where so many bytes are left
unfoldable pub text_key_at : Where → (left : ℕ) → Parts Key
text_key_at w left load bytes = do
  n ← wide_at bytes
  more ← weighed w left n.0 load
  if nat_lt (length n.1) n.0 then Err (flaw 3 0)
      else Ok ((key.Text (take n.0 n.1), more), drop n.0 n.1)

unfoldable pub enum_key_at : Parts Key
enum_key_at load bytes = do
  of ← small_at bytes
  at ← small_at of.1
  Ok ((key.Enum of.0 at.0, load), at.1)

-- the key of a form
unfoldable pub key_form_at : Where → (left : ℕ) → KeyForm → Parts Key
key_form_at w left of_key.Int load bytes = integer_at bytes >>= λ n. Ok ((key.Int n.0, load), n.1)
key_form_at w left of_key.Logic load bytes =
    flag_at bytes >>= λ n. Ok ((key.Logic (n.0 == 1), load), n.1)
key_form_at w left of_key.Char load bytes =
    number_in 5 0 255 bytes >>= λ n. Ok ((key.Char n.0, load), n.1)
key_form_at w left of_key.Enum load bytes = enum_key_at load bytes
key_form_at w left of_key.Text load bytes = text_key_at w left load bytes

-- a key; it fails where no level is left
unfoldable pub key_at : Where → (levels : ℕ) → Parts Key
key_at w levels load bytes = do
  part ← part_at key_forms w load bytes
  if levels == 0 then Err (flaw 5 (length bytes))
      else key_form_at w (length bytes) part.0.0 part.0.1 part.1

-- ---- values

abbrev pub value_forms : List ValueForm
value_forms =
    of_value.Unit ∷ of_value.False ∷ of_value.True ∷ of_value.Int ∷ of_value.Char ∷ of_value.Enum ∷
    of_value.Object ∷ of_value.Event ∷ of_value.Task ∷ of_value.Option ∷ of_value.Array ∷
    of_value.Map ∷ of_value.Tuple ∷ []

unfoldable pub int_at : Parts Val
int_at load bytes = integer_at bytes >>= λ n. Ok ((int n.0, load), n.1)

unfoldable pub char_at : Parts Val
char_at load bytes = number_in 5 0 255 bytes >>= λ n. Ok ((char n.0, load), n.1)

unfoldable pub enum_at : Parts Val
enum_at load bytes = do
  of ← small_at bytes
  at ← small_at of.1
  Ok ((enum of.0 at.0, load), at.1)

unfoldable pub object_at : Parts Val
object_at load bytes = small_at bytes >>= λ n. Ok ((object n.0, load), n.1)

unfoldable pub event_at : Parts Val
event_at load bytes = small_at bytes >>= λ n. Ok ((event n.0, load), n.1)

-- a task names an entry; in a cell that is asked later
abbrev pub may_name : Where → ℕ → Bool
may_name (Cell left) n = true
may_name (Among entries) n = nat_lt n entries

unfoldable pub task_at : Where → Parts Val
task_at w load bytes = small_where (may_name w) bytes >>= λ n. Ok ((task n.0, load), n.1)

-- how many, and then each
unfoldable pub parts_at : Parts Val → Parts (List Val)
parts_at part load bytes = wide_at bytes >>= λ n. each_at part n.0 load n.1

unfoldable pub option_at : Parts Val → Parts Val
option_at part load bytes = part load bytes >>= λ v. Ok ((some v.0.0, v.0.1), v.1)

unfoldable pub array_at : Parts Val → Parts Val
array_at part load bytes = parts_at part load bytes >>= λ vs. Ok
    ((array (vals vs.0.0), vs.0.1), vs.1)

unfoldable pub tuple_at : Parts Val → Parts Val
tuple_at part load bytes = parts_at part load bytes >>= λ vs. Ok
    ((tuple (vals vs.0.0), vs.0.1), vs.1)

-- a value at a key behind these pairs, whose first byte has so many left
abbrev pub pair_with : Parts Val → (before : Pairs) → (left : ℕ) → Key → Option ℕ → Parts Pairs
pair_with part before left k (Some place) load bytes = Err (flaw 5 left)
pair_with part before left k None load bytes =
    part load bytes >>= λ v. Ok ((with_last before k v.0.0, v.0.1), v.1)

-- one more pair, whose key is none of those before
unfoldable pub pair_at : Where → (levels : ℕ) → Parts Val → (before : Pairs) → Parts Pairs
pair_at w levels part before load bytes = do
  k ← key_at w levels load bytes
  pair_with part before (length bytes) k.0.0 (key_place k.0.0 (keys_in before)) k.0.1 k.1

-- so many more
unfoldable pub pairs_from : Where → (levels : ℕ) → Parts Val → ℕ → (before : Pairs) → Parts Pairs
pairs_from w levels part zero before load bytes = Ok ((before, load), bytes)
pairs_from w levels part (suc n) before load bytes = do
  more ← pair_at w levels part before load bytes
  pairs_from w levels part n more.0.0 more.0.1 more.1

unfoldable pub pairs_at : Where → (levels : ℕ) → Parts Val → Parts Pairs
pairs_at w levels part load bytes =
    wide_at bytes >>= λ n. pairs_from w levels part n.0 no_pairs load n.1

unfoldable pub map_at : Where → (levels : ℕ) → Parts Val → Parts Val
map_at w levels part load bytes =
    pairs_at w levels part load bytes >>= λ ps. Ok ((mapping ps.0.0, ps.0.1), ps.1)

-- the value of a form, in whose parts so many levels are left
unfoldable pub value_form_at : Where → (levels : ℕ) → Parts Val → ValueForm → Parts Val
value_form_at w levels part of_value.Unit load bytes = Ok ((unit, load), bytes)
value_form_at w levels part of_value.False load bytes = Ok ((falsity, load), bytes)
value_form_at w levels part of_value.True load bytes = Ok ((truth, load), bytes)
value_form_at w levels part of_value.Int load bytes = int_at load bytes
value_form_at w levels part of_value.Char load bytes = char_at load bytes
value_form_at w levels part of_value.Enum load bytes = enum_at load bytes
value_form_at w levels part of_value.Object load bytes = object_at load bytes
value_form_at w levels part of_value.Event load bytes = event_at load bytes
value_form_at w levels part of_value.Task load bytes = task_at w load bytes
value_form_at w levels part of_value.Option load bytes = option_at part load bytes
value_form_at w levels part of_value.Array load bytes = array_at part load bytes
value_form_at w levels part of_value.Map load bytes = map_at w levels part load bytes
value_form_at w levels part of_value.Tuple load bytes = tuple_at part load bytes

-- a value of at most so many levels; past them it fails at its first byte
unfoldable pub part_value_at : Where → (levels : ℕ) → Parts Val
part_value_at w zero load bytes =
    part_at value_forms w load bytes >>= λ part. Err (flaw 5 (length bytes))
part_value_at w (suc levels) load bytes = do
  part ← part_at value_forms w load bytes
  value_form_at w levels (part_value_at w levels) part.0.0 part.0.1 part.1

-- a whole value, where the cells read so far weigh so much
unfoldable pub value_at : Where → ℕ → Reader (Val × ℕ)
value_at w cells bytes = part_value_at w MOST_LEVELS (record { value = 0; cells = cells }) bytes >>=
    λ v. Ok ((v.0.0, v.0.1.cells), v.1)

unfoldable pub values_at : Where → ℕ → Reader (List Val × ℕ)
values_at w cells bytes = wide_at bytes >>= λ n. each_at (value_at w) n.0 cells n.1
