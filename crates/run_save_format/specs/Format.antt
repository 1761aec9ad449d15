-- The format of a saved run, field by field.
use Rattle.std.specs.Prelude.{◌≡◌, ◌≢◌, ℕ, suc, ◌≤◌, All, List, [], ◌∷◌, ◌++◌, length, Option, Some}
use Rattle.std.specs.Prelude.{None}
use Rattle.task_tree.specs.declared.tasks.Role.{Role}
use Rattle.task_tree.specs.declared.tasks.Role.TheVariants.{Root, Arm, Behind}
use Rattle.verse_code.specs.declared.codes.Code.{Code}
use Rattle.verse_image.specs.Format.{Spelled, Field, ◌⨾◌, nothing, byte, plain, number, integer}
use Rattle.verse_image.specs.Format.{each, flag, Image, version_of}
use Rattle.verse_value.specs.Val.{Val, unit, falsity, truth, int, char, enum, object, event, task}
use Rattle.verse_value.specs.Val.{some, array, mapping, tuple}
use Rattle.verse_value.specs.Val.{Vals, no_vals, more_vals, list_of, Pairs, no_pairs, more_pairs}
use Rattle.verse_value.specs.Val.{entries_of}
use Rattle.verse_value.specs.declared.keys.Key.{Key}
use Rattle.verse_value.specs.declared.keys.Key.TheVariants as key
use Rattle.verse_value.specs.declared.runs.CellKind.{CellKind}
use Rattle.verse_value.specs.declared.runs.CellKind.TheVariants as cell
use Rattle.verse_value.specs.Store.{Cell}
use Rattle.verse_meaning_state.specs.State.{Given}
use Rattle.verse_meaning_state.specs.Waits.{Cause, till, never, done, heard}
use Rattle.run_save_shots.specs.Kept.{KeptFrame, KeptRest, leaf, group, KeptTask, Kept}
use Rattle.run_save_shots.specs.Fitting.{Fits}

-- ---- numbers and lists

-- a number of 64 bits
abbrev pub wide : ℕ → Field
wide n bytes rest = (n ≤ 18446744073709551615) × Spelled n bytes rest

-- 0 for none, otherwise the number of 32 bits and 1 more
abbrev pub optional : Option ℕ → Field
optional None = byte 0
optional (Some n) = λ bytes rest. (n ≤ 4294967295) × Spelled (suc n) bytes rest

-- how many, and then each
abbrev pub list : {A : Type 0} → (A → Field) → List A → Field
list f xs = wide (length xs) ⨾ each f xs

-- 0 for none, otherwise 1 and what is there
abbrev pub maybe : {A : Type 0} → (A → Field) → Option A → Field
maybe f None = byte 0
maybe f (Some x) = byte 1 ⨾ f x

-- ---- values

-- a form's number, and then its parts
abbrev pub key_field : Key → Field
key_field (key.Int n) = byte 0 ⨾ integer n
key_field (key.Logic b) = byte 1 ⨾ byte (flag b)
key_field (key.Char c) = byte 2 ⨾ wide c
key_field (key.Enum of at) = byte 3 ⨾ number of ⨾ number at
key_field (key.Text bytes) = byte 4 ⨾ wide (length bytes) ⨾ plain bytes

abbrev mutual
  pub value : Val → Field
  value unit = byte 0
  value falsity = byte 1
  value truth = byte 2
  value (int n) = byte 3 ⨾ integer n
  value (char c) = byte 4 ⨾ wide c
  value (enum of at) = byte 5 ⨾ number of ⨾ number at
  value (object address) = byte 6 ⨾ number address
  value (event address) = byte 7 ⨾ number address
  value (task entry) = byte 8 ⨾ number entry
  value (some v) = byte 9 ⨾ value v
  value (array vs) = byte 10 ⨾ wide (length (list_of vs)) ⨾ values vs
  value (mapping ps) = byte 11 ⨾ wide (length (entries_of ps)) ⨾ pairs ps
  value (tuple vs) = byte 12 ⨾ wide (length (list_of vs)) ⨾ values vs

  pub values : Vals → Field
  values no_vals = nothing
  values (more_vals v vs) = value v ⨾ values vs

  -- each key, and behind it its value
  pub pairs : Pairs → Field
  pairs no_pairs = nothing
  pairs (more_pairs k v ps) = key_field k ⨾ value v ⨾ pairs ps

-- ---- cells and spawned entries

abbrev pub cell_kind : CellKind → Field
cell_kind cell.Var = byte 0
cell_kind cell.Event = byte 1
cell_kind (cell.Object class) = byte 2 ⨾ number class

abbrev pub cell_field : Cell → Field
cell_field c = cell_kind c.kind ⨾ list value c.slots

abbrev pub given : Given → Field
given g = value g.value ⨾ wide g.moment

-- ---- tasks

-- without a parent the root, with one the role
abbrev pub standing : Option ℕ → Role → Option ℕ → Field
standing None role root = optional root
standing (Some p) (Arm place) root = byte 0 ⨾ number place
standing (Some p) (Behind depth) root = byte 1 ⨾ number depth
standing (Some p) Root root = λ bytes rest. ⊥

abbrev pub frame : KeptFrame → Field
frame f = number f.place ⨾ list value f.locals ⨾ list value f.stack ⨾ list number f.defers

abbrev pub cause : Cause → Field
cause (till moment) = byte 0 ⨾ wide moment
cause never = byte 1
cause (done entry) = byte 2 ⨾ number entry
cause (heard address) = byte 3 ⨾ number address

abbrev pub rest_field : KeptRest → Field
rest_field (leaf n c) = byte 0 ⨾ wide n ⨾ cause c
rest_field (group arms) = byte 1 ⨾ list (maybe value) arms

abbrev pub task_field : KeptTask → Field
task_field t = optional t.parent ⨾ standing t.parent t.role t.root ⨾ list frame t.frames ⨾
    rest_field t.rest

-- ---- the saved run

-- VSSV and the version
abbrev pub mark : List ℕ
mark = 86 ∷ 83 ∷ 83 ∷ 86 ∷ 1 ∷ []

-- the length of the code's image, as it is written, and its bytes
abbrev pub imaged : Code → Field
imaged code bytes rest = (image : List ℕ) × Image (version_of code) code image ×
    (wide (length image) ⨾ plain image) bytes rest

abbrev pub numbers : Kept → Field
numbers s = wide s.left ⨾ wide s.spent ⨾ wide s.now ⨾ wide s.next ⨾ wide s.bytes ⨾ wide s.lines

-- the fields in their order
abbrev pub fields : Code → Kept → Field
fields code s =
    plain mark ⨾ imaged code ⨾ numbers s ⨾ list cell_field s.cells ⨾ list (maybe given) s.spawned ⨾
    list task_field s.tasks

-- the bytes are the saved run of the code of which this is kept
pub record Saved (code : Code) (s : Kept) (bytes : List ℕ) : Type 0 where
  pub fits : Fits code s
  pub spelled : fields code s bytes []

-- ---- files

-- `= saved `
abbrev pub saved_word : List ℕ
saved_word = 61 ∷ 32 ∷ 115 ∷ 97 ∷ 118 ∷ 101 ∷ 100 ∷ 32 ∷ []

-- a line without its line feed
abbrev pub IsLine : List ℕ → Type 0
IsLine line = All (λ b. b ≢ 10) line

abbrev pub Begins : List ℕ → List ℕ → Type 0
Begins word line = (more : List ℕ) × (line ≡ word ++ more)

-- bytes stand behind the first line that begins with the word
pub data StandsBehind : List ℕ → List ℕ → Type 0 where
  this_line : {line bytes : List ℕ} → IsLine line → Begins saved_word line →
      StandsBehind (line ++ 10 ∷ bytes) bytes
  later_line : {line file bytes : List ℕ} → IsLine line → (Begins saved_word line → ⊥) →
      StandsBehind file bytes → StandsBehind (line ++ 10 ∷ file) bytes

-- the file has the saved run behind such a line
pub record SavedFile (code : Code) (s : Kept) (file : List ℕ) : Type 0 where
  pub bytes : List ℕ
  pub behind : StandsBehind file bytes
  pub saved : Saved code s bytes
