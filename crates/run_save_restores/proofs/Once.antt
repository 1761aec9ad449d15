-- A field of a saved run has one spelling in front of the same bytes.
use Rattle.std.proofs.Common.{◌≡◌, ℕ, List, [], length, Option, Some, None, subst}
use Rattle.task_tree.specs.declared.tasks.Role.{Role}
use Rattle.task_tree.specs.declared.tasks.Role.TheVariants.{Root, Arm, Behind}
use Rattle.verse_code.specs.declared.codes.Code.{Code}
use Rattle.verse_image.specs.Format.{Field, ◌⨾◌, byte, plain, number, integer, each, flag, version_of}
use Rattle.verse_image.proofs.NumberLaws.{spelled_once}
use Rattle.verse_image.proofs.TableLaws.{Once, once_then, once_number, once_plain, once_each}
use Rattle.verse_image.proofs.ImageLaws.{image_once}
use Rattle.verse_value.specs.Val.{Val, unit, falsity, truth, int, char, enum, object, event, task, some, array, mapping, tuple}
use Rattle.verse_value.specs.Val.{Vals, no_vals, more_vals, list_of, Pairs, no_pairs, more_pairs, entries_of}
use Rattle.verse_value.specs.declared.keys.Key.{Key}
use Rattle.verse_value.specs.declared.keys.Key.TheVariants as key
use Rattle.verse_value.specs.declared.runs.CellKind.{CellKind}
use Rattle.verse_value.specs.declared.runs.CellKind.TheVariants as cell
use Rattle.verse_value.specs.Store.{Cell}
use Rattle.verse_meaning_state.specs.State.{Given}
use Rattle.verse_meaning_state.specs.Waits.{Cause, till, never, done, heard}
use Rattle.verse_image.proofs.OperationLaws.{once_byte, once_nothing, once_integer}
use Rattle.run_save_shots.specs.Kept.{KeptFrame, KeptRest, leaf, group, KeptTask, Kept}
use Rattle.run_save_format.specs.Format.{wide, optional, list, maybe, key_field, value, values, pairs, cell_kind, cell_field, given}
use Rattle.run_save_format.specs.Format.{standing, frame, cause, rest_field, task_field, mark, imaged, numbers, fields}
use Rattle.run_save_format.specs.Faults.{OneSaved}

-- ---- numbers and lists

once_wide : (n : ℕ) → Once (wide n)
once_wide n a b rest h k = spelled_once h.1 k.1

once_optional : (o : Option ℕ) → Once (optional o)
once_optional None = once_byte 0
once_optional (Some n) = λ a b rest h k. spelled_once h.1 k.1

once_list : {A : Type 0} (f : A → Field) → ((x : A) → Once (f x)) → (xs : List A) → Once (list f xs)
once_list f h xs = once_then (wide (length xs)) (each f xs) (once_wide (length xs)) (once_each f h xs)

once_maybe : {A : Type 0} (f : A → Field) → ((x : A) → Once (f x)) → (o : Option A) → Once (maybe f o)
once_maybe f h None = once_byte 0
once_maybe f h (Some x) = once_then (byte 1) (f x) (once_byte 1) (h x)

-- a form's number, and one or two numbers
once_formed : (form n : ℕ) → Once (byte form ⨾ number n)
once_formed form n = once_then (byte form) (number n) (once_byte form) (once_number n)

once_form_of_two : (form n m : ℕ) → Once (byte form ⨾ number n ⨾ number m)
once_form_of_two form n m = once_then (byte form ⨾ number n) (number m) (once_formed form n) (once_number m)

-- ---- values

once_key : (k : Key) → Once (key_field k)
once_key (key.Int n) = once_then (byte 0) (integer n) (once_byte 0) (once_integer n)
once_key (key.Logic b) = once_then (byte 1) (byte (flag b)) (once_byte 1) (once_byte (flag b))
once_key (key.Char c) = once_then (byte 2) (wide c) (once_byte 2) (once_wide c)
once_key (key.Enum of at) = once_form_of_two 3 of at
once_key (key.Text bytes) =
    once_then (byte 4 ⨾ wide (length bytes)) (plain bytes)
    (once_then (byte 4) (wide (length bytes)) (once_byte 4) (once_wide (length bytes))) (once_plain bytes)

mutual
  once_value : (v : Val) → Once (value v)
  once_value unit = once_byte 0
  once_value falsity = once_byte 1
  once_value truth = once_byte 2
  once_value (int n) = once_then (byte 3) (integer n) (once_byte 3) (once_integer n)
  once_value (char c) = once_then (byte 4) (wide c) (once_byte 4) (once_wide c)
  once_value (enum of at) = once_form_of_two 5 of at
  once_value (object address) = once_formed 6 address
  once_value (event address) = once_formed 7 address
  once_value (task entry) = once_formed 8 entry
  once_value (some v) = once_then (byte 9) (value v) (once_byte 9) (once_value v)
  once_value (array vs) =
      once_then (byte 10 ⨾ wide (length (list_of vs))) (values vs)
      (once_then (byte 10) (wide (length (list_of vs))) (once_byte 10) (once_wide (length (list_of vs)))) (once_values vs)
  once_value (mapping ps) =
      once_then (byte 11 ⨾ wide (length (entries_of ps))) (pairs ps)
      (once_then (byte 11) (wide (length (entries_of ps))) (once_byte 11) (once_wide (length (entries_of ps)))) (once_pairs ps)
  once_value (tuple vs) =
      once_then (byte 12 ⨾ wide (length (list_of vs))) (values vs)
      (once_then (byte 12) (wide (length (list_of vs))) (once_byte 12) (once_wide (length (list_of vs)))) (once_values vs)

  once_values : (vs : Vals) → Once (values vs)
  once_values no_vals = once_nothing
  once_values (more_vals v vs) = once_then (value v) (values vs) (once_value v) (once_values vs)

  once_pairs : (ps : Pairs) → Once (pairs ps)
  once_pairs no_pairs = once_nothing
  once_pairs (more_pairs k v ps) =
      once_then (key_field k ⨾ value v) (pairs ps) (once_then (key_field k) (value v) (once_key k) (once_value v)) (once_pairs ps)

-- ---- cells and spawned entries

once_cell_kind : (kind : CellKind) → Once (cell_kind kind)
once_cell_kind cell.Var = once_byte 0
once_cell_kind cell.Event = once_byte 1
once_cell_kind (cell.Object class) = once_formed 2 class

once_cell : (c : Cell) → Once (cell_field c)
once_cell c = once_then (cell_kind c.kind) (list value c.slots) (once_cell_kind c.kind) (once_list value once_value c.slots)

once_given : (g : Given) → Once (given g)
once_given g = once_then (value g.value) (wide g.moment) (once_value g.value) (once_wide g.moment)

-- ---- tasks

once_standing : (parent : Option ℕ) (role : Role) (root : Option ℕ) → Once (standing parent role root)
once_standing None role root = once_optional root
once_standing (Some p) (Arm place) root = once_formed 0 place
once_standing (Some p) (Behind depth) root = once_formed 1 depth
once_standing (Some p) Root root = λ a b rest h k. absurd h

once_frame : (f : KeptFrame) → Once (frame f)
once_frame f =
    once_then (number f.place ⨾ list value f.locals ⨾ list value f.stack) (list number f.defers)
    (once_then (number f.place ⨾ list value f.locals) (list value f.stack)
    (once_then (number f.place) (list value f.locals) (once_number f.place) (once_list value once_value f.locals))
    (once_list value once_value f.stack)) (once_list number once_number f.defers)

once_cause : (c : Cause) → Once (cause c)
once_cause (till moment) = once_then (byte 0) (wide moment) (once_byte 0) (once_wide moment)
once_cause never = once_byte 1
once_cause (done entry) = once_formed 2 entry
once_cause (heard address) = once_formed 3 address

once_rest : (r : KeptRest) → Once (rest_field r)
once_rest (leaf n c) =
    once_then (byte 0 ⨾ wide n) (cause c) (once_then (byte 0) (wide n) (once_byte 0) (once_wide n)) (once_cause c)
once_rest (group arms) =
    once_then (byte 1) (list (maybe value) arms) (once_byte 1) (once_list (maybe value) (once_maybe value once_value) arms)

once_task : (t : KeptTask) → Once (task_field t)
once_task t =
    once_then (optional t.parent ⨾ standing t.parent t.role t.root ⨾ list frame t.frames) (rest_field t.rest)
    (once_then (optional t.parent ⨾ standing t.parent t.role t.root) (list frame t.frames)
    (once_then (optional t.parent) (standing t.parent t.role t.root) (once_optional t.parent) (once_standing t.parent t.role t.root))
    (once_list frame once_frame t.frames)) (once_rest t.rest)

-- ---- the saved run

once_image : (image : List ℕ) → Once (wide (length image) ⨾ plain image)
once_image image = once_then (wide (length image)) (plain image) (once_wide (length image)) (once_plain image)

once_imaged : (c : Code) → Once (imaged c)
once_imaged c a b rest h k =
    let same : h.0 ≡ k.0 = image_once (version_of c) c h.0 k.0 h.1 k.1 in
    once_image k.0 a b rest (subst (λ (w : List ℕ). (wide (length w) ⨾ plain w) a rest) same h.2) k.2

once_numbers : (s : Kept) → Once (numbers s)
once_numbers s =
    once_then (wide s.left ⨾ wide s.spent ⨾ wide s.now ⨾ wide s.next ⨾ wide s.bytes) (wide s.lines)
    (once_then (wide s.left ⨾ wide s.spent ⨾ wide s.now ⨾ wide s.next) (wide s.bytes)
    (once_then (wide s.left ⨾ wide s.spent ⨾ wide s.now) (wide s.next)
    (once_then (wide s.left ⨾ wide s.spent) (wide s.now)
    (once_then (wide s.left) (wide s.spent) (once_wide s.left) (once_wide s.spent))
    (once_wide s.now)) (once_wide s.next)) (once_wide s.bytes)) (once_wide s.lines)

once_fields : (c : Code) (s : Kept) → Once (fields c s)
once_fields c s =
    once_then (plain mark ⨾ imaged c ⨾ numbers s ⨾ list cell_field s.cells ⨾ list (maybe given) s.spawned) (list task_field s.tasks)
    (once_then (plain mark ⨾ imaged c ⨾ numbers s ⨾ list cell_field s.cells) (list (maybe given) s.spawned)
    (once_then (plain mark ⨾ imaged c ⨾ numbers s) (list cell_field s.cells)
    (once_then (plain mark ⨾ imaged c) (numbers s)
    (once_then (plain mark) (imaged c) (once_plain mark) (once_imaged c))
    (once_numbers s)) (once_list cell_field once_cell s.cells))
    (once_list (maybe given) (once_maybe given once_given) s.spawned)) (once_list task_field once_task s.tasks)

pub saved_once : OneSaved
saved_once c s a b h k = once_fields c s a b [] h.spelled k.spelled
