-- The forms with operands, applied to their operands' values.
use Rattle.std.specs.Prelude.{ℕ, suc, pos, ◌+ℤ◌, int_le, List, [], ◌∷◌, ◌++◌, Option, Some, None}
use Rattle.std.specs.Prelude.{Bool, true, false, cond}
use Rattle.std.specs.Ordering.{int_eq}
use Rattle.verse_base.specs.declared.places.Place.{Place}
use Rattle.verse_tree.specs.Tree.{Bytes, Tree}
use Rattle.verse_tree.specs.ItemTree.{FieldTree}
use Rattle.verse_tree.specs.declared.exprs.Comparison.{Comparison}
use Rattle.verse_tree.specs.declared.exprs.Comparison.TheVariants as c
use Rattle.verse_tree.specs.declared.exprs.Operator.{Operator}
use Rattle.verse_tree.specs.declared.exprs.Operator.TheVariants as op
use Rattle.verse_value.specs.Val.{Val, Vals, no_vals, more_vals, Pairs, no_pairs, more_pairs, unit}
use Rattle.verse_value.specs.Val.{int, object, task, array, mapping}
use Rattle.verse_value.specs.Val.{tuple}
use Rattle.verse_value.specs.Keys.{key_val}
use Rattle.verse_value.specs.Answer.{Answer, gives, stuck}
use Rattle.verse_value.specs.Operations.{text_val, sum_of, difference_of, product_of, negation_of}
use Rattle.verse_value.specs.Operations.{floor_of, ceil_of, modulo_of, concat_of}
use Rattle.verse_value.specs.Operations.{join_of, less_of, at_most_of, greater_of, at_least_of}
use Rattle.verse_value.specs.Operations.{equal_of, unequal_of, array_of, map_of}
use Rattle.verse_value.specs.Operations.{tuple_of, query_of, item_of, at_of, length_of, append_of}
use Rattle.verse_value.specs.declared.modes.Mode.{Mode}
use Rattle.verse_meaning_state.specs.State.{Given}
use Rattle.verse_meaning_state.specs.Waits.{done, heard, nth}
use Rattle.verse_meaning_state.specs.Effects.{still, variable_made, object_made, slot_read}
use Rattle.verse_meaning_state.specs.Effects.{slot_written, line_printed, class_of, event_of}
use Rattle.verse_meaning_state.specs.Effects.{task_of}
use Rattle.verse_meaning_state.specs.Effects.{signal_sent}
use Rattle.verse_meaning.specs.Programs.{Program, same_name, method_at, fields_of}
use Rattle.verse_meaning.specs.Residuals as form
use Rattle.verse_meaning.specs.Residuals.{Env, Binding, Bound, constant, variable, Base}
use Rattle.verse_meaning.specs.Residuals.{in_variable, in_self, in_object, nowhere, Form, Binder}
use Rattle.verse_meaning.specs.Residuals.{no_name, a_constant, a_variable, Generator, of_elements}
use Rattle.verse_meaning.specs.Residuals.{of_entries, of_range, Values, listed}
use Rattle.verse_meaning.specs.Residuals.{between, Residual}
use Rattle.verse_meaning.specs.Outcomes.{World, Outcome, value, returned, halted, wrong, jammed}
use Rattle.verse_meaning.specs.Outcomes.{valued, told, told_plain, if_there}
use Rattle.verse_meaning.specs.Outcomes.{if_known, outside, suspended}

-- what is begun by a step: other trees, and other turns of one's own
pub record Deeper : Type 0 where
  -- a function, with `Self` and arguments, and whether a task may be suspended there
  pub calls : (function : ℕ) → Option Val → List Val → Bool → Env → World → Outcome
  -- a task of its own
  pub spawns : (function : ℕ) → Option Val → List Val → Env → World → Outcome
  -- the turns of a `loop`
  pub loops : (World → Outcome) → (Residual → Residual) → Env → World → Outcome
  -- the turns of a generator: what a value taken leads to with the results so far
  pub takes : (Val × Val → Val → World → Outcome) → (Values → Residual → Residual) → Env → Values →
      Val → World → Outcome
  -- a deferred block
  pub parts : Tree → Env → World → Outcome
  -- a default, as a function without parameters
  pub defaults : Tree → (m : Bool) → Env → World → Outcome

abbrev pub bound_to : Bytes → Bound → Env → Env
bound_to x b e = record { name = x; bound = b } ∷ e

abbrev pub look : Bytes → Env → Option Bound
look x [] = None
look x (b ∷ e) = cond (same_name x b.name) (Some b.bound) (look x e)

abbrev pub this_name : Bytes
this_name = 83 ∷ 101 ∷ 108 ∷ 102 ∷ []

abbrev pub constant_of : Option Bound → Option Val
constant_of None = None
constant_of (Some (constant v)) = Some v
constant_of (Some (variable c)) = None

abbrev pub variable_bound : Bytes → Val → Env → Env
variable_bound x (object c) e = bound_to x (variable c) e
variable_bound x v e = e

-- the object of the method
abbrev pub this_of : Env → Option Val
this_of e = constant_of (look this_name e)

abbrev pub cell_of : Option Bound → Option Val
cell_of None = None
cell_of (Some (constant v)) = None
cell_of (Some (variable c)) = Some (object c)

-- a name's value; a variable's is what its cell holds
abbrev pub read_bound : Option Bound → Place → Env → World → Outcome
read_bound None p e w = halted (wrong w.state)
read_bound (Some (constant v)) p e w = value e v w
read_bound (Some (variable c)) p e w = told (slot_read 0 (object c) w.state) p e w

abbrev pub read_slot_of : Option Val → ℕ → Place → Env → World → Outcome
read_slot_of None slot p e w = halted (wrong w.state)
read_slot_of (Some v) slot p e w = told (slot_read slot v w.state) p e w

-- `+` joins arrays and adds ints
abbrev pub plus_of : (of_arrays : Bool) → Val → Val → Answer Val
plus_of true a b = concat_of a b
plus_of false a b = sum_of a b

abbrev pub computed : Operator → (of_arrays : Bool) → Val → Val → Answer Val
computed op.And t a b = gives b
computed op.Add t a b = plus_of t a b
computed op.Sub t a b = difference_of a b
computed op.Mul t a b = product_of a b
computed op.Or t a b = stuck
computed op.Div t a b = stuck

abbrev pub compared : Comparison → Val → Val → Answer Val
compared c.Equal a b = equal_of a b
compared c.Differs a b = unequal_of a b
compared c.Below a b = less_of a b
compared c.AtMost a b = at_most_of a b
compared c.Above a b = greater_of a b
compared c.AtLeast a b = at_least_of a b

-- the place in a tuple, where its number is no literal: only what never has a value is accepted so
abbrev pub place_in : Option ℕ → ℕ
place_in None = 0
place_in (Some n) = n

-- keys and values in turn
abbrev pub paired : List Val → List (Val × Val)
paired [] = []
paired (k ∷ []) = []
paired (k ∷ v ∷ vs) = (k, v) ∷ paired vs

-- a piece of a text, where it is not empty
abbrev pub before_text : Bytes → List Val → List Val
before_text [] vs = vs
before_text (b ∷ bs) vs = text_val (b ∷ bs) ∷ vs

-- the pieces of a text with its holes' values between them
abbrev pub woven : List Bytes → List Val → List Val
woven [] vs = []
woven (x ∷ xs) [] = before_text x (woven xs [])
woven (x ∷ xs) (v ∷ vs) = before_text x (v ∷ woven xs vs)

-- the last of a list, and those before it
abbrev pub split_last : Val → List Val → List Val × Val
split_last v [] = ([], v)
split_last v (x ∷ xs) = (v ∷ (split_last x xs).0, (split_last x xs).1)

-- the value given to the field of a name
abbrev pub given_at : Bytes → List Bytes → List Val → Option Val
given_at x [] vs = None
given_at x (y ∷ ys) [] = None
given_at x (y ∷ ys) (v ∷ vs) = cond (same_name x y) (Some v) (given_at x ys vs)

-- a value that was taken, with its names
abbrev pub with_taken : Generator → Val × Val → Env → Env
with_taken (of_elements x) v e = bound_to x (constant v.0) e
with_taken (of_entries k x) v e = bound_to k (constant v.1) (bound_to x (constant v.0) e)
with_taken (of_range x) v e = bound_to x (constant v.0) e

abbrev pub elements_from : ℕ → Vals → List (Val × Val)
elements_from i no_vals = []
elements_from i (more_vals v vs) = (v, int (pos i)) ∷ elements_from (suc i) vs

abbrev pub entries_in : Pairs → List (Val × Val)
entries_in no_pairs = []
entries_in (more_pairs k v ps) = (v, key_val k) ∷ entries_in ps

-- the values of a generator's domain
abbrev pub domain_values : Val → Option Values
domain_values (array vs) = Some (listed (elements_from 0 vs))
domain_values (mapping ps) = Some (listed (entries_in ps))
domain_values v = None

-- those of a range, whose ends are a pair here
abbrev pub range_values : Val → Option Values
range_values (tuple (more_vals (int a) (more_vals (int b) no_vals))) = Some (between a b)
range_values v = None

abbrev pub values_of : Generator → Val → Option Values
values_of (of_elements x) v = domain_values v
values_of (of_entries k x) v = domain_values v
values_of (of_range x) v = range_values v

-- the next value with what is left behind it, where there is one
abbrev pub next_value : Values → Option ((Val × Val) × Values)
next_value (listed []) = None
next_value (listed (v ∷ vs)) = Some (v, listed vs)
next_value (between a b) = cond (int_le a b)
    (Some ((int a, unit), cond (int_eq a b) (listed []) (between (a +ℤ pos 1) b))) None

module _ (p : Program) (k : Deeper) where
  -- where `set` writes: the cell, the slot, and the operands behind the object
  abbrev pub written_to : Option Val → ℕ → List Val → Mode → Place → Env → World → Outcome
  written_to None slot vs m pl e w = halted (wrong w.state)
  written_to (Some c) slot [] m pl e w = halted (wrong w.state)
  written_to (Some c) slot (v ∷ vs) m pl e w =
      told (slot_written slot (split_last v vs).0 m (split_last v vs).1 c w.state) pl e w

  abbrev pub stored : Base → List Val → Mode → Place → Env → World → Outcome
  stored (in_variable x) vs m pl e w = written_to (cell_of (look x e)) 0 vs m pl e w
  stored (in_self slot) vs m pl e w = written_to (this_of e) slot vs m pl e w
  stored (in_object slot) [] m pl e w = halted (wrong w.state)
  stored (in_object slot) (o ∷ vs) m pl e w = written_to (Some o) slot vs m pl e w
  stored nowhere vs m pl e w = halted (wrong w.state)

  abbrev pub field_filled : Option Val → Option Tree → (m : Bool) → Env → World →
      (Residual → Residual) → (Val → World → Outcome) → Outcome
  field_filled (Some v) d m e w wrap go = go v w
  field_filled None None m e w wrap go = halted (wrong w.state)
  field_filled None (Some d) m e w wrap go = valued (k.defaults d m e w) wrap go

  -- the fields that are not given are their defaults, in their order; then the object is made
  abbrev pub filled : List FieldTree → List Bytes → List Val → (class : ℕ) → List Val → Place →
      (m : Bool) → Env → World → Outcome
  filled [] xs vs class slots pl m e w = told (object_made class slots w.state) pl e w
  filled (f ∷ fs) xs vs class slots pl m e w =
      field_filled (given_at f.name xs vs) f.default m e w (form.filling e class pl fs xs vs slots)
      (λ v w. filled fs xs vs class (slots ++ v ∷ []) pl m e w)

  -- a method of an object by its class
  abbrev pub method_found : Option ℕ → ℕ → Option ℕ
  method_found None m = None
  method_found (Some class) m = method_at p class m

  abbrev pub method_called : ℕ → Val → List Val → Bool → Env → World → Outcome
  method_called m o vs b e w = if_there (method_found (class_of o w.state) m) w
      (λ f. k.calls f (Some o) vs b e w)

  abbrev pub method_spawned : ℕ → Val → List Val → Env → World → Outcome
  method_spawned m o vs e w = if_there (method_found (class_of o w.state) m) w
      (λ f. k.spawns f (Some o) vs e w)

  -- the value of a finished task; otherwise the evaluation waits for it
  abbrev pub task_awaited : Option (Option Given) → ℕ → Env → World → Outcome
  task_awaited None entry e w = halted (jammed w.state)
  task_awaited (Some None) entry e w = suspended (done entry) e w
  task_awaited (Some (Some g)) entry e w = value e g.value w

  abbrev pub awaited : (of_event : Bool) → Val → Env → World → Outcome
  awaited false v e w = if_there (task_of v) w
      (λ entry. task_awaited (nth w.state.clock.results entry) entry e w)
  awaited true v e w = if_there (event_of v w.state) w (λ c. suspended (heard c) e w)

  abbrev pub signal_told : List Val → Val → Env → World → Outcome
  signal_told [] o e w = told_plain (signal_sent (event_of o w.state) unit w.state) e w
  signal_told (v ∷ vs) o e w = told_plain (signal_sent (event_of o w.state) v w.state) e w

  -- m is true where no failure context is open in the task. What is indexed, awaited or signalled
  -- takes its first arguments: with more, or with no index, it is accepted only where it never has
  -- a value.
  abbrev pub apply : Form → List Val → (m : Bool) → Env → World → Outcome
  apply (form.computing o t pl) (a ∷ b ∷ []) m e w = told (still (computed o t a b) w.state) pl e w
  apply (form.comparing o) (a ∷ b ∷ []) m e w = told_plain (still (compared o a b) w.state) e w
  apply (form.negating pl) (a ∷ []) m e w = told (still (negation_of a) w.state) pl e w
  apply form.querying (a ∷ []) m e w = told_plain (still (query_of a) w.state) e w
  apply (form.reading slot) (a ∷ []) m e w = told_plain (slot_read slot a w.state) e w
  apply form.measuring (a ∷ []) m e w = told_plain (still (length_of a) w.state) e w
  apply (form.making_tuple pl) vs m e w = told (still (tuple_of vs) w.state) pl e w
  apply (form.making_array pl) vs m e w = told (still (array_of vs) w.state) pl e w
  apply (form.making_map pl) vs m e w = told (still (map_of (paired vs)) w.state) pl e w
  apply (form.joining xs pl) vs m e w = told (still (join_of (woven xs vs)) w.state) pl e w
  apply (form.picking i) (a ∷ []) m e w = told_plain (still (item_of a (place_in i)) w.state) e w
  apply form.indexing (a ∷ []) m e w = value e a w
  apply form.indexing (a ∷ b ∷ vs) m e w = told_plain (still (at_of a b) w.state) e w
  apply (form.calling f) vs m e w = k.calls f None vs m e w
  apply (form.calling_own f) vs m e w = if_known (this_of e) w (λ o. method_called f o vs m e w)
  apply (form.calling_method f) (o ∷ vs) m e w = method_called f o vs m e w
  apply (form.printing pl) (a ∷ []) m e w = told (line_printed a w.state) pl e w
  apply (form.flooring pl) (a ∷ b ∷ []) m e w = told (still (floor_of a b) w.state) pl e w
  apply (form.ceiling pl) (a ∷ b ∷ []) m e w = told (still (ceil_of a b) w.state) pl e w
  apply form.taking_modulo (a ∷ b ∷ []) m e w = told_plain (still (modulo_of a b) w.state) e w
  apply (form.awaiting t) (a ∷ vs) m e w = outside m w (λ w. awaited t a e w)
  apply form.signalling (o ∷ vs) m e w = outside m w (λ w. signal_told vs o e w)
  apply (form.spawning f) vs m e w = outside m w (λ w. k.spawns f None vs e w)
  apply (form.spawning_own f) vs m e w =
      outside m w (λ w. if_known (this_of e) w (λ o. method_spawned f o vs e w))
  apply (form.spawning_method f) (o ∷ vs) m e w = outside m w (λ w. method_spawned f o vs e w)
  apply (form.storing b mode pl) vs m e w = stored b vs mode pl e w
  apply (form.instancing class xs pl) vs m e w = filled (fields_of p class) xs vs class [] pl m e w
  apply form.defining (a ∷ []) m e w = value e a w
  apply (form.varying pl) (a ∷ []) m e w =
      valued (told (variable_made a w.state) pl e w) (λ r. r) (λ c w. value e a w)
  apply form.returning (a ∷ []) m e w = returned a w
  apply (form.appending so_far pl) (a ∷ []) m e w = told (still (append_of so_far a) w.state) pl e w
  apply f vs m e w = halted (wrong w.state)

  -- a statement has given its value: its name is visible from then on
  unfoldable pub defined : Binder → Env → Val → World → (Env → Val → World → Outcome) → Outcome
  defined no_name e v w go = go e v w
  defined (a_constant x) e v w go = go (bound_to x (constant v) e) v w
  defined (a_variable x pl) e v w go =
      valued (told (variable_made v w.state) pl e w) (λ r. r) (λ c w. go (variable_bound x c e) v w)
