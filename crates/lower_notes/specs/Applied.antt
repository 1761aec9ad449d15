-- The states of a form that is applied to what its operands left on the stack, of names and of
-- what leaves.
use Rattle.std.specs.Prelude.{ℕ, zero, suc, Bool, true, false, nat_lt}
use Rattle.verse_tree.specs.declared.exprs.Operator.{Operator}
use Rattle.verse_tree.specs.declared.exprs.Operator.TheVariants as op
use Rattle.verse_sorts.specs.Sorts as s
use Rattle.verse_sorts.specs.Sorts.{Sort}
use Rattle.verse_meaning.specs.Residuals as form
use Rattle.verse_meaning.specs.Residuals.{Form, Base, in_variable, in_self, in_object, nowhere}
use Rattle.verse_meaning.specs.Residuals.{Binder, no_name, a_constant, a_variable}
use Rattle.lower_code.specs.declared.arounds.Around.{Around}
use Rattle.lower_code.specs.Scopes.{Scope, Found, fixed, varies, absent, find, this_found}
use Rattle.lower_notes.specs.States.{pops, gives, gets, puts}
use Rattle.lower_notes.specs.Stretches.{Walk, nothing, one, last, ends, leave_loop, leave, when}
use Rattle.lower_notes.specs.Stretches.{when_else, ◌then◌}

-- Names

abbrev pub read_found : Found → Walk
read_found (fixed l) = last
read_found (varies l) = one (gets l) then last
read_found absent = ends

abbrev pub read_this : Found → Walk
read_this (fixed l) = last
read_this (varies l) = ends
read_this absent = ends

abbrev pub field_of_this : Found → Walk
field_of_this (fixed l) = one (gets l) then last
field_of_this (varies l) = ends
field_of_this absent = ends

-- a local that something follows which needs it
abbrev pub push_fixed : Found → Walk
push_fixed (fixed l) = one (gets l)
push_fixed (varies l) = one (gives 0 s.unit)
push_fixed absent = one (gives 0 s.unit)

abbrev pub push_varies : Found → Walk
push_varies (fixed l) = one (gives 0 s.unit)
push_varies (varies l) = one (gets l)
push_varies absent = one (gives 0 s.unit)

abbrev pub base_walk : Base → Scope → Walk
base_walk (in_variable x) sc = push_varies (find x sc)
base_walk (in_self n) sc = push_fixed (this_found sc)
base_walk (in_object n) sc = one (gives 0 s.unit)
base_walk nowhere sc = one (gives 0 s.unit)

-- the operand on top goes into the local l, and stays
abbrev pub kept : (l : ℕ) → Sort → Walk
kept l a = one (puts l a) then one (gets l)

-- the value of a definition goes into the local l, and is of this sort from there on
abbrev pub bind : Binder → (l : ℕ) → Sort → Walk
bind no_name l a = nothing
bind (a_constant x) l a = kept l a
bind (a_variable x pl) l a = one (gives 1 (s.var a)) then kept l (s.var a) then one (gives 1 a)

-- the value that was written stays, where the operation would leave the place's: n operands are
-- beneath it
abbrev pub storing : (keeps : Bool) → (l n : ℕ) → (place value : Sort) → Walk
storing true l n a v = kept l v then one (gives (suc n) a) then one (pops 1) then last
storing false l n a v = last

-- Forms

abbrev pub computing : Operator → Walk
computing op.Add = last
computing op.Sub = last
computing op.Mul = last
computing op.And = nothing
computing op.Or = ends
computing op.Div = ends

-- the operands on top fall away, so many
abbrev pub dropping : ℕ → Walk → Walk
dropping zero f = f
dropping (suc n) f = one (pops 1) then dropping n f

-- with one operand, or two; otherwise the form is none
abbrev pub with_one : ℕ → Walk → Walk
with_one zero f = ends
with_one (suc zero) f = f
with_one (suc (suc n)) f = ends

abbrev pub with_two : ℕ → Walk → Walk
with_two zero f = ends
with_two (suc zero) f = ends
with_two (suc (suc zero)) f = f
with_two (suc (suc (suc n))) f = ends

-- without an index the value stays
abbrev pub indexing : ℕ → Walk
indexing zero = nothing
indexing (suc n) = dropping n last

-- without an argument the value is unit
abbrev pub signalling : ℕ → Walk
signalling zero = one (gives 0 s.unit) then last
signalling (suc n) = dropping n last

-- n operands are on the stack; `fits` is whether a called function takes them, or there is a `Self`
abbrev pub finish : Form → (n : ℕ) → (fits : Bool) → Walk
finish (form.computing x t pl) n fits = with_two n (computing x)
finish (form.comparing x) n fits = with_two n last
finish (form.negating pl) n fits = with_one n last
finish form.querying n fits = with_one n last
finish (form.reading k) n fits = with_one n last
finish form.measuring n fits = with_one n last
finish (form.making_tuple pl) n fits = last
finish (form.making_array pl) n fits = last
finish (form.making_map pl) n fits = last
finish (form.joining xs pl) n fits = last
finish (form.picking i) n fits = last
finish form.indexing n fits = indexing n
finish (form.calling f) n fits = when_else fits last
finish (form.calling_own m) n fits = when_else fits last
finish (form.calling_method m) n fits = last
finish (form.printing pl) n fits = with_one n last
finish (form.flooring pl) n fits = with_two n last
finish (form.ceiling pl) n fits = with_two n last
finish form.taking_modulo n fits = with_two n last
finish (form.awaiting t) n fits = dropping n last
finish form.signalling n fits = signalling n
finish (form.spawning f) n fits = when_else fits last
finish (form.spawning_own m) n fits = when_else fits last
finish (form.spawning_method m) n fits = last
finish (form.storing base mode pl) n fits = ends
finish (form.instancing class xs pl) n fits = ends
finish form.defining n fits = nothing
finish (form.varying pl) n fits = ends
finish form.returning n fits = with_one n ends
finish (form.choosing ts) n fits = ends
finish (form.appending v pl) n fits = ends

-- what stands before the operands: the object of one's own method
abbrev pub start : Form → Scope → Walk
start (form.calling_own m) sc = push_fixed (this_found sc)
start (form.spawning_own m) sc = push_fixed (this_found sc)
start f sc = nothing

-- What leaves

abbrev pub leaving_to : (n : ℕ) → Around → Walk
leaving_to n a = when (nat_lt n a.defers) (leave n)

-- a `return` with its value on the stack
abbrev pub returning : Around → Walk
returning a = leaving_to a.base a then ends

abbrev pub breaking : Around → Walk
breaking a = leaving_to a.floor a then when_else a.in_loop (leave_loop a.height)
