-- The operations of a form that is applied to what its operands left on the stack.
use Rattle.std.specs.Prelude.{ℕ, zero, suc, Bool, true, false}
use Rattle.verse_base.specs.declared.places.Place.{Place}
use Rattle.verse_tree.specs.declared.exprs.Comparison.{Comparison}
use Rattle.verse_tree.specs.declared.exprs.Comparison.TheVariants as c
use Rattle.verse_tree.specs.declared.exprs.Operator.{Operator}
use Rattle.verse_tree.specs.declared.exprs.Operator.TheVariants as op
use Rattle.verse_code.specs.declared.operations.Op.{Op}
use Rattle.verse_code.specs.declared.operations.Op.TheVariants as o
use Rattle.verse_value.specs.declared.modes.Mode.{Mode}
use Rattle.verse_value.specs.declared.modes.Mode.TheVariants as mode
use Rattle.verse_meaning.specs.Forms.{place_in}
use Rattle.verse_meaning.specs.Residuals as form
use Rattle.verse_meaning.specs.Residuals.{Form, Base, in_variable, in_self, in_object, nowhere}
use Rattle.lower_code.specs.declared.arounds.Around.{Around}
use Rattle.lower_code.specs.Pieces.{Maker, nothing, one, placed, kept, stuck, when_else, ◌then◌}
use Rattle.lower_code.specs.Scopes.{Scope, this_found, push_fixed}
use Rattle.lower_code.specs.Arounds.{up}

-- b is whether it is arrays that are added
abbrev pub computing : Operator → Place → (b : Bool) → Maker
computing op.Add pl true = placed pl o.Concat
computing op.Add pl false = placed pl o.Add
computing op.Sub pl b = placed pl o.Sub
computing op.Mul pl b = placed pl o.Mul
computing op.And pl b = nothing
computing op.Or pl b = stuck
computing op.Div pl b = stuck

abbrev pub comparing : Comparison → Op
comparing c.Equal = o.Eq
comparing c.Differs = o.Ne
comparing c.Below = o.Lt
comparing c.AtMost = o.Le
comparing c.Above = o.Gt
comparing c.AtLeast = o.Ge

abbrev pub mode_number : Mode → ℕ
mode_number mode.Set = 0
mode_number mode.Add = 1
mode_number mode.Sub = 2
mode_number mode.Mul = 3

abbrev pub slot_of : Base → ℕ
slot_of (in_variable x) = 0
slot_of (in_self n) = n
slot_of (in_object n) = n
slot_of nowhere = 0

-- b is whether it is an event that is awaited
abbrev pub awaiting : Bool → Op
awaiting true = o.AwaitEvent
awaiting false = o.AwaitTask

-- the value that was written stays, where the operation would leave the place's
abbrev pub storing : Op → (keeps : Bool) → (l : ℕ) → Maker
storing op true l = kept l then one op then one o.Drop then one (o.Get l)
storing op false l = one op

-- the operands on top fall away, so many
abbrev pub dropping : ℕ → Maker → Maker
dropping zero f = f
dropping (suc n) f = one o.Drop then dropping n f

-- with one operand, or two; otherwise the form is none
abbrev pub with_one : ℕ → Maker → Maker
with_one zero f = stuck
with_one (suc zero) f = f
with_one (suc (suc n)) f = stuck

abbrev pub with_two : ℕ → Maker → Maker
with_two zero f = stuck
with_two (suc zero) f = stuck
with_two (suc (suc zero)) f = f
with_two (suc (suc (suc n))) f = stuck

-- an index above what is indexed: of several the first one counts, and without one the value stays
abbrev pub indexing : ℕ → Maker
indexing zero = nothing
indexing (suc n) = dropping n (one o.At)

-- a signal above its event: of several arguments the first one counts, and without one it is unit
abbrev pub signalling : ℕ → Maker
signalling zero = one o.Unit then one o.Signal
signalling (suc n) = dropping n (one o.Signal)

-- n operands are on the stack beside the object of a method, an event, a task or what is indexed;
-- `fits` is whether a called function takes n arguments, or there is a `Self`
abbrev pub finish : Form → (n : ℕ) → (fits : Bool) → Maker
finish (form.computing x t pl) n fits = with_two n (computing x pl t)
finish (form.comparing x) n fits = with_two n (one (comparing x))
finish (form.negating pl) n fits = with_one n (placed pl o.Neg)
finish form.querying n fits = with_one n (one o.Query)
finish (form.reading k) n fits = with_one n (one (o.Load k))
finish form.measuring n fits = with_one n (one o.Length)
finish (form.making_tuple pl) n fits = placed pl (o.Tuple n)
finish (form.making_array pl) n fits = placed pl (o.Array n)
finish (form.making_map pl) n fits = placed pl (o.Map n)
finish (form.joining xs pl) n fits = placed pl (o.Join n)
finish (form.picking i) n fits = one (o.Item (place_in i))
finish form.indexing n fits = indexing n
finish (form.calling f) n fits = when_else fits (one (o.Call f))
finish (form.calling_own m) n fits = when_else fits (one (o.Method m n))
finish (form.calling_method m) n fits = one (o.Method m n)
finish (form.printing pl) n fits = with_one n (placed pl o.Print)
finish (form.flooring pl) n fits = with_two n (placed pl o.Floor)
finish (form.ceiling pl) n fits = with_two n (placed pl o.Ceil)
finish form.taking_modulo n fits = with_two n (one o.Mod)
finish (form.awaiting t) n fits = dropping n (one (awaiting t))
finish form.signalling n fits = signalling n
finish (form.spawning f) n fits = when_else fits (one (o.Spawn f))
finish (form.spawning_own m) n fits = when_else fits (one (o.SpawnMethod m n))
finish (form.spawning_method m) n fits = one (o.SpawnMethod m n)
finish (form.storing base mode pl) n fits = stuck
finish (form.instancing class xs pl) n fits = stuck
finish form.defining n fits = nothing
finish (form.varying pl) n fits = stuck
finish form.returning n fits = with_one n (one o.Return)
finish (form.choosing ts) n fits = stuck
finish (form.appending v pl) n fits = stuck

-- what stands before the operands: the object of one's own method
abbrev pub start : Form → Scope → Maker
start (form.calling_own m) sc = push_fixed (this_found sc)
start (form.spawning_own m) sc = push_fixed (this_found sc)
start f sc = nothing

abbrev pub started : Form → Around → Around
started (form.calling_own m) a = up a
started (form.spawning_own m) a = up a
started f a = a
