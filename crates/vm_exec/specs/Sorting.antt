-- The operation that a sorted one is.
use Rattle.std.specs.Prelude.{◌≡◌, ◌≤◌, ℕ}
use Rattle.verse_code.specs.declared.operations.Op.{Op}
use Rattle.verse_code.specs.declared.operations.Op.TheVariants as o
use Rattle.vm_exec.specs.declared.kinds.PushOp.{PushOp}
use Rattle.vm_exec.specs.declared.kinds.PushOp.TheVariants as push
use Rattle.vm_exec.specs.declared.kinds.NumberOp.{NumberOp}
use Rattle.vm_exec.specs.declared.kinds.NumberOp.TheVariants as number
use Rattle.vm_exec.specs.declared.kinds.CompositeOp.{CompositeOp}
use Rattle.vm_exec.specs.declared.kinds.CompositeOp.TheVariants as composite
use Rattle.vm_exec.specs.declared.kinds.StoreOp.{StoreOp}
use Rattle.vm_exec.specs.declared.kinds.StoreOp.TheVariants as store
use Rattle.vm_exec.specs.declared.kinds.ControlOp.{ControlOp}
use Rattle.vm_exec.specs.declared.kinds.ControlOp.TheVariants as control
use Rattle.vm_exec.specs.declared.kinds.TaskOp.{TaskOp}
use Rattle.vm_exec.specs.declared.kinds.TaskOp.TheVariants as task
use Rattle.vm_exec.specs.declared.kinds.Sorted.{Sorted}
use Rattle.vm_exec.specs.declared.kinds.Sorted.TheVariants as sorted

abbrev pub push_of : PushOp → Op
push_of (push.Int value) = o.Int value
push_of push.Unit = o.Unit
push_of push.False = o.False
push_of push.True = o.True
push_of (push.Char byte) = o.Char byte
push_of (push.Text index) = o.Text index
push_of (push.Enum item value) = o.Enum item value
push_of (push.Get local) = o.Get local
push_of (push.Put local) = o.Put local
push_of push.Drop = o.Drop

abbrev pub number_of : NumberOp → Op
number_of (number.Add place) = o.Add place
number_of (number.Sub place) = o.Sub place
number_of (number.Mul place) = o.Mul place
number_of (number.Neg place) = o.Neg place
number_of (number.Floor place) = o.Floor place
number_of (number.Ceil place) = o.Ceil place
number_of number.Mod = o.Mod
number_of number.Lt = o.Lt
number_of number.Le = o.Le
number_of number.Gt = o.Gt
number_of number.Ge = o.Ge

abbrev pub composite_of : CompositeOp → Op
composite_of (composite.Concat place) = o.Concat place
composite_of (composite.Join count place) = o.Join count place
composite_of composite.Eq = o.Eq
composite_of composite.Ne = o.Ne
composite_of (composite.Array count place) = o.Array count place
composite_of (composite.Map count place) = o.Map count place
composite_of (composite.Tuple count place) = o.Tuple count place
composite_of (composite.Some place) = o.Some place
composite_of composite.Query = o.Query
composite_of (composite.Item index) = o.Item index
composite_of composite.At = o.At
composite_of composite.Length = o.Length
composite_of (composite.Append local place) = o.Append local place

abbrev pub store_of : StoreOp → Op
store_of (store.New place) = o.New place
store_of (store.Load slot) = o.Load slot
store_of (store.Write t) = o.Store t.slot t.indices t.mode t.place
store_of (store.Object class place) = o.Object class place
store_of (store.Event place) = o.Event place
store_of (store.Try label) = o.Try label
store_of store.Commit = o.Commit
store_of store.Undo = o.Undo
store_of store.Fail = o.Fail
store_of (store.Print place) = o.Print place

abbrev pub control_of : ControlOp → Op
control_of (control.Jump label) = o.Jump label
control_of (control.Same label) = o.Same label
control_of (control.Again label) = o.Again label
control_of (control.Call func) = o.Call func
control_of (control.Method method count) = o.Method method count
control_of (control.Each local) = o.Each local
control_of (control.Range local) = o.Range local
control_of (control.Take t) = o.Take t.domain t.value t.label
control_of (control.Defer label) = o.Defer label
control_of (control.Leave count) = o.Leave count

abbrev pub task_of : TaskOp → Op
task_of (task.Sleep duration) = o.Sleep duration
task_of task.Forever = o.Forever
task_of task.AwaitTask = o.AwaitTask
task_of task.AwaitEvent = o.AwaitEvent
task_of task.Signal = o.Signal
task_of (task.Spawn func) = o.Spawn func
task_of (task.SpawnMethod method count) = o.SpawnMethod method count
task_of (task.Group g) = o.Group g.kind g.arms g.place
task_of (task.Arm label) = o.Arm label
task_of (task.Branch label) = o.Branch label
task_of task.Return = o.Return
task_of task.ArmEnd = o.ArmEnd
task_of task.DeferEnd = o.DeferEnd

abbrev pub op_of : Sorted → Op
op_of (sorted.Push x) = push_of x
op_of (sorted.Number x) = number_of x
op_of (sorted.Composite x) = composite_of x
op_of (sorted.Store x) = store_of x
op_of (sorted.Control x) = control_of x
op_of (sorted.Task x) = task_of x

-- a char is one byte
abbrev pub FitsChar : Op → Type 0
FitsChar op = (n : ℕ) → op ≡ o.Char n → n ≤ 255
