use Rattle.std.proofs.Common.{◌≡◌, ◌+◌, ◌-◌}
use Rattle.verse_code_machine.specs.Acts.{labels}
use Rattle.vm_exec_tasks.proofs.Starts.{onto}
use Rattle.vm_exec_tasks.proofs.starting.labels_at.Given as goal

abbrev pub invariant-arms : goal.invariant-arms
invariant-arms l = onto l.starts.items (labels l.code.ops (l.first + l.arm) (l.count - l.arm)) ≡ labels l.code.ops l.first l.count
