use Rattle.std.proofs.Common.{◌≡◌, false, rules}
use Rattle.vm_exec_tasks.proofs.Asking.{free_permits}
use Rattle.vm_exec_tasks.proofs.going.go_to.Goals as goal

pub unreachable-requires : goal.unreachable-requires
unreachable-requires c =
    let no : c.go.result ≡ false = search rules in
    let yes = free_permits c.args.place c.args.thread.now c.requires.free in
    let test = c.go.ensures.test in
    cc
