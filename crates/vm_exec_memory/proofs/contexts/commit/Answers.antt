use Rattle.std.proofs.Common.{◌≡◌, true, false, rules}
use Rattle.vm_running.proofs.Steps.{comes_by}
use Rattle.vm_exec_memory.proofs.Attempts.{copies_there, marks_there, commit_none, ready_committed, inner_released, commit_leads}
use Rattle.vm_exec_memory.proofs.contexts.commit.Goals as goal

pub returns-then-not-release : goal.returns-then-not-release
returns-then-not-release g c code =
    let not_so : c.release.result ≡ false = search rules in
    commit_none code _ _ (c.release.ensures.no not_so)

pub commit-requires : goal.commit-requires
commit-requires g c =
    let so : c.release.result ≡ true = search rules in
    copies_there _ _ c.requires.ready (c.release.ensures.yes so)

pub commit-requires-2 : goal.commit-requires-2
commit-requires-2 g c =
    let so : c.release.result ≡ true = search rules in
    marks_there _ _ c.requires.ready (c.release.ensures.yes so)

pub go_on-requires-clause-ready : goal.go_on-requires-clause-ready
go_on-requires-clause-ready g c =
    let so : c.release.result ≡ true = search rules in
    ready_committed _ _ c.requires.ready (c.release.ensures.yes so) c.commit.ensures.kept c.commit-2.ensures

pub go_on-requires-clause-inner : goal.go_on-requires-clause-inner
go_on-requires-clause-inner g c =
    let so : c.release.result ≡ true = search rules in
    inner_released _ _ (c.release.ensures.yes so) c.requires.inner

pub returns : goal.returns
returns g c code =
    let so : c.release.result ≡ true = search rules in
    comes_by (commit_leads code _ _ c.requires.ready (c.release.ensures.yes so) c.commit.ensures.kept c.commit-2.ensures) c.go_on.ensures
