use Rattle.vm_exec.proofs.stores.store_act.Goals as goal

pub returns-in-Commit : goal.returns-in-Commit
returns-in-Commit g c = rw c.in-Commit.is (c.commit.ensures c.args.code.now)

pub returns-in-Undo : goal.returns-in-Undo
returns-in-Undo g c = rw c.in-Undo.is (c.undo.ensures c.args.code.now)

pub returns-in-Fail : goal.returns-in-Fail
returns-in-Fail g c = rw c.in-Fail.is c.fail.ensures
