use Rattle.vm_exec.proofs.others.task_act.Goals as goal

pub returns-in-Forever-clause-asks : goal.returns-in-Forever-clause-asks
returns-in-Forever-clause-asks g c = rw c.in-Forever.is (c.sleep_forever.ensures.asks c.args.code.now)

pub returns-in-AwaitTask-clause-asks : goal.returns-in-AwaitTask-clause-asks
returns-in-AwaitTask-clause-asks g c = rw c.in-AwaitTask.is (c.await_task.ensures.asks c.args.code.now)

pub returns-in-AwaitEvent-clause-asks : goal.returns-in-AwaitEvent-clause-asks
returns-in-AwaitEvent-clause-asks g c = rw c.in-AwaitEvent.is (c.await_event.ensures.asks c.args.code.now)

pub returns-in-Branch-clause-asks : goal.returns-in-Branch-clause-asks
returns-in-Branch-clause-asks g c = rw c.in-Branch.is (c.branch-run.ensures.asks c.args.code.now)

pub returns-in-Return-clause-asks : goal.returns-in-Return-clause-asks
returns-in-Return-clause-asks g c = rw c.in-Return.is (c.give_back.ensures.asks c.args.code.now)

pub returns-in-ArmEnd-clause-asks : goal.returns-in-ArmEnd-clause-asks
returns-in-ArmEnd-clause-asks g c = rw c.in-ArmEnd.is (c.end_part.ensures.asks c.args.code.now)

pub returns-in-DeferEnd-clause-asks : goal.returns-in-DeferEnd-clause-asks
returns-in-DeferEnd-clause-asks g c = rw c.in-DeferEnd.is (c.end_block.ensures.asks c.args.code.now)
