use Rattle.vm_tasks.proofs.Endings.{alone_so}
use Rattle.vm_tasks.proofs.Meaning.{scope_so, arms_so}
use Rattle.vm_tasks.proofs.Keeping.{keeps_so}
use Rattle.vm_tasks.proofs.Losing.{loses_few_so}
use Rattle.vm_tasks.proofs.table.cancel_since.Goals as goal

pub returns-clause-scope : goal.returns-clause-scope
returns-clause-scope g c = scope_so g.F.Deferring.has_blocks g.W.Waits.pending c.args.id c.args.bound c.args.tree.now c.clear_since.new.tree
    c.args.gone.now c.clear_since.new.gone c.clear_since.ensures.cleared

pub returns-clause-arms : goal.returns-clause-arms
returns-clause-arms g c = arms_so g.F.Deferring.has_blocks g.W.Waits.pending c.args.id c.args.bound c.args.tree.now c.clear_since.new.tree
    c.args.gone.now c.clear_since.new.gone c.is_nested.ensures c.clear_since.ensures.cleared

pub returns-clause-alone : goal.returns-clause-alone
returns-clause-alone g c = alone_so c.clear_since.new.tree c.args.id c.args.bound c.clear_since.ensures.nested c.clear_since.ensures.left

pub returns-clause-each : goal.returns-clause-each
returns-clause-each g c = keeps_so g.F.Deferring.has_blocks g.W.Waits.pending c.args.id c.args.bound c.args.tree.now c.clear_since.new.tree
    c.args.gone.now c.clear_since.new.gone c.clear_since.ensures.cleared

pub returns-clause-few : goal.returns-clause-few
returns-clause-few g c = loses_few_so g.F.Deferring.has_blocks g.W.Waits.pending c.args.id c.args.bound c.args.tree.now
    c.clear_since.new.tree c.args.gone.now c.clear_since.new.gone c.clear_since.ensures.cleared
