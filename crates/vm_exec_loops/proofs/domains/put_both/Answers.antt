use Rattle.std.proofs.Common.{◌≡◌, suc, true, false, rules}
use Rattle.verse_value.specs.View.{val_of}
use Rattle.vm_running.specs.Doings.{putting, goes_on}
use Rattle.vm_running.proofs.Steps.{comes_by, put_leads, put_none}
use Rattle.vm_exec_loops.proofs.Jumping.{past_next, within_next, put_next}
use Rattle.vm_exec_loops.proofs.domains.put_both.Goals as goal

pub returns-then-not-has_local : goal.returns-then-not-has_local
returns-then-not-has_local g c =
    let not_so : c.has_local.result ≡ false = search rules in
    put_none (putting (suc c.args.local) (val_of c.args.second) goes_on) _ _ _ _ (c.has_local.ensures.absent not_so)

pub returns-then-not-has_local-2 : goal.returns-then-not-has_local-2
returns-then-not-has_local-2 g c =
    let so : c.has_local.result ≡ true = search rules in
    let not_so : c.has_local-2.result ≡ false = search rules in
    comes_by (put_leads (putting (suc c.args.local) (val_of c.args.second) goes_on) _ _ _ _ c.requires.ready
    (c.has_local.ensures.there so) c.put_local.ensures.new)
    (put_none goes_on _ _ _ _ (past_next _ _ (c.has_local-2.ensures.absent not_so)))

pub returns : goal.returns
returns g c =
    let so : c.has_local.result ≡ true = search rules in
    let also : c.has_local-2.result ≡ true = search rules in
    let first = put_leads (putting (suc c.args.local) (val_of c.args.second) goes_on) _ _ _ _ c.requires.ready
    (c.has_local.ensures.there so) c.put_local.ensures.new in
    comes_by first (comes_by (put_leads goes_on _ _ _ _ first.ready (within_next _ _ (c.has_local-2.ensures.there also))
    (put_next _ _ _ _ c.put_local-2.ensures.new)) c.go_on.ensures)
