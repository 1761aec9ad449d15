use Rattle.std.proofs.Common.{◌≡◌, true, false, sym, ◌∙◌, rules}
use Rattle.vm_running.proofs.Steps.{comes_by, two_leads}
use Rattle.vm_exec_loops.proofs.Jumping.{range_of, range_leads, range_first, range_second}
use Rattle.vm_exec_loops.proofs.domains.range.Goals as goal

pub returns-then-not-is_int : goal.returns-then-not-is_int
returns-then-not-is_int g c code =
    let not_so : c.is_int.result ≡ false = search rules in
    let popped = two_leads (range_of c.args.local) _ _ _ _ c.requires.ready c.in-Some.ensures.some in
    comes_by popped (range_first c.args.local _ _ _ _ (sym c.is_int.ensures ∙ not_so))

pub returns-then-not-is_int-2 : goal.returns-then-not-is_int-2
returns-then-not-is_int-2 g c code =
    let not_so : c.is_int-2.result ≡ false = search rules in
    let popped = two_leads (range_of c.args.local) _ _ _ _ c.requires.ready c.in-Some.ensures.some in
    comes_by popped (range_second c.args.local _ _ _ _ (sym c.is_int-2.ensures ∙ not_so))

pub returns : goal.returns
returns g c code =
    let so : c.is_int.result ≡ true = search rules in
    let also : c.is_int-2.result ≡ true = search rules in
    let popped = two_leads (range_of c.args.local) _ _ _ _ c.requires.ready c.in-Some.ensures.some in
    comes_by popped (comes_by (range_leads c.args.local _ _ _ popped.ready (sym c.is_int.ensures ∙ so) (sym c.is_int-2.ensures ∙ also))
    c.put_both.ensures)
