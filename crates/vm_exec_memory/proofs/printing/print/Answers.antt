use Rattle.std.proofs.Common.{Some, sym, ap, ◌∙◌}
use Rattle.verse_value.specs.View.{val_of}
use Rattle.verse_meaning_state.specs.Effects.{line_printed}
use Rattle.vm_running.specs.Doings.{place_in, effects}
use Rattle.vm_running.proofs.Steps.{comes_by, ok_by, pop_leads}
use Rattle.vm_exec_memory.proofs.Handed.{mapped_none, mapped_some}
use Rattle.vm_exec_memory.proofs.Lines.{print_stuck, print_leads}
use Rattle.vm_exec_memory.proofs.printing.print.Goals as goal

pub returns-in_default-2 : goal.returns-in_default-2
returns-in_default-2 g c =
    let popped = pop_leads (λ v. effects (place_in c.args.code.now (Some c.args.place)) (line_printed v)) _ _ _ c.requires.ready
    c.in-Some.ensures.some in
    comes_by popped (print_stuck (place_in c.args.code.now (Some c.args.place)) (val_of c.in-Some.value) _ _ popped.ready
    (mapped_none _ _ _ c.in_ok-bytes.ensures c.in_default-2.is))

pub returns : goal.returns
returns g c =
    let popped = pop_leads (λ v. effects (place_in c.args.code.now (Some c.args.place)) (line_printed v)) _ _ _ c.requires.ready
    c.in-Some.ensures.some in
    ok_by _ _ popped (ok_by _ _ (print_leads (place_in c.args.code.now (Some c.args.place))
    (val_of c.in-Some.value) c.as_slice.result.now _ popped.ready (mapped_some _ _ _ _ c.in_ok-bytes.ensures c.in-Some-2.is ∙
    ap Some (sym c.as_slice.ensures.value))) c.tell.ensures)
