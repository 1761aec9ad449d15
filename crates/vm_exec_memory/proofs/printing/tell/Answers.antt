use Rattle.std.proofs.Common.{◌≡◌, ◌+◌, ◌<◌, ◌≤◌, ◌++◌, ◌∷◌, [], Some, length, true, false, refl, sym, ap, ◌∙◌, rules}
use Rattle.verse_base.specs.TraceLine.{line_bytes}
use Rattle.verse_base.specs.declared.refusals.Kind.TheVariants as kind
use Rattle.verse_value.specs.Val.{unit}
use Rattle.verse_meaning_state.specs.Effects.{line_told}
use Rattle.trace_buf.specs.Trace.{printed_size}
use Rattle.vm_running.specs.Doings.{place_in}
use Rattle.vm_running.proofs.Steps.{ok_by}
use Rattle.vm_exec_memory.proofs.Handed.{at_most, no_error}
use Rattle.vm_exec_memory.proofs.Effects.{effect_barred, effect_gives, effect_raises_at}
use Rattle.vm_exec_memory.proofs.Lines.{told, full, told_not_fails}
use Rattle.vm_exec_memory.proofs.printing.tell.Goals as goal

pub returns-then-not-permits : goal.returns-then-not-permits
returns-then-not-permits g c =
    let not_so : c.permits.result ≡ false = search rules in
    effect_barred (place_in c.args.code.now (Some c.args.place)) (line_told c.args.bytes.now) _ _ _ (ap (λ k. k + 1) c.place-next.ensures)
    (sym c.permits.ensures ∙ not_so) (λ a past. told_not_fails c.args.bytes.now _)

pub returns-in-Ok : goal.returns-in-Ok
returns-in-Ok g c =
    let sure : c.permits.result ≡ true = search rules in
    let most : printed_size c.args.run.now.trace + length (line_bytes c.args.run.now.moment c.args.bytes.now) ≤ 16777216 =
    at_most _ _ (λ lt. no_error _ _ (c.in-Ok.ensures.full.1 lt)) in
    ok_by _ _ (effect_gives (place_in c.args.code.now (Some c.args.place)) (line_told c.args.bytes.now) unit _ _
    (g.H.Heap.state c.args.run.now.heap).cells (c.args.run.now.trace.kept ++ (c.args.run.now.moment, c.args.bytes.now) ∷ [])
    c.requires.ready (ap (λ k. k + 1) c.place-next.ensures) (sym c.permits.ensures ∙ sure) refl c.in-Ok.ensures.added
    (λ a past. told (g.H.Heap.state c.args.run.now.heap) c.args.run.now.trace c.args.run.now.left c.args.run.now.spent
    c.args.run.now.moment c.args.bytes.now c.args.run.now.thread most a past)) c.push_on.ensures

pub returns-in-Err-Full : goal.returns-in-Err-Full
returns-in-Err-Full g c =
    let more : 16777216 < printed_size c.args.run.now.trace + length (line_bytes c.args.run.now.moment c.args.bytes.now) = search rules in
    effect_raises_at (place_in c.args.code.now (Some c.args.place)) (line_told c.args.bytes.now) kind.Trace _ _ _ c.requires.ready
    c.in-Err-Full.ensures.refused (λ a past.
    full (g.H.Heap.state c.args.run.now.heap) c.args.run.now.trace c.args.run.now.left c.args.run.now.spent c.args.run.now.moment
    c.args.bytes.now c.args.run.now.thread more a past) c.raise.ensures
