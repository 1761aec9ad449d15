use Rattle.std.proofs.Common.{◌≡◌, Some, None, slice_get, sym, ap, ◌∙◌}
use Rattle.verse_code.specs.declared.operations.Op.TheVariants as o
use Rattle.vm_frames.specs.Framed.{place_of}
use Rattle.vm_step.proofs.Serving.{char_fits, step_none, asked_here, step_ok}
use Rattle.vm_step.proofs.steps.step.Goals as goal

pub returns-in_default : goal.returns-in_default
returns-in_default g c =
    let none : slice_get c.args.code.now.ops (place_of c.args.run.now.thread) ≡ None =
    ap (λ k. slice_get c.args.code.now.ops k) (sym c.place.ensures) ∙ sym c.in_default.ensures.value in
    step_none g.W.Waits.pending c.args.code.now _ _ none

pub serve_end-requires : goal.serve_end-requires
serve_end-requires g c =
    asked_here g.W.Waits.pending c.args.code.now o.Return c.give_back-asked.result _ _ _ c.is_nested.ensures c.requires.there
    (c.give_back-asked.ensures.asks c.args.code.now) c.give_back-asked.ensures.leaves

pub returns-in-Return : goal.returns-in-Return
returns-in-Return g c =
    let there : slice_get c.args.code.now.ops (place_of c.args.run.now.thread) ≡ Some o.Return =
    ap (λ k. slice_get c.args.code.now.ops k) (sym c.place.ensures) ∙ (sym c.in-Some.ensures.value ∙ ap Some c.in-Return.is) in
    step_ok g.W.Waits.pending c.args.code.now o.Return c.give_back-asked.result c.serve_end.result _ _ _ _ _ c.is_nested.ensures there
    (c.give_back-asked.ensures.asks c.args.code.now) c.give_back-asked.ensures.leaves c.serve_end.ensures

pub act-requires-clause-char : goal.act-requires-clause-char
act-requires-clause-char g c = char_fits c.args.code.now c.place.result c.in-Some.op.now c.requires.valid (sym c.in-Some.ensures.value)

pub serve-requires : goal.serve-requires
serve-requires g c =
    asked_here g.W.Waits.pending c.args.code.now c.in-Some.op.now c.in_ok-asked.asked _ _ _ c.is_nested.ensures c.requires.there
    c.in_ok-asked.ensures.asks c.in_ok-asked.ensures.leaves

pub returns : goal.returns
returns g c =
    let there : slice_get c.args.code.now.ops (place_of c.args.run.now.thread) ≡ Some c.in-Some.op.now =
    ap (λ k. slice_get c.args.code.now.ops k) (sym c.place.ensures) ∙ sym c.in-Some.ensures.value in
    step_ok g.W.Waits.pending c.args.code.now c.in-Some.op.now c.in_ok-asked.asked c.serve.result _ _ _ _ _ c.is_nested.ensures there
    c.in_ok-asked.ensures.asks c.in_ok-asked.ensures.leaves c.serve.ensures
