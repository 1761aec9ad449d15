use Rattle.std.proofs.Common.{◌≡◌, ◌≢◌, [], length, sym, ◌∙◌, rules}
use Rattle.std.proofs.lemmas.List.{nil_from_length}
use Rattle.verse_value.specs.View.{val_of}
use Rattle.vm_running.specs.Runners.{view_of}
use Rattle.vm_return.proofs.Returning.{returning_some, returned_clearing, returned_none, is_cleared, returned_unwinds}
use Rattle.vm_return.proofs.ends.returned.Goals as goal

pub push-requires : goal.push-requires
push-requires g c = returning_some g.W.Waits.pending c.args.born _ c.args.tasks.now c.requires

pub returns-then-is_some : goal.returns-then-is_some
returns-then-is_some g c = returned_clearing g.W.Waits.pending c.args.born (val_of c.args.value)
    (view_of g.H.Heap.state c.args.run.now) c.args.tasks.now _ (sym c.is_some.ensures ∙ c.if-is_some.true) c.in_ok-push.ensures.ok

pub push-requires-then-is_empty : goal.push-requires-then-is_empty
push-requires-then-is_empty g c = returning_some g.W.Waits.pending c.args.born _ c.args.tasks.now c.requires

pub returns-then-is_empty : goal.returns-then-is_empty
returns-then-is_empty g c =
    let zero : length c.cancel.new.tasks.gone.frames.items ≡ 0 = search rules in
    returned_none g.W.Waits.pending c.args.born (val_of c.args.value) (view_of g.H.Heap.state c.args.run.now) c.args.tasks.now
    c.cancel.new.tasks _ (sym c.is_some.ensures ∙ c.if-is_some.false) c.in_ok-cancel.ensures.ok
    (nil_from_length c.cancel.new.tasks.gone.frames.items zero) c.in_ok-push-2.ensures.ok

pub unwind-requires : goal.unwind-requires
unwind-requires g c =
    let some : c.cancel.new.tasks.gone.frames.items ≢ [] = λ e. (search rules) in
    is_cleared g.W.Waits.pending c.args.born c.args.value (view_of g.H.Heap.state c.args.run.now) c.args.tasks.now c.cancel.new.tasks
    c.in_ok-cancel.ensures.ok (sym c.is_some.ensures ∙ c.if-is_some.false) some _ _ c.replace-thread.ensures.value c.requires

pub returns : goal.returns
returns g c =
    let some : c.cancel.new.tasks.gone.frames.items ≢ [] = λ e. (search rules) in
    returned_unwinds g.W.Waits.pending c.args.born c.args.value (view_of g.H.Heap.state c.args.run.now) c.args.tasks.now c.cancel.new.tasks
    c.in_ok-cancel.ensures.ok (sym c.is_some.ensures ∙ c.if-is_some.false) some _ c.unwind.result _ _ _ c.replace-thread.ensures.value
    c.unwind.ensures
