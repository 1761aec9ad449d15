use Rattle.std.proofs.Common.{◌≡◌, ◌∙◌, ◌-◌, ap, map, subst, take}
use Rattle.verse_outside.specs.Held.{TookPrefix, with_more}
use Rattle.trace_buf.specs.Lines.{line_of}
use Rattle.trace_buf.specs.Shown.{trace_of}
use Rattle.trace_buf.specs.Trace.{drained, outside, printed}
use Rattle.trace_buf.proofs.Passes.{on_err}
use Rattle.trace_buf.proofs.Views.{drains, settled_text, settles_within, Drains, Settles}
use Rattle.trace_buf.proofs.buffers.TraceBuf.drain.Goals as goal

pub returns-in_err-write_lines-clause-part : goal.returns-in_err-write_lines-clause-part
returns-in_err-write_lines-clause-part g c =
    let settled : Settles (trace_of c.self.inside) c.settled-mark.result =
    settles_within c.self.inside c.args.self.now c.settled-mark.result c.self.view_is c.settled-mark.ensures.lines
    c.settled-mark.ensures.bytes c.settled-mark.ensures.front in
    let lines : c.front.result.now ≡ take (c.settled-mark.result.lines - c.self.inside.drained_lines) c.self.inside.lines.items =
    c.front.ensures ∙ ap (take (c.settled-mark.result.lines - c.self.inside.drained_lines)) c.as_slice.ensures.value in
    let text : printed (map line_of c.front.result.now) ≡ printed (outside c.args.self.now.kept c.args.self.now.marks) =
    settled_text c.self.inside c.settled-mark.result c.front.result.now settled lines ∙
    ap (λ t. printed (outside t.kept t.marks)) c.self.view_is in
    on_err c.from_residual.result (subst (λ bytes. TookPrefix (g.S.Sink.taken c.args.out.now) bytes (g.S.Sink.taken c.write_lines.new.out))
    text c.in_err-write_lines.ensures.part)

pub invariant_of-self : goal.invariant_of-self
invariant_of-self g c =
    let settled : Settles (trace_of c.self.inside) c.settled-mark.result =
    settles_within c.self.inside c.args.self.now c.settled-mark.result c.self.view_is c.settled-mark.ensures.lines
    c.settled-mark.ensures.bytes c.settled-mark.ensures.front in
    let left : Drains c.self.inside c.settled-mark.result c.remove_front.new.lines.items =
    drains c.self.inside c.settled-mark.result c.remove_front.new.lines.items c.self.invariant settled c.remove_front.ensures in
    record {
      size = left.size;
      limit = c.self.invariant.limit;
      few = left.few;
      stands = left.stands;
    }

pub returns-clause-drained : goal.returns-clause-drained
returns-clause-drained g c =
    let settled : Settles (trace_of c.self.inside) c.settled-mark.result =
    settles_within c.self.inside c.args.self.now c.settled-mark.result c.self.view_is c.settled-mark.ensures.lines
    c.settled-mark.ensures.bytes c.settled-mark.ensures.front in
    let left : Drains c.self.inside c.settled-mark.result c.remove_front.new.lines.items =
    drains c.self.inside c.settled-mark.result c.remove_front.new.lines.items c.self.invariant settled c.remove_front.ensures in
    left.view ∙ ap drained c.self.view_is

pub returns-clause-written : goal.returns-clause-written
returns-clause-written g c =
    let settled : Settles (trace_of c.self.inside) c.settled-mark.result =
    settles_within c.self.inside c.args.self.now c.settled-mark.result c.self.view_is c.settled-mark.ensures.lines
    c.settled-mark.ensures.bytes c.settled-mark.ensures.front in
    let lines : c.front.result.now ≡ take (c.settled-mark.result.lines - c.self.inside.drained_lines) c.self.inside.lines.items =
    c.front.ensures ∙ ap (take (c.settled-mark.result.lines - c.self.inside.drained_lines)) c.as_slice.ensures.value in
    let text : printed (map line_of c.front.result.now) ≡ printed (outside c.args.self.now.kept c.args.self.now.marks) =
    settled_text c.self.inside c.settled-mark.result c.front.result.now settled lines ∙
    ap (λ t. printed (outside t.kept t.marks)) c.self.view_is in
    c.in_ok-write_lines.ensures.whole ∙ ap (with_more (g.S.Sink.taken c.args.out.now)) text
