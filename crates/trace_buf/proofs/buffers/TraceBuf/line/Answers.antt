use Rattle.std.proofs.Common.{◌≡◌, ◌+◌, ◌∙◌, ap, length, arith}
use Rattle.verse_base.specs.TraceLine.{line_bytes}
use Rattle.trace_buf.specs.Trace.{with_line}
use Rattle.trace_buf.proofs.Views.{lengthens, longer_view, Lengthens}
use Rattle.trace_buf.proofs.buffers.TraceBuf.line.Goals as goal

pub invariant_of-self-2 : goal.invariant_of-self-2
invariant_of-self-2 c =
    let size : c.line_size-size.result ≡ length (line_bytes c.args.now c.args.text.now) =
    omega (arith, c.line_size-size.ensures, c.if-size-self.false) in
    let longer : Lengthens c.self.inside (c.args.now, c.args.text.now) c.push.new.self.items =
    lengthens c.self.inside _ (c.args.now, c.args.text.now) c.push.new.self.items c.self.invariant c.in_ok-push.ensures.items
    (ap (λ t. (c.args.now, t)) c.in_ok-text.ensures.items) in
    record {
      size = ap (λ n. c.self.inside.bytes + n) size ∙ longer.size;
      limit = omega (arith, c.if-size-self.false, c.self.invariant.limit);
      few = c.self.invariant.few;
      stands = longer.stands;
    }

pub returns-clause-added : goal.returns-clause-added
returns-clause-added c =
    let longer : Lengthens c.self.inside (c.args.now, c.args.text.now) c.push.new.self.items =
    lengthens c.self.inside _ (c.args.now, c.args.text.now) c.push.new.self.items c.self.invariant c.in_ok-push.ensures.items
    (ap (λ t. (c.args.now, t)) c.in_ok-text.ensures.items) in
    longer_view c.self.inside (c.args.now, c.args.text.now) c.push.new.self.items longer ∙
    ap (λ t. with_line t c.args.now c.args.text.now) c.self.view_is
