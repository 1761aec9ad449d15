use Rattle.std.proofs.Common.{◌∙◌, ap, map}
use Rattle.trace_buf.specs.Lines.{line_of}
use Rattle.trace_buf.specs.Trace.{committed}
use Rattle.trace_buf.proofs.Views.{committed_stands, committed_view}
use Rattle.trace_buf.proofs.buffers.TraceBuf.commit.Goals as goal

pub invariant_of-self-2 : goal.invariant_of-self-2
invariant_of-self-2 c = record {
  size = c.self.invariant.size;
  limit = c.self.invariant.limit;
  few = c.self.invariant.few;
  stands = committed_stands c.self.inside.drained_lines c.self.inside.drained_bytes
      (map line_of c.self.inside.lines.items) c.in-Some._newest c.self.inside.marks.items c.pop.new.self.items c.in-Some.ensures.items
      c.self.invariant.stands;
}

pub returns : goal.returns
returns c = committed_view c.self.inside c.in-Some._newest c.pop.new.self.items c.self.invariant c.in-Some.ensures.items ∙
    ap committed c.self.view_is
