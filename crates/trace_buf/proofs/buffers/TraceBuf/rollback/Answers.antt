use Rattle.std.proofs.Common.{◌∙◌, ap}
use Rattle.trace_buf.specs.Trace.{rolled_back}
use Rattle.trace_buf.proofs.Views.{rolled_view, rolled_whole, RollsBack}
use Rattle.trace_buf.proofs.buffers.TraceBuf.rollback.Goals as goal

pub invariant_of-self-2 : goal.invariant_of-self-2
invariant_of-self-2 c =
    let whole : RollsBack c.self.inside c.in-Some.newest c.pop.new.self.items c.truncate.new.self.items =
    rolled_whole c.self.inside c.in-Some.newest c.pop.new.self.items c.truncate.new.self.items c.self.invariant c.in-Some.ensures.items
    c.truncate.ensures.items in
    record {
      size = whole.size;
      limit = whole.limit;
      few = c.self.invariant.few;
      stands = whole.stands;
    }

pub returns : goal.returns
returns c = rolled_view c.self.inside c.in-Some.newest c.pop.new.self.items c.truncate.new.self.items c.self.invariant
    c.in-Some.ensures.items c.truncate.ensures.items ∙ ap rolled_back c.self.view_is
