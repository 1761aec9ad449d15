use Rattle.std.proofs.Common.{◌≡◌, Some, slice_get, subst}
use Rattle.trace_buf.proofs.Views.{settles, Settles}
use Rattle.trace_buf.proofs.buffers.TraceBuf.settled.Goals as goal

pub returns-in-Some-clause-lines : goal.returns-in-Some-clause-lines
returns-in-Some-clause-lines c =
    let first : slice_get c.self.inside.marks.items 0 ≡ Some c.in-Some.oldest.now = cc (c.in-Some.ensures.value, c.deref.ensures.value) in
    let settled : Settles c.args.self.now c.in-Some.oldest.now =
    subst (λ t. Settles t c.in-Some.oldest.now) c.self.view_is (settles c.self.inside c.in-Some.oldest.now c.self.invariant first) in
    settled.lines

pub returns-in-Some-clause-bytes : goal.returns-in-Some-clause-bytes
returns-in-Some-clause-bytes c =
    let first : slice_get c.self.inside.marks.items 0 ≡ Some c.in-Some.oldest.now = cc (c.in-Some.ensures.value, c.deref.ensures.value) in
    let settled : Settles c.args.self.now c.in-Some.oldest.now =
    subst (λ t. Settles t c.in-Some.oldest.now) c.self.view_is (settles c.self.inside c.in-Some.oldest.now c.self.invariant first) in
    settled.bytes

pub returns-in-Some-clause-front : goal.returns-in-Some-clause-front
returns-in-Some-clause-front c =
    let first : slice_get c.self.inside.marks.items 0 ≡ Some c.in-Some.oldest.now = cc (c.in-Some.ensures.value, c.deref.ensures.value) in
    let settled : Settles c.args.self.now c.in-Some.oldest.now =
    subst (λ t. Settles t c.in-Some.oldest.now) c.self.view_is (settles c.self.inside c.in-Some.oldest.now c.self.invariant first) in
    settled.front
