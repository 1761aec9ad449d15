use Rattle.lower_expr.proofs.Plain.{vary_law}
use Rattle.lower_expr.proofs.builder.Builder.vary.Goals as goal

pub returns : goal.returns
returns c = search (
  vary_law,
  c.in_ok-number.ensures.number,
  c.in_ok-number.ensures.added,
  c.in_ok-op.ensures,
  c.in_ok-keep.ensures,
  c.in_ok-op-2.ensures,
)
