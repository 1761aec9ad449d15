-- The lemmas that the goals of functions want.
use Rattle.lower_expr.proofs.Laws.{made_then, made_one, made_nothing, made_placed, made_numbering, made_texted, made_put_away, made_stuck}
use Rattle.lower_expr.proofs.Laws.{made_leave_loop}

pub ruleset plain = (
  made_then,
  made_one,
  made_nothing,
  made_placed,
  made_numbering,
  made_texted,
  made_put_away,
  made_stuck,
  made_leave_loop,
)
