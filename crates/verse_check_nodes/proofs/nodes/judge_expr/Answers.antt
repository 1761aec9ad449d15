use Rattle.std.proofs.Common.{◌≡◌, subst}
use Rattle.std.specs.Prelude.{IfOk}
use Rattle.verse_rules_walk.specs.Views.{used_of}
use Rattle.verse_check_typing.specs.Judgement.{Judgement}
use Rattle.verse_check_typing.specs.Views.{facts_of, judged_of}
use Rattle.verse_check_nodes.specs.Codes.{of_used}
use Rattle.verse_check_nodes.proofs.nodes.judge_expr.Goals as goal

pub returns : goal.returns
returns c = subst (λ (k : Judgement). IfOk c.serve.result
    (λ j. judged_of j ≡ of_used (facts_of c.args.facts.now) (used_of c.args.around.used) k)) c.in_ok-found.ensures c.serve.ensures
