use Rattle.std.proofs.lemmas.Result.{IfOk-weaker}
use Rattle.verse_layout.proofs.Answers.{layout_of, no_layout}
use Rattle.verse_layout.proofs.Refused.{refused_of}
use Rattle.verse_layout.proofs.Counts.{few_toks}
use Rattle.verse_layout.proofs.layouts.layout.Goals as goal

pub returns-clause-toks : goal.returns-clause-toks
returns-clause-toks c =
    IfOk-weaker c.walk.result _ _ (λ toks h. layout_of c.args.bytes.now c.args.tokens.now toks.items h) c.walk.ensures.toks

pub returns-clause-few : goal.returns-clause-few
returns-clause-few c = IfOk-weaker c.walk.result _ _
    (λ toks h. few_toks c.args.bytes.now c.args.tokens.now toks.items (layout_of c.args.bytes.now c.args.tokens.now toks.items h))
    c.walk.ensures.toks

pub returns-clause-none : goal.returns-clause-none
returns-clause-none c = λ r e ks l. no_layout c.args.bytes.now c.args.tokens.now r ks (c.walk.ensures.refused r e) l

pub returns-clause-exact : goal.returns-clause-exact
returns-clause-exact c = λ r e. refused_of c.args.bytes.now c.args.tokens.now r (c.walk.ensures.refused r e)
