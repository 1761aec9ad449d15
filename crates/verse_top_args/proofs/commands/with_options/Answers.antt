-- The word of the inputs lists none.
use Rattle.std.proofs.Common.{subst}
use Rattle.verse_top_args.specs.Words.{Inputs}
use Rattle.verse_top_args.proofs.OptionLemmas.{gives_once}
use Rattle.verse_top_args.proofs.commands.with_options.Goals as goal

pub returns-then-not-fit_inputs-clause-gives : goal.returns-then-not-fit_inputs-clause-gives
returns-then-not-fit_inputs-clause-gives c g ns gives lists =
    let same = gives_once gives c.in_ok-given.ensures in
    let fit = c.fit_inputs.ensures.1 (ns, subst (λ h. Inputs h.inputs ns) same lists) in
    cc (fit, c.if-not-fit_inputs.true)
