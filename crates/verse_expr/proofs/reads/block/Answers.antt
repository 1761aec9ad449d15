use Rattle.verse_grammar.specs.declared.phrases.Phrase.TheVariants as p
use Rattle.verse_expr.proofs.Ends.{phrase_stops, phrase_refused}
use Rattle.verse_expr.proofs.reads.block.Goals as goal

pub returns-clause-none : goal.returns-clause-none
returns-clause-none c = λ index rule bad.
    let w = c.phrase_from.ensures.within index rule bad in
    phrase_refused p.Block c.args.toks.now c.args.at index w.0 w.1 (c.phrase_from.ensures.stuck index rule bad)

pub returns-clause-stops : goal.returns-clause-stops
returns-clause-stops c = λ index rule bad.
    let w = c.phrase_from.ensures.within index rule bad in
    phrase_stops p.Block c.args.toks.now c.args.at index w.0 w.1 (c.phrase_from.ensures.stuck index rule bad)
