use Rattle.std.proofs.Common.{◌-◌, ap, Err, length, arith}
use Rattle.verse_grammar.specs.Symbols.{phrase}
use Rattle.verse_expr.proofs.Indices.{stuck_left, index_within}
use Rattle.verse_expr.proofs.reads.phrase_from.Goals as goal

pub fault_of-requires : goal.fault_of-requires
fault_of-requires c = record {
  within = λ left e. stuck_left (phrase c.args.what) c.args.toks.now c.args.at left
      (rw c.behind.ensures at (c.in-Err.ensures.sticks left (ap Err e)));
}

pub returns-in-Err-clause-within : goal.returns-in-Err-clause-within
returns-in-Err-clause-within c index rule bad =
    let i = c.fault_of.ensures.within index rule (cc) in
    let told = c.fault_of.ensures.left index rule (cc) in
    index_within (phrase c.args.what) c.args.toks.now c.args.at (length c.args.toks.now - index) index c.requires (omega (arith, i))
    (rw c.behind.ensures at (c.in-Err.ensures.sticks (length c.args.toks.now - index) (ap Err told)))
