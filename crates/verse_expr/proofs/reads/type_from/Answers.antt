use Rattle.std.proofs.Common.{ap, Err, ◌-◌, length, drop, arith}
use Rattle.verse_grammar.specs.Symbols.{a_type}
use Rattle.verse_grammar.specs.Reading.{EatsRule}
use Rattle.verse_expr.proofs.Suffixes.{suffix_at}
use Rattle.verse_expr.proofs.Indices.{stuck_left, index_within}
use Rattle.verse_expr.proofs.reads.type_from.Goals as goal

pub returns-in-Ok-clause-spelled : goal.returns-in-Ok-clause-spelled
returns-in-Ok-clause-spelled c =
    let x : EatsRule a_type (drop c.args.at c.args.toks.now) c.in-Ok.rest.now = rw c.behind.ensures at c.in-Ok.ensures.eats in
    rw (suffix_at c.args.toks.now c.in-Ok.rest.now c.args.at c.requires x) (rw c.behind.ensures at c.in-Ok.ensures.spelled)

pub returns-in-Ok-clause-eats : goal.returns-in-Ok-clause-eats
returns-in-Ok-clause-eats c =
    let x : EatsRule a_type (drop c.args.at c.args.toks.now) c.in-Ok.rest.now = rw c.behind.ensures at c.in-Ok.ensures.eats in
    rw (suffix_at c.args.toks.now c.in-Ok.rest.now c.args.at c.requires x) x

pub fault_of-requires : goal.fault_of-requires
fault_of-requires c = record {
  within = λ left e. stuck_left a_type c.args.toks.now c.args.at left (rw c.behind.ensures at (c.in-Err.ensures.sticks left (ap Err e)));
}

pub returns-in-Err-clause-within : goal.returns-in-Err-clause-within
returns-in-Err-clause-within c index rule bad =
    let i = c.fault_of.ensures.within index rule (cc) in
    let told = c.fault_of.ensures.left index rule (cc) in
    index_within a_type c.args.toks.now c.args.at (length c.args.toks.now - index) index c.requires (omega (arith, i))
    (rw c.behind.ensures at (c.in-Err.ensures.sticks (length c.args.toks.now - index) (ap Err told)))
