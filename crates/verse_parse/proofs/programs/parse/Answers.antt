use Rattle.std.proofs.Common.{◌≡◌, ℕ, ◌-◌, ap, Err, length, subst, arith}
use Rattle.verse_grammar.specs.Begins.{Stops, a_program}
use Rattle.verse_parse.proofs.programs.parse.Goals as goal
use Rattle.verse_parse.proofs.Stopping.{left_stops_program, left_within}

pub fault_of-requires : goal.fault_of-requires
fault_of-requires c = record {
  within = λ left e. left_within c.args.toks.now left (c.in-Err.ensures.stops left (ap Err e));
}

pub returns-in-Err-clause-stops : goal.returns-in-Err-clause-stops
returns-in-Err-clause-stops c index rule bad =
    let i = c.fault_of.ensures.within index rule (cc) in
    let told = c.fault_of.ensures.left index rule (cc) in
    let n : length c.args.toks.now - (length c.args.toks.now - index) ≡ index = omega (arith, i) in
    subst (λ (k : ℕ). Stops a_program c.args.toks.now k) n
    (left_stops_program c.args.toks.now (length c.args.toks.now - index)
    (c.in-Err.ensures.stops (length c.args.toks.now - index) (ap Err told)))
