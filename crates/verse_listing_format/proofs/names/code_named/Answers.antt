-- The search is that of the definition.
use Rattle.std.proofs.Common.{sym, arith, rules}
use Rattle.verse_listing_format.proofs.NameLemmas.{found_at, not_at, not_found}
use Rattle.verse_listing_format.proofs.names.code_named.Goals as goal

pub returns-then-eq-clause-code : goal.returns-then-eq-clause-code
returns-then-eq-clause-code c = sym (found_at c.codes.code c.name_at.result.now c.args.name.now (sym c.name_at.ensures) (search rules)
    c.codes.invariant)

pub codes-preserved : goal.codes-preserved
codes-preserved c = not_at c.codes.code c.name_at.result.now c.args.name.now (sym c.name_at.ensures) (search rules) c.codes.invariant

pub returns-clause-code : goal.returns-clause-code
returns-clause-code c = sym (not_found c.codes.code c.args.name.now (omega arith) c.codes.invariant)
