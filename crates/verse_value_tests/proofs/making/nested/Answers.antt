use Rattle.std.proofs.Common.{rules}
use Rattle.verse_value_tests.proofs.NestedLemmas.{one_more}
use Rattle.verse_value_tests.proofs.making.nested.Goals as goal

pub options-preserved : goal.options-preserved
options-preserved c = search (rules, one_more)
