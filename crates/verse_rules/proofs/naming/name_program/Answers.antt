use Rattle.std.proofs.Common.{map, sym, ◌∙◌}
use Rattle.verse_tree.specs.ItemView.{item_of}
use Rattle.verse_rules.proofs.Refusing.{misnamed}
use Rattle.verse_rules.proofs.naming.name_program.Goals as goal

pub returns-in-Some-clause-refused : goal.returns-in-Some-clause-refused
returns-in-Some-clause-refused c r e =
    misnamed (map item_of c.args.tree.now.items) c.in_ok-items.items c.in_ok-scoped.scoped.fault c.in-Some.fault c.refusal.result r
    c.in_ok-items.ensures.least c.in_ok-items.ensures.placed c.in_ok-scoped.ensures.least c.in_ok-scoped.ensures.placed
    (sym c.lesser.ensures ∙ c.in-Some.is) c.refusal.ensures e
