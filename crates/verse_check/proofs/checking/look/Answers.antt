use Rattle.std.proofs.Common.{map, ap, sym, subst}
use Rattle.verse_tree.specs.ItemView.{item_of}
use Rattle.verse_check_typing.specs.Steps.{Sight}
use Rattle.verse_check.specs.Checking.{TellsTypes, AreTypesOf}
use Rattle.verse_check.proofs.Answering.{answers}
use Rattle.verse_check.proofs.Entries.{entries}
use Rattle.verse_check.proofs.checking.look.Goals as goal

pub returns-clause-types : goal.returns-clause-types
returns-clause-types c = ap (λ (x : Sight). x.types) c.in_ok-seen.ensures

pub returns-clause-refs : goal.returns-clause-refs
returns-clause-refs c = ap (λ (x : Sight). x.refs) c.in_ok-seen.ensures

pub returns-clause-vars : goal.returns-clause-vars
returns-clause-vars c = ap (λ (x : Sight). x.vars) c.in_ok-seen.ensures

pub returns-clause-fault : goal.returns-clause-fault
returns-clause-fault c =
    let k = c.args.names.now in
    let is = map item_of c.args.tree.now.items in
    subst (λ (x : Sight). TellsTypes k is x.fault) (sym c.in_ok-seen.ensures) (answers k is c.requires.numbered)

pub returns-clause-judged : goal.returns-clause-judged
returns-clause-judged c =
    let k = c.args.names.now in
    let is = map item_of c.args.tree.now.items in
    subst (λ (x : Sight). AreTypesOf k is x.types) (sym c.in_ok-seen.ensures) (entries k is)
