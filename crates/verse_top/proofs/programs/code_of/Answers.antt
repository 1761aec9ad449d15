-- The code is that of the items.
use Rattle.std.proofs.Common.{◌≡◌, map}
use Rattle.verse_tree.specs.ItemView.{item_of}
use Rattle.verse_top.specs.Meaning.{code_from}
use Rattle.verse_top.proofs.MeaningLaws.{lowered_code, lowered_does, lowered_valid}
use Rattle.verse_top.proofs.programs.code_of.Goals as goal

pub returns-in-Ok-clause-code : goal.returns-in-Ok-clause-code
returns-in-Ok-clause-code c =
    lowered_code c.requires.0 c.args.program.now c.requires.1 c.accepted_can_be_followed.ensures c.get.result.now c.in-Ok.code c.get.ensures
    c.in-Ok.ensures.code

pub returns-in-Ok-clause-valid : goal.returns-in-Ok-clause-valid
returns-in-Ok-clause-valid c =
    let law = c.accepted_can_be_followed.ensures in
    let code : c.in-Ok.code ≡ code_from (map item_of c.args.program.now.tree.items) c.args.program.now.tree.files =
    lowered_code c.requires.0 c.args.program.now c.requires.1 law c.get.result.now c.in-Ok.code c.get.ensures c.in-Ok.ensures.code in
    lowered_valid c.requires.0 c.args.program.now c.requires.1 law c.in-Ok.code code c.code_is_valid.ensures

pub returns-in-Ok-clause-does : goal.returns-in-Ok-clause-does
returns-in-Ok-clause-does c =
    let law = c.accepted_can_be_followed.ensures in
    let code : c.in-Ok.code ≡ code_from (map item_of c.args.program.now.tree.items) c.args.program.now.tree.files =
    lowered_code c.requires.0 c.args.program.now c.requires.1 law c.get.result.now c.in-Ok.code c.get.ensures c.in-Ok.ensures.code in
    lowered_does c.requires.0 c.args.program.now c.requires.1 law c.in-Ok.code code c.code_means_the_same.ensures
    c.turns_are_the_same.ensures
