use Rattle.std.proofs.Common.{map, rules}
use Rattle.verse_tree.specs.ItemView.{item_of}
use Rattle.verse_rules.proofs.Codes.{unsound_listed}
use Rattle.verse_accept.proofs.Tested.{all_fine, unsound, too_large}
use Rattle.verse_accept.proofs.programs.test.Goals as goal

pub returns-in_err-checked-clause-refused : goal.returns-in_err-checked-clause-refused
returns-in_err-checked-clause-refused c r h =
    unsound (map item_of c.args.tree.now.items) r (c.in_err-checked.ensures.refused r (search rules))

pub returns-in_err-checked-clause-listed : goal.returns-in_err-checked-clause-listed
returns-in_err-checked-clause-listed c r h =
    unsound_listed (map item_of c.args.tree.now.items) r (c.in_err-checked.ensures.refused r (search rules))

pub returns-in_err-bound-clause-refused : goal.returns-in_err-bound-clause-refused
returns-in_err-bound-clause-refused c r h =
    too_large (map item_of c.args.tree.now.items) r c.in_ok-checked.ensures.fine (c.in_err-bound.ensures.refused r (search rules))

pub returns-clause-fine : goal.returns-clause-fine
returns-clause-fine c = all_fine (map item_of c.args.tree.now.items) c.in_ok-checked.ensures.fine c.in_ok-bound.ensures.fine
