use Rattle.std.specs.Prelude.{◌≡◌, map, IfOk}
use Rattle.std.proofs.Common.{subst}
use Rattle.verse_tree.specs.ItemView.{member_of}
use Rattle.verse_names_declarations.specs.Known.{known_of}
use Rattle.verse_names_items.specs.Faults as faults
use Rattle.verse_names_items.proofs.faults.home_fault.Goals as goal

pub returns : goal.returns
returns c = subst (λ h. IfOk c.members_fault.result (λ r. r ≡ faults.members_fault (known_of c.args.known.now) h c.args.at.funs
    (map member_of c.args.members.now))) c.in_ok-home.ensures c.members_fault.ensures
