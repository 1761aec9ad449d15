use Rattle.std.proofs.Common.{◌≡◌, drop, map}
use Rattle.verse_tree.specs.ItemView.{member_of}
use Rattle.lower_items.specs.Parts.{methods_behind}
use Rattle.lower_items.proofs.bodies.methods_behind.Given as goal

-- what is done and what is left are all
abbrev pub invariant-members : goal.invariant-members
invariant-members l = methods_behind (map member_of (drop l.member-index l.members)) l.at ≡
    methods_behind (map member_of l.members) l.number
