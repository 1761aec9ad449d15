use Rattle.std.proofs.Common.{◌≡◌, ◌++◌, drop, map}
use Rattle.verse_tree.specs.ItemView.{member_of}
use Rattle.lower_code.specs.Programs.{methods_in}
use Rattle.lower_items.specs.Views.{body_view}
use Rattle.lower_items.proofs.bodies.add_methods.Given as goal

-- what is done and what is left are all
abbrev pub invariant-members : goal.invariant-members
invariant-members l = map body_view l.found.items ++ methods_in (map member_of (drop l.member-index l.members)) ≡
    map body_view l.fn.found.items ++ methods_in (map member_of l.members)
