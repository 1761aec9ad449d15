use Rattle.std.proofs.Common.{◌≡◌, ◌++◌, drop, map}
use Rattle.verse_tree.specs.ItemView.{member_of}
use Rattle.verse_meaning.specs.Programs.{own_fields}
use Rattle.lower_declared.specs.Views.{field_now}
use Rattle.lower_declared.proofs.collecting.add_fields.Given as goal

-- what is done and what is left are all
abbrev pub invariant-members : goal.invariant-members
invariant-members l = map field_now l.found.items ++ own_fields (map member_of (drop l.member-index l.members)) ≡
    map field_now l.fn.found.items ++ own_fields (map member_of l.members)
