use Rattle.std.proofs.Common.{◌≡◌, map, drop}
use Rattle.verse_tree.specs.ItemView.{member_of}
use Rattle.verse_rules_walk.specs.Through.{through_members}
use Rattle.verse_rules_walk.proofs.items.walk_members.Given as goal

abbrev pub invariant-members : goal.invariant-members
invariant-members g l =
    let step = g.P.Pass.step l.pass in
    through_members step (map member_of (drop l.member-index l.members)) (g.P.Pass.sight l.seen) ≡
    through_members step (map member_of l.members) (g.P.Pass.sight l.fn.seen)
