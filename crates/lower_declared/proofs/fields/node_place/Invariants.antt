use Rattle.std.proofs.Common.{◌≡◌, drop}
use Rattle.lower_declared.specs.Fields.{place_among}
use Rattle.lower_declared.proofs.fields.node_place.Given as goal

-- what is left, from here on, ends as all does from the start
abbrev pub invariant-nodes : goal.invariant-nodes
invariant-nodes l = place_among l.node (drop l.other-index l.nodes) l.at ≡ place_among l.node l.nodes l.first
