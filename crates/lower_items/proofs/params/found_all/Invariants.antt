use Rattle.std.proofs.Common.{◌≡◌, ◌++◌, drop, map}
use Rattle.lower_items.specs.Noted.{entries_of}
use Rattle.lower_items.specs.Params.{found_at}
use Rattle.lower_items.proofs.params.found_all.Given as goal

-- what is done and what is left are all
abbrev pub invariant-infos : goal.invariant-infos
invariant-infos l = l.found.items ++ map (found_at (entries_of l.noted)) (drop l.info-index l.infos) ≡
    map (found_at (entries_of l.noted)) l.infos
