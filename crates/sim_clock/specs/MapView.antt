-- What waits in ordered maps stand for.
use Rattle.std.specs.Prelude.{List}
use Rattle.std.specs.BTreeMap.{values}
use Rattle.sim_clock.specs.Indexed.{IsIndexed}
use Rattle.sim_clock.specs.declared.waits.Pending.{Pending}
use Rattle.sim_clock.specs.declared.map_waits.MapWaits.TheInside.{Inside}

abbrev pub pending_of : Inside → List Pending
pending_of w = values w.pending

abbrev pub IsWhole : Inside → Type 0
IsWhole w = IsIndexed w.pending w.index
