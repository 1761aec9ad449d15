-- How a sink in memory is seen.
use Rattle.std.specs.Prelude.{◌≤◌, ◌<◌, length, vec_capacity}
use Rattle.verse_outside.specs.declared.memory_sinks.MemSink.TheInside.{Inside}
use Rattle.verse_outside.specs.Intake.{Intake}

abbrev pub intake_of : Inside → Intake
intake_of s = record {
  taken = s.taken.items;
  writes = s.writes;
  failing = s.failing.items;
  faults = s.faults;
  room = s.room;
  most =
      s.most;
}

-- the room is reserved, and a write can take a byte
pub record IsReserved (s : Inside) : Type 0 where
  pub within : length s.taken.items ≤ s.room
  pub reserved : s.room ≤ vec_capacity s.taken
  pub some : 0 < s.most
