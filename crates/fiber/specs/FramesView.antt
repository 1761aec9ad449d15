-- The frames of a fiber.
use Rattle.std.specs.Prelude.{◌≡◌, ◌≤◌, List, length}
use Rattle.fiber_stacks.specs.Heads.{height}
use Rattle.fiber.specs.Frames.{Frame}
use Rattle.fiber.specs.Framing.{frames}
use Rattle.fiber.specs.declared.fibers.Fiber.TheInside.{Inside}

abbrev pub frames_of : Inside → List Frame
frames_of f = frames f.heads f.levels

pub record IsWhole (f : Inside) : Type 0 where
  pub high : length f.levels ≡ height f.heads
  pub few : length f.heads ≤ 4294967295
