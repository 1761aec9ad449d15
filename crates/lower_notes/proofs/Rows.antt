-- The rows, computed.
use Rattle.std.proofs.Common.{refl}
use Rattle.verse_image.specs.Reading.{many_at, within_at, number_at, digits_at}
use Rattle.lower_code.specs.Lowering as l
use Rattle.lower_notes.specs.Noting as n
use Rattle.lower_notes.specs.Rows.{ValuesPass, AttemptsPass, LoopsPass, DefersPass, TasksPass, WritesPass}
use Rattle.lower_notes.specs.Rows.{CallsPass, NothingPasses}

pub values_pass : ValuesPass
unfolding l.by_callee l.grouped l.arm_by l.instance_of l.named l.membered l.stated l.claused
    n.by_callee n.arm_by n.instance_of n.named n.membered n.stated n.claused
    many_at within_at number_at digits_at
values_pass = record {
  sums = refl;
  items = refl;
  joined = refl;
  printed = refl;
  mapped = refl;
  counted = refl;
  typed = refl;
}

pub attempts_pass : AttemptsPass
unfolding l.by_callee l.grouped l.arm_by l.instance_of l.named l.membered l.stated l.claused
    n.by_callee n.arm_by n.instance_of n.named n.membered n.stated n.claused
    many_at within_at number_at digits_at
attempts_pass = record {
  defines = refl;
  negation = refl;
  either = refl;
  options = refl;
  returned = refl;
}

pub loops_pass : LoopsPass
unfolding l.by_callee l.grouped l.arm_by l.instance_of l.named l.membered l.stated l.claused
    n.by_callee n.arm_by n.instance_of n.named n.membered n.stated n.claused
    many_at within_at number_at digits_at
loops_pass = record {
  broken = refl;
  broken_at_times = refl;
  endless = refl;
  elements = refl;
  nested = refl;
  entries = refl;
  in_condition = refl;
  cases = refl;
  case_behind_any = refl;
  broken_in_for = refl;
  loops_in_loops = refl;
  broken_in_case = refl;
}

pub defers_pass : DefersPass
unfolding l.by_callee l.grouped l.arm_by l.instance_of l.named l.membered l.stated l.claused
    n.by_callee n.arm_by n.instance_of n.named n.membered n.stated n.claused
    many_at within_at number_at digits_at
defers_pass = record {
  deferring = refl;
  returned = refl;
  nested = refl;
  broken = refl;
  in_condition = refl;
  in_arm = refl;
  returned_behind = refl;
  one_defined = refl;
  two_scopes = refl;
}

pub tasks_pass : TasksPass
unfolding l.by_callee l.grouped l.arm_by l.instance_of l.named l.membered l.stated l.claused
    n.by_callee n.arm_by n.instance_of n.named n.membered n.stated n.claused
    many_at within_at number_at digits_at
tasks_pass = record {
  group = refl;
  branch = refl;
  event_awaited = refl;
  task_awaited = refl;
  groups_in_groups = refl;
  group_in_loop = refl;
  forever = refl;
}

pub writes_pass : WritesPass
unfolding l.by_callee l.grouped l.arm_by l.instance_of l.named l.membered l.stated l.claused
    n.by_callee n.arm_by n.instance_of n.named n.membered n.stated n.claused
    many_at within_at number_at digits_at
writes_pass = record {
  variable = refl;
  another_type = refl;
  element = refl;
  field_written = refl;
}

pub calls_pass : CallsPass
unfolding l.by_callee l.grouped l.arm_by l.instance_of l.named l.membered l.stated l.claused
    n.by_callee n.arm_by n.instance_of n.named n.membered n.stated n.claused
    many_at within_at number_at digits_at
calls_pass = record {
  quotient = refl;
  remainder = refl;
  own_field = refl;
  own_field_written = refl;
  own_method = refl;
  left_in_method = refl;
}

pub nothing_passes : NothingPasses
unfolding l.by_callee l.grouped l.arm_by l.instance_of l.named l.membered l.stated l.claused
    n.by_callee n.arm_by n.instance_of n.named n.membered n.stated n.claused
    many_at within_at number_at digits_at
nothing_passes = record {
  called = refl;
  no_index = refl;
  indices = refl;
  awaited = refl;
  signalled = refl;
  counted = refl;
  matched = refl;
}
