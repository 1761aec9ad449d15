-- The rows, computed.
use Rattle.std.proofs.Common.{refl}
use Rattle.lower_code.specs.Lowering as l
use Rattle.lower_code_laws.specs.Forms.{
  BlocksHaveCode,
  WritesHaveCode,
  AttemptsHaveCode,
  LoopsHaveCode,
  OperatorsHaveCode,
  CallsHaveCode,
  ValuesHaveCode,
  TasksHaveCode,
  WrongHasCode,
}

pub blocks_have_code : BlocksHaveCode
unfolding l.by_callee l.grouped l.arm_by l.instance_of l.named l.membered l.stated l.claused
blocks_have_code = record {
  statements = refl;
  definition = refl;
  variable = refl;
  deferring = refl;
  returned = refl;
  returned_behind_defer = refl;
  returned_unit = refl;
  block_form = refl;
}

pub writes_have_code : WritesHaveCode
unfolding l.by_callee l.grouped l.arm_by l.instance_of l.named l.membered l.stated l.claused
writes_have_code = record {
  set_variable = refl;
  set_of_another_type = refl;
  add_to_variable = refl;
  sub_from_variable = refl;
  mul_variable = refl;
  set_element = refl;
  set_own_field = refl;
  set_field = refl;
}

pub attempts_have_code : AttemptsHaveCode
unfolding l.by_callee l.grouped l.arm_by l.instance_of l.named l.membered l.stated l.claused
attempts_have_code = record {
  if_else = refl;
  if_alone = refl;
  if_defines = refl;
  negation = refl;
  either = refl;
  both = refl;
  option = refl;
  logic = refl;
}

pub loops_have_code : LoopsHaveCode
unfolding l.by_callee l.grouped l.arm_by l.instance_of l.named l.membered l.stated l.claused
loops_have_code = record {
  loop_form = refl;
  loop_broken = refl;
  broken_above_an_operand = refl;
  elements = refl;
  entries = refl;
  range = refl;
  elements_where = refl;
  elements_with = refl;
  cases = refl;
  integer_pattern = refl;
  minus_pattern = refl;
  character_pattern = refl;
  text_pattern = refl;
  truth_pattern = refl;
  falsehood_pattern = refl;
  enum_pattern = refl;
}

pub operators_have_code : OperatorsHaveCode
unfolding l.by_callee l.grouped l.arm_by l.instance_of l.named l.membered l.stated l.claused
operators_have_code = record {
  sum = refl;
  difference = refl;
  product = refl;
  arrays_joined = refl;
  equal = refl;
  differs = refl;
  below = refl;
  at_most = refl;
  above = refl;
  at_least = refl;
  minus = refl;
  query = refl;
}

pub calls_have_code : CallsHaveCode
unfolding l.by_callee l.grouped l.arm_by l.instance_of l.named l.membered l.stated l.claused
calls_have_code = record {
  enum_value = refl;
  field = refl;
  length = refl;
  call = refl;
  failable_call = refl;
  own_method = refl;
  method = refl;
  print = refl;
  floor = refl;
  ceil = refl;
  modulo = refl;
  await_task = refl;
  await_event = refl;
  signal_unit = refl;
  signal = refl;
  item = refl;
  element = refl;
  await_more = refl;
  signal_more = refl;
  first_item = refl;
  element_more = refl;
}

pub values_have_code : ValuesHaveCode
unfolding l.by_callee l.grouped l.arm_by l.instance_of l.named l.membered l.stated l.claused
values_have_code = record {
  integer = refl;
  character = refl;
  text = refl;
  holes = refl;
  truth = refl;
  falsehood = refl;
  this = refl;
  constant_name = refl;
  variable_name = refl;
  field_name = refl;
  tuple = refl;
  array = refl;
  mapping = refl;
  instance = refl;
  event = refl;
  bare_event = refl;
}

pub tasks_have_code : TasksHaveCode
unfolding l.by_callee l.grouped l.arm_by l.instance_of l.named l.membered l.stated l.claused
tasks_have_code = record {
  sync = refl;
  race = refl;
  rush = refl;
  branch = refl;
  spawn_call = refl;
  spawn_own_method = refl;
  spawn_method = refl;
  pause = refl;
  forever = refl;
}

pub wrong_has_code : WrongHasCode
unfolding l.by_callee l.grouped l.arm_by l.instance_of l.named l.membered l.stated l.claused
wrong_has_code = record {
  unknown_name = refl;
  broken_outside = refl;
  returned_in_attempt = refl;
}
