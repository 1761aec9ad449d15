-- The rows, computed.
use Rattle.std.proofs.Common.{◌≡◌, refl}
use Rattle.std.specs.Fmt.{digits}
use Rattle.verse_code_machine_laws.specs.Rows.{ValuesRun, CellsRun, AttemptsRun, CallsRun, DomainsRun, DeferredRun, TasksRun}
use Rattle.verse_code_machine_laws.specs.Rows.{CancellingRuns}

pub values_run : ValuesRun
unfolding digits
values_run = record {
  same_of_two_kinds = refl;
  equal_of_two_kinds = refl;
  map_at_another_kind = refl;
  map_at_an_enum = refl;
  array_at_a_char = refl;
  map_at_an_option = refl;
  no_operands = refl;
  append_to_unit = refl;
  item_outside = refl;
  query_of_an_int = refl;
  query_of_false = refl;
  print_of_an_int = refl;
  get_of_no_local = refl;
  main_with_an_input = refl;
  end_of_the_code = refl;
  end_behind_a_sleep = refl;
}

pub cells_run : CellsRun
unfolding digits
cells_run = record {
  add_where_absent = refl;
  set_where_absent = refl;
  path_fails_first = refl;
  path_is_stuck_first = refl;
  add_of_two_kinds = refl;
  store_on_the_edge = refl;
  store_overflows = refl;
  store_at_a_negative = refl;
  store_in_no_slot = refl;
  store_in_an_event = refl;
  object_with_too_few = refl;
  cell_that_is_undone = refl;
  cell_made_again = refl;
  event_that_is_a_variable = refl;
  event_made_again = refl;
}

pub attempts_run : AttemptsRun
unfolding digits
attempts_run = record {
  overflow_on_the_edge = refl;
  overflow_within = refl;
  fail_on_the_edge = refl;
  comparison_holds_on_the_edge = refl;
  comparison_fails_on_the_edge = refl;
  jump_out_of_an_attempt = refl;
  jump_within = refl;
  again_out_of_an_attempt = refl;
  again_spends_steps = refl;
  same_out_of_an_attempt = refl;
  same_within = refl;
  drop_below_an_attempt = refl;
  commit_joins_operands = refl;
  commit_of_no_attempt = refl;
  fail_drops_operands = refl;
  undo_takes_writes_back = refl;
  return_within = refl;
}

pub calls_run : CallsRun
unfolding digits
calls_run = record {
  call_out_of_an_attempt = refl;
  call_within = refl;
  call_below_an_attempt = refl;
  fail_in_a_call = refl;
  undo_in_a_call = refl;
  method = refl;
  method_with_one_more = refl;
  method_of_a_variable = refl;
}

pub domains_run : DomainsRun
unfolding digits
domains_run = record {
  range_from_a_text = refl;
  range_to_unit = refl;
  each_of_an_int = refl;
  take_into_no_local = refl;
  take_from_a_spent_range = refl;
  take_at_a_negative = refl;
  take_from_a_map_at_unit = refl;
  take_spends_steps = refl;
  take_over_the_domain = refl;
  take_over_the_index = refl;
  take_out_of_an_attempt = refl;
}

pub deferred_run : DeferredRun
unfolding digits
deferred_run = record {
  undo_keeps_deferred = refl;
  commit_keeps_deferred = refl;
  fail_drops_deferred = refl;
  leave_more_than_there_are = refl;
  leave_below_an_attempt = refl;
  leave_within = refl;
  leave_spends_steps = refl;
  leave_out_of_an_attempt = refl;
  end_of_no_deferred = refl;
  end_of_deferred_in_an_attempt = refl;
  end_of_deferred_within = refl;
  attempt_in_deferred = refl;
  return_with_deferred = refl;
  return_in_deferred = refl;
  print_in_a_call_of_deferred = refl;
  sleep_in_a_call_of_deferred = refl;
  spawn_in_deferred = refl;
}

pub tasks_run : TasksRun
unfolding digits
tasks_run = record {
  group_of_no_arms = refl;
  group_of_too_few_arms = refl;
  arm_of_no_group = refl;
  arm_without_a_value = refl;
  end_of_an_arm_in_main = refl;
  end_of_an_arm_in_a_call = refl;
  return_in_an_arm = refl;
  locals_of_an_arm = refl;
  group_in_an_attempt = refl;
  sync = refl;
  race = refl;
  rush = refl;
  sleep_in_an_attempt = refl;
  sleep_in_an_attempt_of_the_caller = refl;
  signal_in_an_attempt = refl;
  signals_in_their_order = refl;
  spawn = refl;
  task_that_awaits_itself = refl;
}

pub cancelling_runs : CancellingRuns
unfolding digits
cancelling_runs = record {
  race_over_at_once = refl;
  end_of_an_arm = refl;
  return_of_a_call = refl;
  last_branch_first = refl;
  last_frame_first = refl;
  frames_of_an_arm = refl;
  deferred_in_deferred = refl;
  sleep_in_deferred = refl;
  fail_in_deferred = refl;
  attempt_in_deferred = refl;
  overflow_in_deferred = refl;
}
