-- A store with these cells, and a machine of which no task runs.
use Rattle.std.specs.Prelude.{[]}
use Rattle.verse_value.specs.Store.{Store}
use Rattle.tx_heap.specs.State.{State}
use Rattle.vm_running.specs.Views.{View}
use Rattle.run_save_machine.specs.declared.running.Clock.{Clock}
use Rattle.run_save_machine.specs.declared.running.Printed.{Printed}

-- no mark is open
abbrev pub filled : Store → State
filled cells = record { cells = cells; copies = [] }

-- no task runs, no handler is open, and of the trace nothing is left
abbrev pub standing : Store → Clock → Printed → View
standing cells clock printed = record {
  frames = [];
  heap = filled cells;
  trace = record { kept = []; marks = []; bytes = printed.bytes; lines = printed.lines };
  left = clock.left;
  spent = clock.spent;
  moment = clock.now;
}
