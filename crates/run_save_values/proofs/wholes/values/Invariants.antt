use Rattle.std.proofs.Common.{◌≡◌, ◌-◌}
use Rattle.verse_value.specs.View.{vals_of}
use Rattle.run_save_format.specs.Values.{each_at, value_at}
use Rattle.run_save_values.proofs.ListSteps.{after_front}
use Rattle.run_save_values.proofs.wholes.values.Given as goal

abbrev pub invariant-values : goal.invariant-values
invariant-values l = after_front (vals_of l.values.items) (each_at (value_at l.place) (l.count - l._i) l.cells l.rest) ≡
    each_at (value_at l.place) l.count l.fn.cells l.bytes
