use Rattle.std.proofs.Common.{◌∷◌, [], ◌++◌, length, map, option_map}
use Rattle.std.proofs.lemmas.Result.{err_from_is_err_and}
use Rattle.run_save_shots.specs.View.{given_of}
use Rattle.run_save_format.specs.Values.{each_at}
use Rattle.run_save_format.specs.Reading.{entry_at}
use Rattle.run_save_values.proofs.ListSteps.{each_begins, each_goes_on, each_ends, each_is_done}
use Rattle.run_save_parts.proofs.Noted.{entry_noted, entry_fails}
use Rattle.run_save_parts.proofs.entries.some_entries.Goals as goal

pub entries-init : goal.entries-init
entries-init c = rw (c.new-spawned.ensures.items, c.new-lefts.ensures.items)
    (each_begins (entry_at c.args.entries) c.args.count [] c.args.bytes.now)

pub returns-in_err-entry : goal.returns-in_err-entry
returns-in_err-entry c =
    let p = err_from_is_err_and c.from_residual.result c.from_residual.ensures.1 in
    rw (p.1, p.2) (each_ends (entry_at c.args.entries) c.in_err-entry.field-0.0 (map (option_map given_of) c.entries.spawned.items)
    c.args.count c.entries._i c.entries.lefts.items c.entries.rest.now (each_at (entry_at c.args.entries) c.args.count [] c.args.bytes.now)
    c.entries-test.true
    (entry_fails c.args.entries c.in_err-entry.field-0.0 c.entries.lefts.items c.entries.rest.now c.in_err-entry.ensures)
    c.entries.invariant)

pub entries-preserved : goal.entries-preserved
entries-preserved c =
    rw (c.in_ok-push-2.ensures.items, c.in_ok-push.ensures.items) (each_goes_on (option_map given_of) (entry_at c.args.entries)
    c.entries.spawned.items c.args.count c.entries._i c.entries.lefts.items c.entries.rest.now c.in_ok-entry.entry
    (c.entries.lefts.items ++ length c.entries.rest.now ∷ []) c.in_ok-entry.after.now
    (each_at (entry_at c.args.entries) c.args.count [] c.args.bytes.now) c.entries-test.true
    (entry_noted c.args.entries c.entries.lefts.items c.entries.rest.now (option_map given_of c.in_ok-entry.entry) c.in_ok-entry.after.now
    c.in_ok-entry.ensures) c.entries.invariant)

pub returns : goal.returns
returns c = each_is_done (entry_at c.args.entries) (map (option_map given_of) c.entries.spawned.items) c.args.count c.entries._i
    c.entries.lefts.items c.entries.rest.now (each_at (entry_at c.args.entries) c.args.count [] c.args.bytes.now) c.entries-test.false
    c.entries.invariant
