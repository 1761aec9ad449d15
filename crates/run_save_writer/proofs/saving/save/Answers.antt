use Rattle.std.proofs.Common.{ℕ, List, map, option_map, subst, sym}
use Rattle.std.specs.Prelude.{Option}
use Rattle.std.specs.Global.{Vec}
use Rattle.verse_value.specs.declared.runs.CellKind.{CellKind}
use Rattle.verse_value.specs.declared.values.Value.{Value}
use Rattle.verse_image.specs.Format.{plain}
use Rattle.verse_image.specs.Writing.{Writes}
use Rattle.run_save_shots.specs.declared.shots.TaskShot.{TaskShot}
use Rattle.run_save_shots.specs.Lists.{Each}
use Rattle.run_save_shots.specs.Fitting.{TaskFits}
use Rattle.run_save_shots.specs.View.{shot_of, cell_of, given_of, task_of}
use Rattle.run_save_format.specs.Format.{mark, imaged, numbers, list, maybe, cell_field, given, task_field}
use Rattle.run_save_writer.proofs.WholeRuns.{all_suited, writes_six, saved_from}
use Rattle.run_save_writer.proofs.saving.save.Goals as goal

pub push_tasks-requires : goal.push_tasks-requires
push_tasks-requires c =
    all_suited c.args.code.now (shot_of c.args.shot.now) c.as_slice-3.result.now
    (subst (λ (xs : List TaskShot). Each (TaskFits c.args.code.now (shot_of c.args.shot.now)) (map task_of xs))
    (sym c.as_slice-3.ensures.value) c.requires.fits.tasks)

pub returns : goal.returns
returns c =
    let s = c.args.shot.now in
    let cells : Writes (list cell_field (map cell_of s.cells.items)) c.push_counts.new.out.items c.push_cells.new.out.items =
    subst (λ (xs : List (CellKind × Vec Value)). Writes (list cell_field (map cell_of xs)) c.push_counts.new.out.items
    c.push_cells.new.out.items) c.as_slice.ensures.value c.in_ok-push_cells.ensures in
    let spawned : Writes (list (maybe given) (map (option_map given_of) s.spawned.items)) c.push_cells.new.out.items
    c.push_spawned.new.out.items =
    subst (λ (xs : List (Option (Value × ℕ))). Writes (list (maybe given) (map (option_map given_of) xs)) c.push_cells.new.out.items
    c.push_spawned.new.out.items) c.as_slice-2.ensures.value c.in_ok-push_spawned.ensures in
    let tasks : Writes (list task_field (map task_of s.tasks.items)) c.push_spawned.new.out.items c.push_tasks.new.out.items =
    subst (λ (xs : List TaskShot). Writes (list task_field (map task_of xs)) c.push_spawned.new.out.items
    c.push_tasks.new.out.items) c.as_slice-3.ensures.value c.in_ok-push_tasks.ensures in
    saved_from c.args.code.now (shot_of s) c.new-out.result.items c.push_tasks.new.out.items c.new-out.ensures.items c.requires.fits
    (writes_six (plain mark) (imaged c.args.code.now) (numbers (shot_of s)) (list cell_field (map cell_of s.cells.items))
    (list (maybe given) (map (option_map given_of) s.spawned.items)) (list task_field (map task_of s.tasks.items)) _ _ _ _ _ _ _
    c.in_ok-push_bytes.ensures c.in_ok-push_code.ensures c.in_ok-push_counts.ensures cells spawned tasks)
