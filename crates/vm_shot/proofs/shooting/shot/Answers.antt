-- What is kept has the parts of the machine.
use Rattle.std.proofs.Common.{◌≡◌, map, option_map, refl, ap, ◌∙◌, rules}
use Rattle.vm_scheduler.specs.Frames.{frames_in}
use Rattle.vm_scheduler.specs.Standing.{given_of}
use Rattle.run_save_shots.specs.View.{shot_of}
use Rattle.run_save_shots.specs.declared.shots.Shot.{Shot}
use Rattle.vm_shot.proofs.Holding.{are_frames, all_have}
use Rattle.vm_shot.proofs.shooting.shot.Goals as goal

pub tasks_shot-requires : goal.tasks_shot-requires
tasks_shot-requires g c = all_have _ c.args.tasks.now.tree c.requires.resting.clock.fine

pub returns-clause-spells : goal.returns-clause-spells
returns-clause-spells g c =
    let shot : Shot = record {
      left = c.args.run.now.left;
      spent = c.args.run.now.spent;
      now = c.args.run.now.moment;
      next = c.args.tasks.now.next;
      bytes = c.bytes-bytes.result;
      lines = c.lines-lines.result;
      cells = c.in_ok-cells.cells;
      spawned = c.in_ok-spawned.spawned;
      tasks = c.in_ok-suspended.suspended;
    } in
    let entries : c.as_slice.result.now ≡ c.args.tasks.now.results.items = search rules in
    c.parts_spell.ensures (shot_of shot) (record {
      left = refl;
      spent = refl;
      now = refl;
      next = refl;
      bytes = c.bytes-bytes.ensures;
      lines = c.lines-lines.ensures;
      cells = c.in_ok-cells.ensures.cells;
      spawned = c.in_ok-spawned.ensures ∙ ap (λ rs. map (λ o. option_map given_of o) rs) entries;
      tasks = c.in_ok-suspended.ensures frames_in are_frames;
    })
