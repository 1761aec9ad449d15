-- What is saved is found: the mark, the code, the numbers, and then all parts.
use Rattle.std.proofs.Common.{◌≡◌, ℕ, ◌-◌, true, List, [], ◌∷◌, ◌++◌, length}
use Rattle.std.proofs.Common.{Ok, refl, ap, ◌∙◌, arith, eq-eqb}
use Rattle.verse_base.specs.declared.limits.TheConstants.{MOST_TRACE_BYTES}
use Rattle.verse_image.specs.Format.{◌⨾◌, plain, Image, version_of}
use Rattle.verse_image.specs.Format as image
use Rattle.verse_image.specs.Reading.{mark_at}
use Rattle.verse_image.proofs.ImageLaws.{image_again, mark_again}
use Rattle.verse_code.specs.declared.codes.Code.{Code}
use Rattle.verse_base.specs.declared.limits.TheConstants.{MOST_STEPS, MOST_NOW}
use Rattle.run_save_shots.specs.Fitting.{Fits}
use Rattle.run_save_shots.specs.Kept.{Kept}
use Rattle.run_save_format.specs.Format.{mark, imaged, numbers}
use Rattle.run_save_format.specs.Reading.{code_at, is_written, numbers_at, parts_found_at}
use Rattle.run_save_restores.specs.Found.{SavedIsFound}
use Rattle.run_save_restores.proofs.Numbers.{Gives, gives_most, gives_wide, stands_first}
use Rattle.run_save_restores.proofs.Stores.{gives_cells, gives_spawned}
use Rattle.run_save_restores.proofs.Tasks.{numbers_of, gives_tasks}

-- ---- the mark

gives_mark : (bytes rest : List ℕ) → plain mark bytes rest → mark_at mark (length bytes) bytes ≡ Ok rest
gives_mark bytes rest h = ap (mark_at mark (length bytes)) h ∙ mark_again mark (length bytes) rest

-- ---- the code

-- its image is of the version that is written
written_is : (c : Code) (bytes : List ℕ) → Image (version_of c) c bytes → is_written c bytes ≡ true
written_is c bytes i =
    let head = i.spelled.1.1.1.1 in
    let same : bytes ≡ image.mark ++ version_of c ∷ i.spelled.1.1.1.0 = head.1 ∙ ap (λ w. image.mark ++ w) head.2 in
    ap (is_written c) same ∙ eq-eqb (version_of c) (version_of c) refl

gives_code : (c : Code) → Gives (imaged c) code_at c
unfolding code_at
gives_code c bytes rest h =
    let text = h.0 in
    let first = stands_first text h.2.0 rest h.2.2 in
    rw (
      gives_wide (length text) bytes h.2.0 h.2.1,
      first.long,
      first.front,
      first.back,
      image_again (version_of c) c text h.1,
      written_is c text h.1,
    ) refl

-- ---- the numbers

gives_numbers : (c : Code) (s : Kept) → Fits c s → Gives (numbers s) numbers_at (numbers_of s)
unfolding numbers_at
gives_numbers c s fit bytes rest h =
    let steps = fit.steps in
    rw (
      gives_most MOST_STEPS s.left (omega arith) bytes h.1.1.1.1.0 h.1.1.1.1.1,
      gives_most (MOST_STEPS - s.left) s.spent (omega arith) h.1.1.1.1.0 h.1.1.1.0 h.1.1.1.1.2,
      gives_most MOST_NOW s.now fit.now h.1.1.1.0 h.1.1.0 h.1.1.1.2,
      gives_most s.spent s.next fit.next h.1.1.0 h.1.0 h.1.1.2,
      gives_most MOST_TRACE_BYTES s.bytes fit.bytes h.1.0 h.0 h.1.2,
      gives_most s.bytes s.lines fit.lines h.0 rest h.2,
    ) refl

-- ---- all

pub saved_found : SavedIsFound
unfolding parts_found_at
saved_found c s bytes saved =
    let fit = saved.fits in
    let h = saved.spelled in
    let cells = gives_cells c.classes (length s.spawned) s.cells h.1.1.0 h.1.0 fit.weight fit.cells fit.slots h.1.1.2 in
    let spawned = gives_spawned s.spent s.spawned h.1.0 h.0 fit.few_entries fit.spawned h.1.2 in
    let tasks = gives_tasks c s s.tasks h.0 [] fit.few_tasks fit.tasks fit.waits h.2 in (
      record { code = c; kept = s; cell_lefts = cells.lefts; entry_lefts = spawned.lefts; task_lefts = tasks.lefts },
      rw (
        gives_mark bytes h.1.1.1.1.0 h.1.1.1.1.1,
        gives_code c h.1.1.1.1.0 h.1.1.1.0 h.1.1.1.1.2,
        gives_numbers c s fit h.1.1.1.0 h.1.1.0 h.1.1.1.2,
        cells.read,
        spawned.read,
        tasks.read,
      ) refl,
      refl,
      refl,
      record { cells = cells.count; entries = spawned.count; tasks = tasks.count },
    )
