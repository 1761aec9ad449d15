use Rattle.note_sorts.specs.Tabled.{found_of}
use Rattle.note_stretches.specs.Noted.{noted}
use Rattle.note_applied.proofs.Steps.{store_by}
use Rattle.note_applied.proofs.values.store_kept.Goals as goal

pub returns : goal.returns
returns c =
    let found = found_of c.args.program.now in
    store_by c.args.storing.local c.args.storing.beneath c.in_ok-all.all (found.sort c.args.storing.place)
    (found.sort c.args.storing.value) (noted c.args.noting.now) _ _ _ _ c.in_ok-all.ensures
    c.in_ok-keep.ensures c.in_ok-replace.ensures c.in_ok-drop_values.ensures c.in_ok-last.ensures
