use Rattle.std.proofs.Common.{map, ap, ◌∙◌, option_map}
use Rattle.lower_items.specs.Views.{body_view}
use Rattle.verse_verify_notes.specs.View.{classes_of, func_of, spot_of}
use Rattle.note_stretches.specs.Noted.{noted, walked}
use Rattle.verse_note.specs.Making.{bodies_walk}
use Rattle.verse_note.proofs.Wholes.{functions_done, whole_done}
use Rattle.verse_note.proofs.programs.notes_by.Goals as goal

pub add_bodies-requires : goal.add_bodies-requires
add_bodies-requires c =
    ap (map func_of) c.deref-3.ensures.value
    ∙ functions_done c.args.tables.now.program.now c.args.code.now (map body_view c.deref-2.result.now)
    c.deref.result.now (map func_of c.in_ok-functions.functions.items)
    (search (c.deref-2.ensures.value, c.in_ok-bodies.ensures, c.as_slice-items.ensures))
    (search (c.deref.ensures.value, c.in_ok-owners.ensures, c.as_slice-items.ensures))
    (c.in_ok-functions.ensures c.args.code.now)

pub returns : goal.returns
returns c =
    let p = c.args.tables.now.program.now in
    let code = c.args.code.now in
    whole_done p code (map body_view c.deref-4.result.now) (classes_of c.in_ok-classes.classes.items)
    (map func_of c.in_ok-functions.functions.items) (map (option_map spot_of) c.finish.result.items)
    (noted c.add_bodies.new.noting)
    (search (c.deref-4.ensures.value, c.in_ok-bodies.ensures, c.as_slice-items.ensures))
    c.in_ok-classes.ensures
    (functions_done p code (map body_view c.deref-2.result.now) c.deref.result.now
    (map func_of c.in_ok-functions.functions.items)
    (search (c.deref-2.ensures.value, c.in_ok-bodies.ensures, c.as_slice-items.ensures))
    (search (c.deref.ensures.value, c.in_ok-owners.ensures, c.as_slice-items.ensures))
    (c.in_ok-functions.ensures code))
    (c.in_ok-add_bodies.ensures
    ∙ ap (walked (bodies_walk p code 0 (map body_view c.deref-4.result.now))) c.new-noting.ensures)
    c.finish.ensures
