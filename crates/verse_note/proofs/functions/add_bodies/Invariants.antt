-- What is left, from here on, ends as all does from the start.
use Rattle.std.proofs.Common.{◌≡◌, map}
use Rattle.lower_items.specs.Views.{body_view}
use Rattle.note_stretches.specs.Noted.{noted, walked}
use Rattle.verse_note.specs.Making.{bodies_walk}
use Rattle.verse_note.proofs.Bodies.{left_bodies}
use Rattle.verse_note.proofs.functions.add_bodies.Given as goal

abbrev pub invariant-bodies : goal.invariant-bodies
invariant-bodies l =
    let p = l.tables.program.now in
    walked (bodies_walk p l.code l.number (left_bodies l.bodies l.body-index)) (noted l.noting)
    ≡ walked (bodies_walk p l.code 0 (map body_view l.bodies)) (noted l.fn.noting)
