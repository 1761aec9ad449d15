use Rattle.std.proofs.Common.{◌∙◌}
use Rattle.lower_notes.specs.Noting.{key_in}
use Rattle.lower_expr.specs.Locals.{scope_of}
use Rattle.note_sorts.specs.Tabled.{found_of}
use Rattle.note_stretches.specs.Noted.{noted}
use Rattle.note_values.proofs.Keys.{pairs_next, pairs_done}
use Rattle.note_values.proofs.maps.all.Goals as goal

pub parts-preserved : goal.parts-preserved
parts-preserved g c =
    let p = c.args.noter.now.tables.now.program.now in (
      c.in_ok-pair.ensures.scopes ∙ c.parts.invariant.0,
      pairs_next p (key_in ((found_of p).sort c.args.node)) c.args.parts.now c.parts.part-index (scope_of c.args.scopes.now)
          c.part-item.result (scope_of c.parts.scopes) c.parts.here c.in_ok-here.here (noted c.parts.noting) (noted c.pair.new.noting)
          _ c.parts-test.true c.part-item.is c.parts.invariant.0 c.in_ok-pair.ensures.states
          (search (c.in_ok-here.ensures, c.in_ok-above.ensures)) c.parts.invariant.1,
    )

pub returns-clause-states : goal.returns-clause-states
returns-clause-states g c =
    let p = c.args.noter.now.tables.now.program.now in
    pairs_done p (key_in ((found_of p).sort c.args.node)) c.args.parts.now c.parts.part-index
    (scope_of c.args.scopes.now) c.parts.here (noted c.parts.noting) _ c.parts-test.false c.parts.invariant.1
