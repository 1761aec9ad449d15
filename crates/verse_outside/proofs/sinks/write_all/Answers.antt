use Rattle.std.proofs.Common.{◌∙◌, ◌-◌, ◌≤◌, length, length-take, length-drop, arith}
use Rattle.verse_outside.proofs.Taken.{taken_further}
use Rattle.verse_outside.proofs.sinks.write_all.Goals as goal

pub pieces-preserved : goal.pieces-preserved
pieces-preserved g c =
    let within : c.in_ok-at.field-0 ≤ length c.args.piece.now - c.pieces.at =
    omega (arith, simp (length-take, length-drop) at c.in_ok-at.ensures.within) in
    record {
      within = omega arith;
      taken = taken_further _ _ _ c.args.piece.now c.pieces.at c.in_ok-at.field-0
          (length c.args.piece.now - c.pieces.at) c.pieces.invariant.taken c.in_ok-at.ensures.taken within;
      calm = c.in_ok-at.ensures.calm ∙ c.pieces.invariant.calm;
    }
