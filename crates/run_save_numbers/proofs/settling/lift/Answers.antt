use Rattle.std.proofs.Common.{◌≡◌, ◌+◌, ◌-◌, ◌<◌, ◌≤◌, ◌++◌, suc, length, set, take, drop, sym, ap, ◌∙◌, arith}
use Rattle.run_save_numbers.specs.Marking.{carry, lifted}
use Rattle.run_save_numbers.proofs.Lifting.{here, fits, lifts}
use Rattle.run_save_numbers.proofs.settling.lift.Goals as goal

pub overflow_add-borns : goal.overflow_add-borns
overflow_add-borns c =
    let e : suc (c.frames.at - 1) ≡ c.frames.at = omega (arith, c.frames-test.true) in
    let bound = fits c.args.above c.args.borns.now c.frames.borns (c.frames.at - 1) c.frames.carry 0
    (omega (arith, e, c.frames.invariant.within))
    (c.frames.invariant.above ∙ ap (λ k. carry c.args.above (drop k c.args.borns.now)) (sym e))
    (c.frames.invariant.so_far ∙ ap (λ k. take k c.args.borns.now ++ lifted c.args.above (drop k c.args.borns.now)) (sym e)) c.requires in
    omega (arith, bound, c.max-carry.ensures)

pub frames-preserved : goal.frames-preserved
frames-preserved c =
    let e : suc (c.frames.at - 1) ≡ c.frames.at = omega (arith, c.frames-test.true) in
    let w : c.frames.at - 1 < length c.args.borns.now = omega (arith, e, c.frames.invariant.within) in
    let n = c.frames.invariant.above ∙ ap (λ k. carry c.args.above (drop k c.args.borns.now)) (sym e) in
    let s = c.frames.invariant.so_far ∙
    ap (λ k. take k c.args.borns.now ++ lifted c.args.above (drop k c.args.borns.now)) (sym e) in
    record {
      within = omega (arith, w);
      above = c.max-carry.ensures ∙ here c.args.above c.args.borns.now c.frames.borns (c.frames.at - 1) c.frames.carry 0 w n s;
      so_far = ap (λ k. set c.frames.borns (c.frames.at - 1) (k + (length c.args.borns.now - (c.frames.at - 1)))) c.max-carry.ensures ∙
          lifts c.args.above c.args.borns.now c.frames.borns (c.frames.at - 1) c.frames.carry 0 w n s;
    }
