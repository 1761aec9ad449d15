use Rattle.std.proofs.Common.{arith, ◌∙◌, ◌-◌}
use Rattle.verse_tree.specs.View.{tree_of}
use Rattle.lower_lookup.specs.Members.{base_view}
use Rattle.lower_expr.specs.Locals.{scope_of}
use Rattle.lower_calls.proofs.Indices.{operands_begun, operands_done, operands_next}
use Rattle.note_stretches.specs.Noted.{noted}
use Rattle.note_targets.proofs.Levels.{target_begun, target_next, target_done}
use Rattle.note_targets.proofs.targets.target.Goals as goal

pub levels-init : goal.levels-init
levels-init g c =
    let p = c.args.noter.now.tables.now.program.now in
    let base = base_view c.args.base in
    let sc = scope_of c.args.scopes.now in
    let b = tree_of c.args.whole.now in
    record {
      scopes = c.in_ok-bottom.ensures.scopes;
      within = omega (arith, c.in_ok-left.ensures);
      count = operands_begun p base sc c.args.around b c.in_ok-left.left c.in_ok-left.ensures;
      states = target_begun p base sc c.args.around b (tree_of c.under.result.now) c.in_ok-left.left
          (noted c.args.noting.now) _
          c.in_ok-left.ensures c.under.ensures c.in_ok-bottom.ensures.states;
    }

pub levels-preserved : goal.levels-preserved
levels-preserved g c =
    let p = c.args.noter.now.tables.now.program.now in
    let base = base_view c.args.base in
    let sc = scope_of c.args.scopes.now in
    let b = tree_of c.args.whole.now in
    let part = tree_of c.under-in-levels.result.now in
    let left = c.levels.left in
    record {
      scopes = c.in_ok-count.ensures.scopes ∙ c.levels.invariant.scopes;
      within = omega (arith, c.levels.invariant.within);
      count = operands_next p base sc c.args.around b part left (left - 1) c.levels.count c.in_ok-count.count
          (omega (arith, c.levels-test.true))
          c.levels.invariant.within c.under-in-levels.ensures c.levels.invariant.count c.in_ok-count.ensures.count;
      states = target_next p base sc c.args.around b part left (left - 1) c.levels.count (scope_of c.levels.scopes)
          (noted c.args.noting.now)
          (noted c.levels.noting) _ (omega (arith, c.levels-test.true))
          c.levels.invariant.within c.under-in-levels.ensures
          c.levels.invariant.scopes c.levels.invariant.count c.levels.invariant.states c.in_ok-count.ensures.states;
    }

pub returns-clause-states : goal.returns-clause-states
returns-clause-states g c =
    target_done c.args.noter.now.tables.now.program.now (base_view c.args.base)
    (scope_of c.args.scopes.now) c.args.around
    (tree_of c.args.whole.now) c.levels.left (noted c.args.noting.now) _ c.levels-test.false c.levels.invariant.states

pub returns-clause-count : goal.returns-clause-count
returns-clause-count g c =
    operands_done c.args.noter.now.tables.now.program.now (base_view c.args.base)
    (scope_of c.args.scopes.now) c.args.around
    (tree_of c.args.whole.now) c.levels.left c.levels.count c.levels-test.false c.levels.invariant.count
