use Rattle.std.proofs.Common.{◌≡◌, ◌<◌, ◌≤◌, length, ◌∙◌, arith}
use Rattle.run_save_shots.specs.View.{shot_of}
use Rattle.run_save_numbers.proofs.Totals.{all_marked, step_few, step_light, step_more, ends}
use Rattle.run_save_numbers.proofs.numbers.numbers.Goals as goal

pub number-own-requires-clause-few : goal.number-own-requires-clause-few
number-own-requires-clause-few c =
    step_few (shot_of c.args.shot.now) c.tasks.all.items c.tasks.i c.len.result c.requires c.tasks.invariant
    (c.len.ensures ∙ c.tasks.all.ok.0)

pub settle-requires : goal.settle-requires
settle-requires c =
    let end : c.len-i-end.result ≡ length c.in_ok-all.all.items = c.len-i-end.ensures ∙ c.in_ok-all.all.ok.0 in
    let all = all_marked (shot_of c.args.shot.now) c.in_ok-all.all.items c.in_ok-all.ensures in
    step_light (shot_of c.args.shot.now) c.tasks.all.items c.tasks.i c.index_mut.result.now c.requires c.tasks.invariant
    (omega (arith, c.tasks-test.true, end, all)) c.index_mut.ensures.value

pub tasks-preserved : goal.tasks-preserved
tasks-preserved c =
    let end : c.len-i-end.result ≡ length c.in_ok-all.all.items = c.len-i-end.ensures ∙ c.in_ok-all.all.ok.0 in
    let all = all_marked (shot_of c.args.shot.now) c.in_ok-all.all.items c.in_ok-all.ensures in
    step_more (shot_of c.args.shot.now) c.tasks.all.items c.tasks.i c.number-own.result c.len.result c.index_mut.result.now
    c.settle.new.marks c.tasks.invariant (omega (arith, c.tasks-test.true, end, all)) c.index_mut.ensures.value
    (c.len.ensures ∙ c.tasks.all.ok.0) c.number-own.ensures c.settle.ensures

pub returns : goal.returns
returns c =
    let end : c.len-i-end.result ≡ length c.in_ok-all.all.items = c.len-i-end.ensures ∙ c.in_ok-all.all.ok.0 in
    let all = all_marked (shot_of c.args.shot.now) c.in_ok-all.all.items c.in_ok-all.ensures in
    ends (shot_of c.args.shot.now) c.tasks.all.items c.tasks.i c.requires c.tasks.invariant (omega (arith, c.tasks-test.false, end, all))
