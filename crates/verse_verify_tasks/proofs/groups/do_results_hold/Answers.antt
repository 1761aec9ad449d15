use Rattle.std.proofs.Common.{◌≡◌, true, false, sym, ◌∙◌}
use Rattle.verse_verify_notes.specs.View.{sort_of}
use Rattle.verse_verify_tasks.specs.Arms.{are_arms}
use Rattle.verse_verify_tasks.proofs.Grouping.{held_never, held_tuple, held_one}
use Rattle.verse_verify_tasks.proofs.groups.do_results_hold.Goals as goal

pub returns-then-not-are_arms : goal.returns-then-not-are_arms
returns-then-not-are_arms c = sym (held_never c.args.here.now c.args.kind c.args.arms (sort_of c.args.sort.now)
    (sym c.are_arms.ensures ∙ c.if-not-are_arms.true))

pub returns-then-kind-eq0 : goal.returns-then-kind-eq0
returns-then-kind-eq0 c =
    let all : are_arms c.args.here.now c.args.arms ≡ true = sym c.are_arms.ensures ∙ c.if-not-are_arms.false in
    c.do_fill_tuple.ensures ∙ sym (held_tuple c.args.here.now c.args.kind c.args.arms (sort_of c.args.sort.now) c.if-kind-eq0.true
    c.requires.begun all)

pub returns : goal.returns
returns c =
    let all : are_arms c.args.here.now c.args.arms ≡ true = sym c.are_arms.ensures ∙ c.if-not-are_arms.false in
    c.do_fit.ensures ∙ sym (held_one c.args.here.now c.args.kind c.args.arms (sort_of c.args.sort.now) c.if-kind-eq0.false c.requires.begun
    all)
