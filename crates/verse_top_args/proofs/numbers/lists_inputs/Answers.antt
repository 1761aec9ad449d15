-- The word is cut at its commas.
use Rattle.std.proofs.Common.{◌-◌, ◌+◌, ◌≤◌, IsTrue, false, rules, arith}
use Rattle.verse_top_args.proofs.NumberLemmas.{Lists, cut_at, lists_end, lists_on, lists_stop, none_read, one_read}
use Rattle.verse_top_args.proofs.numbers.lists_inputs.Goals as goal

pub returns-in_default : goal.returns-in_default
returns-in_default c =
    let cut = cut_at c.loop-done.rest.now c.split_once.result c.split_once.ensures.cases in
    let at = rw c.in_default.is at cut in
    let low : 1 ≤ 1000 - c.loop-done._done = omega arith in
    let end = lists_end (1000 - c.loop-done._done) c.args.word.now c.loop-done.rest.now c.int.result low at c.int.ensures
    c.loop-done.invariant.same in
    rw c.is_some.ensures end

pub returns-then-is_none : goal.returns-then-is_none
returns-then-is_none c =
    let cut = cut_at c.loop-done.rest.now c.split_once.result c.split_once.ensures.cases in
    let at = rw c.in-Some.is at cut in
    let none = none_read c.in-Some.first.now c.int-in-loop-done.result c.int-in-loop-done.ensures c.if-is_none.ensures in (
      λ (t : IsTrue false). absurd (cc),
      λ (f : Lists 1000 c.args.word.now). absurd
          (lists_stop (1000 - c.loop-done._done) c.args.word.now c.loop-done.rest.now c.in-Some.first.now c.in-Some.others.now at.0 at.1
          none c.loop-done.invariant.same f),
    )

pub loop-done-preserved : goal.loop-done-preserved
loop-done-preserved c =
    let cut = cut_at c.loop-done.rest.now c.split_once.result c.split_once.ensures.cases in
    let at = rw c.in-Some.is at cut in
    let one = one_read c.in-Some.first.now c.int-in-loop-done.result c.int-in-loop-done.ensures c.if-is_none.ensures in
    record {
      text = search rules;
      same = lists_on (1000 - c.loop-done._done) (1000 - (c.loop-done._done + 1))
          (omega arith) c.args.word.now c.loop-done.rest.now c.in-Some.first.now c.in-Some.others.now at.0 at.1 one.0 one.1
          c.loop-done.invariant.same;
    }
