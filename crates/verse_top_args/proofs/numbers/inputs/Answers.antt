-- The word is cut at its commas.
use Rattle.std.proofs.Common.{◌≡◌, ◌++◌, ◌∷◌, [], rules}
use Rattle.verse_top_args.proofs.NumberLemmas.{cut_at, missing_end, missing_first, missing_last, missing_on}
use Rattle.verse_top_args.proofs.numbers.inputs.Goals as goal

pub listed-requires : goal.listed-requires
listed-requires c =
    let cut = cut_at c.loop-first.rest.now c.split_once.result c.split_once.ensures.cases in
    let at = rw c.in-Some.is at cut in
    missing_first c.args.word.now c.loop-first.rest.now c.in-Some.first.now c.in-Some.others.now c.loop-first.inputs.items at.0 at.1
    c.loop-first.invariant.missing

pub loop-first-preserved : goal.loop-first-preserved
loop-first-preserved c =
    let cut = cut_at c.loop-first.rest.now c.split_once.result c.split_once.ensures.cases in
    let at = rw c.in-Some.is at cut in
    let pushed : c.push.new.self.items ≡ c.loop-first.inputs.items ++ c.listed.result ∷ [] = search rules in
    record {
      text = search rules;
      missing = missing_on c.args.word.now c.loop-first.rest.now c.in-Some.first.now c.in-Some.others.now c.loop-first.inputs.items
          c.push.new.self.items c.listed.result at.0 at.1 c.listed.ensures pushed c.loop-first.invariant.missing;
    }

pub listed-requires-2 : goal.listed-requires-2
listed-requires-2 c =
    let cut = cut_at c.loop-first.rest.now c.split_once.result c.split_once.ensures.cases in
    let at = rw c.in_default.is at cut in
    missing_last c.args.word.now c.loop-first.rest.now c.loop-first.inputs.items at c.loop-first.invariant.missing

pub returns : goal.returns
returns c =
    let cut = cut_at c.loop-first.rest.now c.split_once.result c.split_once.ensures.cases in
    let at = rw c.in_default.is at cut in
    let pushed : c.push-2.new.self.items ≡ c.loop-first.inputs.items ++ c.listed-2.result ∷ [] = search rules in
    missing_end c.args.word.now c.loop-first.rest.now c.loop-first.inputs.items c.push-2.new.self.items c.listed-2.result at
    c.listed-2.ensures pushed c.loop-first.invariant.missing
