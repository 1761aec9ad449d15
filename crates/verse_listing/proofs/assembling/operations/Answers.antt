-- A line of an operation goes on with the operation, or stops.
use Rattle.std.proofs.Common.{◌≡◌, ◌∙◌, ◌++◌, ◌∷◌, [], sym, ap, length, arith}
use Rattle.std.proofs.lemmas.List.{length-append}
use Rattle.verse_listing.specs.Reading.{among_operations, step}
use Rattle.verse_listing.specs.Answers.{left_gives}
use Rattle.verse_listing.proofs.Going.{on_ok, on_broken, ops_ok, ops_break}
use Rattle.verse_listing.proofs.assembling.operations.Goals as goal

pub returns-in-Err-clause-leads : goal.returns-in-Err-clause-leads
returns-in-Err-clause-leads c = λ files main t s.
    (let stage = among_operations files c.args.count t main c.lines.ops in
    on_broken c.lines.here.line (step stage c.in_ok-line.line.now) (λ next. left_gives next c.in_ok-line.behind)
    (left_gives (among_operations files c.args.count t main []) c.args.left) c.in-Err.fault c.fault.result
    (ops_break c.in-Err.fault files c.args.count t main c.lines.ops c.args.sizes.now c.lines.at c.in_ok-line.line.now s c.lines.invariant.2
    (omega arith) c.in-Err.ensures) c.fault.ensures
    (c.lines.invariant.0 files main t s ∙ c.in_ok-line.ensures.cut stage))

pub lines-preserved : goal.lines-preserved
lines-preserved c =
    let more : c.push.new.self ≡ c.lines.ops ++ c.in-Ok.op ∷ [] = c.in_ok-push-in-Ok.ensures.ok in (
      (λ files main t s.
          (let stage = among_operations files c.args.count t main c.lines.ops in
          c.lines.invariant.0 files main t s ∙ on_ok c.lines.here.line (step stage c.in_ok-line.line.now)
          (among_operations files c.args.count t main (c.lines.ops ++ c.in-Ok.op ∷ [])) (λ next. left_gives next c.in_ok-line.behind)
          (left_gives stage c.lines.here)
          (ops_ok files c.args.count t main c.lines.ops c.in-Ok.op c.args.sizes.now c.lines.at c.in_ok-line.line.now s c.lines.invariant.2
          (omega arith) c.in-Ok.ensures) (c.in_ok-line.ensures.cut stage) ∙
          ap (λ k. left_gives (among_operations files c.args.count t main k) c.in_ok-line.behind) (sym more))),
      c.in_ok-line.ensures.counted,
      omega (arith, ap length more, length-append c.lines.ops (c.in-Ok.op ∷ []), c.lines.invariant.2),
    )
