-- What the line gives goes on, or stops.
use Rattle.verse_listing.specs.Reading.{second, first, step}
use Rattle.verse_listing.specs.Answers.{left_gives}
use Rattle.verse_listing.proofs.Going.{on_ok, on_broken, first_ok, first_breaks}
use Rattle.verse_listing.proofs.assembling.first_line.Goals as goal

pub returns-in-Ok-clause-leads : goal.returns-in-Ok-clause-leads
returns-in-Ok-clause-leads c =
    on_ok c.args.left.line (step first c.in_ok-line.line.now) (second c.in-Ok.files) (λ next. left_gives next c.in_ok-line.behind)
    (left_gives first c.args.left) (first_ok c.in_ok-line.line.now c.in-Ok.files c.in-Ok.ensures) (c.in_ok-line.ensures.cut first)

pub returns-in-Err-clause-leads : goal.returns-in-Err-clause-leads
returns-in-Err-clause-leads c =
    on_broken c.args.left.line (step first c.in_ok-line.line.now) (λ next. left_gives next c.in_ok-line.behind)
    (left_gives first c.args.left) c.in-Err.fault c.fault.result (first_breaks c.in-Err.fault c.in_ok-line.line.now c.in-Err.ensures)
    c.fault.ensures (c.in_ok-line.ensures.cut first)
