-- What the line gives goes on, or stops.
use Rattle.verse_listing_lines.specs.Lines.{no_tables}
use Rattle.verse_listing.specs.Reading.{second, among_tables, step}
use Rattle.verse_listing.specs.Answers.{left_gives}
use Rattle.verse_listing.proofs.Going.{on_ok, on_broken, second_ok, second_breaks}
use Rattle.verse_listing.proofs.assembling.second_line.Goals as goal

pub returns-in-Ok-clause-leads : goal.returns-in-Ok-clause-leads
returns-in-Ok-clause-leads c =
    on_ok c.args.left.line (step (second c.args.files) c.in_ok-line.line.now) (among_tables c.args.files c.in-Ok.ops no_tables)
    (λ next. left_gives next c.in_ok-line.behind) (left_gives (second c.args.files) c.args.left)
    (second_ok c.args.files c.in_ok-line.line.now c.in-Ok.ops c.in-Ok.ensures) (c.in_ok-line.ensures.cut (second c.args.files))

pub returns-in-Err-clause-leads : goal.returns-in-Err-clause-leads
returns-in-Err-clause-leads c =
    on_broken c.args.left.line (step (second c.args.files) c.in_ok-line.line.now) (λ next. left_gives next c.in_ok-line.behind)
    (left_gives (second c.args.files) c.args.left) c.in-Err.fault c.fault.result
    (second_breaks c.in-Err.fault c.args.files c.in_ok-line.line.now c.in-Err.ensures) c.fault.ensures
    (c.in_ok-line.ensures.cut (second c.args.files))
