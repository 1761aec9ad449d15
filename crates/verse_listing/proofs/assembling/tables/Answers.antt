-- A line of a table goes on with the tables behind it, or stops.
use Rattle.std.proofs.Common.{◌≡◌, ◌∙◌, Ok, Some, None, [], rules}
use Rattle.verse_listing_lines.specs.Lines.{words, no_tables, table_line_of}
use Rattle.verse_listing.specs.Reading.{among_tables, among_operations, step}
use Rattle.verse_listing.specs.Answers.{left_gives}
use Rattle.verse_listing.proofs.Going.{on_ok, on_broken, tables_ok, tables_break}
use Rattle.verse_listing.proofs.assembling.tables.Goals as goal

pub lines-preserved : goal.lines-preserved
lines-preserved c =
    let stage = among_tables c.args.files c.args.ops c.lines.tables in
    let told : table_line_of c.args.files c.args.ops c.lines.tables (words c.in_ok-line.line.now) ≡ Ok (c.line.new.self, None) =
    search rules in (
      c.lines.invariant.0 ∙ on_ok c.lines.here.line (step stage c.in_ok-line.line.now)
          (among_tables c.args.files c.args.ops c.line.new.self)
          (λ next. left_gives next c.in_ok-line.behind) (left_gives stage c.lines.here)
          (tables_ok c.args.files c.args.ops c.lines.tables c.line.new.self None c.in_ok-line.line.now told)
          (c.in_ok-line.ensures.cut stage),
      c.in_ok-line.ensures.counted,
      c.in-Ok-None.ensures.functions,
    )

pub returns-in-Ok-Some-clause-leads : goal.returns-in-Ok-Some-clause-leads
returns-in-Ok-Some-clause-leads c =
    let stage = among_tables c.args.files c.args.ops c.lines.tables in
    let told : table_line_of c.args.files c.args.ops c.lines.tables (words c.in_ok-line.line.now) ≡
    Ok (c.line.new.self, Some c.in-Ok-Some.main) =
    search rules in
    rw c.in-Ok-Some.field-0-is (c.lines.invariant.0 ∙ on_ok c.lines.here.line (step stage c.in_ok-line.line.now)
    (among_operations c.args.files c.args.ops c.line.new.self c.in-Ok-Some.main []) (λ next. left_gives next c.in_ok-line.behind)
    (left_gives stage c.lines.here)
    (tables_ok c.args.files c.args.ops c.lines.tables c.line.new.self (Some c.in-Ok-Some.main) c.in_ok-line.line.now told)
    (c.in_ok-line.ensures.cut stage))

pub returns-in-Err-clause-leads : goal.returns-in-Err-clause-leads
returns-in-Err-clause-leads c =
    let stage = among_tables c.args.files c.args.ops c.lines.tables in
    on_broken c.lines.here.line (step stage c.in_ok-line.line.now) (λ next. left_gives next c.in_ok-line.behind)
    (left_gives (among_tables c.args.files c.args.ops no_tables) c.args.left) c.in-Err.fault c.fault.result
    (tables_break c.in-Err.fault c.args.files c.args.ops c.lines.tables c.in_ok-line.line.now c.in-Err.ensures.err) c.fault.ensures
    (c.lines.invariant.0 ∙ c.in_ok-line.ensures.cut stage)
