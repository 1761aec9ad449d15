-- Each part leads to the next, and the last to the end.
use Rattle.std.proofs.Common.{◌≡◌, ◌∙◌, sym, ap, Ok, length, rules, ◌≤◌}
use Rattle.verse_listing.specs.Reading.{flaw, listing_at}
use Rattle.verse_listing.proofs.Going.{stopped, ends_well, ends_badly}
use Rattle.verse_listing.proofs.assembling.listing.Goals as goal

pub returns-then-is_empty : goal.returns-then-is_empty
returns-then-is_empty c =
    let empty : length c.in_ok-ops.left.bytes.now ≡ 0 = search rules in
    c.in_ok-files.ensures.leads ∙ c.in_ok-count.ensures.leads ∙ c.in_ok-tables.ensures.leads ∙
    c.in_ok-ops.ensures.leads c.in_ok-files.files c.in_ok-tables.main c.in_ok-tables.tables (sym c.sizes-sizes.ensures) ∙
    ends_well c.in_ok-files.files c.in_ok-count.count c.in_ok-tables.tables c.in_ok-tables.main c.in_ok-ops.ops c.in_ok-ops.left.line
    c.in_ok-ops.left.bytes.now c.in_ok-ops.ensures.count empty ∙ ap Ok (sym c.code.ensures)

pub returns-else-is_empty : goal.returns-else-is_empty
returns-else-is_empty c =
    let some : 1 ≤ length c.in_ok-ops.left.bytes.now = search rules in
    stopped c.broken.result (flaw 1 c.in_ok-ops.left.line) (listing_at c.args.bytes.now) c.broken.ensures
    (c.in_ok-files.ensures.leads ∙ c.in_ok-count.ensures.leads ∙ c.in_ok-tables.ensures.leads ∙
    c.in_ok-ops.ensures.leads c.in_ok-files.files c.in_ok-tables.main c.in_ok-tables.tables (sym c.sizes-sizes.ensures) ∙
    ends_badly c.in_ok-files.files c.in_ok-count.count c.in_ok-tables.tables c.in_ok-tables.main c.in_ok-ops.ops c.in_ok-ops.left.line
    c.in_ok-ops.left.bytes.now c.in_ok-ops.ensures.count some)
