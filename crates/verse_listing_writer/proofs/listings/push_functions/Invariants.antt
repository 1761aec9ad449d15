-- What is written and what is left are all the lines.
use Rattle.std.proofs.Common.{◌≡◌, ◌++◌, drop, map}
use Rattle.verse_listing_format.specs.Format.{spelled, function_line}
use Rattle.verse_listing_writer.proofs.listings.push_functions.Given as goal

abbrev pub invariant-entries : goal.invariant-entries
invariant-entries l =
    l.out.items ++ spelled (map function_line (drop l.function-index l.functions)) ≡ l.fn.out.items ++
    spelled (map function_line l.functions)
