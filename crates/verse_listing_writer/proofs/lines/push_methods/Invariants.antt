-- What is written and what is left are all the methods.
use Rattle.std.proofs.Common.{◌≡◌, ◌++◌, drop, map, decimal}
use Rattle.verse_listing_writer.specs.Writing.{behind}
use Rattle.verse_listing_writer.proofs.lines.push_methods.Given as goal

abbrev pub invariant-methods : goal.invariant-methods
invariant-methods l =
    l.out.items ++ behind (map decimal (drop l.method-index l.methods)) ≡ l.fn.out.items ++ behind (map decimal l.methods)
