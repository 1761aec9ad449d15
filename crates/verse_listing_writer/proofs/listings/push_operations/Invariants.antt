-- What is written and what is left are all the lines.
use Rattle.std.proofs.Common.{◌≡◌, ◌++◌, All, drop, take}
use Rattle.verse_code.specs.Operations.{operands_of}
use Rattle.verse_listing_format.specs.Format.{AreSized, op_lines, spelled}
use Rattle.verse_listing_writer.proofs.listings.push_operations.Given as goal

abbrev pub invariant-entries : goal.invariant-entries
invariant-entries l = record {
  written : l.out.items ++ spelled (op_lines l.at (drop l.at l.ops)) ≡ l.fn.out.items ++ spelled (op_lines 0 l.ops);
  sized : All (λ op. AreSized (operands_of op)) (take l.at l.ops);
}
