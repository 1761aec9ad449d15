-- What is written and what is left are all the entries.
use Rattle.std.proofs.Common.{◌≡◌, ◌++◌, drop}
use Rattle.verse_verify_bytes.specs.Bytes.{number, each, counted}
use Rattle.verse_verify_writer.proofs.numbers.push_numbers.Given as goal

abbrev pub invariant-entries : goal.invariant-entries
invariant-entries l = l.out.items ++ each number (drop l.entry-index l.numbers) ≡ l.fn.out.items ++ counted number l.numbers
