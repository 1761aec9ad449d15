use Rattle.std.proofs.Common.{length, ◌-◌, ◌≤◌, map, string_bytes, take}
use Rattle.verse_top_args.specs.Words.{EachIsFile}
use Rattle.verse_top_args.proofs.commands.split_files.Given as goal

abbrev pub invariant-files : goal.invariant-files
invariant-files l = (l.count ≤ length l.words) × EachIsFile (map string_bytes (take l.count l.words))

abbrev pub decreases-files : goal.decreases-files
decreases-files l = length l.words - l.count
