use Rattle.std.proofs.Common.{◌≡◌, ◌++◌, drop}
use Rattle.std.specs.List.{flat_map}
use Rattle.verse_value.specs.Texts.{escaped}
use Rattle.verse_top_texts.proofs.printing.append_quoted.Given as goal

abbrev pub invariant-bytes : goal.invariant-bytes
invariant-bytes l = l.out.items ++ flat_map escaped (drop l.byte-index l.bytes) ≡ l.initial.out.items ++ flat_map escaped l.bytes
