use Rattle.std.proofs.Common.{◌≡◌, drop}
use Rattle.verse_listing_format.specs.Names.{names, place_among, code_named}
use Rattle.verse_listing_format.proofs.names.code_named.Given as goal

-- no name before this code is the word
abbrev pub invariant-codes : goal.invariant-codes
invariant-codes l = place_among l.code (drop l.code names) l.name ≡ code_named l.name
