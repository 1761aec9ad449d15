use Rattle.std.proofs.Common.{◌≡◌, drop, map}
use Rattle.verse_tree.specs.View.{written_of, writtens}
use Rattle.verse_names_declarations.specs.Known.{known_of}
use Rattle.verse_names_items.specs.Faults.{writtens_fault}
use Rattle.verse_names_items.proofs.faults.+written.Given as goal

-- what is left decides
abbrev pub invariant-writtens_fault-parts : goal.invariant-writtens_fault-parts
invariant-writtens_fault-parts l = writtens_fault (known_of l.known) (writtens (map written_of (drop l.part-index l.parts))) ≡
    writtens_fault (known_of l.known) (writtens (map written_of l.parts))
