-- A layer over the files in turn.
use Rattle.std.proofs.Common.{◌≡◌, map, drop}
use Rattle.verse_accept.specs.Fronts.{spelling}
use Rattle.verse_accept.specs.Ready.{CanBeRead, HasFewNodes}
use Rattle.verse_accept.specs.Files.{laid_of}
use Rattle.verse_join.specs.Joining.{file_items}
use Rattle.verse_accept.proofs.InTurn.{Stands}
use Rattle.verse_accept.proofs.turns.spell_all.Given as goal

abbrev pub invariant-loop-file : goal.invariant-loop-file
invariant-loop-file l =
    Stands spelling CanBeRead HasFewNodes (map laid_of l.laid) l.file-index l.number (map laid_of (drop l.file-index l.laid))
    (map file_items l.files.items)
