-- A layer over the files in turn.
use Rattle.std.proofs.Common.{◌≡◌, map, drop}
use Rattle.verse_accept.specs.Fronts.{laying}
use Rattle.verse_accept.specs.Ready.{CanBeLaid, CanBeRead}
use Rattle.verse_accept.specs.Files.{cut_of, laid_of}
use Rattle.verse_accept.proofs.InTurn.{Stands}
use Rattle.verse_accept.proofs.turns.lay_all.Given as goal

abbrev pub invariant-loop-file : goal.invariant-loop-file
invariant-loop-file l =
    Stands laying CanBeLaid CanBeRead (map cut_of l.cuts) l.file-index l.file-index (map cut_of (drop l.file-index l.cuts))
    (map laid_of l.laid.items)
