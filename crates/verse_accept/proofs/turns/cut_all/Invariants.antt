-- A layer over the files in turn.
use Rattle.std.proofs.Common.{◌≡◌, map, drop}
use Rattle.verse_accept.specs.Fronts.{cutting}
use Rattle.verse_accept.specs.Ready.{IsSmall, CanBeLaid}
use Rattle.verse_accept.specs.Files.{cut_of}
use Rattle.verse_accept.proofs.InTurn.{Stands}
use Rattle.verse_accept.proofs.turns.cut_all.Given as goal

abbrev pub invariant-loop-file : goal.invariant-loop-file
invariant-loop-file l =
    Stands cutting IsSmall CanBeLaid (map (λ f. f.items) l.files) l.file-index l.number (map (λ f. f.items) (drop l.file-index l.files))
    (map cut_of l.cuts.items)
