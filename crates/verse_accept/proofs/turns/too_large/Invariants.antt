-- A layer over the files in turn.
use Rattle.std.proofs.Common.{◌≡◌, map, drop}
use Rattle.verse_accept.proofs.InTurn.{Sized}
use Rattle.verse_accept.proofs.turns.too_large.Given as goal

abbrev pub invariant-loop-file : goal.invariant-loop-file
invariant-loop-file l =
    (l.number ≡ l.file-index) × Sized (map (λ f. f.items) l.files) l.number (map (λ f. f.items) (drop l.file-index l.files))
