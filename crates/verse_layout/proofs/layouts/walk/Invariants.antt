use Rattle.std.proofs.Common.{◌≡◌, length}
use Rattle.std.specs.List.{All}
use Rattle.verse_layout.specs.Cells.{Lies, cells_of}
use Rattle.verse_layout.specs.Layouts.{end_of}
use Rattle.verse_layout.specs.Frames.{walk_answer, walk}
use Rattle.verse_layout.specs.Rests.{rest_of}
use Rattle.verse_layout.specs.States.{context_of}
use Rattle.verse_layout.proofs.layouts.walk.Given as goal

abbrev pub invariant-tokens : goal.invariant-tokens
invariant-tokens l = record {
  lies : All (Lies l.bytes) l.rest;
  answer : rest_of l.writer (walk (end_of l.bytes l.tokens) (context_of l.state) (cells_of l.bytes l.rest)) ≡
      walk_answer (end_of l.bytes l.tokens) (cells_of l.bytes l.tokens);
}

abbrev pub decreases-tokens : goal.decreases-tokens
decreases-tokens l = length l.rest
