-- The notes are those of the items' code.
use Rattle.std.proofs.Common.{refl}
use Rattle.verse_verify_notes.specs.View.{table_of}
use Rattle.verse_top.proofs.MeaningLaws.{noted_is}
use Rattle.verse_top.proofs.programs.noted.Goals as goal

pub returns : goal.returns
returns c = (
  refl,
  noted_is c.requires.0 c.args.program.now c.requires.1 c.tables_agree.ensures c.get.result.now c.in_ok-code.code
      (table_of c.in_ok-notes.notes) c.in_ok-text.text.items c.get.ensures c.in_ok-code.ensures.code
      c.in_ok-notes.ensures c.in_ok-text.ensures,
)
