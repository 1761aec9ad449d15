use Rattle.std.proofs.Common.{map, sym, ap, ◌∙◌}
use Rattle.verse_verify_faults.specs.Stepping as t
use Rattle.verse_verify_faults.specs.Faults.{each_holds}
use Rattle.verse_verify_notes.specs.View.{sorts_of, classes_of}
use Rattle.verse_verify_parts.proofs.Locals.{written_each}
use Rattle.verse_verify_parts.proofs.rows.do_locals_hold.Goals as goal

pub returns : goal.returns
returns c = c.do_rows_hold.ensures ∙ ap (λ ls. each_holds (classes_of c.args.classes.now) ls (sorts_of c.args.others.now))
    (sym (written_each (map t.is (sorts_of c.args.locals.now)) c.args.writes.now))
