use Rattle.std.proofs.Common.{map, subst}
use Rattle.verse_rules_types.specs.Types.{classes_of}
use Rattle.verse_names_tables.specs.Notes.{note_of}
use Rattle.verse_names_declarations.specs.Descents.{AreTraced}
use Rattle.verse_names_declarations.proofs.lineage.trace.Goals as goal

-- src/lineage.rt:296:8
pub traced-requires-clause-traced : goal.traced-requires-clause-traced
traced-requires-clause-traced c =
    subst (λ ns. AreTraced (map note_of ns) (classes_of c.args.outline) c.in_ok-made.made.items) c.deref-2.ensures.value
    (subst (λ os. AreTraced (map note_of c.deref-2.result.now) (classes_of os) c.in_ok-made.made.items) c.as_slice.ensures
    c.in_ok-made.ensures)
