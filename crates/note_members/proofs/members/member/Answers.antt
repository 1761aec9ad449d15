use Rattle.std.proofs.Common.{ap, sym, ◌∙◌}
use Rattle.std.specs.Option.{option_map}
use Rattle.verse_tree.specs.View.{tree_of}
use Rattle.verse_meaning.specs.Programs.{program_of}
use Rattle.verse_meaning.specs.Evaluating.{enum_member}
use Rattle.lower_declared.specs.Enums.{val_of}
use Rattle.lower_expr.specs.Locals.{scope_of}
use Rattle.note_stretches.specs.Noted.{noted}
use Rattle.note_members.specs.Reads.{read_walk}
use Rattle.note_members.proofs.Steps.{as_value, as_read}
use Rattle.note_members.proofs.members.member.Goals as goal

pub returns-in_ok-enum_read-in-Some-clause-states : goal.returns-in_ok-enum_read-in-Some-clause-states
returns-in_ok-enum_read-in-Some-clause-states g c =
    let p = c.args.noter.now.tables.now.program.now in
    as_value
    (read_walk p c.args.node (tree_of c.args.part.now) c.args.name.now (scope_of c.args.scopes.now) c.args.around)
    (noted c.args.noting.now) _ (enum_member (program_of p) (tree_of c.args.part.now) c.args.name.now)
    (val_of c.in-Some.value)
    (sym (ap (option_map val_of) c.in-Some.is) ∙ c.in_ok-value.ensures) c.in_ok-enum_read-in-Some.ensures

pub returns-in_ok-read-in-None-clause-states : goal.returns-in_ok-read-in-None-clause-states
returns-in_ok-read-in-None-clause-states g c =
    let p = c.args.noter.now.tables.now.program.now in
    as_read
    (read_walk p c.args.node (tree_of c.args.part.now) c.args.name.now (scope_of c.args.scopes.now) c.args.around)
    (noted c.args.noting.now) _ (enum_member (program_of p) (tree_of c.args.part.now) c.args.name.now)
    (sym (ap (option_map val_of) c.in-None.is) ∙ c.in_ok-value.ensures) c.in_ok-read-in-None.ensures.states
