use Rattle.std.proofs.Common.{sym, ap, ◌∙◌}
use Rattle.std.specs.Option.{option_map}
use Rattle.verse_tree.specs.Tree as t
use Rattle.verse_tree.specs.View.{tree_of, return_shape}
use Rattle.note_trees.proofs.forms.leave.Goals as goal

pub returns-in-Some-clause-states : goal.returns-in-Some-clause-states
returns-in-Some-clause-states g c =
    rw (ap (λ k. return_shape (option_map tree_of k)) c.in-Some.is
    ∙ ap (λ k. t.Shape.returned (tree_of k)) (sym c.get.ensures)) c.returned.ensures.states
