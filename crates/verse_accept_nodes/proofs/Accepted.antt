-- Each node of an accepted program has what lowering and its theorem ask of it.
use Rattle.std.proofs.Common.{ℕ, List, [], ◌∷◌, length, All, inl, sym, subst}
use Rattle.std.proofs.lemmas.List.Elements.{All-nil, All-cons}
use Rattle.verse_tree.specs.ItemTree.{ItemTree}
use Rattle.verse_tree.specs.PostOrder.{items_order}
use Rattle.verse_tree.specs.Shapes.{ItemsShaped}
use Rattle.verse_grammar_shapes.specs.ShapeLaws.{ProgramsAreShaped, NumberingKeepsShapes}
use Rattle.verse_accept.specs.Fronts.{Accepts}
use Rattle.verse_meaning.specs.Programs.{program_of}
use Rattle.lower_bounds.specs.Programs.{NodeFits}
use Rattle.lower_bounds.proofs.Lists.{Each}
use Rattle.lower_simulation_runs.specs.Programs.{NodeStands}
use Rattle.verse_accept_nodes.specs.Laws.{NodeNames, AcceptedFit, AcceptedNames, AcceptedShaped, AcceptedStand}
use Rattle.verse_accept_nodes.proofs.Fine.{NodeNarrow, Fit, good_fit, good_names, good_narrow}
use Rattle.verse_accept_nodes.proofs.ReadingItems.{all_items_fit}
use Rattle.verse_accept_nodes.proofs.Files.{accepted_written, all_shaped}
use Rattle.verse_accept_nodes.proofs.Settled.{kept_stand}
use Rattle.verse_accept_nodes.proofs.Rules.{nodes_kept}

all_of_each : {X : Type 0} (P : X → Type 0) (xs : List X) → Each P xs → All P xs
all_of_each P [] h = All-nil P
all_of_each P (x ∷ xs) h = All-cons P x xs h.0 (all_of_each P xs h.1)

-- all nodes of an accepted program, in written post-order
module _ (files : List (List ℕ)) (is : List ItemTree) (a : Accepts files is) where
  all_good : Fit (length files) (items_order is)
  all_good =
      let w = accepted_written files is a in
      subst (λ js. Fit (length files) (items_order js)) (sym w.numbered) (all_items_fit (length files) w.written w.fine 0)

  pub each_named : Each NodeNames (items_order is)
  each_named = good_names (length files) (items_order is) all_good

  -- the types that are written at them, and the parts of tuples
  pub each_narrow : Each NodeNarrow (items_order is)
  each_narrow = good_narrow (length files) (items_order is) all_good

  pub shaped_numbered : ProgramsAreShaped → NumberingKeepsShapes → ItemsShaped is
  shaped_numbered shapes numbering =
      let w = accepted_written files is a in
      subst ItemsShaped (sym w.numbered) (numbering w.written 0 (all_shaped w.written (w.shaped shapes)))

pub accepted_fit : AcceptedFit
accepted_fit files is a =
    all_of_each (NodeFits (length files)) (items_order is) (good_fit (length files) (items_order is) (all_good files is a))

pub accepted_names : AcceptedNames
accepted_names files is a = all_of_each NodeNames (items_order is) (each_named files is a)

pub accepted_shaped : ProgramsAreShaped → NumberingKeepsShapes → AcceptedShaped
accepted_shaped shapes numbering files is a = shaped_numbered files is a shapes numbering

pub accepted_stand : ProgramsAreShaped → NumberingKeepsShapes → AcceptedStand
accepted_stand shapes numbering files is made a e =
    let w = accepted_written files is a in
    let shaped = shaped_numbered files is a shapes numbering in
    all_of_each (NodeStands (program_of made)) (items_order is) (kept_stand (program_of made) is shaped
    (nodes_kept (program_of made) is e w.written w.numbered (λ n c b. w.typed n c (inl b))))
