-- A program that is accepted breaks no rule, and its trees are as the rules ask.
use Rattle.std.proofs.Common.{◌≡◌, ℕ, Bool, List, [], ◌∷◌, map, sym, ap, ◌∙◌, subst}
use Rattle.verse_tree.specs.Tree.{Shape}
use Rattle.verse_tree.specs.Tree as t
use Rattle.verse_tree.specs.ItemTree.{ItemTree}
use Rattle.verse_tree.specs.ItemView.{item_of}
use Rattle.verse_tree.specs.PostOrder.{What, expression, parameter, items_order}
use Rattle.verse_tree.specs.PostOrder as plain
use Rattle.verse_rules_walk.specs.Nodes.{alone}
use Rattle.verse_rules_walk.specs.Order.{AreNumbered, InPostOrder}
use Rattle.verse_rules.specs.Breaking.{NamesBreak}
use Rattle.verse_rules.specs.Sound.{BodiesBreak, IsSound}
use Rattle.verse_accept.specs.Fronts.{Accepts, all_items}
use Rattle.verse_meaning.specs.Programs.{program_of, is_array_type, is_event_type, of_type}
use Rattle.verse_sound_rules.specs.Programs.{FineFound, FineProgram}
use Rattle.verse_sound_runs.specs.Laws.{TurnsGoRight, NeverStuck}
use Rattle.std.specs.Prelude.{slice_get}
use Rattle.lower_bounds.proofs.Lists.{Each as All}
use Rattle.verse_accept_nodes.specs.Laws.{NodeNames, WhatNames, ShapeNames, AcceptedShaped}
use Rattle.verse_accept_nodes.proofs.Accepted.{each_named}
use Rattle.verse_accept_scopes.specs.Lists.{Each}
use Rattle.verse_accept_scopes.specs.Sites.{Site, node_of, program_sites}
use Rattle.verse_accept_scopes.proofs.Whole.{walked_are_sites}
use Rattle.verse_accept_fine.specs.Sorted.{sorted, program}
use Rattle.verse_accept_trees.specs.Names.{ShapeNamed, WhatNamed, Named}
use Rattle.verse_accept_trees.specs.Laws.{Told}
use Rattle.verse_accept_sound.specs.Programs.{ProgramsAreFine}
use Rattle.verse_accept_sound.specs.Laws.{ItemsAreFine, ItemsGoRight, ItemsAreNeverStuck, AcceptedIsFine, AcceptedIsNeverStuck}
use Rattle.verse_accept_sound.proofs.Told.{tables_tell}

-- ---- names

shape_named : (n : ℕ) (s : Shape) → ShapeNames n s → ShapeNamed n s
shape_named n (t.Shape.definition x e) h = h
shape_named n (t.Shape.typed x w e) h = h
shape_named n (t.Shape.variable x w e) h = h
shape_named n (t.Shape.elements x e) h = h
shape_named n (t.Shape.entries k x e) h = h
shape_named n (t.Shape.range x e f) h = h
shape_named n s h = tt

what_named : (n : ℕ) (x : What) → WhatNames n x → WhatNamed n x
what_named n (expression s) h = shape_named n s h
what_named n (parameter q) h = h
what_named n _ h = tt

abbrev plain_of : Site → plain.Node
plain_of v = alone (node_of v)

each_site : (vs : List Site) → All NodeNames (map alone (map node_of vs)) → Each Named vs
each_site [] h = tt
each_site (v ∷ vs) h = (what_named v.number v.what h.0, each_site vs h.1)

-- ---- a program

module _ (order : InPostOrder) (shapes : AcceptedShaped) (programs : ProgramsAreFine) (files : List (List ℕ)) (is : List ItemTree)
    (a : Accepts files is) where
  same : is ≡ a.0
  same = let tested = a.2 in tested.2.0 ∙ (tested.1.2.0 ∙ tested.1.1.0)

  pub numbered : AreNumbered is
  numbered = (all_items a.1.0, same ∙ a.1.2)

  pub sound : IsSound is
  sound =
      let tested = a.2 in
      record {
        named = subst (λ js. (n c : ℕ) → NamesBreak js n c → ⊥) (sym same) tested.1.1.1;
        typed = subst (λ js. (n c : ℕ) → BodiesBreak js n c → ⊥) (sym (same ∙ sym tested.1.1.0)) tested.1.2.1;
      }

  named : Each Named (program_sites is)
  named =
      let shaped = shapes files is a in
      each_site (program_sites is)
      (subst (λ vs. All NodeNames vs) (sym (ap (map alone) (walked_are_sites is shaped) ∙ order is)) (each_named files is a))

  -- what the checker has found of it
  pub items_found : (arrays events : ℕ → Bool) → Told is arrays events → FineFound (program is arrays events) (sorted is)
  items_found arrays events told = programs is arrays events told (shapes files is a) numbered sound named

  pub items_fine : (arrays events : ℕ → Bool) → Told is arrays events → FineProgram (program is arrays events)
  items_fine arrays events told = record { found = sorted is; fine = items_found arrays events told }

module _ (order : InPostOrder) (shapes : AcceptedShaped) (programs : ProgramsAreFine) where
  pub accepted_items : ItemsAreFine
  accepted_items files is a arrays events told = items_fine order shapes programs files is a arrays events told

  pub right_items : TurnsGoRight → ItemsGoRight
  right_items turns files is a arrays events told =
      turns (program is arrays events) (items_fine order shapes programs files is a arrays events told)

  pub free_items : NeverStuck → ItemsAreNeverStuck
  free_items runs files is a arrays events told =
      runs (program is arrays events) (items_fine order shapes programs files is a arrays events told)

  pub accepted_fine : AcceptedIsFine
  accepted_fine files made a told =
      let is = map item_of made.tree.items in
      let arrays : ℕ → Bool = λ n. of_type is_array_type (slice_get made.typed.types n) in
      let events : ℕ → Bool = λ n. of_type is_event_type (slice_get made.typed.types n) in
      subst (λ k. FineProgram (record { items = is; names = k; is_array = arrays; is_event = events })) (sym told.names)
      (items_fine order shapes programs files is a arrays events (tables_tell is made.typed.types told.types))

  pub accepted_free : NeverStuck → AcceptedIsNeverStuck
  accepted_free runs files made a told = runs (program_of made) (accepted_fine files made a told)
