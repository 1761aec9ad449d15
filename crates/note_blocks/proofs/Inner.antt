-- What stands in a statement, by its shape.
use Rattle.std.proofs.Common.{◌≡◌, ℕ, Option, Some, None, refl, sym, ap, ◌∙◌}
use Rattle.verse_tree.specs.Tree.{Tree, Trees, Shape, tree}
use Rattle.verse_tree.specs.Tree as t
use Rattle.verse_tree.specs.View.{return_shape, if_shape, event_shape, sleep_shape}
use Rattle.verse_tree.specs.declared.types.TyExpr.{TyExpr}
use Rattle.verse_tree.specs.declared.programs.Program.{Program}
use Rattle.verse_meaning.specs.Programs.{program_of}
use Rattle.lower_code.specs.Scopes.{Scope}
use Rattle.lower_code.specs.Arounds.{up}
use Rattle.lower_code.specs.declared.arounds.Around.{Around}
use Rattle.lower_lookup.specs.Types.{differ_of}
use Rattle.lower_notes.specs.Noting.{inner_shape}
use Rattle.note_sorts.specs.Tabled.{found_of}
use Rattle.note_stretches.specs.Noted.{Noted, walked}
use Rattle.note_stretches.proofs.Laws.{walked_then}
use Rattle.note_parts.specs.Parts.{tree_walk}
use Rattle.note_blocks.specs.Walks.{inside_walk, inner_walk}
use Rattle.note_blocks.specs.Insides.{Inside, inside, inside_shape, nothing_inside, both_ends}

pub nothing_returned : (o : Option Tree) → inside_shape (return_shape o) ≡ nothing_inside
nothing_returned None = refl
nothing_returned (Some e) = refl

pub nothing_chosen : (cs : Trees) (e : Tree) (o : Option Tree) → inside_shape (if_shape cs e o) ≡ nothing_inside
nothing_chosen cs e None = refl
nothing_chosen cs e (Some f) = refl

pub nothing_slept : (o : Option ℕ) → inside_shape (sleep_shape o) ≡ nothing_inside
nothing_slept None = refl
nothing_slept (Some d) = refl

pub nothing_awaited : (o : Option TyExpr) → inside_shape (event_shape o) ≡ nothing_inside
nothing_awaited None = refl
nothing_awaited (Some w) = refl

module _ (p : Program) (sc : Scope) (a : Around) where
  shape_inside : (s : Shape) →
      inner_shape (program_of p) (found_of p) (differ_of p) s sc a ≡ inside_walk p (inside_shape s) sc a
  shape_inside (t.Shape.block x) = refl
  shape_inside (t.Shape.defer x) = refl
  shape_inside (t.Shape.definition x y) = refl
  shape_inside (t.Shape.typed x y z) = refl
  shape_inside (t.Shape.variable x y z) = refl
  shape_inside (t.Shape.assignment x y z) = refl
  shape_inside (t.Shape.returned x) = refl
  shape_inside t.Shape.returned_unit = refl
  shape_inside t.Shape.break_form = refl
  shape_inside (t.Shape.if_else x y z) = refl
  shape_inside (t.Shape.if_alone x y) = refl
  shape_inside (t.Shape.chained x y z) = refl
  shape_inside (t.Shape.compared x y z) = refl
  shape_inside (t.Shape.negation x) = refl
  shape_inside (t.Shape.minus x) = refl
  shape_inside (t.Shape.call x y) = refl
  shape_inside (t.Shape.index x y) = refl
  shape_inside (t.Shape.member x y) = refl
  shape_inside (t.Shape.query x) = refl
  shape_inside (t.Shape.integer x) = refl
  shape_inside (t.Shape.character x) = refl
  shape_inside (t.Shape.text x) = refl
  shape_inside (t.Shape.holes x y) = refl
  shape_inside t.Shape.truth = refl
  shape_inside t.Shape.falsehood = refl
  shape_inside t.Shape.this = refl
  shape_inside (t.Shape.name x) = refl
  shape_inside (t.Shape.tuple x) = refl
  shape_inside (t.Shape.array x) = refl
  shape_inside (t.Shape.option x) = refl
  shape_inside (t.Shape.logic x) = refl
  shape_inside (t.Shape.mapping x) = refl
  shape_inside (t.Shape.instance x y) = refl
  shape_inside (t.Shape.event x) = refl
  shape_inside t.Shape.bare_event = refl
  shape_inside (t.Shape.for_form x y) = refl
  shape_inside (t.Shape.loop_form x) = refl
  shape_inside (t.Shape.block_form x) = refl
  shape_inside (t.Shape.branch x) = refl
  shape_inside (t.Shape.sync x) = refl
  shape_inside (t.Shape.race x) = refl
  shape_inside (t.Shape.rush x) = refl
  shape_inside (t.Shape.cases x y) = refl
  shape_inside (t.Shape.spawn x) = refl
  shape_inside (t.Shape.sleep x) = refl
  shape_inside t.Shape.sleep_forever = refl
  shape_inside (t.Shape.elements x y) = refl
  shape_inside (t.Shape.entries x y z) = refl
  shape_inside (t.Shape.range x y z) = refl
  shape_inside (t.Shape.arm x y) = refl
  shape_inside (t.Shape.integer_pattern x) = refl
  shape_inside (t.Shape.minus_pattern x) = refl
  shape_inside (t.Shape.character_pattern x) = refl
  shape_inside (t.Shape.text_pattern x) = refl
  shape_inside t.Shape.truth_pattern = refl
  shape_inside t.Shape.falsehood_pattern = refl
  shape_inside t.Shape.any_pattern = refl
  shape_inside (t.Shape.enum_pattern x y) = refl

  pub inner_is : (e : Tree) → inner_walk p e sc a ≡ inside_walk p (inside e) sc a
  inner_is (tree n pl s) = shape_inside s

  -- what is noted as it stands in a statement
  pub inner_by : (e : Tree) (i : Inside) (b c : Noted) → inside e ≡ i → c ≡ walked (inside_walk p i sc a) b →
      c ≡ walked (inner_walk p e sc a) b
  inner_by e i b c h is = is ∙ ap (λ k. walked (inside_walk p k sc a) b) (sym h) ∙ ap (λ f. walked f b) (sym (inner_is e))

  pub ends_by : (e l r left right : Tree) (here : Scope) (above : Around) (b c d : Noted) →
      inside e ≡ both_ends l r → left ≡ l →
      right ≡ r → here ≡ sc →
      above ≡ up a → c ≡ walked (tree_walk p left sc a) b → d ≡ walked (tree_walk p right here above) c →
      d ≡ walked (inner_walk p e sc a) b
  ends_by e l r left right here above b c d h x y s u f g =
      inner_by e (both_ends l r) b d h
      (g ∙ ap (λ k. walked (tree_walk p right here k) c) u ∙ ap (λ k. walked (tree_walk p right k (up a)) c) s
      ∙ ap (λ k. walked (tree_walk p k sc (up a)) c) y
      ∙ ap (walked (tree_walk p r sc (up a))) (f ∙ ap (λ k. walked (tree_walk p k sc a) b) x)
      ∙ sym (walked_then (tree_walk p l sc a) (tree_walk p r sc (up a)) b))
