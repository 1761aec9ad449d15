-- What shapes are as callees, as dividends and as calls that are spawned.
use Rattle.std.proofs.Common.{◌≡◌, ℕ, refl}
use Rattle.verse_base.specs.declared.places.Place.{Place}
use Rattle.verse_tree.specs.Tree.{Tree, tree, Trees, no_trees, more_trees, Shape}
use Rattle.verse_tree.specs.Tree as t
use Rattle.verse_tree.specs.declared.programs.Program.{Program}
use Rattle.verse_meaning.specs.Programs.{program_of, ref_at}
use Rattle.verse_meaning.specs.Residuals.{Form}
use Rattle.verse_meaning.specs.Evaluating.{callee_of, callee_of_shape, of_object, of_value}
use Rattle.lower_code.specs.Scopes.{Scope}
use Rattle.lower_code.specs.declared.arounds.Around.{Around}
use Rattle.lower_lookup.specs.Types.{differ_of}
use Rattle.lower_calls.specs.Views.{place_of, object_of, object_in, chained_in, called_of, called_in}
use Rattle.lower_calls.specs.Calls.{divided_in}
use Rattle.lower_calls.proofs.Seen.{no_name}
use Rattle.lower_notes.specs.Noting.{inner, inner_shape, quotient, quotient_shape, spawned, spawned_shape}
use Rattle.note_sorts.specs.Tabled.{found_of}
use Rattle.note_calls.specs.Calls.{object_walk, divided_walk, spawned_walk}

module _ (p : Program) (n : ℕ) (pl : Place) (sc : Scope) (a : Around) (whole f : Form) where
  abbrev Divides : Shape → Type 0
  Divides s = quotient_shape (program_of p) (found_of p) (differ_of p) s sc a ≡ divided_walk p (chained_in s) sc a

  abbrev Spawns : Shape → Type 0
  Spawns s = spawned_shape (program_of p) (found_of p) (differ_of p) s pl sc a ≡ spawned_walk p (called_in s) pl sc a

  abbrev Owns : Shape → Type 0
  Owns s = callee_of_shape (program_of p) n s whole pl ≡ of_object f →
      inner_shape (program_of p) (found_of p) (differ_of p) s sc a ≡ object_walk p (object_in s) sc a

  abbrev Seen : Shape → Type 0
  Seen s = Divides s × Spawns s × Owns s

  by_value : {A : Type 0} → of_value whole ≡ of_object f → A
  by_value e = absurd (cc (e))

  seen : (s : Shape) → Seen s
  seen (t.Shape.block ts) = (refl, refl, by_value)
  seen (t.Shape.defer a) = (refl, refl, by_value)
  seen (t.Shape.definition x a) = (refl, refl, by_value)
  seen (t.Shape.typed x w a) = (refl, refl, by_value)
  seen (t.Shape.variable x w a) = (refl, refl, by_value)
  seen (t.Shape.assignment x a b) = (refl, refl, by_value)
  seen (t.Shape.returned a) = (refl, refl, by_value)
  seen t.Shape.returned_unit = (refl, refl, by_value)
  seen t.Shape.break_form = (refl, refl, by_value)
  seen (t.Shape.if_else ts a b) = (refl, refl, by_value)
  seen (t.Shape.if_alone ts a) = (refl, refl, by_value)
  seen (t.Shape.chained x a b) = (refl, refl, by_value)
  seen (t.Shape.compared x a b) = (refl, refl, by_value)
  seen (t.Shape.negation a) = (refl, refl, by_value)
  seen (t.Shape.minus a) = (refl, refl, by_value)
  seen (t.Shape.call a ts) = (refl, refl, by_value)
  seen (t.Shape.index a ts) = (refl, refl, by_value)
  seen (t.Shape.member a x) = (refl, refl, λ e. refl)
  seen (t.Shape.query a) = (refl, refl, by_value)
  seen (t.Shape.integer x) = (refl, refl, by_value)
  seen (t.Shape.character x) = (refl, refl, by_value)
  seen (t.Shape.text x) = (refl, refl, by_value)
  seen (t.Shape.holes x hs) = (refl, refl, by_value)
  seen t.Shape.truth = (refl, refl, by_value)
  seen t.Shape.falsehood = (refl, refl, by_value)
  seen t.Shape.this = (refl, refl, by_value)
  seen (t.Shape.name x) = (refl, refl, no_name p n pl sc a whole f (ref_at (program_of p) n))
  seen (t.Shape.tuple ts) = (refl, refl, by_value)
  seen (t.Shape.array ts) = (refl, refl, by_value)
  seen (t.Shape.option ts) = (refl, refl, by_value)
  seen (t.Shape.logic ts) = (refl, refl, by_value)
  seen (t.Shape.mapping ps) = (refl, refl, by_value)
  seen (t.Shape.instance x gs) = (refl, refl, by_value)
  seen (t.Shape.event w) = (refl, refl, by_value)
  seen t.Shape.bare_event = (refl, refl, by_value)
  seen (t.Shape.for_form ts a) = (refl, refl, by_value)
  seen (t.Shape.loop_form a) = (refl, refl, by_value)
  seen (t.Shape.block_form a) = (refl, refl, by_value)
  seen (t.Shape.branch a) = (refl, refl, by_value)
  seen (t.Shape.sync ts) = (refl, refl, by_value)
  seen (t.Shape.race ts) = (refl, refl, by_value)
  seen (t.Shape.rush ts) = (refl, refl, by_value)
  seen (t.Shape.cases a ts) = (refl, refl, by_value)
  seen (t.Shape.spawn a) = (refl, refl, by_value)
  seen (t.Shape.sleep x) = (refl, refl, by_value)
  seen t.Shape.sleep_forever = (refl, refl, by_value)
  seen (t.Shape.elements x a) = (refl, refl, by_value)
  seen (t.Shape.entries x y a) = (refl, refl, by_value)
  seen (t.Shape.range x a b) = (refl, refl, by_value)
  seen (t.Shape.arm a b) = (refl, refl, by_value)
  seen (t.Shape.integer_pattern x) = (refl, refl, by_value)
  seen (t.Shape.minus_pattern x) = (refl, refl, by_value)
  seen (t.Shape.character_pattern x) = (refl, refl, by_value)
  seen (t.Shape.text_pattern x) = (refl, refl, by_value)
  seen t.Shape.truth_pattern = (refl, refl, by_value)
  seen t.Shape.falsehood_pattern = (refl, refl, by_value)
  seen t.Shape.any_pattern = (refl, refl, by_value)
  seen (t.Shape.enum_pattern x y) = (refl, refl, by_value)

module _ (p : Program) (sc : Scope) (a : Around) where
  -- only a member has an object
  pub object_is : (b : Tree) (whole f : Form) (pl : Place) → callee_of (program_of p) b whole pl ≡ of_object f →
      inner (program_of p) (found_of p) (differ_of p) b sc a ≡ object_walk p (object_of b) sc a
  object_is (tree n q s) whole f pl e = (seen p n pl sc a whole f s).2 e

  pub divided_is : (ts : Trees) (f : Form) (pl : Place) →
      quotient (program_of p) (found_of p) (differ_of p) ts sc a ≡ divided_walk p (divided_in ts) sc a
  divided_is no_trees f pl = refl
  divided_is (more_trees (tree n q s) ts) f pl = (seen p n pl sc a f f s).0

  pub spawned_is : (b : Tree) (f : Form) →
      spawned (program_of p) (found_of p) (differ_of p) b sc a ≡ spawned_walk p (called_of b) (place_of b) sc a
  spawned_is (tree n q s) f = (seen p n q sc a f f s).1
