-- One state for each operation of operands, of indices, of texts with holes, of pairs, of what is given, and of what `set`
-- writes to.
use Rattle.std.proofs.Common.{ℕ, suc, ◌∷◌, Bool}
use Rattle.verse_tree.specs.Tree.{Tree, tree, Shape, Trees, no_trees, more_trees, Holes, no_holes, more_holes, Givens}
use Rattle.verse_tree.specs.Tree.{no_givens, more_givens}
use Rattle.verse_tree.specs.Tree as t
use Rattle.verse_sorts.specs.Sorts.{Sort}
use Rattle.verse_meaning.specs.Programs.{Program}
use Rattle.verse_meaning.specs.Residuals.{Base}
use Rattle.verse_sound_rules.specs.Found.{Found}
use Rattle.lower_code.specs.declared.arounds.Around.{Around}
use Rattle.lower_code.specs.Scopes.{Scope, hidden}
use Rattle.lower_code.specs.Arounds.{up, raised, enclosed}
use Rattle.lower_code.specs.Lowering.{is_text, one_if, target_operands, inner, inner_shape, args, holed, paired_args, given_args}
use Rattle.lower_code.specs.Lowering.{quotient, quotient_shape, target_piece, target_shape}
use Rattle.lower_notes.specs.Noting as n
use Rattle.lower_notes.specs.Laws.{Beside}
use Rattle.lower_notes.proofs.Counted.{both, none, away, sticks, wider}
use Rattle.lower_notes.proofs.Others.{texts, bases}
use Rattle.lower_notes.proofs.Forms.{trees}

module _ (p : Program) (found : Found) (differ : ℕ → ℕ → Bool) where
  pub args_beside : (ts : Trees) (sc : Scope) (a : Around) → Beside (args p differ ts sc a) (n.args p found differ ts sc a)
  args_beside no_trees sc a = none
  args_beside (more_trees b ts) sc a = both (trees p found differ b sc a) (args_beside ts sc (up a))

  pub indices_beside : (q : Sort) (ts : Trees) (sc : Scope) (a : Around) →
      Beside (args p differ ts sc a) (n.indices p found differ q ts sc a)
  indices_beside q no_trees sc a = none
  indices_beside q (more_trees b ts) sc a = both (wider _ (trees p found differ b sc a)) (indices_beside q ts sc (up a))

  pub holes_beside : (hs : Holes) (sc : Scope) (a : Around) → Beside (holed p differ hs sc a) (n.holed p found differ hs sc a)
  holes_beside no_holes sc a = none
  holes_beside (more_holes b bs hs) sc a = both (trees p found differ b sc a)
      (both (texts bs) (holes_beside hs sc (raised (suc (one_if (is_text bs) 0)) a)))

  pub pairs_beside : (k : Sort) (ps : t.Pairs) (sc : Scope) (a : Around) →
      Beside (paired_args p differ ps sc a) (n.paired_args p found differ k ps sc a)
  pairs_beside k t.Pairs.no_pairs sc a = none
  pairs_beside k (t.Pairs.more_pairs b d ps) sc a = both (wider k (trees p found differ b sc a))
      (both (trees p found differ d sc (up a)) (pairs_beside k ps sc (up (up a))))

  pub givens_beside : (gs : Givens) (sc : Scope) (a : Around) → Beside (given_args p differ gs sc a) (n.given_args p found differ gs sc a)
  givens_beside no_givens sc a = none
  givens_beside (more_givens x b gs) sc a = both (trees p found differ b sc a) (both away (givens_beside gs (hidden ∷ sc) a))

  -- the part of a definition, the object of a member, and the domain of a generator
  pub inner_beside : (b : Tree) (sc : Scope) (a : Around) → Beside (inner p differ b sc a) (n.inner p found differ b sc a)
  inner_beside (tree i pl x) sc a = by_shape x
    where
      by_shape : (x : Shape) → Beside (inner_shape p differ x sc a) (n.inner_shape p found differ x sc a)
      by_shape (t.Shape.definition x b) = trees p found differ b sc a
      by_shape (t.Shape.typed x w b) = trees p found differ b sc a
      by_shape (t.Shape.variable x w b) = trees p found differ b sc a
      by_shape (t.Shape.defer b) = trees p found differ b sc (enclosed a)
      by_shape (t.Shape.member b x) = trees p found differ b sc a
      by_shape (t.Shape.elements x b) = trees p found differ b sc a
      by_shape (t.Shape.entries x y b) = trees p found differ b sc a
      by_shape (t.Shape.range x b d) = both (trees p found differ b sc a) (trees p found differ d sc (up a))
      by_shape x = sticks

  pub quotient_beside : (ts : Trees) (sc : Scope) (a : Around) → Beside (quotient p differ ts sc a) (n.quotient p found differ ts sc a)
  quotient_beside no_trees sc a = sticks
  quotient_beside (more_trees (tree i pl x) ts) sc a = by_shape x
    where
      by_shape : (x : Shape) → Beside (quotient_shape p differ x sc a) (n.quotient_shape p found differ x sc a)
      by_shape (t.Shape.chained x b d) = both (trees p found differ b sc a) (trees p found differ d sc (up a))
      by_shape x = sticks

  -- what `set` writes to
  mutual
    pub target_beside : (b : Tree) (base : Base) (sc : Scope) (a : Around) →
        Beside (target_piece p differ b base sc a) (n.target_walk p found differ b base sc a)
    target_beside (tree i pl x) base sc a = target_shape_beside x base sc a

    target_shape_beside : (x : Shape) (base : Base) (sc : Scope) (a : Around) →
        Beside (target_shape p differ x base sc a) (n.target_shape p found differ x base sc a)
    target_shape_beside (t.Shape.name x) base sc a = bases p found differ base sc
    target_shape_beside (t.Shape.member b x) base sc a = trees p found differ b sc a
    target_shape_beside (t.Shape.index b ts) base sc a =
        both (target_beside b base sc a) (indices_beside _ ts sc (up (raised (target_operands b) a)))
    target_shape_beside x base sc a = sticks
